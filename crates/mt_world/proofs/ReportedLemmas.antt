-- What the answers say of a transaction that is open or commits is what the state has of it.
use Rattle.std.proofs.Common.{◌≡◌, ◌≢◌, ◌<◌, ◌≤◌, ◌==◌, ℕ, Bool, true, false, not, cond, zero, suc, List, [], ◌∷◌, ◌++◌, drop, map, take, Option, Some, None, is_some, ⊎_elim, refl, ap, ap₂, sym, subst, ◌∙◌, append_assoc, append-nil, arith}
use Rattle.std.specs.Prelude.{All, AllPairs, ◌||◌, ◌&&◌, filter, ⊤}
use Rattle.std.specs.List.{list_any}
use Rattle.std.proofs.lemmas.Bool.{cases_eq, cases_lt, eqb-true, ne_eqb, and_parts}
use Rattle.std.proofs.lemmas.List.{map-append}
use Rattle.std.proofs.lemmas.List.Elements.{All-head, All-tail, filter-append}
use Rattle.mt_core.proofs.Lists.{pairs_head, pairs_tail}
use Rattle.mt_core.specs.Booked.{booked_each, or_zero, session_at, txns_of}
use Rattle.mt_core.specs.declared.parts.Commit.{Commit}
use Rattle.mt_live.proofs.AddLemmas.{eq_flip, eq_self}
use Rattle.mt_live.proofs.Alone.{put_other, put_own}
use Rattle.mt_live.proofs.Cutting.{each_append}
use Rattle.mt_live.proofs.Shapes.{each_map}
use Rattle.mt_live.specs.Entries.{Entry, calls, is_standing, kept}
use Rattle.mt_live.specs.Laws.{in_turn}
use Rattle.mt_live.specs.Machine.{State, IsKept, begun, booked, called, dropped, ended, gone, is_live, put, returned, settled, undone}
use Rattle.mt_live.specs.Sound.{Each}
use Rattle.mt_live.specs.Undoing.{after_first, cut_back, is_counted, is_effect, last_effect, mark_last, only, others}
use Rattle.mt_live.specs.declared.transactions.Role.TheVariants.{Back, Stands}
use Rattle.mt_live.specs.declared.transactions.TxnState.{TxnState}
use Rattle.mt_live.specs.declared.transactions.TxnState.TheVariants.{Open, Committing, Aborting, Returning}
use Rattle.mt_model.specs.Backwards.{calls_back, inverse_reply}
use Rattle.mt_model.specs.History.{Call}
use Rattle.mt_model.specs.Model.{Base, inverse_of, reply_of}
use Rattle.mt_model.specs.declared.history.Committed.{Committed}
use Rattle.mt_model.specs.declared.operations.Op.{Op}
use Rattle.mt_model.specs.declared.operations.Reply.{Reply}
use Rattle.mt_model.specs.declared.pending_add.Pending.{Pending}
use Rattle.mt_world.proofs.ReturnLemmas.{counting_append, counting_calls, counting_kept, counting_next, counting_settled, inverse_replies, nothing_left, others_next, others_settled, own_calls_next, own_calls_settled}
use Rattle.mt_world.specs.Reported.{Reported, begun_by, commit_of, gone_back, replied, with_reply}

-- ---- of one transaction

-- what is known of one: all if it is open or commits; if it goes back to its first so many, what it will have done then
abbrev pub known_as : Option TxnState → Option (Option ℕ)
known_as None = None
known_as (Some Open) = Some None
known_as (Some Committing) = Some None
known_as (Some Aborting) = None
known_as (Some (Returning n)) = Some (Some n)

pub record IsReported (s : State) (t : ℕ) (outcome : Reported) : Type 0 where
  pub session : s.sessions t ≡ Some outcome.session
  pub started : s.running t ≡ outcome.started
  pub calls : calls (kept (only t) s.standing) ≡ outcome.calls
  pub counting : counting_calls t s.standing ≡ outcome.counting

-- what it has done, with the inverses that are still to come
pub record IsReturning (s : State) (t n : ℕ) (outcome : Reported) : Type 0 where
  pub session : s.sessions t ≡ Some outcome.session
  pub started : s.running t ≡ outcome.started
  pub first : outcome.first ≡ n
  pub calls : calls (kept (only t) s.standing) ++ calls_back (drop n (counting_calls t s.standing)) ≡ outcome.calls ++ calls_back (drop n outcome.counting)
  pub counting : take n (counting_calls t s.standing) ≡ take n outcome.counting

abbrev pub IsKnown : State → ℕ → Option ℕ → Reported → Type 0
IsKnown s t None outcome = IsReported s t outcome
IsKnown s t (Some n) outcome = IsReturning s t n outcome

-- where another state has as much of it
same_counting : (t : ℕ) (es fs : List Entry) → kept (only t) fs ≡ kept (only t) es → counting_calls t fs ≡ counting_calls t es
same_counting t es fs same =
    ap calls (counting_kept t fs) ∙ ap (λ (l : List Entry). calls (filter (λ (e : Entry). is_standing e.role) l)) same ∙ sym (ap calls (counting_kept t es))

still_reported : (s z : State) (t : ℕ) (outcome : Reported) → z.sessions t ≡ s.sessions t → z.running t ≡ s.running t → kept (only t) z.standing ≡ kept (only t) s.standing → IsReported s t outcome → IsReported z t outcome
still_reported s z t outcome sessions running standing is = record {
  session = sessions ∙ is.session;
  started = running ∙ is.started;
  calls = ap calls standing ∙ is.calls;
  counting = same_counting t s.standing z.standing standing ∙ is.counting;
}

still_known : (s z : State) (t : ℕ) (x : Option ℕ) (outcome : Reported) → z.sessions t ≡ s.sessions t → z.running t ≡ s.running t → kept (only t) z.standing ≡ kept (only t) s.standing → IsKnown s t x outcome → IsKnown z t x outcome
still_known s z t None outcome sessions running standing is = still_reported s z t outcome sessions running standing is
still_known s z t (Some n) outcome sessions running standing is = let same = same_counting t s.standing z.standing standing in record {
  session = sessions ∙ is.session;
  started = running ∙ is.started;
  first = is.first;
  calls = ap₂ (λ (xs ys : List Call). xs ++ calls_back (drop n ys)) (ap calls standing) same ∙ is.calls;
  counting = ap (take n) same ∙ is.counting;
}

-- ---- entries of others come and go

kept_apart : (u t : ℕ) (es : List Entry) → u ≢ t → kept (only u) (kept (others t) es) ≡ kept (only u) es
kept_apart u t [] apart = refl
kept_apart u t (e ∷ es) apart = go (kept_apart u t es apart) (e.txn == t) refl
  where
    go : kept (only u) (kept (others t) es) ≡ kept (only u) es → (c : Bool) → (e.txn == t) ≡ c → kept (only u) (cond (not c) (e ∷ kept (others t) es) (kept (others t) es)) ≡ cond (e.txn == u) (e ∷ kept (only u) es) (kept (only u) es)
    go rest true is = rest ∙ sym (ap (λ (c : Bool). cond c (e ∷ kept (only u) es) (kept (only u) es)) (ne_eqb e.txn u (λ own. apart (sym own ∙ eqb-true e.txn t is))))
    go rest false is = ap (λ (es' : List Entry). cond (e.txn == u) (e ∷ es') es') rest

kept_cut : (u t : ℕ) (es : List Entry) → u ≢ t → kept (only u) (cut_back t es) ≡ kept (only u) es
kept_cut u t [] apart = refl
kept_cut u t (e ∷ es) apart = go (kept_cut u t es apart) (is_some (last_effect t es)) (is_effect t e) refl
  where
    go : kept (only u) (cut_back t es) ≡ kept (only u) es → (a b : Bool) → is_effect t e ≡ b
        → kept (only u) (cond a (e ∷ cut_back t es) (cond b (kept (others t) es) (e ∷ es))) ≡ cond (e.txn == u) (e ∷ kept (only u) es) (kept (only u) es)
    go rest true b is = ap (λ (es' : List Entry). cond (e.txn == u) (e ∷ es') es') rest
    go rest false true is =
        let counted : is_counted t e ≡ true = (and_parts (is_counted t e) (is_some (inverse_of e.op e.reply)) is).0 in
        let own : e.txn ≡ t = eqb-true e.txn t (and_parts (e.txn == t) (is_standing e.role) counted).0 in
        kept_apart u t es apart ∙ sym (ap (λ (c : Bool). cond c (e ∷ kept (only u) es) (kept (only u) es)) (ne_eqb e.txn u (λ its. apart (sym its ∙ own))))
    go rest false false is = refl

-- none are of a transaction that does not live
kept_none : (s : State) (t : ℕ) (es : List Entry) → (is_live s t ≡ true → ⊥) → Each (λ (e : Entry). is_live s e.txn ≡ true) es → kept (only t) es ≡ []
kept_none s t [] dead each = refl
kept_none s t (e ∷ es) dead each =
    ap (λ (c : Bool). cond c (e ∷ kept (only t) es) (kept (only t) es)) (ne_eqb e.txn t (λ own. dead (subst (λ (u : ℕ). is_live s u ≡ true) own each.0)))
    ∙ kept_none s t es dead each.1

runs_nothing : (b : Base) (s : State) (t : ℕ) → IsKept b s → (is_live s t ≡ true → ⊥) → s.running t ≡ None
runs_nothing b s t k dead = go (s.running t) refl
  where
    go : (o : Option Op) → s.running t ≡ o → s.running t ≡ None
    go None is = is
    go (Some op) is = absurd (dead (k.owned.running t op is))

-- ---- of all of them

-- what the answers say of those that are open, commit or go back is so, and of the others those that were acknowledged are in the book
pub record AreReported (s : State) (phase : ℕ → Option TxnState) (outcome : ℕ → Reported) (names : List ℕ) : Type 0 where
  pub each : (t : ℕ) (x : Option ℕ) → known_as (phase t) ≡ Some x → IsKnown s t x (outcome t)
  pub book : s.book ≡ map (λ t. commit_of (outcome t)) names
  pub past : Each (λ t. (s.sessions t ≡ None) × (t < s.next)) names

map_each : (f g : ℕ → Committed) (ts : List ℕ) → Each (λ t. g t ≡ f t) ts → map f ts ≡ map g ts
map_each f g [] each = refl
map_each f g (t ∷ ts) each = ap₂ (λ (c : Committed) (cs : List Committed). c ∷ cs) (sym each.0) (map_each f g ts each.1)

each_two : (P Q R : ℕ → Type 0) → ((t : ℕ) → P t → Q t → R t) → (ts : List ℕ) → Each P ts → Each Q ts → Each R ts
each_two P Q R f [] ps qs = tt
each_two P Q R f (t ∷ ts) ps qs = (f t ps.0 qs.0, each_two P Q R f ts ps.1 qs.1)

-- no more is known of any than was
abbrev pub NoMore : (ℕ → Option TxnState) → (ℕ → Option TxnState) → Type 0
NoMore phase next = (t : ℕ) (x : Option ℕ) → known_as (next t) ≡ Some x → known_as (phase t) ≡ Some x

-- where those that commit do so still or live no more, and only they have another state
pub no_more_forced : (o p : Option TxnState) → (o ≢ Some Committing → p ≡ o) → (o ≡ Some Committing → known_as p ≡ Some None) → (x : Option ℕ) → known_as p ≡ Some x → known_as o ≡ Some x
no_more_forced None p same still x known = ap known_as (sym (same (λ e. cc))) ∙ known
no_more_forced (Some Open) p same still x known = ap known_as (sym (same (λ e. cc))) ∙ known
no_more_forced (Some Committing) p same still x known = sym (still refl) ∙ known
no_more_forced (Some Aborting) p same still x known = ap known_as (sym (same (λ e. cc))) ∙ known
no_more_forced (Some (Returning n)) p same still x known = ap known_as (sym (same (λ e. cc))) ∙ known

-- nothing is reported
pub reported_still : (s : State) (phase next : ℕ → Option TxnState) (outcome : ℕ → Reported) (names : List ℕ) → NoMore phase next → AreReported s phase outcome names → AreReported s next outcome names
reported_still s phase next outcome names less are = record { each = λ t x is. are.each t x (less t x is); book = are.book; past = are.past }

-- ---- a begin

some_is : (x y : Option ℕ) → Some x ≡ Some y → x ≡ y
some_is x y is = let same : x ≡ y = cc in same

pub reported_begun : (b : Base) (s : State) (session : ℕ) (phase next : ℕ → Option TxnState) (outcome : ℕ → Reported) (names : List ℕ) → IsKept b s
    → ((t : ℕ) → next t ≡ put phase s.next (Some Open) t) → AreReported s phase outcome names → AreReported (begun s session) next (put outcome s.next (begun_by session)) names
reported_begun b s session phase next outcome names k is are = record {
  each = λ t x known. ⊎_elim (λ (same : t ≡ s.next). own t same x known) (λ (other : t ≢ s.next). rest t other x known) (cases_eq t s.next);
  book = are.book ∙ map_each (λ t. commit_of (outcome t)) (λ t. commit_of (put outcome s.next (begun_by session) t)) names
      (each_map (λ t. (s.sessions t ≡ None) × (t < s.next)) _ (λ t gone. ap commit_of (put_other outcome s.next (begun_by session) t (earlier t gone.1))) names are.past);
  past = each_map (λ t. (s.sessions t ≡ None) × (t < s.next)) _ (λ t gone. (put_other s.sessions s.next (Some session) t (earlier t gone.1) ∙ gone.0, (let lt = gone.1 in omega arith))) names are.past;
}
  where
    earlier : (t : ℕ) → t < s.next → t ≢ s.next
    earlier t lt same = omega arith

    dead : is_live s s.next ≡ true → ⊥
    dead = k.owned.fresh s.next (omega arith)

    nothing : kept (only s.next) s.standing ≡ []
    nothing = kept_none s s.next s.standing dead k.owned.standing

    first : IsReported (begun s session) s.next (begun_by session)
    first = record {
      session = put_own s.sessions s.next (Some session);
      started = runs_nothing b s s.next k dead;
      calls = ap calls nothing;
      counting = same_counting s.next [] s.standing nothing;
    }

    opened : (x : Option ℕ) → known_as (next s.next) ≡ Some x → None ≡ x
    opened x known = some_is None x (sym (ap known_as (is s.next ∙ put_own phase s.next (Some Open))) ∙ known)

    own : (t : ℕ) → t ≡ s.next → (x : Option ℕ) → known_as (next t) ≡ Some x → IsKnown (begun s session) t x (put outcome s.next (begun_by session) t)
    own t same x known =
        let here : None ≡ x = opened x (ap (λ (u : ℕ). known_as (next u)) (sym same) ∙ known) in
        subst (λ (u : ℕ). IsKnown (begun s session) u x (put outcome s.next (begun_by session) u)) (sym same)
        (subst (λ (y : Option ℕ). IsKnown (begun s session) s.next y (put outcome s.next (begun_by session) s.next)) here
        (subst (IsReported (begun s session) s.next) (sym (put_own outcome s.next (begun_by session))) first))

    rest : (t : ℕ) → t ≢ s.next → (x : Option ℕ) → known_as (next t) ≡ Some x → IsKnown (begun s session) t x (put outcome s.next (begun_by session) t)
    rest t other x known =
        let was : known_as (phase t) ≡ Some x = ap known_as (sym (is t ∙ put_other phase s.next (Some Open) t other)) ∙ known in
        subst (IsKnown (begun s session) t x) (sym (put_other outcome s.next (begun_by session) t other))
        (still_known s (begun s session) t x (outcome t) (put_other s.sessions s.next (Some session) t other) refl refl (are.each t x was))

-- ---- a call

abbrev with_start : Op → Reported → Reported
with_start op outcome = record outcome { started = Some op }

called_known : (s : State) (t : ℕ) (op : Op) (u : ℕ) (x : Option ℕ) (outcome : Reported) (c : Bool) → (u == t) ≡ c → IsKnown s u x outcome → IsKnown (called s t op) u x (cond c (with_start op outcome) outcome)
called_known s t op u None outcome true same is = record { session = is.session; started = ap (λ (c : Bool). cond c (Some op) (s.running u)) same; calls = is.calls; counting = is.counting }
called_known s t op u None outcome false other is = record { session = is.session; started = ap (λ (c : Bool). cond c (Some op) (s.running u)) other ∙ is.started; calls = is.calls; counting = is.counting }
called_known s t op u (Some n) outcome true same is =
    record { session = is.session; started = ap (λ (c : Bool). cond c (Some op) (s.running u)) same; first = is.first; calls = is.calls; counting = is.counting }
called_known s t op u (Some n) outcome false other is =
    record { session = is.session; started = ap (λ (c : Bool). cond c (Some op) (s.running u)) other ∙ is.started; first = is.first; calls = is.calls; counting = is.counting }

-- of those in the book nothing else is reported
same_book : (f g : ℕ → Reported) (names : List ℕ) (P : ℕ → Type 0) → ((u : ℕ) → P u → commit_of (g u) ≡ commit_of (f u)) → Each P names → map (λ t. commit_of (f t)) names ≡ map (λ t. commit_of (g t)) names
same_book f g names P alike each = map_each (λ u. commit_of (f u)) (λ u. commit_of (g u)) names (each_map P _ alike names each)

pub reported_called : (s : State) (t : ℕ) (op : Op) (phase next : ℕ → Option TxnState) (outcome : ℕ → Reported) (names : List ℕ) → ((u : ℕ) → next u ≡ phase u)
    → AreReported s phase outcome names → AreReported (called s t op) next (λ u. cond (u == t) (with_start op (outcome u)) (outcome u)) names
reported_called s t op phase next outcome names same are = record {
  each = λ u x known. called_known s t op u x (outcome u) (u == t) refl (are.each u x (ap known_as (sym (same u)) ∙ known));
  book = are.book ∙ same_book outcome (λ u. cond (u == t) (with_start op (outcome u)) (outcome u)) names _ (λ u gone. alike (outcome u) (u == t)) are.past;
  past = are.past;
}
  where
    alike : (x : Reported) (c : Bool) → commit_of (cond c (with_start op x) x) ≡ commit_of x
    alike x true = refl
    alike x false = refl

-- of one that does not live nothing is said
says_nothing : (f : Reported → Reported) (s : State) (t : ℕ) → is_live s t ≡ true → (u : ℕ) → s.sessions u ≡ None → (x : Reported) (c : Bool) → (u == t) ≡ c → commit_of (cond c (f x) x) ≡ commit_of x
says_nothing f s t lives u none x true own =
    let dead : is_live s t ≡ false = ap (λ (v : ℕ). is_live s v) (sym (eqb-true u t own)) ∙ ap (λ (o : Option ℕ). is_some o) none in
    let wrong : true ≡ false = sym lives ∙ dead in absurd cc
says_nothing f s t lives u none x false other = refl

-- ---- a reply

abbrev last_entry : State → ℕ → Op → Entry
last_entry s t op = record { txn = t; op = op; reply = reply_of s.base op; role = Stands }

one_entry : (u : ℕ) (e : Entry) (c : Bool) → (e.txn == u) ≡ c → calls (cond (e.txn == u) (e ∷ []) []) ≡ cond c ((e.op, e.reply) ∷ []) []
one_entry u e true own = ap (λ (c : Bool). calls (cond c (e ∷ []) [])) own
one_entry u e false other = ap (λ (c : Bool). calls (cond c (e ∷ []) [])) other

and_true : (c : Bool) → c && true ≡ c
and_true true = refl
and_true false = refl

ended_calls : (s : State) (t : ℕ) (op : Op) (u : ℕ) (c : Bool) → (u == t) ≡ c
    → calls (kept (only u) (ended s t op).standing) ≡ calls (kept (only u) s.standing) ++ cond c ((op, reply_of s.base op) ∷ []) []
ended_calls s t op u c is =
    ap calls (filter-append (λ (e : Entry). only u e.txn) s.standing (last_entry s t op ∷ []))
    ∙ map-append (λ (e : Entry). (e.op, e.reply)) (kept (only u) s.standing) (kept (only u) (last_entry s t op ∷ []))
    ∙ ap (λ (cs : List Call). calls (kept (only u) s.standing) ++ cs) (one_entry u (last_entry s t op) c (eq_flip t u (t == u) c refl is))

ended_counting : (s : State) (t : ℕ) (op : Op) (u : ℕ) (c : Bool) → (u == t) ≡ c
    → counting_calls u (ended s t op).standing ≡ counting_calls u s.standing ++ cond c ((op, reply_of s.base op) ∷ []) []
ended_counting s t op u c is =
    let last = last_entry s t op in
    counting_append u s.standing (last ∷ [])
    ∙ ap (λ (cs : List Call). counting_calls u s.standing ++ cs) (ap (λ (d : Bool). calls (cond d (last ∷ []) [])) (and_true (t == u)) ∙ one_entry u last c (eq_flip t u (t == u) c refl is))

ended_own : (s : State) (t : ℕ) (op : Op) (u : ℕ) (outcome : Reported) → (u == t) ≡ true → s.running t ≡ Some op → IsReported s u outcome → IsReported (ended s t op) u (with_reply outcome (reply_of s.base op))
ended_own s t op u outcome same runs is =
    let started : outcome.started ≡ Some op = sym is.started ∙ ap s.running (eqb-true u t same) ∙ runs in
    let reply : (op, reply_of s.base op) ∷ [] ≡ replied outcome.started (reply_of s.base op) = ap (λ (o : Option Op). replied o (reply_of s.base op)) (sym started) in
    record {
      session = is.session;
      started = ap (λ (c : Bool). cond c None (s.running u)) same;
      calls = ended_calls s t op u true same ∙ ap₂ (λ (cs ds : List Call). cs ++ ds) is.calls reply;
      counting = ended_counting s t op u true same ∙ ap₂ (λ (cs ds : List Call). cs ++ ds) is.counting reply;
    }

ended_known : (s : State) (t : ℕ) (op : Op) (u : ℕ) (x : Option ℕ) (outcome : Reported) (c : Bool) → (u == t) ≡ c → (c ≡ true → None ≡ x) → s.running t ≡ Some op → IsKnown s u x outcome
    → IsKnown (ended s t op) u x (cond c (with_reply outcome (reply_of s.base op)) outcome)
ended_known s t op u None outcome true same opened runs is = ended_own s t op u outcome same runs is
ended_known s t op u (Some n) outcome true same opened runs is = absurd (let wrong : ◌≡◌ {A = Option ℕ} None (Some n) = opened refl in cc)
ended_known s t op u x outcome false other opened runs is =
    still_known s (ended s t op) u x outcome refl (ap (λ (c : Bool). cond c None (s.running u)) other)
    (filter-append (λ (e : Entry). only u e.txn) s.standing (last_entry s t op ∷ []) ∙ ap (λ (c : Bool). kept (only u) s.standing ++ cond c (last_entry s t op ∷ []) []) (eq_flip t u (t == u) false refl other)
    ∙ append-nil (kept (only u) s.standing)) is

pub reported_ended : (b : Base) (s : State) (t : ℕ) (op : Op) (phase next : ℕ → Option TxnState) (outcome : ℕ → Reported) (names : List ℕ) → IsKept b s → s.running t ≡ Some op → phase t ≡ Some Open → ((u : ℕ) → next u ≡ phase u)
    → AreReported s phase outcome names → AreReported (ended s t op) next (λ u. cond (u == t) (with_reply (outcome u) (reply_of s.base op)) (outcome u)) names
reported_ended b s t op phase next outcome names k runs opened same are = record {
  each = λ u x known. let was : known_as (phase u) ≡ Some x = ap known_as (sym (same u)) ∙ known in
      ended_known s t op u x (outcome u) (u == t) refl (λ own. some_is None x (sym (ap known_as (ap phase (eqb-true u t own) ∙ opened)) ∙ was)) runs (are.each u x was);
  book = are.book ∙ same_book outcome (λ u. cond (u == t) (with_reply (outcome u) (reply_of s.base op)) (outcome u)) names _ (λ u gone. says_nothing (λ r. with_reply r (reply_of s.base op)) s t (k.owned.running t op runs) u gone.0 (outcome u) (u == t) refl) are.past;
  past = are.past;
}

-- ---- a step of an abort

-- nothing is reported of the transaction that makes the step, and no more is known of it; the others stay
reported_apart : (s z : State) (t : ℕ) (phase next : ℕ → Option TxnState) (outcome : ℕ → Reported) (names : List ℕ) → known_as (next t) ≡ None → ((u : ℕ) → u ≢ t → next u ≡ phase u)
    → ((u : ℕ) (x : Option ℕ) → u ≢ t → IsKnown s u x (outcome u) → IsKnown z u x (outcome u)) → z.book ≡ s.book → ((u : ℕ) → s.sessions u ≡ None → z.sessions u ≡ None) → z.next ≡ s.next
    → AreReported s phase outcome names → AreReported z next outcome names
reported_apart s z t phase next outcome names back same stay book dead number are = record {
  each = λ u x known. ⊎_elim
      (λ (own : u ≡ t). let wrong : Some x ≡ None = sym known ∙ ap (λ (v : ℕ). known_as (next v)) own ∙ back in absurd cc)
      (λ (other : u ≢ t). stay u x other (are.each u x (ap known_as (sym (same u other)) ∙ known))) (cases_eq u t);
  book = book ∙ are.book;
  past = each_map (λ u. (s.sessions u ≡ None) × (u < s.next)) _ (λ u past. (dead u past.0, subst (λ (n : ℕ). u < n) (sym number) past.1)) names are.past;
}

pub reported_dropped : (s : State) (t : ℕ) (ps : List Pending) (phase next : ℕ → Option TxnState) (outcome : ℕ → Reported) (names : List ℕ) → known_as (next t) ≡ None → ((u : ℕ) → u ≢ t → next u ≡ phase u)
    → AreReported s phase outcome names → AreReported (dropped s t ps) next outcome names
reported_dropped s t ps phase next outcome names back same are = reported_apart s (dropped s t ps) t phase next outcome names back same
    (λ u x other is. still_known s (dropped s t ps) u x (outcome u) refl (put_other s.running t None u other) refl is) refl (λ u none. none) refl are

pub reported_undone : (s : State) (t : ℕ) (inverse : Op) (ps : List Pending) (phase next : ℕ → Option TxnState) (outcome : ℕ → Reported) (names : List ℕ) → known_as (next t) ≡ None → ((u : ℕ) → u ≢ t → next u ≡ phase u)
    → AreReported s phase outcome names → AreReported (undone s t inverse ps) next outcome names
reported_undone s t inverse ps phase next outcome names back same are = reported_apart s (undone s t inverse ps) t phase next outcome names back same
    (λ u x other is. still_known s (undone s t inverse ps) u x (outcome u) refl refl (kept_cut u t s.standing other) is) refl (λ u none. none) refl are

none_put : (f : ℕ → Option ℕ) (t u : ℕ) → f u ≡ None → put f t None u ≡ None
none_put f t u none = go (u == t)
  where
    go : (c : Bool) → cond c None (f u) ≡ None
    go true = refl
    go false = none

pub reported_gone : (s : State) (t : ℕ) (phase next : ℕ → Option TxnState) (outcome : ℕ → Reported) (names : List ℕ) → known_as (next t) ≡ None → ((u : ℕ) → u ≢ t → next u ≡ phase u)
    → AreReported s phase outcome names → AreReported (gone s t) next outcome names
reported_gone s t phase next outcome names back same are = reported_apart s (gone s t) t phase next outcome names back same
    (λ u x other is. still_known s (gone s t) u x (outcome u) (put_other s.sessions t None u other) refl (kept_apart u t s.standing other) is) refl (none_put s.sessions t) refl are

-- ---- going back

abbrev with_first : ℕ → Reported → Reported
with_first n outcome = record outcome { first = n }

-- it begins: nothing is taken back yet
pub reported_back : (s : State) (t n : ℕ) (phase next : ℕ → Option TxnState) (outcome : ℕ → Reported) (names : List ℕ) → phase t ≡ Some Open → ((u : ℕ) → next u ≡ put phase t (Some (Returning n)) u)
    → AreReported s phase outcome names → AreReported s next (λ u. cond (u == t) (with_first n (outcome u)) (outcome u)) names
reported_back s t n phase next outcome names opened is are = record {
  each = λ u x known. each u x (u == t) refl known;
  book = are.book ∙ same_book outcome (λ u. cond (u == t) (with_first n (outcome u)) (outcome u)) names _ (λ u gone. alike (outcome u) (u == t)) are.past;
  past = are.past;
}
  where
    alike : (x : Reported) (c : Bool) → commit_of (cond c (with_first n x) x) ≡ commit_of x
    alike x true = refl
    alike x false = refl

    begins : (u : ℕ) (outcome : Reported) → IsReported s u outcome → IsReturning s u n (with_first n outcome)
    begins u outcome was = record {
      session = was.session;
      started = was.started;
      first = refl;
      calls = ap₂ (λ (xs ys : List Call). xs ++ calls_back (drop n ys)) was.calls was.counting;
      counting = ap (take n) was.counting;
    }

    each : (u : ℕ) (x : Option ℕ) (c : Bool) → (u == t) ≡ c → known_as (next u) ≡ Some x → IsKnown s u x (cond c (with_first n (outcome u)) (outcome u))
    each u x true own known =
        let same : u ≡ t = eqb-true u t own in
        let set : next u ≡ Some (Returning n) = is u ∙ ap (put phase t (Some (Returning n))) same ∙ put_own phase t (Some (Returning n)) in
        let now : Some n ≡ x = some_is (Some n) x (sym (ap known_as set) ∙ known) in
        subst (λ (y : Option ℕ). IsKnown s u y (with_first n (outcome u))) now (begins u (outcome u) (are.each u None (ap known_as (ap phase same ∙ opened))))
    each u x false other known =
        let apart : u ≢ t = λ same. let wrong : true ≡ false = sym (eq_self t) ∙ ap (λ (v : ℕ). v == t) (sym same) ∙ other in absurd cc in
        are.each u x (ap known_as (sym (is u ∙ put_other phase t (Some (Returning n)) u apart)) ∙ known)

-- an effect after the first so many and its inverse stay: what is still to come is one less
returned_known : (b : Base) (s : State) (t n : ℕ) (last : Entry) (i : Op) (ps : List Pending) (outcome : Reported) → IsKept b s → last_effect t s.standing ≡ Some last → is_some (last_effect t (after_first t n s.standing)) ≡ true
    → inverse_of last.op last.reply ≡ Some i → IsReturning s t n outcome → IsReturning (returned s t last i ps) t n outcome
returned_known b s t n last i ps outcome k effect there inverts was =
    let back : Entry = record { txn = t; op = i; reply = reply_of s.base i; role = Back } in
    let next = counting_next t s.standing last i back refl effect inverts n there in
    let reply : reply_of s.base i ≡ inverse_reply last.op = inverse_replies b s t last i k effect inverts in
    let before : List Call = calls (kept (only t) s.standing) in
    record {
      session = was.session;
      started = was.started;
      first = was.first;
      calls =
          ap (λ (cs : List Call). cs ++ calls_back (drop n (counting_calls t (mark_last t s.standing ++ back ∷ [])))) (own_calls_next t s.standing last i back refl effect inverts refl)
          ∙ append_assoc before ((i, reply_of s.base i) ∷ []) (calls_back (drop n (counting_calls t (mark_last t s.standing ++ back ∷ []))))
          ∙ ap (λ (r : Reply). before ++ (i, r) ∷ calls_back (drop n (counting_calls t (mark_last t s.standing ++ back ∷ [])))) reply
          ∙ ap (λ (cs : List Call). before ++ cs) (sym next.back) ∙ was.calls;
      counting = next.first ∙ was.counting;
    }

pub reported_returned : (b : Base) (s : State) (t n : ℕ) (last : Entry) (i : Op) (ps : List Pending) (phase next : ℕ → Option TxnState) (outcome : ℕ → Reported) (names : List ℕ) → IsKept b s → phase t ≡ Some (Returning n)
    → last_effect t s.standing ≡ Some last → is_some (last_effect t (after_first t n s.standing)) ≡ true → inverse_of last.op last.reply ≡ Some i → ((u : ℕ) → next u ≡ phase u)
    → AreReported s phase outcome names → AreReported (returned s t last i ps) next outcome names
reported_returned b s t n last i ps phase next outcome names k goes effect there inverts same are = record {
  each = λ u x known. let was : known_as (phase u) ≡ Some x = ap known_as (sym (same u)) ∙ known in
      ⊎_elim (λ (own : u ≡ t). its u own x was) (λ (other : u ≢ t). rest u other x was) (cases_eq u t);
  book = are.book;
  past = are.past;
}
  where
    back : Entry
    back = record { txn = t; op = i; reply = reply_of s.base i; role = Back }

    z : State
    z = returned s t last i ps

    its : (u : ℕ) → u ≡ t → (x : Option ℕ) → known_as (phase u) ≡ Some x → IsKnown z u x (outcome u)
    its u own x was =
        let now : Some n ≡ x = some_is (Some n) x (sym (ap known_as (ap phase own ∙ goes)) ∙ was) in
        subst (λ (v : ℕ). IsKnown z v x (outcome v)) (sym own) (subst (λ (y : Option ℕ). IsKnown z t y (outcome t)) now
        (returned_known b s t n last i ps (outcome t) k effect there inverts (are.each t (Some n) (ap known_as goes))))

    rest : (u : ℕ) → u ≢ t → (x : Option ℕ) → known_as (phase u) ≡ Some x → IsKnown z u x (outcome u)
    rest u other x was = still_known s z u x (outcome u) refl refl (others_next t s.standing last i back refl effect inverts u refl other) (are.each u x was)

-- it has ended: none is to come, and the first so many count
settled_known : (s : State) (t n : ℕ) (outcome : Reported) → last_effect t (after_first t n s.standing) ≡ None → IsReturning s t n outcome → IsReported (settled s t n) t (gone_back outcome)
settled_known s t n outcome none was = record {
  session = was.session;
  started = was.started;
  calls =
      own_calls_settled t n s.standing none ∙ sym (append-nil (calls (kept (only t) s.standing))) ∙ ap (λ (cs : List Call). calls (kept (only t) s.standing) ++ cs) (sym (nothing_left t n s.standing none)) ∙ was.calls
      ∙ ap (λ (m : ℕ). outcome.calls ++ calls_back (drop m outcome.counting)) (sym was.first);
  counting = counting_settled t n s.standing ∙ was.counting ∙ ap (λ (m : ℕ). take m outcome.counting) (sym was.first);
}

pub reported_settled : (s : State) (t n : ℕ) (phase next : ℕ → Option TxnState) (outcome : ℕ → Reported) (names : List ℕ) → phase t ≡ Some (Returning n) → last_effect t (after_first t n s.standing) ≡ None
    → ((u : ℕ) → next u ≡ put phase t (Some Open) u) → AreReported s phase outcome names → AreReported (settled s t n) next (λ u. cond (u == t) (gone_back (outcome u)) (outcome u)) names
reported_settled s t n phase next outcome names goes none is are = record {
  each = λ u x known. each u x (u == t) refl known;
  book = are.book ∙ same_book outcome (λ u. cond (u == t) (gone_back (outcome u)) (outcome u)) names _ (λ u gone. says_nothing gone_back s t lives u gone.0 (outcome u) (u == t) refl) are.past;
  past = are.past;
}
  where
    lives : is_live s t ≡ true
    lives = ap (λ (o : Option ℕ). is_some o) (are.each t (Some n) (ap known_as goes)).session

    each : (u : ℕ) (x : Option ℕ) (c : Bool) → (u == t) ≡ c → known_as (next u) ≡ Some x → IsKnown (settled s t n) u x (cond c (gone_back (outcome u)) (outcome u))
    each u x true own known =
        let same : u ≡ t = eqb-true u t own in
        let set : next u ≡ Some Open = is u ∙ ap (put phase t (Some Open)) same ∙ put_own phase t (Some Open) in
        let now : None ≡ x = some_is None x (sym (ap known_as set) ∙ known) in
        subst (λ (v : ℕ). IsKnown (settled s t n) v x (gone_back (outcome v))) (sym same) (subst (λ (y : Option ℕ). IsKnown (settled s t n) t y (gone_back (outcome t))) now
        (settled_known s t n (outcome t) none (are.each t (Some n) (ap known_as goes))))
    each u x false other known =
        let apart : u ≢ t = λ same. let wrong : true ≡ false = sym (eq_self t) ∙ ap (λ (v : ℕ). v == t) (sym same) ∙ other in absurd cc in
        still_known s (settled s t n) u x (outcome u) refl refl (others_settled u t n s.standing apart) (are.each u x (ap known_as (sym (is u ∙ put_other phase t (Some Open) u apart)) ∙ known))

-- ---- commits that become durable

-- no two are the same
abbrev pub AreDistinct : List ℕ → Type 0
AreDistinct [] = ⊤
AreDistinct (t ∷ ts) = Each (λ u. u ≢ t) ts × AreDistinct ts

abbrev pub is_among : ℕ → List ℕ → Bool
is_among u [] = false
is_among u (t ∷ ts) = (u == t) || is_among u ts

record HasBooked (s z : State) (outcome : ℕ → Reported) (ts : List ℕ) : Type 0 where
  book : z.book ≡ s.book ++ map (λ t. commit_of (outcome t)) ts
  gone : (u : ℕ) → is_among u ts ≡ true → z.sessions u ≡ None
  stays : (u : ℕ) → is_among u ts ≡ false → (z.sessions u ≡ s.sessions u) × (kept (only u) z.standing ≡ kept (only u) s.standing)
  dead : (u : ℕ) → s.sessions u ≡ None → z.sessions u ≡ None
  running : (u : ℕ) → z.running u ≡ s.running u
  number : z.next ≡ s.next

booked_as : (s : State) (t : ℕ) (outcome : Reported) → IsReported s t outcome → (booked s t (session_at s t)).book ≡ s.book ++ commit_of outcome ∷ []
booked_as s t outcome is = λ i. s.book ++ record { session = or_zero (is.session i); calls = is.calls i } ∷ []

booking : (s : State) (outcome : ℕ → Reported) (ts : List ℕ) → AreDistinct ts → Each (λ t. IsReported s t (outcome t)) ts → HasBooked s (booked_each s ts) outcome ts
booking s outcome [] distinct each = record {
  book = sym (append-nil s.book);
  gone = λ u among. absurd (let wrong : false ≡ true = among in cc);
  stays = λ u other. (refl, refl);
  dead = λ u none. none;
  running = λ u. refl;
  number = refl;
}
booking s outcome (t ∷ ts) distinct each =
    let z = booked s t (session_at s t) in
    let later = booking z outcome ts distinct.1 (each_both ts distinct.0 each.1) in
    record {
      book = later.book ∙ ap (λ (cs : List Committed). cs ++ map (λ t. commit_of (outcome t)) ts) (booked_as s t (outcome t) each.0) ∙ append_assoc s.book (commit_of (outcome t) ∷ []) (map (λ t. commit_of (outcome t)) ts);
      gone = λ u among. first_or u (u == t) refl among later;
      stays = λ u other. stay u (u == t) refl other later;
      dead = λ u none. later.dead u (none_put s.sessions t u none);
      running = later.running;
      number = later.number;
    }
  where
    each_both : (us : List ℕ) → Each (λ u. u ≢ t) us → Each (λ u. IsReported s u (outcome u)) us → Each (λ u. IsReported (booked s t (session_at s t)) u (outcome u)) us
    each_both us apart is = each_two (λ u. u ≢ t) (λ u. IsReported s u (outcome u)) (λ u. IsReported (booked s t (session_at s t)) u (outcome u))
        (λ u other reported_so. still_reported s (booked s t (session_at s t)) u (outcome u) (put_other s.sessions t None u other) refl (kept_apart u t s.standing other) reported_so) us apart is

    first_or : (u : ℕ) (c : Bool) → (u == t) ≡ c → (c || is_among u ts) ≡ true → HasBooked (booked s t (session_at s t)) (booked_each (booked s t (session_at s t)) ts) outcome ts → (booked_each (booked s t (session_at s t)) ts).sessions u ≡ None
    first_or u true own among later = later.dead u (ap (λ (c : Bool). cond c None (s.sessions u)) own)
    first_or u false other among later = later.gone u among

    stay : (u : ℕ) (c : Bool) → (u == t) ≡ c → (c || is_among u ts) ≡ false → HasBooked (booked s t (session_at s t)) (booked_each (booked s t (session_at s t)) ts) outcome ts
        → ((booked_each (booked s t (session_at s t)) ts).sessions u ≡ s.sessions u) × (kept (only u) (booked_each (booked s t (session_at s t)) ts).standing ≡ kept (only u) s.standing)
    stay u true own among later = absurd (let wrong : true ≡ false = among in cc)
    stay u false other among later =
        let so = later.stays u among in
        let apart : u ≢ t = λ same. let wrong : true ≡ false = sym (eq_self t) ∙ ap (λ (v : ℕ). v == t) (sym same) ∙ other in absurd cc in
        (so.0 ∙ put_other s.sessions t None u apart, so.1 ∙ kept_apart u t s.standing apart)

among_more : (t : ℕ) (ts : List ℕ) → Each (λ u. is_among u ts ≡ true) ts → Each (λ u. is_among u (t ∷ ts) ≡ true) ts
among_more t ts each = each_map (λ u. is_among u ts ≡ true) (λ u. is_among u (t ∷ ts) ≡ true) (λ u is. go (u == t) (is_among u ts) is) ts each
  where
    go : (a b : Bool) → b ≡ true → (a || b) ≡ true
    go true b is = refl
    go false b is = is

each_among : (ts : List ℕ) → Each (λ u. is_among u ts ≡ true) ts
each_among [] = tt
each_among (t ∷ ts) = (ap (λ (c : Bool). c || is_among t ts) (eq_self t), among_more t ts (each_among ts))

-- they are in the book, each with what was answered to it, and are no more
pub reported_booked : (b : Base) (s : State) (ts : List ℕ) (phase next : ℕ → Option TxnState) (outcome : ℕ → Reported) (names : List ℕ) → IsKept b s → AreDistinct ts → Each (λ t. phase t ≡ Some Committing) ts
    → ((u : ℕ) → phase u ≢ Some Committing → next u ≡ phase u) → ((u : ℕ) → phase u ≡ Some Committing → is_among u ts ≡ false → next u ≡ Some Committing) → ((u : ℕ) → is_live (booked_each s ts) u ≡ false → known_as (next u) ≡ None)
    → AreReported s phase outcome names → AreReported (booked_each s ts) next outcome (names ++ ts)
reported_booked b s ts phase next outcome names k distinct commit same later lives are = record {
  each = λ u x known. stay u x known (is_among u ts) refl;
  book = did.book ∙ ap (λ (cs : List Committed). cs ++ map (λ t. commit_of (outcome t)) ts) are.book ∙ sym (map-append (λ t. commit_of (outcome t)) names ts);
  past = each_append (λ t. (z.sessions t ≡ None) × (t < z.next)) names ts
      (each_map (λ t. (s.sessions t ≡ None) × (t < s.next)) (λ t. (z.sessions t ≡ None) × (t < z.next)) (λ t past. (did.dead t past.0, below t past.1)) names are.past)
      (each_two (λ t. is_among t ts ≡ true) (λ t. phase t ≡ Some Committing) (λ t. (z.sessions t ≡ None) × (t < z.next))
      (λ t among commits. (did.gone t among, below t (begun_before t (are.each t None (ap known_as commits))))) ts (each_among ts) commit);
}
  where
    z : State
    z = booked_each s ts

    did : HasBooked s z outcome ts
    did = booking s outcome ts distinct (each_map (λ t. phase t ≡ Some Committing) (λ t. IsReported s t (outcome t)) (λ t commits. are.each t None (ap known_as commits)) ts commit)

    below : (t : ℕ) → t < s.next → t < z.next
    below t lt = subst (λ (n : ℕ). t < n) (sym did.number) lt

    begun_before : (t : ℕ) → IsReported s t (outcome t) → t < s.next
    begun_before t is = ⊎_elim (λ (lt : t < s.next). lt) (λ (le : s.next ≤ t). absurd (k.owned.fresh t le (ap (λ (o : Option ℕ). is_some o) is.session))) (cases_lt t s.next)

    stay : (u : ℕ) (x : Option ℕ) → known_as (next u) ≡ Some x → (c : Bool) → is_among u ts ≡ c → IsKnown z u x (outcome u)
    stay u x known true among =
        let dead : is_live z u ≡ false = ap (λ (o : Option ℕ). is_some o) (did.gone u among) in
        let wrong : Some x ≡ None = sym known ∙ lives u dead in absurd cc
    stay u x known false among =
        let so = did.stays u among in
        let was : known_as (phase u) ≡ Some x = no_more_forced (phase u) (next u) (same u) (λ commits. ap known_as (later u commits among)) x known in
        still_known s z u x (outcome u) so.0 (did.running u) so.1 (are.each u x was)

-- ---- the commits that are named

-- the first commits under way are of transactions that commit, no two of the same
pub named_commit : (phase : ℕ → Option TxnState) (n : ℕ) (cs : List Commit) → All (λ (c : Commit). phase c.txn ≡ Some Committing) cs → Each (λ t. phase t ≡ Some Committing) (txns_of (take n cs))
named_commit phase zero cs each = tt
named_commit phase (suc n) [] each = tt
named_commit phase (suc n) (c ∷ cs) each = (All-head (λ (d : Commit). phase d.txn ≡ Some Committing) c cs each, named_commit phase n cs (All-tail (λ (d : Commit). phase d.txn ≡ Some Committing) c cs each))

apart_from : (t n : ℕ) (cs : List Commit) → All (λ (c : Commit). t ≢ c.txn) cs → Each (λ u. u ≢ t) (txns_of (take n cs))
apart_from t zero cs each = tt
apart_from t (suc n) [] each = tt
apart_from t (suc n) (c ∷ cs) each = ((λ same. All-head (λ (d : Commit). t ≢ d.txn) c cs each (sym same)), apart_from t n cs (All-tail (λ (d : Commit). t ≢ d.txn) c cs each))

pub named_distinct : (n : ℕ) (cs : List Commit) → AllPairs (λ (a b : Commit). a.txn ≢ b.txn) cs → AreDistinct (txns_of (take n cs))
named_distinct zero cs apart = tt
named_distinct (suc n) [] apart = tt
named_distinct (suc n) (c ∷ cs) apart = (apart_from c.txn n cs (pairs_head (λ (a b : Commit). a.txn ≢ b.txn) c cs apart), named_distinct n cs (pairs_tail (λ (a b : Commit). a.txn ≢ b.txn) c cs apart))

-- one under way commits
pub commits_still : (next : ℕ → Option TxnState) (cs : List Commit) (t : ℕ) → list_any (λ (c : Commit). c.txn == t) cs ≡ true → All (λ (c : Commit). next c.txn ≡ Some Committing) cs → next t ≡ Some Committing
commits_still next [] t there each = absurd cc
commits_still next (c ∷ cs) t there each =
    go (c.txn == t) refl there (λ h. commits_still next cs t h (All-tail (λ (d : Commit). next d.txn ≡ Some Committing) c cs each))
  where
    go : (b : Bool) → (c.txn == t) ≡ b → (b || list_any (λ (d : Commit). d.txn == t) cs) ≡ true → (list_any (λ (d : Commit). d.txn == t) cs ≡ true → next t ≡ Some Committing) → next t ≡ Some Committing
    go true own h rest = ap next (sym (eqb-true c.txn t own)) ∙ All-head (λ (d : Commit). next d.txn ≡ Some Committing) c cs each
    go false other h rest = rest h

-- one that is not among the first is among the others
pub not_named : (n : ℕ) (cs : List Commit) (t : ℕ) → list_any (λ (c : Commit). c.txn == t) cs ≡ true → is_among t (txns_of (take n cs)) ≡ false → list_any (λ (c : Commit). c.txn == t) (drop n cs) ≡ true
not_named zero cs t there apart = there
not_named (suc n) [] t there apart = there
not_named (suc n) (c ∷ cs) t there apart = go (t == c.txn) refl apart there (λ h rest. not_named n cs t h rest)
  where
    go : (b : Bool) → (t == c.txn) ≡ b → (b || is_among t (txns_of (take n cs))) ≡ false → ((c.txn == t) || list_any (λ (d : Commit). d.txn == t) cs) ≡ true
        → (list_any (λ (d : Commit). d.txn == t) cs ≡ true → is_among t (txns_of (take n cs)) ≡ false → list_any (λ (d : Commit). d.txn == t) (drop n cs) ≡ true) → list_any (λ (d : Commit). d.txn == t) (drop n cs) ≡ true
    go true own wrong h more = absurd (let bad : true ≡ false = wrong in cc)
    go false other rest h more = more (subst (λ (b : Bool). (b || list_any (λ (d : Commit). d.txn == t) cs) ≡ true) (eq_flip c.txn t (c.txn == t) false refl other) h) rest

-- ---- commits under way, one after the other

pub reported_in_turn : (session : ℕ → ℕ) (outcome : ℕ → Reported) (ts : List ℕ) (es : List Entry) → AreDistinct ts → Each (λ t. (session t ≡ (outcome t).session) × (calls (kept (only t) es) ≡ (outcome t).calls)) ts
    → in_turn session ts es ≡ map (λ t. commit_of (outcome t)) ts
reported_in_turn session outcome [] es distinct each = refl
reported_in_turn session outcome (t ∷ ts) es distinct each =
    ap₂ (λ (c : Committed) (cs : List Committed). c ∷ cs) (λ i. record { session = each.0.0 i; calls = each.0.1 i })
    (reported_in_turn session outcome ts (kept (others t) es) distinct.1
    (each_two (λ u. u ≢ t) (λ u. (session u ≡ (outcome u).session) × (calls (kept (only u) es) ≡ (outcome u).calls)) (λ u. (session u ≡ (outcome u).session) × (calls (kept (only u) (kept (others t) es)) ≡ (outcome u).calls))
    (λ u other is. (is.0, ap calls (kept_apart u t es other) ∙ is.1)) ts distinct.0 each.1))
