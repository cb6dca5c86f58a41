-- The last effect of a transaction is taken back by one that goes on: what of its entries, calls and numbers stays.
use Rattle.std.proofs.Common.{◌≡◌, ◌≢◌, ◌∙◌, ℕ, zero, suc, ◌<◌, ◌≤◌, ◌+◌, ◌==◌, ◌&&◌, cond, Bool, true, false, List, [], ◌∷◌, ◌++◌, Option, Some, None, is_some, length, take, get_or, map, filter, refl, sym, ap, subst, arith, append-nil}
use Rattle.std.specs.List.{sum_by}
use Rattle.std.specs.Prelude.{All}
use Rattle.std.proofs.lemmas.Bool.{and_left, ne_eqb, eqb-true}
use Rattle.std.proofs.lemmas.List.Elements.{All-head, All-tail, All-cons, filter-append}
use Rattle.std.proofs.lemmas.List.Sums.{sum_by-cons}
use Rattle.mt_live.proofs.Cuts.{Cut}
use Rattle.mt_live.specs.declared.transactions.Role.TheVariants.{TakenBack, Back}
use Rattle.mt_live.specs.Entries.{Entry, with_role, is_standing, calls, kept}
use Rattle.mt_live.proofs.Ends.{length-set_role}
use Rattle.mt_live.specs.Members.{Member, Noted, noted, has_inverse, later, last_place, set_role, with_noted, with_mark, with_back, cut_to, taken_back}
use Rattle.mt_live.specs.Undoing.{only, others, is_counted, is_effect, last_of, last_effect, cut_back, mark_last}
use Rattle.mt_model.specs.History.{Call}
use Rattle.mt_model.specs.declared.operations.Op.{Op}
use Rattle.mt_model.specs.Model.{inverse_of}
use Rattle.mt_core.proofs.Did.{effects_push, effects_other, did_push}
use Rattle.mt_core.proofs.Finding.{idle_did}
use Rattle.mt_core.specs.Restartable.{did, did_call, its_effects, numbers_did, numbers_of}
use Rattle.mt_core.specs.Runs.{is_at_work, weighed}

-- ---- what entries weigh

pub weighs_mark : (weight : Op → ℕ) (t : ℕ) (es : List Entry) (e : Entry) → last_effect t es ≡ Some e → sum_by (weighed weight) (mark_last t es) + weighed weight e ≡ sum_by (weighed weight) es
weighs_mark weight t [] e is = absurd cc
weighs_mark weight t (x ∷ es) e is = go (λ k. weighs_mark weight t es e k) (last_effect t es) refl (is_effect t x) is
  where
    go : (last_effect t es ≡ Some e → sum_by (weighed weight) (mark_last t es) + weighed weight e ≡ sum_by (weighed weight) es) → (o : Option Entry) → last_effect t es ≡ o → (c : Bool) → last_of o c x ≡ Some e
        → sum_by (weighed weight) (cond (is_some o) (x ∷ mark_last t es) (cond c (with_role TakenBack x ∷ es) (x ∷ es))) + weighed weight e ≡ sum_by (weighed weight) (x ∷ es)
    go rec (Some later) at c k = let rest = rec (at ∙ k) in let whole = sum_by-cons (weighed weight) x es in let left = sum_by-cons (weighed weight) x (mark_last t es) in omega (arith, rest, whole, left)
    go rec None at true k =
        let same : weighed weight x ≡ weighed weight e = ap (weighed weight) (let s : x ≡ e = cc in s) in
        let none : weighed weight (with_role TakenBack x) ≡ 0 = refl in
        let whole = sum_by-cons (weighed weight) x es in let left = sum_by-cons (weighed weight) (with_role TakenBack x) es in omega (arith, same, none, whole, left)
    go rec None at false k = absurd cc

-- what holds of each holds once one is marked
pub all_mark : (P : Entry → Type 0) → ((e : Entry) → P e → P (with_role TakenBack e)) → (t : ℕ) (es : List Entry) → All P es → All P (mark_last t es)
all_mark P keeps t [] k = k
all_mark P keeps t (x ∷ es) k = go (is_some (last_effect t es)) (is_effect t x) (all_mark P keeps t es rest)
  where
    rest : All P es
    rest = All-tail P x es k

    go : (a b : Bool) → All P (mark_last t es) → All P (cond a (x ∷ mark_last t es) (cond b (with_role TakenBack x ∷ es) (x ∷ es)))
    go true b left = All-cons P x (mark_last t es) (All-head P x es k) left
    go false true left = All-cons P (with_role TakenBack x) es (keeps x (All-head P x es k)) rest
    go false false left = k

-- ---- the last effect of another transaction

skips : (o : Option Entry) (e : Entry) → last_of o false e ≡ o
skips None e = refl
skips (Some x) e = refl

other_here : (u t : ℕ) (x : Entry) → u ≢ t → is_effect t x ≡ true → (is_effect u x ≡ false) × (is_effect u (with_role TakenBack x) ≡ false)
other_here u t x apart is =
    let own : x.txn ≡ t = (last_parts is) in
    let away : (x.txn == u) ≡ false = ne_eqb x.txn u (λ e. apart (sym e ∙ own)) in (
      and_left (is_counted u x) (is_some (inverse_of x.op x.reply)) (and_left (x.txn == u) (is_standing x.role) away),
      and_left (is_counted u (with_role TakenBack x)) (is_some (inverse_of x.op x.reply)) (and_left (x.txn == u) false away),
    )
  where
    last_parts : is_effect t x ≡ true → x.txn ≡ t
    last_parts h = go (x.txn == t) refl h
      where
        go : (b : Bool) → (x.txn == t) ≡ b → ((b && is_standing x.role) && is_some (inverse_of x.op x.reply)) ≡ true → x.txn ≡ t
        go true at k = eqb-true x.txn t at
        go false at k = absurd cc

pub last_mark : (u t : ℕ) (es : List Entry) → u ≢ t → last_effect u (mark_last t es) ≡ last_effect u es
last_mark u t [] apart = refl
last_mark u t (x ∷ es) apart = go (last_effect t es) (is_effect t x) refl (last_mark u t es apart)
  where
    go : (o : Option Entry) (b : Bool) → is_effect t x ≡ b → last_effect u (mark_last t es) ≡ last_effect u es
        → last_effect u (cond (is_some o) (x ∷ mark_last t es) (cond b (with_role TakenBack x ∷ es) (x ∷ es))) ≡ last_effect u (x ∷ es)
    go (Some later) b is rest = ap (λ p. last_of p (is_effect u x) x) rest
    go None true is rest =
        let none = other_here u t x apart is in
        ap (λ c. last_of (last_effect u es) c (with_role TakenBack x)) none.1 ∙ (skips (last_effect u es) (with_role TakenBack x) ∙ sym (ap (λ c. last_of (last_effect u es) c x) none.0 ∙ skips (last_effect u es) x))
    go None false is rest = refl

-- ---- what the records say

pub did_mark : (t : ℕ) (es : List Entry) (e b : Entry) (i : Op) → Cut t es e i → b.role ≡ Back → filter did (mark_last t es ++ b ∷ []) ≡ filter did (cut_back t es)
did_mark t es e b i c role =
    filter-append did (mark_last t es) (b ∷ [])
    ∙ (ap (λ (h : Bool). filter did (mark_last t es) ++ cond h (b ∷ []) []) (ap (λ r. is_standing r && is_some (inverse_of b.op b.reply)) role)
    ∙ (append-nil (filter did (mark_last t es))
    ∙ (ap (filter did) c.marked ∙ (filter-append did c.front (with_role TakenBack e ∷ c.rest)
    ∙ (ap (λ (xs : List Entry). filter did c.front ++ xs) (sym (idle_did t c.rest c.done.idle))
    ∙ (sym (filter-append did c.front (kept (others t) c.rest)) ∙ sym (ap (filter did) c.then)))))))

marked_calls : (p : ℕ → Bool) (t : ℕ) (es : List Entry) → calls (kept p (mark_last t es)) ≡ calls (kept p es)
marked_calls p t [] = refl
marked_calls p t (x ∷ es) = go (is_some (last_effect t es)) (is_effect t x) (p x.txn) refl (marked_calls p t es)
  where
    more : (c : Bool) (xs ys : List Entry) → calls xs ≡ calls ys → calls (cond c (x ∷ xs) xs) ≡ calls (cond c (x ∷ ys) ys)
    more true xs ys same = ap (λ (cs : List Call). (x.op, x.reply) ∷ cs) same
    more false xs ys same = same

    marked : (c : Bool) (xs : List Entry) → calls (cond c (with_role TakenBack x ∷ xs) xs) ≡ calls (cond c (x ∷ xs) xs)
    marked true xs = refl
    marked false xs = refl

    go : (a b c : Bool) → p x.txn ≡ c → calls (kept p (mark_last t es)) ≡ calls (kept p es) → calls (kept p (cond a (x ∷ mark_last t es) (cond b (with_role TakenBack x ∷ es) (x ∷ es)))) ≡ calls (kept p (x ∷ es))
    go true b c is rest = more (p x.txn) (kept p (mark_last t es)) (kept p es) rest
    go false true c is rest = marked (p x.txn) (kept p es)
    go false false c is rest = refl

pub effects_marked : (u t : ℕ) (es : List Entry) → its_effects u (mark_last t es) ≡ its_effects u es
effects_marked u t es = ap (filter did_call) (marked_calls (only u) t es)

-- of the transaction itself, and of another
pub effects_back : (t : ℕ) (es : List Entry) (b : Entry) → b.txn ≡ t → did_call (b.op, b.reply) ≡ true → its_effects t (mark_last t es ++ b ∷ []) ≡ its_effects t es ++ (b.op, b.reply) ∷ []
effects_back t es b own did_it =
    effects_push t (mark_last t es) b own
    ∙ (ap (λ (c : Bool). its_effects t (mark_last t es) ++ cond c ((b.op, b.reply) ∷ []) []) did_it ∙ ap (λ (cs : List Call). cs ++ (b.op, b.reply) ∷ []) (effects_marked t t es))

pub effects_back_other : (u t : ℕ) (es : List Entry) (b : Entry) → b.txn ≡ t → u ≢ t → its_effects u (mark_last t es ++ b ∷ []) ≡ its_effects u es
effects_back_other u t es b own apart = effects_other u (mark_last t es) b (λ is. apart (is ∙ own)) ∙ effects_marked u t es

-- ---- numbers

pub none_marked : (cs : List Noted) (ns : List ℕ) → last_place cs ≡ None → numbers_did cs ns ≡ []
none_marked [] ns is = refl
none_marked (c ∷ cs) [] is = refl
none_marked (c ∷ cs) (n ∷ ns) is = go (last_place cs) refl (has_inverse c) refl is (λ k. none_marked cs ns k)
  where
    go : (o : Option ℕ) → last_place cs ≡ o → (h : Bool) → has_inverse c ≡ h → later o h ≡ None → (last_place cs ≡ None → numbers_did cs ns ≡ []) → cond h (n ∷ numbers_did cs ns) (numbers_did cs ns) ≡ []
    go (Some k) at h test none rec = absurd cc
    go None at true test none rec = absurd cc
    go None at false test none rec = rec at

-- without the last that stood and did something, those before it are left
pub did_marked : (cs : List Noted) (ns : List ℕ) (n : ℕ) → length ns ≡ length cs → last_place cs ≡ Some n → numbers_did (set_role cs n TakenBack) ns ≡ numbers_did (take n cs) (take n ns)
did_marked [] ns n len is = absurd cc
did_marked (c ∷ cs) [] n len is = absurd (omega (arith, len))
did_marked (c ∷ cs) (m ∷ ns) n len is = go (last_place cs) refl (has_inverse c) refl is (λ k at. did_marked cs ns k (omega (arith, len)) at)
  where
    further : (k : ℕ) (h : Bool) → has_inverse c ≡ h → numbers_did (set_role cs k TakenBack) ns ≡ numbers_did (take k cs) (take k ns)
        → cond (has_inverse c) (m ∷ numbers_did (set_role cs k TakenBack) ns) (numbers_did (set_role cs k TakenBack) ns) ≡ cond (has_inverse c) (m ∷ numbers_did (take k cs) (take k ns)) (numbers_did (take k cs) (take k ns))
    further k h test rest = ap (λ (xs : List ℕ). cond (has_inverse c) (m ∷ xs) xs) rest

    go : (o : Option ℕ) → last_place cs ≡ o → (h : Bool) → has_inverse c ≡ h → later o h ≡ Some n → ((k : ℕ) → last_place cs ≡ Some k → numbers_did (set_role cs k TakenBack) ns ≡ numbers_did (take k cs) (take k ns))
        → numbers_did (set_role (c ∷ cs) n TakenBack) (m ∷ ns) ≡ numbers_did (take n (c ∷ cs)) (take n (m ∷ ns))
    go (Some k) at h test some rec = let same : suc k ≡ n = cc in subst (λ (j : ℕ). numbers_did (set_role (c ∷ cs) j TakenBack) (m ∷ ns) ≡ numbers_did (take j (c ∷ cs)) (take j (m ∷ ns))) same (further k h test (rec k at))
    go None at true test some rec = let same : 0 ≡ n = cc in subst (λ (j : ℕ). numbers_did (set_role (c ∷ cs) j TakenBack) (m ∷ ns) ≡ numbers_did (take j (c ∷ cs)) (take j (m ∷ ns))) same (none_marked cs ns at)
    go None at false test some rec = absurd cc

-- one that goes on keeps its state, whatever it takes back
pub back_state : (m : Member) (n : ℕ) (c : Call) → (with_back m n c).state ≡ m.state
back_state m n c = go (last_place m.calls)
  where
    go : (o : Option ℕ) → (with_mark m o).state ≡ m.state
    go None = refl
    go (Some p) = refl

-- and has the numbers of one that is undone
pub back_numbers : (m : Member) (n : ℕ) (c : Call) → length m.operations ≡ length m.calls → numbers_of (Some (with_back m n c)) ≡ numbers_of (Some (taken_back m))
back_numbers m n c many = go (last_place m.calls) refl
  where
    pushed : (cs : List Noted) → length m.operations ≡ length cs → numbers_did (cs ++ noted Back c ∷ []) (m.operations ++ n ∷ []) ≡ numbers_did cs m.operations
    pushed cs each = did_push cs m.operations (noted Back c) n each ∙ append-nil (numbers_did cs m.operations)

    go : (o : Option ℕ) → last_place m.calls ≡ o → numbers_of (Some (with_noted (with_mark m o) n (noted Back c))) ≡ numbers_of (Some (cut_to m o))
    go None at = ap (λ (ns : List ℕ). cond (is_at_work m.state) ns []) (pushed m.calls many)
    go (Some p) at =
        let size = length-set_role m.calls p TakenBack in
        ap (λ (ns : List ℕ). cond (is_at_work m.state) ns []) (pushed (set_role m.calls p TakenBack) (omega (arith, many, size)) ∙ did_marked m.calls m.operations p many at)
