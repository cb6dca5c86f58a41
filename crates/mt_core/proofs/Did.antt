-- Entries that did something, among those of several transactions, and what is recorded of them.
use Rattle.std.proofs.Common.{◌≡◌, ◌≢◌, ◌⊎◌, inl, inr, ℕ, suc, ◌<◌, ◌==◌, Bool, true, false, not, ◌&&◌, is_some, cond, List, [], ◌∷◌, ◌++◌, Option, Some, None, length, take, get_or, map, filter, refl, sym, ap, ◌∙◌, subst, arith, append-nil, append_assoc}
use Rattle.std.specs.Prelude.{AllPairs, All}
use Rattle.std.specs.List.{AllByRecursion}
use Rattle.std.proofs.lemmas.Bool.{cases_Bool, cases_eq, eqb-true, eq-eqb, ne_eqb}
use Rattle.std.proofs.lemmas.List.{map-append}
use Rattle.std.proofs.lemmas.List.Elements.{All-head, All-tail, All-filter, filter-append}
use Rattle.mt_live.proofs.Entries.{calls-append}
use Rattle.mt_live.specs.Entries.{Entry, calls, kept}
use Rattle.mt_live.specs.Laws.{in_turn, without_all}
use Rattle.mt_live.specs.Machine.{put}
use Rattle.mt_live.specs.Members.{Noted, has_inverse, later, last_place}
use Rattle.mt_live.specs.Undoing.{only, others}
use Rattle.mt_model.proofs.Split.{filter-swap}
use Rattle.mt_model.specs.History.{Call}
use Rattle.mt_replay.proofs.Walking.{map_filter}
use Rattle.mt_replay.specs.Recorded.{Recorded, Finished, its, others as others_of, is_but, without, call_of, calls_of}
use Rattle.mt_core.proofs.Lists.{pairs_head, pairs_tail}
use Rattle.mt_live.specs.declared.transactions.TxnState.{TxnState}
use Rattle.mt_live.specs.declared.transactions.TxnState.TheVariants.{Open, Committing}
use Rattle.mt_core.specs.Restartable.{did, did_call, effects_of, its_effects, entry_of, numbers_did, HasEnds}

-- ---- lists

module _ {A : Type 0} where
  -- a second test that passes all that pass the first changes nothing
  filter_within : (p q : A → Bool) → ((x : A) → p x ≡ true → q x ≡ true) → (xs : List A) → filter p (filter q xs) ≡ filter p xs
  filter_within p q so [] = refl
  filter_within p q so (x ∷ xs) = elim (cases_Bool (p x)) [
    | inl a ↦ rw (so x a, a) (ap (λ ys. x ∷ ys) (filter_within p q so xs))
    | inr a ↦ elim (cases_Bool (q x)) [ inl b ↦ rw (b, a) (filter_within p q so xs) | inr b ↦ rw (b, a) (filter_within p q so xs) ]
  ]

  -- nothing passes a test and its opposite
  filter_gone : (p : A → Bool) (xs : List A) → filter p (filter (λ x. not (p x)) xs) ≡ []
  filter_gone p [] = refl
  filter_gone p (x ∷ xs) = elim (cases_Bool (p x)) [ inl a ↦ rw a (filter_gone p xs) | inr a ↦ rw (a, a) (filter_gone p xs) ]

  cons_head : (x y : A) (xs ys : List A) → x ∷ xs ≡ y ∷ ys → x ≡ y
  cons_head x y xs ys is = cc

  cons_tail : (x y : A) (xs ys : List A) → x ∷ xs ≡ y ∷ ys → xs ≡ ys
  cons_tail x y xs ys is = cc

  all_back : (P : A → Type 0) (xs : List A) (y : A) → AllByRecursion P (xs ++ y ∷ []) → P y
  all_back P [] y all = all.0
  all_back P (x ∷ xs) y all = all_back P xs y all.1

-- a list whose images are a list's parts
record Parted {A B : Type 0} (f : A → B) (xs : List A) (ys : List B) (z : B) (zs : List B) : Type 0 where
  front : List A
  mid : A
  back : List A
  is : xs ≡ front ++ mid ∷ back
  front_is : map f front ≡ ys
  mid_is : f mid ≡ z
  back_is : map f back ≡ zs

parted : {A B : Type 0} (f : A → B) (xs : List A) (ys : List B) (z : B) (zs : List B) → map f xs ≡ ys ++ z ∷ zs → Parted f xs ys z zs
parted f [] [] z zs is = absurd cc
parted f [] (y ∷ ys) z zs is = absurd cc
parted f (x ∷ xs) [] z zs is = record { front = []; mid = x; back = xs; is = refl; front_is = refl; mid_is = cons_head (f x) z (map f xs) zs is; back_is = cons_tail (f x) z (map f xs) zs is }
parted {A} {B} f (x ∷ xs) (y ∷ ys) z zs is =
    let rest = parted f xs ys z zs (cons_tail (f x) y (map f xs) (ys ++ z ∷ zs) is) in
    record {
      front = x ∷ rest.front;
      mid = rest.mid;
      back = rest.back;
      is = ap (λ (ws : List A). x ∷ ws) rest.is;
      front_is = λ i. cons_head (f x) y (map f xs) (ys ++ z ∷ zs) is i ∷ rest.front_is i;
      mid_is = rest.mid_is;
      back_is = rest.back_is;
    }

-- ---- of several transactions

-- none of them is this one
abbrev pub AreApartFrom : ℕ → List ℕ → Type 0
AreApartFrom t ts = AllByRecursion (λ (s : ℕ). s ≢ t) ts

away : (t s : ℕ) → s ≢ t → (t == s) ≡ false
away t s apart = ne_eqb t s (λ is. apart (sym is))

other_passes : (s t u : ℕ) → s ≢ t → (u == s) ≡ true → not (u == t) ≡ true
other_passes s t u apart is = ap not (ne_eqb u t (λ same. apart (sym (eqb-true u s is) ∙ same)))

pub only_gone : (t : ℕ) (es : List Entry) → kept (only t) (kept (others t) es) ≡ []
only_gone t es = filter_gone (λ (e : Entry). only t e.txn) es

only_kept : (s t : ℕ) (es : List Entry) → s ≢ t → kept (only s) (kept (others t) es) ≡ kept (only s) es
only_kept s t es apart = filter_within (λ (e : Entry). only s e.txn) (λ (e : Entry). others t e.txn) (λ e is. other_passes s t e.txn apart is) es

its_kept : (s t : ℕ) (fs : List Finished) → s ≢ t → its s (others_of t fs) ≡ its s fs
its_kept s t fs apart = filter_within (λ (f : Finished). f.txn == s) (λ (f : Finished). not (f.txn == t)) (λ f is. other_passes s t f.txn apart is) fs

its_gone : (t : ℕ) (fs : List Finished) → its t (others_of t fs) ≡ []
its_gone t fs = filter_gone (λ (f : Finished). f.txn == t) fs

without_append : (ts : List ℕ) (xs ys : List Entry) → without_all ts (xs ++ ys) ≡ without_all ts xs ++ without_all ts ys
without_append [] xs ys = refl
without_append (t ∷ ts) xs ys = ap (without_all ts) (filter-append (λ (e : Entry). others t e.txn) xs ys) ∙ without_append ts (kept (others t) xs) (kept (others t) ys)

kept_one : (t : ℕ) (e : Entry) (es : List Entry) → t ≢ e.txn → kept (others t) (e ∷ es) ≡ e ∷ kept (others t) es
kept_one t e es apart = ap (λ (c : Bool). cond (not c) (e ∷ kept (others t) es) (kept (others t) es)) (away e.txn t apart)

only_one : (t : ℕ) (e : Entry) (es : List Entry) → t ≢ e.txn → kept (only t) (e ∷ es) ≡ kept (only t) es
only_one t e es apart = ap (λ (c : Bool). cond c (e ∷ kept (only t) es) (kept (only t) es)) (away e.txn t apart)

without_one : (ts : List ℕ) (e : Entry) (es : List Entry) → AreApartFrom e.txn ts → without_all ts (e ∷ es) ≡ e ∷ without_all ts es
without_one [] e es apart = refl
without_one (t ∷ ts) e es apart = ap (without_all ts) (kept_one t e es apart.0) ∙ without_one ts e (kept (others t) es) apart.1

without_kept : (ts : List ℕ) (t : ℕ) (es : List Entry) → without_all ts (kept (others t) es) ≡ kept (others t) (without_all ts es)
without_kept [] t es = refl
without_kept (s ∷ ts) t es = ap (without_all ts) (filter-swap (λ (e : Entry). others s e.txn) (λ (e : Entry). others t e.txn) es) ∙ without_kept ts t (kept (others s) es)

without_only : (ts : List ℕ) (t : ℕ) (es : List Entry) → kept (only t) es ≡ [] → kept (only t) (without_all ts es) ≡ []
without_only [] t es none = none
without_only (s ∷ ts) t es none = without_only ts t (kept (others s) es) (filter-swap (λ (e : Entry). only t e.txn) (λ (e : Entry). others s e.txn) es ∙ ap (kept (others s)) none)

without_push : (ts : List ℕ) (t : ℕ) (es : List Entry) → without_all (ts ++ t ∷ []) es ≡ kept (others t) (without_all ts es)
without_push [] t es = refl
without_push (s ∷ ts) t es = without_push ts t (kept (others s) es)

pub without_did : (ts : List ℕ) (es : List Entry) → filter did (without_all ts es) ≡ without_all ts (filter did es)
without_did [] es = refl
without_did (t ∷ ts) es = without_did ts (kept (others t) es) ∙ ap (without_all ts) (filter-swap did (λ (e : Entry). others t e.txn) es)

-- ---- as they are recorded

pub calls_entries : (fs : List Finished) → calls (map entry_of fs) ≡ calls_of fs
calls_entries [] = refl
calls_entries (f ∷ fs) = ap (λ (cs : List Call). call_of f.done ∷ cs) (calls_entries fs)

entries_its : (t : ℕ) (fs : List Finished) → map entry_of (its t fs) ≡ kept (only t) (map entry_of fs)
entries_its t fs = map_filter entry_of (λ (f : Finished). f.txn == t) (λ (e : Entry). e.txn == t) (λ f. refl) fs

entries_others : (t : ℕ) (fs : List Finished) → map entry_of (others_of t fs) ≡ kept (others t) (map entry_of fs)
entries_others t fs = map_filter entry_of (λ (f : Finished). not (f.txn == t)) (λ (e : Entry). not (e.txn == t)) (λ f. refl) fs

op_of_reported : Finished → ℕ
op_of_reported f = f.op

none_mapped : (fs : List Finished) → map entry_of fs ≡ [] → fs ≡ []
none_mapped [] is = refl
none_mapped (f ∷ fs) is = absurd cc

-- what has this number is not of the transaction
but_absent : (t u : ℕ) (fs : List Finished) → AllByRecursion (λ (n : ℕ). n ≢ u) (map (λ (f : Finished). f.op) (its t fs)) → without t u fs ≡ fs
but_absent t u [] all = refl
but_absent t u (f ∷ fs) all = elim (cases_Bool (f.txn == t)) [
  | inl own ↦ let here = rw own at all in rw (own, ne_eqb f.op u here.0) (ap (λ (gs : List Finished). f ∷ gs) (but_absent t u fs here.1))
  | inr apart ↦ let there = rw apart at all in rw apart (ap (λ (gs : List Finished). f ∷ gs) (but_absent t u fs there))
]

but_own : (t u : ℕ) (f : Finished) (fs : List Finished) → f.txn ≡ t → f.op ≡ u → without t u (f ∷ fs) ≡ without t u fs
but_own t u f fs txn op = rw (eq-eqb f.txn t txn, eq-eqb f.op u op) refl

-- ---- the effects of each in turn

all_map : (P Q : ℕ → Type 0) → ((t : ℕ) → P t → Q t) → (ts : List ℕ) → AllByRecursion P ts → AllByRecursion Q ts
all_map P Q so [] all = tt
all_map P Q so (t ∷ ts) all = (so t all.0, all_map P Q so ts all.1)

pub effects_gone : (t : ℕ) (es : List Entry) → its_effects t (kept (others t) es) ≡ []
effects_gone t es = ap (λ (fs : List Entry). filter did_call (calls fs)) (only_gone t es)

pub effects_kept : (s t : ℕ) (es : List Entry) → s ≢ t → its_effects s (kept (others t) es) ≡ its_effects s es
effects_kept s t es apart = ap (λ (fs : List Entry). filter did_call (calls fs)) (only_kept s t es apart)

-- entries with the same ones of others
pub effects_beside : (u t : ℕ) (es fs : List Entry) → kept (others t) fs ≡ kept (others t) es → u ≢ t → its_effects u fs ≡ its_effects u es
effects_beside u t es fs same apart = sym (effects_kept u t fs apart) ∙ (ap (its_effects u) same ∙ effects_kept u t es apart)

pub others_cut : (t : ℕ) (front : List Entry) (e : Entry) (rest : List Entry) → e.txn ≡ t → kept (others t) (front ++ kept (others t) rest) ≡ kept (others t) (front ++ e ∷ rest)
others_cut t front e rest own =
    filter-append (λ (x : Entry). others t x.txn) front (kept (others t) rest)
    ∙ (ap (λ (es : List Entry). kept (others t) front ++ es) (filter_within (λ (x : Entry). others t x.txn) (λ (x : Entry). others t x.txn) (λ x is. is) rest
    ∙ ap (λ (c : Bool). cond (not c) (e ∷ kept (others t) rest) (kept (others t) rest)) (sym (eq-eqb e.txn t own)))
    ∙ sym (filter-append (λ (x : Entry). others t x.txn) front (e ∷ rest)))

pub effects_push : (t : ℕ) (es : List Entry) (e : Entry) → e.txn ≡ t → its_effects t (es ++ e ∷ []) ≡ its_effects t es ++ cond (did_call (e.op, e.reply)) ((e.op, e.reply) ∷ []) []
effects_push t es e own =
    ap (λ (fs : List Entry). filter did_call (calls fs)) (filter-append (λ (x : Entry). only t x.txn) es (e ∷ []) ∙ ap (λ (c : Bool). kept (only t) es ++ cond c (e ∷ []) []) (eq-eqb e.txn t own))
    ∙ (ap (filter did_call) (calls-append (kept (only t) es) (e ∷ [])) ∙ filter-append did_call (calls (kept (only t) es)) ((e.op, e.reply) ∷ []))

pub effects_other : (u : ℕ) (es : List Entry) (e : Entry) → u ≢ e.txn → its_effects u (es ++ e ∷ []) ≡ its_effects u es
effects_other u es e apart =
    ap (λ (fs : List Entry). filter did_call (calls fs)) (filter-append (λ (x : Entry). only u x.txn) es (e ∷ []) ∙ ap (λ (c : Bool). kept (only u) es ++ cond c (e ∷ []) []) (away e.txn u apart) ∙ append-nil (kept (only u) es))

abbrev pub turn : List ℕ → List Entry → List (List Call)
turn [] es = []
turn (t ∷ ts) es = its_effects t es ∷ turn ts (kept (others t) es)

pub effects_turn : (session : ℕ → ℕ) (ts : List ℕ) (es : List Entry) → map effects_of (in_turn session ts es) ≡ turn ts es
effects_turn session [] es = refl
effects_turn session (t ∷ ts) es = ap (λ (cs : List (List Call)). its_effects t es ∷ cs) (effects_turn session ts (kept (others t) es))

-- entries with the same effects of each of them
turn_like : (ts : List ℕ) (es fs : List Entry) → AllByRecursion (λ (u : ℕ). its_effects u es ≡ its_effects u fs) ts → turn ts es ≡ turn ts fs
turn_like [] es fs same = refl
turn_like (t ∷ ts) es fs same =
    let rest = turn_like ts (kept (others t) es) (kept (others t) fs) (all_map (λ (u : ℕ). its_effects u es ≡ its_effects u fs) (λ (u : ℕ). its_effects u (kept (others t) es) ≡ its_effects u (kept (others t) fs)) left ts same.1) in
    λ i. same.0 i ∷ rest i
  where
    left : (u : ℕ) → its_effects u es ≡ its_effects u fs → its_effects u (kept (others t) es) ≡ its_effects u (kept (others t) fs)
    left u is = go (cases_eq u t)
      where
        go : (u ≡ t) ⊎ (u ≡ t → ⊥) → its_effects u (kept (others t) es) ≡ its_effects u (kept (others t) fs)
        go (inl own) = ap (λ (v : ℕ). its_effects v (kept (others t) es)) own ∙ (effects_gone t es ∙ sym (ap (λ (v : ℕ). its_effects v (kept (others t) fs)) own ∙ effects_gone t fs))
        go (inr apart) = effects_kept u t es apart ∙ (is ∙ sym (effects_kept u t fs apart))

turn_push : (ts : List ℕ) (t : ℕ) (es : List Entry) → turn (ts ++ t ∷ []) es ≡ turn ts es ++ its_effects t (without_all ts es) ∷ []
turn_push [] t es = refl
turn_push (s ∷ ts) t es = ap (λ (cs : List (List Call)). its_effects s es ∷ cs) (turn_push ts t (kept (others s) es))

effects_without : (ts : List ℕ) (t : ℕ) (es : List Entry) → AreApartFrom t ts → its_effects t (without_all ts es) ≡ its_effects t es
effects_without [] t es apart = refl
effects_without (s ∷ ts) t es apart = effects_without ts t (kept (others s) es) apart.1 ∙ effects_kept t s es (λ is. apart.0 (sym is))

-- ---- what has committed, and what has ended

-- the books and what has ended of each
pub record Books (done : List (List Call)) (ts : List ℕ) (states : ℕ → Option TxnState) (es : List Entry) (x : Recorded) : Type 0 where
  pub books : map calls_of x.books ≡ done ++ turn ts es
  pub ends : (t : ℕ) → HasEnds (states t) (calls_of (its t x.ends)) (its_effects t es)

-- what the records have of a transaction in one state, they have of it in another
abbrev pub Eases : (ℕ → Option TxnState) → (ℕ → Option TxnState) → Type 0
Eases old new = (t : ℕ) (ends mine : List Call) → HasEnds (old t) ends mine → HasEnds (new t) ends mine

pub eases_same : (old new : ℕ → Option TxnState) → ((t : ℕ) → new t ≡ old t) → Eases old new
eases_same old new same t ends mine k = subst (λ s. HasEnds s ends mine) (sym (same t)) k

pub eases_put : (old new : ℕ → Option TxnState) (t : ℕ) (s : Option TxnState) → ((u : ℕ) → new u ≡ put old t s u) → ((ends mine : List Call) → HasEnds (old t) ends mine → HasEnds s ends mine) → Eases old new
eases_put old new t s changed one u ends mine k = subst (λ z. HasEnds z ends mine) (sym (changed u)) (go (u == t) refl)
  where
    go : (c : Bool) → (u == t) ≡ c → HasEnds (cond c s (old u)) ends mine
    go true is = one ends mine (subst (λ v. HasEnds (old v) ends mine) (eqb-true u t is) k)
    go false is = k

same_ends : (s z : Option TxnState) (a b m n : List Call) → z ≡ s → b ≡ a → n ≡ m → HasEnds s a m → HasEnds z b n
same_ends s z a b m n state ends mine k = subst (λ (X : Type 0). X) (λ i. HasEnds (sym state i) (sym ends i) (sym mine i)) k

its_ends : (t : ℕ) (fs : List Finished) (f : Finished) → f.txn ≡ t → calls_of (its t (fs ++ f ∷ [])) ≡ calls_of (its t fs) ++ call_of f.done ∷ []
its_ends t fs f own =
    ap calls_of (filter-append (λ (g : Finished). g.txn == t) fs (f ∷ []) ∙ ap (λ (c : Bool). its t fs ++ cond c (f ∷ []) []) (eq-eqb f.txn t own))
    ∙ map-append (λ (g : Finished). call_of g.done) (its t fs) (f ∷ [])

other_ends : (u : ℕ) (fs : List Finished) (f : Finished) → u ≢ f.txn → calls_of (its u (fs ++ f ∷ [])) ≡ calls_of (its u fs)
other_ends u fs f apart = ap calls_of (filter-append (λ (g : Finished). g.txn == u) fs (f ∷ []) ∙ ap (λ (c : Bool). its u fs ++ cond c (f ∷ []) []) (away f.txn u apart) ∙ append-nil (its u fs))

module _ (done : List (List Call)) (ts : List ℕ) (old new : ℕ → Option TxnState) (es : List Entry) (x : Recorded) (k : Books done ts old es x) where
  -- nothing has ended, and the entries have the same effects
  pub books_still : (fs : List Entry) → ((t : ℕ) → its_effects t fs ≡ its_effects t es) → Eases old new → Books done ts new fs x
  books_still fs same eases = record {
    books = k.books ∙ ap (λ (cs : List (List Call)). done ++ cs) (turn_like ts es fs (each ts));
    ends = λ t. eases t (calls_of (its t x.ends)) (its_effects t fs) (same_ends (old t) (old t) (calls_of (its t x.ends)) (calls_of (its t x.ends)) (its_effects t es) (its_effects t fs) refl refl (same t) (k.ends t));
  }
    where
      each : (ss : List ℕ) → AllByRecursion (λ (u : ℕ). its_effects u es ≡ its_effects u fs) ss
      each [] = tt
      each (s ∷ ss) = (sym (same s), each ss)

  -- an operation of a transaction that is not among those that commit has ended
  pub books_end : (f : Finished) (fs : List Entry) (live : List Finished) → AreApartFrom f.txn ts → ((u : ℕ) → u ≢ f.txn → its_effects u fs ≡ its_effects u es) → ((u : ℕ) → new u ≡ old u)
      → HasEnds (old f.txn) (calls_of (its f.txn x.ends) ++ call_of f.done ∷ []) (its_effects f.txn fs) → Books done ts new fs (record { live = live; ends = x.ends ++ f ∷ []; books = x.books })
  books_end f fs live apart same states own = record {
    books = k.books ∙ ap (λ (cs : List (List Call)). done ++ cs) (turn_like ts es fs (all_map (λ (s : ℕ). s ≢ f.txn) (λ (u : ℕ). its_effects u es ≡ its_effects u fs) (λ u far. sym (same u far)) ts apart));
    ends = λ u. elim (cases_eq u f.txn) [
      | inl is ↦ subst (λ (v : ℕ). HasEnds (new v) (calls_of (its v (x.ends ++ f ∷ []))) (its_effects v fs)) (sym is)
          (same_ends (old f.txn) (new f.txn) (calls_of (its f.txn x.ends) ++ call_of f.done ∷ []) (calls_of (its f.txn (x.ends ++ f ∷ []))) (its_effects f.txn fs) (its_effects f.txn fs) (states f.txn) (its_ends f.txn x.ends f refl) refl own)
      | inr far ↦ same_ends (old u) (new u) (calls_of (its u x.ends)) (calls_of (its u (x.ends ++ f ∷ []))) (its_effects u es) (its_effects u fs) (states u) (other_ends u x.ends f far) (same u far) (k.ends u)
    ];
  }

  -- a commit is appended
  pub books_commit : (t : ℕ) (live : List Finished) → AreApartFrom t ts → old t ≡ Some Open → new t ≡ Some Committing → ((u : ℕ) → u ≢ t → new u ≡ old u)
      → Books done (ts ++ t ∷ []) new es (record { live = live; ends = others_of t x.ends; books = x.books ++ its t x.ends ∷ [] })
  books_commit t live apart opened commits rest =
      let mine : calls_of (its t x.ends) ≡ its_effects t es = subst (λ s. HasEnds s (calls_of (its t x.ends)) (its_effects t es)) opened (k.ends t) in
      record {
        books = map-append calls_of x.books (its t x.ends ∷ []) ∙ (λ i. k.books i ++ (mine ∙ sym (effects_without ts t es apart)) i ∷ []) ∙ append_assoc done (turn ts es) (its_effects t (without_all ts es) ∷ []) ∙ ap (λ (cs : List (List Call)). done ++ cs) (sym (turn_push ts t es));
        ends = λ u. elim (cases_eq u t) [
          | inl is ↦ subst (λ (v : ℕ). HasEnds (new v) (calls_of (its v (others_of t x.ends))) (its_effects v es)) (sym is) (subst (λ s. HasEnds s (calls_of (its t (others_of t x.ends))) (its_effects t es)) (sym commits) (ap calls_of (its_gone t x.ends)))
          | inr far ↦ same_ends (old u) (new u) (calls_of (its u x.ends)) (calls_of (its u (others_of t x.ends))) (its_effects u es) (its_effects u es) (rest u far) (ap calls_of (its_kept u t x.ends far)) refl (k.ends u)
        ];
      }

  -- an abort has ended
  pub books_abort : (t : ℕ) (live : List Finished) → AreApartFrom t ts → new t ≡ None → ((u : ℕ) → u ≢ t → new u ≡ old u)
      → Books done ts new (kept (others t) es) (record { live = live; ends = others_of t x.ends; books = x.books })
  books_abort t live apart gone rest = record {
    books = k.books ∙ ap (λ (cs : List (List Call)). done ++ cs) (turn_like ts es (kept (others t) es) (all_map (λ (s : ℕ). s ≢ t) (λ (u : ℕ). its_effects u es ≡ its_effects u (kept (others t) es)) (λ u far. sym (effects_kept u t es far)) ts apart));
    ends = λ u. elim (cases_eq u t) [
      | inl is ↦ subst (λ (v : ℕ). HasEnds (new v) (calls_of (its v (others_of t x.ends))) (its_effects v (kept (others t) es))) (sym is)
          (subst (λ s. HasEnds s (calls_of (its t (others_of t x.ends))) (its_effects t (kept (others t) es))) (sym gone) (ap calls_of (its_gone t x.ends) ∙ sym (effects_gone t es)))
      | inr far ↦ same_ends (old u) (new u) (calls_of (its u x.ends)) (calls_of (its u (others_of t x.ends))) (its_effects u es) (its_effects u (kept (others t) es)) (rest u far) (ap calls_of (its_kept u t x.ends far)) (effects_kept u t es far) (k.ends u)
    ];
  }

-- the first commit under way is booked
pub books_booked : (done : List (List Call)) (t : ℕ) (ts : List ℕ) (old new : ℕ → Option TxnState) (es : List Entry) (x : Recorded) → Books done (t ∷ ts) old es x → old t ≡ Some Committing → new t ≡ None → ((u : ℕ) → u ≢ t → new u ≡ old u)
    → Books (done ++ its_effects t es ∷ []) ts new (kept (others t) es) x
books_booked done t ts old new es x k commits gone rest =
    let none : calls_of (its t x.ends) ≡ [] = subst (λ s. HasEnds s (calls_of (its t x.ends)) (its_effects t es)) commits (k.ends t) in
    record {
      books = k.books ∙ sym (append_assoc done (its_effects t es ∷ []) (turn ts (kept (others t) es)));
      ends = λ u. elim (cases_eq u t) [
        | inl is ↦ subst (λ (v : ℕ). HasEnds (new v) (calls_of (its v x.ends)) (its_effects v (kept (others t) es))) (sym is)
            (subst (λ s. HasEnds s (calls_of (its t x.ends)) (its_effects t (kept (others t) es))) (sym gone) (none ∙ sym (effects_gone t es)))
        | inr far ↦ same_ends (old u) (new u) (calls_of (its u x.ends)) (calls_of (its u x.ends)) (its_effects u es) (its_effects u (kept (others t) es)) (rest u far) refl (effects_kept u t es far) (k.ends u)
      ];
    }

-- ---- in all

-- Of the transactions at work, what stands of each and did something, and under which numbers.
pub record Tallies (ts : List ℕ) (numbers : ℕ → List ℕ) (es : List Entry) (fs : List Finished) : Type 0 where
  pub live : map entry_of fs ≡ without_all ts es
  pub its : (t : ℕ) → map (λ (f : Finished). f.op) (its t fs) ≡ numbers t

module _ (ts : List ℕ) (old new : ℕ → List ℕ) (es : List Entry) (live : List Finished) (k : Tallies ts old es live) where
  pub tally_same : ((t : ℕ) → new t ≡ old t) → Tallies ts new es live
  tally_same same = record { live = k.live; its = λ t. k.its t ∙ sym (same t) }

  -- an operation that did something has ended
  pub tally_end : (f : Finished) → AreApartFrom f.txn ts → new f.txn ≡ old f.txn ++ f.op ∷ [] → ((u : ℕ) → u ≢ f.txn → new u ≡ old u)
      → Tallies ts new (es ++ entry_of f ∷ []) (live ++ f ∷ [])
  tally_end f apart mine rest = record {
    live = map-append entry_of live (f ∷ []) ∙ ap (λ (gs : List Entry). gs ++ entry_of f ∷ []) k.live ∙ sym (without_append ts es (entry_of f ∷ []) ∙ ap (λ (gs : List Entry). without_all ts es ++ gs) (without_one ts (entry_of f) [] apart ∙ ap (λ (gs : List Entry). entry_of f ∷ gs) (none ts)));
    its = λ u. ap (map (λ (g : Finished). g.op)) (filter-append (λ (g : Finished). g.txn == u) live (f ∷ [])) ∙ map-append (λ (g : Finished). g.op) (its u live) (its u (f ∷ [])) ∙ go u (cases_eq f.txn u);
  }
    where
      none : (ss : List ℕ) → without_all ss [] ≡ []
      none [] = refl
      none (s ∷ ss) = none ss

      go : (u : ℕ) → (f.txn ≡ u) ⊎ (f.txn ≡ u → ⊥) → map (λ (g : Finished). g.op) (its u live) ++ map (λ (g : Finished). g.op) (its u (f ∷ [])) ≡ new u
      go u (inl own) = rw (eq-eqb f.txn u own) (ap (λ (ns : List ℕ). ns ++ f.op ∷ []) (k.its u) ∙ ap (λ (v : ℕ). old v ++ f.op ∷ []) (sym own) ∙ sym mine ∙ ap new own)
      go u (inr apart_u) = rw (ne_eqb f.txn u apart_u) (append-nil (map (λ (g : Finished). g.op) (its u live)) ∙ k.its u ∙ sym (rest u (λ is. apart_u (sym is))))

  -- the inverse of the last of a transaction's has ended
  pub tally_undone : (t u : ℕ) (front : List Entry) (e : Entry) (back : List Entry) → es ≡ front ++ e ∷ back → e.txn ≡ t → kept (only t) back ≡ [] → AreApartFrom t ts
      → old t ≡ new t ++ u ∷ [] → AllByRecursion (λ (n : ℕ). n ≢ u) (new t) → ((v : ℕ) → v ≢ t → new v ≡ old v)
      → Tallies ts new (front ++ back) (without t u live)
  tally_undone t u front e back is own none apart mine less rest = record {
    live = ap (map entry_of) cut ∙ map-append entry_of p.front p.back ∙ (λ i. p.front_is i ++ p.back_is i) ∙ sym (without_append ts front back);
    its = λ v. ap (λ (gs : List Finished). map (λ (g : Finished). g.op) (its v gs)) cut ∙ go v (cases_eq v t);
  }
    where
      apart_e : AreApartFrom e.txn ts
      apart_e = subst (λ (v : ℕ). AreApartFrom v ts) (sym own) apart

      split : map entry_of live ≡ without_all ts front ++ e ∷ without_all ts back
      split = k.live ∙ ap (without_all ts) is ∙ without_append ts front (e ∷ back) ∙ ap (λ (gs : List Entry). without_all ts front ++ gs) (without_one ts e back apart_e)

      p : Parted entry_of live (without_all ts front) e (without_all ts back)
      p = parted entry_of live (without_all ts front) e (without_all ts back) split

      mid_txn : p.mid.txn ≡ t
      mid_txn = ap (λ (y : Entry). y.txn) p.mid_is ∙ own

      none_back : its t p.back ≡ []
      none_back = none_mapped (its t p.back) (entries_its t p.back ∙ ap (kept (only t)) p.back_is ∙ without_only ts t back none)

      ops : List Finished → List ℕ
      ops gs = map (λ (g : Finished). g.op) gs

      its_parts : (v : ℕ) → its v live ≡ its v p.front ++ its v (p.mid ∷ p.back)
      its_parts v = ap (its v) p.is ∙ filter-append (λ (g : Finished). g.txn == v) p.front (p.mid ∷ p.back)

      own_parts : its t live ≡ its t p.front ++ p.mid ∷ []
      own_parts = its_parts t ∙ ap (λ (gs : List Finished). its t p.front ++ gs) (ap (λ (c : Bool). cond c (p.mid ∷ its t p.back) (its t p.back)) (eq-eqb p.mid.txn t mid_txn) ∙ ap (λ (gs : List Finished). p.mid ∷ gs) none_back)

      numbers : ops (its t p.front) ++ p.mid.op ∷ [] ≡ new t ++ u ∷ []
      numbers = sym (ap ops own_parts ∙ map-append (λ (g : Finished). g.op) (its t p.front) (p.mid ∷ [])) ∙ k.its t ∙ mine

      last : (xs ys : List ℕ) (m n : ℕ) → xs ++ m ∷ [] ≡ ys ++ n ∷ [] → (xs ≡ ys) × (m ≡ n)
      last [] [] m n same = (refl, cons_head m n [] [] same)
      last [] (y ∷ []) m n same = absurd cc
      last [] (y ∷ z ∷ ys) m n same = absurd cc
      last (y ∷ []) [] m n same = absurd cc
      last (y ∷ z ∷ xs) [] m n same = absurd cc
      last (a ∷ xs) (b ∷ ys) m n same =
          let rest = last xs ys m n (cons_tail a b (xs ++ m ∷ []) (ys ++ n ∷ []) same) in
          ((λ i. cons_head a b (xs ++ m ∷ []) (ys ++ n ∷ []) same i ∷ rest.0 i), rest.1)

      both : (ops (its t p.front) ≡ new t) × (p.mid.op ≡ u)
      both = last (ops (its t p.front)) (new t) p.mid.op u numbers

      cut : without t u live ≡ p.front ++ p.back
      cut = ap (without t u) p.is ∙ filter-append (is_but t u) p.front (p.mid ∷ p.back)
          ∙ (λ i. but_absent t u p.front (subst (AllByRecursion (λ (n : ℕ). n ≢ u)) (sym both.0) less) i ++ (but_own t u p.mid p.back mid_txn both.1 ∙ but_absent t u p.back (subst (λ (gs : List Finished). AllByRecursion (λ (n : ℕ). n ≢ u) (ops gs)) (sym none_back) tt)) i)

      go : (v : ℕ) → (v ≡ t) ⊎ (v ≡ t → ⊥) → ops (its v (p.front ++ p.back)) ≡ new v
      go v (inl same) = ap (λ (w : ℕ). ops (its w (p.front ++ p.back))) same ∙ ap ops (filter-append (λ (g : Finished). g.txn == t) p.front p.back ∙ ap (λ (gs : List Finished). its t p.front ++ gs) none_back ∙ append-nil (its t p.front)) ∙ both.0 ∙ ap new (sym same)
      go v (inr other) = ap ops (filter-append (λ (g : Finished). g.txn == v) p.front p.back ∙ sym (its_parts v ∙ ap (λ (gs : List Finished). its v p.front ++ gs) (ap (λ (c : Bool). cond c (p.mid ∷ its v p.back) (its v p.back)) (ne_eqb p.mid.txn v (λ is_v. other (sym is_v ∙ mid_txn)))))) ∙ k.its v ∙ sym (rest v other)

  -- a commit is appended
  pub tally_commit : (t : ℕ) → new t ≡ [] → ((u : ℕ) → u ≢ t → new u ≡ old u)
      → Tallies (ts ++ t ∷ []) new es (others_of t live)
  tally_commit t mine rest = record {
    live = entries_others t live ∙ ap (kept (others t)) k.live ∙ sym (without_push ts t es);
    its = λ u. gone_its t u (cases_eq u t) mine rest;
  }
    where
      gone_its : (t u : ℕ) → (u ≡ t) ⊎ (u ≡ t → ⊥) → new t ≡ [] → ((v : ℕ) → v ≢ t → new v ≡ old v) → map (λ (g : Finished). g.op) (its u (others_of t live)) ≡ new u
      gone_its t u (inl same) mine rest = ap (λ (v : ℕ). map (λ (g : Finished). g.op) (its v (others_of t live))) same ∙ ap (map (λ (g : Finished). g.op)) (its_gone t live) ∙ sym mine ∙ ap new (sym same)
      gone_its t u (inr other) mine rest = ap (map (λ (g : Finished). g.op)) (its_kept u t live other) ∙ k.its u ∙ sym (rest u other)

  -- an abort has ended
  pub tally_abort : (t : ℕ) → AreApartFrom t ts → new t ≡ [] → ((u : ℕ) → u ≢ t → new u ≡ old u)
      → Tallies ts new (kept (others t) es) (others_of t live)
  tally_abort t apart mine rest = record {
    live = entries_others t live ∙ ap (kept (others t)) k.live ∙ sym (without_kept ts t es);
    its = λ u. gone_its u (cases_eq u t);
  }
    where
      gone_its : (u : ℕ) → (u ≡ t) ⊎ (u ≡ t → ⊥) → map (λ (g : Finished). g.op) (its u (others_of t live)) ≡ new u
      gone_its u (inl same) = ap (λ (v : ℕ). map (λ (g : Finished). g.op) (its v (others_of t live))) same ∙ ap (map (λ (g : Finished). g.op)) (its_gone t live) ∙ sym mine ∙ ap new (sym same)
      gone_its u (inr other) = ap (map (λ (g : Finished). g.op)) (its_kept u t live other) ∙ k.its u ∙ sym (rest u other)

-- the first commit under way is booked
pub tally_booked : (t : ℕ) (ts : List ℕ) (old new : ℕ → List ℕ) (es : List Entry) (live : List Finished) → Tallies (t ∷ ts) old es live → ((u : ℕ) → new u ≡ old u)
    → Tallies ts new (kept (others t) es) live
tally_booked t ts old new es live k same = record { live = k.live; its = λ u. k.its u ∙ sym (same u) }

-- ---- numbers

none_did : (cs : List Noted) (ns : List ℕ) → last_place cs ≡ None → numbers_did cs ns ≡ []
none_did [] ns is = refl
none_did (c ∷ cs) [] is = refl
none_did (c ∷ cs) (n ∷ ns) is = go (last_place cs) refl (has_inverse c) refl is (λ k. none_did cs ns k)
  where
    go : (o : Option ℕ) → last_place cs ≡ o → (h : Bool) → has_inverse c ≡ h → later o h ≡ None → (last_place cs ≡ None → numbers_did cs ns ≡ []) → cond h (n ∷ numbers_did cs ns) (numbers_did cs ns) ≡ []
    go (Some k) at h test none rec = absurd cc
    go None at true test none rec = absurd cc
    go None at false test none rec = rec at

-- the last of them is that of the last place
pub did_last : (cs : List Noted) (ns : List ℕ) (n : ℕ) → length ns ≡ length cs → last_place cs ≡ Some n → numbers_did cs ns ≡ numbers_did (take n cs) (take n ns) ++ get_or ns n 0 ∷ []
did_last [] ns n len is = absurd cc
did_last (c ∷ cs) [] n len is = absurd (omega (arith, len))
did_last (c ∷ cs) (m ∷ ns) n len is = go (last_place cs) refl (has_inverse c) refl is (λ k at. did_last cs ns k (omega (arith, len)) at)
  where
    go : (o : Option ℕ) → last_place cs ≡ o → (h : Bool) → has_inverse c ≡ h → later o h ≡ Some n → ((k : ℕ) → last_place cs ≡ Some k → numbers_did cs ns ≡ numbers_did (take k cs) (take k ns) ++ get_or ns k 0 ∷ [])
        → cond h (m ∷ numbers_did cs ns) (numbers_did cs ns) ≡ numbers_did (take n (c ∷ cs)) (take n (m ∷ ns)) ++ get_or (m ∷ ns) n 0 ∷ []
    go (Some k) at true test some rec = let same : suc k ≡ n = cc in subst (λ (j : ℕ). m ∷ numbers_did cs ns ≡ numbers_did (take j (c ∷ cs)) (take j (m ∷ ns)) ++ get_or (m ∷ ns) j 0 ∷ []) same (rw test (ap (λ (xs : List ℕ). m ∷ xs) (rec k at)))
    go (Some k) at false test some rec = let same : suc k ≡ n = cc in subst (λ (j : ℕ). numbers_did cs ns ≡ numbers_did (take j (c ∷ cs)) (take j (m ∷ ns)) ++ get_or (m ∷ ns) j 0 ∷ []) same (rw test (rec k at))
    go None at true test some rec = let same : 0 ≡ n = cc in subst (λ (j : ℕ). m ∷ numbers_did cs ns ≡ numbers_did (take j (c ∷ cs)) (take j (m ∷ ns)) ++ get_or (m ∷ ns) j 0 ∷ []) same (ap (λ (xs : List ℕ). m ∷ xs) (none_did cs ns at))
    go None at false test some rec = absurd cc

pub did_push : (cs : List Noted) (ns : List ℕ) (c : Noted) (n : ℕ) → length ns ≡ length cs → numbers_did (cs ++ c ∷ []) (ns ++ n ∷ []) ≡ numbers_did cs ns ++ cond (has_inverse c) (n ∷ []) []
did_push [] [] c n len = refl
did_push [] (m ∷ ns) c n len = absurd (omega (arith, len))
did_push (d ∷ cs) [] c n len = absurd (omega (arith, len))
did_push (d ∷ cs) (m ∷ ns) c n len = go (has_inverse d) (did_push cs ns c n (omega (arith, len)))
  where
    go : (h : Bool) → numbers_did (cs ++ c ∷ []) (ns ++ n ∷ []) ≡ numbers_did cs ns ++ cond (has_inverse c) (n ∷ []) []
        → cond h (m ∷ numbers_did (cs ++ c ∷ []) (ns ++ n ∷ [])) (numbers_did (cs ++ c ∷ []) (ns ++ n ∷ [])) ≡ cond h (m ∷ numbers_did cs ns) (numbers_did cs ns) ++ cond (has_inverse c) (n ∷ []) []
    go true rec = ap (λ (xs : List ℕ). m ∷ xs) rec
    go false rec = rec

-- numbers that rise are above those before them
all_did : (P : ℕ → Type 0) (cs : List Noted) (ns : List ℕ) → AllByRecursion P ns → AllByRecursion P (numbers_did cs ns)
all_did P [] ns all = tt
all_did P (c ∷ cs) [] all = tt
all_did P (c ∷ cs) (n ∷ ns) all = go (has_inverse c) (all_did P cs ns all.1)
  where
    go : (h : Bool) → AllByRecursion P (numbers_did cs ns) → AllByRecursion P (cond h (n ∷ numbers_did cs ns) (numbers_did cs ns))
    go true rest = (all.0, rest)
    go false rest = rest

all_each : (P : ℕ → Type 0) (ns : List ℕ) → All P ns → AllByRecursion P ns
all_each P [] all = tt
all_each P (n ∷ ns) all = (All-head P n ns all, all_each P ns (All-tail P n ns all))

pub rising_apart : (cs : List Noted) (ns front : List ℕ) (u : ℕ) → AllPairs (λ (a b : ℕ). a < b) ns → numbers_did cs ns ≡ front ++ u ∷ [] → AllByRecursion (λ (n : ℕ). n ≢ u) front
rising_apart cs ns [] u rising is = tt
rising_apart [] ns (f ∷ front) u rising is = absurd cc
rising_apart (c ∷ cs) [] (f ∷ front) u rising is = absurd cc
rising_apart (c ∷ cs) (n ∷ ns) (f ∷ front) u rising is = go (has_inverse c) is (λ fs now. rising_apart cs ns fs u (pairs_tail (λ (a b : ℕ). a < b) n ns rising) now)
  where
    go : (h : Bool) → cond h (n ∷ numbers_did cs ns) (numbers_did cs ns) ≡ f ∷ front ++ u ∷ [] → ((fs : List ℕ) → numbers_did cs ns ≡ fs ++ u ∷ [] → AllByRecursion (λ (m : ℕ). m ≢ u) fs) → AllByRecursion (λ (m : ℕ). m ≢ u) (f ∷ front)
    go true now rec =
        let head : n ≡ f = cons_head n f (numbers_did cs ns) (front ++ u ∷ []) now in
        let tail : numbers_did cs ns ≡ front ++ u ∷ [] = cons_tail n f (numbers_did cs ns) (front ++ u ∷ []) now in
        let above : n < u = all_back (λ (m : ℕ). n < m) front u (subst (AllByRecursion (λ (m : ℕ). n < m)) tail (all_did (λ (m : ℕ). n < m) cs ns (all_each (λ (m : ℕ). n < m) ns (pairs_head (λ (a b : ℕ). a < b) n ns rising)))) in
        (λ same. omega (arith, above, head, same), rec front tail)
    go false now rec = rec (f ∷ front) now
