-- The last effect of a transaction among entries that change, and what inverses take.
use Rattle.std.proofs.Common.{◌≡◌, ◌≢◌, ℕ, ◌≤◌, ◌+◌, ◌==◌, cond, not, ◌&&◌, Bool, true, false, List, [], ◌∷◌, ◌++◌, Option, Some, None, is_some, refl, sym, ap, ◌∙◌, subst, arith}
use Rattle.std.specs.List.{sum_by}
use Rattle.std.specs.Prelude.{neg_ℤ}
use Rattle.std.proofs.lemmas.List.Sums.{sum_by-cons, sum_by_push}
use Rattle.std.proofs.lemmas.Bool.{eq-eqb, eqb-true, ne_eqb, and_left, and_parts}
use Rattle.std.specs.Prelude.{All}
use Rattle.std.proofs.lemmas.List.Elements.{All-head, All-tail, All-cons, All-filter}
use Rattle.mt_live.specs.Entries.{Entry, is_standing, kept}
use Rattle.mt_live.specs.Undoing.{only, others, is_counted, is_effect, last_of, last_effect, cut_back}
use Rattle.mt_model.specs.declared.operations.Op.{Op}
use Rattle.mt_model.specs.declared.operations.Op.TheVariants.{Get, Insert, Update, Delete, Add, Read, Scan}
use Rattle.mt_model.specs.declared.operations.Reply.{Reply}
use Rattle.mt_model.specs.declared.operations.Reply.TheVariants.{Found, Missing, Exists, Done, Was, Value, Rows, OutOfBounds}
use Rattle.mt_model.specs.Model.{inverse_of}
use Rattle.mt_steps.specs.Plans.{own_needs, undo_pages}
use Rattle.mt_core.specs.Runs.{undo_bytes, weighed}

-- ---- the last of a transaction's entries that stand and did something

pub record Effect (t : ℕ) (e : Entry) : Type 0 where
  pub own : e.txn ≡ t
  pub stands : is_standing e.role ≡ true
  pub did : is_some (inverse_of e.op e.reply) ≡ true

parts_of_effect : (t : ℕ) (e : Entry) → is_effect t e ≡ true → Effect t e
parts_of_effect t e is =
    let both = and_parts (is_counted t e) (is_some (inverse_of e.op e.reply)) is in
    let mine = and_parts (e.txn == t) (is_standing e.role) both.0 in
    record { own = eqb-true e.txn t mine.0; stands = mine.1; did = both.1 }

pub last_is : (t : ℕ) (es : List Entry) (e : Entry) → last_effect t es ≡ Some e → Effect t e
last_is t [] e is = absurd cc
last_is t (x ∷ es) e is = go (last_effect t es) refl (is_effect t x) refl is (λ k. last_is t es e k)
  where
    go : (o : Option Entry) → last_effect t es ≡ o → (b : Bool) → is_effect t x ≡ b → last_of o b x ≡ Some e → (last_effect t es ≡ Some e → Effect t e) → Effect t e
    go (Some later) was b test k rec = rec (was ∙ k)
    go None was true test k rec = let same : x ≡ e = cc in subst (Effect t) same (parts_of_effect t x test)
    go None was false test k rec = absurd cc

pub last_did : (t : ℕ) (es : List Entry) (e : Entry) → last_effect t es ≡ Some e → is_some (inverse_of e.op e.reply) ≡ true
last_did t es e is = (last_is t es e is).did

pub weighs_effect : (weight : Op → ℕ) (t : ℕ) (es : List Entry) (e : Entry) → last_effect t es ≡ Some e → weighed weight e ≡ weight e.op
weighs_effect weight t es e is = let k = last_is t es e is in let stands = k.stands in let did = k.did in rw (stands, did) refl

-- ---- what entries weigh that did something, whatever that is

module _ (weight : Op → ℕ) where
  pub weighs_last : (t : ℕ) (es : List Entry) (e : Entry) → last_effect t es ≡ Some e → weighed weight e ≤ sum_by (weighed weight) es
  weighs_last t [] e is = absurd cc
  weighs_last t (x ∷ es) e is = go (last_effect t es) refl (is_effect t x) is (λ k. weighs_last t es e k)
    where
      go : (o : Option Entry) → last_effect t es ≡ o → (b : Bool) → last_of o b x ≡ Some e → (last_effect t es ≡ Some e → weighed weight e ≤ sum_by (weighed weight) es) → weighed weight e ≤ sum_by (weighed weight) (x ∷ es)
      go (Some later) at b k rec = let rest = rec (at ∙ k) in let whole = sum_by-cons (weighed weight) x es in omega arith
      go None at true k rec = let same : x ≡ e = cc in let mine : weighed weight x ≡ weighed weight e = ap (weighed weight) same in let whole = sum_by-cons (weighed weight) x es in omega arith
      go None at false k rec = absurd cc

  pub weighs_push : (es : List Entry) (e : Entry) → sum_by (weighed weight) (es ++ e ∷ []) ≡ sum_by (weighed weight) es + weighed weight e
  weighs_push es e = let whole = sum_by_push (weighed weight) es e in omega arith

  pub weighs_less : (e : Entry) → weighed weight e ≤ weight e.op
  weighs_less e = go (is_standing e.role && is_some (inverse_of e.op e.reply))
    where
      go : (c : Bool) → cond c (weight e.op) 0 ≤ weight e.op
      go true = omega arith
      go false = omega arith

  -- an entry of a transaction that did nothing
  weightless : (t : ℕ) (x : Entry) → x.txn ≡ t → is_effect t x ≡ false → weighed weight x ≡ 0
  weightless t x own not = go (is_standing x.role && is_some (inverse_of x.op x.reply)) refl
    where
      go : (c : Bool) → (is_standing x.role && is_some (inverse_of x.op x.reply)) ≡ c → cond c (weight x.op) 0 ≡ 0
      go true is = let mine : (x.txn == t) ≡ true = eq-eqb x.txn t own in let whole : is_effect t x ≡ true = rw (mine, is) refl in absurd cc
      go false is = refl

  -- those of one transaction and those of the others
  pub weighs_apart : (t : ℕ) (es : List Entry) → sum_by (weighed weight) (kept (only t) es) + sum_by (weighed weight) (kept (others t) es) ≡ sum_by (weighed weight) es
  weighs_apart t [] = refl
  weighs_apart t (x ∷ es) = go (weighs_apart t es) (x.txn == t)
    where
      go : sum_by (weighed weight) (kept (only t) es) + sum_by (weighed weight) (kept (others t) es) ≡ sum_by (weighed weight) es → (c : Bool)
          → sum_by (weighed weight) (cond c (x ∷ kept (only t) es) (kept (only t) es)) + sum_by (weighed weight) (cond (not c) (x ∷ kept (others t) es) (kept (others t) es)) ≡ sum_by (weighed weight) (x ∷ es)
      go rest true = let whole = sum_by-cons (weighed weight) x es in let own = sum_by-cons (weighed weight) x (kept (only t) es) in omega arith
      go rest false = let whole = sum_by-cons (weighed weight) x es in let own = sum_by-cons (weighed weight) x (kept (others t) es) in omega arith

  -- a transaction that did nothing weighs nothing
  pub weighs_others : (t : ℕ) (es : List Entry) → last_effect t es ≡ None → sum_by (weighed weight) (kept (others t) es) ≡ sum_by (weighed weight) es
  weighs_others t [] none = refl
  weighs_others t (x ∷ es) none = go (last_effect t es) refl (is_effect t x) refl none (λ k. weighs_others t es k)
    where
      pick : (c : Bool) → (x.txn == t) ≡ c → is_effect t x ≡ false → sum_by (weighed weight) (kept (others t) es) ≡ sum_by (weighed weight) es
          → sum_by (weighed weight) (cond (not c) (x ∷ kept (others t) es) (kept (others t) es)) ≡ sum_by (weighed weight) (x ∷ es)
      pick true is none_x rest = let light = weightless t x (eqb-true x.txn t is) none_x in let whole = sum_by-cons (weighed weight) x es in omega arith
      pick false is none_x rest = let whole = sum_by-cons (weighed weight) x es in let own = sum_by-cons (weighed weight) x (kept (others t) es) in omega arith

      go : (o : Option Entry) → last_effect t es ≡ o → (b : Bool) → is_effect t x ≡ b → last_of o b x ≡ None → (last_effect t es ≡ None → sum_by (weighed weight) (kept (others t) es) ≡ sum_by (weighed weight) es)
          → sum_by (weighed weight) (kept (others t) (x ∷ es)) ≡ sum_by (weighed weight) (x ∷ es)
      go (Some later) at b is k rec = absurd cc
      go None at true is k rec = absurd cc
      go None at false is k rec = pick (x.txn == t) refl is (rec at)

  -- what is taken back goes, and with it nothing that weighs anything
  pub weighs_cut : (t : ℕ) (es : List Entry) (e : Entry) → last_effect t es ≡ Some e → sum_by (weighed weight) (cut_back t es) + weighed weight e ≡ sum_by (weighed weight) es
  weighs_cut t [] e is = absurd cc
  weighs_cut t (x ∷ es) e is = go (λ k. weighs_cut t es e k) (last_effect t es) refl (is_effect t x) is
    where
      go : (last_effect t es ≡ Some e → sum_by (weighed weight) (cut_back t es) + weighed weight e ≡ sum_by (weighed weight) es) → (o : Option Entry) → last_effect t es ≡ o → (c : Bool) → last_of o c x ≡ Some e
          → sum_by (weighed weight) (cond (is_some o) (x ∷ cut_back t es) (cond c (kept (others t) es) (x ∷ es))) + weighed weight e ≡ sum_by (weighed weight) (x ∷ es)
      go rec (Some later) at c k = let rest = rec (at ∙ k) in let whole = sum_by-cons (weighed weight) x es in let left = sum_by-cons (weighed weight) x (cut_back t es) in omega arith
      go rec None at true k = let same : weighed weight x ≡ weighed weight e = ap (weighed weight) (let s : x ≡ e = cc in s) in let rest = weighs_others t es at in let whole = sum_by-cons (weighed weight) x es in omega arith
      go rec None at false k = absurd cc

-- an inverse, which splits nothing, may take just the pages that its operation claimed for it
pub inverse_pages : (op : Op) (reply : Reply) (i : Op) → inverse_of op reply ≡ Some i → own_needs i false ≡ undo_pages op
inverse_pages (Get r k) reply i is = absurd cc
inverse_pages (Insert r k v) Done i is = let same : Delete r k ≡ i = cc in subst (λ (o : Op). own_needs o false ≡ 0) same refl
inverse_pages (Insert r k v) (Found x) i is = absurd cc
inverse_pages (Insert r k v) Missing i is = absurd cc
inverse_pages (Insert r k v) Exists i is = absurd cc
inverse_pages (Insert r k v) (Was x) i is = absurd cc
inverse_pages (Insert r k v) (Value x) i is = absurd cc
inverse_pages (Insert r k v) (Rows xs) i is = absurd cc
inverse_pages (Insert r k v) OutOfBounds i is = absurd cc
inverse_pages (Update r k v) (Was x) i is = let same : Update r k x ≡ i = cc in subst (λ (o : Op). own_needs o false ≡ 1) same refl
inverse_pages (Update r k v) (Found x) i is = absurd cc
inverse_pages (Update r k v) Missing i is = absurd cc
inverse_pages (Update r k v) Exists i is = absurd cc
inverse_pages (Update r k v) Done i is = absurd cc
inverse_pages (Update r k v) (Value x) i is = absurd cc
inverse_pages (Update r k v) (Rows xs) i is = absurd cc
inverse_pages (Update r k v) OutOfBounds i is = absurd cc
inverse_pages (Delete r k) (Was x) i is = let same : Insert r k x ≡ i = cc in subst (λ (o : Op). own_needs o false ≡ 2) same refl
inverse_pages (Delete r k) (Found x) i is = absurd cc
inverse_pages (Delete r k) Missing i is = absurd cc
inverse_pages (Delete r k) Exists i is = absurd cc
inverse_pages (Delete r k) Done i is = absurd cc
inverse_pages (Delete r k) (Value x) i is = absurd cc
inverse_pages (Delete r k) (Rows xs) i is = absurd cc
inverse_pages (Delete r k) OutOfBounds i is = absurd cc
inverse_pages (Add c d) Done i is = let same : Add c (neg_ℤ d) ≡ i = cc in subst (λ (o : Op). own_needs o false ≡ 0) same refl
inverse_pages (Add c d) (Found x) i is = absurd cc
inverse_pages (Add c d) Missing i is = absurd cc
inverse_pages (Add c d) Exists i is = absurd cc
inverse_pages (Add c d) (Was x) i is = absurd cc
inverse_pages (Add c d) (Value x) i is = absurd cc
inverse_pages (Add c d) (Rows xs) i is = absurd cc
inverse_pages (Add c d) OutOfBounds i is = absurd cc
inverse_pages (Read c) reply i is = absurd cc
inverse_pages (Scan r) reply i is = absurd cc

-- what has an inverse writes
pub inverse_bytes : (op : Op) (reply : Reply) (i : Op) → inverse_of op reply ≡ Some i → undo_bytes op ≡ 106496
inverse_bytes (Get r k) reply i is = absurd cc
inverse_bytes (Insert r k v) reply i is = refl
inverse_bytes (Update r k v) reply i is = refl
inverse_bytes (Delete r k) reply i is = refl
inverse_bytes (Add c d) reply i is = refl
inverse_bytes (Read c) reply i is = absurd cc
inverse_bytes (Scan r) reply i is = absurd cc

-- and so does its inverse
pub inverse_writes : (op : Op) (reply : Reply) (i : Op) → inverse_of op reply ≡ Some i → undo_bytes i ≡ 106496
inverse_writes (Insert r k v) Done i is = let same : Delete r k ≡ i = cc in subst (λ (o : Op). undo_bytes o ≡ 106496) same refl
inverse_writes (Update r k v) (Was x) i is = let same : Update r k x ≡ i = cc in subst (λ (o : Op). undo_bytes o ≡ 106496) same refl
inverse_writes (Delete r k) (Was x) i is = let same : Insert r k x ≡ i = cc in subst (λ (o : Op). undo_bytes o ≡ 106496) same refl
inverse_writes (Add c d) Done i is = let same : Add c (neg_ℤ d) ≡ i = cc in subst (λ (o : Op). undo_bytes o ≡ 106496) same refl
inverse_writes _ _ i is = absurd cc

-- what holds of all entries holds of those that are left
pub all_cut : (P : Entry → Type 0) (t : ℕ) (es : List Entry) → All P es → All P (cut_back t es)
all_cut P t [] k = k
all_cut P t (x ∷ es) k = go (is_some (last_effect t es)) (is_effect t x) (all_cut P t es (All-tail P x es k))
  where
    rest : All P es
    rest = All-tail P x es k

    go : (a b : Bool) → All P (cut_back t es) → All P (cond a (x ∷ cut_back t es) (cond b (kept (others t) es) (x ∷ es)))
    go true b left = All-cons P x (cut_back t es) (All-head P x es k) left
    go false true left = All-filter (λ (e : Entry). others t e.txn) P es rest
    go false false left = k

-- ---- another transaction's entries come and go

away : (t : ℕ) (e : Entry) → (e.txn == t) ≡ false → is_effect t e ≡ false
away t e is = and_left (is_counted t e) (is_some (inverse_of e.op e.reply)) (and_left (e.txn == t) (is_standing e.role) is)

none_here : (u : ℕ) (e : Entry) → u ≢ e.txn → is_effect u e ≡ false
none_here u e apart = away u e (ne_eqb e.txn u (λ is. apart (sym is)))

pub last_push : (u : ℕ) (es : List Entry) (e : Entry) → u ≢ e.txn → last_effect u (es ++ e ∷ []) ≡ last_effect u es
last_push u [] e apart = ap (λ (c : Bool). cond c (Some e) None) (none_here u e apart)
last_push u (x ∷ es) e apart = ap (λ (o : Option Entry). last_of o (is_effect u x) x) (last_push u es e apart)

last_skips : (o : Option Entry) (x : Entry) → last_of o false x ≡ o
last_skips None x = refl
last_skips (Some e) x = refl

pub last_kept : (u t : ℕ) (es : List Entry) → u ≢ t → last_effect u (kept (others t) es) ≡ last_effect u es
last_kept u t [] apart = refl
last_kept u t (x ∷ es) apart = go (last_kept u t es apart) (x.txn == t) refl
  where
    go : last_effect u (kept (others t) es) ≡ last_effect u es → (c : Bool) → (x.txn == t) ≡ c → last_effect u (cond (not c) (x ∷ kept (others t) es) (kept (others t) es)) ≡ last_of (last_effect u es) (is_effect u x) x
    go rec true is =
        let gone : is_effect u x ≡ false = none_here u x (λ e. apart (e ∙ eqb-true x.txn t is)) in
        rec ∙ sym (ap (λ (c : Bool). last_of (last_effect u es) c x) gone ∙ last_skips (last_effect u es) x)
    go rec false is = ap (λ (o : Option Entry). last_of o (is_effect u x) x) rec

-- its own entries say as much of it
pub last_only : (t : ℕ) (es : List Entry) → last_effect t (kept (only t) es) ≡ last_effect t es
last_only t [] = refl
last_only t (x ∷ es) = go (last_only t es) (x.txn == t) refl
  where
    go : last_effect t (kept (only t) es) ≡ last_effect t es → (c : Bool) → (x.txn == t) ≡ c → last_effect t (cond c (x ∷ kept (only t) es) (kept (only t) es)) ≡ last_of (last_effect t es) (is_effect t x) x
    go rec true is = ap (λ (o : Option Entry). last_of o (is_effect t x) x) rec
    go rec false is =
        rec ∙ sym (ap (λ (c : Bool). last_of (last_effect t es) c x) (away t x is) ∙ last_skips (last_effect t es) x)

pub last_cut : (u t : ℕ) (es : List Entry) → u ≢ t → last_effect u (cut_back t es) ≡ last_effect u es
last_cut u t [] apart = refl
last_cut u t (x ∷ es) apart = go (last_cut u t es apart) (is_some (last_effect t es)) (is_effect t x) refl
  where
    go : last_effect u (cut_back t es) ≡ last_effect u es → (a c : Bool) → is_effect t x ≡ c → last_effect u (cond a (x ∷ cut_back t es) (cond c (kept (others t) es) (x ∷ es))) ≡ last_of (last_effect u es) (is_effect u x) x
    go rec true c is = ap (λ (o : Option Entry). last_of o (is_effect u x) x) rec
    go rec false true is =
        let own : x.txn ≡ t = (parts_of_effect t x is).own in
        let gone : is_effect u x ≡ false = none_here u x (λ e. apart (e ∙ own)) in
        last_kept u t es apart ∙ sym (ap (λ (c : Bool). last_of (last_effect u es) c x) gone ∙ last_skips (last_effect u es) x)
    go rec false false is = refl
