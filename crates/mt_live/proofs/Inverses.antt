-- A transaction that lives alone goes back: its calls, those that count, and the inverses that are left.
use Rattle.std.proofs.Common.{◌≡◌, ◌≤◌, ◌+◌, ◌==◌, ℕ, zero, suc, Bool, true, false, cond, List, [], ◌∷◌, ◌++◌, Option, Some, None, is_some, filter, map, take, drop, length, refl, ap, ap₂, sym, subst, ◌∙◌, arith}
use Rattle.std.specs.Prelude.{◌&&◌}
use Rattle.std.proofs.lemmas.Bool.{and_parts}
use Rattle.std.proofs.lemmas.Bool.Decides.{Decides-eqb}
use Rattle.std.proofs.lemmas.List.{append-nil, drop-map, length-map, map-append, take-map}
use Rattle.std.proofs.lemmas.List.Elements.{filter-append}
use Rattle.mt_model.specs.declared.operations.Op.{Op}
use Rattle.mt_model.specs.History.{Call, run}
use Rattle.mt_model.specs.Model.{Base, reply_of, base_after, inverse_of}
use Rattle.mt_live.specs.declared.transactions.Role.TheVariants.{Stands, TakenBack, Back}
use Rattle.mt_live.specs.Entries.{Entry, with_role, is_standing, calls, kept}
use Rattle.mt_live.specs.Inverses.{inverse_on, inverses_on}
use Rattle.mt_live.specs.Sound.{Each}
use Rattle.mt_live.specs.Undoing.{is_counted, is_effect, last_of, last_effect, after_first, mark_last, mark_all, settle_after}
use Rattle.mt_live.proofs.Cuts.{IsIdle, IsLastDone, Cut, idle_all, stands_from}
use Rattle.mt_live.proofs.Reaching.{last_after}

-- ---- inverses of calls

-- none of these did anything
abbrev pub AreIdle : List Call → Type 0
AreIdle [] = Unit {0}
AreIdle (c ∷ cs) = (inverse_of c.0 c.1 ≡ None) × AreIdle cs

pub inverses_idle : (m : Base) (cs : List Call) → AreIdle cs → inverses_on m cs ≡ []
inverses_idle m [] h = refl
inverses_idle m (c ∷ cs) h =
    ap (λ (o : Option Op). inverses_on m cs ++ inverse_on (run m (inverses_on m cs)) o) h.0 ∙ ap (λ (xs : List Call). xs ++ []) (inverses_idle m cs h.1)

-- the inverse of the last that did something is the first
inverses_from : (m : Base) (front : List Call) (c : Call) (rest : List Call) (i : Op) → inverse_of c.0 c.1 ≡ Some i → AreIdle rest
    → inverses_on m (front ++ c ∷ rest) ≡ (i, reply_of m i) ∷ inverses_on (base_after m i) (front ++ rest)
inverses_from m [] c rest i inverse idle =
    ap₂ (λ (xs : List Call) (o : Option Op). xs ++ inverse_on (run m xs) o) (inverses_idle m rest idle) inverse
    ∙ ap (λ (xs : List Call). (i, reply_of m i) ∷ xs) (sym (inverses_idle (base_after m i) rest idle))
inverses_from m (x ∷ front) c rest i inverse idle =
    ap (λ (xs : List Call). xs ++ inverse_on (run m xs) (inverse_of x.0 x.1)) (inverses_from m front c rest i inverse idle)

-- ---- a list without an element past its first so many

record IsAround (n : ℕ) (front rest : List Call) (c : Call) : Type 0 where
  first : take n (front ++ rest) ≡ take n (front ++ c ∷ rest)
  with : drop n (front ++ c ∷ rest) ≡ drop n front ++ c ∷ rest
  without : drop n (front ++ rest) ≡ drop n front ++ rest

around : (n : ℕ) (front rest : List Call) (c : Call) → n ≤ length front → IsAround n front rest c
around zero front rest c low = record { first = refl; with = refl; without = refl }
around (suc n) [] rest c low = absurd (omega arith)
around (suc n) (x ∷ front) rest c low =
    let more = around n front rest c (omega arith) in
    record { first = ap (λ (xs : List Call). x ∷ xs) more.first; with = more.with; without = more.without }

-- ---- those that count

no_and : (b : Bool) → (b && false) ≡ false
no_and true = refl
no_and false = refl

counts : (t : ℕ) (e : Entry) → e.txn ≡ t → e.role ≡ Stands → is_counted t e ≡ true
counts t e own role = ap₂ (λ (a b : Bool). a && b) ((Decides-eqb e.txn t).1 own) (ap is_standing role)

counts_no_more : (t : ℕ) (e : Entry) → is_counted t (with_role TakenBack e) ≡ false
counts_no_more t e = no_and (e.txn == t)

idle_counted : (t : ℕ) (es : List Entry) → Each (IsIdle t) es → AreIdle (calls (filter (is_counted t) es))
idle_counted t [] idle = tt
idle_counted t (e ∷ es) idle = go (is_counted t e) refl (idle_counted t es idle.1)
  where
    go : (b : Bool) → is_counted t e ≡ b → AreIdle (calls (filter (is_counted t) es)) → AreIdle (calls (cond b (e ∷ filter (is_counted t) es) (filter (is_counted t) es)))
    go true is rest = let parts = and_parts (e.txn == t) (is_standing e.role) is in
        (idle.0 ((Decides-eqb e.txn t).0 parts.0) (stands_from e.role parts.1), rest)
    go false is rest = rest

counted_split : (t : ℕ) (front rest : List Entry) (e : Entry) → is_counted t e ≡ true
    → calls (filter (is_counted t) (front ++ e ∷ rest)) ≡ calls (filter (is_counted t) front) ++ (e.op, e.reply) ∷ calls (filter (is_counted t) rest)
counted_split t front rest e is =
    ap calls (filter-append (is_counted t) front (e ∷ rest) ∙ ap (λ (b : Bool). filter (is_counted t) front ++ cond b (e ∷ filter (is_counted t) rest) (filter (is_counted t) rest)) is)
    ∙ map-append (λ (x : Entry). (x.op, x.reply)) (filter (is_counted t) front) (e ∷ filter (is_counted t) rest)

counted_without : (t : ℕ) (front rest : List Entry) (e : Entry) → is_counted t e ≡ false
    → calls (filter (is_counted t) (front ++ e ∷ rest)) ≡ calls (filter (is_counted t) front) ++ calls (filter (is_counted t) rest)
counted_without t front rest e is =
    ap calls (filter-append (is_counted t) front (e ∷ rest) ∙ ap (λ (b : Bool). filter (is_counted t) front ++ cond b (e ∷ filter (is_counted t) rest) (filter (is_counted t) rest)) is)
    ∙ map-append (λ (x : Entry). (x.op, x.reply)) (filter (is_counted t) front) (filter (is_counted t) rest)

-- ---- where the last effect is

no_effect : (t : ℕ) (e : Entry) → IsIdle t e → is_effect t e ≡ false
no_effect t e idle = go (is_counted t e) refl
  where
    go : (b : Bool) → is_counted t e ≡ b → (b && is_some (inverse_of e.op e.reply)) ≡ false
    go true is = let parts = and_parts (e.txn == t) (is_standing e.role) is in
        ap is_some (idle ((Decides-eqb e.txn t).0 parts.0) (stands_from e.role parts.1))
    go false is = refl

idle_none : (t : ℕ) (es : List Entry) → Each (IsIdle t) es → last_effect t es ≡ None
idle_none t [] idle = refl
idle_none t (e ∷ es) idle = ap₂ (λ (o : Option Entry) (b : Bool). last_of o b e) (idle_none t es idle.1) (no_effect t e idle.0)

none_after : (t n : ℕ) (es : List Entry) → Each (IsIdle t) es → is_some (last_effect t (after_first t n es)) ≡ false
none_after t n es idle = go (last_effect t (after_first t n es)) refl
  where
    go : (o : Option Entry) → last_effect t (after_first t n es) ≡ o → is_some o ≡ false
    go None is = refl
    go (Some e) is = let none : None ≡ Some e = sym (idle_none t es idle) ∙ last_after t n es e is in absurd cc

-- An effect after the first so many that count has so many before it.
within_front : (t n : ℕ) (front : List Entry) (last : Entry) (rest : List Entry) → is_counted t last ≡ true → Each (IsIdle t) rest
    → is_some (last_effect t (after_first t n (front ++ last ∷ rest))) ≡ true → n ≤ length (filter (is_counted t) front)
within_front t zero front last rest counted idle some = omega arith
within_front t (suc n) [] last rest counted idle some =
    let here : is_some (last_effect t (after_first t n rest)) ≡ true = sym (ap (λ (b : Bool). is_some (last_effect t (cond b (after_first t n rest) (after_first t (suc n) rest)))) counted) ∙ some in
    let not : false ≡ true = sym (none_after t n rest idle) ∙ here in absurd cc
within_front t (suc n) (e ∷ front) last rest counted idle some = go (is_counted t e) some (within_front t n front last rest counted idle) (within_front t (suc n) front last rest counted idle)
  where
    go : (b : Bool) → is_some (last_effect t (cond b (after_first t n (front ++ last ∷ rest)) (after_first t (suc n) (front ++ last ∷ rest)))) ≡ true
        → (is_some (last_effect t (after_first t n (front ++ last ∷ rest))) ≡ true → n ≤ length (filter (is_counted t) front))
        → (is_some (last_effect t (after_first t (suc n) (front ++ last ∷ rest))) ≡ true → suc n ≤ length (filter (is_counted t) front))
        → suc n ≤ length (cond b (e ∷ filter (is_counted t) front) (filter (is_counted t) front))
    go true k first more = let low = first k in omega arith
    go false k first more = more k

-- ---- one inverse

-- how the calls, and those that count, change as the last effect is taken back
pub record TakesBack (t n : ℕ) (es : List Entry) (i : Op) : Type 0 where
  pub left : List Call
  pub left_is : calls (filter (is_counted t) (mark_last t es)) ≡ left
  pub first : take n left ≡ take n (calls (filter (is_counted t) es))
  pub rest : (m : Base) → inverses_on m (drop n (calls (filter (is_counted t) es))) ≡ (i, reply_of m i) ∷ inverses_on (base_after m i) (drop n left)

pub takes_back : (t n : ℕ) (es : List Entry) (last : Entry) (i : Op) → Cut t es last i → is_some (last_effect t (after_first t n es)) ≡ true → TakesBack t n es i
takes_back t n es last i c some =
    let d = c.done in
    let counted = counts t last d.its d.role in
    let before : List Call = calls (filter (is_counted t) c.front) in
    let rest : List Call = calls (filter (is_counted t) c.rest) in
    let low : n ≤ length (filter (is_counted t) c.front) = within_front t n c.front last c.rest counted d.idle (subst (λ (xs : List Entry). is_some (last_effect t (after_first t n xs)) ≡ true) d.place some) in
    let a = around n before rest (last.op, last.reply) (subst (λ (k : ℕ). n ≤ k) (sym (length-map (filter (is_counted t) c.front) (λ (x : Entry). (x.op, x.reply)))) low) in
    let all : calls (filter (is_counted t) es) ≡ before ++ (last.op, last.reply) ∷ rest = ap (λ (xs : List Entry). calls (filter (is_counted t) xs)) d.place ∙ counted_split t c.front c.rest last counted in
    record {
      left = before ++ rest;
      left_is = ap (λ (xs : List Entry). calls (filter (is_counted t) xs)) c.marked ∙ counted_without t c.front c.rest (with_role TakenBack last) (counts_no_more t last);
      first = a.first ∙ ap (take n) (sym all);
      rest = λ m. ap (λ (xs : List Call). inverses_on m (drop n xs)) all ∙ (ap (inverses_on m) a.with
          ∙ (inverses_from m (drop n before) (last.op, last.reply) rest i d.inverse (idle_counted t c.rest d.idle)
          ∙ ap (λ (xs : List Call). (i, reply_of m i) ∷ inverses_on (base_after m i) xs) (sym a.without)));
    }

-- the calls of a choice of transactions stay
pub marked_same : (p : ℕ → Bool) (t : ℕ) (es : List Entry) (last : Entry) (i : Op) → Cut t es last i → calls (kept p (mark_last t es)) ≡ calls (kept p es)
marked_same p t es last i c =
    ap (λ (xs : List Entry). calls (kept p xs)) c.marked
    ∙ (around_it (with_role TakenBack last) ∙ (go (p last.txn) ∙ (sym (around_it last) ∙ ap (λ (xs : List Entry). calls (kept p xs)) (sym c.done.place))))
  where
    around_it : (e : Entry) → calls (kept p (c.front ++ e ∷ c.rest)) ≡ calls (kept p c.front) ++ calls (kept p (e ∷ c.rest))
    around_it e = ap calls (filter-append (λ (x : Entry). p x.txn) c.front (e ∷ c.rest)) ∙ map-append (λ (x : Entry). (x.op, x.reply)) (kept p c.front) (kept p (e ∷ c.rest))

    go : (b : Bool) → calls (kept p c.front) ++ calls (cond b (with_role TakenBack last ∷ kept p c.rest) (kept p c.rest)) ≡ calls (kept p c.front) ++ calls (cond b (last ∷ kept p c.rest) (kept p c.rest))
    go true = refl
    go false = refl

-- ---- it is back

marked_none : (t : ℕ) (es : List Entry) → filter (is_counted t) (mark_all t es) ≡ []
marked_none t [] = refl
marked_none t (e ∷ es) = go (is_counted t e) refl (marked_none t es)
  where
    go : (b : Bool) → is_counted t e ≡ b → filter (is_counted t) (mark_all t es) ≡ [] → filter (is_counted t) (cond b (with_role TakenBack e ∷ mark_all t es) (e ∷ mark_all t es)) ≡ []
    go true is none = ap (λ (b : Bool). cond b (with_role TakenBack e ∷ filter (is_counted t) (mark_all t es)) (filter (is_counted t) (mark_all t es))) (counts_no_more t e) ∙ none
    go false is none = ap (λ (b : Bool). cond b (e ∷ filter (is_counted t) (mark_all t es)) (filter (is_counted t) (mark_all t es))) is ∙ none

settled_counts : (t n : ℕ) (es : List Entry) → filter (is_counted t) (settle_after t n es) ≡ take n (filter (is_counted t) es)
settled_counts t zero [] = refl
settled_counts t (suc n) [] = refl
settled_counts t zero (e ∷ es) = marked_none t (e ∷ es)
settled_counts t (suc n) (e ∷ es) = go (is_counted t e) refl (settled_counts t n es) (settled_counts t (suc n) es)
  where
    go : (b : Bool) → is_counted t e ≡ b → filter (is_counted t) (settle_after t n es) ≡ take n (filter (is_counted t) es) → filter (is_counted t) (settle_after t (suc n) es) ≡ take (suc n) (filter (is_counted t) es)
        → filter (is_counted t) (cond b (e ∷ settle_after t n es) (e ∷ settle_after t (suc n) es)) ≡ take (suc n) (cond b (e ∷ filter (is_counted t) es) (filter (is_counted t) es))
    go true is fewer same = ap (λ (b : Bool). cond b (e ∷ filter (is_counted t) (settle_after t n es)) (filter (is_counted t) (settle_after t n es))) is ∙ ap (λ (xs : List Entry). e ∷ xs) fewer
    go false is fewer same = ap (λ (b : Bool). cond b (e ∷ filter (is_counted t) (settle_after t (suc n) es)) (filter (is_counted t) (settle_after t (suc n) es))) is ∙ same

pub settled_calls : (t n : ℕ) (es : List Entry) → calls (filter (is_counted t) (settle_after t n es)) ≡ take n (calls (filter (is_counted t) es))
settled_calls t n es = ap calls (settled_counts t n es) ∙ sym (take-map (λ (x : Entry). (x.op, x.reply)) n (filter (is_counted t) es))

after_counts : (t n : ℕ) (es : List Entry) → filter (is_counted t) (after_first t n es) ≡ drop n (filter (is_counted t) es)
after_counts t zero [] = refl
after_counts t (suc n) [] = refl
after_counts t zero (e ∷ es) = refl
after_counts t (suc n) (e ∷ es) = go (is_counted t e) (after_counts t n es) (after_counts t (suc n) es)
  where
    go : (b : Bool) → filter (is_counted t) (after_first t n es) ≡ drop n (filter (is_counted t) es) → filter (is_counted t) (after_first t (suc n) es) ≡ drop (suc n) (filter (is_counted t) es)
        → filter (is_counted t) (cond b (after_first t n es) (after_first t (suc n) es)) ≡ drop (suc n) (cond b (e ∷ filter (is_counted t) es) (filter (is_counted t) es))
    go true fewer same = fewer
    go false fewer same = same

pub nothing_after : (t n : ℕ) (es : List Entry) (m : Base) → last_effect t (after_first t n es) ≡ None → inverses_on m (drop n (calls (filter (is_counted t) es))) ≡ []
nothing_after t n es m none =
    ap (inverses_on m) (drop-map (λ (x : Entry). (x.op, x.reply)) n (filter (is_counted t) es) ∙ ap calls (sym (after_counts t n es)))
    ∙ inverses_idle m (calls (filter (is_counted t) (after_first t n es))) (idle_counted t (after_first t n es) (idle_all t (after_first t n es) none))

-- ---- ends and inverses after the others

pub counted_more : (t : ℕ) (es : List Entry) (e : Entry) → is_counted t e ≡ true → calls (filter (is_counted t) (es ++ e ∷ [])) ≡ calls (filter (is_counted t) es) ++ (e.op, e.reply) ∷ []
counted_more t es e is = counted_split t es [] e is

pub counted_same : (t : ℕ) (es : List Entry) (e : Entry) → e.role ≡ Back → calls (filter (is_counted t) (es ++ e ∷ [])) ≡ calls (filter (is_counted t) es)
counted_same t es e role =
    ap calls (filter-append (is_counted t) es (e ∷ []) ∙ (ap (λ (b : Bool). filter (is_counted t) es ++ cond b (e ∷ []) []) (ap (λ r. (e.txn == t) && is_standing r) role ∙ no_and (e.txn == t)) ∙ append-nil (filter (is_counted t) es)))
