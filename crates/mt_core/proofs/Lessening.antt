-- What aborts have left, where others' entries go.
use Rattle.std.proofs.Common.{◌≡◌, ◌≤◌, ◌==◌, ℕ, Bool, true, false, cond, List, [], ◌∷◌, length, refl, sym, ap, subst, arith}
use Rattle.std.proofs.lemmas.List.Sums.{sum_by-cons}
use Rattle.mt_live.specs.Entries.{Entry, kept}
use Rattle.mt_pool.specs.Views.{pages}
use Rattle.mt_core.specs.Consistent.{OnlyOperations, SameRunning}
use Rattle.mt_core.specs.Work.{effect_steps, effects_left, steps_with, abort_steps, undo_steps, LeavesUndo}
use Rattle.mt_core.specs.declared.parts.Core.{Core}
use Rattle.mt_op.specs.declared.scope.OpScope.{OpScope}

effects_less : (ps t : ℕ) (p : ℕ → Bool) (es : List Entry) → effects_left ps (kept p es) t ≤ effects_left ps es t
effects_less ps t p [] = omega arith
effects_less ps t p (e ∷ es) = go (p e.txn) refl (effects_less ps t p es)
  where
    go : (b : Bool) → p e.txn ≡ b → effects_left ps (kept p es) t ≤ effects_left ps es t → effects_left ps (kept p (e ∷ es)) t ≤ effects_left ps (e ∷ es) t
    go true is rest =
        let one = sum_by-cons (effect_steps ps t) e (kept p es) in let all = sum_by-cons (effect_steps ps t) e es in
        let own : kept p (e ∷ es) ≡ e ∷ kept p es = ap (λ (b : Bool). cond b (e ∷ kept p es) (kept p es)) is in
        subst (λ (xs : List Entry). effects_left ps xs t ≤ effects_left ps (e ∷ es) t) (sym own) (omega (arith, one, all, rest))
    go false is rest =
        let all = sum_by-cons (effect_steps ps t) e es in
        let own : kept p (e ∷ es) ≡ kept p es = ap (λ (b : Bool). cond b (e ∷ kept p es) (kept p es)) is in
        subst (λ (xs : List Entry). effects_left ps xs t ≤ effects_left ps (e ∷ es) t) (sym own) (omega (arith, all, rest))

with_less : (ps : ℕ) (r : OpScope) (a b : ℕ) → a ≤ b → steps_with ps r a ≤ steps_with ps r b
with_less ps r a b less = go (r.undoes == 0) refl
  where
    go : (c : Bool) → (r.undoes == 0) ≡ c → steps_with ps r a ≤ steps_with ps r b
    go true is = rw is (omega (arith, less))
    go false is = rw is (omega (arith, less))

abort_less : (ps : ℕ) (rs : List OpScope) (t a b : ℕ) → a ≤ b → abort_steps ps rs t a ≤ abort_steps ps rs t b
abort_less ps [] t a b less = less
abort_less ps (r ∷ rs) t a b less = go (r.txn == t) refl (abort_less ps rs t a b less)
  where
    go : (c : Bool) → (r.txn == t) ≡ c → abort_steps ps rs t a ≤ abort_steps ps rs t b → abort_steps ps (r ∷ rs) t a ≤ abort_steps ps (r ∷ rs) t b
    go true is rest = rw is (with_less ps r a b less)
    go false is rest = rw is rest

module _ {D : Type 0} (k n : Core D) where
  -- a transaction leaves with its entries
  pub undo_leaves : (p : ℕ → Bool) → n.operations.store ≡ k.operations.store → SameRunning k n → n.live.standing ≡ kept p k.live.standing → LeavesUndo k n
  undo_leaves p store running standing t =
      let ps = pages k.operations.store.pool in
      let fewer : abort_steps ps k.running.items t (effects_left ps (kept p k.live.standing) t) ≤ undo_steps k t = abort_less ps k.running.items t (effects_left ps (kept p k.live.standing) t) (effects_left ps k.live.standing t) (effects_less ps t p k.live.standing) in
      let is : undo_steps n t ≡ abort_steps ps k.running.items t (effects_left ps (kept p k.live.standing) t) = λ i. abort_steps (pages (store i).pool) (running i) t (effects_left (pages (store i).pool) (standing i) t) in
      subst (λ (m : ℕ). m ≤ undo_steps k t) (sym is) fewer

  -- and none does, where only the operations' room changes
  pub undo_same : OnlyOperations k n → n.operations.store.pool.of_page ≡ k.operations.store.pool.of_page → LeavesUndo k n
  undo_same only there t =
      let same : undo_steps n t ≡ undo_steps k t = λ i. abort_steps (length (there i).items) ((only i).running.items) t (effects_left (length (there i).items) (only i).live.standing t) in
      omega (arith, same)
