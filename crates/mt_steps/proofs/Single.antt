-- Facts that hold in one way, so that it is enough to know that they hold.
use mathlib.Core.Logic.{∥∥₁_elim}
use Rattle.std.proofs.Common.{◌≡◌, ◌⊎◌, ◌<◌, ℕ, ℤ, List, [], ◌∷◌, Option, None, inl, inr, ap, arith}
use Rattle.std.proofs.Props.{props}
use Rattle.std.proofs.Math.Dec.{T_prop}
use Rattle.std.proofs.lemmas.Int.{ints}
use Rattle.mt_base.specs.Limits.{IsStep}
use Rattle.mt_space.specs.declared.changes.PageChange.{PageChange}
use Rattle.mt_space.specs.Changes.{PageBytes, IsUntouched, AreShort}

sum_prop : {A B : Type 0} → IsProp A → IsProp B → (A → B → ⊥) → IsProp (A ⊎ B)
sum_prop pa pb apart (inl a) (inl b) = ap inl (pa a b)
sum_prop pa pb apart (inl a) (inr b) = absurd (apart a b)
sum_prop pa pb apart (inr a) (inl b) = absurd (apart b a)
sum_prop pa pb apart (inr a) (inr b) = ap inr (pb a b)

pub IsStep-prop : (z : ℤ) → IsProp (IsStep z)
IsStep-prop z = sum_prop (hlevel T_prop) (hlevel T_prop) (λ up down. omega (arith, ints, up.0, down.1))

Untouched-prop : (cs : List PageChange) (p : ℕ) → IsProp (IsUntouched cs p)
Untouched-prop [] p = hlevel props
Untouched-prop (c ∷ cs) p = hlevel (props, Untouched-prop cs p)

pub Short-prop : (cs : List PageChange) (pages : PageBytes) → IsProp (AreShort cs pages)
Short-prop [] pages = hlevel props
Short-prop (c ∷ cs) pages = hlevel (props, Short-prop cs pages, Untouched-prop cs c.page)

-- a page that is asked for
pub lock_some : (at_hand : ℕ → Option (List ℕ)) (total p : ℕ) → ∥ (at_hand p ≡ None) × (p < total) ∥₁ → (at_hand p ≡ None) × (p < total)
lock_some at_hand total p some = (∥∥₁_elim some (hlevel props) (λ l. l.0), ∥∥₁_elim some (hlevel props) (λ l. l.1))
