-- The rule is one of the ways that keep the index.
use Rattle.std.proofs.Common.{◌≡◌, ℕ, Bool, true, false, ap, ◌∙◌, arith, subst, sym, ◌⊎◌, inl, inr}
use Rattle.mt_bucket.specs.Entries.{Entry}
use Rattle.mt_index.specs.Index.{State, Takes}
use Rattle.mt_index.specs.Steps.{Adds, Puts, Halves, double}
use Rattle.mt_index.specs.Rule.{Way, Here, Chained, SplitHere, SplitChained}

put_adds : (split : Bool) (e : Entry) (s t : State) → Puts e s t → Adds split e s t
put_adds true e s t p = inl p
put_adds false e s t p = p

turn : (e : Entry) (s u : State) (q l : ℕ) → (A : Type 0) → (B : Type 0) → (A × Halves e.key q l s u) ⊎ (B × Halves e.key q l (double s) u) → Halves e.key q l s u ⊎ Halves e.key q l (double s) u
turn e s u q l A B (inl x) = inl x.1
turn e s u q l A B (inr x) = inr x.1

pub way_adds : (split : Bool) (e : Entry) (s t : State) → Way split e s t → Adds split e s t
way_adds split e s t (Here p w) = put_adds split e s t (inl (p, w.puts))
way_adds split e s t (Chained z q n f w) = put_adds split e s t (inr (z, q, w.puts))
way_adds split e s t (SplitHere u q l p is m f h w) = subst (λ b. Adds b e s t) (sym is) (inr (u, q, l, turn e s u q l _ _ h, inl (p, w.puts)))
way_adds split e s t (SplitChained u q l z q2 is m f h f2 w) = subst (λ b. Adds b e s t) (sym is) (inr (u, q, l, turn e s u q l _ _ h, inr (z, q2, w.puts)))

fixed_takes : (q n : ℕ) (kind kind2 : ℕ → ℕ) → Takes q kind kind2 → kind n ≡ 1 → kind2 n ≡ 1
fixed_takes q n kind kind2 t is = t.others n (λ e. let z : kind q ≡ 1 = subst (λ x. kind x ≡ 1) e is in let f = t.free in omega (arith, z, f)) ∙ is

fixed_halves : (e : Entry) (s u : State) (q l n : ℕ) → (A : Type 0) → (B : Type 0) → (A × Halves e.key q l s u) ⊎ (B × Halves e.key q l (double s) u) → s.kind n ≡ 1 → u.kind n ≡ 1
fixed_halves e s u q l n A B (inl x) is = fixed_takes q n s.kind u.kind x.1.takes is
fixed_halves e s u q l n A B (inr x) is = fixed_takes q n s.kind u.kind x.1.takes is

-- fixed pages stay fixed
pub way_fixed : (split : Bool) (e : Entry) (s t : State) (n : ℕ) → Way split e s t → s.kind n ≡ 1 → t.kind n ≡ 1
way_fixed split e s t n (Here p w) is = ap (λ (k : ℕ → ℕ). k n) w.puts.change.kind ∙ is
way_fixed split e s t n (Chained z q no_split f w) is = fixed_takes q n s.kind t.kind w.puts.takes is
way_fixed split e s t n (SplitHere u q l p sp m f h w) is = ap (λ (k : ℕ → ℕ). k n) w.puts.change.kind ∙ fixed_halves e s u q l n _ _ h is
way_fixed split e s t n (SplitChained u q l z q2 sp m f h f2 w) is = fixed_takes q2 n u.kind t.kind w.puts.takes (fixed_halves e s u q l n _ _ h is)
