use Rattle.std.proofs.Common.{◌≡◌, ◌==◌, ◌+◌, ◌*◌, ◌≤◌, ◌∙◌, inl, inr, ℕ, true, false, ap, arith}
use Rattle.std.proofs.lemmas.Bool.{cases_eq, eq-eqb, ne_eqb}
use Rattle.mt_frame.specs.declared.slots.MasterSlot.{MasterSlot}
use Rattle.mt_log.specs.Masters.{area_size, area_start}
use Rattle.mt_log.proofs.area.AreaPlace.named_by.Goals as goal

starts_at : (slot : MasterSlot) (start : ℕ) → slot.area ≤ 1 → (slot.area == 1 ≡ false → start ≡ 8192 + 4096 * slot.pages) → (slot.area == 1 ≡ true → start ≡ 8192 + 4096 * slot.pages + slot.mib * 1048576) → start ≡ area_start slot
starts_at slot start low first second = elim (cases_eq slot.area 1) [
  | inl one ↦ let is = second (eq-eqb slot.area 1 one) in let moved : slot.area * area_size slot ≡ 1 * area_size slot = ap (λ (a : ℕ). a * area_size slot) one in omega (arith, is, moved)
  | inr other ↦ let is = first (ne_eqb slot.area 1 other) in let none : slot.area ≡ 0 = omega (arith, low, other) in let moved : slot.area * area_size slot ≡ 0 * area_size slot = ap (λ (a : ℕ). a * area_size slot) none in omega (arith, is, moved)
]

pub returns-clause-start : goal.returns-clause-start
returns-clause-start c = starts_at c.args.slot.now c.of.result.start c.requires.area c.of.ensures.first c.of.ensures.second

pub returns-clause-end : goal.returns-clause-end
returns-clause-end c = c.of.ensures.size ∙ ap (λ (n : ℕ). n + area_size c.args.slot.now) (returns-clause-start c)
