use Rattle.std.proofs.Common.{arith, length, ◌≡◌, List, [], ◌∙◌, ap, subst, sym}
use Rattle.std.proofs.lemmas.Grind.{common_steps}
use Rattle.std.proofs.lemmas.List.{nil_from_length}
use Rattle.mt_overlay.specs.Overlays.{copied}
use Rattle.mt_steps.specs.Scanned.{IsScannedTo}
use Rattle.mt_overlay.specs.declared.overlay.PageCopy.{PageCopy}
use Rattle.mt_steps.specs.declared.copies.Copies.TheInside.{Inside}
use Rattle.mt_steps.proofs.copies.Copies.reserve.Goals.{then-capacity, else-capacity}
use Rattle.mt_steps.proofs.copies.Copies.reserve.Goals as goal

-- what was scanned is so of fields with the same copies
moved : (a b : Inside) (cs : List PageCopy) → cs ≡ a.pages.list.items → b.pages.total ≡ a.pages.total → b.scan ≡ a.scan
    → IsScannedTo (copied a.pages.list.items) a.pages.total a.scan → IsScannedTo (copied cs) b.pages.total b.scan
moved a b cs items total scan so_far = subst (λ (X : Type 0). X) (λ i. IsScannedTo (copied (sym items i)) (sym total i) (sym scan i)) so_far

pub invariant_of-self : goal.invariant_of-self
invariant_of-self c = subst (λ (cs : List PageCopy). IsScannedTo (copied cs) c.self.inside.pages.total c.self.inside.scan) (sym c.reserve.ensures.items) c.self.invariant

pub invariant_of-self-2 : goal.invariant_of-self-2
invariant_of-self-2 c = elim c.if-capacity.branch [
  | then-capacity w ↦
      let empty : c.self.inside.pages.list.items ≡ [] = let e = c.is_empty.ensures in let f = c.if-not-is_empty.false in let z : length c.self.inside.pages.list.items ≡ 0 = grind (arith, common_steps) in nil_from_length _ z in
      let items : c.reserve-2.new.self.items ≡ c.self.inside.pages.list.items = c.reserve-2.ensures.items ∙ ap (λ (x : Inside). x.pages.list.items) w.self-inside-is ∙ ap (λ (v : _). v.items) w.swap.ensures.x_after ∙ c.spare.invariant ∙ sym empty in
      moved c.self.inside c.if-capacity.self-inside c.reserve-2.new.self.items items (ap (λ (x : Inside). x.pages.total) w.self-inside-is) (ap (λ (x : Inside). x.scan) w.self-inside-is) c.self.invariant
  | else-capacity w ↦
      let items : c.reserve-2.new.self.items ≡ c.self.inside.pages.list.items = c.reserve-2.ensures.items ∙ ap (λ (x : Inside). x.pages.list.items) w.self-inside-is in
      moved c.self.inside c.if-capacity.self-inside c.reserve-2.new.self.items items (ap (λ (x : Inside). x.pages.total) w.self-inside-is) (ap (λ (x : Inside). x.scan) w.self-inside-is) c.self.invariant
]
