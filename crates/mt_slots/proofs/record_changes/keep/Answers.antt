use Rattle.std.proofs.Common.{arith, rules, ◌∙◌, sym, ap, ℕ, refl}
use Rattle.std.proofs.lemmas.Grind.{common_steps}
use Rattle.mt_slots.specs.Page.{Row, row_at, row_size}
use Rattle.mt_slots.proofs.Pages.{row_inside}
use Rattle.mt_base.proofs.Places.{part_has}
use Rattle.mt_slots.proofs.record_changes.keep.Goals as goal

pub view_at-view-requires : goal.view_at-view-requires
view_at-view-requires c = rw c.offset_of.ensures.is (row_inside c.args.page.now c.args.i c.requires.shaped c.requires.there c.requires.live)

pub returns : goal.returns
unfolding row_at row_size
returns c = record {
  same = search rules;
  small = search rules;
  long = search rules;
  fits = grind (arith, common_steps);
  key = part_has c.put.new.page c.view_at-view.result.key.now 0 _ c.put.ensures.has refl
      ∙ ap (λ (r : Row). r.key) (sym c.view_at-view.ensures) ∙ ap (λ (at : ℕ). (row_at c.args.page.now at).key) c.offset_of.ensures.is;
}
