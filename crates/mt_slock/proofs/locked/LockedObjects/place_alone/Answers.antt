use Rattle.std.proofs.Common.{slice_get, ap, sym, ◌∙◌}
use Rattle.std.specs.Map.{lookup}
use Rattle.mt_model.specs.Model.{same_object}
use Rattle.mt_slock.proofs.Keys.{same_lookup, found_key}
use Rattle.mt_slock.proofs.locked.LockedObjects.place_alone.Goals as goal

pub returns-then-ends_without : goal.returns-then-ends_without
returns-then-ends_without c = let e = c.in_ok-place.ensures in let x = c.args.object.now in record {
  key = c.in_ok-place._object.now;
  holders = c.in_ok-place.holders.now;
  at = ap (λ es. slice_get es c.in_ok-place.place) (sym c.self.view_is) ∙ e.entry;
  same = found_key x c.self.inside.holders.entries c.in_ok-place._object.now (sym e.key);
  found = ap (lookup (same_object x)) (sym c.self.view_is) ∙ (sym (same_lookup x c.self.inside.holders.entries) ∙ sym e.value);
  alone = c.if-ends_without.ensures;
}
