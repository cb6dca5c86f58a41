use Rattle.std.proofs.Common.{◌≡◌, Some, not, ap, sym, ◌∙◌}
use Rattle.std.specs.Map.{lookup}
use Rattle.std.specs.Option.{option_copied}
use Rattle.mt_model.specs.Model.{same_object}
use Rattle.mt_slock.specs.Views.{holds_in}
use Rattle.mt_slock.proofs.Keys.{same_lookup}
use Rattle.mt_slock.proofs.Entries.{barring_is}
use Rattle.mt_slock.proofs.locked.LockedObjects.standing.Goals as goal

pub returns-in-Some : goal.returns-in-Some
returns-in-Some c =
    let found : lookup (same_object c.args.object.now) c.args.self.now ≡ Some c.in-Some.holders.now =
    ap (lookup (same_object c.args.object.now)) (sym c.self.view_is)
    ∙ (sym (same_lookup c.args.object.now c.self.inside.holders.entries) ∙ (sym c.get.ensures.value ∙ ap option_copied c.in-Some.is)) in
    record {
      bar = barring_is c.args.self.now c.args.object.now c.args.txn c.args.mode c.in-Some.holders.now c.barring.result found c.barring.ensures;
      fresh = ap not (c.has.ensures ∙ ap (λ o. holds_in o c.args.txn c.args.mode) (sym found));
      alone = λ e. absurd cc;
    }
