use Rattle.std.proofs.Common.{◌≡◌, ◌∙◌, ℕ, ap, inr, min, sym, subst}
use Rattle.mt_restart.specs.Migrated.{Additions}
use Rattle.mt_device_commands.specs.Migrations.{additions, StandsGrown, StandsOrGrown}
use Rattle.mt_device_commands.proofs.MigrateLemmas.{stands_or_grown}
use Rattle.mt_device_commands.proofs.migrate_command.migrate_device.Goals as goal

pub returns-in-Ok-clause-migrated : goal.returns-in-Ok-clause-migrated
returns-in-Ok-clause-migrated g c =
    let D = g.D.Device in
    let new = c.in-Ok.kernel.core.operations.store.device in
    let asked : Additions = record { relations = c.min-relations.result; new_counters = c.as_slice.result.now } in
    let same : asked ≡ additions c.args.growth.now = λ i. record { relations = (c.min-relations.ensures ∙ ap (λ (n : ℕ). min c.args.growth.now.relations n) c.from.ensures) i; new_counters = c.as_slice.ensures.value i } in
    subst (λ (m : Additions). StandsGrown m (D.seen c.args.device) (D.seen c.into_device.result)) same
    (subst (λ (d : _). StandsGrown asked (D.seen c.args.device) (D.seen d)) (sym c.into_device.ensures.device)
    (λ relations counters b can. c.in-Ok.ensures.stands relations counters b can (D.seen new) (g.met.D.Device.present new)))

pub returns-in-Ok-clause-stands : goal.returns-in-Ok-clause-stands
returns-in-Ok-clause-stands g c = λ relations counters b can. inr (returns-in-Ok-clause-migrated g c relations counters b can)

pub returns-in-Err-clause-stands : goal.returns-in-Err-clause-stands
returns-in-Err-clause-stands g c =
    let D = g.D.Device in
    let new = c.in-Err.device in
    let asked : Additions = record { relations = c.min-relations.result; new_counters = c.as_slice.result.now } in
    let same : asked ≡ additions c.args.growth.now = λ i. record { relations = (c.min-relations.ensures ∙ ap (λ (n : ℕ). min c.args.growth.now.relations n) c.from.ensures) i; new_counters = c.as_slice.ensures.value i } in
    subst (λ (m : Additions). StandsOrGrown m (D.seen c.args.device) (D.seen new)) same
    (stands_or_grown D asked c.args.device new c.requires.settled c.in-Err.ensures.moments (λ t le. g.met.D.Device.counts_now new t (D.seen new) le (g.met.D.Device.present new)))
