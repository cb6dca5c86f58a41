use Rattle.std.proofs.Common.{[], ◌∙◌, ◌<◌, ap, append-nil, arith, inr, refl, subst, sym}
use Rattle.std.proofs.Props.{props}
use Rattle.std.proofs.lemmas.Int.{ints}
use mathlib.Core.Logic.{∥∥₁_elim, ∥∥₁_map, ∥∥₁_prop}
use Rattle.mt_base.specs.declared.refusal.Refusal.{Refusal}
use Rattle.mt_log.specs.Words.{appended, durable}
use Rattle.mt_log.specs.Masters.{IsRuling}
use Rattle.mt_model.specs.History.{after}
use Rattle.mt_model.specs.Model.{Base}
use Rattle.mt_op.specs.Begun.{AreImages}
use Rattle.mt_op.specs.Operations.{operation_frames}
use Rattle.mt_op.specs.declared.operations.Operations.{Operations}
use Rattle.mt_txn.specs.Restarted.{FindsMeanwhile}
use Rattle.mt_txn.specs.Shown.{Restarts}
use Rattle.mt_restart.specs.Recovered.{IsRecovered}
use Rattle.mt_restart.proofs.Refusals.{not_refused, refused_so}
use Rattle.mt_restart.proofs.Opened.{base_in_bounds}
use Rattle.mt_restart.proofs.EarlyCauses.{early_none}
use Rattle.mt_restart.proofs.Rotations.{can_attach, device_now, device_was, fails_as, fault_cause, found_over, goes_on, goes_over, keeps_attached, represents, rest_of, stop_cause}
use Rattle.mt_restart.proofs.rotation.turn_over.Goals as goal

pub parts_over-operations-requires : goal.parts_over-operations-requires
parts_over-operations-requires g c = record {
  recovered = (c.args.frames, subst (λ (d : _). IsRecovered g.D.Device c.args.frames d c.in-Ok.recovered) (sym c.part-device.ensures.device) c.in-Ok.ensures.recovered);
}

pub join-kernel-requires-clause-goes_on : goal.join-kernel-requires-clause-goes_on
join-kernel-requires-clause-goes_on g c =
    let D = g.D.Device in let k = c.args.kernel in let d = c.detach-device.result.0 in let rest = c.detach-device.result.1 in let is = c.detach-device.ensures in let e = c.recover.new.device in
    let r = c.in-Ok.recovered in let here = represents k rest d is c.rests_on_its_book.ensures (g.met.D.Device.present k.core.operations.store.device) c.requires.nobody c.requires.forced in
    ∥∥₁_elim k.starts ∥∥₁_prop (λ (first, starts). ∥∥₁_map (here first starts) (λ can. (
      first,
      k.core,
      goes_on c.only_own_pages_matter.ensures k first c.part-device.result.1 c.parts_over-operations.result.0 c.parts_over-operations.result.1 c.args.frames r.restored.pages.items r.beside (rest_of k rest d is e c.part-device.result.1 c.part-device.ensures.rest) c.requires.nobody starts c.in-Ok.ensures.recovered.beside
          (c.in-Ok.ensures.shows k.relations k.counters (after first k.core.book.items) can) (base_in_bounds k.relations k.counters (D.seen d) (after first k.core.book.items) can) c.parts_over-operations.ensures.opens,
    )))

pub returns-in-Ok-clause-rotated : goal.returns-in-Ok-clause-rotated
returns-in-Ok-clause-rotated g c =
    let D = g.D.Device in let k = c.args.kernel in let d = c.detach-device.result.0 in let rest = c.detach-device.result.1 in let is = c.detach-device.ensures in let e = c.recover.new.device in
    let r = c.in-Ok.recovered in let here = represents k rest d is c.rests_on_its_book.ensures (g.met.D.Device.present k.core.operations.store.device) c.requires.nobody c.requires.forced in
    let device = ap (λ (o : Operations g.row.D.Denot). o.store.device) c.join-kernel.ensures.operations ∙ c.parts_over-operations.ensures.device ∙ c.part-device.ensures.device in
    record {
      may = early_none k c.requires.well c.requires.nobody;
      over = goes_over c.only_own_pages_matter.ensures k c.join-kernel.result c.part-device.result.1 c.parts_over-operations.result.0 c.parts_over-operations.result.1 (rest_of k rest d is e c.part-device.result.1 c.part-device.ensures.rest)
          (λ first starts. ∥∥₁_map (here first starts) (λ can. goes_on c.only_own_pages_matter.ensures k first c.part-device.result.1 c.parts_over-operations.result.0 c.parts_over-operations.result.1 c.args.frames r.restored.pages.items r.beside (rest_of k rest d is e c.part-device.result.1 c.part-device.ensures.rest) c.requires.nobody starts c.in-Ok.ensures.recovered.beside
          (c.in-Ok.ensures.shows k.relations k.counters (after first k.core.book.items) can) (base_in_bounds k.relations k.counters (D.seen d) (after first k.core.book.items) can) c.parts_over-operations.ensures.opens))
          c.join-kernel.ensures.resumed c.join-kernel.ensures.schema;
      begun = subst (λ (o : Operations g.row.D.Denot). AreImages (appended o.store.log)) (sym c.join-kernel.ensures.operations) c.parts_over-operations.ensures.fresh.images;
      well = c.join-kernel.ensures.fails ∙ c.parts_over-operations.ensures.well;
      -- the slot that the kernel names rules its device
      once = let was = k.core.operations.store.ruling in
          ap (λ (o : Operations g.row.D.Denot). o.store.ruling) c.join-kernel.ensures.operations ∙ c.parts_over-operations.ensures.ruling
          ∙ ∥∥₁_elim k.well (hlevel (props, ints)) (λ (origin, base, begun, safe).
          c.in-Ok.ensures.next was (subst (λ (x : _). IsRuling (D.seen x) was) (sym (device_was k rest d is)) (safe.fit.right.kept.rules (D.seen k.core.operations.store.device) (g.met.D.Device.present k.core.operations.store.device))));
      quiet = ap D.faults device ∙ c.recover.ensures.quiet (not_refused c.recover.result r Refusal.DeviceFailed c.in-Ok.is) ∙ ap D.faults (device_was k rest d is);
    }

pub returns-in-Ok-clause-moments : goal.returns-in-Ok-clause-moments
returns-in-Ok-clause-moments g c = λ first starts.
    let D = g.D.Device in let k = c.args.kernel in let d = c.detach-device.result.0 in let rest = c.detach-device.result.1 in let is = c.detach-device.ensures in let e = c.recover.new.device in
    let here = represents k rest d is c.rests_on_its_book.ensures (g.met.D.Device.present k.core.operations.store.device) c.requires.nobody c.requires.forced in
    let device = ap (λ (o : Operations g.row.D.Denot). o.store.device) c.join-kernel.ensures.operations ∙ c.parts_over-operations.ensures.device ∙ c.part-device.ensures.device in
    subst (λ (x : _). FindsMeanwhile D k.relations k.counters first k.core x) (sym device)
    (found_over g.met.D.Device.only_now k first d e (device_was k rest d is) (g.met.D.Device.present k.core.operations.store.device) c.requires.nobody starts k.schema
    (∥∥₁_map (here first starts) (λ can. c.recover.ensures.moments k.relations k.counters (after first k.core.book.items) can)))

pub returns-in-DeviceFailed-clause-rotated : goal.returns-in-DeviceFailed-clause-rotated
returns-in-DeviceFailed-clause-rotated g c =
    let D = g.D.Device in let k = c.args.kernel in let d = c.detach-device.result.0 in let rest = c.detach-device.result.1 in let is = c.detach-device.ensures in let e = c.recover.new.device in (
      refl,
      record {
        may = early_none k c.requires.well c.requires.nobody;
        forced = (
          k,
          record { well = c.requires.well; nobody = c.requires.nobody; forced = c.requires.forced; grows = ([], sym (append-nil (durable k.core.operations.store.log))); ruling = refl },
          refl,
        );
        failed = let failed : D.faults d < D.faults e = fault_cause D d e c.in-Err.refusal c.in-DeviceFailed.is c.in-Err.ensures.cause in
            let was = ap D.faults (device_was k rest d is) in let now = ap D.faults c.part-device-in-DeviceFailed.ensures.device in omega (arith, failed, was, now);
      },
    )

pub returns-in-DeviceFailed-clause-moments : goal.returns-in-DeviceFailed-clause-moments
returns-in-DeviceFailed-clause-moments g c = λ first starts.
    let D = g.D.Device in let k = c.args.kernel in let d = c.detach-device.result.0 in let rest = c.detach-device.result.1 in let is = c.detach-device.ensures in let e = c.recover.new.device in
    let here = represents k rest d is c.rests_on_its_book.ensures (g.met.D.Device.present k.core.operations.store.device) c.requires.nobody c.requires.forced in
    subst (λ (x : _). FindsMeanwhile D k.relations k.counters first k.core x) (sym c.part-device-in-DeviceFailed.ensures.device)
    (found_over g.met.D.Device.only_now k first d e (device_was k rest d is) (g.met.D.Device.present k.core.operations.store.device) c.requires.nobody starts k.schema
    (∥∥₁_map (here first starts) (λ can. c.recover.ensures.moments k.relations k.counters (after first k.core.book.items) can)))

pub attach-requires : goal.attach-requires
attach-requires g c =
    let D = g.D.Device in let k = c.args.kernel in let d = c.detach-device.result.0 in let rest = c.detach-device.result.1 in let is = c.detach-device.ensures in let e = c.recover.new.device in
    can_attach k rest d is e (c.in-Err.ensures.reads c.in_default.not-DeviceFailed) k.well k.starts

pub returns-in_default : goal.returns-in_default
returns-in_default g c =
    let D = g.D.Device in let k = c.args.kernel in let d = c.detach-device.result.0 in let rest = c.detach-device.result.1 in let is = c.detach-device.ensures in let e = c.recover.new.device in
    let here = represents k rest d is c.rests_on_its_book.ensures (g.met.D.Device.present k.core.operations.store.device) c.requires.nobody c.requires.forced in let n = c.attach.result in
    let reads = c.in-Err.ensures.reads c.in_default.not-DeviceFailed in
    let now = device_now k rest d is e reads n c.attach.ensures in
    let found : (first : Base) → Restarts first k → FindsMeanwhile D k.relations k.counters first k.core n.core.operations.store.device = λ first starts. subst (λ (x : _). FindsMeanwhile D k.relations k.counters first k.core x) (sym now)
    (found_over g.met.D.Device.only_now k first d e (device_was k rest d is) (g.met.D.Device.present k.core.operations.store.device) c.requires.nobody starts k.schema
    (∥∥₁_map (here first starts) (λ can. c.recover.ensures.moments k.relations k.counters (after first k.core.book.items) can))) in
    record {
      rotated = record {
        keeps = keeps_attached k rest d is e reads n c.attach.ensures found;
        cause = inr (
          early_none k c.requires.well c.requires.nobody,
          stop_cause d e n c.in-Err.refusal c.in-Err.ensures.cause
              (∥∥₁_elim k.starts ∥∥₁_prop (λ (first, starts). ∥∥₁_map (here first starts) (λ can. c.in-Err.ensures.no_other_refusal k.relations k.counters (after first k.core.book.items) can)))
              c.in_default.not-DeviceFailed (ap D.seen now ∙ reads.same) (fails_as k rest d is e reads n c.attach.ensures ∙ c.requires.well),
        );
        quiet = λ not. ap D.faults now ∙ c.recover.ensures.quiet (refused_so c.recover.result c.in-Err.refusal Refusal.DeviceFailed c.in-Err.is not) ∙ ap D.faults (device_was k rest d is);
      };
      frames = λ wrong. absurd cc;
      moments = found;
    }

pub returns-in-Ok-clause-frames : goal.returns-in-Ok-clause-frames
returns-in-Ok-clause-frames g c = λ _.
    let found = subst (λ (d : _). IsRecovered g.D.Device c.args.frames d c.in-Ok.recovered) (sym c.part-device.ensures.device) c.in-Ok.ensures.recovered in
    ap (λ (o : Operations g.row.D.Denot). operation_frames o) c.join-kernel.ensures.operations ∙ c.parts_over-operations.ensures.frames c.args.frames found
