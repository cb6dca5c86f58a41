use mathlib.Core.Logic.{∥∥₁_map}
use Rattle.std.proofs.Common.{refl, sym}
use Rattle.std.proofs.lemmas.Result.{IfOk-weaker}
use Rattle.mt_model.specs.declared.operations.Op.TheVariants.{Scan}
use Rattle.mt_overlay.specs.Overlays.{copied}
use Rattle.mt_steps.proofs.Promised.{ok_both, asks_same, quiet_planned}
use Rattle.mt_steps.proofs.Naming.{quiet_reported}
use Rattle.mt_steps.proofs.continued_plan.plan_over.Goals as goal

pub scan_over-requires-clause-good : goal.scan_over-requires-clause-good
scan_over-requires-clause-good c = rw c.copies.view_is (∥∥₁_map c.requires.good (λ (relations, counters, has, within, few). (relations, (has.0, has.1, has.2.meaning, has.2.rows))))

pub plan-requires : goal.plan-requires
plan-requires c = rw c.copies.view_is (record { sound = c.requires.sound; good = c.requires.good; searched = c.requires.searched })

pub returns-in_default : goal.returns-in_default
returns-in_default c = let f = c.plan.ensures in rw (← c.copies.view_is) (record {
  same = refl;
  lock = f.lock;
  asks = f.asks;
  made = f.made;
  takes = f.takes;
  there = f.there;
  few = f.few;
  idle = f.idle;
  full = f.full;
  broken = f.broken;
  searched = f.searched;
})

pub returns-in-Scan-clause-made : goal.returns-in-Scan-clause-made
returns-in-Scan-clause-made c = rw (← c.copies.view_is) (λ relations counters few within.
    ok_both c.scan_over.result _ _ _
    (λ act. quiet_planned c.args.split relations counters c.copies.inside.pages.total (copied c.copies.inside.pages.list.items) c.args.room (Scan c.in-Scan.relation) c.args.op.now act (sym c.in-Scan.is))
    (c.scan_over.ensures.plans.made relations) c.scan_over.ensures.plans.quiet)

pub returns-in-Scan-clause-asks : goal.returns-in-Scan-clause-asks
returns-in-Scan-clause-asks c = rw (← c.copies.view_is)
    (asks_same (copied c.copies.inside.pages.list.items) c.args.room c.copies.inside.pages.total c.args.split _ c.args.op.now c.scan_over.result (sym c.in-Scan.is) (c.scan_over.ensures.plans.asks c.args.room c.args.split))

pub returns-in-Scan-clause-takes : goal.returns-in-Scan-clause-takes
returns-in-Scan-clause-takes c = rw (← c.copies.view_is) (λ relations counters few within.
    IfOk-weaker c.scan_over.result _ _ (λ act. quiet_reported relations counters c.copies.inside.pages.total (copied c.copies.inside.pages.list.items) c.args.room c.args.op.now act) c.scan_over.ensures.plans.quiet)
