use Rattle.std.proofs.Common.{◌∙◌, ap, sym, subst}
use Rattle.mt_base.specs.declared.refusal.Refusal.{Refusal}
use Rattle.mt_disk.specs.Disk.{LeavesOnly}
use Rattle.mt_restart.specs.Migrated.{Additions, IsCarried}
use Rattle.mt_restart.proofs.Counted.{begins_on_pages}
use Rattle.mt_restart.proofs.Opened.{opened_as}
use Rattle.mt_restart.proofs.Refusals.{not_refused, refused_so}
use Rattle.mt_restart.proofs.migration.migrate.Goals as goal

pub kernel_over-requires : goal.kernel_over-requires
kernel_over-requires g c = record { recovered = (c.args.frames, c.in-Ok.ensures.recovered) }

pub returns-in-Ok-clause-opened : goal.returns-in-Ok-clause-opened
returns-in-Ok-clause-opened g c = λ relations counters b can.
    let r = c.in-Ok.recovered in let e = c.in-Ok.ensures in let shows = e.shows relations counters b can in
    opened_as c.only_own_pages_matter.ensures _ _ c.args.frames _ r.restored.pages.items r.beside c.kernel_over.result e.recovered.beside shows.shows
    (λ holds. c.kernel_over.ensures.opened _ holds shows.bounds)

pub returns-in-Ok-clause-moments : goal.returns-in-Ok-clause-moments
returns-in-Ok-clause-moments g c = λ relations counters b can.
    let D = g.D.Device in
    let more : Additions = record { relations = c.args.relations; new_counters = c.args.counters.now } in
    subst (λ (d : _). LeavesOnly D.moment D.left_since c.args.device d (IsCarried D more relations counters b c.args.device)) (sym c.kernel_over.ensures.device) (c.carry_over.ensures.moments relations counters b can)

pub returns-in-Ok-clause-stands : goal.returns-in-Ok-clause-stands
returns-in-Ok-clause-stands g c = λ relations counters b can x left.
    c.in-Ok.ensures.stands relations counters b can x (subst (λ (d : _). g.D.Device.may_leave d x) c.kernel_over.ensures.device left)

pub returns-in-Err-clause-moments : goal.returns-in-Err-clause-moments
returns-in-Err-clause-moments g c = c.carry_over.ensures.moments

pub returns-in-Ok-clause-quiet : goal.returns-in-Ok-clause-quiet
returns-in-Ok-clause-quiet g c = ap g.D.Device.faults c.kernel_over.ensures.device ∙ c.carry_over.ensures.quiet (not_refused c.carry_over.result c.in-Ok.recovered Refusal.DeviceFailed c.in-Ok.is)

pub returns-in-Err-clause-quiet : goal.returns-in-Err-clause-quiet
returns-in-Err-clause-quiet g c = λ not. c.carry_over.ensures.quiet (refused_so c.carry_over.result c.in-Err.refusal Refusal.DeviceFailed c.in-Err.is not)

pub returns-in-Ok-clause-once : goal.returns-in-Ok-clause-once
returns-in-Ok-clause-once g c = λ slot rules. c.kernel_over.ensures.ruling ∙ c.in-Ok.ensures.next slot rules

pub returns-in-Ok-clause-frames : goal.returns-in-Ok-clause-frames
returns-in-Ok-clause-frames g c = c.kernel_over.ensures.frames c.args.frames c.in-Ok.ensures.recovered

pub returns-in-Err-clause-refused : goal.returns-in-Err-clause-refused
returns-in-Err-clause-refused g c =
    let e = c.in-Err.ensures in
    record {
      cause = e.cause;
      unformatted = e.unformatted;
      other = e.other;
      reads = e.reads;
      settled = λ relations counters b can not. e.settled relations counters b can not;
    }

pub returns-in-Ok-clause-restored : goal.returns-in-Ok-clause-restored
returns-in-Ok-clause-restored g c =
    let r = c.in-Ok.recovered in let x = c.in-Ok.ensures in
    (r.restored.pages.items, x.grown_are, begins_on_pages c.kernel_over.result r.restored.pages.items c.args.frames r.beside x.recovered.checked x.recovered.beside c.kernel_over.ensures.opened)
