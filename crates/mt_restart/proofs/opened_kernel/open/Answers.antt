use Rattle.std.proofs.Common.{◌<◌, ◌∙◌, ap, length, sym, subst}
use Rattle.mt_base.specs.declared.refusal.Refusal.{Refusal}
use Rattle.mt_disk.specs.Disk.{LeavesOnly}
use Rattle.mt_space.specs.PageLists.{bytes_of}
use Rattle.mt_restart.proofs.Based.{base_of_good}
use Rattle.mt_restart.proofs.Refusals.{not_refused, refused_so}
use Rattle.mt_restart.proofs.Opened.{base_in_bounds, opened_as}
use Rattle.mt_restart.proofs.Counted.{begins_on, begins_on_pages}
use Rattle.mt_restart.proofs.Unlost.{never_full}
use Rattle.mt_restart.specs.Recovered.{StandsStill}
use Rattle.mt_restart.proofs.opened_kernel.open.Goals as goal

pub kernel_over-requires : goal.kernel_over-requires
kernel_over-requires g c = record { recovered = (c.args.frames, c.in-Ok.ensures.recovered) }

pub returns-in-Ok-clause-opened : goal.returns-in-Ok-clause-opened
returns-in-Ok-clause-opened g c = λ relations counters b can.
    let r = c.in-Ok.recovered in let e = c.in-Ok.ensures in
    opened_as c.only_own_pages_matter.ensures relations counters c.args.frames b r.restored.pages.items r.beside c.kernel_over.result e.recovered.beside (e.shows relations counters b can)
    (λ holds. c.kernel_over.ensures.opened b holds (base_in_bounds relations counters (g.D.Device.seen c.args.device) b can))

pub returns-in-Ok-clause-restored : goal.returns-in-Ok-clause-restored
returns-in-Ok-clause-restored g c =
    let r = c.in-Ok.recovered in let x = c.in-Ok.ensures in
    (r.restored.pages.items, x.restored, begins_on_pages c.kernel_over.result r.restored.pages.items c.args.frames r.beside x.recovered.checked x.recovered.beside c.kernel_over.ensures.opened)

pub returns-in-Ok-clause-counted : goal.returns-in-Ok-clause-counted
returns-in-Ok-clause-counted g c =
    let r = c.in-Ok.recovered in
    let pages = bytes_of r.restored.pages.items in let checked = c.in-Ok.ensures.recovered.checked in
    let based = base_of_good checked.relations checked.counters (length r.restored.pages.items) pages checked.good in
    (based.0, begins_on c.kernel_over.result pages r.beside.relations r.beside.counters based.0 c.in-Ok.ensures.recovered.beside.counters based.1 based.2 c.kernel_over.ensures.opened)

pub returns-in-Ok-clause-moments : goal.returns-in-Ok-clause-moments
returns-in-Ok-clause-moments g c = λ relations counters b can.
    let D = g.D.Device in
    subst (λ (d : _). LeavesOnly D.moment D.left_since c.args.device d (StandsStill D relations counters b c.args.device)) (sym c.kernel_over.ensures.device) (c.recover.ensures.moments relations counters b can)

pub returns-in-Ok-clause-stands : goal.returns-in-Ok-clause-stands
returns-in-Ok-clause-stands g c = λ relations counters b can x left.
    c.recover.ensures.settled relations counters b can (not_refused c.recover.result c.in-Ok.recovered Refusal.DeviceFailed c.in-Ok.is) x (subst (λ (d : _). g.D.Device.may_leave d x) c.kernel_over.ensures.device left)

pub returns-in-Err-clause-moments : goal.returns-in-Err-clause-moments
returns-in-Err-clause-moments g c = c.recover.ensures.moments

pub returns-in-Ok-clause-quiet : goal.returns-in-Ok-clause-quiet
returns-in-Ok-clause-quiet g c = ap g.D.Device.faults c.kernel_over.ensures.device ∙ c.recover.ensures.quiet (not_refused c.recover.result c.in-Ok.recovered Refusal.DeviceFailed c.in-Ok.is)

pub returns-in-Err-clause-quiet : goal.returns-in-Err-clause-quiet
returns-in-Err-clause-quiet g c = λ not. c.recover.ensures.quiet (refused_so c.recover.result c.in-Err.refusal Refusal.DeviceFailed c.in-Err.is not)

pub returns-in-Ok-clause-once : goal.returns-in-Ok-clause-once
returns-in-Ok-clause-once g c = λ slot rules. c.kernel_over.ensures.ruling ∙ c.in-Ok.ensures.next slot rules

pub returns-in-Ok-clause-frames : goal.returns-in-Ok-clause-frames
returns-in-Ok-clause-frames g c = c.kernel_over.ensures.frames c.args.frames c.in-Ok.ensures.recovered

pub returns-in-Err-clause-refused : goal.returns-in-Err-clause-refused
returns-in-Err-clause-refused g c =
    let D = g.D.Device in let d = c.args.device in let e = c.in-Err.ensures in let why = c.in-Err.refusal in
    record {
      cause = e.cause;
      unformatted = e.unformatted;
      other = e.other;
      left = e.no_other_refusal;
      formatted = λ s formatted. never_full c.slots_are_read_back.ensures s (D.seen d) (D.faults d < D.faults c.recover.new.device) why formatted e.cause;
      reads = e.reads;
      settled = λ relations counters b can not. c.recover.ensures.settled relations counters b can (refused_so c.recover.result why Refusal.DeviceFailed c.in-Err.is not);
    }
