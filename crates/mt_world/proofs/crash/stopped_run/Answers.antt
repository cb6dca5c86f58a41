use Rattle.std.proofs.Common.{◌≡◌, ◌∙◌, inl, ap, arith, subst, length, vec_len, List, Vec, Global, ℕ}
use Rattle.mt_disk.specs.LeftBy.{LeftBy}
use Rattle.mt_disk.specs.Memory.{MayLeave, only_present}
use Rattle.mt_disk.specs.declared.memory.MemDevice.{MemDevice}
use Rattle.mt_world.proofs.StopLemmas.{crash_of, stopped_same}
use Rattle.mt_restart.specs.Standings.{device_at}
use Rattle.mt_world.specs.Stopping.{StopsAt, below}
use Rattle.mt_world.specs.declared.stopping_device.StoppingDevice.{StoppingDevice}
use Rattle.mt_world.specs.Reported.{acknowledged, commit_order}
use Rattle.mt_world.specs.declared.events.Answer.{Answer}
use Rattle.mt_world.proofs.crash.stopped_run.Goals as goal

counted : (v : Vec ℕ Global) → vec_len v ≡ length v.items
counted v = omega arith

pub commits_reported-requires : goal.commits_reported-requires
commits_reported-requires c = record { same = ap (λ (as' : List Answer). length as') c.as_slice.ensures.value ∙ stopped_same c.args.schema.now c.args.events.now c.in-Ok.made.1.items c.in-Ok.made.0 c.in-Ok.ensures.ran }

pub returns-clause-run : goal.returns-clause-run
returns-clause-run c =
    let standing = c.in-Ok.made.0 in let content = c.in_ok-content.content.items in
    let there : c.into_inner-device.result ≡ below (device_at standing) = c.into_inner-device.ensures ∙ ap below c.into_device-stopped.ensures.device in
    let stops : StopsAt c.args.limit (device_at standing) = subst (λ (d : StoppingDevice MemDevice). StopsAt c.args.limit d) c.into_device-stopped.ensures.device (subst (λ (l : ℕ). StopsAt l c.into_device-stopped.result) c.if-limit.false c.limit.ensures.stops) in
    let may : MayLeave (below (device_at standing)) content = subst (λ (d : MemDevice). MayLeave d content) there c.in_ok-content.ensures.may in
    let left : LeftBy (below (device_at standing)) c.args.fill content = subst (λ (d : MemDevice). LeftBy d c.args.fill content) there c.in_ok-content.ensures.exact in
    crash_of (λ d t x le now. inl now) (λ d x since. only_present d.device.state d.device.past.items x since) c.args.schema.now c.new-device.result c.args.events.now c.in-Ok.made.1.items standing c.args.limit c.args.fill _
    c.in-Ok.ensures.ran c.in-Ok.ensures.schema c.in-Ok.ensures.moments stops may may left
    (c.in_ok-order.ensures.outcome ∙ ap (λ (as' : List Answer). commit_order c.args.events.now as') c.as_slice.ensures.value)
    (c.len-acked.ensures ∙ counted c.in_ok-acknowledged_in.field-0 ∙ ap (λ (ts : List ℕ). length ts) c.in_ok-acknowledged_in.ensures.names ∙ ap (λ (as' : List Answer). length (acknowledged as')) c.as_slice-2.ensures.value)
