use Rattle.std.proofs.Common.{sym, ◌∙◌}
use Rattle.mt_locked.proofs.Rotations.{turned_so}
use Rattle.mt_locked.proofs.rotation.turned_over.Goals as goal

pub returns : goal.returns
returns g c =
    let r = c.rotate-standing in let h = c.has_turned.ensures in
    turned_so g.D.Device c.args.commits c.args.frames c.args.kernel r.result.0 r.result.1 c.has_turned.result g.met.D.Device.counts_now r.ensures.moments h.why h.did h.so h.fault h.same (sym c.has_failed.ensures ∙ c.if-has_failed.false) (c.has_just.ensures.0 c.if-not-has_just.false) r.ensures.frames r.ensures.rotated
