use Rattle.std.proofs.Common.{◌<◌, arith}
use Rattle.mt_server.proofs.crew.work_all.Goals as goal

pub returns : goal.returns
returns g c = λ k d lt. (c.in_ok-done.ensures.each k d (omega (arith, lt, c.in_ok-done.ensures.len))).1.call.met
