use Rattle.mt_pool.proofs.Safe.{gives_pages}
use Rattle.mt_pool.proofs.laws.a_crash_gives_the_pages.Goals as goal

pub returns : goal.returns
returns g c = λ device place pages opening appended durable k left safe le may. gives_pages place pages opening appended durable (g.D.Device.may_leave device) safe k le left may
