use Rattle.mt_pool.proofs.Tied.{safe_change, safe_page}
use Rattle.mt_pool.proofs.laws.the_pool_keeps_the_pages.Goals as goal

pub returns-clause-change : goal.returns-clause-change
returns-clause-change g c = λ device pool opening appended durable page e tied inside first safe.
    safe_change pool (g.D.Device.seen device) opening appended durable (g.D.Device.may_leave device) e page tied inside first safe

pub returns-clause-flush : goal.returns-clause-flush
returns-clause-flush g c = λ from to pool opening appended durable page tied inside some waited follows safe.
    safe_page pool (g.D.Device.seen from) opening appended durable (g.D.Device.may_leave from) (g.D.Device.may_leave to) page tied safe inside some waited follows
