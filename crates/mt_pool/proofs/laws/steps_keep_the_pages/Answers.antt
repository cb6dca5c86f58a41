use Rattle.mt_pool.proofs.Safe.{safe_begin, safe_elsewhere, safe_flush, safe_less, safe_append}
use Rattle.mt_pool.proofs.laws.steps_keep_the_pages.Goals as goal

pub returns-clause-begin : goal.returns-clause-begin
returns-clause-begin g c = λ device place pages images left only. safe_begin place pages images left (g.D.Device.may_leave device) only

pub returns-clause-elsewhere : goal.returns-clause-elsewhere
returns-clause-elsewhere g c = λ from to place pages opening appended durable more at n safe grows within apart follows.
    safe_elsewhere place pages opening appended durable (g.D.Device.may_leave from) (g.D.Device.may_leave to) safe at n more grows within apart follows

pub returns-clause-slot : goal.returns-clause-slot
returns-clause-slot g c = λ from to place pages opening appended durable p safe has follows.
    safe_flush place pages opening appended durable (g.D.Device.may_leave from) (g.D.Device.may_leave to) safe p has follows

pub returns-clause-less : goal.returns-clause-less
returns-clause-less g c = λ from to place pages opening appended durable safe less.
    safe_less place pages opening appended durable (g.D.Device.may_leave from) (g.D.Device.may_leave to) safe less

pub returns-clause-append : goal.returns-clause-append
returns-clause-append g c = λ device place pages opening appended durable e safe right.
    safe_append place pages opening appended durable (g.D.Device.may_leave device) safe e right
