use Rattle.mt_txn.proofs.Restarting.{finds_whole}
use Rattle.mt_txn.proofs.kernel.Kernel.rests_on_its_book.Goals as goal

pub returns : goal.returns
returns g c = λ first at r nobody forced left. let D = g.D.Device in let k = c.args.self.now in
    finds_whole D k.relations k.counters first k.core at nobody forced r left k.schema
