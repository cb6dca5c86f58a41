use Rattle.std.proofs.Common.{take}
use Rattle.mt_slock.specs.Views.{in_order}
use Rattle.mt_slock.proofs.Among.{Found}
use Rattle.mt_slock.proofs.holders.oldest_bar.Given as goal

abbrev pub invariant-loop-holder : goal.invariant-loop-holder
invariant-loop-holder l = Found (in_order l.fn.first (take l.holder-index l.others)) l.txn l.mode l.oldest
