use Rattle.std.proofs.Common.{◌+◌, List, drop, get_or, subst}
use Rattle.std.proofs.lemmas.List.{drop_more, drop_all}
use Rattle.mt_disk.specs.Unsynced.{Unsynced}
use Rattle.mt_disk.specs.declared.memory.Write.{Write}
use Rattle.mt_disk.proofs.Kept.{unsynced_less, all_synced}
use Rattle.mt_disk.proofs.memory.copy_ranges.Goals as goal

pub loop-write-preserved : goal.loop-write-preserved
loop-write-preserved c =
    let none : Write = record { at = 0; len = 0; from = 0 } in
    let i = c.loop-write.write-index in let writes = c.args.writes.now in
    let all = c.requires.inside.1 in
    unsynced_less c.args.bytes.now c.loop-write.synced.items c.stamp.new.bytes.items (get_or writes i none) (drop (i + 1) writes) (all i none c.loop-write-test.true).range
    (subst (λ (ws : List Write). Unsynced c.loop-write.synced.items ws c.args.bytes.now) (drop_more writes i none c.loop-write-test.true) c.loop-write.invariant)
    c.stamp.ensures

pub returns : goal.returns
returns c = all_synced c.args.bytes.now c.loop-write.synced.items
    (subst (λ (ws : List Write). Unsynced c.loop-write.synced.items ws c.args.bytes.now) (drop_all c.loop-write.write-index c.args.writes.now c.loop-write-test.false) c.loop-write.invariant)
