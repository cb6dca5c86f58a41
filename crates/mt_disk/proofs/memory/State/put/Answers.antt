use Rattle.std.proofs.Common.{length, vec_len, List, All, subst, sym, arith}
use Rattle.mt_disk.specs.Unsynced.{Unsynced, IsInside}
use Rattle.mt_disk.specs.declared.memory.Write.{Write}
use Rattle.mt_disk.proofs.Kept.{unsynced_more, inside_more}
use Rattle.mt_disk.proofs.memory.State.put.Goals as goal

pub invariant_of-self-clause-present : goal.invariant_of-self-clause-present
invariant_of-self-clause-present c =
    let s = c.args.self.now in
    let w : Write = record { at = c.args.at; len = length c.args.new.now; from = c.len-from.result } in
    subst (λ (ws : List Write). Unsynced s.synced.items ws c.stamp.new.bytes.items) (sym c.push_reserved.ensures.items)
    (unsynced_more s.synced.items s.writes.items w s.bytes.items c.stamp.new.bytes.items s.present c.stamp.ensures.rest)

pub invariant_of-self-clause-inside : goal.invariant_of-self-clause-inside
invariant_of-self-clause-inside c =
    let s = c.args.self.now in
    let w : Write = record { at = c.args.at; len = length c.args.new.now; from = c.len-from.result } in
    let size = c.stamp.ensures.rest.size in let len = c.append.ensures.len in let range = c.requires.range in
    subst (λ (ws : List Write). All (λ v. IsInside v (length c.stamp.new.bytes.items) (vec_len c.append.new.bytes)) ws) (sym c.push_reserved.ensures.items)
    (inside_more s.writes.items w (length s.bytes.items) (length c.stamp.new.bytes.items) (vec_len s.written) (vec_len c.append.new.bytes) size (omega arith) s.inside
    (let from = c.len-from.ensures in record { range = omega arith; bytes = omega arith }))
