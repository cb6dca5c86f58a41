use Rattle.std.proofs.Common.{◌+◌, ◌*◌, ◌^◌, ◌%◌, ℕ, List, ap, ◌∙◌, subst, arith}
use Rattle.std.proofs.lemmas.Nat.{one_shl}
use Rattle.mt_base.specs.Ranges.{part, Wrote}
use Rattle.mt_index.proofs.Wiring.{doubled}
use Rattle.mt_index.proofs.directory.double.Goals as goal

pub returns : goal.returns
returns c =
    let is = c.depth-bits.ensures in
    let room = c.requires.room in
    let n : ℕ = 2 * (1 * 2 ^ c.depth-bits.result % 18446744073709551616) in
    doubled c.args.directory.now c.put.new.page c.put-2.new.page n c.depth-bits.result c.requires.whole c.depth-bits.ensures (omega arith) (ap (λ (x : ℕ). 2 * x) (one_shl c.depth-bits.result 64 (omega arith)))
    (subst (λ (b : List ℕ). Wrote (8 + n) b c.args.directory.now c.put.new.page) (c.part_of.ensures ∙ ap (λ (b : List ℕ). part b 8 n) c.copy_from_slice.ensures.after) c.put.ensures)
    c.put-2.ensures
