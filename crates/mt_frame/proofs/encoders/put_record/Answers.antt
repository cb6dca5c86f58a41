use Rattle.std.proofs.lemmas.Grind.{common_steps}
use Rattle.std.proofs.Common.{append_assoc, arith}
use Rattle.mt_frame.proofs.encoders.put_record.Goals as goal

pub returns-in-OpEnd-clause-items : goal.returns-in-OpEnd-clause-items
returns-in-OpEnd-clause-items c =
    rw (c.in-OpEnd.is, c.put_operation.ensures.items, c.put_u64.ensures.items, c.put_name.ensures.items, c.put_byte.ensures.items, c.get.ensures, c.get-in-OpEnd.ensures) (simp append_assoc)

pub returns-in-OpDropped-clause-items : goal.returns-in-OpDropped-clause-items
returns-in-OpDropped-clause-items c =
    rw (c.in-OpDropped.is, c.put_name-in-OpDropped.ensures.items, c.put_byte-in-OpDropped.ensures.items, c.get-in-OpDropped.ensures, c.get-in-OpDropped-2.ensures) (simp append_assoc)

pub returns-in-Commit-clause-items : goal.returns-in-Commit-clause-items
returns-in-Commit-clause-items c = grind (arith, common_steps)

pub returns-in-AbortEnd-clause-items : goal.returns-in-AbortEnd-clause-items
returns-in-AbortEnd-clause-items c = grind (arith, common_steps)
