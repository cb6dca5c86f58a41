use Rattle.std.proofs.Common.{rules, ◌≡◌, ◌∙◌, Some, neg_ℤ, ap}
use Rattle.mt_escrow.specs.Seen.{JoinsAside, add_of}
use Rattle.mt_model.specs.declared.operations.Op.TheVariants.{Add}
use Rattle.mt_core.proofs.Inverse.{inverse_aside}
use Rattle.mt_core.proofs.ends.let_inverted_aside.Goals as goal

pub returns-in-Add-clause-aside : goal.returns-in-Add-clause-aside
returns-in-Add-clause-aside c = λ op reply is ps pends.
    let joins : JoinsAside (add_of c.args.txn c.in-Add.counter (neg_ℤ c.in-Add.step)) c.args.escrow.now c.set_aside.new.self = search rules in
    inverse_aside c.args.txn c.args.escrow.now c.set_aside.new.self (Add c.in-Add.counter c.in-Add.step) op reply ps joins (is ∙ ap Some c.in-Add.is) pends
