use Rattle.std.proofs.Common.{◌≡◌, Option, Some, None}
use Rattle.mt_base.specs.declared.refusal.Refusal.{Refusal}
use Rattle.mt_txn.specs.Causes.{busy_cause, first_of, open_cause}
use Rattle.mt_txn.specs.Shown.{is_failed}
use Rattle.mt_txn.proofs.kernel.Kernel.call_cause.Goals as goal

-- the first of two causes is the first of more
some_first : (a b rest : Option Refusal) (why : Refusal) → Some why ≡ first_of a b → Some why ≡ first_of a (first_of b rest)
some_first None None rest why h = absurd cc
some_first None (Some y) rest why h = h
some_first (Some x) b rest why h = h

pub returns-in-Some-clause-cause : goal.returns-in-Some-clause-cause
returns-in-Some-clause-cause g c =
    let k = c.args.self.now in
    some_first (open_cause (is_failed k) k.core c.args.txn) (busy_cause k.core c.args.txn) _ c.in-Some.why c.in-Some.ensures.cause
