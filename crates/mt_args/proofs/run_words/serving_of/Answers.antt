use Rattle.std.proofs.Common.{arith, inl, inr, refl}
use Rattle.mt_args.proofs.CommandLemmas.{misread_for}
use Rattle.mt_args.proofs.run_words.serving_of.Goals as goal

pub returns-then-workers-gt1-clause-fault : goal.returns-then-workers-gt1-clause-fault
returns-then-workers-gt1-clause-fault c =
    misread_for c.misspelled.result (λ any. inr (inr (inl (refl, inr (inr (rw c.if-stop.true at c.flag_in-stop.ensures, (c.in_ok-workers.workers, rw c.text_in.ensures at c.in_ok-workers.ensures.number, omega (arith, c.if-workers-gt1.true)))))))) c.misspelled.ensures
