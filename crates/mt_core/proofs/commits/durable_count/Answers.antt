use Rattle.std.proofs.Common.{◌≡◌, true, nat_lt, sym, subst, arith, length}
use Rattle.std.proofs.lemmas.Bool.{lt-ltb}
use Rattle.std.proofs.lemmas.List.Sums.{position_or_len_is}
use Rattle.mt_core.specs.declared.parts.Commit.{Commit}
use Rattle.mt_core.proofs.commits.durable_count.Goals as goal

pub returns-then-get-clause-count : goal.returns-then-get-clause-count
returns-then-get-clause-count c =
    let here = c.index-commits-i.is in
    let after : nat_lt c.args.place c.index-commits-i.result.place ≡ true = lt-ltb _ _ (omega (arith, c.if-get.true, c.get.ensures, c.get-in-loop-i.ensures)) in
    sym (position_or_len_is (λ (x : Commit). nat_lt c.args.place x.place) c.args.commits.now c.loop-i.i c.index-commits-i.result (omega arith)
    (λ k below. c.loop-i.invariant k c.index-commits-i.result below)
    (λ _. subst (λ (x : Commit). nat_lt c.args.place x.place ≡ true) here after))

pub returns-clause-count : goal.returns-clause-count
returns-clause-count c =
    let none : Commit = record { txn = 0; place = 0 } in
    sym (position_or_len_is (λ (x : Commit). nat_lt c.args.place x.place) c.args.commits.now (length c.args.commits.now) none (omega arith)
    (λ k below. c.loop-i.invariant k none (omega arith)) (λ below. absurd (omega (arith, below))))
