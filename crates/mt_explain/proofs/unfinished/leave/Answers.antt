use Rattle.std.proofs.Common.{rules, not, ◌==◌, ◌||◌}
use Rattle.std.proofs.lemmas.Fn.{filter_same}
use Rattle.mt_explain.specs.declared.unfinished.Unfinished.{Unfinished}
use Rattle.mt_explain.proofs.unfinished.leave.Goals as goal

pub returns : goal.returns
returns c = filter_same _ (λ (u : Unfinished). not (u.txn == c.args.txn) || not (u.op == c.args.op)) _ (λ u b f k. search rules) _ _ c.retain.ensures.filtered
