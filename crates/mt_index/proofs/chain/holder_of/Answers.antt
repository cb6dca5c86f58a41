use Rattle.std.proofs.Common.{◌≡◌, ℕ, subst}
use Rattle.mt_index.specs.Answers.{Lacks}
use Rattle.mt_index.proofs.Passing.{passed_start}
use Rattle.mt_index.proofs.chain.holder_of.Goals as goal

pub holder_from-requires-clause-lacks : goal.holder_from-requires-clause-lacks
holder_from-requires-clause-lacks g c pages agree m a = ∣ (
  0,
  passed_start (Lacks c.args.relation c.args.key.now pages) (g.V.Pages.total c.args.views.now) pages m c.args.key.now c.in-Some.directory.now c.hash.result c.pointer.result a
      (subst (λ (p : ℕ). pages p ≡ c.in-Some.directory.now) c.new.ensures (agree c.new.result c.in-Some.directory.now c.in-Some.ensures.some)) c.hash.ensures c.pointer.ensures,
) ∣₁
