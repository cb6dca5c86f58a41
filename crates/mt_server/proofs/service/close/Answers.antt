use Rattle.std.proofs.Common.{arith, ap, length, map, refl, sym, ◌∙◌}
use Rattle.mt_server.proofs.ServingLemmas.{board_reported}
use Rattle.mt_script.specs.Scripts.{lines_in}
use Rattle.mt_locked.specs.Whole.{all_own}
use Rattle.mt_txn.specs.Shown.{is_failed}
use Rattle.mt_server.proofs.service.close.Goals as goal

pub returns-else-not-has_cause-clause-outcome : goal.returns-else-not-has_cause-clause-outcome
returns-else-not-has_cause-clause-outcome g c =
    board_reported (is_failed c.in-Ok.kernel) (map lines_in c.args.scripts.now) c.args.board _ (all_own c.args.passes.items) (c.requires.placed _ c.in-Ok.ensures.seen) (c.if-not-is_full.ensures refl)
    (λ outcome. sym c.has_failed.ensures ∙ c.if-not-has_cause.ensures.cause refl outcome)
    (omega (arith, c.in-Ok.ensures.count, ap length c.requires.first))
