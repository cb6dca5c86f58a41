use Rattle.std.proofs.Common.{◌≡◌, sym, subst}
use Rattle.mt_inverse.specs.Effects.{op_with}
use Rattle.mt_inverse.specs.Steps.{IsWithinSteps}
use Rattle.mt_replay.specs.Recorded.{undo_of}
use Rattle.mt_replay.proofs.Inverses.{inverse_is, steps_within}
use Rattle.mt_explain.proofs.entries.write_inverse.Goals as goal

pub reversed-requires : goal.reversed-requires
reversed-requires g c = subst IsWithinSteps (sym c.effect_of.ensures.op) (steps_within c.args.done.now c.requires)

pub returns-clause-all : goal.returns-clause-all
returns-clause-all g c =
    let is : op_with c.reversed.result ≡ undo_of c.args.done.now = inverse_is c.args.done.now _ _ _ c.effect_of.ensures.op c.effect_of.ensures.reply c.reversed.ensures.inverse in
    rw is at c.write_effect.ensures.all

pub returns-clause-front : goal.returns-clause-front
returns-clause-front g c =
    let is : op_with c.reversed.result ≡ undo_of c.args.done.now = inverse_is c.args.done.now _ _ _ c.effect_of.ensures.op c.effect_of.ensures.reply c.reversed.ensures.inverse in
    rw is at c.write_effect.ensures.front
