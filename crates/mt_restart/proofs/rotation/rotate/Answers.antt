use Rattle.std.proofs.Common.{◌∙◌, inl, inr, refl, sym}
use Rattle.mt_base.specs.declared.refusal.Refusal.{Refusal}
use Rattle.mt_log.proofs.Calls.{one_outcome}
use Rattle.mt_restart.proofs.Refusals.{not_refused, refused_so}
use Rattle.mt_restart.proofs.EarlyCauses.{early_busy, early_failed, early_none}
use Rattle.mt_restart.proofs.Rotations.{found_behind, keeps_itself, rotates_behind}
use Rattle.mt_restart.proofs.rotation.rotate.Goals as goal

pub returns-then-has_failed-clause-rotated : goal.returns-then-has_failed-clause-rotated
returns-then-has_failed-clause-rotated g c = let D = g.D.Device in let k = c.args.kernel in
    record {
      keeps = keeps_itself g.met.D.Device.only_now k;
      cause = inl (early_failed k (sym c.has_failed.ensures ∙ c.if-has_failed.true), refl);
      quiet = λ not. refl;
    }

pub returns-then-has_failed-clause-moments : goal.returns-then-has_failed-clause-moments
returns-then-has_failed-clause-moments g c = λ first starts. let D = g.D.Device in let k = c.args.kernel in
    (keeps_itself g.met.D.Device.only_now k).found first starts k.schema

pub returns-then-not-has_nobody-clause-rotated : goal.returns-then-not-has_nobody-clause-rotated
returns-then-not-has_nobody-clause-rotated g c = let D = g.D.Device in let k = c.args.kernel in
    record {
      keeps = keeps_itself g.met.D.Device.only_now k;
      cause = inl (early_busy k (sym c.has_failed.ensures ∙ c.if-has_failed.false) (λ nobody. one_outcome c.has_nobody.result (c.has_nobody.ensures.1 nobody) c.if-not-has_nobody.true), refl);
      quiet = λ not. refl;
    }

pub returns-then-not-has_nobody-clause-moments : goal.returns-then-not-has_nobody-clause-moments
returns-then-not-has_nobody-clause-moments g c = λ first starts. let D = g.D.Device in let k = c.args.kernel in
    (keeps_itself g.met.D.Device.only_now k).found first starts k.schema

pub returns-in-Ok-clause-rotated : goal.returns-in-Ok-clause-rotated
returns-in-Ok-clause-rotated g c =
    let D = g.D.Device in let k = c.args.kernel in let m = c.force_out.new.kernel in let nobody = c.has_nobody.ensures.0 c.if-not-has_nobody.false in let well = sym c.has_failed.ensures ∙ c.if-has_failed.false in
    rotates_behind g.met.D.Device.only_now k m nobody (early_none k well nobody) c.force_out.ensures.keeps c.in-Ok.ensures.forced
    (c.force_out.ensures.quiet (not_refused c.force_out.result _ Refusal.DeviceFailed c.in-Ok.is)) c.turn_over.result.0 c.turn_over.result.1 c.turn_over.ensures.rotated

pub returns-in-Ok-clause-moments : goal.returns-in-Ok-clause-moments
returns-in-Ok-clause-moments g c = λ first starts.
    let D = g.D.Device in let k = c.args.kernel in let m = c.force_out.new.kernel in let nobody = c.has_nobody.ensures.0 c.if-not-has_nobody.false in let well = sym c.has_failed.ensures ∙ c.if-has_failed.false in let keeps = c.force_out.ensures.keeps in let out = c.in-Ok.ensures.forced in
    found_behind g.met.D.Device.only_now k m first _ nobody out.nobody keeps out.grows starts k.schema (c.turn_over.ensures.moments first (keeps.restarts first starts))

pub returns-in-Err-clause-rotated : goal.returns-in-Err-clause-rotated
returns-in-Err-clause-rotated g c =
    let D = g.D.Device in let k = c.args.kernel in let m = c.force_out.new.kernel in let nobody = c.has_nobody.ensures.0 c.if-not-has_nobody.false in let well = sym c.has_failed.ensures ∙ c.if-has_failed.false in
    record {
      keeps = c.force_out.ensures.keeps;
      cause = inr (early_none k well nobody, c.in-Err.ensures.cause);
      quiet = λ not. c.force_out.ensures.quiet (refused_so c.force_out.result c.in-Err.refusal Refusal.DeviceFailed c.in-Err.is not);
    }

pub returns-in-Err-clause-moments : goal.returns-in-Err-clause-moments
returns-in-Err-clause-moments g c = λ first starts. c.force_out.ensures.keeps.found first starts c.args.kernel.schema

pub returns-in-Ok-clause-frames : goal.returns-in-Ok-clause-frames
returns-in-Ok-clause-frames g c = c.turn_over.ensures.frames
