use Rattle.std.proofs.Common.{refl, subst, sym}
use Rattle.std.specs.Io.KnownBytes.{Appends}
use Rattle.mt_base.specs.declared.refusal.Refusal.TheVariants as refusal
use Rattle.mt_script.specs.declared.answers.Answer.TheVariants.{Refused}
use Rattle.mt_script.specs.Answers.{AppendsFront}
use Rattle.mt_alone.proofs.TranscriptLemmas.{text_one}
use Rattle.mt_alone.proofs.alone.end_failed.Goals as goal

pub returns-in-Ok : goal.returns-in-Ok
returns-in-Ok g c = (refl, subst (Appends (g.W.Write.contents c.args.writer.now) (g.W.Write.contents c.report.new.writer)) (sym (text_one (Refused refusal.DeviceFailed))) c.in-Ok.ensures.all)

pub returns-in-Err : goal.returns-in-Err
returns-in-Err g c = (refl, subst (AppendsFront (g.W.Write.contents c.args.writer.now) (g.W.Write.contents c.report.new.writer)) (sym (text_one (Refused refusal.DeviceFailed))) c.in-Err.ensures.front)
