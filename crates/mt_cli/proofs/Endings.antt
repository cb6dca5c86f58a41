-- How a command ends, once its output is flushed.
use Rattle.std.proofs.Common.{◌≡◌, ◌∙◌, Bool, ℕ, List, Option, None, Some, Result, Ok, Err, inl, inr, refl, subst, IfSome}
use Rattle.std.specs.Result.{MatchResult, IfErr, OnOk}
use Rattle.std.specs.Io.KnownBytes.{Keeps}
use Rattle.mt_disk.specs.declared.device.Device.{Ghosts}
use Rattle.mt_script.specs.Answers.{AppendsFront}
use Rattle.mt_script.proofs.TextLemmas.{appends_kept}
use Rattle.mt_args.specs.declared.command.Command.{Command}
use Rattle.mt_args.specs.declared.command.Command.TheVariants.{Try, Schedule, Check, Format, Dump, Explain, Migrate, Run, Show}
use Rattle.mt_report.specs.declared.faults.Fault.{Fault}
use Rattle.mt_report.specs.declared.faults.Fault.TheVariants.{Output}
use Rattle.mt_cli.specs.Performs.{Around, HaveRun, IsDone, IsGivenUp, IsReported, IsScheduled, IsTrial, IsUndone, IsUnscheduled, unheard}
use Rattle.mt_report.specs.Advice.{IsReportedOf}
use Rattle.mt_device_commands.specs.Checks.{HasChecked}
use Rattle.mt_device_commands.specs.Dumps.{HasDumped}
use Rattle.mt_device_commands.specs.Explains.{HasExplained}
use Rattle.mt_report.specs.Events.{IsSchedule}
use Rattle.mt_folder.specs.Folders.{Files}
use Rattle.mt_folder.specs.declared.reason.Reason.{Reason}
use Rattle.mt_alone.specs.declared.stops.Stop.{Stop}
use Rattle.mt_cli.specs.Serves.{HasRunScripts, HaveServedOn, IsServedAtOnce, IsServedIn}
use Rattle.mt_model.specs.Model.{Base}
use Rattle.mt_script.specs.declared.lines.Line.{Line}
use Rattle.mt_report.specs.AnswerLines.{reported_lines}
use Rattle.mt_world.specs.declared.events.Answer.{Answer as Reported}
use Rattle.mt_world.specs.declared.events.Event.{Event}

-- nothing more was written
keeps_kept : (a b c : Option (List ℕ)) → Keeps a b → Keeps b c → Keeps a c
keeps_kept None b c p q = tt
keeps_kept (Some x) None c p q = absurd p
keeps_kept (Some x) (Some y) None p q = absurd q
keeps_kept (Some x) (Some y) (Some z) p q = q ∙ p

tried_kept : {D : Type 0} (g : Ghosts D) (stop : Bool) (bytes was mid now : Option (List ℕ)) → IsTrial g stop bytes was mid → Keeps mid now → IsTrial g stop bytes was now
tried_kept g stop bytes was mid now done kept =
    let t = done.tried.2 in record {
      tried = (
        done.tried.0,
        done.tried.1,
        record { kernel = t.kernel; stands = t.stands; answers = t.answers; last = t.last; at = t.at; ran = t.ran; ends = t.ends; outcome = appends_kept was mid now _ t.outcome kept },
      );
    }

checked_kept : (pages : Bool) (bytes was mid now : Option (List ℕ)) → HasChecked pages bytes was mid → Keeps mid now → HasChecked pages bytes was now
checked_kept pages bytes was mid now done kept = record { report = done.report; of = done.of; outcome = appends_kept was mid now _ done.outcome kept }

dumped_kept : (bytes was mid now : Option (List ℕ)) → HasDumped bytes was mid → Keeps mid now → HasDumped bytes was now
dumped_kept bytes was mid now done kept = record { survey = done.survey; of = done.of; ordered = done.ordered; outcome = appends_kept was mid now _ done.outcome kept }

explained_kept : (bytes was mid now : Option (List ℕ)) → HasExplained bytes was mid → Keeps mid now → HasExplained bytes was now
explained_kept bytes was mid now done kept = record { batches = done.batches; of = done.of; outcome = appends_kept was mid now _ done.outcome kept }

served_kept : (stop : Bool) (ending : Option Stop) (relations counters : ℕ) (b : Base) (scripts : List (List Line)) (was mid now : Option (List ℕ)) (d : List ℕ) → HaveServedOn stop ending relations counters b scripts was mid d → Keeps mid now
    → HaveServedOn stop ending relations counters b scripts was now d
served_kept stop ending relations counters b scripts was mid now d x kept =
    record { transcripts = x.transcripts; last = x.last; at = x.at; played = x.played; ended = x.ended; outcome = appends_kept was mid now _ x.outcome kept; stands = x.stands }

in_turn_kept : (stop : Bool) (old new : Files) (file : List ℕ) (scripts : List (List Line)) (was mid now : Option (List ℕ)) → IsServedIn stop old new file scripts was mid → Keeps mid now → IsServedIn stop old new file scripts was now
in_turn_kept stop old new file scripts was mid now x kept =
    let s = x.served.some in
    record {
      before = x.before;
      behind = x.behind;
      held = x.held;
      put = x.put;
      served = record {
        some = (s.0, s.1, s.2, served_kept stop None s.0 s.1 s.2 scripts was mid now x.behind s.3 kept);
        stood_for = λ n m b can. served_kept stop None n m b scripts was mid now x.behind (x.served.stood_for n m b can) kept;
      };
    }

at_once_kept : (old new : Files) (file : List ℕ) (scripts : List (List Line)) (was mid now : Option (List ℕ)) → IsServedAtOnce old new file scripts was mid → Keeps mid now → IsServedAtOnce old new file scripts was now
at_once_kept old new file scripts was mid now x kept = record { texts = x.texts; served = x.served; outcome = appends_kept was mid now _ x.outcome kept }

run_kept : (stop : Bool) (workers : ℕ) (old new : Files) (file : List ℕ) (names : List (List ℕ)) (input was mid now : Option (List ℕ)) → HasRunScripts stop workers old new file names input was mid → Keeps mid now
    → HasRunScripts stop workers old new file names input was now
run_kept stop workers old new file names input was mid now done kept = record {
  scripts = done.scripts;
  read = done.read;
  served = (
    λ one. in_turn_kept stop old new file done.scripts was mid now (done.served.0 one) kept,
    λ several. at_once_kept old new file done.scripts was mid now (done.served.1 several) kept,
  );
}

module _ {D : Type 0} (g : Ghosts D) where
  scheduled_kept : (bytes was mid now : Option (List ℕ)) → IsScheduled g bytes was mid → Keeps mid now → IsScheduled g bytes was now
  scheduled_kept bytes was mid now done kept =
      record { events = done.events; spelled = done.spelled; answers = done.answers; ran = done.ran; outcome = appends_kept was mid now _ done.outcome kept }

  pub done_kept : (command : Command) (a : Around) (was mid now : Option (List ℕ)) → IsDone g command a was mid → Keeps mid now → IsDone g command a was now
  done_kept (Try script stop) a was mid now done kept = (tried_kept g stop _ was mid now done.0 kept, done.1)
  done_kept (Schedule file) a was mid now done kept = (scheduled_kept _ was mid now done.0 kept, done.1)
  done_kept (Check file pages wait) a was mid now done kept = (checked_kept pages _ was mid now done.0 kept, done.1)
  done_kept (Format file numbers wait) a was mid now done kept = (done.0, keeps_kept was mid now done.1 kept)
  done_kept (Dump file wait) a was mid now done kept = (dumped_kept _ was mid now done.0 kept, done.1)
  done_kept (Explain file wait) a was mid now done kept = (explained_kept _ was mid now done.0 kept, done.1)
  done_kept (Migrate file growth wait) a was mid now done kept = (done.0, keeps_kept was mid now done.1 kept)
  done_kept (Run s wait) a was mid now done kept = run_kept s.stop s.workers _ _ _ _ _ was mid now done kept
  done_kept (Show text) a was mid now done kept = (appends_kept was mid now _ done.0 kept, done.1)

  -- the output failed within the answers of a run
  pub unheard_at : (bytes was now : Option (List ℕ)) (events made : List Event) (answers outcome : List Reported) → IfSome bytes (λ bs. IsSchedule bs events) → made ≡ events → HaveRun g made answers
      → outcome ≡ answers → AppendsFront was now (reported_lines outcome) → IsUnscheduled g bytes was now Output
  unheard_at bytes was now events made answers outcome spelled same ran all front =
      unheard events answers spelled (subst (λ (es : List Event). HaveRun g es answers) same ran) (subst (λ (xs : List Reported). AppendsFront was now (reported_lines xs)) all front)

  pub given_up_of : (command : Command) (reason : Option Reason) (a : Around) (was mid now old new : Option (List ℕ)) (r : Result (Unit {0}) Fault) → OnOk r (IsDone g command a was mid) → IfErr r (IsUndone g command a was mid)
      → Keeps mid now → MatchResult r (λ u. IsReportedOf command reason Output old new) (λ fault. IsReportedOf command reason fault old new) → IsGivenUp g command reason a was now old new
  given_up_of command reason a was mid now old new (Ok u) done undone kept outcome = record { given_up = (Output, mid, inr (done, refl), kept, outcome) }
  given_up_of command reason a was mid now old new (Err fault) done undone kept outcome = record { given_up = (fault, mid, inl undone, kept, outcome) }

-- ---- what is reported

-- a fault is that of a command that did not end well, and else that of an output that was not flushed
pub reported_as : (command : Command) (reason : Option Reason) (old new : Option (List ℕ)) (r : Result (Unit {0}) Fault) (fault : Fault) → MatchResult r (λ u. fault ≡ Output) (λ f. fault ≡ f) → IsReportedOf command reason fault old new
    → MatchResult r (λ u. IsReportedOf command reason Output old new) (λ f. IsReportedOf command reason f old new)
reported_as command reason old new (Ok u) fault is outcome = subst (λ (f : Fault). IsReportedOf command reason f old new) is outcome
reported_as command reason old new (Err why) fault is outcome = subst (λ (f : Fault). IsReportedOf command reason f old new) is outcome

pub is_reported : (command : Command) (reason : Option Reason) (old new : Option (List ℕ)) (r : Result (Unit {0}) Fault) → MatchResult r (λ u. IsReportedOf command reason Output old new) (λ f. IsReportedOf command reason f old new) → IsReported old new
is_reported command reason old new (Ok u) outcome = (command, reason, Output, outcome)
is_reported command reason old new (Err fault) outcome = (command, reason, fault, outcome)
