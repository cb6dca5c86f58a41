-- A session over a shared kernel: its transactions, one after the other, and its end.
use Rattle.std.proofs.Common.{◌≡◌, ◌≤◌, ◌+◌, ℕ, List, [], ◌∷◌, ◌++◌, Option, Some, None, IsSome, true, false, arith, length, take, drop, refl, ap, sym, subst, ◌∙◌, append_assoc, append-nil, length-drop, take-append-drop}
use Rattle.std.proofs.Math.Seq.{take-add, take-length}
use Rattle.mt_model.specs.History.{Call}
use Rattle.mt_model.specs.declared.tables.Base.{Base}
use Rattle.mt_script.specs.Answers.{transcript_text}
use Rattle.mt_script.specs.declared.answers.Answer.{Answer}
use Rattle.mt_script.specs.declared.answers.Answer.TheVariants.{Aborted}
use Rattle.mt_script.specs.declared.lines.Line.{Line}
use Rattle.mt_server.specs.Heard.{IsEnd, ends, fails}
use Rattle.mt_model.specs.Backwards.{OpenCalls}
use Rattle.mt_alone.specs.Runs.{last_line}
use Rattle.mt_server.specs.Hearing.{HasFailed, HasRan, HasServed, IsSession, Place, Reached, between}
use Rattle.mt_server.specs.declared.attempts.Progress.TheVariants as progress
use Rattle.mt_server.proofs.AttemptLemmas.{none_served, served_then}
use Rattle.mt_alone.proofs.TranscriptLemmas.{all_reported}
use Rattle.mt_locked.specs.Seen.{PassSeen}

module _ (b : Base) (session : ℕ) (old : PassSeen) (lines : List Line) where
  -- so many of its lines are answered, and no transaction is open
  abbrev pub Stands : ℕ → List ℕ → PassSeen → Type 0
  Stands at text pass = (at ≤ length lines) × Reached b session (between [] old) (take at lines) [] text None pass

  pub at_start : Stands 0 [] old
  at_start = (omega arith, record { end = between [] old; pass_is = refl; at = refl; served = none_served b session (between [] old) [] })

  -- where it stands
  stand_is : (p : Place) (pass : PassSeen) → p.heard.under_way ≡ None → p.pass ≡ pass → p ≡ between p.heard.booked pass
  stand_is p pass none pass_is = λ i. record { heard = record { under_way = none i; booked = p.heard.booked }; pass = pass_is i }

  behind : (at : ℕ) (was now : List ℕ) (pass : PassSeen) (end : Place) (more : List Line) (s : Stands at was pass) → HasServed b session (between s.1.end.heard.booked pass) more was now end
      → HasServed b session (between [] old) (take at lines ++ more) [] now end
  behind at was now pass end more s served =
      let from : s.1.end ≡ between s.1.end.heard.booked pass = stand_is s.1.end pass s.1.at s.1.pass_is in
      served_then b session (between [] old) s.1.end end (take at lines) more [] was now s.1.served (subst (λ (p : Place). HasServed b session p more was now end) (sym from) served)

  pub goes_on : (at count : ℕ) (was now : List ℕ) (pass new : PassSeen) → (s : Stands at was pass) → ((booked : List (ℕ × List Call)) → HasRan b session (between booked pass) (drop at lines) was now new (progress.Ended count)) → Stands (at + count) now new
  goes_on at count was now pass new s ran =
      let (end, pass_is, none, le, served) = ran s.1.end.heard.booked in (
        omega (arith, s.0, le, length-drop at lines),
        record {
          end = end;
          pass_is = pass_is;
          at = none;
          served = subst (λ (ls : List Line). HasServed b session (between [] old) ls [] now end) (sym (take-add at count lines)) (behind at was now pass end (take count (drop at lines)) s served);
        },
      )

  whole_text : (answers last : List Answer) (mid now : List ℕ) → mid ≡ transcript_text answers → now ≡ mid ++ transcript_text last → now ≡ transcript_text (answers ++ last)
  whole_text answers last mid now before outcome = all_reported answers last [] mid now before outcome

  pub all_answered : (at : ℕ) (text : List ℕ) (pass : PassSeen) → length lines ≤ at → Stands at text pass → IsSession false b session lines text old pass
  all_answered at text pass past s =
      let whole : at ≡ length lines = omega (arith, past, s.0) in
      let served = subst (λ (ls : List Line). HasServed b session (between [] old) ls [] text s.1.end) (ap (λ (n : ℕ). take n lines) whole ∙ take-length lines) s.1.served in
      record {
        before = lines;
        rest = [];
        lines_are = sym (append-nil lines);
        answers = served.answers;
        last = [];
        end = s.1.end;
        pass_is = s.1.pass_is;
        served = served.served;
        ends = subst (IsEnd false s.1.end.heard.under_way []) (ap last_line s.1.at) ends;
        text_is = served.text ∙ ap transcript_text (sym (append-nil served.answers));
      }

  aborted_last : (u : Option OpenCalls) → IsSome u → last_line u ≡ Aborted ∷ []
  aborted_last None some = absurd cc
  aborted_last (Some calls) some = refl

  pub aborted_end : (at : ℕ) (was now : List ℕ) (pass new : PassSeen) → (s : Stands at was pass) → ((booked : List (ℕ × List Call)) → HasRan b session (between booked pass) (drop at lines) was now new progress.AtEnd) → IsSession false b session lines now old new
  aborted_end at was now pass new s ran =
      let (end, mid, pass_is, live, served, text) = ran s.1.end.heard.booked in
      let all = subst (λ (ls : List Line). HasServed b session (between [] old) ls [] mid end) (take-append-drop at lines) (behind at was mid pass end (drop at lines) s served) in
      record {
        before = lines;
        rest = [];
        lines_are = sym (append-nil lines);
        answers = all.answers;
        last = Aborted ∷ [];
        end = end;
        pass_is = pass_is;
        served = all.served;
        ends = subst (IsEnd false end.heard.under_way []) (aborted_last end.heard.under_way live) ends;
        text_is = whole_text all.answers (Aborted ∷ []) mid now all.text text;
      }

  pub failed_end : (at : ℕ) (was now : List ℕ) (pass new : PassSeen) → (s : Stands at was pass) → ((booked : List (ℕ × List Call)) → HasFailed b session (between booked pass) (drop at lines) was now new) → IsSession true b session lines now old new
  failed_end at was now pass new s failed =
      let f = failed s.1.end.heard.booked in
      let all = behind at was f.mid pass f.end f.before s f.served in
      record {
        before = take at lines ++ f.before;
        rest = f.rest;
        lines_are = sym (take-append-drop at lines) ∙ (ap (λ (ls : List Line). take at lines ++ ls) f.split ∙ sym (append_assoc (take at lines) f.before f.rest));
        answers = all.answers;
        last = _;
        end = f.end;
        pass_is = f.pass_is;
        served = all.served;
        ends = fails f.rest refl;
        text_is = whole_text all.answers _ f.mid now all.text f.text;
      }
