-- A line of a transaction over a shared kernel, and the lines of a transaction.
use Rattle.std.proofs.Common.{inl, inr, ◌≡◌, ◌≢◌, ◌≤◌, ℕ, List, [], ◌∷◌, ◌++◌, Option, Some, None, Result, Ok, Err, length, refl, ap, sym, subst, ◌∙◌}
use Rattle.mt_base.specs.declared.refusal.Refusal.{Refusal}
use Rattle.mt_base.specs.declared.refusal.Refusal.TheVariants as refusal
use Rattle.mt_mark.specs.declared.view.Entry.{Entry}
use Rattle.mt_model.specs.History.{Call}
use Rattle.mt_model.specs.declared.operations.Op.{Op}
use Rattle.mt_model.specs.declared.operations.Reply.{Reply}
use Rattle.mt_model.specs.declared.tables.Base.{Base}
use Rattle.mt_script.specs.Answers.{transcript_text}
use Rattle.mt_script.specs.declared.answers.Answer.{Answer}
use Rattle.mt_script.specs.declared.answers.Answer.TheVariants.{Replied, Saved, Back, Committed as CommittedAt, Aborted, Refused}
use Rattle.mt_script.specs.declared.lines.Line.{Line}
use Rattle.mt_script.specs.declared.lines.Line.TheVariants as line
use Rattle.mt_server.specs.Heard.{Hears, replies, saves, goes_back, commits, aborts, dies, refuses, IsRefusable, LetsGoOn, LetsLive}
use Rattle.mt_server.specs.Hearing.{Place, Ending, Grows, entry_of, IsAt, IsStopped, Reporting, Turning, Waits, between, token_of, within}
use Rattle.mt_server.specs.declared.line_answers.Halt.{Halt}
use Rattle.mt_server.specs.declared.line_answers.Halt.TheVariants as halt
use Rattle.mt_locked.specs.Seen.{PassSeen, Extends}
use Rattle.mt_locked.specs.Tokens.{TxnSeen, entry_of as entry_in, went_back, with_call, open_calls}
use Rattle.mt_txn.specs.Causes.{size_cause}

-- what is neither 2 nor 14
pub lets_live : (why : Refusal) → ((holder : ℕ) → why ≡ refusal.Die holder → ⊥) → (why ≡ refusal.DeviceFailed → ⊥) → LetsLive why
lets_live (refusal.Die holder) alive well = alive holder refl
lets_live refusal.DeviceFailed alive well = well refl
lets_live _ alive well = tt

pub lets_go_on : (why : Refusal) → (why ≡ refusal.DeviceFailed → ⊥) → LetsGoOn why
lets_go_on refusal.DeviceFailed well = well refl
lets_go_on _ well = tt

pub gone_not_back : (o : Option TxnSeen) (t : TxnSeen) → o ≡ None → o ≡ Some t → ⊥
gone_not_back o t gone back = let wrong : ◌≡◌ {A = Option TxnSeen} None (Some t) = sym gone ∙ back in absurd cc

pub stops_behind : (pass new : PassSeen) (was now : List ℕ) (s : Halt) → new ≡ pass → ((p : PassSeen) → IsStopped p was now p s) → IsStopped pass was now new s
stops_behind pass new was now s same stops = subst (λ (x : PassSeen). IsStopped pass was now x s) (sym same) (stops pass)

module _ (b : Base) (txn : TxnSeen) (pass : PassSeen) (own : txn.pass ≡ pass.number) where
  -- the token, as a pass of the same number holds it
  token_is : (t : TxnSeen) (new : PassSeen) → t.pass ≡ pass.number → new ≡ pass → t ≡ token_of new.number t.number t.done.session (open_calls t)
  token_is t new mine same = ap (λ (n : ℕ). token_of n t.number t.done.session (open_calls t)) (mine ∙ ap (λ (x : PassSeen). x.number) (sym same))

  -- after the answer the transaction goes on with this token
  goes_on : (l : Line) (answer : Answer) (t : TxnSeen) (was now : List ℕ) (new : PassSeen) (r : Result (Option TxnSeen) Halt) → t.pass ≡ txn.pass → t.done.session ≡ txn.done.session
      → ((booked : List (ℕ × List Call)) → Hears (within booked (open_calls txn) pass).heard l answer (within booked (open_calls t) pass).heard)
      → ((booked : List (ℕ × List Call)) → new ≡ pass → Grows b txn.done.session (within booked (open_calls txn) pass) answer new)
      → Reporting t pass was now new answer r → Turning b txn pass l was now new r
  goes_on l answer t was now new (Ok token) mine same_session hears grows (same, stays, text) = λ booked.
      let end : Place = within booked (open_calls t) new in
      let is : t ≡ token_of new.number t.number txn.done.session (open_calls t) =
      token_is t new (mine ∙ own) stays ∙ ap (λ (n : ℕ). token_of new.number t.number n (open_calls t)) same_session in
      record {
        end = end;
        pass_is = refl;
        at = subst (λ (o : Option TxnSeen). IsAt txn.done.session o end) (sym same) (refl, is);
        waits = subst (λ (o : Option TxnSeen). Waits o pass new) (sym same) stays;
        answer = answer;
        turns = record { hears = hears booked; grows = grows booked stays };
        text = text;
      }
  goes_on l answer t was now new (Err s) mine same_session hears grows stopped = inl stopped

  pub reported_refused : (l : Line) (why : Refusal) (was now : List ℕ) (new : PassSeen) (r : Result (Option TxnSeen) Halt) → IsRefusable (Some (open_calls txn)) l why → Reporting txn pass was now new (Refused why) r → Turning b txn pass l was now new r
  reported_refused l why was now new r may reports =
      goes_on l (Refused why) txn was now new r refl refl (λ booked. refuses l why may) (λ booked same. same) reports

  pub reported_reply : (op : Op) (reply : Reply) (was now : List ℕ) (new : PassSeen) (r : Result (Option TxnSeen) Halt) → size_cause op ≡ None → Reporting (with_call txn op reply) pass was now new (Replied reply) r → Turning b txn pass (line.Call op) was now new r
  reported_reply op reply was now new r sized reports =
      goes_on (line.Call op) (Replied reply) (with_call txn op reply) was now new r refl refl (λ booked. replies (open_calls txn) op reply refl sized) (λ booked same. same) reports

  pub reported_saved : (was now : List ℕ) (new : PassSeen) (r : Result (Option TxnSeen) Halt) → Reporting txn pass was now new (Saved (length txn.standing)) r → Turning b txn pass line.Save was now new r
  reported_saved was now new r reports =
      goes_on line.Save (Saved (length txn.standing)) txn was now new r refl refl (λ booked. saves (open_calls txn) refl) (λ booked same. same) reports

  pub reported_back : (first : ℕ) (was now : List ℕ) (new : PassSeen) (r : Result (Option TxnSeen) Halt) → first ≤ length txn.standing → Reporting (went_back txn first) pass was now new (Back first) r → Turning b txn pass (line.Back first) was now new r
  reported_back first was now new r within_it reports =
      goes_on (line.Back first) (Back first) (went_back txn first) was now new r refl refl (λ booked. goes_back (open_calls txn) first refl within_it) (λ booked same. same) reports

  pub reported_aborted : (was now : List ℕ) (new : PassSeen) → new ≡ pass → now ≡ was ++ transcript_text (Aborted ∷ []) → Turning b txn pass line.Abort was now new (Ok None)
  reported_aborted was now new same text = λ booked. record {
    end = between booked new;
    pass_is = refl;
    at = refl;
    waits = tt;
    answer = Aborted;
    turns = record { hears = aborts (open_calls txn) refl; grows = same };
    text = text;
  }

  pub reported_dead : (op : Op) (holder : ℕ) (was now : List ℕ) (new : PassSeen) → new ≡ pass → now ≡ was ++ transcript_text (Refused (refusal.Die holder) ∷ []) → Turning b txn pass (line.Call op) was now new (Ok None)
  reported_dead op holder was now new same text = λ booked. record {
    end = between booked new;
    pass_is = refl;
    at = refl;
    waits = tt;
    answer = Refused (refusal.Die holder);
    turns = record { hears = dies (open_calls txn) op holder refl; grows = same };
    text = text;
  }

  pub reported_commit : (place : ℕ) (was now : List ℕ) (new : PassSeen) → Extends b pass (entry_in txn) place new → now ≡ was ++ transcript_text (CommittedAt place ∷ []) → Turning b txn pass line.Commit was now new (Ok None)
  reported_commit place was now new extends text = λ booked.
      let same : entry_in txn ≡ entry_of pass.number txn.done.session txn.done.calls = ap (λ (n : ℕ). entry_of n txn.done.session txn.done.calls) own in
      record {
        end = between (booked ++ (place, txn.done.calls) ∷ []) new;
        pass_is = refl;
        at = refl;
        waits = tt;
        answer = CommittedAt place;
        turns = record { hears = commits (open_calls txn) place refl; grows = (open_calls txn, refl, subst (λ (e : Entry). Extends b pass e place new) same extends) };
        text = text;
      }

-- what stops a line in a transaction, as the end of any
pub stops_line : (b : Base) (txn : TxnSeen) (pass new : PassSeen) (l : Line) (was now : List ℕ) (s : Halt) → new ≡ pass → ((p : PassSeen) → IsStopped p was now p s) → Turning b txn pass l was now new (Err s)
stops_line b txn pass new l was now s same stops = inl (stops_behind pass new was now s same stops)

-- an answer found no memory, and nothing more is seen
pub unheard_line : (b : Base) (txn : TxnSeen) (pass new : PassSeen) (l : Line) (was now : List ℕ) (s : Halt) → s ≡ halt.Unheard → new ≡ pass → Turning b txn pass l was now new (Err s)
unheard_line b txn pass new l was now s is same = subst (λ (x : Halt). Turning b txn pass l was now new (Err x)) (sym is) (inl same)

pub unheard_commit : (b : Base) (txn : TxnSeen) (pass new : PassSeen) (was now : List ℕ) (place : ℕ) (s : Halt) → s ≡ halt.Unheard → Extends b pass (entry_in txn) place new → Turning b txn pass line.Commit was now new (Err s)
unheard_commit b txn pass new was now place s is extends = inr (is, refl, (place, extends))

pub fails_at_end : (pass new : PassSeen) (was now : List ℕ) (s : Halt) → new ≡ pass → s ≢ halt.Died → ((p : PassSeen) → IsStopped p was now p s) → Ending pass was now new (Err s)
fails_at_end pass new was now halt.Died same lives stops = absurd (lives refl)
fails_at_end pass new was now halt.Failed same lives stops = (same, (stops pass).1)
fails_at_end pass new was now halt.Unheard same lives stops = same

pub same_turning : (b : Base) (pass : PassSeen) (l : Line) (was now : List ℕ) (new : PassSeen) (r : Result (Option TxnSeen) Halt) (t txn : TxnSeen) → t ≡ txn → Turning b t pass l was now new r → Turning b txn pass l was now new r
same_turning b pass l was now new r t txn same turns = subst (λ (e : TxnSeen). Turning b e pass l was now new r) same turns

pub same_reporting : (p pass : PassSeen) (was now : List ℕ) (new : PassSeen) (a : Answer) (r : Result (Option TxnSeen) Halt) (t txn : TxnSeen) → p ≡ pass → t ≡ txn → Reporting t p was now new a r → Reporting txn pass was now new a r
same_reporting p pass was now new a r t txn same_pass same reports = subst (λ (x : TxnSeen × PassSeen). Reporting x.0 x.1 was now new a r) (λ i. (same i, same_pass i)) reports
