-- The lines of a transaction over a shared kernel.
use Rattle.std.proofs.Common.{⊎_elim, inl, inr, ◌≡◌, ◌≢◌, ◌<◌, ◌≤◌, ◌+◌, ◌-◌, ◌^◌, ℕ, suc, List, [], ◌∷◌, ◌++◌, Option, Some, None, Result, Ok, Err, IsSome, arith, length, take, drop, get_or, refl, ap, sym, subst, ◌∙◌, append-nil, length-drop, take-append-drop}
use Rattle.std.proofs.Math.Seq.{drop-cons, take-suc, take-length}
use mathlib.Core.List.{IsPrefix}
use Rattle.mt_base.specs.declared.refusal.Refusal.{Refusal}
use Rattle.mt_base.specs.declared.refusal.Refusal.TheVariants as refusal
use Rattle.mt_mark.proofs.Fronts.{prefix_trans}
use Rattle.mt_model.specs.History.{Call}
use Rattle.mt_model.specs.declared.tables.Base.{Base}
use Rattle.mt_script.specs.Answers.{transcript_text}
use Rattle.mt_script.specs.declared.answers.Answer.{Answer}
use Rattle.mt_script.specs.declared.answers.Answer.TheVariants.{Begun, Refused}
use Rattle.mt_script.specs.declared.lines.Line.{Line}
use Rattle.mt_script.specs.declared.lines.Line.TheVariants as line
use Rattle.mt_model.specs.Backwards.{OpenCalls, no_calls}
use Rattle.mt_alone.specs.Plays.{starts, goes_on}
use Rattle.mt_server.specs.Heard.{IsRefusable, begins, refuses}
use Rattle.mt_server.specs.Hearing.{AreFew, CommitsUnheard, Place, Ending, HasRan, HasServed, IsStopped, IsTurned, IsUnheardCommit, Reached, Running, Turning, Turns, and_begin, between, entry_of, token_of, within}
use Rattle.mt_server.specs.declared.attempts.Progress.{Progress}
use Rattle.mt_server.specs.declared.attempts.Progress.TheVariants as progress
use Rattle.mt_server.specs.declared.line_answers.Halt.{Halt}
use Rattle.mt_server.specs.declared.line_answers.Halt.TheVariants as halt
use Rattle.mt_alone.proofs.TranscriptLemmas.{all_reported, none_reported, runs_then}
use Rattle.mt_locked.specs.Seen.{Extends, PassSeen}
use Rattle.mt_locked.specs.Tokens.{TxnSeen, entry_of as entry_in, fresh, open_calls}
use Rattle.mt_mark.specs.declared.view.Entry.{Entry}

module _ (b : Base) (session : ℕ) where
  pub none_served : (start : Place) (was : List ℕ) → HasServed b session start [] was was start
  none_served start was = record { answers = []; served = starts; text = none_reported was }

  one_served : (start end : Place) (l : Line) (a : Answer) (was now : List ℕ) → Turns b session start l a end → now ≡ was ++ transcript_text (a ∷ []) → HasServed b session start (l ∷ []) was now end
  one_served start end l a was now turns text = record { answers = a ∷ []; served = goes_on [] [] start end l a starts turns; text = text }

  pub served_then : (start mid end : Place) (ls ms : List Line) (was at now : List ℕ) → HasServed b session start ls was at mid → HasServed b session mid ms at now end → HasServed b session start (ls ++ ms) was now end
  served_then start mid end ls ms was at now first next = record {
    answers = first.answers ++ next.answers;
    served = runs_then start mid end ls ms first.answers next.answers first.served next.served;
    text = all_reported first.answers next.answers was at now first.text next.text;
  }

  served_prefix : (start end : Place) (ls : List Line) (was now : List ℕ) → HasServed b session start ls was now end → IsPrefix was now
  served_prefix start end ls was now s = (transcript_text s.answers, sym s.text)

  -- ---- within a transaction

  pub begun_at : (booked : List (ℕ × List Call)) (txn : TxnSeen) (pass : PassSeen) (lines : List Line) (was : List ℕ) → txn.pass ≡ pass.number → txn.done.session ≡ session
      → Reached b session (within booked (open_calls txn) pass) (take 0 lines) was was (Some txn) pass
  begun_at booked txn pass lines was own mine = record {
    end = within booked (open_calls txn) pass;
    pass_is = refl;
    at = (refl, λ i. token_of (own i) txn.number (mine i) (open_calls txn));
    served = none_served (within booked (open_calls txn) pass) was;
  }

  pub own_at : {start : Place} {lines : List Line} {was now : List ℕ} → (t : TxnSeen) (pass : PassSeen) → Reached b session start lines was now (Some t) pass → (t.pass ≡ pass.number) × (t.done.session ≡ session)
  own_at t pass r = (ap (λ (e : TxnSeen). e.pass) r.at.1 ∙ ap (λ (x : PassSeen). x.number) r.pass_is, ap (λ (e : TxnSeen). e.done.session) r.at.1)

  -- where it stands
  place_is : (p : Place) (calls : OpenCalls) (pass : PassSeen) → p.heard.under_way ≡ Some calls → p.pass ≡ pass → p ≡ within p.heard.booked calls pass
  place_is p calls pass open_is pass_is = λ i. record { heard = record { under_way = open_is i; booked = p.heard.booked }; pass = pass_is i }

  pub line_more : (start : Place) (lines : List Line) (n : ℕ) (l : Line) (was mid now : List ℕ) (t : TxnSeen) (pass new : PassSeen) (token : Option TxnSeen) → n < length lines → l ≡ get_or lines n l
      → Reached b session start (take n lines) was mid (Some t) pass → Turning b t pass l mid now new (Ok token) → Reached b session start (take (suc n) lines) was now token new
  line_more start lines n l was mid now t pass new token lt is r turning =
      let from : r.end ≡ within r.end.heard.booked (open_calls t) pass = place_is r.end (open_calls t) pass r.at.0 r.pass_is in
      let mine : t.done.session ≡ session = (own_at t pass r).1 in
      let x = subst (λ (n : ℕ). IsTurned b n (within r.end.heard.booked (open_calls t) pass) l mid now token new) mine (turning r.end.heard.booked) in
      let all : take n lines ++ l ∷ [] ≡ take (suc n) lines = ap (λ (y : Line). take n lines ++ y ∷ []) is ∙ sym (take-suc lines n l lt) in
      let turns : Turns b session r.end l x.answer x.end = subst (λ (p : Place). Turns b session p l x.answer x.end) (sym from) x.turns in
      record {
        end = x.end;
        pass_is = x.pass_is;
        at = x.at;
        served = subst (λ (ls : List Line). HasServed b session start ls was now x.end) all
            (served_then start r.end x.end (take n lines) (l ∷ []) was mid now r.served (one_served r.end x.end l x.answer mid now turns x.text));
      }

  pub waits_on : (l : Line) (mid now : List ℕ) (t kept : TxnSeen) (pass new : PassSeen) → Turning b t pass l mid now new (Ok (Some kept)) → new ≡ pass
  waits_on l mid now t kept pass new turning = (turning []).waits

  pub ended_at : (start : Place) (lines : List Line) (n : ℕ) (was now : List ℕ) (new : PassSeen) → n ≤ length lines → Reached b session start (take n lines) was now None new → HasRan b session start lines was now new (progress.Ended n)
  ended_at start lines n was now new le r = (r.end, r.pass_is, r.at, le, r.served)

  stopped_so : (start : Place) (lines : List Line) (n : ℕ) (was mid now : List ℕ) (t : TxnSeen) (pass new : PassSeen) (s : Halt) → pass ≡ start.pass → Reached b session start (take n lines) was mid (Some t) pass
      → IsStopped pass mid now new s → Running b session start lines was now new (Err s)
  stopped_so start lines n was mid now t pass new halt.Died same r (stays, front) = (stays ∙ same, prefix_trans was mid now (served_prefix start r.end (take n lines) was mid r.served) front)
  stopped_so start lines n was mid now t pass new halt.Failed same r (stays, text) = record {
    before = take n lines;
    rest = drop n lines;
    split = sym (take-append-drop n lines);
    end = r.end;
    pass_is = r.pass_is ∙ sym stays;
    mid = mid;
    served = r.served;
    text = text;
  }
  stopped_so start lines n was mid now t pass new halt.Unheard same r stays = inl (stays ∙ same)

  -- a commit after these lines whose answer is not heard
  committed_at : (start : Place) (lines : List Line) (n : ℕ) (l : Line) (was mid : List ℕ) (t : TxnSeen) (pass new : PassSeen) (place : ℕ) → n < length lines → l ≡ get_or lines n l → l ≡ line.Commit → Reached b session start (take n lines) was mid (Some t) pass
      → Extends b pass (entry_in t) place new → CommitsUnheard b session start lines was new
  committed_at start lines n l was mid t pass new place lt is commit r extends =
      let own = own_at t pass r in
      let e : entry_in t ≡ entry_of pass.number session t.done.calls = λ i. record { pass = own.0 i; done = record { session = own.1 i; calls = t.done.calls } } in
      record {
        before = take n lines;
        rest = drop (suc n) lines;
        split = sym (take-append-drop n lines) ∙ ap (λ (ys : List Line). take n lines ++ ys) (drop-cons lines n l lt ∙ ap (λ (y : Line). y ∷ drop (suc n) lines) (sym is ∙ commit));
        end = r.end;
        mid = mid;
        served = r.served;
        place = place;
        grows = (
          open_calls t,
          r.at.0,
          subst (λ (p : PassSeen). Extends b p (entry_of p.number session t.done.calls) place new) (sym r.pass_is) (subst (λ (x : Entry). Extends b pass x place new) e extends),
        );
      }

  pub stopped_at : (start : Place) (lines : List Line) (n : ℕ) (l : Line) (was mid now : List ℕ) (t : TxnSeen) (pass new : PassSeen) (s : Halt) → n < length lines → l ≡ get_or lines n l → pass ≡ start.pass → Reached b session start (take n lines) was mid (Some t) pass
      → Turning b t pass l mid now new (Err s) → Running b session start lines was now new (Err s)
  stopped_at start lines n l was mid now t pass new s lt is same r turning = ⊎_elim
      (λ (stops : IsStopped pass mid now new s). stopped_so start lines n was mid now t pass new s same r stops)
      (λ (unheard : IsUnheardCommit b t pass l new s). subst (λ (x : Halt). Running b session start lines was now new (Err x)) (sym unheard.0)
      (inr (committed_at start lines n l was mid t pass new unheard.2.0 lt is unheard.1 r unheard.2.1)))
      turning

  pub at_end : (start : Place) (lines : List Line) (was mid now : List ℕ) (t : TxnSeen) (pass new : PassSeen) (result : Result Progress Halt) → pass ≡ start.pass → Reached b session start (take (length lines) lines) was mid (Some t) pass
      → Ending pass mid now new result → Running b session start lines was now new result
  at_end start lines was mid now t pass new (Ok (progress.Ended count)) same r ends = absurd ends
  at_end start lines was mid now t pass new (Ok progress.AtEnd) same r (stays, text) =
      (r.end, mid, r.pass_is ∙ sym stays, subst (λ (u : Option OpenCalls). IsSome u) (sym r.at.0) refl, subst (λ (ls : List Line). HasServed b session start ls was mid r.end) (take-length lines) r.served, text)
  at_end start lines was mid now t pass new (Err halt.Died) same r ends = absurd ends
  at_end start lines was mid now t pass new (Err halt.Failed) same r (stays, text) = record {
    before = lines;
    rest = [];
    split = sym (append-nil lines);
    end = r.end;
    pass_is = r.pass_is ∙ sym stays;
    mid = mid;
    served = subst (λ (ls : List Line). HasServed b session start ls was mid r.end) (take-length lines) r.served;
    text = text;
  }
  at_end start lines was mid now t pass new (Err halt.Unheard) same r stays = inl (stays ∙ same)

  -- ---- from the begin on

  pub few_ran : (start : Place) (lines : List Line) (was now : List ℕ) (new : PassSeen) (result : Result Progress Halt) → length lines + 1 < 2 ^ 64 → Running b session start lines was now new result → AreFew result
  few_ran start lines was now new (Ok (progress.Ended count)) room (end, pass_is, ended, le, served) = omega (arith, room, le)
  few_ran start lines was now new (Ok progress.AtEnd) room r = tt
  few_ran start lines was now new (Err s) room r = tt

  begun : (booked : List (ℕ × List Call)) (pass : PassSeen) (was mid : List ℕ) → mid ≡ was ++ transcript_text (Begun ∷ []) → HasServed b session (between booked pass) (line.Begin ∷ []) was mid (within booked no_calls pass)
  begun booked pass was mid text = one_served (between booked pass) (within booked no_calls pass) line.Begin Begun was mid (record { hears = begins refl; grows = refl }) text

  pub run_behind : (booked : List (ℕ × List Call)) (pass : PassSeen) (lines : List Line) (was mid now : List ℕ) (new : PassSeen) (result : Result Progress Halt) → mid ≡ was ++ transcript_text (Begun ∷ [])
      → Running b session (within booked no_calls pass) lines mid now new result → Running b session (between booked pass) (line.Begin ∷ lines) was now new (and_begin result)
  run_behind booked pass lines was mid now new (Ok (progress.Ended count)) text (end, pass_is, ended, le, served) =
      (end, pass_is, ended, omega (arith, le), served_then (between booked pass) (within booked no_calls pass) end (line.Begin ∷ []) (take count lines) was mid now (begun booked pass was mid text) served)
  run_behind booked pass lines was mid now new (Ok progress.AtEnd) text (end, at, pass_is, live, served, outcome) =
      (end, at, pass_is, live, served_then (between booked pass) (within booked no_calls pass) end (line.Begin ∷ []) lines was mid at (begun booked pass was mid text) served, outcome)
  run_behind booked pass lines was mid now new (Err halt.Died) text (stays, front) =
      (stays, prefix_trans was mid now (transcript_text (Begun ∷ []), sym text) front)
  run_behind booked pass lines was mid now new (Err halt.Failed) text f = record {
    before = line.Begin ∷ f.before;
    rest = f.rest;
    split = ap (λ (ls : List Line). line.Begin ∷ ls) f.split;
    end = f.end;
    pass_is = f.pass_is;
    mid = f.mid;
    served = served_then (between booked pass) (within booked no_calls pass) f.end (line.Begin ∷ []) f.before was mid f.mid (begun booked pass was mid text) f.served;
    text = f.text;
  }
  run_behind booked pass lines was mid now new (Err halt.Unheard) text (inl same) = inl same
  run_behind booked pass lines was mid now new (Err halt.Unheard) text (inr u) = inr (record {
    before = line.Begin ∷ u.before;
    rest = u.rest;
    split = ap (λ (ls : List Line). line.Begin ∷ ls) u.split;
    end = u.end;
    mid = u.mid;
    served = served_then (between booked pass) (within booked no_calls pass) u.end (line.Begin ∷ []) u.before was mid u.mid (begun booked pass was mid text) u.served;
    place = u.place;
    grows = u.grows;
  })

  pub begin_refused : (booked : List (ℕ × List Call)) (pass new : PassSeen) (lines : List Line) (why : Refusal) (was now : List ℕ) → IsRefusable None line.Begin why → new ≡ pass → now ≡ was ++ transcript_text (Refused why ∷ [])
      → HasRan b session (between booked pass) (line.Begin ∷ lines) was now new (progress.Ended 1)
  begin_refused booked pass new lines why was now lets same text =
      (between booked pass, sym same, refl, omega arith, one_served (between booked pass) (between booked pass) line.Begin (Refused why) was now (record { hears = refuses line.Begin why lets; grows = refl }) text)

  pub begin_failed : (booked : List (ℕ × List Call)) (pass new : PassSeen) (lines : List Line) (was now : List ℕ) (s : Halt) → new ≡ pass → s ≢ halt.Died → ((p : PassSeen) → IsStopped p was now p s)
      → Running b session (between booked pass) lines was now new (Err s)
  begin_failed booked pass new lines was now halt.Died same lives stops = absurd (lives refl)
  begin_failed booked pass new lines was now halt.Failed same lives stops = record {
    before = [];
    rest = lines;
    split = refl;
    end = between booked pass;
    pass_is = sym same;
    mid = was;
    served = none_served (between booked pass) was;
    text = (stops pass).1;
  }
  begin_failed booked pass new lines was now halt.Unheard same lives stops = inl same

  -- an answer found no memory, and nothing more is seen
  pub unheard : (start : Place) (lines : List Line) (was now : List ℕ) (new : PassSeen) (s : Halt) → s ≡ halt.Unheard → new ≡ start.pass → Running b session start lines was now new (Err s)
  unheard start lines was now new s is same = subst (λ (x : Halt). Running b session start lines was now new (Err x)) (sym is) (inl same)

  -- with the token that the begin gave
  pub run_fresh : (booked : List (ℕ × List Call)) (pass at : PassSeen) (txn : TxnSeen) (lines : List Line) (was mid now : List ℕ) (new : PassSeen) (result : Result Progress Halt) → at ≡ pass → txn ≡ fresh pass.number txn.number session → mid ≡ was ++ transcript_text (Begun ∷ [])
      → Running b txn.done.session (within booked (open_calls txn) at) lines mid now new result → Running b session (between booked pass) (line.Begin ∷ lines) was now new (and_begin result)
  run_fresh booked pass at txn lines was mid now new result same token text runs =
      run_behind booked pass lines was mid now new result text (subst (λ (x : TxnSeen × PassSeen). Running b x.0.done.session (within booked (open_calls x.0) x.1) lines mid now new result) (λ i. (token i, same i)) runs)

  -- from where the loop began
  pub same_start : (booked : List (ℕ × List Call)) (pass at : PassSeen) (lines : List Line) (was mid now : List ℕ) (new : PassSeen) (result : Result Progress Halt) → at ≡ pass → mid ≡ was
      → Running b session (between booked at) lines mid now new result → Running b session (between booked pass) lines was now new result
  same_start booked pass at lines was mid now new result same text runs =
      subst (λ (x : PassSeen × List ℕ). Running b session (between booked x.0) lines x.1 now new result) (λ i. (same i, text i)) runs

  pub outside : (booked : List (ℕ × List Call)) (pass : PassSeen) (lines : List Line) (at : ℕ) (l : Line) (was now : List ℕ) → at < length lines → l ≡ get_or lines at l → (l ≡ line.Begin → ⊥) → now ≡ was ++ transcript_text (Refused refusal.Stranger ∷ [])
      → HasRan b session (between booked pass) (drop at lines) was now pass (progress.Ended 1)
  outside booked pass lines at l was now lt is other text =
      let first : drop at lines ≡ l ∷ drop (suc at) lines = drop-cons lines at l lt ∙ ap (λ (y : Line). y ∷ drop (suc at) lines) (sym is) in
      let turns : Turns b session (between booked pass) l (Refused refusal.Stranger) (between booked pass) = record { hears = refuses l refusal.Stranger (stranger l other); grows = refl } in
      subst (λ (ls : List Line). HasRan b session (between booked pass) ls was now pass (progress.Ended 1)) (sym first)
      (between booked pass, refl, refl, omega arith, one_served (between booked pass) (between booked pass) l (Refused refusal.Stranger) was now turns text)
    where
      stranger : (x : Line) → (x ≡ line.Begin → ⊥) → IsRefusable None x refusal.Stranger
      stranger line.Begin not_begin = absurd (not_begin refl)
      stranger (line.Call op) not_begin = refl
      stranger line.Save not_begin = refl
      stranger (line.Back first) not_begin = refl
      stranger line.Commit not_begin = refl
      stranger line.Abort not_begin = refl

  pub from_begin : (booked : List (ℕ × List Call)) (pass : PassSeen) (lines : List Line) (at : ℕ) (l : Line) (was now : List ℕ) (new : PassSeen) (result : Result Progress Halt) → at < length lines → l ≡ get_or lines at l → l ≡ line.Begin
      → Running b session (between booked pass) (line.Begin ∷ drop (suc at) lines) was now new result → Running b session (between booked pass) (drop at lines) was now new result
  from_begin booked pass lines at l was now new result lt is begin runs =
      let first : drop at lines ≡ line.Begin ∷ drop (suc at) lines = drop-cons lines at l lt ∙ ap (λ (y : Line). y ∷ drop (suc at) lines) (sym is ∙ begin) in
      subst (λ (ls : List Line). Running b session (between booked pass) ls was now new result) (sym first) runs

take_front : (xs rest : List ℕ) → take (length xs) (xs ++ rest) ≡ xs
take_front [] rest = refl
take_front (x ∷ xs) rest = ap (λ (t : List ℕ). x ∷ t) (take_front xs rest)

-- what was written of a run that died is cut off
pub cut_back : (first was now cut : List ℕ) (n : ℕ) → was ≡ first → IsPrefix was now → n ≡ length first → cut ≡ take n now → cut ≡ first
cut_back first was now cut n same (rest, grown) count is =
    let whole : now ≡ first ++ rest = sym grown ∙ ap (λ (t : List ℕ). t ++ rest) same in
    is ∙ ((λ i. take (count i) (whole i)) ∙ take_front first rest)

-- a slice from a place on
pub rest_from : (lines : List Line) (n : ℕ) → take (length lines - n) (drop n lines) ≡ drop n lines
rest_from lines n = ap (λ (k : ℕ). take k (drop n lines)) (sym (length-drop n lines)) ∙ take-length (drop n lines)
