use Rattle.std.proofs.Common.{◌≡◌, ◌∙◌, ◌++◌, ◌+◌, ◌-◌, ◌<◌, List, ℕ, Option, None, Some, ap, append-nil, arith, drop, get_or, length, sym}
use Rattle.std.specs.Option.{option_to_list}
use Rattle.std.proofs.lemmas.List.{length-map}
use Rattle.mt_model.specs.Backwards.{call_back, calls_back}
use Rattle.mt_model.specs.History.{Call}
use Rattle.mt_locked.specs.Tokens.{ArePositions, CallsSeen, call_at, calls_at}
use Rattle.mt_locked.proofs.Tokens.{one_more, step_at}
use Rattle.mt_locked.proofs.txn_calls.TxnCalls.calls_back.Goals as goal

-- the inverses with one more, read off the call at a position
next : (calls : List Call) (positions : List ℕ) (standing inverses : List Call) (left position : ℕ) (call : Call) → ArePositions calls positions → calls_at calls positions ≡ standing → 0 < left → left - 1 < length positions
    → position ≡ get_or positions (left - 1) position → call ≡ get_or calls position call → inverses ≡ calls_back (drop left standing)
    → inverses ++ option_to_list (call_back call) ≡ calls_back (drop (left - 1) standing)
next calls positions standing inverses left position call are seen some below is_position is_call so_far =
    let up : left - 1 + 1 ≡ left = omega (arith, some) in
    (ap (λ (v : List Call). v ++ option_to_list (call_back call)) (so_far ∙ (λ i. calls_back (drop (sym up i) (sym seen i))))
    ∙ sym (one_more calls positions (left - 1) position call are below is_position is_call))
    ∙ ap (λ (v : List Call). calls_back (drop (left - 1) v)) seen

pub call_back-requires : goal.call_back-requires
call_back-requires c =
    let calls = c.self.inside.calls.items in let positions = c.self.inside.standing.items in
    let counted = ap (λ (x : CallsSeen). length x.standing) c.self.view_is in let long = length-map positions (call_at calls) in
    let most = c.calls.invariant.most in let above = c.calls-test.true in
    step_at calls positions (c.calls.left - 1) c.index.result.now c.index-in-calls.result.now c.self.invariant (omega (arith, counted, long, most, above)) c.index.ensures c.index-in-calls.ensures

pub calls-preserved-in-Continue-branch-3 : goal.calls-preserved-in-Continue-branch-3
calls-preserved-in-Continue-branch-3 c =
    let calls = c.self.inside.calls.items in let positions = c.self.inside.standing.items in
    let counted = ap (λ (x : CallsSeen). length x.standing) c.self.view_is in let long = length-map positions (call_at calls) in
    let most = c.calls.invariant.most in let above = c.calls-test.true in
    let made : call_back c.index-in-calls.result.now ≡ Some c.in-Some.inverse = sym c.in_ok-inverse.ensures ∙ c.in-Some.is in
    record {
      least = omega (arith, above);
      most = omega (arith, most);
      inverses = c.in_ok-push.ensures.items ∙ (ap (λ (o : Option Call). c.calls.inverses.items ++ option_to_list o) (sym made)
          ∙ next calls positions c.args.self.now.standing c.calls.inverses.items c.calls.left c.index.result.now c.index-in-calls.result.now c.self.invariant (ap (λ (x : CallsSeen). x.standing) c.self.view_is)
          (omega (arith, above)) (omega (arith, counted, long, most, above)) c.index.ensures c.index-in-calls.ensures c.calls.invariant.inverses);
    }

pub calls-preserved : goal.calls-preserved
calls-preserved c =
    let calls = c.self.inside.calls.items in let positions = c.self.inside.standing.items in
    let counted = ap (λ (x : CallsSeen). length x.standing) c.self.view_is in let long = length-map positions (call_at calls) in
    let most = c.calls.invariant.most in let above = c.calls-test.true in
    let made : call_back c.index-in-calls.result.now ≡ None = sym c.in_ok-inverse.ensures ∙ c.in_default.is in
    record {
      least = omega (arith, above);
      most = omega (arith, most);
      inverses = sym (append-nil c.calls.inverses.items) ∙ (ap (λ (o : Option Call). c.calls.inverses.items ++ option_to_list o) (sym made)
          ∙ next calls positions c.args.self.now.standing c.calls.inverses.items c.calls.left c.index.result.now c.index-in-calls.result.now c.self.invariant (ap (λ (x : CallsSeen). x.standing) c.self.view_is)
          (omega (arith, above)) (omega (arith, counted, long, most, above)) c.index.ensures c.index-in-calls.ensures c.calls.invariant.inverses);
    }
