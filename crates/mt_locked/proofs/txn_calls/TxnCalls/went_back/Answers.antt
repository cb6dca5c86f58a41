use Rattle.std.proofs.Common.{◌≡◌, ◌∙◌, ◌++◌, List, ℕ, ap, rules, subst, sym, take}
use Rattle.mt_model.specs.History.{Call}
use Rattle.mt_locked.specs.Tokens.{ArePositions, CallsSeen, calls_at}
use Rattle.mt_locked.proofs.Tokens.{cut, cut_positions}
use Rattle.mt_locked.proofs.txn_calls.TxnCalls.went_back.Goals as goal

pub invariant_of-self : goal.invariant_of-self
invariant_of-self c =
    let calls = c.self.inside.calls.items in let positions = c.self.inside.standing.items in let inverses = c.args.inverses.items in
    let all : c.append.new.self.items ≡ calls ++ inverses = search rules in
    subst (λ (x : List Call × List ℕ). ArePositions x.0 x.1) (λ i. (sym all i, sym c.truncate.ensures.items i)) (cut_positions calls inverses c.args.first positions c.self.invariant)

pub returns-clause-standing : goal.returns-clause-standing
returns-clause-standing c =
    let calls = c.self.inside.calls.items in let positions = c.self.inside.standing.items in let inverses = c.args.inverses.items in
    let all : c.append.new.self.items ≡ calls ++ inverses = search rules in
    (λ i. calls_at (all i) (c.truncate.ensures.items i))
    ∙ (cut calls inverses c.args.first positions c.self.invariant.within ∙ ap (λ (x : CallsSeen). take c.args.first x.standing) c.self.view_is)
