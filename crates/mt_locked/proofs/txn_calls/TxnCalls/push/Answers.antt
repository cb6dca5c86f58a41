use Rattle.std.proofs.Common.{◌≡◌, ◌∙◌, ◌++◌, ◌∷◌, [], ◌<◌, List, ℕ, ap, arith, length, rules, subst, sym}
use Rattle.mt_model.specs.History.{Call}
use Rattle.mt_locked.specs.Tokens.{ArePositions, CallsSeen, calls_at}
use Rattle.mt_locked.proofs.Tokens.{pushed, pushed_positions}
use Rattle.mt_locked.proofs.txn_calls.TxnCalls.push.Goals as goal

pub invariant_of-self : goal.invariant_of-self
invariant_of-self c =
    let calls = c.self.inside.calls.items in let positions = c.self.inside.standing.items in let call : Call = (c.args.op, c.args.reply) in
    let few : length positions < 65535 = (let room = c.requires.room.countable in let is = ap (λ (x : CallsSeen). x.countable) c.self.view_is in omega (arith, room, is)) in
    let long : c.len.result ≡ length calls = search (rules, c.len.ensures) in
    subst (λ (x : List Call × List ℕ). ArePositions x.0 x.1) (λ i. (sym {A = List Call} c.push_reserved-2.ensures.items i, (ap (λ (n : ℕ). positions ++ n ∷ []) (sym {A = ℕ} long) ∙ sym {A = List ℕ} c.push_reserved.ensures.items) i))
    (pushed_positions calls call positions c.requires.steps few c.self.invariant)

pub returns-clause-standing : goal.returns-clause-standing
returns-clause-standing c =
    let calls = c.self.inside.calls.items in let positions = c.self.inside.standing.items in let call : Call = (c.args.op, c.args.reply) in
    let long : c.len.result ≡ length calls = search (rules, c.len.ensures) in
    let there : c.push_reserved.new.self.items ≡ positions ++ length calls ∷ [] = c.push_reserved.ensures.items ∙ ap (λ (n : ℕ). positions ++ n ∷ []) long in
    let seen = pushed calls call positions c.self.invariant.within ∙ ap (λ (x : CallsSeen). x.standing ++ call ∷ []) c.self.view_is in
    ◌∙◌ {A = List Call} (λ i. calls_at (c.push_reserved-2.ensures.items i) (there i)) seen
