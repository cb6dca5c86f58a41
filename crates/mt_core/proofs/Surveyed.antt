-- Where nobody lives no operation is under way, and no page is locked.
use Rattle.std.proofs.Common.{◌≡◌, List, [], ◌∷◌, true, refl, subst}
use Rattle.std.specs.Prelude.{All}
use Rattle.std.proofs.lemmas.List.Elements.{All-head}
use Rattle.mt_core.specs.Runs.{AreHeldBy, IsOwned, is_under_way, is_working}
use Rattle.mt_op.specs.declared.scope.OpScope.{OpScope}
use Rattle.mt_live.specs.Entries.{Entry}
use Rattle.mt_live.specs.Lives.{member_of}
use Rattle.mt_live.specs.Members.{Member}
use Rattle.mt_plock.specs.declared.guards.PageLock.{PageLock}

nobody_runs : (standing : List Entry) (rs : List OpScope) → All (IsOwned [] standing) rs → rs ≡ []
nobody_runs standing [] owned = refl
nobody_runs standing (r ∷ rs) owned = absurd (let works : is_working (member_of [] r.txn) ≡ true = (All-head (IsOwned [] standing) r rs owned).at_work in cc)

nobody_holds : (locks : List PageLock) → AreHeldBy [] locks → locks ≡ []
nobody_holds [] held = refl
nobody_holds (l ∷ locks) held = absurd (let under : is_under_way [] l.op ≡ true = All-head (λ (x : PageLock). is_under_way [] x.op ≡ true) l locks held in cc)

pub nobody_locks : (ms : List Member) (standing : List Entry) (rs : List OpScope) (locks : List PageLock) → ms ≡ [] → All (IsOwned ms standing) rs → AreHeldBy rs locks → locks ≡ []
nobody_locks ms standing rs locks nobody owned held =
    let none = nobody_runs standing rs (subst (λ (xs : List Member). All (IsOwned xs standing) rs) nobody owned) in
    nobody_holds locks (subst (λ (xs : List OpScope). AreHeldBy xs locks) none held)
