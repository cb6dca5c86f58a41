use Rattle.std.proofs.Common.{◌≡◌, Contains, subst, ◌∙◌}
use Rattle.mt_plock.specs.declared.guards.PageLock.{PageLock}
use Rattle.mt_plock.specs.Releasing.{IsLastAt}
use Rattle.mt_plock.proofs.Removing.{gives_back, gives_none}
use Rattle.mt_plock.proofs.table.PageLocks.release.Goals as goal

pub returns-in-Some : goal.returns-in-Some
returns-in-Some c =
    let same : c.deref.result.now ≡ c.args.self.now = c.deref.ensures.value ∙ c.self.view_is in
    let at : IsLastAt c.args.self.now c.args.guard c.in-Some.place =
    subst (λ locks. IsLastAt locks c.args.guard c.in-Some.place) same
    (subst (λ (lock : PageLock). IsLastAt c.deref.result.now lock c.in-Some.place) c.into_lock-lock.ensures c.in-Some.ensures) in
    rw (c.remove.ensures.items, c.self.view_is) (gives_back c.args.self.now c.args.guard c.in-Some.place at)

pub returns-in_default : goal.returns-in_default
returns-in_default c =
    let same : c.deref.result.now ≡ c.args.self.now = c.deref.ensures.value ∙ c.self.view_is in
    gives_none c.args.self.now c.args.guard
    (subst (λ locks. Contains locks c.args.guard → ⊥) same
    (subst (λ (lock : PageLock). Contains c.deref.result.now lock → ⊥) c.into_lock-lock.ensures c.in_default.ensures))
