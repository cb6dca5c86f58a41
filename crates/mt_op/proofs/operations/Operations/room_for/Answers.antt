use Rattle.std.proofs.Common.{◌≡◌, ◌≢◌, ◌≤◌, ◌<◌, false, ⊎_elim, subst, arith}
use Rattle.std.specs.Prelude.{IsTrue}
use Rattle.std.proofs.lemmas.Bool.{cases_eq, cases_lt}
use Rattle.mt_op.specs.Holds.{IsUnlocked}
use Rattle.mt_op.proofs.operations.Operations.room_for.Goals as goal

pub loop-page-preserved : goal.loop-page-preserved
loop-page-preserved g c =
    let here = c.in-Some.ensures in
    let page = c.in-Some.page in
    let next = c.get-from.ensures in
    record {
      within = let inside = here.found.0 in omega arith;
      passed = λ p before takes open_. ⊎_elim
          (λ (early : p < c.loop-page.from). c.loop-page.invariant.passed p early takes open_)
          (λ (late : c.loop-page.from ≤ p). ⊎_elim
          (λ (is : p ≡ page).
          let unlocked = c.is_unlocked.ensures.1 (subst (IsUnlocked c.args.self.now.locks) is open_) in
          let never : IsTrue false = subst IsTrue c.if-is_unlocked.false unlocked in cc)
          (λ (other : p ≢ page). here.first p late (omega arith) takes)
          (cases_eq p page))
          (cases_lt p c.loop-page.from);
    }
