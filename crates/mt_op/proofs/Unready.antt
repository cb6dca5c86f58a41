-- A step that goes on does not answer that the operation is ready.
use Rattle.std.proofs.Props.{props}
use Rattle.std.specs.Prelude.{◌≡◌, ℕ, Result, Ok, Err}
use Rattle.mt_base.specs.declared.refusal.Refusal.{Refusal}
use Rattle.mt_op.specs.World.{World}
use Rattle.mt_op.specs.Operations.{GoesOn, GivesBack}
use Rattle.mt_op.specs.Work.{IsGoing, ComesTo}
use Rattle.mt_op.specs.declared.answers.Stepped.{Stepped}
use Rattle.mt_op.specs.declared.answers.Stepped.TheVariants as stepped
use Rattle.mt_op.specs.declared.scope.OpScope.{OpScope}
use Rattle.mt_op.specs.declared.scope.Stage.{Stage}

abbrev pub IsUnready : Result Stepped Refusal → Type 0
IsUnready (Ok (stepped.Ready first second)) = ⊥
IsUnready (Ok stepped.Went) = Unit {0}
IsUnready (Ok (stepped.Wait holder)) = Unit {0}
IsUnready (Ok (stepped.Again holder)) = Unit {0}
IsUnready (Ok stepped.Flush) = Unit {0}
IsUnready (Err why) = Unit {0}

pub Unready-prop : (r : Result Stepped Refusal) → IsProp (IsUnready r)
Unready-prop (Ok (stepped.Ready first second)) = hlevel props
Unready-prop (Ok stepped.Went) = hlevel props
Unready-prop (Ok (stepped.Wait holder)) = hlevel props
Unready-prop (Ok (stepped.Again holder)) = hlevel props
Unready-prop (Ok stepped.Flush) = hlevel props
Unready-prop (Err why) = hlevel props

pub goes_unready : (relations counters : ℕ) (w z : World) (s t : OpScope) (r : Result Stepped Refusal) → GoesOn relations counters w z s t r → IsUnready r
goes_unready relations counters w z s t (Ok (stepped.Ready first second)) goes = absurd goes
goes_unready relations counters w z s t (Ok stepped.Went) goes = tt
goes_unready relations counters w z s t (Ok (stepped.Wait holder)) goes = tt
goes_unready relations counters w z s t (Ok (stepped.Again holder)) goes = tt
goes_unready relations counters w z s t (Ok stepped.Flush) goes = tt
goes_unready relations counters w z s t (Err why) goes = tt

-- an operation that goes on keeps its claim
pub on_keeps : (r : Result Stepped Refusal) (claim before now : ℕ) → IsUnready r → now ≡ before → GivesBack claim before now r
on_keeps (Ok (stepped.Ready first second)) claim before now unready same = absurd unready
on_keeps (Ok stepped.Went) claim before now unready same = same
on_keeps (Ok (stepped.Wait holder)) claim before now unready same = same
on_keeps (Ok (stepped.Again holder)) claim before now unready same = same
on_keeps (Ok stepped.Flush) claim before now unready same = same
on_keeps (Err why) claim before now unready same = same

-- nor is it ready
pub comes_on : (stage : Stage) (r : Result Stepped Refusal) → IsUnready r → IsGoing stage → ComesTo stage r
comes_on stage (Ok (stepped.Ready first second)) unready to = absurd unready
comes_on stage (Ok stepped.Went) unready to = to
comes_on stage (Ok (stepped.Wait holder)) unready to = to
comes_on stage (Ok (stepped.Again holder)) unready to = to
comes_on stage (Ok stepped.Flush) unready to = to
comes_on stage (Err why) unready to = to
