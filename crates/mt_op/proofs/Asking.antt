-- All operations together, once one of them has asked for a lock.
use Rattle.std.proofs.Common.{◌≡◌, ℕ, sym, subst, ap}
use Rattle.std.specs.Prelude.{Result}
use Rattle.mt_disk.specs.declared.device.Device.{Ghosts}
use Rattle.mt_base.specs.declared.modes.Mode.{Mode}
use Rattle.mt_base.specs.declared.refusal.Refusal.{Refusal}
use Rattle.mt_space.specs.Changes.{PageBytes}
use Rattle.mt_pool.specs.Kept.{IsKept}
use Rattle.mt_pool.specs.Views.{pages}
use Rattle.mt_pool.specs.declared.store.Store.{Store}
use Rattle.mt_op.specs.World.{IsUnderWay}
use Rattle.mt_op.specs.Holds.{IsHeld}
use Rattle.mt_op.specs.Operations.{world, IsRight}
use Rattle.mt_op.specs.declared.operations.Operations.{Operations}
use Rattle.mt_op.specs.declared.scope.OpScope.{OpScope}
use Rattle.mt_op.specs.declared.scope.Stage.TheVariants.{Planning}
use Rattle.mt_op.specs.declared.answers.Stepped.{Stepped}
use Rattle.mt_op.proofs.Right.{right_held}
use Rattle.mt_op.proofs.Going.{planning_of, held_world, held_held}

pub asked_right : {D : Type 0} (g : Ghosts D) (opening : PageBytes) (relations counters : ℕ) (o n : Operations D) (s t : OpScope) (p : ℕ) (mode : Mode) (r : Result Stepped Refusal)
    → IsRight g opening relations counters o → IsUnderWay relations counters (world g opening o) s → s.stage ≡ Planning → IsHeld (world g opening o) (world g opening n) s t p mode r
    → n.store ≡ o.store → n.map ≡ o.map → n.rooms ≡ o.rooms → IsRight g opening relations counters n
asked_right {D = D} g opening relations counters o n s t p mode r right k planning held store map rooms =
    let w = world g opening o in let z = world g opening n in
    right_held g opening relations counters o n right (subst (λ (x : Store D). IsKept g opening x) (sym store) right.kept)
    (held_world relations counters w z s t p mode r held (planning_of relations counters w s planning k).nothing right.sound) (held_held w z s t p mode r held) map rooms (ap (λ (x : Store D). pages x.pool) store)
