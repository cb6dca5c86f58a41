-- What holds of all operations together, kept where the pages held stay.
use Rattle.std.proofs.Common.{◌≡◌, ◌<◌, ◌≤◌, ℕ, length, refl, sym, ◌∙◌, ap, subst}
use Rattle.mt_disk.specs.declared.device.Device.{Ghosts}
use Rattle.mt_file.specs.Rooms.{AreRooms}
use Rattle.mt_log.specs.Words.{appended}
use Rattle.mt_pool.specs.declared.store.Store.{Store}
use Rattle.mt_space.specs.Changes.{PageBytes}
use Rattle.mt_pool.specs.Kept.{IsKept}
use Rattle.mt_pool.specs.Views.{view, pages}
use Rattle.mt_space.specs.Rooms.{mapped, free_of, reserved_of}
use Rattle.mt_op.specs.World.{held_in, IsWorld}
use Rattle.mt_op.specs.Moves.{Rests}
use Rattle.mt_op.specs.Operations.{world, IsRight}
use Rattle.mt_op.specs.declared.operations.Operations.{Operations}
use Rattle.mt_space.specs.declared.space_map.SpaceMap.{SpaceMap}
use Rattle.mt_op.proofs.Staying.{world_rests, rests_held}

pub right_held : {D : Type 0} (g : Ghosts D) (opening : PageBytes) (relations counters : ℕ) (o n : Operations D)
    → IsRight g opening relations counters o → IsKept g opening n.store → IsWorld relations counters (world g opening n)
    → held_in (world g opening n) ≡ held_in (world g opening o) → n.map ≡ o.map → n.rooms ≡ o.rooms → pages n.store.pool ≡ pages o.store.pool
    → IsRight g opening relations counters n
right_held g opening relations counters o n k kept sound held map rooms total = record {
  kept = kept;
  sound = sound;
  map = ap (λ (m : SpaceMap). m.kinds.value) map ∙ k.map ∙ ap (λ (h : PageBytes). h 0) (sym held);
  space = ap (λ (m : SpaceMap). m.space.0) map ∙ k.space ∙ (λ i. mapped (sym held i 0) (sym total i));
  claims = subst (λ (m : SpaceMap). reserved_of m.space ≤ free_of m.space) (sym map) k.claims;
  rooms = ap length rooms ∙ k.rooms ∙ sym total;
  noted = subst (λ (X : Type 0). X) (λ i. AreRooms (sym rooms i) (sym held i)) k.noted;
}

-- nothing but what is in frames has changed
pub right_rests : {D : Type 0} (g : Ghosts D) (opening : PageBytes) (relations counters : ℕ) (o n : Operations D)
    → IsRight g opening relations counters o → IsKept g opening n.store → Rests (world g opening o) (world g opening n) → n.map ≡ o.map → n.rooms ≡ o.rooms
    → IsRight g opening relations counters n
right_rests g opening relations counters o n k kept m map rooms =
    right_held g opening relations counters o n k kept (world_rests relations counters (world g opening o) (world g opening n) m k.sound) (rests_held (world g opening o) (world g opening n) m) map rooms m.area.total

-- the store with other frames
abbrev pub with_store : {D : Type 0} → Operations D → Store D → Operations D
with_store o s = record o { store = s }

pub store_rests : {D : Type 0} (g : Ghosts D) (opening : PageBytes) (o : Operations D) (s : Store D)
    → s.log ≡ o.store.log → pages s.pool ≡ pages o.store.pool → ((q : ℕ) → q < pages o.store.pool → view s.pool (g.seen s.device) q ≡ view o.store.pool (g.seen o.store.device) q)
    → Rests (world g opening o) (world g opening (with_store o s))
store_rests g opening o s log total views = record { area = record { opening = refl; total = total }; pages = views; records = ap appended log; locks = refl }
