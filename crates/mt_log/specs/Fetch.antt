-- What is read of a device: whether a gate is open, a body's length, a body.
use Rattle.std.specs.Global.{Global}
use Rattle.std.specs.Int.{w32, to_be_bytes}
use Rattle.std.specs.Prelude.{◌≡◌, ◌⊎◌, ◌↔◌, ◌+◌, ◌<◌, ◌≤◌, ◌^◌, ℕ, Bool, IsTrue, List, slice_index, Option, None, Some, Result, IfErr, IfOk, Err, OnOk, Vec, vec_len}
use Rattle.mt_disk.specs.declared.device.Device.{Ghosts}
use Rattle.mt_base.specs.declared.refusal.Refusal.{Refusal}
use Rattle.mt_disk.specs.Disk.{Has, HasCause}
use Rattle.mt_frame.specs.declared.TheConstants.{OPEN_GATE}
use Rattle.mt_log.specs.Quiet.{OnlyReads}

-- the length of the body after this gate; none if the gate after that body would not lie within the area
abbrev pub IsLength : List ℕ → ℕ → ℕ → Option ℕ → Type 0
IsLength c at end (Some n) = Has c (at + 1) (to_be_bytes w32 n) × (at + 5 + n < end)
IsLength c at end None = (n : ℕ) → n < 2 ^ 32 → Has c (at + 1) (to_be_bytes w32 n) → end ≤ at + 5 + n

-- whether the gate at this place is open
abbrev pub ReadsGate : List ℕ → ℕ → Bool → Type 0
ReadsGate c at is_open = IsTrue is_open ↔ (slice_index c at ≡ OPEN_GATE)

-- what is read of the device is this, and nothing on it changes
pub record Reads {D T F : Type 0} (g : Ghosts D) (IsThis : T → Type 0) (d e : D) (r : Result T F) : Type 0 where
  pub is : IfOk r IsThis
  pub reads : OnlyReads g d e
  pub cause : HasCause (g.faults d) (g.faults e) r

-- so many bytes are read from this place on
pub record ReadsInto {D T : Type 0} (g : Ghosts D) (at n : ℕ) (buffer : Vec ℕ Global) (d e : D)
    (r : Result T Refusal) : Type 0 where
  pub bytes : OnOk r (Has (g.seen d) at buffer.items)
  pub size : OnOk r (vec_len buffer ≡ n)
  pub reads : OnlyReads g d e
  pub quiet : (r ≡ Err Refusal.DeviceFailed → ⊥) → g.faults e ≡ g.faults d
  pub cause : IfErr r (λ why. (why ≡ Refusal.NoMemory) ⊎ (why ≡ Refusal.DeviceFailed) × (g.faults d < g.faults e))
