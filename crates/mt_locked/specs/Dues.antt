-- Who holds new transactions back, and what who rotates is to do.
use Rattle.std.specs.Prelude.{ℕ, ◌+◌, ◌-◌, ◌^◌, Bool, true, min}
use Rattle.mt_locked.specs.Seen.{LockedSeen}
use Rattle.mt_locked.specs.declared.locked.Due.{Due}
use Rattle.mt_locked.specs.declared.locked.Due.TheVariants.{Nothing, Turn}

-- one more holds new transactions back, of as many as 32 bits count; or one fewer
abbrev pub with_one_holding : {D : Type 0} → LockedSeen D → LockedSeen D
with_one_holding l = record l { holding = min (l.holding + 1) (2 ^ 32 - 1) }

abbrev pub with_one_fewer : {D : Type 0} → LockedSeen D → LockedSeen D
with_one_fewer l = record l { holding = l.holding - 1 }

-- If the device has failed, that is found out by a turn of the log.
abbrev pub due_with : Bool → Due → Due
due_with true Nothing = Turn
due_with failed other = other

-- The log was turned over, or could not be: that is not due any more.
abbrev pub settled : Due → Due
settled Turn = Nothing
settled other = other

abbrev pub once_settled : {D : Type 0} → LockedSeen D → LockedSeen D
once_settled l = record l { due = settled l.due }
