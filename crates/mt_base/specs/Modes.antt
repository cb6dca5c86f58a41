-- Which modes may be held together.
use Rattle.std.specs.Prelude.{Bool, true, false}
use Rattle.mt_base.specs.declared.modes.Mode.{Mode}
use Rattle.mt_base.specs.declared.modes.LockMode.{LockMode}
use Rattle.mt_base.specs.declared.modes.Mode.TheVariants as page
use Rattle.mt_base.specs.declared.modes.LockMode.TheVariants.{Read, Write, Add, Intend}

-- of one page, by two operations
abbrev pub agree : Mode → Mode → Bool
agree page.Read page.Read = true
agree _ _ = false

-- of one key, counter or relation, by two transactions
abbrev pub granted_together : LockMode → LockMode → Bool
granted_together Read Read = true
granted_together Read Write = false
granted_together Read Add = false
granted_together Read Intend = false
granted_together Write Read = false
granted_together Write Write = false
granted_together Write Add = false
granted_together Write Intend = false
granted_together Add Read = false
granted_together Add Write = false
granted_together Add Add = true
granted_together Add Intend = false
granted_together Intend Read = false
granted_together Intend Write = false
granted_together Intend Add = false
granted_together Intend Intend = true
