-- The base that the rows and counters of a table represent.
use Rattle.std.specs.Prelude.{ℕ, ℤ, pos, neg_ℤ, ◌≤ℤ◌, List, All, slice_index_or}
use Rattle.mt_base.specs.declared.limits.TheConstants.{MAX_BOUND}
use Rattle.mt_base.specs.Limits.{IsCounter}
use Rattle.mt_model.specs.declared.counters.Count.{Count}

-- a counter within its bounds, and these within their limits
abbrev pub IsLimited : Count → Type 0
IsLimited n = IsCounter n.low n.high n.number

-- a number within 10^15 of zero
abbrev pub IsNear : ℤ → Type 0
IsNear z = (neg_ℤ MAX_BOUND ≤ℤ z) × (z ≤ℤ MAX_BOUND)

abbrev pub AreLimited : List Count → Type 0
AreLimited ns = All IsLimited ns

-- what represents a counter that is not there
abbrev pub no_count : Count
no_count = record { low = pos 0; high = pos 0; number = pos 0 }

abbrev pub count_at : List Count → ℕ → Count
count_at ns c = slice_index_or ns c no_count

-- bounds and a start, as a counter
abbrev pub started : ℤ × ℤ × ℤ → Count
started t = record { low = t.0; high = t.1; number = t.2 }
