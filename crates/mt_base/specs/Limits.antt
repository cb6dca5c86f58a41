-- What lies within the limits.
use Rattle.std.specs.Prelude.{ℕ, ℤ, ◌+◌, ◌*◌, ◌≤◌, ◌⊎◌, ◌≤ℤ◌, neg_ℤ, pos, List, length}
use Rattle.mt_base.specs.declared.limits.TheConstants.{FIRST_VALUE_BYTES, MASTER_BYTES, MAX_AREA_MIB, MAX_BOUND, MAX_COUNTERS, MAX_KEY_BYTES, MAX_PAGES, MAX_RELATIONS, MAX_STEP, MAX_VALUE_BYTES, MIB_BYTES, MIN_AREA_MIB, MIN_PAGES, PAGE_BYTES}
use Rattle.mt_base.specs.declared.format.Format.{Format}
use Rattle.mt_base.specs.declared.format.Format.TheVariants.{One, Two}

-- a key of 1 to 64 bytes
abbrev pub IsKey : List ℕ → Type 0
IsKey key = (1 ≤ length key) × (length key ≤ MAX_KEY_BYTES)

-- a value of at most 3000 bytes
abbrev pub IsValue : List ℕ → Type 0
IsValue value = length value ≤ MAX_VALUE_BYTES

-- the most bytes of a value on a device of this format
abbrev pub limit_of : Format → ℕ
limit_of One = FIRST_VALUE_BYTES
limit_of Two = MAX_VALUE_BYTES

-- the format's number
abbrev pub number_of_format : Format → ℕ
number_of_format One = 1
number_of_format Two = 2

-- a step up or down, of a size from 1 to 10^12
abbrev pub IsStep : ℤ → Type 0
IsStep step =
    ((pos 1 ≤ℤ step) × (step ≤ℤ pos MAX_STEP))
    ⊎ ((neg_ℤ (pos MAX_STEP) ≤ℤ step) × (step ≤ℤ neg_ℤ (pos 1)))

-- a counter's low and high bound and its start, all within 10^15 of zero and in order
abbrev pub IsCounter : ℤ → ℤ → ℤ → Type 0
IsCounter low high start =
    (neg_ℤ MAX_BOUND ≤ℤ low) × (low ≤ℤ start) × (start ≤ℤ high) × (high ≤ℤ MAX_BOUND)

abbrev pub IsPageCount : ℕ → Type 0
IsPageCount pages = (MIN_PAGES ≤ pages) × (pages ≤ MAX_PAGES)

abbrev pub IsAreaSize : ℕ → Type 0
IsAreaSize mib = (MIN_AREA_MIB ≤ mib) × (mib ≤ MAX_AREA_MIB)

abbrev pub IsRelationCount : ℕ → Type 0
IsRelationCount relations = (1 ≤ relations) × (relations ≤ MAX_RELATIONS)

abbrev pub IsCounterCount : ℕ → Type 0
IsCounterCount counters = counters ≤ MAX_COUNTERS

-- two master slots, the page slots and two log areas
abbrev pub device_bytes_of : ℕ → ℕ → ℕ
device_bytes_of pages mib = MASTER_BYTES + PAGE_BYTES * pages + 2 * (mib * MIB_BYTES)
