-- Which number of a command is outside its limits.
use Rattle.std.specs.Prelude.{ℕ, ℤ, List, [], ◌∷◌, Bool, ◌&&◌, cond, codes, int_le, length, nat_le, neg_ℤ}
use Rattle.std.specs.Fmt.{decimal, signed_decimal}
use Rattle.std.specs.List.{concat}
use Rattle.mt_base.specs.declared.limits.TheConstants.{MAX_AREA_MIB, MAX_BOUND, MAX_COUNTERS, MAX_PAGES, MAX_RELATIONS, MAX_SESSIONS, MIN_AREA_MIB, MIN_PAGES}
use Rattle.mt_args.specs.declared.command.Command.{Command}
use Rattle.mt_args.specs.declared.command.Command.TheVariants.{Format, Migrate, Run}
use Rattle.mt_args.specs.declared.numbers.Numbers.{Numbers}
use Rattle.mt_report.specs.declared.excess.Excess.{Excess}
use Rattle.mt_report.specs.declared.excess.Excess.TheVariants.{Pages, Area, Relations, Counters, Counter, Sums, Scripts, Nothing}

abbrev pub lies_within : ℕ → ℕ → ℕ → Bool
lies_within low high number = nat_le low number && nat_le number high

-- low <= start <= high, within 10^15 of zero
abbrev pub is_counter : ℤ → ℤ → ℤ → Bool
is_counter low high start =
    ((int_le (neg_ℤ MAX_BOUND) low && int_le low start) && int_le start high) && int_le high MAX_BOUND

-- the first counter that is none
abbrev pub counter_excess : List (ℤ × ℤ × ℤ) → Excess
counter_excess [] = Nothing
counter_excess (t ∷ more) = cond (is_counter t.0 t.1 t.2) (counter_excess more) (Counter t.0 t.1 t.2)

-- of the numbers of a format the first in the order of the command line, if the count of the counters stands before
-- them
abbrev pub counters_excess : List (ℤ × ℤ × ℤ) → Excess
counters_excess counters =
    cond (nat_le (length counters) MAX_COUNTERS) (counter_excess counters) (Counters (length counters))

abbrev pub excess_of : Numbers → Excess
excess_of n =
    cond (lies_within MIN_PAGES MAX_PAGES n.pages) (cond (lies_within MIN_AREA_MIB MAX_AREA_MIB n.area)
    (cond (lies_within 1 MAX_RELATIONS n.relations) (counters_excess n.counters.items) (Relations n.relations))
    (Area n.area))
    (Pages n.pages)

-- of what a schema is to get more: the counters as they are named, and else the sums, which the device alone knows
abbrev pub or_sums : Excess → Excess
or_sums Nothing = Sums
or_sums excess = excess

-- of a command: of `run` it is the number of its scripts
abbrev pub excess_in : Command → Excess
excess_in (Format file numbers wait) = excess_of numbers
excess_in (Migrate file growth wait) = or_sums (counters_excess growth.counters.items)
excess_in (Run s wait) =
    cond (lies_within 1 MAX_SESSIONS (length s.scripts.items)) Nothing (Scripts (length s.scripts.items))
excess_in _ = Nothing

-- ---- what is printed

-- a number of this name, outside of these limits
abbrev pub outside_text : List ℕ → ℕ → List ℕ → List ℕ
outside_text name number limits = concat (name ∷ codes " is " ∷ decimal number ∷ codes ": it must be " ∷ limits ∷ [])

abbrev pub counter_excess_text : ℤ → ℤ → ℤ → List ℕ
counter_excess_text low high start =
    concat (codes "COUNTER c" ∷ signed_decimal low ∷ codes ":" ∷ signed_decimal high ∷ codes ":" ∷ signed_decimal start
    ∷ codes ": it must be LOW <= START <= HIGH, from -1000000000000000 to 1000000000000000" ∷ [])

abbrev pub excess_text : Excess → List ℕ
excess_text (Pages number) = outside_text (codes "PAGES") number (codes "16 to 4000")
excess_text (Area number) = outside_text (codes "AREA") number (codes "4 to 64")
excess_text (Relations number) = outside_text (codes "RELATIONS") number (codes "1 to 64")
excess_text (Counters number) = outside_text (codes "the number of counters") number (codes "at most 128")
excess_text (Counter low high start) = counter_excess_text low high start
excess_text Sums = codes "with those that the device has it must be at most 64 relations and 128 counters"
excess_text (Scripts number) = outside_text (codes "the number of scripts") number (codes "1 to 64")
excess_text Nothing = codes "see docs/MANUAL.md"
