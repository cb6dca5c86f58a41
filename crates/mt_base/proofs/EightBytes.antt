-- A number in eight bytes of a page, written and read.
use Rattle.std.proofs.Common.{◌≡◌, ◌<◌, ◌≤◌, ◌+◌, ◌^◌, ◌++◌, ◌⊎◌, ℕ, ℤ, List, length, sym, ◌∙◌, ap, arith, length-append}
use Rattle.std.specs.Int.{w64, cast_signed, cast_unsigned}
use Rattle.byteorder.specs.Endian.{big_number, big_bytes}
use Rattle.byteorder.specs.Numbers.{big_number-reads_back, length-bytes_high_first}
use Rattle.mt_base.specs.Ranges.{Has, Torn, i64_at}
use Rattle.mt_base.proofs.Places.{part_has, same_part, same_torn}

pub number_back : (page text rest : List ℕ) (at bits : ℕ) (z : ℤ) → bits ≡ cast_unsigned w64 z → bits < 2 ^ 64 → cast_signed w64 (cast_unsigned w64 z) ≡ z → text ≡ big_bytes 8 bits ++ rest → length rest ≡ 0 → Has page at text → i64_at page at ≡ z
unfolding i64_at
number_back page text rest at bits z is small back text_is none has =
    let long : 8 ≡ length text = sym (ap length text_is ∙ length-append (big_bytes 8 bits) rest ∙ omega (arith, none, length-bytes_high_first 8 bits)) in
    ap (λ (x : List ℕ). cast_signed w64 (big_number 8 x)) (part_has page text at 8 has long ∙ text_is)
    ∙ ap (cast_signed w64) (big_number-reads_back 8 bits rest small ∙ is)
    ∙ back

-- a number apart from what changes
pub number_stays : (old new : List ℕ) (at n p : ℕ) → Torn at n old new → (p + 8 ≤ at) ⊎ (at + n ≤ p) → i64_at new p ≡ i64_at old p
unfolding i64_at
number_stays old new at n p torn apart = ap (λ (x : List ℕ). cast_signed w64 (big_number 8 x)) (same_part p 8 old new torn.size (same_torn at n p 8 old new torn apart))
