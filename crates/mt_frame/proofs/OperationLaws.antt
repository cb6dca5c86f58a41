-- The texts of logged operations are read back.
use Rattle.std.proofs.Common.{◌≡◌, ℕ, ℤ, pos, negsuc, suc, ◌+◌, ◌-◌, ◌^◌, ◌<◌, ◌≤◌, Bool, true, false, cond, eqb, ltb, List, [], ◌∷◌, ◌++◌, length, Some, None, ◌⊎◌, refl, ap, ◌∙◌, arith, inl, inr}
use Rattle.std.specs.Prelude.{◌&&◌, ◌||◌}
use Rattle.std.specs.Int.{w16, w64, to_be_bytes, cast_signed, cast_unsigned}
use Rattle.std.proofs.lemmas.Int.{of_z-to_z, to_z_pos, ints}
use Rattle.std.proofs.lemmas.Bool.{ltb-true, lt-ltb}
use Rattle.std.proofs.Math.Facts.{to_z-neg}
use Rattle.mt_base.specs.declared.limits.TheConstants.{MAX_VALUE_BYTES}
use Rattle.mt_base.specs.Limits.{IsStep}
use Rattle.mt_frame.specs.declared.records.LoggedOp.{LoggedOp}
use Rattle.mt_frame.specs.declared.records.LoggedOp.TheVariants.{Insert, Update, Delete, Add}
use Rattle.mt_frame.specs.Codec.{map_at}
use Rattle.mt_frame.specs.Grammar.{counted, operation_text, IsOperation}
use Rattle.mt_frame.specs.Readers.{is_step_number, step_at, InsertParts, UpdateParts, insert_of, update_of, delete_of, add_of, value_at, keyed_at, update_at, add_at, operation_at}
use Rattle.mt_frame.proofs.CodecLaws.{Reads, IsBytes, Takes, wide16, wide64, reads_number, reads_byte, reads_short, reads_counted, reads_then, reads_map, reads_where, tagged, chosen, held, mapped}

-- ---- steps

pub and_true : (a b : Bool) → (a && b) ≡ true → (a ≡ true) × (b ≡ true)
and_true true b e = (refl, e)
and_true false b e = absurd cc

pub both_true : (a b : Bool) → a ≡ true → b ≡ true → (a && b) ≡ true
both_true a b p q = cc

or_true : (a b : Bool) → (a || b) ≡ true → (a ≡ true) ⊎ (b ≡ true)
or_true true b e = inl refl
or_true false b e = inr e

step_up : (n : ℕ) → IsStep (pos n) → (1 ≤ n) × (n ≤ 1000000000000)
step_up n (inl h) = (omega (arith, ints, h.0), omega (arith, ints, h.1))
step_up n (inr h) = absurd (omega (arith, ints, h.0, h.1))

step_down : (n : ℕ) → IsStep (negsuc n) → n < 1000000000000
step_down n (inl h) = absurd (omega (arith, ints, h.0, h.1))
step_down n (inr h) = omega (arith, ints, h.0)

-- a number of 64 bits is a step's where it is small or close to 2^64
number_small : (n : ℕ) → is_step_number n ≡ true → ((1 ≤ n) × (n ≤ 1000000000000)) ⊎ (18446743073709551615 < n)
number_small n is =
    elim (or_true (ltb 0 n && ltb n 1000000000001) (ltb 18446743073709551615 n) is) [
      | inl h ↦ let b = and_true (ltb 0 n) (ltb n 1000000000001) h in inl (omega (arith, ltb-true _ _ b.0), omega (arith, ltb-true _ _ b.1))
      | inr h ↦ inr (ltb-true _ _ h)
    ]

is_step-number : (z : ℤ) → IsStep z → (cast_unsigned w64 z < 2 ^ 64) × (is_step_number (cast_unsigned w64 z) ≡ true)
is_step-number (pos n) step =
    let b = step_up n step in
    let low : ltb 0 n ≡ true = lt-ltb _ _ (omega arith) in
    let high : ltb n 1000000000001 ≡ true = lt-ltb _ _ (omega arith) in
    (omega arith, rw (low, high) refl)
is_step-number (negsuc n) step =
    let b = step_down n step in
    let m = 18446744073709551616 - suc n in
    let high : ltb 18446743073709551615 m ≡ true = lt-ltb _ _ (omega arith) in
    (omega arith, rw high (or_true_right (ltb 0 m && ltb m 1000000000001)))
  where
    or_true_right : (a : Bool) → (a || true) ≡ true
    or_true_right true = refl
    or_true_right false = refl

signed_down : (n k : ℕ) → n + suc k ≡ 2 ^ 64 → k < 2 ^ 63 → cast_signed w64 n ≡ negsuc k
signed_down n k is small =
    let n_is : n ≡ 18446744073709551616 - suc k = omega arith in
    ap (cast_signed w64) n_is ∙ to_z-neg w64 k small

IsStep-number : (n : ℕ) → n < 2 ^ 64 → is_step_number n ≡ true → IsStep (cast_signed w64 n)
IsStep-number n below is =
    elim (number_small n is) [
      | inl h ↦ rw (to_z_pos w64 n (omega (arith, h.1))) (inl (omega (arith, ints, h.0), omega (arith, ints, h.1)))
      | inr h ↦
          let k = 18446744073709551615 - n in
          rw (signed_down n k (omega (arith, h)) (omega (arith, h))) (inr (omega (arith, ints, h), omega (arith, ints)))
    ]

signed_back : (z : ℤ) → IsStep z → cast_signed w64 (cast_unsigned w64 z) ≡ z
signed_back (pos n) step = let b = step_up n step in to_z_pos w64 n (omega arith)
signed_back (negsuc n) step = let b = step_down n step in to_z-neg w64 n (omega arith)

pub reads_step : Reads (λ z. to_be_bytes w64 (cast_unsigned w64 z)) IsStep step_at
unfolding step_at
reads_step = reads_map (cast_signed w64) (cast_unsigned w64) (λ z. to_be_bytes w64 (cast_unsigned w64 z)) IsStep
    signed_back (λ z. refl) is_step-number (λ n f. of_z-to_z w64 n f.0) (λ n f. IsStep-number n f.0 f.1)
    (reads_where is_step_number (reads_number w64 (2 ^ 64) wide64))

-- ---- the parts of operations

abbrev BelowValue : List ℕ → Type 0
BelowValue bytes = (0 ≤ length bytes) × (length bytes ≤ MAX_VALUE_BYTES)

abbrev BelowKey : List ℕ → Type 0
BelowKey bytes = (1 ≤ length bytes) × (length bytes ≤ 64)

abbrev BelowRelation : ℕ → Type 0
BelowRelation n = (0 ≤ n) × (n ≤ 63)

reads_value : Reads (λ (bytes : List ℕ). counted w16 bytes) BelowValue value_at
unfolding value_at
reads_value = reads_counted w16 (2 ^ 16) 0 MAX_VALUE_BYTES wide16 (omega arith)

abbrev keyed_text : InsertParts → List ℕ
keyed_text p = (p.0 ∷ []) ++ ((length p.1.0 ∷ p.1.0) ++ counted w16 p.1.1)

abbrev KeyedFits : InsertParts → Type 0
KeyedFits p = BelowRelation p.0 × (BelowKey p.1.0 × BelowValue p.1.1)

reads_keyed : Reads keyed_text KeyedFits keyed_at
unfolding keyed_at
reads_keyed = reads_then (reads_byte 0 63 (omega arith)) (λ _ _. reads_then (reads_short 1 64 (omega arith)) (λ _ _. reads_value))

abbrev update_text : UpdateParts → List ℕ
update_text p = (p.0 ∷ []) ++ ((length p.1.0 ∷ p.1.0) ++ (counted w16 p.1.1.0 ++ counted w16 p.1.1.1))

abbrev UpdateFits : UpdateParts → Type 0
UpdateFits p = BelowRelation p.0 × (BelowKey p.1.0 × (BelowValue p.1.1.0 × BelowValue p.1.1.1))

reads_update : Reads update_text UpdateFits update_at
unfolding update_at
reads_update = reads_then (reads_byte 0 63 (omega arith)) (λ _ _. reads_then (reads_short 1 64 (omega arith)) (λ _ _. reads_then reads_value (λ _ _. reads_value)))

abbrev add_text : ℕ × ℤ → List ℕ
add_text p = (p.0 ∷ []) ++ to_be_bytes w64 (cast_unsigned w64 p.1)

abbrev AddFits : ℕ × ℤ → Type 0
AddFits p = ((0 ≤ p.0) × (p.0 ≤ 127)) × IsStep p.1

reads_add : Reads add_text AddFits add_at
unfolding add_at
reads_add = reads_then (reads_byte 0 127 (omega arith)) (λ _ _. reads_step)

-- ---- operations

keyed_fits : (relation : ℕ) (key value : List ℕ) → relation < 64 → (1 ≤ length key) × (length key ≤ 64) → length value ≤ MAX_VALUE_BYTES → KeyedFits (relation, (key, value))
keyed_fits relation key value r k v = ((omega arith, omega arith), (k, (omega arith, v)))

pub reads_operation : Reads operation_text IsOperation operation_at
unfolding operation_at
reads_operation = record { takes = took; again = redo }
  where
    took : (bytes : List ℕ) (x : LoggedOp × List ℕ) → IsBytes bytes → operation_at bytes ≡ Some x → Takes bytes (operation_text x.0) x.1 × IsOperation x.0
    took [] x fits e = absurd cc
    took (tag ∷ bytes) x fits e = elim (chosen (eqb tag 1) (map_at insert_of keyed_at bytes) (cond (eqb tag 2) (map_at update_of update_at bytes) (cond (eqb tag 3) (map_at delete_of keyed_at bytes) (cond (eqb tag 4) (map_at add_of add_at bytes) None))) x e) [
      | inl h ↦ tagged operation_text IsOperation 1 insert_of reads_keyed (λ p f. refl) (λ p f. (omega (arith, f.0.1), f.1.0, f.1.1.1)) tag bytes x fits h.0 h.1
      | inr g ↦ elim (chosen (eqb tag 2) (map_at update_of update_at bytes) (cond (eqb tag 3) (map_at delete_of keyed_at bytes) (cond (eqb tag 4) (map_at add_of add_at bytes) None)) x g.1) [
        | inl h ↦ tagged operation_text IsOperation 2 update_of reads_update (λ p f. refl) (λ p f. (omega (arith, f.0.1), f.1.0, f.1.1.0.1, f.1.1.1.1)) tag bytes x fits h.0 h.1
        | inr k ↦ elim (chosen (eqb tag 3) (map_at delete_of keyed_at bytes) (cond (eqb tag 4) (map_at add_of add_at bytes) None) x k.1) [
          | inl h ↦ tagged operation_text IsOperation 3 delete_of reads_keyed (λ p f. refl) (λ p f. (omega (arith, f.0.1), f.1.0, f.1.1.1)) tag bytes x fits h.0 h.1
          | inr l ↦ let h = held (eqb tag 4) (map_at add_of add_at bytes) x l.1 in
              tagged operation_text IsOperation 4 add_of reads_add (λ p f. refl) (λ p f. (omega (arith, f.0.1), f.1)) tag bytes x fits h.0 h.1
        ]
      ]
    ]

    redo : (a : LoggedOp) (rest : List ℕ) → IsOperation a → operation_at (operation_text a ++ rest) ≡ Some (a, rest)
    redo (Insert relation key value) rest ok = mapped keyed_at _ insert_of (reads_keyed.again (relation, (key, value)) rest (keyed_fits relation key value ok.0 ok.1 ok.2))
    redo (Update relation key value old) rest ok = mapped update_at _ update_of (reads_update.again (relation, (key, (value, old))) rest ((omega arith, omega (arith, ok.0)), (ok.1, ((omega arith, ok.2), (omega arith, ok.3)))))
    redo (Delete relation key old) rest ok = mapped keyed_at _ delete_of (reads_keyed.again (relation, (key, old)) rest (keyed_fits relation key old ok.0 ok.1 ok.2))
    redo (Add counter step) rest ok = mapped add_at _ add_of (reads_add.again (counter, step) rest ((omega arith, omega (arith, ok.0)), ok.1))
