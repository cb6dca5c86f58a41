-- The text of a master slot is read back.
use Rattle.std.proofs.Common.{◌≡◌, ℕ, ◌^◌, ◌≤◌, Bool, true, false, cond, eqb, List, [], ◌∷◌, ◌++◌, length, Some, None, refl, sym, ap, ◌∙◌, arith, length-append}
use Rattle.std.proofs.lemmas.List.{append-nil}
use Rattle.std.specs.Int.{w16, w32, w64, to_be_bytes}
use Rattle.std.proofs.lemmas.Bool.{eqb-true, eqb-false}
use Rattle.mt_base.specs.declared.format.Format.{Format}
use Rattle.mt_base.specs.declared.format.Format.TheVariants.{One, Two}
use Rattle.mt_frame.specs.declared.slots.MasterSlot.{MasterSlot}
use Rattle.mt_frame.specs.Readers.{SlotParts, letters_of, format_at, slot_of, slot_at}
use Rattle.mt_frame.specs.SlotText.{IsSlot, last_letter, slot_text, IsSlotText}
use Rattle.mt_frame.proofs.CodecLaws.{Reads, IsBytes, wide16, wide32, wide64, reads_within, reads_byte, reads_then, reads_map}

-- ---- letters

letters_text : (f : Format) → to_be_bytes w32 (letters_of f) ≡ 77 ∷ 84 ∷ 75 ∷ last_letter f ∷ []
letters_text One = refl
letters_text Two = refl

letters_back : (f : Format) → cond (eqb (letters_of f) 1297369905) One Two ≡ f
letters_back One = refl
letters_back Two = refl

letters_small : (f : Format) → (1297369905 ≤ letters_of f) × (letters_of f ≤ 1297369906)
letters_small One = (omega arith, omega arith)
letters_small Two = (omega arith, omega arith)

letters_round : (n : ℕ) → (1297369905 ≤ n) × (n ≤ 1297369906) → letters_of (cond (eqb n 1297369905) One Two) ≡ n
letters_round n small = by_test (eqb n 1297369905) refl
  where
    by_test : (b : Bool) → eqb n 1297369905 ≡ b → letters_of (cond b One Two) ≡ n
    by_test true is = sym (eqb-true _ _ is)
    by_test false is = let other : n ≡ 1297369905 → ⊥ = eqb-false _ _ is in let low : 1297369905 ≤ n = small.0 in let high : n ≤ 1297369906 = small.1 in omega (arith, other)

reads_format : Reads (λ f. to_be_bytes w32 (letters_of f)) (λ _. Unit {0}) format_at
unfolding format_at
reads_format = reads_map (λ n. cond (eqb n 1297369905) One Two) letters_of (λ f. to_be_bytes w32 (letters_of f)) (λ _. Unit {0})
    (λ f _. letters_back f) (λ f. refl) (λ f _. letters_small f) (λ n f. letters_round n f) (λ n f. tt) (reads_within w32 (2 ^ 32) 1297369905 1297369906 wide32 (omega arith))

-- ---- slots

parts_of : MasterSlot → SlotParts
parts_of s = (165, (s.format, (s.epoch, (s.area, (s.pages, s.mib)))))

text_of_parts : (s : MasterSlot) → slot_text s ≡ (165 ∷ []) ++ (to_be_bytes w32 (letters_of s.format) ++ (to_be_bytes w64 s.epoch ++ ((s.area ∷ []) ++ (to_be_bytes w16 s.pages ++ (s.mib ∷ [])))))
text_of_parts s = ap (λ (l : List ℕ). 165 ∷ l ++ (to_be_bytes w64 s.epoch ++ ((s.area ∷ []) ++ (to_be_bytes w16 s.pages ++ (s.mib ∷ []))))) (sym (letters_text s.format))

reads_slot : Reads slot_text IsSlot slot_at
unfolding slot_at parts_of
reads_slot = reads_map slot_of parts_of slot_text IsSlot (λ s _. refl) text_of_parts
    (λ s f. ((omega arith, omega arith), (tt, (f.epoch, ((omega arith, f.area), (f.pages, f.mib))))))
    (λ p f. let gate : 165 ≡ p.0 = let low : 165 ≤ p.0 = f.0.0 in let high : p.0 ≤ 165 = f.0.1 in omega arith in λ i. (gate i, p.1))
    (λ p f. record { epoch = f.1.1.0; area = f.1.1.1.0.1; pages = f.1.1.1.1.0; mib = f.1.1.1.1.1 })
    (reads_then (reads_byte 165 165 (omega arith)) (λ _ _. reads_then reads_format (λ _ _. reads_then (reads_within w64 (2 ^ 64) 1 9223372036854775808 wide64 (omega arith)) (λ _ _.
    reads_then (reads_byte 0 1 (omega arith)) (λ _ _. reads_then (reads_within w16 (2 ^ 16) 16 4000 wide16 (omega arith)) (λ _ _. reads_byte 4 64 (omega arith)))))))

pub slot_there : (bytes : List ℕ) (s : MasterSlot) (rest : List ℕ) → IsBytes bytes → length bytes ≡ 17 → slot_at bytes ≡ Some (s, rest) → IsSlotText bytes s
slot_there bytes s rest fits size read =
    let t = reads_slot.takes bytes (s, rest) fits read in
    let none : rest ≡ [] = nothing rest (omega (arith, ap length t.0.parts, length-append (slot_text s) rest)) in
    record { fits = t.1; text = t.0.parts ∙ ap (λ (l : List ℕ). slot_text s ++ l) none ∙ append-nil (slot_text s) }
  where
    nothing : (l : List ℕ) → length l ≡ 0 → l ≡ []
    nothing [] e = refl
    nothing (x ∷ l) e = absurd (omega arith)

pub no_slot : (bytes : List ℕ) → slot_at bytes ≡ None → (s : MasterSlot) → IsSlotText bytes s → ⊥
no_slot bytes read s is =
    let again : slot_at bytes ≡ Some (s, []) = ap slot_at (is.text ∙ sym (append-nil (slot_text s))) ∙ reads_slot.again s [] is.fits in
    absurd cc
