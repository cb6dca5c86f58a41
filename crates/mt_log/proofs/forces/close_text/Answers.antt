use Rattle.std.proofs.Common.{◌≡◌, ℕ, ◌-◌, ◌≤◌, List, [], ◌∷◌, ◌++◌, length, drop, get_or, refl, ◌∙◌, ap, arith, length-drop}
use Rattle.std.proofs.Math.ListN.{set}
use Rattle.std.specs.Int.{w32, to_be_bytes}
use Rattle.mt_log.proofs.forces.close_text.Goals as goal

-- four bytes at the front of a list that has as many
put_four : (a b c d : ℕ) (items : List ℕ) → 4 ≤ length items → set (set (set (set items 0 a) 1 b) 2 c) 3 d ≡ a ∷ b ∷ c ∷ d ∷ drop 4 items
put_four a b c d [] long = absurd (omega arith)
put_four a b c d (x ∷ []) long = absurd (omega arith)
put_four a b c d (x ∷ y ∷ []) long = absurd (omega arith)
put_four a b c d (x ∷ y ∷ z ∷ []) long = absurd (omega arith)
put_four a b c d (x ∷ y ∷ z ∷ w ∷ items) long = refl

put_bytes : (n m : ℕ) (bytes items : List ℕ) → bytes ≡ to_be_bytes w32 n → n ≡ m → 4 ≤ length items
    → set (set (set (set items 0 (get_or bytes 0 0)) 1 (get_or bytes 1 0)) 2 (get_or bytes 2 0)) 3 (get_or bytes 3 0) ≡ to_be_bytes w32 m ++ drop 4 items
put_bytes n m bytes items is same long =
    ap (λ (l : List ℕ). set (set (set (set items 0 (get_or l 0 0)) 1 (get_or l 1 0)) 2 (get_or l 2 0)) 3 (get_or l 3 0)) (is ∙ ap (to_be_bytes w32) same)
    ∙ put_four _ _ _ _ items long

pub returns-clause-items : goal.returns-clause-items
returns-clause-items c =
    let old = c.args.text.now in
    c.push_reserved.ensures.items
    ∙ ap (λ (l : List ℕ). l ++ 0 ∷ []) (put_bytes (c.len.result - 4) (length (drop 4 old.items)) c.to_be_bytes.result old.items c.to_be_bytes.ensures (let e = c.len.ensures in omega (arith, length-drop 4 old.items, old.ok.0)) (omega arith))
