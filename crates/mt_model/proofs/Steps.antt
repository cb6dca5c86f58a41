-- A counter moved by one step, or by several.
use Rattle.std.proofs.Common.{◌≡◌, ℤ, pos, ◌+ℤ◌, ◌≤ℤ◌, neg_ℤ, true, List, ◌∷◌, ap, arith, int_le}
use Rattle.std.proofs.lemmas.Bool.{and_from}
use Rattle.std.proofs.lemmas.Int.{ints}
use Rattle.mt_model.specs.declared.counters.Count.{Count}
use Rattle.mt_model.specs.Model.{IsInBounds, moved, stays, added}
use Rattle.mt_model.specs.Escrow.{HasRoom}
use Rattle.mt_model.proofs.Sums.{below_is, above_is, lowest_below, highest_above}

with_number : Count → ℤ → Count
with_number n z = record { low = n.low; high = n.high; number = z }

pub le_true : (a b : ℤ) → a ≤ℤ b → int_le a b ≡ true
le_true a b h = grind (arith, ints)

-- a step that leads to a number between the bounds is made
pub stays_true : (n : Count) (d : ℤ) → IsInBounds (moved n d) → stays n d ≡ true
stays_true n d h =
    and_from (int_le n.low (n.number +ℤ d)) (int_le (n.number +ℤ d) n.high)
    (le_true n.low (n.number +ℤ d) h.not_under) (le_true (n.number +ℤ d) n.high h.not_over)

pub moved-moved : (n : Count) (y z : ℤ) → moved (moved n y) z ≡ moved n (y +ℤ z)
unfolding with_number
moved-moved n y z = ap (with_number n) (grouped n.number y z)
  where
    grouped : (u v w : ℤ) → (u +ℤ v) +ℤ w ≡ u +ℤ (v +ℤ w)
    grouped u v w = omega (arith, ints)

pub moved_none : (n : Count) → n ≡ moved n (pos 0)
unfolding with_number
moved_none n = ap (with_number n) (more_none n.number)
  where
    more_none : (z : ℤ) → z ≡ z +ℤ pos 0
    more_none z = omega (arith, ints)

pub moved-swap : (n : Count) (d e : ℤ) → moved (moved n d) e ≡ moved (moved n e) d
unfolding with_number
moved-swap n d e = ap (with_number n) (swapped n.number d e)
  where
    swapped : (u v w : ℤ) → (u +ℤ v) +ℤ w ≡ (u +ℤ w) +ℤ v
    swapped u v w = omega (arith, ints)

pub moved_back : (n : Count) (d : ℤ) → moved (moved n d) (neg_ℤ d) ≡ n
unfolding with_number
moved_back n d = ap (with_number n) (taken_back n.number d)
  where
    taken_back : (u v : ℤ) → (u +ℤ v) +ℤ neg_ℤ v ≡ u
    taken_back u v = omega (arith, ints)

pub stays_back : (n : Count) (d : ℤ) → IsInBounds n → stays (moved n d) (neg_ℤ d) ≡ true
stays_back n d h = stays_true (moved n d) (neg_ℤ d) (record { not_under = under n.low n.number d h.not_under; not_over = over n.high n.number d h.not_over })
  where
    under : (l u v : ℤ) → l ≤ℤ u → l ≤ℤ ((u +ℤ v) +ℤ neg_ℤ v)
    under l u v low = omega (arith, ints)

    over : (m u v : ℤ) → u ≤ℤ m → ((u +ℤ v) +ℤ neg_ℤ v) ≤ℤ m
    over m u v high = omega (arith, ints)

pub added_back : (n : Count) (d : ℤ) → IsInBounds n → added (neg_ℤ d) (moved n d) ≡ n
added_back n d h = let t = stays_back n d h in rw t (moved_back n d)

-- ---- room

pub stays_with_room : (n : Count) (d : ℤ) (ds : List ℤ) → HasRoom n (d ∷ ds) → stays n d ≡ true
stays_with_room n d ds room =
    let low = room.low in let high = room.high in let least = lowest_below ds in let most = highest_above ds in
    let down = below_is d in let up = above_is d in
    stays_true n d (record { not_under = omega (arith, ints); not_over = omega (arith, ints) })

pub room_moved : (n : Count) (d : ℤ) (ds : List ℤ) → HasRoom n (d ∷ ds) → HasRoom (moved n d) ds
room_moved n d ds room =
    let low = room.low in let high = room.high in let down = below_is d in let up = above_is d in
    record { low = omega (arith, ints); high = omega (arith, ints) }
