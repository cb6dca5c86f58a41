use Rattle.std.proofs.Common.{◌≡◌, ◌+ℤ◌, ◌≤ℤ◌, ◌↔◌, IsTrue, subst, rules, to_z-of_z, SFits, w64}
use Rattle.mt_escrow.proofs.rooms.Room.fits.Goals as goal

pub returns : goal.returns
returns c =
    let room = c.args.self in
    let low : SFits w64 room.count.low = search rules in
    let high : SFits w64 room.count.high = search rules in
    let number : SFits w64 room.count.number = search rules in
    let lowest : SFits w64 room.lowest = search rules in
    let highest : SFits w64 room.highest = search rules in
    let lesser : SFits w64 c.sum_of.result = search rules in
    let greater : SFits w64 c.sum_of-2.result = search rules in
    let down : c.sum_of.result ≡ room.count.number +ℤ room.lowest = simp to_z-of_z at c.sum_of.ensures in
    let up : c.sum_of-2.result ≡ room.count.number +ℤ room.highest = simp to_z-of_z at c.sum_of-2.ensures in
    let between : IsTrue c.are_between.result ↔ ((room.count.low ≤ℤ c.sum_of.result) × (c.sum_of-2.result ≤ℤ room.count.high)) =
    simp to_z-of_z at c.are_between.ensures in
    subst (λ z. IsTrue c.are_between.result ↔ ((room.count.low ≤ℤ (room.count.number +ℤ room.lowest)) × (z ≤ℤ room.count.high))) up
    (subst (λ z. IsTrue c.are_between.result ↔ ((room.count.low ≤ℤ z) × (c.sum_of-2.result ≤ℤ room.count.high))) down between)
