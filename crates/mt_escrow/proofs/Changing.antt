-- What is kept of each counter stays right as an add becomes pending, is taken back, or is made.
use Rattle.std.proofs.Common.{◌≡◌, ℕ, ℤ, pos, negsuc, neg_ℤ, inl, inr, ◌≤ℤ◌, ◌<◌, ◌==◌, Bool, true, false, cond, List, [], ◌∷◌, ◌++◌, length, set, refl, ap, sym, subst, arith, get_or-set_same, get_or-set_other}
use Rattle.std.proofs.lemmas.Int.{ints}
use Rattle.std.proofs.lemmas.Bool.Decides.{Decides-eqb}
use Rattle.mt_base.specs.Limits.{IsStep}
use Rattle.mt_model.specs.declared.pending_add.Pending.{Pending}
use Rattle.mt_model.specs.Escrow.{IsAdmissible, below, above}
use Rattle.mt_model.specs.Pending.{steps_at}
use Rattle.mt_model.specs.Tables.{no_count}
use Rattle.mt_model.proofs.Sums.{below_is, above_is, lowest_below, highest_above, admissible_from_room, room_from_admissible}
use Rattle.mt_escrow.specs.declared.rooms.Room.{Room}
use Rattle.mt_escrow.specs.Rooms.{IsModest, Fits, fresh, held, let_go, settled, room_at, IsKept}
use Rattle.mt_escrow.proofs.Adding.{lowest-append, highest-append, steps_at-append}

-- ---- one room

pub modest : (r : Room) (ds : List ℤ) → IsKept r ds → IsModest r
modest r ds kept =
    let limited = kept.limited in let low = kept.fits.low in let high = kept.fits.high in
    let down = kept.lowest in let up = kept.highest in
    let under = lowest_below ds in let over = highest_above ds in
    ((omega (arith, ints), omega (arith, ints)), (omega (arith, ints), omega (arith, ints)), (omega (arith, ints), omega (arith, ints)))

pub holds_more : (d : ℤ) (r : Room) (ds : List ℤ) → IsKept r ds → Fits (held d r) → IsKept (held d r) (ds ++ d ∷ [])
holds_more d r ds kept room =
    let down = kept.lowest in let up = kept.highest in
    let low = lowest-append ds (d ∷ []) in let high = highest-append ds (d ∷ []) in
    let lower = room.0 in let upper = room.1 in
    record {
      limited = kept.limited;
      lowest = omega (arith, ints);
      highest = omega (arith, ints);
      fits = record { low = omega (arith, ints); high = omega (arith, ints) };
    }

pub lets_go : (d : ℤ) (r : Room) (ds es : List ℤ) → IsKept r (ds ++ d ∷ es) → IsKept (let_go d r) (ds ++ es)
lets_go d r ds es kept =
    let down = kept.lowest in let up = kept.highest in
    let low = lowest-append ds (d ∷ es) in let high = highest-append ds (d ∷ es) in
    let lower = lowest-append ds es in let upper = highest-append ds es in
    let under = below_is d in let over = above_is d in
    let fits_low = kept.fits.low in let fits_high = kept.fits.high in
    record {
      limited = kept.limited;
      lowest = omega (arith, ints);
      highest = omega (arith, ints);
      fits = record { low = omega (arith, ints); high = omega (arith, ints) };
    }

pub settles : (d : ℤ) (r : Room) (ds es : List ℤ) → IsKept r (ds ++ d ∷ es) → IsKept (settled d r) (ds ++ es)
settles d r ds es kept =
    let limited = kept.limited in
    let down = kept.lowest in let up = kept.highest in
    let low = lowest-append ds (d ∷ es) in let high = highest-append ds (d ∷ es) in
    let lower = lowest-append ds es in let upper = highest-append ds es in
    let under = below_is d in let over = above_is d in
    let left = lowest_below (ds ++ es) in let right = highest_above (ds ++ es) in
    let fits_low = kept.fits.low in let fits_high = kept.fits.high in
    record {
      limited = (limited.0, omega (arith, ints), omega (arith, ints), limited.3);
      lowest = omega (arith, ints);
      highest = omega (arith, ints);
      fits = record { low = omega (arith, ints); high = omega (arith, ints) };
    }

-- ---- the rooms

pub room_at-set : (rooms : List Room) (c e : ℕ) (r : Room) → c < length rooms → (t : Bool) → (c == e) ≡ t
    → room_at (set rooms c r) e ≡ cond t r (room_at rooms e)
room_at-set rooms c e r lt true same =
    let is : c ≡ e = (Decides-eqb c e).0 same in
    subst (λ k. room_at (set rooms c r) k ≡ r) is (get_or-set_same rooms c r (fresh no_count) lt)
room_at-set rooms c e r lt false same =
    get_or-set_other rooms c e r (fresh no_count)
    (λ is. let test : (c == e) ≡ true = (Decides-eqb c e).1 (sym is) in absurd cc)

-- how one step among others changes a room for the same list without it
abbrev Loses : ℤ → (Room → Room) → Type 0
Loses d f = (r : Room) (ds es : List ℤ) → IsKept r (ds ++ d ∷ es) → IsKept (f r) (ds ++ es)

loses_at : (f : Room → Room) (rooms : List Room) (p : Pending) (c : ℕ) (ds es : List ℤ) → Loses p.step f
    → (t : Bool) → (p.counter == c) ≡ t
    → IsKept (room_at rooms c) (ds ++ cond t (p.step ∷ es) es) → IsKept (cond t (f (room_at rooms p.counter)) (room_at rooms c)) (ds ++ es)
loses_at f rooms p c ds es loses true same kept =
    let is : p.counter ≡ c = (Decides-eqb p.counter c).0 same in
    subst (λ k. IsKept (f (room_at rooms k)) (ds ++ es)) (sym is) (loses (room_at rooms c) ds es kept)
loses_at f rooms p c ds es loses false same kept = kept

pub lose : (f : Room → Room) (rooms : List Room) (ps qs : List Pending) (p : Pending) → Loses p.step f → p.counter < length rooms
    → ((c : ℕ) → IsKept (room_at rooms c) (steps_at c (ps ++ p ∷ qs)))
    → (c : ℕ) → IsKept (room_at (set rooms p.counter (f (room_at rooms p.counter))) c) (steps_at c (ps ++ qs))
lose f rooms ps qs p loses lt each c =
    rw (steps_at-append c ps qs, room_at-set rooms p.counter c (f (room_at rooms p.counter)) lt (p.counter == c) refl)
    (loses_at f rooms p c (steps_at c ps) (steps_at c qs) loses (p.counter == c) refl
    (subst (λ ds. IsKept (room_at rooms c) ds) (steps_at-append c ps (p ∷ qs)) (each c)))

more_at : (rooms : List Room) (p : Pending) (c : ℕ) (ds : List ℤ) → Fits (held p.step (room_at rooms p.counter))
    → (t : Bool) → (p.counter == c) ≡ t
    → IsKept (room_at rooms c) ds
    → IsKept (cond t (held p.step (room_at rooms p.counter)) (room_at rooms c)) (ds ++ cond t (p.step ∷ []) [])
more_at rooms p c ds room true same kept =
    let is : p.counter ≡ c = (Decides-eqb p.counter c).0 same in
    subst (λ k. Fits (held p.step (room_at rooms k)) → IsKept (held p.step (room_at rooms k)) (ds ++ p.step ∷ [])) (sym is)
    (holds_more p.step (room_at rooms c) ds kept) room
more_at rooms p c ds room false same kept = subst (λ xs. IsKept (room_at rooms c) xs) (sym (append-nil ds)) kept
  where
    append-nil : (xs : List ℤ) → xs ++ [] ≡ xs
    append-nil [] = refl
    append-nil (x ∷ xs) = ap (λ ys. x ∷ ys) (append-nil xs)

pub more : (rooms : List Room) (ps : List Pending) (p : Pending) → p.counter < length rooms
    → Fits (held p.step (room_at rooms p.counter))
    → ((c : ℕ) → IsKept (room_at rooms c) (steps_at c ps))
    → (c : ℕ) → IsKept (room_at (set rooms p.counter (held p.step (room_at rooms p.counter))) c) (steps_at c (ps ++ p ∷ []))
more rooms ps p lt room each c =
    rw (steps_at-append c ps (p ∷ []), room_at-set rooms p.counter c (held p.step (room_at rooms p.counter)) lt (p.counter == c) refl)
    (more_at rooms p c (steps_at c ps) room (p.counter == c) refl (each c))

-- ---- what the two sums decide

pub modest_held : (d : ℤ) (r : Room) (ds : List ℤ) → IsStep d → IsKept r ds → IsModest (held d r)
modest_held d r ds step kept =
    let limited = kept.limited in let low = kept.fits.low in let high = kept.fits.high in
    let down = kept.lowest in let up = kept.highest in
    let under = lowest_below ds in let over = highest_above ds in
    let part = step_parts d step in
    ((omega (arith, ints), omega (arith, ints)), (omega (arith, ints), omega (arith, ints)), (omega (arith, ints), omega (arith, ints)))
  where
    step_parts : (e : ℤ) → IsStep e
        → (neg_ℤ (pos 1000000000000) ≤ℤ below e) × (below e ≤ℤ pos 0) × (pos 0 ≤ℤ above e) × (above e ≤ℤ pos 1000000000000)
    step_parts (pos n) (inl up) = let most = up.1 in (omega (arith, ints), omega (arith, ints), omega (arith, ints), omega (arith, ints))
    step_parts (pos n) (inr down) = let most = down.1 in (omega (arith, ints), omega (arith, ints), omega (arith, ints), omega (arith, ints))
    step_parts (negsuc n) (inl up) = let least = up.0 in (omega (arith, ints), omega (arith, ints), omega (arith, ints), omega (arith, ints))
    step_parts (negsuc n) (inr down) = let least = down.0 in (omega (arith, ints), omega (arith, ints), omega (arith, ints), omega (arith, ints))

pub fits_from_admissible : (d : ℤ) (r : Room) (ds : List ℤ) → IsKept r ds → IsAdmissible r.count (ds ++ d ∷ []) → Fits (held d r)
fits_from_admissible d r ds kept admissible =
    let room = room_from_admissible r.count (ds ++ d ∷ []) admissible in
    let low = room.low in let high = room.high in
    let down = kept.lowest in let up = kept.highest in
    let lower = lowest-append ds (d ∷ []) in let upper = highest-append ds (d ∷ []) in
    (omega (arith, ints), omega (arith, ints))

pub admissible_from_fits : (d : ℤ) (r : Room) (ds : List ℤ) → IsKept r ds → Fits (held d r) → IsAdmissible r.count (ds ++ d ∷ [])
admissible_from_fits d r ds kept fits = admissible_from_room r.count (ds ++ d ∷ []) (holds_more d r ds kept fits).fits
