-- What a crash leaves where each write in turn leaves the same kind of bytes.
use Rattle.std.proofs.Common.{◌≡◌, ⊎_elim, ℕ, ◌/◌, ◌≤◌, List, [], ◌∷◌, length, drop, get_or, refl, sym, subst, ◌∙◌, arith}
use Rattle.std.proofs.lemmas.List.{length-take, length-replicate}
use Rattle.mt_disk.specs.Crash.{InTurn, front_half, all_bytes}
use Rattle.mt_disk.specs.Disk.{Wrote}
use Rattle.mt_disk.specs.Unsynced.{Unsynced}
use Rattle.mt_disk.specs.declared.memory.Write.{Write}

-- what writes leave that put no bytes outside of their ranges is among what a crash may leave
pub in_turn-unsynced : (bytes_of : Write → List ℕ) → ((w : Write) → length (bytes_of w) ≤ w.len) → (writes : List Write) (old new : List ℕ)
    → InTurn bytes_of writes old new → Unsynced old writes new
in_turn-unsynced bytes_of short [] old new same = record {
  size = let e : new ≡ old = same in subst (λ (l : List ℕ). length l ≡ length old) (sym e) refl;
  rest = λ i free. let e : new ≡ old = same in subst (λ (l : List ℕ). get_or l i 0 ≡ get_or old i 0) (sym e) refl;
}
in_turn-unsynced bytes_of short (w ∷ ws) old new turn =
    let next = turn.0 in
    let wrote : Wrote w.at (bytes_of w) old next = turn.1 in
    let later : Unsynced next ws new = in_turn-unsynced bytes_of short ws next new turn.2 in
    let within : length (bytes_of w) ≤ w.len = short w in
    record {
      size = later.size ∙ wrote.rest.size;
      rest = λ i free. later.rest i free.1 ∙ ⊎_elim (λ lt. wrote.rest.below i lt) (λ le. wrote.rest.above i (omega arith)) free.0;
    }

pub front-short : (written : List ℕ) (w : Write) → length (front_half written w) ≤ w.len
front-short written w = omega (arith, length-take (w.len / 2) (drop w.from written))

pub all-short : (byte : ℕ) (w : Write) → length (all_bytes byte w) ≤ w.len
all-short byte w = omega (arith, length-replicate w.len byte)
