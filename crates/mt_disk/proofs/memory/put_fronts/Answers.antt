use Rattle.std.proofs.Common.{◌≡◌, ◌+◌, ◌-◌, ◌/◌, ◌<◌, List, ℕ, length, take, drop, get_or, subst, sym, arith}
use Rattle.std.proofs.lemmas.List.{drop_more, length-take}
use Rattle.mt_disk.specs.Crash.{InTurn, front_half}
use Rattle.mt_disk.specs.Disk.{Wrote}
use Rattle.mt_disk.specs.Unsynced.{IsInside}
use Rattle.mt_disk.specs.declared.memory.Write.{Write}
use Rattle.mt_disk.proofs.memory.put_fronts.Goals as goal

unshifted : (a n : ℕ) (xs : List ℕ) (at : ℕ) (old new : List ℕ) → Wrote at (take (a + n - a) xs) old new → Wrote at (take n xs) old new
unshifted a n xs at old new wrote = let same : a + n - a ≡ n = omega arith in subst (λ (k : ℕ). Wrote at (take k xs) old new) same wrote

one_more : (written : List ℕ) (writes : List Write) (i : ℕ) (d : Write) (old mid new : List ℕ) → i < length writes
    → ((c : List ℕ) → InTurn (front_half written) (drop i writes) mid c → InTurn (front_half written) writes old c)
    → Wrote (get_or writes i d).at (front_half written (get_or writes i d)) mid new
    → (c : List ℕ) → InTurn (front_half written) (drop (i + 1) writes) new c → InTurn (front_half written) writes old c
one_more written writes i d old mid new lt before wrote c later =
    before c (subst (λ (ws : List Write). InTurn (front_half written) ws mid c) (sym (drop_more writes i d lt)) (new, wrote, later))

pub loop-write-preserved : goal.loop-write-preserved
loop-write-preserved c =
    let none : Write = record { at = 0; len = 0; from = 0 } in
    let i = c.loop-write.write-index in
    let w : Write = get_or c.args.writes.now i none in
    let before = c.loop-write.bytes.items in
    let after = c.stamp.new.bytes.items in
    let wrote = unshifted w.from (w.len / 2) (drop w.from c.args.written.now) w.at before after c.stamp.ensures in
    record {
      size = let stays = wrote.rest.size in let was = c.loop-write.invariant.size in omega arith;
      rest = one_more c.args.written.now c.args.writes.now i none c.args.bytes.now.items before after c.loop-write-test.true c.loop-write.invariant.rest wrote;
    }

pub stamp-requires : goal.stamp-requires
stamp-requires c =
    let none : Write = record { at = 0; len = 0; from = 0 } in
    let i = c.loop-write.write-index in
    let w : Write = get_or c.args.writes.now i none in
    let inside : IsInside w (length c.args.bytes.now.items) (length c.args.written.now) = c.requires i none c.loop-write-test.true in
    let range = inside.range in
    let size = c.loop-write.invariant.size in
    omega (arith, length-take (w.from + w.len / 2 - w.from) (drop w.from c.args.written.now))
