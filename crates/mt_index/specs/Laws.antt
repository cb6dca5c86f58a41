-- The laws of the index, for all pages there are.
use Rattle.std.specs.Prelude.{ℕ, None, ◌≡◌, ◌<◌, ◌^◌, ◌%◌, ◌↔◌}
use Rattle.std.proofs.Math.ListN.{get_or}
use Rattle.mt_space.specs.Changes.{PageBytes}
use Rattle.mt_index.specs.Maps.{Map}
use Rattle.mt_index.specs.Index.{State, IsIndex}
use Rattle.mt_index.specs.Pages.{AreMap, AreFormed, IsEmpty, LeavesIndex}

-- two pointers name one bucket if and only if their numbers share the low bits, as many as the bucket is deep
abbrev pub NamesByPattern : Type 0
NamesByPattern = (s : State) (m : Map) → IsIndex s m → (i j : ℕ) → i < 2 ^ s.g → j < 2 ^ s.g →
    (get_or s.pointers i 0 ≡ get_or s.pointers j 0) ↔ (i % 2 ^ (s.node (get_or s.pointers i 0)).depth
    ≡ j % 2 ^ (s.node (get_or s.pointers i 0)).depth)

-- an index as a device is formatted with it holds no key
abbrev pub BeginsEmpty : Type 0
BeginsEmpty = (total : ℕ) (pages : PageBytes) → IsEmpty total pages → AreMap total pages (λ r k. None)

-- changes of others' pages leave the map
abbrev pub KeepsMap : Type 0
KeepsMap = (total : ℕ) (pages pages2 : PageBytes) (m : Map) → AreMap total pages m → LeavesIndex total pages pages2
    → AreMap total pages2 m

-- and each byte of the index well formed, and each bucket page in its chain
abbrev pub KeepsForm : Type 0
KeepsForm = (relations total : ℕ) (pages pages2 : PageBytes) (m : Map) → AreMap total pages m
    → AreFormed relations total pages → LeavesIndex total pages pages2 → AreFormed relations total pages2
