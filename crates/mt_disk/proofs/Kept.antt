-- What a write and a sync do to what a crash may leave.
use Rattle.std.proofs.Common.{◌≡◌, inl, inr, ⊎_elim, ◌⊎◌, ℕ, ◌+◌, ◌-◌, ◌<◌, ◌≤◌, List, [], ◌∷◌, ◌++◌, length, get_or, take, drop, sym, ◌∙◌, ap, arith, All, length-append, length-drop}
use Rattle.std.proofs.lemmas.List.{get_or-append_right, get_or_append_left, get_or-take, get_or-drop, length-take-le, ext_get_or}
use Rattle.std.proofs.lemmas.List.Elements.{All-push}
use Rattle.std.proofs.lemmas.Bool.{cases_lt}
use Rattle.mt_disk.specs.Disk.{Torn, Wrote}
use Rattle.mt_disk.specs.Unsynced.{Untouched, Unsynced, IsInside}
use Rattle.mt_disk.specs.declared.memory.Write.{Write}

-- ---- a write more
untouched_front : (ws : List Write) (w : Write) (i : ℕ) → Untouched (ws ++ w ∷ []) i → Untouched ws i × (i < w.at ⊎ w.at + w.len ≤ i)
untouched_front [] w i u = (tt, u.0)
untouched_front (v ∷ ws) w i u =
    let rest : Untouched ws i × (i < w.at ⊎ w.at + w.len ≤ i) = untouched_front ws w i u.1 in
    ((u.0, rest.0), rest.1)

untouched_more : (ws : List Write) (w : Write) (i : ℕ) → Untouched ws i → (i < w.at ⊎ w.at + w.len ≤ i) → Untouched (ws ++ w ∷ []) i
untouched_more [] w i u out = (out, tt)
untouched_more (v ∷ ws) w i u out = (u.0, untouched_more ws w i u.1 out)

-- whatever tears its range makes an outcome of one more
pub unsynced_more : (synced : List ℕ) (ws : List Write) (w : Write) (old new : List ℕ) → Unsynced synced ws old → Torn w.at w.len old new → Unsynced synced (ws ++ w ∷ []) new
unsynced_more synced ws w old new u torn = record {
  size = torn.size ∙ u.size;
  rest = λ i free.
      let parts : Untouched ws i × (i < w.at ⊎ w.at + w.len ≤ i) = untouched_front ws w i free in
      ⊎_elim (λ lt. torn.below i lt) (λ le. torn.above i le) parts.1 ∙ u.rest i parts.0;
}

pub inside_more : (ws : List Write) (w : Write) (size size2 written more : ℕ) → size2 ≡ size → written ≤ more
    → All (λ v. IsInside v size written) ws → IsInside w size2 more → All (λ v. IsInside v size2 more) (ws ++ w ∷ [])
inside_more ws w size size2 written more same le all last =
    All-push (λ v. IsInside v size2 more) ws w
    (λ i d lt. let was = all i d lt in record { range = let r = was.range in omega arith; bytes = let b = was.bytes in omega arith })
    last

-- ---- an outcome of one write fewer: c with the bytes of `from` put back in a range
patched : (at n : ℕ) (from c : List ℕ) → List ℕ
patched at n from c = take at c ++ (take n (drop at from) ++ drop (at + n) c)

module _ (at n : ℕ) (from c : List ℕ) (size : length c ≡ length from) (within : at + n ≤ length from) where
  front : length (take at c) ≡ at
  front = length-take-le at c (omega arith)

  middle : length (take n (drop at from)) ≡ n
  middle = length-take-le n (drop at from) (omega (arith, length-drop at from))

  patched_size : length (patched at n from c) ≡ length c
  unfolding patched
  patched_size = omega (
    arith,
    front,
    middle,
    length-append (take at c) (take n (drop at from) ++ drop (at + n) c),
    length-append (take n (drop at from)) (drop (at + n) c),
    length-drop (at + n) c,
  )

  patched_below : (i : ℕ) → i < at → get_or (patched at n from c) i 0 ≡ get_or c i 0
  unfolding patched
  patched_below i lt = get_or_append_left (take at c) _ 0 i (omega (arith, front)) ∙ get_or-take at c i 0 lt

  patched_above : (i : ℕ) → at + n ≤ i → get_or (patched at n from c) i 0 ≡ get_or c i 0
  unfolding patched
  patched_above i le =
      get_or-append_right (take at c) (take n (drop at from) ++ drop (at + n) c) at i 0 front (omega arith)
      ∙ get_or-append_right (take n (drop at from)) (drop (at + n) c) n (i - at) 0 middle (omega arith)
      ∙ get_or-drop (at + n) c (i - at - n) 0
      ∙ ap (λ (k : ℕ). get_or c k 0) (omega arith)

  patched_in : (i : ℕ) → at ≤ i → i < at + n → get_or (patched at n from c) i 0 ≡ get_or from i 0
  unfolding patched
  patched_in i le lt =
      get_or-append_right (take at c) (take n (drop at from) ++ drop (at + n) c) at i 0 front le
      ∙ get_or_append_left (take n (drop at from)) (drop (at + n) c) 0 (i - at) (omega (arith, middle))
      ∙ get_or-take n (drop at from) (i - at) 0 (omega arith)
      ∙ get_or-drop at from (i - at) 0
      ∙ ap (λ (k : ℕ). get_or from k 0) (omega arith)

-- an outcome with the last write in it comes, by that write's tear, from one without
pub crash_before : (synced : List ℕ) (ws : List Write) (w : Write) (c : List ℕ) → w.at + w.len ≤ length synced → Unsynced synced (ws ++ w ∷ []) c
    → (d : List ℕ) × Unsynced synced ws d × Torn w.at w.len d c
crash_before synced ws w c within u =
    let d = patched w.at w.len synced c in
    let sized : length d ≡ length c = patched_size w.at w.len synced c u.size within in
    let same : (i : ℕ) → Untouched ws i → (i < w.at) ⊎ (w.at ≤ i) → get_or d i 0 ≡ get_or synced i 0 = λ i free. ⊎_elim
    (λ lt. patched_below w.at w.len synced c u.size within i lt ∙ u.rest i (untouched_more ws w i free (inl lt)))
    (λ le. ⊎_elim
    (λ lt. patched_in w.at w.len synced c u.size within i le lt)
    (λ past. patched_above w.at w.len synced c u.size within i past ∙ u.rest i (untouched_more ws w i free (inr past)))
    (cases_lt i (w.at + w.len)))
    in (
      d,
      record { size = sized ∙ u.size; rest = λ i free. same i free (cases_lt i w.at) },
      record {
        size = sym sized;
        below = λ i lt. sym (patched_below w.at w.len synced c u.size within i lt);
        above = λ i le. sym (patched_above w.at w.len synced c u.size within i le);
      },
    )

-- ---- a sync, range by range
-- once a range is copied, the two agree there as well
pub unsynced_less : (bytes synced later : List ℕ) (w : Write) (ws : List Write) → w.at + w.len ≤ length bytes
    → Unsynced synced (w ∷ ws) bytes → Wrote w.at (take (w.at + w.len - w.at) (drop w.at bytes)) synced later → Unsynced later ws bytes
unsynced_less bytes synced later w ws within u copied =
    let range = take (w.at + w.len - w.at) (drop w.at bytes) in
    let size : length range ≡ w.len = length-take-le (w.at + w.len - w.at) (drop w.at bytes) (omega (arith, length-drop w.at bytes)) ∙ omega arith in
    let early : (i : ℕ) → i < w.at → Untouched ws i → get_or bytes i 0 ≡ get_or later i 0 = λ i lt free. u.rest i (inl lt, free) ∙ sym (copied.rest.below i lt) in
    let late : (i : ℕ) → w.at + w.len ≤ i → Untouched ws i → get_or bytes i 0 ≡ get_or later i 0 = λ i le free. u.rest i (inr le, free) ∙ sym (copied.rest.above i (omega (arith, size))) in
    let here : (i : ℕ) → w.at ≤ i → i < w.at + w.len → get_or bytes i 0 ≡ get_or later i 0 = λ i le lt.
    ap (λ (k : ℕ). get_or bytes k 0) (omega arith)
    ∙ sym (get_or-drop w.at bytes (i - w.at) 0)
    ∙ sym (get_or-take (w.at + w.len - w.at) (drop w.at bytes) (i - w.at) 0 (omega arith))
    ∙ sym (copied.has.each (i - w.at) (omega (arith, size)))
    ∙ ap (λ (k : ℕ). get_or later k 0) (omega arith) in
    record {
      size = u.size ∙ sym copied.rest.size;
      rest = λ i free. ⊎_elim
          (λ lt. early i lt free)
          (λ le. ⊎_elim (λ lt. here i le lt) (λ past. late i past free) (cases_lt i (w.at + w.len)))
          (cases_lt i w.at);
    }

-- with no range left, they are the same
pub all_synced : (bytes synced : List ℕ) → Unsynced synced [] bytes → synced ≡ bytes
all_synced bytes synced u = ext_get_or 0 synced bytes (sym u.size) (λ i lt. sym (u.rest i tt))
