-- The index of rooms says of one page after the other what it takes.
use Rattle.std.proofs.Common.{◌≡◌, ◌≢◌, ◌<◌, ◌≤◌, ◌+◌, inl, inr, ℕ, true, None, List, length, get_or, set, sym, ap, ◌∙◌, subst, arith}
use Rattle.std.specs.Prelude.{IsSome, is_some}
use Rattle.std.proofs.lemmas.Bool.{cases_eq}
use Rattle.std.proofs.lemmas.List.{get_or-set_same, get_or-set_other, get_or_default}
use Rattle.mt_plock.specs.declared.guards.PageLock.{PageLock}
use Rattle.mt_space.specs.Changes.{PageBytes, after}
use Rattle.mt_op.specs.World.{looked, changes_in}
use Rattle.mt_file.specs.Rooms.{IsRoom}
use Rattle.mt_op.specs.Room.{HasRooms}
use Rattle.mt_op.specs.declared.scope.OpScope.{OpScope}

-- of the pages of the first so many guards
abbrev pub AreNoted : OpScope → ℕ → List ℕ → List ℕ → PageBytes → Type 0
AreNoted s n map rooms pages =
    (k : ℕ) (l : PageLock) → k < n → get_or s.guards.items k l ≡ l → IsSome (looked s l.page) → IsRoom (get_or map l.page 0) (after (changes_in s) pages l.page) (get_or rooms l.page 0)

module _ (s : OpScope) (map : List ℕ) (pages : PageBytes) where
  -- of all of them
  pub noted_all : (n : ℕ) (rooms : List ℕ) → length s.guards.items ≤ n → AreNoted s n map rooms pages → HasRooms s map rooms pages
  noted_all n rooms all noted p some any =
      let (k, l, lt, is, here) = any in
      subst (λ (q : ℕ). IsRoom (get_or map q 0) (after (changes_in s) pages q) (get_or rooms q 0)) here (noted k l (omega arith) is (subst (λ (q : ℕ). IsSome (looked s q)) (sym here) some))

  module _ (i : ℕ) (d : PageLock) (lt : i < length s.guards.items) (is : get_or s.guards.items i d ≡ d) (rooms : List ℕ) (before : AreNoted s i map rooms pages) where
    same_lock : (k : ℕ) (l : PageLock) → k ≡ i → get_or s.guards.items k l ≡ l → l ≡ d
    same_lock k l at there = sym there ∙ ap (λ (j : ℕ). get_or s.guards.items j l) at ∙ get_or_default s.guards.items i l d lt ∙ is

    earlier : (k : ℕ) (l : PageLock) → k < i + 1 → l.page ≢ d.page → get_or s.guards.items k l ≡ l → k < i
    earlier k l below other there = elim (cases_eq k i) [
      | inl at ↦ absurd (other (ap (λ (x : PageLock). x.page) (same_lock k l at there)))
      | inr ne ↦ omega arith
    ]

    -- the next one is noted
    pub noted_here : (room : ℕ) → d.page < length rooms → IsRoom (get_or map d.page 0) (after (changes_in s) pages d.page) room → AreNoted s (i + 1) map (set rooms d.page room) pages
    noted_here room inside now k l below there some = elim (cases_eq l.page d.page) [
      | inl same ↦ subst (λ (q : ℕ). IsRoom (get_or map q 0) (after (changes_in s) pages q) (get_or (set rooms d.page room) q 0)) (sym same)
          (subst (λ (r : ℕ). IsRoom (get_or map d.page 0) (after (changes_in s) pages d.page) r) (sym (get_or-set_same rooms d.page room 0 inside)) now)
      | inr other ↦ subst (λ (r : ℕ). IsRoom (get_or map l.page 0) (after (changes_in s) pages l.page) r) (sym (get_or-set_other rooms d.page l.page room 0 other)) (before k l (earlier k l below other there) there some)
    ]

    -- it was not looked at
    pub noted_none : looked s d.page ≡ None → AreNoted s (i + 1) map rooms pages
    noted_none none k l below there some = before k l (earlier k l below (λ same. unseen l.page (ap (looked s) same ∙ none) some) there) there some
      where
        unseen : (p : ℕ) → looked s p ≡ None → IsSome (looked s p) → ⊥
        unseen p none there = absurd (let e : is_some (looked s p) ≡ true = there in cc)
