-- What the index of rooms says of the pages that an operation looked at.
use Rattle.std.specs.Prelude.{◌≡◌, ◌⊎◌, ℕ, List, [], Any, get_or, None, IsSome}
use Rattle.mt_file.specs.Rooms.{IsRoom}
use Rattle.mt_space.specs.Changes.{PageBytes, Agrees, AreShort, after}
use Rattle.mt_op.specs.World.{looked, changes_in}
use Rattle.mt_op.specs.declared.scope.OpScope.{OpScope}

-- each page that it looked at and locked takes so much, once its changes are made in these pages
abbrev pub HasRooms : OpScope → List ℕ → List ℕ → PageBytes → Type 0
HasRooms s map rooms pages = (p : ℕ) → IsSome (looked s p) → Any (λ l. l.page ≡ p) s.guards.items
    → IsRoom (get_or map p 0) (after (changes_in s) pages p) (get_or rooms p 0)

-- each of them does, and the others are as they were
pub record HasNotedEach (s : OpScope) (map old new : List ℕ) : Type 0 where
  pub here : (pages : PageBytes) → Agrees (looked s) pages → AreShort (changes_in s) pages → HasRooms s map new pages
  pub others : (p : ℕ) → looked s p ≡ None → get_or new p 0 ≡ get_or old p 0

-- or it changes nothing, and the index stays
abbrev pub HasFollowed : OpScope → List ℕ → List ℕ → List ℕ → Type 0
HasFollowed s map old new = ((changes_in s ≡ []) × (new ≡ old)) ⊎ HasNotedEach s map old new
