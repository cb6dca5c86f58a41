-- How far the search for an operation's key has come stays so as it looks at more pages.
use Rattle.std.proofs.Props.{props}
use Rattle.std.proofs.Common.{◌≡◌, ℕ, List, ◌++◌, Option, Some, sym, ◌∙◌, ap, subst}
use Rattle.mt_index.specs.Answers.{IsSearched}
use Rattle.mt_index.specs.declared.answers.Search.{Search}
use Rattle.mt_index.specs.declared.answers.Search.TheVariants as search
use Rattle.mt_model.specs.declared.operations.Op.{Op}
use Rattle.mt_model.specs.declared.operations.Op.TheVariants.{Get, Insert, Update, Delete, Add, Read, Scan}
use Rattle.mt_steps.specs.Asks.{HasSearched}
use Rattle.mt_overlay.specs.Overlays.{copied, or_below}
use Rattle.mt_overlay.specs.declared.overlay.PageCopy.{PageCopy}
use Rattle.mt_overlay.proofs.Overlaid.{copied_append}
use Rattle.mt_op.specs.World.{looked}
use Rattle.mt_op.specs.Moves.{SameOp}
use Rattle.mt_op.specs.declared.scope.OpScope.{OpScope}

-- ---- it is so in one way

key_prop : (at_hand : ℕ → Option (List ℕ)) (total r : ℕ) (k : List ℕ) (x : Search) → IsProp (IsSearched at_hand total r k x)
key_prop at_hand total r k search.Start = hlevel props
key_prop at_hand total r k (search.At p) = hlevel props
key_prop at_hand total r k (search.Found name) = hlevel props

pub searched_prop : (at_hand : ℕ → Option (List ℕ)) (total : ℕ) (op : Op) (x : Search) → IsProp (HasSearched at_hand total op x)
searched_prop at_hand total (Get r k) x = key_prop at_hand total r k x
searched_prop at_hand total (Insert r k v) x = key_prop at_hand total r k x
searched_prop at_hand total (Update r k v) x = key_prop at_hand total r k x
searched_prop at_hand total (Delete r k) x = key_prop at_hand total r k x
searched_prop at_hand total (Add c d) x = hlevel props
searched_prop at_hand total (Read c) x = hlevel props
searched_prop at_hand total (Scan r) x = hlevel props

-- ---- it begins, and stays

pub searched_start : (at_hand : ℕ → Option (List ℕ)) (total : ℕ) (op : Op) → HasSearched at_hand total op search.Start
searched_start at_hand total (Get r k) = tt
searched_start at_hand total (Insert r k v) = tt
searched_start at_hand total (Update r k v) = tt
searched_start at_hand total (Delete r k) = tt
searched_start at_hand total (Add c d) = tt
searched_start at_hand total (Read c) = tt
searched_start at_hand total (Scan r) = tt

-- what is at hand stays so
abbrev Keeps : (ℕ → Option (List ℕ)) → (ℕ → Option (List ℕ)) → Type 0
Keeps less more = (p : ℕ) (bytes : List ℕ) → less p ≡ Some bytes → more p ≡ Some bytes

key_more : (less more : ℕ → Option (List ℕ)) (total r : ℕ) (k : List ℕ) (x : Search) → Keeps less more → IsSearched less total r k x → IsSearched more total r k x
key_more less more total r k search.Start keeps so = tt
key_more less more total r k (search.At p) keeps so = λ pages agrees m a. so pages (λ q bytes is. agrees q bytes (keeps q bytes is)) m a
key_more less more total r k (search.Found name) keeps so = λ pages agrees m a. so pages (λ q bytes is. agrees q bytes (keeps q bytes is)) m a

searched_more : (less more : ℕ → Option (List ℕ)) (total : ℕ) (op : Op) (x : Search) → Keeps less more → HasSearched less total op x → HasSearched more total op x
searched_more less more total (Get r k) x keeps so = key_more less more total r k x keeps so
searched_more less more total (Insert r k v) x keeps so = key_more less more total r k x keeps so
searched_more less more total (Update r k v) x keeps so = key_more less more total r k x keeps so
searched_more less more total (Delete r k) x keeps so = key_more less more total r k x keeps so
searched_more less more total (Add c d) x keeps so = tt
searched_more less more total (Read c) x keeps so = tt
searched_more less more total (Scan r) x keeps so = tt

-- as it looks at no more
pub searched_same : (s t : OpScope) (x y : Search) → SameOp s t → t.seen.list.items ≡ s.seen.list.items → y ≡ x → HasSearched (looked s) s.seen.total s.op x → HasSearched (looked t) t.seen.total t.op y
searched_same s t x y op seen same so = subst (λ (X : Type 0). X) (λ i. HasSearched (λ p. copied (sym seen i) p) (sym op.total i) (sym op.op i) (sym same i)) so

-- as it looks at pages more
pub searched_gained : (s t : OpScope) (copies : List PageCopy) (x : Search) → SameOp s t → t.seen.list.items ≡ s.seen.list.items ++ copies → HasSearched (looked s) s.seen.total s.op x → HasSearched (looked t) t.seen.total t.op x
searched_gained s t copies x op seen so =
    subst (λ (X : Type 0). X) (λ i. HasSearched (looked t) (sym op.total i) (sym op.op i) x)
    (searched_more (looked s) (looked t) s.seen.total s.op x (λ p bytes is.
    ap (λ (cs : List PageCopy). copied cs p) seen ∙ copied_append s.seen.list.items copies p ∙ ap (λ (o : Option (List ℕ)). or_below o (copied copies p)) is) so)
