-- Commits that are booked one after the other.
use Rattle.std.proofs.Common.{◌≡◌, ℕ, ◌<◌, ◌+◌, ◌++◌, ◌∷◌, [], ◌∙◌, List, Option, Some, None, suc, length, take, drop, get_or, refl, ap, sym, subst, append_assoc, add-one}
use Rattle.std.specs.Option.{option_map}
use Rattle.std.proofs.Math.Seq.{drop-cons}
use Rattle.std.proofs.lemmas.List.{map_more}
use mathlib.Core.Logic.{∥∥₁_map}
use Rattle.mt_disk.specs.declared.device.Device.{Ghosts}
use Rattle.mt_live.specs.Lives.{member_of}
use Rattle.mt_live.specs.Machine.{State, booked}
use Rattle.mt_live.specs.Members.{Member}
use Rattle.mt_model.specs.Model.{Base}
use Rattle.mt_core.specs.Booked.{or_zero, session_at, booked_each, txns_of}
use Rattle.mt_core.specs.Consistent.{Origin, state_of, session_or, session_in, IsConsistent, IsSound, IsIn, BooksIn}
use Rattle.mt_core.specs.declared.parts.Commit.{Commit}
use Rattle.mt_core.specs.declared.parts.Core.{Core}

booked_push : (s : State) (ts : List ℕ) (t : ℕ) → booked_each s (ts ++ t ∷ []) ≡ booked (booked_each s ts) t (session_at (booked_each s ts) t)
booked_push s [] t = refl
booked_push s (u ∷ ts) t = booked_push (booked s u (session_at s u)) ts t

session_same : (o : Option Member) → session_or o ≡ or_zero (option_map (λ (m : Member). m.session) o)
session_same None = refl
session_same (Some m) = refl

module _ {D : Type 0} (g : Ghosts D) where
  -- the first n of the commits under way are booked
  pub record HaveLeft (k n : Core D) (count : ℕ) (old names : List ℕ) : Type 0 where
    pub state : (origin : Origin) (base : Base) → IsConsistent g origin base k → IsIn g origin base (booked_each (state_of k base) (txns_of (take count k.commits.items))) n
    pub leaves : n.commits.items ≡ drop count k.commits.items
    pub named : names ≡ old ++ txns_of (take count k.commits.items)

  pub left_sound : (k n : Core D) (count : ℕ) (old names : List ℕ) → IsSound g k → HaveLeft k n count old names → IsSound g n
  left_sound k n count old names sound left = ∥∥₁_map sound (λ (origin, base, safe). (origin, base, (left.state origin base safe).consistent))

  -- the first of those that are left
  pub next_left : (k n : Core D) (count : ℕ) (old names : List ℕ) (d : Commit) → HaveLeft k n count old names → count < length k.commits.items → n.commits.items ≡ get_or k.commits.items count d ∷ drop (suc count) k.commits.items
  next_left k n count old names d left within = left.leaves ∙ drop-cons k.commits.items count d within

  -- one more of them is
  pub left_more : (k n z : Core D) (count t : ℕ) (old names new : List ℕ) (d : Commit) → HaveLeft k n count old names → count < length k.commits.items
      → ((origin : Origin) (base : Base) (c : Commit) (cs : List Commit) → IsConsistent g origin base n → n.commits.items ≡ c ∷ cs → BooksIn g origin base n z c)
      → (t ≡ (get_or k.commits.items count d).txn) × (z.commits.items ≡ drop (suc count) k.commits.items) → new ≡ names ++ t ∷ [] → HaveLeft k z (count + 1) old new
  left_more k n z count t old names new d left within books own named =
      let c = get_or k.commits.items count d in
      let queue = next_left k n count old names d left within in
      let more : txns_of (take (count + 1) k.commits.items) ≡ txns_of (take count k.commits.items) ++ c.txn ∷ [] = map_more (λ (x : Commit). x.txn) k.commits.items count d within in
      record {
        state = λ origin base safe.
            let was = left.state origin base safe in
            let b = books origin base c (drop (suc count) k.commits.items) was.consistent queue in
            let s = booked_each (state_of k base) (txns_of (take count k.commits.items)) in
            let session : session_at s c.txn ≡ session_in n.live.members c.txn = ap (λ (x : State). session_at x c.txn) was.state ∙ sym (session_same (member_of n.live.members c.txn)) in
            let now : booked s c.txn (session_at s c.txn) ≡ booked (state_of n base) c.txn (session_in n.live.members c.txn) = λ i. booked (was.state i) c.txn (session i) in
            subst (λ (x : State). IsIn g origin base x z) (sym (ap (booked_each (state_of k base)) more ∙ booked_push (state_of k base) (txns_of (take count k.commits.items)) c.txn ∙ now)) b;
        leaves = rw add-one own.1;
        named = named ∙ ((λ i. left.named i ++ own.0 i ∷ []) ∙ (append_assoc old (txns_of (take count k.commits.items)) (c.txn ∷ []) ∙ ap (λ xs. old ++ xs) (sym more)));
      }
