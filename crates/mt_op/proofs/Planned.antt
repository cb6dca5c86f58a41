-- How far an operation has come that has a plan, and what it has logged of it.
use Rattle.std.proofs.Common.{◌≡◌, ◌⊎◌, inl, inr, ℕ, ◌≤◌, List, [], ◌∷◌, ◌++◌, Option, Some, None, length, take, refl, sym, ap, ◌∙◌, subst, arith, length-append}
use Rattle.std.specs.Prelude.{IsSome}
use Rattle.std.proofs.lemmas.List.{length-take}
use Rattle.std.proofs.lemmas.List.Elements.{All-head, All-tail, All-take, All-weaker, recursion_from_All}
use Rattle.mt_space.specs.Changes.{IsUntouched}
use Rattle.mt_space.specs.declared.changes.PageChange.{PageChange}
use Rattle.mt_overlay.specs.Overlays.{AreAtHand}
use Rattle.mt_steps.specs.Repeated.{by, changes_of}
use Rattle.mt_steps.proofs.Ranged.{changes_same}
use Rattle.mt_op.specs.World.{World, held_in, unfinished_in, looked, looked_bytes, changes_in, HasWritten, HasPlan, IsOpen, Sees, AreBack, IsWriting, IsTaking, IsAt, IsUnderWay}
use Rattle.mt_op.specs.declared.scope.OpScope.{OpScope}
use Rattle.mt_op.specs.declared.scope.Stage.TheVariants.{Writing, Taking}
use Rattle.mt_op.proofs.Writing.{held_as_seen}

-- ---- what is at hand

pub some_or_none : (o : Option (List ℕ)) → IsSome o ⊎ (o ≡ None)
some_or_none None = inr refl
some_or_none (Some b) = inl refl

-- a page that is not at hand is in no plan
pub not_at_hand : (at_hand : ℕ → Option (List ℕ)) (cs : List PageChange) (p : ℕ) → AreAtHand at_hand cs → at_hand p ≡ None → IsUntouched cs p
not_at_hand at_hand [] p there none = tt
not_at_hand at_hand (c ∷ cs) p there none = (
  (λ is. let some = subst (λ (n : ℕ). IsSome (at_hand n)) is (All-head (λ (d : PageChange). IsSome (at_hand d.page)) c cs there) in absurd (not_some (at_hand p) none some)),
  not_at_hand at_hand cs p (All-tail (λ (d : PageChange). IsSome (at_hand d.page)) c cs there) none,
)
  where
    not_some : (o : Option (List ℕ)) → o ≡ None → IsSome o → ⊥
    not_some None none some = cc
    not_some (Some b) none some = cc

-- ---- one that has a plan

-- so much of its plan is in the log, and what it has put back is as it is held
pub record HasChanged (relations counters : ℕ) (w : World) (s : OpScope) : Type 0 where
  pub sees : Sees w s
  pub unended : IsOpen w s
  pub plan : HasPlan relations counters s
  pub done : HasWritten w s
  pub some : s.written ≤ length (changes_in s)
  pub fewer_stand : s.standing ≤ s.written
  pub back : AreBack w s

-- none of the first so many stands behind all of them
shorter : (n m : ℕ) (cs front back : List PageChange) (c : PageChange) → take n cs ≡ front ++ c ∷ back → m ≡ n → m ≤ length front → ⊥
shorter n m cs front back c is same below =
    let a = length-take n cs in
    let b = length-append front (c ∷ back) in
    let e : length (take n cs) ≡ length (front ++ c ∷ back) = ap length is in
    omega arith

module _ (relations counters : ℕ) (w : World) (s : OpScope) where
  pub is_writing : IsUnderWay relations counters w s → s.stage ≡ Writing → IsWriting relations counters w s
  is_writing k stage = subst (IsAt relations counters w s) stage k.at

  pub is_taking : IsUnderWay relations counters w s → s.stage ≡ Taking → IsTaking relations counters w s
  is_taking k stage = subst (IsAt relations counters w s) stage k.at

  -- one that writes has, and one that is being taken back
  pub has_changed : IsUnderWay relations counters w s → (s.stage ≡ Writing) ⊎ (s.stage ≡ Taking) → HasChanged relations counters w s
  has_changed k (inl stage) =
      let at = is_writing k stage in
      record {
        sees = at.sees;
        unended = at.unended;
        plan = at.plan;
        done = at.done;
        some = at.some;
        fewer_stand = (let e = at.all_stand in omega arith);
        back = λ c front back is below. absurd (shorter s.written s.standing (changes_in s) front back c is at.all_stand below);
      }
  has_changed k (inr stage) =
      let at = is_taking k stage in
      record {
        sees = at.sees;
        unended = at.unended;
        plan = at.plan;
        done = at.done;
        some = at.some;
        fewer_stand = at.fewer_stand;
        back = at.back;
      }

  -- what it has logged are changes of the pages held
  pub written_held : Sees w s → HasPlan relations counters s → HasWritten w s → by s.number (unfinished_in w) ≡ changes_of s.number (take s.written (changes_in s)) (held_in w)
  written_held sees plan done =
      let cs = take s.written (changes_in s) in
      done
      ∙ changes_same s.number cs (looked_bytes s) (held_in w)
      (recursion_from_All (λ (c : PageChange). looked_bytes s c.page ≡ held_in w c.page) cs
      (All-weaker (λ (c : PageChange). IsSome (looked s c.page)) (λ (c : PageChange). looked_bytes s c.page ≡ held_in w c.page) (λ c some. sym (held_as_seen w s c.page sees some)) cs
      (All-take (λ (c : PageChange). IsSome (looked s c.page)) s.written (changes_in s) plan.there)))
