-- Which way an add goes, and that the map is what it is to be.
use Rattle.std.proofs.Common.{◌≡◌, ◌≢◌, ℕ, ◌<◌, ⊎_elim, Bool, true, false, List, [], ◌∷◌, length, Option, Some, None, Result, Ok, Err, IfOk, refl, ap, sym, ◌∙◌, arith, inl, inr}
use Rattle.std.proofs.lemmas.Bool.{cases_eq}
use Rattle.std.specs.declared.alloc.AllocError.{AllocError}
use Rattle.mt_base.specs.declared.modes.Mode.{Mode}
use Rattle.mt_bucket.specs.Entries.{Entry}
use Rattle.mt_bucket.specs.Hash.{hash}
use Rattle.mt_bucket.specs.Page.{depth_of}
use Rattle.mt_space.specs.Changes.{PageBytes, after}
use Rattle.mt_space.specs.Kinds.{kind}
use Rattle.mt_index.specs.Maps.{Map, alter}
use Rattle.mt_index.specs.Index.{Node, named}
use Rattle.mt_index.specs.Steps.{Walk}
use Rattle.mt_index.specs.Rule.{MaySplit}
use Rattle.mt_index.specs.Pages.{node_of, state_of, AreMap}
use Rattle.mt_index.specs.Answers.{InMaps, Asks, IsEnd, IsInAdd, IsDueInAdd, Added, Adds, TakesSeen, AreSeen, IsPlanned, AddNeeds, IfAdded}
use Rattle.mt_index.specs.declared.answers.Add.{Add}
use Rattle.mt_index.specs.declared.answers.Add.TheVariants as add
use Rattle.mt_index.proofs.Keeping.{add_kept}
use Rattle.mt_index.proofs.Policy.{way_adds}

walk_none : (node : ℕ → Node) (q : ℕ) (front : List ℕ) (p : ℕ) → Walk node q front p → length front ≡ 0 → q ≡ p
walk_none node q [] p w none = w
walk_none node q (n ∷ front) p w none = absurd (omega (arith, none))

-- the last page is the only one: the bucket may be split, if its keys share few bits
pub due : (pages : PageBytes) (key : List ℕ) (last : ℕ) → IsEnd key pages last true → depth_of (pages last) < 9 → MaySplit key (state_of pages) × (named (state_of pages) (hash key) ≡ last)
due pages key last end shallow = (record { alone = rw here end.last; full = rw here end.full; shallow = rw here shallow }, here)
  where
    here : named (state_of pages) (hash key) ≡ last
    here = walk_none (λ p. node_of (pages p)) (named (state_of pages) (hash key)) end.passed.front last end.passed.walk (end.passed.long ∙ end.one refl)

-- a bucket of several pages is not split
walk_more_none : (node : ℕ → Node) (q : ℕ) (front : List ℕ) (p : ℕ) → Walk node q front p → p ≢ 0 → (node q).next ≡ 0 → length front ≡ 0
walk_more_none node q [] p w real last = refl
walk_more_none node q (n ∷ []) p w real last = absurd (real (sym w.2 ∙ ap (λ (x : ℕ). (node x).next) (sym w.0) ∙ last))
walk_more_none node q (n ∷ (k ∷ front)) p w real last = absurd (w.2.1 (sym w.2.0 ∙ ap (λ (x : ℕ). (node x).next) (sym w.0) ∙ last))

pub no_several : (pages : PageBytes) (key : List ℕ) (last : ℕ) → IsEnd key pages last false → MaySplit key (state_of pages) → ⊥
no_several pages key last end may =
    let none = walk_more_none (λ p. node_of (pages p)) (named (state_of pages) (hash key)) end.passed.front last end.passed.walk end.passed.real may.alone in
    let some = end.more refl in
    let long = end.passed.long in
    omega (arith, none, some, long)

-- nor one whose keys share many bits
pub no_deep : (pages : PageBytes) (key : List ℕ) (last : ℕ) (alone : Bool) → IsEnd key pages last alone → MaySplit key (state_of pages) → depth_of (pages last) < 9
no_deep pages key last alone end may =
    let none = walk_more_none (λ p. node_of (pages p)) (named (state_of pages) (hash key)) end.passed.front last end.passed.walk end.passed.real may.alone in
    let here = walk_none (λ p. node_of (pages p)) (named (state_of pages) (hash key)) end.passed.front last end.passed.walk none in
    rw (← here) may.shallow

-- an add adds its key
pub added_map : (split : Bool) (total : ℕ) (e : Entry) (pages pages2 : PageBytes) (m : Map) → AreMap total pages m → m e.relation e.key ≡ None → Added split total e pages pages2 → AreMap total pages2 (alter m e.relation e.key (Some e.name))
added_map split total e pages pages2 m a absent w = record {
  index = add_kept split (state_of pages) (state_of pages2) m e a.index absent (way_adds split e (state_of pages) (state_of pages2) w.way);
  space_fixed = w.stays.kinds 0 (λ z. fixed (kind pages 0) a.space_fixed z) ∙ a.space_fixed;
  directory_fixed = w.stays.kinds 1 (λ z. fixed (kind pages 1) a.directory_fixed z) ∙ a.directory_fixed;
  within = λ p some. ⊎_elim (λ (none : kind pages p ≡ 0). (w.stays.taken p none some).1) (λ (was : kind pages p ≢ 0). a.within p was) (cases_eq (kind pages p) 0);
  few = a.few;
}
  where
    fixed : (k : ℕ) → k ≡ 1 → k ≡ 0 → ⊥
    fixed k one none = omega (arith, one, none)

pub planned_map : (at_hand : ℕ → Option (List ℕ)) (total : ℕ) (split : Bool) (e : Entry) (r : Result Add AllocError) → IfOk r (IsPlanned at_hand total split e)
    → IfOk r (λ x. IfAdded x (λ changes. InMaps at_hand total (λ pages m. m e.relation e.key ≡ None → AreMap total (after changes pages) (alter m e.relation e.key (Some e.name)))))
planned_map at_hand total split e (Ok (add.Changes changes)) p = λ pages agree m a absent. added_map split total e pages (after changes.list.items pages) m a absent (p.0 pages agree m a).0.added
planned_map at_hand total split e (Ok (add.Need q mode)) p = tt
planned_map at_hand total split e (Ok add.Full) p = tt
planned_map at_hand total split e (Ok add.Endless) p = tt
planned_map at_hand total split e (Err w) p = tt

-- the changes themselves, and what they take
pub planned_adds : (at_hand : ℕ → Option (List ℕ)) (total : ℕ) (split : Bool) (e : Entry) (r : Result Add AllocError) → IfOk r (IsPlanned at_hand total split e)
    → IfOk r (λ x. IfAdded x (λ changes. InMaps at_hand total (λ pages m. Adds split total e pages changes)))
planned_adds at_hand total split e (Ok (add.Changes changes)) p = λ pages agree m a. (p.0 pages agree m a).0
planned_adds at_hand total split e (Ok (add.Need q mode)) p = tt
planned_adds at_hand total split e (Ok add.Full) p = tt
planned_adds at_hand total split e (Ok add.Endless) p = tt
planned_adds at_hand total split e (Err w) p = tt

pub planned_seen : (at_hand : ℕ → Option (List ℕ)) (total : ℕ) (split : Bool) (e : Entry) (r : Result Add AllocError) → IfOk r (IsPlanned at_hand total split e)
    → IfOk r (λ x. IfAdded x (λ changes. InMaps at_hand total (λ pages m. TakesSeen at_hand pages changes)))
planned_seen at_hand total split e (Ok (add.Changes changes)) p = λ pages agree m a. (p.0 pages agree m a).1
planned_seen at_hand total split e (Ok (add.Need q mode)) p = tt
planned_seen at_hand total split e (Ok add.Full) p = tt
planned_seen at_hand total split e (Ok add.Endless) p = tt
planned_seen at_hand total split e (Err w) p = tt

pub planned_there : (at_hand : ℕ → Option (List ℕ)) (total : ℕ) (split : Bool) (e : Entry) (r : Result Add AllocError) → IfOk r (IsPlanned at_hand total split e) → IfOk r (λ x. IfAdded x (AreSeen at_hand))
planned_there at_hand total split e (Ok (add.Changes changes)) p = p.1
planned_there at_hand total split e (Ok (add.Need q mode)) p = tt
planned_there at_hand total split e (Ok add.Full) p = tt
planned_there at_hand total split e (Ok add.Endless) p = tt
planned_there at_hand total split e (Err w) p = tt

-- the page that is needed, and that it is due
pub planned_due : (at_hand : ℕ → Option (List ℕ)) (total : ℕ) (split : Bool) (e : Entry) (r : Result Add AllocError) → IfOk r (IsPlanned at_hand total split e)
    → IfOk r (λ x. AddNeeds x (Asks at_hand total (IsDueInAdd split e.key total)))
planned_due at_hand total split e (Ok (add.Changes changes)) p = tt
planned_due at_hand total split e (Ok (add.Need q mode)) p = p
planned_due at_hand total split e (Ok add.Full) p = tt
planned_due at_hand total split e (Ok add.Endless) p = tt
planned_due at_hand total split e (Err w) p = tt

due_in_add : (split : Bool) (key : List ℕ) (total : ℕ) (pages : PageBytes) (p : ℕ) (mode : Mode) → IsDueInAdd split key total pages p mode → IsInAdd split key total pages p mode
due_in_add split key total pages p mode (inl bucket) = inl bucket
due_in_add split key total pages p mode (inr (none, writes, inl map)) = inr (inl map, writes)
due_in_add split key total pages p mode (inr (none, writes, inr (inl d))) = inr (inr (inl (d.0, d.1)), writes)
due_in_add split key total pages p mode (inr (none, writes, inr (inr takes))) = inr (inr (inr (takes.free, takes.within)), writes)

pub planned_need : (at_hand : ℕ → Option (List ℕ)) (total : ℕ) (split : Bool) (e : Entry) (r : Result Add AllocError) → IfOk r (IsPlanned at_hand total split e)
    → IfOk r (λ x. AddNeeds x (Asks at_hand total (IsInAdd split e.key total)))
planned_need at_hand total split e (Ok (add.Changes changes)) p = tt
planned_need at_hand total split e (Ok (add.Need q mode)) p = record { missing = p.missing; role = λ pages agree m a. due_in_add split e.key total pages q mode (p.role pages agree m a) }
planned_need at_hand total split e (Ok add.Full) p = tt
planned_need at_hand total split e (Ok add.Endless) p = tt
planned_need at_hand total split e (Err w) p = tt
