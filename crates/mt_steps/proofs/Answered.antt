-- What follows from an answer that is reported by cases.
use Rattle.std.proofs.Common.{arith, ◌≡◌, ◌<◌, ℕ, List, Option, None, Some, sym, ap, ◌∙◌}
use Rattle.mt_space.specs.declared.changes.PageChange.{PageChange}
use Rattle.mt_model.specs.declared.operations.Reply.{Reply}
use Rattle.mt_steps.specs.declared.act.Act.{Act}
use Rattle.mt_steps.specs.declared.act.Act.TheVariants.{Lock, Made, Full, Broken}
use Rattle.mt_steps.specs.Acts.{IfLock, IfMade, IfFull, IfBroken}
use Rattle.mt_base.specs.declared.modes.Mode.{Mode}
use Rattle.mt_steps.specs.PlanAnswers.{PlanAnswers}

pub answers_weaker : (at_hand : ℕ → Option (List ℕ)) (total : ℕ) (A B : ℕ → Mode → Type 0) (P Q : List PageChange → Reply → Type 0) (F G : Type 0) → ((p : ℕ) (mode : Mode) → A p mode → B p mode)
    → ((changes : List PageChange) (reply : Reply) → P changes reply → Q changes reply) → (F → G) → (act : Act) → PlanAnswers at_hand total A P F act → PlanAnswers at_hand total B Q G act
answers_weaker at_hand total A B P Q F G asks f h (Lock p mode) outcome = (outcome.0, outcome.1, asks p mode outcome.2)
answers_weaker at_hand total A B P Q F G asks f h (Made changes reply) outcome = f changes.list.items reply outcome
answers_weaker at_hand total A B P Q F G asks f h Full outcome = h outcome
answers_weaker at_hand total A B P Q F G asks f h Broken outcome = outcome

pub lock_reported : (at_hand : ℕ → Option (List ℕ)) (total : ℕ) (A : ℕ → Mode → Type 0) (P : List PageChange → Reply → Type 0) (F : Type 0) (act : Act) → PlanAnswers at_hand total A P F act → IfLock act (λ p mode. (at_hand p ≡ None) × (p < total))
lock_reported at_hand total A P F (Lock p mode) outcome = (outcome.0, outcome.1)
lock_reported at_hand total A P F (Made changes reply) outcome = tt
lock_reported at_hand total A P F Full outcome = tt
lock_reported at_hand total A P F Broken outcome = tt

pub asks_reported : (at_hand : ℕ → Option (List ℕ)) (total : ℕ) (A B : ℕ → Mode → Type 0) (P : List PageChange → Reply → Type 0) (F : Type 0) → ((p : ℕ) (mode : Mode) → A p mode → B p mode) → (act : Act) → PlanAnswers at_hand total A P F act → IfLock act B
asks_reported at_hand total A B P F asks (Lock p mode) outcome = asks p mode outcome.2
asks_reported at_hand total A B P F asks (Made changes reply) outcome = tt
asks_reported at_hand total A B P F asks Full outcome = tt
asks_reported at_hand total A B P F asks Broken outcome = tt

pub made_reported : (at_hand : ℕ → Option (List ℕ)) (total : ℕ) (A : ℕ → Mode → Type 0) (P Q : List PageChange → Reply → Type 0) (F : Type 0) → ((changes : List PageChange) (reply : Reply) → P changes reply → Q changes reply) → (act : Act)
    → PlanAnswers at_hand total A P F act → IfMade act Q
made_reported at_hand total A P Q F f (Lock p mode) outcome = tt
made_reported at_hand total A P Q F f (Made changes reply) outcome = f changes.list.items reply outcome
made_reported at_hand total A P Q F f Full outcome = tt
made_reported at_hand total A P Q F f Broken outcome = tt

pub full_reported : (at_hand : ℕ → Option (List ℕ)) (total : ℕ) (A : ℕ → Mode → Type 0) (P : List PageChange → Reply → Type 0) (F G : Type 0) → (F → G) → (act : Act) → PlanAnswers at_hand total A P F act → IfFull act G
full_reported at_hand total A P F G h (Lock p mode) outcome = tt
full_reported at_hand total A P F G h (Made changes reply) outcome = tt
full_reported at_hand total A P F G h Full outcome = h outcome
full_reported at_hand total A P F G h Broken outcome = tt

pub broken_reported : (at_hand : ℕ → Option (List ℕ)) (total : ℕ) (A : ℕ → Mode → Type 0) (P : List PageChange → Reply → Type 0) (F : Type 0) (act : Act) → PlanAnswers at_hand total A P F act → IfBroken act ⊥
broken_reported at_hand total A P F (Lock p mode) outcome = tt
broken_reported at_hand total A P F (Made changes reply) outcome = tt
broken_reported at_hand total A P F Full outcome = tt
broken_reported at_hand total A P F Broken outcome = outcome

-- the counters page is one of all
pub two_inside : (at_hand : ℕ → Option (List ℕ)) (total : ℕ) (act : Act) → 2 < total → IfLock act (λ p mode. (at_hand p ≡ None) × (p ≡ 2)) → IfLock act (λ p mode. (at_hand p ≡ None) × (p < total))
two_inside at_hand total (Lock p mode) inside asks = let two = asks.1 in (asks.0, omega (arith, inside, two))
two_inside at_hand total (Made changes reply) inside asks = tt
two_inside at_hand total Full inside asks = tt
two_inside at_hand total Broken inside asks = tt

-- what is logged is something
pub logs_something : {A B : Type 0} (log : Reply → Option A) (reply outcome : Reply) (x : A) → reply ≡ outcome → log outcome ≡ Some x → log reply ≡ None → B
logs_something log reply outcome x same some none = absurd (none_some (sym none ∙ ap log same ∙ some))
  where
    none_some : None ≡ Some x → ⊥
    none_some e = cc
