-- A page of records is well formed where it is so in some way: of two records it is known which one lies before the other.
use Rattle.std.proofs.Common.{◌⊎◌, inl, inr, ◌<◌, ◌≤◌, ◌+◌, ℕ, List, arith}
use Rattle.std.proofs.Props.{props}
use Rattle.std.proofs.lemmas.Bool.{cases_lt}
use mathlib.Core.Logic.{∥∥₁_elim}
use Rattle.mt_slots.specs.Page.{offset, size, IsShaped}

pub shaped_of : (page : List ℕ) → ∥ IsShaped page ∥₁ → IsShaped page
shaped_of page some = record {
  length = ∥∥₁_elim some (hlevel props) (λ s. s.length);
  zeros = ∥∥₁_elim some (hlevel props) (λ s. s.zeros);
  table = ∥∥₁_elim some (hlevel props) (λ s. s.table);
  each = ∥∥₁_elim some (hlevel props) (λ s. s.each);
  apart = λ i below j under other. outcome (offset page i) (size page i) (offset page j) (size page j) (cases_lt (offset page i) (offset page j + size page j))
      (λ late. ∥∥₁_elim some (hlevel props) (λ s. behind (offset page i) (size page i) (offset page j) (size page j) late (s.apart i below j under other)));
  room = ∥∥₁_elim some (hlevel props) (λ s. s.room);
}
  where
    behind : (a n b m : ℕ) → a < b + m → (b + m ≤ a) ⊎ (a + n ≤ b) → a + n ≤ b
    behind a n b m late (inl before) = absurd (omega arith)
    behind a n b m late (inr after) = after

    outcome : (a n b m : ℕ) → (a < b + m) ⊎ (b + m ≤ a) → (a < b + m → a + n ≤ b) → (b + m ≤ a) ⊎ (a + n ≤ b)
    outcome a n b m (inl late) f = inr (f late)
    outcome a n b m (inr before) f = inl before
