-- What pages in memory take, noted page by page.
use mathlib.Core.Logic.{∥∥₁_elim}
use Rattle.std.proofs.Common.{◌≡◌, ◌≢◌, ◌<◌, ◌≤◌, ◌+◌, ◌∙◌, ℕ, List, [], ◌∷◌, length, sym, ap, subst, arith, below_more, length-set}
use Rattle.std.proofs.Math.ListN.{get_or, set}
use Rattle.std.proofs.Props.{props}
use Rattle.std.proofs.lemmas.List.{get_or-set_same, get_or-set_other}
use Rattle.mt_file.specs.Rooms.{fits_of, AreRooms, IsRoom}
use Rattle.mt_space.specs.PageLists.{bytes_of}
use Rattle.mt_file.specs.File.{IsFile}
use Rattle.mt_space.specs.Kinds.{kind}

-- the pages of a file are some
pub some_pages : (items : List (List ℕ)) → ∥ IsFile (bytes_of items) ∥₁ → 0 < length items
some_pages items file = ∥∥₁_elim file (hlevel props) (λ is. some items is.fixed)
  where
    some : (pages : List (List ℕ)) → kind (bytes_of pages) 0 ≡ 1 → 0 < length pages
    some [] fixed = cc
    some (page ∷ pages) fixed = omega arith

-- the first so many pages are noted, and the others are not yet
pub record AreNotedTo (items : List (List ℕ)) (fits : List ℕ) (n : ℕ) : Type 0 where
  pub noted : (p : ℕ) → p < n → IsRoom (kind (bytes_of items) p) (get_or items p []) (get_or fits p 0)
  pub blank : (p : ℕ) → n ≤ p → p < length fits → get_or fits p 0 ≡ 0
  pub size : length fits ≡ length items

pub all_rooms : (items : List (List ℕ)) (fits : List ℕ) → AreNotedTo items fits (length items) → AreRooms fits (bytes_of items)
all_rooms items fits all = record {
  records = λ p lt is. (all.noted p (subst (λ (n : ℕ). p < n) all.size lt)).records is;
  others = λ p lt not. (all.noted p (subst (λ (n : ℕ). p < n) all.size lt)).others not;
}

module _ (items : List (List ℕ)) (fits : List ℕ) (n : ℕ) (before : AreNotedTo items fits n) (inside : n < length fits) where
  -- a page that does not hold records
  pub one_passed : kind (bytes_of items) n ≢ 3 → AreNotedTo items fits (n + 1)
  one_passed other = record {
    noted = below_more (λ p. IsRoom (kind (bytes_of items) p) (get_or items p []) (get_or fits p 0)) n
        before.noted (record { records = λ is. absurd (other is); others = λ not. before.blank n (omega arith) inside });
    blank = λ p above below. before.blank p (omega arith) below;
    size = before.size;
  }

  -- one that does
  pub one_noted : (new : List ℕ) → kind (bytes_of items) n ≡ 3 → new ≡ set fits n (fits_of (get_or items n [])) → AreNotedTo items new (n + 1)
  one_noted new records put =
      let room = fits_of (get_or items n []) in
      let many : length new ≡ length fits = ap (λ (xs : List ℕ). length xs) put ∙ length-set fits n room in
      let here : get_or new n 0 ≡ room = ap (λ (xs : List ℕ). get_or xs n 0) put ∙ get_or-set_same fits n room 0 inside in
      let elsewhere : (p : ℕ) → p ≢ n → get_or new p 0 ≡ get_or fits p 0 = λ p other. ap (λ (xs : List ℕ). get_or xs p 0) put ∙ get_or-set_other fits n p room 0 other in
      record {
        noted = below_more (λ p. IsRoom (kind (bytes_of items) p) (get_or items p []) (get_or new p 0)) n
            (λ p below. subst (λ (x : ℕ). IsRoom (kind (bytes_of items) p) (get_or items p []) x) (sym (elsewhere p (λ e. absurd (omega arith)))) (before.noted p below))
            (record { records = λ is. here; others = λ not. absurd (not records) });
        blank = λ p above below. elsewhere p (λ e. absurd (omega arith)) ∙ before.blank p (omega arith) (omega arith);
        size = many ∙ before.size;
      }
