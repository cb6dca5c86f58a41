-- What lies after the last counter of a base is open: pages that hold one hold each other that has the same rows and counters.
use Rattle.std.proofs.Common.{◌≡◌, ◌∙◌, ℕ, List, get_or, length, refl, sym, subst}
use Rattle.mt_disk.specs.declared.device.Device.{Ghosts}
use Rattle.mt_space.specs.PageLists.{bytes_of}
use Rattle.mt_model.specs.Model.{Base, IsBase}
use Rattle.mt_page_rules.specs.Checks.{AreChecked}
use Rattle.mt_space.specs.Changes.{PageBytes}
use Rattle.mt_steps.specs.Held.{Holds}
use Rattle.mt_steps.specs.Listed.{IsSame}
use Rattle.mt_txn.specs.declared.kernel.Kernel.{Kernel}
use Rattle.mt_restart.proofs.Based.{base_of_good}
use Rattle.mt_restart.specs.Beside.{IsBeside}
use Rattle.mt_restart.specs.declared.beside.Beside.{Beside}
use Rattle.mt_restart.specs.Resumed.{BeginsOn, BeginsOnPages, IsOpened}

holds_same : (pages : PageBytes) (b m : Base) → Holds pages b → IsSame (get_or (pages 2) 1 0) m b → Holds pages m
holds_same pages b m holds same = record {
  rows = record {
    found = λ r k v there. holds.rows.found r k v (sym (same.rows r k) ∙ there);
    there = λ r k v there. same.rows r k ∙ holds.rows.there r k v there;
  };
  counts = λ c lt. same.counts c lt ∙ holds.counts c lt;
}

module _ {D : Type 0} {g : Ghosts D} (k : Kernel D g) where
  -- of itself
  as_it_is : (relations counters : ℕ) (b : Base) → IsOpened relations counters b k → IsOpened k.relations k.counters b k
  as_it_is relations counters b o = record { relations_are = refl; counters_are = refl; shows = o.shows; restarts = o.restarts }

  pub begins_on : (pages : PageBytes) (relations counters : ℕ) (b : Base) → counters ≡ get_or (pages 2) 1 0 → Holds pages b → IsBase b
      → ((m : Base) → Holds pages m → IsBase m → IsOpened relations counters m k) → BeginsOn b k
  begins_on pages relations counters b outcome holds bounds opens =
      let first = opens b holds bounds in
      record {
        opened = as_it_is relations counters b first;
        same = λ m same in_bounds. as_it_is relations counters m
            (opens m (holds_same pages b m holds (subst (λ (n : ℕ). IsSame n m b) (first.counters_are ∙ outcome) same)) in_bounds);
      }

  -- what is opened over pages that break no rule begins on them
  pub begins_on_pages : (items : List (List ℕ)) (frames : ℕ) (x : Beside) → AreChecked items → IsBeside items frames x
      → ((b : Base) → Holds (bytes_of items) b → IsBase b → IsOpened x.relations x.counters b k) → BeginsOnPages items k
  begins_on_pages items frames x checked beside opens =
      let based = base_of_good checked.relations checked.counters (length items) (bytes_of items) checked.good in
      let first = opens based.0 based.1 based.2 in
      record {
        relations = first.relations_are ∙ beside.relations;
        counters = first.counters_are ∙ beside.counters;
        opened = λ b holds bounds. as_it_is x.relations x.counters b (opens b holds bounds);
      }
