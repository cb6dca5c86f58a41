use Rattle.std.proofs.Common.{◌≡◌, ℕ, List, take}
use Rattle.mt_pool.specs.Views.{IsPool, Shows, frames, view, pages}
use Rattle.mt_pool.specs.Turns.{KnowsImages}
use Rattle.mt_pool.proofs.next_area.note_images.Given as goal

abbrev pub invariant-loop-entry : goal.invariant-loop-entry
invariant-loop-entry l = record {
  at : l.position ≡ l.entry-index;
  pool : IsPool l.pool;
  shows : (seen : List ℕ) → Shows l.fn.pool seen → Shows l.pool seen;
  views : (seen : List ℕ) (q : ℕ) → view l.pool seen q ≡ view l.fn.pool seen q;
  place : l.pool.place ≡ l.fn.pool.place;
  pages : pages l.pool ≡ pages l.fn.pool;
  many : frames l.pool ≡ frames l.fn.pool;
  knows : KnowsImages l.pool (take l.entry-index l.images);
}
