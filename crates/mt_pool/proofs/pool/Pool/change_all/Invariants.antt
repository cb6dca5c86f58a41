use Rattle.std.proofs.Common.{◌≡◌, ◌≢◌, ◌<◌, ℕ, List, drop, set}
use Rattle.mt_base.specs.Edits.{patched}
use Rattle.mt_pool.specs.Views.{IsPool, Shows, view}
use Rattle.mt_pool.proofs.pool.Pool.change_all.Given as goal

abbrev pub invariant-loop-edit : goal.invariant-loop-edit
invariant-loop-edit l = record {
  pool : IsPool l.self;
  shows : (seen : List ℕ) → Shows l.fn.self seen → Shows l.self seen;
  left : (seen : List ℕ) → patched (drop l.edit-index l.edits) (view l.self seen l.page) ≡ patched l.edits (view l.fn.self seen l.page);
  others : (seen : List ℕ) (q : ℕ) → q ≢ l.page → view l.self seen q ≡ view l.fn.self seen q;
  waits : 0 < l.edit-index → l.self.waits.items ≡ set l.fn.self.waits.items l.page l.position;
  same_waits : set l.self.waits.items l.page l.position ≡ set l.fn.self.waits.items l.page l.position;
  there : l.self.of_page ≡ l.fn.self.of_page;
  place : l.self.place ≡ l.fn.self.place;
}
