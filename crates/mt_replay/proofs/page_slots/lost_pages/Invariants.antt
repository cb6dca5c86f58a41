use Rattle.std.proofs.Common.{◌≡◌, ◌<◌, ℕ, [], false, length, get_or}
use Rattle.mt_replay.specs.Marking.{FindsLost}
use Rattle.mt_replay.proofs.page_slots.lost_pages.Given as goal

abbrev pub invariant-loop-page : goal.invariant-loop-page
invariant-loop-page l = record {
  size : length l.lost.items ≡ l.page;
  each : (p : ℕ) → p < l.page → FindsLost (get_or l.pages p []) (get_or l.imaged p false) (get_or l.found p []) (get_or l.lost.items p false);
}
