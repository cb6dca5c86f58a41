use Rattle.std.proofs.Common.{◌≡◌, ◌<◌, ◌≤◌, ℕ, length, get_or}
use Rattle.mt_model.specs.Tables.{count_at}
use Rattle.mt_counters.specs.Counters.{count_in}
use Rattle.mt_format.specs.Schemas.{relations_in}
use Rattle.mt_format.proofs.first_pages.counters_page.Given as goal

abbrev pub invariant-loop-number : goal.invariant-loop-number
invariant-loop-number l = record {
  size : length l.page ≡ 4096;
  relations : get_or l.page 0 0 ≡ relations_in l.schema;
  counters : get_or l.page 1 0 ≡ length l.counters;
  zeros : (i : ℕ) → 2 ≤ i → i < 8 → get_or l.page i 0 ≡ 0;
  starts : (c : ℕ) → c < l.number → count_in l.page c ≡ count_at l.counters c;
}
