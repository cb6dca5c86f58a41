use Rattle.std.proofs.Common.{◌≡◌, ◌+◌, ◌<◌, ℕ, length, map, get_or}
use Rattle.mt_model.specs.Tables.{count_at, started}
use Rattle.mt_counters.specs.Counters.{count_in}
use Rattle.mt_counters.proofs.counters.put_starts.Given as goal

abbrev pub invariant-loop-at : goal.invariant-loop-at
invariant-loop-at l = record {
  size : length l.page ≡ 4096;
  head : (i : ℕ) → i < 8 → get_or l.page i 0 ≡ get_or l.fn.page i 0;
  stay : (c : ℕ) → c < l.first → count_in l.page c ≡ count_in l.fn.page c;
  starts : (i : ℕ) → i < l.at → count_in l.page (l.first + i) ≡ count_at (map started l.counters) i;
}
