use Rattle.std.proofs.Common.{◌≡◌, ◌<◌, [], ℕ, length, get_or}
use Rattle.mt_format.specs.Formats.{IsFirstPage}
use Rattle.mt_format.proofs.first_pages.first_pages.Given as goal

abbrev pub invariant-loop-number : goal.invariant-loop-number
invariant-loop-number l = record {
  count : length l.pages.items ≡ l.number;
  each : (p : ℕ) → p < l.number → IsFirstPage l.schema p (get_or l.pages.items p []);
}
