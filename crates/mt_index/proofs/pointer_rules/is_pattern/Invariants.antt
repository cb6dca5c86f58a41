use Rattle.std.proofs.Common.{◌≡◌, ◌<◌, ◌%◌, ◌^◌, ℕ}
use Rattle.mt_index.specs.Pages.{pointer_at}
use Rattle.mt_index.proofs.pointer_rules.is_pattern.Given as goal

abbrev pub invariant-loop-j : goal.invariant-loop-j
invariant-loop-j l = (k : ℕ) → k < l.j → ((pointer_at l.directory k ≡ l.bucket) → (k % 2 ^ l.bits ≡ l.i % 2 ^ l.bits)) × ((k % 2 ^ l.bits ≡ l.i % 2 ^ l.bits) → (pointer_at l.directory k ≡ l.bucket))
