-- It stays a whole page.
use Rattle.std.proofs.Common.{◌≡◌, length}
use Rattle.mt_layer_cases.proofs.index.patched.Given as goal

abbrev pub invariant-loop-edit : goal.invariant-loop-edit
invariant-loop-edit l = length l.new ≡ 4096
