use Rattle.std.proofs.Common.{◌≡◌}
use Rattle.mt_alone.proofs.forces.ask_force.Given as goal

abbrev pub invariant-loop : goal.invariant-loop
invariant-loop g l = l.kernel ≡ l.initial.kernel
