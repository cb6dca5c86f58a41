use Rattle.std.proofs.Common.{◌≡◌, ◌≤◌, take}
use Rattle.mt_live.specs.Roles.{forward_roles}
use Rattle.mt_live.proofs.transactions.count_forward.Given as goal

abbrev pub invariant-loop-role : goal.invariant-loop-role
invariant-loop-role l = (l.count ≡ forward_roles (take l.role-index l.roles)) × (l.count ≤ l.role-index)
