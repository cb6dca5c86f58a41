use Rattle.std.proofs.Common.{◌≡◌, ◌≤◌, take}
use Rattle.mt_live.specs.Roles.{standing_roles}
use Rattle.mt_live.proofs.transactions.count_standing.Given as goal

abbrev pub invariant-loop-role : goal.invariant-loop-role
invariant-loop-role l = (l.count ≡ standing_roles (take l.role-index l.roles)) × (l.count ≤ l.role-index)
