use Rattle.std.proofs.Common.{◌<◌, suc, set, length, get_or, arith, add-one}
use Rattle.std.proofs.lemmas.List.{get_or_default}
use Rattle.mt_live.specs.declared.transactions.Role.{Role}
use Rattle.mt_live.specs.declared.transactions.Role.TheVariants.{Stands}
use Rattle.mt_live.specs.Roles.{settled_role, left_after}
use Rattle.mt_live.proofs.Noting.{SettledSoFar, settled_one, settled_in_the_end}
use Rattle.mt_live.proofs.transactions.settle.Goals as goal

pub loop-role-preserved : goal.loop-role-preserved
loop-role-preserved c =
    let now = c.loop-role.roles in
    let old = c.args.roles.now in
    let i = c.loop-role.role-index in
    let r : Role = get_or now i Stands in
    let lt : i < length now = let same = c.loop-role.auto.roles in let test = c.loop-role-test.true in omega (arith, same, test) in
    let one : SettledSoFar c.args.first (left_after c.loop-role.left r) (suc i) old (set now i (settled_role c.loop-role.left r)) =
    settled_one c.args.first c.loop-role.left i old now r lt (get_or_default now i Stands r lt) c.loop-role.invariant in
    rw (c.settled-next.ensures.role, c.settled-next.ensures.left, add-one) one

pub returns : goal.returns
returns c =
    settled_in_the_end c.args.first c.loop-role.left c.loop-role.role-index c.args.roles.now c.loop-role.roles
    (let same = c.loop-role.auto.roles in let test = c.loop-role-test.false in omega (arith, same, test)) c.loop-role.invariant
