use Rattle.std.proofs.Common.{◌≡◌, ◌<◌, ◌+◌, suc, take, length, get_or, ap, sym, ◌∙◌, arith, add-one, Bool, cond}
use Rattle.std.proofs.lemmas.List.{get_or_default}
use Rattle.mt_live.specs.declared.transactions.Role.{Role}
use Rattle.mt_live.specs.declared.transactions.Role.TheVariants.{Stands}
use Rattle.mt_live.specs.Entries.{is_standing}
use Rattle.mt_live.specs.Roles.{standing_roles}
use Rattle.mt_live.proofs.Noting.{counted-more}
use Rattle.mt_live.proofs.transactions.count_standing.Goals.{then-stands, else-stands}
use Rattle.mt_live.proofs.transactions.count_standing.Goals as goal

pub loop-role-preserved : goal.loop-role-preserved
loop-role-preserved c =
    let rs = c.args.roles.now in
    let i = c.loop-role.role-index in
    let lt : i < length rs = c.loop-role-test.true in
    let r : Role = get_or rs i Stands in
    let more = counted-more is_standing rs i r lt (get_or_default rs i Stands r lt) in
    let so_far = c.loop-role.invariant.0 in
    let few = c.loop-role.invariant.1 in
    let next : standing_roles (take (i + 1) rs) ≡ standing_roles (take (suc i) rs) = ap (λ n. standing_roles (take n rs)) (add-one i) in
    elim c.if-stands.branch [
      | then-stands w ↦
          let one = more ∙ ap (λ (b : Bool). cond b (standing_roles (take i rs) + 1) (standing_roles (take i rs))) (sym c.stands.ensures ∙ w.if-stands.true) in
          (omega (arith, w.count-is, so_far, next, one), omega (arith, w.count-is, few))
      | else-stands w ↦
          let one = more ∙ ap (λ (b : Bool). cond b (standing_roles (take i rs) + 1) (standing_roles (take i rs))) (sym c.stands.ensures ∙ w.if-stands.false) in
          (omega (arith, w.count-is, so_far, next, one), omega (arith, w.count-is, few))
    ]
