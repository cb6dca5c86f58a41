use Rattle.std.proofs.Common.{ap}
use Rattle.std.specs.Prelude.{not}
use Rattle.mt_area_rules.proofs.area_rules.AreaRules.op_is_open.Goals as goal

pub returns-in-Page : goal.returns-in-Page
returns-in-Page c = λ earlier k.
    rw (c.in-Page.is, c.contains.ensures, c.get.ensures) (ap not (k.over c.in-Page.op))
