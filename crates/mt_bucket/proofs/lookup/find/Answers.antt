use Rattle.std.proofs.Common.{Some, ap, sym, ◌∙◌}
use Rattle.mt_bucket.specs.Page.{count_of}
use Rattle.mt_bucket.proofs.Lists.{look_first, look_none}
use Rattle.mt_bucket.proofs.lookup.find.Goals as goal

pub returns-in-Some : goal.returns-in-Some
returns-in-Some c =
    let first = c.in-Some.ensures.found in
    ap Some c.name_at.ensures ∙ sym (look_first c.args.relation c.args.key.now c.args.page.now 8 (count_of c.args.page.now) c.in-Some.i first.within first.here first.before)

pub returns-in-None : goal.returns-in-None
returns-in-None c = sym (look_none c.args.relation c.args.key.now c.args.page.now 8 (count_of c.args.page.now) c.in-None.ensures.none)
