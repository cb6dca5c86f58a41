use Rattle.std.proofs.Common.{◌≡◌, ℕ, suc, ap, ◌∙◌, arith}
use Rattle.mt_bucket.specs.Entries.{without}
use Rattle.mt_bucket.specs.Page.{count_of, entries_from}
use Rattle.mt_bucket.proofs.Lists.{look_none, without_first}
use Rattle.mt_bucket.proofs.entry_changes.remove.Goals as goal

pub returns-in_default-clause-none : goal.returns-in_default-clause-none
returns-in_default-clause-none c = look_none c.args.relation c.args.key.now c.args.page.now 8 (count_of c.args.page.now) c.in_default.ensures.none

pub returns-clause-removed : goal.returns-clause-removed
returns-clause-removed c =
    let first = c.in-Some.ensures.found in
    let gone = c.close_gap.ensures.closed in
    let counted = gone.counted in
    let within = first.within in
    without_first c.args.relation c.args.key.now c.args.page.now c.close_gap.new.page 8 (count_of c.close_gap.new.page) c.in-Some.i (omega arith) first.here first.before gone.others (λ lt. gone.filled lt)
    ∙ ap (λ (m : ℕ). without c.args.relation c.args.key.now (entries_from c.args.page.now 8 m)) (let e : suc (count_of c.close_gap.new.page) ≡ count_of c.args.page.now = omega arith in e)
