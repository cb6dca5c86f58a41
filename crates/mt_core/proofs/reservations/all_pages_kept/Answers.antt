use Rattle.std.proofs.Common.{◌≡◌, ◌<◌, ◌∙◌, sym, ap, arith, length, take_all, get_or}
use Rattle.std.specs.List.{sum_by}
use Rattle.std.proofs.lemmas.List.{get_or_default}
use Rattle.mt_live.specs.declared.transactions.Role.{Role}
use Rattle.mt_live.specs.declared.transactions.Role.TheVariants.{Stands}
use Rattle.mt_live.specs.Members.{noted, noted_calls}
use Rattle.mt_live.proofs.Noting.{noted-length, noted-at}
use Rattle.mt_core.specs.Runs.{noted_pages}
use Rattle.mt_core.proofs.Weighing.{sum_next, sum_within}
use Rattle.mt_core.proofs.reservations.all_pages_kept.Goals as goal

pub loop-at-preserved : goal.loop-at-preserved
loop-at-preserved c =
    let cs = c.args.calls.now in
    let rs = c.args.roles.now in
    let i = c.loop-at.at in
    let size = noted-length cs rs c.requires.many in
    let lt : i < length cs = c.loop-at-test.true in
    let inside : i < length (noted_calls cs rs) = omega (arith, size, lt) in
    let long : i < length rs = omega (arith, c.requires.many, lt) in
    let role : Role = get_or rs i Stands in
    let call = c.index-calls-at.result in
    let there = noted-at i cs rs call role c.requires.many lt c.index-calls-at.is (get_or_default rs i Stands role long) in
    let next = sum_next noted_pages (noted_calls cs rs) i (noted role call) inside there in
    omega (arith, next, c.loop-at.invariant, c.role_pages-pages.ensures)

pub overflow_add-pages : goal.overflow_add-pages
overflow_add-pages c =
    let cs = c.args.calls.now in
    let rs = c.args.roles.now in
    let i = c.loop-at.at in
    let size = noted-length cs rs c.requires.many in
    let lt : i < length cs = c.loop-at-test.true in
    let inside : i < length (noted_calls cs rs) = omega (arith, size, lt) in
    let long : i < length rs = omega (arith, c.requires.many, lt) in
    let role : Role = get_or rs i Stands in
    let call = c.index-calls-at.result in
    let there = noted-at i cs rs call role c.requires.many lt c.index-calls-at.is (get_or_default rs i Stands role long) in
    let within = sum_within noted_pages (noted_calls cs rs) i (noted role call) inside there in
    omega (arith, within, c.loop-at.invariant, c.role_pages-pages.ensures, c.requires.fits)

pub returns : goal.returns
returns c =
    let size = noted-length c.args.calls.now c.args.roles.now c.requires.many in
    c.loop-at.invariant ∙ ap (sum_by noted_pages) (take_all c.loop-at.at (noted_calls c.args.calls.now c.args.roles.now) (omega (arith, size, c.loop-at-test.false)))
