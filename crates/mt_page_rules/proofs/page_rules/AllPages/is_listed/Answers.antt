use Rattle.std.proofs.Common.{ℕ, false, get_or, ap}
use Rattle.mt_slots.specs.Page.{Row}
use Rattle.mt_page_rules.proofs.Checked.{none_there, page_is}
use Rattle.mt_page_rules.proofs.Naming.{by_mark}
use Rattle.mt_page_rules.proofs.page_rules.AllPages.is_listed.Goals as goal

pub returns-in-Some : goal.returns-in-Some
returns-in-Some c =
    let items = c.args.self.now.pages.items in
    let p = c.args.page in
    let s = c.args.slot in
    let page = c.index.result.now in
    let is_page = page_is items p page c.requires.inside c.index.ensures in
    let row : Row = record { relation = c.in-Some.field-0.relation; key = c.in-Some.field-0.key.now; value = c.in-Some.field-0.value.now } in
    by_mark items c.requires.known.0 p s page c.requires.known.1 c.requires.names c.args.marks.now c.requires.marked c.requires.slot is_page c.requires.records row c.in-Some.ensures.found (get_or c.args.marks.now c.place_of.result false)
    (ap (λ (x : ℕ). get_or c.args.marks.now x false) c.place_of.ensures)

pub returns-in-None : goal.returns-in-None
returns-in-None c = λ other is.
    let items = c.args.self.now.pages.items in
    let p = c.args.page in
    let s = c.args.slot in
    let page = c.index.result.now in
    let is_page = page_is items p page c.requires.inside c.index.ensures in
    absurd (none_there items p s page is_page c.requires.records c.in-None.ensures.none other is)
