use Rattle.std.proofs.Common.{◌≡◌, ◌∙◌, ◌<◌, ℕ, length, get_or, ap, sym, subst}
use Rattle.mt_space.specs.PageLists.{bytes_of}
use Rattle.mt_slots.specs.Page.{Row}
use Rattle.mt_space.specs.Kinds.{kind}
use Rattle.mt_page_rules.proofs.Checked.{alike, differ, empty_slot, its_record, keys_alike, keys_differ, no_records, own_record, page_is}
use Rattle.mt_page_rules.proofs.page_rules.AllPages.has_record.Goals as goal

pub returns-then-not-is_of_kind : goal.returns-then-not-is_of_kind
returns-then-not-is_of_kind c =
    let items = c.args.self.now.pages.items in
    let idx : c.from-page.result ≡ c.args.name.page = c.from-page.ensures ∙ c.get.ensures in
    no_records items c.requires.0 c.args.name c.args.relation c.args.key.now c.requires.1
    (λ inside records. c.if-not-is_of_kind.ensures (subst (λ (p : ℕ). p < length items) (sym idx) inside) (ap (kind (bytes_of items)) idx ∙ records))

pub returns-in-None : goal.returns-in-None
returns-in-None c =
    let items = c.args.self.now.pages.items in
    let idx : c.from-page.result ≡ c.args.name.page = c.from-page.ensures ∙ c.get.ensures in
    let here = c.if-not-is_of_kind.ensures in
    let page = c.index.result.now in
    let inside : c.args.name.page < length items = subst (λ (p : ℕ). p < length items) idx here.0 in
    let is_page = page_is items c.args.name.page page inside (c.index.ensures ∙ ap (λ (p : ℕ). get_or items p page) idx) in
    let records : kind (bytes_of items) c.args.name.page ≡ 3 = ap (kind (bytes_of items)) (sym idx) ∙ here.1 in
    empty_slot items c.args.name c.args.relation c.args.key.now page is_page records c.in-None.ensures.none

pub returns-then-ne : goal.returns-then-ne
returns-then-ne c = λ has.
    let items = c.args.self.now.pages.items in
    let idx : c.from-page.result ≡ c.args.name.page = c.from-page.ensures ∙ c.get.ensures in
    let here = c.if-not-is_of_kind.ensures in
    let page = c.index.result.now in
    let inside : c.args.name.page < length items = subst (λ (p : ℕ). p < length items) idx here.0 in
    let is_page = page_is items c.args.name.page page inside (c.index.ensures ∙ ap (λ (p : ℕ). get_or items p page) idx) in
    let records : kind (bytes_of items) c.args.name.page ≡ 3 = ap (kind (bytes_of items)) (sym idx) ∙ here.1 in
    let row : Row = record { relation = c.in-Some.view.relation; key = c.in-Some.view.key.now; value = c.in-Some.view.value.now } in
    let e = its_record items c.args.name c.args.relation c.args.key.now page is_page records row c.in-Some.ensures.found has in
    differ c.in-Some.view.relation c.args.relation c.if-ne.ensures (sym e.0)

pub returns-then-ne-2 : goal.returns-then-ne-2
returns-then-ne-2 c = λ has.
    let items = c.args.self.now.pages.items in
    let idx : c.from-page.result ≡ c.args.name.page = c.from-page.ensures ∙ c.get.ensures in
    let here = c.if-not-is_of_kind.ensures in
    let page = c.index.result.now in
    let inside : c.args.name.page < length items = subst (λ (p : ℕ). p < length items) idx here.0 in
    let is_page = page_is items c.args.name.page page inside (c.index.ensures ∙ ap (λ (p : ℕ). get_or items p page) idx) in
    let records : kind (bytes_of items) c.args.name.page ≡ 3 = ap (kind (bytes_of items)) (sym idx) ∙ here.1 in
    let row : Row = record { relation = c.in-Some.view.relation; key = c.in-Some.view.key.now; value = c.in-Some.view.value.now } in
    let e = its_record items c.args.name c.args.relation c.args.key.now page is_page records row c.in-Some.ensures.found has in
    keys_differ c.in-Some.view.key.now c.args.key.now c.if-ne-2.ensures (sym e.1)

pub returns-else-ne-2 : goal.returns-else-ne-2
returns-else-ne-2 c =
    let items = c.args.self.now.pages.items in
    let idx : c.from-page.result ≡ c.args.name.page = c.from-page.ensures ∙ c.get.ensures in
    let here = c.if-not-is_of_kind.ensures in
    let page = c.index.result.now in
    let inside : c.args.name.page < length items = subst (λ (p : ℕ). p < length items) idx here.0 in
    let is_page = page_is items c.args.name.page page inside (c.index.ensures ∙ ap (λ (p : ℕ). get_or items p page) idx) in
    let records : kind (bytes_of items) c.args.name.page ≡ 3 = ap (kind (bytes_of items)) (sym idx) ∙ here.1 in
    let row : Row = record { relation = c.in-Some.view.relation; key = c.in-Some.view.key.now; value = c.in-Some.view.value.now } in
    own_record items c.args.name c.args.relation c.args.key.now page is_page records row c.in-Some.ensures.found (alike c.in-Some.view.relation c.args.relation c.if-ne.ensures) (keys_alike c.in-Some.view.key.now c.args.key.now c.if-ne-2.ensures)
