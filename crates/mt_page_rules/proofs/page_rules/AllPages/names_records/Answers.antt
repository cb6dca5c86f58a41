use Rattle.std.proofs.Common.{◌≡◌, ◌∙◌, ◌<◌, ℕ, List, true, false, ap, sym, subst, arith}
use Rattle.mt_bucket.specs.Entries.{Entry}
use Rattle.mt_bucket.specs.Page.{count_of}
use Rattle.mt_index.specs.Checks.{entry_at}
use Rattle.mt_space.specs.PageLists.{bytes_of}
use Rattle.mt_page_rules.specs.Checks.{HasRecord, IsNamedWell}
use Rattle.mt_page_rules.proofs.Checked.{each_more, page_is}
use Rattle.mt_page_rules.proofs.Naming.{entry_well}
use Rattle.mt_page_rules.proofs.page_rules.AllPages.names_records.Goals as goal

pub returns-then-not-has_record : goal.returns-then-not-has_record
returns-then-not-has_record c = λ all.
    let items = c.args.self.now.pages.items in
    let q = c.args.page in
    let i = c.loop-i.i in
    let page = c.index-bytes.result.now in
    let is_page = page_is items q page c.requires.inside c.index-bytes.ensures in
    let is_entry : entry_at (bytes_of items q) i ≡ record { relation = c.entry-view.result.relation; key = c.entry-view.result.key.now; name = c.entry-view.result.name } = ap (λ (x : List ℕ). entry_at x i) (sym is_page) ∙ c.entry-view.ensures.is in
    let lt : i < count_of (bytes_of items q) = let below = c.loop-i-test.true in let count = c.count-i-end.ensures ∙ ap (λ (x : List ℕ). count_of x) is_page in omega (arith, below, count) in
    let none = subst (λ (e : Entry). HasRecord items e.name e.relation e.key → ⊥) (sym is_entry) c.if-not-has_record.ensures in
    entry_well items c.requires.known.0 c.requires.known.1 q i c.if-not-is_of_kind.ensures.1 lt false none (all c.if-not-is_of_kind.ensures.1 i lt)

pub loop-i-preserved : goal.loop-i-preserved
loop-i-preserved c =
    let items = c.args.self.now.pages.items in
    let q = c.args.page in
    let i = c.loop-i.i in
    let page = c.index-bytes.result.now in
    let is_page = page_is items q page c.requires.inside c.index-bytes.ensures in
    let is_entry : entry_at (bytes_of items q) i ≡ record { relation = c.entry-view.result.relation; key = c.entry-view.result.key.now; name = c.entry-view.result.name } = ap (λ (x : List ℕ). entry_at x i) (sym is_page) ∙ c.entry-view.ensures.is in
    let lt : i < count_of (bytes_of items q) = let below = c.loop-i-test.true in let count = c.count-i-end.ensures ∙ ap (λ (x : List ℕ). count_of x) is_page in omega (arith, below, count) in
    let has = subst (λ (e : Entry). HasRecord items e.name e.relation e.key) (sym is_entry) c.if-not-has_record.ensures in
    each_more (λ j. IsNamedWell items (entry_at (bytes_of items q) j).relation (entry_at (bytes_of items q) j).key) i c.loop-i.invariant
    (entry_well items c.requires.known.0 c.requires.known.1 q i c.if-not-is_of_kind.ensures.1 lt true has)

pub returns : goal.returns
returns c = λ bucket j inside.
    let items = c.args.self.now.pages.items in
    let q = c.args.page in
    let is_page = page_is items q c.index-bytes.result.now c.requires.inside c.index-bytes.ensures in
    let count = c.count-i-end.ensures ∙ ap (λ (x : List ℕ). count_of x) is_page in
    c.loop-i.invariant j (let past = c.loop-i-test.false in omega (arith, inside, count, past))
