use Rattle.std.proofs.Common.{◌≡◌, ◌∙◌, ◌+◌, ◌*◌, ◌<◌, ℕ, List, true, set, length, refl, ap, sym, subst, arith}
use Rattle.mt_base.specs.declared.numbers.RecordName.{RecordName}
use Rattle.mt_bucket.specs.Entries.{Entry}
use Rattle.mt_bucket.specs.Page.{count_of}
use Rattle.mt_index.specs.Checks.{entry_at}
use Rattle.mt_space.specs.PageLists.{bytes_of}
use Rattle.mt_page_rules.specs.Naming.{MarksNamed, place}
use Rattle.mt_page_rules.proofs.Checked.{page_is}
use Rattle.mt_page_rules.proofs.Naming.{its_page, its_place, mark_more}
use Rattle.mt_page_rules.proofs.page_rules.AllPages.mark_named.Goals as goal

pub place_of-requires : goal.place_of-requires
place_of-requires c =
    let items = c.args.self.now.pages.items in
    let q = c.args.page in
    let i = c.loop-i.i in
    let page = c.index-bytes.result.now in
    let is_page = page_is items q page c.requires.inside c.index-bytes.ensures in
    let lt : i < count_of (bytes_of items q) = let below = c.loop-i-test.true in let count = c.count-i-end.ensures ∙ ap (λ (x : List ℕ). count_of x) is_page in omega (arith, below, count) in
    let is_name : (entry_at (bytes_of items q) i).name ≡ c.entry-name.result.name = ap (λ (x : List ℕ). (entry_at x i).name) (sym is_page) ∙ ap (λ (e : Entry). e.name) c.entry-name.ensures.is in
    let inside : c.entry-name.result.name.page < length items = subst (λ (x : RecordName). x.page < length items) is_name (its_page items c.requires.known.0 c.requires.known.1 q i c.requires.bucket lt c.requires.names) in
    let few = c.args.self.now.few in
    let from = c.from.ensures ∙ c.get.ensures in
    omega (arith, inside, few, from)

pub index_mut-requires : goal.index_mut-requires
index_mut-requires c =
    let items = c.args.self.now.pages.items in
    let q = c.args.page in
    let i = c.loop-i.i in
    let page = c.index-bytes.result.now in
    let is_page = page_is items q page c.requires.inside c.index-bytes.ensures in
    let lt : i < count_of (bytes_of items q) = let below = c.loop-i-test.true in let count = c.count-i-end.ensures ∙ ap (λ (x : List ℕ). count_of x) is_page in omega (arith, below, count) in
    let is_name : (entry_at (bytes_of items q) i).name ≡ c.entry-name.result.name = ap (λ (x : List ℕ). (entry_at x i).name) (sym is_page) ∙ ap (λ (e : Entry). e.name) c.entry-name.ensures.is in
    let at : place (entry_at (bytes_of items q) i).name ≡ c.place_of.result = ap place is_name ∙ ap (λ (p : ℕ). 1022 * p + c.entry-name.result.name.slot) (sym (c.from.ensures ∙ c.get.ensures)) ∙ sym c.place_of.ensures in
    let inside : c.place_of.result < length c.loop-i.marks.items = subst (λ (x : ℕ). x < length c.loop-i.marks.items) at (subst (λ (x : ℕ). place (entry_at (bytes_of items q) i).name < x) (sym (c.loop-i.invariant.size ∙ c.requires.size)) (its_place items c.requires.known.0 c.requires.known.1 q i c.requires.bucket lt c.requires.names)) in
    let ok = c.loop-i.marks.ok in
    omega (arith, inside, ok)

pub loop-i-preserved : goal.loop-i-preserved
loop-i-preserved c =
    let items = c.args.self.now.pages.items in
    let q = c.args.page in
    let i = c.loop-i.i in
    let page = c.index-bytes.result.now in
    let is_page = page_is items q page c.requires.inside c.index-bytes.ensures in
    let lt : i < count_of (bytes_of items q) = let below = c.loop-i-test.true in let count = c.count-i-end.ensures ∙ ap (λ (x : List ℕ). count_of x) is_page in omega (arith, below, count) in
    let is_name : (entry_at (bytes_of items q) i).name ≡ c.entry-name.result.name = ap (λ (x : List ℕ). (entry_at x i).name) (sym is_page) ∙ ap (λ (e : Entry). e.name) c.entry-name.ensures.is in
    let at : place (entry_at (bytes_of items q) i).name ≡ c.place_of.result = ap place is_name ∙ ap (λ (p : ℕ). 1022 * p + c.entry-name.result.name.slot) (sym (c.from.ensures ∙ c.get.ensures)) ∙ sym c.place_of.ensures in
    let inside : c.place_of.result < length c.loop-i.marks.items = subst (λ (x : ℕ). x < length c.loop-i.marks.items) at (subst (λ (x : ℕ). place (entry_at (bytes_of items q) i).name < x) (sym (c.loop-i.invariant.size ∙ c.requires.size)) (its_place items c.requires.known.0 c.requires.known.1 q i c.requires.bucket lt c.requires.names)) in
    mark_more items q i c.args.marks.now.items c.loop-i.marks.items (set c.loop-i.marks.items c.place_of.result true) c.place_of.result c.loop-i.invariant at inside refl

pub returns : goal.returns
returns c =
    let items = c.args.self.now.pages.items in
    let q = c.args.page in
    let is_page = page_is items q c.index-bytes.result.now c.requires.inside c.index-bytes.ensures in
    let count = c.count-i-end.ensures ∙ ap (λ (x : List ℕ). count_of x) is_page in
    let past = c.loop-i-test.false in
    let run = c.loop-i.auto.i-end in
    let all : c.loop-i.i ≡ count_of (bytes_of items q) = omega (arith, count, past, run) in
    subst (λ (n : ℕ). MarksNamed items q n c.args.marks.now.items c.loop-i.marks.items) all c.loop-i.invariant
