use Rattle.std.proofs.Common.{rules, ◌≡◌, ◌<◌, ◌^◌, ◌%◌, ◌∙◌, ℕ, List, length, None, Some, refl, sym, ap, subst, arith}
use Rattle.mt_bucket.specs.Entries.{Entry}
use Rattle.mt_bucket.specs.Hash.{hash}
use Rattle.mt_bucket.specs.Page.{count_of, next_of}
use Rattle.mt_index.specs.Pages.{depth_in, pointer_at}
use Rattle.mt_index.specs.Checks.{entry_at, holder_in}
use Rattle.mt_space.specs.PageLists.{bytes_of}
use Rattle.mt_index.proofs.Settled.{holder_noted, passed_entry, passed_page, passed_twice}
use Rattle.mt_index.proofs.entry_rules.pass.Goals as goal

pub returns-in-Some : goal.returns-in-Some
returns-in-Some c =
    let pages = bytes_of c.args.pages.now in
    let i = c.loop-i.i in
    let holders = c.loop-i.holders in
    let e = c.entry-entry.result in
    let same : record { relation = e.relation; key = e.key.now; name = e.name } ≡ entry_at (pages c.args.at) i = sym c.entry-entry.ensures.is ∙ ap (λ (page : List ℕ). entry_at page i) c.page_at-bytes.ensures.is in
    let there : i < count_of (pages c.args.at) = subst (λ (n : ℕ). i < n) (c.count-i-end.ensures ∙ ap count_of c.page_at-bytes.ensures.is) c.loop-i-test.true in
    let some : holder_in holders (entry_at (pages c.args.at) i).relation (entry_at (pages c.args.at) i).key ≡ Some c.new-in-Some.result =
    ap (λ (x : Entry). holder_in holders x.relation x.key) (sym same)
    ∙ ap (λ (r : ℕ). holder_in holders r e.key.now) (sym c.get.ensures)
    ∙ sym c.in_ok-holder.ensures.old ∙ c.in-Some.is ∙ ap Some (sym c.new-in-Some.ensures) in
    passed_twice (length c.args.pages.now) pages c.args.bucket c.args.at i c.new-in-Some.result (holder_in holders) c.loop-i.invariant c.requires.real there c.requires.finite some

pub loop-i-preserved : goal.loop-i-preserved
loop-i-preserved c =
    let pages = bytes_of c.args.pages.now in
    let i = c.loop-i.i in
    let holders = c.loop-i.holders in
    let e = c.entry-entry.result in
    let same : record { relation = e.relation; key = e.key.now; name = e.name } ≡ entry_at (pages c.args.at) i = sym c.entry-entry.ensures.is ∙ ap (λ (page : List ℕ). entry_at page i) c.page_at-bytes.ensures.is in
    let there : i < count_of (pages c.args.at) = subst (λ (n : ℕ). i < n) (c.count-i-end.ensures ∙ ap count_of c.page_at-bytes.ensures.is) c.loop-i-test.true in
    let here : c.pointer.result ≡ c.args.bucket = search rules in
    let own : pointer_at (pages 1) (hash (entry_at (pages c.args.at) i).key % 2 ^ depth_in (pages 1)) ≡ c.args.bucket =
    ap (λ (x : Entry). pointer_at (pages 1) (hash x.key % 2 ^ depth_in (pages 1))) (sym same)
    ∙ ap (λ (h : ℕ). pointer_at (pages 1) (h % 2 ^ depth_in (pages 1))) (sym c.hash.ensures)
    ∙ ap (λ (d : List ℕ). pointer_at d (c.hash.result % 2 ^ depth_in d)) (sym (c.page_at-directory.ensures.is ∙ ap pages c.new.ensures))
    ∙ sym c.pointer.ensures ∙ here in
    let none : holder_in holders (entry_at (pages c.args.at) i).relation (entry_at (pages c.args.at) i).key ≡ None =
    ap (λ (x : Entry). holder_in holders x.relation x.key) (sym same)
    ∙ ap (λ (r : ℕ). holder_in holders r e.key.now) (sym c.get.ensures)
    ∙ sym c.in_ok-holder.ensures.old ∙ c.in_default.is in
    passed_entry pages c.args.bucket c.args.at i (holder_in holders) (holder_in c.insert.new.self) c.loop-i.invariant there own none
    (holder_noted holders c.insert.new.self (c.get.result, e.key) c.get-in-loop-i.result c.args.at c.in_ok-holder.ensures.updates c.get-in-loop-i.ensures (entry_at (pages c.args.at) i)
    (ap (λ (x : Entry). x.relation) (sym same) ∙ sym c.get.ensures) (ap (λ (x : Entry). x.key) (sym same)))

pub returns : goal.returns
returns c =
    let pages = bytes_of c.args.pages.now in
    let size : c.count-i-end.result ≡ count_of (pages c.args.at) = c.count-i-end.ensures ∙ ap count_of c.page_at-bytes.ensures.is in
    let end = c.loop-i.auto.i-end in
    let last = c.loop-i-test.false in
    passed_page pages c.args.bucket c.args.at c.loop-i.i (next_of (pages c.args.at)) (holder_in c.loop-i.holders) c.loop-i.invariant (omega (arith, size, end, last)) c.requires.real refl
