use Rattle.std.proofs.Common.{◌≡◌, ◌∙◌, ◌+◌, ◌≤◌, ◌<◌, [], ℕ, List, length, Option, sym, ap, subst}
use Rattle.std.specs.Prelude.{All}
use Rattle.std.specs.List.{AllByRecursion}
use Rattle.mt_base.specs.Edits.{patched}
use Rattle.mt_base.specs.declared.edits.Edit.{Edit}
use Rattle.mt_frame.specs.Grammar.{IsRecord}
use Rattle.mt_frame.specs.declared.records.Record.{Record}
use Rattle.mt_frame.specs.PageRecords.{change_records}
use Rattle.mt_log.specs.Words.{used, area_size}
use Rattle.mt_pool.specs.Views.{view}
use Rattle.mt_pool.specs.Writes.{IsAsLeft, due_image, due_records, records_size}
use Rattle.mt_pool.specs.declared.pool.Pool.{Pool}
use Rattle.mt_space.specs.declared.changes.PageChange.{PageChange}
use Rattle.mt_pool.proofs.Writes.{view_whole, edits_within, edits_left}
use Rattle.mt_pool.proofs.pool.Pool.append_change.Goals as goal

-- what is lent is what is due
lent_is_due : (pool : Pool) (txn op : ℕ) (change : PageChange) (page : List ℕ) (image : Option (List ℕ)) (old : List ℕ) (edits : List Edit)
    → image ≡ due_image pool change.page page → old ≡ page → edits ≡ change.edits.items
    → change_records txn op change.page image old (patched edits old) edits ≡ due_records pool txn op change page
lent_is_due pool txn op change page image old edits is_image is_old is_edits =
    ap (λ (i : Option (List ℕ)). change_records txn op change.page i old (patched edits old) edits) is_image
    ∙ ap (λ (l : List ℕ). change_records txn op change.page (due_image pool change.page page) l (patched edits l) edits) is_old
    ∙ ap (λ (es : List Edit). change_records txn op change.page (due_image pool change.page page) page (patched es page) es) is_edits

pub append_all-requires-clause-some : goal.append_all-requires-clause-some
append_all-requires-clause-some c =
    subst (λ (es : List Edit). 0 < length es) (sym c.deref.ensures.value) (c.requires.edits []).some

pub append_all-requires-clause-within : goal.append_all-requires-clause-within
append_all-requires-clause-within c =
    let page = c.args.change.now.page in
    subst (λ (es : List Edit). All (λ (e : Edit). e.start + length e.bytes ≤ 4096) es) (sym c.deref.ensures.value)
    (edits_within (view c.args.self.now [] page) c.args.change.now (view_whole c.args.self.now [] page c.requires.pool c.requires.there) (c.requires.edits []))

pub append_all-requires-clause-left : goal.append_all-requires-clause-left
append_all-requires-clause-left c =
    let page = view c.args.self.now [] c.args.change.now.page in
    subst (λ (es : List Edit). All (IsAsLeft (patched es c.view-old.result.now)) es) (sym c.deref.ensures.value)
    (subst (λ (l : List ℕ). All (IsAsLeft (patched c.args.change.now.edits.items l)) c.args.change.now.edits.items) (sym (c.view-old.ensures []))
    (edits_left page c.args.change.now (c.requires.edits [])))

pub append_all-requires-clause-grammar : goal.append_all-requires-clause-grammar
append_all-requires-clause-grammar c =
    let is = lent_is_due c.args.self.now c.args.txn c.args.op c.args.change.now (view c.args.self.now [] c.args.change.now.page) _ _ _ (c.due_image.ensures []) (c.view-old.ensures []) c.deref.ensures.value in
    subst (AllByRecursion IsRecord) (sym is) (c.requires.grammar [])

pub append_all-requires-clause-fits : goal.append_all-requires-clause-fits
append_all-requires-clause-fits c =
    let is = lent_is_due c.args.self.now c.args.txn c.args.op c.args.change.now (view c.args.self.now [] c.args.change.now.page) _ _ _ (c.due_image.ensures []) (c.view-old.ensures []) c.deref.ensures.value in
    subst (λ (rs : List Record). used c.args.log.now + records_size rs < area_size c.args.log.now) (sym is) (c.requires.fits [])

pub append_all-requires-clause-short : goal.append_all-requires-clause-short
append_all-requires-clause-short c =
    let is = lent_is_due c.args.self.now c.args.txn c.args.op c.args.change.now (view c.args.self.now [] c.args.change.now.page) _ _ _ (c.due_image.ensures []) (c.view-old.ensures []) c.deref.ensures.value in
    subst (λ (rs : List Record). records_size rs ≤ 12317) (sym is) (c.requires.short [])
