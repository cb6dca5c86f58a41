use Rattle.std.proofs.Common.{rules, ◌≡◌, ◌+◌, ◌-◌, ◌∙◌, ◌++◌, ◌∷◌, [], ℕ, List, Option, None, drop, refl, sym, ap, subst, arith, append_assoc, false}
use Rattle.std.specs.List.{AllByRecursion}
use Rattle.std.proofs.lemmas.List.{drop_more}
use Rattle.std.proofs.lemmas.List.Elements.{All-get_or}
use Rattle.mt_base.specs.Edits.{patched}
use Rattle.mt_base.specs.declared.edits.Edit.{Edit}
use Rattle.mt_frame.specs.Grammar.{IsRecord}
use Rattle.mt_frame.specs.declared.records.PageRecord.{PageRecord}
use Rattle.mt_frame.specs.declared.records.Record.{Record}
use Rattle.mt_area_rules.specs.History.{may_stand, MayFollow}
use Rattle.mt_frame.specs.PageRecords.{change_records, lent_image, range_record, represented}
use Rattle.mt_log.specs.Holds.{HasItsPage}
use Rattle.mt_log.specs.Seen.{LogSeen, bytes_in}
use Rattle.mt_log.specs.Words.{appended}
use Rattle.mt_log.proofs.Prefix.{sound_with_record}
use Rattle.mt_pool.specs.Writes.{IsAsLeft, records_size, IsLonger}
use Rattle.mt_pool.specs.declared.page_changes.Change.{Change}
use Rattle.mt_pool.proofs.Logged.{longer_appended, longer_more, longer_used, none_more, sound_seen, size_append, next_may, next_page}
use Rattle.mt_pool.proofs.page_changes.append_all.Goals as goal

-- the records that are left, this one first
first_of : (ch : Change) (image : Option (List ℕ)) (new : List ℕ) (es : List Edit) (i : ℕ) (e : Edit) (entry : PageRecord) → drop i es ≡ e ∷ drop (i + 1) es
    → represented entry ≡ range_record ch.txn ch.op ch.page image ch.old.now new e
    → change_records ch.txn ch.op ch.page image ch.old.now new (drop i es) ≡ represented entry ∷ change_records ch.txn ch.op ch.page None ch.old.now new (drop (i + 1) es)
first_of ch image new es i e entry next is =
    ap (λ (l : List Edit). change_records ch.txn ch.op ch.page image ch.old.now new l) next
    ∙ ap (λ (r : Record). r ∷ change_records ch.txn ch.op ch.page None ch.old.now new (drop (i + 1) es)) (sym is)

pub returns-in_err-reserve : goal.returns-in_err-reserve
returns-in_err-reserve c = let e = c.reserve.ensures in record {
  longer = search rules;
  used = search rules;
  place = search rules;
  sound = λ pages sound each may. sound_seen pages c.args.log.now c.reserve.new.self e.same sound;
  err = search rules;
  only_memory = search rules;
}

pub loop-edit-init : goal.loop-edit-init
loop-edit-init c = let e = c.reserve.ensures in record {
  done = ([], refl, none_more c.args.log.now c.reserve.new.self e.same, omega (arith, ap bytes_in e.same));
  place = λ lt. absurd (omega arith);
  area = ap (λ (x : LogSeen). x.end - x.start) e.same;
  each = c.requires.grammar;
  room = let room = c.in_ok-reserve.ensures.room in omega (arith, c.requires.short, room);
  sound = λ pages sound each may. sound_seen pages c.args.log.now c.reserve.new.self e.same sound;
}

pub append_page-requires-clause-fits : goal.append_page-requires-clause-fits
append_page-requires-clause-fits c =
    let v = c.loop-edit.invariant in
    let d = v.done in
    let i = c.loop-edit.edit-index in
    let es = c.args.edits.now in
    let e = c.edit-item.result in
    let next = drop_more es i e c.loop-edit-test.true ∙ ap (λ (x : Edit). x ∷ drop (i + 1) es) (sym c.edit-item.is) in
    let new = patched es c.args.change.now.old.now in
    let left = All-get_or (IsAsLeft new) es i c.edit-item.result c.loop-edit-test.true c.requires.left in
    let first = first_of c.args.change.now (lent_image c.loop-edit.image) new es i e c.record_of.result next (c.record_of.ensures new (subst (IsAsLeft new) (sym c.edit-item.is) left)) in
    omega (arith, c.requires.fits, v.area, d.3, ap records_size d.1, size_append d.0 (change_records c.args.change.now.txn c.args.change.now.op c.args.change.now.page (lent_image c.loop-edit.image) c.args.change.now.old.now new (drop i es)), ap records_size first)

pub loop-edit-preserved : goal.loop-edit-preserved
loop-edit-preserved c =
    let v = c.loop-edit.invariant in
    let d = v.done in
    let ch = c.args.change.now in
    let i = c.loop-edit.edit-index in
    let es = c.args.edits.now in
    let e = c.edit-item.result in
    let r = represented c.record_of.result in
    let new = patched es ch.old.now in
    let rest = change_records ch.txn ch.op ch.page None ch.old.now new (drop (i + 1) es) in
    let left = All-get_or (IsAsLeft new) es i e c.loop-edit-test.true c.requires.left in
    let next = drop_more es i e c.loop-edit-test.true ∙ ap (λ (x : Edit). x ∷ drop (i + 1) es) (sym c.edit-item.is) in
    let first = first_of ch (lent_image c.loop-edit.image) new es i e c.record_of.result next (c.record_of.ensures new (subst (IsAsLeft new) (sym c.edit-item.is) left)) in
    let whole = d.1 ∙ ap (λ (l : List Record). d.0 ++ l) first in
    let f = c.append_page.ensures in
    let o = c.in_ok-place.ensures in
    let one : IsLonger c.loop-edit.log c.append_page.new.self (r ∷ []) = o.log in
    let more = longer_more c.args.log.now c.loop-edit.log c.append_page.new.self d.0 (r ∷ []) d.2 one in
    record {
      done = (d.0 ++ r ∷ [], whole ∙ sym (append_assoc d.0 (r ∷ []) rest), more, omega (arith, d.3, longer_used c.loop-edit.log c.append_page.new.self r o.log, size_append d.0 (r ∷ [])));
      place = λ lt. o.place;
      area = ap (λ (x : LogSeen). x.end - x.start) o.log ∙ v.area;
      each = (subst (AllByRecursion IsRecord) first v.each).1;
      room = omega (arith, v.room, ap records_size first, f.room_left);
      sound = λ pages sound each may. sound_with_record pages c.loop-edit.log c.append_page.new.self r o.log (subst (AllByRecursion IsRecord) first v.each).0 (next_page pages d.0 rest r (subst (AllByRecursion (HasItsPage pages)) whole each))
          (ap (λ (l : List Record). may_stand false l r) (longer_appended c.args.log.now c.loop-edit.log d.0 d.2) ∙ next_may (appended c.args.log.now) d.0 rest r (subst (MayFollow false (appended c.args.log.now)) whole may)) (v.sound pages sound each may);
    }
