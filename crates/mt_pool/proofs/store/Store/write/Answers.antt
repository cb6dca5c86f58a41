use Rattle.std.proofs.Common.{rules, ◌≡◌, ◌≢◌, ◌≤◌, ◌+◌, ◌∙◌, [], ℕ, List, length, set, refl, sym, ap, subst, arith, length-append, ⊎_elim}
use Rattle.std.proofs.lemmas.Bool.{cases_eq}
use Rattle.std.proofs.lemmas.List.Elements.{recursion_from_All}
use Rattle.std.specs.List.{AllByRecursion}
use Rattle.std.specs.Prelude.{All}
use Rattle.mt_base.specs.Edits.{patched, IsShortest}
use Rattle.mt_base.specs.declared.edits.Edit.{Edit}
use Rattle.mt_frame.specs.Grammar.{IsRecord}
use Rattle.mt_log.specs.Words.{appended}
use Rattle.mt_space.specs.Changes.{IsShort}
use Rattle.mt_pool.specs.Views.{view}
use Rattle.mt_frame.specs.PageRecords.{change_records, redone}
use Rattle.mt_pool.specs.Writes.{due_image, due_records, records_size, IsUnfinished}
use Rattle.mt_pool.proofs.Kept.{no_call}
use Rattle.mt_pool.proofs.Logged.{kept_append, kept_write, longer_appended, none_more}
use Rattle.mt_frame.proofs.Redone.{shortest_within, own_redone, other_redone}
use Rattle.mt_pool.proofs.Writes.{view_whole, edits_within, now_any, now_records, now_some, records_now, now_size, now_pages, now_may, changes_images, ends_nothing, other_pages, view_any}
use Rattle.mt_pool.proofs.Steady.{steady}
use Rattle.mt_pool.proofs.store.Store.write.Given.{Over}
use Rattle.mt_pool.proofs.store.Store.write.Goals as goal

pub append_change-requires-clause-edits : goal.append_change-requires-clause-edits
append_change-requires-clause-edits g c = λ other.
    let s = c.args.self.now in
    subst (λ (l : List ℕ). IsShort l c.args.change.now) (view_any s.pool (g.D.Device.seen s.device) other c.args.change.now.page c.requires.there) c.requires.short

pub append_change-requires-clause-grammar : goal.append_change-requires-clause-grammar
append_change-requires-clause-grammar g c = λ other.
    let s = c.args.self.now in let r = c.requires in
    subst (AllByRecursion IsRecord) (sym (now_any g.D.Device s (steady g.D.Device s r.open) c.args.txn c.args.op c.args.change.now r.there r.inside r.short r.numbers other)) (now_records g.D.Device s (steady g.D.Device s r.open) c.args.txn c.args.op c.args.change.now r.there r.inside r.short r.numbers)

pub append_change-requires-clause-fits : goal.append_change-requires-clause-fits
append_change-requires-clause-fits g c = λ other.
    let s = c.args.self.now in let r = c.requires in
    let fits = r.fits in
    omega (arith, fits, ap records_size (now_any g.D.Device s (steady g.D.Device s r.open) c.args.txn c.args.op c.args.change.now r.there r.inside r.short r.numbers other), now_size g.D.Device s (steady g.D.Device s r.open) c.args.txn c.args.op c.args.change.now r.there r.inside r.short r.numbers)

pub append_change-requires-clause-short : goal.append_change-requires-clause-short
append_change-requires-clause-short g c = λ other.
    let s = c.args.self.now in let r = c.requires in
    omega (arith, r.short.size, ap records_size (now_any g.D.Device s (steady g.D.Device s r.open) c.args.txn c.args.op c.args.change.now r.there r.inside r.short r.numbers other), now_size g.D.Device s (steady g.D.Device s r.open) c.args.txn c.args.op c.args.change.now r.there r.inside r.short r.numbers)

pub returns-in_err-place-clause-keeps : goal.returns-in_err-place-clause-keeps
returns-in_err-place-clause-keeps g c = record {
  kept = λ opening k.
      let s = c.args.self.now in let r = c.requires in let seen = g.D.Device.seen s.device in
      kept_append g.D.Device opening s k c.append_change.new.log [] (none_more s.log c.append_change.new.log (c.in_err-place.ensures seen).err)
      (λ sound. (c.append_change.ensures seen).sound _ sound
      (now_pages g.D.Device s (steady g.D.Device s r.open) c.args.txn c.args.op c.args.change.now r.there r.inside r.short r.numbers)
      (now_may g.D.Device s (steady g.D.Device s r.open) c.args.txn c.args.op c.args.change.now r.there r.inside r.short r.numbers r.unfinished))
      (λ q. refl) (λ q. refl);
  moments = λ opening k. no_call g.D.Device opening c.args.self.now k g.met.D.Device.only_now;
}

pub change_all-requires-clause-position : goal.change_all-requires-clause-position
change_all-requires-clause-position g c =
    let s = c.args.self.now in let r = c.requires in let seen = g.D.Device.seen s.device in
    let e = c.in_ok-place.ensures seen in
    let some = now_some g.D.Device s (steady g.D.Device s r.open) c.args.txn c.args.op c.args.change.now r.there r.inside r.short r.numbers in
    let records = records_now g.D.Device s (steady g.D.Device s r.open) c.args.txn c.args.op c.args.change.now r.there r.inside r.short r.numbers in
    omega (arith, e.place, ap length (longer_appended s.log c.append_change.new.log records e.longer), length-append (appended s.log) records, some)

pub returns-clause-keeps : goal.returns-clause-keeps
returns-clause-keeps g c = record {
  kept = λ opening k.
      let s = c.args.self.now in let r = c.requires in let seen = g.D.Device.seen s.device in
      let f = c.change_all.ensures in
      let l = c.in_ok-place.ensures seen in
      let page = c.args.change.now.page in
      let v = view s.pool seen page in
      let records = due_records s.pool c.args.txn c.args.op c.args.change.now v in
      kept_write g.D.Device opening s k c.append_change.new.log c.change_all.new.self records page l.longer
      (λ sound. (c.append_change.ensures seen).sound _ sound
      (now_pages g.D.Device s (steady g.D.Device s r.open) c.args.txn c.args.op c.args.change.now r.there r.inside r.short r.numbers)
      (now_may g.D.Device s (steady g.D.Device s r.open) c.args.txn c.args.op c.args.change.now r.there r.inside r.short r.numbers r.unfinished))
      r.inside
      (now_some g.D.Device s (steady g.D.Device s r.open) c.args.txn c.args.op c.args.change.now r.there r.inside r.short r.numbers)
      (changes_images c.args.txn c.args.op page v (patched c.args.change.now.edits.items v) s.pool seen c.args.change.now.edits.items r.short.some)
      (other_pages c.args.txn c.args.op page v (patched c.args.change.now.edits.items v) (due_image s.pool page v) c.args.change.now.edits.items)
      f.pool (f.shows seen k.shows) (f.waits ∙ ap (λ (n : ℕ). set s.pool.waits.items page n) l.place) f.place (ap (λ x. length x.items) f.there) (f.others seen);
  moments = λ opening k. no_call g.D.Device opening c.args.self.now k g.met.D.Device.only_now;
}

edited : (g : Over) (c : goal.After-change_all g) → (seen : List ℕ) → view c.change_all.new.self seen c.args.change.now.page ≡ patched c.args.change.now.edits.items (view c.args.self.now.pool seen c.args.change.now.page)
edited g c = λ seen.
    c.change_all.ensures.edited seen ∙ ap (λ (es : List Edit). patched es (view c.args.self.now.pool seen c.args.change.now.page)) c.deref.ensures.value

again : (g : Over) (c : goal.After-change_all g) → (seen : List ℕ) (q : ℕ)
    → view c.change_all.new.self seen q ≡ redone q (due_records c.args.self.now.pool c.args.txn c.args.op c.args.change.now (view c.args.self.now.pool seen c.args.change.now.page)) (view c.args.self.now.pool seen q)
again g c = λ seen q.
    let s = c.args.self.now in let r = c.requires in
    let page = c.args.change.now.page in
    let edits = c.args.change.now.edits.items in
    let v = view s.pool seen page in
    let here = view_any s.pool (g.D.Device.seen s.device) seen page r.there in
    let short = subst (λ (l : List ℕ). IsShort l c.args.change.now) here r.short in
    ⊎_elim
    (λ (same : q ≡ page). ap (view c.change_all.new.self seen) same ∙ edited g c seen
    ∙ sym (own_redone c.args.txn c.args.op page v (due_image s.pool page v) edits (shortest_within v (patched edits v) edits (recursion_from_All (IsShortest v (patched edits v)) edits short.ranges)))
    ∙ ap (λ (x : ℕ). redone x (change_records c.args.txn c.args.op page (due_image s.pool page v) v (patched edits v) edits) (view s.pool seen x)) (sym same))
    (λ (differ : q ≢ page). c.change_all.ensures.others seen q differ ∙ sym (other_redone c.args.txn c.args.op page v (patched edits v) q differ (due_image s.pool page v) edits (view s.pool seen q)))
    (cases_eq q page)

pub returns-clause-steps : goal.returns-clause-steps
returns-clause-steps g c =
    let s = c.args.self.now in let r = c.requires in let seen = g.D.Device.seen s.device in
    let l = c.in_ok-place.ensures seen in
    record {
      edited = edited g c;
      log = l.longer;
      again = again g c;
      waits = c.change_all.ensures.waits ∙ ap (λ (n : ℕ). set s.pool.waits.items c.args.change.now.page n) l.place;
      used = omega (arith, l.used, now_size g.D.Device s (steady g.D.Device s r.open) c.args.txn c.args.op c.args.change.now r.there r.inside r.short r.numbers);
    }

pub returns-clause-ends_none : goal.returns-clause-ends_none
returns-clause-ends_none g c = λ t o unfinished.
    let s = c.args.self.now in let seen = g.D.Device.seen s.device in
    let page = c.args.change.now.page in
    let v = view s.pool seen page in
    subst (IsUnfinished t o) (sym (longer_appended s.log c.append_change.new.log _ (c.in_ok-place.ensures seen).longer))
    (ends_nothing c.args.txn c.args.op page v (patched c.args.change.now.edits.items v) t o (appended s.log) _ c.args.change.now.edits.items unfinished)

pub append_change-requires-clause-pool : goal.append_change-requires-clause-pool
append_change-requires-clause-pool g c = (steady g.D.Device c.args.self.now c.requires.open).frames

pub change_all-requires-clause-pool : goal.change_all-requires-clause-pool
change_all-requires-clause-pool g c = (steady g.D.Device c.args.self.now c.requires.open).frames

pub change_all-requires-clause-within : goal.change_all-requires-clause-within
change_all-requires-clause-within g c = let s = c.args.self.now in let r = c.requires in let page = c.args.change.now.page in let seen = g.D.Device.seen s.device in
    subst (λ (es : List Edit). All (λ (e : Edit). e.start + length e.bytes ≤ 4096) es) (sym c.deref.ensures.value)
    (edits_within (view s.pool seen page) c.args.change.now (view_whole s.pool seen page (steady g.D.Device s r.open).frames r.there) r.short)

pub returns-in_err-place-clause-ends_none : goal.returns-in_err-place-clause-ends_none
returns-in_err-place-clause-ends_none g c = let e = c.in_err-place.ensures [] in search rules

pub returns-in_err-place-clause-steps : goal.returns-in_err-place-clause-steps
returns-in_err-place-clause-steps g c = let e = c.in_err-place.ensures [] in search rules
