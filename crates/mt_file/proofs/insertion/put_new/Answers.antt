use Rattle.std.proofs.Common.{rules, ◌≡◌, ℕ, None, Some, inl, sym, ap, subst, ◌∙◌}
use Rattle.mt_space.proofs.Changing.{off_hand}
use Rattle.mt_space.specs.Changes.{after, replaced, IsUntouched}
use Rattle.mt_space.specs.Rooms.{mapped, IsFirstFree}
use Rattle.mt_file.proofs.Planned.{map_seen, map_kind, first_seen, new_adds, new_seen, no_records, untouched_seen}
use Rattle.mt_file.proofs.insertion.put_new.Goals as goal

pub note-requires-clause-touched : goal.note-requires-clause-touched
note-requires-clause-touched g c =
    c.kind_byte.ensures c.in-Some.map.now c.with_kind-new_map.result (search rules) c.with_kind-new_map.ensures.whole c.with_kind-new_map.ensures.others

pub returns : goal.returns
returns g c = record {
  put = λ pages ready.
      let at_hand = g.V.Pages.at_hand c.args.views.now in
      let total = g.V.Pages.total c.args.views.now in
      let map = c.in-Some.map.now in
      let page = c.in-Some-first_free.page in
      let new_map = c.with_kind-new_map.result in
      let before = after c.args.changes.list.items pages in
      let mid = after c.note.new.self.list.items pages in
      let zero : c.new-map_page.result ≡ 0 = c.new-map_page.ensures in
      let there : at_hand 0 ≡ Some map = sym (ap at_hand zero) ∙ c.in-Some.ensures.some in
      let counted : c.count.result ≡ total = c.count.ensures in
      let first : IsFirstFree (mapped map total) page = subst (λ (n : ℕ). IsFirstFree (mapped map n) page) counted c.in-Some-first_free.ensures.first in
      let seen = map_seen at_hand None before map ready there in
      let one : mid ≡ replaced 0 new_map before = c.in_ok-note.ensures.noted pages (ap before zero ∙ seen) ∙ ap (λ (k : ℕ). replaced k new_map before) zero in
      let here = new_seen at_hand before mid total page map new_map c.in-Some-page.old.now ready there first c.in-Some-page.ensures.some one in
      let two = c.in_ok-note-2.ensures.noted pages here.2 ∙ ap (replaced page c.page_of_one-slot.result.0) one in (
        new_adds at_hand before (after c.note-2.new.self.list.items pages) total page c.page_of_one-slot.result.1 map new_map c.page_of_one-slot.result.0
            (record { relation = c.args.relation; key = c.args.key.now; value = c.args.value.now }) ready there first
            c.with_kind-new_map.ensures.whole c.with_kind-new_map.ensures.here c.with_kind-new_map.ensures.others
            c.page_of_one-slot.ensures.shaped c.page_of_one-slot.ensures.one c.page_of_one-slot.ensures.alone two,
        first_seen before total page map seen first,
        tt,
      );
  short = λ pages ready apart.
      let at_hand = g.V.Pages.at_hand c.args.views.now in
      let total = g.V.Pages.total c.args.views.now in
      let map = c.in-Some.map.now in
      let page = c.in-Some-first_free.page in
      let new_map = c.with_kind-new_map.result in
      let list = c.args.changes.list.items in
      let before = after list pages in
      let mid = after c.note.new.self.list.items pages in
      let zero : c.new-map_page.result ≡ 0 = c.new-map_page.ensures in
      let there : at_hand 0 ≡ Some map = sym (ap at_hand zero) ∙ c.in-Some.ensures.some in
      let counted : c.count.result ≡ total = c.count.ensures in
      let first : IsFirstFree (mapped map total) page = subst (λ (n : ℕ). IsFirstFree (mapped map n) page) counted c.in-Some-first_free.ensures.first in
      let seen = map_seen at_hand None before map ready there in
      let one : mid ≡ replaced 0 new_map before = c.in_ok-note.ensures.noted pages (ap before zero ∙ seen) ∙ ap (λ (k : ℕ). replaced k new_map before) zero in
      let here = new_seen at_hand before mid total page map new_map c.in-Some-page.old.now ready there first c.in-Some-page.ensures.some one in
      let no_map : IsUntouched list 0 = apart.apart 0 (inl (map_kind at_hand None before ready)) in
      let none : IsUntouched list page = apart.apart page (inl (no_records at_hand before total page map ready there first)) in
      let map_was = untouched_seen list pages 0 map no_map seen in
      let short = c.in_ok-note.ensures.short pages (ap pages zero ∙ map_was) (subst (IsUntouched list) (sym zero) no_map) apart.short in
      let still = c.in_ok-note.ensures.others page (λ e. here.0 (e ∙ zero)) none in
      c.in_ok-note-2.ensures.short pages (untouched_seen list pages page c.in-Some-page.old.now none here.1) still short;
  few = search rules;
  seen = search rules;
  there = λ p none before.
      let at_hand = g.V.Pages.at_hand c.args.views.now in
      c.in_ok-note-2.ensures.others p (off_hand at_hand p c.in-Some-first_free.page c.in-Some-page.old.now none c.in-Some-page.ensures.some)
      (c.in_ok-note.ensures.others p (off_hand at_hand p c.new-map_page.result c.in-Some.map.now none c.in-Some.ensures.some) before);
}
