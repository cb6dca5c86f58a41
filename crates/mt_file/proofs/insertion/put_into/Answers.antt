use mathlib.Core.Logic.{∥∥₁_map}
use Rattle.std.proofs.Common.{rules, refl, inr}
use Rattle.mt_space.proofs.Changing.{off_hand}
use Rattle.mt_file.proofs.Planned.{named_seen, named_shaped, named_full, named_adds, named_roomy, untouched_seen}
use Rattle.mt_space.specs.Changes.{after}
use Rattle.mt_file.proofs.Shaped.{shaped_of}
use Rattle.mt_file.proofs.insertion.put_into.Goals as goal

pub insert-requires-clause-shaped : goal.insert-requires-clause-shaped
insert-requires-clause-shaped g c = shaped_of c.in-Some.old.now (∥∥₁_map c.requires.ready (λ ready.
    named_shaped (g.V.Pages.at_hand c.args.views.now) ready.0 c.args.page c.in-Some.old.now ready.1 c.in-Some.ensures.some))

pub returns-in_default-insert : goal.returns-in_default-insert
returns-in_default-insert g c = record {
  put = λ pages ready.
      named_full (g.V.Pages.at_hand c.args.views.now) (after c.args.changes.list.items pages) c.args.page c.in-Some.old.now
      (record { relation = c.args.relation; key = c.args.key.now; value = c.args.value.now }) ready c.in-Some.ensures.some c.in_default-insert.ensures.full;
  short = search rules;
  few = search rules;
  seen = search rules;
  there = search rules;
}

pub returns : goal.returns
returns g c = record {
  put = λ pages ready.
      let at_hand = g.V.Pages.at_hand c.args.views.now in
      let before = after c.args.changes.list.items pages in
      let seen = named_seen at_hand before c.args.page c.in-Some.old.now ready c.in-Some.ensures.some in (
        named_adds at_hand before (after c.note.new.self.list.items pages) c.args.page c.in-Some-insert.insertion.slot c.in-Some.old.now c.insert.new.page
            (record { relation = c.args.relation; key = c.args.key.now; value = c.args.value.now }) ready c.in-Some.ensures.some c.insert.ensures.shaped c.in-Some-insert.ensures.done
            (c.in_ok-note.ensures.noted pages seen),
        refl,
        named_roomy at_hand before c.args.page c.in-Some-insert.insertion.slot c.in-Some.old.now c.insert.new.page
            (record { relation = c.args.relation; key = c.args.key.now; value = c.args.value.now }) ready c.in-Some.ensures.some c.insert.ensures.shaped c.in-Some-insert.ensures.done,
      );
  short = λ pages ready apart.
      let at_hand = g.V.Pages.at_hand c.args.views.now in
      let before = after c.args.changes.list.items pages in
      let seen = named_seen at_hand before c.args.page c.in-Some.old.now ready c.in-Some.ensures.some in
      let none = apart.apart c.args.page (inr refl) in
      c.in_ok-note.ensures.short pages (untouched_seen c.args.changes.list.items pages c.args.page c.in-Some.old.now none seen) none apart.short;
  few = search rules;
  seen = search rules;
  there = λ p none before.
      c.in_ok-note.ensures.others p (off_hand (g.V.Pages.at_hand c.args.views.now) p c.args.page c.in-Some.old.now none c.in-Some.ensures.some) before;
}
