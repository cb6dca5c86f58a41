use Rattle.std.proofs.Common.{◌≡◌, ◌<◌, ◌≤◌, ℕ, Option, ◌∙◌, length, get_or, arith, List, Some, None, ap, subst, sym, take, ◌+◌}
use Rattle.std.proofs.lemmas.List.{take_all}
use Rattle.mt_space.specs.declared.changes.PageChange.{PageChange}
use Rattle.mt_space.specs.declared.changes.Changes.{Changes}
use Rattle.mt_overlay.specs.declared.overlay.PageCopy.{PageCopy}
use Rattle.mt_overlay.specs.Overlays.{ComeTo}
use Rattle.mt_overlay.proofs.Overlaid.{all_at_hand, IsNoted, come_more, below_there, some_value, none_shown}
use Rattle.mt_overlay.proofs.overlay.Overlay.changes.Goals as goal
use Rattle.mt_overlay.proofs.overlay.Overlay.changes.Goals.{in-Some+in_ok-note, in_default}

-- what all copies come to, once each was looked at
whole : (below : ℕ → Option (List ℕ)) (copies : List PageCopy) (changes : List PageChange) (n : ℕ) → length copies ≤ n → ComeTo below (take n copies) changes → ComeTo below copies changes
whole below copies changes n all come = subst (λ (l : List PageCopy). ComeTo below l changes) (take_all n copies all) come

pub loop-copy-preserved : goal.loop-copy-preserved
loop-copy-preserved g c =
    let below = g.V.Pages.at_hand c.args.self.now.views.now in
    let copies = c.args.self.now.copies.items in
    let i = c.loop-copy.copy-index in
    let x = c.copy-item.result in
    let was = c.loop-copy.changes.list.items in
    let value : c.deref-copy-items.result.now ≡ copies = c.deref-copy-items.ensures.value in
    let lt : i < length copies = subst (λ (l : List PageCopy). i < length l) value c.loop-copy-test.true in
    let is : x ≡ get_or copies i x = c.copy-item.is ∙ ap (λ (l : List PageCopy). get_or l i x) value in
    elim c.match-page.branch [
      | in-Some+in_ok-note w ↦
          let e = w.in_ok-note.ensures in
          let note : IsNoted x.page w.in-Some.old.now x.bytes was w.note.new.self.list.items = record {
            noted = e.noted;
            short = e.short;
            others = e.others;
            same = λ same. ap (λ (all : Changes). all.list.items) (e.same same);
            count = e.count;
          } in
          subst (λ (all : Changes). ComeTo below (take (i + 1) copies) all.list.items) (sym w.changes-is)
          (come_more below copies i x w.in-Some.old.now was w.note.new.self.list.items lt is c.requires.copies w.in-Some.ensures.some note c.loop-copy.invariant)
      | in_default w ↦
          let none : below x.page ≡ None = w.in_default.ensures.none in
          let some = some_value (below x.page) (below_there below copies i x lt is c.requires.copies) in
          let both : Some some.0 ≡ None = sym some.1 ∙ none in
          absurd (cc)
    ]

pub returns-clause-made : goal.returns-clause-made
returns-clause-made g c = let long = ap length c.deref-copy-items.ensures.value in
    whole (g.V.Pages.at_hand c.args.self.now.views.now) c.args.self.now.copies.items c.loop-copy.changes.list.items c.loop-copy.copy-index (omega (arith, long)) c.loop-copy.invariant

pub returns-clause-there : goal.returns-clause-there
returns-clause-there g c =
    let below = g.V.Pages.at_hand c.args.self.now.views.now in let copies = c.args.self.now.copies.items in
    let long = ap length c.deref-copy-items.ensures.value in
    all_at_hand below c.loop-copy.changes.list.items
    (λ p none. (whole below copies c.loop-copy.changes.list.items c.loop-copy.copy-index (omega (arith, long)) c.loop-copy.invariant).same p (none_shown below copies p c.requires.copies none))
