use Rattle.std.proofs.Common.{◌≡◌, sym, ap, ◌∙◌, subst}
use Rattle.mt_space.specs.Changes.{PageBytes, after, replaced, IsUntouched, AreShort}
use Rattle.mt_space.proofs.Changing.{replaced_same}
use Rattle.mt_index.proofs.OnePage.{turns}
use Rattle.mt_index.proofs.page_change.change_of.Goals as goal

pub returns-clause-turned : goal.returns-clause-turned
returns-clause-turned c pages is =
    let blank : after c.new-changes.result.list.items pages ≡ pages = ap (λ cs. after cs pages) c.new-changes.ensures in
    turns c.args.page c.args.new.now pages (after c.note.new.self.list.items pages)
    (c.in_ok-note.ensures.noted pages (ap (λ (f : PageBytes). f c.args.page) blank ∙ is) ∙ ap (replaced c.args.page c.args.new.now) blank)

pub returns-in_default-clause-turned : goal.returns-in_default-clause-turned
returns-in_default-clause-turned c pages is =
    let same : c.args.new.now ≡ c.args.old.now = rw c.in_default.is at c.requires.unchanged in
    let blank : after c.new-changes.result.list.items pages ≡ pages = ap (λ cs. after cs pages) c.new-changes.ensures in
    turns c.args.page c.args.new.now pages (after c.new-changes.result.list.items pages)
    (blank ∙ sym (replaced_same c.args.page c.args.new.now pages (is ∙ sym same)))

pub returns-clause-others : goal.returns-clause-others
returns-clause-others c p other = c.in_ok-note.ensures.others p other (subst (λ cs. IsUntouched cs p) (sym c.new-changes.ensures) tt)

pub returns-clause-short : goal.returns-clause-short
returns-clause-short c pages is = c.in_ok-note.ensures.short pages is (subst (λ cs. IsUntouched cs c.args.page) (sym c.new-changes.ensures) tt) (subst (λ cs. AreShort cs pages) (sym c.new-changes.ensures) tt)
