use Rattle.std.proofs.Common.{rules, ◌≡◌, ◌∙◌, [], refl, ap, subst, sym}
use Rattle.std.proofs.lemmas.List.{append-nil}
use Rattle.mt_mark.specs.Rule.{dones, labelled}
use Rattle.mt_mark.proofs.Fronts.{dones-labelled}
use Rattle.mt_model.specs.declared.tables.Base.{Base}
use Rattle.mt_locked.specs.Began.{BeganOn}
use Rattle.mt_shared.specs.Opens.{OpenedSeen}
use Rattle.mt_txn.specs.Shown.{kernel_frames}
use Rattle.mt_txn.specs.declared.kernel.Kernel.{Kernel}
use Rattle.mt_shared.proofs.opened.Opened.named.Goals as goal

pub returns-in_default-clause-began : goal.returns-in_default-clause-began
returns-in_default-clause-began g c = let D = g.D.Device in
    subst (λ (x : OpenedSeen _). BeganOn x.base c.self.inside.kernel) c.self.view_is c.self.invariant.0

pub over-requires-clause-name : goal.over-requires-clause-name
over-requires-clause-name g c = let i = c.self.invariant in
    let mark = ap (λ (x : OpenedSeen _). x.mark) c.self.view_is ∙ c.requires.name.0 in
    let base = ap (λ (x : OpenedSeen _). x.base) c.self.view_is ∙ c.requires.name.1 in
    let book = ap (λ (x : OpenedSeen _). x.book) c.self.view_is ∙ c.requires.name.2 in
    (mark, base, i.3 ∙ book)

pub over-requires-clause-began : goal.over-requires-clause-began
over-requires-clause-began g c = let D = g.D.Device in
    let base = ap (λ (x : OpenedSeen _). x.base) c.self.view_is ∙ c.requires.name.1 in
    subst (λ (b : Base). BeganOn b c.self.inside.kernel) base c.self.invariant.0

pub over-requires-clause-confirmed : goal.over-requires-clause-confirmed
over-requires-clause-confirmed g c = c.self.invariant.1

pub over-requires-clause-front : goal.over-requires-clause-front
over-requires-clause-front g c = let i = c.self.invariant in ([], append-nil _ ∙ (ap dones i.2 ∙ (dones-labelled _ ∙ i.3)))

pub returns-clause-opened : goal.returns-clause-opened
returns-clause-opened g c = let D = g.D.Device in let k = c.self.inside.kernel in
    ∣ subst (λ (x : OpenedSeen _). (k : Kernel _ D) × (kernel_frames k ≡ x.frames) × BeganOn x.base k) c.self.view_is (k, refl, c.self.invariant.0) ∣₁

pub returns-clause-passes : goal.returns-clause-passes
returns-clause-passes g c = λ k d h. ap dones (c.in-Ok.ensures.each k d h).seen ∙ (dones-labelled _ ∙ sym c.requires.name.2)

pub passes_of-requires-clause-list : goal.passes_of-requires-clause-list
passes_of-requires-clause-list g c = let i = c.self.invariant in
    i.2 ∙ ap labelled (i.3 ∙ (ap (λ (x : OpenedSeen _). x.book) c.self.view_is ∙ c.requires.name.2))

pub returns-in_default-clause-same : goal.returns-in_default-clause-same
returns-in_default-clause-same g c = search rules
