use Rattle.std.proofs.Common.{◌≡◌, length, All, subst, ap, sym, ◌∙◌, List, [], ◌∷◌, ◌++◌, append_assoc, arith, refl}
use Rattle.std.proofs.lemmas.List.Elements.{All-append, All-push}
use Rattle.mt_mark.specs.Rule.{Holds}
use Rattle.mt_mark.specs.declared.view.Entry.{Entry}
use Rattle.mt_locked.specs.Seen.{PassSeen}
use Rattle.mt_locked.proofs.returned_passes.meet_all.Goals as goal

nil : {X : Type 0} (xs : List X) → length xs ≡ 0 → xs ≡ []
nil [] e = refl
nil (x ∷ xs) e = absurd (omega arith)

first : {X : Type 0} (P : X → Type 0) (x : X) (xs : List X) → P x → All P xs → All P (x ∷ xs)
first P x xs p ps = All-append P (x ∷ []) xs (All-push P [] x (λ k d h. absurd (omega arith)) p) ps

pub passes-preserved-in-Some : goal.passes-preserved-in-Some
passes-preserved-in-Some g c =
    let i = c.passes.invariant in
    let m = c.meet.ensures in
    let e = c.in-Some.ensures in
    let list = c.args.end.view.list in
    let P : PassSeen → Type 0 = λ p. Holds p.number p.seen list in
    let done = i.0.0 in
    let own : P c.in-Some.pass = subst (λ (l : List Entry). Holds c.in-Some.pass.number c.in-Some.pass.seen l) i.2 m.own in (
      (
        c.in-Some.pass ∷ done,
        sym (append_assoc c.pop.new.self.items (c.in-Some.pass ∷ []) done) ∙ (ap (λ l. l ++ done) (sym e.items) ∙ i.0.1),
        first P c.in-Some.pass done own i.0.2,
      ),
      m.mark ∙ i.1,
      m.list ∙ i.2,
      m.confirmed,
    )

pub returns : goal.returns
returns g c =
    let i = c.passes.invariant in
    let n = c.passes-test.false in
    let P : PassSeen → Type 0 = λ p. Holds p.number p.seen c.args.end.view.list in
    let none : c.passes.passes.items ≡ [] = nil c.passes.passes.items (let l = c.len.ensures in omega arith) in
    let all : i.0.0 ≡ c.args.passes.items = ap (λ l. l ++ i.0.0) (sym none) ∙ i.0.1 in
    subst (All P) all i.0.2
