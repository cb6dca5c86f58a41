use Rattle.std.proofs.Common.{◌≡◌, ◌∷◌, ◌∙◌, [], cond, Bool, ℕ, get_or, length, set, refl, sym, ap, subst}
use Rattle.std.specs.BTreeSet.{contains}
use Rattle.std.specs.Ordering.{nat_cmp}
use Rattle.std.proofs.lemmas.Bool.{ne_eqb}
use Rattle.mt_base.specs.Edits.{splice}
use Rattle.mt_frame.specs.Grammar.{txn_of}
use Rattle.mt_log.specs.Holds.{HasItsPage}
use Rattle.mt_steps.specs.Repeated.{Change}
use Rattle.mt_replay.specs.Passes.{change_by, ends_it}
use Rattle.mt_replay.specs.declared.repeat.TakingBack.{TakingBack}
use Rattle.mt_replay.proofs.Leaving.{backs_over, backs_change}
use Rattle.mt_replay.proofs.repeat.TakingBack.pass_one.Goals as goal

pub returns-else-contains : goal.returns-else-contains
returns-else-contains c =
    let old : TakingBack = c.args.self.now in
    let p = c.in-Page-2 in
    let change : Change = record { op = p.op; page = p.page; start = p.start; old = p.old; new = p.new } in
    let own : change_by c.args.entry.now ≡ change ∷ [] = ap change_by p.is ∙ ap (λ (b : Bool). cond b [] (change ∷ [])) (ne_eqb p.txn 0 (λ e. c.if-get-eq0.false (c.get.ensures ∙ sym (ap txn_of c.in-Page.is) ∙ ap txn_of c.in-Page-2.is ∙ e))) in
    let there : contains nat_cmp old.«open» p.op ≡ c.contains.result = ap (λ (n : ℕ). contains nat_cmp old.«open» n) (sym c.get-in-Page-2.ensures) ∙ sym c.contains.ensures in
    backs_over c.args.entry.now change old c.requires.whole own (λ o. ap (ends_it o) p.is) (there ∙ c.if-contains.false)

pub returns-then-contains : goal.returns-then-contains
returns-then-contains c =
    let old : TakingBack = c.args.self.now in
    let new : TakingBack = record { pages = c.put.new.pages; «open» = old.«open» } in
    let p = c.in-Page-2 in
    let change : Change = record { op = p.op; page = p.page; start = p.start; old = p.old; new = p.new } in
    let own : change_by c.args.entry.now ≡ change ∷ [] = ap change_by p.is ∙ ap (λ (b : Bool). cond b [] (change ∷ [])) (ne_eqb p.txn 0 (λ e. c.if-get-eq0.false (c.get.ensures ∙ sym (ap txn_of c.in-Page.is) ∙ ap txn_of c.in-Page-2.is ∙ e))) in
    let there : contains nat_cmp old.«open» p.op ≡ c.contains.result = ap (λ (n : ℕ). contains nat_cmp old.«open» n) (sym c.get-in-Page-2.ensures) ∙ sym c.contains.ensures in
    let is : new.pages.items ≡ set old.pages.items p.page (splice p.start p.old (get_or old.pages.items p.page [])) =
    c.put.ensures.is ∙ (λ i. set old.pages.items p.page (splice p.start (c.as_slice.ensures i) (get_or old.pages.items p.page []))) in
    backs_change c.args.entry.now change old new own (λ o. ap (ends_it o) p.is) (there ∙ c.if-contains.true) (subst (HasItsPage (length old.pages.items)) p.is c.requires.inside) c.put.ensures.whole is c.put.ensures.count refl
