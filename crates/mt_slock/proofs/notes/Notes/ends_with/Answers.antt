use Rattle.std.proofs.Common.{◌≡◌, ◌==◌, ℕ, [], ap, sym, ◌∙◌, subst}
use Rattle.std.specs.Map.{lookup}
use Rattle.std.specs.Option.{option_copied}
use Rattle.mt_slock.specs.Noted.{or_none, notes_of, EndsWith}
use Rattle.mt_slock.proofs.Noting.{none_ends}
use Rattle.mt_slock.proofs.notes.Notes.ends_with.Goals as goal

pub returns-in-Some : goal.returns-in-Some
returns-in-Some c =
    let t : ℕ = c.args.txn in
    let found : notes_of c.args.self.now t ≡ c.in-Some.locks.now =
    ap or_none (ap (lookup (λ u. t == u)) (sym c.self.view_is) ∙ (sym c.get.ensures.value ∙ ap option_copied c.in-Some.is)) in (
      λ e. subst (λ ls. EndsWith ls c.args.object.now c.args.mode) (sym found) (c.ends_with.ensures.0 e),
      λ ends. c.ends_with.ensures.1 (subst (λ ls. EndsWith ls c.args.object.now c.args.mode) found ends),
    )

pub returns-in-None : goal.returns-in-None
returns-in-None c =
    let t : ℕ = c.args.txn in
    let nothing : notes_of c.args.self.now t ≡ [] =
    ap or_none (ap (lookup (λ u. t == u)) (sym c.self.view_is) ∙ (sym c.get.ensures.value ∙ ap option_copied c.in-None.is)) in
    (λ e. absurd cc, λ ends. absurd (none_ends c.args.object.now c.args.mode (subst (λ ls. EndsWith ls c.args.object.now c.args.mode) nothing ends)))
