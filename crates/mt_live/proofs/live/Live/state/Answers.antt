use Rattle.std.proofs.Common.{◌≡◌, ◌∙◌, ◌==◌, ap, sym, Some, None}
use Rattle.std.specs.List.{position}
use Rattle.std.specs.Option.{option_map}
use Rattle.mt_live.specs.Lives.{Lives, member_of}
use Rattle.mt_live.specs.Members.{Member}
use Rattle.mt_live.proofs.Wells.{is_there, first_from, found_or_none}
use Rattle.mt_live.proofs.live.Live.state.Goals as goal

pub returns-in_err-place : goal.returns-in_err-place
returns-in_err-place c =
    let none : member_of c.deref.result.now c.args.txn ≡ None = found_or_none c.deref.result.now c.args.txn None (sym c.in_err-place.was ∙ c.place_of.ensures) in
    c.from_residual.ensures ∙ (sym (ap (option_map (λ (m : Member). m.state)) none)
    ∙ (ap (λ xs. option_map (λ (m : Member). m.state) (member_of xs c.args.txn)) c.deref.ensures.value
    ∙ ap (λ (l : Lives). option_map (λ (m : Member). m.state) (member_of l.members c.args.txn)) c.self.view_is))

pub returns : goal.returns
returns c =
    let ms = c.self.inside.transactions.items in
    let first = first_from ms c.args.txn c.in_ok-place.place (ap (λ xs. position (λ (m : Member). m.number == c.args.txn) xs) (sym c.deref.ensures.value) ∙ (sym c.place_of.ensures ∙ c.in_ok-place.was)) in
    let found = is_there ms c.args.txn c.in_ok-place.place c.index.result.now first c.index.ensures in
    ap Some c.state.ensures ∙ (sym (ap (option_map (λ (m : Member). m.state)) found)
    ∙ ap (λ (l : Lives). option_map (λ (m : Member). m.state) (member_of l.members c.args.txn)) c.self.view_is)
