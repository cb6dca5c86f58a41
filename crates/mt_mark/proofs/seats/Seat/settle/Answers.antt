use Rattle.std.proofs.Common.{◌≡◌, ◌+◌, ◌<◌, ◌≤◌, ◌++◌, ◌∷◌, [], length, true, arith, sym, ap, ◌∙◌, subst, refl}
use mathlib.Core.List.{IsPrefix}
use Rattle.mt_mark.specs.Legal.{IsLegal}
use Rattle.mt_mark.specs.declared.view.View.{View}
use Rattle.mt_mark.specs.Rule.{LooksTo, IsConfirmed, CanEnter, dones, labelled, heard, pass_note, end_note}
use Rattle.mt_mark.proofs.Moves.{looks, names, enters, settles, checks, end_notes, pass_notes, hears, new_passes}
use Rattle.mt_mark.proofs.seats.Seat.settle.Goals as goal

pub load-requires : goal.load-requires
load-requires c =
    let i = c.self.invariant in
    let d = c.deref.ensures in
    let same = ap (λ t. t.shared.table_id) (sym d) in
    let v : c.self.inside.place.me.0 ≡ c.args.self.now.view = ap (λ h. h.view) c.self.view_is in
    (i.same ∙ same, (let n = ap (λ z. z.words) same in let m = i.words in omega arith), settles _ _ _ _ i.sees (subst (λ (x : View). IsPrefix x.list x.known) (sym v) c.requires.longer) (subst (λ (x : View). length x.known ≤ x.sure) (sym v) c.requires.sure))
