use Rattle.std.proofs.Common.{◌∙◌, ap, subst, sym, map, length, refl}
use Rattle.mt_live.specs.Entries.{kept}
use Rattle.mt_live.specs.Lives.{Lives, IsFirst, entry_by, calls_of}
use Rattle.mt_live.specs.Undoing.{only}
use Rattle.mt_live.proofs.Ends.{standing_own}
use Rattle.mt_live.proofs.Wells.{its_calls}
use Rattle.mt_live.proofs.live.Live.ended.Goals as goal

pub returns-clause-entries : goal.returns-clause-entries
returns-clause-entries c =
    let ms = c.self.inside.transactions.items in
    let os = c.self.inside.order.items in
    let t = c.args.txn in
    let i = c.place_in-place.result in
    let first : IsFirst ms t i = subst (λ xs. IsFirst xs t i) c.deref.ensures.value c.place_in-place.ensures in
    ap (λ (l : Lives). kept (only t) l.standing) (sym c.self.view_is)
    ∙ (standing_own (calls_of ms) t os 0 (length (calls_of ms t)) (calls_of ms t) (c.self.invariant.placed t) refl refl
    ∙ ap (map (entry_by t)) (its_calls ms t i c.index.result.now first c.index.ensures ∙ sym c.ended.ensures.calls))
