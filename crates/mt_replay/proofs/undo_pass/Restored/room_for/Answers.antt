use Rattle.std.proofs.Common.{◌∙◌, ℕ, get_or, ap, arith}
use Rattle.mt_replay.proofs.Inverses.{shaped_in}
use Rattle.mt_replay.proofs.undo_pass.Restored.room_for.Goals as goal

pub fits-requires : goal.fits-requires
fits-requires c =
    let items = c.args.self.now.pages.items in
    let map = c.index.result.now in
    shaped_in items map c.index-then-index-number-eq-RECORDS.result.now c.loop-number.number c.args.self.now.good (let long = c.len-number-end.ensures in let below = c.loop-number-test.true in omega arith)
    (c.index.ensures ∙ ap (λ (p : ℕ). get_or items p map) c.from.ensures) c.index-then-index-number-eq-RECORDS.ensures c.if-index-number-eq-RECORDS.true
