use Rattle.std.proofs.Common.{◌≢◌, ◌∙◌, sym, ap, ℕ, Some, arith}
use Rattle.mt_slots.specs.Page.{size, row_at, slot}
use Rattle.mt_slots.proofs.Pages.{row_inside, slot_live, slot_empty, slot_past}
use Rattle.mt_slots.proofs.contents.get.Goals as goal

pub returns-then-i-slot_count-clause-none : goal.returns-then-i-slot_count-clause-none
returns-then-i-slot_count-clause-none c = slot_past c.args.page.now c.args.slot (omega arith)

pub returns-then-size_of-eq0-clause-none : goal.returns-then-size_of-eq0-clause-none
returns-then-size_of-eq0-clause-none c = rw (← c.from-i.ensures) (slot_empty c.args.page.now c.from-i.result (omega arith))

pub view_at-requires : goal.view_at-requires
view_at-requires c =
    let live : size c.args.page.now c.from-i.result ≢ 0 = λ e. absurd (omega arith) in
    rw c.offset_of.ensures.is (row_inside c.args.page.now c.from-i.result c.requires.shaped (omega arith) live)

pub returns-clause-found : goal.returns-clause-found
returns-clause-found c =
    let live : size c.args.page.now c.from-i.result ≢ 0 = λ e. absurd (omega arith) in
    ap (slot c.args.page.now) (sym c.from-i.ensures) ∙ slot_live c.args.page.now c.from-i.result (omega arith) live ∙ ap (λ (at : ℕ). Some (row_at c.args.page.now at)) (sym c.offset_of.ensures.is) ∙ ap Some c.view_at.ensures
