use Rattle.std.proofs.Common.{◌≡◌, ◌⊎◌, ◌∙◌, ◌<◌, ◌≤◌, ℕ, List, Option, None, false, length, get_or, ap, sym, subst, arith}
use Rattle.std.specs.Prelude.{slice_get}
use Rattle.mt_inverse.specs.Steps.{IsWithinSteps}
use Rattle.mt_model.specs.declared.operations.Op.{Op}
use Rattle.mt_space.specs.Changes.{PageBytes, after}
use Rattle.mt_steps.specs.Acts.{IfFull, IfLock, IfMade}
use Rattle.mt_overlay.specs.Overlays.{AreAtHand}
use Rattle.mt_steps.specs.Plans.{InPages, IsPlanned, IsTight, TakesPages, free_pages, own_needs, record_bytes}
use Rattle.mt_steps.specs.declared.act.Act.{Act}
use Rattle.mt_replay.specs.Memory.{AreFirst}
use Rattle.mt_replay.specs.Recorded.{undo_of}
use Rattle.mt_replay.specs.Undoing.{IsRoom}
use Rattle.mt_replay.proofs.Inverses.{all_there, inverse_is, missed_full, missed_reply, of_all, plan_good, steps_within, three_pages, undo_short, undoing_made}
use Rattle.mt_replay.proofs.undo_pass.Restored.plan_undo.Goals as goal

pub index-requires : goal.index-requires
index-requires c = let three = three_pages c.args.self.now.pages.items c.args.self.now.good in let is = c.from.ensures in omega (arith, three, is)

pub inverse-requires : goal.inverse-requires
inverse-requires c = subst IsWithinSteps (sym c.effect_of-effect.ensures.op) (steps_within c.args.done.now c.requires)

pub bytes_put-requires : goal.bytes_put-requires
bytes_put-requires c =
    let d = c.args.done.now in
    let is : c.in_ok-inverse.inverse ≡ undo_of d = inverse_is d _ _ c.in_ok-inverse.inverse c.effect_of-effect.ensures.op c.effect_of-effect.ensures.reply c.in_ok-inverse.ensures in
    subst (λ (op : Op). record_bytes op < 65536) (sym is) (let short = undo_short d c.requires in omega (arith, short))

pub plan-requires-clause-good : goal.plan-requires-clause-good
plan-requires-clause-good c =
    let items = c.args.self.now.pages.items in
    let d = c.args.done.now in
    let is : c.in_ok-inverse.inverse ≡ undo_of d = inverse_is d _ _ c.in_ok-inverse.inverse c.effect_of-effect.ensures.op c.effect_of-effect.ensures.reply c.in_ok-inverse.ensures in
    let room = c.room_for-room.result in
    let page = c.index.result.now in
    let roomy : (f : PageBytes) → AreFirst items f → IsRoom (length items) (record_bytes (undo_of d)) f room = λ f first. subst (λ (n : ℕ). IsRoom (length items) n f room) (c.bytes_put.ensures ∙ ap record_bytes is) (c.room_for-room.ensures f first) in
    let of = of_all items page c.sizes.result (c.index.ensures ∙ ap (λ (p : ℕ). get_or items p page) c.from.ensures) c.sizes.ensures.schema d (c.is_of.ensures.0 c.if-not-is_of.false) in
    plan_good items d c.args.self.now.good c.requires room roomy of c.in_ok-inverse.inverse is

pub returns-else-not-is_taken_back_by-clause-planned : goal.returns-else-not-is_taken_back_by-clause-planned
returns-else-not-is_taken_back_by-clause-planned c =
    let items = c.args.self.now.pages.items in
    let d = c.args.done.now in
    let is : c.in_ok-inverse.inverse ≡ undo_of d = inverse_is d _ _ c.in_ok-inverse.inverse c.effect_of-effect.ensures.op c.effect_of-effect.ensures.reply c.in_ok-inverse.ensures in
    let room = c.room_for-room.result in
    let page = c.index.result.now in
    let roomy : (f : PageBytes) → AreFirst items f → IsRoom (length items) (record_bytes (undo_of d)) f room = λ f first. subst (λ (n : ℕ). IsRoom (length items) n f room) (c.bytes_put.ensures ∙ ap record_bytes is) (c.room_for-room.ensures f first) in
    let of = of_all items page c.sizes.result (c.index.ensures ∙ ap (λ (p : ℕ). get_or items p page) c.from.ensures) c.sizes.ensures.schema d (c.is_of.ensures.0 c.if-not-is_of.false) in
    let hand : ℕ → Option (List ℕ) = λ p. slice_get items p in
    let op = c.in_ok-inverse.inverse in
    undoing_made items d c.args.self.now.good c.requires room roomy of op c.in-Made.changes.list.items c.in-Made.reply is (c.is_taken_back_by.ensures.0 c.if-not-is_taken_back_by.false ∙ c.effect_of-effect.ensures.back)
    (subst (λ (act : Act). IfMade act (λ changes reply. AreAtHand hand changes)) c.in-Made.is c.in_ok-act.ensures.there)
    (subst (λ (act : Act). IfMade act (λ changes reply. length changes ≤ 8)) c.in-Made.is c.in_ok-act.ensures.few)
    (λ relations counters few within. subst (λ (act : Act). IfMade act (λ changes reply. InPages hand room relations counters (length items) (λ pages. IsPlanned relations counters (length items) hand pages changes op false reply))) c.in-Made.is (c.in_ok-act.ensures.made relations counters few within))
    (λ relations counters few within. subst (λ (act : Act). IfMade act (λ changes reply. InPages hand room relations counters (length items) (λ pages. TakesPages room op pages (after changes pages)))) c.in-Made.is (c.in_ok-act.ensures.takes relations counters few within))

pub returns-then-not-is_taken_back_by-clause-planned : goal.returns-then-not-is_taken_back_by-clause-planned
returns-then-not-is_taken_back_by-clause-planned c =
    let items = c.args.self.now.pages.items in
    let d = c.args.done.now in
    let is : c.in_ok-inverse.inverse ≡ undo_of d = inverse_is d _ _ c.in_ok-inverse.inverse c.effect_of-effect.ensures.op c.effect_of-effect.ensures.reply c.in_ok-inverse.ensures in
    let room = c.room_for-room.result in
    let page = c.index.result.now in
    let roomy : (f : PageBytes) → AreFirst items f → IsRoom (length items) (record_bytes (undo_of d)) f room = λ f first. subst (λ (n : ℕ). IsRoom (length items) n f room) (c.bytes_put.ensures ∙ ap record_bytes is) (c.room_for-room.ensures f first) in
    let of = of_all items page c.sizes.result (c.index.ensures ∙ ap (λ (p : ℕ). get_or items p page) c.from.ensures) c.sizes.ensures.schema d (c.is_of.ensures.0 c.if-not-is_of.false) in
    let hand : ℕ → Option (List ℕ) = λ p. slice_get items p in
    let op = c.in_ok-inverse.inverse in
    missed_reply items d c.args.self.now.good c.requires room roomy of op c.in-Made.changes.list.items c.in-Made.reply is
    (λ same. let yes = c.is_taken_back_by.ensures.1 (same ∙ sym c.effect_of-effect.ensures.back) in let never = c.if-not-is_taken_back_by.true in cc)
    (λ relations counters few within. subst (λ (act : Act). IfMade act (λ changes reply. InPages hand room relations counters (length items) (λ pages. IsPlanned relations counters (length items) hand pages changes op false reply))) c.in-Made.is (c.in_ok-act.ensures.made relations counters few within))

pub returns-in-Full-clause-planned : goal.returns-in-Full-clause-planned
returns-in-Full-clause-planned c =
    let items = c.args.self.now.pages.items in
    let d = c.args.done.now in
    let is : c.in_ok-inverse.inverse ≡ undo_of d = inverse_is d _ _ c.in_ok-inverse.inverse c.effect_of-effect.ensures.op c.effect_of-effect.ensures.reply c.in_ok-inverse.ensures in
    let room = c.room_for-room.result in
    let page = c.index.result.now in
    let roomy : (f : PageBytes) → AreFirst items f → IsRoom (length items) (record_bytes (undo_of d)) f room = λ f first. subst (λ (n : ℕ). IsRoom (length items) n f room) (c.bytes_put.ensures ∙ ap record_bytes is) (c.room_for-room.ensures f first) in
    let of = of_all items page c.sizes.result (c.index.ensures ∙ ap (λ (p : ℕ). get_or items p page) c.from.ensures) c.sizes.ensures.schema d (c.is_of.ensures.0 c.if-not-is_of.false) in
    let hand : ℕ → Option (List ℕ) = λ p. slice_get items p in
    let op = c.in_ok-inverse.inverse in
    missed_full items d c.args.self.now.good c.requires room roomy of op is
    (λ relations counters few within. subst (λ (act : Act). IfFull act (InPages hand room relations counters (length items) (λ pages. (free_pages (length items) pages < own_needs op false) ⊎ IsTight room pages (record_bytes op)))) c.in-Full.is (c.in_ok-act.ensures.full relations counters few within))

pub unreachable-requires : goal.unreachable-requires
unreachable-requires c = all_there c.args.self.now.pages.items c.in-Lock.field-0 (subst (λ (act : Act). IfLock act (λ p mode. (slice_get c.args.self.now.pages.items p ≡ None) × (p < length c.args.self.now.pages.items))) c.in-Lock.is c.in_ok-act.ensures.lock)
