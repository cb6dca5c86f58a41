use Rattle.std.proofs.Common.{rules, [], ◌∷◌, inl, inr, ℕ, List, Ok, OnOk, drop, sym, subst, arith}
use Rattle.mt_disk.specs.declared.device.DeviceFault.{DeviceFault}
use Rattle.mt_disk.specs.Disk.{Wrote}
use Rattle.mt_disk.proofs.Frame.{has_torn, leaves_more, one_of, runs_both}
use Rattle.mt_frame.specs.SlotText.{slot_text}
use Rattle.mt_frame.specs.declared.slots.MasterSlot.{MasterSlot}
use Rattle.mt_log.specs.Area.{TornFrom}
use Rattle.mt_log.specs.Lasting.{GateComesLast, WritesDurably}
use Rattle.mt_log.proofs.Calls.{on_ok}
use Rattle.mt_format.proofs.Formed.{pages_kept}
use Rattle.mt_format.proofs.Shut.{opened, opens_follow, shut_follows}
use Rattle.mt_format.specs.Formats.{IsFormattedAs, IsReady, IsShut, FormatBegins, empty_area, first_slot}
use Rattle.mt_format.specs.Schemas.{pages_end}
use Rattle.mt_format.proofs.format_calls.write_all.Goals as goal
use Rattle.mt_format.proofs.format_calls.write_all.Goals.{After-write_master}

-- no slot is open once the content is there
shut : (g : _) (c : After-write_master g) (k : List ℕ) → g.D.Device.may_leave c.write_content.new.device k → IsShut k
shut g c =
    let may = g.D.Device.may_leave in
    shut_follows 8192 _ (may c.close_slots.new.device) (may c.write_content.new.device) (omega arith) (inr (omega arith)) c.write_content.ensures.tears.later c.in_ok-close_slots.ensures.shut

-- all is there but the open gate
ready : (g : _) (c : After-write_master g) (last : g.row.D.Denot) (r : Unit {0}) → WritesDurably g.D.Device {F = DeviceFault} 1 (drop 1 (slot_text (first_slot c.args.schema.now))) c.write_content.new.device last (Ok r) → IsReady c.args.schema.now (g.D.Device.seen last)
ready g c last r slot =
    let seen = g.D.Device.seen in
    let may = g.D.Device.may_leave in
    let s = c.args.schema.now in
    let mid = c.write_content.new.device in
    let content = c.in_ok-write_content.ensures in
    let size = slot.rest.size in
    let size2 = c.write_content.ensures.tears.now.size in
    let size3 = c.close_slots.ensures.tears.now.size in
    record {
      long = let long = c.requires in omega (arith, long, size, size2, size3);
      shut = shut_follows 1 16 (may mid) (may last) (omega arith) (inl (omega arith)) slot.elsewhere (shut g c) (seen last) (g.met.D.Device.present last);
      slot = slot.written.has;
      pages = pages_kept s 1 16 (seen mid) (seen last) slot.rest (inr (omega arith)) content.pages;
      area = has_torn 1 16 (pages_end s) empty_area (seen mid) (seen last) content.area slot.rest (inr (omega arith));
    }

pub returns : goal.returns
returns g c =
    let D = g.D.Device in
    let m = D.moment in
    let l = D.left_since in
    let may = D.may_leave in
    let seen = D.seen in
    let s = c.args.schema.now in
    let old = c.args.device.now in
    let first = c.close_slots.new.device in
    let mid = c.write_content.new.device in
    let new = c.write_master.new.device in
    let after = (goal.at.returns g c).After-write_master in
    let steps = subst (λ (x : MasterSlot). GateComesLast D 0 x mid new c.write_master.result) c.first_slot_of.ensures c.write_master.ensures.steps in
    let P = FormatBegins s (may old) in
    record {
      formatted = elim steps [
        | inl x ↦ subst (λ r. OnOk r (IsFormattedAs s (seen new))) (sym x.1) tt
        | inr x ↦ on_ok c.write_master.result (λ (w : Wrote 0 (165 ∷ []) (seen x.0) (seen new)). opened s (seen x.0) (seen new) (ready g after x.0 x.1 x.2) w.rest (one_of (seen new) 0 165 w.has)) x.3.written
      ];
      durable = c.write_master.ensures.durable;
      moments = runs_both m l old mid new P
          (runs_both m l old first mid P (leaves_more m l old first _ P c.close_slots.ensures.moments (λ k torn. inl torn)) (leaves_more m l first mid _ P c.write_content.ensures.moments (λ k none. inr (inl none))))
          (elim steps [
            | inl x ↦ leaves_more m l mid new _ P x.2.moments (λ k torn. inr (inl (shut_follows 1 16 (may mid) (TornFrom (may mid) 1 16) (omega arith) (inl (omega arith)) (λ y from. from) (shut g after) k torn)))
            | inr x ↦ runs_both m l mid x.0 new P
                (leaves_more m l mid x.0 _ P x.2.moments (λ k torn. inr (inl (shut_follows 1 16 (may mid) (TornFrom (may mid) 1 16) (omega arith) (inl (omega arith)) (λ y from. from) (shut g after) k torn))))
                (leaves_more m l x.0 new _ P x.3.moments (λ k torn. inr (opens_follow s (seen x.0) (may x.0) (TornFrom (may x.0) 0 1) (ready g after x.0 x.1 x.2) x.2.durable (λ y from. from) k torn)))
          ]);
      tears = search rules;
      cause = search rules;
    }

pub close_slots-requires : goal.close_slots-requires
close_slots-requires g c = omega arith
