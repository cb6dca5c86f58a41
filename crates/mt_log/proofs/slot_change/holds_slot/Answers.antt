use Rattle.std.proofs.Common.{rules, ◌≡◌, ◌∙◌, sym, subst}
use Rattle.std.specs.Bool.{Decides}
use Rattle.std.proofs.lemmas.Bool.Decides.{Decides-eqb}
use Rattle.std.proofs.lemmas.Slice.Eq.{slice_eq-Decides}
use Rattle.mt_disk.specs.Disk.{Has}
use Rattle.mt_frame.specs.SlotText.{slot_text}
use Rattle.mt_log.proofs.Pieces.{has_same}
use Rattle.mt_log.proofs.slot_change.holds_slot.Goals as goal

pub returns : goal.returns
returns g c = record {
  is = let seen = g.D.Device.seen c.args.device.now in
      let bytes = c.read.new.buf in let text = slot_text c.args.slot.now in
      let same : Decides c.eq.result (bytes ≡ c.encode_slot.result) = slice_eq-Decides Decides-eqb bytes c.encode_slot.result c.eq.result c.eq.ensures in (
        λ yes. subst (Has seen c.args.at) (same.0 yes ∙ c.encode_slot.ensures) c.in_ok-read.ensures.bytes,
        λ has. same.1 (has_same seen c.args.at bytes text c.in_ok-read.ensures.bytes has c.read.auto.buf ∙ sym c.encode_slot.ensures),
      );
  reads = search rules;
  cause = search rules;
}
