use Rattle.std.proofs.Common.{rules, ℕ, List, refl, subst}
use Rattle.std.proofs.lemmas.Result.{err_from_is_err_and}
use Rattle.mt_disk.specs.Disk.{LeavesOnly}
use Rattle.mt_restart.proofs.Refusals.{not_ok, not_well}
use Rattle.mt_restart.specs.Found.{HasTurned, ReadsOldOrNext}
use Rattle.mt_restart.proofs.recovery.turn_to.Goals as goal

pub returns-in_err-log : goal.returns-in_err-log
returns-in_err-log g c =
    let p = err_from_is_err_and c.from_residual.result c.from_residual.ensures.1 in
    record {
      recovered = λ frames is. not_ok _ c.from_residual.result p.0 p.1;
      ruling = not_ok _ c.from_residual.result p.0 p.1;
      restored = not_ok _ c.from_residual.result p.0 p.1;
      moments = λ opening batches read. let D = g.D.Device in let f = c.args.found in
          subst (λ (items : List (List ℕ)). LeavesOnly D.moment D.left_since c.args.device.now c.turn.new.device (ReadsOldOrNext f.ruling opening batches items f.marks.images.items)) c.deref.ensures.value (c.turn.ensures.moments opening batches read);
      cause = rw (p.1, p.2) c.in_err-log.ensures.cause;
      quiet = not_well _ c.from_residual.result p.0 p.1;
    }

pub returns : goal.returns
returns g c = record {
  recovered = λ frames is. let D = g.D.Device in let f = c.args.found in record {
    ruling = f.ruling;
    next = c.slot_after.ensures;
    lost = f.marks.lost.items;
    count = is.marked.count;
    checked = is.checked;
    images = is.marked.images;
    beside = is.beside;
    turned = subst (λ (x : List (List ℕ)). HasTurned D f.ruling x f.marks.images.items c.turn.new.device c.in_ok-log.log) c.deref.ensures.value c.in_ok-log.ensures.turned;
  };
  ruling = c.slot_after.ensures;
  restored = refl;
  moments = λ opening batches read. let D = g.D.Device in let f = c.args.found in
      subst (λ (items : List (List ℕ)). LeavesOnly D.moment D.left_since c.args.device.now c.turn.new.device (ReadsOldOrNext f.ruling opening batches items f.marks.images.items)) c.deref.ensures.value (c.turn.ensures.moments opening batches read);
  cause = search rules;
  quiet = search rules;
}
