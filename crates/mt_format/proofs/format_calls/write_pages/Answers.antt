use Rattle.std.proofs.Common.{true, inr, ◌≡◌, ◌+◌, ◌*◌, ℕ, length, subst, ap, ◌∙◌, refl, arith, rules}
use Rattle.mt_disk.specs.Disk.{Wrote}
use Rattle.mt_format.proofs.Tears.{tears_none, tears_both, tears_within}
use Rattle.mt_format.proofs.Formed.{pages_more}
use Rattle.mt_format.proofs.Shut.{shut_starts, shut_on, shut_follows}
use Rattle.mt_format.proofs.format_calls.write_pages.Goals as goal

pub loop-number-preserved : goal.loop-number-preserved
loop-number-preserved g c =
    let seen = g.D.Device.seen in
    let may = g.D.Device.may_leave in
    let inv = c.loop-number.invariant in
    let n = c.loop-number.number in
    let old = c.loop-number.device in
    let new = c.write_at.new.self in
    let page = c.page_of-page.result in
    let at : c.slot_at.result ≡ 8192 + 4096 * n = c.slot_at.ensures ∙ ap (λ (k : ℕ). 8192 + 4096 * k) c.new.ensures in
    let wrote : Wrote (8192 + 4096 * n) page (seen old) (seen new) = subst (λ (k : ℕ). Wrote k page (seen old) (seen new)) at c.in_ok-write_at.ensures.written in
    let size : length page ≡ 4096 = search rules in
    record {
      written = pages_more c.args.schema.now n page (seen old) (seen new) wrote size c.page_of-page.ensures inv.written;
      moments = shut_on g.D.Device g.met.D.Device.only_now c.slot_at.result (length page) c.args.device.now old new inv.moments (shut_follows 8192 _ (may c.args.device.now) (may old) (omega arith) (inr (omega arith)) inv.tears.later c.requires.shut) c.write_at.ensures.time (omega (arith, at)) (inr (omega (arith, at))) c.write_at.ensures.crash;
      tears = tears_both g.D.Device 8192 _ c.args.device.now old new inv.tears (tears_within g.D.Device c.slot_at.result (length page) 8192 _ old new (omega (arith, at)) (let inside = c.loop-number-test.true in omega (arith, at, size, inside)) (record { now = c.in_ok-write_at.ensures.rest; later = c.in_ok-write_at.ensures.crash }));
      faults = c.in_ok-write_at.ensures.cause.quiet (refl {a = true}) ∙ inv.faults;
    }

pub loop-number-init : goal.loop-number-init
loop-number-init g c =
    let d = c.args.device.now in
    record {
      written = λ p none. absurd (omega arith);
      moments = shut_starts g.D.Device g.met.D.Device.only_now d c.requires.shut;
      tears = tears_none g.D.Device 8192 _ d;
      faults = refl;
    }

pub returns-in_err-write_at-clause-moments : goal.returns-in_err-write_at-clause-moments
returns-in_err-write_at-clause-moments g c =
    let may = g.D.Device.may_leave in
    let inv = c.loop-number.invariant in
    let old = c.loop-number.device in
    let at = c.slot_at.ensures in
    shut_on g.D.Device g.met.D.Device.only_now c.slot_at.result _ c.args.device.now old c.write_at.new.self inv.moments (shut_follows 8192 _ (may c.args.device.now) (may old) (omega arith) (inr (omega arith)) inv.tears.later c.requires.shut) c.write_at.ensures.time (omega (arith, at)) (inr (omega (arith, at))) c.write_at.ensures.crash
