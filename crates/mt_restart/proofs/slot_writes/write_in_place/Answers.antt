use Rattle.std.proofs.Common.{rules, ◌≡◌, ◌∙◌, ◌+◌, ◌*◌, ◌<◌, ℕ, [], true, false, length, get_or, refl, ap, sym, subst, arith}
use Rattle.mt_disk.specs.Disk.{Follows, LeavesOnly, Torn, Wrote}
use Rattle.mt_disk.proofs.Frame.{goes_on, started}
use Rattle.mt_pool.specs.Images.{slot}
use Rattle.mt_restart.specs.Turned.{ButForSlots, OnlySlots}
use Rattle.mt_restart.proofs.Slots.{slots_follow, slots_more, slots_one, slots_passed, slots_refl, slots_stay, slots_trans}
use Rattle.mt_restart.proofs.slot_writes.write_in_place.Goals as goal
use Rattle.mt_restart.proofs.slot_writes.write_in_place.Goals.{then-marked-page+in_ok-write_at, else-marked-page}

pub loop-page-init : goal.loop-page-init
loop-page-init g c =
    let D = g.D.Device in let d = c.args.device.now in let marked = c.args.marked.now in
    record {
      written = λ p none. absurd (omega arith);
      slots = slots_refl marked (D.seen d);
      elsewhere = slots_stay marked (D.may_leave d);
      moments = started D.moment D.left_since d (ButForSlots marked (D.may_leave d)) (λ x left. slots_stay marked (D.may_leave d) x (g.met.D.Device.only_now d x left));
      quiet = refl;
    }

pub returns-in_err-write_at : goal.returns-in_err-write_at
returns-in_err-write_at g c =
    let may = g.D.Device.may_leave in let seen = g.D.Device.seen in let p = c.loop-page.page in let marked = c.args.marked.now in
    let d = c.args.device.now in let mid = c.loop-page.device in let new = c.write_at.new.self in let v = c.loop-page.invariant in
    let size = c.told-pages p c.loop-page-test.true in
    let n = length (get_or c.args.pages.now p []) in
    let at : c.slot_at-at.result ≡ 8192 + 4096 * p = c.slot_at-at.ensures ∙ ap (λ (k : ℕ). 8192 + 4096 * k) c.new.ensures in
    let torn : Torn (8192 + 4096 * p) n (seen mid) (seen new) = subst (λ (a : ℕ). Torn a n (seen mid) (seen new)) at c.write_at.ensures.rest in
    let inside : p < length marked = subst (λ (n : ℕ). p < n) (sym c.requires.count) c.loop-page-test.true in
    let elsewhere : Follows (OnlySlots marked) (may d) (may new) = slots_follow marked p n (may d) (may mid) (may new) inside c.if-marked-page.true size v.elsewhere (subst (λ (a : ℕ). Follows (Torn a n) (may mid) (may new)) at c.write_at.ensures.crash) in
    record {
      written = search rules;
      slots = slots_trans marked (seen d) (seen mid) (seen new) v.slots (slots_one marked p n (seen mid) (seen new) inside c.if-marked-page.true size torn);
      elsewhere = elsewhere;
      moments = goes_on g.D.Device.moment g.D.Device.left_since d mid new (ButForSlots marked (may d)) (may new) v.moments c.write_at.ensures.time elsewhere;
      cause = search rules;
    }

pub loop-page-preserved : goal.loop-page-preserved
loop-page-preserved g c =
    let m = g.D.Device.moment in let l = g.D.Device.left_since in let may = g.D.Device.may_leave in let seen = g.D.Device.seen in
    let p = c.loop-page.page in let marked = c.args.marked.now in let pages = c.args.pages.now in
    let d = c.args.device.now in let mid = c.loop-page.device in let v = c.loop-page.invariant in
    let lt = c.loop-page-test.true in
    elim c.if-marked-page.branch [
      | then-marked-page+in_ok-write_at w ↦
          let new = w.write_at.new.self in
          let n = length (get_or pages p []) in
          let size : n ≡ 4096 = c.told-pages p lt in
          let at : w.slot_at-at.result ≡ 8192 + 4096 * p = w.slot_at-at.ensures ∙ ap (λ (k : ℕ). 8192 + 4096 * k) w.new.ensures in
          let inside : p < length marked = subst (λ (n : ℕ). p < n) (sym c.requires.count) lt in
          let elsewhere : Follows (OnlySlots marked) (may d) (may new) = slots_follow marked p n (may d) (may mid) (may new) inside w.if-marked-page.true size v.elsewhere (subst (λ (a : ℕ). Follows (Torn a n) (may mid) (may new)) at w.write_at.ensures.crash) in
          record {
            written = subst (λ (x : _). (q : ℕ) → q < p + 1 → get_or marked q false ≡ true → slot 8192 (seen x) q ≡ get_or pages q []) (sym w.device-is)
                (slots_more marked pages p (get_or pages p []) (seen mid) (seen new) (subst (λ (a : ℕ). Wrote a (get_or pages p []) (seen mid) (seen new)) at w.in_ok-write_at.ensures.written) size refl v.written);
            slots = subst (λ (x : _). OnlySlots marked (seen d) (seen x)) (sym w.device-is)
                (slots_trans marked (seen d) (seen mid) (seen new) v.slots (slots_one marked p n (seen mid) (seen new) inside w.if-marked-page.true size (subst (λ (a : ℕ). Torn a n (seen mid) (seen new)) at w.write_at.ensures.rest)));
            elsewhere = subst (λ (x : _). Follows (OnlySlots marked) (may d) (may x)) (sym w.device-is) elsewhere;
            moments = subst (λ (x : _). LeavesOnly m l d x (ButForSlots marked (may d))) (sym w.device-is)
                (goes_on m l d mid new (ButForSlots marked (may d)) (may new) v.moments w.write_at.ensures.time elsewhere);
            quiet = ap (λ (x : _). g.D.Device.faults x) w.device-is ∙ w.in_ok-write_at.ensures.cause.quiet refl ∙ v.quiet;
          }
      | else-marked-page w ↦ record {
        written = subst (λ (x : _). (q : ℕ) → q < p + 1 → get_or marked q false ≡ true → slot 8192 (seen x) q ≡ get_or pages q []) (sym w.device-is)
            (slots_passed marked pages p (seen mid) w.if-marked-page.false v.written);
        slots = subst (λ (x : _). OnlySlots marked (seen d) (seen x)) (sym w.device-is) v.slots;
        elsewhere = subst (λ (x : _). Follows (OnlySlots marked) (may d) (may x)) (sym w.device-is) v.elsewhere;
        moments = subst (λ (x : _). LeavesOnly m l d x (ButForSlots marked (may d))) (sym w.device-is) v.moments;
        quiet = ap (λ (x : _). g.D.Device.faults x) w.device-is ∙ v.quiet;
      }
    ]
