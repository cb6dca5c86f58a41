use Rattle.std.proofs.Common.{◌≡◌, ◌+◌, ℕ, arith, refl, subst, sym, ◌∙◌}
use Rattle.mt_op.proofs.Surveyed.{idle_steady, read_held, read_idle_any, read_right, reads_both, reads_none, same_twice}
use Rattle.mt_op.specs.Operations.{world}
use Rattle.mt_op.specs.World.{held_in}
use Rattle.mt_pool.specs.Views.{pages}
use Rattle.mt_space.specs.Changes.{PageBytes}
use Rattle.mt_steps.proofs.Listed.{nothing_listed}
use Rattle.mt_steps.specs.Listed.{HasListed}
use Rattle.mt_op.proofs.operations.Operations.list_pages.Goals as goal

pub count-number-end-requires : goal.count-number-end-requires
count-number-end-requires g c = record { sound = (idle_steady g.D.Device c.args.self.now c.requires.idle).frames }

pub loop-number-init : goal.loop-number-init
loop-number-init g c = record {
  listed = λ opening relations counters right. nothing_listed (held_in (world g.D.Device opening c.args.self.now)) c.new-rows.result.items c.new-rows.ensures.items;
  read = reads_none g.D.Device g.met.D.Device.only_now c.args.self.now;
  crash = λ k. (λ left. left, λ left. left);
  quiet = refl;
  calls = omega arith;
}

pub list_page-requires-clause-idle : goal.list_page-requires-clause-idle
list_page-requires-clause-idle g c = read_idle_any g.D.Device c.args.self.now c.loop-number.self c.loop-number.invariant.read c.requires.idle

pub loop-number-preserved : goal.loop-number-preserved
loop-number-preserved g c =
    let D = g.D.Device in let o = c.args.self.now in let l = c.loop-number in let was = l.invariant in let e = c.in_ok-list_page.ensures in
    record {
      listed = λ opening relations counters right.
          let same = read_held D opening o l.self was.read in
          let at' = c.new.ensures in
          subst (λ (h : PageBytes). HasListed h (l.number + 1) c.list_page.new.rows.items) same
          (subst (λ (p : ℕ). HasListed (held_in (world D opening l.self)) (p + 1) c.list_page.new.rows.items) at'
          (e.listed opening relations counters (read_right D opening relations counters o l.self was.read right)
          (subst (λ (h : PageBytes). HasListed h c.new.result l.rows.items) (sym same) (subst (λ (p : ℕ). HasListed (held_in (world D opening o)) p l.rows.items) (sym at') (was.listed opening relations counters right)))));
      read = reads_both D o l.self c.list_page.new.self was.read c.list_page.ensures.read;
      crash = same_twice _ _ _ was.crash c.list_page.ensures.crash;
      quiet = e.quiet (λ is. cc) ∙ was.quiet;
      calls = let before = was.calls in let one = c.list_page.ensures.once in omega (arith, before, one);
    }

pub returns-clause-listed : goal.returns-clause-listed
returns-clause-listed g c = λ opening relations counters right.
    let last : c.loop-number.number ≡ pages c.args.self.now.store.pool = (let all = c.count-number-end.ensures in let test = c.loop-number-test.false in let within = c.loop-number.auto.number-end in omega arith) in
    subst (λ (p : ℕ). HasListed (held_in (world g.D.Device opening c.args.self.now)) p c.loop-number.rows.items) last (c.loop-number.invariant.listed opening relations counters right)

pub returns-in_err-list_page-clause-read : goal.returns-in_err-list_page-clause-read
returns-in_err-list_page-clause-read g c =
    let D = g.D.Device in
    reads_both D c.args.self.now c.loop-number.self c.list_page.new.self c.loop-number.invariant.read c.list_page.ensures.read

pub returns-clause-calls : goal.returns-clause-calls
returns-clause-calls g c =
    let calls = c.loop-number.invariant.calls in let all = c.count-number-end.ensures in let within = c.loop-number.auto.number-end in omega arith

pub returns-in_err-list_page-clause-calls : goal.returns-in_err-list_page-clause-calls
returns-in_err-list_page-clause-calls g c =
    let calls = c.loop-number.invariant.calls in let one = c.list_page.ensures.once in let all = c.count-number-end.ensures in let less = c.loop-number-test.true in omega arith

pub returns-in_err-list_page-clause-crash : goal.returns-in_err-list_page-clause-crash
returns-in_err-list_page-clause-crash g c = same_twice _ _ _ c.loop-number.invariant.crash c.list_page.ensures.crash
