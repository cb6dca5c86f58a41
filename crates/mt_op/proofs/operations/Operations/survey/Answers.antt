use Rattle.std.proofs.Common.{◌≡◌, ℕ, List, ap, arith, get_or, length, subst, ◌∙◌}
use Rattle.std.proofs.Props.{props}
use Rattle.std.proofs.lemmas.Int.{ints}
use mathlib.Core.Logic.{∥∥₁_elim, ∥∥₁_map}
use Rattle.mt_index.specs.Pages.{depth_in}
use Rattle.mt_model.specs.Tables.{count_at}
use Rattle.mt_model.specs.Views.{base_of}
use Rattle.mt_model.specs.declared.counters.Count.{Count}
use Rattle.mt_op.proofs.Surveyed.{counters_page, fixed_inside, keys_listed, read_held, read_idle, read_idle_any, read_right, reads_both, records_inside, same_base, same_twice}
use Rattle.mt_op.specs.Operations.{IsRight, world}
use Rattle.mt_op.specs.World.{held_in}
use Rattle.mt_space.specs.declared.space_map.SpaceMap.{SpaceMap}
use Rattle.mt_pool.specs.Views.{pages}
use Rattle.mt_pool.specs.declared.pool.Pool.{Pool}
use Rattle.mt_space.specs.Changes.{PageBytes}
use Rattle.mt_space.specs.Rooms.{free_in, free_of}
use Rattle.mt_steps.specs.Listed.{HasListed}
use Rattle.mt_op.proofs.operations.Operations.survey.Goals as goal

pub held_page-requires-clause-idle : goal.held_page-requires-clause-idle
held_page-requires-clause-idle g c = ∥∥₁_map c.requires.idle (λ (relations, small, idle). (relations, idle))

pub held_page-requires-clause-inside : goal.held_page-requires-clause-inside
held_page-requires-clause-inside g c = ∥∥₁_elim c.requires.idle (hlevel props) (λ (relations, small, idle).
    fixed_inside g.D.Device relations c.args.self.now c.new.result (omega (arith, c.new.ensures)) idle)

pub held_page-requires-2-clause-idle : goal.held_page-requires-2-clause-idle
held_page-requires-2-clause-idle g c = ∥∥₁_map c.requires.idle (λ (relations, small, idle).
    let D = g.D.Device in (relations, read_idle D relations c.args.self.now c.held_page.new.self c.held_page.ensures.read idle))

pub held_page-requires-2-clause-inside : goal.held_page-requires-2-clause-inside
held_page-requires-2-clause-inside g c = ∥∥₁_elim c.requires.idle (hlevel props) (λ (relations, small, idle).
    let D = g.D.Device in
    fixed_inside D relations c.held_page.new.self c.new-2.result (omega (arith, c.new-2.ensures))
    (read_idle D relations c.args.self.now c.held_page.new.self c.held_page.ensures.read idle))

pub base_without_rows-requires : goal.base_without_rows-requires
base_without_rows-requires g c =
    let D = g.D.Device in let o = c.args.self.now in let m = c.held_page.new.self in
    let two = λ (opening : PageBytes) (relations counters : ℕ) (right : IsRight D opening relations counters m). c.in_ok-held_page-2.ensures.held opening relations counters right ∙ ap (λ (p : ℕ). held_in (world D opening m) p) c.new-2.ensures in
    record {
      few = ∥∥₁_elim c.requires.idle (hlevel props) (λ (relations, small, idle).
          let is = (counters_page D relations m c.in_ok-held_page-2.field-0 (λ opening counters right. two opening relations counters right)
          (read_idle D relations o m c.held_page.ensures.read idle)).0 in omega (arith, is, small));
      counted = ∥∥₁_elim c.requires.idle (hlevel (props, ints)) (λ (relations, small, idle).
          (counters_page D relations m c.in_ok-held_page-2.field-0 (λ opening counters right. two opening relations counters right)
          (read_idle D relations o m c.held_page.ensures.read idle)).1);
    }

pub list_pages-requires : goal.list_pages-requires
list_pages-requires g c =
    let D = g.D.Device in
    record {
      idle = read_idle_any D c.args.self.now c.held_page-2.new.self (reads_both D c.args.self.now c.held_page.new.self c.held_page-2.new.self c.held_page.ensures.read c.held_page-2.ensures.read)
          (∥∥₁_map c.requires.idle (λ (relations, small, idle). (relations, idle)));
    }

pub base_of_rows-requires : goal.base_of_rows-requires
base_of_rows-requires g c =
    let D = g.D.Device in let n = c.held_page-2.new.self in
    record {
      once = keys_listed D n (pages n.store.pool) c.in_ok-rows.rows.items c.in_ok-rows.ensures.listed
          (read_idle_any D c.args.self.now n (reads_both D c.args.self.now c.held_page.new.self n c.held_page.ensures.read c.held_page-2.ensures.read)
          (∥∥₁_map c.requires.idle (λ (relations, small, idle). (relations, idle))));
    }

pub returns-in_err-rows-clause-read : goal.returns-in_err-rows-clause-read
returns-in_err-rows-clause-read g c =
    let D = g.D.Device in
    reads_both D c.args.self.now c.held_page.new.self c.list_pages.new.self c.held_page.ensures.read
    (reads_both D c.held_page.new.self c.held_page-2.new.self c.list_pages.new.self c.held_page-2.ensures.read c.list_pages.ensures.read)

pub returns-clause-surveyed : goal.returns-clause-surveyed
returns-clause-surveyed g c = λ opening relations counters held right holds.
    let D = g.D.Device in let o = c.args.self.now in let m = c.held_page.new.self in let n = c.held_page-2.new.self in let bytes = c.in_ok-held_page-2.field-0 in
    let first = c.held_page.ensures.read in
    let both = reads_both D o m n first c.held_page-2.ensures.read in
    let all = reads_both D o n c.list_pages.new.self both c.list_pages.ensures.read in
    let right1 : IsRight D opening relations counters m = read_right D opening relations counters o m first right in
    let right2 : IsRight D opening relations counters n = read_right D opening relations counters o n both right in
    let same1 = read_held D opening o m first in
    let same2 = read_held D opening o n both in
    let pages' : PageBytes = held_in (world D opening o) in
    let counts : bytes ≡ pages' 2 = c.in_ok-held_page-2.ensures.held opening relations counters right1 ∙ ap (λ (p : ℕ). held_in (world D opening m) p) c.new-2.ensures ∙ ap (λ (h : PageBytes). h 2) same1 in
    let total : pages n.store.pool ≡ pages o.store.pool = ap (λ (p : Pool). pages p) both.pool in
    let listed : HasListed pages' (pages o.store.pool) c.in_ok-rows.rows.items = subst (λ (X : Type 0). X) (λ i. HasListed (same2 i) (total i) c.in_ok-rows.rows.items)
    (c.in_ok-rows.ensures.listed opening relations counters right2) in
    let made = c.base_of_rows.ensures in
    let base = c.base_of_rows.result in
    let none = c.in_ok-base.base in
    record {
      depth = c.depth-depth.ensures ∙ ap depth_in (c.in_ok-held_page.ensures.held opening relations counters right ∙ ap pages' c.new.ensures);
      free = c.free.ensures ∙ ap (λ (x : SpaceMap). free_of x.space) all.map ∙ ap free_in right.space;
      relations_reported = made.relations ∙ c.in_ok-base.ensures.relations ∙ ap (λ (xs : List ℕ). get_or xs 0 0) counts ∙ right.sound.good.counts.relations_reported;
      counters_reported = ap length made.counters ∙ c.in_ok-base.ensures.counters ∙ ap (λ (xs : List ℕ). get_or xs 1 0) counts ∙ right.sound.good.counts.counters_reported;
      base = same_base relations counters (pages o.store.pool) pages' held (base_of base) (base_of none) bytes right.sound.good holds counts c.in_ok-base.ensures.counts
          (ap (λ (ns : List Count). λ (n : ℕ). count_at ns n) made.counters)
          (made.rows pages' (pages o.store.pool) held (records_inside relations counters (pages o.store.pool) pages' right.sound.good) holds.rows listed);
    }

pub returns-clause-read : goal.returns-clause-read
returns-clause-read g c =
    let D = g.D.Device in
    reads_both D c.args.self.now c.held_page.new.self c.list_pages.new.self c.held_page.ensures.read
    (reads_both D c.held_page.new.self c.held_page-2.new.self c.list_pages.new.self c.held_page-2.ensures.read c.list_pages.ensures.read)

pub returns-in_err-held_page-2-clause-read : goal.returns-in_err-held_page-2-clause-read
returns-in_err-held_page-2-clause-read g c =
    let D = g.D.Device in
    reads_both D c.args.self.now c.held_page.new.self c.held_page-2.new.self c.held_page.ensures.read c.held_page-2.ensures.read

pub returns-in_err-base-clause-read : goal.returns-in_err-base-clause-read
returns-in_err-base-clause-read g c =
    let D = g.D.Device in
    reads_both D c.args.self.now c.held_page.new.self c.held_page-2.new.self c.held_page.ensures.read c.held_page-2.ensures.read

pub returns-clause-calls : goal.returns-clause-calls
returns-clause-calls g c =
    let D = g.D.Device in let m = c.held_page.new.self in let n = c.held_page-2.new.self in
    let both = reads_both D c.args.self.now m n c.held_page.ensures.read c.held_page-2.ensures.read in
    let total : pages n.store.pool ≡ pages c.args.self.now.store.pool = ap (λ (p : Pool). pages p) both.pool in
    let one = c.held_page.ensures.once in let two = c.held_page-2.ensures.once in let calls = c.list_pages.ensures.calls in omega (arith, total, one, two, calls)

pub returns-in_err-rows-clause-calls : goal.returns-in_err-rows-clause-calls
returns-in_err-rows-clause-calls g c =
    let D = g.D.Device in let m = c.held_page.new.self in let n = c.held_page-2.new.self in
    let both = reads_both D c.args.self.now m n c.held_page.ensures.read c.held_page-2.ensures.read in
    let total : pages n.store.pool ≡ pages c.args.self.now.store.pool = ap (λ (p : Pool). pages p) both.pool in
    let one = c.held_page.ensures.once in let two = c.held_page-2.ensures.once in let calls = c.list_pages.ensures.calls in omega (arith, total, one, two, calls)

pub returns-clause-crash : goal.returns-clause-crash
returns-clause-crash g c = same_twice _ _ _ c.held_page.ensures.crash (same_twice _ _ _ c.held_page-2.ensures.crash c.list_pages.ensures.crash)

pub returns-in_err-rows-clause-crash : goal.returns-in_err-rows-clause-crash
returns-in_err-rows-clause-crash g c = same_twice _ _ _ c.held_page.ensures.crash (same_twice _ _ _ c.held_page-2.ensures.crash c.list_pages.ensures.crash)

pub returns-in_err-held_page-2-clause-crash : goal.returns-in_err-held_page-2-clause-crash
returns-in_err-held_page-2-clause-crash g c = same_twice _ _ _ c.held_page.ensures.crash c.held_page-2.ensures.crash

pub returns-in_err-base-clause-crash : goal.returns-in_err-base-clause-crash
returns-in_err-base-clause-crash g c = same_twice _ _ _ c.held_page.ensures.crash c.held_page-2.ensures.crash
