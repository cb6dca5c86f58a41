use Rattle.std.proofs.Common.{◌≡◌, ◌<◌, ◌∙◌, ◌++◌, List, suc, length, drop, get_or, refl, sym, ap, subst, arith, append-nil}
use Rattle.std.specs.Prelude.{take}
use Rattle.mt_core.specs.Booked.{booked_each, durable_count, txns_of}
use Rattle.mt_core.specs.Consistent.{state_of, IsIn}
use Rattle.mt_core.specs.declared.parts.Commit.{Commit}
use Rattle.mt_log.specs.Words.{durable}
use Rattle.mt_core.proofs.Durables.{left_sound, next_left, left_more}
use Rattle.mt_core.proofs.Lasting.{count_grows, counted_within}
use Rattle.mt_core.proofs.parts.Core.leave_durable.Goals as goal

pub loop-booked-init : goal.loop-booked-init
loop-booked-init g c = let within = c.durable_count-count.ensures.within in let same = ap (λ (xs : List Commit). length xs) c.as_slice.ensures.value in let room = c.requires.room in record {
  left = record { state = λ origin base safe. record { consistent = safe; state = refl }; leaves = refl; named = sym (append-nil c.args.names.now.items) };
  room = omega arith;
  store = refl;
  running = refl;
  numbers = refl;
  states = λ u other. refl;
  undo = λ u. omega arith;
  restarts = λ there origin base later safe_k safe_n r. r;
  count = omega arith;
}

pub leave_first-txn-requires-clause-safe : goal.leave_first-txn-requires-clause-safe
leave_first-txn-requires-clause-safe g c = left_sound g.D.Device c.args.self.now c.loop-booked.self c.loop-booked._booked c.args.names.now.items c.loop-booked.names.items c.requires.safe c.loop-booked.invariant.left

pub leave_first-txn-requires-clause-some : goal.leave_first-txn-requires-clause-some
leave_first-txn-requires-clause-some g c = let k = c.args.self.now in let d : Commit = record { txn = 0; place = 0 } in let was = c.loop-booked.invariant in
    let within : c.loop-booked._booked < length k.commits.items = let count = was.count in let less = c.loop-booked-test.true in omega arith in (
      get_or k.commits.items c.loop-booked._booked d,
      drop (suc c.loop-booked._booked) k.commits.items,
      next_left g.D.Device k c.loop-booked.self c.loop-booked._booked c.args.names.now.items c.loop-booked.names.items d was.left within,
    )

pub push_reserved-requires : goal.push_reserved-requires
push_reserved-requires g c = let was = c.loop-booked.invariant in let room = was.room in let count = was.count in let less = c.loop-booked-test.true in omega arith

pub loop-booked-preserved : goal.loop-booked-preserved
loop-booked-preserved g c = let k = c.args.self.now in let d : Commit = record { txn = 0; place = 0 } in let was = c.loop-booked.invariant in let at = c.loop-booked._booked in
    let within : at < length k.commits.items = let count = was.count in let less = c.loop-booked-test.true in omega arith in
    let queue = next_left g.D.Device k c.loop-booked.self at c.args.names.now.items c.loop-booked.names.items d was.left within in
    let e = c.leave_first-txn.ensures in let p = c.push_reserved.ensures in
    let own = e.rest (get_or k.commits.items at d) (drop (suc at) k.commits.items) queue in record {
      left = left_more g.D.Device k c.loop-booked.self c.leave_first-txn.new.self at c.leave_first-txn.result c.args.names.now.items c.loop-booked.names.items c.push_reserved.new.self.items d was.left within e.left own p.items;
      room = let room = was.room in let len = p.len in let capacity = p.capacity in omega arith;
      store = e.store ∙ was.store;
      running = e.running ∙ was.running;
      numbers = e.numbers ∙ was.numbers;
      states = λ u other. e.states u (λ commits. other (sym (was.states u other) ∙ commits)) ∙ was.states u other;
      undo = λ u. let less = e.undo u in let before = was.undo u in omega (arith, less, before);
      restarts = λ there origin base later safe_k safe_n r.
          let mid = (was.left.state origin base safe_k).consistent in
          let less = c.loop-booked-test.true in
          let low = counted_within k.commits.items (length (durable k.operations.store.log)) at d (omega (arith, there, less)) in
          let same : length (durable c.loop-booked.self.operations.store.log) ≡ length (durable k.operations.store.log) = ap (λ s. length (durable s.log)) was.store in
          e.restartable (get_or k.commits.items at d) (drop (suc at) k.commits.items) queue (omega (arith, low, same)) origin base later mid safe_n (was.restarts there origin base base safe_k mid r);
      count = was.count;
    }

pub returns-clause-left : goal.returns-clause-left
returns-clause-left g c = λ origin base safe. let k = c.args.self.now in
    subst (λ n. IsIn g.D.Device origin base (booked_each (state_of k base) (txns_of (take n k.commits.items))) c.loop-booked.self) (let last = c.loop-booked.auto._booked-end in let done = c.loop-booked-test.false in let all : c.loop-booked._booked ≡ c.durable_count-count.result = omega arith in all ∙ c.durable_count-count.ensures.count ∙ ap (λ (xs : List Commit). durable_count xs c.args.place) c.as_slice.ensures.value) (c.loop-booked.invariant.left.state origin base safe)

pub returns-clause-names : goal.returns-clause-names
returns-clause-names g c = let k = c.args.self.now in c.loop-booked.invariant.left.named ∙ ap (λ n. c.args.names.now.items ++ txns_of (take n k.commits.items)) (let last = c.loop-booked.auto._booked-end in let done = c.loop-booked-test.false in let all : c.loop-booked._booked ≡ c.durable_count-count.result = omega arith in all ∙ c.durable_count-count.ensures.count ∙ ap (λ (xs : List Commit). durable_count xs c.args.place) c.as_slice.ensures.value)

pub returns-clause-rest : goal.returns-clause-rest
returns-clause-rest g c = let k = c.args.self.now in c.loop-booked.invariant.left.leaves ∙ ap (λ n. drop n k.commits.items) (let last = c.loop-booked.auto._booked-end in let done = c.loop-booked-test.false in let all : c.loop-booked._booked ≡ c.durable_count-count.result = omega arith in all ∙ c.durable_count-count.ensures.count ∙ ap (λ (xs : List Commit). durable_count xs c.args.place) c.as_slice.ensures.value)

pub returns-clause-store : goal.returns-clause-store
returns-clause-store g c = c.loop-booked.invariant.store

pub returns-clause-running : goal.returns-clause-running
returns-clause-running g c = c.loop-booked.invariant.running

pub returns-clause-numbers : goal.returns-clause-numbers
returns-clause-numbers g c = c.loop-booked.invariant.numbers

pub returns-clause-states : goal.returns-clause-states
returns-clause-states g c = c.loop-booked.invariant.states

pub returns-clause-undo : goal.returns-clause-undo
returns-clause-undo g c = c.loop-booked.invariant.undo

pub returns-clause-restartable : goal.returns-clause-restartable
returns-clause-restartable g c = λ there. let k = c.args.self.now in
    let is = c.durable_count-count.ensures.count ∙ ap (λ (xs : List Commit). durable_count xs c.args.place) c.as_slice.ensures.value in
    let more = count_grows k.commits.items c.args.place (length (durable k.operations.store.log)) there in
    c.loop-booked.invariant.restarts (omega (arith, is, more))
