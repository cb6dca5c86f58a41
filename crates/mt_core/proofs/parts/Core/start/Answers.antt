use Rattle.std.proofs.Common.{rules, ◌≡◌, ◌∙◌, ◌+◌, ◌*◌, ℕ, true, refl, ap, sym, subst, arith}
use Rattle.mt_op.proofs.Driving.{fresh_same}
use Rattle.mt_op.specs.Operations.{world, claimed}
use Rattle.mt_op.specs.World.{IsFresh}
use Rattle.mt_steps.specs.Plans.{own_needs, undo_pages}
use Rattle.mt_core.specs.Consistent.{without_call}
use Rattle.mt_core.specs.Runs.{undo_bytes}
use Rattle.mt_core.specs.declared.parts.Core.{Core}
use Rattle.mt_core.proofs.Calling.{called_in, next_fresh, needs_few}
use mathlib.Core.Logic.{∥∥₁_elim}
use Rattle.std.proofs.Common.{◌<◌, ◌≤◌}
use Rattle.std.proofs.Props.{props}
use Rattle.mt_pool.proofs.Steady.{steady}
use Rattle.mt_pool.specs.Same.{Pool-prop}
use Rattle.mt_pool.specs.Views.{pages}
use Rattle.mt_core.specs.Causes.{IsUnreserved, pages_asked, pages_free}
use Rattle.mt_core.specs.Consistent.{log_kept}
use Rattle.mt_core.proofs.Calling.{txn_named}
use Rattle.mt_core.proofs.parts.Core.start.Goals as goal

pub overflow_add-pages : goal.overflow_add-pages
overflow_add-pages g c = let few = needs_few c.args.op true in let a = c.pages_for.ensures in let b = c.pages_to_undo.ensures.pages in omega arith

pub returns-then-not-takes : goal.returns-then-not-takes
returns-then-not-takes g c = record {
  ok = search rules;
  may = search rules;
  cause = λ origin base locks escrow granted. let k = c.args.self.now in let seen = g.D.Device.seen in
      let pages : c.pages_for.result + c.pages_to_undo.result ≡ pages_asked c.args.op = (λ i. c.pages_for.ensures i + c.pages_to_undo.ensures.pages i) in
      let bytes : c.log_bytes_for-bytes.result ≡ undo_bytes c.args.op = c.log_bytes_for-bytes.ensures in
      let full = c.if-not-takes.ensures.full in (
        subst (λ n. claimed k.operations + n ≤ pages_free g.D.Device origin k) pages (c.in-Ok.ensures.fits origin.pages origin.relations origin.counters granted.was.fit.right),
        omega (arith, bytes, full),
      );
  back = search rules;
  err = let e = c.give_back.ensures in let f = c.in-Ok.ensures in record {
    same = refl;
    right = λ opening relations counters right. e.right opening relations counters (c.claim.ensures.right opening relations counters right);
    store = e.store ∙ c.claim.ensures.store;
    page_locks = e.locks ∙ c.claim.ensures.locks;
    claimed = let a = e.claimed in let d = f.claimed in omega arith;
  };
  live = search rules;
  runs = search rules;
  numbered = search rules;
  same_commits = search rules;
  store = search rules;
  book = search rules;
}

pub returns-in-Err-begin_op : goal.returns-in-Err-begin_op
returns-in-Err-begin_op g c = record {
  ok = search rules;
  may = search rules;
  cause = search rules;
  back = search rules;
  err = let e = c.give_back-in-Err-begin_op.ensures in let f = c.in-Ok.ensures in record {
    same = refl;
    right = λ opening relations counters right. e.right opening relations counters (c.claim.ensures.right opening relations counters right);
    store = e.store ∙ c.claim.ensures.store;
    page_locks = e.locks ∙ c.claim.ensures.locks;
    claimed = let a = e.claimed in let d = f.claimed in omega arith;
  };
  live = search rules;
  runs = search rules;
  numbered = search rules;
  same_commits = search rules;
  store = search rules;
  book = search rules;
}

pub overflow_add-self : goal.overflow_add-self
overflow_add-self g c = let sum = c.if-not-takes.ensures.sum in omega arith

pub returns-in-Ok-begin_op : goal.returns-in-Ok-begin_op
returns-in-Ok-begin_op g c = record {
  ok = λ origin base locks escrow granted.
      let seen = g.D.Device.seen in let k = c.args.self.now in let e = c.in-Ok-begin_op.ensures in let f = c.in-Ok.ensures in let m = c.claim.ensures in let s = c.in-Ok-begin_op.scope in
      let fit = granted.was.fit in
      let right = m.right origin.pages origin.relations origin.counters fit.right in
      let fresh_old : IsFresh (world g.D.Device origin.pages k.operations) c.args.txn (k.last + 1) 0 = next_fresh g.D.Device origin base (without_call locks escrow k) c.args.txn (k.last + 1) fit granted.may.at_work (omega arith) in
      let fresh : IsFresh (world g.D.Device origin.pages c.claim.new.self) c.args.txn c.new.result 0 = subst (λ (n : ℕ). IsFresh (world g.D.Device origin.pages c.claim.new.self) c.args.txn n 0) (sym c.new.ensures) (fresh_same g.D.Device k.operations c.claim.new.self origin.pages c.args.txn (k.last + 1) 0 m.store m.locks fresh_old) in
      let pages : c.pages_for.result + c.pages_to_undo.result ≡ own_needs c.args.op true + undo_pages c.args.op = (λ i. c.pages_for.ensures i + c.pages_to_undo.ensures.pages i) in
      let bytes : c.log_bytes_for-bytes.result ≡ undo_bytes c.args.op = c.log_bytes_for-bytes.ensures in
      let left : s.left ≡ undo_bytes c.args.op = e.left in
      let n : Core g.row.D.Denot = record k { operations = c.claim.new.self; running = c.push_reserved.new.self; reserved = k.reserved + c.log_bytes_for-bytes.result } in
      called_in g.D.Device origin base locks escrow k n c.args.txn c.args.op true s
      granted c.push_reserved.ensures.items
      (record {
        right = right;
        store = m.store;
        locks = m.locks;
        claims = f.claimed ∙ ap (λ (x : ℕ). claimed k.operations + x) pages;
        under = e.under origin.pages origin.relations origin.counters right granted.may.within fresh;
        budget = e.budget;
        is_txn = e.named.0;
        is_number = e.named.1 ∙ c.new.ensures;
        is_op = e.named.2;
        is_undoes = e.named.3;
        is_split = e.named.4;
        planning = e.planning.0;
      }) c.requires.few (ap (λ (x : ℕ). k.reserved + x) bytes) (let takes = c.if-not-takes.ensures.takes in omega arith);
  may = λ origin base locks escrow granted. let k = c.args.self.now in let seen = g.D.Device.seen in
      let pages : c.pages_for.result + c.pages_to_undo.result ≡ pages_asked c.args.op = (λ i. c.pages_for.ensures i + c.pages_to_undo.ensures.pages i) in
      let bytes : c.log_bytes_for-bytes.result ≡ undo_bytes c.args.op = c.log_bytes_for-bytes.ensures in
      let takes = c.if-not-takes.ensures.takes in (
        subst (λ n. claimed k.operations + n ≤ pages_free g.D.Device origin k) pages (c.in-Ok.ensures.fits origin.pages origin.relations origin.counters granted.was.fit.right),
        omega (arith, bytes, takes),
      );
  cause = search rules;
  back = search rules;
  err = search rules;
  live = search rules;
  runs = let e = c.in-Ok-begin_op.ensures in (
    c.in-Ok-begin_op.scope,
    e.named.0,
    e.work ∙ ap (λ n. 2 * n + 9) (ap (λ o. pages o.pool) c.claim.ensures.store),
    c.push_reserved.ensures.items,
  );
  numbered = let e = c.in-Ok-begin_op.ensures in (refl, (c.in-Ok-begin_op.scope, c.push_reserved.ensures.items, e.named.1 ∙ c.new.ensures));
  same_commits = search rules;
  store = search rules;
  book = search rules;
}

pub log_takes-takes-requires : goal.log_takes-takes-requires
log_takes-takes-requires g c = ∥∥₁_elim c.requires.granted (hlevel props) (λ (origin, base, locks, escrow, granted). granted.was.fit.log)

pub returns-in-Err : goal.returns-in-Err
returns-in-Err g c = record {
  ok = search rules;
  may = search rules;
  cause = λ origin base locks escrow granted. let k = c.args.self.now in let seen = g.D.Device.seen in let f = c.in-Err.ensures in
      let pages : c.pages_for.result + c.pages_to_undo.result ≡ pages_asked c.args.op = (λ i. c.pages_for.ensures i + c.pages_to_undo.ensures.pages i) in
      subst (IsUnreserved g.D.Device origin k (log_kept k) c.args.op) (sym f.why)
      (subst (λ n. pages_free g.D.Device origin k < claimed k.operations + n) pages (f.cause origin.pages origin.relations origin.counters granted.was.fit.right));
  back = search rules;
  err = search rules;
  live = search rules;
  runs = search rules;
  numbered = search rules;
  same_commits = search rules;
  store = search rules;
  book = search rules;
}

pub begin_op-requires-clause-pool : goal.begin_op-requires-clause-pool
begin_op-requires-clause-pool g c = ∥∥₁_elim c.requires.granted (Pool-prop c.claim.new.self.store.pool) (λ (origin, base, locks, escrow, granted).
    (steady g.D.Device c.claim.new.self.store ∣ (origin.pages, (c.claim.ensures.right origin.pages origin.relations origin.counters granted.was.fit.right).kept) ∣₁).frames)

pub begin_op-requires-clause-numbers : goal.begin_op-requires-clause-numbers
begin_op-requires-clause-numbers g c = ∥∥₁_elim c.requires.granted (hlevel props) (λ (origin, base, locks, escrow, granted).
    let named = txn_named g.D.Device origin base (without_call locks escrow c.args.self.now) c.args.txn granted.was.fit granted.may.at_work in
    let few = c.requires.few in let is = c.new.ensures in (named, (omega arith, omega arith)))
