use mathlib.Core.Logic.{∥∥₁_elim}
use Rattle.std.proofs.Props.{props}
use Rattle.std.proofs.Common.{rules, ◌≡◌, ◌≢◌, ◌∙◌, ◌+◌, ◌-◌, ◌*◌, ◌++◌, ◌∷◌, [], List, true, false, None, Some, refl, ap, sym, subst, arith}
use Rattle.std.specs.Prelude.{is_some, All}
use Rattle.mt_inverse.specs.Steps.{IsWithinSteps}
use Rattle.mt_live.specs.Lives.{member_of}
use Rattle.mt_live.specs.Members.{last_operation}
use Rattle.mt_live.specs.Undoing.{last_effect}
use Rattle.mt_model.specs.Model.{inverse_of}
use Rattle.mt_op.specs.Operations.{world}
use Rattle.mt_op.specs.World.{IsFresh}
use Rattle.mt_core.specs.Consistent.{IsWithinSchema}
use Rattle.mt_core.specs.declared.parts.Core.{Core}
use Rattle.mt_op.specs.declared.scope.OpScope.{OpScope}
use Rattle.mt_core.proofs.Calling.{above_all, txn_named}
use Rattle.mt_core.proofs.Effects.{weighs_effect, inverse_bytes, inverse_writes, last_did}
use Rattle.mt_core.specs.Runs.{undo_bytes, entry_bytes}
use Rattle.mt_core.proofs.Enough.{undo_enough}
use Rattle.mt_core.proofs.Inverse.{last_has, within_steps, inverse_within, undo_fresh}
use Rattle.mt_core.proofs.Resting.{undoing_in, last_entry, backwards_open}
use Rattle.mt_core.proofs.Rooms.{rooms_in}
use Rattle.mt_core.proofs.Sounds.{steady_of, few_of}
use Rattle.mt_core.proofs.Refusing.{Steps-prop}
use Rattle.mt_op.specs.Work.{work_of}
use Rattle.mt_pool.specs.Views.{pages}
use Rattle.mt_core.specs.Work.{effects_left, steps_in, undo_steps}
use Rattle.mt_core.proofs.Laboring.{steps_push_other}
use Rattle.mt_core.proofs.Undoing.{undo_idle, undo_begun, cut_left}
use Rattle.mt_core.proofs.Restarts.{store_same}
use Rattle.std.proofs.Common.{refl}
use Rattle.mt_core.proofs.parts.Core.inverse_begin.Goals as goal

pub inverse_of-requires : goal.inverse_of-requires
inverse_of-requires g c = ∥∥₁_elim c.requires.safe (Steps-prop _) (λ (origin, base, safe). let k = c.args.self.now in
    let x = last_entry (last_effect c.args.txn k.live.standing) c.in-Some.last.op.now c.in-Some.last.reply.now c.in-Some.ensures.last in
    subst IsWithinSteps x.2 (within_steps origin.relations origin.counters x.0.op (last_has (IsWithinSchema origin) c.args.txn k.live.standing x.0 safe.fit.small x.1).op))

pub returns-in_err-reserve-clause-state : goal.returns-in_err-reserve-clause-state
returns-in_err-reserve-clause-state g c = λ origin base safe. let k = c.args.self.now in let a = c.reserve.ensures in
    rooms_in g.D.Device origin base k (record k { running = c.reserve.new.self }) safe a.items refl refl refl (omega arith)

pub begin_op-requires-clause-numbers : goal.begin_op-requires-clause-numbers
begin_op-requires-clause-numbers g c = ∥∥₁_elim c.requires.safe (hlevel props) (λ (origin, base, safe).
    let named = txn_named g.D.Device origin base c.args.self.now c.args.txn safe.fit (backwards_open (member_of c.args.self.now.live.members c.args.txn) c.requires.backwards) in
    let few = safe.fit.numbered.few_operations in let is = c.new.ensures in (named, (omega arith, omega arith)))

pub returns-in-Err-clause-state : goal.returns-in-Err-clause-state
returns-in-Err-clause-state g c = λ origin base safe. let k = c.args.self.now in let a = c.reserve.ensures in
    rooms_in g.D.Device origin base k (record k { running = c.reserve.new.self }) safe a.items refl refl refl (omega arith)

pub overflow_sub-self : goal.overflow_sub-self
overflow_sub-self g c = ∥∥₁_elim c.requires.safe (hlevel props) (λ (origin, base, safe). let k = c.args.self.now in
    let x = last_entry (last_effect c.args.txn k.live.standing) c.in-Some.last.op.now c.in-Some.last.reply.now c.in-Some.ensures.last in
    let inverse : inverse_of x.0.op x.0.reply ≡ Some c.in-Some-2.inverse = (λ i. inverse_of (x.2 i) (x.3 i)) ∙ sym c.in_ok-inverse.ensures.inverse ∙ c.in-Some-2.is in
    let some : is_some (inverse_of x.0.op x.0.reply) ≡ true = ap is_some inverse in
    let weighs : entry_bytes x.0 ≡ undo_bytes x.0.op = weighs_effect undo_bytes c.args.txn k.live.standing x.0 x.1 in
    undo_enough g.D.Device origin base k c.args.txn x.0 safe.fit c.requires.idle x.1 some (weighs ∙ inverse_bytes x.0.op x.0.reply c.in-Some-2.inverse inverse))

pub returns-in-Ok-clause-state : goal.returns-in-Ok-clause-state
returns-in-Ok-clause-state g c = λ origin base safe.
    let seen = g.D.Device.seen in let may_leave = g.D.Device.may_leave in let k = c.args.self.now in let e = c.in-Ok.ensures in let s = c.in-Ok.scope in
    let x = last_entry (last_effect c.args.txn k.live.standing) c.in-Some.last.op.now c.in-Some.last.reply.now c.in-Some.ensures.last in
    let inverse : inverse_of x.0.op x.0.reply ≡ Some c.in-Some-2.inverse = (λ i. inverse_of (x.2 i) (x.3 i)) ∙ sym c.in_ok-inverse.ensures.inverse ∙ c.in-Some-2.is in
    let small = last_has (IsWithinSchema origin) c.args.txn k.live.standing x.0 safe.fit.small x.1 in
    let within = inverse_within origin.relations origin.counters x.0.op x.0.reply c.in-Some-2.inverse small.op small.reply inverse in
    let number : last_operation (member_of k.live.members c.args.txn) ≡ Some c.in-Some.last.number = sym c.in-Some.ensures.number in
    let due = undo_fresh g.D.Device origin base k c.args.txn (k.last + 1) c.in-Some.last.number safe (backwards_open (member_of c.args.self.now.live.members c.args.txn) c.requires.backwards) (omega arith) number in
    let numbered : c.in-Some.last.number ≡ c.get-undoes.result = sym c.get-undoes.ensures in
    let fresh : IsFresh (world g.D.Device origin.pages k.operations) c.args.txn c.new.result c.get-undoes.result = subst (λ (X : Type 0). X) (λ i. IsFresh (world g.D.Device origin.pages k.operations) c.args.txn (sym c.new.ensures i) (numbered i)) due.0 in
    let back : s.undoes ≢ 0 = λ is. due.1 (numbered ∙ sym e.named.3 ∙ is) in
    let some : is_some (inverse_of x.0.op x.0.reply) ≡ true = ap is_some inverse in
    let weighs : entry_bytes x.0 ≡ undo_bytes x.0.op = weighs_effect undo_bytes c.args.txn k.live.standing x.0 x.1 in
    let enough = undo_enough g.D.Device origin base k c.args.txn x.0 safe.fit c.requires.idle x.1 some (weighs ∙ inverse_bytes x.0.op x.0.reply c.in-Some-2.inverse inverse) in
    let n : Core g.row.D.Denot = record k { running = c.push_reserved.new.self; reserved = k.reserved - 106496 } in
    let writes : undo_bytes c.in-Some-2.inverse ≡ 106496 = inverse_writes x.0.op x.0.reply c.in-Some-2.inverse inverse in
    undoing_in g.D.Device origin base k n c.args.txn x.0 s
    safe c.requires.backwards
    (λ first is. let noted = c.requires.noted first is in record { room = noted.0; newest = above_all (k.last + 1) (member_of k.live.members c.args.txn) (λ m at i d lt. let low = (safe.outcome c.args.txn m at).numbers i d lt in omega (arith, low)); after = noted.1 })
    c.requires.idle x.1 (inverse ∙ ap Some (sym e.named.2)) (c.push_reserved.ensures.items ∙ ap (λ (rs : List OpScope). rs ++ s ∷ []) c.reserve.ensures.items)
    (number ∙ ap Some (numbered ∙ sym e.named.3)) (e.under origin.pages origin.relations origin.counters safe.fit.right within fresh) e.budget e.named.0 (e.named.1 ∙ c.new.ensures) back e.named.4 e.planning.0
    (e.left ∙ writes) (omega arith)

pub overflow_add-number : goal.overflow_add-number
overflow_add-number g c = let few = few_of g.D.Device c.args.self.now c.requires.safe in omega arith

pub begin_op-requires-clause-pool : goal.begin_op-requires-clause-pool
begin_op-requires-clause-pool g c = (steady_of g.D.Device c.args.self.now c.requires.safe).frames

pub returns-in_default-2-clause-nothing : goal.returns-in_default-2-clause-nothing
returns-in_default-2-clause-nothing g c = λ is. let k = c.args.self.now in
    let x = last_entry (last_effect c.args.txn k.live.standing) c.in-Some.last.op.now c.in-Some.last.reply.now c.in-Some.ensures.last in
    let did : is_some (inverse_of x.0.op x.0.reply) ≡ true = last_did c.args.txn k.live.standing x.0 x.1 in
    let none : inverse_of x.0.op x.0.reply ≡ None = (λ i. inverse_of (x.2 i) (x.3 i)) ∙ sym c.in_ok-inverse.ensures.inverse ∙ c.in_default-2.is in
    let here : is_some (inverse_of x.0.op x.0.reply) ≡ false = ap is_some none in absurd cc

pub returns-in-Ok-clause-begins : goal.returns-in-Ok-clause-begins
returns-in-Ok-clause-begins g c = record {
  fewer = λ is. let k = c.args.self.now in let e = c.in-Ok.ensures in let s = c.in-Ok.scope in let t = c.args.txn in
      let x = last_entry (last_effect t k.live.standing) c.in-Some.last.op.now c.in-Some.last.reply.now c.in-Some.ensures.last in
      let r : OpScope = s in let all = pages k.operations.store.pool in
      let back : s.undoes ≢ 0 = ∥∥₁_elim c.requires.safe (hlevel props) (λ (origin, base, safe).
      let number : last_operation (member_of k.live.members t) ≡ Some c.in-Some.last.number = sym c.in-Some.ensures.number in
      let due = undo_fresh g.D.Device origin base k t (k.last + 1) c.in-Some.last.number safe (backwards_open (member_of k.live.members t) c.requires.backwards) (omega arith) number in
      λ zero. due.1 (sym c.get-undoes.ensures ∙ sym e.named.3 ∙ zero)) in
      let n : Core g.row.D.Denot = record k { running = c.push_reserved.new.self; reserved = k.reserved - 106496 } in
      let items = c.push_reserved.ensures.items ∙ ap (λ (rs : List OpScope). rs ++ r ∷ []) c.reserve.ensures.items in
      let now = undo_begun k n r (subst (λ u. All (λ (q : OpScope). q.txn ≢ u) k.running.items) (sym e.named.0) c.requires.idle) back items refl refl in
      let own : undo_steps n t ≡ work_of s + (effects_left all k.live.standing t - (2 * all + 10)) = subst (λ u. undo_steps n u ≡ work_of s + (effects_left all k.live.standing u - (2 * all + 10))) e.named.0 now in
      let before = undo_idle k t c.requires.idle in let work = e.work in
      let cut = cut_left all t k.live.standing x.0 x.1 in omega (arith, own, before, work, cut);
  drawn = search rules;
  same = search rules;
  err_left = search rules;
  undrawn = search rules;
}

pub returns-in_err-reserve-clause-restartable : goal.returns-in_err-reserve-clause-restartable
returns-in_err-reserve-clause-restartable g c = λ origin base later safe_k safe_n r. let k = c.args.self.now in
    store_same g.D.Device origin k (record k { running = c.reserve.new.self }) base later safe_k safe_n refl (record { book = refl; commits = refl }) refl r

pub returns-in-Err-clause-restartable : goal.returns-in-Err-clause-restartable
returns-in-Err-clause-restartable g c = λ origin base later safe_k safe_n r. let k = c.args.self.now in
    store_same g.D.Device origin k (record k { running = c.reserve.new.self }) base later safe_k safe_n refl (record { book = refl; commits = refl }) refl r

pub returns-in-Ok-clause-restartable : goal.returns-in-Ok-clause-restartable
returns-in-Ok-clause-restartable g c = λ origin base later safe_k safe_n r. let k = c.args.self.now in
    store_same g.D.Device origin k (record k { running = c.push_reserved.new.self; last = k.last + 1; reserved = k.reserved - 106496 }) base later safe_k safe_n refl (record { book = refl; commits = refl }) refl r

pub returns-in-Ok-clause-keeps : goal.returns-in-Ok-clause-keeps
returns-in-Ok-clause-keeps g c = record {
  store = search rules;
  locks = search rules;
  live = search rules;
  commits = search rules;
  others = λ u other. let s = c.in-Ok.scope in
      let items = c.push_reserved.ensures.items ∙ ap (λ (rs : List OpScope). rs ++ s ∷ []) c.reserve.ensures.items in
      ap (λ (rs : List OpScope). steps_in rs u) items ∙ steps_push_other c.args.self.now.running.items s u (λ is. other (is ∙ c.in-Ok.ensures.named.0));
}
