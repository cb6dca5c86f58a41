use Rattle.std.proofs.Common.{◌≡◌, ◌∙◌, true, false, sym}
use Rattle.std.proofs.lemmas.Result.{err_from_is_err_and}
use Rattle.mt_base.specs.declared.refusal.Refusal.TheVariants as refusal
use Rattle.mt_pool.specs.Views.{pages}
use Rattle.mt_alone.proofs.DriveLemmas.{asked, asked_from, roomless, stands_flushed, stands_refused, worn_out}
use Rattle.mt_alone.proofs.operation_steps.ask_step.Goals as goal
use Rattle.mt_alone.proofs.operation_steps.ask_step.Goals.{then-wants_frame+in_ok-make_room, else-wants_frame+else-not-wants_memory}

pub returns-in_err-make_room-clause-moved : goal.returns-in_err-make_room-clause-moved
returns-in_err-make_room-clause-moved g c = λ p calls op start.
    let D = g.D.Device in
    let r = err_from_is_err_and c.from_residual.result c.from_residual.ensures.1 in
    let e = c.step-answer.ensures in
    rw (r.1, r.2) (roomless p c.args.txn calls op c.args.kernel.now c.loop.kernel c.step-answer.new.self c.make_room.new.kernel c.step-answer.result c.in_err-make_room.field-0.0 (c.wants_frame.ensures.0 c.if-wants_frame.true) (c.loop.invariant.stands p calls op start) e.stepped e.leaves.states c.make_room.ensures.eases c.in_err-make_room.ensures.cause)

pub returns-then-not-wants_memory-clause-moved : goal.returns-then-not-wants_memory-clause-moved
returns-then-not-wants_memory-clause-moved g c = λ p calls op start.
    let D = g.D.Device in
    let e = c.step-answer.ensures in
    let stood = c.loop.invariant.stands p calls op start in
    asked_from p c.args.txn calls op c.args.kernel.now c.loop.kernel c.step-answer.new.self c.step-answer.result stood.1
    (asked p c.args.txn calls op c.loop.kernel c.step-answer.new.self c.step-answer.result (pages c.loop.kernel.core.operations.store.pool) stood.0 (λ is. absurd (let no : false ≡ true = sym c.if-wants_frame.false ∙ c.wants_frame.ensures.1 is in cc)) e.stepped e.leaves.states e.moves.work e.moves.other e.cause (λ w is. (e.early w is).1))

pub loop-preserved : goal.loop-preserved
loop-preserved g c =
    let D = g.D.Device in
    let e = c.step-answer.ensures in
    elim c.if-wants_frame.branch [
      | then-wants_frame+in_ok-make_room w ↦ rw w.kernel-is (record {
        stands = λ p calls op start. stands_flushed p c.args.txn calls op c.args.kernel.now c.loop.kernel c.step-answer.new.self w.make_room.new.kernel (pages c.loop.kernel.core.operations.store.pool) c.step-answer.result (c.wants_frame.ensures.0 w.if-wants_frame.true)
            (c.loop.invariant.stands p calls op start) e.stepped e.leaves.states e.moves.work w.make_room.ensures.eases;
        schema = (w.make_room.ensures.schema.0 ∙ e.schema.0 ∙ c.loop.invariant.schema.0, w.make_room.ensures.schema.1 ∙ e.schema.1 ∙ c.loop.invariant.schema.1);
        restarts = λ first r. w.make_room.ensures.restarts first (e.restarts first (c.loop.invariant.restarts first r));
      })
      | else-wants_frame+else-not-wants_memory w ↦ rw w.kernel-is (record {
        stands = λ p calls op start. stands_refused p c.args.txn calls op c.args.kernel.now c.loop.kernel c.step-answer.new.self (pages c.loop.kernel.core.operations.store.pool) c.step-answer.result refusal.NoMemory (w.wants_memory.ensures.0 w.if-not-wants_memory.false)
            (c.loop.invariant.stands p calls op start) e.stepped e.leaves.states e.moves.work;
        schema = (e.schema.0 ∙ c.loop.invariant.schema.0, e.schema.1 ∙ c.loop.invariant.schema.1);
        restarts = λ first r. e.restarts first (c.loop.invariant.restarts first r);
      })
    ]

pub returns-clause-moved : goal.returns-clause-moved
returns-clause-moved g c = λ p calls op start.
    let D = g.D.Device in
    worn_out p c.args.txn calls op c.args.kernel.now c.loop.kernel (c.loop.invariant.stands p calls op start)
