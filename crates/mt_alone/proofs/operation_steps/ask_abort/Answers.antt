use Rattle.std.proofs.Common.{◌≡◌, ◌∙◌, true, false, sym}
use Rattle.std.proofs.lemmas.Result.{err_from_is_err_and}
use Rattle.mt_base.specs.declared.refusal.Refusal.TheVariants as refusal
use Rattle.mt_pool.specs.Views.{pages}
use Rattle.mt_alone.proofs.DriveLemmas.{asked_back, back_from, goes_roomless, goes_flushed, goes_refused, goes_no_more}
use Rattle.mt_alone.proofs.operation_steps.ask_abort.Goals as goal
use Rattle.mt_alone.proofs.operation_steps.ask_abort.Goals.{then-abort_wants_frame+in_ok-make_room, else-abort_wants_frame+else-not-wants_memory}

pub returns-in_err-make_room-clause-backed : goal.returns-in_err-make_room-clause-backed
returns-in_err-make_room-clause-backed g c = λ p start.
    let D = g.D.Device in
    let r = err_from_is_err_and c.from_residual.result c.from_residual.ensures.1 in
    let e = c.abort_step-answer.ensures in
    rw (r.1, r.2) (goes_roomless p c.args.txn c.args.kernel.now c.loop.kernel c.abort_step-answer.new.self c.make_room.new.kernel c.abort_step-answer.result c.in_err-make_room.field-0.0 (c.abort_wants_frame.ensures.0 c.if-abort_wants_frame.true) (c.loop.invariant.goes p start) e.aborted e.leaves.states c.make_room.ensures.eases c.in_err-make_room.ensures.cause)

pub returns-then-not-wants_memory-clause-backed : goal.returns-then-not-wants_memory-clause-backed
returns-then-not-wants_memory-clause-backed g c = λ p start.
    let D = g.D.Device in
    let e = c.abort_step-answer.ensures in
    let stood = c.loop.invariant.goes p start in
    back_from p c.args.txn c.args.kernel.now c.loop.kernel c.abort_step-answer.new.self c.abort_step-answer.result stood.1
    (asked_back p c.args.txn c.loop.kernel c.abort_step-answer.new.self c.abort_step-answer.result (pages c.loop.kernel.core.operations.store.pool) stood.0 (λ is. absurd (let no : false ≡ true = sym c.if-abort_wants_frame.false ∙ c.abort_wants_frame.ensures.1 is in cc)) e.aborted e.leaves.states e.moves.work e.moves.other e.cause (λ w is. (e.early w is).1))

pub loop-preserved : goal.loop-preserved
loop-preserved g c =
    let D = g.D.Device in
    let e = c.abort_step-answer.ensures in
    elim c.if-abort_wants_frame.branch [
      | then-abort_wants_frame+in_ok-make_room w ↦ rw w.kernel-is (record {
        goes = λ p start. goes_flushed p c.args.txn c.args.kernel.now c.loop.kernel c.abort_step-answer.new.self w.make_room.new.kernel (pages c.loop.kernel.core.operations.store.pool) c.abort_step-answer.result (c.abort_wants_frame.ensures.0 w.if-abort_wants_frame.true)
            (c.loop.invariant.goes p start) e.aborted e.leaves.states e.moves.work w.make_room.ensures.eases;
        schema = (w.make_room.ensures.schema.0 ∙ e.schema.0 ∙ c.loop.invariant.schema.0, w.make_room.ensures.schema.1 ∙ e.schema.1 ∙ c.loop.invariant.schema.1);
        restarts = λ first r. w.make_room.ensures.restarts first (e.restarts first (c.loop.invariant.restarts first r));
      })
      | else-abort_wants_frame+else-not-wants_memory w ↦ rw w.kernel-is (record {
        goes = λ p start. goes_refused p c.args.txn c.args.kernel.now c.loop.kernel c.abort_step-answer.new.self (pages c.loop.kernel.core.operations.store.pool) c.abort_step-answer.result refusal.NoMemory (w.wants_memory.ensures.0 w.if-not-wants_memory.false)
            (c.loop.invariant.goes p start) e.aborted e.leaves.err_states e.moves.work;
        schema = (e.schema.0 ∙ c.loop.invariant.schema.0, e.schema.1 ∙ c.loop.invariant.schema.1);
        restarts = λ first r. e.restarts first (c.loop.invariant.restarts first r);
      })
    ]

pub returns-clause-backed : goal.returns-clause-backed
returns-clause-backed g c = λ p start.
    let D = g.D.Device in
    goes_no_more p c.args.txn c.args.kernel.now c.loop.kernel (c.loop.invariant.goes p start)
