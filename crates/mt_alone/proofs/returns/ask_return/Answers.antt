use Rattle.std.proofs.Common.{◌≡◌, ◌∙◌, true, false, sym}
use Rattle.std.proofs.lemmas.Result.{err_from_is_err_and}
use Rattle.mt_base.specs.declared.refusal.Refusal.TheVariants as refusal
use Rattle.mt_pool.specs.Views.{pages}
use Rattle.mt_alone.proofs.ReturnLemmas.{asked_return, nearer_from, returns_roomless, returns_flushed, returns_refused, returns_no_more}
use Rattle.mt_alone.proofs.returns.ask_return.Goals as goal
use Rattle.mt_alone.proofs.returns.ask_return.Goals.{then-abort_wants_frame+in_ok-make_room, else-abort_wants_frame+else-not-wants_memory}

pub returns-in_err-make_room-clause-neared : goal.returns-in_err-make_room-clause-neared
returns-in_err-make_room-clause-neared g c = λ p n had start.
    let D = g.D.Device in
    let r = err_from_is_err_and c.from_residual.result c.from_residual.ensures.1 in
    let e = c.back_step-answer.ensures in
    rw (r.1, r.2) (returns_roomless p c.args.txn n had c.args.kernel.now c.loop.kernel c.back_step-answer.new.self c.make_room.new.kernel c.back_step-answer.result c.in_err-make_room.field-0.0 (c.abort_wants_frame.ensures.0 c.if-abort_wants_frame.true) (c.loop.invariant.goes p n had start) e.returned e.leaves.states c.make_room.ensures.eases c.in_err-make_room.ensures.cause)

pub returns-then-not-wants_memory-clause-neared : goal.returns-then-not-wants_memory-clause-neared
returns-then-not-wants_memory-clause-neared g c = λ p n had start.
    let D = g.D.Device in
    let e = c.back_step-answer.ensures in
    let stood = c.loop.invariant.goes p n had start in
    nearer_from p c.args.txn n had c.args.kernel.now c.loop.kernel c.back_step-answer.new.self c.back_step-answer.result stood.1
    (asked_return p c.args.txn n had c.loop.kernel c.back_step-answer.new.self c.back_step-answer.result (pages c.loop.kernel.core.operations.store.pool) stood.0 (λ is. absurd (let no : false ≡ true = sym c.if-abort_wants_frame.false ∙ c.abort_wants_frame.ensures.1 is in cc)) e.returned e.leaves.states (λ many at is. (e.leaves.ends is many at).0) e.moves.work e.moves.other e.cause (λ w is. (e.early w is).1))

pub loop-preserved : goal.loop-preserved
loop-preserved g c =
    let D = g.D.Device in
    let e = c.back_step-answer.ensures in
    elim c.if-abort_wants_frame.branch [
      | then-abort_wants_frame+in_ok-make_room w ↦ rw w.kernel-is (record {
        goes = λ p n had start. returns_flushed p c.args.txn n had c.args.kernel.now c.loop.kernel c.back_step-answer.new.self w.make_room.new.kernel (pages c.loop.kernel.core.operations.store.pool) c.back_step-answer.result (c.abort_wants_frame.ensures.0 w.if-abort_wants_frame.true)
            (c.loop.invariant.goes p n had start) e.returned e.leaves.states e.moves.work w.make_room.ensures.eases;
        schema = (w.make_room.ensures.schema.0 ∙ e.schema.0 ∙ c.loop.invariant.schema.0, w.make_room.ensures.schema.1 ∙ e.schema.1 ∙ c.loop.invariant.schema.1);
        restarts = λ first r. w.make_room.ensures.restarts first (e.restarts first (c.loop.invariant.restarts first r));
      })
      | else-abort_wants_frame+else-not-wants_memory w ↦ rw w.kernel-is (record {
        goes = λ p n had start. returns_refused p c.args.txn n had c.args.kernel.now c.loop.kernel c.back_step-answer.new.self (pages c.loop.kernel.core.operations.store.pool) c.back_step-answer.result refusal.NoMemory (w.wants_memory.ensures.0 w.if-not-wants_memory.false)
            (c.loop.invariant.goes p n had start) e.returned e.leaves.err_states e.moves.work;
        schema = (e.schema.0 ∙ c.loop.invariant.schema.0, e.schema.1 ∙ c.loop.invariant.schema.1);
        restarts = λ first r. e.restarts first (c.loop.invariant.restarts first r);
      })
    ]

pub returns-clause-neared : goal.returns-clause-neared
returns-clause-neared g c = λ p n had start.
    let D = g.D.Device in
    returns_no_more p c.args.txn n had c.args.kernel.now c.loop.kernel (c.loop.invariant.goes p n had start)
