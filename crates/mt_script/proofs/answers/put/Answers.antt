use Rattle.std.proofs.Common.{◌≤◌, ◌+◌, ◌-◌, length, take, drop}
use Rattle.mt_script.proofs.TextLemmas.{appends_more, appends_kept, front_to, left_over}
use Rattle.mt_script.proofs.answers.put.Goals as goal
use Rattle.mt_script.proofs.answers.put.Goals.{in-Ok+else-count-eq0, in-Err+else-ne}

pub returns-then-count-eq0-clause-front : goal.returns-then-count-eq0-clause-front
returns-then-count-eq0-clause-front g c =
    front_to _ _ c.args.bytes.now (c.loop.written + c.in-Ok.count) (appends_more _ _ _ c.args.bytes.now c.loop.written c.in-Ok.count c.loop.invariant.1 c.in-Ok.ensures.bytes)

pub returns-then-ne-clause-front : goal.returns-then-ne-clause-front
returns-then-ne-clause-front g c = front_to _ _ c.args.bytes.now c.loop.written (appends_kept _ _ _ _ c.loop.invariant.1 c.in-Err.ensures.bytes)

pub loop-preserved : goal.loop-preserved
loop-preserved g c =
    let bytes = c.args.bytes.now in
    let done = c.loop.written in
    let within : done ≤ length bytes = c.loop.invariant.0 in
    elim c.match-write.branch [
      | in-Ok+else-count-eq0 w ↦
          let count = w.in-Ok.count in
          let some : count ≤ length (take (length bytes - done) (drop done bytes)) = w.in-Ok.ensures.bound in
          let fits : done + count ≤ length bytes = left_over bytes done count within some in
          rw w.written-is (fits, appends_more _ _ _ bytes done count c.loop.invariant.1 w.in-Ok.ensures.bytes)
      | in-Err+else-ne w ↦ rw w.written-is (within, appends_kept _ _ _ _ c.loop.invariant.1 w.in-Err.ensures.bytes)
    ]

pub returns-clause-front : goal.returns-clause-front
returns-clause-front g c = front_to _ _ c.args.bytes.now c.loop.written c.loop.invariant.1
