use Rattle.std.proofs.Common.{arith, inl}
use Rattle.mt_slots.proofs.record_changes.replace_live.Goals as goal

pub place_row-requires-clause-place : goal.place_row-requires-clause-place
place_row-requires-clause-place c =
    let behind = (c.requires.shaped.each c.args.i c.requires.there).behind c.requires.live in
    let counted = c.clear.ensures.sets.counted in
    let there = c.requires.there in
    let freed = c.clear.ensures.freed in
    let live = c.walk-live.ensures.live_is in
    let mid = c.clear.ensures.shaped in
    let total = mid.room in
    record {
      opens = inl (omega arith, c.clear.ensures.empty, omega arith);
      low = omega arith;
      high = omega arith;
      free = grind arith;
      behind = λ j lt ne alive. let b = (mid.each j lt).behind alive in omega arith;
      room = omega arith;
    }
