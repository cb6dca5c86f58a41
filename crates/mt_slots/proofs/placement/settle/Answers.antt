use Rattle.std.proofs.Common.{subst, arith}
use Rattle.mt_slots.specs.Page.{IsFree}
use Rattle.mt_slots.proofs.Settling.{low_place, packed_place, sets_packed}
use Rattle.mt_slots.proofs.placement.settle.Goals as goal

pub place_row-requires-clause-place : goal.place_row-requires-clause-place
place_row-requires-clause-place c =
    let is = c.requires.live in
    low_place c.args.page.now c.args.i c.args.slots _ _ c.args.found.low c.requires.shaped c.requires.opens
    (omega arith) c.requires.high c.requires.lowest (omega arith) (omega arith)

pub place_row-requires-in-Some-clause-place : goal.place_row-requires-in-Some-clause-place
place_row-requires-in-Some-clause-place c =
    let is = c.requires.live in
    let at = c.in-Some.ensures.found in
    record {
      opens = c.requires.opens;
      low = at.0;
      high = let h = at.1 in omega arith;
      free = subst (IsFree c.args.page.now c.args.i c.in-Some.at) c.row_bytes-bytes.ensures at.2;
      behind = λ j lt ne alive. let o = c.requires.lowest j lt alive in omega arith;
      room = omega arith;
    }

pub place_row-requires-2-clause-place : goal.place_row-requires-2-clause-place
place_row-requires-2-clause-place c =
    let is = c.requires.live in
    packed_place c.args.page.now c.compact.new.page c.args.i c.args.slots _ _
    c.compact.ensures.shaped c.compact.ensures.same c.requires.opens (omega arith) (omega arith)

pub returns-clause-puts : goal.returns-clause-puts
returns-clause-puts c = let p = c.place_row-2.ensures.puts in let same = c.compact.ensures.same in
    record {
      shaped = p.shaped;
      sets = sets_packed c.args.page.now c.compact.new.page c.place_row-2.new.page c.args.i c.args.slots _ same p.sets;
      live = let live = p.live in let before = same.live in omega arith;
    }
