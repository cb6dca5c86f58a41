use Rattle.mt_args.proofs.SpellingLemmas.{bounds_read, no_colon, one_colon}
use Rattle.mt_args.proofs.numbers.bounds_of.Goals as goal

pub returns-in_default : goal.returns-in_default
returns-in_default c = no_colon c.args.bytes.now c.in_default.ensures.none

pub returns-in_default-split_at_colon : goal.returns-in_default-split_at_colon
returns-in_default-split_at_colon c =
    one_colon c.args.bytes.now c.in-Some.low.now c.in-Some.rest.now c.in-Some.ensures.found.0 c.in-Some.ensures.found.1 c.in_default-split_at_colon.ensures.none

pub returns : goal.returns
returns c =
    let outer = c.in-Some.ensures.found in
    let inner = c.in-Some-split_at_colon.ensures.found in
    bounds_read c.args.bytes.now c.in-Some.low.now c.in-Some.rest.now c.in-Some-split_at_colon.high.now c.in-Some-split_at_colon.start.now c.three_of.result outer.0 outer.1 inner.0 inner.1 c.three_of.ensures
