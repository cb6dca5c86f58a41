use Rattle.std.proofs.Common.{◌≡◌, ◌*◌, ◌^◌, ◌%◌, ℕ, ap, ◌∙◌, arith}
use Rattle.mt_index.specs.Pages.{depth_in}
use Rattle.mt_index.proofs.Wiring.{none_so_far, more_so_far, few_pointers}
use Rattle.mt_index.proofs.directory.redirect.Goals as goal

pub loop-i-init : goal.loop-i-init
loop-i-init c = none_so_far c.args.from c.args.to c.args.bit c.args.directory.now

pub redirect_one-requires-clause-there : goal.redirect_one-requires-clause-there
redirect_one-requires-clause-there c =
    let is = c.depth.ensures in
    let few = few_pointers c.depth.result (omega arith) in
    let lt = c.loop-i-test.true in
    let n = few.0 in
    let m = few.1 in
    omega arith

pub loop-i-preserved : goal.loop-i-preserved
loop-i-preserved c =
    let is = c.depth.ensures in
    let few = few_pointers c.depth.result (omega arith) in
    let n : 1 * 2 ^ c.depth.result % 65536 ≡ 2 ^ depth_in c.args.directory.now = few.0 ∙ ap (λ (x : ℕ). 2 ^ x) is in
    more_so_far c.args.from c.args.to c.args.bit c.args.directory.now c.loop-i.directory c.redirect_one.new.directory c.loop-i.i c.loop-i.invariant
    (let lt = c.loop-i-test.true in omega arith) c.redirect_one.ensures.pointer c.redirect_one.ensures.rest

pub returns : goal.returns
returns c =
    let is = c.depth.ensures in
    let few = few_pointers c.depth.result (omega arith) in
    let n : 1 * 2 ^ c.depth.result % 65536 ≡ 2 ^ depth_in c.args.directory.now = few.0 ∙ ap (λ (x : ℕ). 2 ^ x) is in
    record {
      rest = c.loop-i.invariant.rest;
      each = λ k lt. c.loop-i.invariant.done k (let last = c.loop-i-test.false in omega arith);
    }
