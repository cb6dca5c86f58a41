use Rattle.std.proofs.Common.{◌+◌, ◌∙◌, ℕ, false, get_or, Option, sym, ap, subst, arith}
use Rattle.std.specs.Prelude.{IfSome}
use Rattle.mt_pool.specs.Chance.{IsClean}
use Rattle.std.proofs.lemmas.List.{get_or_default}
use Rattle.mt_pool.specs.declared.pool.Pool.{Pool}
use Rattle.mt_pool.proofs.pool.Pool.pass.Goals as goal

pub returns-then-not-index-2 : goal.returns-then-not-index-2
returns-then-not-index-2 c =
    let s = c.args.self.now in let i = c.loop-frame.invariant in let f = c.loop-frame.frame in let found = c.index.result.now in
    let dirty = c.requires.pool.dirty in
    let inside = c.requires.inside in
    record {
      came = (omega arith, get_or_default s.dirty.items f false found (omega arith) ∙ sym (ap (λ (p : Pool). get_or p.dirty.items f found) i.same) ∙ sym c.index.ensures ∙ c.if-not-index.true);
      still = λ is. absurd cc;
      rest = (_, f + 1, ap (λ (p : Pool). record p { hand = f + 1 }) i.same, i.used, omega arith);
    }

pub returns-in-Some : goal.returns-in-Some
returns-in-Some c =
    let i = c.loop-frame.invariant in
    record {
      came = subst (λ (o : Option ℕ). IfSome o (IsClean c.args.self.now)) c.in-Some.is i.some;
      still = λ is. absurd cc;
      rest = (c.loop-frame.self.used, c.loop-frame.self.hand, i.same, i.used, i.hand);
    }

pub returns-in-None : goal.returns-in-None
returns-in-None c =
    let i = c.loop-frame.invariant in
    record {
      came = λ f low high. i.none c.in-None.is f low (omega (arith, low, high));
      still = λ is. i.still c.in-None.is;
      rest = (c.loop-frame.self.used, c.loop-frame.self.hand, i.same, i.used, i.hand);
    }
