use Rattle.std.proofs.Common.{◌≡◌, Bool, Option, Some, None, refl, sym, subst}
use Rattle.std.specs.Bool.{OnTrue, OnFalse}
use Rattle.std.specs.Option.{IfSome, IfNone, is_some}
use Rattle.mt_index.proofs.bucket_split.Halves.put.Goals as goal

on_some : {X : Type 0} (o : Option X) (b : Bool) (P : Type 0) → b ≡ is_some o → IfSome o (λ x. P) → OnTrue b P
on_some (Some x) b P is then = subst (λ (t : Bool). OnTrue t P) (sym is) then
on_some None b P is then = subst (λ (t : Bool). OnTrue t P) (sym is) tt

on_none : {X : Type 0} (o : Option X) (b : Bool) (P : Type 0) → b ≡ is_some o → IfNone o P → OnFalse b P
on_none (Some x) b P is then = subst (λ (t : Bool). OnFalse t P) (sym is) tt
on_none None b P is then = subst (λ (t : Bool). OnFalse t P) (sym is) then

pub returns-then-upper : goal.returns-then-upper
returns-then-upper c = rw c.if-upper.true (record {
  up = (
    record {
      head = c.push.ensures.head;
      pushed = on_some c.push.result c.is_some.result _ c.is_some.ensures c.push.ensures.pushed;
      full = on_none c.push.result c.is_some.result _ c.is_some.ensures c.push.ensures.full;
      unchanged = on_none c.push.result c.is_some.result _ c.is_some.ensures c.push.ensures.unchanged;
      kept = c.push.ensures.kept;
    },
    refl,
  );
  low = tt;
})

pub returns-else-upper : goal.returns-else-upper
returns-else-upper c = rw c.if-upper.false (record {
  up = tt;
  low = (
    record {
      head = c.push-else-upper.ensures.head;
      pushed = on_some c.push-else-upper.result c.is_some-else-upper.result _ c.is_some-else-upper.ensures c.push-else-upper.ensures.pushed;
      full = on_none c.push-else-upper.result c.is_some-else-upper.result _ c.is_some-else-upper.ensures c.push-else-upper.ensures.full;
      unchanged = on_none c.push-else-upper.result c.is_some-else-upper.result _ c.is_some-else-upper.ensures c.push-else-upper.ensures.unchanged;
      kept = c.push-else-upper.ensures.kept;
    },
    refl,
  );
})
