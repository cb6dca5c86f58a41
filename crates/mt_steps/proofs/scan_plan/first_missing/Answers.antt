use Rattle.std.proofs.Common.{false, refl, arith}
use Rattle.std.proofs.lemmas.List.{get_or-replicate}
use Rattle.mt_steps.proofs.scan_plan.first_missing.Goals as goal

pub loop-i-init : goal.loop-i-init
loop-i-init g c = record {
  ready = λ i d from to. absurd (omega (arith, from, to));
  seen = λ p inside is. let never = get_or-replicate 4000 p false false inside in absurd cc;
  same = refl;
}
