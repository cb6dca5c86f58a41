use Rattle.std.proofs.Common.{◌<◌, ◌+◌, ◌∙◌, ◌≡◌, ap, length, length-append, arith, refl, string_bytes}
use Rattle.mt_base.specs.declared.refusal.Refusal.TheVariants as refusal
use Rattle.mt_report.specs.declared.read_faults.ReadFault.TheVariants.{Refused}
use Rattle.mt_cli.proofs.ReadLemmas.{at_first, at_more, many_before, names_about, no_memory, not_more}
use Rattle.mt_cli.proofs.named_inputs.scripts_of.Goals as goal

pub loop-name-init : goal.loop-name-init
loop-name-init g c = rw c.new-scripts.ensures.items (refl, at_first (g.F.Folder.files c.args.folder.now) (g.I.Read.remaining c.args.input.now))

pub returns-in-Err-clause-unread : goal.returns-in-Err-clause-unread
returns-in-Err-clause-unread g c =
    let lt : c.loop-name.name-index < length c.args.names.now = omega arith in
    let place : c.loop-name.name-index ≡ c.len-at.result = omega arith in
    not_more _ _ _ _ _ _ _ _ _ c.len-at.result c.in-Err.why (names_about (λ n. string_bytes n) c.args.names.now c.loop-name.name-index c.name-item.result lt c.name-item.is)
    (many_before (λ n. string_bytes n) c.args.names.now c.loop-name.name-index lt ∙ place) c.loop-name.invariant.1 (rw c.as_str.ensures.value at c.in-Err.ensures.unread)

pub returns-in-Err-push-clause-unread : goal.returns-in-Err-push-clause-unread
returns-in-Err-push-clause-unread g c =
    let lt : c.loop-name.name-index < length c.args.names.now = omega arith in
    let place : c.loop-name.name-index ≡ c.len-at.result = omega arith in
    not_more _ _ _ _ _ _ _ _ _ c.len-at.result (Refused refusal.NoMemory) (names_about (λ n. string_bytes n) c.args.names.now c.loop-name.name-index c.name-item.result lt c.name-item.is)
    (many_before (λ n. string_bytes n) c.args.names.now c.loop-name.name-index lt ∙ place) c.loop-name.invariant.1 (no_memory _)

pub loop-name-preserved : goal.loop-name-preserved
loop-name-preserved g c =
    let lt : c.loop-name.name-index < length c.args.names.now = omega arith in
    rw c.in-Ok-push.ensures.items (
      length-append _ _ ∙ ap (λ n. n + 1) c.loop-name.invariant.0,
      at_more (λ n. string_bytes n) c.args.names.now c.loop-name.name-index c.name-item.result c.loop-name.scripts.items c.in-Ok.script _ _ _ _ _ _ lt c.name-item.is c.loop-name.invariant.1
          (rw c.as_str.ensures.value at c.in-Ok.ensures.read) c.in-Ok.ensures.kept,
    )
