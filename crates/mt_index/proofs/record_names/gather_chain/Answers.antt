use Rattle.std.proofs.Common.{◌∙◌, inr, refl, sym, arith, [], append-nil}
use Rattle.mt_index.proofs.Bucketwise.{extends_more, gathering_start, gathering_kind, gathering_more, gathering_done, gathering_ends}
use Rattle.mt_index.proofs.record_names.gather_chain.Goals as goal

pub loop-step-init : goal.loop-step-init
loop-step-init g c = record {
  longer = ([], sym (append-nil c.args.names.now.items));
  gathers = λ pages agree m a. let n = c.requires.named pages agree m a in gathering_start _ pages m c.args.bucket c.args.relation n.0 c.args.names.now.items a n.1;
}

pub returns-in_default-clause-gathers : goal.returns-in_default-clause-gathers
returns-in_default-clause-gathers g c = record {
  missing = c.in_default.ensures.none;
  role = λ pages agree m a. let n = c.requires.named pages agree m a in (inr (gathering_kind _ pages m c.args.bucket _ _ _ n.0 _ _ a n.1 (c.loop-step.invariant.gathers pages agree m a)), refl);
}

pub returns-in_err-gather_page-clause-longer : goal.returns-in_err-gather_page-clause-longer
returns-in_err-gather_page-clause-longer g c = extends_more c.args.names.now.items c.loop-step.names.items c.gather_page.new.names.items c.loop-step.invariant.longer c.gather_page.ensures.longer

pub returns-then-get-eq0-clause-longer : goal.returns-then-get-eq0-clause-longer
returns-then-get-eq0-clause-longer g c = extends_more c.args.names.now.items c.loop-step.names.items c.gather_page.new.names.items c.loop-step.invariant.longer c.gather_page.ensures.longer

pub returns-then-get-eq0-clause-gathers : goal.returns-then-get-eq0-clause-gathers
returns-then-get-eq0-clause-gathers g c pages agree m a =
    gathering_done pages c.args.bucket _ _ _ c.in-Some.page.now _ _ _ (c.loop-step.invariant.gathers pages agree m a) (agree c.loop-step.at c.in-Some.page.now c.in-Some.ensures.some)
    c.in_ok-gather_page.ensures.names (sym c.next-following.ensures ∙ sym c.get.ensures ∙ c.if-get-eq0.true)

pub loop-step-preserved : goal.loop-step-preserved
loop-step-preserved g c = record {
  longer = extends_more c.args.names.now.items c.loop-step.names.items c.gather_page.new.names.items c.loop-step.invariant.longer c.gather_page.ensures.longer;
  gathers = λ pages agree m a.
      gathering_more pages c.args.bucket _ _ _ _ c.in-Some.page.now _ _ _ (c.loop-step.invariant.gathers pages agree m a) (agree c.loop-step.at c.in-Some.page.now c.in-Some.ensures.some)
      c.in_ok-gather_page.ensures.names c.next-following.ensures (λ e. c.if-get-eq0.false (c.get.ensures ∙ e));
}

pub returns-clause-gathers : goal.returns-clause-gathers
returns-clause-gathers g c pages agree m a =
    let n = c.requires.named pages agree m a in
    gathering_ends _ pages m c.args.bucket _ _ _ n.0 _ _ a n.1 (c.loop-step.invariant.gathers pages agree m a) (let last = c.loop-step-test.false in let end = c.count-step-end.ensures in omega (arith, last, end))
