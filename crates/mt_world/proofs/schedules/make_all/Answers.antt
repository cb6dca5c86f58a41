use Rattle.std.proofs.Common.{◌≡◌, ◌<◌, ◌∙◌, [], ℕ, List, add-one, ap, arith, length, refl, suc, sym, subst, take}
use Rattle.std.proofs.Math.Seq.{take-length}
use Rattle.mt_world.proofs.CrashLemmas.{since_itself}
use Rattle.mt_world.proofs.StandingLemmas.{RunsTo, found_to, has_run_to, runs_next, runs_none, schema_more}
use Rattle.mt_world.specs.declared.events.Answer.{Answer}
use Rattle.mt_world.specs.declared.events.Event.{Event}
use Rattle.mt_restart.specs.declared.standing.Standing.TheVariants.{Stands}
use Rattle.mt_world.proofs.schedules.make_all.Goals as goal
use Rattle.mt_txn.specs.Shown.{kernel_device}

pub loop-event-init : goal.loop-event-init
loop-event-init g c =
    let D = g.D.Device in let k = c.args.kernel in
    record {
      runs = λ since first shows starts finds.
          subst (λ (as' : List Answer). RunsTo D g.met.D.Device.only_now k.relations k.counters since first [] as' (Stands k)) (sym c.requires.none)
          (runs_none D g.met.D.Device.only_now k.relations k.counters since first k shows starts finds (refl, refl));
      schema = (refl, refl);
      room = let room = c.requires.room in omega arith;
    }

pub loop-event-preserved : goal.loop-event-preserved
loop-event-preserved g c =
    let D = g.D.Device in let k = c.args.kernel in let events = c.args.events.now in let at = c.loop-event.event-index in let goes = c.make-next.ensures in
    let lt : at < length events = omega arith in
    rw add-one (record {
      runs = λ since first shows starts finds.
          subst (λ (as' : List Answer). RunsTo D g.met.D.Device.only_now k.relations k.counters since first (take (suc at) events) as' c.make-next.result.0) (sym c.push_reserved.ensures.items)
          (runs_next D g.met.D.Device.only_now k.relations k.counters since first events at c.loop-event.answers.items c.loop-event.standing c.make-next.result.0 c.event-item.result c.make-next.result.1 lt c.event-item.is goes
          (c.loop-event.invariant.runs since first shows starts finds));
      schema = schema_more D g.met.D.Device.only_now k.relations k.counters c.loop-event.standing c.make-next.result.0 c.event-item.result c.make-next.result.1 goes c.loop-event.invariant.schema;
      room = let room = c.loop-event.invariant.room in let len = c.push_reserved.ensures.len in let capacity = c.push_reserved.ensures.capacity in omega arith;
    })

pub returns-clause-ran : goal.returns-clause-ran
returns-clause-ran g c =
    let D = g.D.Device in let k = c.args.kernel in let events = c.args.events.now in let at = c.loop-event.event-index in
    let last : at ≡ length events = omega arith in
    let all : take at events ≡ events = ap (λ (i : ℕ). take i events) last ∙ take-length events in
    λ first shows starts.
    let since = kernel_device k in
    let finds = since_itself g.met.D.Device.only_now since first k refl starts k.schema in
    has_run_to D g.met.D.Device.only_now k.relations k.counters since first events c.loop-event.answers.items c.loop-event.standing
    (subst (λ (es : List Event). RunsTo D g.met.D.Device.only_now k.relations k.counters since first es c.loop-event.answers.items c.loop-event.standing) all (c.loop-event.invariant.runs since first shows starts finds))

pub returns-clause-moments : goal.returns-clause-moments
returns-clause-moments g c =
    let D = g.D.Device in let k = c.args.kernel in let events = c.args.events.now in let at = c.loop-event.event-index in
    let last : at ≡ length events = omega arith in
    let all : take at events ≡ events = ap (λ (i : ℕ). take i events) last ∙ take-length events in
    λ since first shows starts finds. found_to D g.met.D.Device.only_now k.relations k.counters since first events c.loop-event.answers.items c.loop-event.standing
    (subst (λ (es : List Event). RunsTo D g.met.D.Device.only_now k.relations k.counters since first es c.loop-event.answers.items c.loop-event.standing) all (c.loop-event.invariant.runs since first shows starts finds))
