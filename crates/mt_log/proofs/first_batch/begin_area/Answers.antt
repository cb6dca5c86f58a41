use Rattle.std.proofs.Common.{Result, Ok, Err, IfOk, ◌-◌, [], inl, ◌∙◌, ap, arith}
use Rattle.mt_disk.proofs.Frame.{started, torn_refl}
use Rattle.mt_log.proofs.Frames.{frame_none}
use Rattle.mt_log.specs.Seen.{LogSeen, landed}
use Rattle.mt_log.proofs.Begun.{begun_empty}
use Rattle.mt_log.proofs.first_batch.begin_area.Goals as goal

if_ok : {T E : Type 0} {P Q : T → Type 0} (r : Result T E) → ((x : T) → P x → Q x) → IfOk r P → IfOk r Q
if_ok (Ok x) f p = f x p
if_ok (Err e) f p = tt

pub begin_prepared-requires-clause-prepared : goal.begin_prepared-requires-clause-prepared
begin_prepared-requires-clause-prepared g c = (c.args.place, [], c.in_ok-prepared.ensures.first)

pub begin_prepared-requires-clause-within : goal.begin_prepared-requires-clause-within
begin_prepared-requires-clause-within g c = let w = c.requires in let end = ap (λ (x : LogSeen). x.end) c.in_ok-prepared.ensures.first.seen in omega (arith, end)

pub returns-in_err-prepared-clause-begins : goal.returns-in_err-prepared-clause-begins
returns-in_err-prepared-clause-begins g c = let d = c.args.device.now in
    started g.D.Device.moment g.D.Device.left_since d _ (λ k left. inl (k, g.met.D.Device.only_now d k left, torn_refl c.args.place.start 1 k))

pub returns-in_err-prepared-clause-moments : goal.returns-in_err-prepared-clause-moments
returns-in_err-prepared-clause-moments g c =
    frame_none g.D.Device g.met.D.Device.only_now c.args.place.start (c.args.place.end - c.args.place.start) c.args.device.now

pub returns-clause-begins : goal.returns-clause-begins
returns-clause-begins g c = c.begin_prepared.ensures.begins c.args.place [] c.in_ok-prepared.ensures.first

pub returns-clause-begun : goal.returns-clause-begun
returns-clause-begun g c = c.begin_prepared.ensures.begun c.args.place [] c.in_ok-prepared.ensures.first

pub returns-clause-moments : goal.returns-clause-moments
returns-clause-moments g c = c.begin_prepared.ensures.moments c.args.place [] c.in_ok-prepared.ensures.first

pub returns-clause-elsewhere : goal.returns-clause-elsewhere
returns-clause-elsewhere g c = c.begin_prepared.ensures.elsewhere c.args.place [] c.in_ok-prepared.ensures.first

pub returns-clause-rest : goal.returns-clause-rest
returns-clause-rest g c = c.begin_prepared.ensures.rest c.args.place [] c.in_ok-prepared.ensures.first

pub returns-clause-log : goal.returns-clause-log
returns-clause-log g c = if_ok c.begin_prepared.result (λ log is. is ∙ ap landed c.in_ok-prepared.ensures.first.seen ∙ begun_empty c.args.place) c.begin_prepared.ensures.log
