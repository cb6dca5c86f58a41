use Rattle.std.proofs.Common.{◌≡◌, ◌<◌, ◌∙◌, inl, inr, ⊎_elim, length, sym, subst}
use Rattle.std.proofs.lemmas.Result.{IfErr-weaker}
use Rattle.mt_base.specs.declared.refusal.Refusal.{Refusal}
use Rattle.mt_base.specs.declared.refusal.Refusal.TheVariants as refusal
use Rattle.mt_disk.proofs.Frame.{leaves_more}
use Rattle.mt_format.specs.Formats.{FormatBegins}
use Rattle.mt_format.specs.Schemas.{counters_in, device_bytes, relations_in, schema_base}
use Rattle.mt_world.proofs.BeginLemmas.{begun_of, cause_of, if_ok, left_of, long_of}
use Rattle.mt_world.specs.Crashes.{BeginsOrStands, HasFormatted, StandsFirst}
use Rattle.mt_world.proofs.schedules.begin_on.Goals as goal

has_formatted : (g : _) (c : goal.After-open g) → HasFormatted g.D.Device c.args.schema.now c.args.device c.format.new.device
has_formatted g c = record {
  meanwhile = c.format.ensures.moments;
  stands = λ x left. subst (StandsFirst c.args.schema.now) (sym (c.in-Ok.ensures.durable x left)) c.in-Ok.ensures.stands;
}

pub returns-in-Ok : goal.returns-in-Ok
returns-in-Ok g c =
    let D = g.D.Device in let s = c.args.schema.now in
    let stands = c.in-Ok.ensures.stands in
    let opened = c.open.ensures.opened (relations_in s) (length (counters_in s)) (schema_base s) stands in
    let moments = c.open.ensures.moments (relations_in s) (length (counters_in s)) (schema_base s) stands in
    record {
      shows = if_ok c.open.result (λ k o. o.shows) opened;
      restarts = if_ok c.open.result (λ k o. o.restarts) opened;
      schema = if_ok c.open.result (λ k o. (o.relations_are, o.counters_are)) opened;
      begun = begun_of s c.args.device c.format.new.device c.open.result (has_formatted g c) opened moments;
      err = left_of s c.args.device c.format.new.device c.open.result (has_formatted g c) moments;
      cause = cause_of (D.seen c.format.new.device) c.args.device c.format.new.device c.open.result (λ (why : Refusal). (why ≡ refusal.BadLength) × (length (D.seen c.args.device) < device_bytes s)) c.in-Ok.ensures.quiet
          (IfErr-weaker c.open.result _ _ (λ gone x. x.left (relations_in s) (length (counters_in s)) (schema_base s) stands) c.open.ensures.refused) (IfErr-weaker c.open.result _ _ (λ gone x. x.formatted s c.in-Ok.ensures.formatted) c.open.ensures.refused)
          (IfErr-weaker c.open.result _ _ (λ gone x. x.cause) c.open.ensures.refused);
      short = long_of c.args.device c.open.result (IfErr-weaker c.open.result _ _ (λ gone x. x.left (relations_in s) (length (counters_in s)) (schema_base s) stands) c.open.ensures.refused);
    }

pub returns-in-Err : goal.returns-in-Err
returns-in-Err g c =
    let D = g.D.Device in let s = c.args.schema.now in
    record {
      shows = tt;
      restarts = tt;
      schema = tt;
      begun = tt;
      err = leaves_more D.moment D.left_since c.args.device c.format.new.device (FormatBegins s (D.may_leave c.args.device)) (BeginsOrStands s (D.may_leave c.args.device)) c.format.ensures.moments (λ x begins. inl begins);
      cause = inr c.in-Err.ensures.cause;
      short = λ is. ⊎_elim
          (λ (why, less). (c.in-Err.ensures.short less).1)
          (λ (why, more). absurd (let bad : refusal.BadLength ≡ refusal.DeviceFailed = sym is ∙ why in cc))
          c.in-Err.ensures.cause;
    }
