-- The bytes in use, by the fields that count them.
use Rattle.std.proofs.Common.{[], ◌∷◌, length-append, ◌≡◌, ◌+◌, ◌-◌, ◌*◌, vec_len, length, refl, sym, ap, ◌∙◌, arith, length-drop}
use Rattle.std.proofs.lemmas.List.Concat.{flat_map-append, flat_map-cons}
use Rattle.mt_frame.specs.Grammar.{body_text, record_text}
use Rattle.mt_frame.specs.Lengths.{record_length}
use Rattle.mt_frame.specs.declared.records.Record.{Record}
use Rattle.mt_frame.proofs.TextLengths.{length-record_text}
use Rattle.mt_log.specs.Area.{gate_behind}
use Rattle.mt_log.specs.Seen.{LogSeen, bytes_in, with_record}
use Rattle.mt_log.specs.Words.{seen_of, used}
use Rattle.mt_log.specs.declared.log.Log.{Log}
use Rattle.mt_log.specs.declared.stage.Stage.{Stage}
use Rattle.mt_log.specs.declared.stage.Stage.TheVariants.{Idle, Forcing, Failed}

behind_is : (log : Log) (stage : Stage) → log.stage ≡ stage → gate_behind stage log.next log.in_flight.items ≡ log.behind
behind_is log Idle is = sym (log.at_rest is).place
behind_is log (Forcing step) is = sym (log.under_way (λ no. let bad = sym is ∙ no in cc)).place
behind_is log Failed is = sym (log.under_way (λ no. let bad = sym is ∙ no in cc)).place

pub used-fields : (log : Log) → used log ≡ (log.behind - log.place.start) + 5 * log.waiting_count + (vec_len log.pending - 4)
unfolding seen_of bytes_in
used-fields log = omega (arith, behind_is log log.stage refl, log.counted, ap length log.text, length-drop 4 log.pending.items, log.pending.ok.0)

-- a record more waits
pub bytes-with_record : (it : LogSeen) (entry : Record) → bytes_in (with_record it entry) ≡ bytes_in it + 5 + record_length entry
unfolding bytes_in
bytes-with_record it entry = omega (arith, length-append it.waits (entry ∷ []), ap length (flat_map-append record_text it.waits (entry ∷ [])), length-append (body_text it.waits) (body_text (entry ∷ [])), ap length (flat_map-cons record_text entry []), length-append (record_text entry) (body_text []), length-record_text entry)
