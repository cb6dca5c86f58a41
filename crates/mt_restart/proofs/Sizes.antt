-- How long the bodies of batches are, record by record.
use Rattle.std.proofs.Common.{◌≡◌, ℕ, zero, suc, ◌+◌, ◌<◌, ◌≤◌, List, [], ◌∷◌, length, take, get_or, ap, ◌∙◌, sym, arith, length-append}
use Rattle.std.proofs.lemmas.List.{flat_map_more}
use Rattle.mt_frame.specs.Grammar.{body_text, record_text}
use Rattle.mt_frame.specs.Lengths.{record_length}
use Rattle.mt_frame.specs.declared.records.Record.{Record}
use Rattle.mt_frame.proofs.TextLengths.{length-record_text}
use Rattle.mt_replay.proofs.Walking.{take_next}

pub body_more : (rs : List Record) (i : ℕ) (r : Record) → i < length rs → r ≡ get_or rs i r → length (body_text (take (i + 1) rs)) ≡ length (body_text (take i rs)) + record_length r
body_more rs i r lt is =
    ap (λ (qs : List Record). length (body_text qs)) (take_next rs i r lt is)
    ∙ sym (ap length (flat_map_more record_text [] (take i rs) r))
    ∙ length-append (body_text (take i rs)) (record_text r)
    ∙ ap (λ (n : ℕ). length (body_text (take i rs)) + n) (length-record_text r)

pub body_part : (i : ℕ) (rs : List Record) → length (body_text (take i rs)) ≤ length (body_text rs)
body_part zero rs = omega arith
body_part (suc i) [] = omega arith
body_part (suc i) (r ∷ rs) =
    let rest = body_part i rs in omega (arith, length-append (record_text r) (body_text (take i rs)), length-append (record_text r) (body_text rs))
