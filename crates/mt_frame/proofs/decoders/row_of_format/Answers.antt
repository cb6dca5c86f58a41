use Rattle.mt_frame.specs.Grammar.{AreOfFormat}
use Rattle.std.proofs.Common.{subst, sym, ◌∙◌}
use Rattle.mt_frame.proofs.Rows.{one_body}
use Rattle.mt_frame.proofs.decoders.row_of_format.Goals as goal

-- the bytes are the row of one list of records, and that one is not of the format
pub returns-then-not-are_of_format-clause-wrong : goal.returns-then-not-are_of_format-clause-wrong
returns-then-not-are_of_format-clause-wrong c = λ _ records of_format.
    let same = one_body c.args.bytes.now records c.in_ok-records.records.items of_format.row c.in_ok-records.ensures.found in
    c.are_of_format.ensures.no c.if-not-are_of_format.true
    (subst (AreOfFormat c.args.format) (same ∙ sym c.deref.ensures.value) of_format.values)
