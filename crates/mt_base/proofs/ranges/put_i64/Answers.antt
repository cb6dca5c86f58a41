use Rattle.std.proofs.Common.{◌∙◌, ap, refl}
use Rattle.std.specs.Int.{w64, cast_unsigned}
use Rattle.std.proofs.lemmas.Int.{to_z-of_z}
use Rattle.mt_base.proofs.EightBytes.{number_back}
use Rattle.mt_base.proofs.ranges.put_i64.Goals as goal

pub returns-clause-number : goal.returns-clause-number
returns-clause-number c =
    let back = to_z-of_z w64 c.args.number c.ranges.number in
    number_back c.put.new.page c.write_u64.new.buf _ c.args.at c.cast_unsigned.result c.args.number (c.cast_unsigned.ensures ∙ ap (cast_unsigned w64) back) c.cast_unsigned.type_inv back c.write_u64.ensures refl c.put.ensures.has
