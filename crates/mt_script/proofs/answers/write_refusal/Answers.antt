use Rattle.std.proofs.Common.{rules, ◌≡◌, ◌∷◌, subst}
use Rattle.std.specs.Result.{OnOk, OnErr}
use Rattle.std.specs.Fmt.{decimal}
use Rattle.std.specs.Io.KnownBytes.{Appends}
use Rattle.mt_base.specs.Refusal.{number_of, name_of, place_of}
use Rattle.mt_script.specs.Answers.{AppendsFront}
use Rattle.mt_script.proofs.TextLemmas.{no_place, refusal_line, placed_line}
use Rattle.mt_script.proofs.answers.write_refusal.Goals as goal

pub returns-in_default : goal.returns-in_default
returns-in_default g c =
    let number : c.as_bytes-number.result.now ≡ decimal (number_of c.args.refusal) = search rules in
    let name : c.as_bytes-name.result.now ≡ name_of c.args.refusal = search rules in
    let line = refusal_line c.args.refusal _ _ number name (no_place c.args.refusal c.in_default.not-BadFormat c.in_default.not-BadLine) in
    record {
      all = subst (λ t. OnOk c.put_all.result (Appends (g.W.Write.contents c.args.writer.now) (g.W.Write.contents c.put_all.new.writer) t)) line c.put_all.ensures.all;
      front = subst (λ t. OnErr c.put_all.result (AppendsFront (g.W.Write.contents c.args.writer.now) (g.W.Write.contents c.put_all.new.writer) t)) line c.put_all.ensures.front;
    }

pub returns-in-BadFormat-clause-front : goal.returns-in-BadFormat-clause-front
returns-in-BadFormat-clause-front g c =
    let number : c.as_bytes-number.result.now ≡ decimal (number_of c.args.refusal) = search rules in
    let name : c.as_bytes-name.result.now ≡ name_of c.args.refusal = search rules in
    let place : place_of c.args.refusal ≡ 32 ∷ c.as_bytes-place.result.now = search rules in
    subst (λ t. OnErr c.put_all-in-BadFormat.result (AppendsFront (g.W.Write.contents c.args.writer.now) (g.W.Write.contents c.put_all-in-BadFormat.new.writer) t))
    (placed_line c.args.refusal _ _ _ number name place) c.put_all-in-BadFormat.ensures.front
