use Rattle.std.proofs.Common.{rules, ◌≡◌, ℕ, List, [], ◌∷◌, ◌++◌, Option, Result, Ok, Err, length, codes, ap, ◌∙◌, sym, subst, append_assoc, append-nil}
use Rattle.std.specs.Result.{OnErr}
use Rattle.std.specs.Io.KnownBytes.{Appends}
use Rattle.std.specs.Fmt.{decimal}
use Rattle.std.proofs.lemmas.Result.{err_from_is_err_and}
use Rattle.std.proofs.KnownBytes.{Appends-trans}
use Rattle.mt_script.specs.Answers.{AppendsFront, pair_lines}
use Rattle.mt_script.proofs.TextLemmas.{front_then, front_whole}
use Rattle.mt_script.proofs.answers.write_rows.Goals as goal

-- the three pieces, one after the other
abbrev counted : List ℕ → List ℕ
counted digits = codes "rows " ++ (digits ++ [])

pieces : (digits number texts end : List ℕ) → digits ≡ number → counted digits ++ (texts ++ end) ≡ ((codes "rows " ++ number) ++ texts) ++ end
pieces digits number texts end same = ap (λ (t : List ℕ). (codes "rows " ++ t) ++ (texts ++ end)) (append-nil digits ∙ same) ∙ sym (append_assoc (codes "rows " ++ number) texts end)

end_front : {T E : Type 0} (r : Result T E) (a b c : Option (List ℕ)) (xs : List ℕ) (byte : ℕ) → Appends a b xs → OnErr r (AppendsFront b c (byte ∷ [])) → OnErr r (AppendsFront a c (xs ++ (byte ∷ [])))
end_front (Ok done) a b c xs byte all front = tt
end_front (Err why) a b c xs byte all front = front_then a b c xs (byte ∷ []) [] all front

pub returns-in_err-put_all-clause-front : goal.returns-in_err-put_all-clause-front
returns-in_err-put_all-clause-front g c =
    let p = err_from_is_err_and c.from_residual.result c.from_residual.ensures.1 in
    let texts = pair_lines c.args.rows.now in
    let count : c.as_bytes.result.now ≡ decimal (length c.args.rows.now) = search rules in
    let front = front_whole _ _ (counted c.as_bytes.result.now) (texts ++ 10 ∷ []) c.in_err-put_all.ensures.front in
    rw p.1 (subst (AppendsFront _ _) (pieces c.as_bytes.result.now (decimal (length c.args.rows.now)) texts (10 ∷ []) count) front)

pub returns-in_err-write_pair_lines-clause-front : goal.returns-in_err-write_pair_lines-clause-front
returns-in_err-write_pair_lines-clause-front g c =
    let p = err_from_is_err_and c.from_residual-in_err-write_pair_lines.result c.from_residual-in_err-write_pair_lines.ensures.1 in
    let texts = pair_lines c.args.rows.now in
    let count : c.as_bytes.result.now ≡ decimal (length c.args.rows.now) = search rules in
    let front = front_then _ _ _ (counted c.as_bytes.result.now) texts (10 ∷ []) c.in_ok-put_all.ensures.all c.in_err-write_pair_lines.ensures.front in
    rw p.1 (subst (AppendsFront _ _) (pieces c.as_bytes.result.now (decimal (length c.args.rows.now)) texts (10 ∷ []) count) front)

pub returns-clause-front : goal.returns-clause-front
returns-clause-front g c =
    let texts = pair_lines c.args.rows.now in
    let count : c.as_bytes.result.now ≡ decimal (length c.args.rows.now) = search rules in
    let start = counted c.as_bytes.result.now in
    let whole = append_assoc start texts (10 ∷ []) ∙ pieces c.as_bytes.result.now (decimal (length c.args.rows.now)) texts (10 ∷ []) count in
    let both = Appends-trans _ _ _ start texts c.in_ok-put_all.ensures.all c.in_ok-write_pair_lines.ensures.all in
    subst (λ (t : List ℕ). OnErr c.put.result (AppendsFront (g.W.Write.contents c.args.writer.now) (g.W.Write.contents c.put.new.writer) t)) whole (end_front c.put.result _ _ _ (start ++ texts) 10 both c.put.ensures.front)
