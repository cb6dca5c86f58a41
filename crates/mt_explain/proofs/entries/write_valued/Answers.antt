use Rattle.std.proofs.KnownBytes.{Appends-trans}
use Rattle.std.proofs.lemmas.Result.{err_from_is_err_and, on_err_weaker}
use Rattle.mt_script.proofs.TextLemmas.{front_whole}
use Rattle.mt_explain.proofs.ListingLemmas.{front_next}
use Rattle.mt_explain.specs.Explanations.{key_text, keyed_start, length_end}
use Rattle.mt_explain.proofs.entries.write_valued.Goals as goal

pub returns-in_err-write_start-clause-front : goal.returns-in_err-write_start-clause-front
returns-in_err-write_start-clause-front g c =
    let p = err_from_is_err_and c.from_residual.result c.from_residual.ensures.1 in
    rw p.1 (front_whole _ _ _ (length_end c.args.value.now) (front_whole _ _ (keyed_start c.args.word.now c.args.relation) (key_text c.args.key.now) c.in_err-write_start.ensures.front))

pub returns-in_err-write_key-clause-front : goal.returns-in_err-write_key-clause-front
returns-in_err-write_key-clause-front g c =
    let p = err_from_is_err_and c.from_residual-in_err-write_key.result c.from_residual-in_err-write_key.ensures.1 in
    rw p.1 (front_whole _ _ _ (length_end c.args.value.now) (front_next _ _ _ (keyed_start c.args.word.now c.args.relation) (key_text c.args.key.now) c.in_ok-write_start.ensures.all c.in_err-write_key.ensures.front))

pub returns-clause-front : goal.returns-clause-front
returns-clause-front g c =
    let done1 = Appends-trans _ _ _ (keyed_start c.args.word.now c.args.relation) (key_text c.args.key.now) c.in_ok-write_start.ensures.all c.in_ok-write_key.ensures.all in
    on_err_weaker c.write_length.result (λ front. front_next _ _ _ _ (length_end c.args.value.now) done1 front) c.write_length.ensures.front
