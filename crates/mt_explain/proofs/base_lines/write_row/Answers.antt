use Rattle.std.proofs.Common.{[], ◌∷◌}
use Rattle.std.proofs.KnownBytes.{Appends-trans}
use Rattle.std.proofs.lemmas.Result.{err_from_is_err_and, on_err_weaker}
use Rattle.mt_script.proofs.TextLemmas.{front_whole}
use Rattle.mt_explain.proofs.ListingLemmas.{front_next}
use Rattle.mt_explain.specs.Listings.{hex_text, row_start}
use Rattle.mt_explain.proofs.base_lines.write_row.Goals as goal

pub returns-in_err-write_relation-clause-front : goal.returns-in_err-write_relation-clause-front
returns-in_err-write_relation-clause-front g c =
    let r = c.args.row.now in
    let p = err_from_is_err_and c.from_residual.result c.from_residual.ensures.1 in
    rw p.1 (front_whole _ _ _ (10 ∷ []) (front_whole _ _ _ (hex_text r.value) (front_whole _ _ _ (32 ∷ []) (front_whole _ _ (row_start r.relation) (hex_text r.key) c.in_err-write_relation.ensures.front))))

pub returns-in_err-write_hex-clause-front : goal.returns-in_err-write_hex-clause-front
returns-in_err-write_hex-clause-front g c =
    let r = c.args.row.now in
    let p = err_from_is_err_and c.from_residual-in_err-write_hex.result c.from_residual-in_err-write_hex.ensures.1 in
    let front = front_next _ _ _ (row_start r.relation) (hex_text r.key) c.in_ok-write_relation.ensures.all c.in_err-write_hex.ensures.front in
    rw p.1 (front_whole _ _ _ (10 ∷ []) (front_whole _ _ _ (hex_text r.value) (front_whole _ _ _ (32 ∷ []) front)))

pub returns-in_err-put-clause-front : goal.returns-in_err-put-clause-front
returns-in_err-put-clause-front g c =
    let r = c.args.row.now in
    let p = err_from_is_err_and c.from_residual-in_err-put.result c.from_residual-in_err-put.ensures.1 in
    let key = Appends-trans _ _ _ (row_start r.relation) (hex_text r.key) c.in_ok-write_relation.ensures.all c.in_ok-write_hex.ensures.all in
    rw p.1 (front_whole _ _ _ (10 ∷ []) (front_whole _ _ _ (hex_text r.value) (front_next _ _ _ _ (32 ∷ []) key c.in_err-put.ensures.front)))

pub returns-in_err-write_hex-2-clause-front : goal.returns-in_err-write_hex-2-clause-front
returns-in_err-write_hex-2-clause-front g c =
    let r = c.args.row.now in
    let p = err_from_is_err_and c.from_residual-in_err-write_hex-2.result c.from_residual-in_err-write_hex-2.ensures.1 in
    let key = Appends-trans _ _ _ (row_start r.relation) (hex_text r.key) c.in_ok-write_relation.ensures.all c.in_ok-write_hex.ensures.all in
    let spaced = Appends-trans _ _ _ _ (32 ∷ []) key c.in_ok-put.ensures.all in
    rw p.1 (front_whole _ _ _ (10 ∷ []) (front_next _ _ _ _ (hex_text r.value) spaced c.in_err-write_hex-2.ensures.front))

pub returns-clause-front : goal.returns-clause-front
returns-clause-front g c =
    let r = c.args.row.now in
    let key = Appends-trans _ _ _ (row_start r.relation) (hex_text r.key) c.in_ok-write_relation.ensures.all c.in_ok-write_hex.ensures.all in
    let spaced = Appends-trans _ _ _ _ (32 ∷ []) key c.in_ok-put.ensures.all in
    let before = Appends-trans _ _ _ _ (hex_text r.value) spaced c.in_ok-write_hex-2.ensures.all in
    on_err_weaker c.put-2.result (λ front. front_next _ _ _ _ (10 ∷ []) before front) c.put-2.ensures.front
