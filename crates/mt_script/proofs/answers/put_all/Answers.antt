use Rattle.std.proofs.Common.{arith, suc, ◌<◌, length, take, drop, sym, subst, add-one}
use Rattle.std.proofs.lemmas.Result.{err_from_is_err_and}
use Rattle.std.proofs.KnownBytes.{Appends-trans}
use Rattle.mt_script.specs.Answers.{AppendsFront}
use Rattle.mt_script.proofs.TextLemmas.{all_about, all_more, joined, front_then}
use Rattle.mt_script.proofs.answers.put_all.Goals as goal

pub returns-in_err-put-clause-front : goal.returns-in_err-put-clause-front
returns-in_err-put-clause-front g c =
    let p = err_from_is_err_and c.from_residual.result c.from_residual.ensures.1 in
    let ps = c.args.pieces.now in
    let i = c.loop-piece.piece-index in
    let lt : i < length ps = omega arith in
    let whole = all_about (λ p. p.now) ps i _ lt in
    let front = front_then _ _ _ (joined (take i ps)) _ (joined (drop (suc i) ps)) c.loop-piece.invariant c.in_err-put.ensures.front in
    rw p.1 (subst (AppendsFront _ _) (sym whole) front)

pub loop-piece-preserved : goal.loop-piece-preserved
loop-piece-preserved g c =
    let ps = c.args.pieces.now in
    let i = c.loop-piece.piece-index in
    let lt : i < length ps = omega arith in
    let more = all_more (λ p. p.now) ps i _ lt in
    let both = Appends-trans _ _ _ (joined (take i ps)) _ c.loop-piece.invariant c.in_ok-put.ensures.all in
    rw (add-one, more) both
