use Rattle.std.proofs.Common.{◌∙◌, ◌+◌, ◌∷◌, ℕ, List, length, take, drop, set, sym, ap, append_assoc}
use Rattle.std.proofs.lemmas.List.{drop_more, set-set}
use Rattle.mt_base.specs.Edits.{patched, splice}
use Rattle.mt_base.specs.declared.edits.Edit.{Edit}
use Rattle.mt_pool.specs.Views.{view}
use Rattle.mt_pool.proofs.pool.Pool.change_all.Goals as goal

pub loop-edit-preserved : goal.loop-edit-preserved
loop-edit-preserved c =
    let e = c.edit-item.result in
    let i = c.loop-edit.edit-index in
    let es = c.args.edits.now in
    let mid = c.loop-edit.self in
    let page = c.args.page in
    let inv = c.loop-edit.invariant in
    let f = c.change.ensures.puts in
    record {
      pool = f.pool;
      shows = λ seen shows. f.shows seen (inv.shows seen shows);
      left = λ seen.
          let here = view mid seen page in let start = c.from-start.result in let bytes = c.as_slice.result.now in
          ap (λ (bytes : List ℕ). patched (drop (i + 1) es) bytes)
          (f.edited seen ∙ append_assoc (take start here) bytes (drop (start + length bytes) here) ∙ ap (λ (k : ℕ). splice k c.as_slice.result.now (view mid seen page)) c.from-start.ensures ∙ ap (λ (bytes : List ℕ). splice e.start bytes (view mid seen page)) c.as_slice.ensures)
          ∙ ap (λ (l : List Edit). patched l (view mid seen page)) (sym (drop_more es i e c.loop-edit-test.true ∙ ap (λ (x : Edit). x ∷ drop (i + 1) es) (sym c.edit-item.is)))
          ∙ inv.left seen;
      others = λ seen q differ. f.others seen q differ ∙ inv.others seen q differ;
      waits = λ some. c.change.ensures.waits ∙ inv.same_waits;
      same_waits = ap (λ (l : List ℕ). set l page c.args.position) c.change.ensures.waits ∙ set-set mid.waits.items page c.args.position c.args.position ∙ inv.same_waits;
      there = f.there ∙ inv.there;
      place = f.place ∙ inv.place;
    }
