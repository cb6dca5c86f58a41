use Rattle.std.proofs.Common.{rules, ◌∙◌, ℕ, ap, set}
use Rattle.mt_pool.proofs.Frames.{waiting}
use Rattle.mt_pool.proofs.pool.Pool.note_image.Goals as goal

pub returns : goal.returns
returns c = record {
  pool = let s = c.args.self.now in
      let waits = ap (λ (i : ℕ). set s.waits.items i c.get.result) c.index_of.ensures ∙ ap (λ (n : ℕ). set s.waits.items c.args.page n) c.get.ensures in
      waiting s c.requires.pool c.args.page c.args.position _ c.requires.position c.requires.inside waits;
  shows = search rules;
  views = search rules;
  waits = search rules;
  flush = search rules;
  there = search rules;
  bytes = search rules;
  place = search rules;
}
