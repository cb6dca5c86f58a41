use Rattle.std.proofs.Common.{◌≡◌, ◌∙◌, ◌+◌, ◌∷◌, [], ◌++◌, ℕ, take, length, set, ap, sym, subst, arith, length-take-le}
use Rattle.std.proofs.lemmas.List.{take_more}
use Rattle.mt_frame.specs.declared.records.Record.{Record}
use Rattle.mt_pool.specs.Views.{IsPool, Shows, frames, view, pages}
use Rattle.mt_pool.specs.declared.pool.Pool.{Pool}
use Rattle.mt_pool.specs.Turns.{IsImageOnly, KnowsImages}
use Rattle.mt_pool.proofs.KnownImages.{knows_any, image_at, page_only}
use Rattle.mt_pool.proofs.next_area.note_images.Goals as goal
use Rattle.mt_pool.proofs.next_area.note_images.Goals.{in-Page, in_default}

pub note_image-requires-clause-inside : goal.note_image-requires-clause-inside
note_image-requires-clause-inside c =
    let v = c.loop-entry.invariant in
    let only = image_at (pages c.args.pool.now) c.args.images.now c.loop-entry.entry-index c.entry-item.result c.loop-entry-test.true c.entry-item.is c.requires.images in
    let named = subst (IsImageOnly (pages c.args.pool.now)) c.in-Page.is only in
    let p = v.pages in let q = named.1 in omega arith

pub loop-entry-preserved : goal.loop-entry-preserved
loop-entry-preserved c =
    let v = c.loop-entry.invariant in
    let images = c.args.images.now in
    let i = c.loop-entry.entry-index in
    let only = image_at (pages c.args.pool.now) images i c.entry-item.result c.loop-entry-test.true c.entry-item.is c.requires.images in
    elim c.match-entry.branch [
      | in-Page w ↦
          let e = w.note_image.ensures in
          let named = subst (IsImageOnly (pages c.args.pool.now)) w.in-Page.is only in
          let size : length (take i images) ≡ i = length-take-le i images (let lt = c.loop-entry-test.true in omega arith) in
          let at : w.new.result ≡ length (take i images) + 1 = let n = w.new.ensures in let m = v.at in omega arith in
          let more : take (i + 1) images ≡ take i images ++ _ ∷ [] = take_more images i c.entry-item.result c.loop-entry-test.true ∙ ap (λ (r : Record). take i images ++ r ∷ []) (sym c.entry-item.is ∙ w.in-Page.is) in
          let same : pages w.note_image.new.self ≡ pages c.loop-entry.pool = ap (λ (o : _). length o.items) e.there in
          record {
            at = let m = v.at in omega arith;
            pool = subst IsPool (sym w.pool-is) e.pool;
            shows = λ seen k. subst (λ (p : Pool). Shows p seen) (sym w.pool-is) (e.shows seen (v.shows seen k));
            views = λ seen q. ap (λ (p : Pool). view p seen q) w.pool-is ∙ e.views seen q ∙ v.views seen q;
            place = ap (λ (p : Pool). p.place) w.pool-is ∙ e.place ∙ v.place;
            pages = ap pages w.pool-is ∙ same ∙ v.pages;
            many = ap frames w.pool-is ∙ ap (λ (o : _). length o.items) e.bytes ∙ v.many;
            knows = subst (λ (p : Pool). KnowsImages p (take (i + 1) images)) (sym w.pool-is) (subst (KnowsImages w.note_image.new.self) (sym more)
                (knows_any c.loop-entry.pool w.note_image.new.self (take i images) _ _ w.in-Page.page _ _ _ _ named.2 (let p = v.pages in let q = named.1 in omega arith) v.pool.waits same
                (e.waits ∙ ap (λ (n : ℕ). set c.loop-entry.pool.waits.items w.in-Page.page n) at) v.knows));
          }
      | in_default w ↦ absurd (page_only (pages c.args.pool.now) c.entry-item.result only w.in_default.not-Page)
    ]
