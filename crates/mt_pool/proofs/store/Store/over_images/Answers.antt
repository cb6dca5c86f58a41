use Rattle.std.proofs.Common.{◌≡◌, ◌∙◌, ◌++◌, ℕ, List, length, refl, ap, sym, subst, arith, append-nil}
use Rattle.mt_frame.specs.declared.records.Record.{Record}
use Rattle.std.proofs.lemmas.List.{length-map}
use Rattle.mt_area_rules.specs.History.{some_record, is_of_page}
use Rattle.mt_log.specs.Words.{appended, durable, in_flight, waiting}
use Rattle.mt_log.specs.Sound.{IsSound}
use Rattle.mt_pool.specs.Images.{IsSafe}
use Rattle.mt_pool.specs.Kept.{carried, carried_of}
use Rattle.mt_pool.specs.Views.{IsTied}
use Rattle.mt_pool.proofs.Kept.{names_same}
use Rattle.mt_pool.proofs.store.Store.over_images.Goals as goal

pub returns-clause-kept : goal.returns-clause-kept
returns-clause-kept g c = λ opening safe views.
    let r = c.requires in
    let n = c.note_images.ensures in
    let images = c.args.images.now in
    let log = c.args.log in
    let all : appended log ≡ images = ap (λ (x : List Record). x ++ (in_flight log ++ waiting log)) r.durable.0 ∙ ap (λ (x : List Record). images ++ (x ++ waiting log)) r.durable.1 ∙ ap (λ (x : List Record). images ++ x) r.durable.2 ∙ append-nil images in
    let size : length (durable log) ≡ length images = ap length r.durable.0 in
    record {
      on = r.on;
      sound = subst (λ (x : ℕ). IsSound x log) (sym n.pages) r.sound;
      apart = let a = r.apart in let p = n.place in let q = n.pages in omega arith;
      few = let a = r.few in let q = n.pages in omega arith;
      frames = n.pool;
      shows = n.shows (g.D.Device.seen c.args.device) r.pool.1;
      settled = c.new.ensures ∙ sym size;
      safe = subst (λ (X : Type 0). X) (λ i. IsSafe (sym n.place i) (sym n.pages i) opening (carried (sym all i)) (sym size i) (g.D.Device.may_leave c.args.device)) safe;
      tied = subst (λ (x : List Record). IsTied c.note_images.new.pool (g.D.Device.seen c.args.device) opening (carried x)) (sym all) (record {
        imaged = λ p lt some. n.knows.some p lt some;
        within = λ p lt. let w = n.knows.within p lt in let long = length-map images carried_of in omega arith;
        untouched = λ p lt none. ((n.knows.none p lt none).0, n.views (g.D.Device.seen c.args.device) p ∙ views p (let q = n.pages in omega arith));
      });
      names = names_same c.args.ruling c.args.pool c.note_images.new.pool log log n.place n.pages refl refl r.names;
      rules = r.rules;
      unnamed = λ p lt none. ap (λ (x : List Record). some_record (is_of_page p) x) all ∙ (n.knows.none p lt none).1;
    }

pub returns-clause-over : goal.returns-clause-over
returns-clause-over g c = let n = c.note_images.ensures in record {
  views = n.views;
  page_count = n.pages;
  frame_count = n.many;
  place = n.place;
  log = refl;
  ruling = refl;
  device = refl;
}
