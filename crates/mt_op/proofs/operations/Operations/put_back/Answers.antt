use Rattle.std.proofs.Common.{rules, ◌≡◌, ◌∙◌, ◌+◌, ◌++◌, [], ℕ, List, Option, Some, length, drop, refl, sym, ap, arith, append-nil}
use Rattle.std.proofs.lemmas.List.{drop_all}
use Rattle.mt_log.specs.Words.{appended}
use Rattle.mt_log.specs.declared.log.Log.{Log}
use Rattle.mt_pool.specs.Views.{view}
use Rattle.mt_pool.proofs.Steady.{steady}
use Rattle.mt_pool.proofs.Writes.{view_whole}
use Rattle.mt_overlay.specs.Overlays.{or_bytes}
use Rattle.mt_op.specs.World.{looked}
use Rattle.mt_op.proofs.operations.Operations.put_back.Goals as goal

pub returns : goal.returns
returns g c = record {
  kept = search rules;
  back = λ opening change same.
      let seen = g.D.Device.seen in let o = c.args.self.now in let n = c.restore.new.self in let s = c.args.scope.now in let page = c.args.page in
      let e = c.restore.ensures in let before = c.in-Some.before.now in
      let there : looked s page ≡ Some before = c.in-Some.ensures.some in
      let old = view o.store.pool (seen n.device) page in
      let whole : length before ≡ 4096 = c.requires.whole page before there in
      let long : length old ≡ 4096 = view_whole o.store.pool (seen n.device) page (steady g.D.Device o.store c.requires.kept).frames c.requires.there in
      let none : drop (0 + length before) old ≡ [] = drop_all (0 + length before) old (omega (arith, whole, long)) in
      record {
        area = record { opening = refl; total = ap (λ v. length v.items) e.there };
        others = λ p inside other. e.others (seen n.device) p (λ is. other (is ∙ sym same)) ∙ ap (λ (d : g.row.D.Denot). view o.store.pool (seen d) p) e.device;
        page = ap (λ (p : ℕ). view n.pool (seen n.device) p) same ∙ e.view (seen n.device) ∙ ap (λ (rest : List ℕ). before ++ rest) none ∙ append-nil before ∙ sym (ap (λ (x : Option (List ℕ)). or_bytes x []) (ap (looked s) same ∙ there));
        records = ap (λ (log : Log). appended log) e.log ∙ sym (append-nil (appended o.store.log));
        locks = refl;
      };
  device = search rules;
  log = search rules;
  locks = search rules;
  map = search rules;
  rooms = search rules;
}
