use Rattle.std.proofs.Common.{◌≡◌, ◌++◌, ◌<◌, sym, ◌∙◌, arith, true, length, take}
use Rattle.mt_area_rules.specs.History.{may_stand}
use Rattle.mt_area_rules.proofs.RuleLaws.{Knows-next, follows_from, follows_on}
use Rattle.mt_area_rules.proofs.area_rules.AreaRules.admit.Goals as goal

pub loop-entry-preserved : goal.loop-entry-preserved
loop-entry-preserved c =
    let rs = c.args.records.now in
    let i = c.loop-entry.entry-index in
    let r = c.entry-item.result in
    let below : i < length rs = omega arith in
    record {
      known = λ earlier k. Knows-next c.note.new.self earlier rs i r below c.entry-item.is (c.in_ok-note.ensures (earlier ++ take i rs) (c.loop-entry.invariant.known earlier k));
      there = λ earlier k rest.
          let may : may_stand c.args.first (earlier ++ take i rs) r ≡ true = sym (c.may_stand.ensures (earlier ++ take i rs) (c.loop-entry.invariant.known earlier k)) ∙ c.if-not-may_stand.false in
          c.loop-entry.invariant.there earlier k (follows_from c.args.first earlier rs i r below c.entry-item.is may rest);
      back = λ earlier k all. follows_on c.args.first earlier rs i r below c.entry-item.is (c.loop-entry.invariant.back earlier k all);
    }
