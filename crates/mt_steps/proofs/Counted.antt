-- Operations on rows leave the counters page.
use Rattle.std.proofs.Common.{◌≡◌, ◌≢◌, ◌<◌, ◌⊎◌, ⊎_elim, ℕ, List, [], get_or, refl, ap, sym, ◌∙◌, subst, arith}
use Rattle.mt_slots.specs.Page.{Row}
use Rattle.mt_space.specs.declared.changes.PageChange.{PageChange}
use Rattle.mt_space.specs.Changes.{PageBytes, after, AreShort}
use Rattle.mt_space.specs.Kinds.{kind, IsMap}
use Rattle.mt_space.proofs.MapLemmas.{map_same, map_but, map_taken}
use Rattle.mt_file.specs.File.{Touches, Stays as StaysThere}
use Rattle.mt_index.specs.Maps.{Map}
use Rattle.mt_index.specs.Answers.{Stays}
use Rattle.mt_model.specs.declared.operations.Op.{Op}
use Rattle.mt_model.specs.declared.operations.Reply.{Reply}
use Rattle.mt_model.specs.Model.{Base, reply_of, base_after}
use Rattle.mt_counters.specs.Counters.{count_in, AreCounters}
use Rattle.mt_steps.specs.Held.{HoldsRows, AreRows}
use Rattle.mt_steps.specs.Acts.{IsAct}

-- the counters page stays, and the map is one of so many pages still
pub record StaysCounters (total : ℕ) (pages pages2 : PageBytes) : Type 0 where
  pub same : pages2 2 ≡ pages 2
  pub map : IsMap total pages2

pub counters_refl : (total : ℕ) (pages : PageBytes) → IsMap total pages → StaysCounters total pages pages
counters_refl total pages map = record { same = refl; map = map }

pub counters_trans : (total : ℕ) (a b c : PageBytes) → StaysCounters total a b → StaysCounters total b c → StaysCounters total a c
counters_trans total a b c x y = record { same = y.same ∙ x.same; map = y.map }

-- page 2 is a fixed one
pub two_fixed : (total : ℕ) (pages : PageBytes) → IsMap total pages → kind pages 2 ≡ 1
two_fixed total pages map = (map 2).fixed (omega arith)

pub touches_counters : (total : ℕ) (pages mid : PageBytes) (p : ℕ) → IsMap total pages → (kind pages p ≡ 3) ⊎ (kind pages p ≡ 0) → p < total → (kind mid p ≡ 3) ⊎ (kind mid p ≡ 0) → Touches pages mid p → StaysCounters total pages mid
touches_counters total pages mid p map was inside own t = record { same = t.others 2 apart (omega arith); map = map_but total pages mid p map inside was own t.kinds }
  where
    apart : 2 ≢ p
    apart e =
        let fixed = two_fixed total pages map in
        let same : kind pages 2 ≡ kind pages p = ap (λ (n : ℕ). kind pages n) e in
        ⊎_elim (λ (three : kind pages p ≡ 3). omega (arith, fixed, same, three)) (λ (zero : kind pages p ≡ 0). omega (arith, fixed, same, zero)) was

pub stays_counters : (total : ℕ) (pages last : PageBytes) (p s : ℕ) (row : Row) → IsMap total pages → kind pages p ≡ 3 → StaysThere pages last p s row → StaysCounters total pages last
stays_counters total pages last p s row map three t = record {
  same = t.others 2 (λ e. let same : kind pages 2 ≡ kind pages p = ap (λ (n : ℕ). kind pages n) e in let fixed = two_fixed total pages map in omega (arith, fixed, same, three));
  map = map_same total pages last map t.kinds;
}

pub add_counters : (total : ℕ) (pages pages2 : PageBytes) → IsMap total pages → Stays total pages pages2 → StaysCounters total pages pages2
add_counters total pages pages2 map st =
    let now = map_taken total pages pages2 map st.kinds st.taken in
    let kept = two_fixed total pages2 now in
    record { same = st.bytes 2 (omega arith) (omega arith) (λ two. let w : kind pages2 2 ≡ 2 = two in omega (arith, kept, w)); map = now }

pub amends_counters : (total : ℕ) (pages pages2 : PageBytes) → IsMap total pages → ((p : ℕ) → kind pages p ≢ 2 → pages2 p ≡ pages p) → StaysCounters total pages pages2
amends_counters total pages pages2 map others = record {
  same = others 2 (λ two. let w : kind pages 2 ≡ 2 = two in let fixed = two_fixed total pages map in omega (arith, fixed, w));
  map = map_same total pages pages2 map (λ p. ap (λ (c : List ℕ). get_or c p 0) (others 0 (λ two. let w : kind pages 0 ≡ 2 = two in let space : kind pages 0 ≡ 1 = (map 0).fixed (omega arith) in omega (arith, space, w))));
}

-- an act on rows
pub row_act : (relations total : ℕ) (pages pages2 : PageBytes) (m : Map) (op : Op) (reply : Reply) → StaysCounters total pages pages2 → ((b : Base) → (base_after b op).counts ≡ b.counts)
    → ((b : Base) → HoldsRows pages b → reply_of b op ≡ reply) → ((b : Base) → HoldsRows pages b → HoldsRows pages2 (base_after b op)) → AreRows relations total pages2 m → IsAct relations total pages pages2 op reply
row_act relations total pages pages2 m op reply stays counts replies base good = record {
  replies = λ b held. replies b held.rows;
  base = λ b held. record {
    rows = base b held.rows;
    counts = λ c lt. ap (λ (f : ℕ → _). f c) (counts b) ∙ held.counts c (subst (λ (page : List ℕ). c < get_or page 1 0) stays.same lt) ∙ ap (λ (page : List ℕ). count_in page c) (sym stays.same);
  };
  meaning = m;
  good = good;
  counters = λ counters a. subst (λ (page : List ℕ). AreCounters relations counters page) (sym stays.same) a;
}

-- an act that changes nothing
pub nothing_changes : (relations total : ℕ) (pages : PageBytes) (changes : List PageChange) (op : Op) (reply : Reply) → changes ≡ [] → IsAct relations total pages pages op reply → IsAct relations total pages (after changes pages) op reply × AreShort changes pages
nothing_changes relations total pages changes op reply none act =
    subst (λ (l : List PageChange). IsAct relations total pages (after l pages) op reply × AreShort l pages) (sym none) (act, tt)
