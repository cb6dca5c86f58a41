-- A record that is replaced: in its place, or elsewhere.
use Rattle.std.proofs.Common.{◌≡◌, ◌≢◌, inr, ⊎_elim, ◌⊎◌, ℕ, ◌+◌, ◌<◌, ◌≤◌, ◌==◌, List, length, get_or, set, Bool, true, false, Option, Some, None, refl, sym, ◌∙◌, ap, subst, arith, length-set, eq-eqb}
use Rattle.std.proofs.lemmas.Bool.{false≢true}
use Rattle.std.specs.Option.{option_eq}
use Rattle.std.proofs.lemmas.Bool.Decides.{nat_tests}
use Rattle.std.proofs.lemmas.List.{get_or-set_same, get_or-set_other}
use Rattle.mt_space.specs.declared.changes.PageChange.{PageChange}
use Rattle.mt_space.specs.Changes.{PageBytes, Agrees, replaced, after, IsUntouched, AreShort}
use Rattle.mt_space.proofs.Changing.{replaced_here, replaced_other}
use Rattle.mt_slots.specs.Page.{Row, slot, count, live_slots, IsShaped, Sets, row_length, room_of}
use Rattle.mt_space.specs.Kinds.{kind}
use Rattle.mt_space.specs.Rooms.{mapped, IsFirstFree}
use Rattle.mt_file.specs.File.{record_in, IsFile, Drops, Stays, Moves}
use Rattle.mt_file.specs.Rooms.{fits_of}
use Rattle.mt_file.specs.Plans.{IsNamed, IsReady, IsApart, IsChosen, IsLooked, IsTooFull, IsRoomy, IsPut, IsOutgrown, IsReplacement, IsWhole, IfDone}
use Rattle.mt_file.specs.declared.step.Plan.{Plan}
use Rattle.mt_file.specs.declared.step.Step.{Step}
use Rattle.mt_file.specs.declared.step.Step.TheVariants.{Need, Done, Full}
use Rattle.mt_file.proofs.Filed.{records_not_map, kind_kept, file_one, adds_new, Taken, drops_last, stays_in}
use Rattle.mt_file.proofs.Planned.{IsHeld, alone_in}

-- ---- in its place

pub stays_one : (pages next : PageBytes) (p s : ℕ) (old new : List ℕ) (r row : Row) → IsFile pages → IsHeld pages p s old r → IsShaped new → Sets old new s (Some row) (count old)
    → next ≡ replaced p new pages → Stays pages next p s row
stays_one pages next p s old new r row file held shaped sets made =
    let here : Sets (pages p) new s (Some row) (count old) = subst (λ (m : List ℕ). Sets m new s (Some row) (count old)) (sym held.seen) sets in
    subst (λ (f : PageBytes). Stays pages f p s row) (sym made) (stays_in pages p s (count old) row new file held.records shaped here)

-- the same bytes
pub stays_same : (pages : PageBytes) (p s : ℕ) (r row : Row) → IsFile pages → record_in pages p s ≡ Some r → r ≡ row → Stays pages pages p s row
stays_same pages p s r row file is same = record {
  puts = record { here = is ∙ ap Some same; elsewhere = λ q t other. refl };
  file = file;
  within = λ relations longest all fits. all;
  kinds = λ q. refl;
  others = λ q ne. refl;
}

-- ---- alone in its page

pub whole_page : (pages next : PageBytes) (p s : ℕ) (new : List ℕ) (row : Row) → IsShaped new → slot new s ≡ Some row → ((t : ℕ) → t ≢ s → slot new t ≡ None) → next ≡ replaced p new pages → IsWhole pages next p s row
whole_page pages next p s new row shaped mine rest made =
    let here : next p ≡ new = ap (λ (f : PageBytes). f p) made ∙ replaced_here p p new pages refl in
    record {
      shaped = subst IsShaped (sym here) shaped;
      here = ap (λ (m : List ℕ). slot m s) here ∙ mine;
      alone = λ t ne. ap (λ (m : List ℕ). slot m t) here ∙ rest t ne;
      others = λ q ne. ap (λ (f : PageBytes). f q) made ∙ replaced_other p q new pages ne;
    }

-- the page is given back and taken again
pub moves_whole : (pages next : PageBytes) (p s t : ℕ) (r row : Row) (old new : List ℕ) → IsFile pages → IsHeld pages p s old r → Sets old new s None (count old) → live_slots new (count new) ≡ 0
    → IsWhole pages next p t row → Moves pages next p s p t row
moves_whole pages next p s t r row old new file held sets none whole =
    let map = set (pages 0) p 0 in
    let between = replaced 0 map pages in
    let long : length map ≡ 4096 = length-set (pages 0) p 0 ∙ file.whole in
    let within = held.within in
    let full = file.whole in
    let own : get_or map p 0 ≡ 0 = get_or-set_same (pages 0) p 0 0 (omega arith) in
    let rest : (q : ℕ) → q ≢ p → get_or map q 0 ≡ kind pages q = λ q ne. get_or-set_other (pages 0) p q 0 0 ne in
    let zero : p ≢ 0 = records_not_map pages p file held.records in
    let drops = drops_last pages p s map file held.records long own rest (alone_in pages p s old new r held sets none) in
    let first : next 0 ≡ pages 0 = whole.others 0 (λ e. zero (sym e)) in
    let kinds : (q : ℕ) → kind next q ≡ kind pages q = λ q. ap (λ (m : List ℕ). get_or m q 0) first in
    let mid : (q : ℕ) → q ≢ p → kind between q ≡ kind pages q = λ q ne. ap (λ (m : List ℕ). get_or m q 0) (replaced_here 0 0 map pages refl) ∙ rest q ne in
    let gone : kind between p ≡ 0 = ap (λ (m : List ℕ). get_or m p 0) (replaced_here 0 0 map pages refl) ∙ own in
    let is : Taken between next p (next p) = record {
      whole = ap length first ∙ file.whole;
      own = kinds p ∙ held.records;
      kinds = λ q ne. kinds q ∙ sym (mid q ne);
      here = refl;
      others = λ q ne other. whole.others q ne ∙ sym (replaced_other 0 q map pages other);
    } in
    record {
      between = between;
      drops = drops;
      adds = adds_new between next p t row (next p) drops.file zero (λ e. absurd (omega arith)) is whole.shaped whole.here whole.alone;
    }

-- ---- to another page

-- the pages without the record
pub ready_mid : (at_hand : ℕ → Option (List ℕ)) (room : Option ℕ) (pages mid : PageBytes) (p s : ℕ) (old new : List ℕ) (r : Row) → Agrees at_hand pages → IsFile pages → IsNamed room pages
    → IsHeld pages p s old r → IsShaped new → room ≢ Some p → mid ≡ replaced p new pages → IsReady at_hand room mid
ready_mid at_hand room pages mid p s old new r agrees file named held shaped other made =
    let zero = records_not_map pages p file held.records in
    let kinds = kind_kept pages p new zero in
    subst (IsReady at_hand room) (sym made) (record {
      file = file_one pages p new zero file shaped;
      named = λ q is. kinds q ∙ named q is;
      seen = λ q bytes apart there.
          let ne : q ≢ p = ⊎_elim
          (λ (k : kind (replaced p new pages) q ≢ 3). λ e. k (kinds q ∙ ap (kind pages) e ∙ held.records))
          (λ (is : room ≡ Some q). λ e. other (is ∙ ap Some e))
          apart in
          replaced_other p q new pages ne ∙ agrees q bytes there;
    })

-- what a put needs of the changes so far
pub apart_mid : (room : Option ℕ) (before : List PageChange) (pages : PageBytes) (p s : ℕ) (old new : List ℕ) (r : Row) → IsFile pages → IsHeld pages p s old r → room ≢ Some p
    → after before pages ≡ replaced p new pages → AreShort before pages → ((q : ℕ) → q ≢ p → IsUntouched before q) → IsApart room before pages
apart_mid room before pages p s old new r file held other made short rest =
    let zero = records_not_map pages p file held.records in
    let own : kind (after before pages) p ≡ 3 = ap (λ (f : PageBytes). kind f p) made ∙ kind_kept pages p new zero p ∙ held.records in
    record {
      short = short;
      apart = λ q apart. rest q (⊎_elim
          (λ (k : kind (after before pages) q ≢ 3). λ e. k (ap (kind (after before pages)) e ∙ own))
          (λ (is : room ≡ Some q). λ e. other (is ∙ ap Some e))
          apart);
    }

-- what is chosen by the pages without the record is chosen by those with it
chosen_same : (room : Option ℕ) (total : ℕ) (pages mid : PageBytes) (q : ℕ) → mid 0 ≡ pages 0 → IsChosen room total mid q → IsChosen room total pages q
chosen_same (Some h) total pages mid q map is = is
chosen_same None total pages mid q map is = subst (λ (m : List ℕ). IsFirstFree (mapped m total) q) map is

looked_same : (room : Option ℕ) (total : ℕ) (pages mid : PageBytes) (q : ℕ) → mid 0 ≡ pages 0 → IsLooked room total mid q → IsLooked room total pages q
looked_same (Some h) total pages mid q map is = is
looked_same None total pages mid q map is = subst (λ (m : List ℕ). (q ≡ 0) ⊎ IsFirstFree (mapped m total) q) map is

full_same : (room : Option ℕ) (total bytes : ℕ) (pages mid : PageBytes) → mid 0 ≡ pages 0 → ((h : ℕ) → room ≡ Some h → mid h ≡ pages h) → IsTooFull room total mid bytes → IsTooFull room total pages bytes
full_same (Some h) total bytes pages mid map named is = subst (λ (m : List ℕ). fits_of m < bytes) (named h refl) is
full_same None total bytes pages mid map named is = subst (λ (m : List ℕ). (p : ℕ) → get_or (mapped m total) p false ≡ false) map is

roomy_same : (room : Option ℕ) (bytes : ℕ) (pages mid : PageBytes) → ((h : ℕ) → room ≡ Some h → mid h ≡ pages h) → IsRoomy room mid bytes → IsRoomy room pages bytes
roomy_same (Some h) bytes pages mid named is = subst (λ (m : List ℕ). bytes ≤ fits_of m) (named h refl) is
roomy_same None bytes pages mid named is = tt

-- the answer of the put is that of the replacement
pub moves_on : (at_hand : ℕ → Option (List ℕ)) (room : Option ℕ) (total : ℕ) (before : List PageChange) (pages : PageBytes) (p s : ℕ) (r row : Row) (step : Step)
    → Drops pages (after before pages) p s → IsOutgrown pages p r row → r ≢ row → after before pages 0 ≡ pages 0 → ((h : ℕ) → room ≡ Some h → after before pages h ≡ pages h)
    → IsPut at_hand room total before pages row step → IsReplacement at_hand room total pages p s r row step
moves_on at_hand room total before pages p s r row (Need q) drops outgrown ne map named put =
    (put.0, inr (outgrown, looked_same room total pages (after before pages) q map put.1))
moves_on at_hand room total before pages p s r row (Done plan) drops outgrown ne map named put = (
  inr (outgrown, inr (chosen_same room total pages (after before pages) plan.name.page map put.1, roomy_same room (row_length row) pages (after before pages) named put.2), record { between = after before pages; drops = drops; adds = put.0 }),
  λ e. absurd (ne e),
)
moves_on at_hand room total before pages p s r row Full drops outgrown ne map named put = (outgrown, full_same room total (row_length row) pages (after before pages) map named put)

-- the page that is named is the record's own
pub own_full : (total : ℕ) (pages : PageBytes) (p : ℕ) (r row : Row) → IsOutgrown pages p r row → IsTooFull (Some p) total pages (row_length row)
unfolding fits_of
own_full total pages p r row outgrown = grind (arith, nat_tests)

-- ---- what the code knows

pub named_is : (same : ℕ → ℕ → Bool) (room : Option ℕ) (p : ℕ) → ((a b : ℕ) → same a b ≡ (a == b)) → option_eq same room (Some p) ≡ true → room ≡ Some p
named_is same None p is flag = absurd (false≢true flag)
named_is same (Some h) p is flag = let equal : (h == p) ≡ true = sym (is h p) ∙ flag in let e : h ≡ p = grind (arith, nat_tests) in ap Some e

pub named_is_not : (same : ℕ → ℕ → Bool) (room : Option ℕ) (p : ℕ) → ((a b : ℕ) → same a b ≡ (a == b)) → option_eq same room (Some p) ≡ false → room ≢ Some p
named_is_not same None p is flag = λ e. cc
named_is_not same (Some h) p is flag = λ e.
    let equal : h ≡ p = cc in
    let differ : (h == p) ≡ false = sym (is h p) ∙ flag in
    let agree : (h == p) ≡ true = eq-eqb h p equal in
    absurd (false≢true (sym differ ∙ agree))

-- the record that the page has in the slot is the one of the name
pub same_row : (pages : PageBytes) (p s : ℕ) (old : List ℕ) (r k : Row) → IsHeld pages p s old r → slot old s ≡ Some k → r ≡ k
same_row pages p s old r k held is = let both : Some r ≡ Some k = sym held.live ∙ is in cc

pub room_seen : (pages : PageBytes) (p s : ℕ) (old : List ℕ) (r row : Row) → IsHeld pages p s old r → room_of old + row_length r < row_length row → IsOutgrown pages p r row
room_seen pages p s old r row held over = subst (λ (m : List ℕ). room_of m + row_length r < row_length row) (sym held.seen) over

-- ---- of a plan that is made

pub done_weaker : (step : Step) (P Q : Plan → Type 0) → ((plan : Plan) → P plan → Q plan) → IfDone step P → IfDone step Q
done_weaker (Need p) P Q f outcome = tt
done_weaker (Done plan) P Q f outcome = f plan outcome
done_weaker Full P Q f outcome = tt
