-- Why a restart in memory refuses bytes, and what it has found where it does not.
use Rattle.std.proofs.Common.{◌≡◌, ◌⊎◌, inl, inr, ℕ, ◌<◌, List, length, refl, sym, ap, ◌∙◌, subst}
use Rattle.std.specs.Prelude.{Result, Ok, Err, IfErr}
use Rattle.std.specs.List.{AllByRecursion}
use Rattle.mt_base.specs.declared.format.Format.{Format}
use Rattle.mt_base.specs.declared.refusal.Refusal.{Refusal}
use Rattle.mt_base.specs.declared.refusal.Refusal.TheVariants.{BadFormat, DeviceFailed, NoMemory}
use Rattle.mt_frame.specs.declared.slots.MasterSlot.{MasterSlot}
use Rattle.mt_space.specs.PageLists.{bytes_of}
use Rattle.mt_log.specs.Batch.{joined}
use Rattle.mt_log.specs.Found.{places_of, records_of}
use Rattle.mt_log.specs.Holds.{BreaksAt, places_from}
use Rattle.mt_log.specs.declared.batch.Batch.{Batch}
use Rattle.mt_pool.specs.Images.{GivesPages}
use Rattle.mt_pool.specs.Kept.{carried}
use Rattle.mt_space.specs.Changes.{PageBytes}
use Rattle.mt_steps.specs.Plans.{IsGood}
use Rattle.mt_page_rules.specs.Checks.{AreCheckedIn}
use Rattle.mt_replay.specs.Laws.{OnlyOwnPagesMatter}
use Rattle.mt_replay.specs.Losers.{all_finished, HasEnded, HasUndone, StopsAt}
use Rattle.mt_log.specs.Masters.{IsRuling, area_end, area_start}
use Rattle.mt_replay.specs.Memory.{AreFirst}
use Rattle.mt_replay.specs.Recoverable.{pages_held}
use Rattle.mt_replay.specs.Refused.{AreRepeated, AreUndone, BreaksFormat, BreaksLog, IsCause, StopsUndoing, behind, in_area}
use Rattle.mt_replay.specs.Stands.{HasArea}
use Rattle.mt_replay.specs.Recorded.{losers}
use Rattle.mt_replay.specs.declared.losers.Loser.{Loser}

-- what a scan is refused with, by other words for the area
pub scan_cause : {T : Type 0} (r : Result T Refusal) (F : Type 0) (P Q : ℕ → Type 0) → ((at : ℕ) → P at → Q at) → IfErr r (λ why. (at : ℕ) → why ≡ BadFormat at → P at)
    → IfErr r (λ why. (why ≡ NoMemory) ⊎ (((why ≡ DeviceFailed) × F) ⊎ ((at : ℕ) × (why ≡ BadFormat at))))
    → IfErr r (λ why. (why ≡ NoMemory) ⊎ (((why ≡ DeviceFailed) × F) ⊎ ((at : ℕ) × (why ≡ BadFormat at) × Q at)))
scan_cause (Ok x) F P Q other bad cause = tt
scan_cause (Err why) F P Q other bad (inl memory) = inl memory
scan_cause (Err why) F P Q other bad (inr (inl failed)) = inr (inl failed)
scan_cause (Err why) F P Q other bad (inr (inr (at, is))) = inr (inr (at, is, other at (bad at is)))

-- ---- the losers are undone

pub undone_good : OnlyOwnPagesMatter → (format : Format) (held : List (List ℕ)) (list : List Loser) (items : List (List ℕ)) → AreCheckedIn format held → HasUndone held list items → AreUndone format held list items
undone_good own format held list items known u =
    let before = known.well_formed in
    let k = u.undone before.relations before.counters (bytes_of held) (λ p lt. refl) before.good in
    let alike : (p : ℕ) → p < length held → bytes_of items p ≡ k.0 p = λ p lt. k.1 p (subst (λ (n : ℕ). p < n) (sym u.count) lt) in
    record {
      before = known;
      undone = u;
      after = record {
        relations = before.relations;
        counters = before.counters;
        fits = before.fits;
        good = subst (λ (n : ℕ). IsGood before.relations before.counters n (bytes_of items)) (sym u.count) (own before.relations before.counters (length held) k.0 (bytes_of items) alike k.2).0;
      };
    }

pub undo_cause : {T : Type 0} (format : Format) (held : List (List ℕ)) (list : List Loser) (r : Result T Refusal) → AreCheckedIn format held → ((at : ℕ) → r ≡ Err (BadFormat at) → StopsAt held list at)
    → IfErr r (λ why. (why ≡ NoMemory) ⊎ ((at : ℕ) × (why ≡ BadFormat at))) → IfErr r (λ why. (why ≡ NoMemory) ⊎ ((at : ℕ) × (why ≡ BadFormat at) × StopsUndoing format held list at))
undo_cause format held list (Ok x) before stops cause = tt
undo_cause format held list (Err why) before stops (inl memory) = inl memory
undo_cause format held list (Err why) before stops (inr (at, is)) = inr (at, is, inr (before, stops at (ap (λ (w : Refusal). Err w) is)))

-- ---- a restart

pub cause_area : (Breaks : List ℕ → ℕ → Type 0) (c : List ℕ) → ((at : ℕ) → BreaksLog c at → Breaks c at) → (F G : Type 0) (slot : MasterSlot) (why : Refusal) → IsRuling c slot → (F → G)
    → (why ≡ NoMemory) ⊎ (((why ≡ DeviceFailed) × F) ⊎ ((at : ℕ) × (why ≡ BadFormat at) × BreaksAt slot.format c (area_start slot) (area_end slot) slot.pages at)) → IsCause Breaks c G why
cause_area Breaks c breaks F G slot why rules more (inl memory) = subst (IsCause Breaks c G) (sym memory) tt
cause_area Breaks c breaks F G slot why rules more (inr (inl failed)) = subst (IsCause Breaks c G) (sym failed.0) (more failed.1)
cause_area Breaks c breaks F G slot why rules more (inr (inr bad)) = subst (IsCause Breaks c G) (sym bad.1) (breaks bad.0 (in_area slot rules bad.2))

pub cause_behind : (c : List ℕ) (G : Type 0) (slot : MasterSlot) (batches : List Batch) (held : List (List ℕ)) (list : List Loser) (why : Refusal) → AreRepeated c slot batches held list
    → (why ≡ NoMemory) ⊎ ((at : ℕ) × (why ≡ BadFormat at) × StopsUndoing slot.format held list at) → IsCause BreaksFormat c G why
cause_behind c G slot batches held list why repeated (inl memory) = subst (IsCause BreaksFormat c G) (sym memory) tt
cause_behind c G slot batches held list why repeated (inr bad) = subst (IsCause BreaksFormat c G) (sym bad.1) (behind slot batches held list repeated bad.2)

pub repeated_of : (c0 c1 c2 : List ℕ) (slot : MasterSlot) (bs b2 b3 : List Batch) (held : List (List ℕ)) (ls l2 : List Loser) → c1 ≡ c0 → c2 ≡ c0 → b2 ≡ bs → b3 ≡ bs → l2 ≡ ls
    → HasArea c1 slot (records_of bs) → places_of bs ≡ places_from (area_start slot) (records_of bs) → length held ≡ slot.pages
    → ((opening : PageBytes) → GivesPages 8192 slot.pages opening (carried (joined (records_of b2))) c2 → AreFirst held (pages_held opening (joined (records_of b2))))
    → all_finished ls ≡ losers (joined (records_of b3)) → AllByRecursion (HasEnded b3) ls → AreRepeated c0 slot bs held l2
repeated_of c0 c1 c2 slot bs b2 b3 held ls l2 one two second third list area places count pages all ended = record {
  area = subst (λ (c : List ℕ). HasArea c slot (records_of bs)) one area;
  places = places;
  count = count;
  pages = λ opening gives. subst (λ (b : List Batch). AreFirst held (pages_held opening (joined (records_of b)))) second (pages opening
      (subst (λ (b : List Batch). GivesPages 8192 slot.pages opening (carried (joined (records_of b))) c2) (sym second) (subst (GivesPages 8192 slot.pages opening (carried (joined (records_of bs)))) (sym two) gives)));
  losers = ap all_finished list ∙ all ∙ ap (λ (b : List Batch). losers (joined (records_of b))) third;
  ended = subst (λ (b : List Batch). AllByRecursion (HasEnded b) l2) third (subst (AllByRecursion (HasEnded b3)) (sym list) ended);
}
