-- The area that a slot names, and pages in memory that a restart finds.
use Rattle.std.proofs.Common.{◌≡◌, ◌⊎◌, ⊎_elim, ℕ, ◌<◌, List, [], ◌∷◌, ◌++◌, length, get_or, refl, sym, ap, ◌∙◌, subst, arith}
use Rattle.std.specs.Prelude.{Result, Ok, Err, IfOk, IfErr}
use Rattle.std.proofs.lemmas.List.{map-append}
use Rattle.mt_base.specs.declared.format.Format.{Format}
use Rattle.mt_base.specs.declared.format.Format.TheVariants.{One, Two}
use Rattle.mt_base.specs.declared.refusal.Refusal.{Refusal}
use Rattle.mt_base.specs.declared.refusal.Refusal.TheVariants.{BadFormat, NoMemory}
use Rattle.mt_frame.specs.declared.slots.MasterSlot.{MasterSlot}
use Rattle.mt_frame.specs.declared.records.Record.{Record}
use Rattle.mt_frame.specs.Grammar.{IsOperation}
use Rattle.mt_log.specs.Batch.{joined}
use Rattle.mt_log.specs.Found.{records_of}
use Rattle.mt_log.specs.Holds.{AreBatches}
use Rattle.mt_log.specs.declared.batch.Batch.{Batch}
use Rattle.mt_pool.specs.Images.{GivesPages}
use Rattle.mt_pool.specs.Kept.{carried}
use Rattle.std.specs.List.{AllByRecursion}
use Rattle.mt_space.specs.PageLists.{bytes_of}
use Rattle.mt_model.specs.Model.{Base, base_after}
use Rattle.mt_model.specs.History.{run}
use Rattle.mt_space.specs.Changes.{PageBytes}
use Rattle.mt_steps.specs.Plans.{IsGood}
use Rattle.mt_page_rules.specs.Checks.{AreBroken, AreRecordPages}
use Rattle.mt_replay.specs.Laws.{EachInverseFinds, OnlyOwnPagesMatter, RestartFindsBase}
use Rattle.mt_replay.specs.Losers.{all_finished, AreOfGrammar, finished_of, HasEnded, HasUndone, StopsAt}
use Rattle.mt_log.specs.Masters.{area_size}
use Rattle.mt_replay.specs.Memory.{AreFirst}
use Rattle.mt_replay.specs.Recoverable.{IsRecoverable, pages_held}
use Rattle.mt_replay.specs.Stands.{AreHeld, CanReplay, HasArea, HaveFirstValues, ShowsBase}
use Rattle.mt_slots.specs.Page.{IsPage}
use Rattle.mt_page_rules.proofs.Checked.{good_pages}
use Rattle.mt_replay.specs.Recorded.{calls_of, op_of, Finished, losers, stands_for}
use Rattle.mt_replay.specs.Undoing.{UndoesAll}
use Rattle.mt_replay.specs.declared.losers.Loser.{Loser}

pub if_ok : {T E : Type 0} (P Q : T → Type 0) (r : Result T E) → ((x : T) → P x → Q x) → IfOk r P → IfOk r Q
if_ok P Q (Ok x) f p = f x p
if_ok P Q (Err e) f p = tt

-- ---- what is held, looked at and undone

-- values of pages that are alike
first_values : (items : List (List ℕ)) (f : PageBytes) (relations : ℕ) → AreFirst items f → HaveFirstValues relations (length items) f → HaveFirstValues relations (length items) (bytes_of items)
first_values items f relations alike have p lt is =
    let map : get_or (bytes_of items 0) p 0 ≡ get_or (f 0) p 0 = ap (λ (l : List ℕ). get_or l p 0) (alike 0 (omega (arith, lt))) in
    subst (IsPage relations 1024) (sym (alike p lt)) (have p lt (sym map ∙ is))

record_pages : (format : Format) (items : List (List ℕ)) (relations counters : ℕ) → IsGood relations counters (length items) (bytes_of items) → (format ≡ One → HaveFirstValues relations (length items) (bytes_of items)) → AreRecordPages format items relations
record_pages One items relations counters good short = short refl
record_pages Two items relations counters good short = good_pages items relations counters good

module _ (keeps : RestartFindsBase) (finds : EachInverseFinds) (own : OnlyOwnPagesMatter) (format : Format) (relations counters : ℕ) (items : List (List ℕ)) (list : List Loser) (b : Base) (held : AreHeld format relations counters items list b) where
  pub not_broken : AreBroken format items → ⊥
  not_broken broken =
      let f = pages_held held.opening held.records in
      let alike : (p : ℕ) → p < length items → bytes_of items p ≡ f p = held.pages in
      let good = (own relations counters (length items) f (bytes_of items) alike held.recoverable.leads.good).0 in
      broken relations counters held.fits good (record_pages format items relations counters good (λ is. first_values items f relations held.pages (held.short is)))

  pub not_stopped : (at : ℕ) → StopsAt items list at → ⊥
  not_stopped at s =
      let f = pages_held held.opening held.records in
      let m = s.missed relations counters f held.pages held.recoverable.leads.good in
      let split : losers held.records ≡ all_finished s.front ++ finished_of s.loser ∷ all_finished s.behind = sym held.losers ∙ ap all_finished s.is ∙ map-append finished_of s.front (s.loser ∷ s.behind) in
      m.2 (base_after (run (stands_for held.first held.records) (calls_of (all_finished s.front))) (op_of s.loser.done))
      (finds relations counters (length items) held.bytes held.opening m.0 held.records held.first held.recoverable held.holds held.bounds (all_finished s.front) (all_finished s.behind) (finished_of s.loser) split m.1)

  pub shows : (new : List (List ℕ)) → HasUndone items list new → ShowsBase relations counters new b
  shows new undone =
      let f = pages_held held.opening held.records in
      let k = undone.undone relations counters f held.pages held.recoverable.leads.good in
      let found = keeps relations counters (length items) held.bytes held.opening k.0 held.records held.first held.recoverable held.holds held.bounds (subst (λ (fs : List Finished). UndoesAll relations counters (length items) f fs k.0) held.losers k.3) in
      record {
        pages = k.0;
        first = k.1;
        good = subst (λ (n : ℕ). IsGood relations counters n k.0) (sym undone.count) k.2;
        holds = subst (λ (x : Base). Rattle.mt_steps.specs.Held.Holds k.0 x) (sym held.is) found.0;
      }

-- want of memory alone
pub only_memory : {T : Type 0} (r : Result T Refusal) → IfErr r (λ why. (why ≡ NoMemory) ⊎ ((at : ℕ) × (why ≡ BadFormat at))) → ((at : ℕ) → r ≡ Err (BadFormat at) → ⊥) → IfErr r (λ why. why ≡ NoMemory)
only_memory (Ok x) causes none = tt
only_memory {T} (Err why) causes none = ⊎_elim (λ (m : why ≡ NoMemory). m) (λ (b : (at : ℕ) × (why ≡ BadFormat at)). absurd (none b.0 (ap (λ (w : Refusal). Err w) b.1))) causes

-- ---- what the passes hand on

pub grammar_of : (pages : ℕ) (bs : List Batch) → AreBatches pages (records_of bs) → AreOfGrammar bs
grammar_of pages [] all = tt
grammar_of pages (b ∷ bs) all = (all.0.0, grammar_of pages bs all.1)

pub ended_grammar : (bs : List Batch) (ls : List Loser) → AllByRecursion (HasEnded bs) ls → AllByRecursion (λ (l : Loser). IsOperation l.done) ls
ended_grammar bs [] all = tt
ended_grammar bs (l ∷ ls) all = (all.0.grammar, ended_grammar bs ls all.1)

module _ (format : Format) (relations counters : ℕ) (c0 c2 : List ℕ) (b : Base) (can : CanReplay format relations counters c0 b) (same : c2 ≡ c0) (ruling : MasterSlot) (slot_is : ruling ≡ can.stands.slot) where
  pub area_had : HasArea c2 ruling can.stands.batches
  area_had = subst (λ (c : List ℕ). HasArea c ruling can.stands.batches) (sym same) (subst (λ (s : MasterSlot). HasArea c0 s can.stands.batches) (sym slot_is) (record { rules = can.stands.read.rules; held = can.stands.read.held; of_its_format = can.stands.read.of_its_format }))

  pub held_of : (found : List (List Record)) (items : List (List ℕ)) (list : List Loser) → found ≡ can.stands.batches → length items ≡ ruling.pages
      → ((opening : PageBytes) → GivesPages 8192 ruling.pages opening (carried (joined found)) c2 → AreFirst items (pages_held opening (joined found)))
      → all_finished list ≡ losers (joined found) → AreHeld ruling.format relations counters items list b
  held_of found items list found_is count held all =
      let s = can.stands in
      let gives = subst (λ (c : List ℕ). GivesPages 8192 ruling.pages s.opening (carried (joined found)) c) (sym same)
      (subst (λ (bs : List (List Record)). GivesPages 8192 ruling.pages s.opening (carried (joined bs)) c0) (sym found_is)
      (subst (λ (x : MasterSlot). GivesPages 8192 x.pages s.opening (carried (joined s.batches)) c0) (sym slot_is) s.read.gives)) in
      record {
        bytes = area_size s.slot;
        opening = s.opening;
        records = joined s.batches;
        first = s.first;
        fits = can.fits;
        recoverable = subst (λ (n : ℕ). IsRecoverable relations counters n (area_size s.slot) s.opening s.first (joined s.batches)) (sym (count ∙ ap (λ (x : MasterSlot). x.pages) slot_is)) can.recoverable;
        holds = s.holds;
        bounds = s.bounds;
        is = s.is;
        pages = subst (λ (bs : List (List Record)). AreFirst items (pages_held s.opening (joined bs))) found_is (held s.opening gives);
        losers = all ∙ ap (λ (bs : List (List Record)). losers (joined bs)) found_is;
        short = λ one. subst (λ (n : ℕ). HaveFirstValues relations n (pages_held s.opening (joined s.batches))) (sym (count ∙ ap (λ (x : MasterSlot). x.pages) slot_is))
            (can.short (sym (ap (λ (x : MasterSlot). x.format) slot_is) ∙ one));
      }
