-- As a device is formatted no page is lost, so that its log can turn over.
use Rattle.std.proofs.Common.{◌≡◌, inl, inr, ◌+◌, ◌<◌, ◌∙◌, ◌==◌, ℕ, Bool, true, false, ◌||◌, List, [], ◌∷◌, length, get_or, Some, None, refl, sym, ap, subst, arith}
use Rattle.std.specs.List.{AllByRecursion}
use Rattle.mt_base.specs.declared.refusal.Refusal.{Refusal}
use Rattle.mt_base.specs.declared.refusal.Refusal.TheVariants.{LogFull}
use Rattle.mt_format.proofs.Begun.{first_rules}
use Rattle.mt_format.proofs.Founded.{good_first, read_first}
use Rattle.mt_format.specs.Formats.{IsFormattedAs, first_slot}
use Rattle.mt_format.specs.Schemas.{pages_in, relations_in, counters_in}
use Rattle.mt_format.specs.declared.schema.Schema.{Schema}
use Rattle.mt_frame.specs.Grammar.{body_text}
use Rattle.mt_frame.specs.Laws.{OneSlot}
use Rattle.mt_frame.specs.declared.records.Record.{Record}
use Rattle.mt_frame.specs.declared.records.Record.TheVariants.{Page, OpEnd, OpDropped, Commit, AbortEnd}
use Rattle.mt_frame.specs.declared.slots.MasterSlot.{MasterSlot}
use Rattle.mt_live.proofs.AddLemmas.{eq_self}
use Rattle.mt_log.proofs.OneWay.{holds_one}
use Rattle.mt_log.specs.Batch.{joined}
use Rattle.mt_log.specs.Found.{records_of}
use Rattle.mt_log.specs.Holds.{HoldsBatches}
use Rattle.mt_log.specs.Masters.{IsRuling, area_size, area_start, area_end}
use Rattle.mt_pool.specs.Images.{GivesPages, has_image, slot}
use Rattle.mt_pool.specs.Kept.{carried}
use Rattle.mt_pool.specs.Turns.{IsImageOnly}
use Rattle.mt_replay.specs.Losers.{all_finished}
use Rattle.mt_replay.specs.Memory.{AreFirst}
use Rattle.mt_replay.specs.Recoverable.{pages_held}
use Rattle.mt_replay.specs.Refused.{BreaksFormat, IsCause}
use Rattle.mt_replay.specs.Recorded.{Finished, losers}
use Rattle.mt_replay.specs.Undoing.{UndoesAll}
use Rattle.mt_space.specs.Changes.{PageBytes}
use Rattle.mt_steps.specs.Plans.{IsGood}
use Rattle.mt_restart.proofs.Ruled.{one_rules}
use Rattle.mt_restart.specs.Recovered.{CannotTurn, IsCauseToStop}

not_true : (b : Bool) → (b ≡ true → ⊥) → b ≡ false
not_true true none = absurd (none refl)
not_true false none = refl

-- records that are images, and of no page, are none
no_images : (n : ℕ) (images : List Record) → AllByRecursion (IsImageOnly n) images → ((p : ℕ) → p < n → has_image (carried images) p ≡ false) → images ≡ []
no_images n [] only none = refl
no_images n (Page txn op page (Some bytes) start old new ∷ rs) only none =
    let there : ((page == page) || has_image (carried rs) page) ≡ true = ap (λ (b : Bool). b || has_image (carried rs) page) (eq_self page) in
    let wrong : true ≡ false = sym there ∙ none page only.0.1 in absurd cc
no_images n (Page txn op page None start old new ∷ rs) only none = let wrong : false ≡ true = only.0.2 in absurd cc
no_images n (OpEnd txn op undoes done ∷ rs) only none = absurd only.0
no_images n (OpDropped txn op ∷ rs) only none = absurd only.0
no_images n (Commit txn ∷ rs) only none = absurd only.0
no_images n (AbortEnd txn ∷ rs) only none = absurd only.0

module _ (one : OneSlot) (s : Schema) (c : List ℕ) (f : IsFormattedAs s c) where
  first_one : (r : MasterSlot) → IsRuling c r → r ≡ first_slot s
  first_one r rules = one_rules one c r (first_slot s) rules (first_rules s c f)

  one_batch : (r : MasterSlot) (bs : List (List Record)) → IsRuling c r → HoldsBatches c (area_start r) (area_end r) r.pages bs → bs ≡ [] ∷ []
  one_batch r bs rules held =
      let few = s.area_size.1 in
      holds_one c (area_start (first_slot s)) (area_end (first_slot s)) (pages_in s) bs ([] ∷ []) (omega (arith, few))
      (subst (λ (m : MasterSlot). HoldsBatches c (area_start m) (area_end m) m.pages bs) (first_one r rules) held) (read_first s c f).held

  module _ (x : CannotTurn c) where
    -- it has no losers, and so each page in memory is as in its slot
    no_record : records_of x.replayed.batches ≡ [] ∷ []
    no_record = one_batch x.ruling (records_of x.replayed.batches) x.replayed.repeated.area.rules x.replayed.repeated.area.held

    count : length x.replayed.held ≡ pages_in s
    count = x.replayed.repeated.count ∙ ap (λ (r : MasterSlot). r.pages) (first_one x.ruling x.replayed.repeated.area.rules)

    held : AreFirst x.replayed.held (slot 8192 c)
    held = subst (λ (bs : List (List Record)). AreFirst x.replayed.held (pages_held (slot 8192 c) (joined bs))) no_record
        (x.replayed.repeated.pages (slot 8192 c) (subst (λ (bs : List (List Record)). GivesPages 8192 x.ruling.pages (slot 8192 c) (carried (joined bs)) c) (sym no_record) (λ p lt. refl)))

    no_losers : all_finished x.replayed.list ≡ []
    no_losers = x.replayed.repeated.losers ∙ ap (λ (bs : List (List Record)). losers (joined bs)) no_record

    slots : AreFirst x.items (slot 8192 c)
    slots =
        let k = x.replayed.undone.undone.undone (relations_in s) (length (counters_in s)) (slot 8192 c) held (subst (λ (n : ℕ). IsGood (relations_in s) (length (counters_in s)) n (slot 8192 c)) (sym count) (good_first s c f)) in
        let same : k.0 ≡ slot 8192 c = subst (λ (fs : List Finished). UndoesAll (relations_in s) (length (counters_in s)) (length x.replayed.held) (slot 8192 c) fs k.0) no_losers k.3 in
        subst (λ (g : PageBytes). AreFirst x.items g) same k.1

    -- so none is lost
    none_lost : (p : ℕ) → p < length x.items → get_or x.turn_barred.marks.lost.items p false ≡ false
    none_lost p lt = not_true (get_or x.turn_barred.marks.lost.items p false) (λ lost. (x.turn_barred.marked.lost.other p lt lost).1 (sym (slots p lt)))

    none_imaged : x.turn_barred.marks.images.items ≡ []
    none_imaged = no_images (length x.items) x.turn_barred.marks.images.items x.turn_barred.marked.images.only (λ p lt. x.turn_barred.marked.images.some p lt ∙ none_lost p lt)

    turns_after_all : ⊥
    turns_after_all =
        let first = first_one x.ruling x.turn_barred.marked.rules in
        let epoch : x.ruling.epoch ≡ 1 = ap (λ (r : MasterSlot). r.epoch) first in
        let some = s.area_size.0 in
        x.turn_barred.none (record {
          not_last = omega (arith, epoch);
          fits = subst (λ (X : Type 0). X) (λ i. 5 + length (body_text (sym none_imaged i)) < area_size (sym first i)) (omega (arith, some));
        })

  pub format_turns : CannotTurn c → ⊥
  format_turns x = turns_after_all x

-- and it is refused for any other reason
pub never_full : OneSlot → (s : Schema) (c : List ℕ) (failed : Type 0) (why : Refusal) → IsFormattedAs s c → IsCauseToStop c failed why → why ≡ LogFull → ⊥
never_full one s c failed why f (inl other) full = subst (λ (w : Refusal). IsCause BreaksFormat c failed w) full other
never_full one s c failed why f (inr (inl cannot)) full = format_turns one s c f cannot.1
never_full one s c failed why f (inr (inr other)) full = absurd (let no = other.0 in cc)
