-- What a migration finds, and what a crash leaves of it.
use Rattle.std.proofs.Common.{◌≡◌, ◌⊎◌, inl, inr, ⊎_elim, ℕ, ◌-◌, ◌<◌, ◌≤◌, Bool, cond, List, length, map, Result, Ok, Err, IfOk, refl, sym, subst, arith}
use Rattle.std.proofs.lemmas.Bool.{cases_lt, le-ltb, lt-ltb}
use Rattle.std.proofs.lemmas.Int.{ints}
use Rattle.std.proofs.lemmas.List.{get_or_past}
use Rattle.std.proofs.lemmas.List.Elements.{All-get_or, All-map}
use Rattle.mt_base.specs.Limits.{IsRelationCount}
use Rattle.mt_base.specs.declared.format.Format.TheVariants.{One}
use Rattle.mt_base.specs.declared.refusal.Refusal.{Refusal}
use Rattle.mt_base.specs.declared.refusal.Refusal.TheVariants as refusal
use Rattle.mt_model.specs.Model.{Base, IsBase, IsInBounds}
use Rattle.mt_model.specs.Tables.{IsLimited, count_at, no_count, started}
use Rattle.mt_model.specs.declared.counters.Count.{Count}
use Rattle.mt_disk.specs.declared.device.Device.{Ghosts}
use Rattle.mt_space.specs.PageLists.{bytes_of}
use Rattle.mt_log.proofs.Turns.{ruling_fits}
use Rattle.mt_log.specs.NextSlot.{next_slot}
use Rattle.mt_replay.specs.Laws.{OnlyOwnPagesMatter}
use Rattle.mt_replay.specs.Extension.{ExtendsSchema}
use Rattle.mt_replay.specs.Refused.{BreaksFormat, IsCause}
use Rattle.mt_replay.specs.Stands.{CanRestart, ShowsBase}
use Rattle.mt_replay.proofs.Extending.{relations_fit, shows_more}
use Rattle.mt_counters.specs.Counters.{AreCounters}
use Rattle.mt_counters.specs.Extended.{with_counters}
use Rattle.mt_restart.specs.Migrated.{Additions, IsCauseNotToCarry, ShowsGrown}
use Rattle.mt_restart.specs.OfFormat.{HasOtherFormat}
use Rattle.mt_restart.specs.Recovered.{IsRecovered}
use Rattle.mt_restart.specs.declared.recovery.Recovered.{Recovered}
use Rattle.mt_restart.proofs.Restarting.{are_images, restarts_next}
use Rattle.mt_steps.specs.Plans.{IsGood}

-- ---- the grown base

limited_bounds : (n : Count) → IsLimited n → IsInBounds n
limited_bounds n l = record { not_under = l.1; not_over = l.2 }

-- a counter that is there, and what represents one that is not
count_bounds : (counters : List Count) (i : ℕ) → ((j : ℕ) → j < length counters → IsLimited (count_at counters j)) → IsInBounds (count_at counters i)
count_bounds counters i each = ⊎_elim
    (λ (inside : i < length counters). limited_bounds (count_at counters i) (each i inside))
    (λ (past : length counters ≤ i). subst IsInBounds (sym (get_or_past counters i no_count past)) (record { not_under = omega (arith, ints); not_over = omega (arith, ints) }))
    (cases_lt i (length counters))

bounds_grow : (n : ℕ) (counters : List Count) (b : Base) → ((j : ℕ) → j < length counters → IsLimited (count_at counters j)) → IsBase b → IsBase (with_counters n counters b)
unfolding with_counters
bounds_grow n counters b each bounds c = ⊎_elim
    (λ (old : c < n). subst (λ (t : Bool). IsInBounds (cond t (b.counts c) (count_at counters (c - n)))) (sym (lt-ltb c n old)) (bounds c))
    (λ (new : n ≤ c). subst (λ (t : Bool). IsInBounds (cond t (b.counts c) (count_at counters (c - n)))) (sym (le-ltb c n new)) (count_bounds counters (c - n) each))
    (cases_lt c n)

module _ (more : Additions) (old new : List (List ℕ)) (extends : ExtendsSchema more.relations more.new_counters old new) where
  pub shows_grown : (r c : ℕ) (b : Base) → 3 ≤ length old → IsRelationCount r → IsBase b → ShowsBase r c old b → ShowsGrown more r c new b
  shows_grown r c b some fits bounds shows =
      let counters = map started more.new_counters in
      record {
        shows = shows_more more.relations more.new_counters old new extends r c b some shows;
        fits = relations_fit more.relations more.new_counters old new extends r c (subst (AreCounters r c) (sym (shows.first 2 (omega (arith, some)))) shows.good.counts) fits;
        bounds = bounds_grow c counters b (λ j lt. All-get_or IsLimited counters j no_count lt (All-map IsLimited started more.new_counters extends.takes.each)) bounds;
      }

-- ---- a device whose log has turned over to pages that show a base

pub recovered_restarts : {D : Type 0} (g : Ghosts D) → OnlyOwnPagesMatter → (frames : ℕ) (device : D) (x : Recovered) → IsRecovered g frames device x → (relations counters : ℕ) (b : Base) → IsRelationCount relations → IsBase b
    → ShowsBase relations counters x.restored.pages.items b → (c : List ℕ) → g.may_leave device c → CanRestart relations counters c b
recovered_restarts g own frames device x is relations counters b fits bounds shows c left =
    let items = x.restored.pages.items in
    let images = x.images.items in
    let next = next_slot is.ruling in
    let alike = own relations counters (length items) shows.pages (bytes_of items) (λ p lt. shows.first p lt) shows.good in
    let some = (ruling_fits (g.seen device) next is.turned.read.rules).mib.0 in
    subst (λ (seen : List ℕ). CanRestart relations counters seen b) (sym (is.turned.only c left))
    (restarts_next relations counters (g.seen device) b next (bytes_of items) images is.images.grammar (are_images (length items) images is.images.only) is.turned.read fits
    (subst (λ (n : ℕ). IsGood relations counters n (bytes_of items)) is.count alike.0) (alike.1 b shows.holds) bounds (omega (arith, some)) refl)

pub ok_both : {T E : Type 0} {P Q R : T → Type 0} (r : Result T E) → ((x : T) → P x → Q x → R x) → IfOk r P → IfOk r Q → IfOk r R
ok_both (Ok x) f p q = f x p q
ok_both (Err e) f p q = tt

-- ---- causes

replayed_cause : (more : Additions) (c : List ℕ) (failed : Type 0) (why : Refusal) → IsCause BreaksFormat c failed why → IsCauseNotToCarry more c failed why
replayed_cause more c failed refusal.WrongFormat cause = absurd cause
replayed_cause more c failed refusal.BadLength cause = absurd cause
replayed_cause more c failed refusal.LogFull cause = absurd cause
replayed_cause more c failed _ cause = cause

pub cause_replayed : (more : Additions) (c : List ℕ) (failed : Type 0) (why : Refusal) → IsCause BreaksFormat c failed why ⊎ ((why ≡ refusal.WrongFormat) × HasOtherFormat One c) → IsCauseNotToCarry more c failed why
cause_replayed more c failed why (inl cause) = replayed_cause more c failed why cause
cause_replayed more c failed why (inr other) = subst (IsCauseNotToCarry more c failed) (sym other.0) other.1
