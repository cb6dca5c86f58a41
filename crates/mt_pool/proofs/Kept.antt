-- Steps of a log and a pool keep what they know together, and at each moment a crash leaves what explains the pages.
use Rattle.std.proofs.Common.{◌≡◌, ◌⊎◌, inl, inr, ⊎_elim, ℕ, ◌+◌, ◌*◌, ◌<◌, ◌≤◌, List, [], ◌++◌, length, get_or, take, refl, sym, ◌∙◌, ap, subst, arith, length-append, append_assoc, append-nil, false, Option, None, Some}
use Rattle.std.proofs.Math.Seq.{take-append_seam}
use Rattle.std.proofs.lemmas.List.{map-append, length-map}
use Rattle.mt_disk.specs.declared.device.Device.{Ghosts}
use Rattle.mt_disk.specs.Disk.{Torn, Follows, Only, Elapses, LeavesOnly}
use Rattle.mt_disk.proofs.Frame.{Apart, torn_refl, follows_less, one_call, started}
use Rattle.mt_frame.specs.declared.records.Record.{Record}
use Rattle.mt_area_rules.specs.History.{some_record, is_of_page}
use Rattle.mt_log.specs.Batch.{joined}
use Rattle.mt_log.specs.Holds.{HoldsBatches}
use Rattle.mt_log.specs.Sound.{IsSound, HoldsBeginning}
use Rattle.mt_log.specs.Words.{durable, in_flight, waiting, appended, area_start, area_end, area_size, IsOn, IsStep, Moves}
use Rattle.mt_log.specs.declared.log.Forced.{Forced}
use Rattle.mt_log.specs.declared.log.Forced.TheVariants.{More, Durable, Idle as Nothing}
use Rattle.mt_log.specs.declared.log.Log.{Log}
use Rattle.mt_log.proofs.AtRest.{scans_coming}
use Rattle.mt_log.proofs.Prefix.{beginning_found}
use Rattle.mt_log.proofs.Elsewhere.{on_elsewhere}
use Rattle.mt_log.proofs.Ruling.{ruling_elsewhere}
use Rattle.mt_log.specs.Masters.{IsRuling}
use Rattle.mt_frame.specs.declared.slots.MasterSlot.{MasterSlot}
use Rattle.mt_pool.specs.Images.{slot, IsSafe, GivesPages}
use Rattle.mt_pool.specs.Views.{IsPool, Shows, IsTied, held, pages, view, waits_for}
use Rattle.mt_pool.specs.declared.pool.Pool.{Pool}
use Rattle.mt_pool.specs.Kept.{carried_of, carried, Explains, IsKept, Names}
use Rattle.mt_pool.specs.declared.store.Store.{Store}
use Rattle.mt_pool.proofs.Safe.{cut_torn, gives_pages, safe_elsewhere, safe_less}
use Rattle.mt_pool.proofs.Tied.{tied_same, safe_page, views_apart, shows_apart}

-- the images of a beginning of the records
pub carried_take : (xs ys : List Record) → take (length xs) (carried (xs ++ ys)) ≡ carried xs
carried_take xs ys =
    ap (λ (n : ℕ). take n (carried (xs ++ ys))) (sym (length-map xs carried_of)) ∙ ap (λ l. take (length (carried xs)) l) (map-append carried_of xs ys) ∙ take-append_seam (carried xs) (carried ys)

-- a slot rules where bytes behind it are torn
pub rules_on : (ruling : MasterSlot) (at n : ℕ) (may later : List ℕ → Type 0) → 8192 ≤ at → Follows (Torn at n) may later → ((c : List ℕ) → may c → IsRuling c ruling) → (c : List ℕ) → later c → IsRuling c ruling
rules_on ruling at n may later behind follows rules c left = let from = follows c left in ruling_elsewhere at n from.0 c ruling (rules from.0 from.1) from.2 behind

-- what a step that made no batch durable leaves
pub same_durable : (old new : Log) (forced : Forced) → ((x : ℕ) → forced ≡ Durable x → ⊥) → IsStep old forced new → durable new ≡ durable old
same_durable old new Nothing not step = step.2
same_durable old new More not step = step.0
same_durable old new (Durable x) not step = absurd (not x refl)

-- records that have joined the durable ones, or none
pub joined_more : (old new : Log) → Moves old new → (more : List Record) × (durable new ≡ durable old ++ more)
joined_more old new m = ⊎_elim
    (λ s. ([], s.0 ∙ sym (append-nil (durable old))))
    (λ rest. ⊎_elim (λ s. ([], s.1 ∙ sym (append-nil (durable old)))) (λ s. (in_flight old, s.1)) rest)
    m

-- a slot that names the pages and the area of a log names as many pages there, and the same area
pub names_same : (ruling : MasterSlot) (pool new : Pool) (log later : Log) → new.place ≡ pool.place → pages new ≡ pages pool → area_start later ≡ area_start log → area_end later ≡ area_end log → Names ruling pool log → Names ruling new later
names_same ruling pool new log later place count start end n = record { count = n.count ∙ sym count; place = place ∙ n.place; start = n.start ∙ sym start; end = n.end ∙ sym end; second = n.second }

module _ {D : Type 0} (g : Ghosts D) (opening : ℕ → List ℕ) (s : Store D) (k : IsKept g opening s) where
  -- a crash now
  pub explains : (c : List ℕ) → g.may_leave s.device c → Explains opening s c
  explains c left =
      let found : HoldsBeginning (pages s.pool) s.log c = beginning_found (pages s.pool) s.log c k.sound (scans_coming g s.log s.device k.on c left) in
      let start = joined found.batches in
      let images : take (length start) (carried (appended s.log)) ≡ carried start =
      ap (λ (l : List Record). take (length start) (carried l)) (sym found.beginning.of_appended) ∙ carried_take start found.beginning.rest in
      let more = ap length found.beginning.has_durable in
      record {
        batches = found.batches;
        held = found.held;
        beginning = found.beginning;
        gives = subst (λ es. GivesPages s.pool.place (pages s.pool) opening es c) images
            (gives_pages s.pool.place (pages s.pool) opening (carried (appended s.log)) (length (durable s.log)) (g.may_leave s.device) k.safe (length start)
            (omega (arith, more, length-append (durable s.log) found.beginning.more)) c left);
        ruling = s.ruling;
        rules = k.rules c left;
        names = k.names;
      }

-- what explains the pages after a step did so before it
pub explains_back : {D : Type 0} (opening : ℕ → List ℕ) (s t : Store D) (c : List ℕ) → area_start t.log ≡ area_start s.log → area_end t.log ≡ area_end s.log → t.pool.place ≡ s.pool.place → pages t.pool ≡ pages s.pool
    → appended t.log ≡ appended s.log → (more : List Record) → durable t.log ≡ durable s.log ++ more → Explains opening t c → Explains opening s c
explains_back opening s t c start end place count same more grown e = record {
  batches = e.batches;
  held = subst (λ (x : ℕ). HoldsBatches c x (area_end s.log) (pages s.pool) e.batches) start
      (subst (λ (x : ℕ). HoldsBatches c (area_start t.log) x (pages s.pool) e.batches) end
      (subst (λ (x : ℕ). HoldsBatches c (area_start t.log) (area_end t.log) x e.batches) count e.held));
  beginning = record {
    more = more ++ e.beginning.more;
    has_durable = e.beginning.has_durable ∙ ap (λ (l : List Record). l ++ e.beginning.more) grown ∙ append_assoc (durable s.log) more e.beginning.more;
    rest = e.beginning.rest;
    of_appended = e.beginning.of_appended ∙ same;
  };
  gives = subst (λ (x : ℕ). GivesPages x (pages s.pool) opening (carried (joined e.batches)) c) place
      (subst (λ (x : ℕ). GivesPages t.pool.place x opening (carried (joined e.batches)) c) count e.gives);
  ruling = e.ruling;
  rules = e.rules;
  names = names_same e.ruling t.pool s.pool t.log s.log (sym place) (sym count) (sym start) (sym end) e.names;
}

-- a call with at most one device call
pub each_moment : {D : Type 0} (g : Ghosts D) → ((d : D) (c : List ℕ) → g.left_since d (g.moment d) c → g.may_leave d c) → (opening : ℕ → List ℕ) (s t : Store D)
    → IsKept g opening s → IsKept g opening t → area_start t.log ≡ area_start s.log → area_end t.log ≡ area_end s.log → t.pool.place ≡ s.pool.place → pages t.pool ≡ pages s.pool → appended t.log ≡ appended s.log
    → (more : List Record) → durable t.log ≡ durable s.log ++ more
    → Elapses (g.moment s.device) (g.moment t.device) (g.left_since s.device) (g.left_since t.device) (g.may_leave t.device) → LeavesOnly g.moment g.left_since s.device t.device (Explains opening s)
each_moment g only_now opening s t k k2 start end place count same more grown time =
    one_call g.moment g.left_since (g.may_leave s.device) (g.may_leave t.device) s.device t.device (Explains opening s) (only_now s.device) time (explains g opening s k)
    (λ c left. explains_back opening s t c start end place count same more grown (explains g opening t k2 c left))

module _ {D : Type 0} (g : Ghosts D) (opening : ℕ → List ℕ) (s : Store D) (k : IsKept g opening s) where
  -- a force step
  pub kept_force : (log : Log) (d : D) (n : ℕ) → IsOn g log d → (IsSound (pages s.pool) s.log → IsSound (pages s.pool) log) → Moves s.log log → appended log ≡ appended s.log → n ≡ length (durable log)
      → area_start log ≡ area_start s.log → area_end log ≡ area_end s.log → Torn (area_start s.log) (area_size s.log) (g.seen s.device) (g.seen d) → Follows (Torn (area_start s.log) (area_size s.log)) (g.may_leave s.device) (g.may_leave d)
      → IsKept g opening (record s { log = log; device = d; settled = n })
  kept_force log d n on sound moves same n_is start end rest follows =
      let apart : Apart (area_start s.log) (area_size s.log) s.pool.place (4096 * pages s.pool) = inl k.apart in
      let grown = joined_more s.log log moves in
      let more : length (durable log) ≡ length (durable s.log) + length grown.0 = ap length grown.1 ∙ length-append (durable s.log) grown.0 in
      let all : length (carried (appended log)) ≡ length (durable log) + length (in_flight log ++ waiting log) = length-map (appended log) carried_of ∙ length-append (durable log) (in_flight log ++ waiting log) in
      record {
        on = on;
        sound = sound k.sound;
        apart = let a = k.apart in omega (arith, start);
        few = k.few;
        frames = k.frames;
        shows = shows_apart s.pool (area_start s.log) (area_size s.log) (g.seen s.device) (g.seen d) k.frames rest apart k.shows;
        settled = n_is;
        safe = subst (λ (l : List Record). IsSafe s.pool.place (pages s.pool) opening (carried l) (length (durable log)) (g.may_leave d)) (sym same)
            (safe_elsewhere s.pool.place (pages s.pool) opening (carried (appended s.log)) (length (durable s.log)) (g.may_leave s.device) (g.may_leave d) k.safe (area_start s.log) (area_size s.log) (length (durable log))
            (omega (arith, more)) (omega (arith, all, ap (λ (l : List Record). length (carried l)) same)) apart follows);
        tied = subst (λ (l : List Record). IsTied s.pool (g.seen d) opening (carried l)) (sym same)
            (tied_same s.pool s.pool (g.seen s.device) (g.seen d) opening (carried (appended s.log)) k.tied refl refl (views_apart s.pool (area_start s.log) (area_size s.log) (g.seen s.device) (g.seen d) rest apart));
        names = names_same s.ruling s.pool s.pool s.log log refl refl start end k.names;
        rules = rules_on s.ruling (area_start s.log) (area_size s.log) (g.may_leave s.device) (g.may_leave d) (let a = k.apart in let at = k.names.place in omega (arith, a, at)) follows k.rules;
        unnamed = λ p lt none. ap (λ (l : List Record). some_record (is_of_page p) l) same ∙ k.unnamed p lt none;
      }

  -- a flush step
  pub kept_flush : (p : Pool) (d : D) (n : ℕ) → n ≡ s.settled → IsPool p → Shows p (g.seen d) → p.waits ≡ s.pool.waits → p.place ≡ s.pool.place → pages p ≡ pages s.pool → ((q : ℕ) → view p (g.seen d) q ≡ view s.pool (g.seen s.device) q)
      → (d ≡ s.device) ⊎ ((x : ℕ) × (x < pages s.pool) × (0 < waits_for s.pool x) × (waits_for s.pool x ≤ n)
      × Torn (s.pool.place + 4096 * x) 4096 (g.seen s.device) (g.seen d) × Follows (Torn (s.pool.place + 4096 * x) 4096) (g.may_leave s.device) (g.may_leave d))
      → IsKept g opening (record s { pool = p; device = d })
  kept_flush p d n n_is ok shows waits place count views crash = record {
    on = ⊎_elim
        (λ same. subst (λ (x : D). IsOn g s.log x) (sym same) k.on)
        (λ f. let lt = f.1 in let apart = k.apart in on_elsewhere g s.log s.device d (s.pool.place + 4096 * f.0) 4096 k.on (inr (omega arith)) f.4 f.5)
        crash;
    sound = subst (λ (x : ℕ). IsSound x s.log) (sym count) k.sound;
    apart = let a = k.apart in omega (arith, place, count);
    few = omega (arith, count, k.few);
    frames = ok;
    shows = shows;
    settled = k.settled;
    safe = subst (λ (x : ℕ). IsSafe x (pages p) opening (carried (appended s.log)) (length (durable s.log)) (g.may_leave d)) (sym place)
        (subst (λ (x : ℕ). IsSafe s.pool.place x opening (carried (appended s.log)) (length (durable s.log)) (g.may_leave d)) (sym count)
        (⊎_elim
        (λ same. subst (λ (x : D). IsSafe s.pool.place (pages s.pool) opening (carried (appended s.log)) (length (durable s.log)) (g.may_leave x)) (sym same) k.safe)
        (λ f. safe_page s.pool (g.seen s.device) opening (carried (appended s.log)) (length (durable s.log)) (g.may_leave s.device) (g.may_leave d) f.0 k.tied k.safe f.1 f.2 (let le = f.3 in omega (arith, n_is, k.settled)) f.5)
        crash));
    tied = tied_same s.pool p (g.seen s.device) (g.seen d) opening (carried (appended s.log)) k.tied waits count (λ q lt. views q);
    names = names_same s.ruling s.pool p s.log s.log place count refl refl k.names;
    rules = ⊎_elim
        (λ same. subst (λ (x : D). (c : List ℕ) → g.may_leave x c → IsRuling c s.ruling) (sym same) k.rules)
        (λ f. rules_on s.ruling (s.pool.place + 4096 * f.0) 4096 (g.may_leave s.device) (g.may_leave d) (let at = k.names.place in omega (arith, at)) f.5 k.rules)
        crash;
    unnamed = λ q lt none. k.unnamed q (omega (arith, lt, count)) (sym (ap (λ v. get_or v.items q 0) waits) ∙ none);
  }

  -- a fetch, which reads
  pub kept_read : (p : Pool) (d : D) → IsPool p → Shows p (g.seen d) → p.waits ≡ s.pool.waits → p.place ≡ s.pool.place → pages p ≡ pages s.pool → ((q : ℕ) → view p (g.seen d) q ≡ view s.pool (g.seen s.device) q)
      → g.seen d ≡ g.seen s.device → ((c : List ℕ) → g.may_leave d c → g.may_leave s.device c) → IsKept g opening (record s { pool = p; device = d })
  kept_read p d ok shows waits place count views same less = record {
    on = on_elsewhere g s.log s.device d 0 0 k.on (inr (omega arith)) (subst (Torn 0 0 (g.seen s.device)) (sym same) (torn_refl 0 0 (g.seen s.device))) (follows_less 0 0 (g.may_leave s.device) (g.may_leave d) less);
    sound = subst (λ (x : ℕ). IsSound x s.log) (sym count) k.sound;
    apart = let a = k.apart in omega (arith, place, count);
    few = omega (arith, count, k.few);
    frames = ok;
    shows = shows;
    settled = k.settled;
    safe = subst (λ (x : ℕ). IsSafe x (pages p) opening (carried (appended s.log)) (length (durable s.log)) (g.may_leave d)) (sym place)
        (subst (λ (x : ℕ). IsSafe s.pool.place x opening (carried (appended s.log)) (length (durable s.log)) (g.may_leave d)) (sym count)
        (safe_less s.pool.place (pages s.pool) opening (carried (appended s.log)) (length (durable s.log)) (g.may_leave s.device) (g.may_leave d) k.safe less));
    tied = tied_same s.pool p (g.seen s.device) (g.seen d) opening (carried (appended s.log)) k.tied waits count (λ q lt. views q);
    names = names_same s.ruling s.pool p s.log s.log place count refl refl k.names;
    rules = λ c left. k.rules c (less c left);
    unnamed = λ q lt none. k.unnamed q (omega (arith, lt, count)) (sym (ap (λ v. get_or v.items q 0) waits) ∙ none);
  }

  -- a page is put back
  pub kept_restore : (p : Pool) → IsPool p → Shows p (g.seen s.device) → p.waits ≡ s.pool.waits → p.place ≡ s.pool.place → pages p ≡ pages s.pool → IsTied p (g.seen s.device) opening (carried (appended s.log))
      → IsKept g opening (record s { pool = p })
  kept_restore p ok shows waits place count tied = record {
    on = k.on;
    sound = subst (λ (x : ℕ). IsSound x s.log) (sym count) k.sound;
    apart = let a = k.apart in omega (arith, place, count);
    few = omega (arith, count, k.few);
    frames = ok;
    shows = shows;
    settled = k.settled;
    safe = subst (λ (x : ℕ). IsSafe x (pages p) opening (carried (appended s.log)) (length (durable s.log)) (g.may_leave s.device)) (sym place)
        (subst (λ (x : ℕ). IsSafe s.pool.place x opening (carried (appended s.log)) (length (durable s.log)) (g.may_leave s.device)) (sym count) k.safe);
    tied = tied;
    names = names_same s.ruling s.pool p s.log s.log place count refl refl k.names;
    rules = k.rules;
    unnamed = λ q lt none. k.unnamed q (omega (arith, lt, count)) (sym (ap (λ v. get_or v.items q 0) waits) ∙ none);
  }

  -- no device call
  pub no_call : ((d : D) (c : List ℕ) → g.left_since d (g.moment d) c → g.may_leave d c) → LeavesOnly g.moment g.left_since s.device s.device (Explains opening s)
  no_call only_now = started g.moment g.left_since s.device (Explains opening s) (λ c left. explains g opening s k c (only_now s.device c left))

-- where no frame is to be flushed, each page is in its slot
pub all_in_slots : (pool : Pool) (seen : List ℕ) → IsPool pool → Shows pool seen → ((f : ℕ) → get_or pool.dirty.items f false ≡ false) → (q : ℕ) → slot pool.place seen q ≡ view pool seen q
all_in_slots pool seen ok shows clean q = framed_or_not (get_or pool.of_page.items q None) refl
  where
    framed_or_not : (o : Option ℕ) → get_or pool.of_page.items q None ≡ o → slot pool.place seen q ≡ held o pool.bytes.items (slot pool.place seen q)
    framed_or_not None is = refl
    framed_or_not (Some f) is = sym (shows.clean f q (ok.names.there q f is).1 (clean f))
