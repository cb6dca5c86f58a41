-- The store moves below the operations: their worlds, and what is kept of them all.
use Rattle.std.proofs.Common.{◌≡◌, ◌≢◌, inl, ℕ, ◌≤◌, ◌<◌, List, [], ◌∷◌, ◌++◌, length, refl, sym, ap, ◌∙◌, subst, arith, eq-eqb}
use Rattle.std.specs.Prelude.{Bool, if◌then◌else◌, Result, Ok, Err, IfErr, IfOk, OnOk, OnErr}
use Rattle.std.specs.List.{AllByRecursion}
use Rattle.std.proofs.lemmas.List.Elements.{All-nil, recursion_from_All}
use Rattle.mt_disk.specs.declared.device.Device.{Ghosts}
use Rattle.mt_frame.specs.declared.records.Record.{Record}
use Rattle.mt_frame.specs.declared.records.Record.TheVariants.{Page, OpEnd, OpDropped, Commit, AbortEnd}
use Rattle.mt_frame.specs.Grammar.{txn_of}
use Rattle.mt_base.specs.declared.refusal.Refusal.{Refusal}
use Rattle.mt_base.specs.declared.refusal.Refusal.TheVariants as refusal
use Rattle.mt_log.specs.Seen.{with_record}
use Rattle.mt_log.specs.Words.{appended, seen_of}
use Rattle.mt_pool.proofs.Logged.{longer_appended}
use Rattle.mt_file.specs.Rooms.{AreRooms}
use Rattle.mt_plock.specs.Holding.{AreTogether}
use Rattle.mt_space.specs.Changes.{PageBytes}
use Rattle.mt_pool.specs.Kept.{IsKept}
use Rattle.mt_pool.specs.Views.{view, pages}
use Rattle.mt_pool.specs.declared.pool.Pool.{Pool}
use Rattle.mt_pool.specs.declared.store.Store.{Store}
use Rattle.mt_space.specs.Rooms.{mapped, free_of, reserved_of}
use Rattle.mt_steps.specs.Plans.{IsGood}
use Rattle.mt_steps.specs.Repeated.{Repeated, changed, repeated, repeat, held}
use Rattle.mt_op.specs.World.{World, repeated_in, held_in, IsCovered, IsWorld, IsUnderWay}
use Rattle.mt_op.specs.Moves.{Rests, Notes, EndsTxn}
use Rattle.mt_op.specs.Begun.{AreImages, ShowsOpening}
use Rattle.mt_op.specs.Operations.{world, IsRight}
use Rattle.mt_op.specs.Stepping.{AppendSteps}
use Rattle.mt_op.proofs.LogSeen.{same_appended}
use Rattle.mt_op.specs.declared.operations.Operations.{Operations}
use Rattle.mt_op.specs.declared.scope.OpScope.{OpScope}
use Rattle.mt_op.proofs.Staying.{world_of, rests_own, rests_held}
use Rattle.mt_op.proofs.Noting.{world_notes, notes_held, others_note}
use Rattle.mt_op.proofs.Right.{right_held, right_rests, with_store}

-- ---- a record is appended

module _ {D : Type 0} (g : Ghosts D) (opening : PageBytes) (relations counters : ℕ) (o : Operations D) (s : Store D) (r : Record)
    (pool : s.pool ≡ o.store.pool) (device : s.device ≡ o.store.device) where
  abbrev w : World
  w = world g opening o

  abbrev z : World
  z = world g opening (with_store o s)

  same_view : (p : ℕ) → z.present p ≡ w.present p
  same_view p = λ i. view (pool i) (g.seen (device i)) p

  notes : appended s.log ≡ appended o.store.log ++ r ∷ [] → Notes w z r
  notes records = record { area = record { opening = refl; total = ap (λ (p : Pool). pages p) pool }; pages = λ p lt. same_view p; records = records; locks = refl }

  rests : appended s.log ≡ appended o.store.log → Rests w z
  rests records = record { area = record { opening = refl; total = ap (λ (p : Pool). pages p) pool }; pages = λ p lt. same_view p; records = records; locks = refl }

  -- all operations are right behind it
  pub right_appended : {A B : Type 0} (x : Result A B) → OnOk x (appended s.log ≡ appended o.store.log ++ r ∷ []) → OnErr x (appended s.log ≡ appended o.store.log) → EndsTxn (txn_of r) r
      → IsRight g opening relations counters o → IsKept g opening s → IsRight g opening relations counters (with_store o s)
  right_appended (Ok a) ok err ends right kept =
      right_held g opening relations counters o (with_store o s) right kept (world_notes relations counters w z (txn_of r) r (notes ok) ends right.sound)
      (notes_held relations counters w z (txn_of r) r (notes ok) ends) refl refl (ap (λ (p : Pool). pages p) pool)
  right_appended (Err why) ok err ends right kept = right_rests g opening relations counters o (with_store o s) right kept (rests err) refl refl

  -- the pages held stay
  pub held_appended : {A B : Type 0} (x : Result A B) → OnOk x (appended s.log ≡ appended o.store.log ++ r ∷ []) → OnErr x (appended s.log ≡ appended o.store.log) → EndsTxn (txn_of r) r → held_in z ≡ held_in w
  held_appended (Ok a) ok err ends = notes_held relations counters w z (txn_of r) r (notes ok) ends
  held_appended (Err why) ok err ends = rests_held w z (rests err)

  -- and those of other transactions under way
  pub others_appended : {A B : Type 0} (x : Result A B) → OnOk x (appended s.log ≡ appended o.store.log ++ r ∷ []) → OnErr x (appended s.log ≡ appended o.store.log) → EndsTxn (txn_of r) r
      → (u : OpScope) → IsUnderWay relations counters w u → u.txn ≢ txn_of r → IsUnderWay relations counters z u
  others_appended (Ok a) ok err ends u k other = others_note relations counters w z (txn_of r) r (notes ok) ends u k other
  others_appended (Err why) ok err ends u k other = rests_own relations counters w z u (rests err) k

-- the record is appended, or memory was refused and none is
pub append_steps : {D : Type 0} (g : Ghosts D) (o : Operations D) (s : Store D) (entry : Record) → s.pool ≡ o.store.pool → s.device ≡ o.store.device → (r : Result ℕ Refusal)
    → OnOk r (seen_of s.log ≡ with_record (seen_of o.store.log) entry) → OnErr r (seen_of s.log ≡ seen_of o.store.log) → IfOk r (λ place. place ≡ length (appended s.log)) → IfErr r (λ why. why ≡ refusal.NoMemory)
    → AppendSteps g o (with_store o s) entry r
append_steps g o s entry pool device (Ok place) log err at memory = record {
  notes = λ opening. notes g opening 0 0 o s entry pool device (longer_appended o.store.log s.log (entry ∷ []) log);
  place = at;
  log = log;
}
append_steps g o s entry pool device (Err why) log err at memory = record {
  rests = λ opening. rests g opening 0 0 o s entry pool device (same_appended o.store.log s.log err);
  err = err;
  only_memory = memory;
}

-- ---- no record but images is in the log

-- nothing is unfinished over these pages
abbrev idle : PageBytes → Repeated
idle pages = record { pages = pages; unfinished = [] }

image_idle : (pages : PageBytes) (r : Record) → txn_of r ≡ 0 → repeated (idle pages) r ≡ idle pages
image_idle pages (Page txn op page image start old new) none =
    ap (λ (b : Bool). if b then idle pages else changed (idle pages) (record { op = op; page = page; start = start; old = old; new = new } ∷ [])) (eq-eqb txn 0 none)
image_idle pages (OpEnd txn op undoes done) none = refl
image_idle pages (OpDropped txn op) none = refl
image_idle pages (Commit txn) none = refl
image_idle pages (AbortEnd txn) none = refl

images_idle : (pages : PageBytes) (rs : List Record) → AllByRecursion (λ (r : Record). txn_of r ≡ 0) rs → repeat (idle pages) rs ≡ idle pages
images_idle pages [] none = refl
images_idle pages (r ∷ rs) none = ap (λ (x : Repeated). repeat x rs) (image_idle pages r none.0) ∙ images_idle pages rs none.1

unlogged_repeated : (w : World) → AreImages w.records → repeated_in w ≡ idle w.opening
unlogged_repeated w none = images_idle w.opening w.records (recursion_from_All (λ (r : Record). txn_of r ≡ 0) w.records none)

-- the pages held are those of the opening
pub unlogged_held : (w : World) → AreImages w.records → held_in w ≡ w.opening
unlogged_held w none = ap held (unlogged_repeated w none)

pub unlogged_world : (relations counters : ℕ) (w : World) → AreImages w.records → w.locks ≡ [] → ((p : ℕ) → p < w.total → w.present p ≡ w.opening p) → IsGood relations counters w.total w.opening → IsWorld relations counters w
unlogged_world relations counters w none free same good =
    world_of relations counters w w (idle w.opening) refl (unlogged_repeated w none) (record { apart = λ o p. inl refl; leads = λ p. refl })
    (λ p lt. inl (same p lt)) (All-nil (IsCovered w.locks)) (subst AreTogether (sym free) (λ i j d lt within. absurd (omega arith))) good

-- all is right where none is under way
pub unlogged_right : {D : Type 0} (g : Ghosts D) (opening : PageBytes) (relations counters : ℕ) (o : Operations D) → IsKept g opening o.store → AreImages (appended o.store.log)
    → ShowsOpening g opening o.store → o.locks ≡ [] → o.map.kinds.value ≡ opening 0 → o.map.space.0 ≡ mapped o.map.kinds.value (pages o.store.pool) → reserved_of o.map.space ≤ free_of o.map.space → length o.rooms ≡ pages o.store.pool → AreRooms o.rooms opening
    → IsGood relations counters (pages o.store.pool) opening → IsRight g opening relations counters o
unlogged_right g opening relations counters o kept none shows free map space claims rooms noted good =
    let w = world g opening o in
    let kinds : o.map.kinds.value ≡ held_in w 0 = map ∙ ap (λ (f : PageBytes). f 0) (sym (unlogged_held w none)) in
    record {
      kept = kept;
      sound = unlogged_world relations counters w none free shows good;
      map = kinds;
      space = space ∙ ap (λ (bytes : List ℕ). mapped bytes (pages o.store.pool)) kinds;
      claims = claims;
      rooms = rooms;
      noted = subst (AreRooms o.rooms) (sym (unlogged_held w none)) noted;
    }
