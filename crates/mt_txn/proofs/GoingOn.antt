-- A kernel goes on over the other area of its log.
use Rattle.std.proofs.Common.{◌≡◌, ◌++◌, ◌+◌, ◌∷◌, ◌==◌, ◌≤◌, ℕ, Bool, true, false, cond, None, Some, List, [], length, map, refl, sym, ap, ◌∙◌, subst, arith, append-nil}
use Rattle.std.specs.Option.{option_map}
use Rattle.std.proofs.lemmas.Bool.{eq-eqb}
use Rattle.std.proofs.lemmas.List.{take_all, length-map, length-append}
use mathlib.Core.Logic.{∥∥₁_elim, ∥∥₁_map, ∥∥₁_prop}
use Rattle.mt_disk.specs.declared.device.Device.{Ghosts}
use Rattle.mt_escrow.specs.Seen.{Escrowed}
use Rattle.mt_frame.specs.declared.records.Record.{Record}
use Rattle.mt_core.proofs.First.{none_of_none}
use Rattle.mt_core.proofs.Prefixed.{stands_first}
use Rattle.mt_core.proofs.Recovering.{commits_since, since_legal, after_earlier}
use Rattle.mt_core.proofs.Turning.{booked_holds, none_commits}
use Rattle.mt_core.specs.Booked.{txns_of}
use Rattle.mt_core.specs.Consistent.{Origin, IsConsistent, IsEscrowed, SameUncommitted, session_in, state_in, state_of}
use Rattle.mt_core.specs.Restartable.{effects_of}
use Rattle.mt_core.specs.Turned.{TurnsOver}
use Rattle.mt_core.specs.declared.parts.Commit.{Commit}
use Rattle.mt_core.specs.declared.parts.Core.{Core}
use Rattle.mt_live.specs.Laws.{in_turn}
use Rattle.mt_live.specs.Lives.{member_of}
use Rattle.mt_live.specs.Machine.{State}
use Rattle.mt_live.specs.Members.{Member}
use Rattle.mt_log.specs.Words.{appended}
use Rattle.mt_model.specs.History.{after}
use Rattle.mt_model.specs.Model.{Base, IsBase}
use Rattle.mt_model.specs.declared.history.Committed.{Committed}
use Rattle.mt_op.specs.Operations.{IsRight}
use Rattle.mt_op.specs.declared.operations.Operations.{Operations}
use Rattle.mt_replay.specs.Recorded.{calls_of, stands_for, recorded_in}
use Rattle.mt_steps.specs.Held.{Holds}
use Rattle.mt_txn.specs.Restarted.{all_commits}
use Rattle.mt_txn.specs.Shown.{Restarts, Stays}
use Rattle.mt_txn.specs.Well.{IsOrigin, IsOpening, IsRestartableOn, IsWell, RestartsFrom}
use Rattle.mt_txn.specs.declared.kernel.Kernel.{Kernel}

module _ {D : Type 0} (g : Ghosts D) (relations counters : ℕ) (first : Base) (k : Core D) (origin : Origin) (base : Base) (nobody : length k.live.members ≡ 0) where
  none : k.live.members ≡ []
  none = none_of_none k.live.members nobody

  -- operations and an escrow that are opened on what the book leads to
  pub turns_over : (z : Origin) (o : Operations D) (e : Escrowed) → IsOrigin relations counters first origin → IsConsistent g origin base k → IsOrigin relations counters (after first k.book.items) z → IsOpening g z o e → TurnsOver g origin base k z.pages o e
  turns_over z o e is safe opened opening =
      let same : z.first ≡ base = opened.first_is ∙ ap (λ (b : Base). after b k.book.items) (sym is.first_is) ∙ sym (booked_holds g origin base k none safe) in
      let rels : z.relations ≡ origin.relations = opened.relations_are ∙ sym is.relations_are in
      let counts : z.counters ≡ origin.counters = opened.counters_are ∙ sym is.counters_are in
      record {
        nobody = none;
        consistent = safe;
        bounds = subst IsBase same opening.bounds;
        holds = subst (Holds z.pages) same opening.holds;
        right = subst (λ (X : Type 0). X) (λ i. IsRight g z.pages (rels i) (counts i) o) opening.right;
        escrowed = subst (λ (X : Type 0). X) (λ i. IsEscrowed (counts i) (same i) e) opening.escrowed;
      }

  -- ---- where all records are durable, a restart finds the whole book

  -- a beginning of records with all of them is all of them
  whole_front : (records front more rest : List Record) → front ≡ records ++ more → front ++ rest ≡ records → front ≡ records
  whole_front records front more rest has of =
      let a : length front ≡ length (records ++ more) = ap (λ (rs : List Record). length rs) has in
      let b : length (front ++ rest) ≡ length records = ap (λ (rs : List Record). length rs) of in
      let c = length-append records more in let d = length-append front rest in
      let nothing : more ≡ [] = none_of_none more (omega (arith, a, b, c, d)) in
      has ∙ ap (λ (rs : List Record). records ++ rs) nothing ∙ append-nil records

  pub stands_whole : IsRestartableOn g relations counters first origin base k → (records front more rest : List Record) → records ≡ appended k.operations.store.log → front ≡ records ++ more → front ++ rest ≡ records
      → stands_for origin.begun front ≡ after first k.book.items
  stands_whole x records front more rest all has of =
      let safe = x.consistent in
      let begun = x.restartable.begun in
      let are_records_of = x.restartable.records in
      let log = k.operations.store.log in
      let since = commits_since g origin base k safe begun are_records_of in
      let n = length (recorded_in (appended log)).books in
      let same : front ≡ appended log = whole_front records front more rest has of ∙ all in
      let turned : in_turn (session_in k.live.members) (txns_of k.commits.items) k.live.standing ≡ [] = ap (λ (cs : List Commit). in_turn (session_in k.live.members) (txns_of cs) k.live.standing) (none_commits g origin base k none safe) in
      let books : length (map calls_of (recorded_in (appended log)).books) ≡ length (map effects_of since) = ap (λ (xs : _). length xs) are_records_of.recorded.books in
      let lengths = length-map (recorded_in (appended log)).books calls_of in
      let effects = length-map since effects_of in
      let split = length-append are_records_of.since (in_turn (session_in k.live.members) (txns_of k.commits.items) k.live.standing) in
      let booked : length k.book.items ≡ length (origin.earlier ++ are_records_of.since) = ap (λ (cs : List Committed). length cs) are_records_of.book in
      let earlier = length-append origin.earlier are_records_of.since in
      let both = length-append k.book.items (in_turn (session_in k.live.members) (txns_of k.commits.items) k.live.standing) in
      let many : length (all_commits k) ≤ length origin.earlier + n = omega (arith, books, lengths, effects, split, booked, earlier, both) in
      ap (stands_for origin.begun) same
      ∙ stands_first origin.begun since (appended log) (appended log) [] (sym (append-nil (appended log))) are_records_of.recorded.books (since_legal g origin base k safe begun are_records_of)
      ∙ after_earlier g origin base k safe begun are_records_of n
      ∙ ap (after origin.first) (take_all (length origin.earlier + n) (all_commits k) many)
      ∙ ap (λ (cs : List Committed). after origin.first (k.book.items ++ cs)) turned
      ∙ ap (after origin.first) (append-nil k.book.items)
      ∙ ap (λ (b : Base). after b k.book.items) x.is.first_is

-- ---- what goes on while nobody lives

no_states : (ms : List Member) → ((t : ℕ) → state_in ms t ≡ None) → ms ≡ []
no_states [] none = refl
no_states (m ∷ ms) none = absurd (mine (m.number == m.number) (eq-eqb m.number m.number refl) (none m.number))
  where
    mine : (c : Bool) → c ≡ true → option_map (λ (x : Member). x.state) (cond c (Some m) (member_of ms m.number)) ≡ None → ⊥
    mine true same is = absurd cc
    mine false same is = absurd cc

-- who does not commit goes on, and so nobody lives where nobody did
pub nobody_still : {D : Type 0} (k n : Core D) → length k.live.members ≡ 0 → SameUncommitted k n → length n.live.members ≡ 0
nobody_still k n nobody same =
    let none : k.live.members ≡ [] = none_of_none k.live.members nobody in
    let gone : (t : ℕ) → state_in k.live.members t ≡ None = λ t. ap (λ (ms : List Member). state_in ms t) none in
    ap (λ (ms : List Member). length ms) (no_states n.live.members (λ t. same t (λ commits. absurd (let is = gone t in cc)) ∙ gone t))

module _ {D : Type 0} (g : Ghosts D) where
  booked_only : (k : Core D) → length k.live.members ≡ 0 → (origin : Origin) (base : Base) → IsConsistent g origin base k → all_commits k ≡ k.book.items
  booked_only k nobody origin base safe =
      ap (λ (cs : List Commit). k.book.items ++ in_turn (session_in k.live.members) (txns_of cs) k.live.standing) (none_commits g origin base k (none_of_none k.live.members nobody) safe) ∙ append-nil k.book.items

  -- all commits are those of the book
  pub all_booked : (k : Core D) (relations counters : ℕ) (first : Base) → length k.live.members ≡ 0 → RestartsFrom g relations counters first k → ∥ all_commits k ≡ k.book.items ∥₁
  all_booked k relations counters first nobody r = ∥∥₁_map r (λ (origin, base, x). booked_only k nobody origin base x.consistent)

module _ {D : Type 0} {g : Ghosts D} where
  -- and the same where the state stays, and so is the book
  pub same_commits : (k m : Kernel D g) (first : Base) → length k.core.live.members ≡ 0 → length m.core.live.members ≡ 0 → Restarts first k → Stays k m → ∥ (all_commits m.core ≡ all_commits k.core) × (m.core.book.items ≡ k.core.book.items) ∥₁
  same_commits k m first nobody still r stays = ∥∥₁_elim r ∥∥₁_prop (λ (origin, base, x).
      ∥∥₁_map (stays first (state_of k.core base) ∣ (origin, base, x.is, record { consistent = x.consistent; state = refl }) ∣₁) (λ (later, now, is, y).
      let book : m.core.book.items ≡ k.core.book.items = sym (ap (λ (s : State). s.book) y.state) in
      (booked_only g m.core still later now y.consistent ∙ book ∙ sym (booked_only g k.core nobody origin base x.consistent), book)))

  -- a kernel's own facts say that nobody commits
  pub nobody_commits : (k : Kernel D g) → length k.core.live.members ≡ 0 → IsWell g k.relations k.counters k.core → ∥ k.core.commits.items ≡ [] ∥₁
  nobody_commits k nobody well = ∥∥₁_map well (λ (origin, base, is, safe). none_commits g origin base k.core (none_of_none k.core.live.members nobody) safe)
