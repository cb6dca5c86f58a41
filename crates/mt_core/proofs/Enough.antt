-- What is given back of claims and of log bytes is there.
use Rattle.std.proofs.Common.{◌≡◌, ◌≢◌, ℕ, ◌<◌, ◌≤◌, ◌+◌, ◌==◌, Bool, true, false, List, length, get_or, Option, Some, None, is_some, refl, sym, ap, ◌∙◌, arith}
use Rattle.std.specs.Prelude.{All}
use Rattle.std.specs.List.{sum_by}
use Rattle.std.specs.Option.{option_map}
use Rattle.std.proofs.lemmas.Bool.{eq-eqb}
use Rattle.std.proofs.lemmas.List.Sums.{get_or-le-sum_by}
use Rattle.mt_disk.specs.declared.device.Device.{Ghosts}
use Rattle.mt_live.specs.Entries.{Entry, kept}
use Rattle.mt_live.specs.Lives.{member_of}
use Rattle.mt_live.specs.Members.{Member}
use Rattle.mt_live.specs.Undoing.{only, others, last_effect}
use Rattle.mt_live.specs.declared.transactions.TxnState.TheVariants.{Committing}
use Rattle.mt_model.specs.Model.{Base, inverse_of}
use Rattle.mt_op.specs.Operations.{world, claimed}
use Rattle.mt_op.specs.World.{held_in}
use Rattle.mt_pool.specs.Views.{pages}
use Rattle.mt_space.specs.Rooms.{mapped}
use Rattle.std.specs.Prelude.{take}
use Rattle.std.proofs.lemmas.List.{length-map, length-take}
use Rattle.std.proofs.lemmas.List.Sums.{count_by-le-length}
use Rattle.mt_steps.specs.Plans.{own_needs, undo_pages}
use Rattle.mt_core.specs.Runs.{is_at_work, undo_bytes, pages_of, entry_pages, entry_bytes, kept_bytes, taken_bytes, is_working}
use Rattle.mt_core.specs.Consistent.{Origin, state_in, IsFit, IsConsistent}
use Rattle.mt_core.specs.declared.parts.Core.{Core}
use Rattle.mt_op.specs.declared.scope.OpScope.{OpScope}
use Rattle.mt_core.proofs.Effects.{weighs_apart, last_kept}
use Rattle.mt_core.proofs.Reserves.{HasEntry, has_entry, own_last, taken_within, members_many, members_more}

-- one in a state lives
pub stated_some : (o : Option Member) → option_map (λ (m : Member). m.state) o ≡ Some Committing → is_some o ≡ true
stated_some None is = absurd cc
stated_some (Some m) is = refl

open_apart : (ms : List Member) (t u : ℕ) → is_working (member_of ms t) ≡ true → state_in ms u ≡ Some Committing → u ≢ t
open_apart ms t u at_work is same = go (member_of ms t) at_work (ap (λ (v : ℕ). state_in ms v) (sym same) ∙ is)
  where
    go : (o : Option Member) → is_working o ≡ true → option_map (λ (m : Member). m.state) o ≡ Some Committing → ⊥
    go None a b = absurd cc
    go (Some m) a b = let state : m.state ≡ Committing = cc in let closed : is_at_work m.state ≡ false = ap is_at_work state in absurd cc

open_member : (o : Option Member) → is_working o ≡ true → is_some o ≡ true
open_member None is = absurd cc
open_member (Some m) is = refl

-- of so many pages at most
mapped_few : (kinds : List ℕ) (n : ℕ) → length (mapped kinds n) ≤ n
mapped_few kinds n = let same = length-map (take n kinds) (λ (kind : ℕ). kind == 0) in let less = take_few kinds n in omega arith
  where
    take_few : (xs : List ℕ) (m : ℕ) → length (take m xs) ≤ m
    take_few xs m = let is = length-take m xs in omega (arith, is)

module _ {D : Type 0} (g : Ghosts D) (origin : Origin) (base : Base) where
  commits_few : (k : Core D) → IsFit g origin base k → length k.commits.items ≤ length k.live.members
  commits_few k fit = members_many k.commits.items k.live.members fit.queued.apart (λ i d lt. stated_some (member_of k.live.members (get_or k.commits.items i d).txn) (fit.queued.each i d lt))

  -- with one that is at work besides
  commits_fewer : (k : Core D) (t : ℕ) → IsFit g origin base k → is_working (member_of k.live.members t) ≡ true → length k.commits.items + 1 ≤ length k.live.members
  commits_fewer k t fit at_work = members_more t k.commits.items k.live.members (open_member (member_of k.live.members t) at_work) (λ i d lt. open_apart k.live.members t (get_or k.commits.items i d).txn at_work (fit.queued.each i d lt)) fit.queued.apart
      (λ i d lt. stated_some (member_of k.live.members (get_or k.commits.items i d).txn) (fit.queued.each i d lt))

  entries_have : (k : Core D) → IsFit g origin base k → All (λ (r : OpScope). r.undoes ≢ 0 → HasEntry k.live.standing r) k.running.items
  entries_have k fit i d lt = λ back. has_entry k.live.members k.live.standing (get_or k.running.items i d) (fit.owned i d lt) back

  -- those of the others alone, where a transaction runs nothing
  others_have : (k : Core D) (t : ℕ) → IsFit g origin base k → All (λ (r : OpScope). r.txn ≢ t) k.running.items → sum_by taken_bytes k.running.items ≤ sum_by entry_bytes (kept (others t) k.live.standing)
  others_have k t fit idle = taken_within k.running.items (kept (others t) k.live.standing) fit.apart (λ i d lt back.
      let e = entries_have k fit i d lt back in
      record { entry = e.entry; last = last_kept (get_or k.running.items i d).txn t k.live.standing (idle i d lt) ∙ e.last; weighs = e.weighs })

  -- for the inverse of an operation that runs
  pub kept_enough : (k : Core D) (place : ℕ) (r : OpScope) → IsFit g origin base k → place < length k.running.items → r ≡ get_or k.running.items place r → r.undoes ≡ 0 → undo_bytes r.op ≤ k.reserved
  kept_enough k place r fit within there fore =
      let part = get_or-le-sum_by kept_bytes k.running.items place r within in
      let mine : kept_bytes (get_or k.running.items place r) ≡ kept_bytes r = ap kept_bytes (sym there) in
      let test : (r.undoes == 0) ≡ true = eq-eqb r.undoes 0 fore in
      let own : kept_bytes r ≡ undo_bytes r.op = rw test refl in
      let taken = taken_within k.running.items k.live.standing fit.apart (entries_have k fit) in
      let few = commits_few k fit in
      let reserves = fit.reserves in omega arith

  -- its claims, where the operation has given its own back
  pub undo_claimed : (k : Core D) (place : ℕ) (r : OpScope) → place < length k.running.items → r ≡ get_or k.running.items place r → r.undoes ≡ 0
      → claimed k.operations + own_needs r.op r.split ≡ sum_by pages_of k.running.items + sum_by entry_pages k.live.standing → undo_pages r.op ≤ claimed k.operations
  undo_claimed k place r within there fore claims =
      let part = get_or-le-sum_by pages_of k.running.items place r within in
      let mine : pages_of (get_or k.running.items place r) ≡ pages_of r = ap pages_of (sym there) in
      let test : (r.undoes == 0) ≡ true = eq-eqb r.undoes 0 fore in
      let own : pages_of r ≡ own_needs r.op r.split + undo_pages r.op = rw test refl in
      omega arith

  -- for the next inverse of a transaction that runs nothing
  pub undo_enough : (k : Core D) (t : ℕ) (e : Entry) → IsFit g origin base k → All (λ (r : OpScope). r.txn ≢ t) k.running.items → last_effect t k.live.standing ≡ Some e → is_some (inverse_of e.op e.reply) ≡ true → entry_bytes e ≡ 106496 → 106496 ≤ k.reserved
  undo_enough k t e fit idle last some weighs =
      let others_taken = others_have k t fit idle in
      let own = own_last t k.live.standing e last in
      let both = weighs_apart undo_bytes t k.live.standing in
      let few = commits_few k fit in
      let reserves = fit.reserves in omega arith

  -- for the end of a transaction at work
  pub end_enough : (k : Core D) (t : ℕ) → IsFit g origin base k → is_working (member_of k.live.members t) ≡ true → 128 ≤ k.reserved
  end_enough k t fit at_work =
      let taken = taken_within k.running.items k.live.standing fit.apart (entries_have k fit) in
      let few = commits_fewer k t fit at_work in
      let reserves = fit.reserves in omega arith

  -- for one whose commit is durable, with what was kept for its inverses
  pub leave_enough : (k : Core D) (t : ℕ) → IsFit g origin base k → All (λ (r : OpScope). r.txn ≢ t) k.running.items → 0 < length k.commits.items → 114 + sum_by entry_bytes (kept (only t) k.live.standing) ≤ k.reserved
  leave_enough k t fit idle some =
      let others_taken = others_have k t fit idle in
      let both = weighs_apart undo_bytes t k.live.standing in
      let few = commits_few k fit in
      let reserves = fit.reserves in omega arith

  -- no more is claimed than there are pages
  pub claims_few : (k : Core D) → IsFit g origin base k → claimed k.operations ≤ 4000
  claims_few k fit =
      let right = fit.right in
      let claims = right.claims in
      let free = count_by-le-length (λ (b : Bool). b) k.operations.map.space.0 in
      let flags : length k.operations.map.space.0 ≡ length (mapped (held_in (world g origin.pages k.operations) 0) (pages k.operations.store.pool)) = ap (λ (xs : List Bool). length xs) right.space in
      let less = mapped_few (held_in (world g origin.pages k.operations) 0) (pages k.operations.store.pool) in
      let few = right.kept.few in omega arith

  pub leave_claimed : (k : Core D) (t : ℕ) → IsConsistent g origin base k → sum_by entry_pages (kept (only t) k.live.standing) ≤ claimed k.operations
  leave_claimed k t safe = let both = weighs_apart undo_pages t k.live.standing in let claims = safe.claims in omega arith
