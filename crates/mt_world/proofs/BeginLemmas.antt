-- A kernel that is opened on a device which was just formatted.
use Rattle.std.proofs.Common.{◌≡◌, ◌⊎◌, inl, inr, ⊎_elim, ◌<◌, ◌+◌, ℕ, List, [], ◌++◌, length, Result, Ok, Err, refl, ap, sym, subst, ◌∙◌, arith}
use Rattle.std.specs.Prelude.{IfOk, IfErr}
use Rattle.std.proofs.lemmas.List.{take_all}
use mathlib.Core.Logic.{∥∥₁_map}
use Rattle.mt_base.specs.declared.refusal.Refusal.{Refusal}
use Rattle.mt_base.specs.declared.refusal.Refusal.TheVariants as refusal
use Rattle.mt_disk.proofs.Frame.{leaves_more, runs_both, started}
use Rattle.mt_disk.specs.Disk.{LeavesOnly}
use Rattle.mt_disk.specs.declared.device.Device.{Ghosts}
use Rattle.mt_core.specs.Booked.{txns_of}
use Rattle.mt_core.specs.Consistent.{session_in}
use Rattle.mt_core.specs.declared.parts.Commit.{Commit as CommitUnderWay}
use Rattle.mt_live.specs.Laws.{in_turn}
use Rattle.mt_live.specs.Machine.{State, start}
use Rattle.mt_log.specs.Words.{durable}
use Rattle.mt_model.specs.History.{after}
use Rattle.mt_model.specs.Model.{Base}
use Rattle.mt_model.specs.declared.history.Committed.{Committed}
use Rattle.mt_replay.specs.Refused.{BreaksFormat, IsCause}
use Rattle.mt_replay.specs.Stands.{CanRestart}
use Rattle.mt_replay.specs.Recorded.{recorded_in}
use Rattle.mt_format.specs.Formats.{FormatBegins}
use Rattle.mt_restart.specs.Recovered.{IsCauseToStop, StandsStill}
use Rattle.mt_restart.specs.Resumed.{IsOpened, device_of}
use Rattle.mt_format.specs.Schemas.{counters_in, relations_in, schema_base}
use Rattle.mt_format.specs.declared.schema.Schema.{Schema}
use Rattle.mt_txn.proofs.Living.{lives_of}
use Rattle.mt_txn.specs.Restarted.{FindsCommits, all_commits}
use Rattle.mt_txn.specs.Shown.{Shows, kernel_device}
use Rattle.mt_txn.specs.declared.kernel.Kernel.{Kernel}
use Rattle.mt_world.proofs.RunLemmas.{none_under_way}
use Rattle.mt_world.specs.Crashes.{BeginsOrStands, FindsSince, FoundFromFormat, FoundTo, HasBegun, HasFormatted, StandsFirst}
use Rattle.mt_world.specs.declared.events.Answer.{Answer}
use Rattle.mt_world.specs.declared.events.Event.{Event}
use Rattle.mt_restart.specs.declared.standing.Standing.{Standing}

-- a refusal with 2 says that the device failed
failed_of : (c : List ℕ) (failed : Type 0) (why : Refusal) → IsCauseToStop c failed why → why ≡ refusal.DeviceFailed → failed
failed_of c failed why (inl cause) is = subst (λ (w : Refusal). IsCause BreaksFormat c failed w) is cause
failed_of c failed why (inr (inl full)) is = let wrong : refusal.LogFull ≡ refusal.DeviceFailed = sym full.0 ∙ is in absurd cc
failed_of c failed why (inr (inr other)) is = let wrong : refusal.WrongFormat ≡ refusal.DeviceFailed = sym other.0 ∙ is in absurd cc

pub if_ok : {T E : Type 0} {P Q : T → Type 0} (r : Result T E) → ((x : T) → P x → Q x) → IfOk r P → IfOk r Q
if_ok (Ok x) f p = f x p
if_ok (Err e) f p = tt

module _ {D : Type 0} (g : Ghosts D) where
  stands_of : (s : Schema) (formatted : D) → ((c : List ℕ) → g.may_leave formatted c → StandsFirst s c) → (c : List ℕ) → StandsStill g (relations_in s) (length (counters_in s)) (schema_base s) formatted c → StandsFirst s c
  stands_of s formatted stands c still = ⊎_elim (λ was. stands c was) (λ can. can) still

  module _ where
    -- what a crash leaves while it is opened
    abbrev pub Opening : Schema → D → D → Type 0
    Opening s formatted next = LeavesOnly g.moment g.left_since formatted next (StandsStill g (relations_in s) (length (counters_in s)) (schema_base s) formatted)

    -- where nothing was done
    pub left_alone : ((d : D) (c : List ℕ) → g.left_since d (g.moment d) c → g.may_leave d c) → (s : Schema) (device : D) → LeavesOnly g.moment g.left_since device device (BeginsOrStands s (g.may_leave device))
    left_alone only_now s device = started g.moment g.left_since device (BeginsOrStands s (g.may_leave device)) (λ c left. inl (inl (c, only_now device c left, record { size = refl; rest = λ i first second. refl })))

module _ {D : Type 0} {g : Ghosts D} where
  no_commit_yet : (k : Kernel D g) (first : Base) → Shows first (start first) k → ∥ all_commits k.core ≡ [] ∥₁
  no_commit_yet k first shows = ∥∥₁_map shows (λ (origin, base, is, x).
      let ms = k.core.live.members in
      let none : k.core.commits.items ≡ [] = none_under_way ms k.core.commits.items x.consistent.fit.queued.each (λ t. sym (lives_of g k.relations k.counters k.core first (start first) shows t)) in
      let book : k.core.book.items ≡ [] = sym (ap (λ (s : State). s.book) x.state) in
      ap (λ (cs : List Committed). cs ++ in_turn (session_in ms) (txns_of k.core.commits.items) k.core.live.standing) book
      ∙ ap (λ (cs : List CommitUnderWay). in_turn (session_in ms) (txns_of cs) k.core.live.standing) none)

  -- what represents the base that it began on is found with none of its commits
  finds_first : (k : Kernel D g) (relations counters : ℕ) (first : Base) (c : List ℕ) → IsOpened relations counters first k → CanRestart relations counters c first → ∥ FindsCommits k.relations k.counters first k.core c ∥₁
  finds_first k relations counters first c opened can = ∥∥₁_map (no_commit_yet k first opened.shows) (λ none. record {
    base = first;
    found = subst (λ (X : Type 0). X) (λ i. CanRestart (sym opened.relations_are i) (sym opened.counters_are i) c first) can;
    count = length k.core.book.items + length (recorded_in (durable k.core.operations.store.log)).books + length (all_commits k.core);
    acknowledged = omega arith;
    durable = omega arith;
    is = sym (ap (after first) (take_all (length k.core.book.items + length (recorded_in (durable k.core.operations.store.log)).books + length (all_commits k.core)) (all_commits k.core) (omega arith) ∙ none));
  })

  module _ (s : Schema) (device formatted : D) where
    since_format : (k : Kernel D g) → ((c : List ℕ) → g.may_leave formatted c → StandsFirst s c) → IsOpened (relations_in s) (length (counters_in s)) (schema_base s) k → Opening g s formatted (kernel_device k) → FindsSince formatted (schema_base s) k
    since_format k stands opened run = record {
      later = run.later;
      each = λ c left. finds_first k (relations_in s) (length (counters_in s)) (schema_base s) c opened (stands_of g s formatted stands c (run.each c left));
      before = λ t c le left. ⊎_elim
          (λ was. ∣ inl was ∣₁)
          (λ still. ∥∥₁_map (finds_first k (relations_in s) (length (counters_in s)) (schema_base s) c opened (stands_of g s formatted stands c still)) (λ f. inr f))
          (run.before t c le left);
    }

    pub begun_of : (r : Result (Kernel D g) (Refusal × D)) → HasFormatted g s device formatted → IfOk r (IsOpened (relations_in s) (length (counters_in s)) (schema_base s)) → Opening g s formatted (device_of r) → IfOk r (HasBegun s device)
    begun_of (Ok k) format opened run = record { formatted = formatted; format = format; since = since_format k format.stands opened run }
    begun_of (Err gone) format opened run = tt

    pub left_of : (r : Result (Kernel D g) (Refusal × D)) → HasFormatted g s device formatted → Opening g s formatted (device_of r) → IfErr r (λ gone. LeavesOnly g.moment g.left_since device gone.1 (BeginsOrStands s (g.may_leave device)))
    left_of (Ok k) format run = tt
    left_of (Err gone) format run =
        runs_both g.moment g.left_since device formatted gone.1 (BeginsOrStands s (g.may_leave device))
        (leaves_more g.moment g.left_since device formatted (FormatBegins s (g.may_leave device)) (BeginsOrStands s (g.may_leave device)) format.meanwhile (λ c begins. inl begins))
        (leaves_more g.moment g.left_since formatted gone.1 (StandsStill g (relations_in s) (length (counters_in s)) (schema_base s) formatted) (BeginsOrStands s (g.may_leave device)) run (λ c still. inr (stands_of g s formatted format.stands c still)))

  -- why it is refused
  pub cause_of : (c : List ℕ) (device formatted : D) (r : Result (Kernel D g) (Refusal × D)) (Other : Refusal → Type 0) → g.faults formatted ≡ g.faults device
      → IfErr r (λ gone. (gone.0 ≡ refusal.NoMemory) ⊎ ((gone.0 ≡ refusal.DeviceFailed) ⊎ (gone.0 ≡ refusal.LogFull))) → IfErr r (λ gone. gone.0 ≡ refusal.LogFull → ⊥)
      → IfErr r (λ gone. IsCauseToStop c (g.faults formatted < g.faults gone.1) gone.0) → IfErr r (λ gone. (gone.0 ≡ refusal.NoMemory) ⊎ (Other gone.0 ⊎ (gone.0 ≡ refusal.DeviceFailed) × (g.faults device < g.faults gone.1)))
  cause_of c device formatted (Ok k) Other quiet few full cause = tt
  cause_of c device formatted (Err gone) Other quiet few full cause = ⊎_elim
      (λ memory. inl memory)
      (⊎_elim
      (λ fault. inr (inr (fault, subst (λ (n : ℕ). n < g.faults gone.1) quiet (failed_of c (g.faults formatted < g.faults gone.1) gone.0 cause fault))))
      (λ is. absurd (full is)))
      few

  -- a device that was formatted is long enough
  pub long_of : (device : D) (r : Result (Kernel D g) (Refusal × D)) → IfErr r (λ gone. (gone.0 ≡ refusal.NoMemory) ⊎ ((gone.0 ≡ refusal.DeviceFailed) ⊎ (gone.0 ≡ refusal.LogFull))) → IfErr r (λ gone. gone.0 ≡ refusal.BadLength → gone.1 ≡ device)
  long_of device (Ok k) few = tt
  long_of device (Err gone) few = λ is. absurd (⊎_elim
      (λ e. let bad : refusal.BadLength ≡ refusal.NoMemory = sym is ∙ e in cc)
      (⊎_elim (λ e. let bad : refusal.BadLength ≡ refusal.DeviceFailed = sym is ∙ e in cc) (λ e. let bad : refusal.BadLength ≡ refusal.LogFull = sym is ∙ e in cc))
      few)

  -- ---- and then

  pub from_format : (s : Schema) (device : D) (k : Kernel D g) (events : List Event) (answers : List Answer) (standing : Standing D g) → HasBegun s device k → (k.relations ≡ relations_in s) × (k.counters ≡ length (counters_in s))
      → ((since : D) → FindsSince since (schema_base s) k → ∥ FoundTo k.relations k.counters since (schema_base s) events answers standing ∥₁)
      → ∥ FoundFromFormat s device events answers standing ∥₁
  from_format s device k events answers standing begun schema found = ∥∥₁_map (found begun.formatted begun.since) (λ u. record {
    formatted = begun.formatted;
    format = begun.format;
    until = subst (λ (X : Type 0). X) (λ i. FoundTo (schema.0 i) (schema.1 i) begun.formatted (schema_base s) events answers standing) u;
  })
