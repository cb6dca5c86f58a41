-- What a crash leaves while a device is recovered represents the base that its bytes represented.
use Rattle.std.proofs.Common.{◌≡◌, ◌∙◌, ◌⊎◌, inl, inr, ⊎_elim, ◌≤◌, ◌<◌, ℕ, List, Result, Ok, ap, sym, subst}
use Rattle.std.proofs.lemmas.Result.{IfErr-weaker, IfOk-weaker}
use Rattle.mt_base.specs.declared.refusal.Refusal.{Refusal}
use Rattle.mt_log.specs.Masters.{IsRuling}
use Rattle.mt_log.specs.NextSlot.{next_slot}
use Rattle.mt_disk.specs.declared.device.Device.{Ghosts}
use Rattle.mt_disk.specs.Disk.{Elapses, LeavesOnly, Only}
use Rattle.mt_disk.proofs.Frame.{leaves_more, reads_on, runs_both, runs_on}
use Rattle.mt_frame.specs.Laws.{OneSlot}
use Rattle.mt_frame.specs.declared.records.Record.{Record}
use Rattle.mt_log.specs.Quiet.{OnlyReads, OnlyReadsOrSyncs}
use Rattle.mt_base.specs.Limits.{IsRelationCount}
use Rattle.mt_model.specs.Model.{Base, IsBase}
use Rattle.mt_replay.specs.Laws.{OnlyOwnPagesMatter}
use Rattle.mt_base.specs.declared.format.Format.{Format}
use Rattle.mt_base.specs.declared.format.Format.TheVariants.{Two}
use Rattle.mt_replay.specs.Stands.{CanReplay, CanRestart, IsReadAs, ShowsBase}
use Rattle.mt_restart.specs.Found.{ReadsOldOrNext}
use Rattle.mt_restart.specs.Recovered.{AreRestored, FindsSynced, IsCauseToStop, IsFound, Recovers, StandsStill, TurnsLogTo}
use Rattle.mt_restart.specs.declared.recovery.Recovered.{Recovered}
use Rattle.mt_restart.proofs.Refusals.{quiet_of}
use Rattle.mt_restart.proofs.Ruled.{one_rules}
use Rattle.mt_restart.specs.declared.recovery.Findings.{Findings}
use Rattle.mt_restart.proofs.Restarting.{old_or_next, read_first}

-- a device that was synced and then read was only read or synced
pub read_synced : {D : Type 0} (g : Ghosts D) → ((d : D) (c : List ℕ) → g.left_since d (g.moment d) c → g.may_leave d c) → (o s n : D) → g.seen s ≡ g.seen o
    → Elapses (g.moment o) (g.moment s) (g.left_since o) (g.left_since s) (g.may_leave s) → ((c : List ℕ) → g.may_leave s c → g.may_leave o c) → OnlyReads g s n → OnlyReadsOrSyncs g o n
read_synced g only_now o s n same time less reads = record {
  same = reads.same ∙ same;
  less = λ c left. less c ((reads.crash c).0 left);
  moments = runs_on g.moment g.left_since g.may_leave only_now o s n (reads_on g.moment g.left_since g.may_leave only_now o s time less) reads.moments less;
}

-- and so was one that was only synced
pub synced_alone : {D : Type 0} (g : Ghosts D) → ((d : D) (c : List ℕ) → g.left_since d (g.moment d) c → g.may_leave d c) → (o s : D) → g.seen s ≡ g.seen o
    → Elapses (g.moment o) (g.moment s) (g.left_since o) (g.left_since s) (g.may_leave s) → ((c : List ℕ) → g.may_leave s c → g.may_leave o c) → OnlyReadsOrSyncs g o s
synced_alone g only_now o s same time less = record { same = same; less = less; moments = reads_on g.moment g.left_since g.may_leave only_now o s time less }

module _ {D : Type 0} (g : Ghosts D) (counts_now : (d : D) (t : ℕ) (c : List ℕ) → t ≤ g.moment d → g.may_leave d c → g.left_since d t c)
    (o n : D) (same : g.seen n ≡ g.seen o) (before : LeavesOnly g.moment g.left_since o n (g.may_leave o)) where
  -- o is the device before it was synced and read, and n the one after that
  module _ (format : Format) (relations counters : ℕ) (b : Base) (found : CanReplay format relations counters (g.seen o) b) where
    pub read_stands : Only (g.seen o) (g.may_leave n) → (c : List ℕ) → g.may_leave n c → CanReplay format relations counters c b
    read_stands durable c left = subst (λ (x : List ℕ). CanReplay format relations counters x b) (sym (durable c left)) found

    -- while the log turns over to pages that show a base, the same one or another
    module _ (one : OneSlot) (own : OnlyOwnPagesMatter) (frames : ℕ) (f : Findings) (is : IsFound (g.seen n) frames f) (relations2 counters2 : ℕ) (b2 : Base) (fits : IsRelationCount relations2) (bounds : IsBase b2)
        (shows : ShowsBase relations2 counters2 f.restored.pages.items b2) (t : D)
        (turns : (opening : ℕ → List ℕ) (batches : List (List Record)) → IsReadAs (g.seen n) f.ruling opening batches → LeavesOnly g.moment g.left_since n t (ReadsOldOrNext f.ruling opening batches f.restored.pages.items f.marks.images.items)) where
      -- the old area with the old base, or the next one with the other
      abbrev pub Either : List ℕ → Type 0
      Either c = CanReplay format relations counters c b ⊎ CanRestart relations2 counters2 c b2

      turned_over : LeavesOnly g.moment g.left_since n t Either
      turned_over =
          let first : CanReplay format relations counters (g.seen n) b = subst (λ (x : List ℕ). CanReplay format relations counters x b) (sym same) found in
          let opening = first.stands.opening in
          let batches = first.stands.batches in
          let read : IsReadAs (g.seen n) f.ruling opening batches = read_first one format relations counters (g.seen n) b f.ruling is.marked.rules first in
          leaves_more g.moment g.left_since n t (ReadsOldOrNext f.ruling opening batches f.restored.pages.items f.marks.images.items) Either
          (turns opening batches read)
          (λ c either. old_or_next one own format relations counters (g.seen n) c b frames f is first relations2 counters2 b2 fits bounds shows either)

      pub when_turned : LeavesOnly g.moment g.left_since o t (λ c. g.may_leave o c ⊎ Either c)
      when_turned = runs_both g.moment g.left_since o n t (λ c. g.may_leave o c ⊎ Either c)
          (leaves_more g.moment g.left_since o n (g.may_leave o) (λ c. g.may_leave o c ⊎ Either c) before (λ c was. inl was))
          (leaves_more g.moment g.left_since n t Either (λ c. g.may_leave o c ⊎ Either c) turned_over (λ c stands. inr stands))

      pub turned_stands : (c : List ℕ) → g.may_leave t c → Either c
      turned_stands c left = turned_over.each c (counts_now t (g.moment n) c turned_over.later left)

  -- and while it turns over to the same base
  module _ (relations counters : ℕ) (b : Base) (found : CanRestart relations counters (g.seen o) b) (one : OneSlot) (own : OnlyOwnPagesMatter) (frames : ℕ) (f : Findings) (is : IsFound (g.seen n) frames f)
      (shows : ShowsBase relations counters f.restored.pages.items b) (t : D)
      (turns : (opening : ℕ → List ℕ) (batches : List (List Record)) → IsReadAs (g.seen n) f.ruling opening batches → LeavesOnly g.moment g.left_since n t (ReadsOldOrNext f.ruling opening batches f.restored.pages.items f.marks.images.items)) where
    same_bounds : IsBase b
    same_bounds = subst IsBase (sym found.stands.is) found.recoverable.serial.bounds

    same_base : (c : List ℕ) → CanRestart relations counters c b ⊎ CanRestart relations counters c b → CanRestart relations counters c b
    same_base c either = ⊎_elim (λ (old : CanRestart relations counters c b). old) (λ (next : CanRestart relations counters c b). next) either

    pub when_over : LeavesOnly g.moment g.left_since o t (StandsStill g relations counters b o)
    when_over = leaves_more g.moment g.left_since o t (λ c. g.may_leave o c ⊎ (CanRestart relations counters c b ⊎ CanRestart relations counters c b)) (StandsStill g relations counters b o)
        (when_turned Two relations counters b found one own frames f is relations counters b found.fits same_bounds shows t turns)
        (λ c either. ⊎_elim (λ (was : g.may_leave o c). inl was) (λ (stands : CanRestart relations counters c b ⊎ CanRestart relations counters c b). inr (same_base c stands)) either)

    pub over_stands : (c : List ℕ) → g.may_leave t c → CanRestart relations counters c b
    over_stands c left = same_base c (turned_stands Two relations counters b found one own frames f is relations counters b found.fits same_bounds shows t turns c left)

  -- ---- a recovery

  -- what comes of the log that turns over comes of a recovery
  pub recovers : (frames : ℕ) (f : Findings) → FindsSynced g frames o n (Ok f) → OneSlot → OnlyOwnPagesMatter → (e : D) (r : Result Recovered Refusal) → TurnsLogTo g f n e r → Recovers g frames o e r
  recovers frames f x one own e r t =
      let is = x.found in
      let well : g.faults n ≡ g.faults o = x.quiet (λ e. cc) in
      record {
        recovered = t.recovered frames is;
        restored = IfOk-weaker r _ _ (λ y same_items. subst (AreRestored (g.seen o)) (sym same_items) x.restored) t.restored;
        shows = λ relations counters b found. IfOk-weaker r _ _ (λ y same_items. subst (λ (items : List (List ℕ)). ShowsBase relations counters items b) (sym same_items) (x.shows relations counters b found)) t.restored;
        no_other_refusal = λ relations counters b found. IfErr-weaker r _ _ (λ why fault. inr (inl fault.0)) t.cause;
        next = λ slot rules. IfOk-weaker r _ _ (λ y next. next ∙ ap next_slot (one_rules one (g.seen n) f.ruling slot is.marked.rules (subst (λ (c : List ℕ). IsRuling c slot) (sym same) rules))) t.ruling;
        moments = λ relations counters b found. when_over relations counters b found one own frames f is (x.shows relations counters b found) e t.moments;
        settled = λ relations counters b found other. over_stands relations counters b found one own frames f is (x.shows relations counters b found) e t.moments;
        reads = IfErr-weaker r _ _ (λ why fault not. absurd (not fault.0)) t.cause;
        cause = IfErr-weaker r _ _ (λ why fault. subst (IsCauseToStop (g.seen o) (g.faults o < g.faults e)) (sym fault.0) (inl (subst (λ (k : ℕ). k < g.faults e) well fault.1))) t.cause;
        unformatted = IfErr-weaker r _ _ (λ why fault none. inr fault.0) t.cause;
        other = IfErr-weaker r _ _ (λ why fault is. inr fault.0) t.cause;
        quiet = λ not. quiet_of (g.faults n < g.faults e) r t.cause t.quiet not ∙ well;
      }
