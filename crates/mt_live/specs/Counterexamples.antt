-- What a kernel must not do: for each mistake a base, the entries that stand and the base that the pages
-- hold, none of which is explained, or not once one of the transactions has committed.
use Rattle.std.specs.Prelude.{pos, negsuc, List, [], ◌∷◌}
use Rattle.mt_model.specs.declared.operations.Op.TheVariants.{Get, Insert, Add, Scan}
use Rattle.mt_model.specs.declared.operations.Reply.TheVariants.{Found, Done, Rows}
use Rattle.mt_model.specs.Model.{Base}
use Rattle.mt_live.specs.declared.transactions.Role.TheVariants.{Stands, TakenBack, Back}
use Rattle.mt_live.specs.Entries.{Entry, kept, runs, AreActed, IsExplained}
use Rattle.mt_live.specs.Undoing.{only, others}
use Rattle.mt_live.specs.Witness.{opening}

-- not explained, though with nobody struck out each entry has the model's reply and the pages hold what
-- the entries leave
abbrev pub FailsByAnAbort : Base → List Entry → Type 0
FailsByAnAbort b es = AreActed b es × (IsExplained b es (runs b es) → ⊥)

-- ---- locks given up early

-- the first transaction inserts a row and gives its lock up, and the second reads the row
abbrev pub read_too_early : List Entry
read_too_early =
    record { txn = 1; op = Insert 0 (1 ∷ []) (2 ∷ []); reply = Done; role = Stands }
    ∷ record { txn = 2; op = Get 0 (1 ∷ []); reply = Found (2 ∷ []); role = Stands }
    ∷ []

-- once the first aborts, the second has read what never was
abbrev pub EarlyReleaseFails : Type 0
EarlyReleaseFails = FailsByAnAbort opening read_too_early

-- ---- an add admitted by the present number alone

-- one adds 5 to a counter at 5 of 10; another takes 8 off, which the present number allows
abbrev pub spent_too_early : List Entry
spent_too_early =
    record { txn = 1; op = Add 0 (pos 5); reply = Done; role = Stands }
    ∷ record { txn = 2; op = Add 0 (negsuc 7); reply = Done; role = Stands }
    ∷ []

-- once the first aborts, the second has taken more than there was
abbrev pub PresentNumberFails : Type 0
PresentNumberFails = FailsByAnAbort opening spent_too_early

-- ---- an old number put back

-- two transactions add to a counter, and the first aborts: what stands is the second's add
abbrev pub other_add : List Entry
other_add = record { txn = 2; op = Add 0 (pos 1); reply = Done; role = Stands } ∷ []

-- with the number from before the first add put back, the second's is lost
abbrev pub OldNumberFails : Type 0
OldNumberFails = AreActed opening other_add × (IsExplained opening other_add opening → ⊥)

-- ---- a read that outlives the write that it saw

-- one transaction inserts a row and reads it; the insert is undone
abbrev pub read_left_over : List Entry
read_left_over = record { txn = 1; op = Get 0 (1 ∷ []); reply = Found (2 ∷ []); role = Stands } ∷ []

-- if the read still stood, no base would explain it
abbrev pub ReadLeftOverFails : Type 0
ReadLeftOverFails = (held : Base) → IsExplained opening read_left_over held → ⊥

-- ---- a scan that locks no relation

-- the first transaction inserts a row, and the second scans its relation meanwhile
abbrev pub phantom : List Entry
phantom =
    record { txn = 1; op = Insert 0 (1 ∷ []) (2 ∷ []); reply = Done; role = Stands }
    ∷ record {
      txn = 2;
      op = Scan 0;
      reply = Rows (record { relation = 0; key = 1 ∷ []; value = 2 ∷ [] } ∷ []);
      role = Stands;
    }
    ∷ []

-- once the first aborts, the second has seen a row that never was
abbrev pub PhantomFails : Type 0
PhantomFails = (held : Base) → IsExplained opening phantom held → ⊥

-- ---- an add that escrow forgets as soon as it is taken back

-- to a counter at 5 of 10 one transaction adds 5 and takes that back. Another adds 2 meanwhile, for which there is
-- room with the first add forgotten, but none beside it
abbrev pub forgotten_too_early : List Entry
forgotten_too_early =
    record { txn = 1; op = Add 0 (pos 5); reply = Done; role = TakenBack }
    ∷ record { txn = 1; op = Add 0 (negsuc 4); reply = Done; role = Back }
    ∷ record { txn = 2; op = Add 0 (pos 2); reply = Done; role = Stands }
    ∷ []

-- each entry has its reply, whichever transactions are struck out. Yet if the second commits first, the first has
-- added 5 to a counter at 7
abbrev pub ForgottenAddFails : Type 0
ForgottenAddFails =
    IsExplained opening forgotten_too_early (runs opening forgotten_too_early)
    × (AreActed (runs opening (kept (only 2) forgotten_too_early)) (kept (others 2) forgotten_too_early) → ⊥)
