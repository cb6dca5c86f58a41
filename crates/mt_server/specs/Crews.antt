-- What workers give back, and the indexes of transcripts.
use Rattle.std.specs.Prelude.{ℕ, ◌≡◌, ◌<◌, ◌+◌, Bool, true, false, List, [], ◌∷◌, ◌++◌, length, get_or, Result, IfOk, Vec}
use Rattle.std.specs.declared.alloc.AllocError.{AllocError}
use Rattle.std.specs.declared.alloc.Global.{Global}
use Rattle.mt_mark.specs.Rule.{dones, own}
use Rattle.mt_model.specs.History.{Call}
use Rattle.mt_model.specs.declared.history.Committed.{Committed}
use Rattle.mt_script.specs.declared.lines.Line.{Line}
use Rattle.mt_server.specs.Heard.{IsReported, all_booked}
use Rattle.mt_server.specs.declared.board.Board.{Board}
use Rattle.mt_server.specs.declared.board.Reported.{Reported}
use Rattle.mt_locked.specs.Seen.{PassSeen}

-- the transcript of the script at its index, from 0, which reports these commits
pub record IsReportedOf (scripts : List (List Line)) (book : List Committed) (t : Reported)
    (booked : List (ℕ × List Call)) : Type 0 where
  pub lines : List Line
  pub within : t.at < length scripts
  pub lines_are : lines ≡ get_or scripts t.at lines
  pub outcome : IsReported t.has_failed (t.at + 1) lines t.text booked book

-- each of these is one, and so many commits they report together
pub data AreReportedOf (scripts : List (List Line)) (book : List Committed) : List Reported → ℕ → Type 0 where
  nothing_reported : AreReportedOf scripts book [] 0
  one_more : (outcome : List Reported) (count : ℕ) (t : Reported) (booked : List (ℕ × List Call))
      → AreReportedOf scripts book outcome count → IsReportedOf scripts book t booked
      → AreReportedOf scripts book (outcome ++ t ∷ []) (count + length booked)

-- They report just the commits that the pass has seen to be its own.
abbrev pub AreHeard : List (List Line) → PassSeen → List Reported → Type 0
AreHeard scripts pass outcome = AreReportedOf scripts (dones pass.seen) outcome (own pass.number pass.seen)

-- nothing is reported if one of them found no memory
abbrev pub HasDone : List (List Line) → PassSeen → Result (Vec Reported Global) AllocError → Type 0
HasDone scripts pass done = IfOk done (λ outcome. AreHeard scripts pass outcome.items)

-- What is at its index is the transcript of that script, and so many commits they report together.
pub record IsBoard (scripts : List (List Line)) (board : Board) (book : List Committed) (count : ℕ) : Type 0 where
  pub texts : length board.texts.items ≡ length scripts
  pub filled : length board.filled.items ≡ length scripts
  pub booked : List (List (ℕ × List Call))
  pub many : length booked ≡ length scripts
  pub each : (i : ℕ) (lines : List Line) → i < length scripts → lines ≡ get_or scripts i lines
      → get_or board.filled.items i false ≡ true
      → IsReported board.has_failed (i + 1) lines (get_or board.texts.items i []) (get_or booked i []) book
  pub empty : (i : ℕ) → get_or board.filled.items i false ≡ false → get_or booked i [] ≡ []
  pub counted : all_booked booked ≡ count

pub record IsBlank (count : ℕ) (board : Board) : Type 0 where
  pub texts : length board.texts.items ≡ count
  pub filled : length board.filled.items ≡ count
  pub nothing : (i : ℕ) → i < count → get_or board.filled.items i false ≡ false

abbrev pub IsFull : Board → Type 0
IsFull board = (i : ℕ) → i < length board.filled.items → get_or board.filled.items i false ≡ true
