-- A kernel that is opened for sessions, and the transcripts after them.
use Rattle.std.proofs.Common.{◌≡◌, ◌≢◌, ◌⊎◌, inl, inr, ◌<◌, ◌∙◌, ℕ, zero, suc, ◌+◌, Bool, List, [], Option, Some, None, nat_eq, if◌then◌else◌, true, false, true≢false, length, get_or, replicate, refl, sym, ap, subst, arith}
use Rattle.std.proofs.lemmas.List.{length-replicate}
use Rattle.mt_base.specs.declared.refusal.Refusal.{Refusal}
use Rattle.mt_base.specs.declared.refusal.Refusal.TheVariants as refusal
use Rattle.mt_disk.specs.declared.device.Device.{Ghosts}
use Rattle.mt_model.specs.History.{Call}
use Rattle.mt_model.specs.declared.history.Committed.{Committed}
use Rattle.mt_model.specs.declared.tables.Base.{Base}
use Rattle.mt_script.specs.declared.lines.Line.{Line}
use Rattle.mt_server.specs.Crews.{IsBlank, IsBoard, IsFull}
use Rattle.mt_server.specs.Heard.{AreAllReported, all_booked}
use Rattle.mt_server.proofs.HeardLemmas.{reported_failing}
use Rattle.mt_server.specs.declared.board.Board.{Board}
use Rattle.mt_restart.specs.Recovered.{IsCauseToStop}
use Rattle.mt_restart.specs.Resumed.{IsRestoredBase}
use Rattle.mt_server.specs.Serves.{IsServedOn}
use Rattle.mt_model.specs.Views.{base_of}
use Rattle.mt_locked.proofs.Keeping.{legal_book}
use Rattle.mt_locked.specs.Began.{BeganOn}
use Rattle.mt_shared.specs.Opens.{IsBaseOf, IsUnshared}
use Rattle.mt_txn.specs.declared.kernel.Kernel.{Kernel}

-- ---- transcripts

empty_at : (n i : ℕ) → ◌≡◌ {A = List (ℕ × List Call)} (get_or (replicate n []) i []) []
empty_at zero i = refl
empty_at (suc n) zero = refl
empty_at (suc n) (suc i) = empty_at n i

none_booked : (n : ℕ) → all_booked (replicate n []) ≡ 0
none_booked zero = refl
none_booked (suc n) = let rest = none_booked n in omega arith

pub blank_board : (scripts : List (List Line)) (board : Board) (book : List Committed) → IsBlank (length scripts) board → IsBoard scripts board book 0
blank_board scripts board book blank = record {
  texts = blank.texts;
  filled = blank.filled;
  booked = replicate (length scripts) [];
  many = length-replicate (length scripts) [];
  each = λ i lines lt is there. absurd (true≢false (sym there ∙ blank.nothing i lt));
  empty = λ i none. empty_at (length scripts) i;
  counted = none_booked (length scripts);
}

pub board_reported : (failed : Bool) (scripts : List (List Line)) (board : Board) (book : List Committed) (count : ℕ) → IsBoard scripts board book count → IsFull board → (board.has_failed ≡ true → failed ≡ true) → length book ≡ count → AreAllReported failed scripts board.texts.items book
board_reported failed scripts board book count b full may many = record {
  count = b.texts;
  booked = b.booked;
  each = λ i lines lt is. reported_failing board.has_failed failed (i + 1) lines (get_or board.texts.items i []) (get_or b.booked i []) book may (b.each i lines lt is (full i (omega (arith, lt, b.filled))));
  many = b.many;
  whole = many ∙ sym b.counted;
}

-- ---- the kernel

-- what was opened on the base of these bytes served them
pub served_on : {D : Type 0} {g : Ghosts D} (c : List ℕ) (first : Base) (k : Kernel D g) → IsBaseOf c first → IsRestoredBase c (base_of first) → BeganOn first k → IsServedOn c k
served_on c first k is restored began = record { first = first; is = is; first_is = restored; began = began; legal = legal_book first k began }

-- ---- refusals

-- what keeps a device from being opened, in whatever call it failed
stops : (c : List ℕ) (failed : Type 0) (why : Refusal) → IsCauseToStop c failed why → IsCauseToStop c (Unit {0}) why
stops c failed refusal.DeviceFailed cause = inl tt
stops c failed refusal.NoMemory cause = inl tt
stops c failed refusal.NotFormatted (inl cause) = inl cause
stops c failed (refusal.BadFormat at) (inl cause) = inl cause
stops c failed why (inr full) = inr full
stops c failed _ (inl cause) = absurd cause

pub unopened_by : (c : List ℕ) (failed : Type 0) (why : Refusal) → IsUnshared c failed why → IsUnshared c (Unit {0}) why
unopened_by c failed why is = record { cause = stops c failed why is.cause; rightly = is.rightly }
