-- With what calls of a kernel under the lock are refused.
use Rattle.std.specs.Prelude.{⊤}
use Rattle.mt_base.specs.declared.refusal.Refusal.{Refusal}
use Rattle.mt_base.specs.declared.refusal.Refusal.TheVariants as refusal

-- a close, with 2, 15 or 16
abbrev pub IsCloseRefusal : Refusal → Type 0
IsCloseRefusal refusal.DeviceFailed = ⊤
IsCloseRefusal refusal.Stranger = ⊤
IsCloseRefusal refusal.Busy = ⊤
IsCloseRefusal _ = ⊥

-- making room for a page, and a step of a force or of a flush, with 1 or 2
abbrev pub IsRoomRefusal : Refusal → Type 0
IsRoomRefusal refusal.NoMemory = ⊤
IsRoomRefusal refusal.DeviceFailed = ⊤
IsRoomRefusal _ = ⊥

-- an abort, and an operation that has started, with 2 or 15
abbrev pub IsAbortRefusal : Refusal → Type 0
IsAbortRefusal refusal.DeviceFailed = ⊤
IsAbortRefusal refusal.Stranger = ⊤
IsAbortRefusal _ = ⊥

-- a begin, with 1, 2, 11, 12, 13 or 16
abbrev pub IsBeginRefusal : Refusal → Type 0
IsBeginRefusal refusal.NoMemory = ⊤
IsBeginRefusal refusal.DeviceFailed = ⊤
IsBeginRefusal refusal.LogFull = ⊤
IsBeginRefusal refusal.BookFull = ⊤
IsBeginRefusal refusal.TooManyTransactions = ⊤
IsBeginRefusal refusal.Busy = ⊤
IsBeginRefusal _ = ⊥

-- a commit, with 1, 2, 15 or 16
abbrev pub IsCommitRefusal : Refusal → Type 0
IsCommitRefusal refusal.NoMemory = ⊤
IsCommitRefusal refusal.DeviceFailed = ⊤
IsCommitRefusal refusal.Stranger = ⊤
IsCommitRefusal refusal.Busy = ⊤
IsCommitRefusal _ = ⊥

-- going back, with 1, 2, 15, 16 or 19
abbrev pub IsBackRefusal : Refusal → Type 0
IsBackRefusal refusal.NoMemory = ⊤
IsBackRefusal refusal.DeviceFailed = ⊤
IsBackRefusal refusal.Stranger = ⊤
IsBackRefusal refusal.Busy = ⊤
IsBackRefusal refusal.BadSavepoint = ⊤
IsBackRefusal _ = ⊥
