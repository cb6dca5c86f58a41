-- Why a call is refused, from why its parts are.
use Rattle.std.proofs.Common.{ℕ, ap, arith}
use Rattle.std.specs.Prelude.{ℤ}
use Rattle.std.proofs.Props.{props}
use Rattle.mt_disk.specs.declared.device.Device.{Ghosts}
use Rattle.mt_base.specs.declared.refusal.Refusal.{Refusal}
use Rattle.mt_base.specs.declared.refusal.Refusal.TheVariants as refusal
use Rattle.mt_base.specs.Limits.{IsStep}
use Rattle.mt_frame.specs.Grammar.{IsOperation}
use Rattle.mt_frame.specs.declared.records.LoggedOp.TheVariants.{Add as AddLogged}
use Rattle.mt_inverse.specs.Steps.{IsWithinSteps}
use Rattle.mt_pool.specs.Same.{Operation-prop}
use Rattle.mt_live.specs.Lives.{IsAbove}
use Rattle.mt_live.specs.Members.{Member}
use Rattle.mt_model.specs.Locks.{AreAllFree}
use Rattle.mt_model.specs.Model.{asks_of, locks_of}
use Rattle.mt_model.specs.declared.operations.Op.{Op}
use Rattle.mt_model.specs.declared.operations.Op.TheVariants.{Get, Insert, Update, Delete, Add, Read, Scan}
use Rattle.mt_slock.specs.Answers.{IsRefused}
use Rattle.mt_slock.specs.Views.{held_of}
use Rattle.std.specs.Prelude.{Option, Some, None}
use Rattle.mt_core.specs.Causes.{IsUnreserved, IsRefusedBehind, IsRefusedCall}
use Rattle.mt_core.specs.Consistent.{Origin, IsAskedFor}
use Rattle.mt_core.specs.declared.parts.Core.{Core}

pub Above-prop : (n : ℕ) (o : Option Member) → IsProp (IsAbove n o)
Above-prop n None = hlevel props
Above-prop n (Some m) = hlevel props

pub Step-prop : (d : ℤ) → IsProp (IsStep d)
Step-prop d a b = ap (λ (o : IsOperation (AddLogged 0 d)). o.1) (Operation-prop (AddLogged 0 d) (omega arith, a) (omega arith, b))

pub Steps-prop : (op : Op) → IsProp (IsWithinSteps op)
Steps-prop (Get r k) = hlevel props
Steps-prop (Insert r k v) = hlevel props
Steps-prop (Update r k v) = hlevel props
Steps-prop (Delete r k) = hlevel props
Steps-prop (Add c d) = Step-prop d
Steps-prop (Read c) = hlevel props
Steps-prop (Scan r) = hlevel props

module _ {D : Type 0} (g : Ghosts D) (origin : Origin) (k : Core D) (kept t : ℕ) (op : Op) where
  -- escrow admitted it
  pub behind : (why : Refusal) → IsAskedFor k.escrow t op → IsUnreserved g origin k kept op why → IsRefusedBehind g origin k kept t op why
  behind refusal.NoMemory a u = tt
  behind refusal.DeviceFailed a u = absurd u
  behind refusal.NotFormatted a u = absurd u
  behind (refusal.BadFormat x) a u = absurd u
  behind refusal.BadLength a u = absurd u
  behind refusal.NoSuchRelation a u = absurd u
  behind refusal.NoSuchCounter a u = absurd u
  behind refusal.BadStep a u = absurd u
  behind refusal.Escrow a u = absurd u
  behind refusal.NoRoom a u = (a, u)
  behind refusal.LogFull a u = (a, u)
  behind refusal.BookFull a u = absurd u
  behind refusal.TooManyTransactions a u = absurd u
  behind (refusal.Die x) a u = absurd u
  behind refusal.Stranger a u = absurd u
  behind refusal.Busy a u = absurd u
  behind refusal.TooManyOperations a u = absurd u
  behind (refusal.BadLine x) a u = absurd u
  behind refusal.BadSavepoint a u = absurd u
  behind refusal.WrongFormat a u = absurd u

  -- nobody was in the way
  pub refused_call : (why : Refusal) → AreAllFree (held_of k.locks) t (locks_of op) → IsRefusedBehind g origin k kept t op why → IsRefusedCall g origin k kept t op why
  refused_call refusal.NoMemory f b = tt
  refused_call refusal.DeviceFailed f b = (f, b)
  refused_call refusal.NotFormatted f b = (f, b)
  refused_call (refusal.BadFormat x) f b = (f, b)
  refused_call refusal.BadLength f b = (f, b)
  refused_call refusal.NoSuchRelation f b = (f, b)
  refused_call refusal.NoSuchCounter f b = (f, b)
  refused_call refusal.BadStep f b = (f, b)
  refused_call refusal.Escrow f b = (f, b)
  refused_call refusal.NoRoom f b = (f, b)
  refused_call refusal.LogFull f b = (f, b)
  refused_call refusal.BookFull f b = (f, b)
  refused_call refusal.TooManyTransactions f b = (f, b)
  refused_call (refusal.Die x) f b = absurd b.1
  refused_call refusal.Stranger f b = (f, b)
  refused_call refusal.Busy f b = (f, b)
  refused_call refusal.TooManyOperations f b = (f, b)
  refused_call (refusal.BadLine x) f b = (f, b)
  refused_call refusal.BadSavepoint f b = (f, b)
  refused_call refusal.WrongFormat f b = (f, b)

  -- somebody was
  pub barred_call : (why : Refusal) → IsRefused (held_of k.locks) t (asks_of op) why → IsRefusedCall g origin k kept t op why
  barred_call refusal.NoMemory b = tt
  barred_call refusal.DeviceFailed b = absurd b
  barred_call refusal.NotFormatted b = absurd b
  barred_call (refusal.BadFormat x) b = absurd b
  barred_call refusal.BadLength b = absurd b
  barred_call refusal.NoSuchRelation b = absurd b
  barred_call refusal.NoSuchCounter b = absurd b
  barred_call refusal.BadStep b = absurd b
  barred_call refusal.Escrow b = absurd b
  barred_call refusal.NoRoom b = absurd b
  barred_call refusal.LogFull b = absurd b
  barred_call refusal.BookFull b = absurd b
  barred_call refusal.TooManyTransactions b = absurd b
  barred_call (refusal.Die x) b = b
  barred_call refusal.Stranger b = absurd b
  barred_call refusal.Busy b = absurd b
  barred_call refusal.TooManyOperations b = absurd b
  barred_call (refusal.BadLine x) b = absurd b
  barred_call refusal.BadSavepoint b = absurd b
  barred_call refusal.WrongFormat b = absurd b
