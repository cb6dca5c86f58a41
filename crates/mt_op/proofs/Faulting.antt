-- Faults of the device, and the refusal that reports them.
use Rattle.std.proofs.Common.{◌≡◌, ℕ, ap, ◌∙◌, subst, arith}
use Rattle.std.specs.Prelude.{◌<◌, Result, Ok, Err, IsOk, IsErr, IfErr, is_ok, is_err}
use Rattle.mt_base.specs.declared.refusal.Refusal.{Refusal}
use Rattle.mt_base.specs.declared.refusal.Refusal.TheVariants as refusal
use Rattle.mt_disk.specs.Disk.{HasCause}
use Rattle.mt_op.specs.Faults.{ReportsFaults}

-- where only memory is refused the device did not fail
pub no_fault : {T : Type 0} (before now : ℕ) (r : Result T Refusal) → IfErr r (λ why. why ≡ refusal.NoMemory) → now ≡ before → ReportsFaults before now r
no_fault before now r only same = record { later = omega arith; failed = λ is. absurd (never r only is); quiet = λ other. same }
  where
    never : {T : Type 0} (r : Result T Refusal) → IfErr r (λ why. why ≡ refusal.NoMemory) → r ≡ Err refusal.DeviceFailed → ⊥
    never (Ok x) only is = cc
    never (Err why) only is = cc

-- nor where something is answered
pub no_fault_ok : {T : Type 0} (before now : ℕ) (x : T) → now ≡ before → ReportsFaults before now (Ok x)
no_fault_ok before now x same = record { later = omega arith; failed = λ is. absurd cc; quiet = λ other. same }

-- an answer says what the one said that it was made of
pub reported_ok : {T U : Type 0} (before now : ℕ) (r : Result T Refusal) (x : T) (y : U) → r ≡ Ok x → ReportsFaults before now r → ReportsFaults before now (Ok y)
reported_ok before now r x y is f = no_fault_ok before now y (f.quiet (λ e. absurd cc))

pub reported_err : {T U : Type 0} (before now : ℕ) (r : Result T Refusal) (q : Result U Refusal) (why : Refusal) → r ≡ Err why → q ≡ Err why → ReportsFaults before now r → ReportsFaults before now q
reported_err before now r q why is same f = record {
  later = f.later;
  failed = λ e. f.failed (is ∙ ap Err (err_is q why same e));
  quiet = λ other. f.quiet (λ e. other (same ∙ ap Err (err_is r why is e)));
}
  where
    err_is : {V : Type 0} (x : Result V Refusal) (why : Refusal) → x ≡ Err why → x ≡ Err refusal.DeviceFailed → why ≡ refusal.DeviceFailed
    err_is x why is e = cc

-- a call behind one in which the device did not fail
pub reported_behind : {T : Type 0} (before m now : ℕ) (r : Result T Refusal) → m ≡ before → ReportsFaults m now r → ReportsFaults before now r
reported_behind before m now r same f = subst (λ (n : ℕ). ReportsFaults n now r) same f

-- the device failed in it
pub fault_reported : {T U V : Type 0} (before now : ℕ) (r : Result T U) (why : U) (q : Result V Refusal) → HasCause before now r → r ≡ Err why → q ≡ Err refusal.DeviceFailed → ReportsFaults before now q
fault_reported before now r why q f is outcome = record { later = f.later; failed = λ e. f.failed (ap is_err is); quiet = λ other. absurd (other outcome) }

-- it did not
pub unfailed : {T U : Type 0} (before now : ℕ) (r : Result T U) (x : T) → HasCause before now r → r ≡ Ok x → now ≡ before
unfailed before now r x f is = f.quiet (ap is_ok is)

-- its cause is that of the call that it stopped at, behind others in which the device did not fail
pub cause_behind : {T U V : Type 0} (before m now : ℕ) (r : Result T U) (q : Result V U) (why : U) → m ≡ before → r ≡ Err why → IsErr q → HasCause m now r → HasCause before now q
cause_behind before m now r q why same is err f = record {
  later = let later = f.later in omega arith;
  failed = λ e. subst (λ (n : ℕ). n < now) same (f.failed (ap is_err is));
  quiet = λ ok. absurd (never q err ok);
}
  where
    never : {V U : Type 0} (q : Result V U) → IsErr q → IsOk q → ⊥
    never (Ok x) err ok = cc
    never (Err why) err ok = cc
