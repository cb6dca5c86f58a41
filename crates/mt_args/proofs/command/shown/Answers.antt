use Rattle.std.proofs.Common.{rules, ◌≡◌, ◌≢◌, ◌⊎◌, inl, inr, Bool, true, false, refl}
use Rattle.std.proofs.lemmas.Result.{err_from_is_err_and}
use Rattle.clap.specs.Words.{kind_of, IsAmong, Kinds}
use Rattle.clap.specs.declared.error.kind.ErrorKind.{ErrorKind}
use Rattle.clap.specs.declared.error.kind.ErrorKind.TheVariants.{OutOfMemory}
use Rattle.mt_args.specs.CommandLines.{fits, faults}
use Rattle.mt_args.proofs.command.shown.Goals as goal

no_command : (kind : ErrorKind) (t : Bool) → (t ≡ true → kind ≡ OutOfMemory) → kind ≢ OutOfMemory → t ≡ false
no_command kind false fault other = refl
no_command kind true fault other = absurd (other (fault refl))

-- of the kinds that an error may have, one that is not want of memory
among : (kind : ErrorKind) (kinds : Kinds) → (kind ≡ OutOfMemory) ⊎ IsAmong kind kinds → kind ≢ OutOfMemory → IsAmong kind kinds
among kind kinds (inl is) other = absurd (other is)
among kind kinds (inr is) other = is

pub returns-in_err-text-clause-fault : goal.returns-in_err-text-clause-fault
returns-in_err-text-clause-fault c = λ words at.
    let p = err_from_is_err_and c.from_residual.result c.from_residual.ensures.1 in
    rw (p.1, p.2) refl

pub returns-then-use_stderr-clause-fault : goal.returns-then-use_stderr-clause-fault
returns-then-use_stderr-clause-fault c = λ words at.
    let other : kind_of c.args.error.now ≢ OutOfMemory = λ e. search rules in
    inl (no_command (kind_of c.args.error.now) (fits words) at.passes other, kind_of c.args.error.now, among _ (faults words) at.kind other, search rules)

pub returns-else-use_stderr-clause-command : goal.returns-else-use_stderr-clause-command
returns-else-use_stderr-clause-command c = λ words at.
    let other : kind_of c.args.error.now ≢ OutOfMemory = λ e. search rules in
    (no_command (kind_of c.args.error.now) (fits words) at.passes other, kind_of c.args.error.now, among _ (faults words) at.kind other, search rules)
