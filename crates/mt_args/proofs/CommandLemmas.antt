-- Which command words enter, and why they are not read.
use Rattle.std.proofs.Common.{ℕ, List, inr}
use Rattle.clap.specs.Words.{subcommand_of}
use Rattle.mt_args.specs.CommandLines.{IsCommandOf, IsEntered, IsFaultOf, IsMisread, IsMisspelled, program}
use Rattle.mt_args.specs.declared.command.Command.{Command}
use Rattle.mt_args.specs.declared.command.Command.TheVariants.{Try, Schedule, Check, Format, Dump, Explain, Migrate, Run, Show}
use Rattle.mt_args.specs.declared.command.CliFault.{CliFault}
use Rattle.mt_args.specs.declared.command.CliFault.TheVariants.{Usage, Refused}

-- a fault that is for some reason is for this one
pub misread_for : {P Q : Type 0} (fault : CliFault) → (P → Q) → IsMisread P fault → IsMisread Q fault
misread_for (Usage text) f m = f m
misread_for (Refused why) f m = m

-- what is entered by words is their command
pub command_at : (words : List (List ℕ)) (command : Command) → IsEntered (subcommand_of program words) command → IsCommandOf words command
command_at words (Try script stop) e = e
command_at words (Schedule file) e = e
command_at words (Check file pages wait) e = e
command_at words (Format file numbers wait) e = e
command_at words (Dump file wait) e = e
command_at words (Explain file wait) e = e
command_at words (Migrate file growth wait) e = e
command_at words (Run serving wait) e = e
command_at words (Show text) e = absurd e

-- what is misread of them is their fault
pub fault_at : (words : List (List ℕ)) (fault : CliFault) → IsMisread (IsMisspelled (subcommand_of program words)) fault → IsFaultOf words fault
fault_at words (Usage text) m = inr m
fault_at words (Refused why) m = m
