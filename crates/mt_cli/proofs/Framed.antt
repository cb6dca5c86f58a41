-- The frames that words ask for are as many as a kernel may have.
use Rattle.std.proofs.Common.{ℕ, List, Option, Some, None, sym, subst, arith}
use Rattle.mt_args.specs.CommandLines.{AreFrames, IsCommandOf, IsServingIn}
use Rattle.mt_args.specs.declared.command.Command.{Command}
use Rattle.mt_args.specs.declared.command.Command.TheVariants.{Try, Schedule, Check, Format, Dump, Explain, Migrate, Run, Show}
use Rattle.mt_args.specs.declared.run_words.Serving.{Serving}
use Rattle.mt_restart.specs.Frames.{IsFrameCount}
use Rattle.mt_cli.specs.Performs.{HasFrameCount}

asked : (word : Option (List ℕ)) (n : ℕ) → AreFrames word n → IsFrameCount n
asked None n is = subst IsFrameCount (sym is) (omega arith, omega arith)
asked (Some word) n is = (is.1, is.2)

serving_framed : (entered : _) (s : Serving) → IsServingIn entered s → IsFrameCount s.frames
serving_framed None s is = absurd is
serving_framed (Some found) s is = asked _ s.frames is.frames

pub framed : (words : List (List ℕ)) (c : Command) → IsCommandOf words c → HasFrameCount c
framed words (Try script stop) is = tt
framed words (Schedule file) is = tt
framed words (Check file pages wait) is = tt
framed words (Format file numbers wait) is = tt
framed words (Dump file wait) is = tt
framed words (Explain file wait) is = tt
framed words (Migrate file growth wait) is = tt
framed words (Run s wait) is = serving_framed _ s is.1
framed words (Show text) is = tt
