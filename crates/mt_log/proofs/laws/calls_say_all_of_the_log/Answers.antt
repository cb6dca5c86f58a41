use Rattle.std.proofs.Common.{ap, ◌∙◌}
use Rattle.mt_log.specs.Seen.{bytes_in}
use Rattle.mt_log.specs.Words.{seen_of}
use Rattle.mt_log.proofs.Begun.{begun_facts, first_bytes}
use Rattle.mt_log.proofs.Bytes.{bytes-with_record}
use Rattle.mt_log.proofs.Prefix.{sound_with_record}
use Rattle.mt_log.proofs.Stepped.{stepped}
use Rattle.mt_log.proofs.laws.calls_say_all_of_the_log.Goals as goal

pub returns-clause-steps : goal.returns-clause-steps
returns-clause-steps c = stepped

pub returns-clause-appends : goal.returns-clause-appends
returns-clause-appends c = sound_with_record

pub returns-clause-takes : goal.returns-clause-takes
returns-clause-takes c = λ old new entry is. ap bytes_in is ∙ bytes-with_record (seen_of old) entry

pub returns-clause-begins : goal.returns-clause-begins
returns-clause-begins c = begun_facts

pub returns-clause-first : goal.returns-clause-first
returns-clause-first c = first_bytes
