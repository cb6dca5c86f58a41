use Rattle.std.proofs.Common.{rules}
use Rattle.mt_explain.proofs.base_lines.write_counter.Goals as goal

pub returns-clause-all : goal.returns-clause-all
returns-clause-all g c = search rules

pub returns-clause-front : goal.returns-clause-front
returns-clause-front g c = search rules
