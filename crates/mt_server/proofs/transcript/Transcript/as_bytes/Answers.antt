use Rattle.std.proofs.Common.{rules}
use Rattle.mt_server.proofs.transcript.Transcript.as_bytes.Goals as goal

pub returns : goal.returns
returns c = search rules
