use Rattle.std.proofs.Common.{rules, ◌∙◌, ◌++◌, ap, sym, take}
use Rattle.mt_cli.specs.Reads.{IsFront}
use Rattle.mt_cli.proofs.ReadLemmas.{if_known, overlong_ends, read_more}
use Rattle.mt_cli.proofs.named_inputs.input_front.Goals as goal

pub returns-then-len-gt-MAX_TEXT_BYTES-clause-front : goal.returns-then-len-gt-MAX_TEXT_BYTES-clause-front
returns-then-len-gt-MAX_TEXT_BYTES-clause-front g c = if_known _ (IsFront c.add_bytes.new.bytes.items (g.I.Read.remaining c.read.new.self)) (λ held known.
    let inv = c.loop.invariant held known in
    let m = read_more _ _ (take c.in-Ok.count c.read.new.buf) held c.loop.bytes.items inv.0 inv.1 inv.2 c.in-Ok.ensures.bytes.0 in
    record { rest = m.0; left = m.1; whole = m.2 ∙ ap (λ t. t ++ m.0) (sym c.in_ok-add_bytes.ensures); ends = overlong_ends c.add_bytes.new.bytes.items m.0 (search rules) })
