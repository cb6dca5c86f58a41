use Rattle.std.proofs.Common.{rules, ◌≡◌, ◌<◌, length, take, sym, subst}
use Rattle.mt_script.specs.Grammars.{AreLines, AreRefusedFor}
use Rattle.mt_script.proofs.ScriptLemmas.{read_more, read_done, if_some}
use Rattle.mt_script.proofs.reader.read_lines.Goals as goal

pub loop-preserved : goal.loop-preserved
loop-preserved g c = λ bytes known.
    let inv = c.loop.invariant bytes known in
    let m = read_more _ _ (take c.in-Ok.count c.read.new.buf) bytes inv.0 inv.1 inv.2 inv.3 c.in-Ok.ensures.bytes.0 in
    (_, m.0, m.1, m.2, c.in_default-take_all.ensures.taken inv.0 inv.4)

pub returns-in-Ok-end-clause-lines : goal.returns-in-Ok-end-clause-lines
returns-in-Ok-end-clause-lines g c = if_some _ (λ bytes. AreLines g.G.Grammar.text g.G.Grammar.IsIn bytes c.in-Ok-end.lines.items) (λ bytes known.
    let inv = c.loop.invariant bytes known in
    let long : 0 < length c.read.new.buf = search rules in
    let same : bytes ≡ inv.0 = read_done _ _ c.read.new.buf bytes inv.0 inv.1 c.in-Ok.count c.if-count-eq0.true long inv.2 inv.3 c.in-Ok.ensures.bytes in
    rw same (c.in-Ok-end.ensures.lines inv.0 inv.4))

pub returns-in-Err-clause-cause : goal.returns-in-Err-clause-cause
returns-in-Err-clause-cause g c = if_some _ (λ bytes. AreRefusedFor g.G.Grammar.text g.G.Grammar.IsIn bytes c.in-Err.refusal) (λ bytes known.
    let inv = c.loop.invariant bytes known in
    let long : 0 < length c.read.new.buf = search rules in
    let same : bytes ≡ inv.0 = read_done _ _ c.read.new.buf bytes inv.0 inv.1 c.in-Ok.count c.if-count-eq0.true long inv.2 inv.3 c.in-Ok.ensures.bytes in
    rw same (c.in-Err.ensures.cause inv.0 inv.4))

pub returns-in-Err-take_all-clause-cause : goal.returns-in-Err-take_all-clause-cause
returns-in-Err-take_all-clause-cause g c = if_some _ (λ bytes. AreRefusedFor g.G.Grammar.text g.G.Grammar.IsIn bytes c.in-Err-take_all.refusal) (λ bytes known.
    let inv = c.loop.invariant bytes known in
    let m = read_more _ _ (take c.in-Ok.count c.read.new.buf) bytes inv.0 inv.1 inv.2 inv.3 c.in-Ok.ensures.bytes.0 in
    let why = c.in-Err-take_all.ensures.cause inv.0 m.0 inv.4 in
    subst (λ t. AreRefusedFor g.G.Grammar.text g.G.Grammar.IsIn t c.in-Err-take_all.refusal) (sym m.2) why)
