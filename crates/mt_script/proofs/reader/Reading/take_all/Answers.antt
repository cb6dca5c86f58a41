use Rattle.std.proofs.Common.{◌≡◌, [], ◌∷◌, ◌++◌, ap, sym, subst, ◌∙◌}
use Rattle.std.proofs.lemmas.List.{append_assoc}
use Rattle.std.proofs.lemmas.Result.{IfErr-weaker, err_from_is_err_and, on_ok_weaker}
use Rattle.mt_script.specs.Grammars.{AreRefusedFor, Gathered}
use Rattle.mt_script.proofs.ScriptLemmas.{part_about}
use Rattle.mt_script.proofs.reader.Reading.take_all.Goals as goal

pub returns-in_err-take-clause-cause : goal.returns-in_err-take-clause-cause
returns-in_err-take-clause-cause g c = let p = err_from_is_err_and c.from_residual.result c.from_residual.ensures.1 in rw (p.1, p.2) (λ front more h.
    let (taken, bytes, gathered) = c.loop-part.invariant in
    let whole : c.args.bytes.now ≡ taken ++ (c.in-Some.part.now ++ 10 ∷ c.in-Some.next.now) = bytes ∙ ap (λ t. taken ++ t) c.in-Some.ensures.found.0 in
    let why = c.in_err-take.ensures.cause (front ++ taken) (10 ∷ (c.in-Some.next.now ++ more)) (gathered front h) in
    subst (λ t. AreRefusedFor g.G.Grammar.text g.G.Grammar.IsIn t c.in_err-take.field-0.0) (part_about front taken c.in-Some.part.now c.in-Some.next.now more ∙ ap (λ t. (front ++ t) ++ more) (sym whole)) why)

pub returns-in_err-end_line-clause-cause : goal.returns-in_err-end_line-clause-cause
returns-in_err-end_line-clause-cause g c = let p = err_from_is_err_and c.from_residual-in_err-end_line.result c.from_residual-in_err-end_line.ensures.1 in rw (p.1, p.2) (λ front more h.
    let (taken, bytes, gathered) = c.loop-part.invariant in
    let whole : c.args.bytes.now ≡ taken ++ (c.in-Some.part.now ++ 10 ∷ c.in-Some.next.now) = bytes ∙ ap (λ t. taken ++ t) c.in-Some.ensures.found.0 in
    let line = c.in_ok-take.ensures.taken (front ++ taken) (gathered front h) in
    let why = c.in_err-end_line.ensures.cause ((front ++ taken) ++ c.in-Some.part.now) (c.in-Some.next.now ++ more) line in
    subst (λ t. AreRefusedFor g.G.Grammar.text g.G.Grammar.IsIn t c.in_err-end_line.field-0.0) (part_about front taken c.in-Some.part.now c.in-Some.next.now more ∙ ap (λ t. (front ++ t) ++ more) (sym whole)) why)

pub loop-part-preserved : goal.loop-part-preserved
loop-part-preserved g c =
    let (taken, bytes, gathered) = c.loop-part.invariant in
    let part = c.in-Some.part.now in
    let next = c.in-Some.next.now in
    let ended : taken ++ (part ++ 10 ∷ next) ≡ (taken ++ (part ++ 10 ∷ [])) ++ next = simp append_assoc in (
      taken ++ (part ++ 10 ∷ []),
      bytes ∙ ap (λ t. taken ++ t) c.in-Some.ensures.found.0 ∙ ended,
      λ front h.
          let line = c.in_ok-take.ensures.taken (front ++ taken) (gathered front h) in
          let whole : ((front ++ taken) ++ part) ++ 10 ∷ [] ≡ front ++ (taken ++ (part ++ 10 ∷ [])) = simp append_assoc in
          subst (λ t. Gathered g.G.Grammar.text g.G.Grammar.IsIn t c.end_line.new.self.lines.items c.end_line.new.self.line.items) whole (c.in_ok-end_line.ensures.taken ((front ++ taken) ++ part) line),
    )

pub returns-clause-cause : goal.returns-clause-cause
returns-clause-cause g c =
    let (taken, bytes, gathered) = c.loop-part.invariant in
    IfErr-weaker c.take-2.result _ _ (λ why refused front more h.
    subst (λ t. AreRefusedFor g.G.Grammar.text g.G.Grammar.IsIn t why) (ap (λ t. t ++ more) (append_assoc front taken c.loop-part.rest.now ∙ ap (λ t. front ++ t) (sym bytes))) (refused (front ++ taken) more (gathered front h))) c.take-2.ensures.cause

pub returns-clause-taken : goal.returns-clause-taken
returns-clause-taken g c =
    let (taken, bytes, gathered) = c.loop-part.invariant in
    on_ok_weaker c.take-2.result (λ took front h.
    subst (λ t. Gathered g.G.Grammar.text g.G.Grammar.IsIn t c.take-2.new.self.lines.items c.take-2.new.self.line.items) (append_assoc front taken c.loop-part.rest.now ∙ ap (λ t. front ++ t) (sym bytes)) (took (front ++ taken) (gathered front h))) c.take-2.ensures.taken
