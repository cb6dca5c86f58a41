use Rattle.std.proofs.Common.{◌∙◌, ◌++◌, ℕ, List, [], ap, sym, drop, length, arith, length-append}
use Rattle.std.proofs.lemmas.List.{drop-append-le, flat_map_more}
use Rattle.mt_frame.specs.Grammar.{body_text, record_text}
use Rattle.mt_frame.specs.PageRecords.{represented}
use Rattle.mt_frame.proofs.TextLengths.{length-record_text}
use Rattle.mt_log.specs.Words.{seen_of}
use Rattle.mt_log.proofs.Bytes.{used-fields}
use Rattle.mt_log.proofs.log.Log.append_page.Goals as goal

pub invariant_of-self-2-clause-fits : goal.invariant_of-self-2-clause-fits
unfolding seen_of
invariant_of-self-2-clause-fits c =
    let s = c.args.self.now in
    let entry = represented c.args.entry.now in
    let old = s.pending in
    let new = c.push_page_text.new.text in
    omega (arith, used-fields s, c.requires.fits, s.in_order, s.fits, s.head, ap length c.in_ok-push_page_text.ensures.ok, length-append old.items (record_text entry), length-record_text entry, old.ok.0, new.ok.0)

pub invariant_of-self-2-clause-text : goal.invariant_of-self-2-clause-text
invariant_of-self-2-clause-text c =
    let log = c.args.self.now in
    let text = record_text (represented c.args.entry.now) in
    let head = log.head in
    let whole = log.pending.ok.0 in
    ap (drop 4) c.in_ok-push_page_text.ensures.ok
    ∙ drop-append-le 4 log.pending.items text (omega (arith, head, whole))
    ∙ ap (λ (l : List ℕ). l ++ text) log.text
    ∙ flat_map_more record_text [] log.waiting.items (represented c.args.entry.now)
    ∙ ap body_text (sym c.and_as-self.ensures)
