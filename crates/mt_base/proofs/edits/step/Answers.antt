use Rattle.std.proofs.Common.{rules, arith, refl, sym, ◌∙◌, ◌≡◌, ◌++◌, ◌∷◌, []}
use Rattle.mt_base.specs.declared.edits.Edit.{Edit}
use Rattle.mt_base.proofs.Editing.{edited_rest, edited_more}
use Rattle.mt_base.proofs.edits.step.Goals as goal

pub returns-then-start-old-clause-edited : goal.returns-then-start-old-clause-edited
returns-then-start-old-clause-edited c = edited_rest c.args.old.now c.args.new.now c.args.edits.now.items c.args.last c.first_difference-start.result c.requires.so_far c.first_difference-start.ensures.before (search rules)

pub returns-clause-edited : goal.returns-clause-edited
returns-clause-edited c =
    let e : Edit = record { start = c.first_difference-start.result; bytes = c.in_ok-bytes.bytes } in
    let items : c.push.new.self.items ≡ c.args.edits.now.items ++ e ∷ [] = c.in_ok-push.ensures.items in
    rw items (edited_more c.args.old.now c.args.new.now c.args.edits.now.items e c.args.last c.first_difference-start.result c.run_end-end.result (sym c.requires.touched.size) c.requires.so_far c.first_difference-start.ensures (omega arith)
    c.run_end-end.ensures refl (c.in_ok-bytes.ensures ∙ c.part_of.ensures))
