use Rattle.std.proofs.Common.{List, [], sym, ◌∙◌, subst}
use Rattle.mt_space.specs.declared.changes.PageChange.{PageChange}
use Rattle.mt_space.specs.Changes.{IsUntouched}
use Rattle.mt_index.proofs.Notes.{notes_none, notes_more}
use Rattle.mt_index.proofs.bucket_split.Halves.changes.Goals as goal

pub returns-clause-notes : goal.returns-clause-notes
returns-clause-notes c pages space directory old spare apart =
    let n0 = notes_none pages c.new-changes.result.list.items c.new-changes.ensures in
    let n1 = notes_more [] pages c.new-changes.result.list.items c.note.new.self.list.items 0 c.args.space.now c.args.self.now.space n0 tt space
    (rw (← c.new.ensures) c.in_ok-note.ensures.noted) (rw (← c.new.ensures) c.in_ok-note.ensures.short) (rw (← c.new.ensures) c.in_ok-note.ensures.others) c.in_ok-note.ensures.count in
    let n2 = notes_more _ pages c.note.new.self.list.items c.note-2.new.self.list.items 1 c.args.directory.now c.args.self.now.directory n1 (λ e. cc, tt) directory
    (rw (← c.new-2.ensures) c.in_ok-note-2.ensures.noted) (rw (← c.new-2.ensures) c.in_ok-note-2.ensures.short) (rw (← c.new-2.ensures) c.in_ok-note-2.ensures.others) c.in_ok-note-2.ensures.count in
    let n3 = notes_more _ pages c.note-2.new.self.list.items c.note-3.new.self.list.items c.args.self.now.bucket c.args.old.now c.args.self.now.low n2 (λ e. apart.bucket_1 (sym e), (λ e. apart.bucket_0 (sym e), tt)) old
    c.in_ok-note-3.ensures.noted c.in_ok-note-3.ensures.short c.in_ok-note-3.ensures.others c.in_ok-note-3.ensures.count in
    notes_more _ pages c.note-3.new.self.list.items c.note-4.new.self.list.items c.args.self.now.fresh c.args.spare.now c.args.self.now.up n3
    (λ e. apart.each_other (sym e), (λ e. apart.fresh_1 (sym e), (λ e. apart.fresh_0 (sym e), tt))) spare
    c.in_ok-note-4.ensures.noted c.in_ok-note-4.ensures.short c.in_ok-note-4.ensures.others c.in_ok-note-4.ensures.count

pub returns-clause-others : goal.returns-clause-others
returns-clause-others c p zero one bucket fresh =
    c.in_ok-note-4.ensures.others p fresh (c.in_ok-note-3.ensures.others p bucket
    (c.in_ok-note-2.ensures.others p (λ e. one (e ∙ c.new-2.ensures)) (c.in_ok-note.ensures.others p (λ e. zero (e ∙ c.new.ensures)) (subst (λ (cs : List PageChange). IsUntouched cs p) (sym c.new-changes.ensures) tt))))
