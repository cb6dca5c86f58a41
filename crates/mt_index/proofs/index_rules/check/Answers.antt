use Rattle.std.proofs.Common.{◌∙◌, ap, subst, sym}
use Rattle.mt_index.specs.Pages.{IsDirectory}
use Rattle.mt_space.specs.PageLists.{bytes_of}
use Rattle.mt_index.specs.Broken.{map_broken, directory_broken, next_broken, pointers_broken, bytes_broken}
use Rattle.mt_index.proofs.Sounds.{sound_nexts, sound_pointer}
use Rattle.mt_index.proofs.index_rules.check.Goals as goal

pub returns-then-not-are_kinds-clause-named : goal.returns-then-not-are_kinds-clause-named
returns-then-not-are_kinds-clause-named c = map_broken c.new.ensures c.if-not-are_kinds.ensures

pub returns-then-not-check_directory-clause-named : goal.returns-then-not-check_directory-clause-named
returns-then-not-check_directory-clause-named c = directory_broken c.new-then-not-check_directory.ensures
    (λ is. c.if-not-check_directory.ensures (subst IsDirectory (sym (c.page_at.ensures.is ∙ ap (bytes_of c.args.pages.now) c.new-2.ensures)) is))

pub returns-in-Some-clause-named : goal.returns-in-Some-clause-named
returns-in-Some-clause-named c = bytes_broken c.in-Some.ensures.0 c.in-Some.ensures.1

pub returns-in-Some-first_misled-clause-found : goal.returns-in-Some-first_misled-clause-found
returns-in-Some-first_misled-clause-found c = λ x. c.in-Some-first_misled.ensures.1 (sound_nexts _ _ _ x _ c.in-Some-first_misled.ensures.0)

pub returns-in-Some-first_misled-clause-named : goal.returns-in-Some-first_misled-clause-named
returns-in-Some-first_misled-clause-named c = next_broken c.in-Some-first_misled.ensures.0 c.in-Some-first_misled.ensures.1

pub returns-then-not-are_pointers-clause-found : goal.returns-then-not-are_pointers-clause-found
returns-then-not-are_pointers-clause-found c = λ x. c.if-not-are_pointers.ensures (λ i lt. sound_pointer _ _ _ x i lt)

pub returns-then-not-are_pointers-clause-named : goal.returns-then-not-are_pointers-clause-named
returns-then-not-are_pointers-clause-named c = pointers_broken c.new-then-not-are_pointers.ensures c.if-not-are_pointers.ensures
