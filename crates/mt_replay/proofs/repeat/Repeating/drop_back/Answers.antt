use Rattle.std.proofs.Common.{List, map, refl, subst}
use Rattle.mt_replay.specs.Passes.{PutsBack, before_of}
use Rattle.mt_replay.specs.declared.repeat.Repeating.{Repeating}
use Rattle.mt_replay.specs.declared.repeat.Unfinished.{Unfinished}
use Rattle.mt_replay.proofs.Restoring.{drops}
use Rattle.mt_replay.proofs.repeat.Repeating.drop_back.Goals as goal

pub returns : goal.returns
returns c =
    let mid : Repeating = c.taken-list.new.self in
    let new : Repeating = record { alloc = mid.alloc; pages = c.put_all_back.new.pages; unfinished = mid.unfinished } in
    drops c.args.op c.taken-list.result.items c.args.self.now mid new c.taken-list.ensures
    (subst (λ (us : List Unfinished). PutsBack (map before_of us) mid.pages.items new.pages.items) c.deref.ensures.value c.put_all_back.ensures) refl
