use Rattle.std.proofs.Common.{◌≢◌, ◌<◌, ◌^◌, ℕ, length}
use Rattle.mt_index.specs.Pages.{depth_in, pointer_at}
use Rattle.mt_index.specs.Checks.{Settles}
use Rattle.mt_space.specs.PageLists.{bytes_of}
use Rattle.mt_index.specs.Broken.{chain_broken, place_broken}
use Rattle.mt_index.proofs.Sounds.{sound_settles, pointer_real}
use Rattle.mt_index.proofs.Breaking.{placed_settles}
use Rattle.mt_index.proofs.Made.{made_sound}
use Rattle.mt_index.proofs.Settled.{all_settled, answer_follows, page_follows}
use Rattle.mt_index.proofs.index_rules.first_misplaced.Goals as goal

pub returns-in-Some-clause-found : goal.returns-in-Some-clause-found
returns-in-Some-clause-found c = λ x. c.in-Some.ensures.done.1 c.args.relations x

pub returns-in-Some-clause-named : goal.returns-in-Some-clause-named
returns-in-Some-clause-named c = chain_broken c.in-Some.ensures.done.0

pub returns-clause-found : goal.returns-clause-found
returns-clause-found c =
    let pages = bytes_of c.args.pages.now in
    let total = length c.args.pages.now in
    let homes = c.mark_buckets.new.homes in
    let marked = c.in_default.ensures.done in
    answer_follows
    (λ outcome. made_sound c.args.relations total pages homes c.requires.kinds c.requires.directory c.requires.buckets c.requires.pointers marked (all_settled total pages homes _ c.requires.kinds marked outcome))
    (λ p outcome x. outcome.1 (sound_settles c.args.relations total pages x homes marked p outcome.0))
    c.find_unsettled.result c.find_unsettled.ensures

pub returns-clause-named : goal.returns-clause-named
returns-clause-named c =
    let pages = bytes_of c.args.pages.now in
    let homes = c.mark_buckets.new.homes in
    let marked = c.in_default.ensures.done in
    let real : (j : ℕ) → j < 2 ^ depth_in (pages 1) → pointer_at (pages 1) j ≢ 0 = λ j lt. pointer_real (length c.args.pages.now) pages c.requires.kinds j (c.requires.pointers j lt) in
    page_follows ((p : ℕ) → p < length c.args.pages.now → Settles pages homes p) (λ p outcome. place_broken outcome.0 (λ placed. outcome.1 (placed_settles pages homes p marked real placed))) c.find_unsettled.result c.find_unsettled.ensures
