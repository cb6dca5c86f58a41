use Rattle.std.proofs.Common.{◌≡◌, ℕ}
use Rattle.mt_index.specs.Maps.{Map}
use Rattle.mt_space.specs.Changes.{PageBytes}
use Rattle.mt_space.specs.Kinds.{kind}
use Rattle.mt_steps.specs.Held.{AreNamed}
use Rattle.mt_steps.specs.Listed.{HasListed}
use Rattle.mt_steps.proofs.Listed.{HasListedTo}
use Rattle.mt_steps.proofs.listed_base.list_rows.Given as goal

abbrev pub invariant-loop-slot : goal.invariant-loop-slot
invariant-loop-slot l = (pages : PageBytes) (p : ℕ) (m : Map) → pages p ≡ l.page → kind pages p ≡ 3 → AreNamed pages m → HasListed pages p l.initial.rows.items
    → HasListedTo pages p l.slot l.rows.items
