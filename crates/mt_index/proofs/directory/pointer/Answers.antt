use Rattle.std.proofs.Common.{◌≤◌, ◌+◌, ◌*◌, ◌%◌, ◌^◌, ℕ, ap, ◌∙◌, arith, subst, sym}
use Rattle.mt_base.specs.Ranges.{u16_at}
use Rattle.mt_index.specs.Pages.{depth_in}
use Rattle.mt_index.proofs.Pointers.{place_fits, place_is}
use Rattle.mt_index.proofs.directory.pointer.Goals as goal

pub u16_at-requires : goal.u16_at-requires
u16_at-requires c =
    let is = c.depth.ensures in
    subst (λ (n : ℕ). 8 + 2 * (c.args.hash % (1 * 2 ^ c.depth.result % 18446744073709551616)) + 2 ≤ n) (sym c.requires.whole) (place_fits c.args.hash c.depth.result (omega arith))

pub returns : goal.returns
returns c = c.new.ensures ∙ c.u16_at.ensures ∙ ap (λ (k : ℕ). u16_at c.args.directory.now k) (place_is c.args.hash c.depth.result (depth_in c.args.directory.now) c.depth.ensures (omega arith))
