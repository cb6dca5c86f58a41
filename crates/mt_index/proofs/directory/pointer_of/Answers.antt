use Rattle.std.proofs.Common.{◌≡◌, ◌≤◌, ◌<◌, ◌+◌, ◌*◌, ◌^◌, ℕ, length, arith}
use Rattle.std.proofs.lemmas.Nat.{pow_below}
use Rattle.mt_index.specs.Pages.{depth_in}
use Rattle.mt_index.proofs.directory.pointer_of.Goals as goal

-- the pointer lies in the page
within : (x i size : ℕ) → x < 2 ^ 10 → i < x → size ≡ 4096 → 8 + 2 * i + 2 ≤ size
within x i size below there whole = omega (arith, below, there, whole)

pub u16_at-requires : goal.u16_at-requires
u16_at-requires c = within (2 ^ depth_in c.args.directory.now) c.args.i (length c.args.directory.now) (pow_below (depth_in c.args.directory.now) 10 (omega arith)) c.requires.there c.requires.whole
