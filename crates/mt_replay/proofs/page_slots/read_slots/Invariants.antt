use Rattle.std.proofs.Common.{◌≡◌, ◌<◌, ℕ, [], true, false, length, get_or}
use Rattle.mt_log.specs.Quiet.{OnlyReads}
use Rattle.mt_pool.specs.Images.{slot}
use Rattle.mt_space.specs.PageLists.{AreWhole}
use Rattle.mt_replay.proofs.page_slots.read_slots.Given as goal

abbrev pub invariant-loop-number : goal.invariant-loop-number
invariant-loop-number g l = record {
  whole : AreWhole l.pages.items;
  count : length l.pages.items ≡ length l.fn.pages.items;
  read : (p : ℕ) → p < l.number → get_or l.imaged p false ≡ false → get_or l.pages.items p [] ≡ slot 8192 (g.D.Device.seen l.fn.device) p;
  others : (p : ℕ) → get_or l.imaged p false ≡ true → get_or l.pages.items p [] ≡ get_or l.fn.pages.items p [];
  quiet : g.D.Device.faults l.device ≡ g.D.Device.faults l.fn.device;
  reads : OnlyReads g.D.Device l.fn.device l.device;
}
