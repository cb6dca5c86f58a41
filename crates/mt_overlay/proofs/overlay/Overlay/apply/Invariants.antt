use Rattle.std.proofs.Common.{◌≡◌, ◌+◌, ◌≤◌, length, take}
use Rattle.mt_space.specs.Changes.{PageBytes, Agrees, after}
use Rattle.mt_overlay.specs.Overlays.{shown, drawn, AreCopies}
use Rattle.mt_overlay.proofs.overlay.Overlay.apply.Given as goal

abbrev pub invariant-loop-change : goal.invariant-loop-change
invariant-loop-change g l =
    let below = g.V.Pages.at_hand l.fn.self.views.now in
    let done = take l.change-index l.changes.list.items in
    record {
      views : l.self.views.now ≡ l.fn.self.views.now;
      sound : AreCopies below l.self.copies.items;
      agrees : (pages : PageBytes) → Agrees (shown l.fn.self.copies.items below) pages → Agrees (shown l.self.copies.items below) (after done pages);
      few : length l.self.copies.items ≤ length l.fn.self.copies.items + length done;
      drawn : (pages : PageBytes) → Agrees below pages → drawn l.self.copies.items pages ≡ after done (drawn l.fn.self.copies.items pages);
    }
