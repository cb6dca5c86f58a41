use Rattle.std.proofs.Common.{◌≡◌, ◌<◌, ◌≤◌, ℕ, length, get_or, None, true, false}
use Rattle.std.specs.Prelude.{IfSome}
use Rattle.mt_pool.proofs.pool.Pool.pass.Given as goal

abbrev pub invariant-loop-frame : goal.invariant-loop-frame
invariant-loop-frame l = record {
  same : l.self ≡ record l.fn.self { used = l.self.used; hand = l.self.hand };
  still : l.clean ≡ None → l.self ≡ l.fn.self;
  used : length l.self.used.items ≡ length l.fn.self.bytes.items;
  hand : l.self.hand ≤ length l.fn.self.bytes.items;
  some : IfSome l.clean (λ f. (f < length l.fn.self.bytes.items) × (get_or l.fn.self.dirty.items f false ≡ false));
  none : l.clean ≡ None → (f : ℕ) → l.from ≤ f → f < l.frame → get_or l.fn.self.dirty.items f false ≡ true;
}
