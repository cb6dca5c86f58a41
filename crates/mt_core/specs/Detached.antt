-- The core whose device was detached.
use Rattle.mt_op.specs.Detached as operations
use Rattle.mt_core.specs.declared.detached_core.DetachedCore.{DetachedCore}
use Rattle.mt_core.specs.declared.parts.Core.{Core}

-- over this device
abbrev pub attached : {D : Type 0} → DetachedCore → D → Core D
attached rest device = record {
  operations = operations.attached rest.operations device;
  live = rest.live;
  locks = rest.locks;
  escrow = rest.escrow;
  running = rest.running;
  commits = rest.commits;
  book = rest.book;
  last = rest.last;
  reserved = rest.reserved;
}
