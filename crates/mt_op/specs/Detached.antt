-- Operations whose device was detached.
use Rattle.mt_op.specs.declared.detached_operations.DetachedOperations.{DetachedOperations}
use Rattle.mt_op.specs.declared.operations.Operations.{Operations}

-- over this device
abbrev pub attached : {D : Type 0} → DetachedOperations → D → Operations D
attached rest device = record {
  store = record { device = device; log = rest.log; pool = rest.pool; ruling = rest.ruling; settled = rest.settled };
  locks = rest.idle.locks;
  rooms = rest.idle.rooms;
  map = rest.idle.map;
  spare = rest.idle.spare;
}
