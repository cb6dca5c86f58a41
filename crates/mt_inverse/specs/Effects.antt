-- What an operation did, as the operation and the reply by which it did it.
use Rattle.mt_inverse.specs.declared.effect.Effect.{Effect}
use Rattle.mt_inverse.specs.declared.effect.Effect.TheVariants.{Inserted, Updated, Deleted, Added}
use Rattle.mt_model.specs.declared.operations.Op.{Op}
use Rattle.mt_model.specs.declared.operations.Op.TheVariants.{Insert, Update, Delete, Add}
use Rattle.mt_model.specs.declared.operations.Reply.{Reply}
use Rattle.mt_model.specs.declared.operations.Reply.TheVariants.{Done, Was}

-- the operation that has this effect
abbrev pub op_with : Effect → Op
op_with (Inserted r k v) = Insert r k.now v.now
op_with (Updated r k v old) = Update r k.now v.now
op_with (Deleted r k old) = Delete r k.now
op_with (Added c d) = Add c d

-- and what it replied
abbrev pub reply_with : Effect → Reply
reply_with (Inserted r k v) = Done
reply_with (Updated r k v old) = Was old.now
reply_with (Deleted r k old) = Was old.now
reply_with (Added c d) = Done

-- what its inverse replies, if it finds what the effect left
abbrev pub reply_back : Effect → Reply
reply_back (Inserted r k v) = Was v.now
reply_back (Updated r k v old) = Was v.now
reply_back (Deleted r k old) = Done
reply_back (Added c d) = Done
