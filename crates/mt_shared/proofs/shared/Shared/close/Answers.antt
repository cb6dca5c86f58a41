use Rattle.std.proofs.Common.{subst, sym}
use Rattle.mt_locked.proofs.Books.{begins_book}
use Rattle.mt_locked.proofs.Refusals.{close_refused}
use Rattle.mt_locked.specs.Refusals.{IsCloseRefusal}
use Rattle.mt_shared.proofs.shared.Shared.close.Goals as goal

pub returns-in-Ok-clause-seen : goal.returns-in-Ok-clause-seen
returns-in-Ok-clause-seen g c = let own = c.in-Ok.ensures.own in
    λ k d h. begins_book _ own.0 _ _ (own.2 k d h) own.1

pub returns-in-Err-clause-why : goal.returns-in-Err-clause-why
returns-in-Err-clause-why g c = subst IsCloseRefusal (sym c.still_open-in-Err.ensures.1) (close_refused c.into_inner.result c.args.passes.items c.in-Err.field-0.why c.in-Err.ensures.cause)
