use Rattle.std.proofs.Common.{[], inl, subst}
use Rattle.mt_base.specs.declared.modes.LockMode.TheVariants.{Intend}
use Rattle.mt_model.specs.Locks.{AreAllFree}
use Rattle.mt_model.specs.Model.{intents}
use Rattle.mt_model.specs.declared.objects.Object.TheVariants.{Relation}
use Rattle.mt_slock.specs.Standings.{StandsIntent, Stands}
use Rattle.mt_slock.specs.Views.{held_of}
use Rattle.mt_slock.proofs.Asking.{held_after}
use Rattle.mt_slock.proofs.table.LockTable.grant_intent.Goals as goal

pub grant_one-requires-clause-free : goal.grant_one-requires-clause-free
grant_one-requires-clause-free c = λ u b. subst (λ i. AreAllFree (held_of c.args.self.now) c.args.txn (intents i)) c.in-Some.is c.requires.free u (inl b)

pub grant_one-requires-clause-fresh : goal.grant_one-requires-clause-fresh
grant_one-requires-clause-fresh c =
    let stands : Stands c.args.self.now c.args.txn (Relation c.in-Some.relation) Intend c.args.standing = subst (λ i. StandsIntent c.args.self.now c.args.txn i c.args.standing) c.in-Some.is c.requires.standing in
    held_after (held_of c.args.self.now) c.args.txn [] (Relation c.in-Some.relation) Intend c.args.standing.fresh stands.fresh

pub grant_one-requires-clause-alone : goal.grant_one-requires-clause-alone
grant_one-requires-clause-alone c =
    let stands : Stands c.args.self.now c.args.txn (Relation c.in-Some.relation) Intend c.args.standing = subst (λ i. StandsIntent c.args.self.now c.args.txn i c.args.standing) c.in-Some.is c.requires.standing in
    stands.alone
