use Rattle.std.proofs.Common.{ℕ, Option, sym, subst, MatchOption}
use Rattle.mt_model.specs.Model.{locks_in}
use Rattle.mt_model.specs.Locks.{AreAllFree, IsLeastBarOf}
use Rattle.mt_slock.specs.Views.{held_of}
use Rattle.mt_slock.proofs.Asking.{standings_bar}
use Rattle.mt_slock.proofs.standings.Standings.bar.Goals as goal

pub returns : goal.returns
returns c = λ es t a st.
    subst (λ (o : Option ℕ). MatchOption o (AreAllFree (held_of es) t (locks_in a)) (IsLeastBarOf (held_of es) t (locks_in a))) (sym c.oldest.ensures) (standings_bar es t a c.args.self.now st)
