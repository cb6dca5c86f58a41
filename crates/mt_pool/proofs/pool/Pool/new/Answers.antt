use Rattle.std.proofs.Common.{arith, rules, refl}
use Rattle.std.proofs.lemmas.Grind.{common_steps}
use Rattle.mt_pool.proofs.Fresh.{fresh, fresh_shows, fresh_views, fresh_waits}
use Rattle.mt_pool.proofs.pool.Pool.new.Goals as goal

pub returns-clause-pool : goal.returns-clause-pool
returns-clause-pool c =
    fresh _ c.args.pages c.args.frames (search rules) (search rules) (search rules) (search rules) (search rules) (search rules) (grind (arith, common_steps)) refl (search rules) (search rules)

pub returns-clause-shows : goal.returns-clause-shows
returns-clause-shows c = λ seen long. fresh_shows _ c.args.pages c.args.frames seen (search rules) (search rules) long

pub returns-clause-views : goal.returns-clause-views
returns-clause-views c = λ seen q. fresh_views _ c.args.pages q _ _ (search rules)

pub returns-clause-waits : goal.returns-clause-waits
returns-clause-waits c = λ q. fresh_waits _ c.args.pages q (search rules)

pub returns-clause-pages : goal.returns-clause-pages
returns-clause-pages c = grind (arith, common_steps)
