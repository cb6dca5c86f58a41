use Rattle.mt_space.proofs.space_map.SpaceMap.of.Goals as goal

pub returns-clause-free : goal.returns-clause-free
returns-clause-free c = c.in_ok-of.ensures.free
