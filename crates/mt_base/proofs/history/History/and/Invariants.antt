use Rattle.mt_base.proofs.history.History.and.Given as goal

abbrev pub ghost-and_as : goal.ghost-and_as
ghost-and_as g a = λ last. last
