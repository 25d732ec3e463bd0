use Rattle.nl_volume_stage.proofs.rows.another_line_goes.Goals as goal

pub returns-clause-stays : goal.returns-clause-stays
returns-clause-stays c same = absurd (cc same)

pub returns-clause-lost : goal.returns-clause-lost
returns-clause-lost c same = absurd (cc same)
