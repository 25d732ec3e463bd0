use Rattle.nl_vseg.proofs.Spares.{keeps_spare, takes_spare}
use Rattle.nl_vseg.proofs.laws.spared.Goals as goal

pub returns-clause-keeps : goal.returns-clause-keeps
returns-clause-keeps c map old image some stands keeps = keeps_spare map old image some stands keeps

pub returns-clause-takes : goal.returns-clause-takes
returns-clause-takes c v s main map old image some stands takes = takes_spare v s main map old image some stands takes
