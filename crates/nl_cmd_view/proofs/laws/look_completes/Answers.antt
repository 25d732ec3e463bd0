use Rattle.nl_cmd_view.specs.Looking.{ReportsImage}
use Rattle.nl_cmd_view.proofs.Completing.{look_completes, tree_completes}
use Rattle.nl_cmd_view.proofs.laws.look_completes.Goals as goal

pub returns-clause-trees : goal.returns-clause-trees
returns-clause-trees g c = tree_completes g.M.Nand.tells c.done_completes.ensures c.opening_completes.ensures

pub returns-clause-reports : goal.returns-clause-reports
returns-clause-reports g c = look_completes g.M.Nand.tells c.done_completes.ensures c.opening_completes.ensures ReportsImage
