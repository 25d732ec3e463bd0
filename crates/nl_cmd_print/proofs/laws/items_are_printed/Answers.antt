use Rattle.nl_cmd_print.proofs.Printing.{items_are_printed}
use Rattle.nl_cmd_print.proofs.laws.items_are_printed.Goals as goal

pub returns : goal.returns
returns c = items_are_printed
