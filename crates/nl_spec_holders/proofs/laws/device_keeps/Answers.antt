use Rattle.nl_spec_holders.proofs.LawProofs as laws
use Rattle.nl_spec_holders.proofs.laws.device_keeps.Goals as goal

pub returns-clause-program : goal.returns-clause-program
returns-clause-program c = laws.program_keeps

pub returns-clause-copy : goal.returns-clause-copy
returns-clause-copy c = laws.copy_keeps

pub returns-clause-erase : goal.returns-clause-erase
returns-clause-erase c = laws.erase_keeps
