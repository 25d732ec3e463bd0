use Rattle.nl_handler.proofs.HoldersRenamed.{flight_renames, freeing_renames, stored_renames}
use Rattle.nl_handler.proofs.laws.holders_renamed.Goals as goal

pub returns-clause-stored : goal.returns-clause-stored
returns-clause-stored c = stored_renames

pub returns-clause-flight : goal.returns-clause-flight
returns-clause-flight c = flight_renames

pub returns-clause-freeing : goal.returns-clause-freeing
returns-clause-freeing c = freeing_renames
