use Rattle.nl_recover.proofs.Imaged.{lists_readable, unformed, walks_the_image}
use Rattle.nl_recover.proofs.laws.openings_see_the_image.Goals as goal

pub returns-clause-walk : goal.returns-clause-walk
returns-clause-walk c = walks_the_image

pub returns-clause-listed : goal.returns-clause-listed
returns-clause-listed c = lists_readable

pub returns-clause-unformed : goal.returns-clause-unformed
returns-clause-unformed c = unformed
