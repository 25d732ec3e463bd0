use Rattle.nl_device.proofs.Reopened.{are_counted, are_held}
use Rattle.nl_device.proofs.scan_laws.retained_pointers_hold.Goals as goal

pub returns-clause-held : goal.returns-clause-held
returns-clause-held c running place found names retains differ are_tagged = are_held running place found names retains differ are_tagged

pub returns-clause-counted : goal.returns-clause-counted
returns-clause-counted c running place found names retains = are_counted running place found names retains
