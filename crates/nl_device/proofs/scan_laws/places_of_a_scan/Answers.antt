use Rattle.nl_device.proofs.Found.{lost_is, owns_is, place_is, spare_is}
use Rattle.nl_device.proofs.scan_laws.places_of_a_scan.Goals as goal

pub returns-clause-spare : goal.returns-clause-spare
returns-clause-spare c shape seen stamps = spare_is shape seen stamps

pub returns-clause-place : goal.returns-clause-place
returns-clause-place c shape seen spare p = place_is shape seen spare p

pub returns-clause-lost : goal.returns-clause-lost
returns-clause-lost c shape seen p = lost_is shape seen p

pub returns-clause-owns : goal.returns-clause-owns
returns-clause-owns c shape seen p = owns_is shape seen p
