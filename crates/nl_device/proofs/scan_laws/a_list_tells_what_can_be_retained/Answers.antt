use Rattle.nl_device.proofs.Retainable.{can_be_retained}
use Rattle.nl_device.proofs.scan_laws.a_list_tells_what_can_be_retained.Goals as goal

pub returns : goal.returns
returns c shape seen pointers can = can_be_retained shape seen pointers can
