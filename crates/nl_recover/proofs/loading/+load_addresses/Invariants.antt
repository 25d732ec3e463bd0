use Rattle.std.proofs.Common.{◌-◌, length}
use Rattle.nl_recover.proofs.loading.+load_addresses.Given as goal

abbrev pub decreases-load_addresses : goal.decreases-load_addresses
decreases-load_addresses g l = length l.addresses.now - l.from
