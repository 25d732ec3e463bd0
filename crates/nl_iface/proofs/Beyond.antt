-- Nothing is stored under addresses beyond the last.
use Rattle.std.proofs.Common.{ap, option_map}
use Rattle.nl_field.specs.Page.{Image}
use Rattle.nl_field.specs.Medium.{shape_of_image}
use Rattle.nl_field.proofs.Beyond.{no_newest}
use Rattle.nl_iface.specs.Stored.{NothingStoredBeyond, stored_in, value_on}

pub stores_none_beyond : (image : Image) → NothingStoredBeyond (shape_of_image image).vaddrs (stored_in image)
unfolding stored_in
stores_none_beyond image v beyond = ap (option_map value_on) (no_newest image v beyond)
