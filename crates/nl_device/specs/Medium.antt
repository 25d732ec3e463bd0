-- The medium that a device has and gives back.
use Rattle.nl_device.specs.declared.device.Device.{Device}

abbrev pub medium_of : {M : Type 0} → Device M → M
medium_of d = d.media
