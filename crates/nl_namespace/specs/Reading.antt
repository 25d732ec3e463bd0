-- What ends a call early.
use Rattle.std.specs.Prelude.{Option, Some, None}
use Rattle.nl_namespace.specs.declared.answer.Change.{Change}
use Rattle.nl_namespace.specs.declared.answer.Change.TheVariants as change
use Rattle.nl_namespace.specs.declared.answer.Listing.{Listing}
use Rattle.nl_namespace.specs.declared.answer.Listing.TheVariants as listing
use Rattle.nl_namespace.specs.declared.answer.Look.{Look}
use Rattle.nl_namespace.specs.declared.answer.Look.TheVariants as look
use Rattle.nl_meta_running.specs.declared.answer.Stop.{Stop}
use Rattle.nl_meta_running.specs.declared.answer.Stop.TheVariants as stop

abbrev pub look_stop : Look → Option Stop
look_stop (look.At n) = None
look_stop look.Missing = None
look_stop (look.No refusal) = None
look_stop look.Fault = Some stop.Fault
look_stop (look.Lost w f) = Some (stop.Lost w f)

abbrev pub listing_stop : Listing → Option Stop
listing_stop (listing.Listed n) = None
listing_stop listing.Fault = Some stop.Fault
listing_stop (listing.Lost w f) = Some (stop.Lost w f)

abbrev pub change_stop : Change → Option Stop
change_stop (change.Changed _) = None
change_stop (change.No refusal) = None
change_stop change.Fault = Some stop.Fault
change_stop (change.Lost w f) = Some (stop.Lost w f)
