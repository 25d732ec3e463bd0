use Rattle.std.proofs.Common.{◌*◌}
use Rattle.nl_recover_pointers.proofs.Placing.{no_places}
use Rattle.nl_recover_pointers.proofs.places.Places.new.Goals as goal

pub returns : goal.returns
returns c =
    let none = no_places (c.args.shape.now.blocks * c.args.shape.now.pages) c.in_ok-kept.kept.items c.new-pages.result c.new-stamped.result c.in_ok-kept.ensures c.new-pages.ensures.empty c.new-stamped.ensures.empty in
    record { no_page = none.0; no_stamp = none.1 }
