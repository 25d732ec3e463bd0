use Rattle.nl_testkit_still.specs.contracts.counts.StillCounts.TheImpl.{ghosts}
use Rattle.nl_pagemap_volume.proofs.Served.{serves_new}
use Rattle.nl_test_calls_still.proofs.rows.wrong_of.Goals as goal

pub first_wrong-requires : goal.first_wrong-requires
first_wrong-requires c =
    let e = c.in_ok-core.ensures in
    record { serves = serves_new ghosts c.in_ok-core.core e.core e.new.runs e.new.flight e.new.no_files }
