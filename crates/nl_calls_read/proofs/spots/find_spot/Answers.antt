use Rattle.std.proofs.Common.{◌≡◌, false, sym, ap, ◌∙◌}
use Rattle.nl_tree.specs.Step.{is_too_long}
use Rattle.nl_core.specs.Core.{running_of}
use Rattle.nl_calls_read.specs.Spots.{spot_stop}
use Rattle.nl_calls_steps.proofs.ReadCores.{node-on, reads-after, reads-none, reads-then}
use Rattle.nl_calls_read.proofs.Due.{at-node, has-back}
use Rattle.nl_calls_read.proofs.Spotting.{nothing-there, refused-there, too-long}
use Rattle.nl_calls_read.proofs.spots.find_spot.Goals as goal

pub returns-then-is_long-clause-same : goal.returns-then-is_long-clause-same
returns-then-is_long-clause-same g c = reads-none g.D.Counts c.args.core.now c.requires.core

pub returns-then-is_long-clause-spot : goal.returns-then-is_long-clause-spot
returns-then-is_long-clause-spot g c =
    let G = g.D.Counts in
    let v = c.args.core.now in
    λ page_of_stamp tree runs. too-long (G.shape v.device) (running_of G v) page_of_stamp tree runs.runs c.args.path.now (ap is_too_long (sym c.names.ensures) ∙ sym c.is_long.ensures ∙ c.if-is_long.true)

pub open_spot-requires-clause-used : goal.open_spot-requires-clause-used
open_spot-requires-clause-used g c =
    let used = c.in-At.ensures.used in
    (used.0, node-on g.D.Counts c.args.core.now c.look_up.new.core c.device_stands.ensures.volume c.in-At.ensures.same c.in-At.ino used.0 used.1)

pub returns-in-At-clause-same : goal.returns-in-At-clause-same
returns-in-At-clause-same g c =
    reads-then g.D.Counts c.args.core.now c.look_up.new.core c.device_stands.ensures.volume c.in-At.ensures.same c.open_spot.new.core c.open_spot.ensures.same

pub returns-in-At-clause-spot : goal.returns-in-At-clause-spot
returns-in-At-clause-spot g c =
    let G = g.D.Counts in
    let v = c.args.core.now in
    let w = c.look_up.new.core in
    let short : is_too_long c.args.path.now ≡ false = ap is_too_long (sym c.names.ensures) ∙ sym c.is_long.ensures ∙ c.if-is_long.false in
    λ page_of_stamp tree runs. at-node G v c.looks_in_tree.ensures page_of_stamp tree runs c.args.path.now short c.in-At.ino c.open_spot.result c.in-At.ensures.answer c.open_spot.ensures.ino
    (has-back G v w c.device_stands.ensures.volume c.in-At.ensures.same c.open_spot.result c.open_spot.ensures.was)

pub returns-in-At-clause-reads : goal.returns-in-At-clause-reads
returns-in-At-clause-reads g c =
    let G = g.D.Counts in
    reads-after G c.args.core.now.device c.look_up.new.core.device c.open_spot.new.core.device (spot_stop c.open_spot.result) c.in-At.ensures.same.runs.reads c.in-At.ensures.reads c.open_spot.ensures.reads

pub returns-in-Missing-clause-spot : goal.returns-in-Missing-clause-spot
returns-in-Missing-clause-spot g c =
    let G = g.D.Counts in
    let v = c.args.core.now in
    let short : is_too_long c.args.path.now ≡ false = ap is_too_long (sym c.names.ensures) ∙ sym c.is_long.ensures ∙ c.if-is_long.false in
    λ page_of_stamp tree runs. nothing-there (G.shape v.device) (running_of G v) page_of_stamp tree runs.runs c.args.path.now c.looks_in_tree.ensures short c.in-Missing.ensures.answer

pub returns-in-No-clause-spot : goal.returns-in-No-clause-spot
returns-in-No-clause-spot g c =
    let G = g.D.Counts in
    let v = c.args.core.now in
    let short : is_too_long c.args.path.now ≡ false = ap is_too_long (sym c.names.ensures) ∙ sym c.is_long.ensures ∙ c.if-is_long.false in
    λ page_of_stamp tree runs. refused-there (G.shape v.device) (running_of G v) page_of_stamp tree runs.runs c.args.path.now c.looks_in_tree.ensures short c.in-No.refusal c.in-No.ensures.answer
