use Rattle.std.proofs.Common.{◌≢◌, [], ap, subst}
use Rattle.nl_check.specs.Checking.{Checks, IfFound}
use Rattle.nl_field.specs.Medium.{readable_pages}
use Rattle.nl_spec_headline.specs.Streams.{medium, stream}
use Rattle.nl_cmd_words.proofs.Found.{check_found}
use Rattle.nl_cmd_words.proofs.checking.check.Goals as goal

pub returns-in-Found-clause-ended : goal.returns-in-Found-clause-ended
returns-in-Found-clause-ended g c =
    let media = c.args.media in
    let checked = c.findings-checked.result.1 in
    let end = c.print_found in
    let image = g.M.Nand.contents media in
    let before = medium (g.M.Nand.geometry media) (g.M.Nand.contents media) (g.M.Nand.clock media) (g.M.Nand.read_faults media) (g.M.Nand.write_faults media) in
    let middle = medium (g.M.Nand.geometry checked) (g.M.Nand.contents checked) (g.M.Nand.clock checked) (g.M.Nand.read_faults checked) (g.M.Nand.write_faults checked) in
    let after = medium (g.M.Nand.geometry end.result.media) (g.M.Nand.contents end.result.media) (g.M.Nand.clock end.result.media) (g.M.Nand.read_faults end.result.media) (g.M.Nand.write_faults end.result.media) in
    let same = ap (λ m. medium (g.M.Nand.geometry m) (g.M.Nand.contents m) (g.M.Nand.clock m) (g.M.Nand.read_faults m) (g.M.Nand.write_faults m)) end.ensures.media in
    check_found c.walk_finds_consistency.ensures g.M.Nand.tells c.in-Found.bits c.in-Found.count c.faults_of-before.result.reads c.faults_of-before.result.writes
    (stream (g.K.Sink.taken c.args.sink.now) (g.K.Sink.faults c.args.sink.now)) (stream (g.K.Sink.taken end.new.sink) (g.K.Sink.faults end.new.sink))
    before middle after end.result.order.items end.result.syncs.items end.result.status
    c.faults_of-before.ensures.0 c.faults_of-before.ensures.1 same
    (λ t. (g.met.M.Nand.contents_fit media t).whole)
    (λ t. subst (λ r. IfFound r (Checks image)) c.in-Found.is (c.findings-checked.ensures.found t))
    (λ t. subst (λ r. IfFound r (λ bits count. readable_pages image ≢ [])) c.in-Found.is (c.findings-checked.ensures.readable t))
    (record { same_contents = c.findings-checked.ensures.contents; same_clock = c.findings-checked.ensures.clock; same_write_faults = c.findings-checked.ensures.write_faults })
    end.ensures.order end.ensures.syncs end.ensures.sound end.ensures.faults

pub returns-in-Found-clause-left : goal.returns-in-Found-clause-left
returns-in-Found-clause-left g c told moment image was =
    c.findings-checked.ensures.left told moment image (subst (λ (m : g.row.M.Denot). g.M.Nand.left m moment image) c.print_found.ensures.media was)

pub returns-in-Blank-clause-left : goal.returns-in-Blank-clause-left
returns-in-Blank-clause-left g c told moment image was =
    c.findings-checked.ensures.left told moment image (subst (λ (m : g.row.M.Denot). g.M.Nand.left m moment image) c.ended.ensures.media was)

pub returns-in-Fault-clause-left : goal.returns-in-Fault-clause-left
returns-in-Fault-clause-left g c told moment image was =
    c.findings-checked.ensures.left told moment image (subst (λ (m : g.row.M.Denot). g.M.Nand.left m moment image) c.ended-in-Fault.ensures.media was)

pub returns-in-Memory-clause-left : goal.returns-in-Memory-clause-left
returns-in-Memory-clause-left g c told moment image was =
    c.findings-checked.ensures.left told moment image (subst (λ (m : g.row.M.Denot). g.M.Nand.left m moment image) c.ended-in-Memory.ensures.media was)
