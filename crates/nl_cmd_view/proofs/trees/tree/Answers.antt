use Rattle.std.proofs.Common.{◌≡◌, ◌∙◌, ℕ, [], ap, refl, sym, subst, codes}
use Rattle.nl_cmd_words.specs.Ends.{no_memory}
use Rattle.nl_device.specs.Medium.{medium_of}
use Rattle.nl_device.specs.contracts.counts.DeviceCounts.TheImpl.{ghosts}
use Rattle.nl_field.specs.CrashStates.{Rose}
use Rattle.nl_spec_headline.specs.Streams.{medium, stream}
use Rattle.nl_io.specs.declared.sink.SinkAnswer.TheVariants as answers
use Rattle.nl_print.specs.Texts.{tree_text}
use Rattle.nl_volume.specs.Opened.{medium_in}
use Rattle.nl_cmd_view.specs.Looking.{ShowsTree, TreeEnds, not_cut}
use Rattle.nl_cmd_view.proofs.Seen.{all_still, fault_rose, lost_untold, no_more_left, not_taken_still, status_since, was_not_seen, was_shown}
use Rattle.nl_cmd_view.proofs.Viewed.{runs_as}
use Rattle.nl_cmd_view.proofs.trees.tree.Goals as goal

-- the volume was not opened
pub returns-in-Err-clause-ended : goal.returns-in-Err-clause-ended
returns-in-Err-clause-ended g c =
    let m = g.M.Nand in
    let k = g.K.Sink in
    let end = c.refused in
    let old = stream (k.taken c.args.sink.now) (k.faults c.args.sink.now) in
    let new = stream (k.taken end.new.sink) (k.faults end.new.sink) in
    not_cut
    (was_not_seen m.tells m.geometry m.contents m.clock m.read_faults m.write_faults m.left c.args.media (medium_in c.in-Err.why) end.result.media c.in-Err.ensures.left end.ensures.media
    ShowsTree old new end.result.order.items end.result.syncs.items end.result.status end.ensures.order end.ensures.syncs (end.ensures.ended c.args.media c.in-Err.ensures.why))

pub returns-in-Err-clause-left : goal.returns-in-Err-clause-left
returns-in-Err-clause-left g c =
    let m = g.M.Nand in
    no_more_left m.tells m.geometry m.contents m.clock m.read_faults m.write_faults m.left c.args.media (medium_in c.in-Err.why) c.refused.result.media c.in-Err.ensures.left c.refused.ensures.media

-- no memory for the walk
pub returns-in_default-clause-ended : goal.returns-in_default-clause-ended
returns-in_default-clause-ended g c =
    let m = g.M.Nand in
    let k = g.K.Sink in
    let end = c.ended in
    let old = stream (k.taken c.args.sink.now) (k.faults c.args.sink.now) in
    let new = stream (k.taken end.new.sink) (k.faults end.new.sink) in
    not_cut
    (was_not_seen m.tells m.geometry m.contents m.clock m.read_faults m.write_faults m.left c.args.media (medium_of c.in-Ok.volume.core.device) end.result.media c.in-Ok.ensures.only_read (end.ensures.media ∙ c.into_media.ensures)
    ShowsTree old new end.result.order.items end.result.syncs.items end.result.status end.ensures.order end.ensures.syncs (codes "memory\n", no_memory end.ensures.status refl, end.ensures.prints))

pub returns-in_default-clause-left : goal.returns-in_default-clause-left
returns-in_default-clause-left g c =
    let m = g.M.Nand in
    no_more_left m.tells m.geometry m.contents m.clock m.read_faults m.write_faults m.left c.args.media (medium_of c.in-Ok.volume.core.device) c.ended.result.media c.in-Ok.ensures.only_read (c.ended.ensures.media ∙ c.into_media.ensures)

pub print_tree-shown-requires-clause-core : goal.print_tree-shown-requires-clause-core
print_tree-shown-requires-clause-core g c =
    let e = c.in-Ok.ensures in
    (e.stands e.opened.tree [] (λ l none. absurd none) (λ t. (e.opened.opens t).sound)).0.serves.core

-- paths were printed
pub returns-clause-ended : goal.returns-clause-ended
returns-clause-ended g c =
    let G = ghosts g.row.M g.M.Nand g.M.Nand-dict in
    let m = g.M.Nand in
    let k = g.K.Sink in
    let media = c.args.media in
    let v = c.in-Ok.volume.core in
    let opened = c.in-Ok.ensures.opened in
    let stands = (c.in-Ok.ensures.stands opened.tree [] (λ l none. absurd none) (λ t. (opened.opens t).sound)).0 in
    let only = c.in-Ok.ensures.only_read in
    let shown = c.print_tree-shown in
    let reads = shown.ensures.same.runs.reads.medium in
    let given = c.into_media-media.result in
    let same : given ≡ medium_of shown.new.core.device = c.into_media-media.ensures in
    let before = c.faults_of-before in
    let end = c.ending_of in
    let old = stream (k.taken c.args.sink.now) (k.faults c.args.sink.now) in
    let new = stream (k.taken shown.new.sink) (k.faults shown.new.sink) in
    let start = medium (m.geometry media) (m.contents media) (m.clock media) (m.read_faults media) (m.write_faults media) in
    let middle = medium (m.geometry given) (m.contents given) (m.clock given) (m.read_faults given) (m.write_faults given) in
    let reported = was_shown m.tells old new start middle end.result.order.items end.result.syncs.items end.result.status
    (record {
      untouched = record {
        same_contents = λ told. ap m.contents same ∙ reads.contents told ∙ only.same_contents told;
        same_clock = ap m.clock same ∙ reads.clock ∙ only.same_clock;
        same_write_faults = ap m.write_faults same ∙ reads.write_faults ∙ only.same_write_faults;
      };
      no_lines = end.ensures.order;
      no_syncs = end.ensures.syncs;
      later = shown.ensures.never_falls;
    })
    (tree_text c.calls-count.result opened.tree) shown.ensures.shows.text
    (λ told. record { count = v.count; tree = opened.tree; sound = (opened.opens told).sound; text_is = ap (λ (n : ℕ). tree_text n opened.tree) c.calls-count.ensures })
    shown.result
    (λ told. let w = runs_as G v opened.tree c.in-Ok.volume.done stands told in shown.ensures.shows.of_tree told w.0 opened.tree w.1)
    shown.ensures.shows.taken shown.ensures.cause
    (λ is. ap m.read_faults same ∙ all_still G v.device shown.new.core.device shown.result shown.ensures.reads is ∙ c.in-Ok.ensures.no_fault)
    (λ is. ap m.read_faults same ∙ not_taken_still G v.device shown.new.core.device shown.result shown.ensures.reads is ∙ c.in-Ok.ensures.no_fault)
    (λ is. subst (λ (n : ℕ × ℕ). Rose n.0 n.1) (λ j. (c.in-Ok.ensures.no_fault j, m.read_faults (sym same j))) (fault_rose G v.device shown.new.core.device shown.result shown.ensures.reads is))
    (λ is. lost_untold G v.device shown.new.core.device shown.result shown.ensures.reads is)
    end.ensures.fault end.ensures.lost
    (λ is. status_since before.result.reads before.result.writes end.result.status answers.Took start middle before.ensures (end.ensures.all is))
    (λ is. status_since before.result.reads before.result.writes end.result.status answers.Failed start middle before.ensures (end.ensures.not_taken is)) in
    subst (λ (x : g.row.M.Denot). TreeEnds m.tells old new start (medium (m.geometry x) (m.contents x) (m.clock x) (m.read_faults x) (m.write_faults x)) end.result.order.items end.result.syncs.items end.result.status)
    (sym end.ensures.media) reported

pub returns-clause-left : goal.returns-clause-left
returns-clause-left g c told moment image was =
    c.in-Ok.ensures.only_read.no_more_left told moment image
    (c.print_tree-shown.ensures.same.runs.reads.medium.left told moment image (subst (λ (x : g.row.M.Denot). g.M.Nand.left x moment image) (c.ending_of.ensures.media ∙ c.into_media-media.ensures) was))
