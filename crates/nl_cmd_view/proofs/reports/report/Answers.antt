use Rattle.std.proofs.Common.{◌≡◌, ◌∙◌, ℕ, [], List, ap, sym, subst}
use Rattle.nl_device.specs.Medium.{medium_of}
use Rattle.nl_device.specs.contracts.counts.DeviceCounts.TheImpl.{ghosts}
use Rattle.nl_field.specs.Medium.{shape_of_image}
use Rattle.nl_field.specs.Scan.{greatest_wear, least_wear, next_stamp_of}
use Rattle.nl_core_open.specs.Figures.{pairs_of}
use Rattle.nl_spec_headline.specs.Streams.{medium, stream}
use Rattle.nl_print.specs.Texts.{report_text}
use Rattle.nl_tree.specs.Charges.{data_charge, meta_charge, node_charge}
use Rattle.nl_volume.specs.Opened.{medium_in}
use Rattle.nl_cmd_view.specs.Looking.{LookEnds, ReportsImage}
use Rattle.nl_cmd_view.proofs.Seen.{no_more_left, status_since, untouched_by, was_not_seen, was_seen}
use Rattle.nl_cmd_view.proofs.Viewed.{runs_as}
use Rattle.nl_cmd_view.proofs.reports.report.Goals as goal

-- the volume was not opened
pub returns-in-Err-clause-ended : goal.returns-in-Err-clause-ended
returns-in-Err-clause-ended g c =
    let m = g.M.Nand in
    let k = g.K.Sink in
    let end = c.refused in
    let old = stream (k.taken c.args.sink.now) (k.faults c.args.sink.now) in
    let new = stream (k.taken end.new.sink) (k.faults end.new.sink) in
    was_not_seen m.tells m.geometry m.contents m.clock m.read_faults m.write_faults m.left c.args.media (medium_in c.in-Err.why) end.result.media c.in-Err.ensures.left end.ensures.media
    ReportsImage old new end.result.order.items end.result.syncs.items end.result.status end.ensures.order end.ensures.syncs (end.ensures.ended c.args.media c.in-Err.ensures.why)

pub returns-in-Err-clause-left : goal.returns-in-Err-clause-left
returns-in-Err-clause-left g c =
    let m = g.M.Nand in
    no_more_left m.tells m.geometry m.contents m.clock m.read_faults m.write_faults m.left c.args.media (medium_in c.in-Err.why) c.refused.result.media c.in-Err.ensures.left c.refused.ensures.media

pub print_report-answer-requires : goal.print_report-answer-requires
print_report-answer-requires g c =
    let e = c.in-Ok.ensures in
    let stands = e.stands e.opened.tree [] (λ l none. absurd none) (λ t. (e.opened.opens t).sound) in
    record { core = stands.0.serves.core; files = stands.1 }

-- the report was printed
pub returns-clause-ended : goal.returns-clause-ended
returns-clause-ended g c =
    let G = ghosts g.row.M g.M.Nand g.M.Nand-dict in
    let m = g.M.Nand in
    let k = g.K.Sink in
    let media = c.args.media in
    let image = m.contents media in
    let v = c.in-Ok.volume.core in
    let e = c.in-Ok.ensures in
    let opened = e.opened in
    let stands = (e.stands opened.tree [] (λ l none. absurd none) (λ t. (opened.opens t).sound)).0 in
    let print = c.print_report-answer in
    let reports = print.ensures.reports in
    let given = c.into_media-media.result in
    let same : given ≡ medium_of v.device = c.into_media-media.ensures in
    let before = c.faults_of-before in
    let end = c.carried_out in
    let old = stream (k.taken c.args.sink.now) (k.faults c.args.sink.now) in
    let new = stream (k.taken print.new.sink) (k.faults print.new.sink) in
    let start = medium (m.geometry media) (m.contents media) (m.clock media) (m.read_faults media) (m.write_faults media) in
    let middle = medium (m.geometry given) (m.contents given) (m.clock given) (m.read_faults given) (m.write_faults given) in
    let told_by = was_seen m.tells old new start middle end.result.order.items end.result.syncs.items end.result.status
    (record {
      untouched = untouched_by m.tells m.geometry m.contents m.clock m.read_faults m.write_faults m.left media (medium_of v.device) given c.in-Ok.ensures.only_read same;
      no_lines = end.ensures.order;
      no_syncs = end.ensures.syncs;
      later = print.ensures.never_falls;
    })
    ReportsImage print.result reports.text
    (λ told.
    let w = runs_as G v opened.tree c.in-Ok.volume.done stands told in
    let is = opened.opens told in
    let pairs = e.pairs told in
    let wear = e.wear told in
    let same_text : report_text (G.shape v.device) v.count (data_charge opened.tree) (node_charge opened.tree) (meta_charge opened.tree) (G.names v.device).space.pairs c.in-Ok.volume.least c.in-Ok.volume.greatest (G.next_stamp v.device)
    ≡ report_text (shape_of_image image) v.count (data_charge opened.tree) (node_charge opened.tree) (meta_charge opened.tree) (pairs_of image) (least_wear image) (greatest_wear image) (next_stamp_of image) =
    λ j. report_text (is.shape j) v.count (data_charge opened.tree) (node_charge opened.tree) (meta_charge opened.tree) (pairs j) (wear.0 j) (wear.1 j) (is.next_stamp j) in
    record {
      count = v.count;
      tree = opened.tree;
      sound = is.sound;
      text_is = subst (λ (text : List ℕ). reports.text ≡ text) same_text (reports.of_tree w.0 opened.tree w.1);
    })
    (ap m.read_faults same ∙ e.no_fault) reports.taken print.ensures.cause (status_since before.result.reads before.result.writes end.result.status print.result start middle before.ensures end.ensures.status) in
    subst (λ (x : g.row.M.Denot). LookEnds m.tells ReportsImage old new start (medium (m.geometry x) (m.contents x) (m.clock x) (m.read_faults x) (m.write_faults x)) end.result.order.items end.result.syncs.items end.result.status)
    (sym end.ensures.media) told_by

pub returns-clause-left : goal.returns-clause-left
returns-clause-left g c =
    let m = g.M.Nand in
    no_more_left m.tells m.geometry m.contents m.clock m.read_faults m.write_faults m.left c.args.media (medium_of c.in-Ok.volume.core.device) c.carried_out.result.media c.in-Ok.ensures.only_read
    (c.carried_out.ensures.media ∙ c.into_media-media.ensures)
