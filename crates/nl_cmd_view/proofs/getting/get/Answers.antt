use Rattle.std.proofs.Common.{◌≡◌, ◌∙◌, ℕ, [], ap, refl, sym, subst, codes}
use Rattle.std.specs.Prelude.{◌⊎◌}
use Rattle.nl_cmd_words.specs.Ends.{no_memory}
use Rattle.nl_device.specs.Medium.{medium_of}
use Rattle.nl_device.specs.contracts.counts.DeviceCounts.TheImpl.{ghosts}
use Rattle.nl_field.specs.CrashStates.{Rose}
use Rattle.nl_spec_headline.specs.Streams.{medium, stream}
use Rattle.nl_volume.specs.Opened.{medium_in}
use Rattle.nl_cmd_view.proofs.Seen.{was_not_seen}
use Rattle.nl_cmd_view.proofs.Viewed.{runs_as}
use Rattle.nl_cmd_view.specs.Getting.{GetEnds, ShowsFile, not_cut}
use Rattle.nl_cmd_view.specs.Pieces.{EndsAs, IfRefused, ReadsCountedFor}
use Rattle.nl_cmd_view.specs.declared.printing.Got.{Got}
use Rattle.nl_cmd_view.specs.declared.printing.Got.TheVariants as got
use Rattle.nl_cmd_view.proofs.Ended.{was_got}
use Rattle.nl_cmd_view.proofs.getting.get.Goals as goal

-- the volume was not opened
pub returns-in-Err-clause-ended : goal.returns-in-Err-clause-ended
returns-in-Err-clause-ended g c =
    let m = g.M.Nand in
    let k = g.K.Sink in
    let end = c.refused in
    let old = stream (k.taken c.args.sink.now) (k.faults c.args.sink.now) in
    let new = stream (k.taken end.new.sink) (k.faults end.new.sink) in
    not_cut end.ensures.refused
    (was_not_seen m.tells m.geometry m.contents m.clock m.read_faults m.write_faults m.left c.args.media (medium_in c.in-Err.why) end.result.media c.in-Err.ensures.left end.ensures.media
    (ShowsFile c.args.path) old new end.result.order.items end.result.syncs.items end.result.status end.ensures.order end.ensures.syncs (end.ensures.ended c.args.media c.in-Err.ensures.why))

-- no memory for a piece
pub returns-in_default-clause-ended : goal.returns-in_default-clause-ended
returns-in_default-clause-ended g c =
    let m = g.M.Nand in
    let k = g.K.Sink in
    let end = c.ended in
    let old = stream (k.taken c.args.sink.now) (k.faults c.args.sink.now) in
    let new = stream (k.taken end.new.sink) (k.faults end.new.sink) in
    not_cut end.ensures.refused
    (was_not_seen m.tells m.geometry m.contents m.clock m.read_faults m.write_faults m.left c.args.media (medium_of c.in-Ok.volume.core.device) end.result.media c.in-Ok.ensures.only_read (end.ensures.media ∙ c.into_media.ensures)
    (ShowsFile c.args.path) old new end.result.order.items end.result.syncs.items end.result.status end.ensures.order end.ensures.syncs (codes "memory\n", no_memory end.ensures.status refl, end.ensures.prints))

pub print_file-got-requires-clause-core : goal.print_file-got-requires-clause-core
print_file-got-requires-clause-core g c =
    let e = c.in-Ok.ensures in
    (e.stands e.opened.tree [] (λ l none. absurd none) (λ t. (e.opened.opens t).sound)).0.serves.core

-- the sink is seen as it was
as_it_was : (answer : Got) (P Q : Type 0) → (P → Q) → IfRefused answer P → IfRefused answer Q
as_it_was got.All P Q by r = tt
as_it_was got.NotTaken P Q by r = tt
as_it_was (got.Refused refusal) P Q by r = by r
as_it_was got.Fault P Q by r = tt
as_it_was got.Lost P Q by r = tt

-- the file was printed
pub returns-clause-ended : goal.returns-clause-ended
returns-clause-ended g c =
    let G = ghosts g.row.M g.M.Nand g.M.Nand-dict in
    let m = g.M.Nand in
    let k = g.K.Sink in
    let media = c.args.media in
    let v = c.in-Ok.volume.core in
    let opened = c.in-Ok.ensures.opened in
    let stands = (c.in-Ok.ensures.stands opened.tree [] (λ l none. absurd none) (λ t. (opened.opens t).sound)).0 in
    let only = c.in-Ok.ensures.only_read in
    let print = c.print_file-got in
    let reads = print.ensures.same.runs.reads.medium in
    let given = c.into_media-media.result in
    let same : given ≡ medium_of print.new.core.device = c.into_media-media.ensures in
    let before = c.faults_of-before in
    let end = c.ending_of in
    let old = stream (k.taken c.args.sink.now) (k.faults c.args.sink.now) in
    let new = stream (k.taken print.new.sink) (k.faults print.new.sink) in
    let start = medium (m.geometry media) (m.contents media) (m.clock media) (m.read_faults media) (m.write_faults media) in
    let middle = medium (m.geometry given) (m.contents given) (m.clock given) (m.read_faults given) (m.write_faults given) in
    let told = was_got m.tells c.args.path old new start middle end.result.order.items end.result.syncs.items end.result.refused end.result.status
    (record {
      untouched = record {
        same_contents = λ t. ap m.contents same ∙ reads.contents t ∙ only.same_contents t;
        same_clock = ap m.clock same ∙ reads.clock ∙ only.same_clock;
        same_write_faults = ap m.write_faults same ∙ reads.write_faults ∙ only.same_write_faults;
      };
      no_lines = end.ensures.order;
      no_syncs = end.ensures.syncs;
      later = print.ensures.never_falls;
    })
    print.ensures.prints.text v.count opened.tree (λ t. (opened.opens t).sound) print.result
    (λ t. let w = runs_as G v opened.tree c.in-Ok.volume.done stands t in print.ensures.prints.of_tree t w.0 opened.tree w.1)
    print.ensures.prints.taken print.ensures.cause
    (subst (λ (n : ℕ × ℕ). ReadsCountedFor print.result n.0 n.1) (λ j. (c.in-Ok.ensures.no_fault j, m.read_faults (sym same j))) print.ensures.reads)
    (as_it_was print.result _ (new ≡ old) (λ is j. stream (k.taken (is j)) (k.faults (is j))) print.ensures.refused)
    (subst (λ (n : ℕ × ℕ). EndsAs print.result (Rose n.0 middle.counts.read_faults ⊎ Rose n.1 middle.counts.write_faults) end.result.refused end.result.status) (λ j. (before.ensures.0 j, before.ensures.1 j)) end.ensures.ends) in
    subst (λ (x : g.row.M.Denot). GetEnds m.tells c.args.path old new start (medium (m.geometry x) (m.contents x) (m.clock x) (m.read_faults x) (m.write_faults x)) end.result.order.items end.result.syncs.items end.result.refused end.result.status)
    (sym end.ensures.media) told

pub returns-clause-left : goal.returns-clause-left
returns-clause-left g c told moment image was =
    c.in-Ok.ensures.only_read.no_more_left told moment image
    (c.print_file-got.ensures.same.runs.reads.medium.left told moment image (subst (λ (x : g.row.M.Denot). g.M.Nand.left x moment image) (c.ending_of.ensures.media ∙ c.into_media-media.ensures) was))
