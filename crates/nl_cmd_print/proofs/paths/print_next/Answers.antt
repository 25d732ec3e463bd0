use Rattle.std.proofs.Common.{[], List, refl, subst, ℕ}
use Rattle.nl_field.specs.CrashStates.{Rose}
use Rattle.nl_io.specs.Streams.{WritesStream}
use Rattle.nl_print.specs.Texts.{dir_text, file_text}
use Rattle.nl_volume_list.specs.declared.item.TreeItem.TheVariants as item
use Rattle.nl_cmd_print.proofs.Ending.{cause_line, reads_line, shows_line}
use Rattle.nl_cmd_print.proofs.Lines.{took_nothing}
use Rattle.nl_cmd_print.proofs.paths.print_next.Goals as goal

pub returns-in-Dir-clause-shows : goal.returns-in-Dir-clause-shows
returns-in-Dir-clause-shows g c =
    let G = g.D.Counts in
    let walk = c.next_path.new.walk in
    let old = g.K.Sink.taken c.args.sink.now in
    let new = g.K.Sink.taken c.dir_line.new.sink in
    shows_line G c.args.core.now c.args.walk.now walk old new (walk.path, item.Dir c.in-Dir.entries) c.in-Dir.ensures.gives c.dir_line.result c.ended_by.result c.ended_by.ensures
    (subst (λ (p : List (List ℕ)). WritesStream old new c.dir_line.result (dir_text p c.in-Dir.entries)) c.path.ensures c.dir_line.ensures.text)

pub returns-in-Dir-clause-reads : goal.returns-in-Dir-clause-reads
returns-in-Dir-clause-reads g c =
    let G = g.D.Counts in
    reads_line G c.args.core.now.device c.next_path.new.core.device c.dir_line.result c.ended_by.result c.ended_by.ensures c.in-Dir.ensures.reads

pub returns-in-Dir-clause-cause : goal.returns-in-Dir-clause-cause
returns-in-Dir-clause-cause g c =
    cause_line c.dir_line.result c.ended_by.result (Rose (g.K.Sink.faults c.args.sink.now) (g.K.Sink.faults c.dir_line.new.sink)) c.ended_by.ensures c.dir_line.ensures.cause

pub returns-in-File-clause-shows : goal.returns-in-File-clause-shows
returns-in-File-clause-shows g c =
    let G = g.D.Counts in
    let walk = c.next_path.new.walk in
    let old = g.K.Sink.taken c.args.sink.now in
    let new = g.K.Sink.taken c.file_line.new.sink in
    shows_line G c.args.core.now c.args.walk.now walk old new (walk.path, item.File c.in-File.size c.in-File.pages) c.in-File.ensures.gives c.file_line.result c.ended_by-in-File.result
    c.ended_by-in-File.ensures (subst (λ (p : List (List ℕ)). WritesStream old new c.file_line.result (file_text p c.in-File.size c.in-File.pages)) c.path-in-File.ensures c.file_line.ensures.text)

pub returns-in-File-clause-reads : goal.returns-in-File-clause-reads
returns-in-File-clause-reads g c =
    let G = g.D.Counts in
    reads_line G c.args.core.now.device c.next_path.new.core.device c.file_line.result c.ended_by-in-File.result c.ended_by-in-File.ensures c.in-File.ensures.reads

pub returns-in-File-clause-cause : goal.returns-in-File-clause-cause
returns-in-File-clause-cause g c =
    cause_line c.file_line.result c.ended_by-in-File.result (Rose (g.K.Sink.faults c.args.sink.now) (g.K.Sink.faults c.file_line.new.sink)) c.ended_by-in-File.ensures c.file_line.ensures.cause

pub returns-in-End-clause-shows : goal.returns-in-End-clause-shows
returns-in-End-clause-shows g c = record {
  line = [];
  taken = took_nothing (g.K.Sink.taken c.args.sink.now);
  of_tree = λ page_of_stamp tree runs. (c.in-End.ensures.gives page_of_stamp tree runs, refl);
}

pub returns-in-Fault-clause-shows : goal.returns-in-Fault-clause-shows
returns-in-Fault-clause-shows g c = record {
  line = [];
  taken = took_nothing (g.K.Sink.taken c.args.sink.now);
  of_tree = λ page_of_stamp tree runs. refl;
}

pub returns-in-Lost-clause-shows : goal.returns-in-Lost-clause-shows
returns-in-Lost-clause-shows g c = record {
  line = [];
  taken = took_nothing (g.K.Sink.taken c.args.sink.now);
  of_tree = λ page_of_stamp tree runs. refl;
}
