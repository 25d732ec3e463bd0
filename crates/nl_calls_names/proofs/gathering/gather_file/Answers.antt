use Rattle.std.proofs.Common.{refl, sym, ◌∙◌}
use Rattle.std.proofs.lemmas.List.{append-nil}
use Rattle.std.specs.Prelude.{slice_index, []}
use Rattle.nl_files.specs.Spans.{pointers_from}
use Rattle.nl_meta.specs.Nodes.{slots_of}
use Rattle.nl_core.specs.Core.{running_of}
use Rattle.nl_calls_files.proofs.Fits.{stands}
use Rattle.nl_calls_names.proofs.Gathered.{fault_counted, file_gathers, has_numbers, has_room}
use Rattle.nl_calls_names.proofs.gathering.gather_file.Goals as goal

pub gather-requires-clause-stands : goal.gather-requires-clause-stands
gather-requires-clause-stands g c =
    let G = g.D.Counts in
    let v = c.args.core.now in
    stands G v.device v.meta c.requires.file.0 c.args.rec.now c.requires.core.journaled.runs c.requires.file.1

pub gather-requires-clause-room : goal.gather-requires-clause-room
gather-requires-clause-room g c =
    let G = g.D.Counts in
    has_room G c.args.core.now c.requires.file.0 c.args.rec.now c.requires.core c.requires.file.1 c.device_stands.ensures.volume c.device_stands.ensures.names

pub gather-requires-clause-few : goal.gather-requires-clause-few
gather-requires-clause-few g c =
    let G = g.D.Counts in
    has_numbers G c.args.core.now c.requires.file.0 c.args.rec.now c.requires.core c.requires.file.1 c.device_stands.ensures.volume c.device_stands.ensures.names

pub returns-in-Done-clause-done : goal.returns-in-Done-clause-done
returns-in-Done-clause-done g c =
    let G = g.D.Counts in
    let v = c.args.core.now in
    let e = c.in-Done.ensures in
    file_gathers G v c.requires.file.0 c.args.rec.now c.requires.core c.requires.file.1 c.gather.new.device c.gather.new.meta c.gather.new.freeing (pointers_from (running_of G v) c.args.rec.now 0) e.kept e.pages e.only e.faults.never_falls
    (e.done refl) e.room

pub returns-in-Fault-clause-stopped : goal.returns-in-Fault-clause-stopped
returns-in-Fault-clause-stopped g c =
    let G = g.D.Counts in
    let v = c.args.core.now in
    let e = c.in-Fault.ensures in
    file_gathers G v c.requires.file.0 c.args.rec.now c.requires.core c.requires.file.1 c.gather.new.device c.gather.new.meta c.gather.new.freeing [] e.kept e.pages e.only e.faults.never_falls
    (e.refused (λ z. cc) ∙ sym (append-nil v.freeing.items)) e.room

pub returns-in-Fault-clause-reads : goal.returns-in-Fault-clause-reads
returns-in-Fault-clause-reads g c = fault_counted _ _ _ refl c.in-Fault.ensures.faults

pub returns-in-Lost-clause-stopped : goal.returns-in-Lost-clause-stopped
returns-in-Lost-clause-stopped g c =
    let G = g.D.Counts in
    let v = c.args.core.now in
    let e = c.in-Lost.ensures in
    file_gathers G v c.requires.file.0 c.args.rec.now c.requires.core c.requires.file.1 c.gather.new.device c.gather.new.meta c.gather.new.freeing [] e.kept e.pages e.only e.faults.never_falls
    (e.refused (λ z. cc) ∙ sym (append-nil v.freeing.items)) e.room

pub returns-in-Lost-clause-reads : goal.returns-in-Lost-clause-reads
returns-in-Lost-clause-reads g c =
    let e = c.in-Lost.ensures in
    (e.faults.stays tt (λ z. cc), (slice_index (slots_of c.args.rec.now) e.lost.0.at, e.lost.0.stamp), e.lost.1, λ told. e.told told tt)
