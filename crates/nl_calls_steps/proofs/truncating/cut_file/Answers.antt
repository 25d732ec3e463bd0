use Rattle.std.proofs.Common.{◌≤◌, ◌+◌, ◌/◌, ◌∙◌, List, [], ◌++◌, ℕ, refl, sym, ap, subst, length, is_some, arith}
use Rattle.std.proofs.lemmas.List.{length-append}
use Rattle.std.specs.Prelude.{if◌then◌else◌}
use Rattle.nl_field.specs.declared.pointer.Pointer.{Pointer}
use Rattle.nl_meta.specs.Nodes.{pointer_at}
use Rattle.nl_meta_running.specs.Running.{running_on, stored_on}
use Rattle.nl_files.specs.Spans.{as_list, pointers_from}
use Rattle.nl_core.specs.Core.{running_of}
use Rattle.nl_calls_files.specs.Taking.{HasRoomToTake}
use Rattle.nl_calls_files.proofs.Fits.{files_of_pool, is_file_at, stands}
use Rattle.nl_calls_steps.proofs.FileCut.{cut_core, file_fewer, file_is_cut, file_read, partial_fits, partial_is, partial_one, range_read, read_core, refused_core, refused_step, runs, there_read}
use Rattle.nl_calls_steps.proofs.FileInstalled.{few_await, flight_has_room}
use Rattle.nl_calls_steps.proofs.truncating.cut_file.Goals as goal

pub gather-requires-clause-stands : goal.gather-requires-clause-stands
gather-requires-clause-stands g c =
    let G = g.D.Counts in
    let v = c.args.core.now in
    stands G v.device v.meta c.args.ino c.args.rec.now c.requires.core.journaled.runs c.requires.hand.file

pub gather-requires-clause-room : goal.gather-requires-clause-room
gather-requires-clause-room g c =
    let G = g.D.Counts in
    let v = c.args.core.now in
    let file = is_file_at (G.shape v.device) (running_of G v) c.args.ino c.args.rec.now c.requires.core.journaled.runs.addresses c.requires.hand.file.is_node c.requires.hand.file.is_file in
    let fewer = file_fewer (G.shape v.device) (running_of G v) c.args.ino c.args.rec.now file c.div_ceil.result in
    let room = flight_has_room G v c.requires.core c.device_stands.ensures.volume c.device_stands.ensures.names in
    omega (arith, fewer, room)

pub gather-requires-clause-few : goal.gather-requires-clause-few
gather-requires-clause-few g c =
    let G = g.D.Counts in
    let v = c.args.core.now in
    let file = is_file_at (G.shape v.device) (running_of G v) c.args.ino c.args.rec.now c.requires.core.journaled.runs.addresses c.requires.hand.file.is_node c.requires.hand.file.is_file in
    let fewer = file_fewer (G.shape v.device) (running_of G v) c.args.ino c.args.rec.now file c.div_ceil.result in
    let few = few_await G v c.requires.core c.device_stands.ensures.volume c.device_stands.ensures.names in
    omega (arith, fewer, few)

pub cut_back-requires : goal.cut_back-requires
cut_back-requires g c =
    let G = g.D.Counts in
    let v = c.args.core.now in
    let n = c.gather.new in
    let e = c.in-Done.ensures in
    let was = c.args.rec.now in
    let ino = c.args.ino in
    let size = c.args.size in
    let volume = c.device_stands.ensures.volume in
    let volume_d = c.device_stands-2.ensures.volume in
    let stores = c.device_stands-2.ensures.pages in
    let core = read_core G v n.device n.meta ino size was c.requires.core c.requires.hand volume volume_d c.gather.ensures.formed stores e.kept e.pages e.only e.faults.never_falls in
    let file = file_read G v n.device n.meta ino size was c.requires.core c.requires.hand volume volume_d c.gather.ensures.formed stores e.kept e.pages e.only e.faults.never_falls in
    let of = partial_is G v c.args.worker ino size was c.first_pointer-partial.result c.requires.partial c.first_pointer-partial.ensures in
    let at = is_file_at (G.shape v.device) (running_of G v) ino was c.requires.core.journaled.runs.addresses c.requires.hand.file.is_node c.requires.hand.file.is_file in
    let fewer = file_fewer (G.shape v.device) (running_of G v) ino was at c.div_ceil.result in
    let items = ap length (e.done refl) ∙ length-append v.freeing.items _ in
    record {
      size = c.requires.size;
      file = (stands G v.device v.meta ino was c.requires.core.journaled.runs c.requires.hand.file).file;
      there = there_read G v n.device n.meta ino size was c.requires.core c.requires.hand volume volume_d c.gather.ensures.formed stores e.kept e.pages e.only e.faults.never_falls;
      range = range_read G v n.device n.meta ino size was c.requires.core c.requires.hand volume volume_d c.gather.ensures.formed stores e.kept e.pages e.only e.faults.never_falls;
      room = subst (λ (xs : List ℕ). HasRoomToTake (record n.meta { dirty = xs }) was ino (size / 4096)) (sym e.pages.dirty) c.requires.room;
      pool = files_of_pool G n.device n.meta v.nodes ino was volume_d core.journaled.runs file core.free.pool core.free.count_pool;
      partial = partial_fits G v c.args.worker ino size was c.requires.core.flight c.requires.known c.first_pointer-partial.result of;
      place = λ some.
          let one = partial_one G v c.args.worker ino size was c.requires.core.flight c.requires.known c.first_pointer-partial.result of some in
          let room = flight_has_room G v c.requires.core volume c.device_stands.ensures.names in
          let more = e.room in
          omega (arith, fewer, items, one, room, more);
      few = λ some.
          let one = partial_one G v c.args.worker ino size was c.requires.core.flight c.requires.known c.first_pointer-partial.result of some in
          let few = few_await G v c.requires.core volume c.device_stands.ensures.names in
          omega (arith, fewer, items, one, few);
    }

pub end_line-requires-clause-core : goal.end_line-requires-clause-core
end_line-requires-clause-core g c =
    let G = g.D.Counts in
    let v = c.args.core.now in
    let n = c.gather.new in
    let m = c.cut_back.new in
    let e = c.in-Done.ensures in
    let h = c.cut_back.ensures in
    let was = c.args.rec.now in
    let partial = c.first_pointer-partial.result in
    let of = partial_is G v c.args.worker c.args.ino c.args.size was partial c.requires.partial c.first_pointer-partial.ensures in
    let freed = h.freeing (stored_on G n.device) ∙ ap (λ (l : List Pointer). l ++ (if is_some partial then as_list (pointer_at (running_on G n.device n.meta) was (c.args.size / 4096)) else [])) (e.done refl ∙ ap (λ (from : ℕ). v.freeing.items ++ pointers_from (running_of G v) was from) c.div_ceil.ensures) in
    let left : length v.freeing.items + v.freeing.room ≤ length m.freeing.items + m.freeing.room = let a = e.room in let b = h.left in omega (arith, a, b) in
    cut_core G v n.device n.meta c.args.ino c.args.size was c.requires.core c.requires.hand c.device_stands.ensures.volume c.device_stands-2.ensures.volume c.gather.ensures.formed c.device_stands-2.ensures.pages e.kept e.pages e.only e.faults.never_falls
    c.args.worker c.requires.known partial of m.rec m.meta m.nodes m.freeing h.cut freed left

pub returns-in_default-clause-core : goal.returns-in_default-clause-core
returns-in_default-clause-core g c =
    let G = g.D.Counts in
    let v = c.args.core.now in
    let n = c.gather.new in
    let e = c.gather.ensures in
    refused_core G v n.device n.meta c.args.ino c.args.size c.args.rec.now c.requires.core c.requires.hand c.device_stands.ensures.volume c.device_stands-in_default.ensures.volume c.gather.ensures.formed c.device_stands-in_default.ensures.pages e.kept e.pages e.only
    e.faults.never_falls n.freeing (e.refused (λ done. c.in_default.not-Done done)) e.room

pub returns-in_default-clause-refused : goal.returns-in_default-clause-refused
returns-in_default-clause-refused g c = λ fails.
    let G = g.D.Counts in
    let v = c.args.core.now in
    let n = c.gather.new in
    let e = c.gather.ensures in
    let volume = c.device_stands.ensures.volume in
    let volume_d = c.device_stands-in_default.ensures.volume in
    let stores = c.device_stands-in_default.ensures.pages in
    record {
      same = refl;
      others = refl;
      awaits = e.refused (λ done. c.in_default.not-Done done);
      reads = runs G v n.device n.meta c.args.ino c.args.size c.args.rec.now c.requires.core c.requires.hand volume volume_d c.gather.ensures.formed stores e.kept e.pages e.only e.faults.never_falls;
      steps = refused_step G v n.device n.meta c.args.ino c.args.size c.args.rec.now c.requires.core c.requires.hand volume volume_d c.gather.ensures.formed stores e.kept e.pages e.only e.faults.never_falls n.freeing e.room;
    }

pub returns-clause-cut : goal.returns-clause-cut
returns-clause-cut g c = λ done.
    let G = g.D.Counts in
    let v = c.args.core.now in
    let n = c.gather.new in
    let m = c.cut_back.new in
    let e = c.in-Done.ensures in
    let h = c.cut_back.ensures in
    let was = c.args.rec.now in
    let partial = c.first_pointer-partial.result in
    let of = partial_is G v c.args.worker c.args.ino c.args.size was partial c.requires.partial c.first_pointer-partial.ensures in
    let freed = h.freeing (stored_on G n.device) ∙ ap (λ (l : List Pointer). l ++ (if is_some partial then as_list (pointer_at (running_on G n.device n.meta) was (c.args.size / 4096)) else [])) (e.done refl ∙ ap (λ (from : ℕ). v.freeing.items ++ pointers_from (running_of G v) was from) c.div_ceil.ensures) in
    let left : length v.freeing.items + v.freeing.room ≤ length m.freeing.items + m.freeing.room = let a = e.room in let b = h.left in omega (arith, a, b) in
    file_is_cut G v n.device n.meta c.args.ino c.args.size was c.requires.core c.requires.hand c.device_stands.ensures.volume c.device_stands-2.ensures.volume c.gather.ensures.formed c.device_stands-2.ensures.pages e.kept e.pages e.only e.faults.never_falls
    c.args.worker c.requires.known partial of m.rec m.meta m.nodes m.freeing h.cut freed left c.end_line.new.core c.end_line.ensures.ended
