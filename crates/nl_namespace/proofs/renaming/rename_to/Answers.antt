use Rattle.std.proofs.Common.{ℕ, ◌-◌, List, refl, sym, ap, subst, ◌∙◌, Some, inl, inr}
use Rattle.std.specs.Prelude.{slice_get}
use Rattle.nl_meta.specs.Nodes.{graph_of}
use Rattle.nl_inode.specs.Nodes.{Spaces}
use Rattle.nl_meta_running.specs.Running.{running_on}
use Rattle.nl_namespace.specs.Entering.{HasNamed, TakesOut}
use Rattle.nl_namespace.specs.Finding.{FitsAfter, FoundIsResident, IsFoundName, MovesIn, place_of}
use Rattle.nl_namespace.proofs.MakeDone.{last-is-name, not-empty-root}
use Rattle.nl_namespace.proofs.MakeReady.{size-fits}
use Rattle.nl_namespace.proofs.MoveDone.{apart-of, free-changes, free-fits, free-moved, free-named, over-changes, over-fits, over-moved, over-named, over-origin}
use Rattle.nl_namespace.proofs.MoveRefusals.{free-unrefused, has-place-to, lacks-place, moves-other, over-place-to, over-refused, walk-refused}
use Rattle.nl_namespace.proofs.renaming.rename_to.Goals as goal

pub find_node-requires-clause-formed : goal.find_node-requires-clause-formed
find_node-requires-clause-formed g c = c.requires.formed

pub find_node-requires-clause-runs : goal.find_node-requires-clause-runs
find_node-requires-clause-runs g c = c.requires.runs

pub find_node-requires-clause-not_root : goal.find_node-requires-clause-not_root
find_node-requires-clause-not_root g c = c.requires.paths.not_root

pub take_out-requires : goal.take_out-requires
take_out-requires g c = subst (λ (x : List ℕ). HasNamed c.in-Ok-At.over.dir x c.find_node.new.meta c.args.nodes.now) (sym c.bytes.ensures.value) (over-named g.D.Counts c.args.device.now c.args.meta.now c.find_node.new.device c.find_node.new.meta (g.met.D.VirtualPages.numbers c.args.device.now c.requires.formed) (g.met.D.VirtualPages.numbers c.find_node.new.device c.in-Ok-At.ensures.formed) c.requires.runs c.in-Ok-At.ensures.kept c.args.nodes.now c.requires.free c.requires.room c.args.from.now c.args.to.now c.args.old.now c.requires.there c.requires.held c.in-Ok-At.over (subst (IsFoundName g.D.Counts c.args.device.now c.args.meta.now c.args.to.now) c.in-Ok-At.field-0-is c.in-Ok-At.ensures.found) (subst (FoundIsResident g.D.Counts c.args.device.now c.args.meta.now c.find_node.new.meta) c.in-Ok-At.field-0-is c.in-Ok-At.ensures.held) (apart-of g.D.Counts c.args.device.now c.args.meta.now (g.met.D.VirtualPages.numbers c.args.device.now c.requires.formed) c.requires.runs c.args.from.now c.args.to.now c.args.old.now c.requires.there c.requires.other c.requires.not_under (place_of c.in-Ok-At.over) (subst (IsFoundName g.D.Counts c.args.device.now c.args.meta.now c.args.to.now) c.in-Ok-At.field-0-is c.in-Ok-At.ensures.found).place))

pub move_entry-requires-clause-named : goal.move_entry-requires-clause-named
move_entry-requires-clause-named g c = over-origin g.D.Counts c.args.device.now c.args.meta.now c.find_node.new.device c.find_node.new.meta (g.met.D.VirtualPages.numbers c.args.device.now c.requires.formed) (g.met.D.VirtualPages.numbers c.find_node.new.device c.in-Ok-At.ensures.formed) c.requires.runs c.in-Ok-At.ensures.kept c.args.nodes.now c.requires.free c.requires.room c.args.from.now c.args.to.now c.args.old.now c.requires.there c.requires.held c.in-Ok-At.over (subst (IsFoundName g.D.Counts c.args.device.now c.args.meta.now c.args.to.now) c.in-Ok-At.field-0-is c.in-Ok-At.ensures.found) (subst (FoundIsResident g.D.Counts c.args.device.now c.args.meta.now c.find_node.new.meta) c.in-Ok-At.field-0-is c.in-Ok-At.ensures.held) (apart-of g.D.Counts c.args.device.now c.args.meta.now (g.met.D.VirtualPages.numbers c.args.device.now c.requires.formed) c.requires.runs c.args.from.now c.args.to.now c.args.old.now c.requires.there c.requires.other c.requires.not_under (place_of c.in-Ok-At.over) (subst (IsFoundName g.D.Counts c.args.device.now c.args.meta.now c.args.to.now) c.in-Ok-At.field-0-is c.in-Ok-At.ensures.found).place) c.take_out.new.meta c.take_out.new.nodes (subst (λ (x : List ℕ). TakesOut c.in-Ok-At.over.dir x c.find_node.new.meta c.take_out.new.meta c.args.nodes.now c.take_out.new.nodes) c.bytes.ensures.value c.take_out.ensures)

pub move_entry-requires-clause-fits : goal.move_entry-requires-clause-fits
move_entry-requires-clause-fits g c = over-fits g.D.Counts c.args.device.now c.args.meta.now c.find_node.new.device c.find_node.new.meta (g.met.D.VirtualPages.numbers c.args.device.now c.requires.formed) (g.met.D.VirtualPages.numbers c.find_node.new.device c.in-Ok-At.ensures.formed) c.requires.runs c.in-Ok-At.ensures.kept c.args.nodes.now c.requires.free c.requires.room c.args.from.now c.args.to.now c.args.old.now c.requires.there c.requires.held c.in-Ok-At.over (subst (IsFoundName g.D.Counts c.args.device.now c.args.meta.now c.args.to.now) c.in-Ok-At.field-0-is c.in-Ok-At.ensures.found) (subst (FoundIsResident g.D.Counts c.args.device.now c.args.meta.now c.find_node.new.meta) c.in-Ok-At.field-0-is c.in-Ok-At.ensures.held) (apart-of g.D.Counts c.args.device.now c.args.meta.now (g.met.D.VirtualPages.numbers c.args.device.now c.requires.formed) c.requires.runs c.args.from.now c.args.to.now c.args.old.now c.requires.there c.requires.other c.requires.not_under (place_of c.in-Ok-At.over) (subst (IsFoundName g.D.Counts c.args.device.now c.args.meta.now c.args.to.now) c.in-Ok-At.field-0-is c.in-Ok-At.ensures.found).place) c.take_out.new.meta c.take_out.new.nodes (subst (λ (x : List ℕ). TakesOut c.in-Ok-At.over.dir x c.find_node.new.meta c.take_out.new.meta c.args.nodes.now c.take_out.new.nodes) c.bytes.ensures.value c.take_out.ensures)

pub lacks_room-requires : goal.lacks_room-requires
lacks_room-requires g c = size-fits g.D.Counts c.args.device.now c.args.meta.now (g.met.D.VirtualPages.numbers c.args.device.now c.requires.formed) c.requires.runs c.args.to.now c.in-Ok-Free.place (subst (IsFoundName g.D.Counts c.args.device.now c.args.meta.now c.args.to.now) c.in-Ok-Free.field-0-is c.in-Ok-Free.ensures.found).0

pub name_of-requires : goal.name_of-requires
name_of-requires g c = last-is-name c.args.to.now (c.len.result - 1) c.bytes-in-None-lacks_room.result.now c.requires.names c.requires.paths.short_to (c.get-last.ensures ∙ ap (λ (x : List ℕ). Some x) (sym c.bytes-in-None-lacks_room.ensures))

pub move_entry-requires-in-None-lacks_room-clause-named : goal.move_entry-requires-in-None-lacks_room-clause-named
move_entry-requires-in-None-lacks_room-clause-named g c = subst (λ (z : Spaces). HasNamed c.args.old.now.dir c.args.old.now.entry.name c.find_node.new.meta z) (sym c.in-None-lacks_room.ensures.same) (free-named g.D.Counts c.args.device.now c.args.meta.now c.find_node.new.device c.find_node.new.meta (g.met.D.VirtualPages.numbers c.args.device.now c.requires.formed) (g.met.D.VirtualPages.numbers c.find_node.new.device c.in-Ok-Free.ensures.formed) c.requires.runs c.in-Ok-Free.ensures.kept c.args.nodes.now c.requires.free c.requires.room c.args.from.now c.args.to.now c.args.old.now c.requires.there c.requires.held c.in-Ok-Free.place (subst (IsFoundName g.D.Counts c.args.device.now c.args.meta.now c.args.to.now) c.in-Ok-Free.field-0-is c.in-Ok-Free.ensures.found).0 (subst (FoundIsResident g.D.Counts c.args.device.now c.args.meta.now c.find_node.new.meta) c.in-Ok-Free.field-0-is c.in-Ok-Free.ensures.held) (apart-of g.D.Counts c.args.device.now c.args.meta.now (g.met.D.VirtualPages.numbers c.args.device.now c.requires.formed) c.requires.runs c.args.from.now c.args.to.now c.args.old.now c.requires.there c.requires.other c.requires.not_under c.in-Ok-Free.place (subst (IsFoundName g.D.Counts c.args.device.now c.args.meta.now c.args.to.now) c.in-Ok-Free.field-0-is c.in-Ok-Free.ensures.found).0) (subst (IsFoundName g.D.Counts c.args.device.now c.args.meta.now c.args.to.now) c.in-Ok-Free.field-0-is c.in-Ok-Free.ensures.found).1 c.in-None-lacks_room.ensures.room c.name_of.result (ap (λ (k : ℕ). slice_get c.args.to.now (k - 1)) (sym c.len.ensures.count) ∙ c.get-last.ensures ∙ ap (λ (x : List ℕ). Some x) (sym c.bytes-in-None-lacks_room.ensures) ∙ ap (λ (x : List ℕ). Some x) (sym c.name_of.ensures)))

pub move_entry-requires-in-None-lacks_room-clause-fits : goal.move_entry-requires-in-None-lacks_room-clause-fits
move_entry-requires-in-None-lacks_room-clause-fits g c = subst (FitsAfter c.args.old.now.dir c.args.old.now.entry c.in-Ok-Free.place.dir c.name_of.result c.find_node.new.meta) (sym c.in-None-lacks_room.ensures.same) (free-fits g.D.Counts c.args.device.now c.args.meta.now c.find_node.new.device c.find_node.new.meta (g.met.D.VirtualPages.numbers c.args.device.now c.requires.formed) (g.met.D.VirtualPages.numbers c.find_node.new.device c.in-Ok-Free.ensures.formed) c.requires.runs c.in-Ok-Free.ensures.kept c.args.nodes.now c.requires.free c.requires.room c.args.from.now c.args.to.now c.args.old.now c.requires.there c.requires.held c.in-Ok-Free.place (subst (IsFoundName g.D.Counts c.args.device.now c.args.meta.now c.args.to.now) c.in-Ok-Free.field-0-is c.in-Ok-Free.ensures.found).0 (subst (FoundIsResident g.D.Counts c.args.device.now c.args.meta.now c.find_node.new.meta) c.in-Ok-Free.field-0-is c.in-Ok-Free.ensures.held) (apart-of g.D.Counts c.args.device.now c.args.meta.now (g.met.D.VirtualPages.numbers c.args.device.now c.requires.formed) c.requires.runs c.args.from.now c.args.to.now c.args.old.now c.requires.there c.requires.other c.requires.not_under c.in-Ok-Free.place (subst (IsFoundName g.D.Counts c.args.device.now c.args.meta.now c.args.to.now) c.in-Ok-Free.field-0-is c.in-Ok-Free.ensures.found).0) (subst (IsFoundName g.D.Counts c.args.device.now c.args.meta.now c.args.to.now) c.in-Ok-Free.field-0-is c.in-Ok-Free.ensures.found).1 c.in-None-lacks_room.ensures.room c.name_of.result (ap (λ (k : ℕ). slice_get c.args.to.now (k - 1)) (sym c.len.ensures.count) ∙ c.get-last.ensures ∙ ap (λ (x : List ℕ). Some x) (sym c.bytes-in-None-lacks_room.ensures) ∙ ap (λ (x : List ℕ). Some x) (sym c.name_of.ensures)))

pub returns-in-Some-clause-formed : goal.returns-in-Some-clause-formed
returns-in-Some-clause-formed g c = c.in-Ok-At.ensures.formed

pub returns-in-Some-clause-answer : goal.returns-in-Some-clause-answer
returns-in-Some-clause-answer g c = inl (over-refused g.D.Counts c.args.device.now c.args.meta.now (g.met.D.VirtualPages.numbers c.args.device.now c.requires.formed) c.requires.runs c.args.from.now c.args.to.now c.args.old.now c.requires.there c.requires.paths.short c.requires.paths.short_to (not-empty-root c.args.to.now c.requires.paths.not_root) c.requires.other c.requires.not_under c.in-Ok-At.over (subst (IsFoundName g.D.Counts c.args.device.now c.args.meta.now c.args.to.now) c.in-Ok-At.field-0-is c.in-Ok-At.ensures.found) ∙ sym c.refused_over.ensures ∙ c.in-Some.is)

pub returns-in-Some-clause-left : goal.returns-in-Some-clause-left
returns-in-Some-clause-left g c = (c.in-Ok-At.ensures.kept, refl)

pub returns-in-Some-clause-reads : goal.returns-in-Some-clause-reads
returns-in-Some-clause-reads g c = c.in-Ok-At.ensures.reads

pub returns-in-None-clause-formed : goal.returns-in-None-clause-formed
returns-in-None-clause-formed g c = c.in-Ok-At.ensures.formed

pub returns-in-None-clause-answer : goal.returns-in-None-clause-answer
returns-in-None-clause-answer g c = (over-refused g.D.Counts c.args.device.now c.args.meta.now (g.met.D.VirtualPages.numbers c.args.device.now c.requires.formed) c.requires.runs c.args.from.now c.args.to.now c.args.old.now c.requires.there c.requires.paths.short c.requires.paths.short_to (not-empty-root c.args.to.now c.requires.paths.not_root) c.requires.other c.requires.not_under c.in-Ok-At.over (subst (IsFoundName g.D.Counts c.args.device.now c.args.meta.now c.args.to.now) c.in-Ok-At.field-0-is c.in-Ok-At.ensures.found) ∙ (sym c.refused_over.ensures ∙ c.in-None.is), moves-other (graph_of (g.D.Counts.shape c.args.device.now) (running_on g.D.Counts c.args.device.now c.args.meta.now)) (graph_of (g.D.Counts.shape c.find_node.new.device) (running_on g.D.Counts c.find_node.new.device c.move_entry.new.meta)) c.args.from.now c.args.to.now _ c.requires.other (over-moved g.D.Counts c.args.device.now c.args.meta.now c.find_node.new.device c.find_node.new.meta (g.met.D.VirtualPages.numbers c.args.device.now c.requires.formed) (g.met.D.VirtualPages.numbers c.find_node.new.device c.in-Ok-At.ensures.formed) c.requires.runs c.in-Ok-At.ensures.kept c.args.nodes.now c.requires.free c.requires.room c.args.from.now c.args.to.now c.args.old.now c.requires.there c.requires.held c.in-Ok-At.over (subst (IsFoundName g.D.Counts c.args.device.now c.args.meta.now c.args.to.now) c.in-Ok-At.field-0-is c.in-Ok-At.ensures.found) (subst (FoundIsResident g.D.Counts c.args.device.now c.args.meta.now c.find_node.new.meta) c.in-Ok-At.field-0-is c.in-Ok-At.ensures.held) (apart-of g.D.Counts c.args.device.now c.args.meta.now (g.met.D.VirtualPages.numbers c.args.device.now c.requires.formed) c.requires.runs c.args.from.now c.args.to.now c.args.old.now c.requires.there c.requires.other c.requires.not_under (place_of c.in-Ok-At.over) (subst (IsFoundName g.D.Counts c.args.device.now c.args.meta.now c.args.to.now) c.in-Ok-At.field-0-is c.in-Ok-At.ensures.found).place) c.take_out.new.meta c.take_out.new.nodes (subst (λ (x : List ℕ). TakesOut c.in-Ok-At.over.dir x c.find_node.new.meta c.take_out.new.meta c.args.nodes.now c.take_out.new.nodes) c.bytes.ensures.value c.take_out.ensures) (sym c.refused_over.ensures ∙ c.in-None.is) c.move_entry.new.meta c.move_entry.new.nodes c.move_entry.ensures), λ far. over-place-to g.D.Counts c.args.device.now c.args.meta.now (g.met.D.VirtualPages.numbers c.args.device.now c.requires.formed) c.requires.runs c.args.from.now c.args.to.now c.args.old.now c.requires.there c.requires.paths.short c.requires.paths.short_to (not-empty-root c.args.to.now c.requires.paths.not_root) c.requires.other c.args.nodes.now c.in-Ok-At.over (subst (IsFoundName g.D.Counts c.args.device.now c.args.meta.now c.args.to.now) c.in-Ok-At.field-0-is c.in-Ok-At.ensures.found))

pub returns-in-None-clause-left : goal.returns-in-None-clause-left
returns-in-None-clause-left g c = over-changes g.D.Counts c.args.device.now c.args.meta.now c.find_node.new.device c.find_node.new.meta (g.met.D.VirtualPages.numbers c.args.device.now c.requires.formed) (g.met.D.VirtualPages.numbers c.find_node.new.device c.in-Ok-At.ensures.formed) c.requires.runs c.in-Ok-At.ensures.kept c.args.nodes.now c.requires.free c.requires.room c.args.from.now c.args.to.now c.args.old.now c.requires.there c.requires.held c.in-Ok-At.over (subst (IsFoundName g.D.Counts c.args.device.now c.args.meta.now c.args.to.now) c.in-Ok-At.field-0-is c.in-Ok-At.ensures.found) (subst (FoundIsResident g.D.Counts c.args.device.now c.args.meta.now c.find_node.new.meta) c.in-Ok-At.field-0-is c.in-Ok-At.ensures.held) (apart-of g.D.Counts c.args.device.now c.args.meta.now (g.met.D.VirtualPages.numbers c.args.device.now c.requires.formed) c.requires.runs c.args.from.now c.args.to.now c.args.old.now c.requires.there c.requires.other c.requires.not_under (place_of c.in-Ok-At.over) (subst (IsFoundName g.D.Counts c.args.device.now c.args.meta.now c.args.to.now) c.in-Ok-At.field-0-is c.in-Ok-At.ensures.found).place) c.take_out.new.meta c.take_out.new.nodes (subst (λ (x : List ℕ). TakesOut c.in-Ok-At.over.dir x c.find_node.new.meta c.take_out.new.meta c.args.nodes.now c.take_out.new.nodes) c.bytes.ensures.value c.take_out.ensures) (sym c.refused_over.ensures ∙ c.in-None.is) c.move_entry.new.meta c.move_entry.new.nodes c.move_entry.ensures

pub returns-in-None-clause-reads : goal.returns-in-None-clause-reads
returns-in-None-clause-reads g c = c.in-Ok-At.ensures.reads

pub returns-in-Some-lacks_room-clause-formed : goal.returns-in-Some-lacks_room-clause-formed
returns-in-Some-lacks_room-clause-formed g c = c.in-Ok-Free.ensures.formed

pub returns-in-Some-lacks_room-clause-answer : goal.returns-in-Some-lacks_room-clause-answer
returns-in-Some-lacks_room-clause-answer g c = inr (free-unrefused g.D.Counts c.args.device.now c.args.meta.now (g.met.D.VirtualPages.numbers c.args.device.now c.requires.formed) c.requires.runs c.args.from.now c.args.to.now c.args.old.now c.requires.there c.requires.paths.short c.requires.paths.short_to (not-empty-root c.args.to.now c.requires.paths.not_root) c.requires.other c.requires.not_under c.in-Ok-Free.place (subst (IsFoundName g.D.Counts c.args.device.now c.args.meta.now c.args.to.now) c.in-Ok-Free.field-0-is c.in-Ok-Free.ensures.found).0 (subst (IsFoundName g.D.Counts c.args.device.now c.args.meta.now c.args.to.now) c.in-Ok-Free.field-0-is c.in-Ok-Free.ensures.found).1, lacks-place g.D.Counts c.args.device.now c.args.meta.now (g.met.D.VirtualPages.numbers c.args.device.now c.requires.formed) c.requires.runs c.args.from.now c.args.to.now c.args.old.now c.requires.there c.requires.paths.short c.requires.paths.short_to (not-empty-root c.args.to.now c.requires.paths.not_root) c.requires.other c.args.nodes.now c.in-Ok-Free.place (subst (IsFoundName g.D.Counts c.args.device.now c.args.meta.now c.args.to.now) c.in-Ok-Free.field-0-is c.in-Ok-Free.ensures.found).0 (apart-of g.D.Counts c.args.device.now c.args.meta.now (g.met.D.VirtualPages.numbers c.args.device.now c.requires.formed) c.requires.runs c.args.from.now c.args.to.now c.args.old.now c.requires.there c.requires.other c.requires.not_under c.in-Ok-Free.place (subst (IsFoundName g.D.Counts c.args.device.now c.args.meta.now c.args.to.now) c.in-Ok-Free.field-0-is c.in-Ok-Free.ensures.found).0) (subst (IsFoundName g.D.Counts c.args.device.now c.args.meta.now c.args.to.now) c.in-Ok-Free.field-0-is c.in-Ok-Free.ensures.found).1 c.in-Some-lacks_room.space c.in-Some-lacks_room.ensures.room)

pub returns-in-Some-lacks_room-clause-left : goal.returns-in-Some-lacks_room-clause-left
returns-in-Some-lacks_room-clause-left g c = (c.in-Ok-Free.ensures.kept, c.in-Some-lacks_room.ensures.same)

pub returns-in-Some-lacks_room-clause-reads : goal.returns-in-Some-lacks_room-clause-reads
returns-in-Some-lacks_room-clause-reads g c = c.in-Ok-Free.ensures.reads

pub returns-in-None-lacks_room-clause-formed : goal.returns-in-None-lacks_room-clause-formed
returns-in-None-lacks_room-clause-formed g c = c.in-Ok-Free.ensures.formed

pub returns-in-None-lacks_room-clause-answer : goal.returns-in-None-lacks_room-clause-answer
returns-in-None-lacks_room-clause-answer g c = (free-unrefused g.D.Counts c.args.device.now c.args.meta.now (g.met.D.VirtualPages.numbers c.args.device.now c.requires.formed) c.requires.runs c.args.from.now c.args.to.now c.args.old.now c.requires.there c.requires.paths.short c.requires.paths.short_to (not-empty-root c.args.to.now c.requires.paths.not_root) c.requires.other c.requires.not_under c.in-Ok-Free.place (subst (IsFoundName g.D.Counts c.args.device.now c.args.meta.now c.args.to.now) c.in-Ok-Free.field-0-is c.in-Ok-Free.ensures.found).0 (subst (IsFoundName g.D.Counts c.args.device.now c.args.meta.now c.args.to.now) c.in-Ok-Free.field-0-is c.in-Ok-Free.ensures.found).1, moves-other (graph_of (g.D.Counts.shape c.args.device.now) (running_on g.D.Counts c.args.device.now c.args.meta.now)) (graph_of (g.D.Counts.shape c.find_node.new.device) (running_on g.D.Counts c.find_node.new.device c.move_entry-in-None-lacks_room.new.meta)) c.args.from.now c.args.to.now _ c.requires.other (free-moved g.D.Counts c.args.device.now c.args.meta.now c.find_node.new.device c.find_node.new.meta (g.met.D.VirtualPages.numbers c.args.device.now c.requires.formed) (g.met.D.VirtualPages.numbers c.find_node.new.device c.in-Ok-Free.ensures.formed) c.requires.runs c.in-Ok-Free.ensures.kept c.args.nodes.now c.requires.free c.requires.room c.args.from.now c.args.to.now c.args.old.now c.requires.there c.requires.held c.in-Ok-Free.place (subst (IsFoundName g.D.Counts c.args.device.now c.args.meta.now c.args.to.now) c.in-Ok-Free.field-0-is c.in-Ok-Free.ensures.found).0 (subst (FoundIsResident g.D.Counts c.args.device.now c.args.meta.now c.find_node.new.meta) c.in-Ok-Free.field-0-is c.in-Ok-Free.ensures.held) (apart-of g.D.Counts c.args.device.now c.args.meta.now (g.met.D.VirtualPages.numbers c.args.device.now c.requires.formed) c.requires.runs c.args.from.now c.args.to.now c.args.old.now c.requires.there c.requires.other c.requires.not_under c.in-Ok-Free.place (subst (IsFoundName g.D.Counts c.args.device.now c.args.meta.now c.args.to.now) c.in-Ok-Free.field-0-is c.in-Ok-Free.ensures.found).0) (subst (IsFoundName g.D.Counts c.args.device.now c.args.meta.now c.args.to.now) c.in-Ok-Free.field-0-is c.in-Ok-Free.ensures.found).1 c.in-None-lacks_room.ensures.room c.name_of.result (ap (λ (k : ℕ). slice_get c.args.to.now (k - 1)) (sym c.len.ensures.count) ∙ c.get-last.ensures ∙ ap (λ (x : List ℕ). Some x) (sym c.bytes-in-None-lacks_room.ensures) ∙ ap (λ (x : List ℕ). Some x) (sym c.name_of.ensures)) c.move_entry-in-None-lacks_room.new.meta c.move_entry-in-None-lacks_room.new.nodes (subst (λ (z : Spaces). MovesIn c.args.old.now.dir c.args.old.now.entry c.in-Ok-Free.place.dir c.name_of.result c.find_node.new.meta c.move_entry-in-None-lacks_room.new.meta z c.move_entry-in-None-lacks_room.new.nodes) c.in-None-lacks_room.ensures.same c.move_entry-in-None-lacks_room.ensures)), λ far. has-place-to g.D.Counts c.args.device.now c.args.meta.now (g.met.D.VirtualPages.numbers c.args.device.now c.requires.formed) c.requires.runs c.args.from.now c.args.to.now c.args.old.now c.requires.there c.requires.paths.short c.requires.paths.short_to (not-empty-root c.args.to.now c.requires.paths.not_root) c.requires.other c.args.nodes.now c.in-Ok-Free.place (subst (IsFoundName g.D.Counts c.args.device.now c.args.meta.now c.args.to.now) c.in-Ok-Free.field-0-is c.in-Ok-Free.ensures.found).0 c.in-None-lacks_room.ensures.room)

pub returns-in-None-lacks_room-clause-left : goal.returns-in-None-lacks_room-clause-left
returns-in-None-lacks_room-clause-left g c = free-changes g.D.Counts c.args.device.now c.args.meta.now c.find_node.new.device c.find_node.new.meta (g.met.D.VirtualPages.numbers c.args.device.now c.requires.formed) (g.met.D.VirtualPages.numbers c.find_node.new.device c.in-Ok-Free.ensures.formed) c.requires.runs c.in-Ok-Free.ensures.kept c.args.nodes.now c.requires.free c.requires.room c.args.from.now c.args.to.now c.args.old.now c.requires.there c.requires.held c.in-Ok-Free.place (subst (IsFoundName g.D.Counts c.args.device.now c.args.meta.now c.args.to.now) c.in-Ok-Free.field-0-is c.in-Ok-Free.ensures.found).0 (subst (FoundIsResident g.D.Counts c.args.device.now c.args.meta.now c.find_node.new.meta) c.in-Ok-Free.field-0-is c.in-Ok-Free.ensures.held) (apart-of g.D.Counts c.args.device.now c.args.meta.now (g.met.D.VirtualPages.numbers c.args.device.now c.requires.formed) c.requires.runs c.args.from.now c.args.to.now c.args.old.now c.requires.there c.requires.other c.requires.not_under c.in-Ok-Free.place (subst (IsFoundName g.D.Counts c.args.device.now c.args.meta.now c.args.to.now) c.in-Ok-Free.field-0-is c.in-Ok-Free.ensures.found).0) (subst (IsFoundName g.D.Counts c.args.device.now c.args.meta.now c.args.to.now) c.in-Ok-Free.field-0-is c.in-Ok-Free.ensures.found).1 c.in-None-lacks_room.ensures.room c.name_of.result (ap (λ (k : ℕ). slice_get c.args.to.now (k - 1)) (sym c.len.ensures.count) ∙ c.get-last.ensures ∙ ap (λ (x : List ℕ). Some x) (sym c.bytes-in-None-lacks_room.ensures) ∙ ap (λ (x : List ℕ). Some x) (sym c.name_of.ensures)) c.move_entry-in-None-lacks_room.new.meta c.move_entry-in-None-lacks_room.new.nodes (subst (λ (z : Spaces). MovesIn c.args.old.now.dir c.args.old.now.entry c.in-Ok-Free.place.dir c.name_of.result c.find_node.new.meta c.move_entry-in-None-lacks_room.new.meta z c.move_entry-in-None-lacks_room.new.nodes) c.in-None-lacks_room.ensures.same c.move_entry-in-None-lacks_room.ensures)

pub returns-in-None-lacks_room-clause-reads : goal.returns-in-None-lacks_room-clause-reads
returns-in-None-lacks_room-clause-reads g c = c.in-Ok-Free.ensures.reads

pub returns-in-Ok-No-clause-formed : goal.returns-in-Ok-No-clause-formed
returns-in-Ok-No-clause-formed g c = c.in-Ok-No.ensures.formed

pub returns-in-Ok-No-clause-answer : goal.returns-in-Ok-No-clause-answer
returns-in-Ok-No-clause-answer g c = inl (walk-refused g.D.Counts c.args.device.now c.args.meta.now (g.met.D.VirtualPages.numbers c.args.device.now c.requires.formed) c.requires.runs c.args.from.now c.args.to.now c.args.old.now c.requires.there c.requires.paths.short c.requires.paths.short_to (not-empty-root c.args.to.now c.requires.paths.not_root) c.requires.other c.requires.not_under c.in-Ok-No.refusal (subst (IsFoundName g.D.Counts c.args.device.now c.args.meta.now c.args.to.now) c.in-Ok-No.field-0-is c.in-Ok-No.ensures.found))

pub returns-in-Ok-No-clause-left : goal.returns-in-Ok-No-clause-left
returns-in-Ok-No-clause-left g c = (c.in-Ok-No.ensures.kept, refl)

pub returns-in-Ok-No-clause-reads : goal.returns-in-Ok-No-clause-reads
returns-in-Ok-No-clause-reads g c = c.in-Ok-No.ensures.reads
