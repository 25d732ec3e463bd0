use Rattle.std.proofs.Common.{ℕ, List, refl, sym, subst, inl, inr, arith}
use Rattle.nl_inode.specs.Nodes.{Spaces}
use Rattle.nl_inode.proofs.MarkTree.{set-below}
use Rattle.nl_meta_running.proofs.Holds.{bounds-of}
use Rattle.nl_meta_running.proofs.SameNeeded.{inode-address}
use Rattle.nl_namespace.specs.Making.{FitsNew, MakesIn}
use Rattle.nl_namespace.proofs.MakeDone.{made-changes, made-fits, made-name}
use Rattle.nl_namespace.proofs.MakeReady.{has-place, lacks, size-fits}
use Rattle.nl_namespace.proofs.making.make_at.Goals as goal

pub room_for-requires : goal.room_for-requires
room_for-requires g c = size-fits g.D.Counts c.args.device.now c.args.meta.now (g.met.D.VirtualPages.numbers c.args.device.now c.requires.formed) c.requires.runs c.args.path.now c.args.place.now c.requires.place

pub hold-requires-clause-needed : goal.hold-requires-clause-needed
hold-requires-clause-needed g c =
    let b = bounds-of (g.D.Counts.shape c.args.device.now) (g.met.D.VirtualPages.numbers c.args.device.now c.requires.formed) in
    let f = b.places in
    let h = set-below c.args.nodes.now.nodes c.in-Ok.ino c.in-Ok.ensures.spare.least.free_itself in
    let n = c.requires.free.count_nodes in
    inl (inode-address (g.D.Counts.shape c.args.device.now) c.in-Ok.ino (omega (arith, f, h, n)))

pub name_node-requires-clause-fits : goal.name_node-requires-clause-fits
name_node-requires-clause-fits g c =
    subst (λ (x : List ℕ). FitsNew c.args.place.now.dir c.in-Ok.ino x c.hold.new.meta c.room_for.new.nodes) (sym c.name_of.ensures)
    (subst (FitsNew c.args.place.now.dir c.in-Ok.ino c.args.name.now c.hold.new.meta) (sym c.in-Ok.ensures.same)
    (made-fits g.D.Counts c.args.device.now c.args.meta.now c.hold.new.device c.hold.new.meta (g.met.D.VirtualPages.numbers c.args.device.now c.requires.formed) (g.met.D.VirtualPages.numbers c.hold.new.device c.in-Ok-hold.ensures.formed) c.requires.runs c.in-Ok-hold.ensures.kept c.args.nodes.now c.requires.free c.args.path.now c.args.place.now c.requires.place c.requires.held c.requires.absent c.args.name.now c.requires.last c.in-Ok.ino c.in-Ok.ensures.spare c.in-Ok-hold.ensures.there.there c.requires.room))

pub returns-in-Ok-hold-clause-answer : goal.returns-in-Ok-hold-clause-answer
returns-in-Ok-hold-clause-answer g c = (
  c.requires.unrefused,
  refl,
  (
    c.in-Ok.ino,
    made-name g.D.Counts c.args.device.now c.args.meta.now c.hold.new.device c.hold.new.meta (g.met.D.VirtualPages.numbers c.args.device.now c.requires.formed) (g.met.D.VirtualPages.numbers c.hold.new.device c.in-Ok-hold.ensures.formed) c.requires.runs c.in-Ok-hold.ensures.kept c.args.nodes.now c.requires.free c.args.path.now c.args.place.now c.requires.place c.requires.held c.requires.absent c.args.name.now c.requires.last c.in-Ok.ino c.in-Ok.ensures.spare c.in-Ok-hold.ensures.there.there c.args.kind c.requires.used c.name_node.new.meta c.name_node.new.nodes (subst (λ (x : List ℕ). MakesIn c.args.place.now.dir c.in-Ok.ino c.args.kind x c.hold.new.meta c.name_node.new.meta c.args.nodes.now c.name_node.new.nodes) c.name_of.ensures
        (subst (λ (s : Spaces). MakesIn c.args.place.now.dir c.in-Ok.ino c.args.kind c.name_of.result c.hold.new.meta c.name_node.new.meta s c.name_node.new.nodes) c.in-Ok.ensures.same c.name_node.ensures)),
    has-place g.D.Counts c.args.device.now c.args.meta.now (g.met.D.VirtualPages.numbers c.args.device.now c.requires.formed) c.requires.runs c.args.path.now c.args.place.now c.requires.place c.args.nodes.now c.in-Ok.ino c.in-Ok.ensures.spare,
  ),
)

pub returns-in-Ok-hold-clause-left : goal.returns-in-Ok-hold-clause-left
returns-in-Ok-hold-clause-left g c = made-changes g.D.Counts c.args.device.now c.args.meta.now c.hold.new.device c.hold.new.meta (g.met.D.VirtualPages.numbers c.args.device.now c.requires.formed) (g.met.D.VirtualPages.numbers c.hold.new.device c.in-Ok-hold.ensures.formed) c.requires.runs c.in-Ok-hold.ensures.kept c.args.nodes.now c.requires.free c.args.path.now c.args.place.now c.requires.place c.requires.held c.requires.absent c.args.name.now c.requires.last c.in-Ok.ino c.in-Ok.ensures.spare c.in-Ok-hold.ensures.there.there c.args.kind c.requires.used c.name_node.new.meta c.name_node.new.nodes (subst (λ (x : List ℕ). MakesIn c.args.place.now.dir c.in-Ok.ino c.args.kind x c.hold.new.meta c.name_node.new.meta c.args.nodes.now c.name_node.new.nodes) c.name_of.ensures
    (subst (λ (s : Spaces). MakesIn c.args.place.now.dir c.in-Ok.ino c.args.kind c.name_of.result c.hold.new.meta c.name_node.new.meta s c.name_node.new.nodes) c.in-Ok.ensures.same c.name_node.ensures))

pub returns-in-Err-clause-answer : goal.returns-in-Err-clause-answer
returns-in-Err-clause-answer g c =
    inr (c.requires.unrefused, lacks g.D.Counts c.args.device.now c.args.meta.now (g.met.D.VirtualPages.numbers c.args.device.now c.requires.formed) c.requires.runs c.args.path.now c.args.place.now c.requires.place c.args.nodes.now c.in-Err.space c.in-Err.ensures.full)
