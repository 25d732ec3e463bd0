use Rattle.std.proofs.Common.{◌≡◌, ◌≢◌, refl, sym, ap, ◌∙◌, is_some, Some}
use Rattle.nl_field.specs.declared.inode.Kind.{Kind}
use Rattle.nl_field.specs.declared.inode.Kind.TheVariants.{Unused, File, Dir}
use Rattle.nl_inode.specs.Nodes.{page_of_node}
use Rattle.nl_meta_running.proofs.Holds.{bounds-of}
use Rattle.nl_namespace.proofs.Chains.{then-node, then-on, then-reads, then-runs}
use Rattle.nl_namespace.proofs.Entries.{has-before, named-held}
use Rattle.nl_namespace.proofs.place.enter.Goals as goal

-- a kind that is neither of the others
file-of : (k : Kind) → (k ≡ Dir → ⊥) → k ≢ Unused → k ≡ File
file-of Unused dir unused = absurd (unused refl)
file-of File dir unused = refl
file-of Dir dir unused = absurd (dir refl)

pub hold_entries-requires-clause-runs : goal.hold_entries-requires-clause-runs
hold_entries-requires-clause-runs g c =
    then-runs g.D.Counts c.args.device.now c.args.meta.now c.node.new.device c.node.new.meta (g.met.D.VirtualPages.numbers c.args.device.now c.requires.formed) c.in-Ok.ensures.kept c.requires.runs

pub hold_entries-requires-clause-directory : goal.hold_entries-requires-clause-directory
hold_entries-requires-clause-directory g c = (
  c.args.dir,
  then-node g.D.Counts c.args.device.now c.args.meta.now c.node.new.device c.node.new.meta (g.met.D.VirtualPages.numbers c.args.device.now c.requires.formed) c.in-Ok.ensures.kept c.args.dir c.in-Ok.rec c.in-Ok.ensures.node,
  c.in-Dir.is,
)

pub returns-in-Ok-hold_entries-clause-entered : goal.returns-in-Ok-hold_entries-clause-entered
returns-in-Ok-hold_entries-clause-entered g c =
    let b = bounds-of (g.D.Counts.shape c.args.device.now) (g.met.D.VirtualPages.numbers c.args.device.now c.requires.formed) in
    record {
      dir = refl;
      is_node = c.in-Ok.ensures.node;
      is_dir = c.in-Dir.is;
      entry = sym (named-held g.D.Counts c.args.device.now c.args.meta.now c.node.new.device c.node.new.meta b c.in-Ok.ensures.kept c.args.dir c.in-Ok.rec c.in-Ok.ensures.node c.in-Dir.is c.hold_entries.new.meta c.args.name.now c.in-Ok-hold_entries.ensures.there)
          ∙ sym c.find-entry.ensures;
    }

pub returns-in-Ok-hold_entries-clause-held : goal.returns-in-Ok-hold_entries-clause-held
returns-in-Ok-hold_entries-clause-held g c =
    let b = bounds-of (g.D.Counts.shape c.args.device.now) (g.met.D.VirtualPages.numbers c.args.device.now c.requires.formed) in
    record {
      node = ap is_some (c.in-Ok-hold_entries.ensures.kept.stays (page_of_node c.args.dir) c.in-Ok.ensures.there) ∙ c.in-Ok.ensures.there;
      entries = has-before g.D.Counts c.args.device.now c.args.meta.now c.node.new.device c.node.new.meta b c.in-Ok.ensures.kept c.args.dir c.in-Ok.rec c.in-Ok.ensures.node c.in-Dir.is c.hold_entries.new.meta c.in-Ok-hold_entries.ensures.there;
    }

pub returns-in-Ok-hold_entries-clause-kept : goal.returns-in-Ok-hold_entries-clause-kept
returns-in-Ok-hold_entries-clause-kept g c =
    then-on g.D.Counts c.args.device.now c.args.meta.now c.node.new.device c.node.new.meta (g.met.D.VirtualPages.numbers c.args.device.now c.requires.formed) c.in-Ok.ensures.kept c.hold_entries.new.device c.hold_entries.new.meta c.in-Ok-hold_entries.ensures.kept

pub returns-in-Err-hold_entries-clause-kept : goal.returns-in-Err-hold_entries-clause-kept
returns-in-Err-hold_entries-clause-kept g c =
    then-on g.D.Counts c.args.device.now c.args.meta.now c.node.new.device c.node.new.meta (g.met.D.VirtualPages.numbers c.args.device.now c.requires.formed) c.in-Ok.ensures.kept c.hold_entries.new.device c.hold_entries.new.meta c.in-Err-hold_entries.ensures.kept

pub returns-in-Err-hold_entries-clause-reads : goal.returns-in-Err-hold_entries-clause-reads
returns-in-Err-hold_entries-clause-reads g c =
    then-reads g.D.Counts c.args.device.now c.args.meta.now c.node.new.device c.node.new.meta (g.met.D.VirtualPages.numbers c.args.device.now c.requires.formed) c.in-Ok.ensures.kept c.hold_entries.new.device (Some c.in-Err-hold_entries.stop) c.in-Ok.ensures.reads c.in-Err-hold_entries.ensures.reads

pub node-requires-clause-formed : goal.node-requires-clause-formed
node-requires-clause-formed g c = c.requires.formed

pub node-requires-clause-runs : goal.node-requires-clause-runs
node-requires-clause-runs g c = c.requires.runs

pub node-requires-clause-used : goal.node-requires-clause-used
node-requires-clause-used g c = c.requires.used

pub hold_entries-requires-clause-formed : goal.hold_entries-requires-clause-formed
hold_entries-requires-clause-formed g c = c.in-Ok.ensures.formed

pub find-entry-requires : goal.find-entry-requires
find-entry-requires g c = c.in-Ok-hold_entries.ensures.there.directory

pub returns-in_default-clause-entered : goal.returns-in_default-clause-entered
returns-in_default-clause-entered g c = (c.in-Ok.rec, c.in-Ok.ensures.node, file-of c.in-Ok.rec.kind c.in_default.not-Dir c.in-Ok.ensures.node.used)
