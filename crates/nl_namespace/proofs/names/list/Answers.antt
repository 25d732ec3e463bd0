use Rattle.std.proofs.Common.{List, ap, subst, ◌∙◌}
use Rattle.nl_field.specs.Graph.{Graph}
use Rattle.nl_field.specs.declared.entry.EntryRec.{EntryRec}
use Rattle.nl_field.specs.declared.inode.InodeRec.{InodeRec}
use Rattle.nl_meta.specs.Nodes.{entries_of_inode}
use Rattle.nl_meta.proofs.NodeProofs.{same_rec}
use Rattle.nl_namespace.specs.Listing.{IsListing}
use Rattle.nl_meta_running.specs.Running.{running_on}
use Rattle.nl_namespace.proofs.Graphs.{graph}
use Rattle.nl_meta_running.proofs.Holds.{bounds-of}
use Rattle.nl_meta_running.proofs.Kept.{kept-then, runs-then, used-on}
use Rattle.nl_namespace.proofs.Texts.{entries-on, graph-on}
use Rattle.nl_namespace.proofs.names.list.Goals as goal

pub print_all-requires-clause-runs : goal.print_all-requires-clause-runs
print_all-requires-clause-runs g c =
    let b = bounds-of (g.D.Counts.shape c.args.device.now) (g.met.D.VirtualPages.numbers c.args.device.now c.requires.formed) in
    runs-then g.D.Counts c.args.device.now c.args.meta.now c.node.new.device c.node.new.meta b c.in-Ok.ensures.kept c.requires.runs

pub print_all-requires-clause-directory : goal.print_all-requires-clause-directory
print_all-requires-clause-directory g c =
    let b = bounds-of (g.D.Counts.shape c.args.device.now) (g.met.D.VirtualPages.numbers c.args.device.now c.requires.formed) in
    let r = c.requires.directory in
    let dir = ap (λ (n : InodeRec). n.kind) (same_rec (g.D.Counts.shape c.args.device.now) (running_on g.D.Counts c.args.device.now c.args.meta.now) c.args.ino c.in-Ok.rec r.0 c.in-Ok.ensures.node r.1) ∙ r.2 in
    (c.args.ino, used-on g.D.Counts c.args.device.now c.args.meta.now c.node.new.device c.node.new.meta b c.in-Ok.ensures.kept c.args.ino c.in-Ok.rec c.in-Ok.ensures.node, dir)

pub returns-in-Ok-print_all-clause-listed : goal.returns-in-Ok-print_all-clause-listed
returns-in-Ok-print_all-clause-listed g c =
    let b = bounds-of (g.D.Counts.shape c.args.device.now) (g.met.D.VirtualPages.numbers c.args.device.now c.requires.formed) in
    let r = c.requires.directory in
    let dir = ap (λ (n : InodeRec). n.kind) (same_rec (g.D.Counts.shape c.args.device.now) (running_on g.D.Counts c.args.device.now c.args.meta.now) c.args.ino c.in-Ok.rec r.0 c.in-Ok.ensures.node r.1) ∙ r.2 in
    let entries = entries-on g.D.Counts c.args.device.now c.args.meta.now c.node.new.device c.node.new.meta b c.in-Ok.ensures.kept c.args.ino c.in-Ok.rec c.in-Ok.ensures.node dir in
    record {
      rec = c.in-Ok.rec;
      is_node = c.in-Ok.ensures.node;
      is_dir = dir;
      lists = subst (λ (n : Graph). IsListing n (entries_of_inode (running_on g.D.Counts c.args.device.now c.args.meta.now) c.in-Ok.rec) c.in-Ok-print_all.count c.print_all.new.out) (graph-on g.D.Counts c.args.device.now c.args.meta.now c.node.new.device c.node.new.meta b c.in-Ok.ensures.kept)
          (subst (λ (es : List EntryRec). IsListing (graph g.D.Counts c.node.new.device c.node.new.meta) es c.in-Ok-print_all.count c.print_all.new.out) entries c.in-Ok-print_all.ensures.listed);
    }

pub returns-in-Ok-print_all-clause-kept : goal.returns-in-Ok-print_all-clause-kept
returns-in-Ok-print_all-clause-kept g c =
    let b = bounds-of (g.D.Counts.shape c.args.device.now) (g.met.D.VirtualPages.numbers c.args.device.now c.requires.formed) in
    kept-then g.D.Counts c.args.device.now c.args.meta.now c.node.new.device c.node.new.meta b c.in-Ok.ensures.kept c.print_all.new.device c.print_all.new.meta c.in-Ok-print_all.ensures.kept

pub returns-in-Err-Fault-print_all-clause-kept : goal.returns-in-Err-Fault-print_all-clause-kept
returns-in-Err-Fault-print_all-clause-kept g c =
    let b = bounds-of (g.D.Counts.shape c.args.device.now) (g.met.D.VirtualPages.numbers c.args.device.now c.requires.formed) in
    kept-then g.D.Counts c.args.device.now c.args.meta.now c.node.new.device c.node.new.meta b c.in-Ok.ensures.kept c.print_all.new.device c.print_all.new.meta c.in-Err-Fault-print_all.ensures.kept

pub returns-in-Err-Lost-print_all-clause-kept : goal.returns-in-Err-Lost-print_all-clause-kept
returns-in-Err-Lost-print_all-clause-kept g c =
    let b = bounds-of (g.D.Counts.shape c.args.device.now) (g.met.D.VirtualPages.numbers c.args.device.now c.requires.formed) in
    kept-then g.D.Counts c.args.device.now c.args.meta.now c.node.new.device c.node.new.meta b c.in-Ok.ensures.kept c.print_all.new.device c.print_all.new.meta c.in-Err-Lost-print_all.ensures.kept
