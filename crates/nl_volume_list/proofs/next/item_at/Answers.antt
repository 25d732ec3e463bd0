use Rattle.std.proofs.Common.{sym, ap, ◌∙◌}
use Rattle.nl_core.specs.Core.{running_of}
use Rattle.nl_dir.proofs.Records.{spelled-dir}
use Rattle.nl_field.specs.Graph.{Graph}
use Rattle.nl_field.specs.declared.inode.Kind.TheVariants.{File}
use Rattle.nl_calls_steps.proofs.ReadCores.{reads-after, reads-then}
use Rattle.nl_calls_files.proofs.Directories.{dir-kind}
use Rattle.nl_meta.proofs.AddressProofs.{inode_spelled}
use Rattle.nl_volume_list.specs.Next.{nodes_of}
use Rattle.nl_volume_list.specs.Walks.{item_stop}
use Rattle.nl_volume_list.proofs.Giving.{body-is}
use Rattle.nl_volume_list.proofs.Walking.{nodes-stay, told-dir, told-file}
use Rattle.nl_volume_list.proofs.next.item_at.Goals as goal

pub entries_in-requires : goal.entries_in-requires
entries_in-requires g c =
    let G = g.D.Counts in
    let v = c.args.core.now in
    let is = c.in-Ok.ensures.node.before in
    (spelled-dir c.in-Ok.rec (dir-kind c.in-Ok.rec.kind c.in_default.not-File is.used) (inode_spelled _ _ c.args.ino c.in-Ok.rec is)).few

pub returns-in-File-clause-same : goal.returns-in-File-clause-same
returns-in-File-clause-same g c =
    let G = g.D.Counts in
    let v = c.args.core.now in
    reads-then G v c.open_node.new.core c.device_stands.ensures.volume c.in-Ok.ensures.same c.file_item.new.core c.file_item.ensures.same

pub returns-in-File-clause-told : goal.returns-in-File-clause-told
returns-in-File-clause-told g c =
    let G = g.D.Counts in
    let v = c.args.core.now in
    let w = c.open_node.new.core in
    told-file (nodes_of G v c.args.ino).body (running_of G w) c.in-Ok.rec c.file_item.result
    (ap (λ (n : Graph). (n c.args.ino).body) (sym (nodes-stay G v w c.device_stands.ensures.volume c.in-Ok.ensures.same)) ∙ body-is (G.shape w.device) (running_of G w) c.args.ino c.in-Ok.rec c.in-Ok.ensures.node.after File c.in-File.is)
    c.file_item.ensures.file

pub returns-in-File-clause-reads : goal.returns-in-File-clause-reads
returns-in-File-clause-reads g c =
    let G = g.D.Counts in
    let v = c.args.core.now in
    reads-after G v.device c.open_node.new.core.device c.file_item.new.core.device (item_stop c.file_item.result) c.in-Ok.ensures.same.runs.reads c.in-Ok.ensures.reads c.file_item.ensures.reads

pub returns-in_default : goal.returns-in_default
returns-in_default g c =
    let G = g.D.Counts in
    let v = c.args.core.now in
    let is = c.in-Ok.ensures.node.before in
    let runs = c.requires.core.journaled.runs in
    record {
      core = c.in-Ok.ensures.core;
      same = c.in-Ok.ensures.same;
      told = told-dir (G.shape v.device) (running_of G v) c.args.ino c.in-Ok.rec c.entries_in.result runs.addresses runs.entries is (dir-kind c.in-Ok.rec.kind c.in_default.not-File is.used) c.entries_in.ensures;
      reads = c.in-Ok.ensures.reads;
    }
