use Rattle.std.proofs.Common.{◌≡◌, ◌≢◌, Bool, length, refl, sym, ap, subst, ◌∙◌, None, inl}
use Rattle.std.specs.Prelude.{MatchBool}
use Rattle.nl_field.specs.Graph.{Graph}
use Rattle.nl_field.specs.declared.inode.Kind.TheVariants.{Dir}
use Rattle.nl_meta.specs.Nodes.{graph_of}
use Rattle.nl_tree.specs.Step.{is_too_long}
use Rattle.nl_tree.specs.Tree.{is_at_or_under, paths_eq}
use Rattle.nl_meta_running.specs.Running.{running_on}
use Rattle.nl_namespace.specs.Finding.{FoundIsResident, IsFoundName}
use Rattle.nl_namespace.specs.Moving.{RenamesName}
use Rattle.nl_namespace.specs.Reading.{change_stop}
use Rattle.nl_namespace.proofs.Chains.{then-graph, then-reads, then-runs}
use Rattle.nl_namespace.proofs.MakeDone.{held-then, not-empty-root}
use Rattle.nl_namespace.proofs.MakeReady.{fits-then, leaves-after}
use Rattle.nl_namespace.proofs.MoveRefusals.{kept-changes, missing-old, no-other-path, same-path, stays-one, there-then, under-itself}
use Rattle.nl_namespace.proofs.renaming.rename.Goals as goal

pub returns-then-are_one-clause-answer : goal.returns-then-are_one-clause-answer
returns-then-are_one-clause-answer g c = (same-path g.D.Counts c.args.device.now c.args.meta.now (g.met.D.VirtualPages.numbers c.args.device.now c.requires.formed) c.requires.runs c.args.from.now c.args.to.now c.in-Ok-At.old (subst (IsFoundName g.D.Counts c.args.device.now c.args.meta.now c.args.from.now) c.in-Ok-At.field-0-is c.in-Ok-At.ensures.found) (ap is_too_long (sym c.names.ensures) ∙ sym c.is_long.ensures ∙ c.if-is_long.false) (ap is_too_long (sym c.names-else-is_long.ensures) ∙ sym c.is_long-else-is_long.ensures ∙ c.if-is_long-2.false) (not-empty-root c.args.to.now (λ e. c.if-len-eq0-2.false (c.len-else-len-eq0.ensures.count ∙ ap length e))) ((λ i. paths_eq (sym c.names-in-Ok-At.ensures i) (sym c.names-in-Ok-At-2.ensures i)) ∙ sym c.are_one.ensures ∙ c.if-are_one.true), stays-one (graph_of (g.D.Counts.shape c.args.device.now) (running_on g.D.Counts c.args.device.now c.args.meta.now)) (graph_of (g.D.Counts.shape c.find_node.new.device) (running_on g.D.Counts c.find_node.new.device c.find_node.new.meta)) c.args.from.now c.args.to.now None refl ((λ i. paths_eq (sym c.names-in-Ok-At.ensures i) (sym c.names-in-Ok-At-2.ensures i)) ∙ sym c.are_one.ensures ∙ c.if-are_one.true) (then-graph g.D.Counts c.args.device.now c.args.meta.now c.find_node.new.device c.find_node.new.meta (g.met.D.VirtualPages.numbers c.args.device.now c.requires.formed) c.in-Ok-At.ensures.kept), no-other-path c.args.nodes.now (graph_of (g.D.Counts.shape c.args.device.now) (running_on g.D.Counts c.args.device.now c.args.meta.now)) c.args.from.now c.args.to.now ((λ i. paths_eq (sym c.names-in-Ok-At.ensures i) (sym c.names-in-Ok-At-2.ensures i)) ∙ sym c.are_one.ensures ∙ c.if-are_one.true))

pub returns-then-are_one-clause-left : goal.returns-then-are_one-clause-left
returns-then-are_one-clause-left g c = kept-changes g.D.Counts c.args.device.now c.args.meta.now c.find_node.new.device c.find_node.new.meta (g.met.D.VirtualPages.numbers c.args.device.now c.requires.formed) c.requires.runs c.in-Ok-At.ensures.kept c.args.nodes.now c.requires.free

pub returns-then-lies_under-clause-answer : goal.returns-then-lies_under-clause-answer
returns-then-lies_under-clause-answer g c = inl (under-itself g.D.Counts c.args.device.now c.args.meta.now (g.met.D.VirtualPages.numbers c.args.device.now c.requires.formed) c.requires.runs c.args.from.now c.args.to.now c.in-Ok-At.old (subst (IsFoundName g.D.Counts c.args.device.now c.args.meta.now c.args.from.now) c.in-Ok-At.field-0-is c.in-Ok-At.ensures.found) (ap is_too_long (sym c.names.ensures) ∙ sym c.is_long.ensures ∙ c.if-is_long.false) (ap is_too_long (sym c.names-else-is_long.ensures) ∙ sym c.is_long-else-is_long.ensures ∙ c.if-is_long-2.false) (not-empty-root c.args.to.now (λ e. c.if-len-eq0-2.false (c.len-else-len-eq0.ensures.count ∙ ap length e))) ((λ i. paths_eq (sym c.names-in-Ok-At.ensures i) (sym c.names-in-Ok-At-2.ensures i)) ∙ sym c.are_one.ensures ∙ c.if-are_one.false) (subst (λ (b : Bool). MatchBool b (c.in-Ok-At.old.node.kind ≡ Dir) (c.in-Ok-At.old.node.kind ≢ Dir)) c.if-is_directory.true c.is_directory.ensures) ((λ i. is_at_or_under (sym c.names-then-is_directory.ensures i) (sym c.names-then-is_directory-2.ensures i)) ∙ sym c.lies_under.ensures ∙ c.if-lies_under.true))

pub rename_to-requires-clause-runs : goal.rename_to-requires-clause-runs
rename_to-requires-clause-runs g c = then-runs g.D.Counts c.args.device.now c.args.meta.now c.find_node.new.device c.find_node.new.meta (g.met.D.VirtualPages.numbers c.args.device.now c.requires.formed) c.in-Ok-At.ensures.kept c.requires.runs

pub rename_to-requires-clause-free : goal.rename_to-requires-clause-free
rename_to-requires-clause-free g c = fits-then g.D.Counts c.args.device.now c.args.meta.now c.find_node.new.device c.find_node.new.meta (g.met.D.VirtualPages.numbers c.args.device.now c.requires.formed) c.in-Ok-At.ensures.kept c.args.nodes.now c.requires.free

pub rename_to-requires-clause-there : goal.rename_to-requires-clause-there
rename_to-requires-clause-there g c = there-then g.D.Counts c.args.device.now c.args.meta.now (g.met.D.VirtualPages.numbers c.args.device.now c.requires.formed) c.requires.runs c.find_node.new.device c.find_node.new.meta c.in-Ok-At.ensures.kept c.args.from.now c.in-Ok-At.old (subst (IsFoundName g.D.Counts c.args.device.now c.args.meta.now c.args.from.now) c.in-Ok-At.field-0-is c.in-Ok-At.ensures.found)

pub rename_to-requires-clause-held : goal.rename_to-requires-clause-held
rename_to-requires-clause-held g c = held-then g.D.Counts c.args.device.now c.args.meta.now c.find_node.new.device c.find_node.new.meta (g.met.D.VirtualPages.numbers c.args.device.now c.requires.formed) c.in-Ok-At.ensures.kept c.in-Ok-At.old.dir c.in-Ok-At.old.rec (subst (IsFoundName g.D.Counts c.args.device.now c.args.meta.now c.args.from.now) c.in-Ok-At.field-0-is c.in-Ok-At.ensures.found).place.is_node (subst (IsFoundName g.D.Counts c.args.device.now c.args.meta.now c.args.from.now) c.in-Ok-At.field-0-is c.in-Ok-At.ensures.found).place.is_dir (subst (FoundIsResident g.D.Counts c.args.device.now c.args.meta.now c.find_node.new.meta) c.in-Ok-At.field-0-is c.in-Ok-At.ensures.held)

pub rename_to-requires-clause-paths : goal.rename_to-requires-clause-paths
rename_to-requires-clause-paths g c = record {
  short = (ap is_too_long (sym c.names.ensures) ∙ sym c.is_long.ensures ∙ c.if-is_long.false);
  short_to = (ap is_too_long (sym c.names-else-is_long.ensures) ∙ sym c.is_long-else-is_long.ensures ∙ c.if-is_long-2.false);
  not_root = λ e. c.if-len-eq0-2.false (c.len-else-len-eq0.ensures.count ∙ ap length e);
}

pub returns-else-is_directory-clause-answer : goal.returns-else-is_directory-clause-answer
returns-else-is_directory-clause-answer g c = subst (λ (z : Graph). RenamesName c.args.nodes.now z (graph_of (g.D.Counts.shape c.rename_to.new.device) (running_on g.D.Counts c.rename_to.new.device c.rename_to.new.meta)) c.args.from.now c.args.to.now c.rename_to.result) (then-graph g.D.Counts c.args.device.now c.args.meta.now c.find_node.new.device c.find_node.new.meta (g.met.D.VirtualPages.numbers c.args.device.now c.requires.formed) c.in-Ok-At.ensures.kept) c.rename_to.ensures.answer

pub returns-else-is_directory-clause-left : goal.returns-else-is_directory-clause-left
returns-else-is_directory-clause-left g c = leaves-after g.D.Counts c.args.device.now c.args.meta.now c.find_node.new.device c.find_node.new.meta (g.met.D.VirtualPages.numbers c.args.device.now c.requires.formed) c.in-Ok-At.ensures.kept c.rename_to.new.device c.rename_to.new.meta c.args.nodes.now c.rename_to.new.nodes c.rename_to.result c.rename_to.ensures.left

pub returns-in-Ok-Free-clause-answer : goal.returns-in-Ok-Free-clause-answer
returns-in-Ok-Free-clause-answer g c = let f = subst (IsFoundName g.D.Counts c.args.device.now c.args.meta.now c.args.from.now) c.in-Ok-Free.field-0-is c.in-Ok-Free.ensures.found in inl (missing-old g.D.Counts c.args.device.now c.args.meta.now (g.met.D.VirtualPages.numbers c.args.device.now c.requires.formed) c.requires.runs c.args.from.now c.args.to.now c.in-Ok-Free.field-0-0 f.0 f.1 (ap is_too_long (sym c.names.ensures) ∙ sym c.is_long.ensures ∙ c.if-is_long.false) (ap is_too_long (sym c.names-else-is_long.ensures) ∙ sym c.is_long-else-is_long.ensures ∙ c.if-is_long-2.false) (not-empty-root c.args.to.now (λ e. c.if-len-eq0-2.false (c.len-else-len-eq0.ensures.count ∙ ap length e))))

pub returns-else-is_directory-clause-reads : goal.returns-else-is_directory-clause-reads
returns-else-is_directory-clause-reads g c =
    then-reads g.D.Counts c.args.device.now c.args.meta.now c.find_node.new.device c.find_node.new.meta (g.met.D.VirtualPages.numbers c.args.device.now c.requires.formed) c.in-Ok-At.ensures.kept c.rename_to.new.device (change_stop c.rename_to.result) c.in-Ok-At.ensures.reads c.rename_to.ensures.reads
