use Rattle.std.proofs.Common.{◌≡◌, ◌+◌, ◌-◌, ◌≤◌, ℕ, List, Option, Some, None, length, take, get_or, sym, ap, subst, ◌∙◌, arith}
use Rattle.std.specs.Prelude.{slice_get}
use Rattle.nl_field.specs.Graph.{Graph}
use Rattle.nl_field.specs.declared.entry.EntryRec.{EntryRec}
use Rattle.nl_meta.specs.Nodes.{graph_of}
use Rattle.nl_meta_running.specs.Running.{IsUsedNode, running_on}
use Rattle.nl_meta_running.proofs.Holds.{bounds-of}
use Rattle.nl_meta_running.proofs.Kept.{kept-then, runs-then, used-on}
use Rattle.nl_volume_list.specs.Entries.{HasLeastBehind, HasNoneBehind, LeastBehind}
use Rattle.nl_volume_list.specs.Onward.{NoneUnder}
use Rattle.nl_volume_list.proofs.Directories.{entry-named, graph-stays, used-at}
use Rattle.nl_volume_list.proofs.Leading.{leads-beside, node-at, under-beside, under-root}
use Rattle.nl_volume_list.proofs.places.place_beside.Goals as goal

pub least_behind-requires-clause-runs : goal.least_behind-requires-clause-runs
least_behind-requires-clause-runs g c =
    let b = bounds-of (g.D.Counts.shape c.args.device.now) (g.met.D.VirtualPages.numbers c.args.device.now c.requires.formed) in
    runs-then g.D.Counts c.args.device.now c.args.meta.now c.loop-kept.device c.loop-kept.meta b c.loop-kept.invariant.kept c.requires.runs

pub least_behind-requires-clause-used : goal.least_behind-requires-clause-used
least_behind-requires-clause-used g c =
    let b = bounds-of (g.D.Counts.shape c.args.device.now) (g.met.D.VirtualPages.numbers c.args.device.now c.requires.formed) in
    let j = c.loop-kept.kept - 1 in
    let t = c.loop-kept-test.true in
    let few = c.loop-kept.invariant.few in
    let low : j ≤ length c.args.walk.now.path = omega (arith, t, few) in
    let u = used-at g.D.Counts c.args.device.now c.args.meta.now c.requires.runs b (take j c.args.walk.now.path) (get_or c.args.walk.now.nodes j 0) (node-at (graph_of (g.D.Counts.shape c.args.device.now) (running_on g.D.Counts c.args.device.now c.args.meta.now)) c.args.walk.now c.requires.way c.requires.begun j low) in
    subst (λ (ns : List ℕ). IsUsedNode g.D.Counts c.loop-kept.device c.loop-kept.meta (get_or ns j 0)) (sym c.nodes.ensures) (u.0, used-on g.D.Counts c.args.device.now c.args.meta.now c.loop-kept.device c.loop-kept.meta b c.loop-kept.invariant.kept (get_or c.args.walk.now.nodes j 0) u.0 u.1)

pub returns-in-Ok-Some-clause-place : goal.returns-in-Ok-Some-clause-place
returns-in-Ok-Some-clause-place g c =
    let b = bounds-of (g.D.Counts.shape c.args.device.now) (g.met.D.VirtualPages.numbers c.args.device.now c.requires.formed) in
    let j = c.loop-kept.kept - 1 in
    let t = c.loop-kept-test.true in
    let few = c.loop-kept.invariant.few in
    let low : j ≤ length c.args.walk.now.path = omega (arith, t, few) in
    let back : c.loop-kept.kept ≡ j + 1 = omega (arith, t) in
    let graph : Graph = graph_of (g.D.Counts.shape c.args.device.now) (running_on g.D.Counts c.args.device.now c.args.meta.now) in
    let at : slice_get c.args.walk.now.path j ≡ Some c.name_at-last.result.now = ap (λ (p : List (List ℕ)). slice_get p j) (sym c.path-in-loop-kept.ensures) ∙ c.name_at-last.ensures in
    let deeper : NoneUnder graph c.args.walk.now.path (take (j + 1) c.args.walk.now.path) = subst (λ (k : ℕ). NoneUnder graph c.args.walk.now.path (take k c.args.walk.now.path)) back c.loop-kept.invariant.under in
    let found : LeastBehind (graph_of (g.D.Counts.shape c.loop-kept.device) (running_on g.D.Counts c.loop-kept.device c.loop-kept.meta)) (get_or c.nodes.result.now j 0) c.name_at-last.result.now (Some c.in-Ok-Some.entry) =
    subst (λ (o : Option EntryRec). LeastBehind (graph_of (g.D.Counts.shape c.loop-kept.device) (running_on g.D.Counts c.loop-kept.device c.loop-kept.meta)) (get_or c.nodes.result.now j 0) c.name_at-last.result.now o) c.in-Ok-Some.field-0-is c.in-Ok-Some.ensures.least in
    let least = subst (λ (n : Graph). HasLeastBehind n (get_or c.nodes.result.now j 0) c.name_at-last.result.now c.in-Ok-Some.entry) (graph-stays g.D.Counts c.args.device.now c.args.meta.now c.loop-kept.device c.loop-kept.meta b c.loop-kept.invariant.kept) found in
    leads-beside graph c.args.walk.now c.requires.way c.requires.begun (entry-named (g.D.Counts.shape c.args.device.now) (running_on g.D.Counts c.args.device.now c.args.meta.now) c.requires.runs.entries c.requires.runs.nodes) j c.name_at-last.result.now at deeper c.in-Ok-Some.entry
    (subst (λ (ns : List ℕ). HasLeastBehind graph (get_or ns j 0) c.name_at-last.result.now c.in-Ok-Some.entry) c.nodes.ensures least)

pub returns-in-Ok-Some-clause-kept : goal.returns-in-Ok-Some-clause-kept
returns-in-Ok-Some-clause-kept g c =
    let b = bounds-of (g.D.Counts.shape c.args.device.now) (g.met.D.VirtualPages.numbers c.args.device.now c.requires.formed) in
    kept-then g.D.Counts c.args.device.now c.args.meta.now c.loop-kept.device c.loop-kept.meta b c.loop-kept.invariant.kept c.least_behind.new.device c.least_behind.new.meta c.in-Ok-Some.ensures.kept

pub loop-kept-preserved : goal.loop-kept-preserved
loop-kept-preserved g c =
    let b = bounds-of (g.D.Counts.shape c.args.device.now) (g.met.D.VirtualPages.numbers c.args.device.now c.requires.formed) in
    let j = c.loop-kept.kept - 1 in
    let t = c.loop-kept-test.true in
    let few = c.loop-kept.invariant.few in
    let low : j ≤ length c.args.walk.now.path = omega (arith, t, few) in
    let back : c.loop-kept.kept ≡ j + 1 = omega (arith, t) in
    let graph : Graph = graph_of (g.D.Counts.shape c.args.device.now) (running_on g.D.Counts c.args.device.now c.args.meta.now) in
    let at : slice_get c.args.walk.now.path j ≡ Some c.name_at-last.result.now = ap (λ (p : List (List ℕ)). slice_get p j) (sym c.path-in-loop-kept.ensures) ∙ c.name_at-last.ensures in
    let deeper : NoneUnder graph c.args.walk.now.path (take (j + 1) c.args.walk.now.path) = subst (λ (k : ℕ). NoneUnder graph c.args.walk.now.path (take k c.args.walk.now.path)) back c.loop-kept.invariant.under in
    let ok = c.in-Ok-None.ensures in
    let found : LeastBehind (graph_of (g.D.Counts.shape c.loop-kept.device) (running_on g.D.Counts c.loop-kept.device c.loop-kept.meta)) (get_or c.nodes.result.now j 0) c.name_at-last.result.now None =
    subst (λ (o : Option EntryRec). LeastBehind (graph_of (g.D.Counts.shape c.loop-kept.device) (running_on g.D.Counts c.loop-kept.device c.loop-kept.meta)) (get_or c.nodes.result.now j 0) c.name_at-last.result.now o) c.in-Ok-None.field-0-is ok.least in
    let none = subst (λ (n : Graph). HasNoneBehind n (get_or c.nodes.result.now j 0) c.name_at-last.result.now) (graph-stays g.D.Counts c.args.device.now c.args.meta.now c.loop-kept.device c.loop-kept.meta b c.loop-kept.invariant.kept) found in
    record {
      formed = ok.formed;
      kept = kept-then g.D.Counts c.args.device.now c.args.meta.now c.loop-kept.device c.loop-kept.meta b c.loop-kept.invariant.kept c.least_behind.new.device c.least_behind.new.meta ok.kept;
      faults = ok.reads ∙ c.loop-kept.invariant.faults;
      few = low;
      under = under-beside graph c.args.walk.now c.requires.way c.requires.begun (entry-named (g.D.Counts.shape c.args.device.now) (running_on g.D.Counts c.args.device.now c.args.meta.now) c.requires.runs.entries c.requires.runs.nodes) j c.name_at-last.result.now at deeper
          (subst (λ (ns : List ℕ). HasNoneBehind graph (get_or ns j 0) c.name_at-last.result.now) c.nodes.ensures none);
    }

pub returns-in-Err-clause-kept : goal.returns-in-Err-clause-kept
returns-in-Err-clause-kept g c =
    let b = bounds-of (g.D.Counts.shape c.args.device.now) (g.met.D.VirtualPages.numbers c.args.device.now c.requires.formed) in
    kept-then g.D.Counts c.args.device.now c.args.meta.now c.loop-kept.device c.loop-kept.meta b c.loop-kept.invariant.kept c.least_behind.new.device c.least_behind.new.meta c.in-Err.ensures.kept

pub returns-clause-place : goal.returns-clause-place
returns-clause-place g c =
    let t = c.loop-kept-test.false in
    under-root (graph_of (g.D.Counts.shape c.args.device.now) (running_on g.D.Counts c.args.device.now c.args.meta.now)) c.args.walk.now c.requires.way c.requires.begun c.loop-kept.kept (omega (arith, t)) c.loop-kept.invariant.under
