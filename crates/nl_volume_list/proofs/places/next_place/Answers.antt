use Rattle.std.proofs.Common.{◌≡◌, ℕ, List, [], Option, Some, None, length, take, get_or, sym, ap, subst, ◌∙◌, arith}
use Rattle.nl_field.specs.Graph.{Graph}
use Rattle.nl_field.specs.declared.entry.EntryRec.{EntryRec}
use Rattle.nl_meta.specs.Nodes.{graph_of}
use Rattle.nl_meta_running.specs.Running.{IsUsedNode, running_on}
use Rattle.nl_meta_running.proofs.Holds.{bounds-of}
use Rattle.nl_meta_running.proofs.Kept.{kept-then, runs-then}
use Rattle.nl_volume_list.specs.Entries.{HasLeastBehind, HasNoneBehind, LeastBehind}
use Rattle.nl_volume_list.specs.Onward.{NoneUnder}
use Rattle.nl_volume_list.proofs.Directories.{entry-named, graph-stays, used-at}
use Rattle.nl_volume_list.proofs.Leading.{leads-first, node-at, under-first, goes-as}
use Rattle.nl_volume_list.specs.Walks.{OnWay}
use Rattle.nl_volume_list.proofs.places.next_place.Goals as goal

pub least_behind-requires-clause-used : goal.least_behind-requires-clause-used
least_behind-requires-clause-used g c =
    let b = bounds-of (g.D.Counts.shape c.args.device.now) (g.met.D.VirtualPages.numbers c.args.device.now c.requires.formed) in
    let k = c.len-kept.result in
    let whole : k ≡ length c.args.walk.now.path = c.len-kept.ensures.count ∙ ap (λ (p : List (List ℕ)). length p) c.path.ensures in
    let u = used-at g.D.Counts c.args.device.now c.args.meta.now c.requires.runs b (take k c.args.walk.now.path) (get_or c.args.walk.now.nodes k 0) (node-at (graph_of (g.D.Counts.shape c.args.device.now) (running_on g.D.Counts c.args.device.now c.args.meta.now)) c.args.walk.now c.requires.way c.requires.begun k (omega (arith, whole))) in
    subst (λ (ns : List ℕ). IsUsedNode g.D.Counts c.args.device.now c.args.meta.now (get_or ns k 0)) (sym c.nodes.ensures) u

pub place_beside-requires-clause-runs : goal.place_beside-requires-clause-runs
place_beside-requires-clause-runs g c =
    let b = bounds-of (g.D.Counts.shape c.args.device.now) (g.met.D.VirtualPages.numbers c.args.device.now c.requires.formed) in
    runs-then g.D.Counts c.args.device.now c.args.meta.now c.least_behind.new.device c.least_behind.new.meta b c.in-Ok-None.ensures.kept c.requires.runs

pub place_beside-requires-clause-way : goal.place_beside-requires-clause-way
place_beside-requires-clause-way g c =
    let b = bounds-of (g.D.Counts.shape c.args.device.now) (g.met.D.VirtualPages.numbers c.args.device.now c.requires.formed) in
    subst (λ (n : Graph). OnWay n c.args.walk.now) (sym (graph-stays g.D.Counts c.args.device.now c.args.meta.now c.least_behind.new.device c.least_behind.new.meta b c.in-Ok-None.ensures.kept)) c.requires.way

pub place_beside-requires-clause-bare : goal.place_beside-requires-clause-bare
place_beside-requires-clause-bare g c =
    let b = bounds-of (g.D.Counts.shape c.args.device.now) (g.met.D.VirtualPages.numbers c.args.device.now c.requires.formed) in
    let k = c.len-kept.result in
    let whole : k ≡ length c.args.walk.now.path = c.len-kept.ensures.count ∙ ap (λ (p : List (List ℕ)). length p) c.path.ensures in
    let found : LeastBehind (graph_of (g.D.Counts.shape c.args.device.now) (running_on g.D.Counts c.args.device.now c.args.meta.now)) (get_or c.nodes.result.now k 0) [] None = subst (λ (o : Option EntryRec). LeastBehind (graph_of (g.D.Counts.shape c.args.device.now) (running_on g.D.Counts c.args.device.now c.args.meta.now)) (get_or c.nodes.result.now k 0) [] o) c.in-Ok-None.field-0-is c.in-Ok-None.ensures.least in
    subst (λ (n : Graph). NoneUnder n c.args.walk.now.path c.args.walk.now.path) (sym (graph-stays g.D.Counts c.args.device.now c.args.meta.now c.least_behind.new.device c.least_behind.new.meta b c.in-Ok-None.ensures.kept))
    (under-first (graph_of (g.D.Counts.shape c.args.device.now) (running_on g.D.Counts c.args.device.now c.args.meta.now)) c.args.walk.now c.requires.way c.requires.begun (entry-named (g.D.Counts.shape c.args.device.now) (running_on g.D.Counts c.args.device.now c.args.meta.now) c.requires.runs.entries c.requires.runs.nodes) k whole (subst (λ (ns : List ℕ). HasNoneBehind (graph_of (g.D.Counts.shape c.args.device.now) (running_on g.D.Counts c.args.device.now c.args.meta.now)) (get_or ns k 0) []) c.nodes.ensures found))

pub returns-in-Ok-Some-clause-place : goal.returns-in-Ok-Some-clause-place
returns-in-Ok-Some-clause-place g c =
    let k = c.len-kept.result in
    let whole : k ≡ length c.args.walk.now.path = c.len-kept.ensures.count ∙ ap (λ (p : List (List ℕ)). length p) c.path.ensures in
    let found : LeastBehind (graph_of (g.D.Counts.shape c.args.device.now) (running_on g.D.Counts c.args.device.now c.args.meta.now)) (get_or c.nodes.result.now k 0) [] (Some c.in-Ok-Some.entry) = subst (λ (o : Option EntryRec). LeastBehind (graph_of (g.D.Counts.shape c.args.device.now) (running_on g.D.Counts c.args.device.now c.args.meta.now)) (get_or c.nodes.result.now k 0) [] o) c.in-Ok-Some.field-0-is c.in-Ok-Some.ensures.least in
    leads-first (graph_of (g.D.Counts.shape c.args.device.now) (running_on g.D.Counts c.args.device.now c.args.meta.now)) c.args.walk.now c.requires.way c.requires.begun (entry-named (g.D.Counts.shape c.args.device.now) (running_on g.D.Counts c.args.device.now c.args.meta.now) c.requires.runs.entries c.requires.runs.nodes) k whole c.in-Ok-Some.entry (subst (λ (ns : List ℕ). HasLeastBehind (graph_of (g.D.Counts.shape c.args.device.now) (running_on g.D.Counts c.args.device.now c.args.meta.now)) (get_or ns k 0) [] c.in-Ok-Some.entry) c.nodes.ensures found)

pub returns-in-Ok-None-clause-place : goal.returns-in-Ok-None-clause-place
returns-in-Ok-None-clause-place g c = goes-as _ _ c.args.walk.now c.place_beside.result (graph-stays g.D.Counts c.args.device.now c.args.meta.now c.least_behind.new.device c.least_behind.new.meta (bounds-of (g.D.Counts.shape c.args.device.now) (g.met.D.VirtualPages.numbers c.args.device.now c.requires.formed)) c.in-Ok-None.ensures.kept) c.place_beside.ensures.place

pub returns-in-Ok-None-clause-kept : goal.returns-in-Ok-None-clause-kept
returns-in-Ok-None-clause-kept g c =
    let b = bounds-of (g.D.Counts.shape c.args.device.now) (g.met.D.VirtualPages.numbers c.args.device.now c.requires.formed) in
    kept-then g.D.Counts c.args.device.now c.args.meta.now c.least_behind.new.device c.least_behind.new.meta b c.in-Ok-None.ensures.kept c.place_beside.new.device c.place_beside.new.meta c.place_beside.ensures.kept
