-- A walk that goes on over a core.
use Rattle.std.proofs.Common.{◌≡◌, ◌≢◌, ℕ, zero, suc, ◌+◌, ◌<◌, ◌≤◌, Bool, true, false, List, [], ◌∷◌, ◌++◌, length, map, take, refl, sym, ap, subst, ◌∙◌, Some, None, ◌⊎◌, inl, inr, arith}
use Rattle.std.proofs.lemmas.List.{length-append, take_all}
use Rattle.std.specs.Prelude.{slice_get}
use Rattle.nl_field.specs.Graph.{Graph, NodeBody, file_node}
use Rattle.nl_field.specs.declared.inode.InodeRec.{InodeRec}
use Rattle.nl_files.specs.Answers.{IsPageStamp, LosesCount}
use Rattle.nl_files.specs.declared.answer.CountPages.TheVariants as counted
use Rattle.nl_iface.specs.Calls.{ReadsCounted}
use Rattle.nl_iface.specs.Device.{IsVolumeShape}
use Rattle.nl_iface.specs.declared.counts.Counts.{Ghosts}
use Rattle.nl_meta.specs.Committed.{VirtualMap}
use Rattle.nl_dir.proofs.LawProofs.{entries_in_order, right_is_directory}
use Rattle.nl_field.specs.declared.entry.EntryRec.{EntryRec}
use Rattle.nl_field.specs.declared.inode.Kind.TheVariants.{Dir}
use Rattle.nl_field.specs.declared.shape.Shape.{Shape}
use Rattle.nl_meta.specs.Consistent.{AddressesRight, EntriesRight, IsNode}
use Rattle.nl_meta.specs.Nodes.{entries_of_inode, graph_of, pointers_of_inode}
use Rattle.nl_spec_image.proofs.Sums.{length_mapped}
use Rattle.nl_volume_list.proofs.Giving.{body-is}
use Rattle.nl_meta_running.specs.Reading.{ReadsExplainStop}
use Rattle.nl_meta_running.specs.declared.answer.Stop.{Stop}
use Rattle.nl_meta_running.specs.declared.answer.Stop.TheVariants as stop
use Rattle.nl_meta_running.proofs.Holds.{bounds-of}
use Rattle.nl_core.specs.declared.state.Core.{Core}
use Rattle.nl_calls_steps.specs.Steps.{ReadsOn}
use Rattle.nl_tree.specs.Represents.{node_reached}
use Rattle.nl_tree.proofs.ChangeProofs.{root_reached}
use Rattle.nl_volume_list.specs.Next.{GaveAt, IsOnWay, IsItemOfFile, nodes_of}
use Rattle.nl_volume_list.specs.Onward.{LeadsOn, path_to}
use Rattle.nl_volume_list.specs.Walks.{OnWay, IsItemOfNode, WalkState, item_stop}
use Rattle.nl_volume_list.specs.declared.item.TreeItem.{TreeItem}
use Rattle.nl_volume_list.specs.declared.item.TreeItem.TheVariants as item
use Rattle.nl_volume_list.specs.declared.walk.Onward.{Onward}
use Rattle.nl_meta.proofs.Lists.{none_some, some_in}
use Rattle.nl_volume_list.proofs.Climbing.{Path}
use Rattle.nl_volume_list.proofs.Directories.{graph-stays}

-- ---- what is on the way

pub some-not : (x : ℕ) (xs : List ℕ) → x ∷ xs ≢ []
some-not x xs e = let n = ap (λ (ys : List ℕ). length ys) e in let off : ⊥ = omega (arith, n) in off

-- the root
pub root-way : (graph : Graph) (room : ℕ) → OnWay graph (record { path = []; nodes = 0 ∷ []; room = room })
root-way graph room = record { before = λ e. absurd (some-not 0 [] e); one_each = λ far. refl; reached = reached }
  where
    reached : (i n : ℕ) → slice_get (0 ∷ []) i ≡ Some n → node_reached graph 0 (take i []) ≡ Some n
    reached zero n e = root_reached graph ∙ e
    reached (suc i) n e = absurd (none_some n (none i e))
      where
        none : (i : ℕ) → slice_get [] i ≡ Some n → None ≡ Some n
        none i e = e

pub begun-root : (graph : Graph) (old new : WalkState) → OnWay graph old → old.nodes ≡ [] → new ≡ record old { nodes = 0 ∷ [] } → GaveAt graph old new []
begun-root graph old new way before is = record {
  path = ap (λ (w : WalkState). w.path) is ∙ way.before before;
  begun = λ e. some-not 0 [] (sym (ap (λ (w : WalkState). w.nodes) is) ∙ e);
  way = subst (λ (w : WalkState). OnWay graph w) (sym (is ∙ (λ i. record { path = way.before before i; nodes = 0 ∷ []; room = old.room }))) (root-way graph old.room);
  room = ap (λ (w : WalkState). w.room) is;
}

split : (xs : List ℕ) (k x i n : ℕ) → k ≤ length xs → slice_get (take k xs ++ x ∷ []) i ≡ Some n → ((i < k) × (slice_get xs i ≡ Some n)) ⊎ ((i ≡ k) × (x ≡ n))
split xs zero x zero n h e = inr (refl, some_in x n e)
split xs zero x (suc i) n h e = absurd (none_some n e)
split [] (suc k) x i n h e = absurd (let off : ⊥ = omega (arith, h) in off)
split (y ∷ xs) (suc k) x zero n h e = inl (omega arith, e)
split (y ∷ xs) (suc k) x (suc i) n h e = by (split xs k x i n (omega (arith, h)) e)
  where
    by : ((i < k) × (slice_get xs i ≡ Some n)) ⊎ ((i ≡ k) × (x ≡ n)) → ((suc i < suc k) × (slice_get xs i ≡ Some n)) ⊎ ((suc i ≡ suc k) × (x ≡ n))
    by (inl (a, b)) = inl (omega (arith, a), b)
    by (inr (a, b)) = inr (ap suc a, b)

take-less : (path : Path) (k i : ℕ) (name : List ℕ) → i ≤ k → k ≤ length path → take i (take k path ++ name ∷ []) ≡ take i path
take-less path k zero name a b = refl
take-less path zero (suc i) name a b = absurd (let off : ⊥ = omega (arith, a) in off)
take-less [] (suc k) (suc i) name a b = absurd (let off : ⊥ = omega (arith, b) in off)
take-less (y ∷ path) (suc k) (suc i) name a b = ap (λ (p : Path). y ∷ p) (take-less path k i name (omega (arith, a)) (omega (arith, b)))

took : {X : Type 0} (k : ℕ) (xs : List X) → k ≤ length xs → length (take k xs) ≡ k
took zero xs h = refl
took (suc k) [] h = absurd (let off : ⊥ = omega (arith, h) in off)
took (suc k) (x ∷ xs) h = ap suc (took k xs (omega (arith, h)))

pub names-count : (walk : WalkState) (to : Onward) → to.kept ≤ length walk.path → length (path_to walk to) ≡ to.kept + 1
names-count walk to h =
    let b = length-append (take to.kept walk.path) (to.entry.name ∷ []) in
    let c = took to.kept walk.path h in
    omega (arith, b, c)

-- the path of an entry
module _ (graph : Graph) (walk new : WalkState) (way : OnWay graph walk) (begun : walk.nodes ≢ []) (to : Onward) (leads : LeadsOn graph walk to)
    (path : new.path ≡ path_to walk to) (nodes : new.nodes ≡ take (to.kept + 1) walk.nodes ++ to.entry.ino ∷ []) where
  kept-nodes : to.kept + 1 ≤ length walk.nodes
  kept-nodes = let k = leads.kept in let n = way.one_each begun in omega (arith, k, n)

  many-nodes : length new.nodes ≡ to.kept + 2
  many-nodes =
      let a = ap (λ (ns : List ℕ). length ns) nodes in
      let b = length-append (take (to.kept + 1) walk.nodes) (to.entry.ino ∷ []) in
      let c = took (to.kept + 1) walk.nodes kept-nodes in
      omega (arith, a, b, c)

  many-names : length (path_to walk to) ≡ to.kept + 1
  many-names = names-count walk to leads.kept

  pub moved-begun : new.nodes ≢ []
  moved-begun e = let n = ap (λ (ns : List ℕ). length ns) e in let m = many-nodes in let off : ⊥ = omega (arith, n, m) in off

  pub moved-way : OnWay graph new
  moved-way = record {
    before = λ e. absurd (moved-begun e);
    one_each = λ far. (let n = many-nodes in let a = ap (λ (p : Path). length p) path in let m = many-names in omega (arith, n, a, m));
    reached = λ i n e. by i n (split walk.nodes (to.kept + 1) to.entry.ino i n kept-nodes (ap (λ (ns : List ℕ). slice_get ns i) (sym nodes) ∙ e));
  }
    where
      by : (i n : ℕ) → ((i < to.kept + 1) × (slice_get walk.nodes i ≡ Some n)) ⊎ ((i ≡ to.kept + 1) × (to.entry.ino ≡ n)) → node_reached graph 0 (take i new.path) ≡ Some n
      by i n (inl (low, at)) =
          ap (λ (p : Path). node_reached graph 0 (take i p)) path ∙ ap (node_reached graph 0) (take-less walk.path to.kept i to.entry.name (omega (arith, low)) leads.kept) ∙ way.reached i n at
      by i n (inr (is, at)) =
          let m = many-names in
          ap (λ (p : Path). node_reached graph 0 (take i p)) path ∙ ap (node_reached graph 0) (take_all i (path_to walk to) (omega (arith, is, m))) ∙ leads.reached ∙ ap (λ (k : ℕ). Some k) at

-- ---- over a core of which pages were read

module _ {D : Type 0} (g : Ghosts D) (u v : Core D) (volume : IsVolumeShape (g.shape u.device)) (on : ReadsOn g u v) where
  pub nodes-stay : nodes_of g v ≡ nodes_of g u
  nodes-stay = graph-stays g u.device u.meta v.device v.meta (bounds-of (g.shape u.device) volume) on.runs

  pub way-stays : (walk : WalkState) → IsOnWay g u walk → IsOnWay g v walk
  way-stays walk is = record {
    way = subst (λ (n : Graph). OnWay n walk) (sym nodes-stay) is.way;
    room = is.room ∙ sym (ap (λ s. s.nodes) on.runs.reads.medium.virtual.same_shape);
  }

  -- the walk goes on, or stays
  pub way-after : (old new : WalkState) (there : Path) (b : Bool) → IsOnWay g u old → (b ≡ true → GaveAt (nodes_of g u) old new there) → (b ≡ false → new ≡ old) → IsOnWay g v new
  way-after old new there true is gave stays =
      let h = gave refl in
      way-stays new (record { way = h.way; room = h.room ∙ is.room })
  way-after old new there false is gave stays = subst (λ (w : WalkState). IsOnWay g v w) (sym (stays refl)) (way-stays old is)

-- ---- what is told

pub told-file : (body : NodeBody) (pages : VirtualMap) (rec : InodeRec) (answer : TreeItem) → body ≡ file_node rec.size (pointers_of_inode pages rec) → IsItemOfFile pages rec answer → IsItemOfNode body answer
told-file body pages rec (item.Dir k) is told = absurd told
told-file body pages rec (item.File size k) is told = (pointers_of_inode pages rec, is ∙ ap (λ (s : ℕ). file_node s (pointers_of_inode pages rec)) (sym told.0), told.1)
told-file body pages rec item.End is told = absurd told
told-file body pages rec item.Fault is told = tt
told-file body pages rec (item.Lost w f) is told = tt

pub told-dir : (shape : Shape) (pages : VirtualMap) (n : ℕ) (rec : InodeRec) (k : ℕ) → AddressesRight shape pages → EntriesRight shape pages → IsNode shape pages n rec → rec.kind ≡ Dir → k ≡ rec.size → IsItemOfNode (graph_of shape pages n).body (item.Dir k)
told-dir shape pages n rec k addresses entries is dir e = (
  map (λ (x : EntryRec). (x.name, x.ino)) (entries_of_inode pages rec),
  body-is shape pages n rec is Dir dir,
  e ∙ sym (entries_in_order pages rec (right_is_directory shape pages n rec addresses entries is dir)).count ∙ sym (length_mapped {Y = List ℕ × ℕ} (λ (x : EntryRec). (x.name, x.ino)) (entries_of_inode pages rec)),
)

-- where pages could not be read, nothing is told
pub told-none : (body : NodeBody) (answer : TreeItem) (s : Stop) → item_stop answer ≡ Some s → IsItemOfNode body answer
told-none body (item.Dir k) s e = absurd (none_some s e)
told-none body (item.File size k) s e = absurd (none_some s e)
told-none body item.End s e = absurd (none_some s e)
told-none body item.Fault s e = tt
told-none body (item.Lost w f) s e = tt

pages-no-fault : (n : ℕ) → counted.Pages n ≡ counted.Fault → ⊥
pages-no-fault n e = cc

lost-no-fault : (w f : ℕ) → counted.Lost w f ≡ counted.Fault → ⊥
lost-no-fault w f e = cc

module _ {D : Type 0} (g : Ghosts D) (s t : D) where
  pub reads-pages : (n : ℕ) → ReadsCounted g (counted.Pages n ≡ counted.Fault) s t → ReadsExplainStop g s t None
  reads-pages n c = c.stays tt (pages-no-fault n)

  pub reads-lost : (rec : InodeRec) (w f : ℕ) → ReadsCounted g (counted.Lost w f ≡ counted.Fault) s t → LosesCount (IsPageStamp (g.stamps s) rec) (counted.Lost w f) → (g.tells → ⊥) → ReadsExplainStop g s t (Some (stop.Lost w f))
  reads-lost rec w f c lost silent = (c.stays tt (lost-no-fault w f), (_, lost.0.stamp), lost.1, silent)

  pub reads-fault : ReadsCounted g (counted.Fault ≡ counted.Fault) s t → ReadsExplainStop g s t (Some stop.Fault)
  reads-fault c = record { never_falls = c.never_falls; cause = λ u. c.cause refl; once = λ u v. c.once u refl; stays = λ u f. absurd (f tt) }
