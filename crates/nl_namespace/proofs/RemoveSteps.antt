-- A name that is taken from a node, in a volume that runs over a device.
use Rattle.std.proofs.Common.{◌≡◌, ◌≢◌, ℕ, ◌+◌, ◌%◌, ◌≤◌, ◌<◌, Bool, true, false, cond, List, [], map, filter_map, refl, sym, ap, subst, ◌∙◌, Option, Some, None, option_map, is_some, ◌⊎◌, inl, inr, arith}
use Rattle.std.proofs.lemmas.Bool.{cases_eq}
use Rattle.std.specs.List.{range_with_len}
use Rattle.std.specs.Ordering.{eq_by_cmp, nat_cmp}
use Rattle.std.specs.Cmp.Lexicographic.{slice_cmp}
use Rattle.nl_field.specs.EntryRecord.{entry_of}
use Rattle.nl_field.specs.Graph.{Graph, GraphNode, NodeBody}
use Rattle.nl_field.specs.Members.{Has}
use Rattle.nl_field.specs.Numbers.{ShapeBounds}
use Rattle.nl_field.specs.declared.entry.EntryRec.{EntryRec}
use Rattle.nl_field.specs.declared.inode.InodeRec.{InodeRec}
use Rattle.nl_field.specs.declared.inode.Kind.{Kind}
use Rattle.nl_field.specs.declared.inode.Kind.TheVariants.{Dir, File, Unused}
use Rattle.nl_field.specs.declared.shape.Shape.{Shape}
use Rattle.nl_iface.specs.Device.{IsVolumeShape}
use Rattle.nl_iface.specs.declared.counts.Counts.{Ghosts}
use Rattle.nl_meta.specs.Committed.{VirtualMap}
use Rattle.nl_meta.specs.Consistent.{AddressAt, AddressesRight, EntriesRight, GoodAddress, IsNode}
use Rattle.nl_meta.specs.Nodes.{body_of, bytes_of_place, entries_of_inode, graph_of, held_by, inode_at}
use Rattle.nl_meta.specs.Pages.{Pages, page_of}
use Rattle.nl_meta.specs.Running.{running_over}
use Rattle.nl_meta.proofs.Lists.{none_some, some_in}
use Rattle.nl_meta.proofs.SlotProofs.{one_slot}
use Rattle.nl_inode.specs.FreeLaws.{NodeIs}
use Rattle.nl_inode.specs.Nodes.{Spaces, page_of_node}
use Rattle.nl_dir.specs.Directory.{IsDirectory}
use Rattle.nl_dir.specs.ListLaws.{Lists}
use Rattle.nl_dir.proofs.ListProofs.{entries_by_lists}
use Rattle.nl_tree.specs.GraphChanges.{RemovesEntry}
use Rattle.nl_tree.specs.GraphLaws.{NamedOnce, entry_at}
use Rattle.nl_tree.specs.Represents.{entries_in, node_named, node_of}
use Rattle.nl_tree.proofs.ChangeProofs.{graph_changes}
use Rattle.nl_tree.proofs.GraphProofs.{eq_name, name_eq, names_eq}
use Rattle.nl_meta_running.specs.Running.{IsNeeded, IsNodeOf, RunningIsRight, stored_on}
use Rattle.nl_meta_running.proofs.Holds.{bounds-of, reads-none}
use Rattle.nl_namespace.specs.Changing.{Changes, FreeFits}
use Rattle.nl_namespace.specs.Entering.{TakesOut}
use Rattle.nl_namespace.specs.Naming.{LosesName}
use Rattle.nl_namespace.specs.Placing.{IsPlaceOfPath}
use Rattle.nl_namespace.specs.declared.place.Place.{Place}
use Rattle.nl_namespace.proofs.DirectoryChanges.{one-node}
use Rattle.nl_namespace.proofs.Links.{Led, listed-entry, lists-of-graph}
use Rattle.nl_namespace.proofs.NodeChanges.{Formed, SameBut, graph-at, graph-other, node-back, node-other, own-other}
use Rattle.nl_namespace.proofs.DirectorySteps.{dir-body, dir-entry, dir-node}
use Rattle.nl_namespace.proofs.EntrySteps.{taken-step}
use Rattle.nl_namespace.proofs.MakeSteps.{fits-of, led, once, state-of}
use Rattle.nl_namespace.proofs.PointersStay.{held-dir, tagged-same}
use Rattle.nl_namespace.proofs.States.{AllGood, Follows, State}
use Rattle.nl_namespace.proofs.Taking.{gives-of, takes-given}
use Rattle.nl_namespace.proofs.TakeSteps.{fewer-uses, take-at, take-back, take-dir, take-else, take-follows, take-node, take-others, take-state}

at-node : (old new : Graph) (k : ℕ) → new k ≡ old k → (x : List ℕ) → entry_at new k x ≡ entry_at old k x
at-node old new k e x = ap (λ (z : GraphNode). entry_at (λ i. z) k x) e

-- ---- a node without a name that is unused from then on

module _ (shape : Shape) (bounds : ShapeBounds shape) (two after : VirtualMap) (m : ℕ) (rec : InodeRec) (formed : Formed shape two) (good : AllGood shape two) (below : m < shape.nodes) (unused : rec.kind ≡ Unused) (is : NodeIs m rec two after)
    (unnamed : (k : ℕ) (x : List ℕ) → entry_at (graph_of shape two) k x ≢ Some m) (childless : (x : List ℕ) → entry_at (graph_of shape two) m x ≡ None)
    (once : NamedOnce (graph_of shape two)) (led : (k : ℕ) (r : InodeRec) → IsNode shape two k r → k ≢ m → Led (graph_of shape two) k) where
  same : SameBut shape m two after
  same = record {
    nodes = λ k h far. one_slot.node (page_of_node m) (m % 16) two after is.others k (λ x y. far (one-node k m x y));
    pages = λ k slot a far at. is.others.others a (high a (formed.addresses.good k slot a at).from_pool);
  }
    where
      high : (a : ℕ) → 67 + shape.inode_pages ≤ a → a ≢ page_of_node m
      high a h e = let f = bounds.places in omega (arith, h, e, f, below)

  not-node : (k : ℕ) (r : InodeRec) → IsNode shape after k r → k ≢ m
  not-node k r at e = at.used (ap (λ (z : InodeRec). z.kind) (some_in r rec (sym at.spelled ∙ ap (inode_at after) e ∙ is.at)) ∙ unused)

  back : (k : ℕ) (r : InodeRec) → IsNode shape after k r → IsNode shape two k r
  back k r at = node-back shape bounds two after m same k r (not-node k r at) at

  address : (k slot a : ℕ) → AddressAt shape after k slot a → AddressAt shape two k slot a
  address k slot a x = record { rec = x.rec; is_node = back k x.rec x.is_node; in_slot = x.in_slot; not_zero = x.not_zero }

  addresses : AddressesRight shape after
  unfolding address
  addresses = record {
    good = λ k slot a x. moved k slot a x (formed.addresses.good k slot a (address k slot a x));
    one_use = λ k i l j a x y. formed.addresses.one_use k i l j a (address k i a x) (address l j a y);
  }
    where
      moved : (k slot a : ℕ) (x : AddressAt shape after k slot a) → GoodAddress shape two x.rec.kind a → GoodAddress shape after x.rec.kind a
      moved k slot a x g = record {
        from_pool = g.from_pool;
        in_pool = g.in_pool;
        bytes = g.bytes;
        committed = same.pages k slot a (not-node k x.rec x.is_node) (address k slot a x) ∙ g.committed;
        spelled = g.spelled;
      }

  directories : (d : ℕ) (r : InodeRec) → IsNode shape after d r → r.kind ≡ Dir → IsDirectory after r
  directories d r at dir = (own-other shape bounds two after m same d r (not-node d r at) (back d r at) dir).directory (formed.directories d r (back d r at) dir)

  lists-back : (k : ℕ) (e : EntryRec) → Lists shape after k e → Lists shape two k e
  lists-back k e l = record {
    rec = l.rec;
    is_node = back k l.rec l.is_node;
    is_dir = l.is_dir;
    has = subst (λ (es : List EntryRec). Has es e) (own-other shape bounds two after m same k l.rec (not-node k l.rec l.is_node) (back k l.rec l.is_node) l.is_dir).entries l.has;
  }

  good-after : AllGood shape after
  good-after k e l =
      let was = lists-back k e l in
      let g = good k e was in
      let far : e.ino ≢ m = λ h. unnamed k e.name (listed-entry shape two formed.directories k e was ∙ ap (λ (i : ℕ). Some i) h) in
      record { no_root = g.no_root; target = g.target; is_node = node-other shape bounds two after m same e.ino g.target far g.is_node; generation = g.generation }

  childless-after : (x : List ℕ) → entry_at (graph_of shape after) m x ≡ None
  childless-after x =
      ap (λ (n : GraphNode). node_named x (entries_in n.body)) (graph-at shape after m rec below is.at)
      ∙ ap (λ (k : Kind). node_named x (entries_in (body_of after rec k))) unused

  entries-same : (k : ℕ) (x : List ℕ) → entry_at (graph_of shape after) k x ≡ entry_at (graph_of shape two) k x
  entries-same k x = by (cases_eq k m)
    where
      by : (k ≡ m) ⊎ (k ≡ m → ⊥) → entry_at (graph_of shape after) k x ≡ entry_at (graph_of shape two) k x
      by (inl e) = ap (λ (i : ℕ). entry_at (graph_of shape after) i x) e ∙ childless-after x ∙ sym (childless x) ∙ ap (λ (i : ℕ). entry_at (graph_of shape two) i x) (sym e)
      by (inr far) = at-node (graph_of shape two) (graph_of shape after) k (graph-other shape bounds two after m same k far) x

  led-same : (k : ℕ) → Led (graph_of shape two) k → Led (graph_of shape after) k
  led-same k Led.at_root = Led.at_root
  led-same k (Led.by_entry d j x e l) = Led.by_entry d k x (entries-same d x ∙ e) (led-same d l)

  pub right-without : EntriesRight shape after
  right-without = (entries_by_lists shape after addresses).1
      (lists-of-graph shape after directories good-after (graph_changes.once_kept (graph_of shape two) (graph_of shape after) entries-same once)
      (λ k r at. led-same k (led k r (back k r at) (not-node k r at))))

no-entries : (pages : VirtualMap) (rec : InodeRec) → rec.size ≡ 0 → entries_of_inode pages rec ≡ []
unfolding entries_of_inode
no-entries pages rec e = ap (λ (n : ℕ). filter_map (λ i. entry_of (bytes_of_place pages rec i)) (range_with_len 0 n)) e

-- a file, or a directory of no size, has no entries
pub bare-childless : (shape : Shape) (pages : VirtualMap) (m : ℕ) (target : InodeRec) → IsNode shape pages m target → target.kind ≡ File ⊎ ((target.kind ≡ Dir) × (target.size ≡ 0)) → (x : List ℕ) → entry_at (graph_of shape pages) m x ≡ None
bare-childless shape pages m target is bare x = by bare
  where
    by : target.kind ≡ File ⊎ ((target.kind ≡ Dir) × (target.size ≡ 0)) → entry_at (graph_of shape pages) m x ≡ None
    by (inl f) = ap (λ (n : GraphNode). node_named x (entries_in n.body)) (graph-at shape pages m target is.below is.spelled) ∙ ap (λ (k : Kind). node_named x (entries_in (body_of pages target k))) f
    by (inr d) = ap (λ (b : NodeBody). node_named x (entries_in b)) (dir-body shape pages m target is d.0) ∙ ap (λ (es : List EntryRec). node_named x (map (λ e. (e.name, e.ino)) es)) (no-entries pages target d.1)

-- a page that is not resident was not before
pub gone-before : (device : VirtualMap) (p q : Pages) (n : ℕ) → Follows device p q n → (v : ℕ) → page_of q v ≡ None → page_of p v ≡ None
gone-before device p q n follows v e = of (page_of p v) refl
  where
    not-there : false ≡ true → ⊥
    not-there e = cc

    of : (o : Option (List ℕ)) → page_of p v ≡ o → o ≡ None
    of None f = refl
    of (Some b) f = absurd (not-there (ap is_some (sym e) ∙ follows.there v (ap is_some f)))

-- ---- an entry taken out, and its node without a name

module _ {D : Type 0} (g : Ghosts D) (s : D) (p q : Pages) (free after : Spaces) (volume : IsVolumeShape (g.shape s)) (runs : RunningIsRight g s p) (fits : FreeFits g s p free) (path : List (List ℕ)) (place : Place) (at : IsPlaceOfPath g s p path place)
    (entry : EntryRec) (named : place.entry ≡ Some entry) (target : InodeRec) (is : IsNodeOf g s p entry.ino target) (bare : target.kind ≡ File ⊎ ((target.kind ≡ Dir) × (target.size ≡ 0))) (takes : TakesOut place.dir at.name p q free after) where
  abbrev shape : Shape
  shape = g.shape s

  bounds : ShapeBounds shape
  bounds = bounds-of (g.shape s) volume

  abbrev device : VirtualMap
  device = stored_on g s

  abbrev one : VirtualMap
  one = running_over device p

  abbrev two : VirtualMap
  two = running_over device q

  abbrev n : ℕ
  n = place.dir

  abbrev m : ℕ
  m = entry.ino

  abbrev g0 : Graph
  g0 = graph_of shape one

  abbrev g2 : Graph
  g2 = graph_of shape two

  state : State shape device p free
  state = state-of g s p runs free fits

  state2 : State shape device q after
  state2 = take-state shape bounds device n at.name p q free after state at.is_node.below takes

  was : entry_at g0 n at.name ≡ Some m
  was = dir-entry shape one n place.rec at.is_node at.is_dir at.name ∙ ap (option_map (λ (e : EntryRec). e.ino)) (at.entry ∙ named)

  -- the node has no entries
  childless : (x : List ℕ) → entry_at g0 m x ≡ None
  childless = bare-childless shape one m target is bare

  dir-is : m ≢ n
  dir-is e = none_some m (sym (childless at.name) ∙ ap (λ (k : ℕ). entry_at g0 k at.name) e ∙ was)

  others : (k : ℕ) → k ≢ n → g2 k ≡ g0 k
  others k far = take-others shape bounds device n at.name p q free after state at.is_node.below takes k far

  there : (x : List ℕ) → entry_at g2 n x ≡ cond (eq_by_cmp (slice_cmp nat_cmp) x at.name) None (entry_at g0 n x)
  there x = by (names_eq x at.name) refl
    where
      by : (b : Bool) → names_eq x at.name ≡ b → entry_at g2 n x ≡ cond b None (entry_at g0 n x)
      by true e = ap (entry_at g2 n) (eq_name x at.name e) ∙ take-at shape bounds device n at.name p q free after state at.is_node.below takes
      by false e = take-else shape bounds device n at.name p q free after state at.is_node.below takes x (λ same. other (sym e ∙ name_eq x at.name same))
        where
          other : false ≡ true → ⊥
          other e = cc

  bare-after : (x : List ℕ) → entry_at g2 m x ≡ None
  bare-after x = at-node g0 g2 m (others m dir-is) x ∙ childless x

  body : (bytes_of : ℕ → List ℕ) (k : ℕ) → (k ≡ n) ⊎ (k ≡ n → ⊥) → node_of bytes_of (g2 k).body ≡ node_of bytes_of (g0 k).body
  body bytes_of k (inr far) = ap (λ (z : GraphNode). node_of bytes_of z.body) (others k far)
  body bytes_of k (inl e) =
      ap (λ (i : ℕ). node_of bytes_of (g2 i).body) e
      ∙ dir-node shape two n _ (take-dir shape bounds device n at.name p q free after state at.is_node.below takes) takes.has.directory.places.is_dir bytes_of
      ∙ sym (dir-node shape one n place.rec at.is_node at.is_dir bytes_of) ∙ sym (ap (λ (i : ℕ). node_of bytes_of (g0 i).body) e)

  pub removes : (bytes_of : ℕ → List ℕ) → RemovesEntry bytes_of bytes_of g0 g2 n m at.name
  removes bytes_of = record {
    was = was;
    was_childless = childless;
    there = there;
    childless = bare-after;
    others = λ k x far off. at-node g0 g2 k (others k far) x;
    bodies_stay = λ k off. body bytes_of k (cases_eq k n);
  }

  pub loses-name : LosesName g0 g2 path m
  loses-name = record { n = n; name = at.name; place = at.named; removes = removes }

  -- the entries that are left
  kept : (d k : ℕ) (x : List ℕ) → entry_at g2 d x ≡ Some k → entry_at g0 d x ≡ Some k
  kept d k x e = by (cases_eq d n)
    where
      by : (d ≡ n) ⊎ (d ≡ n → ⊥) → entry_at g0 d x ≡ Some k
      by (inr far) = sym (at-node g0 g2 d (others d far) x) ∙ e
      by (inl h) = ap (λ (i : ℕ). entry_at g0 i x) h ∙ of (names_eq x at.name) (sym (there x) ∙ ap (λ (i : ℕ). entry_at g2 i x) (sym h) ∙ e)
        where
          of : (b : Bool) → cond b None (entry_at g0 n x) ≡ Some k → entry_at g0 n x ≡ Some k
          of true f = absurd (none_some k f)
          of false f = f

  unnamed : (k : ℕ) (x : List ℕ) → entry_at g2 k x ≢ Some m
  unnamed k x e =
      let o = (once g s p runs).once k n m x at.name (kept k m x e) was in
      none_some m (sym (there x ∙ ap (λ (b : Bool). cond b None (entry_at g0 n x)) (name_eq x at.name o.1)) ∙ ap (λ (i : ℕ). entry_at g2 i x) (sym o.0) ∙ e)

  led-kept : (k : ℕ) → k ≢ m → Led g0 k → Led g2 k
  led-kept k off Led.at_root = Led.at_root
  led-kept k off (Led.by_entry d j x e l) = Led.by_entry d k x (still (cases_eq d n)) (led-kept d (λ h. none_some k (sym (childless x) ∙ ap (λ (i : ℕ). entry_at g0 i x) (sym h) ∙ e)) l)
    where
      still : (d ≡ n) ⊎ (d ≡ n → ⊥) → entry_at g2 d x ≡ Some k
      still (inr far) = at-node g0 g2 d (others d far) x ∙ e
      still (inl h) = ap (λ (i : ℕ). entry_at g2 i x) h ∙ there x ∙ of (names_eq x at.name) refl
        where
          of : (b : Bool) → names_eq x at.name ≡ b → cond b None (entry_at g0 n x) ≡ Some k
          of true f = absurd (off (some_in k m (sym e ∙ ap (λ (i : ℕ). entry_at g0 i x) h ∙ ap (entry_at g0 n) (eq_name x at.name f) ∙ was)))
          of false f = ap (λ (i : ℕ). entry_at g0 i x) (sym h) ∙ e

  led-after : (k : ℕ) (r : InodeRec) → IsNode shape two k r → k ≢ m → Led g2 k
  led-after k r at2 off = by (cases_eq k n)
    where
      by : (k ≡ n) ⊎ (k ≡ n → ⊥) → Led g2 k
      by (inl e) = subst (Led g2) (sym e) (led-kept n (λ h. dir-is (sym h)) (led g s p runs n place.rec at.is_node))
      by (inr far) = led-kept k off (led g s p runs k r (take-back shape bounds device n at.name p q free after state at.is_node.below takes k r far at2))

  follows : Follows device p q 3
  follows = take-follows shape bounds device n at.name p q free after state at.is_node.below takes

  once-after : NamedOnce g2
  once-after = graph_changes.once_removed (λ v. []) (λ v. []) g0 g2 n m at.name (once g s p runs) (removes (λ v. []))

  -- the pointers of each node
  held : (k : ℕ) → (k ≡ n) ⊎ (k ≡ n → ⊥) → held_by k (g2 k) ≡ held_by k (g0 k)
  held k (inr far) = ap (held_by k) (others k far)
  held k (inl e) = ap (λ (i : ℕ). held_by i (g2 i)) e ∙ held-dir n (g0 n) (g2 n) (dir-node shape one n place.rec at.is_node at.is_dir (λ v. [])) (body (λ v. []) n (inl refl)) ∙ sym (ap (λ (i : ℕ). held_by i (g0 i)) e)

  generation-stays : (k : ℕ) → (g2 k).generation ≡ (g0 k).generation
  generation-stays = (taken-step shape bounds device n p q free after state at.is_node.below at.name takes).generations

  pub removed-changes : Changes g s p free s q after (Some m)
  removed-changes = record {
    reads = reads-none g s;
    frozen = follows.frozen;
    pages = follows.pages;
    few = let f = follows.few in omega (arith, f);
    runs = record {
      count = state2.count;
      nodes = state2.formed.nodes;
      addresses = state2.formed.addresses;
      entries = λ rec left unused node-is. right-without shape bounds two left m rec state2.formed state2.good is.below unused node-is unnamed bare-after once-after led-after;
      absent = absent-after;
      clean = λ told. follows.clean (runs.clean told);
    };
    fits = fits-of g s q after state2;
    takes = takes-given free after g0 g2 (gives-of takes.given free after takes.gives) generation-stays;
    files = λ k rec k-is file.
        let far = file-other k rec k-is file in
        record { is_node = take-node shape bounds device n at.name p q free after state at.is_node.below takes k rec far k-is; graph = others k far };
    pointers = tagged-same shape one two (λ k. held k (cases_eq k n));
  }
    where
      absent-after : (v : ℕ) → IsNeeded shape two v → page_of q v ≡ None → g.tells
      absent-after v (inl e) gone = runs.absent v (inl e) (gone-before device p q 3 follows v gone)
      absent-after v (inr u) gone = runs.absent v (inr (fewer-uses shape bounds device n at.name p q free after state at.is_node.below takes v u)) (gone-before device p q 3 follows v gone)

      file-other : (k : ℕ) (rec : InodeRec) → IsNodeOf g s p k rec → rec.kind ≡ File → k ≢ n
      file-other k rec k-is file e = dir-file (sym at.is_dir ∙ ap (λ (r : InodeRec). r.kind) (some_in place.rec rec (sym at.is_node.spelled ∙ ap (inode_at one) (sym e) ∙ k-is.spelled)) ∙ file)
        where
          dir-file : Dir ≡ File → ⊥
          dir-file e = cc
