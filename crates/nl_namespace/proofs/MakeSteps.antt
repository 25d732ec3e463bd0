-- A node under a new name, in a volume that runs over a device.
use Rattle.std.proofs.Common.{◌≡◌, ◌≢◌, ℕ, ◌+◌, ◌%◌, ◌^◌, ◌<◌, Bool, true, false, cond, List, [], refl, sym, ap, subst, ◌∙◌, Option, Some, None, option_map, is_some, IsSome, ◌⊎◌, inl, inr, arith}
use Rattle.std.proofs.lemmas.Bool.{cases_eq}
use Rattle.std.specs.Ordering.{eq_by_cmp, nat_cmp}
use Rattle.std.specs.Cmp.Lexicographic.{slice_cmp}
use Rattle.nl_field.specs.Graph.{Graph, GraphNode}
use Rattle.nl_field.specs.Numbers.{ShapeBounds}
use Rattle.nl_field.specs.declared.entry.EntryRec.{EntryRec}
use Rattle.nl_field.specs.declared.inode.InodeRec.{InodeRec}
use Rattle.nl_field.specs.declared.inode.Kind.{Kind}
use Rattle.nl_field.specs.declared.inode.Kind.TheVariants.{Dir, File, Unused}
use Rattle.nl_field.specs.declared.shape.Shape.{Shape}
use Rattle.nl_iface.specs.Device.{IsVolumeShape}
use Rattle.nl_iface.specs.declared.counts.Counts.{Ghosts}
use Rattle.nl_meta.specs.Committed.{VirtualMap}
use Rattle.nl_meta.specs.Consistent.{GoodEntry, IsNode}
use Rattle.nl_meta.specs.Nodes.{graph_of, held_by, inode_at}
use Rattle.nl_meta.specs.Pages.{Pages, page_of}
use Rattle.nl_meta.specs.Running.{running_over}
use Rattle.nl_meta.proofs.Lists.{none_some, some_in}
use Rattle.nl_inode.specs.Free.{IsLeastFreeNumber}
use Rattle.nl_inode.specs.FreeLaws.{UsesAddress}
use Rattle.nl_inode.specs.Nodes.{Spaces, is_free_node, page_of_node, taken_as}
use Rattle.nl_inode.proofs.MarkTree.{set-below}
use Rattle.nl_dir.specs.ListLaws.{ListsRight}
use Rattle.nl_dir.proofs.ListProofs.{entries_by_lists}
use Rattle.nl_tree.specs.GraphLaws.{AddsEntry, NamedOnce, entry_at}
use Rattle.nl_tree.specs.Represents.{node_of}
use Rattle.nl_tree.proofs.ChangeProofs.{graph_changes}
use Rattle.nl_tree.proofs.GraphProofs.{eq_name, name_eq, names_eq}
use Rattle.nl_meta_running.specs.Running.{IsNeeded, IsNodeOf, RunningIsRight, running_on, stored_on}
use Rattle.nl_meta_running.proofs.Holds.{bounds-of, reads-none}
use Rattle.nl_namespace.specs.Changing.{Changes, FileStays, FreeFits}
use Rattle.nl_namespace.specs.Making.{MakesIn, empty_node}
use Rattle.nl_namespace.specs.Naming.{MakesName}
use Rattle.nl_namespace.specs.Placing.{IsPlaceOfPath}
use Rattle.nl_namespace.specs.Taking.{TakesLeast}
use Rattle.nl_namespace.specs.declared.place.Place.{Place}
use Rattle.nl_namespace.proofs.DirectorySteps.{dir-entry, dir-node}
use Rattle.nl_namespace.proofs.EntrySteps.{put-step}
use Rattle.nl_namespace.proofs.Links.{Led, entry-listed, led-of-lists, lists-of-graph, once-of-lists}
use Rattle.nl_namespace.proofs.NodeChanges.{graph-at}
use Rattle.nl_namespace.proofs.NodeSteps.{new-back, new-body, new-childless, new-follows, new-keeps, new-node, new-others, new-state, new-uses, not-root}
use Rattle.nl_namespace.proofs.PointersStay.{held-bare, held-dir, held-unused, no-page, pages-of, tagged-same}
use Rattle.nl_namespace.proofs.PutSteps.{node-over, put-at, put-back, put-dir, put-else, put-follows, put-needs, put-node, put-others, put-state}
use Rattle.nl_namespace.proofs.States.{Follows, State, follows-then}
use Rattle.nl_namespace.proofs.Taking.{takes-number, takes-of}

-- ---- any volume

module _ {D : Type 0} (g : Ghosts D) (s : D) (p : Pages) (runs : RunningIsRight g s p) where
  pub lists : ListsRight (g.shape s) (running_on g s p)
  lists = (entries_by_lists (g.shape s) (running_on g s p) runs.addresses).0 runs.entries

  pub state-of : (free : Spaces) → FreeFits g s p free → State (g.shape s) (stored_on g s) p free
  state-of free fits = record {
    count = runs.count;
    formed = record { nodes = runs.nodes; addresses = runs.addresses; directories = lists.directories };
    good = lists.good;
    count_nodes = fits.count_nodes;
    count_pool = fits.count_pool;
    nodes = fits.nodes;
    pool = fits.pool;
  }

  pub once : NamedOnce (graph_of (g.shape s) (running_on g s p))
  once = once-of-lists (g.shape s) (running_on g s p) lists.directories lists

  pub led : (n : ℕ) (rec : InodeRec) → IsNodeOf g s p n rec → Led (graph_of (g.shape s) (running_on g s p)) n
  led n rec is = led-of-lists (g.shape s) (running_on g s p) lists.directories n (lists.reached n rec is)

pub fits-of : {D : Type 0} (g : Ghosts D) (s : D) (p : Pages) (free : Spaces) → State (g.shape s) (stored_on g s) p free → FreeFits g s p free
fits-of g s p free state = record { count_nodes = state.count_nodes; count_pool = state.count_pool; nodes = state.nodes; pool = state.pool }

module _ {D : Type 0} (g : Ghosts D) (s : D) (p q : Pages) (free after : Spaces) (volume : IsVolumeShape (g.shape s)) (runs : RunningIsRight g s p) (fits : FreeFits g s p free) (path : List (List ℕ)) (place : Place) (at : IsPlaceOfPath g s p path place)
    (absent : place.entry ≡ None) (m : ℕ) (kind : Kind) (used : kind ≢ Unused) (least : IsLeastFreeNumber m free.nodes) (there : IsSome (page_of p (page_of_node m))) (makes : MakesIn place.dir m kind at.name p q free after) where
  abbrev shape : Shape
  shape = g.shape s

  bounds : ShapeBounds shape
  bounds = bounds-of (g.shape s) volume

  abbrev device : VirtualMap
  device = stored_on g s

  abbrev one : VirtualMap
  one = running_over device p

  abbrev mid : VirtualMap
  mid = running_over device makes.between

  abbrev two : VirtualMap
  two = running_over device q

  abbrev n : ℕ
  n = place.dir

  is-free : is_free_node free m ≡ true
  is-free = least.free_itself

  below : m < shape.nodes
  below = let h = set-below free.nodes m is-free in let c = fits.count_nodes in omega (arith, h, c)

  unused : (rec : InodeRec) → IsNode shape one m rec → ⊥
  unused = (fits.nodes.each m below).0 is-free

  dir-is : n ≢ m
  dir-is e = unused place.rec (subst (λ (k : ℕ). IsNode shape one k place.rec) e at.is_node)

  state : State shape device p free
  state = state-of g s p runs free fits

  state1 : State shape device makes.between makes.free
  state1 = new-state shape bounds device m kind makes.was.generation p makes.between free makes.free state below used unused there makes.node makes.taken

  node-at : (k : ℕ) → k ≡ m → IsNode shape mid k (taken_as kind makes.was.generation)
  node-at k e = subst (λ (i : ℕ). IsNode shape mid i (taken_as kind makes.was.generation)) (sym e) (new-node shape bounds device m kind makes.was.generation p makes.between free makes.free state below used unused there makes.node makes.taken)

  good : GoodEntry shape mid makes.entry
  good = record {
    no_root = λ e. not-root shape bounds device m kind makes.was.generation p makes.between free makes.free state below used unused there makes.node makes.taken (sym makes.is_entry.0 ∙ e);
    target = taken_as kind makes.was.generation;
    is_node = node-at makes.entry.ino makes.is_entry.0;
    generation = sym makes.is_entry.1;
  }

  state2 : State shape device q after
  state2 = put-state shape bounds device n makes.entry makes.between q makes.free after state1 at.is_node.below makes.puts good

  abbrev g0 : Graph
  g0 = graph_of shape one

  abbrev g1 : Graph
  g1 = graph_of shape mid

  abbrev g2 : Graph
  g2 = graph_of shape two

  first-others : (k : ℕ) → k ≢ m → g1 k ≡ g0 k
  first-others k far = new-others shape bounds device m kind makes.was.generation p makes.between free makes.free state below used unused there makes.node makes.taken k far

  then-others : (k : ℕ) → k ≢ n → g2 k ≡ g1 k
  then-others k far = put-others shape bounds device n makes.entry makes.between q makes.free after state1 at.is_node.below makes.puts k far

  others : (k : ℕ) → k ≢ n → k ≢ m → g2 k ≡ g0 k
  others k far off = then-others k far ∙ first-others k off

  at-node : (old new : Graph) (k : ℕ) → new k ≡ old k → (x : List ℕ) → entry_at new k x ≡ entry_at old k x
  at-node old new k e x = ap (λ (z : GraphNode). entry_at (λ i. z) k x) e

  body-node : (bytes_of : ℕ → List ℕ) (old new : Graph) (k : ℕ) → new k ≡ old k → node_of bytes_of (new k).body ≡ node_of bytes_of (old k).body
  body-node bytes_of old new k e = ap (λ (z : GraphNode). node_of bytes_of z.body) e

  unnamed : (k : ℕ) (x : List ℕ) → entry_at g0 k x ≢ Some m
  unnamed k x e =
      let l = entry-listed shape one k m x e in
      let good = state.good k l.0 l.1 in
      unused good.target (subst (λ (i : ℕ). IsNode shape one i good.target) l.3 good.is_node)

  no-child : (x : List ℕ) (k : ℕ) → entry_at g0 m x ≡ Some k → ⊥
  no-child x k e = let l = entry-listed shape one m k x e in unused l.1.rec l.1.is_node

  no-entry : entry_at g0 n at.name ≡ None
  no-entry = dir-entry shape one n place.rec at.is_node at.is_dir at.name ∙ ap (option_map (λ (e : EntryRec). e.ino)) (at.entry ∙ absent)

  named : (x : List ℕ) → entry_at g2 n x ≡ cond (eq_by_cmp (slice_cmp nat_cmp) x at.name) (Some m) (entry_at g0 n x)
  named x = by (names_eq x at.name) refl
    where
      by : (b : Bool) → names_eq x at.name ≡ b → entry_at g2 n x ≡ cond b (Some m) (entry_at g0 n x)
      by true e =
          ap (entry_at g2 n) (eq_name x at.name e ∙ sym makes.is_entry.2)
          ∙ put-at shape bounds device n makes.entry makes.between q makes.free after state1 at.is_node.below makes.puts ∙ ap (λ (k : ℕ). Some k) makes.is_entry.0
      by false e =
          put-else shape bounds device n makes.entry makes.between q makes.free after state1 at.is_node.below makes.puts x (λ same. other (sym e ∙ name_eq x at.name (same ∙ makes.is_entry.2)))
          ∙ at-node g0 g1 n (first-others n dir-is) x
        where
          other : false ≡ true → ⊥
          other e = cc

  pub adds : (bytes_of : ℕ → List ℕ) → AddsEntry bytes_of bytes_of g0 g2 n m at.name (empty_node kind)
  adds bytes_of = record {
    there = named;
    childless = λ x. at-node g1 g2 m (then-others m (λ e. dir-is (sym e))) x ∙ new-childless shape bounds device m kind makes.was.generation p makes.between free makes.free state below used unused there makes.node makes.taken x;
    others = λ k x far off. at-node g0 g2 k (others k far off) x;
    no_entry = no-entry;
    unnamed = unnamed;
    no_root = not-root shape bounds device m kind makes.was.generation p makes.between free makes.free state below used unused there makes.node makes.taken;
    node_there = body-node bytes_of g1 g2 m (then-others m (λ e. dir-is (sym e))) ∙ new-body shape bounds device m kind makes.was.generation p makes.between free makes.free state below used unused there makes.node makes.taken bytes_of;
    bodies_stay = λ k off. body k off (cases_eq k n);
  }
    where
      body : (k : ℕ) → k ≢ m → (k ≡ n) ⊎ (k ≡ n → ⊥) → node_of bytes_of (g2 k).body ≡ node_of bytes_of (g0 k).body
      body k off (inr far) = body-node bytes_of g0 g2 k (others k far off)
      body k off (inl e) =
          ap (λ (i : ℕ). node_of bytes_of (g2 i).body) e
          ∙ dir-node shape two n _ (put-dir shape bounds device n makes.entry makes.between q makes.free after state1 at.is_node.below makes.puts) dir-after bytes_of
          ∙ sym (dir-node shape one n place.rec at.is_node at.is_dir bytes_of) ∙ sym (ap (λ (i : ℕ). node_of bytes_of (g0 i).body) e)
        where
          dir-after : makes.puts.rec.kind ≡ Dir
          dir-after = makes.puts.has.directory.places.is_dir

  pub makes-name : MakesName g0 g2 path m (empty_node kind)
  makes-name = record { n = n; name = at.name; place = at.named; adds = adds }

  led-kept : (k : ℕ) → Led g0 k → Led g2 k
  led-kept k Led.at_root = Led.at_root
  led-kept k (Led.by_entry d j x e l) = Led.by_entry d k x (kept d k x e (cases_eq d n) (cases_eq d m)) (led-kept d l)
    where
      kept : (d k : ℕ) (x : List ℕ) → entry_at g0 d x ≡ Some k → (d ≡ n) ⊎ (d ≡ n → ⊥) → (d ≡ m) ⊎ (d ≡ m → ⊥) → entry_at g2 d x ≡ Some k
      kept d k x e (inr far) (inr off) = at-node g0 g2 d (others d far off) x ∙ e
      kept d k x e (inr far) (inl h) = absurd (no-child x k (ap (λ (i : ℕ). entry_at g0 i x) (sym h) ∙ e))
      kept d k x e (inl h) _ = ap (λ (i : ℕ). entry_at g2 i x) h ∙ named x ∙ by (names_eq x at.name) refl
        where
          by : (b : Bool) → names_eq x at.name ≡ b → cond b (Some m) (entry_at g0 n x) ≡ Some k
          by true f = absurd (none_some k (sym no-entry ∙ ap (entry_at g0 n) (sym (eq_name x at.name f)) ∙ ap (λ (i : ℕ). entry_at g0 i x) (sym h) ∙ e))
          by false f = ap (λ (i : ℕ). entry_at g0 i x) (sym h) ∙ e

  led-after : (k : ℕ) (rec : InodeRec) → IsNode shape two k rec → Led g2 k
  led-after k rec is = by (cases_eq k m) (cases_eq k n)
    where
      dir-led : Led g2 n
      dir-led = led-kept n (led g s p runs n place.rec at.is_node)

      by : (k ≡ m) ⊎ (k ≡ m → ⊥) → (k ≡ n) ⊎ (k ≡ n → ⊥) → Led g2 k
      by (inl e) _ = Led.by_entry n k at.name (named at.name ∙ ap (λ (b : Bool). cond b (Some m) (entry_at g0 n at.name)) (name_eq at.name at.name refl) ∙ ap (λ (i : ℕ). Some i) (sym e)) dir-led
      by (inr off) (inl e) = subst (Led g2) (sym e) dir-led
      by (inr off) (inr far) =
          led-kept k (led g s p runs k rec
          (new-back shape bounds device m kind makes.was.generation p makes.between free makes.free state below used unused there makes.node makes.taken k rec off
          (put-back shape bounds device n makes.entry makes.between q makes.free after state1 at.is_node.below makes.puts k rec far is)))

  follows : Follows device p q 3
  follows = follows-then device p makes.between q 1 2 (new-follows shape bounds device m kind makes.was.generation p makes.between free makes.free state below used unused there makes.node makes.taken)
      (put-follows shape bounds device n makes.entry makes.between q makes.free after state1 at.is_node.below makes.puts)

  -- the pointers of each node
  held : (k : ℕ) → (k ≡ n) ⊎ (k ≡ n → ⊥) → (k ≡ m) ⊎ (k ≡ m → ⊥) → held_by k (g2 k) ≡ held_by k (g0 k)
  held k (inr far) (inr off) = ap (held_by k) (others k far off)
  held k (inl e) _ = ap (λ (i : ℕ). held_by i (g2 i)) e ∙ held-dir n (g0 n) (g2 n) (dir-node shape one n place.rec at.is_node at.is_dir (λ v. [])) ((adds (λ v. [])).bodies_stay n dir-is) ∙ sym (ap (λ (i : ℕ). held_by i (g0 i)) e)
  held k (inr far) (inl e) =
      ap (λ (i : ℕ). held_by i (g2 i)) e ∙ held-bare m (g2 m) (ap pages-of (adds (λ v. [])).node_there ∙ no-page kind) ∙ sym (held-unused shape one m below unused) ∙ sym (ap (λ (i : ℕ). held_by i (g0 i)) e)

  -- the generations
  generation-before : (g0 m).generation ≡ makes.was.generation
  generation-before = ap (λ (z : GraphNode). z.generation) (graph-at shape one m makes.was below (node-over device p m there ∙ makes.had))

  generation-after : (g2 m).generation ≡ (makes.was.generation + 1) % 2 ^ 32
  generation-after =
      ap (λ (z : GraphNode). z.generation) (then-others m (λ e. dir-is (sym e)))
      ∙ ap (λ (z : GraphNode). z.generation) (graph-at shape mid m (taken_as kind makes.was.generation) below (node-at m refl).spelled)

  generation-stays : (k : ℕ) → k ≢ m → (g2 k).generation ≡ (g0 k).generation
  generation-stays k far = (put-step shape bounds device n makes.between q makes.free after state1 at.is_node.below makes.entry makes.puts).generations k ∙ ap (λ (z : GraphNode). z.generation) (first-others k far)

  takes : TakesLeast free after g0 g2
  takes =
      takes-number m free makes.free after g0 g2 least makes.taken (takes-of makes.puts.fresh makes.free after makes.puts.takes)
      (generation-after ∙ sym (ap (λ (x : ℕ). (x + 1) % 2 ^ 32) generation-before)) generation-stays

  pub changes : Changes g s p free s q after None
  changes = record {
    reads = reads-none g s;
    frozen = follows.frozen;
    pages = follows.pages;
    few = let f = follows.few in omega (arith, f);
    runs = record {
      count = state2.count;
      nodes = state2.formed.nodes;
      addresses = state2.formed.addresses;
      entries = (entries_by_lists shape two state2.formed.addresses).1
          (lists-of-graph shape two state2.formed.directories state2.good (graph_changes.once_added (λ v. []) (λ v. []) g0 g2 n m at.name (empty_node kind) (once g s p runs) (adds (λ v. []))) led-after);
      absent = absent-after;
      clean = λ told. follows.clean (runs.clean told);
    };
    fits = fits-of g s q after state2;
    takes = takes;
    files = files;
    pointers = tagged-same shape one two (λ k. held k (cases_eq k n) (cases_eq k m));
  }
    where
      gone-before : (v : ℕ) → page_of q v ≡ None → page_of p v ≡ None
      gone-before v e = of (page_of p v) refl
        where
          of : (o : Option (List ℕ)) → page_of p v ≡ o → o ≡ None
          of None f = refl
          of (Some b) f = absurd (not-there (ap is_some (sym e) ∙ follows.there v (ap is_some f)))
            where
              not-there : false ≡ true → ⊥
              not-there e = cc

      absent-after : (v : ℕ) → IsNeeded shape two v → page_of q v ≡ None → g.tells
      absent-after v (inl e) gone = runs.absent v (inl e) (gone-before v gone)
      absent-after v (inr u) gone = by (put-needs shape bounds device n makes.entry makes.between q makes.free after state1 at.is_node.below makes.puts v u)
        where
          by : UsesAddress shape mid v ⊎ IsSome (page_of q v) → g.tells
          by (inl u) = runs.absent v (inr ((new-uses shape bounds device m kind makes.was.generation p makes.between free makes.free state below used unused there makes.node makes.taken v).0 u)) (gone-before v gone)
          by (inr there) = absurd (not-there (ap is_some (sym gone) ∙ there))
            where
              not-there : false ≡ true → ⊥
              not-there e = cc

      files : (k : ℕ) (rec : InodeRec) → IsNodeOf g s p k rec → rec.kind ≡ File → FileStays g s p s q k rec
      files k rec is file =
          let off : k ≢ m = λ e. unused rec (subst (λ (i : ℕ). IsNode shape one i rec) e is) in
          let far : k ≢ n = λ e. not-dir (ap (λ (r : InodeRec). r.kind) (some_in place.rec rec (sym at.is_node.spelled ∙ ap (inode_at one) (sym e) ∙ is.spelled))) in
          record {
            is_node = put-node shape bounds device n makes.entry makes.between q makes.free after state1 at.is_node.below makes.puts k rec far
                (new-keeps shape bounds device m kind makes.was.generation p makes.between free makes.free state below used unused there makes.node makes.taken k rec off is);
            graph = others k far off;
          }
        where
          not-dir : place.rec.kind ≡ rec.kind → ⊥
          not-dir e = dir-file (sym at.is_dir ∙ e ∙ file)
            where
              dir-file : Dir ≡ File → ⊥
              dir-file e = cc
