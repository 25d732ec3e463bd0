-- What a directory gives for a new name, where it is held.
use Rattle.std.proofs.Common.{◌≡◌, ◌≢◌, ℕ, suc, ◌+◌, ◌-◌, ◌/◌, ◌≤◌, ◌<◌, Bool, true, false, List, [], ◌∷◌, ◌++◌, length, map, refl, sym, ap, subst, ◌∙◌, Option, Some, None, option_map, is_some, IsSome, arith, bytes_eq}
use Rattle.std.specs.Prelude.{find, slice_get}
use Rattle.nl_field.specs.Graph.{Graph, NodeBody}
use Rattle.nl_field.specs.declared.entry.EntryRec.{EntryRec}
use Rattle.nl_field.specs.declared.shape.Shape.{Shape}
use Rattle.nl_iface.specs.Device.{IsVolumeShape}
use Rattle.nl_iface.specs.declared.counts.Counts.{Ghosts}
use Rattle.nl_meta.specs.Consistent.{AddressAt}
use Rattle.nl_meta.specs.Nodes.{address_of_place, entries_of_inode, entry_named, graph_of}
use Rattle.nl_meta.proofs.Lists.{some_in}
use Rattle.nl_meta.specs.Pages.{Pages, besides_0, page_of}
use Rattle.nl_inode.specs.Nodes.{Spaces, is_free_address, page_of_node}
use Rattle.nl_inode.proofs.MarkTree.{set-below}
use Rattle.nl_dir.specs.Directory.{HasRoomForDirty, IsDirectory}
use Rattle.nl_dir.proofs.LawProofs.{entries_in_order, resident_is_running}
use Rattle.nl_tree.specs.Represents.{entries_in, node_reached}
use Rattle.nl_tree.specs.Step.{first_of, is_too_long, when}
use Rattle.nl_tree.specs.Tree.{Node, is_root}
use Rattle.nl_tree.specs.declared.reply.Refusal.{Refusal}
use Rattle.nl_tree.specs.declared.reply.Refusal.TheVariants.{Eexist, Enametoolong, Enospc}
use Rattle.nl_tree.specs.declared.reply.Space.{Space}
use Rattle.nl_tree.proofs.ChangeProofs.{at_end}
use Rattle.nl_meta.proofs.PageProofs.{both, loaded}
use Rattle.nl_meta_running.proofs.Kept.{loads-on}
use Rattle.nl_meta_running.specs.Running.{IsNodeOf, RunningIsRight, PreservesRunning, running_on, stored_on}
use Rattle.nl_meta_running.proofs.Holds.{bounds-of}
use Rattle.nl_meta_running.proofs.SameNeeded.{own}
use Rattle.nl_namespace.specs.Changing.{Changes, FreeFits, ChangeLeaves}
use Rattle.nl_namespace.specs.Entering.{FreeAreNewToDirectory, HasDirectory}
use Rattle.nl_namespace.specs.Making.{FitsNew, HasRoomForNode}
use Rattle.nl_namespace.specs.Naming.{HasRoomForName, IsFull, LacksRoom, MakesNode, NameIn, refusal_of_name}
use Rattle.nl_namespace.specs.Paths.{walk_refusal}
use Rattle.nl_namespace.specs.Placing.{IsPlaceOfPath}
use Rattle.nl_namespace.specs.Taking.{TakesLeast}
use Rattle.nl_namespace.specs.declared.place.Place.{Place}
use Rattle.nl_namespace.specs.declared.answer.Change.{Change}
use Rattle.nl_namespace.specs.declared.answer.Change.TheVariants as change
use Rattle.nl_iface.proofs.Stops.{reads_then}
use Rattle.nl_dir.proofs.Records.{spelled-dir}
use Rattle.nl_namespace.proofs.PointersStay.{tagged-read}
use Rattle.nl_namespace.proofs.Chains.{node-before, then-graph, then-node, then-on}
use Rattle.nl_namespace.proofs.DirectorySteps.{dir-body, dir-entry}
use Rattle.nl_namespace.proofs.MakeSteps.{lists, state-of}
use Rattle.nl_namespace.proofs.NodeChanges.{place-at}
use Rattle.nl_namespace.proofs.PutSteps.{is-new, node-over}
use Rattle.nl_namespace.proofs.DirectoryChanges.{IsNew}

length-map : {X Y : Type 0} (f : X → Y) (xs : List X) → length (map f xs) ≡ length xs
length-map f [] = refl
length-map f (x ∷ xs) = ap (λ (n : ℕ). suc n) (length-map f xs)

pub is-root-not : (parent : List (List ℕ)) (name : List ℕ) → is_root (parent ++ name ∷ []) ≡ false
is-root-not [] name = refl
is-root-not (x ∷ parent) name = refl

at-back : (xs : List (List ℕ)) (y : List ℕ) → slice_get (xs ++ y ∷ []) (length xs) ≡ Some y
at-back [] y = refl
at-back (x ∷ xs) y = at-back xs y

one-longer : (xs : List (List ℕ)) (y : List ℕ) → length (xs ++ y ∷ []) ≡ length xs + 1
one-longer [] y = refl
one-longer (x ∷ xs) y = let e = one-longer xs y in omega (arith, e)

-- the last name of a path is its last one
pub same-last : (parent : List (List ℕ)) (name other : List ℕ) → slice_get (parent ++ name ∷ []) (length (parent ++ name ∷ []) - 1) ≡ Some other → name ≡ other
same-last parent name other e =
    let n = one-longer parent name in
    let k : length parent ≡ length (parent ++ name ∷ []) - 1 = omega (arith, n) in
    some_in name other (sym (at-back parent name) ∙ ap (slice_get (parent ++ name ∷ [])) k ∙ e)

-- what refuses a name, from its four tests
pub refusal-is : (graph : Graph) (path : List (List ℕ)) (a b c : Bool) (w : Option Refusal) → is_too_long path ≡ a → is_root path ≡ b → walk_refusal graph 0 path ≡ w → is_some (node_reached graph 0 path) ≡ c
    → refusal_of_name graph path ≡ first_of (when a Enametoolong ∷ when b Eexist ∷ w ∷ when c Eexist ∷ [])
refusal-is graph path a b c w ea eb ew ec = λ i. first_of (when (ea i) Enametoolong ∷ when (eb i) Eexist ∷ ew i ∷ when (ec i) Eexist ∷ [])

module _ {D : Type 0} (g : Ghosts D) (s : D) (p : Pages) (volume : IsVolumeShape (g.shape s)) (runs : RunningIsRight g s p) (path : List (List ℕ)) (place : Place) (at : IsPlaceOfPath g s p path place) where
  abbrev graph : Graph
  graph = graph_of (g.shape s) (running_on g s p)

  pub reached-is : node_reached graph 0 path ≡ option_map (λ (e : EntryRec). e.ino) place.entry
  reached-is =
      ap (node_reached graph 0) at.named.split ∙ at_end graph at.named.parent at.name place.dir at.named.leads
      ∙ dir-entry (g.shape s) (running_on g s p) place.dir place.rec at.is_node at.is_dir at.name ∙ ap (option_map (λ (e : EntryRec). e.ino)) at.entry

  pub not-root-path : is_root path ≡ false
  not-root-path = ap is_root at.named.split ∙ is-root-not at.named.parent at.name

  pub unrefused : place.entry ≡ None → is_too_long path ≡ false → refusal_of_name graph path ≡ None
  unrefused absent short = refusal-is graph path false false false None short not-root-path at.walked (ap is_some (reached-is ∙ ap (option_map (λ (e : EntryRec). e.ino)) absent))

  pub exists : (e : EntryRec) → place.entry ≡ Some e → is_too_long path ≡ false → refusal_of_name graph path ≡ Some Eexist
  exists e there short = refusal-is graph path false false true None short not-root-path at.walked (ap is_some (reached-is ∙ ap (option_map (λ (e : EntryRec). e.ino)) there))

  pub is-directory : IsDirectory (running_on g s p) place.rec
  is-directory = (lists g s p runs).directories place.dir place.rec at.is_node at.is_dir

  pub count-is : length (entries_in (graph place.dir).body) ≡ place.rec.size
  count-is =
      ap (λ (b : NodeBody). length (entries_in b)) (dir-body (g.shape s) (running_on g s p) place.dir place.rec at.is_node at.is_dir)
      ∙ length-map (λ (e : EntryRec). (e.name, e.ino)) (entries_of_inode (running_on g s p) place.rec) ∙ (entries_in_order (running_on g s p) place.rec is-directory).count

  pub lacks : (free : Spaces) (space : Space) → IsFull free place.rec.size space → LacksRoom free graph path (Enospc space)
  lacks free space full = record {
    n = place.dir;
    name = at.name;
    place = at.named;
    space = space;
    is_space = refl;
    full = subst (λ (c : ℕ). IsFull free c space) (sym count-is) full;
  }

  pub has-place : (free : Spaces) (m : ℕ) → HasRoomForNode free place.rec.size m → HasRoomForName free graph path m
  has-place free m spare = record { n = place.dir; name = at.name; place = at.named; spare = subst (λ (c : ℕ). HasRoomForNode free c m) (sym count-is) spare }

  pub size-fits : place.rec.size ≤ 1024
  size-fits = (spelled-dir place.rec at.is_dir is-directory.places.spelled).few

  pub placed-then : (t : D) (q : Pages) → PreservesRunning g s p t q → IsPlaceOfPath g t q path place
  unfolding entry_named
  placed-then t q on = record {
    name = at.name;
    named = subst (λ (z : Graph). NameIn z path place.dir at.name) (sym same) at.named;
    walked = subst (λ (z : Graph). walk_refusal z 0 path ≡ None) (sym same) at.walked;
    is_node = then-node g s p t q volume on place.dir place.rec at.is_node;
    is_dir = at.is_dir;
    entry = ap (λ (es : List EntryRec). find (λ e. bytes_eq e.name at.name) es) (own (g.shape s) (bounds-of (g.shape s) volume) (running_on g s p) (running_on g t q) on.needed place.dir place.rec at.is_node at.is_dir).entries ∙ at.entry;
  }
    where
      same : graph_of (g.shape t) (running_on g t q) ≡ graph
      same = then-graph g s p t q volume on

  module _ (q : Pages) (node-there : IsSome (page_of p (page_of_node place.dir))) (there : (i : ℕ) → i < place.rec.size → IsSome (page_of p (address_of_place place.rec i))) where
    -- the directory in memory
    pub has-directory : (room : ℕ) → HasRoomForDirty room p → HasDirectory place.dir place.rec room p
    has-directory room fits = record {
      node_there = node-there;
      spelled = sym (node-over (stored_on g s) p place.dir node-there) ∙ at.is_node.spelled;
      directory = (resident_is_running (stored_on g s) p place.rec there).directory.0 is-directory;
      has_room = fits;
    }

    pub named-there : entry_named (page_of p) place.rec at.name ≡ place.entry
    unfolding entry_named
    named-there = sym (ap (λ (es : List EntryRec). find (λ e. bytes_eq e.name at.name) es) (resident_is_running (stored_on g s) p place.rec there).entries) ∙ at.entry

    pub free-new : (free : Spaces) → FreeFits g s p free → FreeAreNewToDirectory place.rec p free
    free-new free fits = record { each = each; unused = unused }
      where
        new : (a : ℕ) → is_free_address free a ≡ true → IsNew (g.shape s) (running_on g s p) a
        new a f = is-new (g.shape s) (bounds-of (g.shape s) volume) (stored_on g s) p free (state-of g s p runs free fits) a f

        each : (a : ℕ) → is_free_address free a ≡ true → (a ≢ 0) × (a < length p.running)
        each a f =
            let n = new a f in
            let low = n.from_pool in
            let high = n.in_pool in
            let c = runs.count in
            (nonzero a low, omega (arith, high, c))
          where
            nonzero : (a : ℕ) → 67 + (g.shape s).inode_pages ≤ a → a ≢ 0
            nonzero a l e = omega (arith, l, e)

        unused : (a i : ℕ) → is_free_address free a ≡ true → i < place.rec.size → address_of_place place.rec i ≢ a
        unused a i f h e =
            (new a f).unused (place.dir, i / 64, subst (AddressAt (g.shape s) (running_on g s p) place.dir (i / 64)) e (place-at (g.shape s) (running_on g s p) place.dir place.rec at.is_node at.is_dir i h))

    pub fits-new : (free : Spaces) → FreeFits g s p free → place.entry ≡ None → HasRoomForDirty 3 p → (m : ℕ) → HasRoomForNode free place.rec.size m → IsSome (page_of p (page_of_node m)) → FitsNew place.dir m at.name p free
    fits-new free fits absent room m spare m-there = record {
      rec = place.rec;
      has = has-directory 3 room;
      node_there = m-there;
      node_spelled = ap is_some (sym (node-over (stored_on g s) p m m-there) ∙ (runs.nodes.spelled m below).1);
      below = set-below free.nodes m spare.least.free_itself;
      other = λ e. (fits.nodes.each m below).0 spare.least.free_itself place.rec (subst (λ (k : ℕ). IsNodeOf g s p k place.rec) e at.is_node);
      apart = apart;
      few = spare.few;
      absent = named-there ∙ absent;
      address = spare.address;
      new = free-new free fits;
    }
      where
        below : m < (g.shape s).nodes
        below = let h = set-below free.nodes m spare.least.free_itself in let c = fits.count_nodes in omega (arith, h, c)

        apart : (i : ℕ) → i < place.rec.size → address_of_place place.rec i ≢ page_of_node m
        apart i h e =
            let a = (runs.addresses.good place.dir (i / 64) (address_of_place place.rec i) (place-at (g.shape s) (running_on g s p) place.dir place.rec at.is_node at.is_dir i h)).from_pool in
            let f = (bounds-of (g.shape s) volume).places in
            let b = below in
            omega (arith, a, e, f, b)

-- ---- what was said of a volume after a reading call, of the one before it

module _ {D : Type 0} (g : Ghosts D) (s : D) (p : Pages) (t : D) (q : Pages) (volume : IsVolumeShape (g.shape s)) (on : PreservesRunning g s p t q) where
  same-graph : graph_of (g.shape t) (running_on g t q) ≡ graph_of (g.shape s) (running_on g s p)
  same-graph = then-graph g s p t q volume on

  pub fits-then : (free : Spaces) → FreeFits g s p free → FreeFits g t q free
  fits-then free fits = record {
    count_nodes = fits.count_nodes ∙ ap (λ (n : Shape). n.nodes) shapes;
    count_pool = fits.count_pool ∙ ap (λ (n : Shape). n.meta) shapes;
    nodes = record {
      each = λ n h. let w = subst (λ (z : Shape). n < z.nodes) (sym shapes) h in (
        (λ f rec is. (fits.nodes.each n w).0 f rec (node-before g s p t q volume on n rec is)),
        (λ none. (fits.nodes.each n w).1 (λ rec is. none rec (then-node g s p t q volume on n rec is))),
      );
    };
    pool = record {
      first = fits.pool.first ∙ ap (λ (n : Shape). 67 + n.inode_pages) shapes;
      each = λ a low high. let w = subst (λ (z : Shape). a < z.vaddrs) (sym shapes) high in (
        (λ f u. (fits.pool.each a low w).0 f (u.0, u.1, before u.0 u.1 a u.2)),
        (λ none. (fits.pool.each a low w).1 (λ u. none (u.0, u.1, after u.0 u.1 a u.2))),
      );
    };
  }
    where
      shapes : g.shape s ≡ g.shape t
      shapes = sym on.reads.medium.virtual.same_shape

      before : (n slot a : ℕ) → AddressAt (g.shape t) (running_on g t q) n slot a → AddressAt (g.shape s) (running_on g s p) n slot a
      before n slot a x = record { rec = x.rec; is_node = node-before g s p t q volume on n x.rec x.is_node; in_slot = x.in_slot; not_zero = x.not_zero }

      after : (n slot a : ℕ) → AddressAt (g.shape s) (running_on g s p) n slot a → AddressAt (g.shape t) (running_on g t q) n slot a
      after n slot a x = record { rec = x.rec; is_node = then-node g s p t q volume on n x.rec x.is_node; in_slot = x.in_slot; not_zero = x.not_zero }

  pub changes-after : (u : D) (r : Pages) (free after : Spaces) (gone : Option ℕ) → Changes g t q free u r after gone → Changes g s p free u r after gone
  changes-after u r free after lost c = record {
    reads = reads_then g s t u on.reads c.reads;
    frozen = c.frozen ∙ on.frozen;
    pages = both p q r (loaded p q (loads-on g s p t q on)) c.pages;
    few = let f = c.few in let e = ap (λ (ds : List ℕ). length (besides_0 ds)) on.dirty in omega (arith, f, e);
    runs = c.runs;
    fits = c.fits;
    takes = subst (λ (z : Graph). TakesLeast free after z (graph_of (g.shape u) (running_on g u r))) same-graph c.takes;
    files = λ n rec is file.
        let f = c.files n rec (then-node g s p t q volume on n rec is) file in
        record { is_node = f.is_node; graph = f.graph ∙ ap (λ (z : Graph). z n) same-graph };
    pointers = c.pointers ∙ tagged-read g s p t q volume on;
  }

  pub leaves-after : (u : D) (r : Pages) (free after : Spaces) (answer : Change) → ChangeLeaves g t q free u r after answer → ChangeLeaves g s p free u r after answer
  leaves-after u r free after (change.Changed lost) l = changes-after u r free after lost l
  leaves-after u r free after (change.No refusal) l = (then-on g s p t q volume on u r l.0, l.1)
  leaves-after u r free after change.Fault l = (then-on g s p t q volume on u r l.0, l.1)
  leaves-after u r free after (change.Lost w f) l = (then-on g s p t q volume on u r l.0, l.1)

  pub makes-after : (free : Spaces) (new : Graph) (path : List (List ℕ)) (node : Node) (answer : Change) → MakesNode free (graph_of (g.shape t) (running_on g t q)) new path node answer
      → MakesNode free (graph_of (g.shape s) (running_on g s p)) new path node answer
  makes-after free new path node answer m = subst (λ (z : Graph). MakesNode free z new path node answer) same-graph m
