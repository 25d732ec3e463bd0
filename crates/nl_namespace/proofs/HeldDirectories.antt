-- Directories whose pages are in memory, as entries are put into them and taken out.
use Rattle.std.proofs.Common.{◌≡◌, ◌≢◌, ℕ, ◌+◌, ◌-◌, ◌/◌, ◌%◌, ◌≤◌, ◌<◌, Bool, true, ◌&&◌, cond, nat_le, List, length, refl, sym, ap, subst, ◌∙◌, Option, Some, None, option_map, IsSome, ◌⊎◌, inl, inr, arith, bytes_eq}
use Rattle.std.proofs.lemmas.Bool.{and_parts, cases_eq, eq-eqb, le-leb}
use Rattle.std.specs.Prelude.{find}
use Rattle.nl_field.specs.Numbers.{ShapeBounds}
use Rattle.nl_field.specs.declared.entry.EntryRec.{EntryRec}
use Rattle.nl_field.specs.declared.inode.InodeRec.{InodeRec}
use Rattle.nl_field.specs.declared.inode.Kind.TheVariants.{Dir}
use Rattle.nl_field.specs.declared.shape.Shape.{Shape}
use Rattle.nl_meta.specs.Committed.{VirtualMap}
use Rattle.nl_meta.specs.Consistent.{AddressAt, IsNode}
use Rattle.nl_meta.specs.Nodes.{address_of_place, entry_named, graph_of}
use Rattle.nl_meta.specs.Pages.{Pages, page_of}
use Rattle.nl_meta.specs.Running.{running_over}
use Rattle.nl_meta.proofs.Lists.{none_some}
use Rattle.nl_inode.specs.Free.{is_free}
use Rattle.nl_inode.specs.Nodes.{AddressBecomes, Spaces, is_free_address, page_of_node}
use Rattle.nl_dir.specs.Changes.{changed_by_removal}
use Rattle.nl_dir.specs.Directory.{HasRoomForDirty, last_alone, shorter}
use Rattle.nl_dir.proofs.LawProofs.{resident_is_running}
use Rattle.nl_dir.proofs.Records.{spelled-dir}
use Rattle.nl_tree.specs.GraphLaws.{entry_at}
use Rattle.nl_namespace.specs.Entering.{FitsBehind, FreeAreNewToDirectory, ReturnsAddress, HasDirectory, HasFreeAddress, HasNamed, TakesOut}
use Rattle.nl_namespace.proofs.DirectoryChanges.{IsNew}
use Rattle.nl_namespace.proofs.DirectorySteps.{dir-entry}
use Rattle.nl_namespace.proofs.NodeChanges.{place-at}
use Rattle.nl_dir.proofs.PageProofs.{removing_changes_pages}
use Rattle.nl_namespace.proofs.PutSteps.{follows-node, follows-pages, is-new, node-over}
use Rattle.nl_namespace.proofs.Rooms.{some-places}
use Rattle.nl_namespace.proofs.States.{Follows, State}
use Rattle.nl_namespace.proofs.TakeSteps.{given-low, take-dir, take-follows, take-node}

-- The directory has this record, and all its pages are resident.
pub record Held (shape : Shape) (device : VirtualMap) (p : Pages) (d : ℕ) (rec : InodeRec) : Type 0 where
  pub is_node : IsNode shape (running_over device p) d rec
  pub is_dir : rec.kind ≡ Dir
  pub node_there : IsSome (page_of p (page_of_node d))
  pub there : (i : ℕ) → i < rec.size → IsSome (page_of p (address_of_place rec i))

-- A directory has room for one more entry, and all its pages are resident.
pub record Ready (shape : Shape) (device : VirtualMap) (p : Pages) (free : Spaces) (d : ℕ) : Type 0 where
  pub rec : InodeRec
  pub held : Held shape device p d rec
  pub few : rec.size < 1024
  pub address : rec.size % 64 ≡ 0 → HasFreeAddress free

some-mapped : (o : Option EntryRec) (m : ℕ) → option_map (λ (e : EntryRec). e.ino) o ≡ Some m → IsSome o
some-mapped None m e = absurd (none_some m e)
some-mapped (Some x) m e = refl

none-mapped : (o : Option EntryRec) → option_map (λ (e : EntryRec). e.ino) o ≡ None → o ≡ None
none-mapped None e = refl
none-mapped (Some x) e = absurd (none_some x.ino (sym e))

module _ (shape : Shape) (bounds : ShapeBounds shape) (device : VirtualMap) (p : Pages) (free : Spaces) (state : State shape device p free) (d : ℕ) (rec : InodeRec) (held : Held shape device p d rec) where
  abbrev one : VirtualMap
  one = running_over device p

  pub has-held : (room : ℕ) → HasRoomForDirty room p → HasDirectory d rec room p
  has-held room fits = record {
    node_there = held.node_there;
    spelled = sym (node-over device p d held.node_there) ∙ held.is_node.spelled;
    directory = (resident_is_running device p rec held.there).directory.0 (state.formed.directories d rec held.is_node held.is_dir);
    has_room = fits;
  }

  named-over : (x : List ℕ) → entry_named one rec x ≡ entry_named (page_of p) rec x
  unfolding entry_named
  named-over x = ap (λ (es : List EntryRec). find (λ e. bytes_eq e.name x) es) (resident_is_running device p rec held.there).entries

  at-name : (x : List ℕ) → entry_at (graph_of shape one) d x ≡ option_map (λ (e : EntryRec). e.ino) (entry_named (page_of p) rec x)
  at-name x = dir-entry shape one d rec held.is_node held.is_dir x ∙ ap (option_map (λ (e : EntryRec). e.ino)) (named-over x)

  address-there : (i : ℕ) → i < rec.size → AddressAt shape one d (i / 64) (address_of_place rec i)
  address-there i h = place-at shape one d rec held.is_node held.is_dir i h

  -- an entry that is there can be taken out
  pub named-fits : (x : List ℕ) (m : ℕ) → entry_at (graph_of shape one) d x ≡ Some m → HasRoomForDirty 3 p → HasNamed d x p free
  named-fits x m e room = record {
    rec = rec;
    has = has-held 3 room;
    there = some-mapped (entry_named (page_of p) rec x) m (sym (at-name x) ∙ e);
    of_pool = of-pool;
  }
    where
      of-pool : (i : ℕ) → i < rec.size → (free.first ≤ address_of_place rec i) × (address_of_place rec i < free.first + length free.pool)
      of-pool i h =
          let good = state.formed.addresses.good d (i / 64) (address_of_place rec i) (address-there i h) in
          let low = good.from_pool in
          let high = good.in_pool in
          let f = state.pool.first in
          let c = state.count_pool in
          let v = bounds.addresses in
          (omega (arith, low, f), omega (arith, high, f, c, v))

  free-new : FreeAreNewToDirectory rec p free
  free-new = record { each = each; unused = unused }
    where
      new : (a : ℕ) → is_free_address free a ≡ true → IsNew shape one a
      new a f = is-new shape bounds device p free state a f

      nonzero : (a : ℕ) → 67 + shape.inode_pages ≤ a → a ≢ 0
      nonzero a l e = omega (arith, l, e)

      each : (a : ℕ) → is_free_address free a ≡ true → (a ≢ 0) × (a < length p.running)
      each a f =
          let n = new a f in
          let low = n.from_pool in
          let high = n.in_pool in
          let c = state.count in
          (nonzero a low, omega (arith, high, c))

      unused : (a i : ℕ) → is_free_address free a ≡ true → i < rec.size → address_of_place rec i ≢ a
      unused a i f h e = (new a f).unused (d, i / 64, subst (AddressAt shape one d (i / 64)) e (address-there i h))

  -- one of a new name can be put in
  pub behind-fits : (entry : EntryRec) → rec.size < 1024 → (rec.size % 64 ≡ 0 → HasFreeAddress free) → entry_at (graph_of shape one) d entry.name ≡ None → HasRoomForDirty 2 p → FitsBehind d entry p free
  behind-fits entry few address none room = record {
    rec = rec;
    has = has-held 2 room;
    few = few;
    absent = none-mapped (entry_named (page_of p) rec entry.name) (sym (at-name entry.name) ∙ none);
    address = address;
    new = free-new;
  }

-- ---- after an entry was taken out

module _ (shape : Shape) (bounds : ShapeBounds shape) (device : VirtualMap) (d : ℕ) (name : List ℕ) (p q : Pages) (s t : Spaces) (state : State shape device p s) (below : d < shape.nodes) (takes : TakesOut d name p q s t) where
  follows : Follows device p q 3
  follows = take-follows shape bounds device d name p q s t state below takes

  pub held-other : (k : ℕ) (rec : InodeRec) → k ≢ d → Held shape device p k rec → Held shape device q k rec
  held-other k rec far held = record {
    is_node = take-node shape bounds device d name p q s t state below takes k rec far held.is_node;
    is_dir = held.is_dir;
    node_there = follows.there (page_of_node k) held.node_there;
    there = λ i h. follows.there (address_of_place rec i) (held.there i h);
  }

  pub held-shorter : Held shape device q d (shorter takes.rec)
  held-shorter = record {
    is_node = take-dir shape bounds device d name p q s t state below takes;
    is_dir = takes.has.directory.places.is_dir;
    node_there = follows.there (page_of_node d) takes.has.node_there;
    there = λ i h. then.there (address_of_place (shorter takes.rec) i) (takes.removes.directory.places.there i h);
  }
    where
      first : Follows device p takes.between (length (changed_by_removal takes.rec takes.removes.place))
      first = follows-pages device (changed_by_removal takes.rec takes.removes.place) p takes.between takes.removes.pages (removing_changes_pages name takes.given takes.rec (shorter takes.rec) p takes.between takes.has.directory takes.removes)

      then : Follows device takes.between q 1
      then = follows-node device d (shorter takes.rec) takes.between q (first.there (page_of_node d) takes.has.node_there) takes.puts

  -- the address that is given is free
  given-free : (a : ℕ) → s.first ≤ a → AddressBecomes a true s t → is_free_address t a ≡ true
  given-free a low becomes =
      ap (λ (f : ℕ). nat_le f a && is_free t.pool (a - f)) becomes.first
      ∙ ap (λ (b : Bool). b && is_free t.pool (a - s.first)) (le-leb s.first a low)
      ∙ becomes.pool.at

  -- each address that was free is free
  pub free-stays : (b : ℕ) → is_free_address s b ≡ true → is_free_address t b ≡ true
  free-stays b f = by takes.given refl
    where
      by : (o : Option ℕ) → takes.given ≡ o → is_free_address t b ≡ true
      by None e = subst (λ (z : Spaces). is_free_address z b ≡ true) (sym (subst (λ (o : Option ℕ). ReturnsAddress o s t) e takes.gives)) f
      by (Some a) e = of (cases_eq (b - s.first) (a - s.first))
        where
          becomes : AddressBecomes a true s t
          becomes = subst (λ (o : Option ℕ). ReturnsAddress o s t) e takes.gives

          parts : (nat_le s.first b ≡ true) × (is_free s.pool (b - s.first) ≡ true)
          parts = and_parts (nat_le s.first b) _ f

          whole : is_free t.pool (b - s.first) ≡ true → is_free_address t b ≡ true
          whole g =
              ap (λ (f : ℕ). nat_le f b && is_free t.pool (b - f)) becomes.first
              ∙ ap (λ (c : Bool). c && is_free t.pool (b - s.first)) parts.0
              ∙ g

          of : (b - s.first ≡ a - s.first) ⊎ (b - s.first ≡ a - s.first → ⊥) → is_free_address t b ≡ true
          of (inl same) = whole (ap (is_free t.pool) same ∙ becomes.pool.at)
          of (inr far) = whole (becomes.pool.others (b - s.first) far ∙ parts.1)

  pub has-still : HasFreeAddress s → HasFreeAddress t
  has-still h = (h.0, free-stays h.0 h.1)

  -- a page that is given up is free
  pub freed : (takes.rec.size - 1) % 64 ≡ 0 → HasFreeAddress t
  freed e = by takes.given refl
    where
      alone : last_alone takes.rec ≡ true
      alone = eq-eqb ((takes.rec.size - 1) % 64) 0 e

      given : takes.given ≡ Some (address_of_place takes.rec (takes.rec.size - 1))
      given = takes.removes.given ∙ ap (λ (b : Bool). cond b (Some (address_of_place takes.rec (takes.rec.size - 1))) None) alone

      by : (o : Option ℕ) → takes.given ≡ o → HasFreeAddress t
      by None f = absurd (none_some _ (sym f ∙ given))
      by (Some a) f =
          let low = given-low shape bounds device d name p q s t state below takes a (sym takes.removes.given ∙ f) in
          let first = state.pool.first in
          (a, given-free a (omega (arith, low, first)) (subst (λ (o : Option ℕ). ReturnsAddress o s t) f takes.gives))

  pub ready-here : Ready shape device q t d
  ready-here = record {
    rec = shorter takes.rec;
    held = held-shorter;
    few =
        let few = (spelled-dir takes.rec takes.has.directory.places.is_dir takes.has.directory.places.spelled).few in
        let some = some-places (page_of p) takes.rec name takes.there in
        omega (arith, few, some);
    address = freed;
  }

  -- the directory with its pages, whichever it is
  pub held-then : (k : ℕ) (rec : InodeRec) → Held shape device p k rec → (after : InodeRec) × Held shape device q k after
  held-then k rec held = by (cases_eq k d)
    where
      by : (k ≡ d) ⊎ (k ≡ d → ⊥) → (after : InodeRec) × Held shape device q k after
      by (inl e) = (shorter takes.rec, subst (λ (i : ℕ). Held shape device q i (shorter takes.rec)) (sym e) held-shorter)
      by (inr far) = (rec, held-other k rec far held)

  -- Another directory with room for one more, or one that gets the page which this one gives up.
  pub ready-then : (k : ℕ) (rec : InodeRec) → k ≢ d → Held shape device p k rec → rec.size < 1024 → (rec.size % 64 ≡ 0 → HasFreeAddress s ⊎ (takes.rec.size % 64 ≡ 1)) → Ready shape device q t k
  ready-then k rec far held few address = record {
    rec = rec;
    held = held-other k rec far held;
    few = few;
    address = λ e. by (address e);
  }
    where
      by : HasFreeAddress s ⊎ (takes.rec.size % 64 ≡ 1) → HasFreeAddress t
      by (inl h) = has-still h
      by (inr e) = freed (omega (arith, e))
