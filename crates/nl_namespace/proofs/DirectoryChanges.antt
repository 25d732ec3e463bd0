-- A directory whose pages changed, and whose record was written back, in the running map over a device.
use Rattle.std.proofs.Common.{◌≡◌, ◌≢◌, ℕ, ◌+◌, ◌*◌, ◌/◌, ◌%◌, ◌≤◌, ◌<◌, List, [], ◌∷◌, refl, sym, ap, subst, ◌∙◌, Option, Some, None, is_some, IsSome, ◌⊎◌, inl, inr, arith, bytes_eq}
use Rattle.std.proofs.lemmas.Bool.{both_ways, cases_eq}
use Rattle.std.specs.Int.{div_ceil}
use Rattle.std.specs.Prelude.{find}
use Rattle.nl_field.specs.Members.{Has}
use Rattle.nl_field.specs.Numbers.{ShapeBounds}
use Rattle.nl_field.specs.declared.entry.EntryRec.{EntryRec}
use Rattle.nl_field.specs.declared.inode.InodeRec.{InodeRec}
use Rattle.nl_field.specs.declared.inode.Kind.TheVariants.{Dir, File}
use Rattle.nl_field.specs.declared.shape.Shape.{Shape}
use Rattle.nl_meta.specs.Committed.{VirtualMap}
use Rattle.nl_meta.specs.Consistent.{AddressAt, GoodAddress, IsNode, NamesPhysical}
use Rattle.nl_meta.specs.Nodes.{address_of_place, bytes_of_node, entries_of_inode, entry_named, inode_at, slot_at}
use Rattle.nl_meta.specs.Pages.{Pages, page_of}
use Rattle.nl_meta.specs.Running.{or_stored, running_over}
use Rattle.nl_meta.proofs.AddressProofs.{filled_of}
use Rattle.nl_meta.proofs.Lists.{some_in}
use Rattle.nl_meta.proofs.SlotProofs.{one_slot}
use Rattle.nl_inode.specs.FreeLaws.{UsesAddress}
use Rattle.nl_inode.specs.Nodes.{PutsNode, page_of_node}
use Rattle.nl_dir.specs.AfterLaws.{HasAddress}
use Rattle.nl_dir.specs.Changes.{ChangesPages}
use Rattle.nl_dir.specs.Directory.{IsDirectory}
use Rattle.nl_dir.specs.DirectoryLaws.{OwnPages}
use Rattle.nl_dir.proofs.EntryLists.{some-of}
use Rattle.nl_dir.proofs.LawProofs.{only_own_pages}
use Rattle.nl_dir.proofs.PlaceFacts.{below-length, page-at}
use Rattle.nl_field.specs.Inode.{inode_of}
use Rattle.nl_meta_running.proofs.SameNeeded.{slot-filled}
use Rattle.nl_namespace.proofs.NodeChanges.{ChangesNode, Formed}

-- The pages of directory d changed, and then its record.
pub record Rewrites (d : ℕ) (was is : InodeRec) (changed : List ℕ) (old between new : Pages) : Type 0 where
  pub node_there : IsSome (page_of old (page_of_node d))
  pub spelled : inode_at (page_of old) d ≡ Some was
  pub before : IsDirectory (page_of old) was
  pub after : IsDirectory (page_of between) is
  pub direct : is.direct ≡ was.direct
  pub pages : ChangesPages changed old between
  pub puts : PutsNode d is between new

-- An address that no node has, for a page.
pub record IsNew (shape : Shape) (pages : VirtualMap) (a : ℕ) : Type 0 where
  pub from_pool : 67 + shape.inode_pages ≤ a
  pub in_pool : a < shape.vaddrs
  pub unused : UsesAddress shape pages a → ⊥

or-there : (o stored : Option (List ℕ)) → IsSome o → or_stored o stored ≡ o
or-there (Some bytes) stored h = refl
or-there None stored h = absurd (both_ways _ refl h)

pub over-there : (device : VirtualMap) (p : Pages) (v : ℕ) → IsSome (page_of p v) → running_over device p v ≡ page_of p v
unfolding running_over
over-there device p v there = or-there (page_of p v) (device v) there

pub over-same : (device : VirtualMap) (p q : Pages) (v : ℕ) → page_of q v ≡ page_of p v → running_over device q v ≡ running_over device p v
unfolding running_over
over-same device p q v same = ap (λ (o : Option (List ℕ)). or_stored o (device v)) same

pub has-or-not : (xs : List ℕ) (a : ℕ) → Has xs a ⊎ (Has xs a → ⊥)
has-or-not [] a = inr (λ h. h)
has-or-not (x ∷ xs) a = by (cases_eq x a) (has-or-not xs a)
  where
    neither : (x ≡ a → ⊥) → (Has xs a → ⊥) → (x ≡ a) ⊎ Has xs a → ⊥
    neither f g (inl e) = f e
    neither f g (inr h) = g h

    by : (x ≡ a) ⊎ (x ≡ a → ⊥) → Has xs a ⊎ (Has xs a → ⊥) → Has (x ∷ xs) a ⊎ (Has (x ∷ xs) a → ⊥)
    by (inl e) _ = inl (inl e)
    by (inr f) (inl h) = inl (inr h)
    by (inr f) (inr g) = inr (neither f g)

not-file : Dir ≡ File → ⊥
not-file e = cc

pub one-node : (m n : ℕ) → 67 + m / 16 ≡ 67 + n / 16 → m % 16 ≡ n % 16 → m ≡ n
one-node m n e f = omega arith

-- Directory d has such a change.
pub record DirStep (shape : Shape) (device : VirtualMap) (d : ℕ) (was is : InodeRec) (changed : List ℕ) (old between new : Pages) (row : ℕ) : Type 0 where
  pub rewrites : Rewrites d was is changed old between new
  pub formed : Formed shape (running_over device old)
  pub is_node : IsNode shape (running_over device old) d was
  pub was_dir : was.kind ≡ Dir
  -- the pages that changed were the directory's, or are new
  pub own : (u : ℕ) → Has changed u → ((k : ℕ) × HasAddress was k u) ⊎ IsNew shape (running_over device old) u
  -- the addresses of the record were the directory's, or are new
  pub from : (k a : ℕ) → HasAddress is k a → HasAddress was k a ⊎ ((k ≡ row) × IsNew shape (running_over device old) a × Has changed a)
  pub generation : is.generation ≡ was.generation

module _ (shape : Shape) (bounds : ShapeBounds shape) (device : VirtualMap) (d : ℕ) (was is : InodeRec) (changed : List ℕ) (old between new : Pages) (row : ℕ) (step : DirStep shape device d was is changed old between new row) where
  abbrev one : VirtualMap
  one = running_over device old

  abbrev two : VirtualMap
  two = running_over device new

  abbrev v : ℕ
  v = page_of_node d

  had : (k a : ℕ) → HasAddress was k a → AddressAt shape one d k a
  had k a h = record { rec = was; is_node = step.is_node; in_slot = h.0; not_zero = h.1 }

  changed-in-pool : (u : ℕ) → Has changed u → 67 + shape.inode_pages ≤ u
  changed-in-pool u h = by (step.own u h)
    where
      by : ((k : ℕ) × HasAddress was k u) ⊎ IsNew shape one u → 67 + shape.inode_pages ≤ u
      by (inl x) = (step.formed.addresses.good d x.0 u (had x.0 u x.1)).from_pool
      by (inr x) = x.from_pool

  in-pool : (k a : ℕ) → HasAddress is k a → (67 + shape.inode_pages ≤ a) × (a < shape.vaddrs)
  in-pool k a h = by (step.from k a h)
    where
      by : HasAddress was k a ⊎ ((k ≡ row) × IsNew shape one a × Has changed a) → (67 + shape.inode_pages ≤ a) × (a < shape.vaddrs)
      by (inl x) = let g = step.formed.addresses.good d k a (had k a x) in (g.from_pool, g.in_pool)
      by (inr x) = (x.1.from_pool, x.1.in_pool)

  node-page-low : v < 67 + shape.inode_pages
  node-page-low = let h = step.is_node.below in let f = bounds.places in omega (arith, h, f)

  not-node-page : (a : ℕ) → 67 + shape.inode_pages ≤ a → a ≢ v
  not-node-page a h e = let l = node-page-low in omega (arith, h, e, l)

  node-between : IsSome (page_of between v)
  node-between = ap is_some (step.rewrites.pages.others v (λ h. let p = changed-in-pool v h in let l = node-page-low in omega (arith, p, l))) ∙ step.rewrites.node_there

  pub node-after : IsSome (page_of new v)
  node-after = ap (λ (p : Pages). is_some (page_of p v)) step.rewrites.puts.page ∙ ap is_some (page-at between v _ (below-length between v node-between))

  -- a page that did not change
  kept-page : (u : ℕ) → (Has changed u → ⊥) → u ≢ v → two u ≡ one u
  kept-page u none far = over-same device old new u (step.rewrites.puts.others.others u far ∙ step.rewrites.pages.others u none)

  other-page : (k slot a : ℕ) → k ≢ d → AddressAt shape one k slot a → two a ≡ one a
  other-page k slot a far at = kept-page a none (not-node-page a (step.formed.addresses.good k slot a at).from_pool)
    where
      none : Has changed a → ⊥
      none h = by (step.own a h)
        where
          by : ((i : ℕ) × HasAddress was i a) ⊎ IsNew shape one a → ⊥
          by (inl x) = far (step.formed.addresses.one_use k slot d x.0 a at (had x.0 a x.1)).0
          by (inr x) = x.unused (k, slot, at)

  other-node : (k : ℕ) → k < 16 * shape.inode_pages → k ≢ d → bytes_of_node two k ≡ bytes_of_node one k
  unfolding bytes_of_node
  other-node k h far = by (cases_eq (67 + k / 16) v)
    where
      low : 67 + k / 16 < 67 + shape.inode_pages
      low = omega (arith, h)

      by : (67 + k / 16 ≡ v) ⊎ (67 + k / 16 ≡ v → ⊥) → bytes_of_node two k ≡ bytes_of_node one k
      by (inr off) = ap (λ (o : Option (List ℕ)). slot_at (λ u. o) 256 0 (k % 16)) (kept-page (67 + k / 16) (λ x. let p = changed-in-pool (67 + k / 16) x in omega (arith, p, low)) off)
      by (inl e) =
          ap (λ (o : Option (List ℕ)). slot_at (λ u. o) 256 0 (k % 16)) (over-there device new (67 + k / 16) (subst (λ (u : ℕ). IsSome (page_of new u)) (sym e) node-after))
          ∙ one_slot.node v (d % 16) (page_of between) (page_of new) step.rewrites.puts.others k (λ x y. far (one-node k d x y))
          ∙ ap (λ (o : Option (List ℕ)). slot_at (λ u. o) 256 0 (k % 16)) (step.rewrites.pages.others (67 + k / 16) (λ x. let p = changed-in-pool (67 + k / 16) x in omega (arith, p, low)))
          ∙ sym (ap (λ (o : Option (List ℕ)). slot_at (λ u. o) 256 0 (k % 16)) (over-there device old (67 + k / 16) (subst (λ (u : ℕ). IsSome (page_of old u)) (sym e) step.rewrites.node_there)))

  node-is : inode_at two d ≡ Some is
  unfolding inode_at bytes_of_node
  node-is = ap (λ (o : Option (List ℕ)). inode_of (slot_at (λ u. o) 256 0 (d % 16))) (over-there device new v node-after) ∙ step.rewrites.puts.node

  -- the pages of the directory afterwards
  place-page : (i : ℕ) → i < is.size → two (address_of_place is i) ≡ page_of between (address_of_place is i)
  place-page i h =
      let s = slot-filled (div_ceil is.size 64) is.addresses (i / 64) (filled_of is step.rewrites.after.places.spelled step.rewrites.after.places.is_dir) (omega (arith, h)) in
      let p = in-pool (i / 64) (address_of_place is i) s in
      let same = step.rewrites.puts.others.others (address_of_place is i) (not-node-page (address_of_place is i) p.0) in
      over-there device new (address_of_place is i) (ap is_some same ∙ step.rewrites.after.places.there i h) ∙ same

  pub own-after : OwnPages is (page_of between) two
  own-after = only_own_pages is (page_of between) two place-page

  pub entries-after : entries_of_inode two is ≡ entries_of_inode (page_of between) is
  entries-after = own-after.entries

  pub named-after : (name : List ℕ) → entry_named two is name ≡ entry_named (page_of between) is name
  unfolding entry_named
  named-after name = ap (λ (es : List EntryRec). find (λ e. bytes_eq e.name name) es) entries-after

  pub changes : ChangesNode shape d is one two
  changes = record {
    same = record { nodes = other-node; pages = other-page };
    below = step.is_node.below;
    node = node-is;
    physical = subst (NamesPhysical shape) (sym step.rewrites.direct) physical;
    root = λ e. step.rewrites.after.places.is_dir;
    good = good;
    one_use = one-use;
    apart = apart;
    directory = λ e. own-after.directory step.rewrites.after;
  }
    where
      physical : NamesPhysical shape was.direct
      physical = let r = step.formed.nodes.spelled d step.is_node.below in subst (λ (z : InodeRec). NamesPhysical shape z.direct) (some_in r.0 was (sym r.1 ∙ step.is_node.spelled)) r.2

      there : (k a : ℕ) → HasAddress is k a → Has changed a ⊎ (Has changed a → ⊥) → IsSome (two a)
      there k a h (inl x) =
          let same = step.rewrites.puts.others.others a (not-node-page a (in-pool k a h).0) in
          let some = ap is_some same ∙ step.rewrites.pages.there a x in
          ap is_some (over-there device new a some) ∙ some
      there k a h (inr none) = by (step.from k a h)
        where
          by : HasAddress was k a ⊎ ((k ≡ row) × IsNew shape one a × Has changed a) → IsSome (two a)
          by (inl x) = ap is_some (kept-page a none (not-node-page a (in-pool k a h).0) ∙ (step.formed.addresses.good d k a (had k a x)).committed)
          by (inr x) = absurd (none x.2)

      good : (k a : ℕ) → HasAddress is k a → GoodAddress shape two is.kind a
      good k a h =
          let p = in-pool k a h in
          let b = some-of (two a) (there k a h (has-or-not changed a)) in
          record { from_pool = p.0; in_pool = p.1; bytes = b.0; committed = b.1; spelled = λ f. absurd (not-file (sym step.rewrites.after.places.is_dir ∙ f)) }

      one-use : (i j a : ℕ) → HasAddress is i a → HasAddress is j a → i ≡ j
      one-use i j a h l = by (step.from i a h) (step.from j a l)
        where
          by : HasAddress was i a ⊎ ((i ≡ row) × IsNew shape one a × Has changed a) → HasAddress was j a ⊎ ((j ≡ row) × IsNew shape one a × Has changed a) → i ≡ j
          by (inl x) (inl y) = (step.formed.addresses.one_use d i d j a (had i a x) (had j a y)).1
          by (inl x) (inr y) = absurd (y.1.unused (d, i, had i a x))
          by (inr x) (inl y) = absurd (x.1.unused (d, j, had j a y))
          by (inr x) (inr y) = x.0 ∙ sym y.0

      apart : (i a k slot : ℕ) → HasAddress is i a → k ≢ d → AddressAt shape one k slot a → ⊥
      apart i a k slot h far at = by (step.from i a h)
        where
          by : HasAddress was i a ⊎ ((i ≡ row) × IsNew shape one a × Has changed a) → ⊥
          by (inl x) = far (step.formed.addresses.one_use k slot d i a at (had i a x)).0
          by (inr x) = x.1.unused (k, slot, at)
