-- An entry that is taken out of a directory.
use Rattle.std.proofs.Common.{◌≡◌, ◌≢◌, ℕ, ◌+◌, ◌-◌, ◌/◌, ◌≤◌, ◌<◌, Bool, true, false, ◌==◌, cond, List, [], ◌∷◌, length, refl, sym, ap, subst, ◌∙◌, Option, Some, None, option_map, IsSome, ◌⊎◌, inl, inr, arith, bytes_eq}
use Rattle.std.specs.Int.{div_ceil}
use Rattle.std.specs.Prelude.{◌↔◌, position}
use Rattle.nl_field.specs.Members.{Has}
use Rattle.nl_field.specs.Numbers.{ShapeBounds}
use Rattle.nl_field.specs.declared.entry.EntryRec.{EntryRec}
use Rattle.nl_field.specs.declared.inode.InodeRec.{InodeRec}
use Rattle.nl_field.specs.declared.shape.Shape.{Shape}
use Rattle.nl_meta.specs.Committed.{VirtualMap}
use Rattle.nl_meta.specs.Consistent.{AddressAt, GoodEntry, IsNode}
use Rattle.nl_meta.specs.Nodes.{address_of_place, entries_of_inode, entry_named, graph_of}
use Rattle.nl_meta.specs.Pages.{Pages, page_of}
use Rattle.nl_meta.specs.Running.{running_over}
use Rattle.nl_meta.proofs.Lists.{member-append, none_some, some_in}
use Rattle.nl_inode.specs.FreeLaws.{PoolIsFree, UsesAddress}
use Rattle.nl_inode.specs.Nodes.{Spaces, page_of_node}
use Rattle.nl_inode.proofs.FreeProofs.{free_is_unused}
use Rattle.nl_dir.specs.AfterLaws.{AddressesAfter, HasAddress}
use Rattle.nl_dir.specs.Changes.{changed_by_removal}
use Rattle.nl_dir.specs.Directory.{IsDirectory, entry_at as entry_in_place, given_up, last_alone, shorter}
use Rattle.nl_dir.proofs.AfterProofs.{addresses_of_changed, lists_removed}
use Rattle.nl_dir.proofs.EntryLists.{named-at, position-at, some-of}
use Rattle.nl_dir.proofs.Records.{SpelledDir, spelled-dir}
use Rattle.nl_meta_running.proofs.SameNeeded.{slot-filled}
use Rattle.nl_tree.specs.GraphLaws.{entry_at}
use Rattle.nl_namespace.specs.Entering.{ReturnsAddress, TakesOut}
use Rattle.nl_namespace.proofs.DirectoryChanges.{DirStep, IsNew}
use Rattle.nl_namespace.proofs.DirectorySteps.{change, entry-after, entry-before, good-after, graph-stays, is-after, node-stays, nodes-after, target-after, uses-from, uses-here, uses-to}
use Rattle.nl_namespace.proofs.NodeChanges.{formed-then, node-back}
use Rattle.nl_dir.proofs.PageProofs.{removing_changes_pages}
use Rattle.nl_namespace.proofs.PutSteps.{dir-used, follows-node, follows-pages, node-over}
use Rattle.nl_namespace.proofs.Rooms.{few-changed, some-places}
use Rattle.nl_namespace.proofs.States.{Follows, State, follows-then}

-- the place of a name that is there is one of the directory
named-below : (pages : VirtualMap) (rec : InodeRec) (name : List ℕ) (i : ℕ) → IsDirectory pages rec → IsSome (entry_named pages rec name) → position (λ e. bytes_eq e.name name) (entries_of_inode pages rec) ≡ Some i → i < rec.size
unfolding entry_named entries_of_inode
named-below pages rec name i is there at =
    let e = some-of (entry_named pages rec name) there in
    let n = named-at (entry_in_place pages rec) rec.size name e.0 e.1 in
    let p = position-at (entry_in_place pages rec) rec.size n.0 name e.0 is.entries is.names_differ n.1 n.2 n.3 in
    let same = some_in n.0 i (sym p ∙ at) in
    let h = n.1 in
    omega (arith, same, h)

module _ (shape : Shape) (bounds : ShapeBounds shape) (device : VirtualMap) (d : ℕ) (name : List ℕ) (p q : Pages) (s t : Spaces) (state : State shape device p s) (below : d < shape.nodes) (takes : TakesOut d name p q s t) where
  abbrev rec : InodeRec
  rec = takes.rec

  abbrev is : InodeRec
  is = shorter takes.rec

  abbrev one : VirtualMap
  one = running_over device p

  abbrev two : VirtualMap
  two = running_over device q

  abbrev changed : List ℕ
  changed = changed_by_removal rec takes.removes.place

  spelled : SpelledDir rec
  spelled = spelled-dir rec takes.has.directory.places.is_dir takes.has.directory.places.spelled

  some : 0 < rec.size
  some = some-places (page_of p) rec name takes.there

  place-below : takes.removes.place < rec.size
  place-below = named-below (page_of p) rec name takes.removes.place takes.has.directory takes.there takes.removes.had_name

  is-node : IsNode shape one d rec
  is-node = record { below = below; spelled = node-over device p d takes.has.node_there ∙ takes.has.spelled; used = dir-used rec.kind takes.has.directory.places.is_dir }

  after : AddressesAfter rec
  after = addresses_of_changed (page_of p) rec takes.has.directory.places

  place-address : (i : ℕ) → i < rec.size → HasAddress rec (i / 64) (address_of_place rec i)
  place-address i h = slot-filled (div_ceil rec.size 64) rec.addresses (i / 64) spelled.filled (omega (arith, h))

  own : (u : ℕ) → Has changed u → ((k : ℕ) × HasAddress rec k u) ⊎ IsNew shape one u
  own u h = by (member-append (cond (takes.removes.place == rec.size - 1) [] (address_of_place rec takes.removes.place ∷ [])) (cond (last_alone rec) [] (address_of_place rec (rec.size - 1) ∷ [])) u h)
    where
      first : (b : Bool) (a i : ℕ) → i < rec.size → a ≡ address_of_place rec i → Has (cond b [] (a ∷ [])) u → (k : ℕ) × HasAddress rec k u
      first true a i l e h = absurd h
      first false a i l e (inl x) = (i / 64, subst (HasAddress rec (i / 64)) (sym e ∙ x) (place-address i l))
      first false a i l e (inr x) = absurd x

      by : Has (cond (takes.removes.place == rec.size - 1) [] (address_of_place rec takes.removes.place ∷ [])) u ⊎ Has (cond (last_alone rec) [] (address_of_place rec (rec.size - 1) ∷ [])) u
          → ((k : ℕ) × HasAddress rec k u) ⊎ IsNew shape one u
      by (inl x) = inl (first (takes.removes.place == rec.size - 1) (address_of_place rec takes.removes.place) takes.removes.place place-below refl x)
      by (inr x) = let z = some in inl (first (last_alone rec) (address_of_place rec (rec.size - 1)) (rec.size - 1) (omega (arith, z)) refl x)

  step : DirStep shape device d rec is changed p takes.between q 0
  step = record {
    rewrites = record {
      node_there = takes.has.node_there;
      spelled = takes.has.spelled;
      before = takes.has.directory;
      after = takes.removes.directory;
      direct = refl;
      pages = takes.removes.pages;
      puts = takes.puts;
    };
    formed = state.formed;
    is_node = is-node;
    was_dir = takes.has.directory.places.is_dir;
    own = own;
    from = λ k a h. inl ((after.removed some k a).0 h).0;
    generation = refl;
  }

  pub take-follows : Follows device p q 3
  take-follows = record {
    there = both.there;
    frozen = both.frozen;
    few = let f = both.few in let l = few-changed rec takes.removes.place in omega (arith, f, l);
    count = both.count;
    clean = both.clean;
    pages = both.pages;
  }
    where
      first : Follows device p takes.between (length changed)
      first = follows-pages device changed p takes.between takes.removes.pages (removing_changes_pages name takes.given rec is p takes.between takes.has.directory takes.removes)

      both : Follows device p q (length changed + 1)
      both = follows-then device p takes.between q (length changed) 1 first (follows-node device d is takes.between q (first.there (page_of_node d) takes.has.node_there) takes.puts)

  pub take-others : (k : ℕ) → k ≢ d → graph_of shape two k ≡ graph_of shape one k
  take-others k far = graph-stays shape bounds device d rec is changed p takes.between q 0 step k far

  pub take-at : entry_at (graph_of shape two) d name ≡ None
  take-at = entry-after shape bounds device d rec is changed p takes.between q 0 step name ∙ ap (option_map (λ (e : EntryRec). e.ino)) takes.removes.named

  pub take-else : (x : List ℕ) → x ≢ name → entry_at (graph_of shape two) d x ≡ entry_at (graph_of shape one) d x
  take-else x far =
      entry-after shape bounds device d rec is changed p takes.between q 0 step x ∙ ap (option_map (λ (e : EntryRec). e.ino)) (takes.removes.others x far)
      ∙ sym (entry-before shape bounds device d rec is changed p takes.between q 0 step x)

  pub take-node : (k : ℕ) (r : InodeRec) → k ≢ d → IsNode shape one k r → IsNode shape two k r
  take-node k r far at = node-stays shape bounds device d rec is changed p takes.between q 0 step k r far at

  pub take-back : (k : ℕ) (r : InodeRec) → k ≢ d → IsNode shape two k r → IsNode shape one k r
  take-back k r far at = node-back shape bounds one two d (change shape bounds device d rec is changed p takes.between q 0 step).same k r far at

  pub take-dir : IsNode shape two d is
  take-dir = is-after shape bounds device d rec is changed p takes.between q 0 step

  pub take-was : IsNode shape one d rec
  take-was = is-node

  pub take-good : (e : EntryRec) → GoodEntry shape one e → GoodEntry shape two e
  take-good = target-after shape bounds device d rec is changed p takes.between q 0 step

  pub fewer-uses : (b : ℕ) → UsesAddress shape two b → UsesAddress shape one b
  fewer-uses b u = by (uses-from shape bounds device d rec is changed p takes.between q 0 step b u)
    where
      had : (k : ℕ) → HasAddress rec k b → UsesAddress shape one b
      had k x = (d, k, record { rec = rec; is_node = is-node; in_slot = x.0; not_zero = x.1 })

      by : ((k : ℕ) × HasAddress is k b) ⊎ ((k : ℕ) × (slot : ℕ) × (k ≢ d) × AddressAt shape one k slot b) → UsesAddress shape one b
      by (inl x) = had x.0 ((after.removed some x.0 b).0 x.1).0
      by (inr x) = (x.0, x.1, x.3)

  same-uses : (b : ℕ) → given_up rec ≢ Some b → UsesAddress shape two b ↔ UsesAddress shape one b
  same-uses b off = (fewer-uses b, back)
    where
      back : UsesAddress shape one b → UsesAddress shape two b
      back u = by (uses-to shape bounds device d rec is changed p takes.between q 0 step b u)
        where
          by : ((k : ℕ) × HasAddress rec k b) ⊎ UsesAddress shape two b → UsesAddress shape two b
          by (inl x) = uses-here shape bounds device d rec is changed p takes.between q 0 step x.0 b ((after.removed some x.0 b).1 (x.1, off))
          by (inr x) = x

  -- the address that is given up is used no longer
  given-unused : (a : ℕ) → given_up rec ≡ Some a → UsesAddress shape two a → ⊥
  given-unused a e u = by (uses-from shape bounds device d rec is changed p takes.between q 0 step a u)
    where
      last : address_of_place rec (rec.size - 1) ≡ a
      last = of (last_alone rec) e
        where
          of : (b : Bool) → cond b (Some (address_of_place rec (rec.size - 1))) None ≡ Some a → address_of_place rec (rec.size - 1) ≡ a
          of true e = some_in _ _ e
          of false e = absurd (none_some a e)

      had : AddressAt shape one d ((rec.size - 1) / 64) a
      had =
          let z = some in
          let h = subst (HasAddress rec ((rec.size - 1) / 64)) last (place-address (rec.size - 1) (omega (arith, z))) in
          record { rec = rec; is_node = is-node; in_slot = h.0; not_zero = h.1 }

      by : ((k : ℕ) × HasAddress is k a) ⊎ ((k : ℕ) × (slot : ℕ) × (k ≢ d) × AddressAt shape one k slot a) → ⊥
      by (inl x) = ((after.removed some x.0 a).0 x.1).1 e
      by (inr x) = x.2 (state.formed.addresses.one_use x.0 x.1 d ((rec.size - 1) / 64) a x.3 had).0

  pub given-low : (a : ℕ) → given_up rec ≡ Some a → 67 + shape.inode_pages ≤ a
  given-low a e = of (last_alone rec) e
    where
      of : (b : Bool) → cond b (Some (address_of_place rec (rec.size - 1))) None ≡ Some a → 67 + shape.inode_pages ≤ a
      of true e =
          let z = some in
          let h = place-address (rec.size - 1) (omega (arith, z)) in
          subst (λ (v : ℕ). 67 + shape.inode_pages ≤ v) (some_in _ _ e)
          (state.formed.addresses.good d ((rec.size - 1) / 64) (address_of_place rec (rec.size - 1)) (record { rec = rec; is_node = is-node; in_slot = h.0; not_zero = h.1 })).from_pool
      of false e = absurd (none_some a e)

  pool-after : PoolIsFree shape two t
  pool-after = by takes.given refl
    where
      by : (o : Option ℕ) → takes.given ≡ o → PoolIsFree shape two t
      by None e =
          let same : t ≡ s = subst (λ (o : Option ℕ). ReturnsAddress o s t) e takes.gives in
          let off : (b : ℕ) → given_up rec ≢ Some b = λ b f. none_some b (sym e ∙ takes.removes.given ∙ f) in
          subst (PoolIsFree shape two) (sym same) (record {
            first = state.pool.first;
            each = λ b low high. (
              (λ f u. (state.pool.each b low high).0 f ((same-uses b (off b)).0 u)),
              (λ none. (state.pool.each b low high).1 (λ u. none ((same-uses b (off b)).1 u))),
            );
          })
      by (Some a) e =
          let h = subst (λ (o : Option ℕ). ReturnsAddress o s t) e takes.gives in
          let g = sym takes.removes.given ∙ e in
          let f = state.pool.first in
          let l = given-low a g in
          (free_is_unused shape one two s t).address_given a state.pool (omega (arith, f, l)) h (λ b far. same-uses b (λ z. far (some_in b a (sym z ∙ g)))) (given-unused a g)

  nodes-same : t.nodes ≡ s.nodes
  nodes-same = by takes.given refl
    where
      by : (o : Option ℕ) → takes.given ≡ o → t.nodes ≡ s.nodes
      by None e = ap (λ (x : Spaces). x.nodes) (subst (λ (o : Option ℕ). ReturnsAddress o s t) e takes.gives)
      by (Some a) e = (subst (λ (o : Option ℕ). ReturnsAddress o s t) e takes.gives).nodes

  pool-count : length t.pool ≡ length s.pool
  pool-count = by takes.given refl
    where
      by : (o : Option ℕ) → takes.given ≡ o → length t.pool ≡ length s.pool
      by None e = ap (λ (x : Spaces). length x.pool) (subst (λ (o : Option ℕ). ReturnsAddress o s t) e takes.gives)
      by (Some a) e = (subst (λ (o : Option ℕ). ReturnsAddress o s t) e takes.gives).pool.count

  pub take-state : State shape device q t
  take-state = record {
    count = take-follows.count ∙ state.count;
    formed = formed-then shape bounds one two d is (change shape bounds device d rec is changed p takes.between q 0 step) state.formed;
    good = good-after shape bounds device d rec is changed p takes.between q 0 step state.good (λ e h. inl ((lists_removed name takes.given rec is p takes.between takes.has.directory takes.removes e).0 h).0);
    count_nodes = ap length nodes-same ∙ state.count_nodes;
    count_pool = pool-count ∙ state.count_pool;
    nodes = nodes-after shape bounds device d rec is changed p takes.between q 0 step s t nodes-same state.nodes;
    pool = pool-after;
  }
