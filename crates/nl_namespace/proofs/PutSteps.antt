-- An entry that is put into a directory.
use Rattle.std.proofs.Common.{◌≡◌, ◌≢◌, ℕ, ◌+◌, ◌-◌, ◌/◌, ◌%◌, ◌≤◌, ◌<◌, true, List, [], ◌∷◌, length, nat_le, refl, sym, ap, subst, ◌∙◌, Option, Some, None, option_map, is_some, IsSome, ◌⊎◌, inl, inr, arith, IfSome}
use Rattle.std.proofs.lemmas.Bool.{and_parts, cases_eq, leb-true}
use Rattle.std.specs.Int.{div_ceil}
use Rattle.std.specs.Prelude.{◌↔◌}
use Rattle.nl_field.specs.Inode.{inode_of}
use Rattle.nl_field.specs.Members.{Has}
use Rattle.nl_field.specs.Numbers.{ShapeBounds}
use Rattle.nl_field.specs.declared.entry.EntryRec.{EntryRec}
use Rattle.nl_field.specs.declared.inode.InodeRec.{InodeRec}
use Rattle.nl_field.specs.declared.inode.Kind.{Kind}
use Rattle.nl_field.specs.declared.inode.Kind.TheVariants.{Dir, Unused}
use Rattle.nl_field.specs.declared.shape.Shape.{Shape}
use Rattle.nl_meta.specs.Committed.{VirtualMap}
use Rattle.nl_meta.specs.Consistent.{AddressAt, GoodEntry, IsNode}
use Rattle.nl_meta.specs.Nodes.{address_of_place, bytes_of_node, entries_of_inode, graph_of, inode_at, slot_at}
use Rattle.nl_meta.specs.PageLaws.{IsApart}
use Rattle.nl_meta.specs.Pages.{Pages, besides_0, page_of, with_address}
use Rattle.nl_meta.specs.Steps as steps
use Rattle.nl_meta.specs.Running.{running_over}
use Rattle.nl_meta.proofs.Lists.{none_some, some_in}
use Rattle.nl_inode.specs.FreeLaws.{PoolIsFree, UsesAddress}
use Rattle.nl_inode.specs.Nodes.{PutsNode, Spaces, is_free_address, page_of_node}
use Rattle.nl_inode.proofs.FreeProofs.{free_is_unused}
use Rattle.nl_inode.proofs.PageProofs.{put_changes}
use Rattle.nl_inode.proofs.MarkTree.{set-below}
use Rattle.nl_dir.specs.AfterLaws.{AddressesAfter, HasAddress}
use Rattle.nl_dir.specs.Changes.{ChangesPages, with_addresses}
use Rattle.nl_dir.specs.Directory.{FitsFresh, longer}
use Rattle.nl_dir.proofs.AfterProofs.{addresses_of_changed, lists_inserted}
use Rattle.nl_dir.proofs.LawProofs.{changed_pages_run}
use Rattle.nl_dir.proofs.PageProofs.{inserting_changes_pages}
use Rattle.nl_dir.proofs.PlaceFacts.{below-length, one-dirtier, one-page}
use Rattle.nl_dir.proofs.Records.{SpelledDir, new-address, none-fits, spelled-dir}
use Rattle.nl_meta_running.proofs.SameNeeded.{slot-filled}
use Rattle.nl_tree.specs.GraphLaws.{entry_at}
use Rattle.nl_namespace.specs.Entering.{PutsIn, TakesAddress}
use Rattle.nl_namespace.proofs.DirectoryChanges.{DirStep, IsNew, has-or-not, over-there}
use Rattle.nl_namespace.proofs.DirectorySteps.{change, entry-after, entry-before, good-after, graph-stays, is-after, node-stays, nodes-after, uses-from, uses-here, uses-to}
use Rattle.nl_namespace.proofs.NodeChanges.{formed-then, node-back}
use Rattle.nl_namespace.proofs.States.{Follows, State, follows-then}

-- ---- pages that follow

more-dirty : (vs dirty : List ℕ) → length (besides_0 (with_addresses vs dirty)) ≤ length (besides_0 dirty) + length vs
unfolding with_addresses
more-dirty [] dirty = omega arith
more-dirty (v ∷ vs) dirty =
    let r = more-dirty vs (with_address v dirty) in
    let m = one-dirtier v dirty in
    omega (arith, r, m)

pub follows-pages : (device : VirtualMap) (changed : List ℕ) (p q : Pages) → ChangesPages changed p q → steps.ChangesRunningPages p q → Follows device p q (length changed)
follows-pages device changed p q changes kept = record {
  there = λ v h. there v h (has-or-not changed v);
  frozen = changes.frozen;
  few = let e = ap (λ (xs : List ℕ). length (besides_0 xs)) changes.dirty in let m = more-dirty changed p.dirty in omega (arith, e, m);
  count = changes.count;
  clean = λ c. (changed_pages_run changed device p q c changes).clean;
  pages = kept;
}
  where
    there : (v : ℕ) → IsSome (page_of p v) → Has changed v ⊎ (Has changed v → ⊥) → IsSome (page_of q v)
    there v h (inl c) = changes.there v c
    there v h (inr none) = ap is_some (changes.others v none) ∙ h

pub follows-node : (device : VirtualMap) (n : ℕ) (rec : InodeRec) (p q : Pages) → IsSome (page_of p (page_of_node n)) → PutsNode n rec p q → Follows device p q 1
follows-node device n rec p q there puts =
    follows-pages device (page_of_node n ∷ []) p q (subst (ChangesPages (page_of_node n ∷ []) p) (sym puts.page) (one-page p (page_of_node n) _ (below-length p (page_of_node n) there))) (put_changes p q n rec puts)

-- the record of a node whose page is resident
pub node-over : (device : VirtualMap) (p : Pages) (n : ℕ) → IsSome (page_of p (page_of_node n)) → inode_at (running_over device p) n ≡ inode_at (page_of p) n
unfolding inode_at bytes_of_node
node-over device p n there = ap (λ (o : Option (List ℕ)). inode_of (slot_at (λ u. o) 256 0 (n % 16))) (over-there device p (67 + n / 16) there)

pub dir-used : (k : Kind) → k ≡ Dir → k ≢ Unused
dir-used k e u = cc

-- a free address is one that no node has
pub is-new : (shape : Shape) → ShapeBounds shape → (device : VirtualMap) (p : Pages) (s : Spaces) → State shape device p s → (a : ℕ) → is_free_address s a ≡ true → IsNew shape (running_over device p) a
is-new shape bounds device p s state a free =
    let parts = and_parts (nat_le s.first a) _ free in
    let low = leb-true s.first a parts.0 in
    let high = set-below s.pool (a - s.first) parts.1 in
    let f = state.pool.first in
    let c = state.count_pool in
    let v = bounds.addresses in
    let inside : a < shape.vaddrs = omega (arith, low, high, f, c, v) in
    record { from_pool = omega (arith, low, f); in_pool = inside; unused = (state.pool.each a low inside).0 free }

module _ (shape : Shape) (bounds : ShapeBounds shape) (device : VirtualMap) (d : ℕ) (entry : EntryRec) (p q : Pages) (s t : Spaces) (state : State shape device p s) (below : d < shape.nodes) (puts : PutsIn d entry p q s t) where
  abbrev rec : InodeRec
  rec = puts.rec

  abbrev is : InodeRec
  is = longer puts.rec puts.fresh

  abbrev one : VirtualMap
  one = running_over device p

  abbrev two : VirtualMap
  two = running_over device q

  abbrev changed : List ℕ
  changed = address_of_place is rec.size ∷ []

  spelled : SpelledDir rec
  spelled = spelled-dir rec puts.has.directory.places.is_dir puts.has.directory.places.spelled

  is-node : IsNode shape one d rec
  is-node = record { below = below; spelled = node-over device p d puts.has.node_there ∙ puts.has.spelled; used = dir-used rec.kind puts.has.directory.places.is_dir }

  taken-new : (a : ℕ) → puts.fresh ≡ Some a → IsNew shape one a
  taken-new a e = let h = subst (λ (o : Option ℕ). TakesAddress o s t) e puts.takes in is-new shape bounds device p s state a h.0.free_itself

  new-page : (a : ℕ) → puts.fresh ≡ Some a → address_of_place is rec.size ≡ a
  new-page a e = ap (λ (o : Option ℕ). address_of_place (longer rec o) rec.size) e ∙ new-address rec a rec.size spelled puts.few refl

  after : AddressesAfter rec
  after = addresses_of_changed (page_of p) rec puts.has.directory.places

  own : (u : ℕ) → Has changed u → ((k : ℕ) × HasAddress rec k u) ⊎ IsNew shape one u
  own u (inr h) = absurd h
  own u (inl e) = by puts.fresh refl
    where
      by : (o : Option ℕ) → puts.fresh ≡ o → ((k : ℕ) × HasAddress rec k u) ⊎ IsNew shape one u
      by (Some a) f = inr (subst (IsNew shape one) (sym (new-page a f) ∙ e) (taken-new a f))
      by None f =
          let odd = none-fits p rec (subst (FitsFresh p rec) f puts.fits) in
          let h = slot-filled (div_ceil rec.size 64) rec.addresses (rec.size / 64) spelled.filled (omega (arith, odd)) in
          inl (rec.size / 64, subst (HasAddress rec (rec.size / 64)) (sym (ap (λ (o : Option ℕ). address_of_place (longer rec o) rec.size) f) ∙ e) h)

  from : (k a : ℕ) → HasAddress is k a → HasAddress rec k a ⊎ ((k ≡ rec.size / 64) × IsNew shape one a × Has changed a)
  from k a h = by ((after.inserted p puts.fresh puts.fits puts.few k a).0 h)
    where
      by : HasAddress rec k a ⊎ ((puts.fresh ≡ Some a) × (k ≡ rec.size / 64)) → HasAddress rec k a ⊎ ((k ≡ rec.size / 64) × IsNew shape one a × Has changed a)
      by (inl x) = inl x
      by (inr x) = inr (x.1, taken-new a x.0, inl (new-page a x.0))

  step : DirStep shape device d rec is changed p puts.between q (rec.size / 64)
  step = record {
    rewrites = record {
      node_there = puts.has.node_there;
      spelled = puts.has.spelled;
      before = puts.has.directory;
      after = puts.inserts.directory;
      direct = refl;
      pages = puts.inserts.pages;
      puts = puts.puts;
    };
    formed = state.formed;
    is_node = is-node;
    was_dir = puts.has.directory.places.is_dir;
    own = own;
    from = from;
    generation = refl;
  }

  put-first : Follows device p puts.between 1
  put-first = follows-pages device changed p puts.between puts.inserts.pages (inserting_changes_pages entry puts.fresh rec is p puts.between puts.has.directory puts.fits (by puts.fresh refl) puts.inserts)
    where
      by : (o : Option ℕ) → puts.fresh ≡ o → IfSome o IsApart
      by None e = tt
      by (Some a) e = inr (let low = (taken-new a e).from_pool in omega (arith, low))

  pub put-follows : Follows device p q 2
  put-follows = follows-then device p puts.between q 1 1 put-first (follows-node device d is puts.between q (put-first.there (page_of_node d) puts.has.node_there) puts.puts)

  pub put-others : (k : ℕ) → k ≢ d → graph_of shape two k ≡ graph_of shape one k
  put-others k far = graph-stays shape bounds device d rec is changed p puts.between q (rec.size / 64) step k far

  pub put-at : entry_at (graph_of shape two) d entry.name ≡ Some entry.ino
  put-at = entry-after shape bounds device d rec is changed p puts.between q (rec.size / 64) step entry.name ∙ ap (option_map (λ (e : EntryRec). e.ino)) puts.inserts.named

  pub put-else : (x : List ℕ) → x ≢ entry.name → entry_at (graph_of shape two) d x ≡ entry_at (graph_of shape one) d x
  put-else x far =
      entry-after shape bounds device d rec is changed p puts.between q (rec.size / 64) step x ∙ ap (option_map (λ (e : EntryRec). e.ino)) (puts.inserts.others x far)
      ∙ sym (entry-before shape bounds device d rec is changed p puts.between q (rec.size / 64) step x)

  pub put-node : (k : ℕ) (r : InodeRec) → k ≢ d → IsNode shape one k r → IsNode shape two k r
  put-node k r far at = node-stays shape bounds device d rec is changed p puts.between q (rec.size / 64) step k r far at

  pub put-back : (k : ℕ) (r : InodeRec) → k ≢ d → IsNode shape two k r → IsNode shape one k r
  put-back k r far at = node-back shape bounds one two d (change shape bounds device d rec is changed p puts.between q (rec.size / 64) step).same k r far at

  pub put-dir : IsNode shape two d is
  put-dir = is-after shape bounds device d rec is changed p puts.between q (rec.size / 64) step

  pub put-was : IsNode shape one d rec
  put-was = is-node

  same-uses : (b : ℕ) → puts.fresh ≢ Some b → UsesAddress shape two b ↔ UsesAddress shape one b
  same-uses b off = (there, back)
    where
      there : UsesAddress shape two b → UsesAddress shape one b
      there u = by (uses-from shape bounds device d rec is changed p puts.between q (rec.size / 64) step b u)
        where
          had : (k : ℕ) → HasAddress rec k b ⊎ ((puts.fresh ≡ Some b) × (k ≡ rec.size / 64)) → UsesAddress shape one b
          had k (inl x) = (d, k, record { rec = rec; is_node = is-node; in_slot = x.0; not_zero = x.1 })
          had k (inr x) = absurd (off x.0)

          by : ((k : ℕ) × HasAddress is k b) ⊎ ((k : ℕ) × (slot : ℕ) × (k ≢ d) × AddressAt shape one k slot b) → UsesAddress shape one b
          by (inl x) = had x.0 ((after.inserted p puts.fresh puts.fits puts.few x.0 b).0 x.1)
          by (inr x) = (x.0, x.1, x.3)

      back : UsesAddress shape one b → UsesAddress shape two b
      back u = by (uses-to shape bounds device d rec is changed p puts.between q (rec.size / 64) step b u)
        where
          by : ((k : ℕ) × HasAddress rec k b) ⊎ UsesAddress shape two b → UsesAddress shape two b
          by (inl x) = uses-here shape bounds device d rec is changed p puts.between q (rec.size / 64) step x.0 b ((after.inserted p puts.fresh puts.fits puts.few x.0 b).1 (inl x.1))
          by (inr x) = x

  pool-after : PoolIsFree shape two t
  pool-after = by puts.fresh refl
    where
      by : (o : Option ℕ) → puts.fresh ≡ o → PoolIsFree shape two t
      by None e =
          let same : t ≡ s = subst (λ (o : Option ℕ). TakesAddress o s t) e puts.takes in
          let off : (b : ℕ) → puts.fresh ≢ Some b = λ b f. none_some b (sym e ∙ f) in
          subst (PoolIsFree shape two) (sym same) (record {
            first = state.pool.first;
            each = λ b low high. (
              (λ f u. (state.pool.each b low high).0 f ((same-uses b (off b)).0 u)),
              (λ none. (state.pool.each b low high).1 (λ u. none ((same-uses b (off b)).1 u))),
            );
          })
      by (Some a) e =
          let h = subst (λ (o : Option ℕ). TakesAddress o s t) e puts.takes in
          let new = taken-new a e in
          let f = state.pool.first in
          let g = new.from_pool in
          (free_is_unused shape one two s t).address_taken a state.pool (omega (arith, f, g)) h.1 (λ b far. same-uses b (λ z. far (some_in b a (sym z ∙ e))))
          (uses-here shape bounds device d rec is changed p puts.between q (rec.size / 64) step (rec.size / 64) a ((after.inserted p puts.fresh puts.fits puts.few (rec.size / 64) a).1 (inr (e, refl))))

  nodes-same : t.nodes ≡ s.nodes
  nodes-same = by puts.fresh refl
    where
      by : (o : Option ℕ) → puts.fresh ≡ o → t.nodes ≡ s.nodes
      by None e = ap (λ (x : Spaces). x.nodes) (subst (λ (o : Option ℕ). TakesAddress o s t) e puts.takes)
      by (Some a) e = (subst (λ (o : Option ℕ). TakesAddress o s t) e puts.takes).1.nodes

  pool-count : length t.pool ≡ length s.pool
  pool-count = by puts.fresh refl
    where
      by : (o : Option ℕ) → puts.fresh ≡ o → length t.pool ≡ length s.pool
      by None e = ap (λ (x : Spaces). length x.pool) (subst (λ (o : Option ℕ). TakesAddress o s t) e puts.takes)
      by (Some a) e = (subst (λ (o : Option ℕ). TakesAddress o s t) e puts.takes).1.pool.count

  pub put-state : GoodEntry shape one entry → State shape device q t
  put-state good = record {
    count = put-follows.count ∙ state.count;
    formed = formed-then shape bounds one two d is (change shape bounds device d rec is changed p puts.between q (rec.size / 64) step) state.formed;
    good = good-after shape bounds device d rec is changed p puts.between q (rec.size / 64) step state.good (λ e h. lists e ((lists_inserted entry puts.fresh rec is p puts.between puts.inserts e).0 h));
    count_nodes = ap length nodes-same ∙ state.count_nodes;
    count_pool = pool-count ∙ state.count_pool;
    nodes = nodes-after shape bounds device d rec is changed p puts.between q (rec.size / 64) step s t nodes-same state.nodes;
    pool = pool-after;
  }
    where
      lists : (e : EntryRec) → Has (entries_of_inode (page_of p) rec) e ⊎ (e ≡ entry) → Has (entries_of_inode (page_of p) rec) e ⊎ GoodEntry shape one e
      lists e (inl h) = inl h
      lists e (inr same) = inr (subst (GoodEntry shape one) (sym same) good)

  -- a page that is needed was so before, or is resident
  pub put-needs : (b : ℕ) → UsesAddress shape two b → UsesAddress shape one b ⊎ IsSome (page_of q b)
  put-needs b u = by puts.fresh refl
    where
      new : (a : ℕ) → puts.fresh ≡ Some a → (a ≡ b) ⊎ (a ≡ b → ⊥) → UsesAddress shape one b ⊎ IsSome (page_of q b)
      new a e (inl h) =
          let there = puts.inserts.pages.there a (inl (new-page a e)) in
          inr (subst (λ (v : ℕ). IsSome (page_of q v)) h ((follows-node device d is puts.between q (put-first.there (page_of_node d) puts.has.node_there) puts.puts).there a there))
      new a e (inr far) = inl ((same-uses b (λ z. far (some_in a b (sym e ∙ z)))).0 u)

      by : (o : Option ℕ) → puts.fresh ≡ o → UsesAddress shape one b ⊎ IsSome (page_of q b)
      by None e = inl ((same-uses b (λ z. none_some b (sym e ∙ z))).0 u)
      by (Some a) e = new a e (cases_eq a b)
