-- A free node that is given a record without pages.
use Rattle.std.proofs.Common.{◌≡◌, ◌≢◌, ℕ, zero, suc, ◌+◌, ◌-◌, ◌%◌, ◌≤◌, ◌<◌, Bool, true, false, not, ◌==◌, ◌||◌, ◌&&◌, nat_le, cond, List, [], ◌∷◌, ◌++◌, length, map, filter, replicate, refl, sym, ap, subst, ◌∙◌, Option, Some, None, IsSome, ◌⊎◌, inl, inr, arith}
use Rattle.std.proofs.lemmas.Bool.{and_parts, cases_eq, cond-true, eqb-true, eq-eqb}
use Rattle.std.specs.List.{enumerate_from, flat_map}
use Rattle.std.specs.Prelude.{◌↔◌, slice_get}
use Rattle.nl_field.specs.Bytes.{all_zero, zeros}
use Rattle.nl_field.specs.Graph.{GraphNode, NodeBody, file_node}
use Rattle.nl_field.specs.Inode.{are_filled, is_inode, is_inode_of_kind}
use Rattle.nl_field.specs.Members.{Has}
use Rattle.nl_field.specs.Numbers.{ShapeBounds}
use Rattle.nl_field.specs.Pointers.{is_none_pointer, no_pointer}
use Rattle.nl_field.specs.declared.entry.EntryRec.{EntryRec}
use Rattle.nl_field.specs.declared.inode.InodeRec.{InodeRec}
use Rattle.nl_field.specs.declared.inode.Kind.{Kind}
use Rattle.nl_field.specs.declared.inode.Kind.TheVariants.{Dir, File, Unused}
use Rattle.nl_field.specs.declared.pointer.Pointer.{Pointer}
use Rattle.nl_field.specs.declared.shape.Shape.{Shape}
use Rattle.nl_meta.specs.Committed.{VirtualMap}
use Rattle.nl_meta.specs.Consistent.{AddressAt, GoodEntry, IsNode}
use Rattle.nl_meta.specs.Nodes.{body_of, entries_of_inode, graph_of, inode_at, pointers_at, pointers_of_inode, slot_at}
use Rattle.nl_meta.specs.Pages.{Pages, page_of}
use Rattle.nl_meta.specs.Running.{running_over}
use Rattle.nl_meta.proofs.Lists.{member-append, member-flat, none_some, some_in}
use Rattle.nl_meta.proofs.SlotProofs.{one_slot}
use Rattle.nl_inode.specs.Free.{is_free}
use Rattle.nl_inode.specs.FreeLaws.{NodeIs, PoolIsFree, UsesAddress}
use Rattle.nl_inode.specs.Nodes.{NodeBecomes, PutsNode, Spaces, is_free_address, page_of_node, taken_as}
use Rattle.nl_inode.proofs.FreeProofs.{free_is_unused}
use Rattle.nl_dir.specs.AfterLaws.{HasAddress}
use Rattle.nl_dir.proofs.LawProofs.{empty_is_directory}
use Rattle.nl_dir.proofs.PlaceFacts.{zeros-zero}
use Rattle.nl_tree.specs.GraphLaws.{entry_at}
use Rattle.nl_tree.specs.Represents.{entries_in, node_named, node_of}
use Rattle.nl_namespace.specs.Making.{empty_node}
use Rattle.nl_namespace.proofs.DirectoryChanges.{one-node, over-same, over-there}
use Rattle.nl_namespace.proofs.NodeChanges.{ChangesNode, SameBut, address-other, formed-then, graph-at, graph-other, node-back, node-other, own-other, uses-then}
use Rattle.nl_namespace.proofs.PutSteps.{follows-node, node-over}
use Rattle.nl_namespace.proofs.States.{AllGood, Follows, State}

pub taken-spelled : (kind : Kind) (generation : ℕ) → kind ≢ Unused → is_inode (taken_as kind generation) ≡ true
unfolding is_inode_of_kind are_filled zeros
taken-spelled Unused generation used = absurd (used refl)
taken-spelled File generation used = refl
taken-spelled Dir generation used = refl

or-true : (a b : Bool) → a ≡ true → (a || b) ≡ true
or-true true b e = refl
or-true false b e = absurd (no e)
  where
    no : false ≡ true → ⊥
    no e = cc

zero-of : (xs : List ℕ) (k a : ℕ) → all_zero xs ≡ true → slice_get xs k ≡ Some a → a ≡ 0
zero-of [] k a e h = absurd (none_some a h)
zero-of (x ∷ xs) zero a e h = sym (some_in x a h) ∙ eqb-true x 0 (and_parts (x == 0) _ e).0
zero-of (x ∷ xs) (suc k) a e h = zero-of xs k a (and_parts (x == 0) _ e).1 h

has-zero : (xs : List ℕ) (a : ℕ) → all_zero xs ≡ true → Has xs a → a ≡ 0
has-zero [] a e h = absurd h
has-zero (x ∷ xs) a e (inl h) = sym h ∙ eqb-true x 0 (and_parts (x == 0) _ e).0
has-zero (x ∷ xs) a e (inr h) = has-zero xs a (and_parts (x == 0) _ e).1 h

member-copies : {X : Type 0} (n : ℕ) (x y : X) → Has (replicate n x) y → x ≡ y
member-copies zero x y h = absurd h
member-copies (suc n) x y (inl e) = e
member-copies (suc n) x y (inr h) = member-copies n x y h

none-left : (a : ℕ) (ps : List Pointer) → ((p : Pointer) → Has ps p → is_none_pointer p ≡ true) → filter (λ (p : ℕ × Pointer). not (is_none_pointer p.1)) (enumerate_from a ps) ≡ []
none-left a [] none = refl
none-left a (p ∷ ps) none =
    ap (λ (b : Bool). cond (not b) ((a, p) ∷ filter (λ (p : ℕ × Pointer). not (is_none_pointer p.1)) (enumerate_from (a + 1) ps)) (filter (λ (p : ℕ × Pointer). not (is_none_pointer p.1)) (enumerate_from (a + 1) ps))) (none p (inl refl))
    ∙ none-left (a + 1) ps (λ q h. none q (inr h))

no-pointers : (pages : VirtualMap) (kind : Kind) (generation : ℕ) → pointers_of_inode pages (taken_as kind generation) ≡ []
unfolding pointers_of_inode
no-pointers pages kind generation = none-left 0 (replicate 8 no_pointer ++ flat_map (pointers_at pages) (zeros 16)) none
  where
    page : (a : ℕ) → a ≡ 0 → (p : Pointer) → Has (pointers_at pages a) p → is_none_pointer p ≡ true
    page a e p h = ap is_none_pointer (sym (member-copies 256 no_pointer p (subst (λ (ps : List Pointer). Has ps p) (cond-true (a == 0) _ _ (eq-eqb a 0 e)) h)))

    by : (p : Pointer) → Has (replicate 8 no_pointer) p ⊎ Has (flat_map (pointers_at pages) (zeros 16)) p → is_none_pointer p ≡ true
    by p (inl h) = ap is_none_pointer (sym (member-copies 8 no_pointer p h))
    by p (inr h) = let m = member-flat (pointers_at pages) (zeros 16) p h in page m.0 (has-zero (zeros 16) m.0 (zeros-zero 16) m.1) p m.2

    none : (p : Pointer) → Has (replicate 8 no_pointer ++ flat_map (pointers_at pages) (zeros 16)) p → is_none_pointer p ≡ true
    none p h = by p (member-append (replicate 8 no_pointer) (flat_map (pointers_at pages) (zeros 16)) p h)

no-entries : (pages : VirtualMap) (kind : Kind) (generation : ℕ) → entries_of_inode pages (taken_as kind generation) ≡ []
unfolding entries_of_inode
no-entries pages kind generation = refl

module _ (shape : Shape) (bounds : ShapeBounds shape) (device : VirtualMap) (n : ℕ) (kind : Kind) (generation : ℕ) (p q : Pages) (s t : Spaces) (state : State shape device p s) (below : n < shape.nodes) (used : kind ≢ Unused)
    (unused : (rec : InodeRec) → IsNode shape (running_over device p) n rec → ⊥) (there : IsSome (page_of p (page_of_node n))) (puts : PutsNode n (taken_as kind generation) p q) (becomes : NodeBecomes n false s t) where
  abbrev is : InodeRec
  is = taken_as kind generation

  abbrev one : VirtualMap
  one = running_over device p

  abbrev two : VirtualMap
  two = running_over device q

  abbrev v : ℕ
  v = page_of_node n

  pub new-follows : Follows device p q 1
  new-follows = follows-node device n is p q there puts

  there-after : IsSome (page_of q v)
  there-after = new-follows.there v there

  node-is : inode_at two n ≡ Some is
  node-is = node-over device q n there-after ∙ puts.node

  is-there : NodeIs n is one two
  is-there = record {
    at = node-is;
    others = record {
      others = λ u far. over-same device p q u (puts.others.others u far);
      slots = λ j far.
          ap (λ (o : Option (List ℕ)). slot_at (λ u. o) 256 0 j) (over-there device q v there-after) ∙ puts.others.slots j far
          ∙ sym (ap (λ (o : Option (List ℕ)). slot_at (λ u. o) 256 0 j) (over-there device p v there));
    };
  }

  same : SameBut shape n one two
  same = record {
    nodes = λ k h far. one_slot.node v (n % 16) one two is-there.others k (λ x y. far (one-node k n x y));
    pages = λ k slot a far at. is-there.others.others a (high a (state.formed.addresses.good k slot a at).from_pool);
  }
    where
      high : (a : ℕ) → 67 + shape.inode_pages ≤ a → a ≢ v
      high a h e = let f = bounds.places in omega (arith, h, e, f, below)

  none-has : (slot a : ℕ) → HasAddress is slot a → ⊥
  none-has slot a h = h.1 (zero-of (zeros 16) slot a (zeros-zero 16) h.0)

  pub not-root : n ≢ 0
  not-root e =
      let m = bounds.some_nodes in
      let low : 0 < shape.nodes = omega (arith, m) in
      let r = state.formed.nodes.spelled 0 low in
      unused r.0 (subst (λ (k : ℕ). IsNode shape one k r.0) (sym e) (record { below = low; spelled = r.1; used = dir-kind r.0.kind (state.formed.nodes.root r.0 r.1) }))
    where
      dir-kind : (k : Kind) → k ≡ Dir → k ≢ Unused
      dir-kind k e u = cc

  change : ChangesNode shape n is one two
  change = record {
    same = same;
    below = below;
    node = node-is;
    physical = λ p h. or-true _ _ (ap is_none_pointer (sym (member-copies 8 no_pointer p h)));
    root = λ e. absurd (not-root e);
    good = λ slot a h. absurd (none-has slot a h);
    one_use = λ i j a h l. absurd (none-has i a h);
    apart = λ i a k slot h far at. none-has i a h;
    directory = λ e. empty_is_directory two is e (taken-spelled kind generation used) refl;
  }

  pub new-others : (k : ℕ) → k ≢ n → graph_of shape two k ≡ graph_of shape one k
  new-others k far = graph-other shape bounds one two n same k far

  pub new-keeps : (k : ℕ) (r : InodeRec) → k ≢ n → IsNode shape one k r → IsNode shape two k r
  new-keeps k r far at = node-other shape bounds one two n same k r far at

  pub new-back : (k : ℕ) (r : InodeRec) → k ≢ n → IsNode shape two k r → IsNode shape one k r
  new-back k r far at = node-back shape bounds one two n same k r far at

  pub new-node : IsNode shape two n is
  new-node = record { below = below; spelled = node-is; used = used }

  body : (graph_of shape two n).body ≡ body_of two is kind
  body = ap (λ (x : GraphNode). x.body) (graph-at shape two n is below node-is)

  pub new-body : (bytes_of : ℕ → List ℕ) → node_of bytes_of (graph_of shape two n).body ≡ Some (empty_node kind)
  new-body bytes_of = ap (node_of bytes_of) body ∙ of kind used
    where
      of : (k : Kind) → k ≢ Unused → node_of bytes_of (body_of two is k) ≡ Some (empty_node k)
      of Unused h = absurd (h refl)
      of Dir h = refl
      of File h = ap (λ (ps : List (ℕ × Pointer)). node_of bytes_of (file_node 0 ps)) (no-pointers two kind generation)

  pub new-childless : (x : List ℕ) → entry_at (graph_of shape two) n x ≡ None
  new-childless x = ap (λ (b : NodeBody). node_named x (entries_in b)) body ∙ of kind
    where
      of : (k : Kind) → node_named x (entries_in (body_of two is k)) ≡ None
      of Unused = refl
      of File = refl
      of Dir = ap (λ (es : List EntryRec). node_named x (map (λ e. (e.name, e.ino)) es)) (no-entries two kind generation)

  pub new-uses : (b : ℕ) → UsesAddress shape two b ↔ UsesAddress shape one b
  new-uses b = (forth, back)
    where
      forth : UsesAddress shape two b → UsesAddress shape one b
      forth u = by (uses-then shape bounds one two n is change state.formed b u)
        where
          by : ((slot : ℕ) × HasAddress is slot b) ⊎ ((k : ℕ) × (slot : ℕ) × (k ≢ n) × AddressAt shape one k slot b) → UsesAddress shape one b
          by (inl x) = absurd (none-has x.0 b x.1)
          by (inr x) = (x.0, x.1, x.3)

      back : UsesAddress shape one b → UsesAddress shape two b
      back u = (u.0, u.1, address-other shape bounds one two n same u.0 u.1 b (λ e. unused u.2.rec (subst (λ (k : ℕ). IsNode shape one k u.2.rec) e u.2.is_node)) u.2)

  good : AllGood shape two
  good k e l = by (cases_eq k n)
    where
      target : GoodEntry shape one e → GoodEntry shape two e
      target g = record {
        no_root = g.no_root;
        target = g.target;
        is_node = node-other shape bounds one two n same e.ino g.target (λ h. unused g.target (subst (λ (k : ℕ). IsNode shape one k g.target) h g.is_node)) g.is_node;
        generation = g.generation;
      }

      by : (k ≡ n) ⊎ (k ≡ n → ⊥) → GoodEntry shape two e
      by (inl h) =
          let at = subst (λ (m : ℕ). IsNode shape two m l.rec) h l.is_node in
          let same : l.rec ≡ is = some_in l.rec is (sym at.spelled ∙ node-is) in
          absurd (subst (λ (es : List EntryRec). Has es e) (ap (entries_of_inode two) same ∙ no-entries two kind generation) l.has)
      by (inr far) =
          let at = node-back shape bounds one two n same k l.rec far l.is_node in
          target (state.good k e (record { rec = l.rec; is_node = at; is_dir = l.is_dir; has = subst (λ (es : List EntryRec). Has es e) (own-other shape bounds one two n same k l.rec far at l.is_dir).entries l.has }))

  pub new-state : State shape device q t
  new-state = record {
    count = new-follows.count ∙ state.count;
    formed = formed-then shape bounds one two n is change state.formed;
    good = good;
    count_nodes = becomes.nodes.count ∙ state.count_nodes;
    count_pool = ap length becomes.pool ∙ state.count_pool;
    nodes = (free_is_unused shape one two s t).node_taken n is state.nodes becomes is-there used;
    pool = pool;
  }
    where
      equal : (a : ℕ) → is_free_address t a ≡ is_free_address s a
      equal a = λ i. nat_le (becomes.first i) a && is_free (becomes.pool i) (a - becomes.first i)

      pool : PoolIsFree shape two t
      pool = record {
        first = becomes.first ∙ state.pool.first;
        each = λ b low high.
            let l = subst (λ (f : ℕ). f ≤ b) becomes.first low in (
              (λ f u. (state.pool.each b l high).0 (sym (equal b) ∙ f) ((new-uses b).0 u)),
              (λ none. equal b ∙ (state.pool.each b l high).1 (λ u. none ((new-uses b).1 u))),
            );
      }
