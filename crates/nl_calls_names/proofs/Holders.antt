-- The pointers of all files, where files stay and where a node is unused.
use Rattle.std.proofs.Common.{◌≡◌, ◌≢◌, ℕ, zero, suc, ◌+◌, ◌<◌, Bool, true, false, nat_lt, List, [], ◌∷◌, ◌++◌, map, flat_map, Option, Some, None, refl, sym, ap, subst, ◌∙◌, ◌⊎◌, inl, inr, arith}
use Rattle.std.proofs.lemmas.Bool.{cases_eq, cond-false, cond-true, ltb-true}
use Rattle.std.specs.List.{range_with_len}
use Rattle.nl_field.specs.Graph.{GraphNode}
use Rattle.nl_field.specs.Members.{Has}
use Rattle.nl_field.specs.declared.inode.InodeRec.{InodeRec}
use Rattle.nl_field.specs.declared.inode.Kind.{Kind}
use Rattle.nl_field.specs.declared.inode.Kind.TheVariants.{Dir, File, Unused}
use Rattle.nl_field.specs.declared.pointer.Pointer.{Pointer}
use Rattle.nl_field.specs.declared.pointer.Tag.{Tag}
use Rattle.nl_field.specs.declared.shape.Shape.{Shape}
use Rattle.nl_iface.specs.Holders.{tagged}
use Rattle.nl_meta.specs.Committed.{VirtualMap}
use Rattle.nl_meta.specs.Consistent.{IsNode}
use Rattle.nl_meta.specs.Nodes.{Held, body_of, graph_of, held_by, held_in, inode_at, node_from, pointers_in, pointers_of, size_of}
use Rattle.nl_meta.specs.PointerLists.{tagged_by, tagged_in, with_tag}
use Rattle.nl_meta.proofs.Lists.{flat-member, map-member, member-flat, member-map, range-member}

none_in : {X : Type 0} (xs : List X) → ((x : X) → Has xs x → ⊥) → xs ≡ []
none_in [] none = refl
none_in (x ∷ xs) none = absurd (none x (inl refl))

-- what a node has, by its number
tag_in : (k : ℕ) (node : GraphNode) (h : Held) → Has (held_by k node) h → h.tag.ino ≡ k
tag_in k node h has =
    let m = member-map (λ (p : ℕ × Pointer). record { size = size_of node.body; tag = record { ino = k; generation = node.generation; index = p.0 }; pointer = p.1 }) (pointers_in node.body) h has in
    ap (λ (x : Held). x.tag.ino) (sym m.2)

bare : (k : ℕ) (node : GraphNode) → pointers_in node.body ≡ [] → held_by k node ≡ []
bare k node e = ap (λ (ps : List (ℕ × Pointer)). map (λ p. record { size = size_of node.body; tag = record { ino = k; generation = node.generation; index = p.0 }; pointer = p.1 }) ps) e

-- those of a node without their tags
plain : (size generation k : ℕ) (ps : List (ℕ × Pointer))
    → map tagged (map with_tag (map (λ (p : ℕ × Pointer). record { size = size; tag = record { ino = k; generation = generation; index = p.0 }; pointer = p.1 }) ps)) ≡ map (λ (p : ℕ × Pointer). p.1) ps
plain size generation k [] = refl
plain size generation k (p ∷ ps) = ap (λ (l : List Pointer). p.1 ∷ l) (plain size generation k ps)

pub plain_by : (k : ℕ) (node : GraphNode) → map tagged (tagged_by k node) ≡ map (λ (p : ℕ × Pointer). p.1) (pointers_in node.body)
plain_by k node = plain (size_of node.body) node.generation k (pointers_in node.body)

flat_same : (f g : ℕ → List Held) → ((k : ℕ) → g k ≡ f k) → (a m : ℕ) → flat_map g (range_with_len a m) ≡ flat_map f (range_with_len a m)
flat_same f g same a zero = refl
flat_same f g same a (suc m) = let rest = flat_same f g same (a + 1) m in λ i. same a i ++ rest i

-- ---- files stay, and so do the pointers of all

module _ (shape : Shape) (old new : VirtualMap) (same : tagged_in shape new ≡ tagged_in shape old) (files : (n : ℕ) (rec : InodeRec) → IsNode shape old n rec → rec.kind ≡ File → graph_of shape new n ≡ graph_of shape old n) where
  -- a node has none that had none
  none_came : (k : ℕ) → k < shape.nodes → held_by k (graph_of shape old k) ≡ [] → held_by k (graph_of shape new k) ≡ []
  unfolding pointers_of
  none_came k low none = none_in (held_by k (graph_of shape new k)) no
    where
      no : (h : Held) → Has (held_by k (graph_of shape new k)) h → ⊥
      no h has =
          let all = flat-member (λ (m : ℕ). held_by m (graph_of shape new m)) (range_with_len 0 shape.nodes) k h (range-member k 0 shape.nodes (omega arith) (omega (arith, low))) has in
          let shown = subst (λ (xs : List (Tag × Pointer)). Has xs (with_tag h)) same (map-member with_tag (held_in shape new) h all) in
          let m = member-map with_tag (held_in shape old) (with_tag h) shown in
          let from = member-flat (λ (m : ℕ). held_by m (graph_of shape old m)) (range_with_len 0 shape.nodes) m.0 m.1 in
          let here : from.0 ≡ k = sym (tag_in from.0 (graph_of shape old from.0) m.0 from.2) ∙ ap (λ (x : Tag × Pointer). x.0.ino) m.2 ∙ tag_in k (graph_of shape new k) h has in
          subst (λ (xs : List Held). Has xs m.0) none (subst (λ (i : ℕ). Has (held_by i (graph_of shape old i)) m.0) here from.2)

  pub held_same : (k : ℕ) → held_by k (graph_of shape new k) ≡ held_by k (graph_of shape old k)
  unfolding graph_of
  held_same k = by (nat_lt k shape.nodes) refl
    where
      past : nat_lt k shape.nodes ≡ false → held_by k (graph_of shape new k) ≡ held_by k (graph_of shape old k)
      past e =
          bare k (graph_of shape new k) (ap (λ (o : Option InodeRec). pointers_in (node_from new o).body) (cond-false (nat_lt k shape.nodes) (inode_at new k) None e))
          ∙ sym (bare k (graph_of shape old k) (ap (λ (o : Option InodeRec). pointers_in (node_from old o).body) (cond-false (nat_lt k shape.nodes) (inode_at old k) None e)))

      within : nat_lt k shape.nodes ≡ true → k < shape.nodes → (o : Option InodeRec) → inode_at old k ≡ o → held_by k (graph_of shape new k) ≡ held_by k (graph_of shape old k)
      within e low o at = of o at (ap (λ (x : Option InodeRec). pointers_in (node_from old x).body) (cond-true (nat_lt k shape.nodes) (inode_at old k) None e ∙ at))
        where
          without : pointers_in (graph_of shape old k).body ≡ [] → held_by k (graph_of shape new k) ≡ held_by k (graph_of shape old k)
          without none = let before = bare k (graph_of shape old k) none in none_came k low before ∙ sym before

          used : File ≡ Unused → ⊥
          used e = cc

          of : (o : Option InodeRec) → inode_at old k ≡ o → pointers_in (graph_of shape old k).body ≡ pointers_in (node_from old o).body → held_by k (graph_of shape new k) ≡ held_by k (graph_of shape old k)
          of None at body = without body
          of (Some rec) at body = kind rec.kind refl
            where
              kind : (x : Kind) → rec.kind ≡ x → held_by k (graph_of shape new k) ≡ held_by k (graph_of shape old k)
              kind Unused f = without (body ∙ ap (λ (x : Kind). pointers_in (body_of old rec x)) f)
              kind Dir f = without (body ∙ ap (λ (x : Kind). pointers_in (body_of old rec x)) f)
              kind File f = ap (held_by k) (files k rec (record { below = low; spelled = at; used = λ u. used (sym f ∙ u) }) f)

      by : (b : Bool) → nat_lt k shape.nodes ≡ b → held_by k (graph_of shape new k) ≡ held_by k (graph_of shape old k)
      by false e = past e
      by true e = within e (ltb-true k shape.nodes e) (inode_at old k) refl

  pub held_all : held_in shape new ≡ held_in shape old
  unfolding pointers_of
  held_all = flat_same (λ k. held_by k (graph_of shape old k)) (λ k. held_by k (graph_of shape new k)) held_same 0 shape.nodes

-- ---- a node is unused, and the others stay

module _ (shape : Shape) (old new : VirtualMap) (n : ℕ) (others : (k : ℕ) → k ≢ n → graph_of shape new k ≡ graph_of shape old k) (gone : held_by n (graph_of shape new n) ≡ []) where
  pub fewer : (h : Held) → Has (held_in shape new) h → Has (held_in shape old) h
  unfolding pointers_of
  fewer h has = by (member-flat (λ (m : ℕ). held_by m (graph_of shape new m)) (range_with_len 0 shape.nodes) h has)
    where
      by : (k : ℕ) × Has (range_with_len 0 shape.nodes) k × Has (held_by k (graph_of shape new k)) h → Has (held_in shape old) h
      by m = of (cases_eq m.0 n)
        where
          of : (m.0 ≡ n) ⊎ (m.0 ≡ n → ⊥) → Has (held_in shape old) h
          of (inl e) = absurd (subst (λ (xs : List Held). Has xs h) gone (subst (λ (i : ℕ). Has (held_by i (graph_of shape new i)) h) e m.2))
          of (inr far) = flat-member (λ (k : ℕ). held_by k (graph_of shape old k)) (range_with_len 0 shape.nodes) m.0 h m.1 (subst (λ (node : GraphNode). Has (held_by m.0 node) h) (others m.0 far) m.2)
