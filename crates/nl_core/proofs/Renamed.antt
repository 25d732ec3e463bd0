-- Metadata that is the same but for names of pages stands for the same tree.
use Rattle.std.proofs.Common.{◌≡◌, inl, inr, ℕ, ◌<◌, List, [], ◌∷◌, ◌++◌, map, length, Option, refl, sym, ap, subst, ◌∙◌}
use Rattle.std.specs.Int.{div_ceil}
use Rattle.std.specs.List.{flat_map, range_with_len}
use Rattle.std.proofs.lemmas.List.{length-map}
use Rattle.nl_field.specs.Graph.{Graph, NodeBody, directory_node, file_node, unused}
use Rattle.nl_field.specs.Members as members
use Rattle.nl_field.specs.declared.pointer.Pointer.{Pointer}
use Rattle.nl_field.specs.declared.pointer.Tag.{Tag}
use Rattle.nl_field.specs.declared.shape.Shape.{Shape}
use Rattle.nl_tree.specs.Tree.{Tree}
use Rattle.nl_core_callbacks.specs.Handled.{SameButNames, nameless, nameless_body}
use Rattle.nl_core_callbacks.specs.Laws.{TreesStay}
use Rattle.nl_iface.specs.Holders.{IsRef, always, wants_tagged}
use Rattle.nl_iface.specs.Names.{Has, LivePage, Names, led}
use Rattle.nl_meta.specs.Committed.{VirtualMap}
use Rattle.nl_meta.specs.Consistent.{PointerIsThere, OnePointer, PageOfStamp, PointersRight}
use Rattle.nl_meta.specs.Nodes.{Held, graph_of, held_by, held_in, pointers_of}
use Rattle.nl_meta.specs.PointerLists.{tagged_in, with_tag}
use Rattle.nl_meta.proofs.Lists.{some_in}
use Rattle.nl_meta_running.specs.FileLaws.{IsRight}
use Rattle.nl_spec_commits.specs.Trees.{RepresentsTree}

-- ---- lists

maps_twice : {X Y Z : Type 0} (f : Y → Z) (h : X → Y) (k : X → Z) → ((x : X) → f (h x) ≡ k x) → (xs : List X) → map f (map h xs) ≡ map k xs
maps_twice f h k same [] = refl
maps_twice f h k same (x ∷ xs) = λ i. same x i ∷ maps_twice f h k same xs i

pub maps_apart : {X Y : Type 0} (f : X → Y) (xs ys : List X) → map f (xs ++ ys) ≡ map f xs ++ map f ys
maps_apart f [] ys = refl
maps_apart f (x ∷ xs) ys = λ i. f x ∷ maps_apart f xs ys i

flat_seen : {X Y Z : Type 0} (f : Y → Z) (a : X → List Y) (b : X → List Z) → ((x : X) → map f (a x) ≡ b x) → (xs : List X) → map f (flat_map a xs) ≡ flat_map b xs
flat_seen f a b same [] = refl
flat_seen f a b same (x ∷ xs) = maps_apart f (a x) (flat_map a xs) ∙ (λ i. same x i ++ flat_seen f a b same xs i)

has_seen : {X Y : Type 0} (f : X → Y) (xs : List X) (x : X) → members.Has xs x → members.Has (map f xs) (f x)
has_seen f [] x has = absurd has
has_seen f (y ∷ xs) x (inl e) = inl (ap f e)
has_seen f (y ∷ xs) x (inr has) = inr (has_seen f xs x has)

seen_has : {X Y : Type 0} (f : X → Y) (xs : List X) (y : Y) → members.Has (map f xs) y → (x : X) × members.Has xs x × (f x ≡ y)
seen_has f [] y has = absurd has
seen_has f (x ∷ xs) y (inl e) = (x, inl refl, e)
seen_has f (x ∷ xs) y (inr has) = let k = seen_has f xs y has in (k.0, inr k.1, k.2)

tagged_has : (hs : List Held) (h : Held) → members.Has hs h → Has (map with_tag hs) (h.tag, h.pointer)
tagged_has [] h has = absurd has
tagged_has (x ∷ hs) h (inl e) = inl (ap with_tag e)
tagged_has (x ∷ hs) h (inr has) = inr (tagged_has hs h has)

-- ---- pointers of files but for their names

abbrev nameless_held : Held → Held
nameless_held h = record { size = h.size; tag = h.tag; pointer = nameless h.pointer }

held_seen : (n generation : ℕ) (body : NodeBody) → map nameless_held (held_by n (record { generation = generation; body = body })) ≡ held_by n (record { generation = generation; body = nameless_body body })
held_seen n generation unused = refl
held_seen n generation (directory_node entries) = refl
held_seen n generation (file_node size pointers) =
    let bare : ℕ × Pointer → Held = λ p. record { size = size; tag = record { ino = n; generation = generation; index = p.0 }; pointer = nameless p.1 } in
    maps_twice nameless_held (λ p. record { size = size; tag = record { ino = n; generation = generation; index = p.0 }; pointer = p.1 }) bare (λ p. refl) pointers
    ∙ sym (maps_twice (λ p. record { size = size; tag = record { ino = n; generation = generation; index = p.0 }; pointer = p.1 }) (λ (p : ℕ × Pointer). (p.0, nameless p.1)) bare (λ p. refl) pointers)

module _ (shape : Shape) (old new : Graph) (same : SameButNames old new) where
  abbrev bare_of : ℕ → List Held
  bare_of n = held_by n (record { generation = (old n).generation; body = nameless_body (old n).body })

  node_seen : (n : ℕ) → map nameless_held (held_by n (new n)) ≡ bare_of n
  node_seen n =
      held_seen n (new n).generation (new n).body
      ∙ ap (λ (b : NodeBody). held_by n (record { generation = (new n).generation; body = b })) (same.body n)
      ∙ ap (λ k. held_by n (record { generation = k; body = nameless_body (old n).body })) (same.generation n)

  held_alike : map nameless_held (pointers_of shape new) ≡ map nameless_held (pointers_of shape old)
  unfolding pointers_of
  held_alike =
      flat_seen nameless_held (λ n. held_by n (new n)) bare_of node_seen (range_with_len 0 shape.nodes)
      ∙ sym (flat_seen nameless_held (λ n. held_by n (old n)) bare_of (λ n. held_seen n (old n).generation (old n).body) (range_with_len 0 shape.nodes))

-- ---- the metadata

module _ (shape : Shape) (old new : VirtualMap) (same : SameButNames (graph_of shape old) (graph_of shape new)) where
  -- there are as many
  pub as_many : length (tagged_in shape new) ≡ length (tagged_in shape old)
  as_many =
      length-map (held_in shape new) with_tag ∙ sym (length-map (held_in shape new) nameless_held)
      ∙ ap length (held_alike shape (graph_of shape old) (graph_of shape new) same)
      ∙ length-map (held_in shape old) nameless_held ∙ sym (length-map (held_in shape old) with_tag)

  was : (h : Held) → members.Has (held_in shape new) h → (k : Held) × members.Has (held_in shape old) k × (nameless_held k ≡ nameless_held h)
  was h has = seen_has nameless_held (held_in shape old) (nameless_held h)
      (subst (λ (xs : List Held). members.Has xs (nameless_held h)) (held_alike shape (graph_of shape old) (graph_of shape new) same) (has_seen nameless_held (held_in shape new) h has))

  -- The nodes of the new map are right, and each of its pointers leads to the live page of its tag and its write sequence number.
  pub record Leads (names : Names) : Type 0 where
    pub right : IsRight shape new
    pub leads : (x : Tag × Pointer) → Has (tagged_in shape new) x → IsRef names always (wants_tagged x) x.1.name

  module _ (page_of_stamp : ℕ → Option PageOfStamp) (names : Names) (l : Leads names) (trees_stay : TreesStay) where
    there_bare : (k : Held) → PointerIsThere page_of_stamp k → PointerIsThere page_of_stamp (nameless_held k)
    there_bare k t = record { bytes = t.bytes; holds = t.holds; whole = t.whole; behind = t.behind }

    there_named : (h : Held) → PointerIsThere page_of_stamp (nameless_held h) → PointerIsThere page_of_stamp h
    there_named h t = record { bytes = t.bytes; holds = t.holds; whole = t.whole; behind = t.behind }

    -- two pointers of one name lead to one page, which has one tag
    one_page : (h k : Held) → members.Has (held_in shape new) h → members.Has (held_in shape new) k → h.pointer.name ≡ k.pointer.name → OnePointer h k
    one_page h k has also e =
        let a = (l.leads (h.tag, h.pointer) (tagged_has (held_in shape new) h has)).leads in
        let b = (l.leads (k.tag, k.pointer) (tagged_has (held_in shape new) k also)).leads in
        let page : a.0 ≡ b.0 = some_in a.0 b.0 (sym a.1 ∙ ap (λ n. names.live (led names n)) e ∙ b.1) in
        let tag : h.tag ≡ k.tag = sym a.2.0 ∙ ap (λ (p : LivePage). p.tag) page ∙ b.2.0 in
        (ap (λ (t : Tag). t.ino) tag, ap (λ (t : Tag). t.index) tag)

    pointers_right : PointersRight (held_in shape old) (PointerIsThere page_of_stamp) → PointersRight (held_in shape new) (PointerIsThere page_of_stamp)
    pointers_right p = record {
      below = λ h has. let k = was h has in
          subst (λ (x : Held). x.tag.index < div_ceil x.size 4096) k.2 (p.below k.0 k.1);
      there = λ h has. let k = was h has in there_named h (subst (λ (x : Held). PointerIsThere page_of_stamp x) k.2 (there_bare k.0 (p.there k.0 k.1)));
      stamps_differ = λ h k has also e.
          let a = was h has in
          let b = was k also in
          let one = p.stamps_differ a.0 b.0 a.1 b.1 (ap (λ (x : Held). x.pointer.stamp) a.2 ∙ e ∙ sym (ap (λ (x : Held). x.pointer.stamp) b.2)) in (
            sym (ap (λ (x : Held). x.tag.ino) a.2) ∙ one.0 ∙ ap (λ (x : Held). x.tag.ino) b.2,
            sym (ap (λ (x : Held). x.tag.index) a.2) ∙ one.1 ∙ ap (λ (x : Held). x.tag.index) b.2,
          );
      names_differ = one_page;
    }

    pub runs_renamed : (tree : Tree) → RepresentsTree shape old page_of_stamp tree → RepresentsTree shape new page_of_stamp tree
    runs_renamed tree m = record {
      right = record {
        legal = m.right.legal;
        numbers = m.right.numbers;
        tree = record { nodes = l.right.nodes; addresses = l.right.addresses; entries = l.right.entries; pointers = pointers_right m.right.tree.pointers };
      };
      represents = record {
        is_tree = m.represents.is_tree;
        depicts = trees_stay _ (graph_of shape old) (graph_of shape new) tree same m.represents.depicts;
      };
      data_fits = m.data_fits;
    }
