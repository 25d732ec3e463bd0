-- Where the pointer of a live page stands: in the file and at the index that its tag says.
use Rattle.std.proofs.Common.{◌≡◌, ◌≢◌, ◌⊎◌, inl, inr, ℕ, zero, suc, ◌≤◌, ◌<◌, Bool, true, false, cond, List, [], ◌∷◌, ◌++◌, flat_map, length, map, nat_lt, Option, Some, None, refl, sym, ap, subst, ◌∙◌, arith}
use Rattle.std.proofs.lemmas.Bool.{both_ways, cases_eq, cases_lt, ltb-true}
use Rattle.std.specs.List.{range_with_len}
use Rattle.std.specs.Prelude.{slice_index}
use Rattle.nl_field.specs.Graph.{GraphNode}
use Rattle.nl_field.specs.Pointers.{is_none_pointer}
use Rattle.nl_field.specs.declared.inode.InodeRec.{InodeRec}
use Rattle.nl_field.specs.declared.inode.Kind.{Kind}
use Rattle.nl_field.specs.declared.inode.Kind.TheVariants.{Dir, File, Unused}
use Rattle.nl_field.specs.declared.pointer.Pointer.{Pointer}
use Rattle.nl_field.specs.declared.pointer.Tag.{Tag}
use Rattle.nl_field.specs.declared.shape.Shape.{Shape}
use Rattle.nl_iface.specs.Names.{Has}
use Rattle.nl_indirect.specs.Ranges.{range_of}
use Rattle.nl_indirect.proofs.LawProofs.{file_of_node}
use Rattle.nl_indirect.proofs.Records.{FileParts, file-parts}
use Rattle.nl_meta.specs.Committed.{VirtualMap}
use Rattle.nl_meta.specs.Consistent.{AddressesRight, IsNode}
use Rattle.nl_meta.specs.Nodes.{Held, body_of, graph_of, held_by, held_in, inode_at, node_from, pointer_at, pointers_in, pointers_of, pointers_of_inode, size_of, slots_of}
use Rattle.nl_meta.specs.PointerLists.{tagged_in, with_tag}
use Rattle.nl_meta.proofs.SlotProofs.{listed}
use Rattle.nl_handler.specs.Handling.{TagsFile}
use Rattle.nl_handler.proofs.Finding.{none-in-range}

-- ---- lists

has-append : {X : Type 0} (xs ys : List X) (y : X) → Has (xs ++ ys) y → Has xs y ⊎ Has ys y
has-append [] ys y h = inr h
has-append (x ∷ xs) ys y (inl e) = inl (inl e)
has-append (x ∷ xs) ys y (inr h) = by (has-append xs ys y h)
  where
    by : Has xs y ⊎ Has ys y → Has (x ∷ xs) y ⊎ Has ys y
    by (inl k) = inl (inr k)
    by (inr k) = inr k

has-flat : {X : Type 0} (f : ℕ → List X) (ns : List ℕ) (y : X) → Has (flat_map f ns) y → (n : ℕ) × Has (f n) y
has-flat f [] y h = absurd h
has-flat {X} f (n ∷ ns) y h = by (λ k. has-flat f ns y k) (has-append (f n) (flat_map f ns) y h)
  where
    by : (Has (flat_map f ns) y → (m : ℕ) × Has (f m) y) → Has (f n) y ⊎ Has (flat_map f ns) y → (m : ℕ) × Has (f m) y
    by rest (inl k) = (n, k)
    by rest (inr k) = rest k

has-map : {X Y : Type 0} (f : X → Y) (xs : List X) (y : Y) → Has (map f xs) y → (x : X) × Has xs x × (f x ≡ y)
has-map f [] y h = absurd h
has-map f (x ∷ xs) y (inl e) = (x, inl refl, e)
has-map f (x ∷ xs) y (inr h) = let r = has-map f xs y h in (r.0, inr r.1, r.2)

slot-inside : (xs : List ℕ) (r : ℕ) → slice_index xs r ≢ 0 → r < length xs
slot-inside [] r far = absurd (far refl)
slot-inside (x ∷ xs) zero far = omega arith
slot-inside (x ∷ xs) (suc r) far = let h = slot-inside xs r far in omega (arith, h)

-- ---- a node of the graph

-- The node is a file that has the pointer at the index.
record InFile (shape : Shape) (pages : VirtualMap) (n : ℕ) (node : GraphNode) (at : ℕ × Pointer) : Type 0 where
  rec : InodeRec
  is_node : IsNode shape pages n rec
  is_file : rec.kind ≡ File
  generation : node.generation ≡ rec.generation
  has : Has (pointers_of_inode pages rec) at

file-unused : File ≡ Unused → ⊥
file-unused e = cc

-- The file of the tag has the pointer at the tag's index.
pub record StandsAt (shape : Shape) (pages : VirtualMap) (h : Tag × Pointer) : Type 0 where
  pub rec : InodeRec
  pub file : TagsFile shape pages h.0 rec
  pub at : pointer_at pages rec h.0.index ≡ h.1
  pub some : is_none_pointer h.1 ≡ false

module _ (shape : Shape) (pages : VirtualMap) (right : AddressesRight shape pages) where
  of-option : (n : ℕ) → n < shape.nodes → (o : Option InodeRec) → inode_at pages n ≡ o → (at : ℕ × Pointer) → Has (pointers_in (node_from pages o).body) at → InFile shape pages n (node_from pages o) at
  of-option n h None e at has = absurd has
  of-option n h (Some rec) e at has = by rec.kind refl has
    where
      by : (k : Kind) → rec.kind ≡ k → Has (pointers_in (body_of pages rec k)) at → InFile shape pages n (node_from pages (Some rec)) at
      by Unused k has = absurd has
      by Dir k has = absurd has
      by File k has = record { rec = rec; is_node = record { below = h; spelled = e; used = λ u. file-unused (sym k ∙ u) }; is_file = k; generation = refl; has = has }

  in-node : (n : ℕ) (at : ℕ × Pointer) → Has (pointers_in (graph_of shape pages n).body) at → InFile shape pages n (graph_of shape pages n) at
  unfolding graph_of
  in-node n at has = by (nat_lt n shape.nodes) refl has
    where
      by : (b : Bool) → nat_lt n shape.nodes ≡ b → Has (pointers_in (node_from pages (cond b (inode_at pages n) None)).body) at → InFile shape pages n (node_from pages (cond b (inode_at pages n) None)) at
      by false e has = absurd has
      by true e has = of-option n (ltb-true n shape.nodes e) (inode_at pages n) refl at has

  stands-in : (n : ℕ) (node : GraphNode) (at : ℕ × Pointer) → InFile shape pages n node at → StandsAt shape pages (record { ino = n; generation = node.generation; index = at.0 }, at.1)
  stands-in n node at f = record {
    rec = f.rec;
    file = record { is_node = f.is_node; tagged = record { is_file = f.is_file; generation = sym f.generation; within = within (cases_lt at.0 8) (cases_eq (slice_index (slots_of f.rec) (range_of at.0)) 0) } };
    at = there.0;
    some = there.1;
  }
    where
      parts : FileParts f.rec
      parts = file-parts f.rec (file_of_node shape pages n f.rec right f.is_node f.is_file).file

      there : (pointer_at pages f.rec at.0 ≡ at.1) × (is_none_pointer at.1 ≡ false)
      there = (listed pages f.rec at.0 at.1 parts.direct).0 f.has

      within : (at.0 < 8) ⊎ (8 ≤ at.0) → (slice_index (slots_of f.rec) (range_of at.0) ≡ 0) ⊎ (slice_index (slots_of f.rec) (range_of at.0) ≢ 0) → at.0 < 4104
      within (inl low) any = omega (arith, low)
      within (inr high) (inl none) = absurd (both_ways (is_none_pointer at.1) there.1 (ap is_none_pointer (sym there.0 ∙ none-in-range pages f.rec at.0 high none)))
      within (inr high) (inr far) = let h = slot-inside (slots_of f.rec) (range_of at.0) far in let l = parts.addresses in omega (arith, h, l, high)

  abbrev as-held : (n : ℕ) → GraphNode → ℕ × Pointer → Held
  as-held n node p = record { size = size_of node.body; tag = record { ino = n; generation = node.generation; index = p.0 }; pointer = p.1 }

  pub stands : (h : Tag × Pointer) → Has (tagged_in shape pages) h → StandsAt shape pages h
  unfolding pointers_of
  stands h has =
      let held = has-map with_tag (held_in shape pages) h has in
      let node = has-flat (λ (n : ℕ). held_by n (graph_of shape pages n)) (range_with_len 0 shape.nodes) held.0 held.1 in
      let at = has-map (as-held node.0 (graph_of shape pages node.0)) (pointers_in (graph_of shape pages node.0).body) held.0 node.1 in
      subst (StandsAt shape pages) (ap with_tag at.2 ∙ held.2) (stands-in node.0 (graph_of shape pages node.0) at.0 (in-node node.0 at.0 at.1))
