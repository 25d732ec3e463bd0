-- A file one of whose pointers has another name is as before but for that.
use Rattle.std.proofs.Common.{◌≡◌, ◌≢◌, ◌⊎◌, inl, inr, ℕ, suc, ◌+◌, ◌*◌, ◌==◌, nat_lt, Bool, true, false, cond, not, List, [], ◌∷◌, ◌++◌, map, filter, flat_map, length, get_or, refl, sym, ap, ◌∙◌, None, Some, arith}
use Rattle.std.proofs.lemmas.Bool.{and_parts, cases_eq, cond-true, eqb-true, lt-ltb, not-true}
use Rattle.std.proofs.lemmas.List.{length-append}
use Rattle.std.specs.List.{enumerate_from}
use Rattle.nl_field.specs.Graph.{GraphNode, file_node}
use Rattle.nl_field.specs.Numbers.{ShapeBounds}
use Rattle.nl_field.specs.Pointers.{is_none_pointer, no_pointer}
use Rattle.nl_field.specs.declared.inode.InodeRec.{InodeRec}
use Rattle.nl_field.specs.declared.inode.Kind.{Kind}
use Rattle.nl_field.specs.declared.pointer.Pointer.{Pointer}
use Rattle.nl_field.specs.declared.pointer.Tag.{Tag}
use Rattle.nl_field.specs.declared.shape.Shape.{Shape}
use Rattle.nl_indirect.proofs.Cases.{to-some}
use Rattle.nl_meta.specs.Committed.{VirtualMap}
use Rattle.nl_meta.specs.Nodes.{body_of, graph_of, inode_at, node_from, pointer_at, pointers_at, pointers_of_inode}
use Rattle.nl_meta.specs.PointerLists.{IsFile}
use Rattle.nl_meta.proofs.SlotProofs.{at_index, pointers_length}
use Rattle.nl_meta_running.specs.FileLaws.{IsRight}
use Rattle.nl_meta_running.proofs.FileChanges.{one_file_changes}
use Rattle.nl_handler.specs.Handling.{RenamesPointer}
use Rattle.nl_core_callbacks.specs.Handled.{SameButNames, nameless, nameless_body}

-- ---- lists of pointers

-- both are none, or both are some with one sequence number
record Alike (x y : Pointer) : Type 0 where
  none : is_none_pointer y ≡ is_none_pointer x
  stamp : y.stamp ≡ x.stamp

abbrev unnamed : ℕ × Pointer → ℕ × Pointer
unnamed p = (p.0, nameless p.1)

-- those that are not none, with their indexes
abbrev there : ℕ → List Pointer → List (ℕ × Pointer)
there a xs = filter (λ p. not (is_none_pointer p.1)) (enumerate_from a xs)

first : (b : Bool) (a : ℕ) (x : Pointer) (rest : List (ℕ × Pointer)) → map unnamed (cond (not b) ((a, x) ∷ rest) rest) ≡ cond (not b) ((a, nameless x) ∷ map unnamed rest) (map unnamed rest)
first true a x rest = refl
first false a x rest = refl

all-alike : (a : ℕ) (xs ys : List Pointer) → length ys ≡ length xs → ((i : ℕ) → Alike (get_or xs i no_pointer) (get_or ys i no_pointer)) → map unnamed (there a ys) ≡ map unnamed (there a xs)
all-alike a [] [] len same = refl
all-alike a [] (y ∷ ys) len same = absurd (omega (arith, len))
all-alike a (x ∷ xs) [] len same = absurd (omega (arith, len))
all-alike a (x ∷ xs) (y ∷ ys) len same =
    first (is_none_pointer y) a y (there (a + 1) ys)
    ∙ both (all-alike (a + 1) xs ys (omega (arith, len)) (λ i. same (suc i)))
    ∙ sym (first (is_none_pointer x) a x (there (a + 1) xs))
  where
    here : Alike x y
    here = same 0

    both : map unnamed (there (a + 1) ys) ≡ map unnamed (there (a + 1) xs)
        → cond (not (is_none_pointer y)) ((a, nameless y) ∷ map unnamed (there (a + 1) ys)) (map unnamed (there (a + 1) ys))
        ≡ cond (not (is_none_pointer x)) ((a, nameless x) ∷ map unnamed (there (a + 1) xs)) (map unnamed (there (a + 1) xs))
    both rest = λ i. cond (not (here.none i)) ((a, record { name = 0; stamp = here.stamp i }) ∷ rest i) (rest i)

-- ---- a file

abbrev all-of : VirtualMap → InodeRec → List Pointer
all-of pages rec = rec.direct ++ flat_map (pointers_at pages) rec.addresses

module _ (shape : Shape) (pages : VirtualMap) (n : ℕ) (rec : InodeRec) (file : IsFile shape pages n rec) where
  node-is : graph_of shape pages n ≡ record { generation = rec.generation; body = file_node rec.size (pointers_of_inode pages rec) }
  unfolding graph_of
  node-is =
      ap (node_from pages) (cond-true (nat_lt n shape.nodes) (inode_at pages n) None (lt-ltb n shape.nodes file.below) ∙ file.spelled)
      ∙ ap (λ (k : Kind). record { generation = rec.generation; body = body_of pages rec k }) file.kind

  seen : nameless_body (graph_of shape pages n).body ≡ file_node rec.size (map unnamed (there 0 (all-of pages rec)))
  unfolding pointers_of_inode
  seen = ap (λ (node : GraphNode). nameless_body node.body) node-is

  all-length : length (all-of pages rec) ≡ 4104
  all-length = let d = file.direct in let r = rows rec.addresses in let k = file.slots in length-append rec.direct (flat_map (pointers_at pages) rec.addresses) ∙ omega (arith, d, r, k)
    where
      rows : (vs : List ℕ) → length (flat_map (pointers_at pages) vs) ≡ 256 * length vs
      rows [] = omega arith
      rows (v ∷ vs) = let r = rows vs in length-append (pointers_at pages v) (flat_map (pointers_at pages) vs) ∙ (let h = pointers_length pages v in omega (arith, h, r))

module _ (shape : Shape) (bounds : ShapeBounds shape) (old new : VirtualMap) (tag : Tag) (stamp name : ℕ) (right : IsRight shape old) (r : RenamesPointer shape old new tag stamp name) where
  abbrev n : ℕ
  n = tag.ino

  at-old : (i : ℕ) → get_or (all-of old r.was) i no_pointer ≡ pointer_at old r.was i
  at-old i = at_index old r.was i r.pointer.file_before.direct

  at-new : (i : ℕ) → get_or (all-of new r.is) i no_pointer ≡ pointer_at new r.is i
  at-new i = at_index new r.is i r.pointer.file_after.direct

  had : (not (is_none_pointer (pointer_at old r.was tag.index)) ≡ true) × (((pointer_at old r.was tag.index).stamp == stamp) ≡ true)
  had = and_parts (not (is_none_pointer (pointer_at old r.was tag.index))) ((pointer_at old r.was tag.index).stamp == stamp) r.had.pointer

  by-index : (i : ℕ) → (i ≡ tag.index) ⊎ (i ≢ tag.index) → Alike (pointer_at old r.was i) (pointer_at new r.is i)
  by-index i (inl e) = record {
    none = ap (λ (k : ℕ). is_none_pointer (pointer_at new r.is k)) e ∙ ap is_none_pointer r.now ∙ to-some (Some (record { name = name; stamp = stamp })) r.spelled refl
        ∙ sym (not-true (is_none_pointer (pointer_at old r.was tag.index)) had.0) ∙ sym (ap (λ (k : ℕ). is_none_pointer (pointer_at old r.was k)) e);
    stamp = ap (λ (k : ℕ). (pointer_at new r.is k).stamp) e ∙ ap (λ (p : Pointer). p.stamp) r.now ∙ sym (eqb-true (pointer_at old r.was tag.index).stamp stamp had.1)
        ∙ sym (ap (λ (k : ℕ). (pointer_at old r.was k).stamp) e);
  }
  by-index i (inr off) = record { none = ap is_none_pointer (r.pointer.others i off); stamp = ap (λ (p : Pointer). p.stamp) (r.pointer.others i off) }

  each : (i : ℕ) → Alike (get_or (all-of old r.was) i no_pointer) (get_or (all-of new r.is) i no_pointer)
  each i = let a = by-index i (cases_eq i tag.index) in record {
    none = ap is_none_pointer (at-new i) ∙ a.none ∙ sym (ap is_none_pointer (at-old i));
    stamp = ap (λ (p : Pointer). p.stamp) (at-new i) ∙ a.stamp ∙ sym (ap (λ (p : Pointer). p.stamp) (at-old i));
  }

  own-generation : (graph_of shape new n).generation ≡ (graph_of shape old n).generation
  own-generation =
      ap (λ (node : GraphNode). node.generation) (node-is shape new n r.is r.pointer.file_after) ∙ r.pointer.generation
      ∙ sym (ap (λ (node : GraphNode). node.generation) (node-is shape old n r.was r.pointer.file_before))

  own-body : nameless_body (graph_of shape new n).body ≡ nameless_body (graph_of shape old n).body
  own-body =
      seen shape new n r.is r.pointer.file_after
      ∙ (λ i. file_node (r.size i) (all-alike 0 (all-of old r.was) (all-of new r.is) (all-length shape new n r.is r.pointer.file_after ∙ sym (all-length shape old n r.was r.pointer.file_before)) each i))
      ∙ sym (seen shape old n r.was r.pointer.file_before)

  other : (k : ℕ) → k ≢ n → graph_of shape new k ≡ graph_of shape old k
  other k off = (one_file_changes shape old new n r.was r.is bounds right r.changes).others k off

  pub names-alone : SameButNames (graph_of shape old) (graph_of shape new)
  names-alone = record { generation = λ k. generation k (cases_eq k n); body = λ k. body k (cases_eq k n) }
    where
      generation : (k : ℕ) → (k ≡ n) ⊎ (k ≢ n) → (graph_of shape new k).generation ≡ (graph_of shape old k).generation
      generation k (inl e) = ap (λ (m : ℕ). (graph_of shape new m).generation) e ∙ own-generation ∙ sym (ap (λ (m : ℕ). (graph_of shape old m).generation) e)
      generation k (inr off) = ap (λ (node : GraphNode). node.generation) (other k off)

      body : (k : ℕ) → (k ≡ n) ⊎ (k ≢ n) → nameless_body (graph_of shape new k).body ≡ nameless_body (graph_of shape old k).body
      body k (inl e) = ap (λ (m : ℕ). nameless_body (graph_of shape new m).body) e ∙ own-body ∙ sym (ap (λ (m : ℕ). nameless_body (graph_of shape old m).body) e)
      body k (inr off) = ap (λ (node : GraphNode). nameless_body node.body) (other k off)
