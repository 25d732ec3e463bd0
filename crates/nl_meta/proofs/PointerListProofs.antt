-- How the list of all pointers changes where one pointer of one file changes.
use Rattle.std.proofs.Common.{◌≡◌, ◌≢◌, ℕ, zero, suc, ◌+◌, ◌*◌, ◌≤◌, ◌<◌, true, false, not, cond, List, [], ◌∷◌, ◌++◌, map, filter, flat_map, length, refl, sym, ap, ◌∙◌, None, ◌⊎◌, inl, inr, arith, get_or, nat_lt}
use Rattle.std.proofs.lemmas.Bool.{cases_eq, cond-true, lt-ltb}
use Rattle.std.proofs.lemmas.List.{append_assoc, ext_get_or, length-append}
use Rattle.std.specs.List.{enumerate_from, range_with_len}
use Rattle.nl_field.specs.Graph.{file_node}
use Rattle.nl_field.specs.Pointers.{is_none_pointer, no_pointer}
use Rattle.nl_field.specs.declared.inode.InodeRec.{InodeRec}
use Rattle.nl_field.specs.declared.inode.Kind.{Kind}
use Rattle.nl_field.specs.declared.pointer.Pointer.{Pointer}
use Rattle.nl_field.specs.declared.pointer.Tag.{Tag}
use Rattle.nl_field.specs.declared.shape.Shape.{Shape}
use Rattle.nl_meta.specs.Committed.{VirtualMap}
use Rattle.nl_meta.specs.Nodes.{body_of, graph_of, held_by, inode_at, node_from, pointer_at, pointers_at, pointers_of, pointers_of_inode}
use Rattle.nl_meta.specs.PointerLists.{IsFile, OnePointerChanges, shown, tagged_by, with_tag}
use Rattle.nl_meta.proofs.SlotProofs.{at_index, pointers_length}

-- Two lists that differ in one place, which has these.
record Differ {X : Type 0} (was is xs ys : List X) : Type 0 where
  front : List X
  behind : List X
  before : xs ≡ front ++ was ++ behind
  after : ys ≡ front ++ is ++ behind

more_front : {X : Type 0} (a : List X) {was is xs ys : List X} → Differ was is xs ys → Differ was is (a ++ xs) (a ++ ys)
more_front a {was} {is} {xs} {ys} d = record { front = a ++ d.front; behind = d.behind; before = joined xs was d.before; after = joined ys is d.after }
  where
    joined : (xs m : List _) → xs ≡ d.front ++ m ++ d.behind → a ++ xs ≡ a ++ d.front ++ m ++ d.behind
    joined xs m e = ap (λ l. a ++ l) e ∙ sym (append_assoc a (d.front ++ m) d.behind) ∙ ap (λ l. l ++ d.behind) (sym (append_assoc a d.front m))

more_behind : {X : Type 0} (b : List X) {was is xs ys : List X} → Differ was is xs ys → Differ was is (xs ++ b) (ys ++ b)
more_behind b {was} {is} {xs} {ys} d = record { front = d.front; behind = d.behind ++ b; before = joined xs was d.before; after = joined ys is d.after }
  where
    joined : (xs m : List _) → xs ≡ d.front ++ m ++ d.behind → xs ++ b ≡ d.front ++ m ++ (d.behind ++ b)
    joined xs m e = ap (λ l. l ++ b) e ∙ append_assoc (d.front ++ m) d.behind b

-- ---- one file

module _ (n generation : ℕ) where
  abbrev tag_at : ℕ → Tag
  tag_at i = record { ino = n; generation = generation; index = i }

  abbrev tagged : ℕ × Pointer → Tag × Pointer
  tagged p = (tag_at p.0, p.1)

  -- the pointers of a list that are not none, with their indexes from one on
  abbrev there : ℕ → List Pointer → List (Tag × Pointer)
  there a xs = map tagged (filter (λ p. not (is_none_pointer p.1)) (enumerate_from a xs))

  first : (a : ℕ) (x : Pointer) (rest : List (ℕ × Pointer)) → map tagged (cond (not (is_none_pointer x)) ((a, x) ∷ rest) rest) ≡ shown (tag_at a) x ++ map tagged rest
  first a x rest = elim (is_none_pointer x) as (λ b. map tagged (cond (not b) ((a, x) ∷ rest) rest) ≡ cond b [] ((tag_at a, x) ∷ []) ++ map tagged rest) [ true ↦ refl | false ↦ refl ]

  one_differs : (a k : ℕ) (xs ys : List Pointer) → length xs ≡ length ys → k < length xs → ((i : ℕ) → i ≢ k → get_or ys i no_pointer ≡ get_or xs i no_pointer)
      → Differ (shown (tag_at (a + k)) (get_or xs k no_pointer)) (shown (tag_at (a + k)) (get_or ys k no_pointer)) (there a xs) (there a ys)
  one_differs a k [] ys len below same = absurd (omega (arith, below))
  one_differs a k (x ∷ xs) [] len below same = absurd (omega (arith, len))
  one_differs a zero (x ∷ xs) (y ∷ ys) len below same = record {
    front = [];
    behind = there (a + 1) xs;
    before = first a x _ ∙ ap (λ (i : ℕ). shown (tag_at i) x ++ there (a + 1) xs) at;
    after = first a y _ ∙ (λ j. shown (tag_at (at j)) y ++ there (a + 1) (rest j));
  }
    where
      at : a ≡ a + 0
      at = omega arith

      rest : ys ≡ xs
      rest = ext_get_or no_pointer ys xs (omega (arith, len)) (λ i h. same (suc i) (λ e. omega (arith, e)))
  one_differs a (suc k) (x ∷ xs) (y ∷ ys) len below same =
      moved (more_front (shown (tag_at a) x) (one_differs (a + 1) k xs ys (omega (arith, len)) (omega (arith, below)) (λ i far. same (suc i) (λ e. far (omega (arith, e))))))
    where
      at : a + 1 + k ≡ a + suc k
      at = omega arith

      one : y ≡ x
      one = same 0 (λ e. omega (arith, e))

      moved : Differ (shown (tag_at (a + 1 + k)) (get_or xs k no_pointer)) (shown (tag_at (a + 1 + k)) (get_or ys k no_pointer)) (shown (tag_at a) x ++ there (a + 1) xs) (shown (tag_at a) x ++ there (a + 1) ys)
          → Differ (shown (tag_at (a + suc k)) (get_or xs k no_pointer)) (shown (tag_at (a + suc k)) (get_or ys k no_pointer)) (there a (x ∷ xs)) (there a (y ∷ ys))
      moved d = record {
        front = d.front;
        behind = d.behind;
        before = first a x _ ∙ d.before ∙ ap (λ (i : ℕ). d.front ++ shown (tag_at i) (get_or xs k no_pointer) ++ d.behind) at;
        after = first a y _ ∙ ap (λ (z : Pointer). shown (tag_at a) z ++ there (a + 1) ys) one ∙ d.after ∙ ap (λ (i : ℕ). d.front ++ shown (tag_at i) (get_or ys k no_pointer) ++ d.behind) at;
      }

mapped_twice : {X Y Z : Type 0} (f : Y → Z) (g : X → Y) (xs : List X) → map f (map g xs) ≡ map (λ x. f (g x)) xs
mapped_twice f g [] = refl
mapped_twice f g (x ∷ xs) = ap (λ l. f (g x) ∷ l) (mapped_twice f g xs)

abbrev all_of : VirtualMap → InodeRec → List Pointer
all_of pages rec = rec.direct ++ flat_map (pointers_at pages) rec.addresses

module _ (shape : Shape) (pages : VirtualMap) (n : ℕ) (rec : InodeRec) (file : IsFile shape pages n rec) where
  node_is : graph_of shape pages n ≡ record { generation = rec.generation; body = file_node rec.size (pointers_of_inode pages rec) }
  unfolding graph_of
  node_is =
      ap (node_from pages) (cond-true (nat_lt n shape.nodes) (inode_at pages n) None (lt-ltb n shape.nodes file.below) ∙ file.spelled)
      ∙ ap (λ (k : Kind). record { generation = rec.generation; body = body_of pages rec k }) file.kind

  file_tagged : tagged_by n (graph_of shape pages n) ≡ there n rec.generation 0 (all_of pages rec)
  unfolding pointers_of_inode
  file_tagged = ap (tagged_by n) node_is ∙ mapped_twice with_tag (λ p. record { size = rec.size; tag = record { ino = n; generation = rec.generation; index = p.0 }; pointer = p.1 }) (filter (λ p. not (is_none_pointer p.1)) (enumerate_from 0 (all_of pages rec)))

  all_length : length (all_of pages rec) ≡ 4104
  all_length = length-append rec.direct (flat_map (pointers_at pages) rec.addresses) ∙ (λ i. file.direct i + rows rec.addresses i) ∙ count (length rec.addresses) file.slots
    where
      rows : (vs : List ℕ) → length (flat_map (pointers_at pages) vs) ≡ 256 * length vs
      rows [] = omega arith
      rows (v ∷ vs) = let r = rows vs in length-append (pointers_at pages v) (flat_map (pointers_at pages) vs) ∙ (let h = pointers_length pages v in omega (arith, h, r))

      count : (m : ℕ) → m ≡ 16 → 8 + 256 * m ≡ 4104
      count m e = omega (arith, e)

-- ---- all files

flat_mapped : {X Y Z : Type 0} (f : Y → Z) (g : X → List Y) (xs : List X) → map f (flat_map g xs) ≡ flat_map (λ x. map f (g x)) xs
flat_mapped f g [] = refl
flat_mapped {X} {Y} {Z} f g (x ∷ xs) = appended (g x) (flat_map g xs) ∙ ap (λ l. map f (g x) ++ l) (flat_mapped f g xs)
  where
    appended : (ys zs : List Y) → map f (ys ++ zs) ≡ map f ys ++ map f zs
    appended [] zs = refl
    appended (y ∷ ys) zs = ap (λ l. f y ∷ l) (appended ys zs)

module _ {X : Type 0} (f g : ℕ → List X) (n : ℕ) (same : (k : ℕ) → k ≢ n → g k ≡ f k) where
  past : (a m : ℕ) → n < a → flat_map g (range_with_len a m) ≡ flat_map f (range_with_len a m)
  past a zero h = refl
  past a (suc m) h = λ i. same a (λ e. omega (arith, e, h)) i ++ past (a + 1) m (omega (arith, h)) i

  in_range : (was is : List X) → Differ was is (f n) (g n) → (a m : ℕ) → a ≤ n → n < a + m → Differ was is (flat_map f (range_with_len a m)) (flat_map g (range_with_len a m))
  in_range was is d a zero low high = absurd (omega (arith, low, high))
  in_range was is d a (suc m) low high = by (in_range was is d (a + 1) m) (cases_eq a n)
    where
      later : (a ≡ n → ⊥) → a + 1 ≤ n
      later far = omega (arith, low, far)

      by : (a + 1 ≤ n → n < a + 1 + m → Differ was is (flat_map f (range_with_len (a + 1) m)) (flat_map g (range_with_len (a + 1) m))) → (a ≡ n) ⊎ (a ≡ n → ⊥)
          → Differ was is (f a ++ flat_map f (range_with_len (a + 1) m)) (g a ++ flat_map g (range_with_len (a + 1) m))
      by rest (inl e) =
          let r = more_behind (flat_map f (range_with_len (a + 1) m)) d in
          record {
            front = r.front;
            behind = r.behind;
            before = ap (λ (k : ℕ). f k ++ flat_map f (range_with_len (a + 1) m)) e ∙ r.before;
            after = (λ i. g (e i) ++ past (a + 1) m (omega (arith, e)) i) ∙ r.after;
          }
      by rest (inr far) =
          let r = more_front (f a) (rest (later far) (omega (arith, high))) in
          record { front = r.front; behind = r.behind; before = r.before; after = ap (λ l. l ++ flat_map g (range_with_len (a + 1) m)) (same a far) ∙ r.after }

pub one_pointer_changes : OnePointerChanges
unfolding pointers_of
one_pointer_changes shape old new n index was is c = record {
  front = whole.front;
  behind = whole.behind;
  was = flat_mapped with_tag (λ k. held_by k (graph_of shape old k)) (range_with_len 0 shape.nodes) ∙ whole.before;
  is = flat_mapped with_tag (λ k. held_by k (graph_of shape new k)) (range_with_len 0 shape.nodes) ∙ whole.after;
}
  where
    in_file : Differ (shown (record { ino = n; generation = was.generation; index = 0 + index }) (get_or (all_of old was) index no_pointer))
        (shown (record { ino = n; generation = was.generation; index = 0 + index }) (get_or (all_of new is) index no_pointer)) (there n was.generation 0 (all_of old was)) (there n was.generation 0 (all_of new is))
    in_file =
        one_differs n was.generation 0 index (all_of old was) (all_of new is) (all_length shape old n was c.file_before ∙ sym (all_length shape new n is c.file_after))
        (let l = all_length shape old n was c.file_before in let w = c.within in omega (arith, l, w))
        (λ i far. at_index new is i c.file_after.direct ∙ c.others i far ∙ sym (at_index old was i c.file_before.direct))

    none_more : 0 + index ≡ index
    none_more = omega arith

    of_node : Differ (shown (record { ino = n; generation = was.generation; index = index }) (pointer_at old was index)) (shown (record { ino = n; generation = was.generation; index = index }) (pointer_at new is index))
        (tagged_by n (graph_of shape old n)) (tagged_by n (graph_of shape new n))
    of_node = record {
      front = in_file.front;
      behind = in_file.behind;
      before = file_tagged shape old n was c.file_before ∙ in_file.before ∙ (λ i. in_file.front ++ shown (record { ino = n; generation = was.generation; index = none_more i }) (at_index old was index c.file_before.direct i) ++ in_file.behind);
      after = file_tagged shape new n is c.file_after ∙ ap (λ (g : ℕ). there n g 0 (all_of new is)) c.generation ∙ in_file.after
          ∙ (λ i. in_file.front ++ shown (record { ino = n; generation = was.generation; index = none_more i }) (at_index new is index c.file_after.direct i) ++ in_file.behind);
    }

    whole : Differ (shown (record { ino = n; generation = was.generation; index = index }) (pointer_at old was index)) (shown (record { ino = n; generation = was.generation; index = index }) (pointer_at new is index))
        (flat_map (λ k. tagged_by k (graph_of shape old k)) (range_with_len 0 shape.nodes)) (flat_map (λ k. tagged_by k (graph_of shape new k)) (range_with_len 0 shape.nodes))
    whole = in_range (λ k. tagged_by k (graph_of shape old k)) (λ k. tagged_by k (graph_of shape new k)) n c.other_nodes _ _ of_node 0 shape.nodes (omega arith) (let b = c.file_before.below in omega (arith, b))
