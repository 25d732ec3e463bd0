-- The pointers of a file as a list, split at an index.
use Rattle.std.proofs.Common.{◌≡◌, ◌≢◌, ℕ, zero, suc, ◌+◌, ◌-◌, ◌*◌, ◌≤◌, ◌<◌, true, false, not, cond, List, [], ◌∷◌, ◌++◌, map, filter, flat_map, take, drop, length, refl, sym, ap, ◌∙◌, None, ◌⊎◌, inl, inr, arith, get_or, nat_lt}
use Rattle.std.proofs.lemmas.Bool.{cases_eq, cond-true, lt-ltb}
use Rattle.std.proofs.lemmas.List.{append_assoc, get_or-drop, length-append, length-drop}
use Rattle.std.specs.List.{enumerate_from, range_with_len}
use Rattle.nl_field.specs.Graph.{file_node}
use Rattle.nl_field.specs.Pointers.{is_none_pointer, no_pointer}
use Rattle.nl_field.specs.declared.inode.InodeRec.{InodeRec}
use Rattle.nl_field.specs.declared.inode.Kind.{Kind}
use Rattle.nl_field.specs.declared.pointer.Pointer.{Pointer}
use Rattle.nl_field.specs.declared.pointer.Tag.{Tag}
use Rattle.nl_field.specs.declared.shape.Shape.{Shape}
use Rattle.nl_meta.specs.Committed.{VirtualMap}
use Rattle.nl_meta.specs.Nodes.{body_of, graph_of, held_by, inode_at, node_from, pointer_at, pointers_at, pointers_of, pointers_of_inode}
use Rattle.nl_meta.specs.PointerLists.{IsFile, shown, tagged_by, tagged_in, with_tag}
use Rattle.nl_meta.proofs.SlotProofs.{at_index, pointers_length}
use Rattle.nl_spec_commits.specs.FileCuts.{OtherNodesKeepPointers, pointers_behind}

-- those of a list that are some
abbrev pub some_of : List Pointer → List Pointer
some_of xs = filter (λ p. not (is_none_pointer p)) xs

module _ (n generation : ℕ) where
  abbrev tag_at : ℕ → Tag
  tag_at i = record { ino = n; generation = generation; index = i }

  abbrev at : ℕ × Pointer → Tag × Pointer
  at p = (tag_at p.0, p.1)

  -- with their tags, from an index on
  abbrev pub there : ℕ → List Pointer → List (Tag × Pointer)
  there a xs = map at (filter (λ p. not (is_none_pointer p.1)) (enumerate_from a xs))

  first : (a : ℕ) (x : Pointer) (rest : List (ℕ × Pointer)) → map at (cond (not (is_none_pointer x)) ((a, x) ∷ rest) rest) ≡ shown (tag_at a) x ++ map at rest
  first a x rest = elim (is_none_pointer x) as (λ b. map at (cond (not b) ((a, x) ∷ rest) rest) ≡ cond b [] ((tag_at a, x) ∷ []) ++ map at rest) [ true ↦ refl | false ↦ refl ]

  -- ---- split

  pub split : (a k : ℕ) (xs : List Pointer) → there a xs ≡ there a (take k xs) ++ there (a + k) (drop k xs)
  split a zero [] = refl
  split a (suc k) [] = refl
  split a zero (x ∷ xs) = ap (λ (i : ℕ). there i (x ∷ xs)) (omega arith)
  split a (suc k) (x ∷ xs) =
      first a x _
      ∙ ap (λ (l : List (Tag × Pointer)). shown (tag_at a) x ++ l) (split (a + 1) k xs)
      ∙ sym (append_assoc (shown (tag_at a) x) (there (a + 1) (take k xs)) (there (a + 1 + k) (drop k xs)))
      ∙ ap (λ (l : List (Tag × Pointer)). l ++ there (a + 1 + k) (drop k xs)) (sym (first a x _))
      ∙ ap (λ (i : ℕ). there a (x ∷ take k xs) ++ there i (drop k xs)) (omega arith)

  -- the one at the place
  pub one_more : (a k : ℕ) (xs : List Pointer) → there a (drop k xs) ≡ shown (tag_at a) (get_or xs k no_pointer) ++ there (a + 1) (drop (suc k) xs)
  one_more a zero [] = refl
  one_more a (suc k) [] = refl
  one_more a zero (x ∷ xs) = first a x _
  one_more a (suc k) (x ∷ xs) = one_more a k xs

  pub none_there : (a : ℕ) (ys : List Pointer) → ((i : ℕ) → get_or ys i no_pointer ≡ no_pointer) → there a ys ≡ []
  none_there a [] none = refl
  none_there a (y ∷ ys) none = first a y _ ∙ ap (λ (z : Pointer). shown (tag_at a) z ++ there (a + 1) ys) (none 0) ∙ none_there (a + 1) ys (λ i. none (suc i))

  pub plain_there : (a : ℕ) (ys : List Pointer) → map (λ (h : Tag × Pointer). h.1) (there a ys) ≡ some_of ys
  plain_there a [] = refl
  plain_there a (y ∷ ys) =
      let ih = plain_there (a + 1) ys in
      elim (is_none_pointer y) as (λ b. map (λ (h : Tag × Pointer). h.1) (map at (cond (not b) ((a, y) ∷ filter (λ p. not (is_none_pointer p.1)) (enumerate_from (a + 1) ys)) (filter (λ p. not (is_none_pointer p.1)) (enumerate_from (a + 1) ys))))
      ≡ cond (not b) (y ∷ some_of ys) (some_of ys)) [ true ↦ ih | false ↦ ap (λ (l : List Pointer). y ∷ l) ih ]

-- ---- the list of a file

-- a list by what stands at each place
listed : (a : ℕ) (xs : List Pointer) (f : ℕ → Pointer) → ((i : ℕ) → i < length xs → get_or xs i no_pointer ≡ f (a + i)) → xs ≡ map f (range_with_len a (length xs))
listed a [] f same = refl
listed a (x ∷ xs) f same =
    let here : a + 0 ≡ a = omega arith in
    λ j. (same 0 (omega arith) ∙ ap f here) j ∷ listed (a + 1) xs f (λ i below. let next : a + suc i ≡ a + 1 + i = omega arith in same (suc i) (omega (arith, below)) ∙ ap f next) j

mapped_twice : {X Y Z : Type 0} (f : Y → Z) (g : X → Y) (xs : List X) → map f (map g xs) ≡ map (λ x. f (g x)) xs
mapped_twice f g [] = refl
mapped_twice f g (x ∷ xs) = ap (λ l. f (g x) ∷ l) (mapped_twice f g xs)

abbrev pub all_of : VirtualMap → InodeRec → List Pointer
all_of pages rec = rec.direct ++ flat_map (pointers_at pages) rec.addresses

module _ (shape : Shape) (pages : VirtualMap) (n : ℕ) (rec : InodeRec) (file : IsFile shape pages n rec) where
  node_is : graph_of shape pages n ≡ record { generation = rec.generation; body = file_node rec.size (pointers_of_inode pages rec) }
  unfolding graph_of
  node_is =
      ap (node_from pages) (cond-true (nat_lt n shape.nodes) (inode_at pages n) None (lt-ltb n shape.nodes file.below) ∙ file.spelled)
      ∙ ap (λ (k : Kind). record { generation = rec.generation; body = body_of pages rec k }) file.kind

  pub file_there : tagged_by n (graph_of shape pages n) ≡ there n rec.generation 0 (all_of pages rec)
  unfolding pointers_of_inode
  file_there = ap (tagged_by n) node_is ∙ mapped_twice with_tag (λ p. record { size = rec.size; tag = record { ino = n; generation = rec.generation; index = p.0 }; pointer = p.1 }) (filter (λ p. not (is_none_pointer p.1)) (enumerate_from 0 (all_of pages rec)))

  pub all_length : length (all_of pages rec) ≡ 4104
  all_length = length-append rec.direct (flat_map (pointers_at pages) rec.addresses) ∙ (λ i. file.direct i + rows rec.addresses i) ∙ count (length rec.addresses) file.slots
    where
      rows : (vs : List ℕ) → length (flat_map (pointers_at pages) vs) ≡ 256 * length vs
      rows [] = omega arith
      rows (v ∷ vs) = let r = rows vs in length-append (pointers_at pages v) (flat_map (pointers_at pages) vs) ∙ (let h = pointers_length pages v in omega (arith, h, r))

      count : (m : ℕ) → m ≡ 16 → 8 + 256 * m ≡ 4104
      count m e = omega (arith, e)

  pub at_place : (i : ℕ) → get_or (all_of pages rec) i no_pointer ≡ pointer_at pages rec i
  at_place i = at_index pages rec i file.direct

  -- those from an index on
  pub behind_is : (from : ℕ) → some_of (drop from (all_of pages rec)) ≡ pointers_behind pages rec from
  behind_is from = ap some_of (listed from (drop from (all_of pages rec)) (pointer_at pages rec) (λ i below. get_or-drop from (all_of pages rec) i no_pointer ∙ at_place (from + i))
      ∙ ap (λ (m : ℕ). map (pointer_at pages rec) (range_with_len from m)) (length-drop from (all_of pages rec) ∙ ap (λ (m : ℕ). m - from) all_length))

-- ---- the list of all files

flat_mapped : {X Y Z : Type 0} (f : Y → Z) (g : X → List Y) (xs : List X) → map f (flat_map g xs) ≡ flat_map (λ x. map f (g x)) xs
flat_mapped f g [] = refl
flat_mapped {X} {Y} {Z} f g (x ∷ xs) = appended (g x) (flat_map g xs) ∙ ap (λ l. map f (g x) ++ l) (flat_mapped f g xs)
  where
    appended : (ys zs : List Y) → map f (ys ++ zs) ≡ map f ys ++ map f zs
    appended [] zs = refl
    appended (y ∷ ys) zs = ap (λ l. f y ∷ l) (appended ys zs)

-- Two lists that are alike around the parts of one node.
pub record Around {X : Type 0} (was is xs ys : List X) : Type 0 where
  pub front : List X
  pub back : List X
  pub before : xs ≡ front ++ was ++ back
  pub after : ys ≡ front ++ is ++ back

module _ {X : Type 0} (f g : ℕ → List X) (n : ℕ) (same : (k : ℕ) → k ≢ n → g k ≡ f k) where
  past : (a m : ℕ) → n < a → flat_map g (range_with_len a m) ≡ flat_map f (range_with_len a m)
  past a zero h = refl
  past a (suc m) h = λ i. same a (λ e. omega (arith, e, h)) i ++ past (a + 1) m (omega (arith, h)) i

  around : (a m : ℕ) → a ≤ n → n < a + m → Around (f n) (g n) (flat_map f (range_with_len a m)) (flat_map g (range_with_len a m))
  around a zero low high = absurd (omega (arith, low, high))
  around a (suc m) low high = by (around (a + 1) m) (cases_eq a n)
    where
      later : (a ≡ n → ⊥) → a + 1 ≤ n
      later far = omega (arith, low, far)

      by : (a + 1 ≤ n → n < a + 1 + m → Around (f n) (g n) (flat_map f (range_with_len (a + 1) m)) (flat_map g (range_with_len (a + 1) m))) → (a ≡ n) ⊎ (a ≡ n → ⊥)
          → Around (f n) (g n) (f a ++ flat_map f (range_with_len (a + 1) m)) (g a ++ flat_map g (range_with_len (a + 1) m))
      by rest (inl e) = record {
        front = [];
        back = flat_map f (range_with_len (a + 1) m);
        before = ap (λ (k : ℕ). f k ++ flat_map f (range_with_len (a + 1) m)) e;
        after = λ i. g (e i) ++ past (a + 1) m (omega (arith, e)) i;
      }
      by rest (inr far) =
          let r = rest (later far) (omega (arith, high)) in
          record {
            front = f a ++ r.front;
            back = r.back;
            before = ap (λ l. f a ++ l) r.before ∙ joined (f a) r.front (f n) r.back;
            after = (λ i. same a far i ++ r.after i) ∙ joined (f a) r.front (g n) r.back;
          }
        where
          joined : (a b c d : List X) → a ++ (b ++ c ++ d) ≡ a ++ b ++ c ++ d
          joined a b c d = sym (append_assoc a (b ++ c) d) ∙ ap (λ l. l ++ d) (sym (append_assoc a b c))

pub node_changes : (shape : Shape) (old new : VirtualMap) (n : ℕ) → n < shape.nodes → OtherNodesKeepPointers shape old new n
    → Around (tagged_by n (graph_of shape old n)) (tagged_by n (graph_of shape new n)) (tagged_in shape old) (tagged_in shape new)
unfolding pointers_of
node_changes shape old new n below others = record {
  front = whole.front;
  back = whole.back;
  before = flat_mapped with_tag (λ k. held_by k (graph_of shape old k)) (range_with_len 0 shape.nodes) ∙ whole.before;
  after = flat_mapped with_tag (λ k. held_by k (graph_of shape new k)) (range_with_len 0 shape.nodes) ∙ whole.after;
}
  where
    whole : Around (tagged_by n (graph_of shape old n)) (tagged_by n (graph_of shape new n)) (flat_map (λ k. tagged_by k (graph_of shape old k)) (range_with_len 0 shape.nodes))
        (flat_map (λ k. tagged_by k (graph_of shape new k)) (range_with_len 0 shape.nodes))
    whole = around (λ k. tagged_by k (graph_of shape old k)) (λ k. tagged_by k (graph_of shape new k)) n others 0 shape.nodes (omega arith) (omega (arith, below))
