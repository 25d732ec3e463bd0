-- What the charges of a tree are after a path is added, removed or moved, and so whether the volume has room for it.
use Rattle.std.proofs.Common.{◌≡◌, ◌≢◌, ◌<◌, ◌≤◌, ◌+◌, ◌-◌, ◌%◌, ◌||◌, ℕ, Bool, true, false, not, T, cond, List, [], ◌∷◌, ◌++◌, length, nat_lt, sum_by, ap, sym, refl, arith, ◌∙◌, Option, Some, None, IsSome, ◌⊎◌, inl, inr}
use Rattle.std.specs.Bool.{passes}
use Rattle.std.specs.List.{list_any}
use Rattle.std.specs.Option.{option_map_or}
use Rattle.std.proofs.lemmas.Bool.{cases_eq}
use Rattle.std.proofs.lemmas.Bool.Decides.{nat_tests}
use Rattle.std.proofs.lemmas.List.{length-append}
use Rattle.std.proofs.lemmas.List.Sums.{sum_by-cons}
use Rattle.std.specs.FinMap.Entries.{find, is_sorted, is_sorted-where_key}
use Rattle.nl_field.specs.Members.{Has}
use Rattle.nl_field.specs.Numbers.{max_entries}
use Rattle.nl_field.specs.declared.shape.Shape.{Shape}
use Rattle.nl_tree.specs.Charges.{data_charge, data_of_node, meta_charge, node_charge, ranges_of_node}
use Rattle.nl_tree.specs.KeptSums.{has_overfull, overfull, pages_of_entries, is_entry_of}
use Rattle.nl_tree.specs.Step.{space_refusal}
use Rattle.nl_tree.specs.Tree.{Node, Tree, path_cmp, paths_eq, node_at, entries_of, with_new, with_renamed, without}
use Rattle.nl_tree.specs.TreeLaws.{IsInOrder}
use Rattle.nl_tree.specs.declared.reply.Refusal.TheVariants.{Enospc}
use Rattle.nl_tree.specs.declared.reply.Space.TheVariants as space
use Rattle.nl_tree.proofs.CountProofs.{count_laws}
use Rattle.nl_tree.proofs.KeptProofs.{beyond, sum_of_others, within}
use Rattle.nl_tree.proofs.SpaceProofs.{data-is, lacks_entries, lacks_meta, lacks_nodes, lacks_nothing, meta-is, nodes-are, of_both}
use Rattle.nl_tree.proofs.TreeProofs.{eq_path, not_true, path_eq, tree_laws}
use Rattle.nl_namespace.proofs.TreeSums.{CanMove, E, Path, child-is, count-sum, entry-test, false-true, member-not, move-sums, no-sum, not-false, one, others, same-sums, some-there, sum_of_counts, where-has}

-- ---- the charges as sums

length-ones : (t : Tree) → length t ≡ sum_by (λ (e : E). 1) t
length-ones [] = refl
length-ones (e ∷ t) = let a = sum_by-cons (λ (e : E). 1) e t in let r = length-ones t in omega (arith, a, r)

nodes-sum : (t : Tree) → node_charge t ≡ sum_by (λ (e : E). 1) t
nodes-sum t = sym (nodes-are t) ∙ length-ones t

data-sum : (t : Tree) → data_charge t ≡ sum_by (λ (e : E). data_of_node e.1) t
data-sum t = sym (data-is t)

meta-sum : (t : Tree) → meta_charge t ≡ sum_of_counts pages_of_entries t + sum_by (λ (e : E). ranges_of_node e.1) t
meta-sum t = sym (of_both (λ e. pages_of_entries (length (entries_of t e.0))) (λ e. ranges_of_node e.1) t ∙ meta-is t)

any-sum : (f : E → Bool) (t : Tree) → list_any f t ≡ nat_lt 0 (sum_by (λ e. cond (f e) 1 0) t)
any-sum f [] = refl
any-sum f (e ∷ t) =
    elim (f e) as (λ b. (b || list_any f t) ≡ nat_lt 0 (cond b 1 0 + sum_by (λ x. cond (f x) 1 0) t)) [ true ↦ grind (arith, nat_tests) | false ↦ any-sum f t ∙ ap (λ (k : ℕ). nat_lt 0 k) (none (sum_by (λ x. cond (f x) 1 0) t)) ]
    ∙ ap (λ (k : ℕ). nat_lt 0 k) (sym (sum_by-cons (λ x. cond (f x) 1 0) e t))
  where
    none : (k : ℕ) → k ≡ 0 + k
    none k = omega arith

full-sum : (t : Tree) → has_overfull t ≡ nat_lt 0 (sum_of_counts overfull t)
full-sum t = any-sum (λ e. nat_lt max_entries (length (entries_of t e.0))) t

-- ---- numbers

-- a page of entries more, where all are full
pub pages-full : (c : ℕ) → c % 64 ≡ 0 → pages_of_entries (c + 1) ≡ pages_of_entries c + 1
pages-full c e = omega (arith, e)

pages-free : (c : ℕ) → c % 64 ≢ 0 → pages_of_entries (c + 1) ≡ pages_of_entries c
pages-free c far = omega (arith, far)

pages-last : (c : ℕ) → c % 64 ≡ 1 → pages_of_entries c ≡ pages_of_entries (c - 1) + 1
pages-last c e = omega (arith, e)

pages-fall : (c : ℕ) → pages_of_entries (c - 1) ≤ pages_of_entries c
pages-fall c = omega arith

pages-same : (c : ℕ) → c % 64 ≢ 1 → pages_of_entries (c - 1) ≡ pages_of_entries c
pages-same c far = omega (arith, far)

pub fits-few : (c : ℕ) → c ≤ 1024 → overfull c ≡ 0
fits-few c h = ap (λ b. cond b 1 0) (sym (within max_entries c c refl h))

fits-not : (c : ℕ) → 1024 < c → overfull c ≡ 1
fits-not c h = ap (λ b. cond b 1 0) (sym (beyond max_entries c h))

-- ---- a tree for which there is room

pub record Fits (shape : Shape) (tree : Tree) : Type 0 where
  pub entries : sum_of_counts overfull tree ≡ 0
  pub nodes : node_charge tree ≤ shape.nodes
  pub meta : meta_charge tree ≤ shape.meta
  pub pages : data_charge tree ≤ shape.cap

none-full : (t : Tree) → sum_of_counts overfull t ≡ 0 → false ≡ has_overfull t
none-full t e = within 0 (sum_of_counts overfull t) (sum_of_counts overfull t) refl (omega (arith, e)) ∙ sym (full-sum t)

some-full : (t : Tree) → sum_of_counts overfull t ≡ 1 → true ≡ has_overfull t
some-full t e = beyond 0 (sum_of_counts overfull t) (omega (arith, e)) ∙ sym (full-sum t)

pub fits-room : (shape : Shape) (tree : Tree) → Fits shape tree → None ≡ space_refusal shape tree
fits-room shape tree f = lacks_nothing shape tree (none-full tree f.entries) (within shape.nodes _ _ refl f.nodes) (within shape.meta _ _ refl f.meta) (within shape.cap _ _ refl f.pages)

-- ---- one path more

pub record OneMore (small big : Tree) (path p : Path) (x : List ℕ) (node : Node) : Type 0 where
  pub sorted : T (is_sorted path_cmp small)
  pub sums : (f : E → ℕ) → sum_by f big ≡ f (path, node) + sum_by f small
  pub path_is : path ≡ p ++ x ∷ []
  pub parent : Node
  pub parent_there : find path_cmp p small ≡ Some parent
  pub childless : length (entries_of small path) ≡ 0

module _ (small big : Tree) (path p : Path) (x : List ℕ) (node : Node) (h : OneMore small big path p x node) where
  one-path : (q : Path) → one q path ≡ cond (paths_eq q p) 1 0
  one-path q = ap (λ b. cond b 1 0) (ap (is_entry_of q) h.path_is ∙ entry-test q p x)

  count : (q : Path) → length (entries_of big q) ≡ one q path + length (entries_of small q)
  count q = count-sum q big ∙ h.sums (λ e. one q e.0) ∙ ap (λ (k : ℕ). one q path + k) (sym (count-sum q small))

  not-parent : paths_eq path p ≡ false
  not-parent = not_true _ (λ t. absurd (longer (sym (eq_path path p t) ∙ h.path_is)))
    where
      longer : p ≡ p ++ x ∷ [] → ⊥
      longer e = let a = ap (λ (z : Path). length z) e in let b = length-append p (x ∷ []) in omega (arith, a, b)

  own : length (entries_of big path) ≡ 0
  own = none _ _ _ (count path) (one-path path ∙ ap (λ (b : Bool). cond {A = ℕ} b 1 0) not-parent) h.childless
    where
      none : (a b c : ℕ) → a ≡ b + c → b ≡ 0 → c ≡ 0 → a ≡ 0
      none a b c e f g = omega arith

  of-parent : length (entries_of big p) ≡ length (entries_of small p) + 1
  of-parent = more _ _ _ (count p) (one-path p ∙ ap (λ (b : Bool). cond {A = ℕ} b 1 0) (path_eq p p refl))
    where
      more : (a b c : ℕ) → a ≡ b + c → b ≡ 1 → a ≡ c + 1
      more a b c e f = omega arith

  elsewhere : (q : Path) → paths_eq p q ≡ false → length (entries_of big q) ≡ length (entries_of small q)
  elsewhere q far = same _ _ _ (count q) (one-path q ∙ ap (λ (b : Bool). cond {A = ℕ} b 1 0) (not_true _ (λ t. sym far ∙ path_eq p q (sym (eq_path q p t)))))
    where
      same : (a b c : ℕ) → a ≡ b + c → b ≡ 0 → a ≡ c
      same a b c e f = omega arith

  counts : (f : ℕ → ℕ) → sum_of_counts f big + f (length (entries_of small p)) ≡ f 0 + (sum_of_counts f small + f (length (entries_of small p) + 1))
  counts f =
      joined _ _ _ _ _ _ _ _ _ (h.sums (λ e. f (length (entries_of big e.0)))) (ap f own)
      (sum_of_others (λ e. f (length (entries_of big e.0))) p small h.sorted ∙ (λ i. option_map_or (λ (y : Node). f (length (entries_of big p))) (h.parent_there i) 0 + sum_by (λ e. f (length (entries_of big e.0))) (others p small)))
      (sum_of_others (λ e. f (length (entries_of small e.0))) p small h.sorted ∙ (λ i. option_map_or (λ (y : Node). f (length (entries_of small p))) (h.parent_there i) 0 + sum_by (λ e. f (length (entries_of small e.0))) (others p small)))
      (same-sums (λ e. f (length (entries_of big e.0))) (λ e. f (length (entries_of small e.0))) (others p small) (λ d m. ap f (elsewhere d.0 (not-false _ (where-has (λ q. not (paths_eq p q)) small d m).1))))
      ∙ (λ i. f 0 + (sum_of_counts f small + f (of-parent i)))
    where
      joined : (sb o z b s a c r t : ℕ) → sb ≡ o + b → o ≡ z → b ≡ a + r → s ≡ c + t → r ≡ t → sb + c ≡ z + (s + a)
      joined sb o z b s a c r t e f g h k = omega arith

  more-nodes : node_charge big ≡ node_charge small + 1
  more-nodes = let a = nodes-sum big in let b = nodes-sum small in let c = h.sums (λ e. 1) in omega (arith, a, b, c)

  more-data : data_charge big ≡ data_of_node node + data_charge small
  more-data = data-sum big ∙ h.sums (λ e. data_of_node e.1) ∙ ap (λ (k : ℕ). data_of_node node + k) (sym (data-sum small))

  more-meta : meta_charge big + pages_of_entries (length (entries_of small p)) ≡ meta_charge small + (pages_of_entries (length (entries_of small p) + 1) + ranges_of_node node)
  more-meta = joined _ _ _ _ _ _ _ _ _ (meta-sum big) (meta-sum small) (counts pages_of_entries) (h.sums (λ e. ranges_of_node e.1))
    where
      joined : (mb ms sb ss rb rs c d n : ℕ) → mb ≡ sb + rb → ms ≡ ss + rs → sb + c ≡ 0 + (ss + d) → rb ≡ n + rs → mb + c ≡ ms + (d + n)
      joined mb ms sb ss rb rs c d n e f g h = omega arith

  more-full : sum_of_counts overfull big + overfull (length (entries_of small p)) ≡ sum_of_counts overfull small + overfull (length (entries_of small p) + 1)
  more-full = counts overfull ∙ none _
    where
      none : (k : ℕ) → 0 + k ≡ k
      none k = omega arith

-- ---- what is there, in a list of entries

node-is : (t : Tree) (p : Path) → node_at t p ≡ find path_cmp p t
unfolding node_at
node-is t p = refl

-- a path under which nothing is has no entries
pub no-entries : (t : Tree) (path : Path) → ((y : List ℕ) → node_at t (path ++ y ∷ []) ≡ None) → length (entries_of t path) ≡ 0
no-entries t path none = count-sum path t ∙ no-sum (λ e. one path e.0) t (λ d m. ap (λ b. cond b 1 0) (not_true _ (λ h. absurd (false d m (child-is path d.0 h)))))
  where
    false : (d : E) → Has t d → (y : List ℕ) × (d.0 ≡ path ++ y ∷ []) → ⊥
    false d m c = false-true (sym (member-not (path ++ c.0 ∷ []) t (sym (node-is t (path ++ c.0 ∷ [])) ∙ none c.0) d m) ∙ path_eq (path ++ c.0 ∷ []) d.0 (sym c.1))

-- ---- a new path

pub record CanAdd (tree : Tree) (path p : Path) (x : List ℕ) (node : Node) : Type 0 where
  pub in_order : IsInOrder tree
  pub absent : node_at tree path ≡ None
  pub path_is : path ≡ p ++ x ∷ []
  pub parent_there : IsSome (node_at tree p)
  pub bare : (y : List ℕ) → node_at tree (path ++ y ∷ []) ≡ None
  pub no_data : data_of_node node ≡ 0
  pub no_ranges : ranges_of_node node ≡ 0

module _ (shape : Shape) (tree : Tree) (path p : Path) (x : List ℕ) (node : Node) (can : CanAdd tree path p x node) (fits : Fits shape tree) where
  next : Tree
  next = with_new tree path node

  adds : OneMore tree next path p x node
  unfolding next with_new node_at
  adds =
      let y = some-there (find path_cmp p tree) can.parent_there in
      record {
        sorted = passes _ can.in_order;
        sums = λ f. count_laws.sum_by-put_new f path node tree can.absent;
        path_is = can.path_is;
        parent = y.0;
        parent_there = y.1;
        childless = no-entries tree path can.bare;
      }

  abbrev pub c : ℕ
  c = length (entries_of tree p)

  nodes-next : node_charge next ≡ node_charge tree + 1
  nodes-next = more-nodes tree next path p x node adds

  meta-next : meta_charge next + pages_of_entries c ≡ meta_charge tree + pages_of_entries (c + 1)
  meta-next = more-meta tree next path p x node adds ∙ (λ i. meta_charge tree + (pages_of_entries (c + 1) + can.no_ranges i)) ∙ ap (λ (k : ℕ). meta_charge tree + k) (zero-more _)
    where
      zero-more : (k : ℕ) → k + 0 ≡ k
      zero-more k = omega arith

  entries-next : c < 1024 → sum_of_counts overfull next ≡ 0
  entries-next few = zero-sum _ _ _ _ (more-full tree next path p x node adds) fits.entries (fits-few (c + 1) (omega (arith, few)))
    where
      zero-sum : (a b s k : ℕ) → a + b ≡ s + k → s ≡ 0 → k ≡ 0 → a ≡ 0
      zero-sum a b s k e f g = omega arith

  pub add-fits : c < 1024 → node_charge tree < shape.nodes → (c % 64 ≡ 0 → meta_charge tree < shape.meta) → None ≡ space_refusal shape (with_new tree path node)
  unfolding next
  add-fits few some room =
      fits-room shape next (record {
        entries = entries-next few;
        nodes = let e = nodes-next in omega (arith, e, some);
        meta = by (cases_eq (c % 64) 0);
        pages = let e = more-data tree next path p x node adds in let z = can.no_data in let f = fits.pages in omega (arith, e, z, f);
      })
    where
      by : (c % 64 ≡ 0) ⊎ (c % 64 ≡ 0 → ⊥) → meta_charge next ≤ shape.meta
      by (inl e) = let m = meta-next in let g = pages-full c e in let r = room e in omega (arith, m, g, r)
      by (inr far) = let m = meta-next in let g = pages-free c far in let r = fits.meta in omega (arith, m, g, r)

  pub add-full : c ≡ 1024 → Some (Enospc space.Dir) ≡ space_refusal shape (with_new tree path node)
  unfolding next
  add-full is = lacks_entries shape next (some-full next (one-sum _ _ _ _ (more-full tree next path p x node adds) fits.entries (fits-few c (omega (arith, is))) (fits-not (c + 1) (omega (arith, is)))))
    where
      one-sum : (a b s k : ℕ) → a + b ≡ s + k → s ≡ 0 → b ≡ 0 → k ≡ 1 → a ≡ 1
      one-sum a b s k e f g h = omega arith

  pub add-nodes : c < 1024 → node_charge tree ≡ shape.nodes → Some (Enospc space.Nodes) ≡ space_refusal shape (with_new tree path node)
  unfolding next
  add-nodes few all = lacks_nodes shape next (none-full next (entries-next few)) (beyond shape.nodes (node_charge next) (let e = nodes-next in omega (arith, e, all)))

  pub add-meta : c < 1024 → node_charge tree < shape.nodes → c % 64 ≡ 0 → meta_charge tree ≡ shape.meta → Some (Enospc space.Meta) ≡ space_refusal shape (with_new tree path node)
  unfolding next
  add-meta few some full all =
      lacks_meta shape next (none-full next (entries-next few)) (within shape.nodes _ _ refl (let e = nodes-next in omega (arith, e, some)))
      (beyond shape.meta (meta_charge next) (let m = meta-next in let g = pages-full c full in omega (arith, m, g, all)))

-- ---- a path less

pub record CanDrop (tree : Tree) (path p : Path) (x : List ℕ) (node : Node) : Type 0 where
  pub in_order : IsInOrder tree
  pub there : node_at tree path ≡ Some node
  pub path_is : path ≡ p ++ x ∷ []
  pub parent_there : IsSome (node_at tree p)
  pub bare : (y : List ℕ) → node_at tree (path ++ y ∷ []) ≡ None

module _ (shape : Shape) (tree : Tree) (path p : Path) (x : List ℕ) (node : Node) (can : CanDrop tree path p x node) (fits : Fits shape tree) where
  less : Tree
  less = without tree path

  not-own : paths_eq path p ≡ false
  not-own = not_true _ (λ t. absurd (longer (sym (eq_path path p t) ∙ can.path_is)))
    where
      longer : p ≡ p ++ x ∷ [] → ⊥
      longer e = let a = ap (λ (z : Path). length z) e in let b = length-append p (x ∷ []) in omega (arith, a, b)

  less-at : (q : Path) → paths_eq path q ≡ false → node_at less q ≡ node_at tree q
  unfolding less
  less-at q far = tree_laws.at_without tree path q ∙ ap (λ b. cond (not b) (node_at tree q) None) far

  bare-less : (y : List ℕ) → node_at less (path ++ y ∷ []) ≡ None
  unfolding less
  bare-less y = tree_laws.at_without tree path (path ++ y ∷ []) ∙ ap (λ (o : Option Node). cond (not (paths_eq path (path ++ y ∷ []))) o None) (can.bare y) ∙ nothing (not (paths_eq path (path ++ y ∷ [])))
    where
      nothing : (b : Bool) → cond {A = Option Node} b None None ≡ None
      nothing true = refl
      nothing false = refl

  drops : OneMore less tree path p x node
  unfolding less without node_at
  drops =
      let y = some-there (find path_cmp p tree) can.parent_there in
      record {
        sorted = is_sorted-where_key path_cmp (λ q. not (paths_eq path q)) tree (passes _ can.in_order);
        sums = λ f. sum_of_others f path tree (passes _ can.in_order) ∙ (λ i. option_map_or (λ x. f (path, x)) (can.there i) 0 + sum_by f less);
        path_is = can.path_is;
        parent = y.0;
        parent_there = less-at p not-own ∙ y.1;
        childless = no-entries less path bare-less;
      }

  pub drop-order : IsInOrder (without tree path)
  drop-order = tree_laws.order_without tree path can.in_order

  -- the directory has one entry less
  pub drop-count : length (entries_of tree p) ≡ length (entries_of (without tree path) p) + 1
  unfolding less
  drop-count = of-parent less tree path p x node drops

  -- every other directory has as many entries
  pub drop-other : (q : Path) → paths_eq p q ≡ false → length (entries_of tree q) ≡ length (entries_of (without tree path) q)
  unfolding less
  drop-other q far = elsewhere less tree path p x node drops q far

  d : ℕ
  d = length (entries_of less p)

  -- what the directory gives up is gone
  pub drop-meta : meta_charge (without tree path) + pages_of_entries (length (entries_of tree p)) ≤ meta_charge tree + pages_of_entries (length (entries_of (without tree path) p))
  unfolding less d
  drop-meta = let m = more-meta less tree path p x node drops in let e = ap pages_of_entries (of-parent less tree path p x node drops) in omega (arith, m, e)

  pub drop-fits : (few : length (entries_of tree p) ≤ 1024) → Fits shape (without tree path)
  unfolding less d
  drop-fits few =
      record {
        entries = zero-sum _ _ _ _ (more-full less tree path p x node drops) fits.entries (fits-few d (omega (arith, few, of-parent less tree path p x node drops)));
        nodes = let e = more-nodes less tree path p x node drops in let f = fits.nodes in omega (arith, e, f);
        meta = let m = drop-meta in let g = pages-fall (length (entries_of tree p)) in let e = ap pages_of_entries (one-less _ _ (of-parent less tree path p x node drops)) in let f = fits.meta in omega (arith, m, g, e, f);
        pages = let e = more-data less tree path p x node drops in let f = fits.pages in omega (arith, e, f);
      }
    where
      zero-sum : (a b s k : ℕ) → a + b ≡ s + k → a ≡ 0 → b ≡ 0 → s ≡ 0
      zero-sum a b s k e f g = omega arith

      one-less : (a b : ℕ) → a ≡ b + 1 → b ≡ a - 1
      one-less a b e = omega arith

-- ---- a path moved

module _ (shape : Shape) (tree : Tree) (from to : Path) (can : CanMove tree from to) (fits : Fits shape tree) where
  after : Tree
  after = with_renamed tree from to

  same-nodes : node_charge after ≡ node_charge tree
  unfolding after
  same-nodes = nodes-sum (with_renamed tree from to) ∙ move-sums.nodes (λ n. 1) tree from to can ∙ sym (nodes-sum tree)

  same-data : data_charge after ≡ data_charge tree
  unfolding after
  same-data = data-sum (with_renamed tree from to) ∙ move-sums.nodes data_of_node tree from to can ∙ sym (data-sum tree)

  same-ranges : sum_by (λ (e : E). ranges_of_node e.1) after ≡ sum_by (λ (e : E). ranges_of_node e.1) tree
  unfolding after
  same-ranges = move-sums.nodes ranges_of_node tree from to can

  pub within-fits : can.n ≡ can.l → Fits shape (with_renamed tree from to)
  unfolding after
  within-fits same = record {
    entries = move-sums.within overfull tree from to can same ∙ fits.entries;
    nodes = let e = same-nodes in let f = fits.nodes in omega (arith, e, f);
    meta = let a = meta-sum after in let b = meta-sum tree in let s = move-sums.within pages_of_entries tree from to can same in let r = same-ranges in let f = fits.meta in omega (arith, a, b, s, r, f);
    pages = let e = same-data in let f = fits.pages in omega (arith, e, f);
  }

  module _ (apart : can.n ≢ can.l) where
    abbrev pub a : ℕ
    a = length (entries_of tree can.n)

    abbrev pub b : ℕ
    b = length (entries_of tree can.l)

    meta-after : meta_charge after + (pages_of_entries a + pages_of_entries b) ≡ meta_charge tree + (pages_of_entries (a - 1) + pages_of_entries (b + 1))
    unfolding after
    meta-after = joined _ _ _ _ _ _ _ _ (meta-sum (with_renamed tree from to)) (meta-sum tree) same-ranges (move-sums.across pages_of_entries tree from to can apart)
      where
        joined : (ma mt sa st ra rt c d : ℕ) → ma ≡ sa + ra → mt ≡ st + rt → ra ≡ rt → sa + c ≡ st + d → ma + c ≡ mt + d
        joined ma mt sa st ra rt c d e f g h = omega arith

    entries-after : a ≤ 1024 → sum_of_counts overfull after + overfull b ≡ overfull (b + 1)
    unfolding after
    entries-after few = joined _ _ _ _ _ _ (move-sums.across overfull tree from to can apart) fits.entries (fits-few a few) (fits-few (a - 1) (omega (arith, few)))
      where
        joined : (s t x y z w : ℕ) → s + (x + y) ≡ t + (z + w) → t ≡ 0 → x ≡ 0 → z ≡ 0 → s + y ≡ w
        joined s t x y z w e f g h = omega arith

    pub across-fits : a ≤ 1024 → b < 1024 → (b % 64 ≡ 0 → (meta_charge tree < shape.meta) ⊎ (a % 64 ≡ 1)) → Fits shape (with_renamed tree from to)
    unfolding after
    across-fits few some room = record {
      entries = zero-sum _ _ _ (entries-after few) (fits-few (b + 1) (omega (arith, some)));
      nodes = let e = same-nodes in let f = fits.nodes in omega (arith, e, f);
      meta = by (cases_eq (b % 64) 0);
      pages = let e = same-data in let f = fits.pages in omega (arith, e, f);
    }
      where
        zero-sum : (s y w : ℕ) → s + y ≡ w → w ≡ 0 → s ≡ 0
        zero-sum s y w e f = omega arith

        page : b % 64 ≡ 0 → (meta_charge tree < shape.meta) ⊎ (a % 64 ≡ 1) → meta_charge after ≤ shape.meta
        page e (inl r) = let m = meta-after in let g = pages-full b e in let k = pages-fall a in omega (arith, m, g, k, r)
        page e (inr r) = let m = meta-after in let g = pages-full b e in let k = pages-last a r in let f = fits.meta in omega (arith, m, g, k, f)

        by : (b % 64 ≡ 0) ⊎ (b % 64 ≡ 0 → ⊥) → meta_charge after ≤ shape.meta
        by (inl e) = page e (room e)
        by (inr far) = let m = meta-after in let g = pages-free b far in let k = pages-fall a in let f = fits.meta in omega (arith, m, g, k, f)

    pub across-full : a ≤ 1024 → b ≡ 1024 → Some (Enospc space.Dir) ≡ space_refusal shape (with_renamed tree from to)
    unfolding after
    across-full few is = lacks_entries shape after (some-full after (one-sum _ _ _ (entries-after few) (fits-few b (omega (arith, is))) (fits-not (b + 1) (omega (arith, is)))))
      where
        one-sum : (s y w : ℕ) → s + y ≡ w → y ≡ 0 → w ≡ 1 → s ≡ 1
        one-sum s y w e f g = omega arith

    pub across-meta : a ≤ 1024 → b < 1024 → b % 64 ≡ 0 → a % 64 ≢ 1 → meta_charge tree ≡ shape.meta → Some (Enospc space.Meta) ≡ space_refusal shape (with_renamed tree from to)
    unfolding after
    across-meta few some full far all =
        lacks_meta shape after (none-full after (zero-sum _ _ _ (entries-after few) (fits-few (b + 1) (omega (arith, some))))) (within shape.nodes _ _ refl (let e = same-nodes in let f = fits.nodes in omega (arith, e, f)))
        (beyond shape.meta (meta_charge after) (let m = meta-after in let g = pages-full b full in let k = pages-same a far in omega (arith, m, g, k, all)))
      where
        zero-sum : (s y w : ℕ) → s + y ≡ w → w ≡ 0 → s ≡ 0
        zero-sum s y w e f = omega arith
