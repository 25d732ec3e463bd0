-- Sums over a tree in which what is at and under one path is moved to another.
use Rattle.std.proofs.Common.{◌≡◌, ◌≢◌, ◌+◌, ◌-◌, ◌==◌, ◌&&◌, ℕ, suc, Bool, true, false, not, T, cond, List, [], ◌∷◌, ◌++◌, length, drop, map, sum_by, ap, sym, subst, refl, arith, ◌∙◌, Option, Some, None, IsSome, inl, inr}
use Rattle.std.specs.Bool.{passes}
use Rattle.std.specs.Cmp.{both_ways}
use Rattle.std.specs.Option.{option_map_or}
use Rattle.std.proofs.lemmas.Bool.{eqb-true}
use Rattle.std.proofs.lemmas.List.{append-nil, append_assoc, length-append}
use Rattle.std.proofs.lemmas.List.Sums.{sum_by-cons, length-filter}
use Rattle.std.proofs.Math.Seq.{drop-append_seam}
use Rattle.std.specs.declared.cmp.Ordering.{Ordering}
use Rattle.std.specs.declared.cmp.Ordering.TheVariants.{Less, Equal, Greater}
use Rattle.std.specs.Ordering.{is_lt, is_eq}
use Rattle.std.specs.FinMap.Entries.{find, where_key, below_all, is_sorted, find-where_key, is_sorted-where_key}
use Rattle.nl_field.specs.Members.{Has}
use Rattle.nl_tree.specs.Tree.{Node, Tree, path_cmp, paths_eq, is_at_or_under, node_at, entries_of, with_all, with_renamed}
use Rattle.nl_tree.specs.TreeLaws.{IsInOrder, or_else}
use Rattle.nl_tree.specs.KeptSums.{is_entry_of}
use Rattle.nl_tree.proofs.ChangeProofs.{Ends, ends}
use Rattle.nl_tree.proofs.ChargeProofs.{is_child_of}
use Rattle.nl_tree.proofs.CountProofs.{count_laws}
use Rattle.nl_tree.proofs.GraphProofs.{from_back, from_turned_all, tail_eq, turned-append, turned_onto}
use Rattle.nl_tree.proofs.KeptProofs.{sum_of_others}
use Rattle.nl_tree.proofs.TreeProofs.{alike, eq_path, find_all, not_true, path_eq, under_append, under_parts}

abbrev pub E : Type 0
E = List (List ℕ) × Node

abbrev pub Path : Type 0
Path = List (List ℕ)

-- What stands at the one path can stand at the other: nothing is there, or under it.
pub record CanMove (tree : Tree) (from to : List (List ℕ)) : Type 0 where
  pub in_order : IsInOrder tree
  pub node : Node
  pub there : node_at tree from ≡ Some node
  pub free : (r : List (List ℕ)) → node_at tree (to ++ r) ≡ None
  pub apart : is_at_or_under from to ≡ false
  pub n : List (List ℕ)
  pub l : List (List ℕ)
  pub name : List ℕ
  pub name_to : List ℕ
  pub split : from ≡ n ++ name ∷ []
  pub split_to : to ≡ l ++ name_to ∷ []
  pub n_there : IsSome (node_at tree n)
  pub l_there : IsSome (node_at tree l)

-- a sum over the numbers of entries of all paths
abbrev pub sum_of_counts : (ℕ → ℕ) → Tree → ℕ
sum_of_counts f tree = sum_by (λ e. f (length (entries_of tree e.0))) tree

pub record MoveSums : Type 0 where
  pub nodes : (f : Node → ℕ) (tree : Tree) (from to : List (List ℕ)) → CanMove tree from to → sum_by (λ e. f e.1) (with_renamed tree from to) ≡ sum_by (λ e. f e.1) tree
  pub within : (f : ℕ → ℕ) (tree : Tree) (from to : List (List ℕ)) → (can : CanMove tree from to) → can.n ≡ can.l → sum_of_counts f (with_renamed tree from to) ≡ sum_of_counts f tree
  pub across : (f : ℕ → ℕ) (tree : Tree) (from to : List (List ℕ)) → (can : CanMove tree from to) → can.n ≢ can.l
      → sum_of_counts f (with_renamed tree from to) + (f (length (entries_of tree can.n)) + f (length (entries_of tree can.l)))
      ≡ sum_of_counts f tree + (f (length (entries_of tree can.n) - 1) + f (length (entries_of tree can.l) + 1))

pub false-true : false ≡ true → ⊥
false-true e = cc

some-none : {X : Type 0} (x : X) → Some x ≡ None → ⊥
some-none x e = cc

first : (a b : Bool) → T (a && b) → T a
first true b h = tt
first false b h = h

second : (a b : Bool) → T (a && b) → T b
second true b h = h
second false b h = absurd h

both-true : (a b : Bool) → (a && b) ≡ true → (a ≡ true) × (b ≡ true)
both-true true b h = (refl, h)
both-true false b h = absurd (false-true h)

pub not-false : (b : Bool) → not b ≡ true → b ≡ false
not-false true h = absurd (false-true h)
not-false false h = refl

unequal : (o : Ordering) → T (is_lt o) → is_eq o ≡ false
unequal Less h = refl
unequal Equal h = absurd h
unequal Greater h = absurd h

-- ---- paths

pub child-is : (p q : Path) → is_entry_of p q ≡ true → (x : List ℕ) × (q ≡ p ++ x ∷ [])
child-is p q h = by (drop (length p) q) (sym (under_parts p q parts.1))
  where
    parts : ((length q == length p + 1) ≡ true) × (is_at_or_under p q ≡ true)
    parts = both-true _ _ h

    long : (r : Path) → q ≡ p ++ r → length r ≡ 1
    long r e = lengths _ _ _ (sym (length-append p r) ∙ ap (λ (z : Path). length z) (sym e)) (eqb-true _ _ parts.0)
      where
        lengths : (a b c : ℕ) → a + b ≡ c → c ≡ a + 1 → b ≡ 1
        lengths a b c e f = omega arith

    by : (r : Path) → q ≡ p ++ r → (x : List ℕ) × (q ≡ p ++ x ∷ [])
    by [] e = absurd (none (long [] e))
      where
        none : length {A = List ℕ} [] ≡ 1 → ⊥
        none e = cc
    by (x ∷ []) e = (x, e)
    by (x ∷ y ∷ r) e = absurd (two (length r) (long (x ∷ y ∷ r) e))
      where
        two : (k : ℕ) → suc (suc k) ≡ 1 → ⊥
        two k e = omega arith

same-parent : (p q : Path) (x y : List ℕ) → p ++ x ∷ [] ≡ q ++ y ∷ [] → p ≡ q
same-parent p q x y e =
    let turned = sym (turned-append p x []) ∙ ap (λ (r : Path). turned_onto r []) e ∙ turned-append q y [] in
    sym (from_turned_all p) ∙ ap from_back (tail_eq x y _ _ turned) ∙ from_turned_all q

same-tail : (p a b : Path) → p ++ a ≡ p ++ b → a ≡ b
same-tail p a b e = sym (drop-append_seam p a) ∙ ap (drop (length p)) e ∙ drop-append_seam p b

-- a path is an entry of its parent alone
pub entry-test : (p n : Path) (x : List ℕ) → is_entry_of p (n ++ x ∷ []) ≡ paths_eq p n
entry-test p n x =
    both_ways _ _ (λ h. let c = child-is p (n ++ x ∷ []) h in path_eq p n (sym (same-parent n p x c.0 c.1)))
    (λ h. subst (λ (z : Path). is_entry_of z (n ++ x ∷ []) ≡ true) (sym (eq_path p n h)) (is_child_of n x))

-- entries under one path are so under any other
entry-moved : (from to a b : Path) → is_entry_of (to ++ a) (to ++ b) ≡ is_entry_of (from ++ a) (from ++ b)
entry-moved from to a b = both_ways _ _ (way to from) (way from to)
  where
    way : (p q : Path) → is_entry_of (p ++ a) (p ++ b) ≡ true → is_entry_of (q ++ a) (q ++ b) ≡ true
    way p q h =
        let c = child-is (p ++ a) (p ++ b) h in
        let same = same-tail p b (a ++ c.0 ∷ []) (c.1 ∙ append_assoc p a (c.0 ∷ [])) in
        subst (λ (z : Path). is_entry_of (q ++ a) z ≡ true) (append_assoc q a (c.0 ∷ []) ∙ sym (ap (λ (z : Path). q ++ z) same)) (is_child_of (q ++ a) c.0)

-- ---- members

head-not : (p : Path) (e : E) (es : Tree) → find path_cmp p (e ∷ es) ≡ None → paths_eq p e.0 ≡ false
head-not p e es h = by (paths_eq p e.0) refl h
  where
    by : (b : Bool) → paths_eq p e.0 ≡ b → cond b (Some e.1) (find path_cmp p es) ≡ None → paths_eq p e.0 ≡ false
    by true t h = absurd (some-none e.1 h)
    by false t h = t

rest-not : (p : Path) (e : E) (es : Tree) → find path_cmp p (e ∷ es) ≡ None → find path_cmp p es ≡ None
rest-not p e es h = by (paths_eq p e.0) h
  where
    by : (b : Bool) → cond b (Some e.1) (find path_cmp p es) ≡ None → find path_cmp p es ≡ None
    by true h = absurd (some-none e.1 h)
    by false h = h

pub member-not : (p : Path) (es : Tree) → find path_cmp p es ≡ None → (d : E) → Has es d → paths_eq p d.0 ≡ false
member-not p [] h d m = absurd m
member-not p (e ∷ es) h d (inl s) = subst (λ (x : E). paths_eq p x.0 ≡ false) s (head-not p e es h)
member-not p (e ∷ es) h d (inr m) = member-not p es (rest-not p e es h) d m

-- what passes a test is there, and passes it
pub where-has : (p : Path → Bool) (es : Tree) (d : E) → Has (where_key path_cmp p es) d → Has es d × (p d.0 ≡ true)
where-has p [] d m = absurd m
where-has p (e ∷ es) d m = by (p e.0) refl (where-has p es d) m
  where
    by : (b : Bool) → p e.0 ≡ b → (Has (where_key path_cmp p es) d → Has es d × (p d.0 ≡ true)) → Has (cond b (e ∷ where_key path_cmp p es) (where_key path_cmp p es)) d → Has (e ∷ es) d × (p d.0 ≡ true)
    by true t ih (inl s) = (inl s, subst (λ (x : E). p x.0 ≡ true) s t)
    by true t ih (inr m) = (inr (ih m).0, (ih m).1)
    by false t ih m = (inr (ih m).0, (ih m).1)

pub same-sums : (f g : E → ℕ) (es : Tree) → ((d : E) → Has es d → f d ≡ g d) → sum_by f es ≡ sum_by g es
same-sums f g [] same = refl
same-sums f g (e ∷ es) same =
    let a = sum_by-cons f e es in let b = sum_by-cons g e es in let s = same e (inl refl) in let r = same-sums f g es (λ d m. same d (inr m)) in omega (arith, a, b, s, r)

zeros : (es : Tree) → sum_by (λ (e : E). 0) es ≡ 0
zeros [] = refl
zeros (e ∷ es) = let a = sum_by-cons (λ (e : E). 0) e es in let r = zeros es in omega (arith, a, r)

pub no-sum : (f : E → ℕ) (es : Tree) → ((d : E) → Has es d → f d ≡ 0) → sum_by f es ≡ 0
no-sum f es none = same-sums f (λ e. 0) es none ∙ zeros es

-- ---- the parts of a tree

abbrev under : Path → Tree → Tree
under from t = where_key path_cmp (is_at_or_under from) t

abbrev stays : Path → Path → Path → Bool
stays from to p = not (is_at_or_under from p) && not (paths_eq to p)

abbrev rest : Path → Path → Tree → Tree
rest from to t = where_key path_cmp (stays from to) t

abbrev moved : Path → Path → E → E
moved from to e = (to ++ drop (length from) e.0, e.1)

-- where nothing is at the one path, all is under the other or stays
parts : (f : E → ℕ) (from to : Path) (t : Tree) → find path_cmp to t ≡ None → sum_by f t ≡ sum_by f (under from t) + sum_by f (rest from to t)
parts f from to [] h = refl
parts f from to (e ∷ t) h = by (is_at_or_under from e.0) (paths_eq to e.0) (head-not to e t h) (parts f from to t (rest-not to e t h))
  where
    by : (a b : Bool) → b ≡ false → sum_by f t ≡ sum_by f (under from t) + sum_by f (rest from to t)
        → sum_by f (e ∷ t) ≡ sum_by f (cond a (e ∷ under from t) (under from t)) + sum_by f (cond (not a && not b) (e ∷ rest from to t) (rest from to t))
    by a true off ih = absurd (false-true (sym off))
    by true false off ih = let x = sum_by-cons f e t in let y = sum_by-cons f e (under from t) in omega (arith, x, y, ih)
    by false false off ih = let x = sum_by-cons f e t in let y = sum_by-cons f e (rest from to t) in omega (arith, x, y, ih)

not-in : (from to : Path) (e : E) (es : Tree) → is_at_or_under from e.0 ≡ true → T (below_all path_cmp e.0 es) → find path_cmp (moved from to e).0 (map (moved from to) (under from es)) ≡ None
not-in from to e [] u b = refl
not-in from to e (d ∷ es) u b = by (is_at_or_under from d.0) refl (not-in from to e es u (second _ _ b))
  where
    by : (t : Bool) → is_at_or_under from d.0 ≡ t → find path_cmp (moved from to e).0 (map (moved from to) (under from es)) ≡ None
        → find path_cmp (moved from to e).0 (map (moved from to) (cond t (d ∷ under from es) (under from es))) ≡ None
    by false t ih = ih
    by true t ih =
        ap (λ c. cond c (Some d.1) (find path_cmp (moved from to e).0 (map (moved from to) (under from es)))) (not_true (paths_eq (moved from to e).0 (moved from to d).0) same) ∙ ih
      where
        same : paths_eq (moved from to e).0 (moved from to d).0 ≡ true → false ≡ true
        same h =
            let tails = same-tail to (drop (length from) e.0) (drop (length from) d.0) (eq_path _ _ h) in
            sym (unequal (path_cmp e.0 d.0) (first _ _ b)) ∙ path_eq e.0 d.0 (sym (under_parts from e.0 u) ∙ ap (λ (z : Path). from ++ z) tails ∙ under_parts from d.0 t)

sum-moved : (f : E → ℕ) (from to : Path) (base es : Tree) → T (is_sorted path_cmp es) → ((r : Path) → find path_cmp (to ++ r) base ≡ None)
    → sum_by f (with_all base (map (moved from to) (under from es))) ≡ sum_by (λ e. f (moved from to e)) (under from es) + sum_by f base
sum-moved f from to base [] s free = none (sum_by f base)
  where
    none : (k : ℕ) → k ≡ 0 + k
    none k = omega arith
sum-moved f from to base (e ∷ es) s free = by (is_at_or_under from e.0) refl (sum-moved f from to base es (second _ _ s) free)
  where
    w : Tree
    w = with_all base (map (moved from to) (under from es))

    absent : is_at_or_under from e.0 ≡ true → find path_cmp (moved from to e).0 w ≡ None
    absent u = find_all base (map (moved from to) (under from es)) (moved from to e).0 ∙ (λ i. or_else (not-in from to e es u (first _ _ s) i) (free (drop (length from) e.0) i))

    by : (b : Bool) → is_at_or_under from e.0 ≡ b → sum_by f w ≡ sum_by (λ e. f (moved from to e)) (under from es) + sum_by f base
        → sum_by f (with_all base (map (moved from to) (cond b (e ∷ under from es) (under from es)))) ≡ sum_by (λ e. f (moved from to e)) (cond b (e ∷ under from es) (under from es)) + sum_by f base
    by false u ih = ih
    by true u ih =
        let a = count_laws.sum_by-put_new f (moved from to e).0 e.1 w (absent u) in
        let c = sum_by-cons (λ e. f (moved from to e)) e (under from es) in
        omega (arith, a, c, ih)

-- ---- a tree whose part is moved

pub count-sum : (q : Path) (t : Tree) → length (entries_of t q) ≡ sum_by (λ e. cond (is_entry_of q e.0) 1 0) t
unfolding entries_of
count-sum q t = length-filter (λ e. is_entry_of q e.0) t

-- whether it is an entry
abbrev pub one : Path → Path → ℕ
one q p = cond (is_entry_of q p) 1 0

abbrev pub others : Path → Tree → Tree
others p t = where_key path_cmp (λ q. not (paths_eq p q)) t

pub some-there : (o : Option Node) → IsSome o → (x : Node) × (o ≡ Some x)
some-there (Some x) h = (x, refl)
some-there None h = cc

module _ (tree : Tree) (from to : Path) (can : CanMove tree from to) where
  abbrev after : Tree
  after = with_renamed tree from to

  abbrev U : Tree
  U = under from tree

  abbrev B : Tree
  B = rest from to tree

  sorted : T (is_sorted path_cmp tree)
  sorted = passes _ can.in_order

  free-at : (r : Path) → find path_cmp (to ++ r) tree ≡ None
  unfolding node_at
  free-at r = can.free r

  none-at : find path_cmp to tree ≡ None
  none-at = ap (λ (z : Path). find path_cmp z tree) (sym (append-nil to)) ∙ free-at []

  free-base : (r : Path) → find path_cmp (to ++ r) B ≡ None
  free-base r = find-where_key path_cmp (stays from to) (to ++ r) (alike (stays from to) (to ++ r)) tree ∙ ap (λ (o : Option Node). cond (stays from to (to ++ r)) o None) (free-at r) ∙ nothing (stays from to (to ++ r))
    where
      nothing : (b : Bool) → cond {A = Option Node} b None None ≡ None
      nothing true = refl
      nothing false = refl

  -- a sum over the tree, and over it with the part moved
  sum-here : (f : E → ℕ) → sum_by f tree ≡ sum_by f U + sum_by f B
  sum-here f = parts f from to tree none-at

  sum-after : (f : E → ℕ) → sum_by f after ≡ sum_by (λ e. f (moved from to e)) U + sum_by f B
  unfolding with_renamed
  sum-after f = sum-moved f from to B tree sorted free-base

  nodes : (f : Node → ℕ) → sum_by (λ e. f e.1) after ≡ sum_by (λ e. f e.1) tree
  nodes f = sum-after (λ e. f e.1) ∙ sym (sum-here (λ e. f e.1))

  -- no path of the tree is at or under the new one
  not-to : (d : E) → Has tree d → (r : Path) → d.0 ≡ to ++ r → ⊥
  not-to d m r e = false-true (sym (member-not (to ++ r) tree (free-at r) d m) ∙ path_eq (to ++ r) d.0 (sym e))

  entry-one : (q p : Path) → (is_entry_of q p ≡ true → ⊥) → one q p ≡ 0
  entry-one q p far = ap (λ b. cond b 1 0) (not_true (is_entry_of q p) (λ h. absurd (far h)))

  stays-off : (d : E) → stays from to d.0 ≡ true → is_at_or_under from d.0 ≡ false
  stays-off d h = not-false _ (both-true _ _ h).0

  -- what is moved keeps its entries
  count-moved : (e : E) → Has U e → length (entries_of after (moved from to e).0) ≡ length (entries_of tree e.0)
  count-moved e m =
      let a = drop (length from) e.0 in
      let at : from ++ a ≡ e.0 = under_parts from e.0 (where-has (is_at_or_under from) tree e m).1 in
      count-sum (to ++ a) after ∙ sum-after (λ d. one (to ++ a) d.0)
      ∙ (λ i. same-sums (λ d. one (to ++ a) (moved from to d).0) (λ d. one (from ++ a) d.0) U (each a) i + (no-sum (λ d. one (to ++ a) d.0) B (none a) ∙ sym (no-sum (λ d. one (from ++ a) d.0) B (none-from a))) i)
      ∙ sym (sum-here (λ d. one (from ++ a) d.0)) ∙ sym (count-sum (from ++ a) tree) ∙ ap (λ (q : Path). length (entries_of tree q)) at
    where
      each : (a : Path) (d : E) → Has U d → one (to ++ a) (moved from to d).0 ≡ one (from ++ a) d.0
      each a d h =
          ap (λ b. cond b 1 0) (entry-moved from to a (drop (length from) d.0)) ∙ ap (λ (q : Path). one (from ++ a) q) (under_parts from d.0 (where-has (is_at_or_under from) tree d h).1)

      none : (a : Path) (d : E) → Has B d → one (to ++ a) d.0 ≡ 0
      none a d h = entry-one (to ++ a) d.0 (λ t. let c = child-is (to ++ a) d.0 t in not-to d (where-has (stays from to) tree d h).0 (a ++ c.0 ∷ []) (c.1 ∙ append_assoc to a (c.0 ∷ [])))

      none-from : (a : Path) (d : E) → Has B d → one (from ++ a) d.0 ≡ 0
      none-from a d h =
          entry-one (from ++ a) d.0 (λ t.
          let c = child-is (from ++ a) d.0 t in
          false-true (sym (stays-off d (where-has (stays from to) tree d h).1) ∙ subst (λ (q : Path). is_at_or_under from q ≡ true) (sym (c.1 ∙ append_assoc from a (c.0 ∷ []))) (under_append from (a ++ c.0 ∷ []))))

  -- a sum over the part, of which only the top counts
  top-alone : (f : E → ℕ) → ((d : E) → Has U d → paths_eq from d.0 ≡ false → f d ≡ 0) → sum_by f U ≡ f (from, can.node)
  unfolding node_at
  top-alone f none =
      sum_of_others f from U (is_sorted-where_key path_cmp (is_at_or_under from) tree sorted)
      ∙ (λ i. option_map_or (λ x. f (from, x)) (at-top i) 0 + no-sum f (others from U) (λ d m. let r = where-has (λ q. not (paths_eq from q)) U d m in none d r.0 (not-false _ r.1)) i) ∙ nothing (f (from, can.node))
    where
      at-top : find path_cmp from U ≡ Some can.node
      at-top =
          find-where_key path_cmp (is_at_or_under from) from (alike (is_at_or_under from) from) tree
          ∙ (λ i. cond ((ap (is_at_or_under from) (sym (append-nil from)) ∙ under_append from []) i) (can.there i) None)

      nothing : (k : ℕ) → k + 0 ≡ k
      nothing k = omega arith

  -- another directory has one entry less where it had the part, and one more where it has it now
  count-other : (q : Path) → is_at_or_under from q ≡ false → is_at_or_under to q ≡ false → length (entries_of after q) + one q from ≡ length (entries_of tree q) + one q to
  count-other q off off_to =
      joined _ _ _ _ _ _ _ (count-sum q after ∙ sum-after (λ d. one q d.0)) (count-sum q tree ∙ sum-here (λ d. one q d.0))
      (top-alone (λ d. one q (moved from to d).0) new-below ∙ ap (λ (z : Path). one q z) top) (top-alone (λ d. one q d.0) below)
    where
      top : to ++ drop (length from) from ≡ to
      top = ap (λ (z : Path). to ++ drop (length from) z) (sym (append-nil from)) ∙ ap (λ (z : Path). to ++ z) (drop-append_seam from []) ∙ append-nil to

      joined : (x y a b s k m : ℕ) → x ≡ a + s → y ≡ b + s → a ≡ k → b ≡ m → x + m ≡ y + k
      joined x y a b s k m e f g h = omega arith

      -- of what is under a path but not at it no directory elsewhere has an entry
      deeper : (p z : Path) → is_at_or_under p q ≡ false → Ends z → (z ≡ [] → ⊥) → one q (p ++ z) ≡ 0
      deeper p z far (Ends.empty e) some = absurd (some e)
      deeper p z far (Ends.ended y x e) some =
          entry-one q (p ++ z) (λ t.
          false-true (sym far ∙ subst (λ (w : Path). is_at_or_under p w ≡ true)
          (sym (eq_path q (p ++ y) (sym (entry-test q (p ++ y) x) ∙ ap (is_entry_of q) (append_assoc p y (x ∷ []) ∙ sym (ap (λ (w : Path). p ++ w) e)) ∙ t))) (under_append p y)))

      some-below : (d : E) → Has U d → paths_eq from d.0 ≡ false → drop (length from) d.0 ≡ [] → ⊥
      some-below d m far e =
          false-true (sym far ∙ path_eq from d.0 (sym (append-nil from) ∙ ap (λ (z : Path). from ++ z) (sym e) ∙ under_parts from d.0 (where-has (is_at_or_under from) tree d m).1))

      new-below : (d : E) → Has U d → paths_eq from d.0 ≡ false → one q (moved from to d).0 ≡ 0
      new-below d m far = deeper to (drop (length from) d.0) off_to (ends (drop (length from) d.0)) (some-below d m far)

      below : (d : E) → Has U d → paths_eq from d.0 ≡ false → one q d.0 ≡ 0
      below d m far =
          ap (λ (z : Path). one q z) (sym (under_parts from d.0 (where-has (is_at_or_under from) tree d m).1)) ∙ deeper from (drop (length from) d.0) off (ends (drop (length from) d.0)) (some-below d m far)

  off-from : (d : E) → Has B d → is_at_or_under from d.0 ≡ false
  off-from d m = stays-off d (where-has (stays from to) tree d m).1

  off-to : (d : E) → Has B d → is_at_or_under to d.0 ≡ false
  off-to d m = not_true _ (λ h. absurd (not-to d (where-has (stays from to) tree d m).0 (drop (length to) d.0) (sym (under_parts to d.0 h))))

  one-from : (q : Path) → one q from ≡ cond (paths_eq q can.n) 1 0
  one-from q = ap (λ b. cond b 1 0) (ap (is_entry_of q) can.split ∙ entry-test q can.n can.name)

  one-to : (q : Path) → one q to ≡ cond (paths_eq q can.l) 1 0
  one-to q = ap (λ b. cond b 1 0) (ap (is_entry_of q) can.split_to ∙ entry-test q can.l can.name_to)

  abbrev here : (ℕ → ℕ) → E → ℕ
  here f e = f (length (entries_of tree e.0))

  abbrev there : (ℕ → ℕ) → E → ℕ
  there f e = f (length (entries_of after e.0))

  -- sums of counts are those of the part and those of what stays
  counts-after : (f : ℕ → ℕ) → sum_of_counts f after ≡ sum_by (here f) U + sum_by (there f) B
  counts-after f = sum-after (there f) ∙ (λ i. same-sums (λ e. there f (moved from to e)) (here f) U (λ e m. ap f (count-moved e m)) i + sum_by (there f) B)

  within : (f : ℕ → ℕ) → can.n ≡ can.l → sum_of_counts f after ≡ sum_of_counts f tree
  within f same =
      counts-after f ∙ (λ i. sum_by (here f) U + same-sums (there f) (here f) B (λ d m. ap f (stay d m)) i) ∙ sym (sum-here (here f))
    where
      equal : (a b x y : ℕ) → a + x ≡ b + y → x ≡ y → a ≡ b
      equal a b x y e f = omega arith

      stay : (d : E) → Has B d → length (entries_of after d.0) ≡ length (entries_of tree d.0)
      stay d m = equal _ _ _ _ (count-other d.0 (off-from d m) (off-to d m)) (one-from d.0 ∙ ap (λ (z : Path). cond (paths_eq d.0 z) 1 0) same ∙ sym (one-to d.0))

  -- ---- the two directories

  n-off : is_at_or_under from can.n ≡ false
  n-off = not_true _ (λ h. absurd (longer can.n (drop (length from) can.n) (sym (under_parts from can.n h) ∙ ap (λ (z : Path). z ++ drop (length from) can.n) can.split)))
    where
      longer : (n r : Path) → n ≡ (n ++ can.name ∷ []) ++ r → ⊥
      longer n r e =
          let a = ap (λ (z : Path). length z) e in
          let b = length-append (n ++ can.name ∷ []) r in
          let c = length-append n (can.name ∷ []) in
          omega (arith, a, b, c)

  l-off : is_at_or_under from can.l ≡ false
  l-off = not_true _ (λ h. absurd (false-true (sym can.apart ∙ subst (λ (z : Path). is_at_or_under from z ≡ true)
      (sym (append_assoc from (drop (length from) can.l) (can.name_to ∷ [])) ∙ ap (λ (z : Path). z ++ can.name_to ∷ []) (under_parts from can.l h) ∙ sym can.split_to) (under_append from (drop (length from) can.l ++ can.name_to ∷ [])))))

  there-off : (p : Path) → IsSome (node_at tree p) → is_at_or_under to p ≡ false
  there-off p some = not_true _ (λ h. absurd (no (node_at tree p) some (ap (node_at tree) (sym (under_parts to p h)) ∙ can.free (drop (length to) p))))
    where
      no : (o : Option Node) → IsSome o → o ≡ None → ⊥
      no (Some x) h e = some-none x e
      no None h e = cc

  found : (p : Path) → is_at_or_under from p ≡ false → IsSome (node_at tree p) → (x : Node) × (find path_cmp p B ≡ Some x)
  unfolding node_at
  found p off some =
      let x = some-there (find path_cmp p tree) some in
      (x.0, find-where_key path_cmp (stays from to) p (alike (stays from to) p) tree ∙ (λ i. cond (stays-here i) (x.1 i) None))
    where
      not-to-here : paths_eq to p ≡ false
      not-to-here = not_true _ (λ h. sym (there-off p some) ∙ subst (λ (z : Path). is_at_or_under to z ≡ true) (append-nil to ∙ eq_path to p h) (under_append to []))

      stays-here : stays from to p ≡ true
      stays-here = (λ i. not (off i) && not (not-to-here i))

  two-parts : (g : E → ℕ) → can.n ≢ can.l → (x y : Node) → find path_cmp can.n B ≡ Some x → find path_cmp can.l B ≡ Some y
      → sum_by g B ≡ g (can.n, x) + (g (can.l, y) + sum_by g (others can.l (others can.n B)))
  two-parts g apart x y at at_l =
      sum_of_others g can.n B sorted-B
      ∙ (λ i. option_map_or (λ x. g (can.n, x)) (at i) 0 + sum_of_others g can.l (others can.n B) (is_sorted-where_key path_cmp (λ q. not (paths_eq can.n q)) B sorted-B) i)
      ∙ (λ i. g (can.n, x) + (option_map_or (λ x. g (can.l, x)) (at-rest i) 0 + sum_by g (others can.l (others can.n B))))
    where
      sorted-B : T (is_sorted path_cmp B)
      sorted-B = is_sorted-where_key path_cmp (stays from to) tree sorted

      differ : paths_eq can.n can.l ≡ false
      differ = not_true _ (λ h. absurd (apart (eq_path can.n can.l h)))

      at-rest : find path_cmp can.l (others can.n B) ≡ Some y
      at-rest = find-where_key path_cmp (λ q. not (paths_eq can.n q)) can.l (alike (λ q. not (paths_eq can.n q)) can.l) B ∙ (λ i. cond (not (differ i)) (at_l i) None)

  across : (f : ℕ → ℕ) → can.n ≢ can.l
      → sum_of_counts f after + (f (length (entries_of tree can.n)) + f (length (entries_of tree can.l))) ≡ sum_of_counts f tree + (f (length (entries_of tree can.n) - 1) + f (length (entries_of tree can.l) + 1))
  across f apart =
      let x = found can.n n-off can.n_there in
      let y = found can.l l-off can.l_there in
      joined _ _ _ _ _ _ _ _ _ _ _ (counts-after f) (sum-here (here f)) (two-parts (there f) apart x.0 y.0 x.1 y.1) (two-parts (here f) apart x.0 y.0 x.1 y.1)
      (same-sums (there f) (here f) (others can.l (others can.n B)) (λ d m. ap f (stay d m)))
      ∙ (λ i. sum_of_counts f tree + (f (less i) + f (more i)))
    where
      joined : (ta tt u ba bb a b c d r s : ℕ) → ta ≡ u + ba → tt ≡ u + bb → ba ≡ a + (b + r) → bb ≡ c + (d + s) → r ≡ s → ta + (c + d) ≡ tt + (a + b)
      joined ta tt u ba bb a b c d r s e f g h k = omega arith

      counted : (q p : Path) (b : Bool) → paths_eq q p ≡ b → cond {A = ℕ} (paths_eq q p) 1 0 ≡ cond {A = ℕ} b 1 0
      counted q p b e = ap (λ (c : Bool). cond c 1 0) e

      apart-test : paths_eq can.n can.l ≡ false
      apart-test = not_true _ (λ h. absurd (apart (eq_path can.n can.l h)))

      apart-back : paths_eq can.l can.n ≡ false
      apart-back = not_true _ (λ h. absurd (apart (sym (eq_path can.l can.n h))))

      less : length (entries_of after can.n) ≡ length (entries_of tree can.n) - 1
      less = taken _ _ _ _ (count-other can.n n-off (there-off can.n can.n_there)) (one-from can.n ∙ counted can.n can.n true (path_eq can.n can.n refl)) (one-to can.n ∙ counted can.n can.l false apart-test)
        where
          taken : (a b x y : ℕ) → a + x ≡ b + y → x ≡ 1 → y ≡ 0 → a ≡ b - 1
          taken a b x y e f g = omega arith

      more : length (entries_of after can.l) ≡ length (entries_of tree can.l) + 1
      more = given _ _ _ _ (count-other can.l l-off (there-off can.l can.l_there)) (one-from can.l ∙ counted can.l can.n false apart-back) (one-to can.l ∙ counted can.l can.l true (path_eq can.l can.l refl))
        where
          given : (a b x y : ℕ) → a + x ≡ b + y → x ≡ 0 → y ≡ 1 → a ≡ b + 1
          given a b x y e f g = omega arith

      none-here : (p q : Path) → paths_eq q p ≡ false → paths_eq p q ≡ false
      none-here p q e = not_true _ (λ h. sym e ∙ path_eq q p (sym (eq_path p q h)))

      stay : (d : E) → Has (others can.l (others can.n B)) d → length (entries_of after d.0) ≡ length (entries_of tree d.0)
      stay d m =
          let r = where-has (λ q. not (paths_eq can.l q)) (others can.n B) d m in
          let s = where-has (λ q. not (paths_eq can.n q)) B d r.0 in
          same _ _ _ _ (count-other d.0 (off-from d s.0) (off-to d s.0)) (one-from d.0 ∙ counted d.0 can.n false (none-here d.0 can.n (not-false _ s.1)))
          (one-to d.0 ∙ counted d.0 can.l false (none-here d.0 can.l (not-false _ r.1)))
        where
          same : (a b x y : ℕ) → a + x ≡ b + y → x ≡ 0 → y ≡ 0 → a ≡ b
          same a b x y e f g = omega arith

pub move-sums : MoveSums
move-sums = record { nodes = λ f tree from to can. nodes tree from to can f; within = λ f tree from to can. within tree from to can f; across = λ f tree from to can. across tree from to can f }
