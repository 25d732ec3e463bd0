-- A tree of marks.
use Rattle.std.proofs.Common.{◌≡◌, ◌≢◌, ℕ, zero, suc, ◌+◌, ◌-◌, ◌*◌, ◌/◌, ◌^◌, ◌≤◌, ◌<◌, Bool, true, false, ◌||◌, List, [], ◌∷◌, length, take, drop, replicate, refl, sym, ap, subst, ◌∙◌, ◌⊎◌, inl, inr, arith}
use Rattle.std.proofs.Math.ListN.{set}
use Rattle.std.proofs.Math.Nat.{mul-le-mul_left, pow-suc}
use Rattle.std.proofs.lemmas.Bool.{cases_eq, cases_lt, or_parts, both_ways}
use Rattle.std.proofs.lemmas.List.{get_or-set_same, get_or-set_other, length-set, get_or-take, get_or-drop, length-take-le, length-drop, length-replicate}
use Rattle.nl_inode.specs.Free.{Becomes, IsLeastFreeNumber, NoneFree, is_free}
use Rattle.nl_inode.specs.Tree.{HoldsAt, IsFirstIn, IsFreeBitTree, MarksBelow, MarksBelowBut, SameLeaves, mark_at}

pub twice : (h : ℕ) → 2 ^ suc h ≡ 2 * 2 ^ h
twice h = let e = pow-suc 2 h in omega (arith, e)

pub some : (h : ℕ) → 1 ≤ 2 ^ h
some zero = omega arith
some (suc h) = let e = twice h in let k = some h in omega (arith, e, k)

pub above-height : (h : ℕ) → h < 2 ^ h
above-height zero = omega arith
above-height (suc h) = let e = twice h in let k = above-height h in omega (arith, e, k)

pub none-set : (n i : ℕ) → mark_at (replicate n false) i ≡ false
none-set zero i = refl
none-set (suc n) zero = refl
none-set (suc n) (suc i) = none-set n i

pub beyond : (bs : List Bool) (i : ℕ) → length bs ≤ i → mark_at bs i ≡ false
beyond [] i h = refl
beyond (b ∷ bs) zero h = absurd (none h)
  where
    none : suc (length bs) ≤ 0 → ⊥
    none h = omega arith
beyond (b ∷ bs) (suc i) h = beyond bs i (omega (arith, h))

pub set-below : (bs : List Bool) (i : ℕ) → mark_at bs i ≡ true → i < length bs
set-below bs i e = by (cases_lt i (length bs))
  where
    by : (i < length bs) ⊎ (length bs ≤ i) → i < length bs
    by (inl h) = h
    by (inr h) = absurd (both_ways _ (beyond bs i h) e)

-- ---- on the way down

-- the room of a node two rows up
room : (node p len : ℕ) → 1 ≤ p → (node + 1) * (2 * p) ≤ len → 2 * node + 1 < len
room node p len some fits =
    let two : 2 ≤ 2 * p = omega arith in
    let m = mul-le-mul_left (node + 1) two in
    omega (arith, m, fits)

none-below-at : (tree : List Bool) → MarksBelow tree → (h node : ℕ) → 1 ≤ node → (node + 1) * 2 ^ h ≤ length tree → mark_at tree node ≡ false
    → (i : ℕ) → node * 2 ^ h ≤ i → i < node * 2 ^ h + 2 ^ h → mark_at tree i ≡ false
none-below-at tree marks zero node low fits clear i from to = ap (mark_at tree) (same from to) ∙ clear
  where
    same : node * 1 ≤ i → i < node * 1 + 1 → i ≡ node
    same a b = omega arith
none-below-at tree marks (suc h) node low fits clear i from to =
    let fits_two : (node + 1) * (2 * 2 ^ h) ≤ length tree = subst (λ (q : ℕ). (node + 1) * q ≤ length tree) (twice h) fits in
    let below = room node (2 ^ h) (length tree) (some h) fits_two in
    let both = or_parts _ _ (sym (marks.each node low below) ∙ clear) in
    by (2 ^ h) (twice h) both
    (none-below-at tree marks h (2 * node) (omega (arith, low)) (half (2 ^ h) (some h) fits_two))
    (none-below-at tree marks h (2 * node + 1) (omega arith) (whole (2 ^ h) fits_two))
  where
    half : (p : ℕ) → 1 ≤ p → (node + 1) * (2 * p) ≤ length tree → (2 * node + 1) * p ≤ length tree
    half p some f = omega (arith, f)

    whole : (p : ℕ) → (node + 1) * (2 * p) ≤ length tree → ((2 * node + 1) + 1) * p ≤ length tree
    whole p f = omega (arith, f)

    by : (p : ℕ) → 2 ^ suc h ≡ 2 * p → (mark_at tree (2 * node) ≡ false) × (mark_at tree (2 * node + 1) ≡ false)
        → (mark_at tree (2 * node) ≡ false → (i : ℕ) → (2 * node) * p ≤ i → i < (2 * node) * p + p → mark_at tree i ≡ false)
        → (mark_at tree (2 * node + 1) ≡ false → (i : ℕ) → (2 * node + 1) * p ≤ i → i < (2 * node + 1) * p + p → mark_at tree i ≡ false)
        → mark_at tree i ≡ false
    by p e both left right = of (cases_lt i ((2 * node + 1) * p))
      where
        from_left : node * 2 ^ suc h ≤ i → (2 * node) * p ≤ i
        from_left f = let g : node * (2 * p) ≤ i = subst (λ (q : ℕ). node * q ≤ i) e f in omega (arith, g)

        to_left : i < (2 * node + 1) * p → i < (2 * node) * p + p
        to_left f = omega (arith, f)

        to_right : i < node * 2 ^ suc h + 2 ^ suc h → i < (2 * node + 1) * p + p
        to_right f = let g : i < node * (2 * p) + 2 * p = subst (λ (q : ℕ). i < node * q + q) e f in omega (arith, g)

        of : (i < (2 * node + 1) * p) ⊎ ((2 * node + 1) * p ≤ i) → mark_at tree i ≡ false
        of (inl f) = left both.0 i (from_left from) (to_left f)
        of (inr f) = right both.1 i f (to_right to)

pub none-below : (tree : List Bool) → MarksBelow tree → (h node : ℕ) → 1 ≤ node → (node + 1) * 2 ^ h ≤ length tree → mark_at tree node ≡ false
    → (i : ℕ) → node * 2 ^ h ≤ i → i < node * 2 ^ h + 2 ^ h → mark_at tree i ≡ false
none-below = none-below-at

pub first-here : (tree : List Bool) (node : ℕ) → mark_at tree node ≡ true → IsFirstIn tree (node * 2 ^ 0) (2 ^ 0) node
first-here tree node e = record { above = omega arith; below = omega arith; set = e; first = λ i a b. absurd (none i a b) }
  where
    none : (i : ℕ) → node * 1 ≤ i → i < node → ⊥
    none i a b = omega arith

-- one row up, from the left and from the right
pub first-left : (tree : List Bool) (node h leaf : ℕ) → IsFirstIn tree (2 * node * 2 ^ h) (2 ^ h) leaf → IsFirstIn tree (node * 2 ^ suc h) (2 ^ suc h) leaf
first-left tree node h leaf is = by (2 ^ h) (2 ^ suc h) (twice h) is
  where
    by : (p q : ℕ) → q ≡ 2 * p → IsFirstIn tree (2 * node * p) p leaf → IsFirstIn tree (node * q) q leaf
    by p q e is = subst (λ (q : ℕ). IsFirstIn tree (node * q) q leaf) (sym e) (record {
      above = (let a = is.above in omega (arith, a));
      below = (let b = is.below in omega (arith, b));
      set = is.set;
      first = λ i a b. is.first i (omega (arith, a)) b;
    })

pub first-right : (tree : List Bool) (node h leaf : ℕ) → MarksBelow tree → 1 ≤ node → (node + 1) * 2 ^ suc h ≤ length tree → mark_at tree (2 * node) ≡ false
    → IsFirstIn tree ((2 * node + 1) * 2 ^ h) (2 ^ h) leaf → IsFirstIn tree (node * 2 ^ suc h) (2 ^ suc h) leaf
first-right tree node h leaf marks low fits clear is =
    by (2 ^ h) (2 ^ suc h) (twice h) (none-below tree marks h (2 * node) (omega (arith, low)) (half (2 ^ h) (some h) (subst (λ (q : ℕ). (node + 1) * q ≤ length tree) (twice h) fits)) clear) is
  where
    half : (p : ℕ) → 1 ≤ p → (node + 1) * (2 * p) ≤ length tree → (2 * node + 1) * p ≤ length tree
    half p some f = omega (arith, f)

    by : (p q : ℕ) → q ≡ 2 * p → ((i : ℕ) → (2 * node) * p ≤ i → i < (2 * node) * p + p → mark_at tree i ≡ false) → IsFirstIn tree ((2 * node + 1) * p) p leaf → IsFirstIn tree (node * q) q leaf
    by p q e none is = subst (λ (q : ℕ). IsFirstIn tree (node * q) q leaf) (sym e) (record {
      above = (let a = is.above in omega (arith, a));
      below = (let b = is.below in omega (arith, b));
      set = is.set;
      first = λ i a b. of i a b (cases_lt i ((2 * node + 1) * p));
    })
      where
        of : (i : ℕ) → node * (2 * p) ≤ i → i < leaf → (i < (2 * node + 1) * p) ⊎ ((2 * node + 1) * p ≤ i) → mark_at tree i ≡ false
        of i a b (inl f) = none i (omega (arith, a)) (omega (arith, f))
        of i a b (inr f) = is.first i f b

-- the room below, for the two calls
pub left-fits : (tree : List Bool) (node h : ℕ) → (node + 1) * 2 ^ suc h ≤ length tree → (2 * node + 1) * 2 ^ h ≤ length tree
left-fits tree node h fits = by (2 ^ h) (subst (λ (q : ℕ). (node + 1) * q ≤ length tree) (twice h) fits)
  where
    by : (p : ℕ) → (node + 1) * (2 * p) ≤ length tree → (2 * node + 1) * p ≤ length tree
    by p f = omega (arith, f)

pub right-fits : (tree : List Bool) (node h : ℕ) → (node + 1) * 2 ^ suc h ≤ length tree → (2 * node + 1 + 1) * 2 ^ h ≤ length tree
right-fits tree node h fits = by (2 ^ h) (subst (λ (q : ℕ). (node + 1) * q ≤ length tree) (twice h) fits)
  where
    by : (p : ℕ) → (node + 1) * (2 * p) ≤ length tree → (2 * node + 1 + 1) * p ≤ length tree
    by p f = omega (arith, f)

pub below-fits : (tree : List Bool) (node h : ℕ) → (node + 1) * 2 ^ suc h ≤ length tree → 2 * node + 1 < length tree
below-fits tree node h fits = room node (2 ^ h) (length tree) (some h) (subst (λ (q : ℕ). (node + 1) * q ≤ length tree) (twice h) fits)

-- the same where the row is given by its number
module _ (tree : List Bool) (node height : ℕ) (some : 1 ≤ height) (fits : (node + 1) * 2 ^ height ≤ length tree) where
  up : suc (height - 1) ≡ height
  up = omega (arith, some)

  fits_up : (node + 1) * 2 ^ suc (height - 1) ≤ length tree
  fits_up = subst (λ (h : ℕ). (node + 1) * 2 ^ h ≤ length tree) (sym up) fits

  pub below-row : 2 * node + 1 < length tree
  below-row = below-fits tree node (height - 1) fits_up

  pub left-row : (2 * node + 1) * 2 ^ (height - 1) ≤ length tree
  left-row = left-fits tree node (height - 1) fits_up

  pub right-row : (2 * node + 1 + 1) * 2 ^ (height - 1) ≤ length tree
  right-row = right-fits tree node (height - 1) fits_up

  pub from-left : (leaf : ℕ) → IsFirstIn tree (2 * node * 2 ^ (height - 1)) (2 ^ (height - 1)) leaf → IsFirstIn tree (node * 2 ^ height) (2 ^ height) leaf
  from-left leaf is = subst (λ (h : ℕ). IsFirstIn tree (node * 2 ^ h) (2 ^ h) leaf) up (first-left tree node (height - 1) leaf is)

  pub from-right : (leaf : ℕ) → MarksBelow tree → 1 ≤ node → mark_at tree (2 * node) ≡ false → IsFirstIn tree ((2 * node + 1) * 2 ^ (height - 1)) (2 ^ (height - 1)) leaf
      → IsFirstIn tree (node * 2 ^ height) (2 ^ height) leaf
  from-right leaf marks low clear is = subst (λ (h : ℕ). IsFirstIn tree (node * 2 ^ h) (2 ^ h) leaf) up (first-right tree node (height - 1) leaf marks low fits_up clear is)

pub right-set : (tree : List Bool) (node : ℕ) → MarksBelow tree → 1 ≤ node → 2 * node + 1 < length tree → mark_at tree node ≡ true → mark_at tree (2 * node) ≡ false → mark_at tree (2 * node + 1) ≡ true
right-set tree node marks low below set clear = sym (ap (λ b. b || mark_at tree (2 * node + 1)) clear) ∙ sym (marks.each node low below) ∙ set

-- ---- on the way up

pub climbs : (tree : List Bool) (node : ℕ) (b : Bool) → b ≡ (mark_at tree (2 * node) || mark_at tree (2 * node + 1)) → 1 ≤ node → 2 * node + 1 < length tree → MarksBelowBut node tree
    → MarksBelowBut (node / 2) (set tree node b)
climbs tree node b is low below marks = record { each = λ i above inside far. by i above (subst (λ (n : ℕ). 2 * i + 1 < n) (length-set tree node b) inside) far (cases_eq i node) }
  where
    here : node < length tree
    here = omega (arith, below)

    same : (i : ℕ) → i ≢ node → mark_at (set tree node b) i ≡ mark_at tree i
    same i far = get_or-set_other tree node i b false far

    left : (i : ℕ) → 1 ≤ i → i ≡ node → 2 * i ≢ node
    left i a e f = omega arith

    right : (i : ℕ) → 1 ≤ i → i ≡ node → 2 * i + 1 ≢ node
    right i a e f = omega arith

    up_left : (i : ℕ) → i ≢ node / 2 → 2 * i ≢ node
    up_left i far f = far (omega (arith, f))

    up_right : (i : ℕ) → i ≢ node / 2 → 2 * i + 1 ≢ node
    up_right i far f = far (omega (arith, f))

    by : (i : ℕ) → 1 ≤ i → 2 * i + 1 < length tree → i ≢ node / 2 → (i ≡ node) ⊎ (i ≡ node → ⊥) → HoldsAt (set tree node b) i
    by i a inside far (inl e) =
        ap (mark_at (set tree node b)) e ∙ get_or-set_same tree node b false here ∙ is
        ∙ ap (λ (n : ℕ). mark_at tree (2 * n) || mark_at tree (2 * n + 1)) (sym e)
        ∙ (λ j. sym (same (2 * i) (left i a e)) j || sym (same (2 * i + 1) (right i a e)) j)
    by i a inside far (inr other) =
        same i other ∙ marks.each i a inside other ∙ (λ j. sym (same (2 * i) (up_left i far)) j || sym (same (2 * i + 1) (up_right i far)) j)

pub at-root : (tree : List Bool) → MarksBelowBut 0 tree → MarksBelow tree
at-root tree marks = record { each = λ i a inside. marks.each i a inside (λ e. none i a e) }
  where
    none : (i : ℕ) → 1 ≤ i → i ≡ 0 → ⊥
    none i a e = omega arith

pub leaf-set : (tree : List Bool) (leaf : ℕ) (b : Bool) → MarksBelow tree → length tree ≤ 2 * leaf → MarksBelowBut (leaf / 2) (set tree leaf b)
leaf-set tree leaf b marks low = record { each = λ i a inside far. by i a (subst (λ (n : ℕ). 2 * i + 1 < n) (length-set tree leaf b) inside) far }
  where
    same : (i : ℕ) → i ≢ leaf → mark_at (set tree leaf b) i ≡ mark_at tree i
    same i far = get_or-set_other tree leaf i b false far

    itself : (i : ℕ) → 2 * i + 1 < length tree → i ≢ leaf
    itself i h e = omega arith

    up_left : (i : ℕ) → i ≢ leaf / 2 → 2 * i ≢ leaf
    up_left i far f = far (omega (arith, f))

    up_right : (i : ℕ) → i ≢ leaf / 2 → 2 * i + 1 ≢ leaf
    up_right i far f = far (omega (arith, f))

    by : (i : ℕ) → 1 ≤ i → 2 * i + 1 < length tree → i ≢ leaf / 2 → HoldsAt (set tree leaf b) i
    by i a inside far = same i (itself i inside) ∙ marks.each i a inside ∙ (λ j. sym (same (2 * i) (up_left i far)) j || sym (same (2 * i + 1) (up_right i far)) j)

-- an inner node is set: the leaves stay
pub leaves-stay : (old tree : List Bool) (node : ℕ) (b : Bool) → SameLeaves old tree → 2 * node + 1 < length tree → SameLeaves old (set tree node b)
leaves-stay old tree node b same below = record {
  size = length-set tree node b ∙ same.size;
  each = λ i h. get_or-set_other tree node i b false (far i h) ∙ same.each i h;
}
  where
    far : (i : ℕ) → length old ≤ 2 * i → i ≢ node
    far i h e = let s = same.size in omega (arith, h, e, s, below)

-- ---- the numbers

module _ (tree : List Bool) (width height count : ℕ) (is : IsFreeBitTree tree width height count) where
  abbrev free : List Bool
  free = take count (drop width tree)

  pub free-length : length free ≡ count
  free-length = length-take-le count (drop width tree) (let d = length-drop width tree in let s = is.size in let f = is.fits in omega (arith, d, s, f))

  pub free-at : (k : ℕ) → k < count → is_free free k ≡ mark_at tree (width + k)
  free-at k below = get_or-take count (drop width tree) k false below ∙ get_or-drop width tree k false

  pub free-none : (k : ℕ) → count ≤ k → is_free free k ≡ false
  free-none k above = beyond free k (subst (λ (n : ℕ). n ≤ k) (sym free-length) above)

  pub root-fits : (1 + 1) * 2 ^ height ≤ length tree
  root-fits = let p = is.power in let s = is.size in omega (arith, p, s)

  pub none-free : mark_at tree 1 ≡ false → NoneFree free
  none-free clear k = by (cases_lt k count)
    where
      inside : k < count → 1 * 2 ^ height ≤ width + k
      inside h = let p = is.power in omega (arith, p)

      inside_end : k < count → width + k < 1 * 2 ^ height + 2 ^ height
      inside_end h = let p = is.power in let f = is.fits in omega (arith, p, f, h)

      by : (k < count) ⊎ (count ≤ k) → is_free free k ≡ false
      by (inl h) = free-at k h ∙ none-below tree is.marks height 1 (omega arith) root-fits clear (width + k) (inside h) (inside_end h)
      by (inr h) = free-none k h

  pub found-below : (leaf : ℕ) → IsFirstIn tree (1 * 2 ^ height) (2 ^ height) leaf → leaf - width < count
  found-below leaf first = by (cases_lt (leaf - width) count)
    where
      at : width + (leaf - width) ≡ leaf
      at = let p = is.power in let a = first.above in omega (arith, p, a)

      inside : leaf - width < width
      inside = let p = is.power in let b = first.below in omega (arith, p, b)

      by : (leaf - width < count) ⊎ (count ≤ leaf - width) → leaf - width < count
      by (inl h) = h
      by (inr h) = absurd (both_ways _ (ap (mark_at tree) (sym at) ∙ is.outside (leaf - width) h inside) first.set)

  pub found-least : (leaf : ℕ) → IsFirstIn tree (1 * 2 ^ height) (2 ^ height) leaf → IsLeastFreeNumber (leaf - width) free
  found-least leaf first = record {
    free_itself = free-at (leaf - width) (found-below leaf first) ∙ ap (mark_at tree) at ∙ first.set;
    least = λ i h. free-at i (sooner i h (found-below leaf first)) ∙ first.first (width + i) (above i) (earlier i h);
  }
    where
      at : width + (leaf - width) ≡ leaf
      at = let p = is.power in let a = first.above in omega (arith, p, a)

      sooner : (i : ℕ) → i < leaf - width → leaf - width < count → i < count
      sooner i h k = omega arith

      above : (i : ℕ) → 1 * 2 ^ height ≤ width + i
      above i = let p = is.power in omega (arith, p)

      earlier : (i : ℕ) → i < leaf - width → width + i < leaf
      earlier i h = omega arith

  pub leaf-inside : (k : ℕ) → k < count → width + k < length tree
  leaf-inside k h = let s = is.size in let f = is.fits in omega (arith, s, f, h)

  pub leaf-low : (k : ℕ) → length tree ≤ 2 * (width + k)
  leaf-low k = let s = is.size in omega (arith, s)

  pub leaf-paired : (k : ℕ) → k < count → 2 * ((width + k) / 2) + 1 < length tree
  leaf-paired k h = let s = is.size in let f = is.fits in omega (arith, s, f, h)

  pub put-tree : (k : ℕ) (b : Bool) (new : List Bool) → k < count → MarksBelow new → SameLeaves (set tree (width + k) b) new → IsFreeBitTree new width height count
  put-tree k b new below marks same = record {
    size = same.size ∙ length-set tree (width + k) b ∙ is.size;
    power = is.power;
    fits = is.fits;
    small = is.small;
    few = is.few;
    marks = marks;
    outside = λ i h inside. same.each (width + i) (low i) ∙ get_or-set_other tree (width + k) (width + i) b false (far i h) ∙ is.outside i h inside;
  }
    where
      low : (i : ℕ) → length (set tree (width + k) b) ≤ 2 * (width + i)
      low i = let n = length-set tree (width + k) b in let s = is.size in omega (arith, n, s)

      far : (i : ℕ) → count ≤ i → width + i ≢ width + k
      far i h e = omega arith

  pub put-becomes : (k : ℕ) (b : Bool) (new : List Bool) (below : k < count) (marks : MarksBelow new) (same : SameLeaves (set tree (width + k) b) new) → Becomes k b free (take count (drop width new))
  put-becomes k b new below marks same = record {
    count = new-length ∙ sym free-length;
    at = new-at k below ∙ get_or-set_same tree (width + k) b false (leaf-inside k below);
    others = λ i far. by i far (cases_lt i count);
  }
    where
      low : (i : ℕ) → length (set tree (width + k) b) ≤ 2 * (width + i)
      low i = let n = length-set tree (width + k) b in let s = is.size in omega (arith, n, s)

      size : length new ≡ 2 * width
      size = same.size ∙ length-set tree (width + k) b ∙ is.size

      new-length : length (take count (drop width new)) ≡ count
      new-length = length-take-le count (drop width new) (let d = length-drop width new in let s = size in let f = is.fits in omega (arith, d, s, f))

      new-at : (i : ℕ) → i < count → is_free (take count (drop width new)) i ≡ mark_at (set tree (width + k) b) (width + i)
      new-at i h = get_or-take count (drop width new) i false h ∙ get_or-drop width new i false ∙ same.each (width + i) (low i)

      apart : (i : ℕ) → i ≢ k → width + i ≢ width + k
      apart i far e = far (omega (arith, e))

      by : (i : ℕ) → i ≢ k → (i < count) ⊎ (count ≤ i) → is_free (take count (drop width new)) i ≡ is_free free i
      by i far (inl h) = new-at i h ∙ get_or-set_other tree (width + k) (width + i) b false (apart i far) ∙ sym (free-at i h)
      by i far (inr h) = beyond (take count (drop width new)) i (subst (λ (n : ℕ). n ≤ i) (sym new-length) h) ∙ sym (free-none i h)

pub clear-tree : (width height count : ℕ) → width ≡ 2 ^ height → count ≤ width → width ≤ 2 ^ 33 → count < 2 ^ 32 → IsFreeBitTree (replicate (2 * width) false) width height count
clear-tree width height count power fits small few = record {
  size = length-replicate (2 * width) false;
  power = power;
  fits = fits;
  small = small;
  few = few;
  marks = record { each = λ i a inside. none-set (2 * width) i ∙ (λ j. sym (none-set (2 * width) (2 * i)) j || sym (none-set (2 * width) (2 * i + 1)) j) };
  outside = λ k a inside. none-set (2 * width) (width + k);
}
