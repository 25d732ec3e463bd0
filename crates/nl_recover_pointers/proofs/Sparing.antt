-- The blocks that can be erased, by the spreads of copies and by marks.
use Rattle.std.proofs.Common.{◌≡◌, ℕ, suc, ◌+◌, ◌<◌, Bool, true, false, not, ◌&&◌, ◌||◌, cond, List, [], ◌∷◌, length, get_or, Some, ⊎_elim, refl, sym, ◌∙◌, ap, arith}
use Rattle.std.specs.Prelude.{◌==◌, fold}
use Rattle.std.specs.List.{list_all, list_any, range_with_len}
use Rattle.std.specs.BTreeMap.{BTreeMap, Updates, get}
use Rattle.std.specs.Map.{lookup}
use Rattle.std.specs.Ordering.{is_eq}
use Rattle.std.proofs.lemmas.Bool.{and_parts, not-true, not_from_false, or_cases, or_left, or_parts, or_right, true≢false}
use Rattle.std.proofs.lemmas.Bool.Decides.{nat_tests}
use Rattle.nl_recover_pointers.specs.Places.{PlaceKey, pair_cmp, place_key}
use Rattle.nl_recover_pointers.specs.Spare.{AreSpreads, has_other, has_spare, is_alone_in, is_copy, is_spare_among, spread_among, spread_at, spread_more, with_copy}
use Rattle.nl_recover_pointers.specs.declared.spare.PageCopy.{PageCopy}
use Rattle.nl_recover_pointers.specs.declared.spare.Spread.{Spread}
use Rattle.nl_recover_pointers.specs.declared.spare.Spread.TheVariants.{Nowhere, In, Several}
use Rattle.nl_recover_pointers.proofs.Keys.{number_is, pair_test}

-- ---- spreads

noted : (a s b t block : ℕ) (old new : BTreeMap PlaceKey Spread) (test : Bool) → (a == b && s == t) ≡ test
    → spread_at (get pair_cmp new (place_key b t)) ≡ spread_at (cond test (Some (spread_more (spread_at (get pair_cmp old (place_key a s))) block)) (get pair_cmp old (place_key b t)))
    → spread_at (get pair_cmp new (place_key b t)) ≡ cond test (spread_more (spread_at (get pair_cmp old (place_key b t))) block) (spread_at (get pair_cmp old (place_key b t)))
noted a s b t block old new true is e =
    let parts = and_parts (a == b) (s == t) is in
    e ∙ (λ i. spread_more (spread_at (get pair_cmp old (place_key (number_is a b parts.0 i) (number_is s t parts.1 i)))) block)
noted a s b t block old new false is e = e

-- one more page among the copies, as every key sees it
pub spreads_more : (q : PageCopy) (old new : BTreeMap PlaceKey Spread)
    → Updates pair_cmp old new (place_key q.address q.stamp) (Some (spread_more (spread_at (get pair_cmp old (place_key q.address q.stamp))) q.block))
    → (b t : ℕ) → spread_at (get pair_cmp new (place_key b t)) ≡ with_copy b t (spread_at (get pair_cmp old (place_key b t))) q
spreads_more q old new updates b t =
    noted q.address q.stamp b t q.block old new (q.address == b && q.stamp == t) refl
    (ap spread_at (updates.0 (place_key b t) ∙ ap (λ x. cond x (Some (spread_more (spread_at (get pair_cmp old (place_key q.address q.stamp))) q.block)) (get pair_cmp old (place_key b t))) (pair_test q.address q.stamp b t)))

in_same : (other b block : ℕ) (test : Bool) → (other == b) ≡ test → has_other block (cond test (In other) Several) ≡ (not (other == block) || not (b == block))
in_same other b block true is = grind (arith, nat_tests, number_is other b is)
in_same other b block false is = grind (arith, nat_tests)

more_other : (block b : ℕ) (spread : Spread) → has_other block (spread_more spread b) ≡ (has_other block spread || not (b == block))
more_other block b Nowhere = refl
more_other block b (In other) = in_same other b block (other == b) refl
more_other block b Several = refl

abbrev is_elsewhere : ℕ → ℕ → ℕ → PageCopy → Bool
is_elsewhere block a s q = not (q.block == block) && (q.address == a && q.stamp == s)

other_after : (block a s : ℕ) (spread : Spread) (pages : List PageCopy) → has_other block (fold (with_copy a s) spread pages) ≡ (has_other block spread || list_any (is_elsewhere block a s) pages)
other_after block a s spread [] = none (has_other block spread)
  where
    none : (b : Bool) → b ≡ (b || false)
    none true = refl
    none false = refl
other_after block a s spread (q ∷ pages) = by (q.address == a && q.stamp == s) (other_after block a s (spread_more spread q.block) pages) (other_after block a s spread pages)
  where
    grouped : (x y z : Bool) → ((x || y) || z) ≡ (x || ((y && true) || z))
    grouped true y z = refl
    grouped false true z = refl
    grouped false false z = refl

    skipped : (x y z : Bool) → (x || z) ≡ (x || ((y && false) || z))
    skipped x true z = refl
    skipped x false z = refl

    by : (b : Bool) → has_other block (fold (with_copy a s) (spread_more spread q.block) pages) ≡ (has_other block (spread_more spread q.block) || list_any (is_elsewhere block a s) pages)
        → has_other block (fold (with_copy a s) spread pages) ≡ (has_other block spread || list_any (is_elsewhere block a s) pages)
        → has_other block (fold (with_copy a s) (cond b (spread_more spread q.block) spread) pages) ≡ (has_other block spread || ((not (q.block == block) && b) || list_any (is_elsewhere block a s) pages))
    by true more same = more ∙ (ap (λ x. x || list_any (is_elsewhere block a s) pages) (more_other block q.block spread) ∙ grouped (has_other block spread) (not (q.block == block)) (list_any (is_elsewhere block a s) pages))
    by false more same = same ∙ skipped (has_other block spread) (not (q.block == block)) (list_any (is_elsewhere block a s) pages)

-- a copy lies in another block exactly where the spread has one
other_copy : (pages : List PageCopy) (block : ℕ) (r : PageCopy) → list_any (λ q. not (q.block == block) && is_copy q r) pages ≡ has_other block (spread_among pages r.address r.stamp)
unfolding spread_among
other_copy pages block r = sym (other_after block r.address r.stamp Nowhere pages)

-- ---- blocks

-- whether a page stands alone in a block
abbrev pub stands_alone : List PageCopy → ℕ → PageCopy → Bool
stands_alone pages block r = is_alone_in block (spread_among pages r.address r.stamp) r

one_page : (pages : List PageCopy) (block : ℕ) (r : PageCopy) → (not (r.block == block && r.is_needed) || list_any (λ q. not (q.block == block) && is_copy q r) pages) ≡ not (stands_alone pages block r)
one_page pages block r = ap (λ x. not (r.block == block && r.is_needed) || x) (other_copy pages block r) ∙ by (r.block == block) refl r.is_needed
  where
    spread : Spread
    spread = spread_among pages r.address r.stamp

    double : (x : Bool) → x ≡ not (not x)
    double true = refl
    double false = refl

    by : (here : Bool) → (r.block == block) ≡ here → (needed : Bool) → (not (here && needed) || has_other block (spread_among pages r.address r.stamp)) ≡ not (here && (needed && not (has_other r.block (spread_among pages r.address r.stamp))))
    by true is true = ap (λ b. has_other b (spread_among pages r.address r.stamp)) (sym (number_is r.block block is)) ∙ double (has_other r.block (spread_among pages r.address r.stamp))
    by true is false = refl
    by false is needed = refl

each_page : (p q : PageCopy → Bool) → ((r : PageCopy) → p r ≡ not (q r)) → (pages : List PageCopy) → list_all p pages ≡ not (list_any q pages)
each_page p q same [] = refl
each_page p q same (r ∷ pages) = (λ i. same r i && each_page p q same pages i) ∙ by (q r) (list_any q pages)
  where
    by : (x y : Bool) → (not x && not y) ≡ not (x || y)
    by true y = refl
    by false y = refl

spare_by_spreads : (pages : List PageCopy) (block : ℕ) → is_spare_among pages block ≡ not (list_any (stands_alone pages block) pages)
spare_by_spreads pages block =
    each_page (λ r. not (r.block == block && r.is_needed) || list_any (λ q. not (q.block == block) && is_copy q r) pages) (stands_alone pages block) (one_page pages block) pages

pub each_block : (f : ℕ → Bool) (first : ℕ) (marks : List Bool) → ((i : ℕ) → i < length marks → get_or marks i false ≡ not (f (first + i))) → not (list_all (λ mark. mark) marks) ≡ list_any f (range_with_len first (length marks))
each_block f first [] each = refl
each_block f first (m ∷ marks) each =
    let here : m ≡ not (f first) = each 0 (omega arith) ∙ ap (λ n. not (f n)) (omega arith) in
    let rest = each_block f (first + 1) marks (λ i within. each (suc i) (omega (arith, within)) ∙ ap (λ n. not (f n)) (omega arith)) in
    by m (list_all (λ mark. mark) marks)
    ∙ ((λ i. not (here i) || rest i) ∙ ap (λ x. x || list_any f (range_with_len (first + 1) (length marks))) (double (f first)))
  where
    by : (x y : Bool) → not (x && y) ≡ (not x || not y)
    by true y = refl
    by false y = refl

    double : (x : Bool) → not (not x) ≡ x
    double true = refl
    double false = refl

-- some block is not marked exactly where one can be erased
pub spare_by_marks : (pages : List PageCopy) (first count : ℕ) (marks : List Bool) → length marks ≡ count → ((i : ℕ) → i < count → get_or marks i false ≡ list_any (stands_alone pages (first + i)) pages)
    → not (list_all (λ mark. mark) marks) ≡ has_spare first count pages
unfolding has_spare
spare_by_marks pages first count marks same each =
    each_block (is_spare_among pages) first marks
    (λ i within. each i (omega (arith, within, same)) ∙ (double (list_any (stands_alone pages (first + i)) pages) ∙ ap not (sym (spare_by_spreads pages (first + i)))))
    ∙ ap (λ n. list_any (is_spare_among pages) (range_with_len first n)) same
  where
    double : (x : Bool) → x ≡ not (not x)
    double true = refl
    double false = refl

-- ---- blocks with no needed page

-- by no copies a page stands alone where it is needed
none_less : (spread : PageCopy → Spread) (block : ℕ) (pages : List PageCopy) → list_any (λ r. is_alone_in block Nowhere r) pages ≡ false → list_any (λ r. is_alone_in block (spread r) r) pages ≡ false
none_less spread block [] none = refl
none_less spread block (r ∷ pages) none =
    let parts = or_parts (is_alone_in block Nowhere r) (list_any (λ r. is_alone_in block Nowhere r) pages) none in
    λ i. by (r.block == block) r.is_needed (not (has_other r.block (spread r))) parts.0 i || none_less spread block pages parts.1 i
  where
    by : (x y z : Bool) → (x && (y && true)) ≡ false → (x && (y && z)) ≡ false
    by true true z h = absurd (true≢false h)
    by true false z h = refl
    by false y z h = refl

spare_unmarked : (pages : List PageCopy) (block : ℕ) → not (list_any (λ r. is_alone_in block Nowhere r) pages) ≡ true → is_spare_among pages block ≡ true
spare_unmarked pages block unmarked =
    spare_by_spreads pages block
    ∙ not_from_false (list_any (stands_alone pages block) pages)
    (none_less (λ r. spread_among pages r.address r.stamp) block pages (not-true (list_any (λ r. is_alone_in block Nowhere r) pages) unmarked))

some_any : (f g : ℕ → Bool) → ((n : ℕ) → f n ≡ true → g n ≡ true) → (ns : List ℕ) → list_any f ns ≡ true → list_any g ns ≡ true
some_any f g passes [] any = any
some_any f g passes (n ∷ ns) any =
    ⊎_elim (λ here. or_left (g n) (list_any g ns) (passes n here)) (λ later. or_right (g n) (list_any g ns) (some_any f g passes ns later)) (or_cases (f n) (list_any f ns) any)

-- some block is not marked by no copies only where one can be erased
pub spare_by_need : (pages : List PageCopy) (first count : ℕ) (marks : List Bool) → length marks ≡ count
    → ((i : ℕ) → i < count → get_or marks i false ≡ list_any (λ r. is_alone_in (first + i) Nowhere r) pages) → not (list_all (λ mark. mark) marks) ≡ true → has_spare first count pages ≡ true
unfolding has_spare
spare_by_need pages first count marks same each unmarked =
    some_any (λ block. not (list_any (λ r. is_alone_in block Nowhere r) pages)) (is_spare_among pages) (spare_unmarked pages) (range_with_len first count)
    (sym (each_block (λ block. not (list_any (λ r. is_alone_in block Nowhere r) pages)) first marks
    (λ i within. each i (omega (arith, within, same)) ∙ double (list_any (λ r. is_alone_in (first + i) Nowhere r) pages))
    ∙ ap (λ n. list_any (λ block. not (list_any (λ r. is_alone_in block Nowhere r) pages)) (range_with_len first n)) same)
    ∙ unmarked)
  where
    double : (x : Bool) → x ≡ not (not x)
    double true = refl
    double false = refl

-- no copy is known where no spread is
pub nowhere : (spreads : BTreeMap PlaceKey Spread) → spreads.entries ≡ [] → (pages : List PageCopy) (block : ℕ)
    → list_any (λ r. is_alone_in block (spread_at (get pair_cmp spreads (place_key r.address r.stamp))) r) pages ≡ list_any (λ r. is_alone_in block Nowhere r) pages
nowhere spreads none pages block =
    ap (λ (es : List (PlaceKey × Spread)). list_any (λ r. is_alone_in block (spread_at (lookup (λ k. is_eq (pair_cmp (place_key r.address r.stamp) k)) es)) r) pages) none

-- the spreads of these pages tell which stand alone
pub by_spreads : (pages : List PageCopy) (spreads : BTreeMap PlaceKey Spread) → AreSpreads pages spreads → (block : ℕ) (some : List PageCopy)
    → list_any (λ r. is_alone_in block (spread_at (get pair_cmp spreads (place_key r.address r.stamp))) r) some ≡ list_any (stands_alone pages block) some
by_spreads pages spreads are block [] = refl
by_spreads pages spreads are block (r ∷ some) = λ i. is_alone_in block (are r.address r.stamp i) r || by_spreads pages spreads are block some i
