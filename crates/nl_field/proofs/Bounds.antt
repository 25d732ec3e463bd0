-- The bounds on the numbers of a legal volume.
use Rattle.std.proofs.Common.{◌≡◌, ◌≤◌, ◌<◌, ℕ, ◌+◌, ◌-◌, ◌*◌, ◌/◌, IsTrue, true, ◌&&◌, nat_le, mul-le-mul_right, le_of_mul-le-mul_right, add-mul, ap, sym, subst, ◌∙◌, arith}
use Rattle.std.specs.Int.{div_ceil}
use Rattle.std.proofs.lemmas.Bool.{and_from, and_parts, le-leb, leb-true}
use Rattle.std.proofs.lemmas.Grind.{div_ceil_times}
use Rattle.nl_field.specs.Numbers.{ShapeBounds, is_legal, shape_for}
use Rattle.nl_field.specs.declared.shape.Shape.{Shape}

pub record IsLegal (blocks pages : ℕ) : Type 0 where
  pub least_blocks : 32 ≤ blocks
  pub most_blocks : blocks ≤ 4096
  pub least_pages : 32 ≤ pages
  pub most_pages : pages ≤ 256
  pub all_pages : blocks * pages ≤ 262144

pub legal_parts : (blocks pages : ℕ) → IsTrue (is_legal blocks pages) → IsLegal blocks pages
legal_parts blocks pages legal =
    let a = and_parts (nat_le 32 blocks && nat_le blocks 4096 && nat_le 32 pages && nat_le pages 256) (nat_le (blocks * pages) 262144) legal in
    let b = and_parts (nat_le 32 blocks && nat_le blocks 4096 && nat_le 32 pages) (nat_le pages 256) a.0 in
    let d = and_parts (nat_le 32 blocks && nat_le blocks 4096) (nat_le 32 pages) b.0 in
    let e = and_parts (nat_le 32 blocks) (nat_le blocks 4096) d.0 in
    record {
      least_blocks = leb-true 32 blocks e.0;
      most_blocks = leb-true blocks 4096 e.1;
      least_pages = leb-true 32 pages d.1;
      most_pages = leb-true pages 256 b.1;
      all_pages = leb-true (blocks * pages) 262144 a.1;
    }

-- the addresses leave eight blocks and more
enough : (total filled pages : ℕ) → 32 * pages ≤ total → 32 ≤ pages → filled < 67 + div_ceil (total / 16) 16 + total / 32 + pages → filled + 8 * pages ≤ total
enough total filled pages many least few = omega arith

within : (total left filled pages : ℕ) → 32 * pages ≤ total → 32 ≤ pages → filled < 67 + div_ceil (total / 16) 16 + total / 32 + pages
    → total ≡ left + (filled + 8 * pages) → total / 16 ≤ (left - 160) + 1
within total left filled pages many least few split = omega arith

room : (total left filled pages : ℕ) → 32 * pages ≤ total → 32 ≤ pages → filled < 67 + div_ceil (total / 16) 16 + total / 32 + pages
    → total ≡ left + (filled + 8 * pages) → 160 ≤ left
room total left filled pages many least few split = omega arith

pub bounds : (blocks pages : ℕ) → IsTrue (is_legal blocks pages) → ShapeBounds (shape_for blocks pages)
unfolding shape_for
bounds blocks pages legal =
    let p = legal_parts blocks pages legal in
    let total = blocks * pages in
    let vaddrs = 67 + div_ceil (total / 16) 16 + total / 32 in
    let filled = div_ceil vaddrs pages in
    let many : 32 * pages ≤ total = mul-le-mul_right pages p.least_blocks in
    let some : 1 ≤ pages = omega (arith, p.least_pages) in
    let parts = div_ceil_times vaddrs pages some in
    let inodes = div_ceil_times (total / 16) 16 (omega arith) in
    let few : filled * pages + 8 * pages ≤ total = enough total (filled * pages) pages many p.least_pages parts.1 in
    let sum : (filled + 8) * pages ≡ filled * pages + 8 * pages = add-mul filled 8 pages in
    let four : (filled + 4) * pages ≡ filled * pages + 4 * pages = add-mul filled 4 pages in
    let fits : filled + 8 ≤ blocks = le_of_mul-le-mul_right {k = pages} (omega (arith, few, sum)) some in
    let left = blocks - (filled + 4) - 4 in
    let whole : blocks ≡ left + (filled + 8) = omega (arith, fits) in
    let split : total ≡ left * pages + (filled * pages + 8 * pages) = ap (λ (k : ℕ). k * pages) whole ∙ add-mul left (filled + 8) pages ∙ ap (λ (k : ℕ). left * pages + k) sum in
    let rest : blocks - (filled + 4) ≡ left + 4 = omega (arith, fits) in
    let spread : (blocks - (filled + 4)) * pages ≡ left * pages + 4 * pages = ap (λ (k : ℕ). k * pages) rest ∙ add-mul left 4 pages in
    let at_least : 160 ≤ left * pages = room total (left * pages) (filled * pages) pages many p.least_pages parts.1 split in
    record {
      least_blocks = p.least_blocks;
      most_blocks = p.most_blocks;
      least_pages = p.least_pages;
      most_pages = p.most_pages;
      all_pages = p.all_pages;
      some_nodes = omega (arith, many, p.least_pages);
      places = omega (arith, inodes.0);
      few_places = omega (arith, inodes.1);
      some_meta = omega (arith, many, p.least_pages);
      addresses = omega arith;
      addresses_fit = omega (arith, parts.0, four);
      some_blocks = at_least_one vaddrs pages filled parts.0 (omega arith);
      segments = omega (arith, fits);
      data_pages = omega (arith, spread, at_least);
      nodes_within_cap = within total (left * pages) (filled * pages) pages many p.least_pages parts.1 split;
    }
  where
    at_least_one : (v p f : ℕ) → v ≤ f * p → 67 ≤ v → 5 ≤ f + 4
    at_least_one v p f h g = positive f (λ e. none v p f h g e)
      where
        positive : (f : ℕ) → (f ≡ 0 → ⊥) → 5 ≤ f + 4
        positive f some = omega (arith, some)

        none : (v p f : ℕ) → v ≤ f * p → 67 ≤ v → f ≡ 0 → ⊥
        none v p f h g e = let z : f * p ≡ 0 * p = ap (λ (k : ℕ). k * p) e in omega (arith, h, g, z)

-- the shape whose pages of nodes and whose filled blocks are these
abbrev pub shape_with : (blocks pages inode_pages filled : ℕ) → Shape
shape_with blocks pages inode_pages filled =
    record {
      blocks = blocks;
      pages = pages;
      nodes = blocks * pages / 16;
      inode_pages = inode_pages;
      meta = blocks * pages / 32;
      vaddrs = 67 + inode_pages + blocks * pages / 32;
      vblocks = filled + 4;
      pblocks = blocks - (filled + 4);
      cap = (blocks - (filled + 4) - 4) * pages - 160;
    }

pub bounds_with : (blocks pages inode_pages filled : ℕ) → IsLegal blocks pages → inode_pages ≡ div_ceil (blocks * pages / 16) 16 → filled ≡ div_ceil (67 + inode_pages + blocks * pages / 32) pages
    → ShapeBounds (shape_with blocks pages inode_pages filled)
unfolding shape_for
bounds_with blocks pages inode_pages filled p ip fp =
    let legal : is_legal blocks pages ≡ true = and_from _ _ (and_from _ _ (and_from _ _ (and_from _ _ (le-leb 32 blocks p.least_blocks) (le-leb blocks 4096 p.most_blocks)) (le-leb 32 pages p.least_pages)) (le-leb pages 256 p.most_pages)) (le-leb (blocks * pages) 262144 p.all_pages) in
    let whole : filled ≡ div_ceil (67 + div_ceil (blocks * pages / 16) 16 + blocks * pages / 32) pages = fp ∙ ap (λ (k : ℕ). div_ceil (67 + k + blocks * pages / 32) pages) ip in
    let same : shape_for blocks pages ≡ shape_with blocks pages inode_pages filled = λ i. shape_with blocks pages (sym ip i) (sym whole i) in
    subst ShapeBounds same (bounds blocks pages legal)
