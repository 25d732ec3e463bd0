-- The numbers of a shape that a segment rests on.
use Rattle.std.proofs.Common.{◌≡◌, inl, inr, ℕ, zero, suc, ◌+◌, ◌-◌, ◌*◌, ◌/◌, ◌^◌, ◌<◌, ◌≤◌, true, false, Option, None, length, replicate, refl, sym, ◌∙◌, ap, subst, arith, mul-le-mul_right, nat_le, count_by, cond, get_or}
use Rattle.std.proofs.lemmas.Bool.{cond-true, false≢true, le-leb}
use Rattle.std.proofs.lemmas.List.Sums.{sum_by-cons}
use Rattle.nl_field.specs.Numbers.{ShapeBounds}
use Rattle.nl_field.proofs.Bounds.{legal_parts}
use Rattle.nl_field.specs.declared.shape.Shape.{Shape}
use Rattle.std.proofs.lemmas.List.{length-replicate}
use Rattle.std.proofs.lemmas.Option.{none-some}
use Rattle.nl_blocks.specs.Table.{block_at, free_count, is_free, new_row, new_table, row_at}
use Rattle.nl_nand.specs.declared.geometry.Geometry.{Geometry}
use Rattle.nl_nand.specs.Nand.{IsLegal}
use Rattle.nl_vseg.specs.Layout.{IsLayout, LayoutHasUnmapped, block_is_free, bound, room, shown}
use Rattle.nl_vseg.specs.Segment.{is_taken_as_erased, wear_of}
use Rattle.nl_vseg.specs.declared.place.Place.{Place}
use Rattle.nl_blocks.proofs.UsedLaws.{used-full}
use Rattle.nl_vseg.specs.Used.{OpenBlocksAreRisen, is_open_state, used_of}
use Rattle.nl_vseg.proofs.Places.{all_none}
use Rattle.nl_vseg.proofs.Using.{free_shut}
use Rattle.nl_vseg.proofs.Views.{taken_blank, wear_at}

-- the pages of the segment are counted by a `u32`
pub few_pages : (shape : Shape) → ShapeBounds shape → shape.vblocks * shape.pages < 2 ^ 32
few_pages shape is =
    let few : shape.vblocks ≤ shape.blocks = omega (arith, is.segments) in
    let le : shape.vblocks * shape.pages ≤ shape.blocks * shape.pages = mul-le-mul_right shape.pages few in
    omega (arith, le, is.all_pages)

pub all_free : (count size : ℕ) → count_by is_free (replicate count (new_row size)) ≡ count
all_free zero size = refl
all_free (suc count) size =
    let rest : count_by is_free (replicate count (new_row size)) ≡ count = all_free count size in
    let e : count_by is_free (replicate (suc count) (new_row size)) ≡ 1 + count_by is_free (replicate count (new_row size)) = sum_by-cons (λ x. cond (is_free x) 1 0) (new_row size) (replicate count (new_row size)) in
    omega (arith, e, rest)

-- a segment of a shape, of which no address was written
pub new_segment : (shape : Shape) → ShapeBounds shape → IsLayout (record { places = replicate shape.vaddrs None; table = new_table 0 shape.vblocks shape.pages; soiled = replicate shape.vblocks false; active = 0; used = shape.pages })
new_segment shape room =
    let places : length {A = Option Place} (replicate shape.vaddrs None) ≡ shape.vaddrs = length-replicate shape.vaddrs None in
    let blocks : length (replicate shape.vblocks (new_row shape.pages)) ≡ shape.vblocks = length-replicate shape.vblocks (new_row shape.pages) in
    let soiled : length (replicate shape.vblocks false) ≡ shape.vblocks = length-replicate shape.vblocks false in
    let more = room.some_blocks in
    record {
      first = refl;
      some = let some = room.least_pages in omega (arith, some);
      numbers = subst (λ n. n * shape.pages < 2 ^ 32) (sym blocks) (few_pages shape room);
      marks = soiled ∙ sym blocks;
      few = subst (λ n. length {A = Option Place} (replicate shape.vaddrs None) + 4 * shape.pages ≤ n * shape.pages) (sym blocks) (subst (λ n. n + 4 * shape.pages ≤ shape.vblocks * shape.pages) (sym places) room.addresses_fit);
      active_is = omega (arith, blocks, more);
      used_fits = omega arith;
      taken = λ lt. absurd (omega (arith, lt));
      places_are = record {
        each = λ v place named. absurd (none-some place (sym (all_none shape.vaddrs v) ∙ named));
      };
      in_use = λ v place named. absurd (none-some place (sym (all_none shape.vaddrs v) ∙ named));
    }

-- the pages of a medium are counted by a `u32`
pub medium_fits : (geometry : Geometry) → IsLegal geometry → geometry.blocks * geometry.pages < 2 ^ 32
medium_fits geometry (inl legal) = let p = (legal_parts geometry.blocks geometry.pages legal).all_pages in omega (arith, p)
medium_fits geometry (inr none) = subst (λ (n : Geometry). n.blocks * n.pages < 2 ^ 32) (sym none) (omega arith)

pub new_spare : (shape : Shape) → ShapeBounds shape → LayoutHasUnmapped (record { places = replicate shape.vaddrs None; table = new_table 0 shape.vblocks shape.pages; soiled = replicate shape.vblocks false; active = 0; used = shape.pages })
new_spare shape roomy =
    let blocks : length (replicate shape.vblocks (new_row shape.pages)) ≡ shape.vblocks = length-replicate shape.vblocks (new_row shape.pages) in
    let more = roomy.some_blocks in
    record { block = 0; within = omega (arith, blocks, more); unmapped = λ v place named. absurd (none-some place (sym (all_none shape.vaddrs v) ∙ named)) }

one_less : (n p : ℕ) → 1 ≤ n → (n - 1) * p + p ≡ n * p
one_less zero p some = absurd (omega (arith, some))
one_less (suc n) p some =
    let e : suc n - 1 ≡ n = omega arith in
    subst (λ k. k * p + p ≡ suc n * p) (sym e) (omega arith)

pub new_room : (shape : Shape) → ShapeBounds shape
    → room (record { places = replicate shape.vaddrs None; table = new_table 0 shape.vblocks shape.pages; soiled = replicate shape.vblocks false; active = 0; used = shape.pages }) + shape.pages ≡ shape.vblocks * shape.pages
new_room shape roomy =
    let free : free_count (new_table 0 shape.vblocks shape.pages) ≡ shape.vblocks = all_free shape.vblocks shape.pages in
    let more = roomy.some_blocks in
    let some_is : nat_le 1 (free_count (new_table 0 shape.vblocks shape.pages)) ≡ true = le-leb 1 (free_count (new_table 0 shape.vblocks shape.pages)) (omega (arith, free, more)) in
    let e : cond (nat_le 1 (free_count (new_table 0 shape.vblocks shape.pages))) ((shape.pages - shape.pages) + (free_count (new_table 0 shape.vblocks shape.pages) - 1) * shape.pages) 0
    ≡ (shape.pages - shape.pages) + (free_count (new_table 0 shape.vblocks shape.pages) - 1) * shape.pages =
    cond-true (nat_le 1 (free_count (new_table 0 shape.vblocks shape.pages))) ((shape.pages - shape.pages) + (free_count (new_table 0 shape.vblocks shape.pages) - 1) * shape.pages) 0 some_is in
    let e2 = subst (λ n. (shape.pages - shape.pages) + (n - 1) * shape.pages + shape.pages ≡ shape.vblocks * shape.pages) (sym free) (omega (arith, one_less shape.vblocks shape.pages (omega (arith, more)))) in
    ap (λ n. n + shape.pages) e ∙ e2

pub new_bound : (shape : Shape) → bound (record { places = replicate shape.vaddrs None; table = new_table 0 shape.vblocks shape.pages; soiled = replicate shape.vblocks false; active = 0; used = shape.pages }) ≡ shape.vblocks * shape.pages
new_bound shape = ap (λ n. n * shape.pages) (length-replicate shape.vblocks (new_row shape.pages))

new_free : (shape : Shape) (block : ℕ) → block_is_free (new_table 0 shape.vblocks shape.pages) block ≡ true
new_free shape block = at shape.vblocks (block - 0)
  where
    at : (n k : ℕ) → is_free (row_at (replicate n (new_row shape.pages)) k) ≡ true
    at zero k = refl
    at (suc n) zero = refl
    at (suc n) (suc k) = at n k

-- no block is open
new_shut : (shape : Shape) (block : ℕ) → is_open_state (block_at (new_table 0 shape.vblocks shape.pages) block).state ≡ false
new_shut shape block = free_shut (block_at (new_table 0 shape.vblocks shape.pages) block).state (new_free shape block)

pub new_used : (shape : Shape) → used_of (new_table 0 shape.vblocks shape.pages) 0 ≡ shape.pages
new_used shape = used-full is_open_state (new_table 0 shape.vblocks shape.pages) 0 (new_shut shape 0)

pub new_rising : (shape : Shape) → OpenBlocksAreRisen (new_table 0 shape.vblocks shape.pages)
new_rising shape = record { each = λ block has is. absurd (false≢true (sym (new_shut shape block) ∙ is)) }

new_clean : (count block : ℕ) → get_or (replicate count false) block false ≡ false
new_clean zero block = refl
new_clean (suc count) zero = refl
new_clean (suc count) (suc block) = new_clean count block

-- all its pages are taken as erased
pub new_blank : (shape : Shape) → ShapeBounds shape → (p : ℕ)
    → p < bound (record { places = replicate shape.vaddrs None; table = new_table 0 shape.vblocks shape.pages; soiled = replicate shape.vblocks false; active = 0; used = shape.pages })
    → is_taken_as_erased (shown (record { places = replicate shape.vaddrs None; table = new_table 0 shape.vblocks shape.pages; soiled = replicate shape.vblocks false; active = 0; used = shape.pages })) p ≡ true
new_blank shape room p below =
    taken_blank (record { places = replicate shape.vaddrs None; table = new_table 0 shape.vblocks shape.pages; soiled = replicate shape.vblocks false; active = 0; used = shape.pages }) p
    (below, inr (new_free shape (p / shape.pages), new_clean shape.vblocks (p / shape.pages)))

-- no block of a new segment was erased
pub new_wear : (shape : Shape) (block : ℕ)
    → wear_of (shown (record { places = replicate shape.vaddrs None; table = new_table 0 shape.vblocks shape.pages; soiled = replicate shape.vblocks false; active = 0; used = shape.pages })) block ≡ 0
new_wear shape block = wear_at (new_table 0 shape.vblocks shape.pages) block refl ∙ at shape.vblocks (block - 0)
  where
    at : (n k : ℕ) → (row_at (replicate n (new_row shape.pages)) k).wear ≡ 0
    at zero k = refl
    at (suc n) zero = refl
    at (suc n) (suc k) = at n k
