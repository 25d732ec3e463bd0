-- When a segment of virtual pages has a spare block.
use Rattle.std.proofs.Common.{◌≡◌, ℕ, zero, suc, ◌≤◌, ◌<◌, Bool, true, false, not, ◌&&◌, ◌||◌, List, map, filter, find, refl, ap, subst, Option, Some, None, is_some, ◌⊎◌, inl, inr, arith, ◌≢◌, ◌==◌, length, IsSome, ◌/◌}
use Rattle.std.proofs.lemmas.Bool.{not-false, cases_eq, and_from, not_from_false, not-true, eqb-true, eqb-false, eq-eqb, ne_eqb, or_left, or_right}
use Rattle.std.specs.List.{list_any, list_all, range_with_len}
use Rattle.nl_field.specs.Medium.{Readable, stamp_on, virtual_pages, shape_of_image, address_on}
use Rattle.nl_field.specs.Page.{Image}
use Rattle.nl_field.specs.Space.{virtual_spare, has_greatest_stamp, spare_block}
use Rattle.nl_field.specs.Members.{Has}
use Rattle.nl_meta.proofs.Lists.{find-none, any-none, each-all, any_member, member_any, member-find, find-some, member-range, range-member, filter-member, map-member}
use Rattle.nl_meta.proofs.Pairs.{is_not, itself}
use Rattle.nl_spec_image.specs.Fresh.{SpareByCopies, SpareByFewPages}
use Rattle.nl_spec_image.proofs.Counts.{one_less}
use Rattle.nl_spec_image.proofs.Sums.{length_mapped}

-- a list in which all numbers below a bound stand is not shorter
pub all_stand : (k : ℕ) (ms : List ℕ) → ((b : ℕ) → b < k → Has ms b) → k ≤ length ms
all_stand zero ms all = omega arith
all_stand (suc k) ms all =
    let f = one_less k ms (all k (omega arith)) in
    let rest = all_stand k (filter (is_not k) ms) (λ b h. filter-member (is_not k) ms b (all b (omega (arith, h))) (not_from_false _ (ne_eqb b k (λ e. itself b k e h)))) in
    omega (arith, f, rest)

-- ---- spare blocks

module _ (image : Image) where
  abbrev all_virtual : List Readable
  all_virtual = virtual_pages image

  abbrev has_copy : ℕ → Readable → Bool
  has_copy block r = list_any (λ q. not (q.page / image.pages == block) && (address_on q == address_on r && stamp_on q == stamp_on r)) all_virtual

  abbrev is_free_of : ℕ → Bool
  is_free_of block = list_all (λ r. not (r.page / image.pages == block && has_greatest_stamp all_virtual r) || has_copy block r) all_virtual

  spare_is : (block : ℕ) → block < (shape_of_image image).vblocks → is_free_of block ≡ true → IsSome (virtual_spare image)
  unfolding virtual_spare spare_block
  spare_is block below e =
      let f = find-some is_free_of (range_with_len 0 (shape_of_image image).vblocks) block (range-member block 0 _ (omega arith) (omega (arith, below))) e in
      ap is_some f.1

  each_free : (block : ℕ) → ((r : Readable) → Has all_virtual r → r.page / image.pages ≡ block → has_copy block r ≡ true) → is_free_of block ≡ true
  each_free block copies = each-all _ all_virtual (λ r m. by r m (cases_eq (r.page / image.pages) block))
    where
      by : (r : Readable) → Has all_virtual r → (r.page / image.pages ≡ block) ⊎ (r.page / image.pages ≡ block → ⊥) → (not (r.page / image.pages == block && has_greatest_stamp all_virtual r) || has_copy block r) ≡ true
      by r m (inl h) = or_right (not (r.page / image.pages == block && has_greatest_stamp all_virtual r)) _ (copies r m h)
      by r m (inr far) = or_left _ _ (ap (λ t. not (t && has_greatest_stamp all_virtual r)) (ne_eqb _ _ far))

pub spare_by_copies : SpareByCopies
spare_by_copies image block below copies = spare_is image block below (each_free image block (λ r m h. by r m (copies r m h)))
  where
    by : (r : Readable) → Has (virtual_pages image) r → (q : Readable) × Has (virtual_pages image) q × (q.page / image.pages ≢ block) × (address_on q ≡ address_on r) × (stamp_on q ≡ stamp_on r) → has_copy image block r ≡ true
    by r m c =
        member_any (λ q. not (q.page / image.pages == block) && (address_on q == address_on r && stamp_on q == stamp_on r)) (virtual_pages image) c.0 c.1
        (and_from _ _ (not_from_false _ (ne_eqb _ _ c.2)) (and_from _ _ (eq-eqb _ _ c.3) (eq-eqb _ _ c.4)))

pub spare_by_few_pages : SpareByFewPages
spare_by_few_pages image few = by (find (λ b. is_empty b) (range_with_len 0 (shape_of_image image).vblocks)) refl
  where
    block_of : Readable → ℕ
    block_of r = r.page / image.pages

    is_empty : ℕ → Bool
    is_empty b = not (list_any (λ r. block_of r == b) (virtual_pages image))

    stands : (b : ℕ) → is_empty b ≡ false → Has (map block_of (virtual_pages image)) b
    stands b e =
        let q = any_member (λ r. block_of r == b) (virtual_pages image) (not-false _ e) in
        subst (λ (k : ℕ). Has (map block_of (virtual_pages image)) k) (eqb-true (block_of q.0) b q.2) (map-member block_of (virtual_pages image) q.0 q.1)

    itself_less : (a b : ℕ) → a < b → b ≤ a → ⊥
    itself_less a b h e = omega arith

    none_in : (b : ℕ) → is_empty b ≡ true → (r : Readable) → Has (virtual_pages image) r → block_of r ≡ b → has_copy image b r ≡ true
    none_in b e r m h = absurd (eqb-false (block_of r) b (any-none (λ r. block_of r == b) (virtual_pages image) (not-true _ e) r m) h)

    by : (o : Option ℕ) → find (λ b. is_empty b) (range_with_len 0 (shape_of_image image).vblocks) ≡ o → IsSome (virtual_spare image)
    by (Some b) e =
        let f = member-find (λ b. is_empty b) (range_with_len 0 (shape_of_image image).vblocks) b e in
        spare_is image b (omega (arith, (member-range b 0 _ f.0).1)) (each_free image b (none_in b f.1))
    by None e =
        absurd (itself_less (length (virtual_pages image)) (shape_of_image image).vblocks few
        (subst (λ (k : ℕ). (shape_of_image image).vblocks ≤ k) (length_mapped block_of (virtual_pages image))
        (all_stand (shape_of_image image).vblocks (map block_of (virtual_pages image))
        (λ b h. stands b (find-none (λ b. is_empty b) (range_with_len 0 (shape_of_image image).vblocks) e b (range-member b 0 _ (omega arith) (omega (arith, h))))))))
