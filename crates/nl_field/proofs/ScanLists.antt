-- A scan's list of an image tells what the image has.
use Rattle.std.proofs.Common.{◌≡◌, ℕ, Bool, true, false, not, ◌&&◌, ◌||◌, cond, List, [], ◌∷◌, map, filter, find, refl, ap, ◌∙◌, Option, Some, None, option_map, ◌==◌, ◌/◌, nat_lt, nat_le}
use Rattle.std.specs.List.{list_any, list_all, range_with_len}
use Rattle.nl_field.specs.Page.{Image}
use Rattle.nl_field.specs.Numbers.{shape_for}
use Rattle.nl_field.specs.Medium.{Readable, shape_of_image, stamp_on, address_on, first_physical, is_virtual_rec, is_physical_rec, readable_pages, virtual_pages, physical_pages}
use Rattle.nl_field.specs.Scan.{agrees_below}
use Rattle.nl_field.specs.ScanList.{seen_of, seen_in, on_list, virtual_seen, physical_seen, holds_seen, is_lost_seen, owns_seen, virtual_spare_seen, physical_spare_seen, place_seen, ListsAreOfImages}
use Rattle.nl_field.specs.Space.{PageView, on_image, holds_among, is_among, holds_stamp, is_stale_pointer, owns_name, spare_among, spare_block, has_greatest_among, virtual_spare_among, virtual_spare, physical_spare_among, physical_spare, place_outside, is_outside}
use Rattle.nl_field.specs.SpareRecord.{stamp_of}
use Rattle.nl_field.specs.declared.pointer.Pointer.{Pointer}
use Rattle.nl_field.specs.declared.seen.Seen.{Seen}
use Rattle.nl_field.specs.declared.shape.Shape.{Shape}

module _ {X Y : Type 0} (f : X → Y) where
  any_mapped : (t : Y → Bool) (xs : List X) → list_any t (map f xs) ≡ list_any (λ x. t (f x)) xs
  any_mapped t [] = refl
  any_mapped t (x ∷ xs) = ap (λ b. t (f x) || b) (any_mapped t xs)

  all_mapped : (t : Y → Bool) (xs : List X) → list_all t (map f xs) ≡ list_all (λ x. t (f x)) xs
  all_mapped t [] = refl
  all_mapped t (x ∷ xs) = ap (λ b. t (f x) && b) (all_mapped t xs)

  pub filter_mapped : (t : Y → Bool) (xs : List X) → filter t (map f xs) ≡ map f (filter (λ x. t (f x)) xs)
  filter_mapped t [] = refl
  filter_mapped t (x ∷ xs) = ap (λ (ys : List Y). cond (t (f x)) (f x ∷ ys) ys) (filter_mapped t xs) ∙ by (t (f x))
    where
      by : (b : Bool) → cond b (f x ∷ map f (filter (λ x. t (f x)) xs)) (map f (filter (λ x. t (f x)) xs)) ≡ map f (cond b (x ∷ filter (λ x. t (f x)) xs) (filter (λ x. t (f x)) xs))
      by true = refl
      by false = refl

  find_mapped : (t : Y → Bool) (xs : List X) → find t (map f xs) ≡ option_map f (find (λ x. t (f x)) xs)
  find_mapped t [] = refl
  find_mapped t (x ∷ xs) = ap (λ (o : Option Y). cond (t (f x)) (Some (f x)) o) (find_mapped t xs) ∙ by (t (f x))
    where
      by : (b : Bool) → cond b (Some (f x)) (option_map f (find (λ x. t (f x)) xs)) ≡ option_map f (cond b (Some x) (find (λ x. t (f x)) xs))
      by true = refl
      by false = refl

  -- a spare block of the pages that are told is one of the pages
  spare_mapped : (view : PageView Y) (size first count : ℕ) (is_needed : Y → Bool) (is_copy : Y → Y → Bool) (xs : List X)
      → spare_among view size first count (map f xs) is_needed is_copy
      ≡ spare_among (record { page = λ x. view.page (f x); rec = λ x. view.rec (f x) }) size first count xs (λ x. is_needed (f x)) (λ y x. is_copy (f y) (f x))
  spare_mapped view size first count is_needed is_copy xs =
      λ i. find (λ block. whole block i) (range_with_len first count)
    where
      each : (block : ℕ) (r : Y) → (not (view.page r / size == block && is_needed r) || list_any (λ q. not (view.page q / size == block) && is_copy q r) (map f xs))
          ≡ (not (view.page r / size == block && is_needed r) || list_any (λ q. not (view.page (f q) / size == block) && is_copy (f q) r) xs)
      each block r = ap (λ b. not (view.page r / size == block && is_needed r) || b) (any_mapped (λ q. not (view.page q / size == block) && is_copy q r) xs)

      whole : (block : ℕ) → list_all (λ r. not (view.page r / size == block && is_needed r) || list_any (λ q. not (view.page q / size == block) && is_copy q r) (map f xs)) (map f xs)
          ≡ list_all (λ r. not (view.page (f r) / size == block && is_needed (f r)) || list_any (λ q. not (view.page (f q) / size == block) && is_copy (f q) (f r)) xs) xs
      whole block = (λ i. list_all (λ r. each block r i) (map f xs)) ∙ all_mapped (λ r. not (view.page r / size == block && is_needed r) || list_any (λ q. not (view.page (f q) / size == block) && is_copy (f q) r) xs) xs

module _ (image : Image) where
  abbrev shape : Shape
  shape = shape_of_image image

  abbrev f : Readable → Seen
  f = seen_of image

  pub each : seen_in image ≡ map (seen_of image) (readable_pages image)
  unfolding seen_in agrees_below
  each = refl

  pub virtual_is : virtual_seen (shape_of_image image) (seen_in image) ≡ map (seen_of image) (virtual_pages image)
  unfolding virtual_seen virtual_pages
  virtual_is = ap (filter (λ s. nat_lt s.page (first_physical shape) && is_virtual_rec shape s.rec)) each ∙ filter_mapped f (λ s. nat_lt s.page (first_physical shape) && is_virtual_rec shape s.rec) (readable_pages image)

  pub physical_is : physical_seen (shape_of_image image) (seen_in image) ≡ map (seen_of image) (physical_pages image)
  unfolding physical_seen physical_pages
  physical_is = ap (filter (λ s. nat_le (first_physical shape) s.page && is_physical_rec s.rec)) each ∙ filter_mapped f (λ s. nat_le (first_physical shape) s.page && is_physical_rec s.rec) (readable_pages image)

  pub holds : (page stamp : ℕ) → holds_seen (shape_of_image image) (seen_in image) page stamp ≡ holds_stamp image page stamp
  unfolding holds_seen holds_stamp
  holds page stamp = ap (λ (ss : List Seen). holds_among on_list ss page stamp) physical_is ∙ any_mapped f (λ s. s.page == page && stamp_of s.rec == stamp) (physical_pages image)

  among : (page : ℕ) → is_among on_list (physical_seen (shape_of_image image) (seen_in image)) page ≡ is_among on_image (physical_pages image) page
  among page = ap (λ (ss : List Seen). is_among on_list ss page) physical_is ∙ any_mapped f (λ s. s.page == page) (physical_pages image)

  pub lost : (p : Pointer) → is_lost_seen (shape_of_image image) (seen_in image) p ≡ is_stale_pointer image p
  lost p = ap not (holds p.name p.stamp)

  pub owns : (p : Pointer) → owns_seen (shape_of_image image) (seen_in image) p ≡ owns_name image p
  unfolding owns_seen
  owns p = λ i. holds p.name p.stamp i || not (among p.name i)

  pages_are : (shape_of_image image).pages ≡ image.pages
  unfolding shape_for
  pages_are = refl

  greatest : (r : Readable) → has_greatest_among on_list (map f (virtual_pages image)) (f r) ≡ has_greatest_among on_image (virtual_pages image) r
  greatest r = ap not (any_mapped f _ (virtual_pages image))

  pub virtual_spare_is : virtual_spare_seen (shape_of_image image) (seen_in image) ≡ virtual_spare image
  unfolding virtual_spare_seen virtual_spare spare_block
  virtual_spare_is =
      ap (λ (ss : List Seen). virtual_spare_among on_list shape.pages shape.vblocks ss) virtual_is
      ∙ spare_mapped f on_list shape.pages 0 shape.vblocks _ _ (virtual_pages image)
      ∙ (λ i. spare_among on_image (pages_are i) 0 shape.vblocks (virtual_pages image) (λ r. greatest r i) (λ q r. address_on q == address_on r && stamp_on q == stamp_on r))

  pub physical_spare_is : (stamps : List ℕ) → physical_spare_seen (shape_of_image image) (seen_in image) stamps ≡ physical_spare image stamps
  unfolding physical_spare_seen physical_spare spare_block
  physical_spare_is stamps =
      ap (λ (ss : List Seen). physical_spare_among on_list shape.pages shape.vblocks shape.pblocks ss stamps) physical_is
      ∙ spare_mapped f on_list shape.pages shape.vblocks shape.pblocks _ _ (physical_pages image)
      ∙ ap (λ (size : ℕ). physical_spare_among on_image size shape.vblocks shape.pblocks (physical_pages image) stamps) pages_are

  pub place_is : (spare : Option ℕ) (p : Pointer) → place_seen (shape_of_image image) (seen_in image) spare p ≡ place_outside image spare p
  unfolding place_seen place_outside
  place_is spare p = λ i. cond (holds p.name p.stamp i && is_outside (pages_are i) spare p.name) (Some p.name) (other i)
    where
      read : (o : Option Readable) → option_map (λ (s : Seen). s.page) (option_map f o) ≡ option_map (λ (r : Readable). r.page) o
      read None = refl
      read (Some r) = refl

      other : option_map (λ (s : Seen). s.page) (find (λ s. stamp_of s.rec == p.stamp && is_outside shape.pages spare s.page) (physical_seen (shape_of_image image) (seen_in image)))
          ≡ option_map (λ (r : Readable). r.page) (find (λ r. stamp_of r.rec == p.stamp && is_outside image.pages spare r.page) (physical_pages image))
      other =
          ap (λ (ss : List Seen). option_map (λ (s : Seen). s.page) (find (λ s. stamp_of s.rec == p.stamp && is_outside shape.pages spare s.page) ss)) physical_is
          ∙ ap (option_map (λ (s : Seen). s.page)) (find_mapped f (λ s. stamp_of s.rec == p.stamp && is_outside shape.pages spare s.page) (physical_pages image))
          ∙ read (find (λ r. stamp_of r.rec == p.stamp && is_outside shape.pages spare r.page) (physical_pages image))
          ∙ ap (λ (size : ℕ). option_map (λ (r : Readable). r.page) (find (λ r. stamp_of r.rec == p.stamp && is_outside size spare r.page) (physical_pages image))) pages_are

pub lists_tell : ListsAreOfImages
lists_tell image = record {
  each = each image;
  virtual = virtual_is image;
  physical = physical_is image;
  lost = lost image;
  owns = owns image;
  virtual_spare = virtual_spare_is image;
  physical_spare = physical_spare_is image;
  place = place_is image;
}
