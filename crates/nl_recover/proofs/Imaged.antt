-- A device that was started over a medium stores what its image does.
use Rattle.std.proofs.Common.{◌≡◌, ◌⊎◌, inl, inr, ℕ, ◌*◌, ◌<◌, true, false, cond, List, [], ◌∷◌, length, map, refl, sym, ap, ◌∙◌, arith, Option, None, option_map, nat_lt}
use Rattle.std.specs.Prelude.{filter_map}
use Rattle.std.specs.List.{enumerate_from}
use Rattle.std.proofs.lemmas.Bool.{cases_Bool, cond-false, ltb-true}
use Rattle.nl_field.specs.Medium.{readable, readable_pages, shape_of_image}
use Rattle.nl_field.specs.Page.{Image, Page}
use Rattle.nl_field.specs.ScanList.{seen_in}
use Rattle.nl_field.specs.Virtual.{map_bytes, newest, newest_values, or_zeros, virtual_bytes}
use Rattle.nl_field.specs.declared.shape.Shape.{Shape}
use Rattle.nl_field.proofs.Beyond.{map_is_image}
use Rattle.nl_iface.specs.Stored.{Value, value_on}
use Rattle.nl_meta.specs.Committed.{committed}
use Rattle.nl_meta.specs.Walk.{walk, walk_over}
use Rattle.nl_nand.specs.ImageLaws.{image_size}
use Rattle.nl_nand.specs.declared.geometry.Geometry.{Geometry}
use Rattle.nl_recover.specs.Imaged.{IsBlankUnformed, ListsReadable, WalksTheImage}

pub stored-is : (image : Image) (shape : Shape) (values : ℕ → Option Value) → shape ≡ shape_of_image image → ((v : ℕ) → v < shape.vaddrs → values v ≡ option_map value_on (newest image v)) → (v : ℕ) → map_bytes shape values v ≡ virtual_bytes image v
unfolding map_bytes
stored-is image shape values e is v = by (cases_Bool (nat_lt v shape.vaddrs)) ∙ ap (λ (s : Shape). map_bytes s (newest_values image) v) e ∙ map_is_image image v
  where
    by : (nat_lt v shape.vaddrs ≡ true) ⊎ (nat_lt v shape.vaddrs ≡ false) → map_bytes shape values v ≡ map_bytes shape (newest_values image) v
    by (inl below) = ap (λ (o : Option Value). cond (nat_lt v shape.vaddrs) (or_zeros shape v (option_map (λ x. x.1) o)) None) (is v (ltb-true v shape.vaddrs below))
    by (inr off) = cond-false (nat_lt v shape.vaddrs) (or_zeros shape v (option_map (λ (x : Value). x.1) (values v))) None off ∙ sym (cond-false (nat_lt v shape.vaddrs) (or_zeros shape v (option_map (λ (x : Value). x.1) (newest_values image v))) None off)

stored_map : (image : Image) (shape : Shape) (values : ℕ → Option Value) → shape ≡ shape_of_image image → ((v : ℕ) → v < shape.vaddrs → values v ≡ option_map value_on (newest image v)) → map_bytes shape values ≡ virtual_bytes image
stored_map image shape values e is = λ i v. stored-is image shape values e is v i

pub walks_the_image : WalksTheImage
unfolding walk
walks_the_image image shape values e is =
    let f : map_bytes shape values ≡ virtual_bytes image = stored_map image shape values e is in (
      (λ i. committed (e i) (f i)),
      (λ i. walk_over (e i) (committed (e i) (f i)) (seen_in image)),
    )

map-none : {X Y : Type 0} (f : X → Y) (xs : List X) → map f xs ≡ [] → xs ≡ []
map-none f [] e = refl
map-none f (x ∷ xs) e = cc

pub none-readable : (image : Image) → seen_in image ≡ [] → readable_pages image ≡ []
unfolding seen_in
none-readable image e = map-none _ (readable_pages image) e

pub none-seen : (image : Image) → readable_pages image ≡ [] → seen_in image ≡ []
unfolding seen_in
none-seen image e = ap (map _) e

unformed-blank : (image : Image) → length image.contents ≡ 0 → readable_pages image ≡ []
unfolding readable_pages
unformed-blank image e = by image.contents e
  where
    by : (pages : List Page) → length pages ≡ 0 → filter_map readable (enumerate_from 0 pages) ≡ []
    by [] e = refl
    by (x ∷ xs) e = cc

-- a medium that was never formed has no readable page
pub unformed : IsBlankUnformed
unformed geometry image fit (inl legal) off = absurd (off legal)
unformed geometry image fit (inr e) off =
    let none : 0 * image.pages ≡ 0 = omega arith in
    unformed-blank image (image_size image fit.whole ∙ ap (λ (n : ℕ). n * image.pages) (fit.blocks ∙ ap (λ (q : Geometry). q.blocks) e) ∙ none)

pub lists_readable : ListsReadable
lists_readable image = (none-readable image, none-seen image)
