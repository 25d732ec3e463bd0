-- No page has an address beyond the last, and so what a device reads is what its image has.
use Rattle.std.proofs.Common.{◌≡◌, ℕ, ◌<◌, ◌≤◌, ◌==◌, ◌&&◌, Bool, true, false, cond, List, [], ◌∷◌, None, Option, Some, option_map, refl, sym, ◌∙◌, ap, arith, ne_eqb, inl, inr, nat_le, nat_lt, ◌+◌, ◌*◌, ◌/◌}
use Rattle.std.specs.Prelude.{filter, find}
use Rattle.std.proofs.lemmas.Bool.{false≢true, ltb-true, lt-ltb, le-ltb, cases_lt, cond-true, cond-false}
use Rattle.std.specs.Int.{div_ceil}
use Rattle.nl_field.specs.Bytes.{zeros}
use Rattle.nl_field.specs.Page.{Image}
use Rattle.nl_field.specs.Numbers.{shape_for}
use Rattle.nl_field.specs.Medium.{Readable, address_of, address_on, first_physical, is_virtual_rec, readable_pages, shape_of_image, stamp_on, virtual_pages}
use Rattle.nl_field.specs.Space.{has_greatest_stamp, virtual_spare, is_outside}
use Rattle.nl_field.specs.Virtual.{newest, or_first_in, or_zeros, is_inode_address, virtual_bytes, map_bytes, newest_values, MapIsImage}
use Rattle.nl_field.specs.declared.shape.Shape.{Shape}
use Rattle.nl_field.specs.declared.spare.SpareRec.{SpareRec}
use Rattle.nl_field.specs.declared.spare.SpareRec.TheVariants.{Virtual, Physical}

-- an address of a virtual page is below the count
within : (shape : Shape) (rec : SpareRec) → is_virtual_rec shape rec ≡ true → address_of rec < shape.vaddrs
within shape (Virtual vaddr stamp wear) is = ltb-true vaddr shape.vaddrs is
within shape (Physical tag stamp wear) is = absurd (false≢true is)

second : (a b : Bool) → (a && b) ≡ true → b ≡ true
second true b is = is
second false b is = absurd (false≢true is)

-- none of the pages has an address beyond
none : (shape : Shape) (v : ℕ) (a q : Readable → Bool) → shape.vaddrs ≤ v → (xs : List Readable) → filter (λ r. address_on r == v && q r) (filter (λ r. a r && is_virtual_rec shape r.rec) xs) ≡ []
none shape v a q beyond [] = refl
none shape v a q beyond (x ∷ xs) = by (a x && is_virtual_rec shape x.rec) refl (none shape v a q beyond xs)
  where
    by : (b : Bool) → (a x && is_virtual_rec shape x.rec) ≡ b → filter (λ r. address_on r == v && q r) (filter (λ r. a r && is_virtual_rec shape r.rec) xs) ≡ []
        → filter (λ r. address_on r == v && q r) (cond b (x ∷ filter (λ r. a r && is_virtual_rec shape r.rec) xs) (filter (λ r. a r && is_virtual_rec shape r.rec) xs)) ≡ []
    by false is rest = rest
    by true is rest =
        let low : address_on x < shape.vaddrs = within shape x.rec (second (a x) (is_virtual_rec shape x.rec) is) in
        let off : (address_on x == v) ≡ false = ne_eqb (address_on x) v (λ e. omega (arith, e, low, beyond)) in
        ap (λ (b : Bool). cond (b && q x) (x ∷ filter (λ r. address_on r == v && q r) (filter (λ r. a r && is_virtual_rec shape r.rec) xs)) (filter (λ r. address_on r == v && q r) (filter (λ r. a r && is_virtual_rec shape r.rec) xs))) off ∙ rest

greatest_none : (image : Image) (v : ℕ) → (shape_of_image image).vaddrs ≤ v → filter (λ r. address_on r == v && has_greatest_stamp (virtual_pages image) r) (virtual_pages image) ≡ []
unfolding virtual_pages
greatest_none image v beyond = none (shape_of_image image) v (λ r. nat_lt r.page (first_physical (shape_of_image image))) (has_greatest_stamp (virtual_pages image)) beyond (readable_pages image)

pub no_newest : (image : Image) (v : ℕ) → (shape_of_image image).vaddrs ≤ v → newest image v ≡ None
unfolding newest
no_newest image v beyond = ap (λ (l : List Readable). or_first_in l (find (λ r. is_outside image.pages (virtual_spare image) r.page) l)) (greatest_none image v beyond)

-- an address beyond the last is none of an inode page
no_inode : (blocks pages v : ℕ) → (shape_for blocks pages).vaddrs ≤ v → is_inode_address (shape_for blocks pages) v ≡ false
unfolding shape_for
no_inode blocks pages v beyond = by (nat_le 67 v) (le-ltb v (67 + div_ceil (blocks * pages / 16) 16) (omega (arith, beyond)))
  where
    by : (b : Bool) → nat_lt v (67 + div_ceil (blocks * pages / 16) 16) ≡ false → (b && nat_lt v (67 + div_ceil (blocks * pages / 16) 16)) ≡ false
    by true e = e
    by false e = refl

pub map_is_image : MapIsImage
unfolding map_bytes virtual_bytes
map_is_image image v = elim (cases_lt v (shape_of_image image).vaddrs) [
  | inl low ↦ cond-true (nat_lt v (shape_of_image image).vaddrs) _ None (lt-ltb v (shape_of_image image).vaddrs low) ∙ ap (or_zeros (shape_of_image image) v) (main_of (newest image v))
  | inr beyond ↦
      cond-false (nat_lt v (shape_of_image image).vaddrs) (or_zeros (shape_of_image image) v (option_map (λ x. x.1) (newest_values image v))) None (le-ltb v (shape_of_image image).vaddrs beyond)
      ∙ sym (ap (λ (o : Option Readable). or_zeros (shape_of_image image) v (option_map (λ r. r.main) o)) (no_newest image v beyond)
      ∙ ap (λ (b : Bool). cond {A = Option (List ℕ)} b (Some (zeros 4096)) None) (no_inode image.blocks image.pages v beyond))
]
  where
    main_of : (o : Option Readable) → option_map (λ (x : ℕ × List ℕ). x.1) (option_map (λ (r : Readable). (stamp_on r, r.main)) o) ≡ option_map (λ (r : Readable). r.main) o
    main_of None = refl
    main_of (Some r) = refl
