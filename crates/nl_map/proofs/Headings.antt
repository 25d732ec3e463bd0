-- The first line of the map of an image.
use Rattle.std.proofs.Common.{◌≡◌, ℕ, false, cond, List, [], ◌∷◌, length, Option, Some, None, ◌⊎◌, inl, inr, refl, sym, ap, subst, ◌∙◌, arith}
use Rattle.std.proofs.lemmas.Bool.Decides.{nat_tests}
use Rattle.std.specs.Prelude.{◌==◌}
use Rattle.nl_field.specs.Medium.{Readable, readable_pages}
use Rattle.nl_field.specs.Page.{Image}
use Rattle.nl_field.specs.ScanList.{seen_in}
use Rattle.nl_field.specs.declared.place.Place.{Place}
use Rattle.nl_field.specs.declared.seen.Seen.{Seen}
use Rattle.nl_field.specs.declared.super_page.SuperRec.{SuperRec}
use Rattle.nl_meta.specs.Committed.{committed_of}
use Rattle.nl_meta.specs.Nodes.{super_of_pages}
use Rattle.nl_meta.specs.Walk.{answer_of_walk, answers_blank, is_blank_image, opening_answer, walk}
use Rattle.nl_print.specs.Texts.{opened_line}
use Rattle.nl_recover.proofs.Imaged.{lists_readable}
use Rattle.nl_map.specs.Drawing.{IsHeading}
use Rattle.nl_map.specs.Text.{count_told}
use Rattle.nl_map.specs.declared.heading.Heading.{Heading}
use Rattle.nl_map.specs.declared.heading.Heading.TheVariants.{Opened, Blank, Damaged}

not_empty : (rs : List Readable) → (rs ≡ [] → ⊥) → (length rs == 0) ≡ false
not_empty [] some = absurd (some refl)
not_empty (r ∷ rs) some = grind (arith, nat_tests)

pub opening_is : (image : Image) (o : Option Place) → (readable_pages image ≡ [] → ⊥) → walk image ≡ o → opening_answer image ≡ answer_of_walk o
unfolding opening_answer is_blank_image
opening_is image o some is = λ i. cond (not_empty (readable_pages image) some i) answers_blank (answer_of_walk (is i))

blank_is : (image : Image) → readable_pages image ≡ [] → opening_answer image ≡ answers_blank
unfolding opening_answer is_blank_image
blank_is image none = λ i. cond (length (none i) == 0) answers_blank (answer_of_walk (walk image))

either : (xs : List Seen) → (xs ≡ []) ⊎ (xs ≡ [] → ⊥)
either [] = inl refl
either (x ∷ xs) = inr (λ e. cc)

module _ (image : Image) (seen : List Seen) (listed : seen ≡ seen_in image) where
  readable_where : (seen ≡ [] → ⊥) → readable_pages image ≡ [] → ⊥
  readable_where some none = some (listed ∙ (lists_readable image).1 none)

  -- the heading that stands where a page is readable, or that of a blank medium
  chosen : (h r : Heading) → (seen ≡ [] → r ≡ Blank) → ((seen ≡ [] → ⊥) → r ≡ h) → ((seen ≡ [] → ⊥) → IsHeading image h) → IsHeading image r
  chosen h r blank other is = by (either seen)
    where
      by : (seen ≡ []) ⊎ (seen ≡ [] → ⊥) → IsHeading image r
      by (inl none) = subst (IsHeading image) (sym (blank none)) (blank_is image ((lists_readable image).0 (sym listed ∙ none)))
      by (inr some) = subst (IsHeading image) (sym (other some)) (is some)

  pub opened_heading : (count : ℕ) (r : Heading) → (seen ≡ [] → r ≡ Blank) → ((seen ≡ [] → ⊥) → r ≡ Opened count) → walk image ≡ None
      → (rec : SuperRec) × (super_of_pages (committed_of image) ≡ Some rec) × (rec.count ≡ count) → IsHeading image r
  opened_heading count r blank other none told =
      chosen (Opened count) r blank other (λ some. (opening_is image None (readable_where some) none, ap opened_line (sym (ap count_told told.1 ∙ told.2))))

  pub damaged_heading : (place : Place) (r : Heading) → (seen ≡ [] → r ≡ Blank) → ((seen ≡ [] → ⊥) → r ≡ Damaged place) → walk image ≡ Some place → IsHeading image r
  damaged_heading place r blank other first = chosen (Damaged place) r blank other (λ some. opening_is image (Some place) (readable_where some) first)
