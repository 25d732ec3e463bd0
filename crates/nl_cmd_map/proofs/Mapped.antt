-- How the command ends that printed a map.
use Rattle.std.proofs.Common.{◌≡◌, ◌∙◌, ℕ, Bool, true, false, cond, List, [], ◌++◌, length, Option, Some, None, inl, inr, refl, sym, ap, subst}
use Rattle.std.specs.Prelude.{◌≢◌, ◌↔◌, ◌==◌, IsTrue}
use Rattle.nl_cmd_map.specs.Mapping.{MapsConsistent, MapsRefused}
use Rattle.nl_core_open.specs.Laws.{ConsistentIsReadable}
use Rattle.nl_field.specs.Medium.{readable_pages, shape_of_image}
use Rattle.nl_field.specs.Page.{Image, is_image}
use Rattle.nl_field.specs.declared.place.Place.{Place}
use Rattle.nl_map.specs.Drawing.{DrawsImage, heading_text, is_opening}
use Rattle.nl_map.specs.Forms.{drawn_text, map_in}
use Rattle.nl_map.specs.Text.{heading_of}
use Rattle.nl_map.specs.declared.form.Form.{Form}
use Rattle.nl_map.specs.declared.heading.Heading.{Heading}
use Rattle.nl_map.specs.declared.heading.Heading.TheVariants.{Opened, Blank, Damaged}
use Rattle.nl_map.proofs.Headings.{opening_is}
use Rattle.nl_map_pages.specs.Marks.{looks_of}
use Rattle.nl_meta.specs.Walk.{OpeningAnswer, answer_of_walk, answers_blank, answers_damaged, is_blank_image, opening_answer, opens, walk}
use Rattle.nl_spec_image.specs.Stands.{IsConsistentImage}

answered : (b : Bool) (o : Option Place) → cond b answers_blank (answer_of_walk o) ≡ opens → o ≡ None
answered true o e = cc
answered false None e = refl
answered false (Some place) e = cc

-- an image that opens has no fault
no_fault : (image : Image) → opening_answer image ≡ opens → walk image ≡ None
unfolding opening_answer is_blank_image
no_fault image e = answered (length (readable_pages image) == 0) (walk image) e

not_blank : (a : OpeningAnswer) → a ≡ opens → a ≡ answers_blank → ⊥
not_blank a e f = cc

not_damaged : (a : OpeningAnswer) (place : Place) → a ≡ opens → a ≡ answers_damaged place → ⊥
not_damaged a place e f = cc

module _ (readable : ConsistentIsReadable) (form : Form) (image : Image) (finds : (walk image ≡ None) ↔ IsConsistentImage image) where
  consistent_opens : IsConsistentImage image → opening_answer image ≡ opens
  consistent_opens k = opening_is image None (readable image k.0 k.1 k.2) (finds.1 k)

  -- a map with this first line
  abbrev with_line : List ℕ → List ℕ
  with_line line = drawn_text form line (shape_of_image image) (looks_of image)

  pub maps_it : (heading : Heading) (text : List ℕ) → is_opening heading ≡ true → DrawsImage form image heading text → MapsConsistent (map_in form) image text
  maps_it (Opened count) text is draws = record {
    consistent = finds.0 (no_fault image draws.heading_is.0);
    text_is = draws.text_is ∙ ap with_line (draws.heading_is.1 ∙ ap (heading_of image) (sym draws.heading_is.0));
  }
  maps_it Blank text is draws = cc
  maps_it (Damaged place) text is draws = cc

  pub refuses_it : (heading : Heading) (text : List ℕ) → is_opening heading ≡ false → DrawsImage form image heading text → MapsRefused (map_in form) image text
  refuses_it (Opened count) text is draws = cc
  refuses_it Blank text is draws = record {
    not_consistent = λ k. not_blank (opening_answer image) (consistent_opens k) draws.heading_is;
    text_is = draws.text_is ∙ ap with_line (ap (heading_of image) (sym draws.heading_is));
  }
  refuses_it (Damaged place) text is draws = record {
    not_consistent = λ k. not_damaged (opening_answer image) place (consistent_opens k) draws.heading_is;
    text_is = draws.text_is ∙ ap with_line (ap (heading_of image) (sym draws.heading_is));
  }
