-- What drawing a map answers.
use Rattle.std.specs.Prelude.{◌≡◌, ◌<◌, ⊤, ℕ, Bool, true, false, List, Some, None, codes}
use Rattle.nl_field.specs.Medium.{shape_of_image}
use Rattle.nl_field.specs.Page.{Image}
use Rattle.nl_field.specs.declared.super_page.SuperRec.{SuperRec}
use Rattle.nl_meta.specs.Committed.{committed_of}
use Rattle.nl_meta.specs.Nodes.{super_of_pages}
use Rattle.nl_meta.specs.Walk.{answers_blank, answers_damaged, opening_answer, opens, walk}
use Rattle.nl_map_pages.specs.Judging.{IsLiveOf}
use Rattle.nl_print.specs.Texts.{damaged_text, opened_line}
use Rattle.nl_map_pages.specs.Marks.{looks_of}
use Rattle.nl_map.specs.Forms.{drawn_text}
use Rattle.nl_map.specs.Text.{heading_of}
use Rattle.nl_map.specs.declared.drawing.Drawn.{Drawn}
use Rattle.nl_map.specs.declared.drawing.Drawn.TheVariants.{Map, Unformed, Fault, Memory}
use Rattle.nl_map.specs.declared.judging.Judged.{Judged}
use Rattle.nl_map.specs.declared.judging.Judged.TheVariants as judged
use Rattle.nl_map.specs.declared.form.Form.{Form}
use Rattle.nl_map.specs.declared.heading.Heading.{Heading}
use Rattle.nl_map.specs.declared.heading.Heading.TheVariants.{Opened, Blank, Damaged}

-- the first line of a map
abbrev pub heading_text : Heading → List ℕ
heading_text (Opened count) = opened_line count
heading_text Blank = codes "blank\n"
heading_text (Damaged place) = damaged_text place

-- the heading and the whole text have P, where there is a map
abbrev pub IfMap : Drawn → (Heading → List ℕ → Type 0) → Type 0
IfMap (Map heading text) P = P heading text.items
IfMap Unformed P = ⊤
IfMap Fault P = ⊤
IfMap Memory P = ⊤

-- the heading is that of an opening of the image
abbrev pub IsHeading : Image → Heading → Type 0
IsHeading image (Opened count) = (opening_answer image ≡ opens) × (heading_text (Opened count) ≡ heading_of image opens)
IsHeading image Blank = opening_answer image ≡ answers_blank
IsHeading image (Damaged place) = opening_answer image ≡ answers_damaged place

-- These are the heading and the text of the map of the image, in this form.
pub record DrawsImage (form : Form) (image : Image) (heading : Heading) (text : List ℕ) : Type 0 where
  pub heading_is : IsHeading image heading
  pub text_is : text ≡ drawn_text form (heading_text heading) (shape_of_image image) (looks_of image)

-- the volume opens
abbrev pub is_opening : Heading → Bool
is_opening (Opened count) = true
is_opening Blank = false
is_opening (Damaged place) = false

-- What an opening tells of the pages of an image.
abbrev pub Judges : Image → Judged → Type 0
Judges image (judged.Opened count live) =
    (walk image ≡ None) × IsLiveOf image live
    × ((rec : SuperRec) × (super_of_pages (committed_of image) ≡ Some rec) × (rec.count ≡ count))
Judges image (judged.Damaged place) = walk image ≡ Some place
Judges image judged.Fault = ⊤
Judges image judged.Memory = ⊤

abbrev pub IsSized : Judged → Type 0
IsSized (judged.Opened count live) = 0 < live.shape.pages
IsSized (judged.Damaged place) = ⊤
IsSized judged.Fault = ⊤
IsSized judged.Memory = ⊤
