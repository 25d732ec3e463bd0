-- What the commands that run no line and open no volume do: make a volume, and check an image.
use Rattle.std.specs.Prelude.{◌≡◌, ◌≢◌, ℕ, [], List, Some}
use Rattle.nl_field.specs.FindingBits.{bits_of, has_finding}
use Rattle.nl_field.specs.Medium.{readable_pages}
use Rattle.nl_field.specs.Numbers.{shape_for}
use Rattle.nl_field.specs.Page.{Image}
use Rattle.nl_field.specs.declared.findings.Findings.{Findings}
use Rattle.nl_field.specs.declared.place.Place.{Place}
use Rattle.nl_spec_headline.specs.Streams.{Medium}
use Rattle.nl_check.specs.Told.{TellsFaults}
use Rattle.nl_meta.specs.Walk.{AreFindings, phase_fault, walk}
use Rattle.nl_print.specs.Texts.{findings_text, formatted_text, sound_text}
use Rattle.nl_spec_image.specs.Formatted.{IsFormatted}
use Rattle.nl_spec_image.specs.Stands.{IsConsistentImage, ConsistentAs}
use Rattle.nl_tree.specs.Tree.{Tree, empty_tree}

-- ---- format

-- A volume of this geometry was made, whatever the medium held: its two pages are the only ones that are not erased. It is sound as the
-- tree with only the root, after no call.
pub record Formats (tells : Type 0) (blocks pages : ℕ) (medium' : Medium) (text : List ℕ) : Type 0 where
  pub geometry : medium'.geometry ≡ record { blocks = blocks; pages = pages }
  pub two_pages : tells → IsFormatted blocks pages medium'.contents
  pub sound : tells → ConsistentAs medium'.contents 0 empty_tree
  pub text_is : text ≡ formatted_text (shape_for blocks pages)

-- ---- refused images

-- No page is readable.
abbrev pub IsBlankImage : Image → Type 0
IsBlankImage image = readable_pages image ≡ []

-- A page is readable and the image is not sound: the walk meets its first fault at this place.
pub record IsDamaged (image : Image) (place : Place) : Type 0 where
  pub readable : readable_pages image ≢ []
  pub first : walk image ≡ Some place
  pub not_sound : IsConsistentImage image → ⊥

-- ---- check

-- No finding, and the count of calls as which the image is sound.
pub record FindsConsistent (tells : Type 0) (image : Image) (text : List ℕ) : Type 0 where
  pub count : ℕ
  pub text_is : text ≡ sound_text count
  pub sound : tells → (tree : Tree) × ConsistentAs image count tree

-- Some findings, which are those of the image: it has a readable page and is not sound. Each phase that can be judged is among them exactly
-- where it has a fault.
pub record FindsFaults (tells : Type 0) (image : Image) (text : List ℕ) : Type 0 where
  pub found : Findings
  pub some : bits_of found ≢ 0
  pub text_is : text ≡ findings_text found
  pub are : tells → AreFindings image (has_finding found)
  pub all : tells → TellsFaults (phase_fault image) found
  pub first : tells → (place : Place) × IsDamaged image place
