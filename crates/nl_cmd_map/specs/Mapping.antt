-- How a command ends that prints the map of a medium, as text or as a picture: with which status, text and cause, and what it then says of
-- sink and medium.
use Rattle.std.specs.Prelude.{◌≡◌, ℕ, List, codes}
use Rattle.nl_cmd_words.specs.Ends.{EndsBefore}
use Rattle.nl_cmd_words.specs.Others.{IsBlankImage}
use Rattle.nl_field.specs.CrashStates.{Rose}
use Rattle.nl_field.specs.Page.{Image}
use Rattle.nl_spec_headline.specs.Status.{DoneStatus}
use Rattle.nl_spec_headline.specs.Streams.{Medium, MediumRose, Stream}
use Rattle.nl_spec_headline.specs.declared.lists.Ordered.{Ordered}
use Rattle.nl_spec_headline.specs.declared.lists.Synced.{Synced}
use Rattle.nl_spec_image.specs.Stands.{IsConsistentImage}

-- The text is the map of an image that is consistent, as this says what the map of an image is.
pub record MapsConsistent (map_of : Image → List ℕ) (image : Image) (text : List ℕ) : Type 0 where
  pub consistent : IsConsistentImage image
  pub text_is : text ≡ map_of image

-- The text is the map of an image that is not: none of its pages is readable, or the walk of an opening meets a fault.
pub record MapsRefused (map_of : Image → List ℕ) (image : Image) (text : List ℕ) : Type 0 where
  pub not_consistent : IsConsistentImage image → ⊥
  pub text_is : text ≡ map_of image

-- How it ends. Which text it prints is said where the medium tells its contents.
pub data MapEnds (map_of : Image → List ℕ) (tells : Type 0) (sink sink' : Stream) (medium medium' : Medium) (order : List Ordered) (syncs : List Synced) (status : ℕ) : Type 0 where
  map_no_memory : status ≡ 6 → EndsBefore tells (codes "memory\n") sink sink' medium medium' order syncs
      → MapEnds map_of tells sink sink' medium medium' order syncs status
  map_fault : status ≡ 5 → Rose medium.counts.read_faults medium'.counts.read_faults
      → EndsBefore tells (codes "medium fault\n") sink sink' medium medium' order syncs
      → MapEnds map_of tells sink sink' medium medium' order syncs status
  map_unformed : status ≡ 7 → (tells → IsBlankImage medium.contents)
      → EndsBefore tells (codes "blank\n") sink sink' medium medium' order syncs
      → MapEnds map_of tells sink sink' medium medium' order syncs status
  maps_refused : (text : List ℕ) → status ≡ 7 → (tells → MapsRefused map_of medium.contents text)
      → EndsBefore tells text sink sink' medium medium' order syncs
      → MapEnds map_of tells sink sink' medium medium' order syncs status
  maps_consistent : (text : List ℕ) → (tells → MapsConsistent map_of medium.contents text) → EndsBefore tells text sink sink' medium medium' order syncs
      → DoneStatus status (MediumRose medium medium') sink sink' text
      → MapEnds map_of tells sink sink' medium medium' order syncs status
