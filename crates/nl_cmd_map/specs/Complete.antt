-- Completeness: where nothing fails and memory is enough, the map of a sound image is printed, as text or as a picture.
use Rattle.std.specs.Prelude.{ℕ, List}
use Rattle.nl_cmd_map.specs.Mapping.{MapEnds}
use Rattle.nl_cmd_words.specs.Complete.{IsCarriedOut, NothingRose, StartsConsistent}
use Rattle.nl_field.specs.Page.{Image}
use Rattle.nl_spec_headline.specs.Streams.{Medium, Stream}
use Rattle.nl_spec_headline.specs.declared.lists.Ordered.{Ordered}
use Rattle.nl_spec_headline.specs.declared.lists.Synced.{Synced}

-- Where nothing fails the map of a sound image is printed.
abbrev pub MapCompletes : Type 0 → Type 0
MapCompletes tells =
    (map_of : Image → List ℕ) (source source' sink sink' : Stream) (medium medium' : Medium) (order : List Ordered) (syncs : List Synced)
    (status count : ℕ)
    → MapEnds map_of tells sink sink' medium medium' order syncs status → StartsConsistent tells medium count
    → NothingRose source source' sink sink' medium medium' → IsCarriedOut status
