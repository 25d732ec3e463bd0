-- Completeness: where nothing fails, counts last and memory is enough, a file is put, or the refusal is told.
use Rattle.std.specs.Prelude.{◌≡◌, ◌⊎◌, ℕ, List, Option}
use Rattle.nl_cmd_words.specs.Complete.{CountsLast, NothingRose, StartsConsistent}
use Rattle.nl_spec_headline.specs.Streams.{Medium, Stream}
use Rattle.nl_spec_headline.specs.declared.lists.Ordered.{Ordered}
use Rattle.nl_spec_headline.specs.declared.lists.Synced.{Synced}
use Rattle.nl_spec_image.specs.Crash.{Run}
use Rattle.nl_tree.specs.declared.reply.Refusal.{Refusal}
use Rattle.nl_cmd_put.specs.Putting.{PutEnds}

-- The file was put, or refused, unless memory was wanting.
abbrev pub IsPutOrRefused : ℕ → Type 0
IsPutOrRefused status = (status ≡ 0) ⊎ ((status ≡ 2) ⊎ (status ≡ 6))

-- Where nothing fails and counts last, a file is put on a sound image, or refused, whatever is said of stops.
abbrev pub PutCompletes : Type 0 → Type 0 → (Run → Type 0) → Type 0
PutCompletes tells nothing stops =
    (path : List (List ℕ)) (source source' sink sink' : Stream) (medium medium' : Medium)
    (order : List Ordered) (syncs : List Synced) (refused : Option Refusal) (status count : ℕ)
    → PutEnds tells path nothing stops source source' sink sink' medium medium' order syncs refused status
    → StartsConsistent tells medium count → NothingRose source source' sink sink' medium medium' → CountsLast medium medium'
    → IsPutOrRefused status
