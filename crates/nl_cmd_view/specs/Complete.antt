-- Completeness: where nothing fails and memory is enough, a sound image is looked at, and a file of it is printed, or its refusal told.
use Rattle.std.specs.Prelude.{ℕ, List, ◌≡◌, ◌⊎◌, Option, None, Some}
use Rattle.nl_cmd_words.specs.Complete.{IsCarriedOut, NothingRose, StartsConsistent}
use Rattle.nl_field.specs.Page.{Image}
use Rattle.nl_spec_headline.specs.Streams.{Medium, Stream}
use Rattle.nl_spec_headline.specs.declared.lists.Ordered.{Ordered}
use Rattle.nl_spec_headline.specs.declared.lists.Synced.{Synced}
use Rattle.nl_cmd_view.specs.Looking.{LookEnds, TreeEnds}
use Rattle.nl_cmd_view.specs.Getting.{GetEnds, refusal_of_read}
use Rattle.nl_tree.specs.declared.reply.Refusal.{Refusal}

-- Where nothing fails, a command that looks at a sound image is carried out.
abbrev pub LookCompletes : Type 0 → (Image → List ℕ → Type 0) → Type 0
LookCompletes tells shows =
    (source source' sink sink' : Stream) (medium medium' : Medium) (order : List Ordered) (syncs : List Synced) (status count : ℕ)
    → LookEnds tells shows sink sink' medium medium' order syncs status → StartsConsistent tells medium count
    → NothingRose source source' sink sink' medium medium' → IsCarriedOut status

abbrev pub TreeCompletes : Type 0 → Type 0
TreeCompletes tells =
    (source source' sink sink' : Stream) (medium medium' : Medium) (order : List Ordered) (syncs : List Synced) (status count : ℕ)
    → TreeEnds tells sink sink' medium medium' order syncs status → StartsConsistent tells medium count
    → NothingRose source source' sink sink' medium medium' → IsCarriedOut status

-- The command is carried out where the tree does not refuse it, and else refused, unless memory was wanting.
abbrev pub IsCarriedOutUnless : Option Refusal → ℕ → Type 0
IsCarriedOutUnless None status = IsCarriedOut status
IsCarriedOutUnless (Some refusal) status = (status ≡ 2) ⊎ (status ≡ 6)

-- Where nothing fails, the bytes at a path are printed that the image's tree has a file at, and else its refusal is told.
abbrev pub GetCompletes : Type 0 → Type 0
GetCompletes tells =
    (path : List (List ℕ)) (source source' sink sink' : Stream) (medium medium' : Medium) (order : List Ordered) (syncs : List Synced)
    (refused : Option Refusal) (status count : ℕ)
    → GetEnds tells path sink sink' medium medium' order syncs refused status → (starts : StartsConsistent tells medium count)
    → NothingRose source source' sink sink' medium medium' → IsCarriedOutUnless (refusal_of_read starts.tree path) status
