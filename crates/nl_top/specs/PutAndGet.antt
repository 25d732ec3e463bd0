-- What is put is what is got.
use Rattle.std.specs.Prelude.{◌≡◌, ℕ, List, Option}
use Rattle.nl_spec_headline.specs.Headline.{IsYoung}
use Rattle.nl_spec_headline.specs.Streams.{Medium, PrintsWhole, Stream}
use Rattle.nl_spec_headline.specs.declared.lists.Ordered.{Ordered}
use Rattle.nl_spec_headline.specs.declared.lists.Synced.{Synced}
use Rattle.nl_spec_image.specs.Crash.{Run}
use Rattle.nl_tree.specs.declared.reply.Refusal.{Refusal}
use Rattle.nl_cmd_put.specs.Putting.{PutRan}
use Rattle.nl_cmd_view.specs.Getting.{GetEnds}

-- These bytes were put at a path, with status 0, on a medium that tells its contents, while counts last. Then whoever gets the path with
-- status 0, of a medium with the contents that this left, is printed these bytes; whatever is said of stops.
abbrev pub PutIsGot : Type 0 → (Run → Type 0) → Type 0
PutIsGot tells stops =
    (path : List (List ℕ)) (bytes : List ℕ) (sink sink' : Stream) (before after : Medium) (order : List Ordered)
    (syncs : List Synced) (refused : Option Refusal) → tells
    → (put : PutRan tells path bytes stops sink sink' before after order syncs refused 0)
    → IsYoung before.contents before.counts after.counts put.course
    → (out out' : Stream) (start end : Medium) (order' : List Ordered) (syncs' : List Synced) (refused' : Option Refusal)
    → start.contents ≡ after.contents → GetEnds tells path out out' start end order' syncs' refused' 0 → PrintsWhole out out' bytes
