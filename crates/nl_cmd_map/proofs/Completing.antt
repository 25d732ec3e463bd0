-- Where nothing fails the map of a sound image is printed.
use Rattle.std.proofs.Common.{◌≡◌, ℕ, List, inl, inr}
use Rattle.nl_cmd_map.specs.Complete.{MapCompletes}
use Rattle.nl_cmd_map.specs.Mapping.{map_fault, map_no_memory, map_unformed, maps_consistent, maps_refused}
use Rattle.nl_cmd_words.specs.Complete.{DoneCompletes}
use Rattle.nl_core_open.specs.Laws.{ConsistentIsReadable}

pub map_completes : (tells : Type 0) → DoneCompletes → ConsistentIsReadable → MapCompletes tells
map_completes tells done readable map_of source source' sink sink' medium medium' order syncs status count (map_no_memory six before) starts none = inr six
map_completes tells done readable map_of source source' sink sink' medium medium' order syncs status count (map_fault five rose before) starts none = absurd (none.medium_stays (inl rose))
map_completes tells done readable map_of source source' sink sink' medium medium' order syncs status count (map_unformed seven blank before) starts none =
    absurd (readable medium.contents count starts.tree starts.sound (blank starts.told))
map_completes tells done readable map_of source source' sink sink' medium medium' order syncs status count (maps_refused text seven refused before) starts none =
    absurd ((refused starts.told).not_consistent (count, starts.tree, starts.sound))
map_completes tells done readable map_of source source' sink sink' medium medium' order syncs status count (maps_consistent text maps before is) starts none =
    inl (done source source' sink sink' medium medium' status text is none)
