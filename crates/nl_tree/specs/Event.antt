-- One turn, and the pages that a line has left to stage.
use Rattle.std.specs.Prelude.{◌≡◌, ℕ, ◌+◌, ◌-◌, ◌*◌, ◌/◌, ◌==◌, nat_le, Bool, not, ◌&&◌, if◌then◌else◌, List, [], length, take, drop, replicate, filter, Option, Some, None}
use Rattle.std.specs.List.{list_any, range_with_len}
use Rattle.std.specs.Int.{div_ceil}
use Rattle.nl_field.specs.Numbers.{max_file_size}
use Rattle.nl_tree.specs.Tree.{Tree, node_at, is_file}
use Rattle.nl_tree.specs.declared.call.Call.{Call}
use Rattle.nl_tree.specs.declared.call.Call.TheVariants.{Write, Fill}
use Rattle.nl_tree.specs.declared.turn.Duty.{Duty}

pub data Event : Type 0 where
  -- worker, line and call
  stage : ℕ → ℕ → Call → Event
  effect : ℕ → ℕ → Call → Event
  duty : Duty → Event

-- the indexes of the pages that lie wholly in this range
abbrev pub whole_pages : ℕ → ℕ → List ℕ
whole_pages from len = range_with_len (div_ceil from 4096) ((from + len) / 4096 - div_ceil from 4096)

-- the page of that index is one of them
abbrev pub is_whole : ℕ → ℕ → ℕ → Bool
is_whole from len index = nat_le from (4096 * index) && nat_le (4096 * index + 4096) (from + len)

-- the bytes that a call gives a page that lies wholly in its range
unfoldable pub page_given : Call → ℕ → Option (List ℕ)
page_given (Write path from bytes) index =
    if is_whole from (length bytes) index then Some (take 4096 (drop (4096 * index - from) bytes)) else None
page_given (Fill path from len byte) index = if is_whole from len index then Some (replicate 4096 byte) else None
page_given _ index = None

abbrev pub left_in_range : Tree → List (List ℕ) → ℕ → ℕ → List ℕ → List ℕ
left_in_range tree path from len in_flight =
    if is_file (node_at tree path) && nat_le (from + len) max_file_size
    then filter (λ index. not (list_any (λ i. i == index) in_flight)) (whole_pages from len) else []

-- the indexes that a line has left to stage, where these are in flight for it
abbrev pub left_to_stage : Tree → Call → List ℕ → List ℕ
left_to_stage tree (Write path from bytes) in_flight = left_in_range tree path from (length bytes) in_flight
left_to_stage tree (Fill path from len byte) in_flight = left_in_range tree path from len in_flight
left_to_stage tree _ in_flight = []
