-- The bytes that a call writes, and the pages of the file in which they lie.
use Rattle.std.specs.Prelude.{◌≡◌, ◌<◌, ◌≤◌, ◌+◌, ℕ, ⊤, Bool, false, List, [], length, replicate}
use Rattle.nl_tree_content.specs.ContentLaws.{is_touched}
use Rattle.nl_field.specs.FileContent.{FileContent, overlaid, page_bytes}
use Rattle.nl_field.specs.Numbers.{max_bytes}
use Rattle.nl_tree.specs.Step.{is_too_long}
use Rattle.nl_tree.specs.declared.call.Call.{Call}
use Rattle.nl_tree.specs.declared.call.Call.TheVariants.{Fill, Write}

-- the call writes bytes
abbrev pub IsWriting : Call → Type 0
IsWriting (Write path from bytes) = ⊤
IsWriting (Fill path from len byte) = ⊤
IsWriting _ = ⊥

-- the path of the file, the offset of the bytes, how many they are, and the bytes
abbrev pub path_of : Call → List (List ℕ)
path_of (Write path from bytes) = path
path_of (Fill path from len byte) = path
path_of _ = []

abbrev pub from_of : Call → ℕ
from_of (Write path from bytes) = from
from_of (Fill path from len byte) = from
from_of _ = 0

abbrev pub len_of : Call → ℕ
len_of (Write path from bytes) = length bytes
len_of (Fill path from len byte) = len
len_of _ = 0

abbrev pub data_of : Call → List ℕ
data_of (Write path from bytes) = bytes
data_of (Fill path from len byte) = replicate len byte
data_of _ = []

-- The call writes some bytes, not more than one call may and not behind the greatest size, and its path is not too long.
pub record IsSomeWrite (call : Call) : Type 0 where
  pub writing : IsWriting call
  pub some : 0 < len_of call
  pub few : len_of call ≤ max_bytes
  pub within : from_of call + len_of call ≤ 16809984
  pub short : is_too_long (path_of call) ≡ false

-- some of the bytes lie in the page of this index
abbrev pub is_written : Call → ℕ → Bool
is_written call index = is_touched (from_of call) (len_of call) index

-- the page of this index, of a file with this content, once they are written
abbrev pub page_after : FileContent → Call → ℕ → List ℕ
page_after content call index = overlaid (page_bytes content index) index (from_of call) (data_of call)
