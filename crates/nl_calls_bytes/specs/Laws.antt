-- What a call that writes answers and does in the tree for which the metadata stands.
use Rattle.std.specs.Prelude.{◌≡◌, ℕ, ◌+◌, ◌<◌, max, false, List, [], length, Option, Some, None, IsTrue}
use Rattle.nl_field.specs.FileContent.{FileContent, is_content, written_over}
use Rattle.nl_field.specs.Numbers.{max_file_size}
use Rattle.nl_field.specs.declared.inode.InodeRec.{InodeRec}
use Rattle.nl_field.specs.declared.inode.Kind.TheVariants.{File}
use Rattle.nl_field.specs.declared.shape.Shape.{Shape}
use Rattle.nl_tree.specs.Represents.{node_reached}
use Rattle.nl_tree.specs.Step.{effect_of, is_too_long, space_refusal, step}
use Rattle.nl_tree.specs.Tree.{Tree}
use Rattle.nl_tree.specs.declared.call.Call.{Call}
use Rattle.nl_tree.specs.declared.reply.Refusal.{Refusal}
use Rattle.nl_tree.specs.declared.reply.Refusal.TheVariants.{Efbig}
use Rattle.nl_tree.specs.declared.reply.Reply.TheVariants.{No}
use Rattle.nl_inode.specs.FreeLaws.{PoolIsFree}
use Rattle.nl_inode.specs.Nodes.{Spaces}
use Rattle.nl_indirect.specs.Ranges.{IsFileRecord}
use Rattle.nl_meta.specs.Committed.{VirtualMap}
use Rattle.nl_meta.specs.Consistent.{IsNode, PageOfStamp}
use Rattle.nl_meta.specs.Nodes.{graph_of, held_in}
use Rattle.nl_spec_commits.specs.Trees.{RepresentsTree}
use Rattle.nl_calls_bytes.specs.Contents.{IsWholeWrite, indexes_written}
use Rattle.nl_calls_files.specs.LineNeeds.{free_addresses, new_pointers, new_ranges, with_pages}
use Rattle.nl_calls_files.specs.Refusals.{LooksRefuse, refusal_of_path}
use Rattle.nl_calls_bytes.specs.Refusals.{is_too_far}
use Rattle.nl_calls_bytes.specs.Ranges.{IsWriting, from_of, len_of, path_of}
use Rattle.nl_calls_bytes.specs.Room.{room_refusal}

-- Pages that bytes lie in, put into the content of a file in any order as the bytes make them, make what the write makes of it.
abbrev pub PagesMakeWrite : Type 0
PagesMakeWrite =
    (content : FileContent) (from : ℕ) (bytes : List ℕ) (pages : List (ℕ × List ℕ)) (size : ℕ) → IsTrue (is_content content)
    → 0 < length bytes → IsWholeWrite content from bytes pages
    → size ≡ max content.size (from + length bytes) → with_pages pages size content ≡ written_over content from bytes

-- What counts of free addresses, of pages of files, and of what the call adds to both refuse, is what the step refuses for want of room.
abbrev pub RoomRefuses : Type 0
RoomRefuses =
    (shape : Shape) (pages : VirtualMap) (page_of_stamp : ℕ → Option PageOfStamp) (tree : Tree) (spaces : Spaces) (n : ℕ) (rec : InodeRec)
    (call : Call) → RepresentsTree shape pages page_of_stamp tree
    → None ≡ space_refusal shape tree → PoolIsFree shape pages spaces → length spaces.pool ≡ shape.meta → IsNode shape pages n rec
    → rec.kind ≡ File → IsFileRecord rec
    → IsWriting call → 0 < len_of call → node_reached (graph_of shape pages) 0 (path_of call) ≡ Some n
    → room_refusal (free_addresses spaces) (new_ranges rec (indexes_written (from_of call) (len_of call))) shape.cap
    (length (held_in shape pages)) (new_pointers pages rec (indexes_written (from_of call) (len_of call)))
    ≡ space_refusal shape (effect_of tree call).tree

-- What a look at a path answers says why it leads to no file.
abbrev pub LooksRefuseAll : Type 0
LooksRefuseAll =
    (shape : Shape) (pages : VirtualMap) (page_of_stamp : ℕ → Option PageOfStamp) (tree : Tree) (path : List (List ℕ))
    → RepresentsTree shape pages page_of_stamp tree → is_too_long path ≡ false
    → LooksRefuse shape pages tree path

-- The step of a call that writes: it is refused by its path, by its end, or for want of room, in this order, and else done.
pub record StepsOfWrite (shape : Shape) (tree : Tree) (call : Call) : Type 0 where
  pub by_path : (r : Refusal) → refusal_of_path tree (path_of call) ≡ Some r
      → step shape tree call ≡ record { reply = No r; bytes = []; tree = tree }
  pub by_end : refusal_of_path tree (path_of call) ≡ None → 0 < len_of call → max_file_size < from_of call + len_of call
      → step shape tree call ≡ record { reply = No Efbig; bytes = []; tree = tree }
  pub by_room : (r : Refusal) → refusal_of_path tree (path_of call) ≡ None → is_too_far call ≡ false
      → space_refusal shape (effect_of tree call).tree ≡ Some r
      → step shape tree call ≡ record { reply = No r; bytes = []; tree = tree }
  pub done : refusal_of_path tree (path_of call) ≡ None → is_too_far call ≡ false → space_refusal shape (effect_of tree call).tree ≡ None
      → step shape tree call ≡ effect_of tree call

abbrev pub WritesStep : Type 0
WritesStep = (shape : Shape) (tree : Tree) (call : Call) → IsWriting call → StepsOfWrite shape tree call
