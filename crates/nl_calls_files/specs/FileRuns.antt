-- The pages of a volume stand for a tree in which one file was changed.
use Rattle.std.specs.Int.{div_ceil}
use Rattle.std.specs.Prelude.{◌≡◌, ◌≢◌, ◌⊎◌, ℕ, ◌/◌, ◌%◌, ◌<◌, ◌≤◌, true, List, length, Option, Some, None}
use Rattle.nl_field.specs.Pointers.{is_none_pointer}
use Rattle.nl_field.specs.declared.inode.InodeRec.{InodeRec}
use Rattle.nl_field.specs.declared.pointer.Pointer.{Pointer}
use Rattle.nl_field.specs.declared.pointer.Tag.{Tag}
use Rattle.nl_field.specs.declared.shape.Shape.{Shape}
use Rattle.nl_tree.specs.Represents.{node_reached}
use Rattle.nl_tree.specs.Tree.{Tree, with_content}
use Rattle.nl_iface.specs.Names.{Names}
use Rattle.nl_iface.specs.declared.counts.Counts.{Ghosts}
use Rattle.nl_inode.specs.Nodes.{Spaces}
use Rattle.nl_meta.specs.Committed.{VirtualMap}
use Rattle.nl_meta.specs.Consistent.{PointerIsThere, PageOfStamp, RightFor}
use Rattle.nl_meta.specs.Nodes.{graph_of, pointer_at}
use Rattle.nl_meta.specs.Pages.{Pages}
use Rattle.nl_meta.specs.PointerLists.{IsFile, tagged_in}
use Rattle.nl_journal.specs.Progress.{Progress}
use Rattle.nl_meta_running.specs.FileLaws.{IsRight}
use Rattle.nl_files.specs.CutRuns.{CutIsWritten}
use Rattle.nl_files.specs.InstallLaws.{FileIsInstalled}
use Rattle.nl_files.specs.Standing.{tag_of}
use Rattle.nl_journal_commit.specs.Holding.{running_holders}
use Rattle.nl_spec_commits.specs.Held.{IsHeldVolume}
use Rattle.nl_spec_commits.specs.Trees.{RepresentsTree}
use Rattle.nl_calls_files.specs.FileTrees.{FileHasPages, LeadOnce, held_content}

-- Of two maps of pages, a node is a file in both, under this path, and every other node has what it had. The second is right, the file has
-- its pages there, the pointers of all files lead once, and they are no more than the volume may have.
pub record FileBecomes (shape : Shape) (old new : VirtualMap) (page_of_stamp : ℕ → Option PageOfStamp) (names : Names) (n : ℕ) (was is : InodeRec) (path : List (List ℕ)) : Type 0 where
  pub right : IsRight shape new
  pub file_before : IsFile shape old n was
  pub file_after : IsFile shape new n is
  pub others : (k : ℕ) → k ≢ n → graph_of shape new k ≡ graph_of shape old k
  pub lead : LeadOnce names (tagged_in shape new)
  pub pages : FileHasPages new page_of_stamp n is
  pub few : length (tagged_in shape new) ≤ shape.cap
  pub leads : node_reached (graph_of shape old) 0 path ≡ Some n

-- Of two such maps the second stands for the tree of the first with what the file holds now under the path.
abbrev pub FileRunsOn : Type 0
FileRunsOn =
    (shape : Shape) (old new : VirtualMap) (page_of_stamp : ℕ → Option PageOfStamp) (names : Names) (n : ℕ) (was is : InodeRec)
    (path : List (List ℕ)) (tree : Tree)
    → RepresentsTree shape old page_of_stamp tree → FileBecomes shape old new page_of_stamp names n was is path
    → RepresentsTree shape new page_of_stamp (with_content tree path (held_content page_of_stamp new is))

-- the page of a pointer at an index of a file of this size
abbrev pub IsPageAt : (ℕ → Option PageOfStamp) → ℕ → InodeRec → ℕ → Pointer → Type 0
IsPageAt page_of_stamp n rec index to = PointerIsThere page_of_stamp (record { size = rec.size; tag = tag_of n rec index; pointer = to })

-- A file that took a pointer and did not become shorter has its pages, where the new one is below the pages of its size and is there.
abbrev pub InstalledHasPages : Type 0
InstalledHasPages =
    (shape : Shape) (page_of_stamp : ℕ → Option PageOfStamp) (n index : ℕ) (to : Pointer) (was is : InodeRec) (before after : VirtualMap)
    (s t : Spaces)
    → RightFor shape before page_of_stamp → IsFile shape before n was → FileIsInstalled shape n index to was is before after s t
    → was.size ≤ is.size
    → index < div_ceil is.size 4096 → IsPageAt page_of_stamp n is index to → FileHasPages after page_of_stamp n is

-- The page in which a file of this size ends holds nothing behind it: the file was not longer, it ends with a page, or it has none there.
abbrev pub EndsClean : VirtualMap → InodeRec → ℕ → Type 0
EndsClean pages was size = (was.size ≤ size) ⊎ (size % 4096 ≡ 0) ⊎ (is_none_pointer (pointer_at pages was (size / 4096)) ≡ true)

-- the page in which the file ends stays where it holds nothing behind the size, or another one comes that holds nothing there
abbrev pub EndsWith : (ℕ → Option PageOfStamp) → ℕ → ℕ → VirtualMap → InodeRec → InodeRec → Option Pointer → Type 0
EndsWith page_of_stamp n size pages was is None = EndsClean pages was size
EndsWith page_of_stamp n size pages was is (Some to) = (size % 4096 ≢ 0) × IsPageAt page_of_stamp n is (size / 4096) to

-- A file that was cut has its pages.
abbrev pub CutHasPages : Type 0
CutHasPages =
    (shape : Shape) (page_of_stamp : ℕ → Option PageOfStamp) (n size : ℕ) (partial : Option Pointer) (was is : InodeRec)
    (before after : VirtualMap) (s t : Spaces)
    → RightFor shape before page_of_stamp → IsFile shape before n was → CutIsWritten shape n size partial was is before after s t
    → is.size ≡ size
    → EndsWith page_of_stamp n size before was is partial → FileHasPages after page_of_stamp n is

-- Where each live page is held once, the pointers of all files lead once.
abbrev pub HeldLeadOnce : {D : Type 0} → Ghosts D → Type 0
HeldLeadOnce {D} g =
    (s : D) (p : Progress) (pages : Pages) (flight : List (Tag × Pointer)) (freeing : List Pointer) (leaving : ℕ)
    → IsHeldVolume g s p pages flight freeing leaving → LeadOnce (g.names s) (running_holders g s pages)
