-- Why an image that a stop leaves can be opened: what a device promises of it, with a committed map that stands for a tree and committed
-- pointers that lead to their live pages, makes it consistent.
use Rattle.std.specs.Prelude.{◌≡◌, ℕ, ◌≤◌, true, List, Option, Some, IsTrue}
use Rattle.nl_field.specs.Members.{Has}
use Rattle.nl_field.specs.Page.{Image, is_image}
use Rattle.nl_field.specs.Medium.{shape_of_image}
use Rattle.nl_field.specs.Virtual.{map_bytes}
use Rattle.nl_field.specs.declared.shape.Shape.{Shape}
use Rattle.nl_field.specs.declared.super_page.SuperRec.{SuperRec}
use Rattle.nl_tree.specs.Tree.{Tree}
use Rattle.nl_tree.specs.Charges.{data_charge}
use Rattle.nl_iface.specs.Left.{LeavesPages}
use Rattle.nl_iface.specs.Names.{Names, led}
use Rattle.nl_iface.specs.Stored.{NamedAgree, Stored, stored_in}
use Rattle.nl_meta.specs.Committed.{VirtualMap, committed}
use Rattle.nl_meta.specs.Consistent.{NumbersRight, PageOfStamp, RightFor}
use Rattle.nl_meta.specs.Nodes.{Held, held_in}
use Rattle.nl_spec_image.specs.RightFor.{PagesRepresent}
use Rattle.nl_spec_image.specs.Stands.{ConsistentAs}

-- A map of committed pages stands for a count of calls and a tree, with the pages that its pointers' stamps lead to.
pub record MapRepresents (shape : Shape) (pages : VirtualMap) (page_of_stamp : ℕ → Option PageOfStamp) (count : ℕ) (tree : Tree) : Type 0 where
  pub super_rec : SuperRec
  pub numbers : NumbersRight shape pages super_rec
  pub count_of_calls : super_rec.count ≡ count
  pub right : RightFor shape pages page_of_stamp
  pub represents : PagesRepresent shape pages page_of_stamp tree
  pub data_fits : data_charge tree ≤ shape.cap

-- The pointer leads to a live page of its stamp and its tag, which has the bytes of that stamp.
pub record IsLiveFor (names : Names) (bytes : ℕ → List ℕ) (page_of_stamp : ℕ → Option PageOfStamp) (h : Held) : Type 0 where
  pub leads : names.live (led names h.pointer.name) ≡ Some (record { tag = h.tag; stamp = h.pointer.stamp })
  pub has : page_of_stamp h.pointer.stamp ≡ Some (record { tag = h.tag; bytes = bytes (led names h.pointer.name) })

-- the committed pages of what is stored
abbrev pub committed_in : Shape → Stored → VirtualMap
committed_in shape c = committed shape (map_bytes shape c.virtual)

-- What is left of a device with these names: its virtual segment is firm, pages of one stamp agree, and its live pages are held; its
-- committed pages stand for the tree, and each of their pointers leads.
pub record LeavesTree (shape : Shape) (names : Names) (bytes : ℕ → List ℕ) (page_of_stamp : ℕ → Option PageOfStamp) (c : Stored) (count : ℕ)
    (tree : Tree) : Type 0 where
  pub firm : c.firm ≡ true
  pub agree : NamedAgree c
  pub pages : LeavesPages shape names bytes c
  pub stands : MapRepresents shape (committed_in shape c) page_of_stamp count tree
  pub lead : (h : Held) → Has (held_in shape (committed_in shape c)) h → IsLiveFor names bytes page_of_stamp h

-- Each image that stores this is consistent, as this tree after so many calls.
abbrev pub CrashStateIsConsistent : Type 0
CrashStateIsConsistent =
    (names : Names) (bytes : ℕ → List ℕ) (page_of_stamp : ℕ → Option PageOfStamp) (image : Image) (count : ℕ) (tree : Tree)
    → IsTrue (is_image image) → LeavesTree (shape_of_image image) names bytes page_of_stamp (stored_in image) count tree
    → ConsistentAs image count tree
