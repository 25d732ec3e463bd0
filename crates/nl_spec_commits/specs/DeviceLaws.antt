-- How the trees of a volume go on while the device changes, and what a stop within a call of the device opens as.
use Rattle.std.specs.Prelude.{◌≡◌, ℕ, List, length, Option, Some}
use Rattle.nl_field.specs.declared.pointer.Pointer.{Pointer}
use Rattle.nl_field.specs.declared.pointer.Tag.{Tag}
use Rattle.nl_spec_holders.specs.Holding.{Holding}
use Rattle.nl_spec_holders.specs.Laws.{PreservesHolding}
use Rattle.nl_iface.specs.Calls.{KeepsVirtual, StoresMap, stored}
use Rattle.nl_iface.specs.Device.{IsVolumeShape}
use Rattle.nl_iface.specs.Left.{LeavesPages}
use Rattle.nl_iface.specs.Names.{Names}
use Rattle.nl_iface.specs.Stored.{NamedAgree, SameVirtual, Stored}
use Rattle.nl_iface.specs.declared.counts.Counts.{Ghosts}
use Rattle.nl_journal.specs.Progress.{HasNumber, Progress}
use Rattle.nl_meta.specs.Consistent.{PageOfStamp}
use Rattle.nl_meta.specs.Pages.{Pages}
use Rattle.nl_journal_commit.specs.Standing.{IsJournaled}
use Rattle.nl_spec_commits.specs.Held.{IsHeldVolume}
use Rattle.nl_spec_commits.specs.Standing.{IsFirm, ShowsPages}
use Rattle.nl_spec_commits.specs.Trees.{StoredOpensAs, RepresentsTrees, Trees}

-- A call that leaves the addresses as they were leaves the trees.
abbrev pub AddressesGo : {D : Type 0} → Ghosts D → Type 0
AddressesGo {D} g =
    (s t : D) (p : Progress) (pages : Pages) (count : ℕ) (page_of_stamp : ℕ → Option PageOfStamp) (x : Trees) → IsVolumeShape (g.shape s)
    → g.tells → HasNumber p (length pages.frozen.addresses)
    → IsJournaled g s p pages → KeepsVirtual g s t → RepresentsTrees g s p pages count page_of_stamp x
    → RepresentsTrees g t p pages count page_of_stamp x

-- each page that a write sequence number has is still that page
abbrev pub Extends : (ℕ → Option PageOfStamp) → (ℕ → Option PageOfStamp) → Type 0
Extends old new = (stamp : ℕ) (page : PageOfStamp) → old stamp ≡ Some page → new stamp ≡ Some page

-- Further pages leave the trees.
abbrev pub PagesGo : {D : Type 0} → Ghosts D → Type 0
PagesGo {D} g =
    (s : D) (p : Progress) (pages : Pages) (count : ℕ) (old new : ℕ → Option PageOfStamp) (x : Trees) → Extends old new
    → RepresentsTrees g s p pages count old x → RepresentsTrees g s p pages count new x

-- What a call of the device leaves: the addresses have what they had, and pages of one write sequence number are the same. The live pages
-- are those of some names, some of which may have moved by then, and who held what they were of holds them on.
pub record LeavesHolding {D : Type 0} (g : Ghosts D) (s : D) (page_of_stamp : ℕ → Option PageOfStamp) (c : Stored) : Type 0 where
  pub same_virtual : SameVirtual (stored g s) c
  pub agree : NamedAgree c
  pub moved : Names
  pub contents : ℕ → List ℕ
  pub keeps : (v : Holding) → v.names ≡ g.names s → PreservesHolding v (record v { names = moved })
  pub shows : ShowsPages moved contents page_of_stamp
  pub pages : LeavesPages (g.shape s) moved contents c

-- What a call of the device leaves opens as the committed tree.
abbrev pub HoldingOpens : {D : Type 0} → Ghosts D → Type 0
HoldingOpens {D} g =
    (s : D) (p : Progress) (pages : Pages) (count : ℕ) (page_of_stamp : ℕ → Option PageOfStamp) (x : Trees) (flight : List (Tag × Pointer))
    (freeing : List Pointer) (c : Stored) (leaving : ℕ) → IsVolumeShape (g.shape s) → g.tells
    → HasNumber p (length pages.frozen.addresses) → IsHeldVolume g s p pages flight freeing leaving → IsFirm g s → StoresMap g s
    → RepresentsTrees g s p pages count page_of_stamp x → LeavesHolding g s page_of_stamp c
    → StoredOpensAs (g.shape s) c x.committed

abbrev pub NowHolds : {D : Type 0} → Ghosts D → Type 0
NowHolds {D} g =
    (s : D) (page_of_stamp : ℕ → Option PageOfStamp) → IsFirm g s → ShowsPages (g.names s) (g.bytes s) page_of_stamp
    → LeavesHolding g s page_of_stamp (stored g s)
