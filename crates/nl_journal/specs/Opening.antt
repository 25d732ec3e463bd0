-- What the journal finds at an opening.
use Rattle.std.specs.Prelude.{◌≡◌, ⊤, ℕ, ◌+◌, ◌<◌, ◌≤◌, ◌==◌, if◌then◌else◌, Bool, true, List, length, Option, Some, None, is_some}
use Rattle.std.specs.List.{list_all, range_with_len}
use Rattle.nl_field.specs.declared.shape.Shape.{Shape}
use Rattle.nl_field.specs.declared.header.HeaderRec.{HeaderRec}
use Rattle.nl_field.specs.declared.commit.CommitRec.{CommitRec}
use Rattle.nl_meta.specs.Committed.{VirtualMap, counting, next_number}
use Rattle.nl_meta.specs.Pages.{Frozen}
use Rattle.nl_journal.specs.Transaction.{header, main_at}
use Rattle.nl_journal.specs.declared.answers.Phase.{Phase}
use Rattle.nl_journal.specs.declared.answers.Phase.TheVariants.{Header, Image, Commit, Home}
use Rattle.nl_journal.specs.declared.answers.ReadBack.{ReadBack}
use Rattle.nl_journal.specs.declared.answers.ReadBack.TheVariants as back
use Rattle.nl_journal.specs.declared.reading.Seen.{Seen}
use Rattle.nl_journal.specs.declared.reading.Seen.TheVariants as seen

-- Agreed exactly where a transaction counts, with its number
abbrev pub FindsTransaction : Shape → VirtualMap → ReadBack → Type 0
FindsTransaction shape f (back.Agreed n) = (h : HeaderRec) × (counting shape f ≡ Some h) × (h.number ≡ n)
FindsTransaction shape f back.Nothing = counting shape f ≡ None
FindsTransaction shape f back.Fault = ⊤

-- where a transaction counts, its pages are to be copied home
abbrev pub phase_found : ReadBack → Phase
phase_found (back.Agreed n) = Home 0
phase_found back.Nothing = Header
phase_found back.Fault = Header

-- the frozen pages are those of the transaction that counts
pub record HasImages (f : VirtualMap) (number : ℕ) (frozen : Frozen) (shape : Shape) : Type 0 where
  pub counts : counting shape f ≡ Some (header number frozen)
  pub images : (i : ℕ) → i < length frozen.addresses → f (2 + i) ≡ Some (main_at frozen.images i)

-- no transaction counts; or one does, and the frozen pages are its images
abbrev pub Opened : Phase → Shape → VirtualMap → ℕ → Frozen → Type 0
Opened Header shape f number frozen = (counting shape f ≡ None) × (number + 1 ≡ next_number shape f)
Opened (Image i) shape f number frozen = ⊥
Opened Commit shape f number frozen = ⊥
Opened (Home i) shape f number frozen = (i ≡ 0) × (length frozen.addresses ≤ 64) × HasImages f number frozen shape

-- the numbers that are spelled, 0 where none is
abbrev pub header_number : Option HeaderRec → ℕ
header_number None = 0
header_number (Some h) = h.number

abbrev pub commit_number : Option CommitRec → ℕ
commit_number None = 0
commit_number (Some k) = k.number

-- the header whose images decide whether its transaction counts: that of a commit page with its number
abbrev pub deciding : Option HeaderRec → Option CommitRec → Option HeaderRec
deciding None k = None
deciding (Some h) None = None
deciding (Some h) (Some k) = if h.number == k.number then Some h else None

-- what a read of one page finds
abbrev pub SeenAt : Option (List ℕ) → List ℕ → Seen → Type 0
SeenAt b main seen.There = b ≡ Some main
SeenAt b main seen.Absent = b ≡ None
SeenAt b main seen.Fault = ⊤

abbrev pub IfThere : Seen → Type 0 → Type 0
IfThere seen.There P = P
IfThere seen.Absent P = ⊤
IfThere seen.Fault P = ⊤

-- whether a page is there, by a read of it
abbrev pub SeesPage : Option (List ℕ) → Seen → Type 0
SeesPage b seen.There = is_some b ≡ true
SeesPage b seen.Absent = b ≡ None
SeesPage b seen.Fault = ⊤

abbrev pub IsSeenFault : Seen → Type 0
IsSeenFault seen.There = ⊥
IsSeenFault seen.Absent = ⊥
IsSeenFault seen.Fault = ⊤

-- whether so many images from a place on are there
abbrev pub are_there : VirtualMap → ℕ → ℕ → Bool
are_there f from count = list_all (λ i. is_some (f (2 + i))) (range_with_len from count)

-- the header, where all its images are there
abbrev pub counted_in : VirtualMap → Option HeaderRec → Option HeaderRec
counted_in f None = None
counted_in f (Some h) = if are_there f 0 (length h.addresses) then Some h else None
