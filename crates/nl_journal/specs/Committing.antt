-- The committed pages, and what the writes that are left make of them.
use Rattle.std.specs.Prelude.{◌≡◌, ◌⊎◌, ℕ, ◌+◌, Bool, true, false, if◌then◌else◌, length, Option}
use Rattle.nl_iface.specs.declared.counts.Counts.{Ghosts}
use Rattle.nl_iface.specs.Stored.{Value}
use Rattle.nl_field.specs.declared.shape.Shape.{Shape}
use Rattle.nl_meta.specs.Committed.{VirtualMap, committed}
use Rattle.nl_meta.specs.Pages.{Frozen, Pages, dirty_pages}
use Rattle.nl_journal.specs.Outcomes.{Agrees, bytes_of}
use Rattle.nl_journal.specs.Progress.{Progress, begun}
use Rattle.nl_journal.specs.Transaction.{with_pages}
use Rattle.nl_journal.specs.declared.answers.Phase.{Phase}
use Rattle.nl_journal.specs.declared.answers.Phase.TheVariants.{Header, Image, Commit, Home}

-- the pages that a map has committed
abbrev pub committed_now : Shape → (ℕ → Option Value) → VirtualMap
committed_now shape map = committed shape (bytes_of map)

abbrev pub committed_on : {D : Type 0} → Ghosts D → D → VirtualMap
committed_on g s = committed_now (g.shape s) (g.map s)

-- what is committed by the next write: the commit page puts the transaction's pages in place, and no other write changes anything
abbrev pub aimed : Phase → Frozen → VirtualMap → VirtualMap
aimed Header frozen base = base
aimed (Image i) frozen base = base
aimed Commit frozen base = with_pages frozen base
aimed (Home i) frozen base = base

-- whether the commit page was written
abbrev pub is_decided : Phase → Bool
is_decided Header = false
is_decided (Image i) = false
is_decided Commit = false
is_decided (Home i) = true

-- what is committed once all that is frozen is home
abbrev pub finished : Phase → Frozen → VirtualMap → VirtualMap
finished phase frozen base = if is_decided phase then base else with_pages frozen base

-- what is committed once the frozen pages are, and then the dirty ones: the running pages
abbrev pub ahead : Pages → Phase → VirtualMap → VirtualMap
ahead pages phase base = with_pages (dirty_pages pages) (finished phase pages.frozen base)

abbrev pub finished_on : {D : Type 0} → Ghosts D → D → Progress → Pages → VirtualMap
finished_on g s p pages = finished p.phase pages.frozen (committed_on g s)

abbrev pub ahead_on : {D : Type 0} → Ghosts D → D → Progress → Pages → VirtualMap
ahead_on g s p pages = ahead pages p.phase (committed_on g s)

-- The number tells which pages are committed: those of before, those with the frozen ones, or those with the dirty ones too.
abbrev pub Decides : ℕ → Progress → Pages → VirtualMap → VirtualMap → ℕ → Type 0
Decides count old pages base now number =
    ((number ≡ old.number) × Agrees count now base)
    ⊎ (((number ≡ begun old (length pages.frozen.addresses)) × Agrees count now (finished old.phase pages.frozen base))
    ⊎ ((number ≡ begun old (length pages.frozen.addresses) + 1) × Agrees count now (ahead pages old.phase base)))
