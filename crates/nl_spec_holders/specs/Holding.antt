-- What the running volume, its committed metadata and a transaction that is frozen need of the live pages.
use Rattle.std.specs.Prelude.{◌≡◌, ◌⊎◌, ℕ, ◌+◌, ◌<◌, ◌≤◌, List, length, drop, Some}
use Rattle.nl_field.specs.declared.pointer.Tag.{Tag}
use Rattle.nl_field.specs.declared.pointer.Pointer.{Pointer}
use Rattle.nl_iface.specs.Holders.{Holders, IsHeld, IsRef, plain, tagged, times, wants}
use Rattle.nl_iface.specs.Names.{Has, IsTableOfNames, Names}
use Rattle.nl_iface.specs.declared.Callback.{Callback}

-- The names of the device. The holders of live pages: the files of the running metadata and the pages in flight, each with its tag, and
-- the pointers that await their free. The pointers that the medium's committed metadata has, or may have; the greatest transaction that
-- counts; and how many of the pages that await their free, from the front on, it has given up. Of the frozen transaction its pointers,
-- its number, and how many pages from the front on it gives up. Last the number of the transaction that begins next.
pub record Holding : Type 0 where
  pub names : Names
  pub running : List (Tag × Pointer)
  pub flight : List (Tag × Pointer)
  pub freeing : List Pointer
  pub committed : List Pointer
  pub decided : ℕ
  pub due : ℕ
  pub frozen : List Pointer
  pub number : ℕ
  pub leaving : ℕ
  pub next : ℕ

abbrev pub holders_of : Holding → Holders
holders_of v = record { running = v.running; flight = v.flight; freeing = v.freeing }

-- Places, names and callbacks are in order, and each live page has exactly one holder, which leads to it.
pub record HoldsPages (v : Holding) : Type 0 where
  pub table : IsTableOfNames v.names
  pub held : IsHeld v.names (holders_of v)

-- Each committed pointer leads to the page of its stamp, and its name is not the old name of a callback that may be acknowledged. The
-- running metadata holds the page, or it awaits its free and is not due. The same of each frozen pointer, as it will be once the frozen
-- transaction counts.
pub record KeepsCommitted (v : Holding) : Type 0 where
  pub committed : (p : Pointer) → Has v.committed p → IsRef v.names (λ n. n ≤ v.decided) (wants p) p.name
  pub committed_kept : (p : Pointer) → Has v.committed p → 1 ≤ times tagged p.stamp v.running + times plain p.stamp (drop v.due v.freeing)
  pub frozen : (p : Pointer) → Has v.frozen p → IsRef v.names (λ n. n ≤ v.number) (wants p) p.name
  pub frozen_kept : (p : Pointer) → Has v.frozen p → 1 ≤ times tagged p.stamp v.running + times plain p.stamp (drop v.leaving v.freeing)
  pub decided_first : v.decided ≤ v.number
  pub next_later : v.number < v.next
  pub leaving_awaits : v.leaving ≤ length v.freeing
  pub due_awaits : v.due ≤ length v.freeing

-- no callback was handled by a transaction after this one
abbrev pub HandledUpTo : Names → ℕ → Type 0
HandledUpTo names top = (c : Callback) (n : ℕ) → Has names.pending c → names.handled c.number ≡ Some n → n ≤ top
