-- The words of the steps: who holds pages in one record, a page that is programmed, and one that is live no longer.
use Rattle.std.proofs.Common.{◌≡◌, ◌≢◌, ℕ, ◌+◌, ◌≤◌, ◌==◌, List, Option, Some, None, ap}
use Rattle.std.specs.Prelude.{if◌then◌else◌}
use Rattle.nl_field.specs.Live.{resolve}
use Rattle.nl_field.specs.declared.pointer.Tag.{Tag}
use Rattle.nl_field.specs.declared.pointer.Pointer.{Pointer}
use Rattle.nl_iface.specs.Holders.{IsRef, always, plain, tagged, times, wants, wants_tagged}
use Rattle.nl_iface.specs.Names.{Has, IsTableOfNames, LivePage, Names, SameTables, led, with_page, without_page}
use Rattle.nl_iface.specs.declared.Callback.{Callback}
use Rattle.nl_spec_holders.specs.Holding.{Holding, HoldsPages}

abbrev pub live_in : Names → ℕ → Option LivePage
live_in t p = t.live p

abbrev pub IsPending : Names → Callback → Type 0
IsPending t c = Has t.pending c

-- how many holders a stamp has
abbrev pub held : Holding → ℕ → ℕ
held v s = times tagged s v.running + times tagged s v.flight + times plain s v.freeing

pub record Holds (v : Holding) : Type 0 where
  pub table : IsTableOfNames v.names
  pub running : (h : Tag × Pointer) → Has v.running h → IsRef v.names always (wants_tagged h) h.1.name
  pub flight : (h : Tag × Pointer) → Has v.flight h → IsRef v.names always (wants_tagged h) h.1.name
  pub freeing : (p : Pointer) → Has v.freeing p → IsRef v.names always (wants p) p.name
  pub once : (s : ℕ) → held v s ≤ 1
  pub each : (q : ℕ) (d : LivePage) → live_in v.names q ≡ Some d → 1 ≤ held v d.stamp

pub to_words : {v : Holding} → HoldsPages v → Holds v
to_words f = record { table = f.table; running = f.held.running; flight = f.held.flight; freeing = f.held.freeing; once = f.held.once; each = f.held.each }

pub from_words : {v : Holding} → Holds v → HoldsPages v
from_words f = record { table = f.table; held = record { running = f.running; flight = f.flight; freeing = f.freeing; once = f.once; each = f.each } }

-- the same pairs lead the same way
pub ways_by : (s t : Names) → t.pairs ≡ s.pairs → (n : ℕ) → led t n ≡ led s n
ways_by s t e n = ap (λ pairs. resolve pairs n) e

-- A page is programmed under a new name.
pub record Programs (p : ℕ) (page : LivePage) (old new : Names) : Type 0 where
  pub dead : live_in old p ≡ None
  pub own : led old p ≡ p
  pub fresh : (q : ℕ) (e : LivePage) → live_in old q ≡ Some e → e.stamp ≢ page.stamp
  pub live : (q : ℕ) → live_in new q ≡ with_page old.live p page q
  pub ways : (n : ℕ) → led new n ≡ led old n
  pub pending : new.pending ≡ old.pending
  pub marks : (c : Callback) → IsPending new c → new.handled c.number ≡ old.handled c.number

-- The page at a place is live no longer, and the names that led to it, with their callbacks, are gone.
pub record Frees (p : ℕ) (page : LivePage) (old new : Names) : Type 0 where
  pub was : live_in old p ≡ Some page
  pub live : (q : ℕ) → live_in new q ≡ without_page old.live p q
  pub ways : (n : ℕ) → led new n ≡ (if led old n == p then n else led old n)
  pub only : (c : Callback) → IsPending new c → IsPending old c × (led old c.before ≢ p)
  pub kept : (c : Callback) → IsPending old c → led old c.before ≢ p → IsPending new c
  pub marks : (c : Callback) → IsPending new c → new.handled c.number ≡ old.handled c.number
