-- What stays while pages of a victim are moved and it is erased, and what a stop within leaves.
use Rattle.std.specs.Prelude.{◌≡◌, ◌⊎◌, ℕ, ◌<◌, ◌≤◌, List, Some, None}
use Rattle.nl_field.specs.CrashStates.{top}
use Rattle.nl_field.specs.declared.shape.Shape.{Shape}
use Rattle.nl_spec_holders.specs.Holding.{Holding}
use Rattle.nl_spec_holders.specs.Laws.{PreservesHolding}
use Rattle.nl_iface.specs.Calls.{KeepsVirtual, CrashStatesHave, stored}
use Rattle.nl_iface.specs.Left.{HoldsLive, LeavesPages}
use Rattle.nl_iface.specs.Names.{Has, LivePage, Names}
use Rattle.nl_iface.specs.Stored.{NamedAgree, SameVirtual, Stored}
use Rattle.nl_iface.specs.declared.Callback.{Callback}
use Rattle.nl_iface.specs.declared.counts.Counts.{Ghosts}

-- Who holds what stays. The live pages are those of before under their tags and stamps, some of them at another place: `alike p q` is
-- what is kept of the page that was at p and is at q. Callbacks are pending as before, and new ones with new numbers, that no
-- transaction handled.
pub record CarriesPages (alike : ℕ → ℕ → Type 0) (s t : Names) : Type 0 where
  pub holders : (v : Holding) → PreservesHolding (record v { names = s }) (record v { names = t })
  pub was_live : (q : ℕ) (page : LivePage) → t.live q ≡ Some page → (p : ℕ) × (s.live p ≡ Some page) × alike p q
  pub stays_live : (p : ℕ) (page : LivePage) → s.live p ≡ Some page → (q : ℕ) × (t.live q ≡ Some page) × alike p q
  pub pending : (c : Callback) → Has s.pending c → Has t.pending c × (t.handled c.number ≡ s.handled c.number)
  pub posted : (c : Callback) → Has t.pending c → Has s.pending c ⊎ ((t.handled c.number ≡ None) × (t.posted < top → s.posted < c.number))
  pub given : s.posted ≤ t.posted

-- The virtual segment is as it was, and pages of one stamp agree where they did.
pub record KeepsStored (old c : Stored) : Type 0 where
  pub same_virtual : SameVirtual old c
  pub agree : NamedAgree old → NamedAgree c

-- What a stop leaves: some of the pages were moved by then. Each of them stands at its place with its bytes, and each is held beside
-- some block, which so can be erased.
pub record LeavesHeld (shape : Shape) (names : Names) (bytes : ℕ → List ℕ) (old c : Stored) : Type 0 where
  pub stored : KeepsStored old c
  pub moved : Names
  pub contents : ℕ → List ℕ
  pub carries : CarriesPages (λ p q. contents q ≡ bytes p) names moved
  pub holds : HoldsLive moved.live contents c
  pub pages : LeavesPages shape moved contents c

-- What holds of pages holds after the call, and of each image that a stop within it leaves. The addresses have what they had.
pub record KeepsHeld {D : Type 0} (g : Ghosts D) (old new : D) : Type 0 where
  pub pages : CarriesPages (λ p q. g.tells → g.bytes new q ≡ g.bytes old p) (g.names old) (g.names new)
  pub left : g.tells → CrashStatesHave g (λ m c. LeavesHeld (g.shape old) (g.names old) (g.bytes old) (stored g old) c) old new
  pub virtual : KeepsVirtual g old new
  pub clean : g.clean old → g.clean new
  pub next_stamp : g.next_stamp new ≡ g.next_stamp old
  pub clock : g.clock old ≤ g.clock new
