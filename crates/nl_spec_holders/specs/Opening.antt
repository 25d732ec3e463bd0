-- What an opening leaves.
use Rattle.std.specs.Prelude.{◌≡◌, ℕ, ◌<◌, ◌≤◌, List, [], Some}
use Rattle.nl_field.specs.declared.pointer.Tag.{Tag}
use Rattle.nl_field.specs.declared.pointer.Pointer.{Pointer}
use Rattle.nl_iface.specs.Holders.{tagged, times}
use Rattle.nl_iface.specs.Names.{Has, LivePage, led}
use Rattle.nl_spec_holders.specs.Holding.{Holding}

-- The running metadata is the committed one, and its pointers are those that are kept; nothing else holds a page.
pub record OpensHolding (kept : List Pointer) (v : Holding) : Type 0 where
  pub running : (h : Tag × Pointer) → Has v.running h → Has kept h.1
  pub tags : (h : Tag × Pointer) (page : LivePage) → Has v.running h → v.names.live (led v.names h.1.name) ≡ Some page → page.tag ≡ h.0
  pub once : (s : ℕ) → times tagged s v.running ≤ 1
  pub all : (p : Pointer) → Has kept p → 1 ≤ times tagged p.stamp v.running
  pub committed : (p : Pointer) → Has v.committed p → Has kept p
  pub no_flight : v.flight ≡ []
  pub none_await : v.freeing ≡ []
  pub none_due : v.due ≡ 0
  pub thawed : v.frozen ≡ []
  pub none_leaves : v.leaving ≡ 0
  pub number : v.number ≡ v.decided
  pub next : v.decided < v.next
