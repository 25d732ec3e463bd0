-- What a device would do that led names of its own to its pages by a map: a write answers a name that is no page, and a move changes
-- the map and calls nobody back.
use Rattle.std.specs.Prelude.{◌≡◌, ◌≢◌, ℕ, Some}
use Rattle.nl_iface.specs.Names.{Has, LivePage, Names, led}
use Rattle.nl_iface.specs.Stored.{NamedPage, Stored}
use Rattle.nl_iface.specs.declared.Callback.{Callback}

-- A page was programmed: it holds this, and it did not before.
pub record NewlyHolds (n : NamedPage) (p : ℕ) (old c : Stored) : Type 0 where
  pub holds : c.named p ≡ Some n
  pub did_not : old.named p ≡ Some n → ⊥

-- A write programs a page, and answers another number as its name.
pub record InventsName (name : ℕ) (old c : Stored) : Type 0 where
  pub page : ℕ
  pub holds : NamedPage
  pub programs : NewlyHolds holds page old c
  pub invented : page ≢ name

-- A live page is elsewhere than before, and no callback was posted.
pub record MovesSilently (s t : Names) : Type 0 where
  pub before : ℕ
  pub page : LivePage
  pub was : s.live before ≡ Some page
  pub left : t.live before ≡ Some page → ⊥
  pub silent : (c : Callback) → Has t.pending c → Has s.pending c

-- A name leads to another number than its own.
pub record LeadsAway (names : Names) : Type 0 where
  pub name : ℕ
  pub away : led names name ≢ name
