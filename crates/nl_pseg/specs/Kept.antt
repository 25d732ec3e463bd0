-- What a state keeps, and how many pages are used of the block that is written to and of the block for copies: those marked in it.
use Rattle.std.specs.Prelude.{ℕ, Option, Vec}
use Rattle.std.specs.Global.{Global}
use Rattle.nl_blocks.specs.Table.{Table}
use Rattle.nl_blocks.specs.Used.{is_active_state, is_target_state, used_in}
use Rattle.nl_pseg_names.specs.OldNames.{NameTable}
use Rattle.nl_pseg.specs.declared.held.Held.{Held}
use Rattle.nl_pseg.specs.declared.state.State.{State}

pub record Kept : Type 0 where
  pub held : Vec (Option Held) Global
  pub blocks : Table
  pub soiled : Vec (Option ℕ) Global
  pub active : ℕ
  -- how many pages of the active block are used
  pub used : ℕ
  pub target : ℕ
  -- how many pages of the target are used
  pub filled : ℕ
  pub victim : Option ℕ
  pub looked : ℕ
  pub names : NameTable

-- Only in an Active block are pages left for new names, and only in a Target block for copies: a block in another state counts as full.
abbrev pub kept : State → Kept
kept s = record {
  held = s.held;
  blocks = s.blocks;
  soiled = s.soiled;
  active = s.active;
  used = used_in is_active_state s.blocks s.active;
  target = s.target;
  filled = used_in is_target_state s.blocks s.target;
  victim = s.victim;
  looked = s.looked;
  names = s.names;
}

-- the same where each page of the block that is written to is used
abbrev pub all_used : Kept → Kept
all_used s = record s { used = s.blocks.size }

-- the same where each page of the block for copies is used
abbrev pub all_filled : Kept → Kept
all_filled s = record s { filled = s.blocks.size }
