-- What a core becomes once the names were changed, or were not.
use Rattle.std.specs.Prelude.{◌≡◌, ℕ, ◌<◌, ⊤, true, length, None, Some, IsSome}
use Rattle.nl_inode.specs.Nodes.{page_of_node}
use Rattle.nl_meta.specs.Nodes.{inode_at}
use Rattle.nl_meta.specs.Pages.{has_room, page_of}
use Rattle.nl_core.specs.Lines.{Withdraws}
use Rattle.nl_core.specs.declared.state.Core.{Core}
use Rattle.nl_namespace.specs.declared.answer.Change.{Change}
use Rattle.nl_namespace.specs.declared.answer.Change.TheVariants as change
use Rattle.nl_calls_names.specs.Dropping.{DropsNode, HasOfPool}

-- A node that lost its name is dropped, and its pointers await their free.
pub record DropsUnnamedNode {D : Type 0} (n : ℕ) (old new : Core D) : Type 0 where
  pub drops : DropsNode n old.meta new.meta old.nodes new.nodes
  pub others : new ≡ record old { meta = new.meta; nodes = new.nodes }

abbrev pub SettlesChange : {D : Type 0} → ℕ → Change → Core D → Core D → Type 0
SettlesChange count (change.Changed None) old new = Withdraws count old new
SettlesChange count (change.Changed (Some n)) old new = DropsUnnamedNode n old new
SettlesChange count (change.No refusal) old new = Withdraws count old new
SettlesChange count change.Fault old new = Withdraws count old new
SettlesChange count (change.Lost w f) old new = Withdraws count old new

-- The node can be dropped.
pub record CanDrop {D : Type 0} (n : ℕ) (v : Core D) : Type 0 where
  pub there : IsSome (page_of v.meta (page_of_node n))
  pub spelled : IsSome (inode_at (page_of v.meta) n)
  pub room : has_room v.meta (page_of_node n) ≡ true
  pub below : n < length v.nodes.nodes
  pub pool : HasOfPool n v.meta v.nodes

abbrev pub IfGone : Change → (ℕ → Type 0) → Type 0
IfGone (change.Changed None) P = ⊤
IfGone (change.Changed (Some n)) P = P n
IfGone (change.No refusal) P = ⊤
IfGone change.Fault P = ⊤
IfGone (change.Lost w f) P = ⊤
