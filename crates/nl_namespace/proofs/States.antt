-- The running map over a device as entries are put in and taken out, and nodes are given records.
use Rattle.std.proofs.Common.{◌≡◌, ℕ, ◌+◌, ◌≤◌, length, ◌∙◌, IsSome, arith}
use Rattle.nl_field.specs.declared.entry.EntryRec.{EntryRec}
use Rattle.nl_field.specs.declared.shape.Shape.{Shape}
use Rattle.nl_meta.specs.Committed.{VirtualMap}
use Rattle.nl_meta.specs.Consistent.{GoodEntry}
use Rattle.nl_meta.specs.Pages.{Pages, besides_0, page_of}
use Rattle.nl_meta.specs.Running.{CleanIsStored, running_over}
use Rattle.nl_meta.specs.Steps.{ChangesRunningPages}
use Rattle.nl_meta.proofs.PageProofs.{both}
use Rattle.nl_inode.specs.FreeLaws.{NodesAreFree, PoolIsFree}
use Rattle.nl_inode.specs.Nodes.{Spaces}
use Rattle.nl_dir.specs.ListLaws.{Lists}
use Rattle.nl_namespace.proofs.NodeChanges.{Formed}

-- Every entry names a used node but 0, under its generation.
abbrev pub AllGood : Shape → VirtualMap → Type 0
AllGood shape pages = (d : ℕ) (e : EntryRec) → Lists shape pages d e → GoodEntry shape pages e

-- What holds between the steps of a call.
pub record State (shape : Shape) (device : VirtualMap) (p : Pages) (free : Spaces) : Type 0 where
  pub count : length p.running ≡ shape.vaddrs
  pub formed : Formed shape (running_over device p)
  pub good : AllGood shape (running_over device p)
  pub count_nodes : length free.nodes ≡ shape.nodes
  pub count_pool : length free.pool ≡ shape.meta
  pub nodes : NodesAreFree shape (running_over device p) free
  pub pool : PoolIsFree shape (running_over device p) free

-- The pages change, at most so many more are dirty, and the device has the clean ones still.
pub record Follows (device : VirtualMap) (p q : Pages) (n : ℕ) : Type 0 where
  pub there : (v : ℕ) → IsSome (page_of p v) → IsSome (page_of q v)
  pub frozen : q.frozen ≡ p.frozen
  pub few : length (besides_0 q.dirty) ≤ length (besides_0 p.dirty) + n
  pub count : length q.running ≡ length p.running
  pub clean : CleanIsStored device p → CleanIsStored device q
  pub pages : ChangesRunningPages p q

pub follows-then : (device : VirtualMap) (p q r : Pages) (m n : ℕ) → Follows device p q m → Follows device q r n → Follows device p r (m + n)
follows-then device p q r m n a b = record {
  there = λ v h. b.there v (a.there v h);
  frozen = b.frozen ∙ a.frozen;
  few = let x = a.few in let y = b.few in omega (arith, x, y);
  count = b.count ∙ a.count;
  clean = λ c. b.clean (a.clean c);
  pages = both p q r a.pages b.pages;
}
