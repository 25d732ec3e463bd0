-- What the calls mean for the pages in memory.
use Rattle.std.proofs.Common.{inl, inr, ℕ, ◌≤◌, ◌%◌, List, [], Option, unwrap_or, sym, subst, arith}
use Rattle.nl_field.specs.Inode.{inode_bytes}
use Rattle.nl_field.specs.declared.inode.InodeRec.{InodeRec}
use Rattle.nl_iface.specs.declared.counts.Counts.{Ghosts}
use Rattle.nl_meta.specs.PageLaws.{IsApart}
use Rattle.nl_meta.specs.Pages.{Pages, page_of}
use Rattle.nl_meta.specs.SlotLaws.{with_slot}
use Rattle.nl_meta.specs.Steps.{ChangesRunningPages}
use Rattle.nl_meta.proofs.PageProofs.{admitted, calls_change_pages, changed, missed}
use Rattle.nl_inode.specs.Fetching.{Fetches}
use Rattle.nl_inode.specs.Nodes.{PutsNode, page_of_node}
use Rattle.nl_inode.specs.PageLaws.{NodesChangePages}

high : (n : ℕ) → 67 ≤ page_of_node n
high n = omega arith

pub put_changes : (old new : Pages) (n : ℕ) (rec : InodeRec) → PutsNode n rec old new → ChangesRunningPages old new
put_changes old new n rec is =
    subst (ChangesRunningPages old) (sym is.page) (changed old (page_of_node n) (with_slot 256 (n % 16) (inode_bytes rec) (unwrap_or (page_of old (page_of_node n)) [])) (inr (inr (high n))))

fetched : (old new : Pages) (tells : Type 0) (stored : Option (List ℕ)) (v : ℕ) → IsApart v → Fetches tells stored v old new → ChangesRunningPages old new
fetched old new tells stored v far (inl there) = subst (ChangesRunningPages old) (sym there.1) ((calls_change_pages old).touched v)
fetched old new tells stored v far (inr (gone, bytes, is, admits)) = admitted old v bytes new far gone admits

pub nodes_change_pages : {D : Type 0} (g : Ghosts D) → NodesChangePages g
nodes_change_pages g old new = record {
  put = put_changes old new;
  fetched = fetched old new g.tells;
  not_fetched = λ v none. missed old v new none.0 none.1;
}
