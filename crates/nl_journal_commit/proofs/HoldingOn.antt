-- Who holds live pages holds the same ones as the metadata stands on.
use Rattle.std.proofs.Common.{◌≡◌, List, map, sym, ◌∙◌, ap, subst}
use Rattle.nl_field.specs.Graph.{Graph}
use Rattle.nl_field.specs.declared.pointer.Pointer.{Pointer}
use Rattle.nl_field.specs.declared.pointer.Tag.{Tag}
use Rattle.nl_field.specs.declared.shape.Shape.{Shape}
use Rattle.nl_iface.specs.Names.{Names, SameTables}
use Rattle.nl_iface.specs.declared.counts.Counts.{Ghosts}
use Rattle.nl_spec_holders.specs.Laws.{PreservesHolding}
use Rattle.nl_spec_holders.proofs.LawProofs.{erase_keeps}
use Rattle.nl_meta.specs.Nodes.{graph_of, pointers_of}
use Rattle.nl_meta.specs.Pages.{Pages}
use Rattle.nl_meta.specs.PointerLists.{with_tag}
use Rattle.nl_meta_running.specs.Running.{running_on}
use Rattle.nl_journal_commit.specs.Holding.{HoldersArePreserved, running_holders}

module _ {D : Type 0} (g : Ghosts D) where
  same_holders : (s t : D) (pages now : Pages) → g.shape t ≡ g.shape s → graph_of (g.shape t) (running_on g t now) ≡ graph_of (g.shape s) (running_on g s pages) → running_holders g t now ≡ running_holders g s pages
  same_holders s t pages now same graph =
      ap (λ (x : Graph). map with_tag (pointers_of (g.shape t) x)) graph
      ∙ ap (λ (h : Shape). map with_tag (pointers_of h (graph_of (g.shape s) (running_on g s pages)))) same

  pub holders_stand : HoldersArePreserved g
  holders_stand s t q pages now v is same tables stands =
      subst (λ (xs : List (Tag × Pointer)). PreservesHolding v (record v { names = g.names t; running = xs })) (is.running ∙ sym (same_holders s t pages now same stands.graph))
      (erase_keeps v (g.names t) (subst (λ (n : Names). SameTables n (g.names t)) (sym is.names) tables))
