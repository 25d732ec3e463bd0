-- A core whose names were changed, or were not, is a core.
use Rattle.std.proofs.Common.{◌≡◌, ℕ, ◌+◌, ◌≤◌, List, ◌++◌, length, Option, refl, sym, ap, subst, ◌∙◌, arith}
use Rattle.std.proofs.lemmas.List.{length-append}
use Rattle.nl_field.specs.PointerItems.{PointerItems}
use Rattle.nl_field.specs.declared.pointer.Pointer.{Pointer}
use Rattle.nl_flight.specs.Flight.{carried}
use Rattle.nl_iface.specs.Calls.{StoresPages}
use Rattle.nl_iface.specs.Device.{IsVolumeShape}
use Rattle.nl_iface.specs.declared.counts.Counts.{Ghosts}
use Rattle.nl_inode.specs.Nodes.{Spaces}
use Rattle.nl_meta.specs.Pages.{Pages}
use Rattle.nl_meta.proofs.PageProofs.{none}
use Rattle.nl_meta_running.proofs.Holds.{reads-none}
use Rattle.nl_tree.specs.declared.call.Call.{Call}
use Rattle.nl_journal_commit.specs.Holding.{running_holders}
use Rattle.nl_spec_commits.specs.Held.{IsHeldVolume}
use Rattle.nl_core.specs.Core.{IsCore}
use Rattle.nl_core.specs.declared.state.Core.{Core}
use Rattle.nl_calls_steps.specs.Steps.{IsHeldAfter, Steps}
use Rattle.nl_calls_steps.proofs.Stepping.{stepped_core}
use Rattle.nl_namespace.specs.Changing.{FreeFits}
use Rattle.nl_calls_names.specs.Gathering.{graph_on, pointers_of_node}
use Rattle.nl_calls_names.proofs.Ended.{Ended, as_many, held_on}

pub fits_of : {D : Type 0} (g : Ghosts D) (v : Core D) → IsCore g v → FreeFits g v.device v.meta v.nodes
fits_of g v core = record { count_nodes = core.free.count_nodes; count_pool = core.free.count_pool; nodes = core.free.nodes; pool = core.free.pool }

-- ---- the list of pointers has other room

module _ {D : Type 0} (g : Ghosts D) (v : Core D) (f : PointerItems) (items : f.items ≡ v.freeing.items) (room : length v.freeing.items + v.freeing.room ≤ length f.items + f.room) where
  abbrev roomy : Core D
  roomy = record v { freeing = f }

  pub roomy_step : Steps g v roomy
  roomy_step = record { reads = reads-none g v.device; read_faults = omega arith; pages = none v.meta; room = room; others = refl }

  module _ (core : IsCore g v) (volume : IsVolumeShape (g.shape v.device)) (stores : g.tells → StoresPages g v.device) where
    held : IsHeldAfter g v roomy
    held = record {
      runs = core.journaled.runs;
      free = record { count_nodes = core.free.count_nodes; count_pool = core.free.count_pool; nodes = core.free.nodes; pool = core.free.pool };
      held = subst (λ (xs : List Pointer). IsHeldVolume g v.device v.journal v.meta (carried v.flight) xs v.leaving) (sym items) core.held;
      as_many = let n = ap length items in omega (arith, n);
      few = core.space.few;
      flight = core.flight;
      fewer = λ x has. has;
    }

    pub roomy_core : IsCore g roomy
    roomy_core = stepped_core g v roomy core volume roomy_step held core.formed stores

-- ---- names changed

module _ {D : Type 0} (g : Ghosts D) (v : Core D) (d : D) (now : Pages) (after : Spaces) (f : PointerItems) (call : Call) (gone : Option ℕ) (e : Ended g v.device v.meta v.nodes d now after call gone)
    (faults : g.read_faults v.device ≤ g.read_faults d) (items : f.items ≡ v.freeing.items ++ pointers_of_node (graph_on g v) gone) (room : length v.freeing.items + v.freeing.room ≤ length f.items + f.room) where
  abbrev renamed : Core D
  renamed = record v { device = d; meta = now; nodes = after; freeing = f }

  pub renamed_step : Steps g v renamed
  renamed_step = record { reads = e.reads; read_faults = faults; pages = e.kept; room = room; others = refl }

  module _ (core : IsCore g v) (volume : IsVolumeShape (g.shape v.device)) where
    pub few_held : length (running_holders g d now) ≤ (g.shape v.device).cap
    few_held =
        let all = as_many g v.device v.meta v.nodes d now after call gone e in
        let most = core.space.few in
        omega (arith, all, most)

    renamed_held : IsHeldAfter g v renamed
    renamed_held = record {
      runs = e.runs;
      free = record { count_nodes = e.fits.count_nodes; count_pool = e.fits.count_pool; nodes = e.fits.nodes; pool = e.fits.pool };
      held = subst (λ (xs : List Pointer). IsHeldVolume g d v.journal now (carried v.flight) xs v.leaving) (sym items)
          (held_on g v.device v.meta v.nodes d now after call gone e v.journal (carried v.flight) v.freeing.items v.leaving volume core.journaled core.held);
      as_many =
          let all = as_many g v.device v.meta v.nodes d now after call gone e in
          let n = ap length items ∙ length-append v.freeing.items (pointers_of_node (graph_on g v) gone) in
          omega (arith, all, n);
      few = few_held;
      flight = core.flight;
      fewer = λ x has. has;
    }

    pub renamed_core : g.formed d → (g.tells → StoresPages g d) → IsCore g renamed
    renamed_core formed stores = stepped_core g v renamed core volume renamed_step renamed_held formed stores
