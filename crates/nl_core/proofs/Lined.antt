-- A core stands on with other lines in flight that carry the same pages.
use Rattle.std.proofs.Common.{◌≡◌, ◌≢◌, ◌⊎◌, inl, inr, ⊎_elim, ℕ, ◌+◌, ◌<◌, ◌≤◌, List, length, Option, refl, sym, ap, subst, ◌∙◌, arith}
use Rattle.nl_field.specs.declared.pointer.Pointer.{Pointer}
use Rattle.nl_field.specs.declared.pointer.Tag.{Tag}
use Rattle.nl_flight.specs.Flight.{InFlight, IsFlight, carried}
use Rattle.nl_iface.specs.Names.{Has}
use Rattle.nl_iface.specs.declared.counts.Counts.{Ghosts}
use Rattle.nl_meta.specs.Consistent.{PageOfStamp}
use Rattle.nl_spec_commits.specs.Held.{IsHeldVolume}
use Rattle.nl_tree.specs.Tree.{Tree}
use Rattle.nl_core.specs.Core.{IsCore}
use Rattle.nl_core.specs.Goes.{PreservesVolume}
use Rattle.nl_core.specs.Trees.{CoreRepresentsTree}
use Rattle.nl_core.specs.declared.state.Core.{Core}
use Rattle.nl_core.proofs.Counts.{counts_as, onward_as}
use Rattle.nl_core.proofs.Running.{with_none}

module _ {D : Type 0} (g : Ghosts D) (v : Core D) (flight : List InFlight) (core : IsCore g v) (same : carried flight ≡ carried v.flight) where
  abbrev pub lined : Core D
  lined = record v { flight = flight }

  pub lined_core : IsFlight flight → IsCore g lined
  lined_core lines = record {
    formed = core.formed;
    shape = core.shape;
    journaled = core.journaled;
    free = let f = core.free in record { count_nodes = f.count_nodes; count_pool = f.count_pool; nodes = f.nodes; pool = f.pool };
    held = subst (λ (xs : List (Tag × Pointer)). IsHeldVolume g v.device v.journal v.meta xs v.freeing.items v.leaving) (sym same) core.held;
    counts = counts_as v lined core.counts refl refl refl refl refl refl;
    flight = lines;
    named = λ x has. core.named x (subst (λ (xs : List (Tag × Pointer)). Has xs x) same has);
    stamped = λ x has. core.stamped x (subst (λ (xs : List (Tag × Pointer)). Has xs x) same has);
    space = let s = core.space in record { counted = let counted = s.counted in let size = ap length same in omega (arith, counted, size); few = s.few; all = s.all; room = s.room };
    marked = core.marked;
    moment = core.moment;
    writes = λ none. let w = core.writes none in record { spare = w.spare; lands = w.lands; firm = w.firm; counts = w.counts };
  }

  runs_lined : (page_of_stamp : ℕ → Option PageOfStamp) (tree : Tree) → CoreRepresentsTree g v page_of_stamp tree → CoreRepresentsTree g lined page_of_stamp tree
  runs_lined page_of_stamp tree at = record { runs = at.runs; shows = at.shows; given = at.given }

  pub lined_goes : PreservesVolume g 0 v lined
  lined_goes = record {
    same_shape = refl;
    count = refl;
    nodes = record { generation = λ n. refl; body = λ n. refl };
    numbers = omega arith;
    paid = λ low. omega arith;
    reads = omega arith;
    writes = omega arith;
    clock = omega arith;
    moment = inl (refl, refl);
    onward = onward_as v lined refl refl refl refl;
    stops = record {
      stands = λ off. refl;
      none = λ none rose. let low = (core.writes none).counts in omega (arith, low, rose);
      some = λ none later. absurd (later none);
    };
    stamps = record { never_falls = omega arith; at_most = omega arith; paid = λ low less. omega arith };
    posted = omega arith;
    runs = λ tells page_of_stamp tree at. with_none g lined page_of_stamp tree (runs_lined page_of_stamp tree at);
    trees = λ told page_of_stamp t at. record {
      pages = page_of_stamp;
      trees = t;
      stands = record { stands = at.stands; runs = runs_lined page_of_stamp t.running at.runs; committed = at.committed; frozen = at.frozen };
      extends = λ stamp page is. is;
      running = refl;
      committed = inl refl;
      frozen = inr (inl refl);
      later = omega arith;
    };
    left = λ told page_of_stamp t y is at. record { later = omega arith; each = λ m c left. inl left };
  }
