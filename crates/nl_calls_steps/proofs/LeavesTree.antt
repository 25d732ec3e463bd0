-- A core goes on through a step that leaves its tree: where pages are only read, and where a line in flight changes.
use Rattle.std.proofs.Common.{◌≡◌, inl, inr, ℕ, length, Option, refl, sym, ap, ◌∙◌, arith}
use Rattle.nl_field.specs.Graph.{Graph}
use Rattle.nl_tree.specs.Tree.{Tree}
use Rattle.nl_core_callbacks.specs.Handled.{nameless_body}
use Rattle.nl_iface.specs.Calls.{StoresPages}
use Rattle.nl_iface.specs.Device.{IsVolumeShape}
use Rattle.nl_iface.specs.Names.{Names}
use Rattle.nl_iface.specs.declared.counts.Counts.{Ghosts}
use Rattle.nl_journal.specs.Progress.{begun}
use Rattle.nl_meta.specs.Consistent.{PageOfStamp}
use Rattle.nl_meta.specs.Nodes.{graph_of}
use Rattle.nl_journal_commit.proofs.Paid.{paid_same}
use Rattle.nl_spec_commits.specs.Trees.{RepresentsTree}
use Rattle.nl_core.specs.Core.{IsCore, begun_of, running_of}
use Rattle.nl_core.specs.Goes.{PreservesVolume}
use Rattle.nl_core.specs.declared.state.Core.{Core}
use Rattle.nl_core.proofs.Counts.{onward_as}
use Rattle.nl_core.proofs.Running.{with_none}
use Rattle.nl_calls_steps.specs.Steps.{ReadAlike, ReadsOn, Steps}
use Rattle.nl_calls_steps.proofs.Stepping.{read_alike, steps_go, steps_leave, steps_run}
use Rattle.nl_calls_steps.proofs.OnlyReads.{same-nodes}

module _ {D : Type 0} (g : Ghosts D) (v w : Core D) (core : IsCore g v) (volume : IsVolumeShape (g.shape v.device)) (step : Steps g v w) (graph : graph_of (g.shape w.device) (running_of g w) ≡ graph_of (g.shape v.device) (running_of g v))
    (alike : (page_of_stamp : ℕ → Option PageOfStamp) (tree : Tree) → RepresentsTree (g.shape v.device) (running_of g v) page_of_stamp tree → RepresentsTree (g.shape w.device) (running_of g w) page_of_stamp tree) where
  same_begun : begun_of w ≡ begun_of v
  same_begun = λ i. begun (ap (λ (x : Core D). x.journal) step.others i) (length (step.pages.same_frozen i).addresses)

  same_stopped : w.stopped ≡ v.stopped
  same_stopped = ap (λ (x : Core D). x.stopped) step.others

  pub step_goes : PreservesVolume g 0 v w
  step_goes =
      let m = step.reads.medium in
      let clock = m.clock in
      let writes = m.write_faults in
      let stamp = m.next_stamp in
      record {
        same_shape = m.virtual.same_shape;
        count = ap (λ (x : Core D). x.count) step.others;
        nodes = record { generation = λ n. ap (λ (x : Graph). (x n).generation) graph; body = λ n. ap (λ (x : Graph). nameless_body (x n).body) graph };
        numbers = let same = same_begun in omega (arith, same);
        paid = paid_same (g.clock v.device) v.journal.number (g.clock w.device) w.journal.number (omega (arith, clock)) (ap (λ (x : Core D). x.journal.number) step.others);
        reads = step.read_faults;
        writes = omega (arith, writes);
        clock = omega (arith, clock);
        moment = inl (ap (λ (x : Core D). x.moment) step.others, ap (λ (x : Core D). x.committed) step.others);
        onward = onward_as v w (ap (λ (x : Core D). x.committed) step.others) (ap (λ (x : Core D). x.frozen) step.others) (ap (λ (x : Core D). x.journal) step.others) step.pages.same_frozen;
        stops = record {
          stands = λ off. same_stopped;
          none = λ none rose. let low = (core.writes (sym same_stopped ∙ none)).counts in omega (arith, low, rose, writes);
          some = λ none later. absurd (later (same_stopped ∙ none));
        };
        stamps = record { never_falls = omega (arith, stamp); at_most = omega (arith, stamp); paid = λ low less. omega (arith, stamp, clock, writes) };
        posted = let same = ap (λ (n : Names). n.posted) step.reads.names in omega (arith, same);
        runs = λ tells page_of_stamp tree at. with_none g w page_of_stamp tree (steps_run g v w page_of_stamp tree tree tells step at (alike page_of_stamp tree at.runs));
        trees = λ told page_of_stamp t at. record {
          pages = page_of_stamp;
          trees = t;
          stands = steps_go g v w page_of_stamp t t.running volume core step told at (alike page_of_stamp t.running at.runs.runs);
          extends = λ stamp page is. is;
          running = refl;
          committed = inl refl;
          frozen = inr (inl refl);
          later = omega arith;
        };
        left = λ told page_of_stamp t y is at. steps_leave g v w t y told.tells step;
      }

module _ {D : Type 0} (g : Ghosts D) (v w : Core D) (core : IsCore g v) (volume : IsVolumeShape (g.shape v.device)) (formed : g.formed w.device) (stores : g.tells → StoresPages g w.device) (r : ReadsOn g v w) where
  as_before : ReadAlike g v w
  as_before = read_alike g v w volume formed stores r

  same_graph : graph_of (g.shape w.device) (running_of g w) ≡ graph_of (g.shape v.device) (running_of g v)
  same_graph = same-nodes g v w volume r

  pub reads_go : PreservesVolume g 0 v w
  reads_go = step_goes g v w core volume as_before.steps same_graph as_before.trees
