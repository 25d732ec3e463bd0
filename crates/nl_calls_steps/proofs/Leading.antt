-- The file to which a path leads, from the node at its end.
use Rattle.std.proofs.Common.{◌≡◌, ℕ, false, List, sym, ap, subst, ◌∙◌, Some}
use Rattle.std.specs.Prelude.{IfOk, Result, Ok, Err}
use Rattle.nl_tree.specs.Represents.{node_reached}
use Rattle.nl_tree.specs.Step.{is_too_long}
use Rattle.nl_tree.specs.declared.reply.Refusal.{Refusal}
use Rattle.nl_iface.specs.Device.{IsVolumeShape}
use Rattle.nl_iface.specs.declared.counts.Counts.{Ghosts}
use Rattle.nl_namespace.specs.PathLaws.{LooksInTree}
use Rattle.nl_meta_running.specs.declared.answer.Stop.{Stop}
use Rattle.nl_core.specs.Core.{running_of}
use Rattle.nl_core.specs.declared.state.Core.{Core}
use Rattle.nl_calls_steps.specs.Steps.{ReadsOn}
use Rattle.nl_calls_steps.specs.declared.answer.Found.TheVariants as found
use Rattle.nl_calls_steps.specs.Finding.{IsFileOrNot, IsFoundFile, IsSomeFile, nodes_of}
use Rattle.nl_calls_steps.specs.declared.answer.Found.{Found}
use Rattle.nl_calls_files.proofs.FoundFiles.{look-directory}
use Rattle.nl_calls_steps.proofs.OnlyReads.{some-back}
use Rattle.nl_calls_steps.proofs.ReadCores.{node-back}

module _ (law : LooksInTree) {D : Type 0} (g : Ghosts D) (u v : Core D) (volume : IsVolumeShape (g.shape u.device)) (on : ReadsOn g u v) (path : List (List ℕ)) (short : is_too_long path ≡ false) (n : ℕ) (leads : node_reached (nodes_of g u) 0 path ≡ Some n) where
  of-node : (a : Found) → IsFileOrNot g v n a → IsFoundFile g u path a
  of-node (found.File m) is = (short, leads ∙ ap (λ (k : ℕ). Some k) (sym is.0), subst (IsSomeFile g u) (sym is.0) (some-back g u v volume on n is.1))
  of-node (found.No refusal) is = λ page_of_stamp tree runs.
      look-directory law (g.shape u.device) (running_of g u) page_of_stamp tree runs path short n is.1.0 (node-back g u v volume on n is.1.0 is.1.1) is.1.2 leads
      ∙ ap (λ (r : Refusal). Some r) (sym is.0)

  pub at-end : (r : Result Found Stop) → IfOk r (IsFileOrNot g v n) → IfOk r (IsFoundFile g u path)
  at-end (Ok a) is = of-node a is
  at-end (Err s) is = is
