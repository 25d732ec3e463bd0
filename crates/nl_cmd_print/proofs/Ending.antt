-- How a printing ends: behind a line, behind the first line, and by a fault.
use Rattle.std.proofs.Common.{◌≡◌, ℕ, List, ◌∷◌, ◌++◌, length, take, refl, sym, ap, subst, ◌∙◌, length-append}
use Rattle.std.specs.Prelude.{⊤, Option, Some, None}
use Rattle.std.proofs.Math.Seq.{take-append-add}
use Rattle.nl_iface.specs.Counting.{FailuresCounted}
use Rattle.nl_iface.specs.declared.counts.Counts.{Ghosts}
use Rattle.nl_io.specs.Streams.{WritesStream}
use Rattle.nl_io.specs.declared.sink.SinkAnswer.{SinkAnswer}
use Rattle.nl_io.specs.declared.sink.SinkAnswer.TheVariants as sink
use Rattle.nl_meta.specs.Consistent.{PageOfStamp}
use Rattle.nl_tree.specs.Tree.{Tree}
use Rattle.nl_core.specs.Trees.{CoreRepresentsTree}
use Rattle.nl_core.specs.declared.state.Core.{Core}
use Rattle.nl_print.specs.Texts.{opened_line, tree_text}
use Rattle.nl_volume_list.specs.Items.{PathItem}
use Rattle.nl_cmd_print.specs.Printed.{ItemsArePrinted, item_line}
use Rattle.nl_volume_list.specs.Walks.{WalkState, still_to_give}
use Rattle.nl_cmd_print.specs.Showing.{IsTextPrefix, IsShown, ReadsFor, ReadsUntil, ShowsNext, ended_by, paths_text}
use Rattle.nl_cmd_print.specs.declared.paths.Shown.{Shown}
use Rattle.nl_cmd_print.specs.declared.paths.Shown.TheVariants as shown
use Rattle.nl_cmd_print.proofs.Lines.{begins_with}

-- ---- behind a line

module _ {D : Type 0} (g : Ghosts D) (v : Core D) (was walk : WalkState) (old new : Option (List ℕ)) (one : PathItem)
    (left : (page_of_stamp : ℕ → Option PageOfStamp) (tree : Tree) → CoreRepresentsTree g v page_of_stamp tree → still_to_give tree was ≡ one ∷ still_to_give tree walk) where
  line_shown : (answer : SinkAnswer) → WritesStream old new answer (item_line one) → ShowsNext g v was walk old new (ended_by answer)
  line_shown sink.Took taken = record { line = item_line one; taken = taken; of_tree = λ page_of_stamp tree runs. record { one = one; left = left page_of_stamp tree runs; is_line = refl } }
  line_shown sink.Failed taken = record { line = item_line one; taken = taken; of_tree = λ page_of_stamp tree runs. record { one = one; left = left page_of_stamp tree runs; is_line = refl } }

  pub shows_line : (answer : SinkAnswer) (result : Option Shown) → result ≡ ended_by answer → WritesStream old new answer (item_line one) → ShowsNext g v was walk old new result
  shows_line answer result is taken = subst (ShowsNext g v was walk old new) (sym is) (line_shown answer taken)

line_reads : {D : Type 0} (g : Ghosts D) (s t : D) (answer : SinkAnswer) → g.read_faults t ≡ g.read_faults s → ReadsUntil g s t (ended_by answer)
line_reads g s t sink.Took same = same
line_reads g s t sink.Failed same = same

pub reads_line : {D : Type 0} (g : Ghosts D) (s t : D) (answer : SinkAnswer) (result : Option Shown) → result ≡ ended_by answer → g.read_faults t ≡ g.read_faults s → ReadsUntil g s t result
reads_line g s t answer result is same = subst (ReadsUntil g s t) (sym is) (line_reads g s t answer same)

took_on : None ≡ Some shown.NotTaken → ⊥
took_on e = cc

pub cause_line : (answer : SinkAnswer) (result : Option Shown) (P : Type 0) → result ≡ ended_by answer → (answer ≡ sink.Failed → P) → result ≡ Some shown.NotTaken → P
cause_line sink.Took result P is cause e = absurd (took_on (sym is ∙ e))
cause_line sink.Failed result P is cause e = cause refl

-- ---- behind calls that read

pub reads_for_after : {D : Type 0} (g : Ghosts D) (s t u : D) (answer : Shown) → g.read_faults t ≡ g.read_faults s → ReadsFor g t u answer → ReadsFor g s u answer
reads_for_after g s t u shown.All same r = r ∙ same
reads_for_after g s t u shown.NotTaken same r = r ∙ same
reads_for_after g s t u shown.Fault same r = subst (λ (n : ℕ). FailuresCounted ⊤ n (g.read_faults u) ⊤) same r
reads_for_after g s t u shown.Lost same (r, untold) = (r ∙ same, untold)

-- ---- behind the first line

begins_behind : (front text whole : List ℕ) → IsTextPrefix text whole → IsTextPrefix (front ++ text) (front ++ whole)
begins_behind front text whole begins =
    ap (λ (t : List ℕ). front ++ t) begins ∙ sym (take-append-add front whole (length text)) ∙ ap (λ (n : ℕ). take n (front ++ whole)) (sym (length-append front text))

shown_behind : (front text whole : List ℕ) (answer : Shown) → IsShown answer text whole → IsShown answer (front ++ text) (front ++ whole)
shown_behind front text whole shown.All is = ap (λ (t : List ℕ). front ++ t) is
shown_behind front text whole shown.NotTaken is = begins_behind front text whole is
shown_behind front text whole shown.Fault is = begins_behind front text whole is
shown_behind front text whole shown.Lost is = begins_behind front text whole is

module _ (count : ℕ) (tree : Tree) (printed : ItemsArePrinted) where
  pub tree_shown : (text : List ℕ) (answer : Shown) → IsShown answer text (paths_text tree) → IsShown answer (opened_line count ++ text) (tree_text count tree)
  tree_shown text answer is = subst (λ (t : List ℕ). IsShown answer (opened_line count ++ text) t) (sym (printed count tree)) (shown_behind (opened_line count) text (paths_text tree) answer is)

  pub tree_begins : IsTextPrefix (opened_line count) (tree_text count tree)
  tree_begins = begins_with (opened_line count) (paths_text tree) (tree_text count tree) (printed count tree)
