-- What is printed of a file by pieces.
use Rattle.std.proofs.Common.{◌≡◌, ◌<◌, ℕ, ◌+◌, List, [], ◌++◌, refl, sym, ap, subst, ◌∙◌, append-nil, Option, Some, None}
use Rattle.nl_calls_steps.specs.Steps.{ReadsOn}
use Rattle.nl_calls_steps.proofs.ReadCores.{runs-then}
use Rattle.nl_core.specs.Trees.{CoreRepresentsTree}
use Rattle.nl_core.specs.declared.state.Core.{Core}
use Rattle.nl_field.specs.CrashStates.{Rose}
use Rattle.nl_field.specs.Numbers.{max_file_size}
use Rattle.nl_iface.specs.declared.counts.Counts.{Ghosts}
use Rattle.nl_io.specs.Streams.{WritesStream}
use Rattle.nl_io.specs.declared.sink.SinkAnswer.TheVariants as sink
use Rattle.nl_io.proofs.StreamsLaws.{then_write}
use Rattle.nl_meta.specs.Consistent.{PageOfStamp}
use Rattle.nl_tree.specs.Tree.{Tree}
use Rattle.nl_cmd_view.specs.Pieces.{IfRefused, IsGot, IsPiece, PrintsFile, PrintsPiece, ReadsFor, piece_length, taken_so}
use Rattle.nl_cmd_view.specs.declared.printing.Got.{Got}
use Rattle.nl_cmd_view.specs.declared.printing.Got.TheVariants as got
use Rattle.nl_cmd_view.proofs.Sizes.{size_fits}
use Rattle.nl_cmd_view.proofs.Texts.{SoFar, at_first, begins, behind, last, none_or_begins, not_beyond, not_later, so_on}

-- the pieces before an offset were taken
pub record PrintedSoFar {D : Type 0} (g : Ghosts D) (v : Core D) (path : List (List ℕ)) (at : ℕ) (old new : Option (List ℕ)) : Type 0 where
  pub text : List ℕ
  pub taken : WritesStream old new sink.Took text
  pub of_tree : g.tells → (page_of_stamp : ℕ → Option PageOfStamp) (tree : Tree) → CoreRepresentsTree g v page_of_stamp tree → SoFar tree path at text

pub took_nothing : (old : Option (List ℕ)) → WritesStream old old sink.Took []
took_nothing None = refl
took_nothing (Some taken) = ap Some (sym (append-nil taken))

pub nothing_yet : {D : Type 0} (g : Ghosts D) (v : Core D) (path : List (List ℕ)) (old : Option (List ℕ)) → PrintedSoFar g v path 0 old old
nothing_yet g v path old = record { text = []; taken = took_nothing old; of_tree = λ tells page_of_stamp tree runs. at_first tree path }

-- what the text and the last piece are, by how the printing ended
got_with : (tree : Tree) (path : List (List ℕ)) (at : ℕ) (text piece : List ℕ) → SoFar tree path at text → (answer : Got) → IsPiece (Some answer) tree path at piece → IfRefused answer (at ≡ 0)
    → IsGot answer tree path (text ++ piece)
got_with tree path at text piece so got.All p first = last tree path at text piece so p.0 p.1
got_with tree path at text piece so got.NotTaken p first = begins tree path _ (text ++ piece) (behind tree path at text piece so p)
got_with tree path at text piece so (got.Refused refusal) p first = (p.0, (λ i. so.none first i ++ p.1 i))
got_with tree path at text piece so got.Fault p first =
    subst (λ (t : List ℕ). IsGot got.Fault tree path t) (sym (append-nil text) ∙ ap (λ (t : List ℕ). text ++ t) (sym p)) (none_or_begins tree path at text so)
got_with tree path at text piece so got.Lost p first = not_later tree path at text so p.0 p.1

module _ {D : Type 0} (g : Ghosts D) (u w : Core D) (on : ReadsOn g u w) (path : List (List ℕ)) (at : ℕ) (old mid new : Option (List ℕ)) (so : PrintedSoFar g u path at old mid) where
  pub goes_on : PrintsPiece g w path at mid new None → PrintedSoFar g u path (at + piece_length) old new
  goes_on q = record {
    text = so.text ++ q.piece;
    taken = then_write old mid new sink.Took so.text q.piece so.taken q.taken;
    of_tree = λ tells page_of_stamp tree runs. let p = q.of_tree tells page_of_stamp tree (runs-then g u w on tells page_of_stamp tree runs) in so_on tree path at so.text q.piece (so.of_tree tells page_of_stamp tree runs) p.0 p.1;
  }

  pub ends_with : (answer : Got) → PrintsPiece g w path at mid new (Some answer) → IfRefused answer (at ≡ 0) → PrintsFile g u path old new answer
  ends_with answer q first = record {
    text = so.text ++ q.piece;
    taken = then_write old mid new (taken_so answer) so.text q.piece so.taken q.taken;
    of_tree = λ tells page_of_stamp tree runs. got_with tree path at so.text q.piece (so.of_tree tells page_of_stamp tree runs) answer (q.of_tree tells page_of_stamp tree (runs-then g u w on tells page_of_stamp tree runs)) first;
  }

-- behind as many pieces as a file may have there is none
pub never_beyond : {D : Type 0} (g : Ghosts D) (v : Core D) (path : List (List ℕ)) (at : ℕ) (old new : Option (List ℕ)) → max_file_size < at → PrintedSoFar g v path at old new → PrintsFile g v path old new got.All
never_beyond g v path at old new beyond so = record {
  text = so.text;
  taken = so.taken;
  of_tree = λ tells page_of_stamp tree runs. absurd (not_beyond tree path at so.text (so.of_tree tells page_of_stamp tree runs)
      (λ content there. size_fits (g.shape v.device) _ page_of_stamp tree runs.runs path content there) beyond);
}

-- reads behind others of which none failed
pub reads_for_after : {D : Type 0} (g : Ghosts D) (s t u : D) (answer : Got) → g.read_faults t ≡ g.read_faults s → ReadsFor g t u answer → ReadsFor g s u answer
reads_for_after g s t u got.All same r = r ∙ same
reads_for_after g s t u got.NotTaken same r = r ∙ same
reads_for_after g s t u (got.Refused refusal) same r = r ∙ same
reads_for_after g s t u got.Fault same r = subst (λ (n : ℕ). Rose n (g.read_faults u)) same r
reads_for_after g s t u got.Lost same r = r ∙ same
