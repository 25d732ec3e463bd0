-- The lines of a tree, one after the other.
use Rattle.std.proofs.Common.{◌≡◌, ℕ, ◌+◌, ◌≤◌, List, [], ◌∷◌, ◌++◌, length, take, drop, flat_map, refl, sym, ap, subst, ◌∙◌, arith, append_assoc, length-append}
use Rattle.std.specs.Prelude.{Option, Some, None}
use Rattle.std.proofs.Math.Seq.{take-append_seam}
use Rattle.std.proofs.lemmas.List.{append-nil, take-append-drop}
use Rattle.std.proofs.lemmas.Grind.{flat_map-append}
use Rattle.nl_iface.specs.declared.counts.Counts.{Ghosts}
use Rattle.nl_io.specs.Streams.{WritesStream}
use Rattle.nl_io.specs.declared.sink.SinkAnswer.TheVariants as sink
use Rattle.nl_meta.specs.Consistent.{PageOfStamp}
use Rattle.nl_tree.specs.Tree.{Tree}
use Rattle.nl_core.specs.Trees.{CoreRepresentsTree}
use Rattle.nl_core.specs.declared.state.Core.{Core}
use Rattle.nl_volume_list.specs.Items.{PathItem, items_of}
use Rattle.nl_cmd_print.specs.Printed.{item_line}
use Rattle.nl_volume_list.specs.Walks.{WalkState, left_behind, still_to_give}
use Rattle.nl_cmd_print.specs.Showing.{IsTextPrefix, IsPrintedLine, IsNextLine, IsShown, paths_text}
use Rattle.nl_cmd_print.specs.declared.paths.Shown.{Shown}
use Rattle.nl_cmd_print.specs.declared.paths.Shown.TheVariants as shown

-- a sink that took nothing
pub took_nothing : (old : Option (List ℕ)) → WritesStream old old sink.Took []
took_nothing None = refl
took_nothing (Some taken) = ap Some (sym (append-nil taken))

pub begins_with : (text rest whole : List ℕ) → whole ≡ text ++ rest → IsTextPrefix text whole
begins_with text rest whole is = sym (ap (take (length text)) is ∙ take-append_seam text rest)

-- the whole, as a beginning and a rest
pub with_rest : (text whole : List ℕ) → IsTextPrefix text whole → text ++ drop (length text) whole ≡ whole
with_rest text whole begins = ap (λ (t : List ℕ). t ++ drop (length text) whole) begins ∙ take-append-drop (length text) whole

-- The text is the lines of the items that are not left, of which there are so many.
pub record SoFar (tree : Tree) (walk : WalkState) (count : ℕ) (text : List ℕ) : Type 0 where
  pub done : List PathItem
  pub whole : items_of tree ≡ done ++ still_to_give tree walk
  pub counted : length done ≡ count
  pub is_text : text ≡ flat_map item_line done

-- Some lines were taken, where the medium tells its contents those of each tree as which the core runs.
pub record LinesSoFar {D : Type 0} (g : Ghosts D) (v : Core D) (walk : WalkState) (count : ℕ) (old new : Option (List ℕ)) : Type 0 where
  pub text : List ℕ
  pub taken : WritesStream old new sink.Took text
  pub of_tree : g.tells → (page_of_stamp : ℕ → Option PageOfStamp) (tree : Tree) → CoreRepresentsTree g v page_of_stamp tree → SoFar tree walk count text

pub so_far_none : (tree : Tree) (walk : WalkState) → walk.nodes ≡ [] → SoFar tree walk 0 []
so_far_none tree walk none = record { done = []; whole = sym (ap (left_behind tree walk.path) none); counted = refl; is_text = refl }

lines_one : (done : List PathItem) (one : PathItem) → flat_map item_line (done ++ one ∷ []) ≡ flat_map item_line done ++ item_line one
lines_one done one = flat_map-append item_line done (one ∷ []) ∙ ap (λ (t : List ℕ). flat_map item_line done ++ t) (append-nil (item_line one))

empty_of : {A : Type 0} (xs : List A) → length xs ≤ 0 → xs ≡ []
empty_of [] le = refl
empty_of (x ∷ xs) le = absurd (omega (arith, le))

module _ (tree : Tree) (was : WalkState) (count : ℕ) (text : List ℕ) (f : SoFar tree was count text) where
  -- ---- one line more

  pub so_far_next : (walk : WalkState) (line : List ℕ) → IsNextLine tree was walk line → SoFar tree walk (count + 1) (text ++ line)
  so_far_next walk line n = record {
    done = f.done ++ n.one ∷ [];
    whole = f.whole ∙ ap (λ (xs : List PathItem). f.done ++ xs) n.left ∙ sym (append_assoc f.done (n.one ∷ []) (still_to_give tree walk));
    counted = length-append f.done (n.one ∷ []) ∙ ap (λ (k : ℕ). k + 1) f.counted;
    is_text = (λ j. f.is_text j ++ n.is_line j) ∙ sym (lines_one f.done n.one);
  }

  -- ---- none more

  pub so_far_all : still_to_give tree was ≡ [] → text ≡ paths_text tree
  so_far_all none = f.is_text ∙ sym (ap (flat_map item_line) (f.whole ∙ ap (λ (xs : List PathItem). f.done ++ xs) none ∙ append-nil f.done))

  pub none_left : length (items_of tree) ≤ count → still_to_give tree was ≡ []
  none_left few =
      let all = ap length f.whole ∙ length-append f.done (still_to_give tree was) in
      let n = f.counted in
      empty_of (still_to_give tree was) (omega (arith, few, all, n))

  pub so_far_begins : IsTextPrefix text (paths_text tree)
  so_far_begins = begins_with text (flat_map item_line (still_to_give tree was)) (paths_text tree)
      (ap (flat_map item_line) f.whole ∙ flat_map-append item_line f.done (still_to_give tree was) ∙ ap (λ (t : List ℕ). t ++ flat_map item_line (still_to_give tree was)) (sym f.is_text))

  and_nothing : (line : List ℕ) → line ≡ [] → text ++ line ≡ text
  and_nothing line none = ap (λ (t : List ℕ). text ++ t) none ∙ append-nil text

  still_begins : (line : List ℕ) → line ≡ [] → IsTextPrefix (text ++ line) (paths_text tree)
  still_begins line none = subst (λ (t : List ℕ). IsTextPrefix t (paths_text tree)) (sym (and_nothing line none)) so_far_begins

pub ends_with : (tree : Tree) (was : WalkState) (count : ℕ) (text : List ℕ) → SoFar tree was count text → (walk : WalkState) (line : List ℕ) (answer : Shown) → IsPrintedLine tree was walk line (Some answer)
    → IsShown answer (text ++ line) (paths_text tree)
ends_with tree was count text f walk line shown.All (none, nothing) = and_nothing tree was count text f line nothing ∙ so_far_all tree was count text f none
ends_with tree was count text f walk line shown.NotTaken n = so_far_begins tree walk (count + 1) (text ++ line) (so_far_next tree was count text f walk line n)
ends_with tree was count text f walk line shown.Fault nothing = still_begins tree was count text f line nothing
ends_with tree was count text f walk line shown.Lost nothing = still_begins tree was count text f line nothing
