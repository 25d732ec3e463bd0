-- A core runs on as its tree: the pages that its nodes need stay, and live pages keep their bytes, wherever they are.
use Rattle.std.proofs.Common.{◌≡◌, inl, inr, ℕ, ◌≤◌, Option, Some, refl, sym, ap, subst, ◌∙◌, arith}
use Rattle.nl_field.specs.declared.shape.Shape.{Shape}
use Rattle.nl_tree.specs.Tree.{Tree}
use Rattle.nl_iface.specs.Names.{LivePage}
use Rattle.nl_iface.specs.declared.counts.Counts.{Ghosts}
use Rattle.nl_meta.specs.Consistent.{PageOfStamp}
use Rattle.nl_meta_running.specs.Running.{IsNeeded}
use Rattle.nl_spec_commits.proofs.Trees.{runs_alike}
use Rattle.nl_spec_commits.specs.Trees.{RepresentsTree, RepresentsTrees, Trees}
use Rattle.nl_core.specs.Core.{names_of, running_of}
use Rattle.nl_core.specs.Goes.{PreservesTrees, PreservesTree}
use Rattle.nl_core.specs.Trees.{CoreRepresentsTree}
use Rattle.nl_core.specs.declared.state.Core.{Core}

-- Each live page is one of before with its bytes, and no number is taken back.
pub record KeepsLive {D : Type 0} (g : Ghosts D) (v w : Core D) : Type 0 where
  pub live : (q : ℕ) (page : LivePage) → (names_of g w).live q ≡ Some page → (p : ℕ) × ((names_of g v).live p ≡ Some page) × (g.bytes w.device q ≡ g.bytes v.device p)
  pub stamps : g.next_stamp v.device ≤ g.next_stamp w.device

module _ {D : Type 0} (g : Ghosts D) (v w : Core D) (page_of_stamp : ℕ → Option PageOfStamp) (tree : Tree) (at : CoreRepresentsTree g v page_of_stamp tree) where
  -- with whatever tree its pages stand for then
  pub runs_with : KeepsLive g v w → (now : Tree) → RepresentsTree (g.shape w.device) (running_of g w) page_of_stamp now → CoreRepresentsTree g w page_of_stamp now
  runs_with k now runs = record {
    runs = runs;
    shows = λ q page is. let old = k.live q page is in at.shows old.0 page old.1 ∙ ap (λ bytes. Some (record { tag = page.tag; bytes = bytes })) (sym old.2);
    given = λ stamp page is. let low = at.given stamp page is in let rise = k.stamps in omega (arith, low, rise);
  }

  module _ (same_shape : g.shape w.device ≡ g.shape v.device) (needed : (a : ℕ) → IsNeeded (g.shape v.device) (running_of g v) a → running_of g w a ≡ running_of g v a) where
    pub runs_as : RepresentsTree (g.shape w.device) (running_of g w) page_of_stamp tree
    runs_as = subst (λ (h : Shape). RepresentsTree h (running_of g w) page_of_stamp tree) (sym same_shape) (runs_alike (g.shape v.device) (running_of g v) (running_of g w) page_of_stamp tree needed at.runs)

    pub runs_on : KeepsLive g v w → CoreRepresentsTree g w page_of_stamp tree
    runs_on k = runs_with k tree runs_as

-- no page was programmed
abbrev pub with_none : {D : Type 0} (g : Ghosts D) (w : Core D) (page_of_stamp : ℕ → Option PageOfStamp) (tree : Tree) → CoreRepresentsTree g w page_of_stamp tree → PreservesTree g w page_of_stamp tree
with_none g w page_of_stamp tree at = record { pages = page_of_stamp; extends = λ stamp page is. is; runs = at }

-- the trees are those of before, with what pages hold then
pub goes_as : {D : Type 0} (g : Ghosts D) (v w : Core D) (page_of_stamp : ℕ → Option PageOfStamp) (t : Trees) (k : PreservesTree g w page_of_stamp t.running)
    → RepresentsTrees g w.device w.journal w.meta w.count k.pages t → t.committed.0 ≡ w.committed → t.frozen.0 ≡ w.frozen → PreservesTrees g v w page_of_stamp t
goes_as g v w page_of_stamp t k stands committed frozen = record {
  pages = k.pages;
  trees = t;
  stands = record { stands = stands; runs = k.runs; committed = committed; frozen = frozen };
  extends = k.extends;
  running = refl;
  committed = inl refl;
  frozen = inr (inl refl);
  later = omega arith;
}
