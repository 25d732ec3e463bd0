use Rattle.std.proofs.Common.{subst, sym, refl, map, filter, nat_lt, ℕ, List}
use Rattle.nl_tree_content.specs.Pages.{AreWhole, cut_entry}
use Rattle.nl_tree_content.proofs.FileProofs.{cut_step, whole-cut, whole-drop, whole-at}
use Rattle.std.specs.Int.{div_ceil}
use Rattle.nl_tree_content.proofs.LoopProofs.{from_none, all_read}
use Rattle.nl_tree_content.proofs.file_ops.cut_pages.Goals as goal

pub pages-preserved : goal.pages-preserved
pages-preserved c = (
  cut_step c.args.size _ _ c.args.pages.now _ c.pages.page-index _ c.pages-test.true c.in_ok-push_cut.ensures c.page-item.is c.pages.invariant.0,
  subst AreWhole (sym c.in_ok-push_cut.ensures) (whole-cut c.args.size c.pages.kept.items c.page-item.result (whole-at c.args.pages.now c.pages.page-index c.page-item.result c.pages-test.true c.page-item.is c.pages.invariant.2) c.pages.invariant.1),
  whole-drop c.args.pages.now c.pages.page-index c.page-item.result c.pages-test.true c.pages.invariant.2,
)

pub pages-init : goal.pages-init
pages-init c = (from_none c.in_ok-kept.kept.items _ c.in_ok-kept.ensures.items, subst AreWhole (sym c.in_ok-kept.ensures.items) tt, c.requires)

pub returns : goal.returns
returns c = record {
  pages = all_read (λ (ps : List (ℕ × List ℕ)). map (cut_entry c.args.size) (filter (λ page. nat_lt page.0 (div_ceil c.args.size 4096)) ps)) c.args.pages.now c.pages.kept.items _ c.pages.page-index refl c.pages-test.false c.pages.invariant.0;
  whole = c.pages.invariant.1;
}
