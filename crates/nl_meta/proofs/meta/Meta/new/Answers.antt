use Rattle.std.proofs.Common.{[], List, Bool, ℕ, ap, subst, sym, ◌∙◌, length, map, take, replicate, false, arith}
use Rattle.nl_meta.specs.Inside.{IsMetaState, slots}
use Rattle.nl_meta.specs.Pages.{no_pages}
use Rattle.nl_meta.proofs.Kept.{blank, slots-none}
use Rattle.nl_meta.proofs.meta.Meta.new.Goals as goal

pub invariant_of-result : goal.invariant_of-result
invariant_of-result c =
    subst (λ (bs : List Bool). IsMetaState c.in_ok-pages.pages.items bs 0 c.new.result c.new-2.result c.new-3.result c.in_ok-images.images.items) (sym (c.in_ok-resident.ensures.items_if_clones_equal (λ y e. e)))
    (subst (λ (xs : List ℕ). IsMetaState c.in_ok-pages.pages.items (replicate c.args.shape.vaddrs false) 0 xs c.new-2.result c.new-3.result c.in_ok-images.images.items) (sym c.new.ensures)
    (subst (λ (xs : List ℕ). IsMetaState c.in_ok-pages.pages.items (replicate c.args.shape.vaddrs false) 0 [] xs c.new-3.result c.in_ok-images.images.items) (sym c.new-2.ensures)
    (subst (λ (xs : List ℕ). IsMetaState c.in_ok-pages.pages.items (replicate c.args.shape.vaddrs false) 0 [] [] xs c.in_ok-images.images.items) (sym c.new-3.ensures)
    (blank c.in_ok-pages.pages.items c.in_ok-images.images.items c.args.shape.vaddrs c.in_ok-pages.ensures (omega arith) c.in_ok-images.ensures))))

pub returns : goal.returns
unfolding no_pages
returns c = λ i. record {
  running = (ap (λ (bs : List Bool). slots bs c.in_ok-pages.pages.items) (c.in_ok-resident.ensures.items_if_clones_equal (λ y e. e)) ∙ slots-none c.args.shape.vaddrs c.in_ok-pages.pages.items (sym c.in_ok-pages.ensures)) i;
  dirty = c.new.ensures i;
  recent = c.new-2.ensures i;
  frozen = record { addresses = c.new-3.ensures i; images = ap (λ (xs : List ℕ). map (λ page. page.main) (take (length xs) c.in_ok-images.images.items)) c.new-3.ensures i };
}
