-- What stays where a block was told to be soiled.
use Rattle.std.proofs.Common.{inl, inr, ⊎_elim, ℕ, ◌/◌, ◌<◌, ◌≤◌, List, Option, Some, None, get_or, sym, ◌∙◌, ap, subst}
use Rattle.nl_field.specs.Page.{Image}
use Rattle.nl_pseg.specs.Opened.{Soils}
use Rattle.nl_pseg.specs.Segment.{CanSpareBlock, KeepsBlock, Physical}
use Rattle.nl_pseg.specs.declared.held.Held.{Held}

module _ {block wear : ℕ} {old new : Physical} (e : Soils block wear old new) where
  pub soils_kept : KeepsBlock old → KeepsBlock new
  soils_kept k = record {
    block = k.block;
    from = subst (λ n. n ≤ k.block) (sym e.range.range_first) k.from;
    below = subst (λ n. k.block < n) (sym e.range.range_blocks) k.below;
    kept = ⊎_elim (λ is. inl ((e.same k.block).1 ∙ is)) (λ is. inr (e.victim ∙ is)) k.kept;
  }

  pub soils_spare : (image : Image) → CanSpareBlock image old → CanSpareBlock image new
  soils_spare image k =
      let size = e.range.range_size in
      record {
        block = k.block;
        from = subst (λ n. n ≤ k.block) (sym e.range.range_first) k.from;
        below = subst (λ n. k.block < n) (sym e.range.range_blocks) k.below;
        idle = λ p next at. k.idle p (e.next p next) (ap (λ n. p / n) (sym size) ∙ at);
        copied = λ p h held at.
            let w = k.copied p h (ap (λ (l : List (Option Held)). get_or l p None) (sym e.held) ∙ held) (ap (λ n. p / n) (sym size) ∙ at) in
            (w.0, e.victim ∙ (w.1 ∙ ap (λ n. Some (w.0 / n)) (sym size)), (λ q. w.2 (ap (λ n. w.0 / n) (sym size) ∙ q)), w.3);
      }
