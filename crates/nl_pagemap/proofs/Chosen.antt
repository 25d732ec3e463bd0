-- Which block is cleaned first.
use Rattle.std.proofs.Common.{◌≡◌, ℕ, ◌+◌, ◌-◌, ◌<◌, ◌≤◌, subst, arith}
use Rattle.nl_nand.specs.declared.geometry.Geometry.{Geometry}
use Rattle.nl_pagemap.specs.Cleaning.{CanBeCleaned, IsCleanedFirst}
use Rattle.nl_pagemap.specs.Mapped.{Mapped}
use Rattle.nl_pagemap.specs.Stands.{IsMapped}
use Rattle.nl_pagemap_names.specs.Untried.{HasDead, IsFewest, count_at, used_in}

module _ {tells : Type 0} {geometry : Geometry} (s : Mapped) (f : IsMapped tells geometry s) where
  -- by its place among those of the segment
  dead_at : (block : ℕ) → CanBeCleaned s block → HasDead s.shape.pages s.untried (λ i. used_in s.shape.pages s.table (s.shape.vblocks + i)) (block - s.shape.vblocks)
  dead_at block can =
      let from = can.full.from in
      let below = can.full.below in
      let count = f.counts.count in
      let segments = f.bounds.segments in
      record {
        within = omega (arith, from, below, count, segments);
        full = can.full.full;
        dead = subst (λ b. used_in s.shape.pages s.table b < s.shape.pages) (omega (arith, from)) can.dead;
      }

  pub cleaned_first : (i : ℕ) → IsFewest s.shape.pages s.untried (λ j. used_in s.shape.pages s.table (s.shape.vblocks + j)) i → IsCleanedFirst s (s.shape.vblocks + i)
  cleaned_first i is =
      let within = is.has.within in
      let count = f.counts.count in
      let segments = f.bounds.segments in
      record {
        can = record {
          full = record {
            from = omega arith;
            below = omega (arith, within, count, segments);
            full = subst (λ k. count_at s.untried k ≡ 0) (omega arith) is.has.full;
          };
          dead = is.has.dead;
        };
        fewest = λ other can.
            let from = can.full.from in
            subst (λ b. used_in s.shape.pages s.table (s.shape.vblocks + i) ≤ used_in s.shape.pages s.table b) (omega (arith, from)) (is.fewest (other - s.shape.vblocks) (dead_at other can));
      }

  pub none_cleaned : ((i : ℕ) → HasDead s.shape.pages s.untried (λ j. used_in s.shape.pages s.table (s.shape.vblocks + j)) i → ⊥) → (block : ℕ) → CanBeCleaned s block → ⊥
  none_cleaned none block can = none (block - s.shape.vblocks) (dead_at block can)
