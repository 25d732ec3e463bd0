-- What is seen of two states, where names are gone.
use Rattle.std.proofs.Common.{◌≡◌, ℕ, ◌+◌, ◌≤◌, None, get_or, arith}
use Rattle.nl_blocks.specs.Table.{IsBlockTable}
use Rattle.nl_pseg.specs.Seen.{IsPhysicalFormed, IsTied, seen}
use Rattle.nl_pseg.specs.Space.{GivesBackBlocks, HasFewPairs, Lessens, gain_of, left_in_victim, reach}
use Rattle.nl_pseg.specs.Steps.{EndsPage, NamesGoneFromSegment}
use Rattle.nl_pseg.specs.Kept.{Kept}
use Rattle.nl_pseg.proofs.Ended.{few_on, gone_back, gone_lessens, same_reach}
use Rattle.nl_pseg.proofs.Holds.{holds_whole}
use Rattle.nl_pseg.proofs.Lefts.{gain_by, left_ended, left_same}
use Rattle.nl_pseg.proofs.States.{within_length}

module _ (s x : Kept) (is : IsPhysicalFormed s) (tied : IsTied s) (table : IsBlockTable s.blocks) (few : HasFewPairs (seen s)) (now : IsPhysicalFormed x) (tied_now : IsTied x) (table_now : IsBlockTable x.blocks) where
  module _ (g : NamesGoneFromSegment (seen s) (seen x)) (held : x.held ≡ s.held) where
    same_left : left_in_victim (seen x) ≡ left_in_victim (seen s)
    same_left = left_same s x is tied table now tied_now table_now g.range.range_size g.victim (λ b p named from below. (λ i. get_or (held i).items p None))

    pub dropped_few : HasFewPairs (seen x)
    dropped_few = let e = same_left in few_on (seen s) (seen x) g.victim g.range.range_size g.fewer (omega (arith, e)) few

    same_gain : gain_of (seen x) ≡ gain_of (seen s)
    same_gain =
        let e = same_left in
        let sum = gain_by s x is tied table now tied_now table_now g.range.range_size g.victim (holds_whole s is tied table few) (holds_whole x now tied_now table_now dropped_few) in
        omega (arith, e, sum)

    pub dropped_space : Lessens 0 (seen s) (seen x)
    dropped_space = let e = same_left in gone_lessens g 0 (omega (arith, e)) (omega (arith, e))

    pub dropped_reach : reach (seen x) ≡ reach (seen s)
    dropped_reach = same_reach g same_gain

    pub dropped_back : GivesBackBlocks (seen s) (seen x)
    dropped_back = let e = same_gain in gone_back g (omega (arith, e))

  module _ {page : ℕ} (d : EndsPage page (seen s) (seen x)) where
    less_left : (left_in_victim (seen x) ≤ left_in_victim (seen s)) × (left_in_victim (seen s) ≤ left_in_victim (seen x) + 1)
    less_left = left_ended s x is tied table now tied_now table_now d.gone.range.range_size d.gone.victim page (within_length s is page d.within) d.held

    pub ended_few : HasFewPairs (seen x)
    ended_few = few_on (seen s) (seen x) d.gone.victim d.gone.range.range_size d.gone.fewer less_left.0 few

    pub ended_space : Lessens 1 (seen s) (seen x)
    ended_space = gone_lessens d.gone 1 less_left.0 less_left.1

    pub ended_back : GivesBackBlocks (seen s) (seen x)
    ended_back =
        let e = less_left in
        let sum = gain_by s x is tied table now tied_now table_now d.gone.range.range_size d.gone.victim (holds_whole s is tied table few) (holds_whole x now tied_now table_now ended_few) in
        gone_back d.gone (omega (arith, e.0, sum))
