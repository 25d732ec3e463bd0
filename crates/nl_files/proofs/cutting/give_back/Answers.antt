use Rattle.std.proofs.Common.{◌≡◌, ◌+◌, sym, ap, subst, ◌∙◌, ℕ, get_or, arith}
use Rattle.nl_inode.specs.Nodes.{Spaces}
use Rattle.nl_files.proofs.GivingBack.{GivesUpTo, gives-all, gives-nothing, gives-one}
use Rattle.nl_files.proofs.cutting.give_back.Goals as goal
use Rattle.nl_files.proofs.cutting.give_back.Goals.{then-was-range-ne0+then-is-range-eq0, else-was-range-ne0, else-was-range-ne0-via-then-was-range-ne0+else-is-range-eq0, else-was-range-ne0-via-else-was-range-ne0}

pub loop-range-preserved : goal.loop-range-preserved
loop-range-preserved c =
    let was = c.args.was.now in
    let is = c.args.is.now in
    let n = c.loop-range.range in
    let gives = c.loop-range.invariant in
    elim c.if-was-range-ne0.branch [
      | then-was-range-ne0+then-is-range-eq0 w ↦
          subst (λ (s : Spaces). GivesUpTo (n + 1) was is c.args.nodes.now s) (sym w.nodes-is)
          (gives-one n was is c.args.nodes.now c.loop-range.nodes gives w.give_pool.new.self w.if-was-range-ne0.true w.if-is-range-eq0.true
          (let first = gives.first in let from = (c.requires.pool n w.if-was-range-ne0.true).0 in omega (arith, first, from)) w.give_pool.ensures)
      | else-was-range-ne0 w ↦
          subst (λ (s : Spaces). GivesUpTo (n + 1) was is c.args.nodes.now s) (sym w.nodes-is)
          (gives-nothing n was is c.args.nodes.now c.loop-range.nodes gives
          (λ a l e.
          elim w.else-was-range-ne0.branch [
            | else-was-range-ne0-via-then-was-range-ne0+else-is-range-eq0 w' ↦ absurd (w'.if-is-range-eq0.false (ap (λ (r : ℕ). get_or is r 0) (sym e) ∙ l.gone))
            | else-was-range-ne0-via-else-was-range-ne0 w' ↦ absurd (l.not_zero (sym l.had ∙ ap (λ (r : ℕ). get_or was r 0) e ∙ w'.if-was-range-ne0.false))
          ]))
    ]

pub returns : goal.returns
returns c =
    let low = c.loop-range-test.false in
    let high = c.loop-range.auto.range-end in
    let e : c.loop-range.range ≡ 16 = omega (arith, low, high) in
    gives-all c.args.was.now c.args.is.now c.args.nodes.now c.loop-range.nodes c.told-was
    (subst (λ (n : ℕ). GivesUpTo n c.args.was.now c.args.is.now c.args.nodes.now c.loop-range.nodes) e c.loop-range.invariant)
