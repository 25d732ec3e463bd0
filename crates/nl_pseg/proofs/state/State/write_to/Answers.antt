use Rattle.std.specs.Vec.{with_item}
use Rattle.nl_pseg.specs.Steps.{opened_at}
use Rattle.nl_blocks.specs.Used.{is_active_state, used_in}
use Rattle.nl_pseg.proofs.Closed.{as_counted}
use Rattle.nl_pseg.specs.Kept.{Kept, all_used, kept}
use Rattle.nl_pseg.specs.Seen.{IsPhysicalFormed, IsTied, seen}
use Rattle.std.proofs.Common.{None, ◌∙◌, subst, arith, length-set, refl, ◌*◌, ◌+◌, ◌-◌, ◌≡◌}
use Rattle.nl_pseg.proofs.Numbers.{block_of}
use Rattle.nl_pseg.proofs.Taken.{taken_tied}
use Rattle.nl_pseg.proofs.state.State.write_to.Goals as goal

pub returns-clause-formed : goal.returns-clause-formed
returns-clause-formed c =
    let s = all_used (kept c.args.self.now) in
    let is = c.requires.formed in
    let new : Kept = record s { soiled = with_item s.soiled c.args.block None; active = c.args.block; used = 0 } in
    let formed : IsPhysicalFormed new = record {
      some = is.some;
      numbers = is.numbers;
      pages = is.pages;
      marks = length-set s.soiled.items c.args.block None ∙ is.marks;
      active_in = c.requires.has;
      used_fits = omega arith;
      taken = λ lt. c.requires.active;
      marked = is.marked;
      places = record {
        each = λ p h named.
            let was = is.places.each p h named in
            record {
              within = was.within;
              in_use = was.in_use;
              behind = λ next. c.requires.in_use p h named (block_of p s.blocks.size c.args.block (omega (arith, next.0)) (omega (arith, next.1)));
              spelled = was.spelled;
            };
      };
    } in
    subst IsPhysicalFormed (as_counted new _ _ c.requires.unused refl) formed

pub returns-clause-tied : goal.returns-clause-tied
returns-clause-tied c =
    let s = all_used (kept c.args.self.now) in
    let new : Kept = record s { soiled = with_item s.soiled c.args.block None; active = c.args.block; used = 0 } in
    subst IsTied (as_counted new _ _ c.requires.unused refl) (taken_tied s c.args.block c.requires.taking c.requires.formed.some c.requires.active)

pub returns-clause-opened : goal.returns-clause-opened
returns-clause-opened c =
    let s = kept c.args.self.now in
    let block = c.args.block in
    let unused = c.requires.unused in
    let next : block * s.blocks.size + used_in is_active_state s.blocks block ≡ block * s.blocks.size = omega (arith, unused) in
    let left : s.blocks.size - used_in is_active_state s.blocks block ≡ s.blocks.size = omega (arith, unused) in
    (λ i. record (opened_at (seen s) block) { next = next i; left = left i })
