use Rattle.std.proofs.Common.{◌≡◌, ◌+◌, ◌*◌, ◌∙◌, ◌++◌, ℕ, ap, arith}
use Rattle.nl_meta.specs.Pages.{page_of}
use Rattle.nl_recover.specs.Held.{held_from}
use Rattle.nl_recover.proofs.HeldFacts.{rows-more}
use Rattle.nl_check.proofs.held.file_held.Goals as goal

pub loop-range-preserved : goal.loop-range-preserved
loop-range-preserved c = record {
  held = rows-more (page_of c.args.meta.now) c.args.ino c.args.rec.now (8 + 256 * c.loop-range.range) 256 (8 + 256 * (c.loop-range.range + 1)) c.args.held.now c.loop-range.held c.range_held.new.held (omega arith)
      c.loop-range.invariant.held c.in_ok-range_held.ensures.held;
  longer = let a = c.in_ok-range_held.ensures.longer in let b = c.loop-range.invariant.longer in omega (arith, a, b);
}

pub returns-clause-held : goal.returns-clause-held
returns-clause-held c =
    let past = c.loop-range-test.false in
    let most = c.loop-range.auto.range-end in
    let end : 8 + 256 * c.loop-range.range ≡ 4104 = omega (arith, past, most) in
    c.loop-range.invariant.held ∙ ap (λ (k : ℕ). c.args.held.now ++ held_from (page_of c.args.meta.now) c.args.ino c.args.rec.now 0 k) end
