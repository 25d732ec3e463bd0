use Rattle.std.proofs.Common.{arith}
use Rattle.nl_meta.specs.Pages.{page_of}
use Rattle.nl_recover.proofs.HeldFacts.{pieces-more, starts}
use Rattle.nl_check.proofs.held.some_held.Goals as goal

pub loop-i-init : goal.loop-i-init
loop-i-init c = record { held = starts (page_of c.args.meta.now) c.args.ino c.args.rec.now c.args.from c.args.held.now; longer = omega arith }

pub loop-i-preserved : goal.loop-i-preserved
loop-i-preserved c = record {
  held = pieces-more (page_of c.args.meta.now) c.args.ino c.args.rec.now c.args.from c.loop-i.i c.args.held.now c.loop-i.held c.one_held.new.held c.loop-i.invariant.held c.in_ok-one_held.ensures.held;
  longer = let a = c.in_ok-one_held.ensures.longer in let b = c.loop-i.invariant.longer in omega (arith, a, b);
}
