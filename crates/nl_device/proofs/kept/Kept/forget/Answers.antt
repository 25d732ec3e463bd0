use Rattle.std.proofs.Common.{List, length, arith, subst, sym}
use Rattle.nl_device.specs.Kept.{AreKeptPages}
use Rattle.nl_device.specs.declared.kept.page.KeptPage.{KeptPage}
use Rattle.nl_device.proofs.Noting.{noted_none}
use Rattle.nl_device.proofs.kept.Kept.forget.Goals as goal

pub invariant_of-self : goal.invariant_of-self
invariant_of-self c =
    let k = c.self.inside in
    subst (λ (l : List KeptPage). AreKeptPages (record { first = k.first; count = length k.alone.items; size = k.size; pages = l }) c.clear-2.new.self) (sym c.clear.ensures.items) (record {
      some = c.self.invariant.some;
      few = c.self.invariant.few;
      rising = λ i j d before within. absurd (omega (arith, within));
      within = λ i d within. absurd (omega (arith, within));
      noted = noted_none k.size c.clear-2.new.self c.clear-2.ensures.empty;
    })
