use Rattle.std.proofs.Common.{◌≡◌, ℕ, ◌+◌, ◌*◌, ◌/◌, ◌<◌, ◌≤◌, ap, subst, sym, arith}
use Rattle.std.proofs.Math.Nat.{div-mul-le_self, lt-div-mul-add}
use Rattle.nl_field.specs.Page.{Image}
use Rattle.nl_nand.specs.Nand.{CanProgram, ErasedWithin}
use Rattle.nl_test_check.proofs.medium.put.Goals as goal

can : (image : Image) (page : ℕ) → image.pages ≡ 32 → page < 1024 → ErasedWithin image page 1024 → CanProgram image page
can image page pages within erased =
    let from : page / 32 * 32 ≤ page = div-mul-le_self page 32 in
    let above : page < page / 32 * 32 + 32 = lt-div-mul-add (omega arith) in
    record {
      block = page / 32;
      from = subst (λ n. page / 32 * n ≤ page) (sym pages) from;
      below = subst (λ n. page < page / 32 * n + n) (sym pages) above;
      rest_erased = λ p low high.
          let high' : p < page / 32 * 32 + 32 = subst (λ n. p < page / 32 * n + n) pages high in
          erased p low (omega (arith, high', from, above, within));
    }

pub program-requires-clause-erased : goal.program-requires-clause-erased
program-requires-clause-erased c = can _ c.args.page (ap (λ g. g.pages) c.requires.geometry) c.requires.within c.requires.erased
