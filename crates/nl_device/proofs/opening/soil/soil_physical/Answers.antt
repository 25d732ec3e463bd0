use Rattle.std.proofs.Common.{◌≡◌, inl, inr, ◌/◌, ◌∙◌, refl, sym, ap, subst, arith}
use Rattle.std.proofs.lemmas.Bool.{cases_lt}
use Rattle.nl_device.specs.Opening.{SaysErased}
use Rattle.nl_pseg.specs.Segment.{IsClean}
use Rattle.nl_device.proofs.opening.soil.soil_physical.Goals as goal

pub loop-block-preserved : goal.loop-block-preserved
loop-block-preserved c =
    let i = c.loop-block.invariant in
    let s = c.soil_one.ensures in
    let less = i.same.left in
    let block = c.loop-block.block in
    let size = c.args.pseg.now.size in
    record {
      same = record {
        same_held = s.same.same_held ∙ i.same.same_held;
        same_pairs = s.same.same_pairs ∙ i.same.same_pairs;
        same_first = s.same.same_first ∙ i.same.same_first;
        same_blocks = s.same.same_blocks ∙ i.same.same_blocks;
        same_size = s.same.same_size ∙ i.same.same_size;
        same_free = s.same.same_free ∙ i.same.same_free;
        left = let left = s.same.left in omega (arith, left, less);
        same_uses = λ b. s.same.same_uses b ∙ i.same.same_uses b;
      };
      erased = λ p is.
          let now = s.erased p is in
          let was = i.erased p now.0 in (
            was.0,
            λ from below. elim (cases_lt (p / size) block) [
              | inl lower ↦ was.1 from lower
              | inr high ↦
                  let here : p / size ≡ block = omega (arith, below, high) in
                  subst (SaysErased c.args.tables.now) (sym here) (sym c.erased.ensures ∙ now.1 (ap (λ k. p / k) i.same.same_size ∙ here))
            ],
          );
      clean = λ all. subst IsClean (sym (s.skipped (c.erased.ensures ∙ all block (omega arith) (omega arith)))) (i.clean (λ b from below. all b from (omega (arith, below))));
      kept = s.kept i.kept;
      whole = s.whole i.whole;
      none = s.none;
      copies = λ p next. i.copies p (s.copies p next);
    }

pub loop-block-init : goal.loop-block-init
loop-block-init c = record {
  same = record { same_held = refl; same_pairs = refl; same_first = refl; same_blocks = refl; same_size = refl; same_free = refl; left = omega arith; same_uses = λ b. refl };
  erased = λ p is. (is, λ from below. absurd (omega arith));
  clean = λ all. c.requires.clean;
  kept = c.requires.kept;
  whole = c.requires.whole;
  none = c.requires.none;
  copies = λ p next. next;
}

pub soil_one-requires-clause-none : goal.soil_one-requires-clause-none
soil_one-requires-clause-none c = c.loop-block.invariant.none

pub soil_one-requires-clause-from : goal.soil_one-requires-clause-from
soil_one-requires-clause-from c =
    let a = c.loop-block.invariant.same.same_first in
    let b = c.requires.first in
    let d = c.loop-block.auto.block in
    omega arith

pub soil_one-requires-clause-below : goal.soil_one-requires-clause-below
soil_one-requires-clause-below c =
    let a = c.loop-block.invariant.same.same_blocks in
    let b = c.requires.end in
    let d = c.loop-block-test.true in
    omega arith

pub returns-clause-same : goal.returns-clause-same
returns-clause-same c = c.loop-block.invariant.same

pub returns-clause-erased : goal.returns-clause-erased
returns-clause-erased c p is =
    let x = c.loop-block.invariant.erased p is in
    let past = c.loop-block-test.false in
    (x.0, λ from below. x.1 from (omega arith))

pub returns-clause-clean : goal.returns-clause-clean
returns-clause-clean c all =
    let most = c.loop-block.auto.block-end c.requires.order in
    c.loop-block.invariant.clean (λ b from below. all b from (omega arith))

pub returns-clause-kept : goal.returns-clause-kept
returns-clause-kept c = c.loop-block.invariant.kept

pub returns-clause-whole : goal.returns-clause-whole
returns-clause-whole c = c.loop-block.invariant.whole

pub returns-clause-none : goal.returns-clause-none
returns-clause-none c = c.loop-block.invariant.none

pub returns-clause-copies : goal.returns-clause-copies
returns-clause-copies c = c.loop-block.invariant.copies
