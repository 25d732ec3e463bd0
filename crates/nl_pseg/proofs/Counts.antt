-- The counts of a medium over two calls.
use Rattle.nl_pseg.specs.Answers.{IsWriteFault, IsPlaced}
use Rattle.nl_field.specs.declared.pointer.Pointer.{Pointer}
use Rattle.std.proofs.Common.{◌≡◌, inl, inr, ℕ, ◌+◌, ◌≤◌, refl, ◌∙◌, ap, arith, ⊎_elim, ◌<◌, ◌↔◌, Bool, false, IsTrue, sym}
use Rattle.std.proofs.lemmas.Bool.{cases_lt, true≢false}
use Rattle.nl_field.specs.CrashStates.{Earlier, saturated, top}
use Rattle.nl_field.specs.declared.answers.Named.{Named}
use Rattle.nl_field.specs.declared.answers.Named.TheVariants as the
use Rattle.nl_nand.specs.Nand.{FaultsCounted}
use Rattle.nl_pseg.specs.Effects.{WriteCounted}

module _ {M : Type 0} {clock read_faults write_faults : M → ℕ} where
  -- an erase failed
  pub counted_failed : {ready failed : Type 0} {a b : M} → (clock a ≤ clock b) × (clock b ≤ clock a + 1) → (ready → clock b ≡ clock a) → read_faults b ≡ read_faults a → FaultsCounted (write_faults a) (write_faults b) failed → failed
      → WriteCounted clock read_faults write_faults ready a b the.Fault
  counted_failed {ready} {failed} {a} {b} within still reads writes f = record {
    later = within.0;
    few = omega (arith, within.1);
    placed = λ placed. absurd placed;
    one = λ r placed. absurd placed;
    none = λ r not. still r;
    reads = reads;
    more = writes.never_falls;
    failed = λ fault. writes.cause f;
    well = λ not. absurd (not refl);
  }

  few_is : {ready : Type 0} (a : M) {b d : M} (answer : Named) → ready → clock b ≤ clock a + 1 → WriteCounted clock read_faults write_faults ready b d answer → clock d ≤ clock a + 2
  few_is a (the.Placed at) r within c = let e = c.one r tt in omega (arith, e, within)
  few_is a the.NotLive r within c = let e = c.none r (λ p. p) in omega (arith, e, within)
  few_is a the.NoPage r within c = let e = c.none r (λ p. p) in omega (arith, e, within)
  few_is a the.Fault r within c = let e = c.none r (λ p. p) in omega (arith, e, within)

  -- a call that did not fail, and then a program
  pub counted_then : {ready more failed : Type 0} {a b d : M} (answer : Named) → (clock a ≤ clock b) × (clock b ≤ clock a + 1) → (ready → clock b ≡ clock a) → read_faults b ≡ read_faults a → FaultsCounted (write_faults a) (write_faults b) failed
      → (failed → ⊥) → more → WriteCounted clock read_faults write_faults more b d answer → WriteCounted clock read_faults write_faults ready a d answer
  counted_then {ready} {more} {failed} {a} {b} {d} answer within still reads writes well r c = record {
    later = omega (arith, within.0, c.later);
    few = few_is a answer r within.1 c;
    placed = λ placed. later (c.placed placed);
    one = λ is placed. c.one r placed ∙ ap (λ n. saturated (n + 1)) (still is);
    none = λ is not. c.none r not ∙ still is;
    reads = c.reads ∙ reads;
    more = let a = writes.never_falls in let b = c.more in omega (arith, a, b);
    failed = λ fault. c.failed fault ∙ ap (λ n. saturated (n + 1)) (writes.stays well);
    well = λ not. c.well not ∙ writes.stays well;
  }
    where
      later : Earlier (clock b) (clock d) → Earlier (clock a) (clock d)
      later strict below = elim (cases_lt (clock b) top) [
        | inl lt ↦ let less = strict lt in omega (arith, within.0, less)
        | inr end ↦ omega (arith, end, below, c.later)
      ]

  -- nothing was done
  pub nothing_counted : {ready : Type 0} (a : M) (answer : Named) → (IsPlaced answer → ⊥) → (IsWriteFault answer → ⊥) → WriteCounted clock read_faults write_faults ready a a answer
  nothing_counted a answer none well = record {
    later = omega arith;
    few = omega arith;
    placed = λ placed. absurd (none placed);
    one = λ r placed. absurd (none placed);
    none = λ r not. refl;
    reads = refl;
    more = omega arith;
    failed = λ fault. absurd (well fault);
    well = λ not. refl;
  }

  -- a program failed
  pub program_failed : {ready failed : Type 0} {a b : M} → clock b ≡ clock a → read_faults b ≡ read_faults a → FaultsCounted (write_faults a) (write_faults b) failed → failed → WriteCounted clock read_faults write_faults ready a b the.Fault
  program_failed still reads writes f = record {
    later = omega (arith, still);
    few = omega (arith, still);
    placed = λ placed. absurd placed;
    one = λ r placed. absurd placed;
    none = λ r not. still;
    reads = reads;
    more = writes.never_falls;
    failed = λ fault. writes.cause f;
    well = λ not. absurd (not refl);
  }

  -- a page was programmed
  pub program_done : {ready failed : Type 0} {a b : M} (at : Pointer) → clock a ≤ clock b → clock b ≡ saturated (clock a + 1) → read_faults b ≡ read_faults a → FaultsCounted (write_faults a) (write_faults b) failed → (failed → ⊥)
      → WriteCounted clock read_faults write_faults ready a b (the.Placed at)
  program_done at later tick reads writes well = record {
    later = later;
    few = omega (arith, tick);
    placed = λ placed below. omega (arith, tick, below);
    one = λ r placed. tick;
    none = λ r not. absurd (not tt);
    reads = reads;
    more = writes.never_falls;
    failed = λ fault. absurd (cc fault);
    well = λ not. writes.stays well;
  }

-- there is none where there are not some
pub none_left : {n : ℕ} {some : Bool} → (IsTrue some ↔ (0 < n)) → some ≡ false → n ≡ 0
none_left {n} is not = ⊎_elim (λ more. absurd (true≢false (sym (is.1 more) ∙ not))) (λ few. omega (arith, few)) (cases_lt 0 n)
