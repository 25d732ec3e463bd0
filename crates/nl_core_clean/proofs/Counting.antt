-- The counts of failures of calls one after the other.
use Rattle.std.proofs.Common.{inl, inr, ⊎_elim, ◌∙◌, refl, arith}
use Rattle.nl_field.proofs.Crashes.{not_rose_first, not_rose_second, then_rose}
use Rattle.nl_iface.specs.Calls.{CallCounted}
use Rattle.nl_iface.specs.declared.counts.Counts.{Ghosts}

module _ {D : Type 0} (g : Ghosts D) where
  pub counted_start : (failed : Type 0) (s : D) → (failed → ⊥) → CallCounted g failed s s
  counted_start failed s fine = record {
    reads_never_fall = omega arith;
    writes_never_fall = omega arith;
    cause = λ f. absurd (fine f);
    stays = λ exact off. (refl, refl);
  }

  pub counted_as : (failed fails : Type 0) (a b : D) → (fails → failed) → (failed → fails) → CallCounted g failed a b → CallCounted g fails a b
  counted_as failed fails a b to from k = record {
    reads_never_fall = k.reads_never_fall;
    writes_never_fall = k.writes_never_fall;
    cause = λ f. k.cause (to f);
    stays = λ exact off. k.stays exact (λ f. off (from f));
  }

  -- a call that did not fail, and another one
  pub counted_then : (failed fails : Type 0) (a b d : D) → (failed → ⊥) → (g.clean a → g.clean b) → CallCounted g failed a b → CallCounted g fails b d → CallCounted g fails a d
  counted_then failed fails a b d fine clean k l = record {
    reads_never_fall = omega (arith, k.reads_never_fall, l.reads_never_fall);
    writes_never_fall = omega (arith, k.writes_never_fall, l.writes_never_fall);
    cause = λ f. ⊎_elim
        (λ r. inl (then_rose (g.read_faults a) (g.read_faults b) (g.read_faults d) k.reads_never_fall r))
        (λ w. inr (then_rose (g.write_faults a) (g.write_faults b) (g.write_faults d) k.writes_never_fall w)) (l.cause f);
    stays = λ exact off.
        let first = k.stays (⊎_elim (λ c. inl c) (λ none. inr (not_rose_first (g.write_faults a) (g.write_faults b) (g.write_faults d) l.writes_never_fall none)) exact) fine in
        let second = l.stays (⊎_elim (λ c. inl (clean c)) (λ none. inr (not_rose_second (g.write_faults a) (g.write_faults b) (g.write_faults d) k.writes_never_fall none)) exact) off in
        (second.0 ∙ first.0, second.1 ∙ first.1);
  }
