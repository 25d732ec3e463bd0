-- What calls pass on, one after another.
use Rattle.std.proofs.Common.{inl, inr, ⊎_elim, ℕ, ◌+◌, ◌≤◌, refl, ◌∙◌, arith}
use Rattle.nl_field.proofs.Crashes.{not_rose_first, not_rose_second, then_rose}
use Rattle.nl_iface.specs.Calls.{CallCounted, KeepsNamed}
use Rattle.nl_iface.specs.Names.{Names, SameTables}
use Rattle.nl_iface.specs.Space.{SameBlocks, SameSegment, Space}
use Rattle.nl_iface.specs.Stored.{Value}
use Rattle.nl_iface.specs.declared.counts.Counts.{Ghosts}
use Rattle.nl_journal.specs.Passes.{ChangesAddressesOnly, StampsRise}

tables_then : (a b c : Names) → SameTables a b → SameTables b c → SameTables a c
tables_then a b c k l = record {
  live = λ q. l.live q ∙ k.live q;
  pairs = l.pairs ∙ k.pairs;
  pending = l.pending ∙ k.pending;
  handled = λ n. l.handled n ∙ k.handled n;
  posted = l.posted ∙ k.posted;
}

segment_then : (a b c : Space) → SameSegment a b → SameSegment b c → SameSegment a c
segment_then a b c k l = record {
  block = l.block ∙ k.block;
  all = l.all ∙ k.all;
  bad = omega (arith, k.bad, l.bad);
  kept = l.kept ∙ k.kept;
}

blocks_then : (a b c : Space) → SameBlocks a b → SameBlocks b c → SameBlocks a c
blocks_then a b c k l = record {
  same = segment_then a b c k.same l.same;
  blocks = (l.blocks.0 ∙ k.blocks.0, l.blocks.1 ∙ k.blocks.1, l.blocks.2 ∙ k.blocks.2);
  pages = (l.pages.0 ∙ k.pages.0, l.pages.1 ∙ k.pages.1, l.pages.2 ∙ k.pages.2);
  cleaning = (l.cleaning.0 ∙ k.cleaning.0, l.cleaning.1 ∙ k.cleaning.1, l.cleaning.2 ∙ k.cleaning.2);
  room = omega (arith, k.room, l.room);
}

module _ {D : Type 0} (g : Ghosts D) where
  named_start : (s : D) → KeepsNamed g s s
  named_start s = record {
    same_shape = refl;
    tables = record { live = λ q. refl; pairs = refl; pending = refl; handled = λ n. refl; posted = refl };
    space = record {
      same = record { block = refl; all = refl; bad = omega arith; kept = refl };
      blocks = (refl, refl, refl);
      pages = (refl, refl, refl);
      cleaning = (refl, refl, refl);
      room = omega arith;
    };
    names = λ off. refl;
    bytes = λ t p. refl;
    found = refl;
    clean = λ c. c;
  }

  -- no call
  pub passes_start : (done : Type 0) (most : ℕ) (s : D) → g.keeps_spare s → ChangesAddressesOnly g done most s s
  passes_start done most s spare = record {
    named = named_start s;
    spare = record { cleaned = λ d. spare; sound = λ off. spare };
    stamps = record { never_falls = omega arith; at_most = omega arith; paid = λ c w. omega arith };
    failed = λ t v x f. inl f;
  }

  module _ (a b d : D) (first_writes : g.write_faults a ≤ g.write_faults b) (writes : g.write_faults b ≤ g.write_faults d) where
    named_then : KeepsNamed g a b → KeepsNamed g b d → KeepsNamed g a d
    named_then k l = record {
      same_shape = l.same_shape ∙ k.same_shape;
      tables = tables_then (g.names a) (g.names b) (g.names d) k.tables l.tables;
      space = blocks_then (g.names a).space (g.names b).space (g.names d).space k.space l.space;
      names = λ off. l.names (not_rose_second (g.write_faults a) (g.write_faults b) (g.write_faults d) first_writes off) ∙ k.names (not_rose_first (g.write_faults a) (g.write_faults b) (g.write_faults d) writes off);
      bytes = λ t p. l.bytes t p ∙ k.bytes t p;
      found = l.found ∙ k.found;
      clean = λ s. l.clean (k.clean s);
    }

    stamps_then : (m n : ℕ) → g.clock b ≤ g.clock d → StampsRise g m a b → StampsRise g n b d → StampsRise g (m + n) a d
    stamps_then m n clock k l = record {
      never_falls = omega (arith, k.never_falls, l.never_falls);
      at_most = omega (arith, k.at_most, l.at_most);
      paid = λ c w. let p = k.paid (omega (arith, clock, c)) (omega (arith, writes, w)) in let q = l.paid c w in omega (arith, p, q);
    }

    -- a call that was done, and then another one
    pub passes_then : (done over : Type 0) (m n : ℕ) → done → g.clock b ≤ g.clock d → ChangesAddressesOnly g done m a b → ChangesAddressesOnly g over n b d → ChangesAddressesOnly g over (m + n) a d
    passes_then done over m n is_done clock k l = record {
      named = named_then k.named l.named;
      spare = record { cleaned = l.spare.cleaned; sound = λ off. l.spare.sound (not_rose_second (g.write_faults a) (g.write_faults b) (g.write_faults d) first_writes off) };
      stamps = stamps_then m n clock k.stamps l.stamps;
      failed = λ t v x f. ⊎_elim
          (λ mid. ⊎_elim (λ old. inl old) (λ new. absurd (new.0 is_done)) (k.failed t v x mid))
          (λ new. inr (new.0, then_rose (g.write_faults a) (g.write_faults b) (g.write_faults d) first_writes new.1)) (l.failed t v x f);
    }

    pub counted_then : (failed fails : Type 0) → (failed → ⊥) → (g.clean a → g.clean b) → CallCounted g failed a b → CallCounted g fails b d → CallCounted g fails a d
    counted_then failed fails fine clean k l = record {
      reads_never_fall = omega (arith, k.reads_never_fall, l.reads_never_fall);
      writes_never_fall = omega (arith, k.writes_never_fall, l.writes_never_fall);
      cause = λ f. ⊎_elim
          (λ r. inl (then_rose (g.read_faults a) (g.read_faults b) (g.read_faults d) k.reads_never_fall r))
          (λ w. inr (then_rose (g.write_faults a) (g.write_faults b) (g.write_faults d) k.writes_never_fall w)) (l.cause f);
      stays = λ exact off.
          let first = k.stays (⊎_elim (λ c. inl c) (λ none. inr (not_rose_first (g.write_faults a) (g.write_faults b) (g.write_faults d) writes none)) exact) fine in
          let second = l.stays (⊎_elim (λ c. inl (clean c)) (λ none. inr (not_rose_second (g.write_faults a) (g.write_faults b) (g.write_faults d) first_writes none)) exact) off in
          (second.0 ∙ first.0, second.1 ∙ first.1);
    }

  pub counted_start : (failed : Type 0) (s : D) → (failed → ⊥) → CallCounted g failed s s
  counted_start failed s fine = record {
    reads_never_fall = omega arith;
    writes_never_fall = omega arith;
    cause = λ f. absurd (fine f);
    stays = λ exact off. (refl, refl);
  }

  pub passes_most : (done : Type 0) (m n : ℕ) (a b : D) → m ≤ n → ChangesAddressesOnly g done m a b → ChangesAddressesOnly g done n a b
  passes_most done m n a b le k = record {
    named = k.named;
    spare = k.spare;
    stamps = record { never_falls = k.stamps.never_falls; at_most = let most = k.stamps.at_most in omega (arith, most, le); paid = k.stamps.paid };
    failed = k.failed;
  }

  -- by another answer
  pub passes_by : (done over : Type 0) (n : ℕ) (a b : D) → (over → done) → (done → over) → ChangesAddressesOnly g done n a b → ChangesAddressesOnly g over n a b
  passes_by done over n a b to from k = record {
    named = k.named;
    spare = record { cleaned = λ o. k.spare.cleaned (to o); sound = k.spare.sound };
    stamps = k.stamps;
    failed = λ t v x f. ⊎_elim (λ old. inl old) (λ new. inr ((λ o. new.0 (to o)), new.1)) (k.failed t v x f);
  }

  pub none_failed : (done : Type 0) (n : ℕ) (a b : D) → g.tells → done → ChangesAddressesOnly g done n a b → (v : ℕ) (x : Value) → g.failed b v x → g.failed a v x
  none_failed done n a b t is_done k v x f = ⊎_elim (λ old. old) (λ new. absurd (new.0 is_done)) (k.failed t v x f)
