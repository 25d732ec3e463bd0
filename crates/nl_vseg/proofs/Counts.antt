-- Counts and crash states over two calls.
use Rattle.std.proofs.Common.{◌≡◌, inl, inr, ⊎_elim, ℕ, ◌≤◌, refl, ◌∙◌, arith, List, Option}
use Rattle.nl_field.specs.CrashStates.{Rose, LeavesOnly, Turns, Earlier}
use Rattle.nl_field.specs.Page.{Image}
use Rattle.nl_nand.specs.Nand.{FaultsCounted, ticked}
use Rattle.nl_nand.specs.declared.answers.WriteAnswer.{WriteAnswer}
use Rattle.nl_nand.specs.declared.answers.WriteAnswer.TheVariants as write
use Rattle.nl_nand.proofs.Crashes.{weaken, then, turns_later}
use Rattle.nl_vseg.specs.Effects.{ImageKeepsMap, GainsValue, KeepsMap, CallIsCounted}

rose_later : (a b d : ℕ) → b ≡ a → Rose b d → Rose a d
rose_later a b d same rose = omega (arith, same, rose)

-- a count rose with the failure that it counts
pub rose_counted : {before now : ℕ} {F : Type 0} → F → FaultsCounted before now F → Rose before now
rose_counted failed counted = let e = counted.cause failed in omega (arith, e)

-- a moment before that after an operation
pub ticked_done : (old new : ℕ) → new ≡ ticked old write.Done → Earlier old new
ticked_done old new tick below = omega (arith, tick, below)

module _ {M : Type 0} {clock read_faults write_faults : M → ℕ} where
  -- nothing was called
  pub counted_start : (s : M) {F : Type 0} → (F → ⊥) → CallIsCounted clock read_faults write_faults s s F
  counted_start s never = record {
    later = omega arith;
    more_reads = omega arith;
    more_writes = omega arith;
    cause = λ f. absurd (never f);
    stays = λ not. (refl, refl);
  }

  -- another name for the failure
  pub counted_as : {old new : M} {F G : Type 0} → (F → G) → (G → F) → CallIsCounted clock read_faults write_faults old new F → CallIsCounted clock read_faults write_faults old new G
  counted_as to from c = record {
    later = c.later;
    more_reads = c.more_reads;
    more_writes = c.more_writes;
    cause = λ g. c.cause (from g);
    stays = λ not. c.stays (λ f. not (to f));
  }

  -- a call that did not fail, and then another
  pub counted_then : {a b d : M} {F G : Type 0} → (F → ⊥) → CallIsCounted clock read_faults write_faults a b F → CallIsCounted clock read_faults write_faults b d G → CallIsCounted clock read_faults write_faults a d G
  counted_then {a} {b} {d} not first second = record {
    later = omega (arith, first.later, second.later);
    more_reads = omega (arith, first.more_reads, second.more_reads);
    more_writes = omega (arith, first.more_writes, second.more_writes);
    cause = λ g. ⊎_elim
        (λ r. inl (rose_later (read_faults a) (read_faults b) (read_faults d) (first.stays not).0 r))
        (λ w. inr (rose_later (write_faults a) (write_faults b) (write_faults d) (first.stays not).1 w))
        (second.cause g);
    stays = λ ok. ((second.stays ok).0 ∙ (first.stays not).0, (second.stays ok).1 ∙ (first.stays not).1);
  }

  -- a program or an erase
  pub counted_write : {old new : M} (answer : WriteAnswer) → clock old ≤ clock new → read_faults new ≡ read_faults old
      → FaultsCounted (write_faults old) (write_faults new) (answer ≡ write.Failed) → CallIsCounted clock read_faults write_faults old new (answer ≡ write.Failed)
  counted_write answer later reads writes = record {
    later = later;
    more_reads = omega (arith, reads);
    more_writes = writes.never_falls;
    cause = λ failed. inr (let e = writes.cause failed in omega (arith, e));
    stays = λ not. (reads, writes.stays not);
  }

  -- a read
  pub counted_read : {old new : M} {F : Type 0} → clock new ≡ clock old → FaultsCounted (read_faults old) (read_faults new) F → write_faults new ≡ write_faults old
      → CallIsCounted clock read_faults write_faults old new F
  counted_read same reads writes = record {
    later = omega (arith, same);
    more_reads = reads.never_falls;
    more_writes = omega (arith, writes);
    cause = λ failed. inl (let e = reads.cause failed in omega (arith, e));
    stays = λ not. (reads.stays not, writes);
  }

-- what is kept after a step that kept the map is kept from before
pub keeps_from : {pages bound : ℕ} {first second : ℕ → Option (ℕ × List ℕ)} {a b c : Image} → ((v : ℕ) → second v ≡ first v) → ImageKeepsMap pages bound first a b
    → ImageKeepsMap pages bound second b c → ImageKeepsMap pages bound first a c
keeps_from same before k = record {
  spare = k.spare;
  within = k.within;
  there = λ v s main is. k.there v s main (same v ∙ is);
  no_more = λ v t n shows. before.no_more v t n (k.no_more v t n shows);
  beyond = λ p above. k.beyond p above ∙ before.beyond p above;
}

pub takes_from : {pages bound v s : ℕ} {main : List ℕ} {first second : ℕ → Option (ℕ × List ℕ)} {a b c : Image} → ((u : ℕ) → second u ≡ first u) → ImageKeepsMap pages bound first a b
    → GainsValue pages bound second v s main b c → GainsValue pages bound first v s main a c
takes_from same before k = record {
  spare = k.spare;
  within = k.within;
  new = k.new;
  there = λ u t n is. k.there u t n (same u ∙ is);
  no_more = λ u t n shows. ⊎_elim (λ was. inl (before.no_more u t n was)) (λ is. inr is) (k.no_more u t n shows);
  beyond = λ p above. k.beyond p above ∙ before.beyond p above;
}

module _ {M : Type 0} {clock : M → ℕ} {contents : M → Image} {left : M → ℕ → Image → Type 0} {pages bound : ℕ} where
  -- two calls that leave the map
  pub keeps_then : {m0 m1 m2 : ℕ → Option (ℕ × List ℕ)} {a b d : M} → KeepsMap clock contents left pages bound m0 m1 a b → KeepsMap clock contents left pages bound m1 m2 b d
      → KeepsMap clock contents left pages bound m0 m2 a d
  keeps_then {m0} {m1} {m2} {a} {b} {d} first second = record {
    same = λ v. second.same v ∙ first.same v;
    keeps = keeps_from first.same first.keeps second.keeps;
    crash = then (λ m c. ImageKeepsMap pages bound m0 (contents a) c) first.crash
        (weaken (λ m c. ImageKeepsMap pages bound m1 (contents b) c) (λ m c. ImageKeepsMap pages bound m0 (contents a) c) second.crash (λ m c from to k. keeps_from first.same first.keeps k));
  }

  -- calls that leave the map, and then one that turns it
  pub keeps_turns : {m0 m1 : ℕ → Option (ℕ × List ℕ)} {v s : ℕ} {main : List ℕ} {a b d : M} (finished : Type 0) → KeepsMap clock contents left pages bound m0 m1 a b
      → LeavesOnly clock left b d (Turns finished (clock d) (λ c. ImageKeepsMap pages bound m1 (contents b) c) (λ c. GainsValue pages bound m1 v s main (contents b) c))
      → (finished → Earlier (clock b) (clock d))
      → LeavesOnly clock left a d (Turns finished (clock d) (λ c. ImageKeepsMap pages bound m0 (contents a) c) (λ c. GainsValue pages bound m0 v s main (contents a) c))
  keeps_turns {m0} {m1} {v} {s} {main} {a} {b} {d} finished first second strict =
      turns_later finished (λ c. ImageKeepsMap pages bound m0 (contents a) c) (λ c. GainsValue pages bound m0 v s main (contents a) c) first.crash
      (weaken (Turns finished (clock d) (λ c. ImageKeepsMap pages bound m1 (contents b) c) (λ c. GainsValue pages bound m1 v s main (contents b) c))
      (Turns finished (clock d) (λ c. ImageKeepsMap pages bound m0 (contents a) c) (λ c. GainsValue pages bound m0 v s main (contents a) c)) second
      (λ m c from to is. ⊎_elim (λ k. inl (k.0, keeps_from first.same first.keeps k.1)) (λ t. inr (takes_from first.same first.keeps t)) is))
      strict

  -- calls that leave the map, where the next one was not to come
  pub keeps_no_turn : {m0 m1 : ℕ → Option (ℕ × List ℕ)} {v s : ℕ} {main : List ℕ} {a d : M} (finished : Type 0) → (finished → ⊥) → KeepsMap clock contents left pages bound m0 m1 a d
      → LeavesOnly clock left a d (Turns finished (clock d) (λ c. ImageKeepsMap pages bound m0 (contents a) c) (λ c. GainsValue pages bound m0 v s main (contents a) c))
  keeps_no_turn {m0} {m1} {v} {s} {main} {a} {d} finished not first =
      weaken (λ m c. ImageKeepsMap pages bound m0 (contents a) c) (Turns finished (clock d) (λ c. ImageKeepsMap pages bound m0 (contents a) c) (λ c. GainsValue pages bound m0 v s main (contents a) c)) first.crash
      (λ m c from to k. inl ((λ f. absurd (not f)), k))

-- the turn by another name of what is finished
pub turns_as : {M I : Type 0} {clock : M → ℕ} {left : M → ℕ → I → Type 0} {old new : M} {now : ℕ} {B A : I → Type 0} (F G : Type 0) → (G → F)
    → LeavesOnly clock left old new (Turns F now B A) → LeavesOnly clock left old new (Turns G now B A)
turns_as {M} {I} {clock} {left} {old} {new} {now} {B} {A} F G to leaves = weaken (Turns F now B A) (Turns G now B A) leaves
    (λ m c from until is. ⊎_elim (λ b. inl ((λ g. b.0 (to g)), b.1)) (λ a. inr a) is)
