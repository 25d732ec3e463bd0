-- How a live page is moved: it is read, a block takes copies, and the copy is programmed.
use Rattle.std.proofs.Common.{◌≡◌, ◌⊎◌, inl, inr, ⊎_elim, ℕ, ◌+◌, ◌/◌, ◌≤◌, List, refl, sym, ◌∙◌, ap, subst, arith}
use Rattle.nl_field.specs.CrashStates.{Earlier, Turns, saturated}
use Rattle.nl_field.specs.Page.{Image, page_at, written}
use Rattle.nl_field.specs.declared.answers.Named.TheVariants as named
use Rattle.nl_field.specs.declared.pointer.Tag.{Tag}
use Rattle.nl_nand.specs.declared.answers.WriteAnswer.{WriteAnswer}
use Rattle.nl_nand.specs.declared.answers.WriteAnswer.TheVariants as wrote
use Rattle.nl_nand.specs.Nand.{FaultsCounted, SameCrashStates}
use Rattle.nl_nand.proofs.Crashes.{still, turns_later, weaken}
use Rattle.nl_pseg.specs.Answers.{IsPlaced}
use Rattle.nl_pseg.specs.Cleaning.{CountedMove, IfMoved, IsMoved, programmed_by}
use Rattle.nl_pseg.specs.Effects.{Crashes, PreservesSegment, PlacesOnImage, PageIsProgrammed, TakesImagePage}
use Rattle.nl_pseg_pages.specs.Pages.{page_with, shown_by}
use Rattle.nl_pseg.specs.Segment.{Physical, IsDead, is_free, is_soiled, wear_of}
use Rattle.nl_pseg.specs.Steps.{IsAlone, IsReadied, ReadiedOn}
use Rattle.nl_pseg.specs.declared.cleaned.Copied.{Copied}
use Rattle.nl_pseg.specs.declared.cleaned.Copied.TheVariants as copy
use Rattle.nl_pseg.specs.declared.held.Held.{Held}
use Rattle.nl_pseg.proofs.Images.{keeps_nothing, keeps_then, takes_then}
use Rattle.nl_pseg.proofs.Moved.{readied_dead}

pub if_moved : (answer : Copied) {P Q : ℕ → ℕ → Held → Type 0} → ((b a : ℕ) (h : Held) → P b a h → Q b a h) → IfMoved answer P → IfMoved answer Q
if_moved (copy.Moved before after tag stamp) by is = by before after (record { tag = tag; stamp = stamp }) is
if_moved copy.Nothing by is = is
if_moved (copy.Lost wanted found) by is = is
if_moved copy.Fault by is = is

pub moved_gives : (answer : Copied) {P : ℕ → ℕ → Held → Type 0} {Q : Type 0} → IsMoved answer → IfMoved answer P → ((b a : ℕ) (h : Held) → P b a h → Q) → Q
moved_gives (copy.Moved before after tag stamp) moved is by = by before after (record { tag = tag; stamp = stamp }) is
moved_gives copy.Nothing moved is by = absurd moved
moved_gives (copy.Lost wanted found) moved is by = absurd moved
moved_gives copy.Fault moved is by = absurd moved

pub moved_or_not : (answer : Copied) → IsMoved answer ⊎ (IsMoved answer → ⊥)
moved_or_not (copy.Moved before after tag stamp) = inl tt
moved_or_not copy.Nothing = inr (λ m. m)
moved_or_not (copy.Lost wanted found) = inr (λ m. m)
moved_or_not copy.Fault = inr (λ m. m)

pub placed_moved : (answer : Copied) → IsPlaced (programmed_by answer) → IsMoved answer
placed_moved (copy.Moved before after tag stamp) placed = tt
placed_moved copy.Nothing placed = placed
placed_moved (copy.Lost wanted found) placed = placed
placed_moved copy.Fault placed = placed

pub moved_if : (answer : Copied) {P : ℕ → ℕ → Held → Type 0} {Q : Type 0} → IsMoved answer → ((b a : ℕ) (h : Held) → P b a h → Q) → IfMoved answer P → Q
moved_if (copy.Moved before after tag stamp) moved by is = by before after (record { tag = tag; stamp = stamp }) is
moved_if copy.Nothing moved by is = absurd moved
moved_if (copy.Lost wanted found) moved by is = absurd moved
moved_if copy.Fault moved by is = absurd moved

-- nothing was done
pub nothing_counts : {M : Type 0} {clock read_faults write_faults : M → ℕ} {clean : Type 0} (a : M) → CountedMove clock read_faults write_faults clean a a copy.Nothing
nothing_counts a = record {
  later = omega arith;
  few = omega arith;
  moved = λ m. absurd m;
  one = λ is m. absurd m;
  none = λ is not. refl;
  reads = omega arith;
  writes = omega arith;
  failed = λ e. absurd (cc e);
  well = λ not. (refl, refl);
}

-- nothing but a read
module _ {M : Type 0} {clock read_faults write_faults : M → ℕ} {clean : Type 0} {a r : M} (still_is : clock r ≡ clock a) (writes : write_faults r ≡ write_faults a) where
  pub read_fault_counts : {failed : Type 0} → FaultsCounted (read_faults a) (read_faults r) failed → failed → CountedMove clock read_faults write_faults clean a r copy.Fault
  read_fault_counts reads f = record {
    later = omega (arith, still_is);
    few = omega (arith, still_is);
    moved = λ m. absurd m;
    one = λ is m. absurd m;
    none = λ is not. still_is;
    reads = reads.never_falls;
    writes = omega (arith, writes);
    failed = λ e. inl (let c = reads.cause f in omega (arith, c));
    well = λ not. absurd (not refl);
  }

  pub lost_counts : {failed : Type 0} (w f : ℕ) → FaultsCounted (read_faults a) (read_faults r) failed → (failed → ⊥) → CountedMove clock read_faults write_faults clean a r (copy.Lost w f)
  lost_counts w f reads well = record {
    later = omega (arith, still_is);
    few = omega (arith, still_is);
    moved = λ m. absurd m;
    one = λ is m. absurd m;
    none = λ is not. still_is;
    reads = reads.never_falls;
    writes = omega (arith, writes);
    failed = λ e. absurd (cc e);
    well = λ not. (reads.stays well, writes);
  }

-- a read that did not fail, and what was done to have a page
module _ {M : Type 0} {clock read_faults write_faults : M → ℕ} {clean : Type 0} (a r m : M) (still_is : clock r ≡ clock a) (reads : read_faults r ≡ read_faults a) (writes : write_faults r ≡ write_faults a) (within : (clock r ≤ clock m) × (clock m ≤ clock r + 1)) (reads_then : read_faults m ≡ read_faults r) where
  pub ready_fault_counts : {failed : Type 0} → (clean → ⊥) → FaultsCounted (write_faults r) (write_faults m) failed → failed → CountedMove clock read_faults write_faults clean a m copy.Fault
  ready_fault_counts dirty counted f = record {
    later = omega (arith, still_is, within.0);
    few = omega (arith, still_is, within.1);
    moved = λ x. absurd x;
    one = λ is x. absurd x;
    none = λ is not. absurd (dirty is);
    reads = omega (arith, reads, reads_then);
    writes = let n = counted.never_falls in omega (arith, writes, n);
    failed = λ e. inr (let c = counted.cause f in omega (arith, c, writes));
    well = λ not. absurd (not refl);
  }

  pub landed_counts : {d : M} (answer : Copied) → clock m ≤ clock d → (clean → clock m ≡ clock r) → write_faults m ≡ write_faults r → (IsMoved answer → clock d ≡ saturated (clock m + 1)) × ((IsMoved answer → ⊥) → clock d ≡ clock m) → read_faults d ≡ read_faults m
      → FaultsCounted (write_faults m) (write_faults d) (answer ≡ copy.Fault) → CountedMove clock read_faults write_faults clean a d answer
  landed_counts {d} answer later same writes_then ticks reads_last counted = record {
    later = omega (arith, still_is, within.0, later);
    few = ⊎_elim (λ moved. let t = ticks.0 moved in omega (arith, still_is, within.1, t)) (λ not. let t = ticks.1 not in omega (arith, still_is, within.1, t)) (moved_or_not answer);
    moved = λ moved below. let t = ticks.0 moved in omega (arith, still_is, within.0, t, below);
    one = λ is moved. ticks.0 moved ∙ ap (λ n. saturated (n + 1)) (same is ∙ still_is);
    none = λ is not. ticks.1 not ∙ (same is ∙ still_is);
    reads = omega (arith, reads, reads_then, reads_last);
    writes = let n = counted.never_falls in omega (arith, writes, writes_then, n);
    failed = λ e. inr (let c = counted.cause e in omega (arith, c, writes, writes_then));
    well = λ not. (reads_last ∙ (reads_then ∙ reads), counted.stays not ∙ (writes_then ∙ writes));
  }

-- the same value on a page
value : {seg mid : Physical} → IsReadied seg mid → (tag : Tag) (stamp : ℕ) (main : List ℕ) (page : ℕ) → written (page_with main tag stamp (wear_of mid (page / mid.size))) ≡ written (page_with main tag stamp (wear_of seg (page / seg.size)))
value {seg} {mid} r tag stamp main page = ap (λ w. written (page_with main tag stamp w)) (ap (λ n. wear_of mid (page / n)) r.pages.same_size ∙ r.pages.same_wear (page / seg.size))

module _ {M : Type 0} {clock : M → ℕ} {contents : M → Image} {left : M → ℕ → Image → Type 0} where
  -- nothing was programmed
  pub read_crashes : {seg : Physical} {a r : M} (tag : Tag) (stamp : ℕ) (main : List ℕ) → contents r ≡ contents a → clock r ≡ clock a → SameCrashStates left a r → Crashes clock contents left seg tag stamp main a r named.Fault
  read_crashes {seg} {a} {r} tag stamp main same same_clock same_left = record {
    page = 0;
    named = tt;
    either = inl (subst (PreservesSegment seg (contents a)) (sym same) (keeps_nothing seg (contents a)));
    crash = still (Turns (IsPlaced named.Fault) (clock r) (λ c. PreservesSegment seg (contents a) c) (λ c. PlacesOnImage seg 0 tag stamp main (contents a) c)) same_clock same_left.no_more;
  }

  -- after a read
  pub readied_read : {answer : WriteAnswer} {seg mid : Physical} {a r m : M} → contents r ≡ contents a → clock r ≡ clock a → SameCrashStates left a r → ReadiedOn clock contents left answer seg mid r m → ReadiedOn clock contents left answer seg mid a m
  readied_read {answer} {seg} {mid} {a} {r} {m} same same_clock same_left on = record {
    segment = on.segment;
    keeps = subst (λ i. PreservesSegment seg i (contents m)) same on.keeps;
    crash = record {
      later = let l = on.crash.later in omega (arith, same_clock, l);
      each = λ n c is. ⊎_elim (λ before. inl (same_left.no_more n c before)) (λ here. inr (let x = here.0 in omega (arith, same_clock, x), here.1, subst (λ i. PreservesSegment seg i c) same here.2)) (on.crash.each n c is);
    };
    others = λ done p. ⊎_elim (λ is. inl (is ∙ ap (λ i. page_at i p) same)) (λ x. inr x) (on.others done p);
  }

  pub readied_crashes : {seg mid : Physical} {a m : M} (tag : Tag) (stamp : ℕ) (main : List ℕ) {answer : WriteAnswer} → ReadiedOn clock contents left answer seg mid a m → Crashes clock contents left seg tag stamp main a m named.Fault
  readied_crashes {seg} {mid} {a} {m} tag stamp main on = record {
    page = 0;
    named = tt;
    either = inl on.keeps;
    crash = weaken (λ n c. PreservesSegment seg (contents a) c) (Turns (IsPlaced named.Fault) (clock m) (λ c. PreservesSegment seg (contents a) c) (λ c. PlacesOnImage seg 0 tag stamp main (contents a) c)) on.crash
        (λ n c from to k. inl ((λ placed. absurd placed), k));
  }

  module _ {seg mid : Physical} (r : IsReadied seg mid) where
    -- a block was readied, and then the copy was programmed
    pub landed_crashes : {a m d : M} (tag : Tag) (stamp : ℕ) (main : List ℕ) (answer : Copied) {was : WriteAnswer} → ReadiedOn clock contents left was seg mid a m → (IsMoved answer → Earlier (clock m) (clock d))
        → Crashes clock contents left mid tag stamp main m d (programmed_by answer) → Crashes clock contents left seg tag stamp main a d (programmed_by answer)
    landed_crashes {a} {m} {d} tag stamp main answer on strict k = record {
      page = k.page;
      named = k.named;
      either = ⊎_elim (λ x. inl (keeps_then (readied_dead r) on.keeps x)) (λ x. inr (takes_on (contents d) x)) k.either;
      crash = turns_later (IsPlaced (programmed_by answer)) (λ c. PreservesSegment seg (contents a) c) (λ c. PlacesOnImage seg k.page tag stamp main (contents a) c) on.crash
          (weaken (Turns (IsPlaced (programmed_by answer)) (clock d) (λ c. PreservesSegment mid (contents m) c) (λ c. PlacesOnImage mid k.page tag stamp main (contents m) c))
          (Turns (IsPlaced (programmed_by answer)) (clock d) (λ c. PreservesSegment seg (contents a) c) (λ c. PlacesOnImage seg k.page tag stamp main (contents a) c)) k.crash
          (λ n c from to is. ⊎_elim (λ x. inl (x.0, keeps_then (readied_dead r) on.keeps x.1)) (λ x. inr (takes_on c x)) is))
          (λ placed. strict (placed_moved answer placed));
    }
      where
        takes_on : (c : Image) → PlacesOnImage mid k.page tag stamp main (contents m) c → PlacesOnImage seg k.page tag stamp main (contents a) c
        takes_on c x = record {
          takes = subst (λ v. TakesImagePage seg k.page v (contents a) c) (value r tag stamp main k.page) (takes_then (readied_dead r) on.keeps x.takes);
          shows = sym (ap shown_by (value r tag stamp main k.page)) ∙ x.shows;
        }

    pub landed_programmed : {a m d : M} (tag : Tag) (stamp : ℕ) (main : List ℕ) (after : ℕ) → ReadiedOn clock contents left wrote.Done seg mid a m → IsDead seg after → after ≡ mid.copy_next
        → IsAlone after (written (page_with main tag stamp (wear_of mid (after / mid.size)))) (contents m) (contents d) → PageIsProgrammed seg after (written (page_with main tag stamp (wear_of seg (after / seg.size)))) (contents a) (contents d)
    landed_programmed {a} {m} {d} tag stamp main after on dead next alone = record {
      dead = dead;
      has = alone.has ∙ value r tag stamp main after;
      others = λ p ne. ⊎_elim
          (λ same. inl (alone.others p ne ∙ same))
          (λ x. let here : mid.copy_next / seg.size ≡ after / seg.size = ap (λ n. n / seg.size) (sym next) in
          inr (x.0 ∙ here, ap (is_free seg) (sym here) ∙ x.1, ap (is_soiled seg) (sym here) ∙ x.2, alone.others p ne ∙ x.3))
          (on.others refl p);
    }
