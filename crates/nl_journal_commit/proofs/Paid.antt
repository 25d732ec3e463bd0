-- Each transaction that is completed takes a commit page, which the clock counts.
use Rattle.std.proofs.Common.{◌≡◌, ◌⊎◌, ⊎_elim, ℕ, ◌+◌, ◌<◌, ◌≤◌, ◌^◌, length, Option, Some, None, refl, ap, arith}
use Rattle.std.specs.Prelude.{MatchOption}
use Rattle.std.proofs.lemmas.Bool.{cases_eq, cases_lt}
use Rattle.nl_field.specs.CrashStates.{top}
use Rattle.nl_iface.specs.declared.counts.Counts.{Ghosts}
use Rattle.nl_journal.specs.Progress.{IsPhase, Progress, begun, begun_in, raised, units_left}
use Rattle.nl_journal.specs.declared.answers.Phase.{Phase}
use Rattle.nl_journal.specs.declared.answers.Phase.TheVariants.{Header, Image, Commit, Home}
use Rattle.nl_journal.proofs.CommitSteps.{begun_header, begun_none}
use Rattle.nl_meta.specs.Pages.{Frozen, Pages}
use Rattle.nl_journal_commit.specs.Completing.{DecidesAt, NumberPaid, StillAwaitsCommitPage, spelled}
use Rattle.nl_journal_commit.proofs.CompletingSteps.{closed_by, closed_number}

-- ---- the number of the last transaction that was begun

header_most : (number pages : ℕ) → begun_in Header number pages ≤ number + 1
header_most number pages = ⊎_elim
    (λ none. let is : begun_in Header number pages ≡ number = begun_none Header number pages refl none in omega (arith, is))
    (λ ne. let is : begun_in Header number pages ≡ raised number = begun_header Header number pages refl (omega (arith, ne)) in omega (arith, is))
    (cases_eq pages 0)

-- it is one more than the last whose commit page was written, at most
pub begun_most : (phase : Phase) (number pages : ℕ) → begun_in phase number pages ≤ number + 1
begun_most Header number pages = header_most number pages
begun_most (Image i) number pages = omega arith
begun_most Commit number pages = omega arith
begun_most (Home i) number pages = omega arith

header_least : (number pages : ℕ) → spelled number ≤ begun_in Header number pages
header_least number pages = ⊎_elim
    (λ none. let is : begun_in Header number pages ≡ number = begun_none Header number pages refl none in omega (arith, is))
    (λ ne. let is : begun_in Header number pages ≡ raised number = begun_header Header number pages refl (omega (arith, ne)) in omega (arith, is))
    (cases_eq pages 0)

-- the number that is begun is no less than the last, but at the end
pub begun_least : (phase : Phase) (number pages : ℕ) → spelled number ≤ begun_in phase number pages
begun_least Header number pages = header_least number pages
begun_least (Image i) number pages = omega arith
begun_least Commit number pages = omega arith
begun_least (Home i) number pages = omega arith

-- one is open: the next
open_begun : (phase : Phase) (number pages : ℕ) → pages < units_left phase pages → begun_in phase number pages ≡ raised number
open_begun Header number pages more = ⊎_elim
    (λ none. let few : units_left Header pages ≡ 0 = ap (λ n. units_left Header n) none in absurd (let no : ⊥ = omega (arith, few, more) in no))
    (λ ne. begun_header Header number pages refl (omega (arith, ne)))
    (cases_eq pages 0)
open_begun (Image i) number pages more = refl
open_begun Commit number pages more = refl
open_begun (Home i) number pages more = absurd (let no : ⊥ = omega (arith, more) in no)

-- ---- what a part says

module _ {D : Type 0} (g : Ghosts D) (s t : D) (p q : Progress) (pages : Pages) (now : Frozen) (clock : g.clock s ≤ g.clock t) (at : IsPhase p.phase (length pages.frozen.addresses))
    (number : (q.number ≡ p.number) ⊎ (q.number ≡ begun p (length pages.frozen.addresses))) (stays : begun q (length now.addresses) ≡ begun p (length pages.frozen.addresses)) where
  all_same : q.number ≡ begun p (length pages.frozen.addresses) → StillAwaitsCommitPage p q pages.frozen now → spelled q.number ≤ spelled p.number
  all_same all opens = ⊎_elim
      (λ more.
      let next = open_begun q.phase q.number (length now.addresses) (opens more) in
      let most = begun_most p.phase p.number (length pages.frozen.addresses) in
      omega (arith, all, stays, next, most))
      (λ closed.
      let same = closed_number p pages.frozen (closed_by p.phase pages.frozen at closed) in
      omega (arith, all, same))
      (cases_lt (length pages.frozen.addresses) (units_left p.phase (length pages.frozen.addresses)))

  pub part_paid : (o : Option ℕ) → MatchOption o (StillAwaitsCommitPage p q pages.frozen now) (DecidesAt g s t p q pages now) → NumberPaid (g.clock s) p.number (g.clock t) q.number
  part_paid None opens low = ⊎_elim
      (λ same. omega (arith, clock, same))
      (λ all. let less = all_same all opens in omega (arith, clock, less))
      number
  part_paid (Some m) d low =
      let is = d.number in
      let most = begun_most p.phase p.number (length pages.frozen.addresses) in
      let later = d.later (omega (arith, clock, low)) in
      let to = d.to in
      omega (arith, is, most, later, to)

-- ---- one after the other

pub paid_then : (a x b y c z : ℕ) → b ≤ c → NumberPaid a x b y → NumberPaid b y c z → NumberPaid a x c z
paid_then a x b y c z clock first second low =
    let one = first (omega (arith, clock, low)) in
    let two = second low in
    omega (arith, one, two)

-- where the number stays
pub paid_same : (a x b y : ℕ) → a ≤ b → y ≡ x → NumberPaid a x b y
paid_same a x b y clock same low = omega (arith, clock, same)

-- Each number has a spelling, as long as the clock leaves room.
pub has_number : (first : Progress) (before clock : ℕ) (p : Progress) (now later : ℕ) → NumberPaid clock first.number later p.number → later < top → begun first before + later + 1 < 2 ^ 63 + clock → begun p now < 2 ^ 63
has_number first before clock p now later paid low room =
    let least = begun_least first.phase first.number before in
    let most = begun_most p.phase p.number now in
    let one = paid low in
    omega (arith, least, most, one, room)
