-- One write of a transaction: what stands after it, and what a stop leaves.
use Rattle.std.proofs.Common.{◌≡◌, ◌⊎◌, inl, inr, ⊎_elim, ℕ, ◌+◌, ◌==◌, ◌<◌, ◌≤◌, ◌^◌, nat_lt, option_map, Option, Some, None, List, length, refl, sym, ◌∙◌, ap, subst, arith}
use Rattle.std.specs.List.{list_all}
use Rattle.std.proofs.lemmas.Bool.{cases_lt, ne_eqb, cond-true, cond-false, lt-ltb, le-ltb}
use Rattle.nl_field.specs.Journal.{header_of}
use Rattle.nl_field.specs.declared.header.HeaderRec.{HeaderRec}
use Rattle.nl_field.specs.declared.shape.Shape.{Shape}
use Rattle.nl_iface.specs.Stored.{Value}
use Rattle.nl_meta.specs.Committed.{VirtualMap, committed, within_volume}
use Rattle.nl_meta.specs.Pages.{Frozen}
use Rattle.nl_journal.specs.Outcomes.{bytes_of, May, Tried, Written, Within, NoMore, Agrees}
use Rattle.nl_journal.specs.Transaction.{head, mark, header, IsTransaction}
use Rattle.nl_journal.specs.Progress.{HasNumber, IsPhase, Progress, next_after, next_number_in, next_phase, number_in, raised}
use Rattle.nl_journal.specs.Standing.{JournalInPhase, JournalMatchesMap, Staged, Undecided}
use Rattle.nl_journal.specs.Committing.{aimed, committed_now}
use Rattle.nl_journal.specs.Units.{IsDue}
use Rattle.nl_journal.specs.declared.answers.Phase.{Phase}
use Rattle.nl_journal.specs.declared.answers.Phase.TheVariants.{Header, Image, Commit, Home}
use Rattle.nl_journal.proofs.Steps.{staged_commits, counts_commits, doubt_commits, header_tried, header_written, image_tried, image_written, undecided_tried, undecided_written, mark_tried, mark_written, home_tried, home_written, counts_end, rest_less, staged_less, undecided_less, deciding_less, counts_less, rest_named, staged_named, counts_named}

stands_less : (phase : Phase) (shape : Shape) (may new : ℕ → Option (List ℕ) → Type 0) (now base : VirtualMap) (number : ℕ) (frozen : Frozen) → NoMore may new
    → JournalInPhase phase shape may now base number frozen → JournalInPhase phase shape new now base number frozen
stands_less Header shape may new now base number frozen less s = rest_less less s
stands_less (Image i) shape may new now base number frozen less s = (staged_less less s.0, undecided_less less s.1)
stands_less Commit shape may new now base number frozen less s = (staged_less less s.0, deciding_less less s.1)
stands_less (Home i) shape may new now base number frozen less s = counts_less less s

stands_named : (phase : Phase) (shape : Shape) (may : ℕ → Option (List ℕ) → Type 0) (now base named : VirtualMap) (number : ℕ) (frozen : Frozen) → Agrees shape.vaddrs base named
    → JournalInPhase phase shape may now base number frozen → JournalInPhase phase shape may now named number frozen
stands_named Header shape may now base named number frozen same s = rest_named same s
stands_named (Image i) shape may now base named number frozen same s = (staged_named same s.0, s.1)
stands_named Commit shape may now base named number frozen same s = (staged_named same s.0, s.1)
stands_named (Home i) shape may now base named number frozen same s = counts_named same s

-- what is committed where what may be shown is shown, by the map itself
now_commits : (phase : Phase) (shape : Shape) (may : ℕ → Option (List ℕ) → Type 0) (now base : VirtualMap) (number : ℕ) (frozen : Frozen) → IsPhase phase (length frozen.addresses)
    → (1 ≤ length frozen.addresses → IsTransaction shape.vaddrs frozen) → 67 ≤ shape.vaddrs
    → Within shape.vaddrs may now → JournalInPhase phase shape may now base number frozen → Agrees shape.vaddrs (committed shape now) base
now_commits Header shape may now base number frozen at t wide within s = s.agrees now within
now_commits (Image i) shape may now base number frozen at t wide within s = staged_commits s.0 wide now within (s.1.older (now 66) (within 66 (omega (arith, wide))))
now_commits Commit shape may now base number frozen at t wide within s = staged_commits s.0 wide now within s.1.before
now_commits (Home i) shape may now base number frozen at t wide within s = counts_commits s (t (omega (arith, at))) wide now within

-- the pages that are committed, or those with the transaction's
pub either_commits : (phase : Phase) (shape : Shape) (may : ℕ → Option (List ℕ) → Type 0) (now base : VirtualMap) (number : ℕ) (frozen : Frozen) → IsPhase phase (length frozen.addresses)
    → (1 ≤ length frozen.addresses → IsTransaction shape.vaddrs frozen) → 67 ≤ shape.vaddrs
    → JournalInPhase phase shape may now base number frozen → (f : VirtualMap) → Within shape.vaddrs may f → Agrees shape.vaddrs (committed shape f) base ⊎ Agrees shape.vaddrs (committed shape f) (aimed phase frozen base)
either_commits Header shape may now base number frozen at t wide s f within = inl (s.agrees f within)
either_commits (Image i) shape may now base number frozen at t wide s f within = inl (staged_commits s.0 wide f within (s.1.older (f 66) (within 66 (omega (arith, wide)))))
either_commits Commit shape may now base number frozen at t wide s f within = ⊎_elim
    (λ older. inl (staged_commits s.0 wide f within older))
    (λ marked. inr (doubt_commits s.0 (t at) wide f within marked)) (s.1.either (f 66) (within 66 (omega (arith, wide))))
either_commits (Home i) shape may now base number frozen at t wide s f within = inl (counts_commits s (t (omega (arith, at))) wide f within)

-- how it stands after the write, whether it was done or not
record Step (shape : Shape) (may : ℕ → Option (List ℕ) → Type 0) (was : VirtualMap) (phase next : Phase) (base : VirtualMap) (number next_number : ℕ) (frozen : Frozen) (v : ℕ) (main : List ℕ) : Type 0 where
  wrote : (now : VirtualMap) → Within shape.vaddrs (Written may v main) now → JournalInPhase next shape (Written may v main) now (aimed phase frozen base) next_number frozen
  tried : (now : VirtualMap) → now 66 ≡ was 66 → JournalInPhase phase shape (Tried may v main) now base number frozen

-- all images are there
to_commit : (shape : Shape) (may : ℕ → Option (List ℕ) → Type 0) (now base : VirtualMap) (number : ℕ) (frozen : Frozen) (done : ℕ) → 67 ≤ shape.vaddrs → Within shape.vaddrs may now → done ≡ length frozen.addresses
    → Staged shape may base number frozen done → Undecided may number → JournalInPhase Commit shape may now base number frozen
to_commit shape may now base number frozen done wide within is s u =
    (subst (Staged shape may base number frozen) is s, record { before = u.older (now 66) (within 66 (omega (arith, wide))); either = λ b at. inl (u.older b at) })

-- an image, whether it is the last or not
image_next : (shape : Shape) (may : ℕ → Option (List ℕ) → Type 0) (now base : VirtualMap) (number : ℕ) (frozen : Frozen) (i : ℕ) → 67 ≤ shape.vaddrs → i < length frozen.addresses → Within shape.vaddrs may now
    → Staged shape may base (number + 1) frozen (i + 1) → Undecided may (number + 1)
    → JournalInPhase (next_phase (Image i) (length frozen.addresses)) shape may now base (number_in (next_phase (Image i) (length frozen.addresses)) number) frozen
image_next shape may now base number frozen i wide below within s u = by (cases_lt (i + 1) (length frozen.addresses))
  where
    by : (i + 1 < length frozen.addresses) ⊎ (length frozen.addresses ≤ i + 1)
        → JournalInPhase (next_phase (Image i) (length frozen.addresses)) shape may now base (number_in (next_phase (Image i) (length frozen.addresses)) number) frozen
    by (inl more) = subst (λ p. JournalInPhase p shape may now base (number_in p number) frozen) (sym (cond-true (nat_lt (i + 1) (length frozen.addresses)) (Image (i + 1)) Commit (lt-ltb (i + 1) (length frozen.addresses) more))) (s, u)
    by (inr end) = subst (λ p. JournalInPhase p shape may now base (number_in p number) frozen) (sym (cond-false (nat_lt (i + 1) (length frozen.addresses)) (Image (i + 1)) Commit (le-ltb (i + 1) (length frozen.addresses) end)))
        (to_commit shape may now base (number + 1) frozen (i + 1) wide within (omega (arith, below, end)) s u)

home_next : (shape : Shape) (may : ℕ → Option (List ℕ) → Type 0) (now base : VirtualMap) (number : ℕ) (frozen : Frozen) (i : ℕ) → IsTransaction shape.vaddrs frozen → 67 ≤ shape.vaddrs → i < length frozen.addresses
    → JournalInPhase (Home (i + 1)) shape may now base number frozen
    → JournalInPhase (next_phase (Home i) (length frozen.addresses)) shape may now base (number_in (next_phase (Home i) (length frozen.addresses)) number) frozen
home_next shape may now base number frozen i t wide below s = by (cases_lt (i + 1) (length frozen.addresses))
  where
    by : (i + 1 < length frozen.addresses) ⊎ (length frozen.addresses ≤ i + 1)
        → JournalInPhase (next_phase (Home i) (length frozen.addresses)) shape may now base (number_in (next_phase (Home i) (length frozen.addresses)) number) frozen
    by (inl more) = subst (λ p. JournalInPhase p shape may now base (number_in p number) frozen) (sym (cond-true (nat_lt (i + 1) (length frozen.addresses)) (Home (i + 1)) Header (lt-ltb (i + 1) (length frozen.addresses) more))) s
    by (inr end) =
        let is : i + 1 ≡ length frozen.addresses = omega (arith, below, end) in
        subst (λ p. JournalInPhase p shape may now base (number_in p number) frozen) (sym (cond-false (nat_lt (i + 1) (length frozen.addresses)) (Home (i + 1)) Header (le-ltb (i + 1) (length frozen.addresses) end)))
        (counts_end t wide (subst (λ n. JournalInPhase (Home n) shape may now base number frozen) is s))

after_is : (number : ℕ) → raised number < 2 ^ 63 → next_after number ≡ number + 1
after_is number below = omega (arith, below)

raised_is : (number : ℕ) → raised number < 2 ^ 63 → raised number ≡ number + 1
raised_is number below = omega (arith, below)

-- where pages are frozen, the next transaction was begun
some_begun : (number pages : ℕ) → 1 ≤ pages → HasNumber (record { number = number; phase = Header }) pages → raised number < 2 ^ 63
some_begun number pages some numbers = subst (λ n. n < 2 ^ 63) (cond-false (pages == 0) number (raised number) (ne_eqb pages 0 (λ e. omega (arith, some, e)))) numbers

-- the header of a transaction is one of its volume
head_is : (shape : Shape) (number : ℕ) (frozen : Frozen) (main : List ℕ) → IsTransaction shape.vaddrs frozen → raised number < 2 ^ 63 → header_of main ≡ Some (header (next_after number) frozen)
    → head shape (Some main) ≡ Some (header (number + 1) frozen)
head_is shape number frozen main t below is =
    ap (option_within shape) is
    ∙ cond-true (list_all (λ a. nat_lt a shape.vaddrs) frozen.addresses) (Some (header (next_after number) frozen)) None t.listed
    ∙ ap (λ n. Some (header n frozen)) (after_is number below)
  where
    option_within : Shape → Option HeaderRec → Option HeaderRec
    option_within shape None = None
    option_within shape (Some h) = within_volume shape h

step : (phase : Phase) (shape : Shape) (may : ℕ → Option (List ℕ) → Type 0) (was base : VirtualMap) (number : ℕ) (frozen : Frozen) (v : ℕ) (main : List ℕ) → IsTransaction shape.vaddrs frozen → 67 ≤ shape.vaddrs
    → IsPhase phase (length frozen.addresses) → HasNumber (record { number = number; phase = phase }) (length frozen.addresses) → IsDue phase number frozen v main → JournalInPhase phase shape may was base (number_in phase number) frozen
    → Step shape may was phase (next_phase phase (length frozen.addresses)) base (number_in phase number) (number_in (next_phase phase (length frozen.addresses)) (next_number_in phase number)) frozen v main
step Header shape may was base number frozen v main t wide at numbers due s =
    let spells = head_is shape number frozen main t (some_begun number (length frozen.addresses) t.pages.some numbers) due.1 in
    subst (λ u. Step shape may was Header (Image 0) base (number + 1) (number + 1) frozen u main) (sym due.0) (record {
      wrote = λ now within. header_written frozen main spells s;
      tried = λ now same. header_tried frozen main wide spells s;
    })
step (Image i) shape may was base number frozen v main t wide at numbers due s =
    let few = t.pages.few in
    subst (λ u. Step shape may was (Image i) (next_phase (Image i) (length frozen.addresses)) base (number + 1) (number_in (next_phase (Image i) (length frozen.addresses)) number) frozen u main) (sym due.0) (record {
      wrote = λ now within. image_next shape (Written may (2 + i) main) now base number frozen i wide at within (image_written main (omega (arith, at, few)) due.1 s.0) (undecided_written (2 + i) main (omega (arith, at, few)) s.1);
      tried = λ now same. (image_tried main (omega (arith, at, few)) s.0, undecided_tried (2 + i) main (omega (arith, at, few)) s.1);
    })
step Commit shape may was base number frozen v main t wide at numbers due s =
    let spells : mark (Some main) ≡ Some (record { number = number + 1 }) = due.1 ∙ ap (λ n. Some (record { number = n })) (after_is number numbers) in
    subst (λ u. Step shape may was Commit (Home 0) base (number + 1) (raised number) frozen u main) (sym due.0) (record {
      wrote = λ now within. subst (λ n. JournalInPhase (Home 0) shape (Written may 66 main) now (aimed Commit frozen base) n frozen) (sym (raised_is number numbers)) (mark_written main t spells s.0);
      tried = λ now same. let tried = mark_tried main t.pages.few spells s.0 s.1 in (tried.0, record { before = λ rec is. tried.1.before rec (ap mark (sym same) ∙ is); either = tried.1.either });
    })
step (Home i) shape may was base number frozen v main t wide at numbers due s = record {
  wrote = λ now within. home_next shape (Written may v main) now (aimed (Home i) frozen base) number frozen i t wide at (home_written main t at due.0 due.1 s);
  tried = λ now same. home_tried main t at due.0 due.1 s;
}

-- the transaction stands as its map says
settle : (phase : Phase) (shape : Shape) (map : ℕ → Option Value) (failed : ℕ → Value → Type 0) (may : ℕ → Option (List ℕ) → Type 0) (base : VirtualMap) (number : ℕ) (frozen : Frozen)
    → IsPhase phase (length frozen.addresses) → (1 ≤ length frozen.addresses → IsTransaction shape.vaddrs frozen) → 67 ≤ shape.vaddrs → NoMore may (May map failed) → JournalInPhase phase shape may (bytes_of map) base number frozen
    → JournalInPhase phase shape (May map failed) (bytes_of map) (committed_now shape map) number frozen × Agrees shape.vaddrs (committed_now shape map) base
settle phase shape map failed may base number frozen at t wide less s =
    let here = stands_less phase shape may (May map failed) (bytes_of map) base number frozen less s in
    let same = now_commits phase shape (May map failed) (bytes_of map) base number frozen at t wide (λ v below. inl refl) here in
    (stands_named phase shape (May map failed) (bytes_of map) base (committed_now shape map) number frozen (λ v home. sym (same v home)) here, same)

module _ (phase : Phase) (shape : Shape) (map new_map : ℕ → Option Value) (failed new_failed : ℕ → Value → Type 0) (number : ℕ) (frozen : Frozen) (v : ℕ) (main : List ℕ)
    (t : IsTransaction shape.vaddrs frozen) (wide : 67 ≤ shape.vaddrs) (at : IsPhase phase (length frozen.addresses)) (numbers : HasNumber (record { number = number; phase = phase }) (length frozen.addresses))
    (due : IsDue phase number frozen v main) (keeps : JournalMatchesMap shape map failed (record { number = number; phase = phase }) frozen) where
  stepped : Step shape (May map failed) (bytes_of map) phase (next_phase phase (length frozen.addresses)) (committed_now shape map) (number_in phase number)
      (number_in (next_phase phase (length frozen.addresses)) (next_number_in phase number)) frozen v main
  stepped = step phase shape (May map failed) (bytes_of map) (committed_now shape map) number frozen v main t wide at numbers due keeps

  pub after : IsPhase (next_phase phase (length frozen.addresses)) (length frozen.addresses) → NoMore (Written (May map failed) v main) (May new_map new_failed)
      → JournalMatchesMap shape new_map new_failed (record { number = next_number_in phase number; phase = next_phase phase (length frozen.addresses) }) frozen
      × Agrees shape.vaddrs (committed_now shape new_map) (aimed phase frozen (committed_now shape map))
  after next wrote = settle (next_phase phase (length frozen.addresses)) shape new_map new_failed (Written (May map failed) v main) (aimed phase frozen (committed_now shape map))
      (number_in (next_phase phase (length frozen.addresses)) (next_number_in phase number)) frozen next (λ some. t) wide wrote
      (stepped.wrote (bytes_of new_map) (λ u below. wrote u (bytes_of new_map u) (inl refl)))

  pub before : NoMore (Tried (May map failed) v main) (May new_map new_failed) → ((u : ℕ) → bytes_of new_map u ≡ bytes_of map u)
      → JournalMatchesMap shape new_map new_failed (record { number = number; phase = phase }) frozen × Agrees shape.vaddrs (committed_now shape new_map) (committed_now shape map)
  before tried same = settle phase shape new_map new_failed (Tried (May map failed) v main) (committed_now shape map) (number_in phase number) frozen at (λ some. t) wide tried (stepped.tried (bytes_of new_map) (same 66))

  -- what a stop leaves that shows what may be shown before the write, and after it
  pub shown_before : (f : VirtualMap) → Within shape.vaddrs (May map failed) f
      → Agrees shape.vaddrs (committed shape f) (committed_now shape map) ⊎ Agrees shape.vaddrs (committed shape f) (aimed phase frozen (committed_now shape map))
  shown_before f within = either_commits phase shape (May map failed) (bytes_of map) (committed_now shape map) (number_in phase number) frozen at (λ some. t) wide keeps f within

  pub shown_after : IsPhase (next_phase phase (length frozen.addresses)) (length frozen.addresses) → (f : VirtualMap) → Within shape.vaddrs (Written (May map failed) v main) f
      → Agrees shape.vaddrs (committed shape f) (aimed phase frozen (committed_now shape map))
  shown_after next f within = now_commits (next_phase phase (length frozen.addresses)) shape (Written (May map failed) v main) f (aimed phase frozen (committed_now shape map))
      (number_in (next_phase phase (length frozen.addresses)) (next_number_in phase number)) frozen next (λ some. t) wide within (stepped.wrote f within)

stands_now : (phase : Phase) (shape : Shape) (may : ℕ → Option (List ℕ) → Type 0) (was now base : VirtualMap) (number : ℕ) (frozen : Frozen) → now 66 ≡ was 66 → JournalInPhase phase shape may was base number frozen → JournalInPhase phase shape may now base number frozen
stands_now Header shape may was now base number frozen same s = s
stands_now (Image i) shape may was now base number frozen same s = s
stands_now Commit shape may was now base number frozen same s = (s.0, record { before = λ rec is. s.1.before rec (ap mark (sym same) ∙ is); either = s.1.either })
stands_now (Home i) shape may was now base number frozen same s = s

-- A call that leaves the addresses as they were leaves the journal's state, and the committed pages.
pub keeps_still : (shape : Shape) (map new_map : ℕ → Option Value) (failed new_failed : ℕ → Value → Type 0) (p : Progress) (frozen : Frozen) → IsPhase p.phase (length frozen.addresses)
    → (1 ≤ length frozen.addresses → IsTransaction shape.vaddrs frozen) → 67 ≤ shape.vaddrs
    → ((v : ℕ) → new_map v ≡ map v) → ((v : ℕ) (x : Value) → new_failed v x → failed v x) → JournalMatchesMap shape map failed p frozen
    → JournalMatchesMap shape new_map new_failed p frozen × Agrees shape.vaddrs (committed_now shape new_map) (committed_now shape map)
keeps_still shape map new_map failed new_failed p frozen at t wide same older keeps =
    settle p.phase shape new_map new_failed (May map failed) (committed_now shape map) (number_in p.phase p.number) frozen at t wide less
    (stands_now p.phase shape (May map failed) (bytes_of map) (bytes_of new_map) (committed_now shape map) (number_in p.phase p.number) frozen (ap (option_map (λ (x : Value). x.1)) (same 66)) keeps)
  where
    less : NoMore (May map failed) (May new_map new_failed)
    less v b at = ⊎_elim (λ now. inl (now ∙ ap (option_map (λ (x : Value). x.1)) (same v))) (λ one. inr (one.0, older v one.0 one.1, one.2)) at

-- where no write of the commit page failed, what may be shown has the committed pages
pub certain_commits : (phase : Phase) (shape : Shape) (map : ℕ → Option Value) (failed : ℕ → Value → Type 0) (number : ℕ) (frozen : Frozen) → IsPhase phase (length frozen.addresses)
    → (1 ≤ length frozen.addresses → IsTransaction shape.vaddrs frozen) → 67 ≤ shape.vaddrs
    → ((x : Value) → failed 66 x → ⊥) → JournalInPhase phase shape (May map failed) (bytes_of map) (committed_now shape map) number frozen → (f : VirtualMap) → Within shape.vaddrs (May map failed) f
    → Agrees shape.vaddrs (committed shape f) (committed_now shape map)
certain_commits Header shape map failed number frozen at t wide none s f within = s.agrees f within
certain_commits (Image i) shape map failed number frozen at t wide none s f within = staged_commits s.0 wide f within (s.1.older (f 66) (within 66 (omega (arith, wide))))
certain_commits Commit shape map failed number frozen at t wide none s f within =
    let is : f 66 ≡ bytes_of map 66 = ⊎_elim (λ same. same) (λ one. absurd (none one.0 one.1)) (within 66 (omega (arith, wide))) in
    staged_commits s.0 wide f within (λ rec spelled. s.1.before rec (ap mark (sym is) ∙ spelled))
certain_commits (Home i) shape map failed number frozen at t wide none s f within = counts_commits s (t (omega (arith, at))) wide f within
