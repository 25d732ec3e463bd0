-- What was frozen is completed, and then the dirty pages.
use Rattle.std.proofs.Common.{◌≡◌, true, inl, inr, ⊎_elim, ℕ, ◌<◌, ◌≤◌, ◌==◌, List, [], ◌∷◌, length, Option, Some, None, refl, sym, ◌∙◌, ap, arith}
use Rattle.std.specs.Prelude.{⊤, IfSome, MatchOption}
use Rattle.std.proofs.lemmas.Bool.{cases_lt}
use Rattle.nl_field.specs.CrashStates.{Earlier, Turns, top}
use Rattle.nl_field.proofs.Crashes.{then, weaken}
use Rattle.nl_iface.specs.Calls.{CrashStatesHave, stored}
use Rattle.nl_iface.specs.Stored.{Stored, Value}
use Rattle.nl_iface.specs.declared.counts.Counts.{Ghosts}
use Rattle.nl_journal.specs.Committing.{ahead_on, committed_on, finished, finished_on}
use Rattle.nl_journal.specs.Left.{FinishWrites, LeavesEither, LeavesOne, LeavesOneOf, LeavesRest}
use Rattle.nl_journal.specs.Outcomes.{Agrees}
use Rattle.nl_journal.specs.Progress.{Progress, units_left}
use Rattle.nl_journal.specs.Transaction.{with_pages}
use Rattle.nl_journal.specs.declared.answers.Phase.{Phase}
use Rattle.nl_journal.specs.declared.answers.Phase.TheVariants.{Header, Image, Commit, Home}
use Rattle.nl_journal.proofs.Finishing.{many_left, with_same}
use Rattle.nl_journal.proofs.FinishSteps.{commits_by, none_left, rest_by}
use Rattle.nl_meta.specs.Committed.{VirtualMap}
use Rattle.std.specs.List.{list_any}
use Rattle.std.proofs.lemmas.Bool.{cases_Bool}
use Rattle.nl_meta.specs.Pages.{Frozen, Pages, dirty_pages, none_frozen, with_address}
use Rattle.nl_meta.proofs.RunningProofs.{not-with}
use Rattle.nl_journal_commit.specs.Completing.{DecidesAt, IsDecided, StillAwaitsCommitPage}
use Rattle.nl_journal_commit.specs.Counting.{with_frozen}

pub if_some : (P : Type 0) (Q R : ℕ → Type 0) (o : Option ℕ) → MatchOption o P Q → ((m : ℕ) → Q m → R m) → IfSome o R
if_some P Q R None h by = tt
if_some P Q R (Some m) h by = by m h

-- whether a part was decided, as a record of what it answers has it
pub is_decided_by : {D : Type 0} (g : Ghosts D) (s t : D) (p q : Progress) (pages : Pages) (now : Frozen) (o : Option ℕ) → MatchOption o (StillAwaitsCommitPage p q pages.frozen now) (DecidesAt g s t p q pages now) → IsDecided o p q pages.frozen now
is_decided_by g s t p q pages now None stays = stays
is_decided_by g s t p q pages now (Some moment) d = (d.was_open, d.is_shut, d.number)

pub earlier_by : (m a b : ℕ) → m ≤ a → Earlier a b → a ≤ b → Earlier m b
earlier_by m a b from strict le below = elim (cases_lt a top) [
  | inl lt ↦ let less = strict lt in omega (arith, from, less)
  | inr end ↦ omega (arith, end, below, le)
]

finished_header : (phase : Phase) (frozen : Frozen) (base : VirtualMap) (v : ℕ) → phase ≡ Header → finished phase frozen base v ≡ with_pages frozen base v
finished_header Header frozen base v is = refl
finished_header (Image i) frozen base v is = refl
finished_header Commit frozen base v is = refl
finished_header (Home i) frozen base v is = absurd (let no : ⊥ = cc in no)

-- the header is due of pages that are frozen: the commit page is still to be written
open_header : (phase : Phase) (pages : ℕ) → phase ≡ Header → 1 ≤ pages → pages < units_left phase pages
open_header Header pages is some = many_left Header pages some tt refl
open_header (Image i) pages is some = absurd (let no : ⊥ = cc in no)
open_header Commit pages is some = absurd (let no : ⊥ = cc in no)
open_header (Home i) pages is some = absurd (let no : ⊥ = cc in no)

pub same_dirty : (pages mid_pages : Pages) → mid_pages.running ≡ pages.running → mid_pages.dirty ≡ pages.dirty → dirty_pages mid_pages ≡ dirty_pages pages
same_dirty pages mid_pages running dirty =
    ap (λ d. dirty_pages (record mid_pages { dirty = d })) dirty
    ∙ ap (λ r. dirty_pages (record mid_pages { dirty = pages.dirty; running = r })) running

none_of : (xs : List (List ℕ)) → length xs ≡ 0 → xs ≡ []
none_of [] is = refl
none_of (x ∷ xs) is = absurd (let no : ⊥ = omega (arith, is) in no)

pub frozen_none : (f : Frozen) → f.addresses ≡ [] → length f.images ≡ length f.addresses → f ≡ none_frozen
frozen_none f none same =
    let empty : length f.images ≡ 0 = same ∙ ap length none in
    ap (λ (a : List ℕ). record f { addresses = a }) none ∙ ap (λ (x : List (List ℕ)). record none_frozen { images = x }) (none_of f.images empty)

pub first_is_dirty : (xs : List ℕ) → list_any (λ a. a == 0) (with_address 0 xs) ≡ true
first_is_dirty xs = ⊎_elim (λ is. is) (λ no. absurd ((not-with 0 xs 0 no).0 refl)) (cases_Bool (list_any (λ a. a == 0) (with_address 0 xs)))

module _ {D : Type 0} (g : Ghosts D) where
  -- a transaction that was done was decided, later than the call began
  pub done_later : (mid new : D) (q r : Progress) (pages new_pages : Pages) (o : Option ℕ) → q.phase ≡ Header → 1 ≤ length pages.dirty
      → MatchOption o (StillAwaitsCommitPage q r (dirty_pages pages) new_pages.frozen) (DecidesAt g mid new q r (with_frozen pages) new_pages.frozen)
      → units_left r.phase (length new_pages.frozen.addresses) ≤ 0 → Earlier (g.clock mid) (g.clock new)
  done_later mid new q r pages new_pages None header some stays none below =
      let more : length new_pages.frozen.addresses < units_left r.phase (length new_pages.frozen.addresses) = stays (open_header q.phase (length pages.dirty) header some) in
      absurd (let no : ⊥ = omega (arith, more, none) in no)
  done_later mid new q r pages new_pages (Some m) header some d none below =
      let less = d.later below in
      let to = d.to in
      omega (arith, less, to)

  module _ (old mid new : D) (p q r : Progress) (pages mid_pages new_pages : Pages) (same : g.shape mid ≡ g.shape old) (fewer : (v : ℕ) (x : Value) → g.failed mid v x → g.failed old v x)
      (header : q.phase ≡ Header) (none : mid_pages.frozen.addresses ≡ []) (running : mid_pages.running ≡ pages.running) (dirty : mid_pages.dirty ≡ pages.dirty)
      (done : Type 0) (is_done : done) (w : FinishWrites g done p q pages mid_pages old mid) where
    abbrev pub fin : VirtualMap
    fin = finished_on g old p pages

    abbrev pub ahead : VirtualMap
    ahead = ahead_on g old p pages

    abbrev pub fin_mid : VirtualMap
    fin_mid = finished_on g mid q (with_frozen mid_pages)

    home_now : Agrees (g.shape old).vaddrs (committed_on g mid) fin
    home_now v home = sym (none_left q.phase mid_pages.frozen (committed_on g mid) v header none) ∙ w.same_finished v home

    all : Agrees (g.shape old).vaddrs fin_mid ahead
    all v home = finished_header q.phase (dirty_pages mid_pages) (committed_on g mid) v header
        ∙ ap (λ (x : Frozen). with_pages x (committed_on g mid) v) (same_dirty pages mid_pages running dirty)
        ∙ with_same (dirty_pages pages) (g.shape old).vaddrs (committed_on g mid) fin home_now v home

    first_rest : LeavesRest (g.shape old).vaddrs (g.failed old) (stored g old) (stored g mid)
    first_rest = ⊎_elim (λ was. was.1.1) (λ now. now.1) w.left.now

    either : (c : Stored) → LeavesEither g mid (committed_on g mid) fin_mid c → LeavesEither g old fin ahead c
    either c is = (
      ⊎_elim (λ before. inl (commits_by g old mid same (committed_on g mid) fin c home_now before)) (λ after. inr (commits_by g old mid same fin_mid ahead c all after)) is.0,
      rest_by g old mid same fewer c first_rest is.1,
    )

    last : (c : Stored) → LeavesOne g mid fin_mid c → LeavesOne g old ahead c
    last c is = (commits_by g old mid same fin_mid ahead c all is.0, rest_by g old mid same fewer c first_rest is.1)

    abbrev pub OneOf : Stored → Type 0
    OneOf = LeavesOneOf g old (committed_on g old) fin ahead

    -- the dirty pages were decided
    pub changes_stops : (moment : ℕ) → Earlier (g.clock mid) moment → g.clock mid ≤ moment → CrashStatesHave g (Turns ⊤ moment (LeavesEither g mid (committed_on g mid) fin_mid) (LeavesOne g mid fin_mid)) mid new
        → CrashStatesHave g (Turns ⊤ moment OneOf (LeavesOne g old ahead)) old new
    changes_stops moment strict from second = then (λ m c. Turns ⊤ moment OneOf (LeavesOne g old ahead) m (g.stored_of c))
        (weaken (λ m c. Turns done (g.clock mid) (LeavesEither g old (committed_on g old) fin) (LeavesOne g old fin) m (g.stored_of c)) (λ m c. Turns ⊤ moment OneOf (LeavesOne g old ahead) m (g.stored_of c)) w.left.stops
        (λ m c low high. ⊎_elim
        (λ was. inl ((λ o. earlier_by m (g.clock mid) moment high strict from), (⊎_elim (λ before. inl before) (λ after. inr (inl after)) was.1.0, was.1.1)))
        (λ a. inl ((λ o. earlier_by m (g.clock mid) moment high strict from), (inr (inl a.0), a.1)))))
        (weaken (λ m c. Turns ⊤ moment (LeavesEither g mid (committed_on g mid) fin_mid) (LeavesOne g mid fin_mid) m (g.stored_of c)) (λ m c. Turns ⊤ moment OneOf (LeavesOne g old ahead) m (g.stored_of c)) second
        (λ m c low high. ⊎_elim
        (λ was. let is = either (g.stored_of c) was.1 in inl (was.0, (inr is.0, is.1)))
        (λ a. inr (last (g.stored_of c) a))))

    -- the frozen pages were
    pub earlier_stops : (over : Type 0) (moment : ℕ) → CrashStatesHave g (Turns ⊤ moment (LeavesEither g old (committed_on g old) fin) (LeavesOne g old fin)) old mid
        → CrashStatesHave g (Turns over (g.clock new) (LeavesEither g mid (committed_on g mid) fin_mid) (LeavesOne g mid fin_mid)) mid new
        → CrashStatesHave g (Turns ⊤ moment OneOf (LeavesEither g old fin ahead)) old new
    earlier_stops over moment first second = then (λ m c. Turns ⊤ moment OneOf (LeavesEither g old fin ahead) m (g.stored_of c))
        (weaken (λ m c. Turns ⊤ moment (LeavesEither g old (committed_on g old) fin) (LeavesOne g old fin) m (g.stored_of c)) (λ m c. Turns ⊤ moment OneOf (LeavesEither g old fin ahead) m (g.stored_of c)) first
        (λ m c low high. ⊎_elim
        (λ was. inl (was.0, (⊎_elim (λ before. inl before) (λ after. inr (inl after)) was.1.0, was.1.1)))
        (λ a. inr (inl a.0, a.1))))
        (weaken (λ m c. Turns over (g.clock new) (LeavesEither g mid (committed_on g mid) fin_mid) (LeavesOne g mid fin_mid) m (g.stored_of c)) (λ m c. Turns ⊤ moment OneOf (LeavesEither g old fin ahead) m (g.stored_of c)) second
        (λ m c low high. ⊎_elim (λ was. inr (either (g.stored_of c) was.1)) (λ a. let is = last (g.stored_of c) a in inr (inr is.0, is.1))))

  -- it was decided, and not completed
  pub stopped_stops : (old new : D) (p : Progress) (pages : Pages) (moment : ℕ)
      → CrashStatesHave g (Turns ⊤ moment (LeavesEither g old (committed_on g old) (finished_on g old p pages)) (LeavesOne g old (finished_on g old p pages))) old new
      → CrashStatesHave g (Turns ⊤ moment (LeavesOneOf g old (committed_on g old) (finished_on g old p pages) (ahead_on g old p pages)) (LeavesEither g old (finished_on g old p pages) (ahead_on g old p pages))) old new
  stopped_stops old new p pages moment first =
      weaken (λ m c. Turns ⊤ moment (LeavesEither g old (committed_on g old) (finished_on g old p pages)) (LeavesOne g old (finished_on g old p pages)) m (g.stored_of c))
      (λ m c. Turns ⊤ moment (LeavesOneOf g old (committed_on g old) (finished_on g old p pages) (ahead_on g old p pages)) (LeavesEither g old (finished_on g old p pages) (ahead_on g old p pages)) m (g.stored_of c)) first
      (λ m c low high. ⊎_elim
      (λ was. inl (was.0, (⊎_elim (λ before. inl before) (λ after. inr (inl after)) was.1.0, was.1.1)))
      (λ a. inr (inl a.0, a.1)))
