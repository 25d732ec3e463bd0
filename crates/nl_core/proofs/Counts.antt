-- Counts of calls stay in order, and no sync has more units left than before.
use Rattle.std.proofs.Common.{◌≡◌, ◌⊎◌, inl, inr, ⊎_elim, ℕ, ◌+◌, ◌-◌, ◌*◌, ◌<◌, ◌≤◌, nat_le, Bool, true, false, length, Option, Some, None, refl, sym, ap, subst, ◌∙◌, arith}
use Rattle.std.proofs.lemmas.Bool.{cases_lt, cond-false, cond-true, le-leb, lt-leb}
use Rattle.nl_journal.specs.Progress.{Progress, units_left}
use Rattle.nl_journal.specs.declared.answers.Phase.{Phase}
use Rattle.nl_journal.specs.declared.answers.Phase.TheVariants.{Header}
use Rattle.nl_meta.specs.Pages.{Frozen, none_frozen}
use Rattle.nl_meta.proofs.Lists.{none_some}
use Rattle.nl_journal_commit.specs.Completing.{AwaitsCommitPage}
use Rattle.nl_spec_commits.specs.Held.{leaving_after}
use Rattle.nl_core.specs.Core.{CountsInOrder}
use Rattle.nl_core.specs.Goes.{CommitsOnward}
use Rattle.nl_core.specs.Units.{units_by, units_for}
use Rattle.nl_core.specs.Writing.{committed_count, frozen_then}
use Rattle.nl_core.specs.declared.state.Core.{Core}

le_same : (a b : ℕ) → a ≡ b → a ≤ b
le_same a b same = omega (arith, same)

le_then : (a b c : ℕ) → a ≤ b → b ≤ c → a ≤ c
le_then a b c one two = omega (arith, one, two)

-- ---- where the transaction and the counts stay

pub counts_as : {D : Type 0} (v w : Core D) → CountsInOrder v → w.committed ≡ v.committed → w.frozen ≡ v.frozen → w.count ≡ v.count → w.leaving ≡ v.leaving → w.journal ≡ v.journal → w.meta.frozen ≡ v.meta.frozen → CountsInOrder w
counts_as v w counts committed frozen count leaving journal pages = record {
  later = let low = counts.later in omega (arith, low, committed, frozen);
  latest = let low = counts.latest in omega (arith, low, count, frozen);
  few = let low = counts.few in omega (arith, low, count);
  shut = λ off.
      let both = counts.shut (λ more. off (subst (λ (p : Progress). AwaitsCommitPage p w.meta.frozen) (sym journal) (subst (λ (f : Frozen). AwaitsCommitPage v.journal f) (sym pages) more))) in
      (frozen ∙ both.0 ∙ sym committed, leaving ∙ both.1);
}

module _ {D : Type 0} (v w : Core D) (committed : w.committed ≡ v.committed) (frozen : w.frozen ≡ v.frozen) where
  units_same : w.journal ≡ v.journal → w.meta.frozen ≡ v.meta.frozen → (goal : ℕ) → units_for w goal ≡ units_for v goal
  units_same journal pages goal = λ i. units_by goal (committed i) (frozen i) (units_left (journal i).phase (length (pages i).addresses)) (length (pages i).addresses)

  pub onward_as : w.journal ≡ v.journal → w.meta.frozen ≡ v.meta.frozen → CommitsOnward v w
  onward_as journal pages = record {
    committed = omega (arith, committed);
    units = λ goal few. le_same (units_for w goal) (units_for v goal) (units_same journal pages goal);
  }

-- ---- one call after the other

pub onward_none : {D : Type 0} (u : Core D) → CommitsOnward u u
onward_none u = onward_as u u refl refl refl refl

pub onward_then : {D : Type 0} (u v w : Core D) → v.count ≡ u.count → CommitsOnward u v → CommitsOnward v w → CommitsOnward u w
onward_then u v w count a b = record {
  committed = let one = a.committed in let two = b.committed in omega (arith, one, two);
  units = λ goal few. le_then (units_for w goal) (units_for v goal) (units_for u goal) (b.units goal (omega (arith, few, count))) (a.units goal few);
}

-- ---- how many units, by how far the goal is

pub none_left : (goal committed frozen left pages : ℕ) → goal ≤ committed → units_by goal committed frozen left pages ≡ 0
none_left goal committed frozen left pages low = cond-true (nat_le goal committed) 0 _ (le-leb goal committed low)

not_le : (a b : ℕ) → b < a → nat_le a b ≡ false
not_le a b more = lt-leb a b more

pub left_to_commit : (goal committed frozen left pages : ℕ) → committed < goal → goal ≤ frozen → units_by goal committed frozen left pages ≡ left - pages
left_to_commit goal committed frozen left pages more low =
    cond-false (nat_le goal committed) 0 _ (not_le goal committed more)
    ∙ cond-true (nat_le goal frozen) (left - pages) (left + 66) (le-leb goal frozen low)

pub left_and_more : (goal committed frozen left pages : ℕ) → committed < goal → frozen < goal → units_by goal committed frozen left pages ≡ left + 66
left_and_more goal committed frozen left pages more high =
    cond-false (nat_le goal committed) 0 _ (not_le goal committed more)
    ∙ cond-false (nat_le goal frozen) (left - pages) (left + 66) (not_le goal frozen high)

-- ---- a journal that is idle

-- none is awaited, and no unit is left
pub idle_shut : (p : Progress) (f : Frozen) → p.phase ≡ Header → f ≡ none_frozen → AwaitsCommitPage p f → ⊥
idle_shut p f is none more =
    let m : 0 < units_left Header 0 = subst (λ (x : Phase). 0 < units_left x 0) is (subst (λ (x : Frozen). length x.addresses < units_left p.phase (length x.addresses)) none more) in omega (arith, m)

pub idle_left : (p : Progress) (f : Frozen) → p.phase ≡ Header → f ≡ none_frozen → units_left p.phase (length f.addresses) ≡ 0
idle_left p f is none = ap (λ (x : Frozen). units_left p.phase (length x.addresses)) none ∙ ap (λ (x : Phase). units_left x 0) is

-- ---- a whole commit

abbrev pub left_of : {D : Type 0} → Core D → ℕ
left_of v = units_left v.journal.phase (length v.meta.frozen.addresses)

abbrev pub pages_of : {D : Type 0} → Core D → ℕ
pages_of v = length v.meta.frozen.addresses

abbrev pub Awaits : {D : Type 0} → Core D → Type 0
Awaits v = AwaitsCommitPage v.journal v.meta.frozen

-- What is known of the transactions where the dirty pages were frozen, or were not.
pub record Froze {D : Type 0} (v w : Core D) (froze : Bool) (earlier decided : Option ℕ) : Type 0 where
  pub stays : froze ≡ false → earlier ≡ None → Awaits v → Awaits w
  pub never : froze ≡ false → decided ≡ None
  pub opens : froze ≡ true → decided ≡ None → Awaits w
  pub fewer : froze ≡ false → left_of w ≤ left_of v
  pub pages : froze ≡ false → (pages_of w ≡ pages_of v) ⊎ (left_of w ≡ 0)
  pub was_shut : froze ≡ true → earlier ≡ None → Awaits v → ⊥
  pub few : froze ≡ true → left_of w - pages_of w ≤ 66

module _ {D : Type 0} (v w : Core D) (counts : CountsInOrder v) (count : w.count ≡ v.count) where
  pub counts_then : (froze : Bool) (earlier decided : Option ℕ) → w.committed ≡ committed_count v earlier decided → w.frozen ≡ frozen_then v froze
      → w.leaving ≡ leaving_after froze earlier decided (length v.freeing.items) v.leaving → Froze v w froze earlier decided → CountsInOrder w
  counts_then false None None committed frozen leaving f =
      let c : w.committed ≡ v.committed = committed in
      let z : w.frozen ≡ v.frozen = frozen in
      let one = counts.later in
      let two = counts.latest in
      let three = counts.few in
      record {
        later = omega (arith, one, c, z);
        latest = omega (arith, two, count, z);
        few = omega (arith, three, count);
        shut = λ off. let both = counts.shut (λ more. off (f.stays refl refl more)) in (z ∙ both.0 ∙ sym c, leaving ∙ both.1);
      }
  counts_then false (Some m) None committed frozen leaving f =
      let c : w.committed ≡ v.frozen = committed in
      let z : w.frozen ≡ v.frozen = frozen in
      let two = counts.latest in
      let three = counts.few in
      record {
        later = omega (arith, c, z);
        latest = omega (arith, two, count, z);
        few = omega (arith, three, count);
        shut = λ off. (z ∙ sym c, leaving);
      }
  counts_then false earlier (Some m) committed frozen leaving f = absurd (none_some m (sym (f.never refl)))
  counts_then true None None committed frozen leaving f =
      let c : w.committed ≡ v.committed = committed in
      let z : w.frozen ≡ v.count = frozen in
      let one = counts.later in
      let two = counts.latest in
      let three = counts.few in
      record {
        later = omega (arith, one, two, c, z);
        latest = omega (arith, count, z);
        few = omega (arith, three, count);
        shut = λ off. absurd (off (f.opens refl refl));
      }
  counts_then true (Some m) None committed frozen leaving f =
      let c : w.committed ≡ v.frozen = committed in
      let z : w.frozen ≡ v.count = frozen in
      let two = counts.latest in
      let three = counts.few in
      record {
        later = omega (arith, two, c, z);
        latest = omega (arith, count, z);
        few = omega (arith, three, count);
        shut = λ off. absurd (off (f.opens refl refl));
      }
  counts_then true earlier (Some m) committed frozen leaving f =
      let c : w.committed ≡ v.count = committed in
      let z : w.frozen ≡ v.count = frozen in
      let three = counts.few in
      record {
        later = omega (arith, c, z);
        latest = omega (arith, count, z);
        few = omega (arith, three, count);
        shut = λ off. (z ∙ sym c, leaving);
      }

  -- what is committed does not fall
  committed_then : (froze : Bool) (earlier decided : Option ℕ) → w.committed ≡ committed_count v earlier decided → v.committed ≤ w.committed
  committed_then froze None None committed = let c : w.committed ≡ v.committed = committed in omega (arith, c)
  committed_then froze (Some m) None committed = let c : w.committed ≡ v.frozen = committed in let one = counts.later in omega (arith, c, one)
  committed_then froze earlier (Some m) committed = let c : w.committed ≡ v.count = committed in let one = counts.later in let two = counts.latest in omega (arith, c, one, two)

  -- both have all units that are left, and those of the next transaction
  both_more : (goal : ℕ) → v.frozen < goal → w.committed < goal → w.frozen < goal → left_of w ≤ left_of v → units_for w goal ≤ units_for v goal
  both_more goal past more high fewer =
      let low = counts.later in
      let a = left_and_more goal w.committed w.frozen (left_of w) (pages_of w) more high in
      let b = left_and_more goal v.committed v.frozen (left_of v) (pages_of v) (omega (arith, low, past)) past in
      le_then (units_for w goal) (left_of w + 66) (units_for v goal) (le_same (units_for w goal) (left_of w + 66) a)
      (le_then (left_of w + 66) (left_of v + 66) (units_for v goal) (omega (arith, fewer)) (le_same (left_of v + 66) (units_for v goal) (sym b)))

  -- the frozen transaction reaches the goal now, and did not before
  frozen_now : (goal : ℕ) → v.frozen < goal → w.committed < goal → goal ≤ w.frozen → left_of w - pages_of w ≤ 66 → units_for w goal ≤ units_for v goal
  frozen_now goal past more high few =
      let low = counts.later in
      let a = left_to_commit goal w.committed w.frozen (left_of w) (pages_of w) more high in
      let b = left_and_more goal v.committed v.frozen (left_of v) (pages_of v) (omega (arith, low, past)) past in
      le_then (units_for w goal) (left_of w - pages_of w) (units_for v goal) (le_same (units_for w goal) (left_of w - pages_of w) a)
      (le_then (left_of w - pages_of w) (left_of v + 66) (units_for v goal) (le_then (left_of w - pages_of w) 66 (left_of v + 66) few (omega arith)) (le_same (left_of v + 66) (units_for v goal) (sym b)))

  -- it reaches it as before
  frozen_still : (goal : ℕ) → w.committed ≡ v.committed → goal ≤ v.frozen → w.committed < goal → goal ≤ w.frozen → left_of w - pages_of w ≤ left_of v - pages_of v → units_for w goal ≤ units_for v goal
  frozen_still goal same past more high few =
      let a = left_to_commit goal w.committed w.frozen (left_of w) (pages_of w) more high in
      let b = left_to_commit goal v.committed v.frozen (left_of v) (pages_of v) (omega (arith, same, more)) past in
      le_then (units_for w goal) (left_of w - pages_of w) (units_for v goal) (le_same (units_for w goal) (left_of w - pages_of w) a)
      (le_then (left_of w - pages_of w) (left_of v - pages_of v) (units_for v goal) few (le_same (left_of v - pages_of v) (units_for v goal) (sym b)))

  behind : (left pages now : ℕ) → now ≤ left → (a : ℕ) → (a ≡ pages) ⊎ (now ≡ 0) → now - a ≤ left - pages
  behind left pages now fewer a (inl same) = omega (arith, fewer, same)
  behind left pages now fewer a (inr none) = omega (arith, none)

  units_then : (froze : Bool) (earlier decided : Option ℕ) → w.committed ≡ committed_count v earlier decided → w.frozen ≡ frozen_then v froze → Froze v w froze earlier decided
      → (goal : ℕ) → goal ≤ v.count → w.committed < goal → units_for w goal ≤ units_for v goal
  units_then false None None committed frozen f goal few more =
      let c : w.committed ≡ v.committed = committed in
      let z : w.frozen ≡ v.frozen = frozen in
      ⊎_elim
      (λ past. both_more goal past more (omega (arith, z, past)) (f.fewer refl))
      (λ reach. frozen_still goal c reach more (omega (arith, z, reach)) (behind (left_of v) (pages_of v) (left_of w) (f.fewer refl) (pages_of w) (f.pages refl)))
      (cases_lt v.frozen goal)
  units_then false (Some m) None committed frozen f goal few more =
      let c : w.committed ≡ v.frozen = committed in
      let z : w.frozen ≡ v.frozen = frozen in
      both_more goal (omega (arith, c, more)) more (omega (arith, c, z, more)) (f.fewer refl)
  units_then false earlier (Some m) committed frozen f goal few more = absurd (none_some m (sym (f.never refl)))
  units_then true None None committed frozen f goal few more =
      let c : w.committed ≡ v.committed = committed in
      let z : w.frozen ≡ v.count = frozen in
      let same = (counts.shut (f.was_shut refl refl)).0 in
      frozen_now goal (omega (arith, c, same, more)) more (omega (arith, z, few)) (f.few refl)
  units_then true (Some m) None committed frozen f goal few more =
      let c : w.committed ≡ v.frozen = committed in
      let z : w.frozen ≡ v.count = frozen in
      frozen_now goal (omega (arith, c, more)) more (omega (arith, z, few)) (f.few refl)
  units_then true earlier (Some m) committed frozen f goal few more =
      let c : w.committed ≡ v.count = committed in
      absurd (let no : ⊥ = omega (arith, c, few, more) in no)

  pub onward_by : (froze : Bool) (earlier decided : Option ℕ) → w.committed ≡ committed_count v earlier decided → w.frozen ≡ frozen_then v froze → Froze v w froze earlier decided → CommitsOnward v w
  onward_by froze earlier decided committed frozen f = record {
    committed = committed_then froze earlier decided committed;
    units = λ goal few. ⊎_elim
        (λ more. units_then froze earlier decided committed frozen f goal few more)
        (λ low. le_then (units_for w goal) 0 (units_for v goal) (le_same (units_for w goal) 0 (none_left goal w.committed w.frozen (left_of w) (pages_of w) low)) (omega arith))
        (cases_lt w.committed goal);
  }
