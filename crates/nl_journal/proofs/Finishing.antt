-- One write, and then those that are left.
use Rattle.std.proofs.Common.{◌≡◌, ◌⊎◌, inl, inr, ℕ, zero, suc, ◌+◌, ◌*◌, ◌<◌, ◌≤◌, ◌==◌, nat_lt, Bool, true, false, cond, Option, Some, None, position, List, [], length, refl, sym, ◌∙◌, ap, subst, arith}
use Rattle.std.proofs.lemmas.Bool.{cases_lt, cond-true, cond-false, lt-ltb, le-ltb, ne_eqb}
use Rattle.nl_field.specs.declared.shape.Shape.{Shape}
use Rattle.nl_iface.specs.Stored.{NoneFailed, Stored, Value}
use Rattle.nl_meta.specs.Committed.{VirtualMap}
use Rattle.nl_meta.specs.Pages.{Frozen, none_frozen}
use Rattle.nl_journal.specs.Outcomes.{Agrees}
use Rattle.nl_journal.specs.Transaction.{place, with_pages}
use Rattle.nl_journal.specs.Progress.{IsPhase, begun_in, next_number_in, next_phase, raised, units_left}
use Rattle.nl_journal.specs.Committing.{aimed, finished, is_decided}
use Rattle.nl_journal.specs.Left.{StoresCommitted, LeavesRest}
use Rattle.nl_journal.specs.Units.{frozen_after}
use Rattle.nl_journal.specs.declared.answers.Phase.{Phase}
use Rattle.nl_journal.specs.declared.answers.Phase.TheVariants.{Header, Image, Commit, Home}
use Rattle.nl_journal.proofs.Counted.{page_there, page_beside}

-- pages over the same base
pub with_same : (frozen : Frozen) (count : ℕ) (f g : VirtualMap) → Agrees count f g → Agrees count (with_pages frozen f) (with_pages frozen g)
with_same frozen count f g same v home = by (place frozen v) refl
  where
    by : (o : Option ℕ) → place frozen v ≡ o → with_pages frozen f v ≡ with_pages frozen g v
    by None is = page_beside frozen f v is ∙ same v home ∙ sym (page_beside frozen g v is)
    by (Some i) is = page_there frozen f v i is ∙ sym (page_there frozen g v i is)

-- without pages
pub with_none : (frozen : Frozen) (base : VirtualMap) (v : ℕ) → frozen.addresses ≡ [] → with_pages frozen base v ≡ base v
with_none frozen base v none = page_beside frozen base v (ap (λ (xs : List ℕ). position (λ a. a == v) xs) none)

pub finished_same : (phase : Phase) (frozen : Frozen) (count : ℕ) (f g : VirtualMap) → Agrees count f g → Agrees count (finished phase frozen f) (finished phase frozen g)
finished_same Header frozen count f g same = with_same frozen count f g same
finished_same (Image i) frozen count f g same = with_same frozen count f g same
finished_same Commit frozen count f g same = with_same frozen count f g same
finished_same (Home i) frozen count f g same = same

pub agrees_then : (count : ℕ) (f g h : VirtualMap) → Agrees count f g → Agrees count g h → Agrees count f h
agrees_then count f g h first second v home = first v home ∙ second v home

undecided_either : (b : Bool) (i : ℕ) → is_decided (cond b (Image (i + 1)) Commit) ≡ false
undecided_either true i = refl
undecided_either false i = refl

home_goal : (b : Bool) (i count : ℕ) (frozen : Frozen) (f g : VirtualMap) → Agrees count g f → Agrees count (finished (cond b (Home (i + 1)) Header) (cond b frozen none_frozen) g) f
home_goal true i count frozen f g same = same
home_goal false i count frozen f g same = λ v home. with_none none_frozen g v refl ∙ same v home

-- what is aimed at stays the same from write to write
pub finished_next : (phase : Phase) (frozen : Frozen) (count : ℕ) (f g : VirtualMap) → Agrees count g (aimed phase frozen f)
    → Agrees count (finished (next_phase phase (length frozen.addresses)) (frozen_after phase frozen) g) (finished phase frozen f)
finished_next Header frozen count f g same = with_same frozen count g f same
finished_next (Image i) frozen count f g same =
    subst (λ b. Agrees count (cond b g (with_pages frozen g)) (with_pages frozen f)) (sym (undecided_either (nat_lt (i + 1) (length frozen.addresses)) i)) (with_same frozen count g f same)
finished_next Commit frozen count f g same = same
finished_next (Home i) frozen count f g same = home_goal (nat_lt (i + 1) (length frozen.addresses)) i count frozen f g same

image_begun : (b : Bool) (i number pages : ℕ) → begun_in (cond b (Image (i + 1)) Commit) number pages ≡ raised number
image_begun true i number pages = refl
image_begun false i number pages = refl

home_begun : (b : Bool) (i number : ℕ) (frozen : Frozen) → begun_in (cond b (Home (i + 1)) Header) number (length (cond b frozen none_frozen).addresses) ≡ number
home_begun true i number frozen = refl
home_begun false i number frozen = refl

-- the number of the last transaction that was begun stays
pub begun_next : (phase : Phase) (number : ℕ) (frozen : Frozen) → 1 ≤ length frozen.addresses
    → begun_in (next_phase phase (length frozen.addresses)) (next_number_in phase number) (length (frozen_after phase frozen).addresses) ≡ begun_in phase number (length frozen.addresses)
begun_next Header number frozen some = sym (cond-false (length frozen.addresses == 0) number (raised number) (ne_eqb (length frozen.addresses) 0 (λ e. omega (arith, some, e))))
begun_next (Image i) number frozen some = image_begun (nat_lt (i + 1) (length frozen.addresses)) i number (length frozen.addresses)
begun_next Commit number frozen some = refl
begun_next (Home i) number frozen some = home_begun (nat_lt (i + 1) (length frozen.addresses)) i number frozen

pub header_units : (pages : ℕ) → 1 ≤ pages → units_left Header pages ≡ 2 * pages + 2
header_units pages some = cond-false (pages == 0) 0 (2 * pages + 2) (ne_eqb pages 0 (λ e. omega (arith, some, e)))

-- a write leaves one less
pub units_next : (phase : Phase) (frozen : Frozen) → IsPhase phase (length frozen.addresses) → 1 ≤ length frozen.addresses
    → units_left (next_phase phase (length frozen.addresses)) (length (frozen_after phase frozen).addresses) + 1 ≡ units_left phase (length frozen.addresses)
units_next Header frozen at some = let e = header_units (length frozen.addresses) some in omega (arith, e)
units_next (Image i) frozen at some = by (cases_lt (i + 1) (length frozen.addresses))
  where
    by : (i + 1 < length frozen.addresses) ⊎ (length frozen.addresses ≤ i + 1) → units_left (next_phase (Image i) (length frozen.addresses)) (length frozen.addresses) + 1 ≡ units_left (Image i) (length frozen.addresses)
    by (inl more) = ap (λ p. units_left p (length frozen.addresses) + 1) (cond-true (nat_lt (i + 1) (length frozen.addresses)) (Image (i + 1)) Commit (lt-ltb (i + 1) (length frozen.addresses) more)) ∙ omega (arith, at, more)
    by (inr end) = ap (λ p. units_left p (length frozen.addresses) + 1) (cond-false (nat_lt (i + 1) (length frozen.addresses)) (Image (i + 1)) Commit (le-ltb (i + 1) (length frozen.addresses) end)) ∙ omega (arith, at, end)
units_next Commit frozen at some = omega (arith, at)
units_next (Home i) frozen at some = by (cases_lt (i + 1) (length frozen.addresses))
  where
    both : Bool → ℕ
    both b = units_left (cond b (Home (i + 1)) Header) (length (cond b frozen none_frozen).addresses) + 1

    by : (i + 1 < length frozen.addresses) ⊎ (length frozen.addresses ≤ i + 1)
        → units_left (next_phase (Home i) (length frozen.addresses)) (length (frozen_after (Home i) frozen).addresses) + 1 ≡ units_left (Home i) (length frozen.addresses)
    by (inl more) = ap both (lt-ltb (i + 1) (length frozen.addresses) more) ∙ omega (arith, at, more)
    by (inr end) = ap both (le-ltb (i + 1) (length frozen.addresses) end) ∙ omega (arith, at, end)

-- nothing is left only where nothing is frozen
pub nothing_left : (phase : Phase) (frozen : Frozen) → IsPhase phase (length frozen.addresses) → units_left phase (length frozen.addresses) ≡ 0 → (phase ≡ Header) × (length frozen.addresses ≡ 0)
nothing_left Header frozen at none = by (length frozen.addresses) refl
  where
    by : (n : ℕ) → length frozen.addresses ≡ n → (Header ≡ Header) × (length frozen.addresses ≡ 0)
    by zero is = (refl, is)
    by (suc n) is = absurd (let e = header_units (length frozen.addresses) (omega (arith, is)) in omega (arith, e, none))
nothing_left (Image i) frozen at none = absurd (let no : ⊥ = omega (arith, none, at) in no)
nothing_left Commit frozen at none = absurd (let no : ⊥ = omega (arith, none) in no)
nothing_left (Home i) frozen at none = absurd (let no : ⊥ = omega (arith, none, at) in no)

-- a write leaves what was committed, or all of the transaction
pub aimed_or : (phase : Phase) (frozen : Frozen) (shape : Shape) (base : VirtualMap) (c : Stored) → StoresCommitted shape (aimed phase frozen base) c → StoresCommitted shape base c ⊎ StoresCommitted shape (finished phase frozen base) c
aimed_or Header frozen shape base c is = inl is
aimed_or (Image i) frozen shape base c is = inl is
aimed_or Commit frozen shape base c is = inr is
aimed_or (Home i) frozen shape base c is = inl is

-- the commit page was not written and is not, or the write leaves all of the transaction
pub last_or : (phase : Phase) (frozen : Frozen) (shape : Shape) (base : VirtualMap)
    → ((is_decided phase ≡ false) × (is_decided (next_phase phase (length frozen.addresses)) ≡ false)) ⊎ ((c : Stored) → StoresCommitted shape (aimed phase frozen base) c → StoresCommitted shape (finished phase frozen base) c)
last_or Header frozen shape base = inl (refl, refl)
last_or (Image i) frozen shape base = inl (refl, undecided_either (nat_lt (i + 1) (length frozen.addresses)) i)
last_or Commit frozen shape base = inr (λ c is. is)
last_or (Home i) frozen shape base = inr (λ c is. is)

-- no more units are left than pages are frozen only where nothing is frozen, or the commit page is written
pub few_left : (phase : Phase) (pages : ℕ) → IsPhase phase pages → units_left phase pages ≤ pages → ((phase ≡ Header) × (pages ≡ 0)) ⊎ (is_decided phase ≡ true)
few_left Header zero at few = inl (refl, refl)
few_left Header (suc n) at few = absurd (let e = header_units (suc n) (omega arith) in omega (arith, e, few))
few_left (Image i) pages at few = absurd (let no : ⊥ = omega (arith, at, few) in no)
few_left Commit pages at few = absurd (let no : ⊥ = omega (arith, few) in no)
few_left (Home i) pages at few = inr refl

-- more are left before it is written
pub many_left : (phase : Phase) (pages : ℕ) → 1 ≤ pages → IsPhase phase pages → is_decided phase ≡ false → pages < units_left phase pages
many_left Header pages some at undecided = let e = header_units pages some in omega (arith, e)
many_left (Image i) pages some at undecided = omega (arith, at)
many_left Commit pages some at undecided = omega arith
many_left (Home i) pages some at undecided = absurd (let no : ⊥ = cc in no)

-- what is frozen stays, or all of it is home
pub after_either : (phase : Phase) (frozen : Frozen) → (frozen_after phase frozen ≡ frozen) ⊎ (frozen_after phase frozen ≡ none_frozen)
after_either Header frozen = inl refl
after_either (Image i) frozen = inl refl
after_either Commit frozen = inl refl
after_either (Home i) frozen = by (nat_lt (i + 1) (length frozen.addresses))
  where
    by : (b : Bool) → (cond b frozen none_frozen ≡ frozen) ⊎ (cond b frozen none_frozen ≡ none_frozen)
    by true = inl refl
    by false = inr refl

-- it stays before the commit page
after_undecided : (phase : Phase) (frozen : Frozen) → is_decided phase ≡ false → frozen_after phase frozen ≡ frozen
after_undecided Header frozen is = refl
after_undecided (Image i) frozen is = refl
after_undecided Commit frozen is = refl
after_undecided (Home i) frozen is = absurd (let no : ⊥ = cc in no)

-- where nothing is frozen the header is due
pub phase_of_none : (phase : Phase) → IsPhase phase 0 → phase ≡ Header
phase_of_none Header at = refl
phase_of_none (Image i) at = absurd (let no : ⊥ = omega (arith, at) in no)
phase_of_none Commit at = absurd (let no : ⊥ = omega (arith, at) in no)
phase_of_none (Home i) at = absurd (let no : ⊥ = omega (arith, at) in no)

-- before the commit page more are left than pages are frozen
pub more_left : (phase next : Phase) (frozen now : Frozen) (until : ℕ) → 1 ≤ length frozen.addresses → until ≤ length frozen.addresses → IsPhase next (length now.addresses) → now ≡ frozen_after phase frozen
    → is_decided phase ≡ false → is_decided next ≡ false → until < units_left next (length now.addresses)
more_left phase next frozen now until some most at is before undecided =
    let same : length now.addresses ≡ length frozen.addresses = ap (λ (x : Frozen). length x.addresses) (is ∙ after_undecided phase frozen before) in
    let many = many_left next (length now.addresses) (omega (arith, same, some)) at undecided in
    omega (arith, many, same, most)

pub commits_same : (shape : Shape) (f g : VirtualMap) (c : Stored) → Agrees shape.vaddrs f g → StoresCommitted shape f c → StoresCommitted shape g c
commits_same shape f g c same is v home = is v home ∙ same v home

-- the rest, by what was there before the first call
pub rest_then : (count : ℕ) (failed mid_failed : ℕ → Value → Type 0) (old mid c : Stored) → (NoneFailed count failed → NoneFailed count mid_failed)
    → LeavesRest count failed old mid → LeavesRest count mid_failed mid c → LeavesRest count failed old c
rest_then count failed mid_failed old mid c none first second = record {
  beyond = second.beyond;
  firm = λ firm unfailed. second.firm (first.firm firm unfailed) (none unfailed);
  named = λ p. second.named p ∙ first.named p;
}
