-- The answers of a write under a new name.
use Rattle.std.proofs.Common.{◌≡◌, ◌⊎◌, inl, inr, ⊎_elim, ℕ, ◌+◌, ◌<◌, ◌≤◌, Bool, true, false, cond, refl, sym, ◌∙◌, ap, subst, arith}
use Rattle.std.proofs.lemmas.Bool.{false≢true}
use Rattle.nl_field.specs.CrashStates.{Earlier, saturated}
use Rattle.nl_field.specs.declared.answers.Named.{Named}
use Rattle.nl_field.specs.declared.answers.Named.TheVariants as named
use Rattle.nl_field.specs.declared.pointer.Pointer.{Pointer}
use Rattle.nl_iface.specs.Answers as shown
use Rattle.nl_iface.specs.Counting.{FailuresCounted, StampRises}
use Rattle.nl_iface.specs.Space.{FailsToWrite}
use Rattle.nl_pseg.specs.Answers.{IfPlaced, IsWriteFault, IsPlaced, NamesPage}
use Rattle.nl_pseg.specs.Segment.{IsClean, NeedsNoErase, IsSpent, IsUnspent, Physical, SameBlocksAndPages, room}
use Rattle.nl_pseg.specs.Space.{HasRoomForVictim, SameCleaning}
use Rattle.nl_device.specs.Space.{space_of}
use Rattle.nl_device.specs.Stamps.{is_tried}
use Rattle.nl_device.proofs.Spacing.{write_failed}

pub placed_map : (answer : Named) (P Q : Pointer → Type 0) → IfPlaced answer P → ((at : Pointer) → answer ≡ named.Placed at → P at → Q at) → shown.IfPlaced answer Q
placed_map (named.Placed at) P Q h by = by at refl h
placed_map named.NotLive P Q h by = tt
placed_map named.NoPage P Q h by = tt
placed_map named.Fault P Q h by = tt

pub placed_both : (answer : Named) (P R Q : Pointer → Type 0) → IfPlaced answer P → IfPlaced answer R → ((at : Pointer) → answer ≡ named.Placed at → P at → R at → Q at) → shown.IfPlaced answer Q
placed_both (named.Placed at) P R Q h k by = by at refl h k
placed_both named.NotLive P R Q h k by = tt
placed_both named.NoPage P R Q h k by = tt
placed_both named.Fault P R Q h k by = tt

pub placed_at : (answer : Named) (P : Pointer → Type 0) (at : Pointer) → answer ≡ named.Placed at → IfPlaced answer P → P at
placed_at answer P at is h = subst (λ a. IfPlaced a P) is h

pub placed_yes : (answer : Named) (at : Pointer) → answer ≡ named.Placed at → IsPlaced answer
placed_yes answer at is = subst IsPlaced (sym is) tt

pub to_placed : (answer : Named) → shown.IsPlaced answer → IsPlaced answer
to_placed (named.Placed at) h = h
to_placed named.NotLive h = h
to_placed named.NoPage h = h
to_placed named.Fault h = h

pub from_placed : (answer : Named) → IsPlaced answer → shown.IsPlaced answer
from_placed (named.Placed at) h = h
from_placed named.NotLive h = h
from_placed named.NoPage h = h
from_placed named.Fault h = h

pub fault_if : (answer : Named) (P : Type 0) → (answer ≡ named.Fault → P) → shown.IfWriteFault answer P
fault_if (named.Placed at) P by = tt
fault_if named.NotLive P by = tt
fault_if named.NoPage P by = tt
fault_if named.Fault P by = by refl

pub fault_no : (answer : Named) → answer ≡ named.Fault → IsPlaced answer → ⊥
fault_no answer is placed = subst IsPlaced is placed

pub placed_or : (answer : Named) → ((at : Pointer) × (answer ≡ named.Placed at)) ⊎ (IsPlaced answer → ⊥)
placed_or (named.Placed at) = inl (at, refl)
placed_or named.NotLive = inr (λ h. h)
placed_or named.NoPage = inr (λ h. h)
placed_or named.Fault = inr (λ h. h)

-- how a write ended
pub data Ended (answer : Named) : Type 0 where
  placed : IsPlaced answer → is_tried answer ≡ true → Ended answer
  failed : answer ≡ named.Fault → is_tried answer ≡ true → Ended answer
  refused : (answer ≡ named.NotLive) ⊎ (answer ≡ named.NoPage) → (IsPlaced answer → ⊥) → Ended answer

pub ended : (answer : Named) → Ended answer
ended (named.Placed at) = placed tt refl
ended named.NotLive = refused (inl refl) (λ h. h)
ended named.NoPage = refused (inr refl) (λ h. h)
ended named.Fault = failed refl refl

pub room_is : (seg : Physical) → (space_of seg).room ≡ room seg
unfolding space_of
room_is seg = refl

-- what holds of a page of that number holds of the name that is told
pub named_has : (answer : Named) (page stamp : ℕ) (P : ℕ → Type 0) → NamesPage page stamp answer → P page → shown.IfPlaced answer (λ at. P at.name)
named_has answer page stamp P is has = placed_map answer (λ at. at ≡ record { name = page; stamp = stamp }) (λ at. P at.name) is (λ at e same. subst P (sym (ap (λ (p : Pointer). p.name) same)) has)

pub if_not_placed : (answer : Named) (P : Pointer → Type 0) → (IsPlaced answer → ⊥) → shown.IfPlaced answer P
if_not_placed (named.Placed at) P un = absurd (un tt)
if_not_placed named.NotLive P un = tt
if_not_placed named.NoPage P un = tt
if_not_placed named.Fault P un = tt

pub if_refused : (answer : Named) (P : Type 0) → ((answer ≡ named.NotLive) ⊎ (answer ≡ named.NoPage) → P) → shown.IfRefused answer P
if_refused (named.Placed at) P by = tt
if_refused named.NotLive P by = by (inl refl)
if_refused named.NoPage P by = by (inr refl)
if_refused named.Fault P by = tt

pub not_tried : (answer : Named) → (answer ≡ named.NotLive) ⊎ (answer ≡ named.NoPage) → is_tried answer ≡ false
not_tried answer (inl is) = ap is_tried is
not_tried answer (inr is) = ap is_tried is

pub fault_space : (answer : Named) (old new : Physical) → SameBlocksAndPages old new → ((IsPlaced answer → ⊥) → SameCleaning old new) → ((IsPlaced answer → ⊥) → HasRoomForVictim old → HasRoomForVictim new) → (IsWriteFault answer → IsSpent old new ⊎ (IsUnspent old new × (NeedsNoErase old → ⊥))) → ((IsPlaced answer → ⊥) → new.held ≡ old.held) → ((IsPlaced answer → ⊥) → new.pairs ≡ old.pairs)
    → shown.IfWriteFault answer (FailsToWrite (space_of old) (space_of new))
fault_space answer old new same cleaning lands fails held pairs = fault_if answer (FailsToWrite (space_of old) (space_of new)) (λ is.
    write_failed old new same (cleaning (fault_no answer is)) (lands (fault_no answer is)) (⊎_elim (λ s. inl s) (λ u. inr u.0) (fails is)) (held (fault_no answer is)) (pairs (fault_no answer is)))

pub fault_room : (answer : Named) (old new : Physical) → IsClean old → (IsWriteFault answer → IsSpent old new ⊎ (IsUnspent old new × (NeedsNoErase old → ⊥))) → shown.IfWriteFault answer ((space_of new).room + 1 ≡ (space_of old).room)
fault_room answer old new clean fails = fault_if answer ((space_of new).room + 1 ≡ (space_of old).room) (λ is.
    ⊎_elim
    (λ s. ap (λ n. n + 1) (room_is new) ∙ (s.room ∙ sym (room_is old)))
    (λ u. absurd (u.1 (inr clean)))
    (fails is))

pub counted : (exact : Type 0) (answer : Named) (before now : ℕ) → before ≤ now → (IsWriteFault answer → now ≡ saturated (before + 1)) → ((IsWriteFault answer → ⊥) → now ≡ before) → FailuresCounted exact before now (answer ≡ named.Fault)
counted exact answer before now more fails well = record {
  never_falls = more;
  cause = λ is. let e = fails is in omega (arith, e);
  once = λ only is. fails is;
  stays = λ only un. well un;
}

-- the next stamp rises by one where a page was tried, and by no more than the counts do
pub named_rises : (answer : Named) (tried : Bool) (now next clock clock_now faults faults_now : ℕ) → now ≡ next + cond tried 1 0 → tried ≡ is_tried answer → clock ≤ clock_now → faults ≤ faults_now → (IsPlaced answer → Earlier clock clock_now) → (IsWriteFault answer → faults_now ≡ saturated (faults + 1))
    → StampRises (shown.IsTriedNamed answer) next now clock clock_now faults faults_now
named_rises answer tried now next clock clock_now faults faults_now is tried_is later more strict fails = by answer (is ∙ ap (λ b. next + cond b 1 0) tried_is) strict fails
  where
    by : (answer : Named) → now ≡ next + cond (is_tried answer) 1 0 → (IsPlaced answer → Earlier clock clock_now) → (IsWriteFault answer → faults_now ≡ saturated (faults + 1)) → StampRises (shown.IsTriedNamed answer) next now clock clock_now faults faults_now
    by (named.Placed at) one strict fails = record {
      never_falls = omega (arith, one);
      at_most_one = omega (arith, one);
      taken = λ t. one;
      stays = λ un. absurd (un tt);
      paid = λ small few. let lt : clock < clock_now = strict tt (omega (arith, later, small)) in omega (arith, one, lt, more);
    }
    by named.Fault one strict fails = record {
      never_falls = omega (arith, one);
      at_most_one = omega (arith, one);
      taken = λ t. one;
      stays = λ un. absurd (un tt);
      paid = λ small few. let e = fails refl in omega (arith, one, e, few, later);
    }
    by named.NotLive none strict fails = stays none
      where
        stays : now ≡ next + 0 → StampRises ⊥ next now clock clock_now faults faults_now
        stays none = record { never_falls = omega (arith, none); at_most_one = omega (arith, none); taken = λ t. absurd t; stays = λ un. omega (arith, none); paid = λ small few. omega (arith, none, later, more) }
    by named.NoPage none strict fails = record { never_falls = omega (arith, none); at_most_one = omega (arith, none); taken = λ t. absurd t; stays = λ un. omega (arith, none); paid = λ small few. omega (arith, none, later, more) }

-- the next stamp
pub after_tried : (answer : Named) (tried : Bool) (next now : ℕ) → now ≡ next + cond tried 1 0 → tried ≡ is_tried answer → is_tried answer ≡ true → now ≡ next + 1
after_tried answer tried next now is tried_is yes_tried = is ∙ ap (λ b. next + cond b 1 0) (tried_is ∙ yes_tried)

pub after_rises : (tried : Bool) (next now : ℕ) → now ≡ next + cond tried 1 0 → next ≤ now
after_rises tried next now is = omega (arith, is)

pub tried_placed : (answer : Named) → IsPlaced answer → is_tried answer ≡ true
tried_placed (named.Placed at) p = refl
tried_placed named.NotLive p = absurd p
tried_placed named.NoPage p = absurd p
tried_placed named.Fault p = absurd p

pub cases_tried : {P : Type 0} (answer : Named) → (is_tried answer ≡ true → P) → (is_tried answer ≡ false → P) → P
cases_tried (named.Placed at) yes_tried un = yes_tried refl
cases_tried named.NotLive yes_tried un = un refl
cases_tried named.NoPage yes_tried un = un refl
cases_tried named.Fault yes_tried un = yes_tried refl

-- what is not tried was refused
pub not_touched : {P : Type 0} (answer : Named) → is_tried answer ≡ false → ((answer ≡ named.NotLive) ⊎ (answer ≡ named.NoPage) → P) → P
not_touched (named.Placed at) un by = absurd (false≢true (sym un))
not_touched named.NotLive un by = by (inl refl)
not_touched named.NoPage un by = by (inr refl)
not_touched named.Fault un by = absurd (false≢true (sym un))
