-- What a write by a virtual address leaves.
use Rattle.std.specs.Prelude.{◌↔◌}
use Rattle.std.proofs.Common.{◌≡◌, ◌⊎◌, inl, inr, ⊎_elim, ℕ, ◌+◌, ◌*◌, ◌<◌, ◌≤◌, ◌==◌, if◌then◌else◌, nat_lt, List, [], Option, Some, cond, Bool, true, false, refl, sym, ◌∙◌, ap, subst, arith, eq-eqb, ne_eqb}
use Rattle.std.proofs.lemmas.Bool.{cases_eq, cases_lt, cond-true, cond-false, false≢true, lt-ltb}
use Rattle.std.proofs.lemmas.Option.{same_Some}
use Rattle.nl_field.specs.Page.{Image, page_at}
use Rattle.nl_field.specs.Medium.{shape_of_image}
use Rattle.nl_field.specs.CrashStates.{Earlier, Rose, saturated, top}
use Rattle.nl_field.specs.declared.answers.VirtualWrite.{VirtualWrite}
use Rattle.nl_field.specs.declared.answers.VirtualWrite.TheVariants as write
use Rattle.nl_field.specs.declared.shape.Shape.{Shape}
use Rattle.nl_iface.specs.Answers.{LosesStamp}
use Rattle.nl_iface.specs.Counting.{StampRises}
use Rattle.nl_iface.specs.Left.{LeavesMap}
use Rattle.nl_iface.specs.Stored.{NoneFailed, Value, failed_beside, is_firm, stored_in, with_value}
use Rattle.nl_vseg.specs.Cleaning.{LosesUntold}
use Rattle.nl_vseg.specs.Effects.{ImageKeepsMap, GainsValue}
use Rattle.nl_vseg.specs.Maps.{Dominated}
use Rattle.nl_vseg.specs.Pages.{PageShows}
use Rattle.nl_vseg.specs.Places.{stamp_for}
use Rattle.nl_vseg.specs.declared.place.Place.{Place}
use Rattle.nl_pseg.specs.Segment.{IsPhysicalOf, Physical}
use Rattle.nl_pseg.specs.Pages.{main_of, shown_by}
use Rattle.nl_pseg.specs.Space.{IsWhole}
use Rattle.nl_device.specs.Device.{HasLive}
use Rattle.nl_device.specs.Shown.{IsStray, bytes_at}
use Rattle.nl_device.proofs.Firm.{keeps_firm, takes_firm}
use Rattle.nl_device.proofs.Forms.{beyond_in, same_from, stores_map}
use Rattle.nl_device.proofs.Showing.{dominated_or}

pub with_here : (map : ℕ → Option Value) (v : ℕ) (x : Value) (u : ℕ) → u ≡ v → with_value map v x u ≡ Some x
with_here map v x u is = cond-true (u == v) (Some x) (map u) (eq-eqb u v is)

pub with_other : (map : ℕ → Option Value) (v : ℕ) (x : Value) (u : ℕ) → (u ≡ v → ⊥) → with_value map v x u ≡ map u
with_other map v x u ne = cond-false (u == v) (Some x) (map u) (ne_eqb u v ne)

-- what an image shows is the map's value, or older, or stray
pub each_or : (bound : ℕ) (image : Image) (map : ℕ → Option Value) (v t : ℕ) (n : List ℕ) → PageShows bound image v t n → Dominated (map v) t n ⊎ IsStray bound image map v (t, n)
each_or bound image map v t n shows = ⊎_elim (λ d. inl d) (λ fails. inr (record { shown = shows; newer = fails })) (dominated_or (map v) t n)

module _ (pages bound v next : ℕ) (main : List ℕ) (map : ℕ → Option Value) (old c : Image) where
  -- with the new value, where what was shown is older
  pub with_there : GainsValue pages bound map v next main old c → (u t : ℕ) (n : List ℕ) → with_value map v (next, main) u ≡ Some (t, n) → PageShows bound c u t n
  with_there k u t n is = by (cases_eq u v)
    where
      by : (u ≡ v) ⊎ (u ≡ v → ⊥) → PageShows bound c u t n
      by (inl same) =
          let e = same_Some (next, main) (t, n) (sym (with_here map v (next, main) u same) ∙ is) in
          let P : ℕ × List ℕ → Type 0 = λ x. PageShows bound c u x.0 x.1 in
          subst P e (subst (λ w. PageShows bound c w next main) (sym same) (k.new.0, k.new.1, k.new.3))
      by (inr ne) = let e = k.there u t n (sym (with_other map v (next, main) u ne) ∙ is) in (e.0, e.1, e.3)

  pub takes_each : GainsValue pages bound map v next main old c → ((u t : ℕ) (n : List ℕ) → PageShows bound old u t n → t < next) → (u t : ℕ) (n : List ℕ) → PageShows bound c u t n
      → Dominated (with_value map v (next, main) u) t n ⊎ failed_beside v (λ w x. IsStray bound old map w x) u (t, n)
  takes_each k below u t n shows = by (cases_eq u v) (k.no_more u t n shows)
    where
      by : (u ≡ v) ⊎ (u ≡ v → ⊥) → PageShows bound old u t n ⊎ ((u ≡ v) × (t ≡ next) × (n ≡ main)) → Dominated (with_value map v (next, main) u) t n ⊎ failed_beside v (λ w x. IsStray bound old map w x) u (t, n)
      by (inl same) (inl was) = inl (subst (λ x. Dominated x t n) (sym (with_here map v (next, main) u same)) (inl (below u t n was)))
      by (inl same) (inr new) = inl (subst (λ x. Dominated x t n) (sym (with_here map v (next, main) u same)) (inr (new.1, new.2)))
      by (inr ne) (inl was) = subst (λ x. Dominated x t n ⊎ failed_beside v (λ w y. IsStray bound old map w y) u (t, n)) (sym (with_other map v (next, main) u ne)) (⊎_elim (λ d. inl d) (λ stray. inr (ne, stray)) (each_or bound old map u t n was))
      by (inr ne) (inr new) = absurd (ne new.0)

  pub keeps_each : ImageKeepsMap pages bound map old c → (u t : ℕ) (n : List ℕ) → PageShows bound c u t n → Dominated (map u) t n ⊎ IsStray bound old map u (t, n)
  keeps_each k u t n shows = each_or bound old map u t n (k.no_more u t n shows)

  pub keeps_there : ImageKeepsMap pages bound map old c → (u t : ℕ) (n : List ℕ) → map u ≡ Some (t, n) → PageShows bound c u t n
  keeps_there k u t n is = let e = k.there u t n is in (e.0, e.1, e.3)

  pub takes_there : GainsValue pages bound map v next main old c → (u t : ℕ) (n : List ℕ) → map u ≡ Some (t, n) → PageShows bound c u t n
  takes_there k u t n is = let e = k.there u t n is in (e.0, e.1, e.3)

firm_stored : (image : Image) → (stored_in image).firm ≡ is_firm image
unfolding stored_in
firm_stored image = refl

-- what a stop leaves within it
module _ (shape : Shape) (v next : ℕ) (main : List ℕ) (map : ℕ → Option Value) (old c : Image) (old_is : shape_of_image old ≡ shape) (c_is : shape_of_image c ≡ shape) (some : 0 < shape.pages) where
  abbrev stray : ℕ → Value → Type 0
  stray u x = IsStray (shape.vblocks * shape.pages) old map u x

  all_dominated : NoneFailed shape.vaddrs stray → (u t : ℕ) (n : List ℕ) → u < shape.vaddrs → PageShows (shape.vblocks * shape.pages) old u t n → Dominated (map u) t n
  all_dominated none u t n below shows = ⊎_elim (λ d. d) (λ fails. absurd (none u (t, n) below fails)) (each_or (shape.vblocks * shape.pages) old map u t n shows)

  pub keeps_leaves : ImageKeepsMap shape.pages (shape.vblocks * shape.pages) map old c → LeavesMap shape.vaddrs map (λ u x. IsStray (shape.vblocks * shape.pages) old map u x) (λ u x. IsStray (shape.vblocks * shape.pages) old map u x) (stored_in old) (stored_in c)
  keeps_leaves k = record {
    shows = stores_map shape c c_is map stray (keeps_there shape.pages (shape.vblocks * shape.pages) v next main map old c k) (keeps_each shape.pages (shape.vblocks * shape.pages) v next main map old c k);
    beyond = beyond_in shape c c_is;
    firm = λ firm none. firm_stored c ∙ keeps_firm shape map old c old_is c_is some (sym (firm_stored old) ∙ firm) (all_dominated none) k;
    named = same_from shape old c old_is c_is k.beyond;
  }

  pub takes_leaves : GainsValue shape.pages (shape.vblocks * shape.pages) map v next main old c → ((u t : ℕ) (n : List ℕ) → PageShows (shape.vblocks * shape.pages) old u t n → t < next)
      → LeavesMap shape.vaddrs (with_value map v (next, main)) (failed_beside v (λ u x. IsStray (shape.vblocks * shape.pages) old map u x)) (λ u x. IsStray (shape.vblocks * shape.pages) old map u x) (stored_in old) (stored_in c)
  takes_leaves k below = record {
    shows = stores_map shape c c_is (with_value map v (next, main)) (failed_beside v stray) (with_there shape.pages (shape.vblocks * shape.pages) v next main map old c k) (takes_each shape.pages (shape.vblocks * shape.pages) v next main map old c k below);
    beyond = beyond_in shape c c_is;
    firm = λ firm none. firm_stored c ∙ takes_firm shape map old c old_is c_is some (sym (firm_stored old) ∙ firm) (all_dominated none) v next main below k;
    named = same_from shape old c old_is c_is k.beyond;
  }

pub rose_or : (before now : ℕ) → Rose before now ⊎ (Rose before now → ⊥)
rose_or before now = ⊎_elim (λ lt. inr (λ le. omega (arith, lt, le))) (λ le. inl le) (cases_lt now (saturated (before + 1)))

-- the pages from the bound on are as before
pub beyond_of : {pages bound v next : ℕ} {main : List ℕ} {map : ℕ → Option Value} {old c : Image} → ImageKeepsMap pages bound map old c ⊎ GainsValue pages bound map v next main old c → (p : ℕ) → bound ≤ p → page_at c p ≡ page_at old p
beyond_of (inl k) = k.beyond
beyond_of (inr k) = k.beyond

-- the physical segment is that of the image still, where the pages from its first on stay
pub physical_kept : (bound : ℕ) (seg : Physical) (old c : Image) → HasLive seg → IsWhole seg → seg.first * seg.size ≡ bound → ((p : ℕ) → bound ≤ p → page_at c p ≡ page_at old p) → IsPhysicalOf old seg → IsPhysicalOf c seg
physical_kept bound seg old c live whole first same is = record {
  holds = λ p h held.
      let within = live.in_segment p h held in
      let e : page_at c p ≡ page_at old p = same p (subst (λ n. n ≤ p) first within.0) in
      ap shown_by e ∙ (is.holds p h held ∙ ap (λ page. Some (h.tag, h.stamp, main_of page)) (sym e));
  blank = λ p taken. let within = live.blank_in p taken in same p (subst (λ n. n ≤ p) first within.0) ∙ is.blank p taken;
  blank_copy = λ p taken. let within = whole.pages.copies_within p taken in same p (subst (λ n. n ≤ p) first within.0) ∙ is.blank_copy p taken;
}

-- What failed before, or failed now: where nothing was placed, a value that is newer than the map's was newer before, or it is the
-- value of this write.
module _ (pages bound v next : ℕ) (main : List ℕ) (map now : ℕ → Option Value) (old c : Image) (below : (u t : ℕ) (n : List ℕ) → PageShows bound old u t n → t < next) where
  pub stray_done : GainsValue pages bound map v next main old c → ((u : ℕ) → now u ≡ with_value map v (next, main) u) → (u : ℕ) (x : Value) → IsStray bound c now u x → IsStray bound old map u x
  stray_done k is u x stray = ⊎_elim
      (λ d. absurd (stray.newer (subst (λ o. Dominated o x.0 x.1) (sym (is u)) d)))
      (λ was. record { shown = was.1.shown; newer = was.1.newer })
      (takes_each pages bound v next main map old c k below u x.0 x.1 stray.shown)

  -- at the address that was written no value is newer
  pub none_stray : GainsValue pages bound map v next main old c → ((u : ℕ) → now u ≡ with_value map v (next, main) u) → (x : Value) → IsStray bound c now v x → ⊥
  none_stray k is x stray = ⊎_elim
      (λ d. stray.newer (subst (λ o. Dominated o x.0 x.1) (sym (is v)) d))
      (λ was. was.0 refl)
      (takes_each pages bound v next main map old c k below v x.0 x.1 stray.shown)

  pub stray_kept : ImageKeepsMap pages bound map old c → ((u : ℕ) → now u ≡ map u) → (u : ℕ) (x : Value) → IsStray bound c now u x → IsStray bound old map u x
  stray_kept k is u x stray = record { shown = k.no_more u x.0 x.1 stray.shown; newer = λ d. stray.newer (subst (λ o. Dominated o x.0 x.1) (sym (is u)) d) }

  pub stray_failed : GainsValue pages bound map v next main old c → ((u : ℕ) → now u ≡ map u) → (u : ℕ) (x : Value) → IsStray bound c now u x → IsStray bound old map u x ⊎ ((u ≡ v) × (x ≡ (next, main)))
  stray_failed k is u x stray = ⊎_elim
      (λ was. inl (record { shown = was; newer = λ d. stray.newer (subst (λ o. Dominated o x.0 x.1) (sym (is u)) d) }))
      (λ new. inr (new.0, λ i. (new.1 i, new.2 i)))
      (k.no_more u x.0 x.1 stray.shown)

-- the bytes of the physical segment are as before
pub bytes_same : (first : ℕ) (old c : Image) → ((p : ℕ) → first ≤ p → page_at c p ≡ page_at old p) → (p : ℕ) → bytes_at first c p ≡ bytes_at first old p
bytes_same first old c same p = elim (cases_lt p first) [
  | inl lt ↦ cond-true (nat_lt p first) [] (main_of (page_at c p)) (lt-ltb p first lt) ∙ sym (cond-true (nat_lt p first) [] (main_of (page_at old p)) (lt-ltb p first lt))
  | inr le ↦ ap (λ page. cond (nat_lt p first) [] (main_of page)) (same p le)
]

-- the next stamp: it rises by one where a write was done or failed, and by no more than the counts do
pub write_rises : (done : Type 0) (taken : Bool) (now next clock clock_now faults faults_now : ℕ) → now ≡ next + cond taken 1 0 → (taken ≡ true) ↔ (done ⊎ Rose faults faults_now) → clock ≤ clock_now → faults ≤ faults_now → (done → Earlier clock clock_now)
    → StampRises (done ⊎ Rose faults faults_now) next now clock clock_now faults faults_now
write_rises done taken now next clock clock_now faults faults_now is means later more strict = by taken is means
  where
    paid_by : now ≡ next + 1 → clock_now < top → faults_now < top → done ⊎ Rose faults faults_now → now + clock + faults ≤ next + clock_now + faults_now
    paid_by one small few (inl d) =
        let lt : clock < clock_now = strict d (omega (arith, later, small)) in
        omega (arith, one, lt, more)
    paid_by one small few (inr rose) = omega (arith, one, rose, few, later)

    by : (b : Bool) → now ≡ next + cond b 1 0 → (b ≡ true) ↔ (done ⊎ Rose faults faults_now) → StampRises (done ⊎ Rose faults faults_now) next now clock clock_now faults faults_now
    by true one means = record {
      never_falls = omega (arith, one);
      at_most_one = omega (arith, one);
      taken = λ tried. one;
      stays = λ un. absurd (un (means.0 refl));
      paid = λ small few. paid_by one small few (means.0 refl);
    }
    by false none means = record {
      never_falls = omega (arith, none);
      at_most_one = omega (arith, none);
      taken = λ tried. absurd (false≢true (means.1 tried));
      stays = λ un. omega (arith, none);
      paid = λ small few. omega (arith, none, later, more);
    }

-- the next stamp
pub next_taken : (taken : Bool) (now next : ℕ) → now ≡ next + cond taken 1 0 → taken ≡ true → now ≡ next + 1
next_taken taken now next is yes_taken = is ∙ ap (λ b. next + cond b 1 0) yes_taken

pub next_rises : (taken : Bool) (now next : ℕ) → now ≡ next + cond taken 1 0 → next ≤ now
next_rises taken now next is = omega (arith, is)

pub done_or : (answer : VirtualWrite) → (answer ≡ write.Done) ⊎ (answer ≡ write.Done → ⊥)
done_or write.Done = inl refl
done_or (write.Lost w f) = inr (λ e. cc)
done_or write.Fault = inr (λ e. cc)

stamp_at : (b : Bool) (next : ℕ) (o : Option ℕ) (t now : ℕ) → cond b (Some next) o ≡ Some t → (o ≡ Some t → t < now) → next < now → t < now
stamp_at true next o t now is old less = let e = same_Some next t is in omega (arith, e, less)
stamp_at false next o t now is old less = old is

-- the stamps of the addresses stay below the next one
pub stamps_done : (v next now : ℕ) (old new : ℕ → Option ℕ) → ((u : ℕ) → new u ≡ (if u == v then Some next else old u)) → ((u t : ℕ) → old u ≡ Some t → t < next) → now ≡ next + 1 → (u t : ℕ) → new u ≡ Some t → t < now
stamps_done v next now old new is below more u t has =
    stamp_at (u == v) next (old u) t now (sym (is u) ∙ has) (λ h. let lt = below u t h in omega (arith, lt, more)) (omega (arith, more))

-- what is shown stays below it
pub keeps_below : {pages bound : ℕ} {map : ℕ → Option Value} {old c : Image} (next now : ℕ) → ImageKeepsMap pages bound map old c → ((u t : ℕ) (n : List ℕ) → PageShows bound old u t n → t < next) → next ≤ now → (u t : ℕ) (n : List ℕ) → PageShows bound c u t n → t < now
keeps_below next now k below le u t n shows = let lt = below u t n (k.no_more u t n shows) in omega (arith, lt, le)

pub takes_below : {pages bound v : ℕ} {main : List ℕ} {map : ℕ → Option Value} {old c : Image} (next now : ℕ) → GainsValue pages bound map v next main old c → ((u t : ℕ) (n : List ℕ) → PageShows bound old u t n → t < next) → now ≡ next + 1
    → (u t : ℕ) (n : List ℕ) → PageShows bound c u t n → t < now
takes_below next now k below more u t n shows = ⊎_elim
    (λ was. let lt = below u t n was in omega (arith, lt, more))
    (λ new. let e = new.1 in omega (arith, e, more))
    (k.no_more u t n shows)

-- the stamp that the segment tells as lost is one of an address
pub stamp_lost : (tells : Type 0) (places : List (Option Place)) (answer : VirtualWrite) → LosesUntold tells places answer → LosesStamp tells (stamp_for places) answer
stamp_lost tells places write.Done lost = tt
stamp_lost tells places (write.Lost w f) lost = (lost.lost.0, lost.lost.1, λ told. lost.kept told tt)
stamp_lost tells places write.Fault lost = tt
