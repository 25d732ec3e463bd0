-- An address got a value, or its write failed.
use Rattle.std.proofs.Common.{◌≡◌, ◌⊎◌, inl, inr, ℕ, ◌+◌, ◌*◌, ◌<◌, ◌≤◌, ◌^◌, ◌==◌, if◌then◌else◌, Bool, true, false, cond, List, Option, Some, None, refl, sym, ◌∙◌, ap, subst, arith, ne_eqb}
use Rattle.std.specs.Prelude.{◌↔◌}
use Rattle.std.proofs.Math.Nat.{mul-le-mul_right}
use Rattle.std.proofs.lemmas.Bool.{cond-false, false≢true}
use Rattle.std.proofs.lemmas.Option.{same_Some}
use Rattle.nl_field.specs.CrashStates.{Earlier, Rose, top}
use Rattle.nl_field.specs.Page.{Image, page_at}
use Rattle.nl_field.specs.declared.answers.VirtualWrite.{VirtualWrite}
use Rattle.nl_field.specs.declared.answers.VirtualWrite.TheVariants as write
use Rattle.nl_iface.specs.Answers.{LosesStamp}
use Rattle.nl_iface.specs.Counting.{StampRises}
use Rattle.nl_iface.specs.Left.{LeavesMap}
use Rattle.nl_iface.specs.Stored.{Stored, Value, with_value}
use Rattle.nl_nand.specs.declared.geometry.Geometry.{Geometry}
use Rattle.nl_pagemap.specs.Laws.{none_stored}
use Rattle.nl_pagemap.specs.Mapped.{Mapped, bytes_at, named_at, stored_in}
use Rattle.nl_pagemap.specs.Stands.{IsMapped}
use Rattle.nl_pagemap.proofs.Images.{bytes_same, named_same}
use Rattle.nl_pagemap_names.specs.Table.{entry_at}
use Rattle.nl_pagemap_names.specs.declared.entry.Entry.{Entry}
use Rattle.nl_pseg_pages.specs.Pages.{main_of, shown_by}
use Rattle.nl_vseg.specs.Cleaning.{LosesUntold}
use Rattle.nl_vseg.specs.Effects.{GainsValue, ImageKeepsMap}
use Rattle.nl_vseg.specs.Places.{AreBelow, map_of, stamp_for}
use Rattle.nl_vseg.specs.Segment.{FitsSegment, IsSegmentOf, SameSize, Segment, is_taken_as_erased}
use Rattle.nl_vseg.specs.declared.place.Place.{Place}

-- the device with another virtual segment, next stamp and image
abbrev pub addressed : Segment → ℕ → Image → Mapped → Mapped
addressed seg next image s = record s { vseg = seg; next = next; image = image }

pub done_or : (answer : VirtualWrite) → (answer ≡ write.Done) ⊎ (answer ≡ write.Done → ⊥)
done_or write.Done = inl refl
done_or (write.Lost w f) = inr (λ e. cc)
done_or write.Fault = inr (λ e. cc)

-- the pages from the bound on are as before
pub beyond_of : {pages bound v next : ℕ} {main : List ℕ} {map : ℕ → Option Value} {old c : Image} → ImageKeepsMap pages bound map old c ⊎ GainsValue pages bound map v next main old c → (p : ℕ) → bound ≤ p → page_at c p ≡ page_at old p
beyond_of (inl k) = k.beyond
beyond_of (inr k) = k.beyond

stamp_at : (b : Bool) (next : ℕ) (o : Option ℕ) (t now : ℕ) → cond b (Some next) o ≡ Some t → (o ≡ Some t → t < now) → next < now → t < now
stamp_at true next o t now is old less = let e = same_Some next t is in omega (arith, e, less)
stamp_at false next o t now is old less = old is

-- the stamps of the addresses stay below the next one
pub stamps_done : (v next now : ℕ) (old new : ℕ → Option ℕ) → ((u : ℕ) → new u ≡ (if u == v then Some next else old u)) → ((u t : ℕ) → old u ≡ Some t → t < next) → now ≡ next + 1 → (u t : ℕ) → new u ≡ Some t → t < now
stamps_done v next now old new is below more u t has =
    stamp_at (u == v) next (old u) t now (sym (is u) ∙ has) (λ h. let lt = below u t h in omega (arith, lt, more)) (omega (arith, more))

-- the next stamp: it rises by one where a write was done or failed, and by no more than the counts do
pub write_rises : (done : Type 0) (taken : Bool) (now next clock clock_now faults faults_now : ℕ) → now ≡ next + cond taken 1 0 → (taken ≡ true) ↔ (done ⊎ Rose faults faults_now) → clock ≤ clock_now → faults ≤ faults_now → (done → Earlier clock clock_now)
    → StampRises (done ⊎ Rose faults faults_now) next now clock clock_now faults faults_now
write_rises done taken now next clock clock_now faults faults_now is means later more strict = by taken is means
  where
    paid_by : now ≡ next + 1 → clock_now < top → faults_now < top → done ⊎ Rose faults faults_now → now + clock + faults ≤ next + clock_now + faults_now
    paid_by one small few (inl d) =
        let lt : clock < clock_now = strict d (omega (arith, later, small)) in
        omega (arith, one, lt, more)
    paid_by one small few (inr rose) = omega (arith, one, rose, few, later)

    by : (b : Bool) → now ≡ next + cond b 1 0 → (b ≡ true) ↔ (done ⊎ Rose faults faults_now) → StampRises (done ⊎ Rose faults faults_now) next now clock clock_now faults faults_now
    by true one means = record {
      never_falls = omega (arith, one);
      at_most_one = omega (arith, one);
      taken = λ tried. one;
      stays = λ un. absurd (un (means.0 refl));
      paid = λ small few. paid_by one small few (means.0 refl);
    }
    by false none means = record {
      never_falls = omega (arith, none);
      at_most_one = omega (arith, none);
      taken = λ tried. absurd (false≢true (means.1 tried));
      stays = λ un. omega (arith, none);
      paid = λ small few. omega (arith, none, later, more);
    }

-- the next stamp
pub next_taken : (taken : Bool) (now next : ℕ) → now ≡ next + cond taken 1 0 → taken ≡ true → now ≡ next + 1
next_taken taken now next is yes_taken = is ∙ ap (λ b. next + cond b 1 0) yes_taken

pub next_rises : (taken : Bool) (now next : ℕ) → now ≡ next + cond taken 1 0 → (next ≤ now) × (now ≤ next + 1)
next_rises true now next is = (omega (arith, is), omega (arith, is))
next_rises false now next is = (omega (arith, is), omega (arith, is))

-- the stamp that the segment tells as lost is one of an address
pub stamp_lost : (tells : Type 0) (places : List (Option Place)) (answer : VirtualWrite) → LosesUntold tells places answer → LosesStamp tells (stamp_for places) answer
stamp_lost tells places write.Done lost = tt
stamp_lost tells places (write.Lost w f) lost = (lost.lost.0, lost.lost.1, λ told. lost.kept told tt)
stamp_lost tells places write.Fault lost = tt

module _ {tells : Type 0} {geometry : Geometry} (s : Mapped) (f : IsMapped tells geometry s) where
  -- the medium has the blocks of the segment
  pub fits : FitsSegment geometry s.vseg
  fits = record {
    same_pages = f.pages ∙ sym f.virtual.pages;
    within =
        let bound = f.virtual.bound in
        let all : geometry.blocks * geometry.pages ≡ s.shape.blocks * s.shape.pages = λ i. f.blocks i * f.pages i in
        let segments = f.bounds.segments in
        let le = mul-le-mul_right {m = s.shape.vblocks} {n = s.shape.blocks} s.shape.pages (omega (arith, segments)) in
        omega (arith, bound, le, all);
  }

  module _ (seg : Segment) (next : ℕ) (image : Image) (others : tells → (p : ℕ) → s.vseg.bound ≤ p → page_at image p ≡ page_at s.image p) where
    abbrev pub after : Mapped
    after = addressed seg next image s

    entry_page : tells → (q : ℕ) (e : Entry) → entry_at s.table q ≡ Some e → page_at image e.page ≡ page_at s.image e.page
    entry_page told q e is = others told e.page (let from = (f.entries q e is).page_from in let bound = f.virtual.bound in omega (arith, from, bound))

    pub named_still : tells → (q : ℕ) → named_at after q ≡ named_at s q
    named_still told q = named_same s.image image (entry_at s.table q) (entry_page told q)

    pub bytes_still : tells → (q : ℕ) → bytes_at after q ≡ bytes_at s q
    bytes_still told q = bytes_same s.image image (entry_at s.table q) (entry_page told q)

    pub addressed_mapped : SameSize s.vseg seg → AreBelow seg.bound seg.places → ((p : ℕ) → is_taken_as_erased seg p ≡ true → p < seg.bound) → (tells → IsSegmentOf image seg)
        → (s.next ≤ next) × (next ≤ s.next + 1) → s.next < 2 ^ 63 → ((v t : ℕ) → stamp_for seg.places v ≡ Some t → t < next) → IsMapped tells geometry after
    addressed_mapped same below inside is rises least stamps =
        let some = f.some in
        let up = rises.0 in
        let one = rises.1 in
        record {
          volume = f.volume;
          bounds = f.bounds;
          blocks = f.blocks;
          pages = f.pages;
          virtual = record {
            pages = same.same_pages ∙ f.virtual.pages;
            bound = same.same_bound ∙ f.virtual.bound;
            addresses = same.addresses ∙ f.virtual.addresses;
            below = below;
            within = inside;
          };
          numbers = f.numbers;
          counts = f.counts;
          entries = λ q e at.
              let w = f.entries q e at in
              record { from = w.from; below = w.below; page_from = w.page_from; page_below = w.page_below; tried = w.tried; some = w.some; stamp = let lt = w.stamp in omega (arith, lt, up) };
          differ = f.differ;
          room = f.room;
          free = f.free;
          count = f.count;
          some = omega (arith, some, up);
          most = omega (arith, one, least);
          addresses = stamps;
          medium = λ told. record {
            virtual_is = is told;
            holds = λ q e at.
                let kept = entry_page told q e at in
                ap shown_by kept ∙ ((f.medium told).holds q e at ∙ ap (λ page. Some (e.tag, e.stamp, main_of page)) (sym kept));
            blank = λ p from un. others told p (let bound = f.virtual.bound in omega (arith, from, bound)) ∙ (f.medium told).blank p from un;
          };
        }

    -- what a stop leaves, where the map is this one then
    pub left_mapped : tells → (map : ℕ → Option Value) (failed : ℕ → Value → Type 0) → ((v : ℕ) → map_of seg.places image v ≡ map v) → ((v : ℕ) → s.shape.vaddrs ≤ v → map v ≡ None)
        → (c : Stored) → c ≡ stored_in after → LeavesMap s.shape.vaddrs map failed (λ v x. ⊥) (stored_in s) c
    left_mapped told map failed is none c at = subst (λ (x : Stored). LeavesMap s.shape.vaddrs map failed (λ v x. ⊥) (stored_in s) x) (sym at) (record {
      shows = λ v below. inl (is v);
      beyond = λ v past. is v ∙ none v past;
      firm = λ was none_failed. refl;
      named = λ q. named_still told q;
    })

  -- no address beyond the last has a value, also once one of them is written
  pub none_old : (v : ℕ) → s.shape.vaddrs ≤ v → map_of s.vseg.places s.image v ≡ None
  none_old v past = none_stored f v past

  pub none_new : (at stamp : ℕ) (main : List ℕ) → at < s.shape.vaddrs → (v : ℕ) → s.shape.vaddrs ≤ v → with_value (λ u. map_of s.vseg.places s.image u) at (stamp, main) v ≡ None
  none_new at stamp main within v past =
      cond-false (v == at) (Some (stamp, main)) (map_of s.vseg.places s.image v) (ne_eqb v at (λ e. omega (arith, e, past, within))) ∙ none_old v past
