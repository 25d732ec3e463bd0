-- What a check finds of an image, once each phase was judged.
use Rattle.std.proofs.Common.{◌≡◌, ◌≢◌, ◌⊎◌, inl, inr, ℕ, zero, suc, true, false, Bool, ◌&&◌, List, [], ◌∷◌, refl, sym, ap, subst, ◌∙◌, Option, Some, None, is_none, is_some, option_map, IsTrue, arith, ◌<◌}
use Rattle.std.specs.Prelude.{All}
use Rattle.std.proofs.lemmas.Bool.{and_from, and_parts, both_ways}
use Rattle.std.proofs.lemmas.List.Kept.{AllPairs-cons}
use Rattle.std.proofs.lemmas.Option.{same_Some}
use Rattle.nl_field.specs.FindingBits.{bits_of, has_finding}
use Rattle.nl_field.specs.Medium.{shape_of_image}
use Rattle.nl_field.specs.Members.{Has}
use Rattle.nl_field.specs.Page.{Image}
use Rattle.nl_field.specs.ScanList.{seen_in}
use Rattle.nl_field.specs.Virtual.{map_bytes, newest}
use Rattle.nl_field.specs.declared.findings.Findings.{Findings}
use Rattle.nl_field.specs.declared.place.Place.{Place}
use Rattle.nl_field.specs.declared.place.What.{What}
use Rattle.nl_field.specs.declared.place.What.TheVariants.{Super, Stamp, Inode, Pages as PagesPhase, Entry, Pointer as PointerPhase, Names, Charges, Crowded}
use Rattle.nl_field.specs.declared.seen.Seen.{Seen}
use Rattle.nl_field.specs.declared.shape.Shape.{Shape}
use Rattle.nl_iface.specs.Stored.{Value, value_on}
use Rattle.nl_meta.specs.Committed.{VirtualMap, committed, committed_of}
use Rattle.nl_meta.specs.Nodes.{super_of_pages}
use Rattle.nl_meta.specs.Walk.{AreFindings, all_phases, ends_findings, fault_in, first_fault, phase_fault, walk, walk_over}
use Rattle.nl_meta.proofs.Lists.{none_some, true_false}
use Rattle.nl_meta.proofs.WalkProofs.{walk_is_consistency}
use Rattle.nl_recover.specs.Walking.{place_in}
use Rattle.nl_recover.proofs.Imaged.{walks_the_image}
use Rattle.nl_recover.proofs.WalkFacts.{first, goes, or-later}
use Rattle.nl_check.specs.Checking.{Checks, ChecksOver, IfFound, IsCheckFault, Judges, count_in}
use Rattle.nl_check.specs.declared.check.Checked.{Checked}
use Rattle.nl_check.specs.declared.check.Checked.TheVariants as answer
use Rattle.nl_check.specs.Told.{TellsFaults, is_judged}
use Rattle.nl_check.proofs.Told.{none-has}

-- ---- the first fault

module _ (fault : What → Option ℕ) where
  first-at : (ws : List What) (place : Place) → first_fault fault ws ≡ Some place → fault place.what ≡ Some place.place
  first-at [] place e = absurd (none_some place e)
  first-at (w ∷ ws) place e = by (fault w) refl (sym (first fault w ws) ∙ e) (first-at ws place)
    where
      by : (o : Option ℕ) → fault w ≡ o → or-later w o (first_fault fault ws) ≡ Some place → (first_fault fault ws ≡ Some place → fault place.what ≡ Some place.place) → fault place.what ≡ Some place.place
      by None is e rest = rest e
      by (Some n) is e rest = subst (λ (p : Place). fault p.what ≡ Some p.place) (same_Some (place_in w n) place e) is

  -- it is of the first phase, or that has none and it is of a later one
  here-or-later : (w : What) (ws : List What) (place : Place) → first_fault fault (w ∷ ws) ≡ Some place → (w ≡ place.what) ⊎ ((fault w ≡ None) × (first_fault fault ws ≡ Some place))
  here-or-later w ws place e = by (fault w) refl (sym (first fault w ws) ∙ e)
    where
      by : (o : Option ℕ) → fault w ≡ o → or-later w o (first_fault fault ws) ≡ Some place → (w ≡ place.what) ⊎ ((fault w ≡ None) × (first_fault fault ws ≡ Some place))
      by None is e = inr (is, e)
      by (Some n) is e = inl (ap (λ (p : Place). p.what) (same_Some (place_in w n) place e))

  none-first : (ws : List What) → ((w : What) → fault w ≡ None) → first_fault fault ws ≡ None
  none-first [] all = refl
  none-first (w ∷ ws) all = goes fault w ws (all w) ∙ none-first ws all

  none-in : (ws : List What) → first_fault fault ws ≡ None → (w : What) → Has ws w → fault w ≡ None
  none-in [] e w m = absurd m
  none-in (x ∷ xs) e w m = by (fault x) refl (sym (first fault x xs) ∙ e) m (λ e. none-in xs e w)
    where
      by : (o : Option ℕ) → fault x ≡ o → or-later x o (first_fault fault xs) ≡ None → Has (x ∷ xs) w → (first_fault fault xs ≡ None → Has xs w → fault w ≡ None) → fault w ≡ None
      by (Some n) is e m rest = absurd (none_some (place_in x n) (sym e))
      by None is e (inl same) rest = subst (λ (v : What). fault v ≡ None) same is
      by None is e (inr m) rest = rest e m

  judged-last : (w : What) → fault Super ≡ None → fault Inode ≡ None → is_judged fault w ≡ true
  judged-last Super n m = refl
  judged-last Stamp n m = ap is_none n
  judged-last Inode n m = ap is_none n
  judged-last PagesPhase n m = (λ i. is_none (n i) && is_none (m i))
  judged-last Entry n m = (λ i. is_none (n i) && is_none (m i))
  judged-last PointerPhase n m = (λ i. is_none (n i) && is_none (m i))
  judged-last Names n m = (λ i. is_none (n i) && is_none (m i))
  judged-last Charges n m = (λ i. is_none (n i) && is_none (m i))
  judged-last Crowded n m = (λ i. is_none (n i) && is_none (m i))

  -- the phase of the first fault can be judged
  first-judged : (place : Place) → first_fault fault all_phases ≡ Some place → is_judged fault place.what ≡ true
  first-judged place e = at-super (here-or-later Super (Stamp ∷ Inode ∷ PagesPhase ∷ Entry ∷ PointerPhase ∷ Names ∷ Charges ∷ Crowded ∷ []) place e)
    where
      at-inode : fault Super ≡ None → (Inode ≡ place.what) ⊎ ((fault Inode ≡ None) × (first_fault fault (PagesPhase ∷ Entry ∷ PointerPhase ∷ Names ∷ Charges ∷ Crowded ∷ []) ≡ Some place)) → is_judged fault place.what ≡ true
      at-inode n (inl is) = subst (λ (w : What). is_judged fault w ≡ true) is (ap is_none n)
      at-inode n (inr r) = judged-last place.what n r.0

      at-stamp : fault Super ≡ None → (Stamp ≡ place.what) ⊎ ((fault Stamp ≡ None) × (first_fault fault (Inode ∷ PagesPhase ∷ Entry ∷ PointerPhase ∷ Names ∷ Charges ∷ Crowded ∷ []) ≡ Some place)) → is_judged fault place.what ≡ true
      at-stamp n (inl is) = subst (λ (w : What). is_judged fault w ≡ true) is (ap is_none n)
      at-stamp n (inr r) = at-inode n (here-or-later Inode (PagesPhase ∷ Entry ∷ PointerPhase ∷ Names ∷ Charges ∷ Crowded ∷ []) place r.1)

      at-super : (Super ≡ place.what) ⊎ ((fault Super ≡ None) × (first_fault fault (Stamp ∷ Inode ∷ PagesPhase ∷ Entry ∷ PointerPhase ∷ Names ∷ Charges ∷ Crowded ∷ []) ≡ Some place)) → is_judged fault place.what ≡ true
      at-super (inl is) = subst (λ (w : What). is_judged fault w ≡ true) is refl
      at-super (inr r) = at-stamp r.0 (here-or-later Stamp (Inode ∷ PagesPhase ∷ Entry ∷ PointerPhase ∷ Names ∷ Charges ∷ Crowded ∷ []) place r.1)

all-has : (w : What) → Has all_phases w
all-has Super = inl refl
all-has Stamp = inr (inl refl)
all-has Inode = inr (inr (inl refl))
all-has PagesPhase = inr (inr (inr (inl refl)))
all-has Entry = inr (inr (inr (inr (inl refl))))
all-has PointerPhase = inr (inr (inr (inr (inr (inl refl)))))
all-has Names = inr (inr (inr (inr (inr (inr (inl refl))))))
all-has Charges = inr (inr (inr (inr (inr (inr (inr (inl refl)))))))
all-has Crowded = inr (inr (inr (inr (inr (inr (inr (inr (inl refl))))))))

-- ---- none behind `super` and `inode`

has-all : (P : What → Type 0) (xs : List What) → ((x : What) → Has xs x → P x) → All P xs
has-all P [] each k d lt = absurd (omega (arith, lt))
has-all P (x ∷ xs) each zero d lt = each x (inl refl)
has-all P (x ∷ xs) each (suc k) d lt = has-all P xs (λ y m. each y (inr m)) k d (omega (arith, lt))

and-false : (b : Bool) → (b && false) ≡ false
and-false true = refl
and-false false = refl

some-not : (o : Option ℕ) → is_some o ≡ true → is_none o ≡ false
some-not None e = absurd (both_ways false refl e)
some-not (Some n) e = refl

module _ (fault : What → Option ℕ) (bits : Findings) (tells : TellsFaults fault bits) where
  has-fault : (what : What) → has_finding bits what ≡ true → is_some (fault what) ≡ true
  has-fault what is = (and_parts (is_judged fault what) (is_some (fault what)) (sym (tells what) ∙ is)).1

  after-super : is_none (fault Super) ≡ false → (y : What) → Has (Stamp ∷ Inode ∷ PagesPhase ∷ Entry ∷ PointerPhase ∷ Names ∷ Charges ∷ Crowded ∷ []) y → has_finding bits y ≡ false
  after-super h y (inl e) = subst (λ (w : What). has_finding bits w ≡ false) e (tells Stamp ∙ ap (λ b. b && is_some (fault Stamp)) h)
  after-super h y (inr (inl e)) = subst (λ (w : What). has_finding bits w ≡ false) e (tells Inode ∙ ap (λ b. b && is_some (fault Inode)) h)
  after-super h y (inr (inr (inl e))) = subst (λ (w : What). has_finding bits w ≡ false) e (tells PagesPhase ∙ ap (λ b. (b && is_none (fault Inode)) && is_some (fault PagesPhase)) h)
  after-super h y (inr (inr (inr (inl e)))) = subst (λ (w : What). has_finding bits w ≡ false) e (tells Entry ∙ ap (λ b. (b && is_none (fault Inode)) && is_some (fault Entry)) h)
  after-super h y (inr (inr (inr (inr (inl e))))) = subst (λ (w : What). has_finding bits w ≡ false) e (tells PointerPhase ∙ ap (λ b. (b && is_none (fault Inode)) && is_some (fault PointerPhase)) h)
  after-super h y (inr (inr (inr (inr (inr (inl e)))))) = subst (λ (w : What). has_finding bits w ≡ false) e (tells Names ∙ ap (λ b. (b && is_none (fault Inode)) && is_some (fault Names)) h)
  after-super h y (inr (inr (inr (inr (inr (inr (inl e))))))) = subst (λ (w : What). has_finding bits w ≡ false) e (tells Charges ∙ ap (λ b. (b && is_none (fault Inode)) && is_some (fault Charges)) h)
  after-super h y (inr (inr (inr (inr (inr (inr (inr (inl e)))))))) = subst (λ (w : What). has_finding bits w ≡ false) e (tells Crowded ∙ ap (λ b. (b && is_none (fault Inode)) && is_some (fault Crowded)) h)
  after-super h y (inr (inr (inr (inr (inr (inr (inr (inr m)))))))) = absurd m

  off : is_none (fault Inode) ≡ false → (c : Bool) → ((is_none (fault Super) && is_none (fault Inode)) && c) ≡ false
  off h c = ap (λ b. (is_none (fault Super) && b) && c) h ∙ ap (λ b. b && c) (and-false (is_none (fault Super)))

  after-inode : is_none (fault Inode) ≡ false → (y : What) → Has (PagesPhase ∷ Entry ∷ PointerPhase ∷ Names ∷ Charges ∷ Crowded ∷ []) y → has_finding bits y ≡ false
  after-inode h y (inl e) = subst (λ (w : What). has_finding bits w ≡ false) e (tells PagesPhase ∙ off h (is_some (fault PagesPhase)))
  after-inode h y (inr (inl e)) = subst (λ (w : What). has_finding bits w ≡ false) e (tells Entry ∙ off h (is_some (fault Entry)))
  after-inode h y (inr (inr (inl e))) = subst (λ (w : What). has_finding bits w ≡ false) e (tells PointerPhase ∙ off h (is_some (fault PointerPhase)))
  after-inode h y (inr (inr (inr (inl e)))) = subst (λ (w : What). has_finding bits w ≡ false) e (tells Names ∙ off h (is_some (fault Names)))
  after-inode h y (inr (inr (inr (inr (inl e))))) = subst (λ (w : What). has_finding bits w ≡ false) e (tells Charges ∙ off h (is_some (fault Charges)))
  after-inode h y (inr (inr (inr (inr (inr (inl e)))))) = subst (λ (w : What). has_finding bits w ≡ false) e (tells Crowded ∙ off h (is_some (fault Crowded)))
  after-inode h y (inr (inr (inr (inr (inr (inr m)))))) = absurd m

-- ---- an image

module _ (image : Image) (bits : Findings) (judges : Judges (phase_fault image) bits) where
  abbrev fault : What → Option ℕ
  fault = phase_fault image

  is-walk : walk image ≡ first_fault fault all_phases
  unfolding walk walk_over phase_fault
  is-walk = refl

  abbrev Rest : What → What → Type 0
  Rest what later = IsTrue (ends_findings what && has_finding bits what) → has_finding bits later ≡ false

  none-after : (what : What) (rest : List What) → ends_findings what ≡ false → All (Rest what) rest
  none-after what rest goes-on = has-all (Rest what) rest (λ y m h. absurd (true_false (sym h ∙ ap (λ b. b && has_finding bits what) goes-on)))

  are : AreFindings image (has_finding bits)
  are = record {
    only_faults = has-fault fault bits judges.each;
    first_set = λ place e.
        let w = sym is-walk ∙ e in
        judges.each place.what ∙ and_from (is_judged fault place.what) (is_some (fault place.what)) (first-judged fault place w) (ap is_some (first-at fault all_phases place w));
    none_after = AllPairs-cons Rest Super (Stamp ∷ Inode ∷ PagesPhase ∷ Entry ∷ PointerPhase ∷ Names ∷ Charges ∷ Crowded ∷ [])
        (has-all (Rest Super) (Stamp ∷ Inode ∷ PagesPhase ∷ Entry ∷ PointerPhase ∷ Names ∷ Charges ∷ Crowded ∷ []) (λ y m h. after-super fault bits judges.each (some-not _ (has-fault fault bits judges.each Super h)) y m))
        (AllPairs-cons Rest Stamp (Inode ∷ PagesPhase ∷ Entry ∷ PointerPhase ∷ Names ∷ Charges ∷ Crowded ∷ []) (none-after Stamp (Inode ∷ PagesPhase ∷ Entry ∷ PointerPhase ∷ Names ∷ Charges ∷ Crowded ∷ []) refl)
        (AllPairs-cons Rest Inode (PagesPhase ∷ Entry ∷ PointerPhase ∷ Names ∷ Charges ∷ Crowded ∷ [])
        (has-all (Rest Inode) (PagesPhase ∷ Entry ∷ PointerPhase ∷ Names ∷ Charges ∷ Crowded ∷ []) (λ y m h. after-inode fault bits judges.each (some-not _ (has-fault fault bits judges.each Inode h)) y m))
        (AllPairs-cons Rest PagesPhase (Entry ∷ PointerPhase ∷ Names ∷ Charges ∷ Crowded ∷ []) (none-after PagesPhase (Entry ∷ PointerPhase ∷ Names ∷ Charges ∷ Crowded ∷ []) refl)
        (AllPairs-cons Rest Entry (PointerPhase ∷ Names ∷ Charges ∷ Crowded ∷ []) (none-after Entry (PointerPhase ∷ Names ∷ Charges ∷ Crowded ∷ []) refl)
        (AllPairs-cons Rest PointerPhase (Names ∷ Charges ∷ Crowded ∷ []) (none-after PointerPhase (Names ∷ Charges ∷ Crowded ∷ []) refl)
        (AllPairs-cons Rest Names (Charges ∷ Crowded ∷ []) (none-after Names (Charges ∷ Crowded ∷ []) refl)
        (AllPairs-cons Rest Charges (Crowded ∷ []) (none-after Charges (Crowded ∷ []) refl)
        (AllPairs-cons Rest Crowded [] (none-after Crowded [] refl)
        (λ i j d lt below. absurd (omega (arith, below)))))))))));
  }

  clean : bits_of bits ≡ 0 → walk image ≡ None
  clean z = by (walk image) refl
    where
      by : (o : Option Place) → walk image ≡ o → walk image ≡ None
      by None e = e
      by (Some place) e = absurd (true_false (sym (are.first_set place e) ∙ none-has bits z place.what))

  empty : walk image ≡ None → bits_of bits ≡ 0
  empty e = judges.none (λ w. ap is_none (none-in fault all_phases (sym is-walk ∙ e) w (all-has w)))

  some : (place : Place) → walk image ≡ Some place → bits_of bits ≢ 0
  some place e z = none_some place (sym (clean z) ∙ e)

  pub checks-of : (count : ℕ) → (bits_of bits ≡ 0 → count ≡ count_in (super_of_pages (committed_of image))) → (bits_of bits ≢ 0 → count ≡ 0) → Checks image bits count
  checks-of count sound damaged = record {
    each = judges.each;
    findings = are;
    empty = (clean, empty);
    sound = λ e.
        let m = ((walk_is_consistency image).0 e).metadata in
        (m.super_rec, m.numbers.spelled, sym (sound (empty e) ∙ ap count_in m.numbers.spelled));
    damaged = λ place e. damaged (some place e);
  }

-- ---- a device that was started over the medium

pub over-image : (image : Image) (shape : Shape) (values : ℕ → Option Value) (seen : List Seen) → shape ≡ shape_of_image image
    → ((v : ℕ) → v < shape.vaddrs → values v ≡ option_map value_on (newest image v)) → seen ≡ seen_in image
    → (bits : Findings) (count : ℕ) → ChecksOver shape (committed shape (map_bytes shape values)) seen bits count → Checks image bits count
unfolding phase_fault
over-image image shape values seen is map listed bits count c =
    let pages : committed shape (map_bytes shape values) ≡ committed_of image = (walks_the_image image shape values is map).0 in
    let same : fault_in shape (committed shape (map_bytes shape values)) seen ≡ phase_fault image = (λ i. fault_in (is i) (pages i) (listed i)) in
    checks-of image bits (subst (λ (f : What → Option ℕ). Judges f bits) same c.judges) count
    (λ z. c.sound z ∙ ap (λ (p : VirtualMap). count_in (super_of_pages p)) pages) c.damaged

-- ---- answers

pub if-found : (r : Checked) (P Q : Findings → ℕ → Type 0) → ((bits : Findings) (count : ℕ) → P bits count → Q bits count) → IfFound r P → IfFound r Q
if-found (answer.Found bits count) P Q f h = f bits count h
if-found answer.Blank P Q f h = h
if-found answer.Fault P Q f h = h
if-found answer.Memory P Q f h = h

pub found-any : (r : Checked) (P : Type 0) → P → IfFound r (λ bits count. P)
found-any (answer.Found bits count) P p = p
found-any answer.Blank P p = tt
found-any answer.Fault P p = tt
found-any answer.Memory P p = tt

pub is-fault : (r : Checked) → IsCheckFault r → r ≡ answer.Fault
is-fault (answer.Found bits count) f = absurd f
is-fault answer.Blank f = absurd f
is-fault answer.Fault f = refl
is-fault answer.Memory f = absurd f
