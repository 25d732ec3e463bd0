-- What the bits of phases say that were judged one after the other.
use Rattle.std.proofs.Common.{◌≡◌, ◌≢◌, ◌⊎◌, inl, inr, ℕ, ◌==◌, true, false, Bool, cond, ◌&&◌, ◌||◌, refl, sym, ap, subst, ◌∙◌, Option, Some, None, is_none, is_some}
use Rattle.std.proofs.lemmas.Bool.{both_ways, cond-false, cond-true}
use Rattle.std.proofs.Math.Bool.{or-false}
use Rattle.std.specs.Int.RustNames.{bit_and}
use Rattle.nl_field.specs.FindingBits.{bit_of, bits_of, has_finding}
use Rattle.nl_field.specs.declared.findings.Findings.{Findings}
use Rattle.nl_field.specs.declared.place.What.{What}
use Rattle.nl_field.specs.declared.place.What.TheVariants.{Super, Stamp, Inode, Pages as PagesPhase, Entry, Pointer as PointerPhase, Names, Charges, Crowded}
use Rattle.nl_check.specs.Checking.{Judges}
use Rattle.nl_check.specs.Gathering.{AddsPhases, page_phases, pointer_phases, with_phase, with_phases}
use Rattle.nl_check.specs.Told.{is_judged}

-- ---- bits

pub none-has : (bits : Findings) → bits_of bits ≡ 0 → (what : What) → has_finding bits what ≡ false
none-has bits e what = ap (λ (n : ℕ). bit_and n (bit_of what) == bit_of what) e ∙ by what
  where
    by : (w : What) → (bit_and 0 (bit_of w) == bit_of w) ≡ false
    by Super = refl
    by Stamp = refl
    by Inode = refl
    by PagesPhase = refl
    by Entry = refl
    by PointerPhase = refl
    by Names = refl
    by Charges = refl
    by Crowded = refl

-- two phases are one and have one bit, or differ and have two
same-or-not : (a b : What) → ((a ≡ b) × ((bit_of a == bit_of b) ≡ true)) ⊎ ((b ≢ a) × ((bit_of a == bit_of b) ≡ false))
same-or-not Super Super = inl (refl, refl)
same-or-not Super _ = inr ((λ e. cc), refl)
same-or-not Stamp Stamp = inl (refl, refl)
same-or-not Stamp _ = inr ((λ e. cc), refl)
same-or-not Inode Inode = inl (refl, refl)
same-or-not Inode _ = inr ((λ e. cc), refl)
same-or-not PagesPhase PagesPhase = inl (refl, refl)
same-or-not PagesPhase _ = inr ((λ e. cc), refl)
same-or-not Entry Entry = inl (refl, refl)
same-or-not Entry _ = inr ((λ e. cc), refl)
same-or-not PointerPhase PointerPhase = inl (refl, refl)
same-or-not PointerPhase _ = inr ((λ e. cc), refl)
same-or-not Names Names = inl (refl, refl)
same-or-not Names _ = inr ((λ e. cc), refl)
same-or-not Charges Charges = inl (refl, refl)
same-or-not Charges _ = inr ((λ e. cc), refl)
same-or-not Crowded Crowded = inl (refl, refl)
same-or-not Crowded _ = inr ((λ e. cc), refl)

or-true : (b : Bool) → (b || true) ≡ true
or-true true = refl
or-true false = refl

pub noted : (old new : Findings) (phase : What) (n : ℕ) → has_finding new phase ≡ true → ((other : What) → other ≢ phase → has_finding new other ≡ has_finding old other)
    → (what : What) → has_finding new what ≡ with_phase (has_finding old) phase (Some n) what
noted old new phase n added others what = by (same-or-not phase what)
  where
    by : ((phase ≡ what) × ((bit_of phase == bit_of what) ≡ true)) ⊎ ((what ≢ phase) × ((bit_of phase == bit_of what) ≡ false)) → has_finding new what ≡ cond (bit_of phase == bit_of what) (has_finding old what || true) (has_finding old what)
    by (inl s) = subst (λ (w : What). has_finding new w ≡ true) s.0 added ∙ sym (or-true (has_finding old what)) ∙ sym (cond-true (bit_of phase == bit_of what) (has_finding old what || true) (has_finding old what) s.1)
    by (inr s) = others what s.0 ∙ sym (cond-false (bit_of phase == bit_of what) (has_finding old what || true) (has_finding old what) s.1)

pub not-noted : (old : Findings) (phase what : What) → has_finding old what ≡ with_phase (has_finding old) phase None what
not-noted old phase what = by (bit_of phase == bit_of what)
  where
    by : (b : Bool) → has_finding old what ≡ cond b (has_finding old what || false) (has_finding old what)
    by true = sym (or-false (has_finding old what))
    by false = refl

-- ---- one phase after the other

-- the bits are those before, and that of one phase more
step : (old new : Findings) (phase : What) (at fault : Option ℕ) (before : What → Bool) → ((w : What) → has_finding old w ≡ before w) → at ≡ fault
    → ((w : What) → has_finding new w ≡ with_phase (has_finding old) phase at w) → (w : What) → has_finding new w ≡ with_phase before phase fault w
step old new phase at fault before was is now w = now w ∙ (λ i. with_phase (λ x. was x i) phase (is i) w)

none-of : (o : Option ℕ) → is_none o ≡ true → o ≡ None
none-of None e = refl
none-of (Some n) e = absurd (both_ways false refl e)

some-not : (o : Option ℕ) → is_some o ≡ true → is_none o ≡ false
some-not None e = absurd (both_ways false refl e)
some-not (Some n) e = refl

module _ (fault : What → Option ℕ) where
  pub two-phases : (bits b c : Findings) (o p : Option ℕ) → o ≡ fault PagesPhase → p ≡ fault Entry
      → ((w : What) → has_finding b w ≡ with_phase (has_finding bits) PagesPhase o w) → (o ≡ None → b ≡ bits)
      → ((w : What) → has_finding c w ≡ with_phase (has_finding b) Entry p w) → (p ≡ None → c ≡ b)
      → AddsPhases fault page_phases bits c
  two-phases bits b c o p is-o is-p at-b none-b at-c none-c = record {
    each = step b c Entry p (fault Entry) (with_phase (has_finding bits) PagesPhase (fault PagesPhase))
        (step bits b PagesPhase o (fault PagesPhase) (has_finding bits) (λ w. refl) is-o at-b) is-p at-c;
    none = λ all. none-c (is-p ∙ none-of _ (all Entry)) ∙ none-b (is-o ∙ none-of _ (all PagesPhase));
  }

  pub four-phases : (bits b c d e : Findings) (o p q r : Option ℕ) → o ≡ fault PointerPhase → p ≡ fault Names → q ≡ fault Charges → r ≡ fault Crowded
      → ((w : What) → has_finding b w ≡ with_phase (has_finding bits) PointerPhase o w) → (o ≡ None → b ≡ bits)
      → ((w : What) → has_finding c w ≡ with_phase (has_finding b) Names p w) → (p ≡ None → c ≡ b)
      → ((w : What) → has_finding d w ≡ with_phase (has_finding c) Charges q w) → (q ≡ None → d ≡ c)
      → ((w : What) → has_finding e w ≡ with_phase (has_finding d) Crowded r w) → (r ≡ None → e ≡ d)
      → AddsPhases fault pointer_phases bits e
  four-phases bits b c d e o p q r is-o is-p is-q is-r at-b none-b at-c none-c at-d none-d at-e none-e = record {
    each = step d e Crowded r (fault Crowded) (λ w. with_phase (λ w. with_phase (λ w. with_phase (has_finding bits) PointerPhase (fault PointerPhase) w) Names (fault Names) w) Charges (fault Charges) w)
        (step c d Charges q (fault Charges) (λ w. with_phase (λ w. with_phase (has_finding bits) PointerPhase (fault PointerPhase) w) Names (fault Names) w)
        (step b c Names p (fault Names) (λ w. with_phase (has_finding bits) PointerPhase (fault PointerPhase) w)
        (step bits b PointerPhase o (fault PointerPhase) (has_finding bits) (λ w. refl) is-o at-b) is-p at-c) is-q at-d) is-r at-e;
    none = λ all. none-e (is-r ∙ none-of _ (all Crowded)) ∙ none-d (is-q ∙ none-of _ (all Charges)) ∙ none-c (is-p ∙ none-of _ (all Names)) ∙ none-b (is-o ∙ none-of _ (all PointerPhase));
  }

  -- ---- what is judged

  abbrev no_bits : What → Bool
  no_bits w = false

  abbrev Told : (What → Bool) → Type 0
  Told set = (w : What) → set w ≡ (is_judged fault w && is_some (fault w))

  ends-super : is_some (fault Super) ≡ true → Told (with_phase no_bits Super (fault Super))
  ends-super s Super = refl
  ends-super s Stamp = sym (ap (λ b. b && is_some (fault Stamp)) (some-not _ s))
  ends-super s Inode = sym (ap (λ b. b && is_some (fault Inode)) (some-not _ s))
  ends-super s PagesPhase = sym (ap (λ b. (b && is_none (fault Inode)) && is_some (fault PagesPhase)) (some-not _ s))
  ends-super s Entry = sym (ap (λ b. (b && is_none (fault Inode)) && is_some (fault Entry)) (some-not _ s))
  ends-super s PointerPhase = sym (ap (λ b. (b && is_none (fault Inode)) && is_some (fault PointerPhase)) (some-not _ s))
  ends-super s Names = sym (ap (λ b. (b && is_none (fault Inode)) && is_some (fault Names)) (some-not _ s))
  ends-super s Charges = sym (ap (λ b. (b && is_none (fault Inode)) && is_some (fault Charges)) (some-not _ s))
  ends-super s Crowded = sym (ap (λ b. (b && is_none (fault Inode)) && is_some (fault Crowded)) (some-not _ s))

  ends-inode : fault Super ≡ None → is_some (fault Inode) ≡ true → Told (with_phase (with_phase no_bits Stamp (fault Stamp)) Inode (fault Inode))
  ends-inode n s Super = sym (ap is_some n)
  ends-inode n s Stamp = sym (ap (λ o. is_none o && is_some (fault Stamp)) n)
  ends-inode n s Inode = sym (ap (λ o. is_none o && is_some (fault Inode)) n)
  ends-inode n s PagesPhase = sym (λ i. (is_none (n i) && some-not _ s i) && is_some (fault PagesPhase))
  ends-inode n s Entry = sym (λ i. (is_none (n i) && some-not _ s i) && is_some (fault Entry))
  ends-inode n s PointerPhase = sym (λ i. (is_none (n i) && some-not _ s i) && is_some (fault PointerPhase))
  ends-inode n s Names = sym (λ i. (is_none (n i) && some-not _ s i) && is_some (fault Names))
  ends-inode n s Charges = sym (λ i. (is_none (n i) && some-not _ s i) && is_some (fault Charges))
  ends-inode n s Crowded = sym (λ i. (is_none (n i) && some-not _ s i) && is_some (fault Crowded))

  goes-on : fault Super ≡ None → fault Inode ≡ None → Told (with_phases fault pointer_phases (with_phases fault page_phases (with_phase no_bits Stamp (fault Stamp))))
  goes-on n m Super = sym (ap is_some n)
  goes-on n m Stamp = sym (ap (λ o. is_none o && is_some (fault Stamp)) n)
  goes-on n m Inode = sym (λ i. is_none (n i) && is_some (m i))
  goes-on n m PagesPhase = sym (λ i. (is_none (n i) && is_none (m i)) && is_some (fault PagesPhase))
  goes-on n m Entry = sym (λ i. (is_none (n i) && is_none (m i)) && is_some (fault Entry))
  goes-on n m PointerPhase = sym (λ i. (is_none (n i) && is_none (m i)) && is_some (fault PointerPhase))
  goes-on n m Names = sym (λ i. (is_none (n i) && is_none (m i)) && is_some (fault Names))
  goes-on n m Charges = sym (λ i. (is_none (n i) && is_none (m i)) && is_some (fault Charges))
  goes-on n m Crowded = sym (λ i. (is_none (n i) && is_none (m i)) && is_some (fault Crowded))

  pub judges-super : (none b : Findings) (o : Option ℕ) → bits_of none ≡ 0 → o ≡ fault Super → is_some o ≡ true
      → ((w : What) → has_finding b w ≡ with_phase (has_finding none) Super o w) → Judges fault b
  judges-super none b o z is s at = record {
    each = λ w. step none b Super o (fault Super) no_bits (none-has none z) is at w ∙ ends-super (ap is_some (sym is) ∙ s) w;
    none = λ all. absurd (both_ways (is_none (fault Super)) (some-not _ (ap is_some (sym is) ∙ s)) (all Super));
  }

  pub judges-inode : (none b c : Findings) (o p q : Option ℕ) → bits_of none ≡ 0 → o ≡ fault Super → is_some o ≡ false → p ≡ fault Stamp → q ≡ fault Inode → is_some q ≡ true
      → ((w : What) → has_finding b w ≡ with_phase (has_finding none) Stamp p w)
      → ((w : What) → has_finding c w ≡ with_phase (has_finding b) Inode q w) → Judges fault c
  judges-inode none b c o p q z is-o n is-p is-q s at-b at-c = record {
    each = λ w.
        step b c Inode q (fault Inode) (with_phase no_bits Stamp (fault Stamp)) (step none b Stamp p (fault Stamp) no_bits (none-has none z) is-p at-b) is-q at-c w
        ∙ ends-inode (sym is-o ∙ not-some o n) (ap is_some (sym is-q) ∙ s) w;
    none = λ all. absurd (both_ways (is_none (fault Inode)) (some-not _ (ap is_some (sym is-q) ∙ s)) (all Inode));
  }
    where
      not-some : (x : Option ℕ) → is_some x ≡ false → x ≡ None
      not-some None e = refl
      not-some (Some n) e = absurd (both_ways true e refl)

  pub judges-all : (none b c d : Findings) (o p q : Option ℕ) → bits_of none ≡ 0 → o ≡ fault Super → is_some o ≡ false → p ≡ fault Stamp → q ≡ fault Inode → is_some q ≡ false
      → ((w : What) → has_finding b w ≡ with_phase (has_finding none) Stamp p w) → (p ≡ None → b ≡ none)
      → AddsPhases fault page_phases b c → AddsPhases fault pointer_phases c d → Judges fault d
  judges-all none b c d o p q z is-o n is-p is-q m at-b none-b adds-c adds-d = record {
    each = λ w.
        adds-d.each w ∙ (λ i. with_phases fault pointer_phases (λ x. adds-c.each x i) w)
        ∙ (λ i. with_phases fault pointer_phases (with_phases fault page_phases (λ x. step none b Stamp p (fault Stamp) no_bits (none-has none z) is-p at-b x i)) w)
        ∙ goes-on (sym is-o ∙ not-some o n) (sym is-q ∙ not-some q m) w;
    none = λ all. ap bits_of (adds-d.none all ∙ adds-c.none all ∙ none-b (is-p ∙ none-of _ (all Stamp))) ∙ z;
  }
    where
      not-some : (x : Option ℕ) → is_some x ≡ false → x ≡ None
      not-some None e = refl
      not-some (Some n) e = absurd (both_ways true e refl)
