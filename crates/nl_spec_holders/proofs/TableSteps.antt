-- Each step of a device keeps its table, and the references that it may keep.
use Rattle.std.proofs.Common.{◌≡◌, ◌≢◌, ℕ, ◌≤◌, ◌==◌, Option, Some, None, refl, sym, ap, subst, ◌∙◌, ◌⊎◌, inl, inr}
use Rattle.std.specs.Prelude.{if◌then◌else◌}
use Rattle.std.proofs.lemmas.Bool.{cases_eq}
use Rattle.std.proofs.lemmas.Option.{none-some, same_Some}
use Rattle.nl_iface.specs.declared.Callback.{Callback}
use Rattle.nl_iface.specs.Holders.{IsRef}
use Rattle.nl_iface.specs.Moves.{Acknowledges, Copies, IsHandledBy, MarksHandled, first_handled}
use Rattle.nl_iface.specs.Names.{Has, IsTableOfNames, LivePage, Names, SameTables, led, told_page, without_page}
use Rattle.nl_spec_holders.proofs.Words.{Frees, IsPending, Programs, live_in, ways_by}
use Rattle.nl_spec_holders.proofs.Choices.{if_yes, if_no, apart, cases_le}

-- two refs of one page lead to one place
pub one_place : {t : Names} → IsTableOfNames t → (p q : ℕ) (d e : LivePage) → live_in t p ≡ Some d → live_in t q ≡ Some e → d.stamp ≡ e.stamp → p ≡ q
one_place f p q d e a b s = f.stamps_differ p q d e a b s

-- a live page is the place of no pending callback's old name
pub not_old : {t : Names} → IsTableOfNames t → (p : ℕ) (d : LivePage) (c : Callback) → live_in t p ≡ Some d → IsPending t c → p ≢ c.before
not_old {t} f p d c is has e = f.away c has (subst (λ (n : ℕ). led t n ≡ n) e (f.own p d is))

-- the name of a live page is a reference to it, whatever is due
pub ref_of_place : {t : Names} → IsTableOfNames t → (p : ℕ) (d : LivePage) (due : ℕ → Type 0) (want : LivePage → Type 0) → live_in t p ≡ Some d → want d → IsRef t due want p
ref_of_place {t} f p d due want is w = record {
  leads = (d, ap t.live (f.own p d is) ∙ is, w);
  safe = λ c n has m k. not_old f p d c is has;
}

-- A page is programmed.
module _ (p : ℕ) (page : LivePage) (old new : Names) (s : Programs p page old new) where
  pub program-back : (q : ℕ) (d : LivePage) → live_in new q ≡ Some d → ((q ≡ p) × (page ≡ d)) ⊎ ((q ≢ p) × (live_in old q ≡ Some d))
  program-back q d is = by (cases_eq q p)
    where
      by : (q ≡ p) ⊎ (q ≢ p) → ((q ≡ p) × (page ≡ d)) ⊎ ((q ≢ p) × (live_in old q ≡ Some d))
      by (inl e) = inl (e, same_Some page d (sym (if_yes q p (Some page) (old.live q) e) ∙ (sym (s.live q) ∙ is)))
      by (inr far) = inr (far, sym (if_no q p (Some page) (old.live q) far) ∙ (sym (s.live q) ∙ is))

  pub program-kept : (q : ℕ) (d : LivePage) → live_in old q ≡ Some d → live_in new q ≡ Some d
  program-kept q d is = s.live q ∙ (if_no q p (Some page) (old.live q) (λ e. apart old.live p q d s.dead is (sym e)) ∙ is)

  pub program-new : live_in new p ≡ Some page
  program-new = s.live p ∙ if_yes p p (Some page) (old.live p) refl

  program-led : (n q : ℕ) (d : LivePage) → led old n ≡ q → live_in old q ≡ Some d → live_in new (led new n) ≡ Some d
  program-led n q d e is = ap new.live (s.ways n ∙ e) ∙ program-kept q d is

  program-pending : (c : Callback) → IsPending new c → IsPending old c
  program-pending c has = subst (λ cs. Has cs c) s.pending has

  pub programs-table : IsTableOfNames old → IsTableOfNames new
  programs-table f = record {
    stamps_differ = λ a b d e x y same. differ a b d e same (program-back a d x) (program-back b e y);
    own = λ q d is. s.ways q ∙ own q d (program-back q d is);
    called = λ c has. program-led c.before (led old c.before) (told_page c) refl (f.called c (program-pending c has));
    away = λ c has e. f.away c (program-pending c has) (sym (s.ways c.before) ∙ e);
    told = λ n far. let h = f.told n (λ e. far (s.ways n ∙ e)) in (h.0, subst (λ cs. Has cs h.0) (sym s.pending) h.1, h.2);
    one_number = λ c d x y e. f.one_number c d (program-pending c x) (program-pending d y) e;
    one_name = λ c d x y e. f.one_name c d (program-pending c x) (program-pending d y) e;
  }
    where
      own : (q : ℕ) (d : LivePage) → ((q ≡ p) × (page ≡ d)) ⊎ ((q ≢ p) × (live_in old q ≡ Some d)) → led old q ≡ q
      own q d (inl x) = subst (λ (n : ℕ). led old n ≡ n) (sym x.0) s.own
      own q d (inr x) = f.own q d x.1

      differ : (a b : ℕ) (d e : LivePage) → d.stamp ≡ e.stamp → ((a ≡ p) × (page ≡ d)) ⊎ ((a ≢ p) × (live_in old a ≡ Some d)) → ((b ≡ p) × (page ≡ e)) ⊎ ((b ≢ p) × (live_in old b ≡ Some e)) → a ≡ b
      differ a b d e same (inl x) (inl y) = x.0 ∙ sym y.0
      differ a b d e same (inl x) (inr y) = absurd (s.fresh b e y.1 (sym (ap (λ (l : LivePage). l.stamp) x.1 ∙ same)))
      differ a b d e same (inr x) (inl y) = absurd (s.fresh a d x.1 (same ∙ sym (ap (λ (l : LivePage). l.stamp) y.1)))
      differ a b d e same (inr x) (inr y) = f.stamps_differ a b d e x.1 y.1 same

  pub programs-ref : (due : ℕ → Type 0) (want : LivePage → Type 0) (name : ℕ) → IsRef old due want name → IsRef new due want name
  programs-ref due want name r = record {
    leads = (r.leads.0, program-led name (led old name) r.leads.0 refl r.leads.1, r.leads.2);
    safe = λ c n has m k. r.safe c n (program-pending c has) (sym (s.marks c has) ∙ m) k;
  }

-- Nothing but the numbers of the space changed.
module _ (old new : Names) (s : SameTables old new) where
  same-pending : (c : Callback) → IsPending new c → IsPending old c
  same-pending c has = subst (λ cs. Has cs c) s.pending has

  pub same-table : IsTableOfNames old → IsTableOfNames new
  same-table f = record {
    stamps_differ = λ a b d e x y same. f.stamps_differ a b d e (sym (s.live a) ∙ x) (sym (s.live b) ∙ y) same;
    own = λ q d is. ways_by old new s.pairs q ∙ f.own q d (sym (s.live q) ∙ is);
    called = λ c has. ap new.live (ways_by old new s.pairs c.before) ∙ (s.live (led old c.before) ∙ f.called c (same-pending c has));
    away = λ c has e. f.away c (same-pending c has) (sym (ways_by old new s.pairs c.before) ∙ e);
    told = λ n far. let h = f.told n (λ e. far (ways_by old new s.pairs n ∙ e)) in (h.0, subst (λ cs. Has cs h.0) (sym s.pending) h.1, h.2);
    one_number = λ c d x y e. f.one_number c d (same-pending c x) (same-pending d y) e;
    one_name = λ c d x y e. f.one_name c d (same-pending c x) (same-pending d y) e;
  }

  pub same-ref : (due : ℕ → Type 0) (want : LivePage → Type 0) (name : ℕ) → IsRef old due want name → IsRef new due want name
  same-ref due want name r = record {
    leads = (r.leads.0, ap new.live (ways_by old new s.pairs name) ∙ (s.live (led old name) ∙ r.leads.1), r.leads.2);
    safe = λ c n has m k. r.safe c n (same-pending c has) (sym (s.handled c.number) ∙ m) k;
  }

-- A live page is moved.
module _ (c : Callback) (old new : Names) (s : Copies c old new) where
  places-differ : c.before ≢ c.after
  places-differ e = apart old.live c.after c.before (told_page c) s.dead s.was (sym e)

  abbrev pub moved : ℕ → ℕ
  moved q = if q == c.before then c.after else q

  pub copy-new : live_in new c.after ≡ Some (told_page c)
  copy-new = s.live c.after ∙ if_yes c.after c.after (Some (told_page c)) (without_page old.live c.before c.after) refl

  pub copy-kept : (q : ℕ) (d : LivePage) → live_in old q ≡ Some d → live_in new (moved q) ≡ Some d
  copy-kept q d is = by (cases_eq q c.before)
    where
      by : (q ≡ c.before) ⊎ (q ≢ c.before) → live_in new (moved q) ≡ Some d
      by (inl e) = ap new.live (if_yes q c.before c.after q e) ∙ (copy-new ∙ (sym s.was ∙ (ap old.live (sym e) ∙ is)))
      by (inr far) = ap new.live (if_no q c.before c.after q far) ∙ (s.live q ∙ (if_no q c.after (Some (told_page c)) (without_page old.live c.before q) (λ e. apart old.live c.after q d s.dead is (sym e))
          ∙ (if_no q c.before None (old.live q) far ∙ is)))

  pub copy-back : (q : ℕ) (d : LivePage) → live_in new q ≡ Some d → (o : ℕ) × (live_in old o ≡ Some d) × (q ≡ moved o)
  copy-back q d is = by (cases_eq q c.after) (cases_eq q c.before)
    where
      by : (q ≡ c.after) ⊎ (q ≢ c.after) → (q ≡ c.before) ⊎ (q ≢ c.before) → (o : ℕ) × (live_in old o ≡ Some d) × (q ≡ moved o)
      by (inl e) _ = (c.before, s.was ∙ (sym copy-new ∙ (ap new.live (sym e) ∙ is)), e ∙ sym (if_yes c.before c.before c.after c.before refl))
      by (inr far) (inl e) = absurd (none-some d (sym (if_yes q c.before None (old.live q) e)
          ∙ (sym (if_no q c.after (Some (told_page c)) (without_page old.live c.before q) far) ∙ (sym (s.live q) ∙ is))))
      by (inr far) (inr off) = (
        q,
        sym (if_no q c.before None (old.live q) off)
            ∙ (sym (if_no q c.after (Some (told_page c)) (without_page old.live c.before q) far) ∙ (sym (s.live q) ∙ is)),
        sym (if_no q c.before c.after q off),
      )

  copy-led : (n q : ℕ) (d : LivePage) → led old n ≡ q → live_in old q ≡ Some d → live_in new (led new n) ≡ Some d
  copy-led n q d e is = ap new.live (s.ways n ∙ ap moved e) ∙ copy-kept q d is

  pub copies-table : IsTableOfNames old → IsTableOfNames new
  copies-table f = record {
    stamps_differ = λ a b d e x y same.
        let g = copy-back a d x in
        let h = copy-back b e y in
        g.2 ∙ (ap moved (f.stamps_differ g.0 h.0 d e g.1 h.1 same) ∙ sym h.2);
    own = λ q d is. let g = copy-back q d is in own q g.0 d g.1 g.2 (cases_eq g.0 c.before);
    called = λ d has. called d (s.only d has);
    away = λ d has. away d (s.only d has);
    told = λ n far. told n far (cases_eq (led old n) c.before) (cases_eq n c.before);
    one_number = λ d e x y same. number d e (s.only d x) (s.only e y) same;
    one_name = λ d e x y same. name d e (s.only d x) (s.only e y) same;
  }
    where
      own : (q o : ℕ) (d : LivePage) → live_in old o ≡ Some d → q ≡ moved o → (o ≡ c.before) ⊎ (o ≢ c.before) → led new q ≡ q
      own q o d is e (inl at) = subst (λ (n : ℕ). led new n ≡ n) (sym (e ∙ if_yes o c.before c.after o at))
          (s.ways c.after ∙ (ap moved s.own ∙ if_no c.after c.before c.after c.after (λ x. places-differ (sym x))))
      own q o d is e (inr far) = subst (λ (n : ℕ). led new n ≡ n) (sym (e ∙ if_no o c.before c.after o far))
          (s.ways o ∙ (ap moved (f.own o d is) ∙ if_no o c.before c.after o far))

      before : led old c.before ≡ c.before
      before = f.own c.before (told_page c) s.was

      called : (d : Callback) → (d ≡ c) ⊎ IsPending old d → live_in new (led new d.before) ≡ Some (told_page d)
      called d (inl e) = subst (λ (x : Callback). live_in new (led new x.before) ≡ Some (told_page x)) (sym e) (copy-led c.before c.before (told_page c) before s.was)
      called d (inr has) = copy-led d.before (led old d.before) (told_page d) refl (f.called d has)

      away : (d : Callback) → (d ≡ c) ⊎ IsPending old d → led new d.before ≢ d.before
      away d (inl same) = subst (λ (x : Callback). led new x.before ≢ x.before) (sym same)
          (λ e. places-differ (sym e ∙ (s.ways c.before ∙ (ap moved before ∙ if_yes c.before c.before c.after c.before refl))))
      away d (inr has) = far (cases_eq (led old d.before) c.before)
        where
          far : (led old d.before ≡ c.before) ⊎ (led old d.before ≢ c.before) → led new d.before ≢ d.before
          far (inl at) e = places-differ (sym at ∙ (ap (led old) (sym e ∙ (s.ways d.before ∙ if_yes (led old d.before) c.before c.after (led old d.before) at)) ∙ s.own))
          far (inr off) e = f.away d has (sym (s.ways d.before ∙ if_no (led old d.before) c.before c.after (led old d.before) off) ∙ e)

      told : (n : ℕ) → led new n ≢ n → (led old n ≡ c.before) ⊎ (led old n ≢ c.before) → (n ≡ c.before) ⊎ (n ≢ c.before) → (d : Callback) × IsPending new d × (d.before ≡ n)
      told n far _ (inl e) = (c, s.added, sym e)
      told n far (inl at) (inr off) = let h = f.told n (λ e. off (sym e ∙ at)) in (h.0, s.kept h.0 h.1, h.2)
      told n far (inr x) (inr off) = let h = f.told n (λ e. far (s.ways n ∙ (if_no (led old n) c.before c.after (led old n) x ∙ e))) in (h.0, s.kept h.0 h.1, h.2)

      number : (d e : Callback) → (d ≡ c) ⊎ IsPending old d → (e ≡ c) ⊎ IsPending old e → d.number ≡ e.number → d ≡ e
      number d e (inl x) (inl y) same = x ∙ sym y
      number d e (inl x) (inr y) same = absurd (s.new_number e y (sym same ∙ ap (λ (z : Callback). z.number) x))
      number d e (inr x) (inl y) same = absurd (s.new_number d x (same ∙ ap (λ (z : Callback). z.number) y))
      number d e (inr x) (inr y) same = f.one_number d e x y same

      name : (d e : Callback) → (d ≡ c) ⊎ IsPending old d → (e ≡ c) ⊎ IsPending old e → d.before ≡ e.before → d ≡ e
      name d e (inl x) (inl y) same = x ∙ sym y
      name d e (inl x) (inr y) same = absurd (not_old f c.before (told_page c) e s.was y (sym (ap (λ (z : Callback). z.before) x) ∙ same))
      name d e (inr x) (inl y) same = absurd (not_old f c.before (told_page c) d s.was x (sym (ap (λ (z : Callback). z.before) y) ∙ sym same))
      name d e (inr x) (inr y) same = f.one_name d e x y same

  pub copies-ref : (due : ℕ → Type 0) (want : LivePage → Type 0) (name : ℕ) → IsRef old due want name → IsRef new due want name
  copies-ref due want name r = record {
    leads = (r.leads.0, copy-led name (led old name) r.leads.0 refl r.leads.1, r.leads.2);
    safe = λ d n has m k. safe d n m k (s.only d has);
  }
    where
      safe : (d : Callback) (n : ℕ) → new.handled d.number ≡ Some n → due n → (d ≡ c) ⊎ IsPending old d → name ≢ d.before
      safe d n m k (inl e) = absurd (none-some n (sym s.unhandled ∙ (ap (λ (z : Callback). new.handled z.number) (sym e) ∙ m)))
      safe d n m k (inr has) = r.safe d n has (sym (s.handled d has) ∙ m) k

-- A callback counts as handled.
module _ (c : Callback) (number : ℕ) (old new : Names) (s : MarksHandled c number old new) where
  mark-pending : (d : Callback) → IsPending new d → IsPending old d
  mark-pending d has = subst (λ cs. Has cs d) s.pending has

  pub marks-table : IsTableOfNames old → IsTableOfNames new
  marks-table f = record {
    stamps_differ = λ a b d e x y same. f.stamps_differ a b d e (sym (s.live a) ∙ x) (sym (s.live b) ∙ y) same;
    own = λ q d is. ways_by old new s.pairs q ∙ f.own q d (sym (s.live q) ∙ is);
    called = λ d has. ap new.live (ways_by old new s.pairs d.before) ∙ (s.live (led old d.before) ∙ f.called d (mark-pending d has));
    away = λ d has e. f.away d (mark-pending d has) (sym (ways_by old new s.pairs d.before) ∙ e);
    told = λ n far. let h = f.told n (λ e. far (ways_by old new s.pairs n ∙ e)) in (h.0, subst (λ cs. Has cs h.0) (sym s.pending) h.1, h.2);
    one_number = λ d e x y same. f.one_number d e (mark-pending d x) (mark-pending e y) same;
    one_name = λ d e x y same. f.one_name d e (mark-pending d x) (mark-pending e y) same;
  }

  -- A reference stays where the transaction is not due, or its name is not the old name of this callback.
  pub marks-ref : IsTableOfNames old → (due : ℕ → Type 0) (want : LivePage → Type 0) (name : ℕ) → (due number → name ≢ c.before) → IsRef old due want name → IsRef new due want name
  marks-ref f due want name may r = record {
    leads = (r.leads.0, ap new.live (ways_by old new s.pairs name) ∙ (s.live (led old name) ∙ r.leads.1), r.leads.2);
    safe = λ d n has m k. safe d n (mark-pending d has) m k (cases_eq d.number c.number);
  }
    where
      first : (o : Option ℕ) (n : ℕ) → old.handled c.number ≡ o → first_handled o number ≡ Some n → due n → name ≢ c.before
      first None n was m k = may (subst due (sym (same_Some number n m)) k)
      first (Some x) n was m k = r.safe c n s.has (was ∙ m) k

      safe : (d : Callback) (n : ℕ) → IsPending old d → new.handled d.number ≡ Some n → due n → (d.number ≡ c.number) ⊎ (d.number ≢ c.number) → name ≢ d.before
      safe d n has m k (inl e) = subst (λ (z : Callback). name ≢ z.before) (sym (f.one_number d c has s.has e))
          (first (old.handled c.number) n refl (sym s.here ∙ (ap new.handled (sym e) ∙ m)) k)
      safe d n has m k (inr far) = r.safe d n has (sym (s.elsewhere d.number far) ∙ m) k

-- A page is freed.
module _ (p : ℕ) (page : LivePage) (old new : Names) (s : Frees p page old new) where
  pub free-back : (q : ℕ) (d : LivePage) → live_in new q ≡ Some d → (q ≢ p) × (live_in old q ≡ Some d)
  free-back q d is = by (cases_eq q p)
    where
      by : (q ≡ p) ⊎ (q ≢ p) → (q ≢ p) × (live_in old q ≡ Some d)
      by (inl e) = absurd (none-some d (sym (if_yes q p None (old.live q) e) ∙ (sym (s.live q) ∙ is)))
      by (inr far) = (far, sym (if_no q p None (old.live q) far) ∙ (sym (s.live q) ∙ is))

  pub free-kept : (q : ℕ) (d : LivePage) → live_in old q ≡ Some d → q ≢ p → live_in new q ≡ Some d
  free-kept q d is far = s.live q ∙ (if_no q p None (old.live q) far ∙ is)

  free-led : (n : ℕ) → led old n ≢ p → led new n ≡ led old n
  free-led n far = s.ways n ∙ if_no (led old n) p n (led old n) far

  pub frees-table : IsTableOfNames old → IsTableOfNames new
  frees-table f = record {
    stamps_differ = λ a b d e x y same. f.stamps_differ a b d e (free-back a d x).1 (free-back b e y).1 same;
    own = λ q d is. let g = free-back q d is in free-led q (λ e. g.0 (sym (f.own q d g.1) ∙ e)) ∙ f.own q d g.1;
    called = λ c has. let h = s.only c has in ap new.live (free-led c.before h.1) ∙ free-kept (led old c.before) (told_page c) (f.called c h.0) h.1;
    away = λ c has e. let h = s.only c has in f.away c h.0 (sym (free-led c.before h.1) ∙ e);
    told = λ n far. told n far (cases_eq (led old n) p);
    one_number = λ c d x y e. f.one_number c d (s.only c x).0 (s.only d y).0 e;
    one_name = λ c d x y e. f.one_name c d (s.only c x).0 (s.only d y).0 e;
  }
    where
      told : (n : ℕ) → led new n ≢ n → (led old n ≡ p) ⊎ (led old n ≢ p) → (d : Callback) × IsPending new d × (d.before ≡ n)
      told n far (inl e) = absurd (far (s.ways n ∙ if_yes (led old n) p n (led old n) e))
      told n far (inr off) =
          let h = f.told n (λ e. far (free-led n off ∙ e)) in
          (h.0, s.kept h.0 h.1 (λ e. off (ap (led old) (sym h.2) ∙ e)), h.2)

  -- A reference stays where it wants another page.
  pub frees-ref : (due : ℕ → Type 0) (want : LivePage → Type 0) (name : ℕ) → (want page → ⊥) → IsRef old due want name → IsRef new due want name
  frees-ref due want name other r = record {
    leads = (r.leads.0, ap new.live (free-led name far) ∙ free-kept (led old name) r.leads.0 r.leads.1 far, r.leads.2);
    safe = λ c n has m k. r.safe c n (s.only c has).0 (sym (s.marks c has) ∙ m) k;
  }
    where
      far : led old name ≢ p
      far e = other (subst want (same_Some r.leads.0 page (sym r.leads.1 ∙ (ap old.live e ∙ s.was))) r.leads.2)

-- Callbacks are acknowledged.
module _ (upto : ℕ) (old new : Names) (s : Acknowledges upto old new) where
  pub over-dec : (c : Callback) → IsHandledBy old upto c ⊎ (IsHandledBy old upto c → ⊥)
  over-dec c = by (old.handled c.number) refl
    where
      by : (o : Option ℕ) → old.handled c.number ≡ o → IsHandledBy old upto c ⊎ (IsHandledBy old upto c → ⊥)
      by None is = inr (λ h. none-some h.0 (sym is ∙ h.1))
      by (Some n) is = split (cases_le n upto)
        where
          split : (n ≤ upto) ⊎ (n ≤ upto → ⊥) → IsHandledBy old upto c ⊎ (IsHandledBy old upto c → ⊥)
          split (inl le) = inl (n, is, le)
          split (inr far) = inr (λ h. far (subst (λ (x : ℕ). x ≤ upto) (same_Some h.0 n (sym h.1 ∙ is)) h.2))

  pub acknowledges-table : IsTableOfNames old → IsTableOfNames new
  acknowledges-table f = record {
    stamps_differ = λ a b d e x y same. f.stamps_differ a b d e (sym (s.live a) ∙ x) (sym (s.live b) ∙ y) same;
    own = λ q d is. let h = sym (s.live q) ∙ is in s.ways q (λ c has over. not_old f q d c h has) ∙ f.own q d h;
    called = λ c has. let h = s.only c has in ap new.live (stays c h.0 h.1) ∙ (s.live (led old c.before) ∙ f.called c h.0);
    away = λ c has e. let h = s.only c has in f.away c h.0 (sym (stays c h.0 h.1) ∙ e);
    told = λ n far. told n far;
    one_number = λ c d x y e. f.one_number c d (s.only c x).0 (s.only d y).0 e;
    one_name = λ c d x y e. f.one_name c d (s.only c x).0 (s.only d y).0 e;
  }
    where
      stays : (c : Callback) → IsPending old c → (IsHandledBy old upto c → ⊥) → led new c.before ≡ led old c.before
      stays c has not = s.ways c.before (λ d x over e. not (subst (λ z. IsHandledBy old upto z) (sym (f.one_name c d has x e)) over))

      told : (n : ℕ) → led new n ≢ n → (d : Callback) × IsPending new d × (d.before ≡ n)
      told n far = by (cases_eq (led old n) n)
        where
          by : (led old n ≡ n) ⊎ (led old n ≢ n) → (d : Callback) × IsPending new d × (d.before ≡ n)
          by (inl e) = absurd (far (s.ways n (λ c has over x. f.away c has (subst (λ (m : ℕ). led old m ≡ m) x e)) ∙ e))
          by (inr off) = let h = f.told n off in rest h.0 h.1 h.2 (over-dec h.0)
            where
              rest : (c : Callback) → IsPending old c → c.before ≡ n → IsHandledBy old upto c ⊎ (IsHandledBy old upto c → ⊥) → (d : Callback) × IsPending new d × (d.before ≡ n)
              rest c has e (inl over) = absurd (far (subst (λ (m : ℕ). led new m ≡ m) e (s.gone c has over)))
              rest c has e (inr not) = (c, s.kept c has not, e)

  -- A reference stays where all that is acknowledged was due.
  pub acknowledges-ref : (due : ℕ → Type 0) (want : LivePage → Type 0) (name : ℕ) → ((n : ℕ) → n ≤ upto → due n) → IsRef old due want name → IsRef new due want name
  acknowledges-ref due want name all r = record {
    leads = (r.leads.0, ap new.live (s.ways name (λ c has over. r.safe c over.0 has over.1 (all over.0 over.2))) ∙ (s.live (led old name) ∙ r.leads.1), r.leads.2);
    safe = λ c n has m k. r.safe c n (s.only c has).0 (sym (s.handled c has) ∙ m) k;
  }
