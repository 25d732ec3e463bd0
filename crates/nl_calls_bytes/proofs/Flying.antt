-- Pages in flight of a worker but for their names, and one more behind them.
use Rattle.std.proofs.Common.{◌≡◌, ◌⊎◌, inl, inr, ℕ, zero, suc, ◌≤◌, ◌==◌, ◌||◌, Bool, true, false, List, [], ◌∷◌, ◌++◌, map, Option, Some, refl, sym, ap, subst, ◌∙◌}
use Rattle.std.proofs.lemmas.Bool.{eq-eqb, eqb-true}
use Rattle.std.proofs.lemmas.List.{map-append}
use Rattle.std.specs.Prelude.{slice_get}
use Rattle.nl_field.specs.FileContent.{FileContent}
use Rattle.nl_field.specs.Members.{Has}
use Rattle.nl_tree.specs.CountLaws.{Differ}
use Rattle.nl_tree.specs.declared.call.Call.{Call}
use Rattle.nl_flight.specs.declared.page.FlightPage.{FlightPage}
use Rattle.nl_meta.specs.Consistent.{PageOfStamp}
use Rattle.nl_calls_files.proofs.LinePages.{bare}
use Rattle.nl_calls_files.specs.LinePages.{indexes_of}
use Rattle.nl_calls_bytes.specs.InFlight.{AreOfCall, AreWritten, is_flying}
use Rattle.nl_calls_bytes.specs.Ranges.{is_written, page_after}

-- ---- pages that are the same but for names

page_at : (xs ys : List FlightPage) → map bare xs ≡ map bare ys → (k : ℕ) (p : FlightPage) → slice_get xs k ≡ Some p → (q : FlightPage) × (slice_get ys k ≡ Some q) × (bare q ≡ bare p)
page_at [] ys e k p at = absurd (cc at)
page_at (x ∷ xs) [] e k p at = absurd (cc e)
page_at (x ∷ xs) (y ∷ ys) e zero p at = let same : x ≡ p = cc at in let head : bare x ≡ bare y = cc e in (y, refl, sym head ∙ ap bare same)
page_at (x ∷ xs) (y ∷ ys) e (suc k) p at = page_at xs ys (let rest : map bare xs ≡ map bare ys = cc e in rest) k p at

any_bare : (i : ℕ) (xs : List FlightPage) → is_flying (map bare xs) i ≡ is_flying xs i
any_bare i [] = refl
any_bare i (x ∷ xs) = ap (λ (b : Bool). (x.index == i) || b) (any_bare i xs)

indexes_bare : (xs : List FlightPage) → indexes_of (map bare xs) ≡ indexes_of xs
indexes_bare [] = refl
indexes_bare (x ∷ xs) = ap (λ (is : List ℕ). x.index ∷ is) (indexes_bare xs)

module _ (xs ys : List FlightPage) (e : map bare xs ≡ map bare ys) where
  pub flying_same : (i : ℕ) → is_flying xs i ≡ is_flying ys i
  flying_same i = sym (any_bare i xs) ∙ ap (λ (zs : List FlightPage). is_flying zs i) e ∙ any_bare i ys

  pub indexes_same : indexes_of xs ≡ indexes_of ys
  indexes_same = sym (indexes_bare xs) ∙ ap indexes_of e ∙ indexes_bare ys

  pub of_call_same : (n generation : ℕ) (call : Call) → AreOfCall n generation call ys → AreOfCall n generation call xs
  of_call_same n generation call a = record {
    tag = λ k p at.
        let q = page_at xs ys e k p at in
        let alike = q.2 in
        sym (ap (λ (z : FlightPage). z.tag) alike) ∙ a.tag k q.0 q.1 ∙ ap (λ (z : FlightPage). record { ino = n; generation = generation; index = z.index }) alike;
    written = λ k p at. let q = page_at xs ys e k p at in let alike = q.2 in subst (λ (z : FlightPage). is_written call z.index ≡ true) alike (a.written k q.0 q.1);
    stamp = λ k p at. let q = page_at xs ys e k p at in let alike = q.2 in subst (λ (z : FlightPage). 1 ≤ z.at.stamp) alike (a.stamp k q.0 q.1);
    differ = subst Differ (sym indexes_same) a.differ;
  }

  pub written_same : (page_of_stamp : ℕ → Option PageOfStamp) (content : FileContent) (call : Call) → AreWritten page_of_stamp content call ys → AreWritten page_of_stamp content call xs
  written_same page_of_stamp content call h = λ k p at.
      let q = page_at xs ys e k p at in
      let alike = q.2 in
      sym (ap (λ (z : FlightPage). page_of_stamp z.at.stamp) alike) ∙ h k q.0 q.1 ∙ ap (λ (z : FlightPage). Some (record { tag = z.tag; bytes = page_after content call z.index })) alike

-- ---- one more behind them

pushed : (xs : List FlightPage) (x : FlightPage) (k : ℕ) (p : FlightPage) → slice_get (xs ++ x ∷ []) k ≡ Some p → (slice_get xs k ≡ Some p) ⊎ (x ≡ p)
pushed [] x zero p at = inr (cc at)
pushed [] x (suc k) p at = absurd (cc at)
pushed (y ∷ xs) x zero p at = inl at
pushed (y ∷ xs) x (suc k) p at = pushed xs x k p at

has_pushed : (ns : List ℕ) (n m : ℕ) → Has (ns ++ n ∷ []) m → Has ns m ⊎ (n ≡ m)
has_pushed [] n m (inl e) = inr e
has_pushed [] n m (inr none) = absurd none
has_pushed (k ∷ ns) n m (inl e) = inl (inl e)
has_pushed (k ∷ ns) n m (inr has) = by (has_pushed ns n m has)
  where
    by : Has ns m ⊎ (n ≡ m) → Has (k ∷ ns) m ⊎ (n ≡ m)
    by (inl h) = inl (inr h)
    by (inr e) = inr e

differ_pushed : (ns : List ℕ) (n : ℕ) → Differ ns → (Has ns n → ⊥) → Differ (ns ++ n ∷ [])
differ_pushed [] n d far = ((λ h. h), tt)
differ_pushed (m ∷ ns) n d far = ((λ h. by (has_pushed ns n m h)), differ_pushed ns n d.1 (λ h. far (inr h)))
  where
    by : Has ns m ⊎ (n ≡ m) → ⊥
    by (inl h) = d.0 h
    by (inr e) = far (inl (sym e))

pub flying_first : (xs : List FlightPage) (x : FlightPage) (i : ℕ) → is_flying xs i ≡ true → is_flying (xs ++ x ∷ []) i ≡ true
flying_first [] x i e = absurd (cc e)
flying_first (y ∷ xs) x i e = by (y.index == i) e (flying_first xs x i)
  where
    by : (b : Bool) → (b || is_flying xs i) ≡ true → (is_flying xs i ≡ true → is_flying (xs ++ x ∷ []) i ≡ true) → (b || is_flying (xs ++ x ∷ []) i) ≡ true
    by true h rest = refl
    by false h rest = rest h

pub flying_last : (xs : List FlightPage) (x : FlightPage) (i : ℕ) → x.index ≡ i → is_flying (xs ++ x ∷ []) i ≡ true
flying_last [] x i e = ap (λ (b : Bool). b || false) (eq-eqb x.index i e)
flying_last (y ∷ xs) x i e = ap (λ (b : Bool). (y.index == i) || b) (flying_last xs x i e) ∙ by (y.index == i)
  where
    by : (b : Bool) → (b || true) ≡ true
    by true = refl
    by false = refl

pub has_flying : (xs : List FlightPage) (i : ℕ) → Has (indexes_of xs) i → is_flying xs i ≡ true
has_flying [] i has = absurd has
has_flying (x ∷ xs) i (inl e) = ap (λ (b : Bool). b || is_flying xs i) (eq-eqb x.index i e)
has_flying (x ∷ xs) i (inr has) = ap (λ (b : Bool). (x.index == i) || b) (has_flying xs i has) ∙ by (x.index == i)
  where
    by : (b : Bool) → (b || true) ≡ true
    by true = refl
    by false = refl

pub flying_at : (xs : List FlightPage) (i : ℕ) → is_flying xs i ≡ true → (k : ℕ) × (p : FlightPage) × (slice_get xs k ≡ Some p) × (p.index ≡ i)
flying_at [] i e = absurd (cc e)
flying_at (x ∷ xs) i e = by (x.index == i) refl e (flying_at xs i)
  where
    by : (b : Bool) → (x.index == i) ≡ b → (b || is_flying xs i) ≡ true → (is_flying xs i ≡ true → (k : ℕ) × (p : FlightPage) × (slice_get xs k ≡ Some p) × (p.index ≡ i))
        → (k : ℕ) × (p : FlightPage) × (slice_get (x ∷ xs) k ≡ Some p) × (p.index ≡ i)
    by true is h rest = (0, x, refl, eqb-true x.index i is)
    by false is h rest = let r = rest h in (suc r.0, r.1, r.2, r.3)

pub index_has : (xs : List FlightPage) (k : ℕ) (p : FlightPage) → slice_get xs k ≡ Some p → Has (indexes_of xs) p.index
index_has [] k p at = absurd (cc at)
index_has (x ∷ xs) zero p at = inl (let same : x ≡ p = cc at in ap (λ (z : FlightPage). z.index) same)
index_has (x ∷ xs) (suc k) p at = inr (index_has xs k p at)

pub flying_has : (xs : List FlightPage) (i : ℕ) → is_flying xs i ≡ true → Has (indexes_of xs) i
flying_has xs i e = let r = flying_at xs i e in subst (λ (j : ℕ). Has (indexes_of xs) j) r.3 (index_has xs r.0 r.1 r.2)

module _ (n generation : ℕ) (call : Call) (xs : List FlightPage) (x : FlightPage) where
  pub of_call_more : AreOfCall n generation call xs → x.tag ≡ record { ino = n; generation = generation; index = x.index } → is_written call x.index ≡ true → 1 ≤ x.at.stamp → is_flying xs x.index ≡ false
      → AreOfCall n generation call (xs ++ x ∷ [])
  of_call_more a tag written stamp far = record {
    tag = λ k p at. by_tag k p (pushed xs x k p at);
    written = λ k p at. by_written k p (pushed xs x k p at);
    stamp = λ k p at. by_stamp k p (pushed xs x k p at);
    differ = subst Differ (sym (map-append (λ (z : FlightPage). z.index) xs (x ∷ []))) (differ_pushed (indexes_of xs) x.index a.differ (λ has. absurd (cc (sym far ∙ has_flying xs x.index has))));
  }
    where
      by_tag : (k : ℕ) (p : FlightPage) → (slice_get xs k ≡ Some p) ⊎ (x ≡ p) → p.tag ≡ record { ino = n; generation = generation; index = p.index }
      by_tag k p (inl at) = a.tag k p at
      by_tag k p (inr e) = subst (λ (z : FlightPage). z.tag ≡ record { ino = n; generation = generation; index = z.index }) e tag

      by_written : (k : ℕ) (p : FlightPage) → (slice_get xs k ≡ Some p) ⊎ (x ≡ p) → is_written call p.index ≡ true
      by_written k p (inl at) = a.written k p at
      by_written k p (inr e) = subst (λ (z : FlightPage). is_written call z.index ≡ true) e written

      by_stamp : (k : ℕ) (p : FlightPage) → (slice_get xs k ≡ Some p) ⊎ (x ≡ p) → 1 ≤ p.at.stamp
      by_stamp k p (inl at) = a.stamp k p at
      by_stamp k p (inr e) = subst (λ (z : FlightPage). 1 ≤ z.at.stamp) e stamp

  pub written_more : (page_of_stamp : ℕ → Option PageOfStamp) (content : FileContent) → AreWritten page_of_stamp content call xs
      → page_of_stamp x.at.stamp ≡ Some (record { tag = x.tag; bytes = page_after content call x.index }) → AreWritten page_of_stamp content call (xs ++ x ∷ [])
  written_more page_of_stamp content h is = λ k p at. by k p (pushed xs x k p at)
    where
      by : (k : ℕ) (p : FlightPage) → (slice_get xs k ≡ Some p) ⊎ (x ≡ p) → page_of_stamp p.at.stamp ≡ Some (record { tag = p.tag; bytes = page_after content call p.index })
      by k p (inl at) = h k p at
      by k p (inr e) = subst (λ (z : FlightPage). page_of_stamp z.at.stamp ≡ Some (record { tag = z.tag; bytes = page_after content call z.index })) e is
