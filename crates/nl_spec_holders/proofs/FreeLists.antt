-- The clauses of `free` as lists of pairs and callbacks say what the step needs.
use Rattle.std.proofs.Common.{◌≡◌, ◌≢◌, ℕ, suc, arith, ◌==◌, cond, eqb, Bool, true, false, List, [], ◌∷◌, Option, Some, refl, sym, ap, subst, ◌∙◌, ◌⊎◌, inl, inr}
use Rattle.std.specs.Prelude.{◌<◌, ◌&&◌, not, if◌then◌else◌, filter, find, length, map, slice_index_or, option_map, unwrap_or, AllPairs}
use Rattle.std.specs.List.{list_any}
use Rattle.std.proofs.lemmas.Bool.{cases_eq, cases_Bool, eq-eqb, ne_eqb, eqb-true, cond-true, cond-false, and_from, and_parts, and_left, or_cases, or_left, or_right, or_from, not_from_true, not_from_false}
use Rattle.nl_field.specs.Live.{resolve}
use Rattle.nl_iface.specs.declared.Callback.{Callback}
use Rattle.nl_iface.specs.Names.{Has, IsTableOfNames, LivePage, Names, beside, callbacks_beside, led, without_page}
use Rattle.nl_spec_holders.proofs.Words.{Frees, IsPending, live_in}
use Rattle.nl_spec_holders.proofs.Choices.{if_yes, if_no}

abbrev pub NotOld : ℕ → List (ℕ × ℕ) → Type 0
NotOld n [] = Unit {0}
NotOld n (x ∷ xs) = (x.0 ≢ n) × NotOld n xs

abbrev pub OldDiffer : List (ℕ × ℕ) → Type 0
OldDiffer [] = Unit {0}
OldDiffer (x ∷ xs) = NotOld x.0 xs × OldDiffer xs

pub at_head : (x : ℕ × ℕ) (xs : List (ℕ × ℕ)) (n : ℕ) → x.0 ≡ n → resolve (x ∷ xs) n ≡ x.1
at_head x xs n e = ap (λ (o : Option (ℕ × ℕ)). unwrap_or (option_map (λ pair. pair.1) o) n) (cond-true (eqb x.0 n) (Some x) (find (λ pair. pair.0 == n) xs) (eq-eqb x.0 n e))

pub at_tail : (x : ℕ × ℕ) (xs : List (ℕ × ℕ)) (n : ℕ) → x.0 ≢ n → resolve (x ∷ xs) n ≡ resolve xs n
at_tail x xs n far = ap (λ (o : Option (ℕ × ℕ)). unwrap_or (option_map (λ pair. pair.1) o) n) (cond-false (eqb x.0 n) (Some x) (find (λ pair. pair.0 == n) xs) (ne_eqb x.0 n far))

at_none : (xs : List (ℕ × ℕ)) (n : ℕ) → NotOld n xs → resolve xs n ≡ n
at_none [] n h = refl
at_none (x ∷ xs) n h = at_tail x xs n h.0 ∙ at_none xs n h.1

pub kept_none : (xs : List (ℕ × ℕ)) (p n : ℕ) → NotOld n xs → NotOld n (beside xs p)
kept_none [] p n h = tt
kept_none (x ∷ xs) p n h = by (kept_none xs p n h.1) (cases_Bool (not (x.1 == p)))
  where
    by : NotOld n (beside xs p) → (not (x.1 == p) ≡ true) ⊎ (not (x.1 == p) ≡ false) → NotOld n (beside (x ∷ xs) p)
    by rest (inl e) = subst (λ ys. NotOld n ys) (sym (cond-true (not (x.1 == p)) (x ∷ beside xs p) (beside xs p) e)) (h.0, rest)
    by rest (inr e) = subst (λ ys. NotOld n ys) (sym (cond-false (not (x.1 == p)) (x ∷ beside xs p) (beside xs p) e)) rest

pub beside-ways : (xs : List (ℕ × ℕ)) (p n : ℕ) → OldDiffer xs → resolve (beside xs p) n ≡ (if resolve xs n == p then n else resolve xs n)
beside-ways [] p n d = by (cases_eq n p)
  where
    by : (n ≡ p) ⊎ (n ≢ p) → n ≡ (if n == p then n else n)
    by (inl e) = sym (if_yes n p n n e)
    by (inr far) = sym (if_no n p n n far)
beside-ways (x ∷ xs) p n d = by (beside-ways xs p n d.1) (cases_eq x.1 p) (cases_eq x.0 n)
  where
    goal : ℕ → ℕ → Type 0
    goal a b = a ≡ (if b == p then n else b)

    gone : x.1 ≡ p → beside (x ∷ xs) p ≡ beside xs p
    gone e = cond-false (not (x.1 == p)) (x ∷ beside xs p) (beside xs p) (not_from_true (eqb x.1 p) (eq-eqb x.1 p e))

    stays : x.1 ≢ p → beside (x ∷ xs) p ≡ x ∷ beside xs p
    stays far = cond-true (not (x.1 == p)) (x ∷ beside xs p) (beside xs p) (not_from_false (eqb x.1 p) (ne_eqb x.1 p far))

    by : resolve (beside xs p) n ≡ (if resolve xs n == p then n else resolve xs n) → (x.1 ≡ p) ⊎ (x.1 ≢ p) → (x.0 ≡ n) ⊎ (x.0 ≢ n) → resolve (beside (x ∷ xs) p) n ≡ (if resolve (x ∷ xs) n == p then n else resolve (x ∷ xs) n)
    by rest (inl e) (inl h) = ap (λ ys. resolve ys n) (gone e) ∙ (at_none (beside xs p) n (kept_none xs p n (subst (λ (m : ℕ). NotOld m xs) h d.0))
        ∙ sym (if_yes (resolve (x ∷ xs) n) p n (resolve (x ∷ xs) n) (at_head x xs n h ∙ e)))
    by rest (inl e) (inr h) = ap (λ ys. resolve ys n) (gone e) ∙ (rest ∙ ap (λ (m : ℕ). if m == p then n else m) (sym (at_tail x xs n h)))
    by rest (inr far) (inl h) = ap (λ ys. resolve ys n) (stays far) ∙ (at_head x (beside xs p) n h
        ∙ (sym (at_head x xs n h) ∙ sym (if_no (resolve (x ∷ xs) n) p n (resolve (x ∷ xs) n) (λ e. far (sym (at_head x xs n h) ∙ e)))))
    by rest (inr far) (inr h) = ap (λ ys. resolve ys n) (stays far) ∙ (at_tail x (beside xs p) n h ∙ (rest ∙ ap (λ (m : ℕ). if m == p then n else m) (sym (at_tail x xs n h))))

abbrev leads_there : ℕ → ℕ → ℕ × ℕ → Bool
leads_there n p pair = pair.0 == n && pair.1 == p

none_there : (xs : List (ℕ × ℕ)) (n p : ℕ) → NotOld n xs → list_any (leads_there n p) xs ≡ false
none_there [] n p h = refl
none_there (x ∷ xs) n p h = or_from (leads_there n p x) (list_any (leads_there n p) xs) (and_left (x.0 == n) (x.1 == p) (ne_eqb x.0 n h.0)) (none_there xs n p h.1)

-- a pair of the name that leads there is the one by which it is resolved
there_led : (xs : List (ℕ × ℕ)) (n p : ℕ) → OldDiffer xs → list_any (leads_there n p) xs ≡ true → resolve xs n ≡ p
there_led [] n p d h = absurd (no h)
  where
    no : false ≡ true → ⊥
    no e = subst (λ (b : Bool). cond b ⊥ (Unit {0})) e tt
there_led (x ∷ xs) n p d h = by (λ k. there_led xs n p d.1 k) (cases_eq x.0 n) (or_cases (leads_there n p x) (list_any (leads_there n p) xs) h)
  where
    no : {b : Bool} → b ≡ false → b ≡ true → ⊥
    no {b} e f = subst (λ (c : Bool). cond c ⊥ (Unit {0})) (sym e ∙ f) tt

    by : (list_any (leads_there n p) xs ≡ true → resolve xs n ≡ p) → (x.0 ≡ n) ⊎ (x.0 ≢ n) → (leads_there n p x ≡ true) ⊎ (list_any (leads_there n p) xs ≡ true) → resolve (x ∷ xs) n ≡ p
    by rest (inl e) (inl k) = at_head x xs n e ∙ eqb-true x.1 p (and_parts (x.0 == n) (x.1 == p) k).1
    by rest (inl e) (inr k) = absurd (no (none_there xs n p (subst (λ (m : ℕ). NotOld m xs) e d.0)) k)
    by rest (inr far) (inl k) = absurd (far (eqb-true x.0 n (and_parts (x.0 == n) (x.1 == p) k).0))
    by rest (inr far) (inr k) = at_tail x xs n far ∙ rest k

-- where an old name is resolved to a place, a pair leads there
led_there : (xs : List (ℕ × ℕ)) (n p : ℕ) → resolve xs n ≡ p → resolve xs n ≢ n → list_any (leads_there n p) xs ≡ true
led_there [] n p e far = absurd (far refl)
led_there (x ∷ xs) n p e far = by (λ a b. led_there xs n p a b) (cases_eq x.0 n)
  where
    by : (resolve xs n ≡ p → resolve xs n ≢ n → list_any (leads_there n p) xs ≡ true) → (x.0 ≡ n) ⊎ (x.0 ≢ n) → list_any (leads_there n p) (x ∷ xs) ≡ true
    by rest (inl h) = or_left (leads_there n p x) (list_any (leads_there n p) xs) (and_from (x.0 == n) (x.1 == p) (eq-eqb x.0 n h) (eq-eqb x.1 p (sym (at_head x xs n h) ∙ e)))
    by rest (inr h) = or_right (leads_there n p x) (list_any (leads_there n p) xs) (rest (sym (at_tail x xs n h) ∙ e) (λ k. far (at_tail x xs n h ∙ k)))

filter_has : {X : Type 0} (f : X → Bool) (xs : List X) (x : X) → Has (filter f xs) x → Has xs x × (f x ≡ true)
filter_has f [] x h = absurd h
filter_has {X} f (y ∷ ys) x h = by (λ k. filter_has f ys x k) (cases_Bool (f y))
  where
    by : (Has (filter f ys) x → Has ys x × (f x ≡ true)) → (f y ≡ true) ⊎ (f y ≡ false) → Has (y ∷ ys) x × (f x ≡ true)
    by rest (inl e) = head (subst (λ zs. Has zs x) (cond-true (f y) (y ∷ filter f ys) (filter f ys) e) h)
      where
        head : (y ≡ x) ⊎ Has (filter f ys) x → Has (y ∷ ys) x × (f x ≡ true)
        head (inl same) = (inl same, ap f (sym same) ∙ e)
        head (inr k) = let r = rest k in (inr r.0, r.1)
    by rest (inr e) = let r = rest (subst (λ zs. Has zs x) (cond-false (f y) (y ∷ filter f ys) (filter f ys) e) h) in (inr r.0, r.1)

pub has_filter : {X : Type 0} (f : X → Bool) (xs : List X) (x : X) → Has xs x → f x ≡ true → Has (filter f xs) x
has_filter f [] x h t = absurd h
has_filter {X} f (y ∷ ys) x h t = by (λ k. has_filter f ys x k t) (cases_Bool (f y)) h
  where
    by : (Has ys x → Has (filter f ys) x) → (f y ≡ true) ⊎ (f y ≡ false) → (y ≡ x) ⊎ Has ys x → Has (filter f (y ∷ ys)) x
    by rest (inl e) (inl same) = subst (λ zs. Has zs x) (sym (cond-true (f y) (y ∷ filter f ys) (filter f ys) e)) (inl same)
    by rest (inl e) (inr k) = subst (λ zs. Has zs x) (sym (cond-true (f y) (y ∷ filter f ys) (filter f ys) e)) (inr (rest k))
    by rest (inr e) (inl same) = absurd (subst (λ (c : Bool). cond c (Unit {0}) ⊥) (sym t ∙ (ap f (sym same) ∙ e)) tt)
    by rest (inr e) (inr k) = subst (λ zs. Has zs x) (sym (cond-false (f y) (y ∷ filter f ys) (filter f ys) e)) (rest k)

pub frees-from_lists : (p : ℕ) (page : LivePage) (old new : Names) → IsTableOfNames old → OldDiffer old.pairs → live_in old p ≡ Some page → ((q : ℕ) → live_in new q ≡ without_page old.live p q)
    → new.pairs ≡ beside old.pairs p → new.pending ≡ callbacks_beside old.pairs old.pending p → ((c : Callback) → IsPending new c → new.handled c.number ≡ old.handled c.number) → Frees p page old new
frees-from_lists p page old new f differ was live pairs pending marks = record {
  was = was;
  live = live;
  ways = λ n. ap (λ ys. resolve ys n) pairs ∙ beside-ways old.pairs p n differ;
  only = λ c has.
      let h = filter_has (λ (d : Callback). not (list_any (leads_there d.before p) old.pairs)) old.pending c (subst (λ cs. Has cs c) pending has) in
      (h.0, λ e. no (list_any (leads_there c.before p) old.pairs) (led_there old.pairs c.before p e (f.away c h.0)) h.1);
  kept = λ c has far. subst (λ cs. Has cs c) (sym pending) (has_filter (λ (d : Callback). not (list_any (leads_there d.before p) old.pairs)) old.pending c has
      (not_led c far (cases_Bool (list_any (leads_there c.before p) old.pairs))));
  marks = marks;
}
  where
    no : (b : Bool) → b ≡ true → not b ≡ true → ⊥
    no b e h = subst (λ (c : Bool). cond c ⊥ (Unit {0})) (sym (not_from_true b e) ∙ h) tt

    not_led : (c : Callback) → led old c.before ≢ p → (list_any (leads_there c.before p) old.pairs ≡ true) ⊎ (list_any (leads_there c.before p) old.pairs ≡ false) → not (list_any (leads_there c.before p) old.pairs) ≡ true
    not_led c far (inl e) = absurd (far (there_led old.pairs c.before p differ e))
    not_led c far (inr e) = not_from_false (list_any (leads_there c.before p) old.pairs) e

-- old names that differ in pairs differ by recursion
not_old_from : (n : ℕ) (xs : List (ℕ × ℕ)) → ((k d : ℕ) → k < length (map (λ (pair : ℕ × ℕ). pair.0) xs) → n ≢ slice_index_or (map (λ (pair : ℕ × ℕ). pair.0) xs) k d) → NotOld n xs
not_old_from n [] h = tt
not_old_from n (x ∷ xs) h = ((λ e. h 0 0 (omega arith) (sym e)), not_old_from n xs (λ k d le. h (suc k) d (omega (arith, le))))

pub old_differ_from : (xs : List (ℕ × ℕ)) → AllPairs (λ (x y : ℕ). x ≢ y) (map (λ (pair : ℕ × ℕ). pair.0) xs) → OldDiffer xs
old_differ_from [] h = tt
old_differ_from (x ∷ xs) h = (not_old_from x.0 xs (λ k d le. h 0 (suc k) d (omega arith) (omega (arith, le))), old_differ_from xs (λ i j d lt le. h (suc i) (suc j) d (omega (arith, lt)) (omega (arith, le))))
