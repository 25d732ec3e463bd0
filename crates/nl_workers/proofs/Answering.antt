-- The answered lines of a history, and where each stands in it.
use Rattle.std.proofs.Common.{◌≡◌, ◌⊎◌, inl, inr, ◌==◌, ℕ, zero, suc, ◌+◌, ◌<◌, ◌≤◌, Bool, true, false, cond, not, List, [], ◌∷◌, ◌++◌, filter, length, Option, Some, refl, sym, ap, ◌∙◌, subst, arith, eq-eqb, ne_eqb}
use Rattle.std.proofs.lemmas.Bool.Decides.{nat_tests}
use Rattle.std.proofs.lemmas.List.Elements.{filter-append, filter_map-append}
use Rattle.std.proofs.lemmas.List.Sums.{sum_by-cons}
use Rattle.std.specs.List.{cons_option}
use Rattle.std.specs.Prelude.{slice_get, filter_map}
use Rattle.nl_tree.specs.Calls.{AreLines}
use Rattle.nl_tree.specs.declared.call.Line.{Line}
use Rattle.nl_turns.specs.History.{line_at, is_effect, effects}
use Rattle.nl_turns.specs.Seat.{Passed, entries, by_seat}
use Rattle.nl_turns.specs.declared.entry.Entry.{Entry}
use Rattle.nl_workers.specs.Placed.{effects_of, entries_of}
use Rattle.nl_workers.specs.Rounds.{answered_lines}
use Rattle.nl_workers.specs.Going.{times_in}
use Rattle.nl_workers.proofs.Epochs.{rises}
use Rattle.nl_workers.proofs.Permuting.{Each, keyed, keyed_cons}

-- ---- lines by number

pub found_number : (lines : List Line) (n : ℕ) (l : Line) → line_at lines n ≡ Some l → (l.line ≡ n) × ((i : ℕ) × (slice_get lines i ≡ Some l))
found_number [] n l e = absurd (cc e)
found_number (x ∷ xs) n l e = go (λ f. found_number xs n l f) (x.line == n) refl e
  where
    go : (line_at xs n ≡ Some l → (l.line ≡ n) × ((i : ℕ) × (slice_get xs i ≡ Some l))) → (b : Bool) → (x.line == n) ≡ b → cond b (Some x) (line_at xs n) ≡ Some l → (l.line ≡ n) × ((i : ℕ) × (slice_get (x ∷ xs) i ≡ Some l))
    go rest true h e = let same : x ≡ l = cc e in (ap (λ (z : Line). z.line) (sym same) ∙ (let k : x.line ≡ n = grind (arith, nat_tests) in k), (0, e))
    go rest false h e = let r = rest e in (r.0, (suc r.1.0, r.1.1))

times_cons : (m : ℕ) (x : Line) (xs : List Line) → times_in m (x ∷ xs) ≡ cond {A = ℕ} (x.line == m) 1 0 + times_in m xs
times_cons m x xs = sum_by-cons (λ (l : Line). cond (l.line == m) 1 0) x xs

pub times_found : (m : ℕ) (lines : List Line) → 0 < times_in m lines → (l : Line) × (line_at lines m ≡ Some l)
times_found m [] some = absurd (omega arith)
times_found m (x ∷ xs) some = go (λ h. times_found m xs h) (x.line == m) refl
  where
    go : (0 < times_in m xs → (l : Line) × (line_at xs m ≡ Some l)) → (b : Bool) → (x.line == m) ≡ b → (l : Line) × (cond b (Some x) (line_at xs m) ≡ Some l)
    go rest true e = (x, refl)
    go rest false e =
        let a = times_cons m x xs in
        let b : cond {A = ℕ} (x.line == m) 1 0 ≡ 0 = ap (λ (t : Bool). cond {A = ℕ} t 1 0) e in
        rest (omega arith)

none_above : (m : ℕ) (xs : List Line) → ((i : ℕ) (b : Line) → slice_get xs i ≡ Some b → m < b.line) → times_in m xs ≡ 0
none_above m [] above = refl
none_above m (x ∷ xs) above =
    let a = times_cons m x xs in
    let b : cond {A = ℕ} (x.line == m) 1 0 ≡ 0 = ap (λ (t : Bool). cond {A = ℕ} t 1 0) (ne_eqb x.line m (λ e. let h = above 0 x refl in omega arith)) in
    let c = none_above m xs (λ i y e. above (suc i) y e) in
    omega arith

once_in : (m : ℕ) (xs : List Line) → ((i j : ℕ) (a b : Line) → i < j → slice_get xs i ≡ Some a → slice_get xs j ≡ Some b → a.line < b.line) → times_in m xs ≤ 1
once_in m [] rising = omega arith
once_in m (x ∷ xs) rising = go (once_in m xs (λ i j y z lt f g. rising (suc i) (suc j) y z (omega arith) f g)) (x.line == m) refl
  where
    go : times_in m xs ≤ 1 → (b : Bool) → (x.line == m) ≡ b → times_in m (x ∷ xs) ≤ 1
    go rest true e =
        let a = times_cons m x xs in
        let b : cond {A = ℕ} (x.line == m) 1 0 ≡ 1 = ap (λ (t : Bool). cond {A = ℕ} t 1 0) e in
        let k : x.line ≡ m = grind (arith, nat_tests) in
        let c = none_above m xs (λ i y f. let h = rising 0 (suc i) x y (omega arith) refl f in omega arith) in
        omega arith
    go rest false e =
        let a = times_cons m x xs in
        let b : cond {A = ℕ} (x.line == m) 1 0 ≡ 0 = ap (λ (t : Bool). cond {A = ℕ} t 1 0) e in
        let c = rest in
        omega arith

pub times_once : (m : ℕ) (lines : List Line) → AreLines lines → times_in m lines ≤ 1
times_once m lines are = once_in m lines (λ i j a b lt e f. (rises lines i j a b are lt e f).0)

-- ---- answered lines

-- an entry is no effect, or of a line that is found
abbrev pub IsFound : List Line → Entry → Type 0
IsFound lines e = 0 < e.line → (l : Line) × (line_at lines e.line ≡ Some l)

pub first_found : {X Y : Type 0} (h : X → Option Y) (x : X) (xs : List X) (y : Y) → h x ≡ Some y → filter_map h (x ∷ xs) ≡ y ∷ filter_map h xs
first_found h x xs y is = ap (λ o. cons_option o (filter_map h xs)) is

module _ (lines : List Line) where
  pub answered_append : (xs ys : List Entry) → answered_lines lines (xs ++ ys) ≡ answered_lines lines xs ++ answered_lines lines ys
  answered_append xs ys = ap (filter_map (λ (e : Entry). line_at lines e.line)) (filter-append is_effect xs ys) ∙ filter_map-append (λ (e : Entry). line_at lines e.line) (filter is_effect xs) (filter is_effect ys)

  no_effect : (e : Entry) (es : List Entry) → e.line ≡ 0 → answered_lines lines (e ∷ es) ≡ answered_lines lines es
  no_effect e es none =
      let b : is_effect e ≡ false = ap not (eq-eqb e.line 0 none) in
      ap (λ (t : Bool). filter_map (λ (x : Entry). line_at lines x.line) (cond t (e ∷ filter is_effect es) (filter is_effect es))) b

  one_effect : (e : Entry) (es : List Entry) (l : Line) → 0 < e.line → line_at lines e.line ≡ Some l → answered_lines lines (e ∷ es) ≡ l ∷ answered_lines lines es
  one_effect e es l some is =
      let b : is_effect e ≡ true = ap not (ne_eqb e.line 0 (λ z. omega arith)) in
      ap (λ (t : Bool). filter_map (λ (x : Entry). line_at lines x.line) (cond t (e ∷ filter is_effect es) (filter is_effect es))) b
      ∙ first_found (λ (x : Entry). line_at lines x.line) e (filter is_effect es) l is

  zero_or : (n : ℕ) → (n ≡ 0) ⊎ (0 < n)
  zero_or zero = inl refl
  zero_or (suc n) = inr (omega arith)

  effects_cons : (e : Entry) (es : List Entry) → effects (e ∷ es) ≡ cond {A = ℕ} (is_effect e) 1 0 + effects es
  effects_cons e es = sum_by-cons (λ (x : Entry). cond (is_effect x) 1 0) e es

  of_cons : (m : ℕ) (e : Entry) (es : List Entry) → effects_of m (e ∷ es) ≡ cond {A = ℕ} (e.line == m) 1 0 + effects_of m es
  of_cons m e es = sum_by-cons (λ (x : Entry). cond (x.line == m) 1 0) e es

  line_number : Line → ℕ
  line_number l = l.line

  -- the answered lines are as many as the effects, and each as often
  pub record AreAnswered (es : List Entry) : Type 0 where
    pub as_many : length (answered_lines lines es) ≡ effects es
    pub each : Each (λ (l : Line). line_at lines l.line ≡ Some l) (answered_lines lines es)
    pub often : (m : ℕ) → 0 < m → keyed (λ (l : Line). l.line) m (answered_lines lines es) ≡ effects_of m es

  pub are_answered : (es : List Entry) → Each (IsFound lines) es → AreAnswered es
  are_answered [] found = record { as_many = refl; each = tt; often = λ m some. refl }
  are_answered (e ∷ es) found = go (are_answered es found.1) (zero_or e.line)
    where
      go : AreAnswered es → (e.line ≡ 0) ⊎ (0 < e.line) → AreAnswered (e ∷ es)
      go r (inl none) =
          let same = no_effect e es none in
          let b : cond {A = ℕ} (is_effect e) 1 0 ≡ 0 = ap (λ (t : Bool). cond {A = ℕ} (not t) 1 0) (eq-eqb e.line 0 none) in
          record {
            as_many = (let c = effects_cons e es in let d = r.as_many in let f : length (answered_lines lines (e ∷ es)) ≡ length (answered_lines lines es) = ap length same in omega arith);
            each = subst (Each (λ (l : Line). line_at lines l.line ≡ Some l)) (sym same) r.each;
            often = λ m some.
                let c = of_cons m e es in
                let d : cond {A = ℕ} (e.line == m) 1 0 ≡ 0 = ap (λ (t : Bool). cond {A = ℕ} t 1 0) (ne_eqb e.line m (λ z. omega arith)) in
                let f = r.often m some in
                let g : keyed (λ (l : Line). l.line) m (answered_lines lines (e ∷ es)) ≡ keyed (λ (l : Line). l.line) m (answered_lines lines es) = ap (keyed (λ (l : Line). l.line) m) same in
                omega arith;
          }
      go r (inr some) = one (found.0 some)
        where
          one : (l : Line) × (line_at lines e.line ≡ Some l) → AreAnswered (e ∷ es)
          one x =
              let l = x.0 in
              let same = one_effect e es l some x.1 in
              let number : l.line ≡ e.line = (found_number lines e.line l x.1).0 in
              let b : cond {A = ℕ} (is_effect e) 1 0 ≡ 1 = ap (λ (t : Bool). cond {A = ℕ} (not t) 1 0) (ne_eqb e.line 0 (λ z. omega arith)) in
              record {
                as_many = (let c = effects_cons e es in let d = r.as_many in let f : length (answered_lines lines (e ∷ es)) ≡ suc (length (answered_lines lines es)) = ap length same in omega arith);
                each = subst (Each (λ (k : Line). line_at lines k.line ≡ Some k)) (sym same) (ap (line_at lines) number ∙ x.1, r.each);
                often = λ m some_m.
                    let c = of_cons m e es in
                    let f = r.often m some_m in
                    let g : keyed (λ (k : Line). k.line) m (answered_lines lines (e ∷ es)) ≡ keyed (λ (k : Line). k.line) m (l ∷ answered_lines lines es) = ap (keyed (λ (k : Line). k.line) m) same in
                    let h = keyed_cons (λ (k : Line). k.line) m l (answered_lines lines es) in
                    let k : cond {A = ℕ} (l.line == m) 1 0 ≡ cond {A = ℕ} (e.line == m) 1 0 = ap (λ n. cond {A = ℕ} (n == m) 1 0) number in
                    omega arith;
              }

  -- where the answered line at an index stands in the history
  pub record StandsAt (history : List Passed) (i : ℕ) (l : Line) : Type 0 where
    pub before : List Passed
    pub entry : Passed
    pub after : List Passed
    pub split : before ++ entry ∷ after ≡ history
    pub index : length (answered_lines lines (entries before)) ≡ i
    pub some : 0 < entry.entry.line
    pub found : line_at lines entry.entry.line ≡ Some l

  pub stands_at_index : (history : List Passed) → Each (IsFound lines) (entries history) → (i : ℕ) (l : Line) → slice_get (answered_lines lines (entries history)) i ≡ Some l → StandsAt history i l
  stands_at_index [] found i l e = absurd (cc e)
  stands_at_index (p ∷ ps) found i l e = go (λ n f. stands_at_index ps found.1 n l f) (zero_or p.entry.line)
    where
      later : (k j : ℕ) → ((xs : List Passed) → length (answered_lines lines (entries (p ∷ xs))) ≡ k + length (answered_lines lines (entries xs))) → k + j ≡ i → StandsAt ps j l → StandsAt (p ∷ ps) i l
      later k j more at s = record {
        before = p ∷ s.before;
        entry = s.entry;
        after = s.after;
        split = ap (λ z. p ∷ z) s.split;
        index = (let a = more s.before in let b = s.index in omega arith);
        some = s.some;
        found = s.found;
      }

      go : ((n : ℕ) → slice_get (answered_lines lines (entries ps)) n ≡ Some l → StandsAt ps n l) → (p.entry.line ≡ 0) ⊎ (0 < p.entry.line) → StandsAt (p ∷ ps) i l
      go again (inl none) =
          let h : slice_get (answered_lines lines (entries ps)) i ≡ Some l = ap (λ xs. slice_get xs i) (sym (no_effect p.entry (entries ps) none)) ∙ e in
          later 0 i (λ xs. let a : length (answered_lines lines (entries (p ∷ xs))) ≡ length (answered_lines lines (entries xs)) = ap length (no_effect p.entry (entries xs) none) in omega arith) (omega arith) (again i h)
      go again (inr some) = one (found.0 some)
        where
          one : (k : Line) × (line_at lines p.entry.line ≡ Some k) → StandsAt (p ∷ ps) i l
          one x = pick i e refl
            where
              pick : (n : ℕ) → slice_get (answered_lines lines (entries (p ∷ ps))) n ≡ Some l → i ≡ n → StandsAt (p ∷ ps) i l
              pick zero f at =
                  let h : Some x.0 ≡ Some l = ap (λ xs. slice_get xs 0) (sym (one_effect p.entry (entries ps) x.0 some x.1)) ∙ f in
                  record { before = []; entry = p; after = ps; split = refl; index = sym at; some = some; found = x.1 ∙ h }
              pick (suc n) f at =
                  let h : slice_get (answered_lines lines (entries ps)) n ≡ Some l = ap (λ xs. slice_get xs (suc n)) (sym (one_effect p.entry (entries ps) x.0 some x.1)) ∙ f in
                  later 1 n (λ xs. let a : length (answered_lines lines (entries (p ∷ xs))) ≡ suc (length (answered_lines lines (entries xs))) = ap length (one_effect p.entry (entries xs) x.0 some x.1) in omega arith) (omega arith)
                  (again n h)

-- ---- the entries of one seat stand in the history

pub record IsFrom (number : ℕ) (history : List Passed) (entry : Entry) : Type 0 where
  pub before : List Passed
  pub one : Passed
  pub after : List Passed
  pub split : before ++ one ∷ after ≡ history
  pub entry_is : one.entry ≡ entry

pub is_from : (n : ℕ) (history : List Passed) (xs ys : List Entry) (entry : Entry) → entries_of n history ≡ xs ++ entry ∷ ys → IsFrom n history entry
is_from n [] [] ys entry e = absurd (cc e)
is_from n [] (x ∷ xs) ys entry e = absurd (cc e)
is_from n (p ∷ ps) xs ys entry e = go (λ zs f. is_from n ps zs ys entry f) (p.seat == n) xs e
  where
    later : IsFrom n ps entry → IsFrom n (p ∷ ps) entry
    later h = record { before = p ∷ h.before; one = h.one; after = h.after; split = ap (λ z. p ∷ z) h.split; entry_is = h.entry_is }

    go : ((zs : List Entry) → entries_of n ps ≡ zs ++ entry ∷ ys → IsFrom n ps entry) → (b : Bool) (zs : List Entry) → entries (cond b (p ∷ by_seat n ps) (by_seat n ps)) ≡ zs ++ entry ∷ ys → IsFrom n (p ∷ ps) entry
    go again true [] f = record { before = []; one = p; after = ps; split = refl; entry_is = cc f }
    go again true (z ∷ zs) f = let t : entries_of n ps ≡ zs ++ entry ∷ ys = cc f in later (again zs t)
    go again false zs f = later (again zs f)
