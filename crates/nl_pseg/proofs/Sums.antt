-- Sums over blocks and pairs.
use Rattle.std.proofs.Common.{◌≡◌, ⊎_elim, ℕ, suc, ◌+◌, ◌*◌, ◌/◌, ◌<◌, ◌≤◌, ◌==◌, nat_le, Bool, true, false, cond, Option, List, [], ◌∷◌, length, get_or, map, count_by, sum_by, refl, sym, ◌∙◌, ap, subst, arith, eq-eqb, ne_eqb}
use Rattle.std.proofs.lemmas.Bool.{cases_eq, cases_Bool, le-leb, leb-true, true≢false}
use Rattle.std.proofs.lemmas.List.Sums.{sum_by-cons}
use Rattle.nl_blocks.specs.declared.states.BlockState.{BlockState}
use Rattle.nl_blocks.specs.declared.states.BlockState.TheVariants as the
use Rattle.nl_blocks.specs.Table.{BlockRow, dead_count, is_free, is_free_state, is_retired_state, is_sealed_state, row_at}
use Rattle.nl_remap.specs.declared.links.Link.{Link}
use Rattle.nl_pseg_names.specs.OldNames.{names_among}
use Rattle.nl_pseg.specs.Seen.{row_of}
use Rattle.nl_pseg_blocks.specs.Uses.{is_kept_state, use_of}
use Rattle.nl_pseg.specs.declared.held.Held.{Held}
use Rattle.nl_pseg.proofs.Gone.{waits}
use Rattle.nl_pseg.proofs.Runs.{run, run_plus}

abbrev num : Bool → ℕ
num b = cond b 1 0

abbrev pub is_active : BlockState → Bool
is_active the.Free = false
is_active the.Active = true
is_active the.Target = false
is_active the.Sealed = false
is_active the.Victim = false
is_active (the.Retired names) = false

abbrev pub is_target : BlockState → Bool
is_target the.Free = false
is_target the.Active = false
is_target the.Target = true
is_target the.Sealed = false
is_target the.Victim = false
is_target (the.Retired names) = false

pub active_is : (state : BlockState) → is_active state ≡ true → state ≡ the.Active
active_is the.Free is = absurd (true≢false (sym is))
active_is the.Active is = refl
active_is the.Target is = absurd (true≢false (sym is))
active_is the.Sealed is = absurd (true≢false (sym is))
active_is the.Victim is = absurd (true≢false (sym is))
active_is (the.Retired names) is = absurd (true≢false (sym is))

pub target_is : (state : BlockState) → is_target state ≡ true → state ≡ the.Target
target_is the.Free is = absurd (true≢false (sym is))
target_is the.Active is = absurd (true≢false (sym is))
target_is the.Target is = refl
target_is the.Sealed is = absurd (true≢false (sym is))
target_is the.Victim is = absurd (true≢false (sym is))
target_is (the.Retired names) is = absurd (true≢false (sym is))

-- where at most one place passes, at most one is counted
pub none_of : {X : Type 0} (p : X → Bool) (xs : List X) (d : X) → ((i : ℕ) → i < length xs → p (get_or xs i d) ≡ true → ⊥) → count_by p xs ≡ 0
none_of p [] d none = refl
none_of p (x ∷ xs) d none =
    let e : count_by p (x ∷ xs) ≡ num (p x) + count_by p xs = sum_by-cons (λ y. num (p y)) x xs in
    let rest = none_of p xs d (λ i less. none (suc i) (omega (arith, less))) in
    let here : num (p x) ≡ 0 = ⊎_elim (λ yes. absurd (none 0 (omega arith) yes)) (λ no. ap num no) (cases_Bool (p x)) in
    omega (arith, e, rest, here)

pub one_of : {X : Type 0} (p : X → Bool) (xs : List X) (d : X) (c b : ℕ) → ((i : ℕ) → i < length xs → p (get_or xs i d) ≡ true → b + i ≡ c) → count_by p xs ≤ 1
one_of p [] d c b only = omega arith
one_of p (x ∷ xs) d c b only =
    let e : count_by p (x ∷ xs) ≡ num (p x) + count_by p xs = sum_by-cons (λ y. num (p y)) x xs in
    ⊎_elim
    (λ yes.
    let at = only 0 (omega arith) yes in
    let rest = none_of p xs d (λ i less is. let w = only (suc i) (omega (arith, less)) is in omega (arith, at, w)) in
    let here : num (p x) ≡ 1 = ap num yes in
    omega (arith, e, rest, here))
    (λ no.
    let rest = one_of p xs d c (suc b) (λ i less is. let w = only (suc i) (omega (arith, less)) is in omega (arith, w)) in
    let here : num (p x) ≡ 0 = ap num no in
    omega (arith, e, rest, here))
    (cases_Bool (p x))

pub some_of : {X : Type 0} (p : X → Bool) (xs : List X) (d : X) → 1 ≤ count_by p xs → (i : ℕ) × (i < length xs) × (p (get_or xs i d) ≡ true)
some_of p [] d some = absurd (omega (arith, some))
some_of p (x ∷ xs) d some =
    let e : count_by p (x ∷ xs) ≡ num (p x) + count_by p xs = sum_by-cons (λ y. num (p y)) x xs in
    ⊎_elim
    (λ yes. (0, omega arith, yes))
    (λ no.
    let here : num (p x) ≡ 0 = ap num no in
    let rest = some_of p xs d (omega (arith, some, e, here)) in
    (suc rest.0, omega (arith, rest.1), rest.2))
    (cases_Bool (p x))

split_one : (b q : ℕ) → num (q == b) + num (nat_le (suc b) q) ≡ num (nat_le b q)
split_one b q = ⊎_elim
    (λ e.
    let yes : num (q == b) ≡ 1 = ap num (eq-eqb q b e) in
    let from : num (nat_le b q) ≡ 1 = ap num (le-leb b q (omega (arith, e))) in
    let no : num (nat_le (suc b) q) ≡ 0 = ⊎_elim (λ is. absurd (let w = leb-true (suc b) q is in omega (arith, w, e))) (λ is. ap num is) (cases_Bool (nat_le (suc b) q)) in
    omega (arith, yes, from, no))
    (λ ne.
    let other : num (q == b) ≡ 0 = ap num (ne_eqb q b ne) in
    ⊎_elim
    (λ is.
    let w = leb-true b q is in
    let from : num (nat_le b q) ≡ 1 = ap num is in
    let more : num (nat_le (suc b) q) ≡ 1 = ap num (le-leb (suc b) q (omega (arith, w, ne))) in
    omega (arith, other, from, more))
    (λ is.
    let before : num (nat_le b q) ≡ 0 = ap num is in
    let no : num (nat_le (suc b) q) ≡ 0 = ⊎_elim (λ yes. absurd (let w = leb-true (suc b) q yes in true≢false (sym (le-leb b q (omega (arith, w))) ∙ is))) (λ k. ap num k) (cases_Bool (nat_le (suc b) q)) in
    omega (arith, other, before, no))
    (cases_Bool (nat_le b q)))
    (cases_eq q b)

split : (size b : ℕ) (pairs : List Link) → names_among size b pairs + count_by (λ (p : Link). nat_le (suc b) (p.from / size)) pairs ≡ count_by (λ (p : Link). nat_le b (p.from / size)) pairs
split size b [] = refl
split size b (x ∷ xs) =
    let a : names_among size b (x ∷ xs) ≡ num (x.from / size == b) + names_among size b xs = sum_by-cons (λ (p : Link). num (p.from / size == b)) x xs in
    let c : count_by (λ (p : Link). nat_le (suc b) (p.from / size)) (x ∷ xs) ≡ num (nat_le (suc b) (x.from / size)) + count_by (λ (p : Link). nat_le (suc b) (p.from / size)) xs = sum_by-cons (λ (p : Link). num (nat_le (suc b) (p.from / size))) x xs in
    let d : count_by (λ (p : Link). nat_le b (p.from / size)) (x ∷ xs) ≡ num (nat_le b (x.from / size)) + count_by (λ (p : Link). nat_le b (p.from / size)) xs = sum_by-cons (λ (p : Link). num (nat_le b (p.from / size))) x xs in
    let here = split_one b (x.from / size) in
    let rest = split size b xs in
    omega (arith, a, c, d, here, rest)

pub waits_few : (size : ℕ) (pairs : List Link) (rows : List BlockRow) (b : ℕ) → ((i : ℕ) → i < length rows → is_retired_state (row_at rows i).state ≡ true → 0 < names_among size (b + i) pairs)
    → count_by waits (map use_of rows) ≤ count_by (λ (p : Link). nat_le b (p.from / size)) pairs
waits_few size pairs [] b some = omega arith
waits_few size pairs (row ∷ rows) b some =
    let e : count_by waits (map use_of (row ∷ rows)) ≡ num (waits (use_of row)) + count_by waits (map use_of rows) = sum_by-cons (λ u. num (waits u)) (use_of row) (map use_of rows) in
    let rest = waits_few size pairs rows (suc b) (λ i less is. subst (λ k. 0 < names_among size k pairs) (omega arith) (some (suc i) (omega (arith, less)) is)) in
    let whole = split size b pairs in
    let here : num (waits (use_of row)) ≤ names_among size b pairs = of row.state (λ is. subst (λ k. 0 < names_among size k pairs) (omega arith) (some 0 (omega arith) is)) in
    omega (arith, e, rest, whole, here)
  where
    of : (state : BlockState) → (is_retired_state state ≡ true → 0 < names_among size b pairs) → num (waits (record { is_free = is_free_state state; is_kept = is_kept_state state; wear = 0 })) ≤ names_among size b pairs
    of the.Free is = omega arith
    of the.Active is = omega arith
    of the.Target is = omega arith
    of the.Sealed is = omega arith
    of the.Victim is = omega arith
    of (the.Retired names) is = let w = is refl in omega (arith, w)

-- the pages of blocks, as they are live, can be gained, or stand in blocks that are not Sealed
covers : (state : BlockState) (dead live size : ℕ) → dead + live ≡ size → is_retired_state state ≡ false → (state ≡ the.Victim → ⊥)
    → size ≤ live + cond (is_sealed_state state) dead 0 + (num (is_free_state state) + num (is_active state) + num (is_target state)) * size
covers the.Free dead live size sum r v = omega (arith, sum)
covers the.Active dead live size sum r v = omega (arith, sum)
covers the.Target dead live size sum r v = omega (arith, sum)
covers the.Sealed dead live size sum r v = omega (arith, sum)
covers the.Victim dead live size sum r v = absurd (v refl)
covers (the.Retired names) dead live size sum r v = absurd (true≢false r)

module _ (held : List (Option Held)) (size : ℕ) where
  pub all_covered : (rows : List BlockRow) (b : ℕ) → ((i : ℕ) → i < length rows → (dead_count (row_at rows i) + run held ((b + i) * size) size ≡ size) × (is_retired_state (row_at rows i).state ≡ false) × ((row_at rows i).state ≡ the.Victim → ⊥))
      → length rows * size ≤ run held (b * size) (length rows * size) + sum_by (λ row. cond (is_sealed_state row.state) row.dead 0) (map row_of rows)
      + (count_by is_free rows + count_by (λ (r : BlockRow). is_active r.state) rows + count_by (λ (r : BlockRow). is_target r.state) rows) * size
  all_covered [] b each = omega arith
  all_covered (row ∷ rows) b each =
      let h = each 0 (omega arith) in
      let first : (b + 0) * size ≡ b * size = omega arith in
      let sum : dead_count row + run held (b * size) size ≡ size = subst (λ k. dead_count row + run held k size ≡ size) first h.0 in
      let here = covers row.state (dead_count row) (run held (b * size) size) size sum h.1 h.2 in
      let rest = all_covered rows (suc b) (λ i less.
      let w = each (suc i) (omega (arith, less)) in
      let at : (b + suc i) * size ≡ (suc b + i) * size = omega arith in
      (subst (λ k. dead_count (row_at rows i) + run held k size ≡ size) at w.0, w.1, w.2)) in
      let e : sum_by (λ r. cond (is_sealed_state r.state) r.dead 0) (map row_of (row ∷ rows)) ≡ cond (is_sealed_state row.state) (dead_count row) 0 + sum_by (λ r. cond (is_sealed_state r.state) r.dead 0) (map row_of rows)
      = sum_by-cons (λ r. cond (is_sealed_state r.state) r.dead 0) (row_of row) (map row_of rows) in
      let f : count_by is_free (row ∷ rows) ≡ num (is_free_state row.state) + count_by is_free rows = sum_by-cons (λ r. num (is_free r)) row rows in
      let g : count_by (λ (r : BlockRow). is_active r.state) (row ∷ rows) ≡ num (is_active row.state) + count_by (λ (r : BlockRow). is_active r.state) rows = sum_by-cons (λ (r : BlockRow). num (is_active r.state)) row rows in
      let t : count_by (λ (r : BlockRow). is_target r.state) (row ∷ rows) ≡ num (is_target row.state) + count_by (λ (r : BlockRow). is_target r.state) rows = sum_by-cons (λ (r : BlockRow). num (is_target r.state)) row rows in
      let n : length (row ∷ rows) * size ≡ size + length rows * size = omega arith in
      let r : run held (b * size) (length (row ∷ rows) * size) ≡ run held (b * size) size + run held (b * size + size) (length rows * size) = ap (run held (b * size)) n ∙ run_plus held (b * size) size (length rows * size) in
      let next : run held (b * size + size) (length rows * size) ≡ run held (suc b * size) (length rows * size) = ap (λ k. run held k (length rows * size)) (omega arith) in
      add (count_by is_free (row ∷ rows)) (count_by (λ (r : BlockRow). is_active r.state) (row ∷ rows)) (count_by (λ (r : BlockRow). is_target r.state) (row ∷ rows))
      (num (is_free_state row.state)) (num (is_active row.state)) (num (is_target row.state))
      (count_by is_free rows) (count_by (λ (r : BlockRow). is_active r.state) rows) (count_by (λ (r : BlockRow). is_target r.state) rows) _ _ _ _ _ _ _ _ f g t n (r ∙ ap (λ k. run held (b * size) size + k) next) e here rest
    where
      add : (fa ga ta fh gh th fr gr rt whole some all l m sealed d q : ℕ) → fa ≡ fh + fr → ga ≡ gh + gr → ta ≡ th + rt → whole ≡ size + some → all ≡ l + m → sealed ≡ d + q
          → size ≤ l + d + (fh + gh + th) * size → some ≤ m + q + (fr + gr + rt) * size → whole ≤ all + sealed + (fa + ga + ta) * size
      add fa ga ta fh gh th fr gr rt whole some all l m sealed d q f g t w a s here rest =
          let k : fa + ga + ta ≡ (fh + gh + th) + (fr + gr + rt) = omega (arith, f, g, t) in
          let spread : ((fh + gh + th) + (fr + gr + rt)) * size ≡ (fh + gh + th) * size + (fr + gr + rt) * size = omega arith in
          let e : (fa + ga + ta) * size ≡ (fh + gh + th) * size + (fr + gr + rt) * size = ap (λ n. n * size) k ∙ spread in
          omega (arith, w, a, s, here, rest, e)
