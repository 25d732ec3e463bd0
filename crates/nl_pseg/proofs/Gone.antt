-- What is seen of a segment as names are gone.
use Rattle.std.proofs.Common.{◌≡◌, ⊎_elim, ℕ, zero, suc, ◌+◌, ◌-◌, ◌*◌, ◌<◌, ◌≤◌, ◌&&◌, not, cond, count_by, Bool, true, false, List, [], ◌∷◌, Contains, length, map, get_or, refl, sym, ◌∙◌, ap, subst, arith}
use Rattle.std.proofs.lemmas.Bool.{cases_Bool, true≢false}
use Rattle.std.proofs.lemmas.List.{get_or-map, length-map}
use Rattle.std.proofs.lemmas.List.Sums.{sum_by-cons}
use Rattle.nl_blocks.specs.declared.states.BlockState.{BlockState}
use Rattle.nl_blocks.specs.declared.states.BlockState.TheVariants as the
use Rattle.nl_blocks.specs.Table.{BlockRow, Table, is_free, is_free_state}
use Rattle.nl_remap.specs.Links.{link_at, no_link}
use Rattle.nl_remap.specs.Table.{IsOld, told}
use Rattle.nl_remap.specs.declared.links.Link.{Link}
use Rattle.nl_pseg_names.specs.OldNames.{NameTable}
use Rattle.nl_pseg.specs.Seen.{seen}
use Rattle.nl_pseg.specs.Steps.{NamesGoneFromSegment}
use Rattle.nl_pseg_blocks.specs.Uses.{Use, no_use, is_kept_state, use_in, use_of, SameNumbers}
use Rattle.nl_pseg.specs.Kept.{Kept}
use Rattle.nl_pseg_blocks.proofs.Tables.{free_kept, use_from}

abbrev num : Bool → ℕ
num b = cond b 1 0

abbrev pub kept : Use → Bool
kept u = u.is_kept

abbrev pub waits : Use → Bool
waits u = u.is_kept && not u.is_free

-- a block is Free, or waits, or is neither
three : (state : BlockState) → num (is_free_state state) + num (is_kept_state state && not (is_free_state state)) ≡ num (is_kept_state state)
three the.Free = refl
three the.Active = refl
three the.Target = refl
three the.Sealed = refl
three the.Victim = refl
three (the.Retired names) = refl

pub all_kept : (rows : List BlockRow) → count_by is_free rows + count_by waits (map use_of rows) ≡ count_by kept (map use_of rows)
all_kept [] = refl
all_kept (row ∷ rows) =
    let a : count_by is_free (row ∷ rows) ≡ num (is_free row) + count_by is_free rows = sum_by-cons (λ r. num (is_free r)) row rows in
    let b : count_by waits (map use_of (row ∷ rows)) ≡ num (waits (use_of row)) + count_by waits (map use_of rows) = sum_by-cons (λ u. num (waits u)) (use_of row) (map use_of rows) in
    let d : count_by kept (map use_of (row ∷ rows)) ≡ num (kept (use_of row)) + count_by kept (map use_of rows) = sum_by-cons (λ u. num (kept u)) (use_of row) (map use_of rows) in
    let here : num (is_free row) + num (waits (use_of row)) ≡ num (kept (use_of row)) = three row.state in
    let rest = all_kept rows in
    omega (arith, a, b, d, here, rest)

kept_count : (xs ys : List Use) → length xs ≡ length ys → ((i : ℕ) → i < length ys → (get_or xs i no_use).is_kept ≡ (get_or ys i no_use).is_kept) → count_by kept xs ≡ count_by kept ys
kept_count [] [] size same = refl
kept_count [] (y ∷ ys) size same = absurd (omega (arith, size))
kept_count (x ∷ xs) [] size same = absurd (omega (arith, size))
kept_count (x ∷ xs) (y ∷ ys) size same =
    let a : count_by kept (x ∷ xs) ≡ num (kept x) + count_by kept xs = sum_by-cons (λ u. num (kept u)) x xs in
    let b : count_by kept (y ∷ ys) ≡ num (kept y) + count_by kept ys = sum_by-cons (λ u. num (kept u)) y ys in
    let here : num (kept x) ≡ num (kept y) = ap num (same zero (omega arith)) in
    let rest = kept_count xs ys (omega (arith, size)) (λ i less. same (suc i) (omega (arith, less))) in
    omega (arith, a, b, here, rest)

more_free : (xs ys : List BlockRow) → length xs ≡ length ys → ((i : ℕ) → i < length ys → (get_or (map use_of ys) i no_use).is_free ≡ true → (get_or (map use_of xs) i no_use).is_free ≡ true) → count_by is_free ys ≤ count_by is_free xs
more_free [] [] size more = omega arith
more_free [] (y ∷ ys) size more = absurd (omega (arith, size))
more_free (x ∷ xs) [] size more = absurd (omega (arith, size))
more_free (x ∷ xs) (y ∷ ys) size more =
    let a : count_by is_free (x ∷ xs) ≡ num (is_free x) + count_by is_free xs = sum_by-cons (λ r. num (is_free r)) x xs in
    let b : count_by is_free (y ∷ ys) ≡ num (is_free y) + count_by is_free ys = sum_by-cons (λ r. num (is_free r)) y ys in
    let here = le_num (is_free y) (is_free x) (more zero (omega arith)) in
    let rest = more_free xs ys (omega (arith, size)) (λ i less. more (suc i) (omega (arith, less))) in
    omega (arith, a, b, here, rest)
  where
    le_num : (p q : Bool) → (p ≡ true → q ≡ true) → num p ≤ num q
    le_num true q imp = let e = ap num (imp refl) in omega (arith, e)
    le_num false q imp = omega arith

pub told_old : (ps : List Link) (m : ℕ) → ((target : ℕ) × Contains (told ps) (m, target)) → IsOld ps m
told_old ps m old =
    let turn : Link → ℕ × ℕ = λ p. (p.from, p.to) in
    let within : old.1.0 < length ps = subst (λ k. old.1.0 < k) (length-map ps turn) old.1.1 in
    let e : turn (link_at ps old.1.0) ≡ (m, old.0) = sym (get_or-map turn ps old.1.0 no_link (m, old.0) within) ∙ old.1.2 in
    (old.1.0, within, ap (λ (p : ℕ × ℕ). p.0) e)

pub old_told : (ps : List Link) (m : ℕ) → IsOld ps m → (target : ℕ) × Contains (told ps) (m, target)
old_told ps m old =
    let turn : Link → ℕ × ℕ = λ p. (p.from, p.to) in
    let to : ℕ = (link_at ps old.0).to in
    (to, (old.0, subst (λ k. old.0 < k) (sym (length-map ps turn)) old.1, get_or-map turn ps old.0 no_link (m, to) old.1 ∙ (λ i. (old.2 i, to))))

module _ (s : Kept) (t : Table) (names : NameTable) (n : SameNumbers s.blocks t) (keeps : (b : ℕ) → (use_in t b).is_kept ≡ (use_in s.blocks b).is_kept) (wears : (b : ℕ) → (use_in t b).wear ≡ (use_in s.blocks b).wear)
    (frees : (b : ℕ) → (use_in s.blocks b).is_free ≡ true → (use_in t b).is_free ≡ true) (olds : (m : ℕ) → IsOld names.pairs m → IsOld s.names.pairs m) (fewer : length names.pairs ≤ length s.names.pairs) where
  at : (u : Table) (i : ℕ) → use_in u (u.first + i) ≡ get_or (map use_of u.blocks) i no_use
  at u i = use_from u.first (map use_of u.blocks) (u.first + i) (omega arith) ∙ ap (λ k. get_or (map use_of u.blocks) k no_use) (omega arith)

  here : (i : ℕ) → use_in t (s.blocks.first + i) ≡ get_or (map use_of t.blocks) i no_use
  here i = ap (λ k. use_in t (k + i)) (sym n.same_first) ∙ at t i

  not_free : (b : ℕ) → (use_in s.blocks b).is_kept ≡ false → (use_in t b).is_free ≡ false
  not_free b used = ⊎_elim (λ free. absurd (true≢false (sym (free_kept t b free) ∙ (keeps b ∙ used)))) (λ is. is) (cases_Bool (use_in t b).is_free)

  pub gone_names : NamesGoneFromSegment (seen s) (seen (record s { blocks = t; names = names }))
  gone_names = record {
    range = record { range_first = n.same_first; range_blocks = λ i. n.same_first i + n.same_count i; range_size = n.same_size };
    next = (λ i. s.active * n.same_size i + s.used, λ i. n.same_size i - s.used);
    copies = (λ i. s.target * n.same_size i + s.filled, λ i. n.same_size i - s.filled);
    victim = refl;
    same_soiled = λ b. refl;
    kept = keeps;
    wears = wears;
    frees = frees;
    others = not_free;
    more = more_free t.blocks s.blocks.blocks n.same_count (λ i less free.
        sym (ap (λ (u : Use). u.is_free) (here i)) ∙ frees (s.blocks.first + i) (ap (λ (u : Use). u.is_free) (at s.blocks i) ∙ free));
    blocks = all_kept t.blocks
        ∙ (kept_count (map use_of t.blocks) (map use_of s.blocks.blocks) (length-map t.blocks use_of ∙ (n.same_count ∙ sym (length-map s.blocks.blocks use_of)))
        (λ i less. sym (ap (λ (u : Use). u.is_kept) (here i)) ∙ (keeps (s.blocks.first + i) ∙ ap (λ (u : Use). u.is_kept) (at s.blocks i)))
        ∙ sym (all_kept s.blocks.blocks));
    gone = λ m old. old_told s.names.pairs m (olds m (told_old names.pairs m old));
    fewer =
        let turn : Link → ℕ × ℕ = λ p. (p.from, p.to) in
        let a : length (map turn names.pairs) ≡ length names.pairs = length-map names.pairs turn in
        let b : length (map turn s.names.pairs) ≡ length s.names.pairs = length-map s.names.pairs turn in
        omega (arith, a, b, fewer);
  }
