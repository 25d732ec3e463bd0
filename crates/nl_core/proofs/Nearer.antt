-- Each round of reclaiming brings a page nearer, in numbers of the space.
use Rattle.std.proofs.Common.{◌≡◌, inl, inr, ⊎_elim, ℕ, ◌+◌, ◌-◌, ◌*◌, ◌<◌, ◌≤◌, refl, sym, ap, subst, ◌∙◌, arith}
use Rattle.std.specs.Prelude.{min}
use Rattle.std.proofs.lemmas.Bool.{cases_lt}
use Rattle.std.proofs.lemmas.Nat.{mul-le}
use Rattle.std.proofs.Math.Nat.{le_of_mul-le-mul_right}
use Rattle.nl_field.specs.Numbers.{ShapeBounds}
use Rattle.nl_field.specs.declared.answers.Named.{Named}
use Rattle.nl_field.specs.declared.answers.Named.TheVariants as named
use Rattle.nl_field.specs.declared.shape.Shape.{Shape}
use Rattle.nl_iface.proofs.RoundSteps.{rounds_end}
use Rattle.nl_iface.specs.Names.{IsNames, Names}
use Rattle.nl_iface.specs.Rounds.{Cleans, GainsByPass, HasFreed, IsReclaimPass, MovesSomePages}
use Rattle.nl_iface.specs.Space.{Erased, IsSpace, Space}

-- so many pages within reach at most, while no block is Free beyond those that are kept
abbrev pub most_reach : Space → ℕ
most_reach s = (s.keep + 2) * s.block

-- a victim is in hand, or more than one block waits: one round ends that
abbrev pub unsettled : Space → ℕ
unsettled s = min 1 (s.victim + (s.waiting - 1))

abbrev pub rounds_left : Space → ℕ
rounds_left s = (most_reach s + 1 - s.reach) + unsettled s

abbrev pub tries_left : Named → Space → ℕ
tries_left named.NoPage s = 1 + rounds_left s
tries_left named.NotLive s = 0
tries_left named.Fault s = 0
tries_left (named.Placed at) s = 0

-- ---- what a round leaves

pub record KeepsBlocks (s t : Space) : Type 0 where
  pub block : t.block ≡ s.block
  pub bad : t.bad ≡ s.bad
  pub keep : t.keep ≡ s.keep
  pub reach : s.reach ≤ t.reach

blocks_then : (r s t : Space) → KeepsBlocks r s → KeepsBlocks s t → KeepsBlocks r t
blocks_then r s t a b = record { block = b.block ∙ a.block; bad = b.bad ∙ a.bad; keep = b.keep ∙ a.keep; reach = let one = a.reach in let two = b.reach in omega (arith, one, two) }

blocks_same : (s t : Space) → t ≡ s → KeepsBlocks s t
blocks_same s t same = record {
  block = ap (λ (x : Space). x.block) same;
  bad = ap (λ (x : Space). x.bad) same;
  keep = ap (λ (x : Space). x.keep) same;
  reach = let e = ap (λ (x : Space). x.reach) same in omega (arith, e);
}

moves_keep : (s t : Space) → MovesSomePages s t → KeepsBlocks s t
moves_keep s t m = record { block = m.same.block; bad = m.bad; keep = let kept = m.same.kept in let bad = m.bad in omega (arith, kept, bad); reach = m.reach }

erased_keeps : (s t : Space) → Erased s t → KeepsBlocks s t
erased_keeps s t e = record { block = e.same.block; bad = e.bad; keep = let kept = e.same.kept in let bad = e.bad in omega (arith, kept, bad); reach = let same = e.reach in omega (arith, same) }

cleans_keep : (s t : Space) → Cleans s t → KeepsBlocks s t
cleans_keep s t (inl did) = blocks_then s did.0 t (⊎_elim (λ same. blocks_same s did.0 same) (λ moves. moves_keep s did.0 moves) did.1) (erased_keeps did.0 t did.2)
cleans_keep s t (inr none) = blocks_same s t none.2

pub round_keeps : (s t : Space) → IsReclaimPass s t → KeepsBlocks s t
round_keeps s t r =
    let e = r.empties in
    blocks_then s r.emptied t
    (record { block = e.same.block; bad = e.bad; keep = let kept = e.same.kept in let bad = e.bad in omega (arith, kept, bad); reach = e.reach })
    (cleans_keep r.emptied t r.cleans)

-- ---- it brings a page nearer

-- with a Free block more than are kept there is room
pub no_freed : (s : Space) → IsSpace s → 1 ≤ s.block → s.room ≡ 0 → HasFreed s → ⊥
no_freed s is some none freed =
    let one : 1 ≤ s.free - s.keep = omega (arith, freed) in
    let more = mul-le 1 1 (s.free - s.keep) s.block one some in
    let low = is.room in
    let off : ⊥ = omega (arith, more, low, none) in
    off

most_same : (s t : Space) → KeepsBlocks s t → most_reach t ≡ most_reach s
most_same s t k = ap (λ n. (n + 2) * t.block) k.keep ∙ ap (λ n. (s.keep + 2) * n) k.block

pub nearer : (s t : Space) → IsSpace s → IsSpace t → KeepsBlocks s t → 1 ≤ s.block → s.room ≡ 0 → t.room ≡ 0 → t.victim ≡ 0 → t.waiting ≤ 1 → GainsByPass s t → rounds_left t < rounds_left s
nearer s t is_s is_t k some none_s none_t victim waiting gains =
    let same = most_same s t k in
    let reach = k.reach in
    let settled : unsettled t ≡ 0 = omega (arith, victim, waiting) in
    ⊎_elim
    (λ freed. absurd (no_freed t is_t (let block = k.block in omega (arith, some, block)) none_t freed))
    (λ others. ⊎_elim
    (λ hand. let busy : unsettled s ≡ 1 = omega (arith, hand) in omega (arith, same, reach, settled, busy))
    (λ more. ⊎_elim
    (λ low. omega (arith, same, more, settled, low))
    (λ high. ⊎_elim
    (λ free. ⊎_elim
    (λ few. absurd (no_freed s is_s some none_s (rounds_end.free s is_s (omega (arith, free)) (omega (arith, few)) high)))
    (λ many. let busy : unsettled s ≡ 1 = omega (arith, many) in omega (arith, same, more, settled, busy, high))
    (cases_lt s.waiting 2))
    (λ hand. let busy : unsettled s ≡ 1 = omega (arith, hand) in omega (arith, same, more, settled, busy, high))
    (cases_lt s.victim 1))
    (cases_lt s.reach (most_reach s + 1)))
    others)
    gains

-- ---- and it is near: one block is kept

pub one_kept : (shape : Shape) (next : ℕ) (names : Names) → ShapeBounds shape → IsNames shape next names → names.space.all ≡ shape.cap + (names.space.keep + names.space.bad + 3) * names.space.block + 160 → names.space.keep ≤ 1
one_kept shape next names b is all =
    let s = names.space in
    let block = is.block in
    let total = is.all in
    let files = b.data_pages in
    let pages = b.least_pages in
    let products : (s.keep + s.bad + 3) * s.block ≡ (s.keep + s.bad + 3) * shape.pages = ap (λ n. (s.keep + s.bad + 3) * n) block in
    let most : (s.keep + s.bad + 3) * shape.pages ≤ 4 * shape.pages = omega (arith, products, total, files, all) in
    let few : s.keep + s.bad + 3 ≤ 4 = le_of_mul-le-mul_right most (omega (arith, pages)) in
    omega (arith, few)

pub few_tries : (s : Space) (answer : Named) → s.keep ≤ 1 → s.block ≤ 256 → tries_left answer s ≤ 771
few_tries s named.NoPage one block =
    let most : most_reach s ≤ 768 = mul-le (s.keep + 2) s.block 3 256 (omega (arith, one)) block in
    let settled : unsettled s ≤ 1 = omega arith in
    omega (arith, most, settled)
few_tries s named.NotLive one block = omega arith
few_tries s named.Fault one block = omega arith
few_tries s (named.Placed at) one block = omega arith

-- the first try leaves the space as it was where it found no room
pub few_first : (s t : Space) (answer : Named) → (answer ≡ named.NoPage → t ≡ s) → s.keep ≤ 1 → s.block ≤ 256 → tries_left answer t ≤ 771
few_first s t named.NoPage same one block = subst (λ (x : Space). tries_left named.NoPage x ≤ 771) (sym (same refl)) (few_tries s named.NoPage one block)
few_first s t named.NotLive same one block = omega arith
few_first s t named.Fault same one block = omega arith
few_first s t (named.Placed at) same one block = omega arith

-- a try behind a round is nearer, whatever it answers
pub less_left : (s t : Space) (answer : Named) → (answer ≡ named.NoPage → rounds_left t < rounds_left s) → tries_left answer t < tries_left named.NoPage s
less_left s t named.NoPage less = let l = less refl in omega (arith, l)
less_left s t named.NotLive less = omega arith
less_left s t named.Fault less = omega arith
less_left s t (named.Placed at) less = omega arith
