use Rattle.std.proofs.Common.{◌≡◌, ℕ, zero, suc, ◌≤◌, ap, refl, ⊎_elim, slice_index_or, arith}
use Rattle.std.specs.Prelude.{replicate}
use Rattle.std.proofs.lemmas.Bool.{cases_lt}
use Rattle.std.proofs.lemmas.List.{get_or-replicate, get_or_past, length-replicate}
use Rattle.nl_field.specs.Examples.{fresh_image}
use Rattle.nl_field.specs.Page.{Page, erased, page_at, uncorrectable, written}
use Rattle.nl_meta.proofs.OnLiterals.{meta_on_literals}
use Rattle.nl_spec_image.specs.Formatted.{formatted_root, formatted_super}
use Rattle.nl_test_volume_format.proofs.trees.fresh_is_formatted.Goals as goal

replicated : (n i : ℕ) → slice_index_or (replicate n erased) i erased ≡ erased
replicated n i =
    ⊎_elim (λ low. get_or-replicate n i erased erased low)
    (λ past. get_or_past (replicate n erased) i erased (let many = length-replicate n erased in omega (arith, many, past)))
    (cases_lt i n)

others : (p : ℕ) → 2 ≤ p → page_at fresh_image p ≡ erased
others zero far = absurd (let none : ⊥ = omega (arith, far) in none)
others (suc zero) far = absurd (let none : ⊥ = omega (arith, far) in none)
others (suc (suc n)) far = replicated 1022 n

-- a byte of a written page, main or spare
main_byte : ℕ → Page → ℕ
main_byte i page = elim page [ erased ↦ 0 | uncorrectable ↦ 0 | written b ↦ slice_index_or b.main i 0 ]

spare_byte : ℕ → Page → ℕ
spare_byte i page = elim page [ erased ↦ 0 | uncorrectable ↦ 0 | written b ↦ slice_index_or b.spare i 0 ]

pub returns-clause-formatted : goal.returns-clause-formatted
unfolding formatted_root formatted_super
returns-clause-formatted c = record { root = refl; numbers = refl; others = others }

pub returns-clause-other : goal.returns-clause-other
unfolding meta_on_literals formatted_super main_byte
returns-clause-other c = λ formatted. let differ : 32 ≡ 64 = ap (main_byte 16) formatted.numbers in absurd (let none : ⊥ = omega (arith, differ) in none)

pub returns-clause-used : goal.returns-clause-used
unfolding meta_on_literals formatted_root spare_byte
returns-clause-used c = λ formatted. let differ : 5 ≡ 1 = ap (spare_byte 8) formatted.root in absurd (let none : ⊥ = omega (arith, differ) in none)
