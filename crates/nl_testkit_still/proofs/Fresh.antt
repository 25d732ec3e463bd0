-- A memory on which nothing is written.
use Rattle.std.proofs.Common.{◌≡◌, ⊎_elim, ℕ, zero, suc, ◌+◌, ◌-◌, ◌*◌, ◌<◌, ◌≤◌, List, Option, None, length, replicate, get_or, sym, ◌∙◌, ap, arith}
use Rattle.std.proofs.lemmas.Bool.{cases_lt}
use Rattle.std.proofs.lemmas.List.{get_or-replicate, get_or_past, length-replicate}
use Rattle.nl_field.specs.Numbers.{ShapeBounds}
use Rattle.nl_field.specs.declared.shape.Shape.{Shape}

pub count_none : {X : Type 0} (xs : List (Option X)) (n : ℕ) → xs ≡ replicate n None → length xs ≡ n
count_none xs n is = ap length is ∙ length-replicate n None

pub all_none : {X : Type 0} (xs : List (Option X)) (n : ℕ) → xs ≡ replicate n None → (p : ℕ) → get_or xs p None ≡ None
all_none {X} xs n is p = ap (λ (ys : List (Option X)). get_or ys p None) is
    ∙ ⊎_elim (λ low. get_or-replicate n p None None low) (λ past. get_or_past (replicate n None) p None (let count = length-replicate {A = Option X} n None in omega (arith, past, count))) (cases_lt p n)

-- the virtual segment, the pages that can be written, and the last block fill the memory
pub fits : (h : Shape) → ShapeBounds h → h.vblocks * h.pages + (h.blocks * h.pages - h.pages - h.vblocks * h.pages) + h.pages ≡ h.blocks * h.pages
fits h b =
    let all : (h.vblocks + h.pblocks) * h.pages ≡ h.blocks * h.pages = ap (λ n. n * h.pages) b.segments in
    let parts : (h.vblocks + h.pblocks) * h.pages ≡ h.vblocks * h.pages + h.pblocks * h.pages = omega arith in
    let fill = b.data_pages in
    omega (arith, all, parts, fill)
