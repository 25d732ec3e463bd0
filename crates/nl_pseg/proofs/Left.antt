-- How many pages of a block are live.
use Rattle.std.proofs.Common.{◌≡◌, ℕ, zero, suc, ◌+◌, ◌-◌, ◌*◌, ◌/◌, ◌%◌, ◌<◌, ◌≤◌, cond, count_by, Option, Some, None, IfNone, IfSome, IsSome, is_some, Bool, true, false, List, [], ◌∷◌, length, get_or, refl, sym, ◌∙◌, ap, subst, arith}
use Rattle.std.proofs.lemmas.Bool.{true≢false}
use Rattle.std.proofs.lemmas.List.Sums.{sum_by-cons}
use Rattle.std.proofs.lemmas.Nat.{mod-mul-add}
use Rattle.nl_blocks.specs.declared.states.Page.{Page}
use Rattle.nl_blocks.specs.declared.states.PageState.{PageState}
use Rattle.nl_blocks.specs.declared.states.PageState.TheVariants.{Dead, Live}
use Rattle.nl_blocks.specs.Table.{HasBlock, HasPage, IsBlockTable, block_at, dead_count, is_dead, is_dead_state, new_page}
use Rattle.nl_blocks.proofs.TableLaws.{page_in}
use Rattle.nl_blocks.proofs.TableProofs.{row_size}
use Rattle.nl_pseg.specs.Segment.{held_at}
use Rattle.nl_pseg.specs.Seen.{IsPhysicalFormed, seen, state_for}
use Rattle.nl_pseg.specs.Space.{left_in_victim, victims}
use Rattle.nl_pseg.specs.declared.held.Held.{Held}
use Rattle.nl_pseg.specs.Kept.{Kept}
use Rattle.nl_pseg.proofs.Numbers.{block_of, in_block}
use Rattle.nl_pseg.proofs.Rows.{dead_here}

abbrev num : Bool → ℕ
num b = cond b 1 0

all_dead : (pages : List Page) → ((k : ℕ) → k < length pages → (get_or pages k new_page).state ≡ Dead) → count_by is_dead pages ≡ length pages
all_dead [] each = refl
all_dead (p ∷ ps) each =
    let e : count_by is_dead (p ∷ ps) ≡ num (is_dead p) + count_by is_dead ps = sum_by-cons (λ q. num (is_dead q)) p ps in
    let here : num (is_dead p) ≡ 1 = ap (λ (s : PageState). num (is_dead_state s)) (each zero (omega arith)) in
    let rest = all_dead ps (λ k less. each (suc k) (omega (arith, less))) in
    omega (arith, e, here, rest)

small : (b : Bool) → num b ≤ 1
small true = omega arith
small false = omega arith

few_dead : (pages : List Page) → count_by is_dead pages ≤ length pages
few_dead [] = omega arith
few_dead (p ∷ ps) =
    let e : count_by is_dead (p ∷ ps) ≡ num (is_dead p) + count_by is_dead ps = sum_by-cons (λ q. num (is_dead q)) p ps in
    let rest = few_dead ps in
    let one = small (is_dead p) in
    omega (arith, e, rest, one)

one_live : (pages : List Page) (k : ℕ) → k < length pages → (get_or pages k new_page).state ≡ Live → count_by is_dead pages + 1 ≤ length pages
one_live [] k less live = absurd (omega (arith, less))
one_live (p ∷ ps) zero less live =
    let e : count_by is_dead (p ∷ ps) ≡ num (is_dead p) + count_by is_dead ps = sum_by-cons (λ q. num (is_dead q)) p ps in
    let here : num (is_dead p) ≡ 0 = ap (λ (s : PageState). num (is_dead_state s)) live in
    let rest = few_dead ps in
    omega (arith, e, here, rest)
one_live (p ∷ ps) (suc k) less live =
    let e : count_by is_dead (p ∷ ps) ≡ num (is_dead p) + count_by is_dead ps = sum_by-cons (λ q. num (is_dead q)) p ps in
    let rest = one_live ps k (omega (arith, less)) live in
    let one = small (is_dead p) in
    omega (arith, e, rest, one)

module _ (s : Kept) (is : IsPhysicalFormed s) (table : IsBlockTable s.blocks) (block : ℕ) (has : HasBlock s.blocks block) where
  -- a page of the block by its place
  page_of : (k : ℕ) → k < s.blocks.size → (get_or (block_at s.blocks block).pages k new_page).state ≡ state_for (held_at (seen s) (block * s.blocks.size + k))
  page_of k less =
      let page = block * s.blocks.size + k in
      let at : page / s.blocks.size ≡ block = block_of page s.blocks.size block (omega arith) (omega (arith, less)) in
      let rest : page % s.blocks.size ≡ k = mod-mul-add block s.blocks.size k less in
      let own : HasPage s.blocks page = subst (HasBlock s.blocks) (sym at) has in
      ap (λ (p : Page). p.state) (ap (λ n. get_or (block_at s.blocks block).pages n new_page) (sym rest) ∙ sym (page_in s.blocks page block at)) ∙ is.marked.each page own

  -- no page of it is live
  pub none_live : ((p : ℕ) → p / s.blocks.size ≡ block → held_at (seen s) p ≡ None) → dead_count (block_at s.blocks block) ≡ s.blocks.size
  none_live none =
      let n = row_size s.blocks table block has in
      all_dead (block_at s.blocks block).pages (λ k less.
      let few : k < s.blocks.size = omega (arith, n, less) in
      page_of k few ∙ ap state_for (none (block * s.blocks.size + k) (block_of (block * s.blocks.size + k) s.blocks.size block (omega arith) (omega (arith, few))))) ∙ n

  -- a page of it is live
  pub some_live : (p : ℕ) (h : Held) → p / s.blocks.size ≡ block → held_at (seen s) p ≡ Some h → dead_count (block_at s.blocks block) + 1 ≤ s.blocks.size
  some_live p h at held =
      let n = row_size s.blocks table block has in
      let w = in_block p s.blocks.size block is.some at in
      let whole : block * s.blocks.size + (p - block * s.blocks.size) ≡ p = omega (arith, w.0) in
      let less : p - block * s.blocks.size < s.blocks.size = omega (arith, w.0, w.1) in
      let live = page_of (p - block * s.blocks.size) less ∙ ap state_for (ap (held_at (seen s)) whole ∙ held) in
      let few = one_live (block_at s.blocks block).pages (p - block * s.blocks.size) (omega (arith, less, n)) live in
      omega (arith, few, n)

-- the live pages of a victim
pub left_is : (s : Kept) (block : ℕ) → HasBlock s.blocks block → s.victim ≡ Some block → left_in_victim (seen s) ≡ s.blocks.size - dead_count (block_at s.blocks block)
left_is s block has named = ap (λ v. left_in_victim (record (seen s) { victim = v })) named ∙ ap (λ d. s.blocks.size - d) (dead_here s.blocks block has)

pub victims_is : (s : Kept) (block : ℕ) → s.victim ≡ Some block → victims (seen s) ≡ 1
victims_is s block named = ap (λ v. victims (record (seen s) { victim = v })) named

pub none_is : {A : Type 0} (o : Option A) {P : Type 0} → is_some o ≡ false → IfNone o P → P
none_is None none is = is
none_is (Some x) none is = absurd (true≢false none)

pub some_is : {A : Type 0} (o : Option A) {P : A → Type 0} → is_some o ≡ true → IfSome o P → (x : A) × P x
some_is None some is = absurd (true≢false (sym some))
some_is (Some x) some is = (x, is)

pub there_is : {A : Type 0} (o : Option A) → IsSome o → (x : A) × (o ≡ Some x)
there_is None some = absurd (true≢false (sym some))
there_is (Some x) some = (x, refl)
