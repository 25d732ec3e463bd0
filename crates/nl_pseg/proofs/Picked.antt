-- Which block is the next victim.
use Rattle.std.proofs.Common.{◌≡◌, ℕ, zero, suc, ◌+◌, ◌<◌, ◌≤◌, cond, sum_by, Option, Some, None, IfSome, IfNone, Bool, true, false, List, [], ◌∷◌, length, get_or, refl, sym, ◌∙◌, ap, arith}
use Rattle.std.proofs.lemmas.Bool.{true≢false}
use Rattle.std.proofs.lemmas.List.Sums.{sum_by-cons}
use Rattle.nl_blocks.specs.declared.states.BlockState.{BlockState}
use Rattle.nl_blocks.specs.declared.states.BlockState.TheVariants as the
use Rattle.nl_blocks.specs.Table.{BlockRow, HasBlock, block_at, dead_count, is_sealed_state, no_row}
use Rattle.nl_victim.specs.Victims.{IsColdest, IsLevel, IsMostDead, IsSealed}
use Rattle.nl_pseg.specs.Cleaning.{IsChosen, NoneChosen}
use Rattle.nl_pseg.specs.Segment.{CleaningRow, is_sealed, erasures}
use Rattle.nl_pseg_blocks.specs.Uses.{Use}
use Rattle.nl_pseg.specs.Seen.{row_of, seen}
use Rattle.nl_pseg.specs.Kept.{Kept}
use Rattle.nl_pseg.proofs.Rows.{dead_here, known_here, sum_map, to_gain}
use Rattle.nl_pseg_blocks.proofs.Tables.{use_here}

pub if_some : {A : Type 0} (o : Option A) {P Q : A → Type 0} → ((x : A) → P x → Q x) → IfSome o P → IfSome o Q
if_some None by is = is
if_some (Some x) by is = by x is

pub if_some_both : {A : Type 0} (o : Option A) {P Q R : A → Type 0} → ((x : A) → P x → Q x → R x) → IfSome o P → IfSome o Q → IfSome o R
if_some_both None by p q = p
if_some_both (Some x) by p q = by x p q

pub if_none : {A : Type 0} (o : Option A) {P Q : Type 0} → (P → Q) → IfNone o P → IfNone o Q
if_none None by is = by is
if_none (Some x) by is = is

pub sealed_is : (state : BlockState) → is_sealed_state state ≡ true → state ≡ the.Sealed
sealed_is the.Free is = absurd (true≢false (sym is))
sealed_is the.Active is = absurd (true≢false (sym is))
sealed_is the.Target is = absurd (true≢false (sym is))
sealed_is the.Sealed is = refl
sealed_is the.Victim is = absurd (true≢false (sym is))
sealed_is (the.Retired names) is = absurd (true≢false (sym is))

sum_zero : {A : Type 0} (f : A → ℕ) (d : A) (xs : List A) → ((i : ℕ) → i < length xs → f (get_or xs i d) ≡ 0) → sum_by f xs ≡ 0
sum_zero f d [] each = refl
sum_zero f d (x ∷ xs) each =
    let e : sum_by f (x ∷ xs) ≡ f x + sum_by f xs = sum_by-cons f x xs in
    let here : f x ≡ 0 = each zero (omega arith) in
    let rest = sum_zero f d xs (λ i less. each (suc i) (omega (arith, less))) in
    omega (arith, e, here, rest)

cond_zero : (b : Bool) (n : ℕ) → (b ≡ true → n ≡ 0) → cond b n 0 ≡ 0
cond_zero true n is = is refl
cond_zero false n is = refl

module _ (s : Kept) where
  sealed_here : (block : ℕ) → HasBlock s.blocks block → is_sealed (seen s) block ≡ is_sealed_state (block_at s.blocks block).state
  sealed_here block has = ap (λ (r : CleaningRow). is_sealed_state r.state) (known_here s.blocks block has)

  to_sealed : (block : ℕ) → (seen s).first ≤ block → block < (seen s).blocks → is_sealed (seen s) block ≡ true → IsSealed s.blocks block
  to_sealed block from below is = let has : HasBlock s.blocks block = record { from = from; below = below } in (has, sym (sealed_here block has) ∙ is)

  wear_here : (block : ℕ) → HasBlock s.blocks block → erasures (seen s) block ≡ (block_at s.blocks block).wear
  wear_here block has = ap (λ (u : Use). u.wear) (use_here s.blocks block has)

  pub chosen_dead : (block : ℕ) → IsMostDead s.blocks block → IsChosen false (seen s) block
  chosen_dead block is = record {
    from = is.sealed.0.from;
    below = is.sealed.0.below;
    sealed = sealed_here block is.sealed.0 ∙ is.sealed.1;
    some = λ no. let d = dead_here s.blocks block is.sealed.0 in let n = is.some in omega (arith, d, n);
    most = λ no other from below sealed.
        let o = to_sealed other from below sealed in
        let a = dead_here s.blocks block is.sealed.0 in
        let b = dead_here s.blocks other o.0 in
        let m = is.most other o in
        omega (arith, a, b, m);
    first_most = λ no other from less sealed.
        let below = is.sealed.0.below in
        let o = to_sealed other from (omega (arith, less, below)) sealed in
        let a = dead_here s.blocks block is.sealed.0 in
        let b = dead_here s.blocks other o.0 in
        let m = is.first other o less in
        omega (arith, a, b, m);
    first_least = λ yes. absurd (true≢false (sym yes));
    least = λ yes. absurd (true≢false (sym yes));
    worn = λ yes. absurd (true≢false (sym yes));
  }

  pub chosen_cold : (block : ℕ) → IsColdest s.blocks block → (other : ℕ) × HasBlock s.blocks other × ((block_at s.blocks block).wear + 16 ≤ (block_at s.blocks other).wear) → IsChosen true (seen s) block
  chosen_cold block is worn = record {
    from = is.sealed.0.from;
    below = is.sealed.0.below;
    sealed = sealed_here block is.sealed.0 ∙ is.sealed.1;
    some = λ no. absurd (true≢false no);
    most = λ no. absurd (true≢false no);
    first_most = λ no. absurd (true≢false no);
    first_least = λ yes other from less sealed.
        let below = is.sealed.0.below in
        let o = to_sealed other from (omega (arith, less, below)) sealed in
        let a = wear_here block is.sealed.0 in
        let b = wear_here other o.0 in
        let m = is.first other o less in
        omega (arith, a, b, m);
    least = λ yes other from below sealed.
        let o = to_sealed other from below sealed in
        let a = wear_here block is.sealed.0 in
        let b = wear_here other o.0 in
        let m = is.least other o in
        omega (arith, a, b, m);
    worn = λ yes. (worn.0, worn.1.from, worn.1.below, let a = wear_here block is.sealed.0 in let b = wear_here worn.0 worn.1 in let w = worn.2 in omega (arith, a, b, w));
  }

  pub none_dead : ((block : ℕ) → IsSealed s.blocks block → dead_count (block_at s.blocks block) ≡ 0) → NoneChosen false (seen s)
  none_dead each = sum_map to_gain row_of s.blocks.blocks ∙ sum_zero (λ r. to_gain (row_of r)) no_row s.blocks.blocks one
    where
      one : (i : ℕ) → i < length s.blocks.blocks → to_gain (row_of (get_or s.blocks.blocks i no_row)) ≡ 0
      one i less =
          let row = get_or s.blocks.blocks i no_row in
          let has : HasBlock s.blocks (s.blocks.first + i) = record { from = omega arith; below = omega (arith, less) } in
          let at : block_at s.blocks (s.blocks.first + i) ≡ row = ap (λ n. get_or s.blocks.blocks n no_row) (omega arith) in
          cond_zero (is_sealed_state row.state) (dead_count row) (λ sealed. ap dead_count (sym at) ∙ each (s.blocks.first + i) (has, ap (λ (r : BlockRow). is_sealed_state r.state) at ∙ sealed))

  pub none_cold : ((block : ℕ) → IsSealed s.blocks block → IsLevel s.blocks (block_at s.blocks block).wear) → NoneChosen true (seen s)
  none_cold each block from below sealed other o_from o_below =
      let b = to_sealed block from below sealed in
      let o : HasBlock s.blocks other = record { from = o_from; below = o_below } in
      let m = each block b other o in
      let x = wear_here block b.0 in
      let y = wear_here other o in
      omega (arith, m, x, y)
