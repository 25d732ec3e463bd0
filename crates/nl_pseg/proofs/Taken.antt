-- The pairs, and what the blocks are used for, after a Free block was taken, or was Free again.
use Rattle.std.proofs.Common.{◌≡◌, ⊎_elim, ℕ, ◌*◌, ◌/◌, ◌<◌, true, false, None, refl, sym, ◌∙◌, ap, arith}
use Rattle.std.specs.Vec.{with_item}
use Rattle.std.proofs.lemmas.Bool.{cases_eq, true≢false}
use Rattle.nl_blocks.specs.declared.states.BlockState.{BlockState}
use Rattle.nl_blocks.specs.declared.states.BlockState.TheVariants.{Active, Retired, Target, Victim}
use Rattle.nl_blocks.specs.Table.{Table, HasBlock, block_at, is_free_state}
use Rattle.nl_pseg.specs.Segment.{IsNextToProgram, IsNextCopy}
use Rattle.nl_pseg.specs.Seen.{HasPhases, IsNamed, IsTied, seen}
use Rattle.nl_pseg.specs.Steps.{IsTaking}
use Rattle.nl_pseg_blocks.specs.Uses.{Use, use_in, SameUse}
use Rattle.nl_pseg.specs.Kept.{Kept}
use Rattle.nl_pseg.proofs.Numbers.{block_of}
use Rattle.nl_pseg_blocks.proofs.Tables.{has_same, use_here}
use Rattle.nl_pseg.proofs.Tied.{back, named_on}

-- the state of a Free block
pub state_free : (t : Table) (block : ℕ) → HasBlock t block → (use_in t block).is_free ≡ true → is_free_state (block_at t block).state ≡ true
state_free t block has free = sym (ap (λ (u : Use). u.is_free) (use_here t block has)) ∙ free

-- a block in another state is another one
pub free_other : (t : Table) (block b : ℕ) (state : BlockState) → HasBlock t block → (use_in t block).is_free ≡ true → is_free_state state ≡ false → (block_at t b).state ≡ state → b ≡ block → ⊥
free_other t block b state has free not st e =
    true≢false (sym (state_free t block has free) ∙ (ap (λ n. is_free_state (block_at t n).state) (sym e) ∙ (ap (λ (x : BlockState). is_free_state x) st ∙ not)))

module _ (s : Kept) (block : ℕ) (k : IsTaking s block) (some : 0 < s.blocks.size) (active : (block_at s.blocks block).state ≡ Active) where
  abbrev before : Kept
  before = record s { blocks = k.table }

  abbrev after : Kept
  after = record s { soiled = with_item s.soiled block None; active = block; used = 0 }

  size : s.blocks.size ≡ k.table.size
  size = k.restated.numbers.same_size

  next_in : (p : ℕ) → IsNextToProgram (seen after) p → p / s.blocks.size ≡ block
  next_in p n = block_of p s.blocks.size block (omega (arith, n.0)) (omega (arith, n.1))

  copies : (p : ℕ) → IsNextCopy (seen after) p → IsNextCopy (seen before) p
  copies p n =
      let a : s.target * s.blocks.size ≡ s.target * k.table.size = ap (λ m. s.target * m) size in
      let e = size in
      (omega (arith, a, n.0), omega (arith, a, e, n.1))

  named : IsNamed after
  named = named_on before after k.tied.named refl k.restated.numbers
      (λ p h held old. k.tied.named.own p h held old)
      (λ pair has. k.tied.named.to_live pair has)
      (λ n old w.
      let used : (use_in k.table (n / s.blocks.size)).is_free ≡ false = ap (λ m. (use_in k.table (n / m)).is_free) size ∙ w.in_use in
      let ne : n / s.blocks.size ≡ block → ⊥ = (λ e. true≢false (sym k.was_free ∙ (ap (λ b. (use_in k.table b).is_free) (sym e) ∙ used))) in
      record {
        in_use = ap (λ (u : Use). u.is_free) (k.restated.others (n / s.blocks.size) ne) ∙ used;
        behind = λ next. ne (next_in n next);
        copy_behind = λ copy. w.copy_behind (copies n copy);
      })
      (λ b names has st. ⊎_elim
      (λ e. absurd (cc (sym active ∙ (ap (λ n. (block_at s.blocks n).state) (sym e) ∙ st))))
      (λ ne. sym (k.restated.states b has ne) ∙ st)
      (cases_eq b block))

  phases : HasPhases after
  phases =
      let ph = k.tied.phases in
      let n = k.restated.numbers in
      let e = size in
      record {
        target_in = has_same s.target n ph.target_in;
        filled_fits = let f = ph.filled_fits in omega (arith, e, f);
        filling = λ lt.
            let was = ph.filling (omega (arith, lt, e)) in
            k.restated.states s.target ph.target_in (free_other k.table block s.target Target k.had k.was_free refl was) ∙ was;
        one_active = λ b has now. ⊎_elim
            (λ a. (a, omega (arith, some)))
            (λ ne.
            let old = has_same b (back n) has in
            let w = ph.one_active b old (sym (k.restated.states b old ne) ∙ now) in
            let l = w.1 in let f = k.full in absurd (omega (arith, l, f, e)))
            (cases_eq b block);
        one_target = λ b has now.
            let old = has_same b (back n) has in
            let w = ph.one_target b old (sym (k.restated.states b old (λ a. cc (sym active ∙ (ap (λ m. (block_at s.blocks m).state) (sym a) ∙ now)))) ∙ now) in
            (w.0, let l = w.1 in omega (arith, e, l));
        one_victim = λ b has now.
            let old = has_same b (back n) has in
            ph.one_victim b old (sym (k.restated.states b old (λ a. cc (sym active ∙ (ap (λ m. (block_at s.blocks m).state) (sym a) ∙ now)))) ∙ now);
        victim_in = λ b named.
            let w = ph.victim_in b named in
            (has_same b n w.0, k.restated.states b w.0 (free_other k.table block b Victim k.had k.was_free refl w.1) ∙ w.1);
      }

  pub taken_tied : IsTied (record s { soiled = with_item s.soiled block None; active = block; used = 0 })
  taken_tied = record { named = named; phases = phases; behind = λ p h held copy. k.tied.behind p h held (copies p copy) }

-- a block that is Free as it was
module _ (s : Kept) (tied : IsTied s) (t : Table) (same : SameUse s.blocks t) (block : ℕ) (has_block : HasBlock s.blocks block) (free : (use_in s.blocks block).is_free ≡ true)
    (others : (b : ℕ) → HasBlock s.blocks b → (b ≡ block → ⊥) → (block_at t b).state ≡ (block_at s.blocks b).state) where
  abbrev again : Kept
  again = record s { blocks = t }

  size_is : t.size ≡ s.blocks.size
  size_is = same.numbers.same_size

  still_free : (use_in t block).is_free ≡ true
  still_free = ap (λ (u : Use). u.is_free) (same.uses block) ∙ free

  nexts : (p : ℕ) → IsNextToProgram (seen again) p → IsNextToProgram (seen s) p
  nexts p n =
      let a : s.active * t.size ≡ s.active * s.blocks.size = ap (λ m. s.active * m) size_is in
      let e = size_is in
      (omega (arith, a, n.0), omega (arith, a, e, n.1))

  next_copies : (p : ℕ) → IsNextCopy (seen again) p → IsNextCopy (seen s) p
  next_copies p n =
      let a : s.target * t.size ≡ s.target * s.blocks.size = ap (λ m. s.target * m) size_is in
      let e = size_is in
      (omega (arith, a, n.0), omega (arith, a, e, n.1))

  -- a block in a state that is not Free was in it
  was : (b : ℕ) (state : BlockState) → is_free_state state ≡ false → HasBlock s.blocks b → (block_at t b).state ≡ state → (block_at s.blocks b).state ≡ state
  was b state not has st = sym (others b has (free_other t block b state (has_same block same.numbers has_block) still_free not st)) ∙ st

  pub free_again : IsTied (record s { blocks = t })
  free_again =
      let ph = tied.phases in
      let n = same.numbers in
      let e = size_is in
      record {
        named = named_on s again tied.named refl n
            (λ p h held old. tied.named.own p h held old)
            (λ pair has. tied.named.to_live pair has)
            (λ m old w. record {
              in_use = ap (λ (u : Use). u.is_free) (same.uses (m / t.size)) ∙ (ap (λ k. (use_in s.blocks (m / k)).is_free) e ∙ w.in_use);
              behind = λ next. w.behind (nexts m next);
              copy_behind = λ copy. w.copy_behind (next_copies m copy);
            })
            (λ b names has st. was b (Retired names) refl has st);
        phases = record {
          target_in = has_same s.target n ph.target_in;
          filled_fits = let f = ph.filled_fits in omega (arith, e, f);
          filling = λ lt.
              let is = ph.filling (omega (arith, lt, e)) in
              others s.target ph.target_in (free_other s.blocks block s.target Target has_block free refl is) ∙ is;
          one_active = λ b has now. let w = ph.one_active b (has_same b (back n) has) (was b Active refl (has_same b (back n) has) now) in (w.0, let l = w.1 in omega (arith, e, l));
          one_target = λ b has now. let w = ph.one_target b (has_same b (back n) has) (was b Target refl (has_same b (back n) has) now) in (w.0, let l = w.1 in omega (arith, e, l));
          one_victim = λ b has now. ph.one_victim b (has_same b (back n) has) (was b Victim refl (has_same b (back n) has) now);
          victim_in = λ b named.
              let w = ph.victim_in b named in
              (has_same b n w.0, others b w.0 (free_other s.blocks block b Victim has_block free refl w.1) ∙ w.1);
        };
        behind = λ p h held copy. tied.behind p h held (next_copies p copy);
      }
