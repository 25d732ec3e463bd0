-- The pairs, and what the blocks are used for, after a victim was taken.
use Rattle.std.proofs.Common.{◌≡◌, ⊎_elim, ℕ, ◌*◌, ◌/◌, Some, None, refl, sym, ◌∙◌, ap, subst, arith}
use Rattle.std.proofs.lemmas.Bool.{cases_eq}
use Rattle.std.proofs.lemmas.Option.{none-some, same_Some}
use Rattle.nl_blocks.specs.declared.states.BlockState.{BlockState}
use Rattle.nl_blocks.specs.declared.states.BlockState.TheVariants.{Active, Retired, Sealed, Target, Victim}
use Rattle.nl_blocks.specs.Table.{Table, HasBlock, block_at}
use Rattle.nl_pseg.specs.Segment.{IsNextToProgram, IsNextCopy}
use Rattle.nl_pseg.specs.Seen.{IsTied, seen}
use Rattle.nl_pseg_blocks.specs.Uses.{Use, use_in, SameUse}
use Rattle.nl_pseg.specs.Kept.{Kept}
use Rattle.nl_pseg_blocks.proofs.Tables.{has_same}
use Rattle.nl_pseg.proofs.Tied.{back, named_on}

module _ (s : Kept) (tied : IsTied s) (none : s.victim ≡ None) (t : Table) (same : SameUse s.blocks t) (block : ℕ) (has_block : HasBlock s.blocks block) (sealed : (block_at s.blocks block).state ≡ Sealed)
    (here : (block_at t block).state ≡ Victim) (others : (b : ℕ) → HasBlock s.blocks b → (b ≡ block → ⊥) → (block_at t b).state ≡ (block_at s.blocks b).state) where
  abbrev after : Kept
  after = record s { blocks = t; victim = Some block }

  size : t.size ≡ s.blocks.size
  size = same.numbers.same_size

  nexts : (p : ℕ) → IsNextToProgram (seen after) p → IsNextToProgram (seen s) p
  nexts p n =
      let a : s.active * t.size ≡ s.active * s.blocks.size = ap (λ m. s.active * m) size in
      let e = size in
      (omega (arith, a, n.0), omega (arith, a, e, n.1))

  copies : (p : ℕ) → IsNextCopy (seen after) p → IsNextCopy (seen s) p
  copies p n =
      let a : s.target * t.size ≡ s.target * s.blocks.size = ap (λ m. s.target * m) size in
      let e = size in
      (omega (arith, a, n.0), omega (arith, a, e, n.1))

  -- a block in another state than the victim's was in it
  was : (b : ℕ) (state : BlockState) → (Victim ≡ state → ⊥) → HasBlock s.blocks b → (block_at t b).state ≡ state → (block_at s.blocks b).state ≡ state
  was b state not has st = sym (others b has (λ e. not (sym here ∙ (ap (λ n. (block_at t n).state) (sym e) ∙ st)))) ∙ st

  pub chosen_tied : IsTied (record s { blocks = t; victim = Some block })
  chosen_tied =
      let ph = tied.phases in
      let n = same.numbers in
      let e = size in
      record {
        named = named_on s after tied.named refl n
            (λ p h held old. tied.named.own p h held old)
            (λ pair has. tied.named.to_live pair has)
            (λ m old w. record {
              in_use = ap (λ (u : Use). u.is_free) (same.uses (m / t.size)) ∙ (ap (λ k. (use_in s.blocks (m / k)).is_free) e ∙ w.in_use);
              behind = λ next. w.behind (nexts m next);
              copy_behind = λ copy. w.copy_behind (copies m copy);
            })
            (λ b names has st. was b (Retired names) (λ x. cc x) has st);
        phases = record {
          target_in = has_same s.target n ph.target_in;
          filled_fits = let f = ph.filled_fits in omega (arith, e, f);
          filling = λ lt.
              let is = ph.filling (omega (arith, lt, e)) in
              others s.target ph.target_in (λ a. cc (sym is ∙ (ap (λ b. (block_at s.blocks b).state) a ∙ sealed))) ∙ is;
          one_active = λ b has now. let w = ph.one_active b (has_same b (back n) has) (was b Active (λ x. cc x) (has_same b (back n) has) now) in (w.0, let l = w.1 in omega (arith, e, l));
          one_target = λ b has now. let w = ph.one_target b (has_same b (back n) has) (was b Target (λ x. cc x) (has_same b (back n) has) now) in (w.0, let l = w.1 in omega (arith, e, l));
          one_victim = λ b has now. ⊎_elim
              (λ a. ap (λ k. Some k) (sym a))
              (λ ne. absurd (none-some b (sym none ∙ ph.one_victim b (has_same b (back n) has) (sym (others b (has_same b (back n) has) ne) ∙ now))))
              (cases_eq b block);
          victim_in = λ b named.
              let a = same_Some block b named in
              (subst (HasBlock t) a (has_same block n has_block), ap (λ k. (block_at t k).state) (sym a) ∙ here);
        };
        behind = λ p h held copy. tied.behind p h held (copies p copy);
      }
