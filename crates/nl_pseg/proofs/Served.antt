-- The pairs, and what the blocks are used for, after an opening was told of a block.
use Rattle.std.proofs.Common.{◌≡◌, ◌⊎◌, ⊎_elim, ℕ, ◌*◌, ◌/◌, false, Some, None, sym, ◌∙◌, ap, subst, arith}
use Rattle.std.proofs.lemmas.Bool.{cases_eq}
use Rattle.std.proofs.lemmas.Option.{none-some}
use Rattle.nl_blocks.specs.declared.states.BlockState.{BlockState}
use Rattle.nl_blocks.specs.declared.states.BlockState.TheVariants.{Active, Retired, Sealed, Target, Victim}
use Rattle.nl_blocks.specs.declared.states.BlockState.TheVariants as the
use Rattle.nl_blocks.specs.Table.{Table, HasBlock, block_at}
use Rattle.nl_remap.specs.Table.{IsOld}
use Rattle.nl_pseg.specs.Segment.{IsNextToProgram, IsNextCopy, held_at}
use Rattle.nl_pseg.specs.Seen.{HasPhases, IsTied, seen}
use Rattle.nl_pseg.specs.Steps.{ClosesBlock}
use Rattle.nl_pseg_blocks.specs.Uses.{Use, use_in, SetsWear, SameNumbers, told_state}
use Rattle.nl_pseg.specs.declared.held.Held.{Held}
use Rattle.nl_pseg.specs.Kept.{Kept}
use Rattle.nl_pseg.proofs.Numbers.{block_of}
use Rattle.nl_pseg_blocks.proofs.Tables.{has_same}
use Rattle.nl_pseg.proofs.Tied.{back, named_on}

module _ (s x : Kept) (block : ℕ) (i : ClosesBlock block s x) (n : SameNumbers s.blocks x.blocks) where
  pub idle_next : (p : ℕ) → IsNextToProgram (seen x) p → IsNextToProgram (seen s) p × (p / s.blocks.size ≡ block → ⊥)
  idle_next p next = ⊎_elim
      (λ here. let u = here.1 in let e = n.same_size in absurd (omega (arith, next.0, next.1, u, e)))
      (λ there.
      let a : x.active * x.blocks.size ≡ s.active * s.blocks.size = (λ j. i.active j * n.same_size j) in
      let u = there.1 in
      let e = n.same_size in
      let is : IsNextToProgram (seen s) p = (omega (arith, a, u, next.0), omega (arith, a, u, e, next.0, next.1)) in
      let at : p / s.blocks.size ≡ s.active = block_of p s.blocks.size s.active (omega (arith, is.0)) (omega (arith, is.0, is.1)) in
      (is, (λ same. there.0 (sym same ∙ at))))
      i.used

  pub idle_copy : (p : ℕ) → IsNextCopy (seen x) p → IsNextCopy (seen s) p × (p / s.blocks.size ≡ block → ⊥)
  idle_copy p next = ⊎_elim
      (λ here. let u = here.1 in let e = n.same_size in absurd (omega (arith, next.0, next.1, u, e)))
      (λ there.
      let a : x.target * x.blocks.size ≡ s.target * s.blocks.size = (λ j. i.target j * n.same_size j) in
      let u = there.1 in
      let e = n.same_size in
      let is : IsNextCopy (seen s) p = (omega (arith, a, u, next.0), omega (arith, a, u, e, next.0, next.1)) in
      let at : p / s.blocks.size ≡ s.target = block_of p s.blocks.size s.target (omega (arith, is.0)) (omega (arith, is.0, is.1)) in
      (is, (λ same. there.0 (sym same ∙ at))))
      i.filled

-- The block is in none of the states of a block that is written to, or of the victim.
pub record IsSet (state : BlockState) : Type 0 where
  pub active : state ≡ Active → ⊥
  pub target : state ≡ Target → ⊥
  pub victim : state ≡ Victim → ⊥

pub sealed_set : (state : BlockState) → state ≡ Sealed → IsSet state
sealed_set state is = record { active = λ e. cc (sym is ∙ e); target = λ e. cc (sym is ∙ e); victim = λ e. cc (sym is ∙ e) }

module _ (s x : Kept) (tied : IsTied s) (block : ℕ) (i : ClosesBlock block s x) (n : SameNumbers s.blocks x.blocks) (none : s.victim ≡ None) (victim : x.victim ≡ s.victim)
    (here : IsSet (block_at x.blocks block).state) (others : (b : ℕ) → HasBlock s.blocks b → (b ≡ block → ⊥) → (block_at x.blocks b).state ≡ (block_at s.blocks b).state) where
  other : (b : ℕ) (state : BlockState) → (block_at x.blocks b).state ≡ state → ((block_at x.blocks block).state ≡ state → ⊥) → b ≡ block → ⊥
  other b state is not e = not (ap (λ k. (block_at x.blocks k).state) (sym e) ∙ is)

  pub served_phases : HasPhases x
  served_phases =
      let ph = tied.phases in
      record {
        target_in = subst (HasBlock x.blocks) (sym i.target) (has_same s.target n ph.target_in);
        filled_fits = let e = n.same_size in let f = ph.filled_fits in ⊎_elim (λ h. let u = h.1 in omega (arith, e, u)) (λ h. let u = h.1 in omega (arith, e, u, f)) i.filled;
        filling = λ lt. ⊎_elim
            (λ h. let u = h.1 in let e = n.same_size in absurd (omega (arith, lt, u, e)))
            (λ h.
            let u = h.1 in
            let e = n.same_size in
            ap (λ k. (block_at x.blocks k).state) i.target ∙ (others s.target ph.target_in (λ same. h.0 (sym same)) ∙ ph.filling (omega (arith, lt, u, e))))
            i.filled;
        one_active = λ b has is.
            let ne = other b Active is here.active in
            let was = has_same b (back n) has in
            let w = ph.one_active b was (sym (others b was ne) ∙ is) in
            (w.0 ∙ sym i.active, ⊎_elim (λ h. absurd (ne (w.0 ∙ sym h.0))) (λ h. let u = h.1 in let e = n.same_size in let l = w.1 in omega (arith, u, e, l)) i.used);
        one_target = λ b has is.
            let ne = other b Target is here.target in
            let was = has_same b (back n) has in
            let w = ph.one_target b was (sym (others b was ne) ∙ is) in
            (w.0 ∙ sym i.target, ⊎_elim (λ h. absurd (ne (w.0 ∙ sym h.0))) (λ h. let u = h.1 in let e = n.same_size in let l = w.1 in omega (arith, u, e, l)) i.filled);
        one_victim = λ b has is.
            let ne = other b Victim is here.victim in
            let was = has_same b (back n) has in
            victim ∙ ph.one_victim b was (sym (others b was ne) ∙ is);
        victim_in = λ b named. absurd (none-some b (sym none ∙ (sym victim ∙ named)));
      }

  module _ (names : x.names ≡ s.names) (standing : (m : ℕ) → IsOld s.names.pairs m → (use_in x.blocks (m / s.blocks.size)).is_free ≡ false) (waits : (k : ℕ) → (block_at x.blocks block).state ≡ Retired k → (block_at s.blocks block).state ≡ Retired k)
      (was : (p : ℕ) (h : Held) → held_at (seen x) p ≡ Some h → (held_at (seen s) p ≡ Some h) ⊎ ((p / s.blocks.size ≡ block) × (IsOld s.names.pairs p → ⊥)))
      (still : (p : ℕ) (h : Held) → held_at (seen s) p ≡ Some h → (k : Held) × (held_at (seen x) p ≡ Some k)) where
    pub served_tied : IsTied x
    served_tied = record {
      named = named_on s x tied.named names n
          (λ p h held old. ⊎_elim (λ live. tied.named.own p h live old) (λ new. new.1 old) (was p h held))
          (λ l has. let live = tied.named.to_live l has in still l.to live.0 live.1)
          (λ m old w. record {
            in_use = ap (λ k. (use_in x.blocks (m / k)).is_free) n.same_size ∙ standing m old;
            behind = λ next. w.behind (idle_next s x block i n m next).0;
            copy_behind = λ copy. w.copy_behind (idle_copy s x block i n m copy).0;
          })
          (λ b k has is. ⊎_elim
          (λ e. ap (λ q. (block_at s.blocks q).state) e ∙ waits k (ap (λ q. (block_at x.blocks q).state) (sym e) ∙ is))
          (λ ne. sym (others b has ne) ∙ is)
          (cases_eq b block));
      phases = served_phases;
      behind = λ p h held copy.
          let c = idle_copy s x block i n p copy in
          ⊎_elim (λ live. tied.behind p h live c.0) (λ new. c.1 new.0) (was p h held);
    }

-- what a block that was told to be soiled is used for
told_use : (s : Kept) (t : Table) (block wear : ℕ) → SetsWear block wear s.blocks t → (b : ℕ) → ((use_in t b).is_free ≡ (use_in s.blocks b).is_free) × ((use_in t b).is_kept ≡ (use_in s.blocks b).is_kept)
told_use s t block wear told b = ⊎_elim
    (λ e. (
      ap (λ k. (use_in t k).is_free) e ∙ (ap (λ (u : Use). u.is_free) told.here ∙ ap (λ k. (use_in s.blocks k).is_free) (sym e)),
      ap (λ k. (use_in t k).is_kept) e ∙ (ap (λ (u : Use). u.is_kept) told.here ∙ ap (λ k. (use_in s.blocks k).is_kept) (sym e)),
    ))
    (λ ne. (ap (λ (u : Use). u.is_free) (told.others b ne), ap (λ (u : Use). u.is_kept) (told.others b ne)))
    (cases_eq b block)

pub told_free : (s : Kept) (t : Table) (block wear : ℕ) → SetsWear block wear s.blocks t → (b : ℕ) → (use_in t b).is_free ≡ (use_in s.blocks b).is_free
told_free s t block wear told b = (told_use s t block wear told b).0

pub told_kept : (s : Kept) (t : Table) (block wear : ℕ) → SetsWear block wear s.blocks t → (b : ℕ) → (use_in t b).is_kept ≡ (use_in s.blocks b).is_kept
told_kept s t block wear told b = (told_use s t block wear told b).1

set_told : (state : BlockState) → IsSet (told_state state)
set_told the.Free = record { active = λ e. cc e; target = λ e. cc e; victim = λ e. cc e }
set_told the.Active = record { active = λ e. cc e; target = λ e. cc e; victim = λ e. cc e }
set_told the.Target = record { active = λ e. cc e; target = λ e. cc e; victim = λ e. cc e }
set_told the.Sealed = record { active = λ e. cc e; target = λ e. cc e; victim = λ e. cc e }
set_told the.Victim = record { active = λ e. cc e; target = λ e. cc e; victim = λ e. cc e }
set_told (the.Retired names) = record { active = λ e. cc e; target = λ e. cc e; victim = λ e. cc e }

pub told_set : (was now : BlockState) → now ≡ told_state was → IsSet now
told_set was now is = subst IsSet (sym is) (set_told was)

pub told_waits : (state : BlockState) (k : ℕ) → told_state state ≡ Retired k → state ≡ Retired k
told_waits the.Free k is = absurd (cc is)
told_waits the.Active k is = absurd (cc is)
told_waits the.Target k is = absurd (cc is)
told_waits the.Sealed k is = absurd (cc is)
told_waits the.Victim k is = absurd (cc is)
told_waits (the.Retired names) k is = is

pub free_set : (state : BlockState) → state ≡ the.Free → IsSet state
free_set state is = record { active = λ e. cc (sym is ∙ e); target = λ e. cc (sym is ∙ e); victim = λ e. cc (sym is ∙ e) }
