-- The pairs, and what the blocks are used for, after the next page was used.
use Rattle.std.proofs.Common.{◌≡◌, ◌⊎◌, ⊎_elim, ℕ, ◌+◌, ◌*◌, ◌/◌, ◌<◌, Option, None, length, refl, sym, ◌∙◌, ap, subst, arith}
use Rattle.std.specs.Vec.{with_item}
use Rattle.std.proofs.lemmas.Bool.{cases_eq}
use Rattle.std.proofs.lemmas.List.{get_or-set_other}
use Rattle.std.proofs.lemmas.Option.{none-some}
use Rattle.nl_blocks.specs.declared.states.BlockState.TheVariants.{Active, Sealed, Retired}
use Rattle.nl_blocks.specs.Table.{Table, HasBlock, block_at}
use Rattle.nl_pseg.specs.Segment.{IsNextToProgram, IsNextCopy, held_at}
use Rattle.nl_pseg.specs.Seen.{HasPhases, IsPhysicalFormed, IsNamed, IsTied, seen}
use Rattle.nl_pseg_blocks.specs.Uses.{Use, use_at, SameUse}
use Rattle.nl_pseg.specs.declared.held.Held.{Held}
use Rattle.nl_pseg.specs.Kept.{Kept}
use Rattle.nl_pseg.proofs.Segments.{dead_next, set_held}
use Rattle.nl_pseg.proofs.States.{is_next}
use Rattle.nl_pseg_blocks.proofs.Tables.{has_same}
use Rattle.nl_pseg.proofs.Tied.{back, named_on, next_copy}

module _ (s : Kept) (is : IsPhysicalFormed s) (tied : IsTied s) (room : s.used < s.blocks.size) (t : Table) (same : SameUse s.blocks t) (page : ℕ) (at : page ≡ s.active * s.blocks.size + s.used) (x : Option Held)
    (here : (((block_at t s.active).state ≡ Active) × (s.used + 1 < s.blocks.size)) ⊎ ((block_at t s.active).state ≡ Sealed))
    (others : (b : ℕ) → HasBlock s.blocks b → (b ≡ s.active → ⊥) → (block_at t b).state ≡ (block_at s.blocks b).state) (within : page < length s.held.items) where
  abbrev new : Kept
  new = record s { held = with_item s.held page x; blocks = t; used = s.used + 1 }

  next : IsNextToProgram (seen s) page
  next = subst (IsNextToProgram (seen s)) (sym at) (is_next s is room)

  size : t.size ≡ s.blocks.size
  size = same.numbers.same_size

  fewer : (p : ℕ) → IsNextToProgram (seen new) p → IsNextToProgram (seen s) p
  fewer p n =
      let a : s.active * t.size ≡ s.active * s.blocks.size = ap (λ k. s.active * k) size in
      let e = size in
      (omega (arith, a, n.0), omega (arith, a, e, room, n.0, n.1))

  copies : (p : ℕ) → IsNextCopy (seen new) p → IsNextCopy (seen s) p
  copies p n =
      let a : s.target * t.size ≡ s.target * s.blocks.size = ap (λ k. s.target * k) size in
      let e = size in
      (omega (arith, a, n.0), omega (arith, a, e, n.1))

  -- a block that waits then did before
  waits : (b k : ℕ) → HasBlock s.blocks b → (block_at t b).state ≡ Retired k → (block_at s.blocks b).state ≡ Retired k
  waits b k has st = ⊎_elim
      (λ a. ⊎_elim (λ active. absurd (cc (sym active.0 ∙ (ap (λ n. (block_at t n).state) (sym a) ∙ st)))) (λ sealed. absurd (cc (sym sealed ∙ (ap (λ n. (block_at t n).state) (sym a) ∙ st)))) here)
      (λ ne. sym (others b has ne) ∙ st)
      (cases_eq b s.active)

  named : IsNamed new
  named = named_on s new tied.named refl same.numbers
      (λ p h held old. ⊎_elim
      (λ e. (tied.named.standing p old).behind (subst (IsNextToProgram (seen s)) (sym e.0) next))
      (λ e. tied.named.own p h e.1 old)
      (set_held s.held.items page x within p h held))
      (λ pair has.
      let live = tied.named.to_live pair has in
      (live.0, get_or-set_other s.held.items page pair.to x None (λ e. none-some live.0 (sym (dead_next (seen s) is.places page next) ∙ (ap (held_at (seen s)) (sym e) ∙ live.1))) ∙ live.1))
      (λ n old w. record {
        in_use = ap (λ (u : Use). u.is_free) (same.uses (n / t.size)) ∙ (ap (λ k. (use_at s.blocks.first (seen s).uses (n / k)).is_free) size ∙ w.in_use);
        behind = λ k. w.behind (fewer n k);
        copy_behind = λ k. w.copy_behind (copies n k);
      })
      waits

  phases : HasPhases new
  phases =
      let ph = tied.phases in
      let st = is.taken room in
      record {
        target_in = has_same s.target same.numbers ph.target_in;
        filled_fits = let e = size in let f = ph.filled_fits in omega (arith, e, f);
        filling = λ lt.
            let was = ph.filling (let e = size in omega (arith, lt, e)) in
            others s.target ph.target_in (λ e. cc (sym was ∙ (ap (λ n. (block_at s.blocks n).state) e ∙ st))) ∙ was;
        one_active = λ b has now. ⊎_elim
            (λ a. ⊎_elim
            (λ active. (a, let e = size in let l = active.1 in omega (arith, e, l)))
            (λ sealed. absurd (cc (sym sealed ∙ (ap (λ n. (block_at t n).state) (sym a) ∙ now))))
            here)
            (λ ne. absurd (ne (ph.one_active b (has_same b (back same.numbers) has) (sym (others b (has_same b (back same.numbers) has) ne) ∙ now)).0))
            (cases_eq b s.active);
        one_target = λ b has now.
            let old = has_same b (back same.numbers) has in
            let w = ph.one_target b old (sym (others b old (λ a. ⊎_elim (λ active. cc (sym active.0 ∙ (ap (λ n. (block_at t n).state) (sym a) ∙ now))) (λ sealed. cc (sym sealed ∙ (ap (λ n. (block_at t n).state) (sym a) ∙ now))) here)) ∙ now) in
            (w.0, let e = size in let l = w.1 in omega (arith, e, l));
        one_victim = λ b has now.
            let old = has_same b (back same.numbers) has in
            ph.one_victim b old (sym (others b old (λ a. ⊎_elim (λ active. cc (sym active.0 ∙ (ap (λ n. (block_at t n).state) (sym a) ∙ now))) (λ sealed. cc (sym sealed ∙ (ap (λ n. (block_at t n).state) (sym a) ∙ now))) here)) ∙ now);
        victim_in = λ b named.
            let w = ph.victim_in b named in
            (has_same b same.numbers w.0, others b w.0 (λ a. cc (sym w.1 ∙ (ap (λ n. (block_at s.blocks n).state) a ∙ st))) ∙ w.1);
      }

  pub used_tied : IsTied (record s { held = with_item s.held page x; blocks = t; used = s.used + 1 })
  used_tied = record {
    named = named;
    phases = phases;
    behind = λ p h held copy. ⊎_elim
        (λ e. next_copy s is tied room p (subst (IsNextToProgram (seen s)) (sym e.0) next) (copies p copy))
        (λ e. tied.behind p h e.1 (copies p copy))
        (set_held s.held.items page x within p h held);
  }
