-- Nothing more is programmed in a block: it is in none of the states in which pages are used.
use Rattle.std.proofs.Common.{◌≡◌, inl, inr, ⊎_elim, ℕ, ◌-◌, ◌/◌, ◌%◌, ◌<◌, ◌≤◌, Bool, false, refl, sym, ◌∙◌, ap, subst, arith}
use Rattle.std.proofs.lemmas.Bool.{cases_eq}
use Rattle.nl_blocks.specs.declared.states.BlockState.{BlockState}
use Rattle.nl_blocks.specs.declared.states.BlockState.TheVariants.{Sealed}
use Rattle.nl_blocks.specs.Table.{Table, block_at}
use Rattle.nl_blocks.specs.Used.{is_active_state, is_target_state, used_in}
use Rattle.nl_blocks.proofs.UsedLaws.{used-full}
use Rattle.nl_pseg.specs.Kept.{Kept, kept}
use Rattle.nl_pseg.specs.Segment.{IsNextToProgram, TakenAsErased}
use Rattle.nl_pseg.specs.Seen.{IsPhysicalFormed, IsTied, seen}
use Rattle.nl_pseg.specs.Steps.{ClosesBlock}
use Rattle.nl_pseg_blocks.specs.Uses.{SetsUse, SameFill, SameFillBeside, SameNumbers, SameUse, CountsUsedPage}
use Rattle.nl_pseg.specs.declared.state.State.{State}
use Rattle.nl_pseg.proofs.States.{next_block}
use Rattle.nl_pseg_blocks.proofs.Tables.{IsShut, has_same, numbers_then, shut_sealed}

-- a state is the same with numbers of used pages that are equal
pub as_counted : (s : Kept) (u f : ℕ) → u ≡ s.used → f ≡ s.filled → s ≡ record s { used = u; filled = f }
as_counted s u f used filled i = record s { used = sym used i; filled = sym filled i }

-- a page of a block in another state is one of those that are used
pub shut_used : (kind : BlockState → Bool) (t : Table) (page : ℕ) → 0 < t.size → kind (block_at t (page / t.size)).state ≡ false → page % t.size < used_in kind t (page / t.size)
shut_used kind t page some other = let u = used-full kind t (page / t.size) other in omega (arith, u, some)

-- what a state with the same table says where nothing more is programmed in a block
pub record Closing (block : ℕ) (s m : Kept) : Type 0 where
  pub formed : IsPhysicalFormed m
  pub used : s.used ≤ m.used
  pub left : m.blocks.size - m.used ≤ s.blocks.size - s.used
  pub idle : m.used < m.blocks.size → block ≡ m.active → ⊥
  pub erased : (p : ℕ) → TakenAsErased (seen m) p → TakenAsErased (seen s) p
  pub still : (p : ℕ) → TakenAsErased (seen s) p → (p / s.blocks.size ≡ block → ⊥) → TakenAsErased (seen m) p
  pub shut : ClosesBlock block s m

module _ (s : Kept) (is : IsPhysicalFormed s) (block u f : ℕ) (i : ClosesBlock block s (record s { used = u; filled = f })) where
  abbrev m : Kept
  m = record s { used = u; filled = f }

  next_was : (p : ℕ) → IsNextToProgram (seen m) p → IsNextToProgram (seen s) p
  next_was p next = ⊎_elim
      (λ here. let e = here.1 in absurd (omega (arith, e, next.0, next.1)))
      (λ there. let e = there.1 in (omega (arith, e, next.0), omega (arith, e, next.0, next.1)))
      i.used

  closed_formed : IsPhysicalFormed m
  closed_formed = record {
    some = is.some;
    numbers = is.numbers;
    pages = is.pages;
    marks = is.marks;
    active_in = is.active_in;
    used_fits = let fits = is.used_fits in ⊎_elim (λ here. let e = here.1 in omega (arith, e)) (λ there. let e = there.1 in omega (arith, e, fits)) i.used;
    taken = λ lt. ⊎_elim (λ here. let e = here.1 in absurd (omega (arith, e, lt))) (λ there. let e = there.1 in is.taken (omega (arith, e, lt))) i.used;
    marked = is.marked;
    places = record {
      each = λ p h held.
          let was = is.places.each p h held in
          record { within = was.within; in_use = was.in_use; behind = λ next. was.behind (next_was p next); spelled = was.spelled };
    };
  }

  erased_was : (p : ℕ) → TakenAsErased (seen m) p → TakenAsErased (seen s) p
  erased_was p (inl next) = inl (next_was p next)
  erased_was p (inr free) = inr free

  erased_still : (p : ℕ) → TakenAsErased (seen s) p → (p / s.blocks.size ≡ block → ⊥) → TakenAsErased (seen m) p
  erased_still p (inl next) ne = ⊎_elim
      (λ here. let room : s.used < s.blocks.size = omega (arith, next.0, next.1) in absurd (ne (next_block s is room p next ∙ sym here.0)))
      (λ there. let e = there.1 in inl (omega (arith, e, next.0), omega (arith, e, next.0, next.1)))
      i.used
  erased_still p (inr free) ne = inr free

  pub closed : Closing block s m
  closed = record {
    formed = closed_formed;
    used = let fits = is.used_fits in ⊎_elim (λ here. let e = here.1 in omega (arith, e, fits)) (λ there. let e = there.1 in omega (arith, e)) i.used;
    left = ⊎_elim (λ here. let e = here.1 in omega (arith, e)) (λ there. let e = there.1 in omega (arith, e)) i.used;
    idle = λ room at. ⊎_elim (λ here. let e = here.1 in omega (arith, e, room)) (λ there. there.0 at) i.used;
    erased = erased_was;
    still = erased_still;
    shut = i;
  }

-- the state before, with the numbers of the table that is after
abbrev pub closed_by : State → Table → Kept
closed_by s t = record (kept s) { used = used_in is_active_state t s.active; filled = used_in is_target_state t s.target }

module _ (s : State) (is : IsPhysicalFormed (kept s)) (tied : IsTied (kept s)) (t : Table) (n : SameNumbers s.blocks t) where
  module _ (block : ℕ) (fill : SameFillBeside block s.blocks t) (shut : IsShut (block_at t block).state) where
    is_idle : ClosesBlock block (kept s) (closed_by s t)
    is_idle = record {
      active = refl;
      target = refl;
      used = ⊎_elim
          (λ e. inl (e, ap (used_in is_active_state t) (sym e) ∙ (used-full is_active_state t block shut.active ∙ n.same_size)))
          (λ ne. inr (ne, fill.used s.active is.active_in (λ e. ne (sym e))))
          (cases_eq block s.active);
      filled = ⊎_elim
          (λ e. inl (e, ap (used_in is_target_state t) (sym e) ∙ (used-full is_target_state t block shut.target ∙ n.same_size)))
          (λ ne. inr (ne, fill.filled s.target tied.phases.target_in (λ e. ne (sym e))))
          (cases_eq block s.target);
    }

    pub closing : Closing block (kept s) (closed_by s t)
    closing = closed (kept s) is block (used_in is_active_state t s.active) (used_in is_target_state t s.target) is_idle

-- as many pages are used as before
pub same_counted : (s : State) → IsPhysicalFormed (kept s) → IsTied (kept s) → (t : Table) → SameFill s.blocks t → kept s ≡ closed_by s t
same_counted s is tied t fill = as_counted (kept s) (used_in is_active_state t s.active) (used_in is_target_state t s.target) (fill.used s.active is.active_in) (fill.filled s.target tied.phases.target_in)

-- a block was shut, and a page of it marked
pub marked_closing : (s : State) → IsPhysicalFormed (kept s) → IsTied (kept s) → (block page wear : ℕ) (mid t : Table) → SetsUse block false wear s.blocks mid → (block_at mid block).state ≡ Sealed → page / mid.size ≡ block → SameUse mid t
    → ((b : ℕ) → (block_at t b).state ≡ (block_at mid b).state) → CountsUsedPage is_active_state page mid t → CountsUsedPage is_target_state page mid t → Closing block (kept s) (closed_by s t)
marked_closing s is tied block page wear mid t r sealed at same states uses fills =
    let some : 0 < mid.size = subst (λ k. 0 < k) (sym r.numbers.same_size) is.some in
    let state : (block_at mid (page / mid.size)).state ≡ Sealed = ap (λ b. (block_at mid b).state) at ∙ sealed in
    closing s is tied t (numbers_then r.numbers same.numbers) block
    (record {
      used = λ other has ne. uses.again (shut_used is_active_state mid page some (ap is_active_state state)) other (has_same other r.numbers has) ∙ r.fill.used other has ne;
      filled = λ other has ne. fills.again (shut_used is_target_state mid page some (ap is_target_state state)) other (has_same other r.numbers has) ∙ r.fill.filled other has ne;
    })
    (shut_sealed (block_at t block).state (states block ∙ sealed))
