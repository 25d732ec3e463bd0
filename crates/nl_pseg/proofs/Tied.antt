-- How the pairs of a state, and what its blocks are used for, go on.
use Rattle.std.proofs.Common.{◌≡◌, ⊎_elim, ℕ, ◌+◌, ◌*◌, ◌/◌, ◌<◌, true, Some, None, length, refl, sym, ◌∙◌, ap, subst, arith}
use Rattle.std.proofs.lemmas.Bool.{true≢false}
use Rattle.std.specs.Vec.{with_item}
use Rattle.std.proofs.lemmas.Option.{none-some}
use Rattle.std.proofs.lemmas.List.{get_or-map, get_or-set_other, length-map}
use Rattle.nl_blocks.specs.declared.states.BlockState.{BlockState}
use Rattle.nl_blocks.specs.declared.states.BlockState.TheVariants.{Active, Target, Victim, Retired}
use Rattle.nl_blocks.specs.Table.{Table, HasBlock, block_at, is_free_state}
use Rattle.nl_remap.specs.Links.{HasLink, link_at, no_link}
use Rattle.nl_remap.specs.Table.{IsOld, IsRemap, pair}
use Rattle.nl_remap.specs.declared.links.Link.{Link}
use Rattle.nl_pseg_names.specs.OldNames.{NameTable, names_among}
use Rattle.nl_pseg.specs.Segment.{IsNextToProgram, IsNextCopy, IsOldName, held_at, is_free}
use Rattle.nl_pseg.specs.Seen.{HasPhases, IsPhysicalFormed, IsNamed, IsOldNameInUse, IsTied, seen}
use Rattle.nl_pseg_blocks.specs.Uses.{Use, use_in, SameNumbers, SameUse}
use Rattle.nl_pseg.specs.declared.held.Held.{Held}
use Rattle.nl_pseg.specs.Kept.{Kept}
use Rattle.nl_pseg.proofs.Numbers.{block_of}
use Rattle.nl_pseg.proofs.Segments.{set_held}
use Rattle.nl_pseg.proofs.States.{next_block}
use Rattle.nl_pseg_blocks.proofs.Tables.{has_same, use_here}

pub back : {a b : Table} → SameNumbers a b → SameNumbers b a
back n = record { same_first = sym n.same_first; same_size = sym n.same_size; same_count = sym n.same_count }

-- What is tied to the names stays so where the pairs are the same: each old name stands still and is no live page, each pair leads
-- to a live page, and no other block waits.
pub named_on : (s x : Kept) → IsNamed s → x.names ≡ s.names → SameNumbers s.blocks x.blocks → ((p : ℕ) (h : Held) → held_at (seen x) p ≡ Some h → IsOld s.names.pairs p → ⊥)
    → ((pair : Link) → HasLink s.names.pairs pair → (h : Held) × (held_at (seen x) pair.to ≡ Some h)) → ((n : ℕ) → IsOld s.names.pairs n → IsOldNameInUse (seen s) n → IsOldNameInUse (seen x) n)
    → ((b k : ℕ) → HasBlock s.blocks b → (block_at x.blocks b).state ≡ Retired k → (block_at s.blocks b).state ≡ Retired k) → IsNamed x
named_on s x is same n own live stands waits = record {
  size = ap (λ (t : NameTable). t.size) same ∙ (is.size ∙ sym n.same_size);
  blocks = ap (λ (t : NameTable). t.blocks) same ∙ (is.blocks ∙ (λ i. sym n.same_first i + sym n.same_count i));
  room = ap (λ (t : NameTable). length t.pairs + t.room) same ∙ (is.room ∙ ap (λ k. 4 * k) (sym n.same_size));
  remap = subst (λ (t : NameTable). IsRemap t.pairs) (sym same) is.remap;
  standing = λ name old. let was : IsOld s.names.pairs name = subst (λ (t : NameTable). IsOld t.pairs name) same old in stands name was (is.standing name was);
  own = λ p h held old. own p h held (subst (λ (t : NameTable). IsOld t.pairs p) same old);
  to_live = λ pair has. live pair (subst (λ (t : NameTable). HasLink t.pairs pair) same has);
  waits = λ b k has state. is.waits b k (has_same b (back n) has) (waits b k (has_same b (back n) has) state) ∙ (λ i. names_among (sym n.same_size i) b (sym same i).pairs);
}

-- The states of all blocks but one are as they were, and that one's is none of those that are written to, or it is one that is.
pub record Stays (s x : Kept) (block : ℕ) (state : BlockState) : Type 0 where
  pub numbers : SameNumbers s.blocks x.blocks
  pub here : (block_at x.blocks block).state ≡ state
  pub others : (b : ℕ) → HasBlock s.blocks b → (b ≡ block → ⊥) → (block_at x.blocks b).state ≡ (block_at s.blocks b).state

-- all states are as they were
pub phases_same : (s x : Kept) → HasPhases s → SameNumbers s.blocks x.blocks → ((b : ℕ) → (block_at x.blocks b).state ≡ (block_at s.blocks b).state)
    → x.active ≡ s.active → x.used ≡ s.used → x.target ≡ s.target → x.filled ≡ s.filled → x.victim ≡ s.victim → HasPhases x
phases_same s x is n states active used target filled victim = record {
  target_in = subst (HasBlock x.blocks) (sym target) (has_same s.target n is.target_in);
  filled_fits = let e = n.same_size in let f = is.filled_fits in omega (arith, e, f, filled);
  filling = λ lt. ap (λ b. (block_at x.blocks b).state) target ∙ (states s.target ∙ is.filling (let e = n.same_size in omega (arith, lt, e, filled)));
  one_active = λ b has st. let w = is.one_active b (has_same b (back n) has) (sym (states b) ∙ st) in (w.0 ∙ sym active, let l = w.1 in let e = n.same_size in omega (arith, l, e, used));
  one_target = λ b has st. let w = is.one_target b (has_same b (back n) has) (sym (states b) ∙ st) in (w.0 ∙ sym target, let l = w.1 in let e = n.same_size in omega (arith, l, e, filled));
  one_victim = λ b has st. victim ∙ is.one_victim b (has_same b (back n) has) (sym (states b) ∙ st);
  victim_in = λ b named. let w = is.victim_in b (sym victim ∙ named) in (has_same b n w.0, states b ∙ w.1);
}

-- an old name that is seen is one of the table
pub old_is : (s : Kept) (n : ℕ) → IsOldName (seen s) n → IsOld s.names.pairs n
old_is s n old =
    let turn : Link → ℕ × ℕ = λ p. (p.from, p.to) in
    let within : old.1.0 < length s.names.pairs = subst (λ k. old.1.0 < k) (length-map s.names.pairs turn) old.1.1 in
    let e : turn (link_at s.names.pairs old.1.0) ≡ (n, old.0) = sym (get_or-map turn s.names.pairs old.1.0 no_link (n, old.0) within) ∙ old.1.2 in
    (old.1.0, within, ap (λ (p : ℕ × ℕ). p.0) e)

module _ (s : Kept) (is : IsPhysicalFormed s) (tied : IsTied s) where
  -- a page that is taken for a copy lies in a Target block
  pub copy_target : (p : ℕ) → IsNextCopy (seen s) p → (p / s.blocks.size ≡ s.target) × ((block_at s.blocks s.target).state ≡ Target)
  copy_target p next =
      let some = is.some in
      let fits = tied.phases.filled_fits in
      let room : s.filled < s.blocks.size = omega (arith, next.0, next.1) in
      (block_of p s.blocks.size s.target (omega (arith, next.0)) (omega (arith, next.1, fits)), tied.phases.filling room)

  -- a page of a kept block is no old name, where that is Free, and none for copies; nor is it in the victim
  pub free_own : (block : ℕ) → is_free (seen s) block ≡ true → (p : ℕ) → p / s.blocks.size ≡ block → IsOldName (seen s) p → ⊥
  free_own block free p at old = true≢false (sym free ∙ (ap (is_free (seen s)) (sym at) ∙ (tied.named.standing p (old_is s p old)).in_use))

  module _ (block : ℕ) (has : HasBlock s.blocks block) (state : BlockState) (st : (block_at s.blocks block).state ≡ state) where
    pub not_victim : (state ≡ Victim → ⊥) → s.victim ≡ Some block → ⊥
    not_victim other named = other (sym st ∙ (tied.phases.victim_in block named).1)

    pub not_copy : (state ≡ Target → ⊥) → (p : ℕ) → IsNextCopy (seen s) p → p / s.blocks.size ≡ block → ⊥
    not_copy other p next at =
        let w = copy_target p next in
        other (sym st ∙ (ap (λ b. (block_at s.blocks b).state) (sym at ∙ w.0) ∙ w.1))

  -- a page that is programmed next is no old name, none for copies, and not in the victim
  pub next_own : (p : ℕ) → IsNextToProgram (seen s) p → IsOldName (seen s) p → ⊥
  next_own p next old = (tied.named.standing p (old_is s p old)).behind next

  module _ (room : s.used < s.blocks.size) where
    pub next_copy : (p : ℕ) → IsNextToProgram (seen s) p → IsNextCopy (seen s) p → ⊥
    next_copy p next copy = not_copy s.active is.active_in Active (is.taken room) (λ e. cc e) p copy (next_block s is room p next)

    pub next_apart : (p : ℕ) → IsNextToProgram (seen s) p → s.victim ≡ Some (p / s.blocks.size) → ⊥
    next_apart p next at = not_victim s.active is.active_in Active (is.taken room) (λ e. cc e) (at ∙ ap (λ b. Some b) (next_block s is room p next))

  module _ (block : ℕ) (has : HasBlock s.blocks block) (free : is_free (seen s) block ≡ true) where
    free_is : is_free_state (block_at s.blocks block).state ≡ true
    free_is = sym (ap (λ (u : Use). u.is_free) (use_here s.blocks block has)) ∙ free

    pub free_apart : s.victim ≡ Some block → ⊥
    free_apart = not_victim block has (block_at s.blocks block).state refl (λ e. true≢false (sym free_is ∙ ap (λ (b : BlockState). is_free_state b) e))

    pub free_copy : (p : ℕ) → IsNextCopy (seen s) p → p / s.blocks.size ≡ block → ⊥
    free_copy = not_copy block has (block_at s.blocks block).state refl (λ e. true≢false (sym free_is ∙ ap (λ (b : BlockState). is_free_state b) e))

-- a live page died, to which no pair leads
pub ended_tied : (s : Kept) → IsTied s → (t : Table) → SameUse s.blocks t → ((b : ℕ) → (block_at t b).state ≡ (block_at s.blocks b).state) → (page : ℕ) → page < length s.held.items → ((name : ℕ) → HasLink s.names.pairs (pair name page) → ⊥)
    → IsTied (record s { held = with_item s.held page None; blocks = t })
ended_tied s tied t same states page within alone =
    let x : Kept = record s { held = with_item s.held page None; blocks = t } in
    let e = same.numbers.same_size in
    let was = λ (p : ℕ) (h : Held) (held : held_at (seen x) p ≡ Some h). ⊎_elim (λ here. absurd (none-some h here.1)) (λ there. there.1) (set_held s.held.items page None within p h held) in
    let copies = λ (p : ℕ) (n : IsNextCopy (seen x) p). copy_back s t same p n in
    record {
      named = named_on s x tied.named refl same.numbers
          (λ p h held old. tied.named.own p h (was p h held) old)
          (λ l has.
          let live = tied.named.to_live l has in
          (live.0, get_or-set_other s.held.items page l.to None None (λ at. alone l.from (subst (λ k. HasLink s.names.pairs (pair l.from k)) at has)) ∙ live.1))
          (λ m old w. record {
            in_use = ap (λ (u : Use). u.is_free) (same.uses (m / t.size)) ∙ (ap (λ k. (use_in s.blocks (m / k)).is_free) e ∙ w.in_use);
            behind = λ next. w.behind (next_same s t same m next);
            copy_behind = λ copy. w.copy_behind (copies m copy);
          })
          (λ b names has st. sym (states b) ∙ st);
      phases = phases_same s x tied.phases same.numbers states refl refl refl refl refl;
      behind = λ p h held copy. tied.behind p h (was p h held) (copies p copy);
    }
  where
    next_same : (s : Kept) (t : Table) → SameUse s.blocks t → (p : ℕ) → IsNextToProgram (seen (record s { blocks = t })) p → IsNextToProgram (seen s) p
    next_same s t same p n =
        let e = same.numbers.same_size in
        let a : s.active * t.size ≡ s.active * s.blocks.size = ap (λ m. s.active * m) e in
        (omega (arith, a, n.0), omega (arith, a, e, n.1))

    copy_back : (s : Kept) (t : Table) → SameUse s.blocks t → (p : ℕ) → IsNextCopy (seen (record s { blocks = t })) p → IsNextCopy (seen s) p
    copy_back s t same p n =
        let e = same.numbers.same_size in
        let a : s.target * t.size ≡ s.target * s.blocks.size = ap (λ m. s.target * m) e in
        (omega (arith, a, n.0), omega (arith, a, e, n.1))
