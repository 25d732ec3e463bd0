-- A Free block that was taken for copies.
use Rattle.std.proofs.Common.{◌≡◌, inl, inr, ⊎_elim, ℕ, ◌+◌, ◌-◌, ◌*◌, ◌/◌, ◌%◌, ◌<◌, ◌≤◌, ◌&&◌, not, Bool, true, false, Option, Some, None, length, get_or, is_some, refl, sym, ◌∙◌, ap, subst, arith}
use Rattle.std.specs.Vec.{with_item}
use Rattle.std.proofs.lemmas.Bool.{cases_eq, true≢false}
use Rattle.std.proofs.lemmas.List.{get_or-set_other}
use Rattle.nl_blocks.specs.declared.states.Page.{Page}
use Rattle.nl_blocks.specs.declared.states.PageState.{PageState}
use Rattle.nl_blocks.specs.declared.states.BlockState.TheVariants.{Target, Victim}
use Rattle.nl_blocks.specs.Table.{Table, HasBlock, HasPage, IsBlockTable, block_at, dead_count, free_count, is_dead_state, new_page, page_at}
use Rattle.nl_blocks.proofs.TableLaws.{page_in}
use Rattle.nl_blocks.proofs.TableProofs.{row_size}
use Rattle.nl_pseg.specs.Segment.{Physical, IsNextToProgram, IsNextCopy, IsUnspent, held_at, soiled, wear_with, wear_of}
use Rattle.nl_pseg.specs.Seen.{HasPhases, IsPhysicalFormed, IsNamed, IsTied, seen}
use Rattle.nl_pseg.specs.Space.{dead_in, gain_of, left_in_victim}
use Rattle.nl_pseg.specs.Steps.{IsReadied, IsTargeted, aimed_at}
use Rattle.nl_pseg.specs.Tries.{GivesNoOther}
use Rattle.nl_pseg_blocks.specs.Uses.{Use, use_in, SetsUse, SameMarks, SameNumbers, SameUse}
use Rattle.nl_pseg.specs.declared.held.Held.{Held}
use Rattle.nl_pseg.specs.Kept.{Kept}
use Rattle.nl_pseg.proofs.Numbers.{block_of}
use Rattle.nl_pseg.proofs.Rows.{dead_here, num, sum_same, waiting_same, waiting_used, waits}
use Rattle.nl_pseg_blocks.proofs.Tables.{free_kept, has_same}
use Rattle.nl_pseg.proofs.Taken.{free_other}
use Rattle.nl_pseg.proofs.Tries.{taken_here, taken_kept, taken_page, unspent_others}
use Rattle.nl_pseg.proofs.Tied.{back, named_on}
use Rattle.std.proofs.lemmas.Nat.{mod-mul-add}
use Rattle.nl_pseg.proofs.Wearing.{taken_wear, taken_counts, counts_same}

-- a block whose pages stay as live as they were
pub dead_same : (a b : Table) → IsBlockTable a → IsBlockTable b → SameNumbers a b → (block : ℕ) → HasBlock a block → ((p : ℕ) → HasPage a p → p / a.size ≡ block → (page_at b p).state ≡ (page_at a p).state) → dead_count (block_at b block) ≡ dead_count (block_at a block)
dead_same a b is_a is_b n block has same = sum_same (λ (p : Page). num (is_dead_state p.state)) new_page (block_at b block).pages (block_at a block).pages size each
  where
    long : length (block_at a block).pages ≡ a.size
    long = row_size a is_a block has

    size : length (block_at b block).pages ≡ length (block_at a block).pages
    size = row_size b is_b block (has_same block n has) ∙ (n.same_size ∙ sym long)

    each : (k : ℕ) → k < length (block_at a block).pages → num (is_dead_state (get_or (block_at b block).pages k new_page).state) ≡ num (is_dead_state (get_or (block_at a block).pages k new_page).state)
    each k less =
        let few : k < a.size = subst (λ m. k < m) long less in
        let page = block * a.size + k in
        let at : page / a.size ≡ block = block_of page a.size block (omega arith) (omega (arith, few)) in
        let at_b : page / b.size ≡ block = ap (λ m. page / m) n.same_size ∙ at in
        let rest = mod-mul-add block a.size k few in
        let rest_b : page % b.size ≡ k = ap (λ m. page % m) n.same_size ∙ rest in
        let own : HasPage a page = subst (HasBlock a) (sym at) has in
        let in_a : page_at a page ≡ get_or (block_at a block).pages k new_page = page_in a page block at ∙ ap (λ m. get_or (block_at a block).pages m new_page) rest in
        let in_b : page_at b page ≡ get_or (block_at b block).pages k new_page = page_in b page block at_b ∙ ap (λ m. get_or (block_at b block).pages m new_page) rest_b in
        ap (λ (p : Page). num (is_dead_state p.state)) (sym in_b) ∙ (ap (λ (x : PageState). num (is_dead_state x)) (same page own at) ∙ ap (λ (p : Page). num (is_dead_state p.state)) in_a)

-- a victim that has as many live pages
pub left_over : (old new : Physical) → new.victim ≡ old.victim → new.size ≡ old.size → ((b : ℕ) → old.victim ≡ Some b → dead_in new b ≡ dead_in old b) → (left_in_victim new ≡ left_in_victim old) × (gain_of new ≡ gain_of old)
left_over old new victim size dead = by old.victim refl
  where
    by : (v : Option ℕ) → old.victim ≡ v → (left_in_victim new ≡ left_in_victim old) × (gain_of new ≡ gain_of old)
    by None e = (
      ap (λ v. left_in_victim (record new { victim = v })) (victim ∙ e) ∙ sym (ap (λ v. left_in_victim (record old { victim = v })) e),
      ap (λ v. gain_of (record new { victim = v })) (victim ∙ e) ∙ sym (ap (λ v. gain_of (record old { victim = v })) e),
    )
    by (Some b) e = (
      ap (λ v. left_in_victim (record new { victim = v })) (victim ∙ e) ∙ ((λ i. size i - dead b e i) ∙ sym (ap (λ v. left_in_victim (record old { victim = v })) e)),
      ap (λ v. gain_of (record new { victim = v })) (victim ∙ e) ∙ (dead b e ∙ sym (ap (λ v. gain_of (record old { victim = v })) e)),
    )

module _ (s : Kept) (tied : IsTied s) (t : Table) (is_a : IsBlockTable s.blocks) (is_b : IsBlockTable t) (n : SameNumbers s.blocks t) where
  pub dead_kept : (block : ℕ) → s.victim ≡ Some block → ((p : ℕ) → HasPage s.blocks p → p / s.blocks.size ≡ block → (page_at t p).state ≡ (page_at s.blocks p).state) → dead_in (seen (record s { blocks = t })) block ≡ dead_in (seen s) block
  dead_kept block named same =
      let has = (tied.phases.victim_in block named).0 in
      dead_here t block (has_same block n has) ∙ (dead_same s.blocks t is_a is_b n block has same ∙ sym (dead_here s.blocks block has))

module _ (s : Kept) (block : ℕ) (k : IsTargeted s block) (some : 0 < s.blocks.size) (target : (block_at s.blocks block).state ≡ Target) (idle : (p : ℕ) (h : Held) → held_at (seen s) p ≡ Some h → p / s.blocks.size ≡ block → ⊥) where
  abbrev before : Kept
  before = record s { blocks = k.table }

  abbrev after : Kept
  after = record s { soiled = with_item s.soiled block None; target = block; filled = 0 }

  size : s.blocks.size ≡ k.table.size
  size = k.restated.numbers.same_size

  copy_in : (p : ℕ) → IsNextCopy (seen after) p → p / s.blocks.size ≡ block
  copy_in p n = block_of p s.blocks.size block (omega (arith, n.0)) (omega (arith, n.1))

  nexts : (p : ℕ) → IsNextToProgram (seen after) p → IsNextToProgram (seen before) p
  nexts p n =
      let a : s.active * s.blocks.size ≡ s.active * k.table.size = ap (λ m. s.active * m) size in
      let e = size in
      (omega (arith, a, n.0), omega (arith, a, e, n.1))

  named : IsNamed after
  named = named_on before after k.tied.named refl k.restated.numbers
      (λ p h held old. k.tied.named.own p h held old)
      (λ pair has. k.tied.named.to_live pair has)
      (λ n old w.
      let used : (use_in k.table (n / s.blocks.size)).is_free ≡ false = ap (λ m. (use_in k.table (n / m)).is_free) size ∙ w.in_use in
      let ne : n / s.blocks.size ≡ block → ⊥ = (λ e. true≢false (sym k.was_free ∙ (ap (λ b. (use_in k.table b).is_free) (sym e) ∙ used))) in
      record {
        in_use = ap (λ (u : Use). u.is_free) (k.restated.others (n / s.blocks.size) ne) ∙ used;
        behind = λ next. w.behind (nexts n next);
        copy_behind = λ copy. ne (copy_in n copy);
      })
      (λ b names has st. ⊎_elim
      (λ e. absurd (cc (sym target ∙ (ap (λ n. (block_at s.blocks n).state) (sym e) ∙ st))))
      (λ ne. sym (k.restated.states b has ne) ∙ st)
      (cases_eq b block))

  phases : HasPhases after
  phases =
      let ph = k.tied.phases in
      let n = k.restated.numbers in
      let e = size in
      record {
        target_in = has_same block n k.had;
        filled_fits = omega arith;
        filling = λ lt. target;
        one_active = λ b has now.
            let old = has_same b (back n) has in
            let w = ph.one_active b old (sym (k.restated.states b old (λ a. cc (sym target ∙ (ap (λ m. (block_at s.blocks m).state) (sym a) ∙ now)))) ∙ now) in
            (w.0, let l = w.1 in omega (arith, e, l));
        one_target = λ b has now. ⊎_elim
            (λ a. (a, omega (arith, some)))
            (λ ne.
            let old = has_same b (back n) has in
            let w = ph.one_target b old (sym (k.restated.states b old ne) ∙ now) in
            let l = w.1 in let f = k.full in absurd (omega (arith, l, f, e)))
            (cases_eq b block);
        one_victim = λ b has now.
            let old = has_same b (back n) has in
            ph.one_victim b old (sym (k.restated.states b old (λ a. cc (sym target ∙ (ap (λ m. (block_at s.blocks m).state) (sym a) ∙ now)))) ∙ now);
        victim_in = λ b named.
            let w = ph.victim_in b named in
            (has_same b n w.0, k.restated.states b w.0 (free_other k.table block b Victim k.had k.was_free refl w.1) ∙ w.1);
      }

  pub aimed_tied : IsTied (record s { soiled = with_item s.soiled block None; target = block; filled = 0 })
  aimed_tied = record { named = named; phases = phases; behind = λ p h held copy. idle p h held (copy_in p copy) }

-- a Free block was taken, and copies are programmed in it
module _ (s : Kept) (is : IsPhysicalFormed s) (tied : IsTied s) (t : Table) (block : ℕ) (is_a : IsBlockTable s.blocks) (is_b : IsBlockTable t) (full : s.blocks.size ≤ s.filled) (r : SetsUse block false (wear_of (seen s) block) s.blocks t) (free : (use_in s.blocks block).is_free ≡ true) where
  pub aimed_readied : IsReadied (seen s) (aimed_at (seen (record s { blocks = t })) block)
  aimed_readied =
      let n = r.numbers in
      let new = aimed_at (seen (record s { blocks = t })) block in
      let was : num (use_in s.blocks block).is_free ≡ 1 = ap num free in
      let total = r.total in
      let fewer : free_count t + 1 ≡ free_count s.blocks = omega (arith, was, total) in
      let over = left_over (seen s) new refl n.same_size (λ b named. dead_kept s tied t is_a is_b n b named (λ p has at. r.marks.same p has)) in
      record {
        pages = record {
          same_first = n.same_first;
          same_blocks = λ i. n.same_first i + n.same_count i;
          same_size = n.same_size;
          same_wear = taken_wear s t block r;
        };
        held = refl;
        pairs = refl;
        pair_room = refl;
        victim = refl;
        next = (λ i. s.active * n.same_size i + s.used, λ i. n.same_size i - s.used);
        waits = waiting_same s.blocks t n (λ b has. ⊎_elim
            (λ at. ap (λ m. num (waits (use_in t m))) at ∙ (ap (λ (u : Use). num (waits u)) r.here ∙ (sym (not_waiting (use_in s.blocks block) free) ∙ ap (λ m. num (waits (use_in s.blocks m))) (sym at))))
            (λ ne. ap (λ (u : Use). num (waits u)) (r.others b ne))
            (cases_eq b block));
        left = over.0;
        gain = over.1;
        lands =
            let e = n.same_size in
            let a : free_count t * t.size ≡ free_count t * s.blocks.size = ap (λ m. free_count t * m) e in
            let b : free_count s.blocks * s.blocks.size ≡ (free_count t + 1) * s.blocks.size = ap (λ m. m * s.blocks.size) (sym fewer) in
            let d : (free_count t + 1) * s.blocks.size ≡ free_count t * s.blocks.size + s.blocks.size = omega arith in
            omega (arith, a, b, d, e, full);
        frees = λ b now. ⊎_elim
            (λ at. absurd (true≢false (sym now ∙ (ap (λ m. (use_in t m).is_free) at ∙ ap (λ (u : Use). u.is_free) r.here))))
            (λ ne. ap (λ (u : Use). u.is_free) (sym (r.others b ne)) ∙ now)
            (cases_eq b block);
        wears = record { each = taken_counts s t block free r };
        fewer = omega (arith, fewer);
        most = omega (arith, fewer);
        clean = λ clean b now. ⊎_elim
            (λ at. absurd (true≢false (sym now ∙ (ap (λ m. (use_in t m).is_kept) at ∙ ap (λ (u : Use). u.is_kept) r.here))))
            (λ ne. ap is_some (get_or-set_other s.soiled.items block b None None ne) ∙ clean b (sym (ap (λ (u : Use). u.is_kept) (r.others b ne)) ∙ now))
            (cases_eq b block);
        first = inr (omega (arith, full), ap (λ b. (use_in s.blocks b).is_free) (at_block (block * t.size) (omega arith) (let e = n.same_size in let some = is.some in omega (arith, e, some))) ∙ free);
        others = given;
      }
    where
      at_block : (p : ℕ) → block * t.size ≤ p → p < block * t.size + t.size → p / s.blocks.size ≡ block
      at_block p from below = ap (λ m. p / m) (sym r.numbers.same_size) ∙ block_of p t.size block from below

      given : GivesNoOther (seen s) (aimed_at (seen (record s { blocks = t })) block)
      given p (inl (inl next)) =
          let e = r.numbers.same_size in
          let a : s.active * t.size ≡ s.active * s.blocks.size = ap (λ m. s.active * m) e in
          inl (inl (inl (omega (arith, a, next.0), omega (arith, a, e, next.1))))
      given p (inl (inr k)) =
          inl (taken_kept (seen s) (aimed_at (seen (record s { blocks = t })) block) (aimed_at (seen (record s { blocks = t })) block) block r.numbers.same_size free (free_kept s.blocks block free) (ap (λ (u : Use). u.is_free) r.here) (ap (λ (u : Use). u.is_kept) r.here) r.others refl p k.0 k.1)
      given p (inr copy) =
          taken_page (seen s) (aimed_at (seen (record s { blocks = t })) block) (aimed_at (seen (record s { blocks = t })) block) block r.numbers.same_size free (free_kept s.blocks block free) (ap (λ (u : Use). u.is_free) r.here) (ap (λ (u : Use). u.is_kept) r.here) r.others refl p (at_block p copy.0 copy.1)
          (taken_here (seen s) (aimed_at (seen (record s { blocks = t })) block) (aimed_at (seen (record s { blocks = t })) block) block r.numbers.same_size free (free_kept s.blocks block free) (ap (λ (u : Use). u.is_free) r.here) (ap (λ (u : Use). u.is_kept) r.here) r.others refl)

      not_waiting : (u : Use) → u.is_free ≡ true → num (waits u) ≡ 0
      not_waiting u yes_free = ap (λ f. num (u.is_kept && not f)) yes_free ∙ none u.is_kept
        where
          none : (b : Bool) → num (b && false) ≡ 0
          none true = refl
          none false = refl

-- the block is Free again
module _ (s : Kept) (is : IsPhysicalFormed s) (tied : IsTied s) (t : Table) (is_a : IsBlockTable s.blocks) (is_b : IsBlockTable t) (same : SameUse s.blocks t) (marks : SameMarks s.blocks t) where
  pub again_unspent : IsUnspent (seen s) (seen (record s { blocks = t }))
  again_unspent =
      let n = same.numbers in
      record {
        next = λ i. s.active * n.same_size i + s.used;
        left = λ i. n.same_size i - s.used;
        free = same.total;
        same_free = λ b. ap (λ (u : Use). u.is_free) (same.uses b);
        same_kept = λ b. ap (λ (u : Use). u.is_kept) (same.uses b);
        same_erasures = λ b. ap (λ (u : Use). u.wear) (same.uses b);
        same_soiled = λ b. refl;
        copies = (λ i. s.target * n.same_size i + s.filled, λ i. n.same_size i - s.filled);
      }

  pub again_readied : IsReadied (seen s) (seen (record s { blocks = t }))
  again_readied =
      let n = same.numbers in
      let over = left_over (seen s) (seen (record s { blocks = t })) refl n.same_size (λ b named. dead_kept s tied t is_a is_b n b named (λ p has at. marks.same p has)) in
      record {
        pages = record { same_first = n.same_first; same_blocks = λ i. n.same_first i + n.same_count i; same_size = n.same_size; same_wear = λ b. ap (λ (u : Use). wear_with u (soiled (seen s) b)) (same.uses b) };
        held = refl;
        pairs = refl;
        pair_room = refl;
        victim = refl;
        next = (λ i. s.active * n.same_size i + s.used, λ i. n.same_size i - s.used);
        waits = waiting_used s.blocks t same;
        left = over.0;
        gain = over.1;
        lands = λ i. same.total i * n.same_size i + (n.same_size i - s.filled);
        frees = λ b now. ap (λ (u : Use). u.is_free) (sym (same.uses b)) ∙ now;
        wears = counts_same (λ b. ap (λ (u : Use). u.wear) (same.uses b)) (λ b. refl);
        fewer = let e = same.total in omega (arith, e);
        most = let e = same.total in omega (arith, e);
        clean = λ clean b now. clean b (sym (ap (λ (u : Use). u.is_kept) (same.uses b)) ∙ now);
        first = inl (λ i. s.target * n.same_size i + s.filled, λ i. n.same_size i - s.filled);
        others = unspent_others n.same_size again_unspent;
      }
