-- A victim that was erased.
use Rattle.std.proofs.Common.{◌≡◌, ◌⊎◌, inl, inr, ⊎_elim, ℕ, zero, suc, ◌+◌, ◌-◌, ◌*◌, ◌/◌, ◌<◌, ◌≤◌, ◌&&◌, not, count_by, Some, None, true, false, map, refl, sym, ◌∙◌, ap, subst, arith}
use Rattle.std.proofs.lemmas.Bool.{cases_eq, true≢false}
use Rattle.std.proofs.lemmas.List.{get_or-set_other, get_or-set_same, length-set}
use Rattle.std.proofs.lemmas.Option.{none-some, same_Some}
use Rattle.std.specs.Vec.{with_item}
use Rattle.nl_blocks.specs.declared.states.BlockState.{BlockState}
use Rattle.nl_blocks.specs.declared.states.BlockState.TheVariants.{Active, Free, Retired, Target, Victim}
use Rattle.nl_blocks.specs.Table.{BlockRow, Table, HasBlock, IsBlockTable, after_erase, block_at, erased_row, free_count, is_free_state, with_block, worn}
use Rattle.nl_blocks.proofs.TableLaws.{block_at-with_block_other, block_at-with_block_same, sum_by-with_block}
use Rattle.nl_remap.specs.Table.{IsOld}
use Rattle.nl_pseg.specs.Cleaning.{ErasesBlock}
use Rattle.nl_pseg_names.specs.OldNames.{names_among}
use Rattle.nl_pseg.specs.Segment.{held_at, row_in}
use Rattle.nl_pseg.specs.Seen.{HasPhases, IsPhysicalFormed, IsNamed, IsTied, row_of, seen}
use Rattle.nl_pseg.specs.Space.{gain_of, left_in_victim}
use Rattle.nl_pseg_blocks.specs.Uses.{Use, is_kept_state, use_in, use_of, SameFill, SameMarks, SameNumbers}
use Rattle.nl_pseg.specs.Kept.{Kept}
use Rattle.nl_pseg.proofs.Forms.{formed_marks, formed_table}
use Rattle.nl_pseg.proofs.Left.{none_live}
use Rattle.nl_pseg_names.proofs.Named.{names_some}
use Rattle.nl_pseg.proofs.Numbers.{block_from}
use Rattle.nl_pseg.proofs.Rows.{dead_here, num, sum_map, waits}
use Rattle.nl_pseg_blocks.proofs.Tables.{fill_shut, has_same, row_here, same_marks, shut_after, shut_risen, shut_victim, use_here, use_other, with_has}
use Rattle.nl_pseg.proofs.Tied.{back, old_is}

kept_after : (n : ℕ) → is_kept_state (after_erase n) ≡ true
kept_after zero = refl
kept_after (suc n) = refl

free_after : (n : ℕ) → (is_free_state (after_erase n) ≡ true) ⊎ (is_free_state (after_erase n) ≡ false)
free_after zero = inl refl
free_after (suc n) = inr refl

used_after : (n : ℕ) → 0 < n → is_free_state (after_erase n) ≡ false
used_after zero some = absurd (omega (arith, some))
used_after (suc n) some = refl

-- the state after an erase is none of a block in use
not_after : (n : ℕ) (state : BlockState) → is_kept_state state ≡ false → after_erase n ≡ state → ⊥
not_after n state used e = true≢false (sym (kept_after n) ∙ (ap (λ (b : BlockState). is_kept_state b) e ∙ used))

retired_after : (n k : ℕ) → after_erase n ≡ Retired k → n ≡ k
retired_after zero k e = absurd (true≢false (ap (λ (b : BlockState). is_free_state b) e))
retired_after (suc n) k e = names_same e
  where
    names_in : BlockState → ℕ
    names_in Free = 0
    names_in Active = 0
    names_in Target = 0
    names_in Victim = 0
    names_in (Retired m) = m
    names_in _ = 0

    names_same : Retired (suc n) ≡ Retired k → suc n ≡ k
    names_same same = ap names_in same

module _ (s : Kept) (is : IsPhysicalFormed s) (tied : IsTied s) (table : IsBlockTable s.blocks) (block : ℕ) (named_is : s.victim ≡ Some block) (dead : (p : ℕ) → p / s.blocks.size ≡ block → held_at (seen s) p ≡ None)
    (n : ℕ) (counted : n ≡ names_among s.blocks.size block s.names.pairs) where
  abbrev row : BlockRow
  row = erased_row (block_at s.blocks block) n

  abbrev t : Table
  t = with_block s.blocks block row

  abbrev after : Kept
  after = record s { blocks = t; soiled = with_item s.soiled block None; victim = None }

  has : HasBlock s.blocks block
  has = (tied.phases.victim_in block named_is).0

  was : (block_at s.blocks block).state ≡ Victim
  was = (tied.phases.victim_in block named_is).1

  now : (block_at t block).state ≡ after_erase n
  now = ap (λ (r : BlockRow). r.state) (block_at-with_block_same s.blocks block row has)

  others : (b : ℕ) → HasBlock s.blocks b → (b ≡ block → ⊥) → (block_at t b).state ≡ (block_at s.blocks b).state
  others b has_b ne = ap (λ (r : BlockRow). r.state) (block_at-with_block_other s.blocks block b row has has_b ne)

  numbers : SameNumbers s.blocks t
  numbers = record { same_first = refl; same_size = refl; same_count = length-set s.blocks.blocks (block - s.blocks.first) row }

  -- a block in another state is another one
  other : (b : ℕ) (state : BlockState) → (Victim ≡ state → ⊥) → (block_at s.blocks b).state ≡ state → b ≡ block → ⊥
  other b state not_it st e = not_it (sym was ∙ (ap (λ k. (block_at s.blocks k).state) (sym e) ∙ st))

  marks : SameMarks s.blocks t
  marks = same_marks s.blocks block row has (λ k. refl) (λ rising. shut_risen row (shut_after n))

  -- as many pages of each block are used: the victim counts as full, and still does
  pub released_fill : SameFill s.blocks t
  released_fill = fill_shut s.blocks block row has (shut_victim (block_at s.blocks block).state was) (shut_after n)

  formed_blocks : IsPhysicalFormed (record s { blocks = t })
  formed_blocks = formed_table s is t numbers
      (λ room. others s.active is.active_in (other s.active Active (λ e. cc e) (is.taken room)) ∙ is.taken room)
      (λ p h held. ap (λ (u : Use). u.is_kept) (use_other s.blocks block (p / s.blocks.size) row has (λ at. none-some h (sym (dead p at) ∙ held))) ∙ (is.places.each p h held).in_use)
      marks

  pub released_formed : IsPhysicalFormed (record s { blocks = t; soiled = with_item s.soiled block None; victim = None })
  released_formed =
      let x = formed_marks (record s { blocks = t }) block None formed_blocks in
      record { some = x.some; numbers = x.numbers; pages = x.pages; marks = x.marks; active_in = x.active_in; used_fits = x.used_fits; taken = x.taken; places = record { each = λ p h held. let w = x.places.each p h held in record { within = w.within; in_use = w.in_use; behind = w.behind; spelled = w.spelled } }; marked = x.marked }

  use_now : use_in t block ≡ use_of row
  use_now = use_here t block (with_has s.blocks block block row has) ∙ ap use_of (row_here s.blocks block row has)

  -- a block with an old name in it waits
  standing_here : (name : ℕ) → IsOld s.names.pairs name → name / s.blocks.size ≡ block → is_free_state (after_erase n) ≡ false
  standing_here name old at =
      let some = names_some s.blocks.size name s.names.pairs tied.named.remap old in
      let e : names_among s.blocks.size (name / s.blocks.size) s.names.pairs ≡ n = ap (λ b. names_among s.blocks.size b s.names.pairs) at ∙ sym counted in
      used_after n (subst (λ k. 0 < k) e some)

  named : IsNamed after
  named =
      let w = tied.named in
      record {
        size = w.size;
        blocks = w.blocks ∙ ap (λ k. s.blocks.first + k) (sym numbers.same_count);
        room = w.room;
        remap = w.remap;
        standing = λ name old.
            let st = w.standing name old in
            record {
              in_use = ⊎_elim
                  (λ at. ap (λ b. (use_in t b).is_free) at ∙ (ap (λ (u : Use). u.is_free) use_now ∙ standing_here name old at))
                  (λ ne. ap (λ (u : Use). u.is_free) (use_other s.blocks block (name / s.blocks.size) row has ne) ∙ st.in_use)
                  (cases_eq (name / s.blocks.size) block);
              behind = st.behind;
              copy_behind = st.copy_behind;
            };
        own = λ p h held old. w.own p h held old;
        to_live = λ pair link. w.to_live pair link;
        waits = λ b names has_b st. ⊎_elim
            (λ at. sym (retired_after n names (sym now ∙ (ap (λ k. (block_at t k).state) (sym at) ∙ st))) ∙ (counted ∙ ap (λ k. names_among s.blocks.size k s.names.pairs) (sym at)))
            (λ ne. let old_has = has_same b (back numbers) has_b in w.waits b names old_has (sym (others b old_has ne) ∙ st))
            (cases_eq b block);
      }

  phases : HasPhases after
  phases =
      let ph = tied.phases in
      let old_has = λ (b : ℕ) (has_b : HasBlock t b). has_same b (back numbers) has_b in
      -- a block in use was in that state
      let from = λ (b : ℕ) (state : BlockState) (used : is_kept_state state ≡ false) (has_b : HasBlock t b) (st : (block_at t b).state ≡ state).
      sym (others b (old_has b has_b) (λ at. not_after n state used (sym now ∙ (ap (λ k. (block_at t k).state) (sym at) ∙ st)))) ∙ st in
      record {
        target_in = has_same s.target numbers ph.target_in;
        filled_fits = ph.filled_fits;
        filling = λ lt. others s.target ph.target_in (other s.target Target (λ e. cc e) (ph.filling lt)) ∙ ph.filling lt;
        one_active = λ b has_b st. ph.one_active b (old_has b has_b) (from b Active refl has_b st);
        one_target = λ b has_b st. ph.one_target b (old_has b has_b) (from b Target refl has_b st);
        one_victim = λ b has_b st.
            let w = ph.one_victim b (old_has b has_b) (from b Victim refl has_b st) in
            let at : b ≡ block = same_Some b block (sym w ∙ named_is) in
            absurd (not_after n Victim refl (sym now ∙ (ap (λ k. (block_at t k).state) (sym at) ∙ st)));
        victim_in = λ b none. absurd (none-some b none);
      }

  pub released_tied : IsTied (record s { blocks = t; soiled = with_item s.soiled block None; victim = None })
  released_tied = record { named = named; phases = phases; behind = λ p h held copy. tied.behind p h held copy }

  abbrev was_waiting : ℕ
  was_waiting = count_by (λ (u : Use). u.is_kept && not u.is_free) (map use_of s.blocks.blocks)

  abbrev now_waiting : ℕ
  now_waiting = count_by (λ (u : Use). u.is_kept && not u.is_free) (map use_of t.blocks)

  counts : ((free_count t ≡ free_count s.blocks + 1) × (now_waiting ≡ was_waiting)) ⊎ ((free_count t ≡ free_count s.blocks) × (now_waiting ≡ was_waiting + 1))
  counts =
      let f = sum_by-with_block (λ r. num (is_free_state r.state)) s.blocks block row has in
      let w = sum_by-with_block (λ r. num (waits (use_of r))) s.blocks block row has in
      let a = sum_map (λ (u : Use). num (waits u)) use_of t.blocks in
      let b = sum_map (λ (u : Use). num (waits u)) use_of s.blocks.blocks in
      let f0 : num (is_free_state (block_at s.blocks block).state) ≡ 0 = ap (λ (x : BlockState). num (is_free_state x)) was in
      let w0 : num (waits (use_of (block_at s.blocks block))) ≡ 0 = ap (λ (x : BlockState). num (is_kept_state x && not (is_free_state x))) was in
      let kept = kept_after n in
      ⊎_elim
      (λ free.
      let f1 : num (is_free_state (after_erase n)) ≡ 1 = ap num free in
      let w1 : num (is_kept_state (after_erase n) && not (is_free_state (after_erase n))) ≡ 0 = (λ i. num (kept i && not (free i))) in
      inl (omega (arith, f, f0, f1), omega (arith, w, a, b, w0, w1)))
      (λ used.
      let f1 : num (is_free_state (after_erase n)) ≡ 0 = ap num used in
      let w1 : num (is_kept_state (after_erase n) && not (is_free_state (after_erase n))) ≡ 1 = (λ i. num (kept i && not (used i))) in
      inr (omega (arith, f, f0, f1), omega (arith, w, a, b, w0, w1)))
      (free_after n)

  total : free_count t + now_waiting ≡ free_count s.blocks + was_waiting + 1
  total = ⊎_elim (λ x. let a = x.0 in let b = x.1 in omega (arith, a, b)) (λ x. let a = x.0 in let b = x.1 in omega (arith, a, b)) counts

  more_free : free_count s.blocks ≤ free_count t
  more_free = ⊎_elim (λ x. let a = x.0 in omega (arith, a)) (λ x. let a = x.0 in omega (arith, a)) counts

  all_dead : (row_in s.blocks.first (map row_of s.blocks.blocks) block).dead ≡ s.blocks.size
  all_dead = dead_here s.blocks block has ∙ none_live s is table block has dead

  was_gain : gain_of (seen s) ≡ s.blocks.size
  was_gain = ap (λ v. gain_of (record (seen s) { victim = v })) named_is ∙ all_dead

  was_left : left_in_victim (seen s) ≡ 0
  was_left = let d = all_dead in ap (λ v. left_in_victim (record (seen s) { victim = v })) named_is ∙ omega (arith, d)

  pub released : ErasesBlock block (seen s) (seen (record s { blocks = t; soiled = with_item s.soiled block None; victim = None }))
  released = record {
    tables = record { same_first = refl; same_blocks = ap (λ k. s.blocks.first + k) numbers.same_count; same_size = refl; same_held = refl; same_pairs = refl; same_room = refl };
    was = named_is;
    none_left = was_left;
    victim = refl;
    next = (refl, refl);
    copies = (refl, refl);
    blocks = counts;
    frees = λ b ne. ap (λ (u : Use). u.is_free) (use_other s.blocks block b row has ne);
    keeps = λ b ne. ap (λ (u : Use). u.is_kept) (use_other s.blocks block b row has ne);
    kept = ap (λ (u : Use). u.is_kept) use_now ∙ kept_after n;
    here = ⊎_elim (λ free. inl (ap (λ (u : Use). u.is_free) use_now ∙ free)) (λ used. inr (ap waits use_now ∙ (λ i. kept_after n i && not (used i)))) (free_after n);
    names = λ name old at. ap waits use_now ∙ (λ i. kept_after n i && not (standing_here name (old_is s name old) at i));
    clean = get_or-set_same s.soiled.items block None None (let m = is.marks in omega (arith, has.below, m));
    same_soiled = λ b ne. get_or-set_other s.soiled.items block b None None ne;
    wear = ap (λ (u : Use). u.wear) use_now ∙ ap worn (sym (ap (λ (u : Use). u.wear) (use_here s.blocks block has)));
    wears = λ b ne. ap (λ (u : Use). u.wear) (use_other s.blocks block b row has ne);
    left = refl;
    same_reach =
        let g = was_gain in
        let sum : (free_count t + now_waiting) * s.blocks.size ≡ (free_count s.blocks + was_waiting + 1) * s.blocks.size = ap (λ k. k * s.blocks.size) total in
        let split : (free_count s.blocks + was_waiting + 1) * s.blocks.size ≡ (free_count s.blocks + was_waiting) * s.blocks.size + s.blocks.size = omega arith in
        omega (arith, g, sum, split);
    more_room = let m = more_free in let l = block_from (free_count s.blocks - 1) (free_count t - 1) s.blocks.size (omega (arith, m)) in omega (arith, l);
  }
