-- The next page for copies was used.
use Rattle.std.proofs.Common.{◌≡◌, ◌⊎◌, inl, inr, ⊎_elim, ℕ, ◌+◌, ◌-◌, ◌*◌, ◌/◌, ◌^◌, ◌<◌, ◌≤◌, false, Option, Some, None, IfSome, IsTrue, length, set, refl, sym, ◌∙◌, ap, subst, arith, length-set}
use Rattle.std.specs.Vec.{with_item}
use Rattle.std.proofs.lemmas.Bool.{cases_eq, cases_lt}
use Rattle.std.proofs.lemmas.List.{get_or-set_other}
use Rattle.nl_field.specs.Spelling.{is_stamp}
use Rattle.nl_blocks.specs.declared.states.BlockState.{BlockState}
use Rattle.nl_blocks.specs.declared.states.BlockState.TheVariants.{Active, Retired, Sealed, Target, Victim}
use Rattle.nl_blocks.specs.Table.{Table, HasBlock, HasPage, IsBlockTable, block_at}
use Rattle.nl_blocks.specs.Table.{page_at as page_in}
use Rattle.nl_pseg.specs.Segment.{InSegment, IsNextToProgram, IsNextCopy, held_at, is_kept, soiled, wear_with}
use Rattle.nl_pseg.specs.Seen.{AreMarked, AreLivePlaces, HasPhases, IsPhysicalFormed, IsNamed, IsTied, seen}
use Rattle.nl_pseg.specs.Steps.{IsCopyUsed}
use Rattle.nl_pseg_blocks.specs.Uses.{Use, use_at, is_kept_state, SameUse}
use Rattle.nl_pseg.specs.declared.held.Held.{Held}
use Rattle.nl_pseg.specs.Kept.{Kept}
use Rattle.nl_pseg.proofs.Aimed.{dead_kept, left_over}
use Rattle.nl_pseg.proofs.Numbers.{block_of}
use Rattle.nl_pseg.proofs.Rows.{waiting_used}
use Rattle.nl_pseg.proofs.Segments.{place_same, set_held}
use Rattle.nl_pseg.proofs.States.{block_segment, next_block, within_length}
use Rattle.nl_pseg_blocks.proofs.Tables.{has_same, use_here}
use Rattle.nl_pseg.proofs.Tied.{back, named_on}

-- the page that the next copy is programmed on
module _ (s : Kept) (is : IsPhysicalFormed s) (tied : IsTied s) (room : s.filled < s.blocks.size) where
  pub is_copy : IsNextCopy (seen s) (s.target * s.blocks.size + s.filled)
  is_copy = (omega arith, omega (arith, room))

  pub copy_block : (s.target * s.blocks.size + s.filled) / s.blocks.size ≡ s.target
  copy_block = block_of (s.target * s.blocks.size + s.filled) s.blocks.size s.target (omega arith) (omega (arith, room))

  pub copy_segment : InSegment (seen s) (s.target * s.blocks.size + s.filled)
  copy_segment = block_segment s s.target (s.target * s.blocks.size + s.filled) tied.phases.target_in (omega arith) (omega (arith, room))

  pub copy_within : s.target * s.blocks.size + s.filled < length s.held.items
  copy_within = within_length s is (s.target * s.blocks.size + s.filled) copy_segment

  pub copy_in_use : is_kept (seen s) s.target ≡ false
  copy_in_use = ap (λ (u : Use). u.is_kept) (use_here s.blocks s.target tied.phases.target_in) ∙ ap (λ (b : BlockState). is_kept_state b) (tied.phases.filling room)

  -- the page of the copy is not one that is programmed next
  pub copy_behind : IsNextToProgram (seen s) (s.target * s.blocks.size + s.filled) → ⊥
  copy_behind next =
      let fits = is.used_fits in
      let used : s.used < s.blocks.size = omega (arith, next.0, next.1, fits) in
      let at : s.active ≡ s.target = sym (next_block s is used (s.target * s.blocks.size + s.filled) next) ∙ copy_block in
      cc (sym (is.taken used) ∙ (ap (λ b. (block_at s.blocks b).state) at ∙ tied.phases.filling room))

  -- the page of the copy is not in the victim
  pub copy_apart : s.victim ≡ Some s.target → ⊥
  copy_apart named = cc (sym (tied.phases.victim_in s.target named).1 ∙ tied.phases.filling room)

module _ (s : Kept) (is : IsPhysicalFormed s) (tied : IsTied s) (room : s.filled < s.blocks.size) (t : Table) (same : SameUse s.blocks t) (page : ℕ) (at : page ≡ s.target * s.blocks.size + s.filled) (x : Option Held)
    (more : s.filled + 1 < s.blocks.size → (block_at t s.target).state ≡ Target) (done : (s.filled + 1 < s.blocks.size → ⊥) → (block_at t s.target).state ≡ Sealed)
    (others : (b : ℕ) → HasBlock s.blocks b → (b ≡ s.target → ⊥) → (block_at t b).state ≡ (block_at s.blocks b).state) where
  abbrev new : Kept
  new = record s { held = with_item s.held page x; blocks = t; filled = s.filled + 1 }

  within : page < length s.held.items
  within = subst (λ k. k < length s.held.items) (sym at) (copy_within s is tied room)

  next : IsNextCopy (seen s) page
  next = subst (IsNextCopy (seen s)) (sym at) (is_copy s is tied room)

  size : t.size ≡ s.blocks.size
  size = same.numbers.same_size

  fewer : (p : ℕ) → IsNextCopy (seen new) p → IsNextCopy (seen s) p × (p ≡ page → ⊥)
  fewer p n =
      let a : s.target * t.size ≡ s.target * s.blocks.size = ap (λ k. s.target * k) size in
      let e = size in
      ((omega (arith, a, n.0), omega (arith, a, e, room, n.0, n.1)), λ here. omega (arith, a, at, here, n.0))

  nexts : (p : ℕ) → IsNextToProgram (seen new) p → IsNextToProgram (seen s) p
  nexts p n =
      let a : s.active * t.size ≡ s.active * s.blocks.size = ap (λ k. s.active * k) size in
      let e = size in
      (omega (arith, a, n.0), omega (arith, a, e, n.1))

  here : (((block_at t s.target).state ≡ Target) × (s.filled + 1 < s.blocks.size)) ⊎ ((block_at t s.target).state ≡ Sealed)
  here = ⊎_elim (λ lt. inl (more lt, lt)) (λ ge. inr (done (λ lt. omega (arith, lt, ge)))) (cases_lt (s.filled + 1) s.blocks.size)

  -- a block in another state than those two is another one
  apart : (b : ℕ) (state : BlockState) → (Target ≡ state → ⊥) → (Sealed ≡ state → ⊥) → (block_at t b).state ≡ state → b ≡ s.target → ⊥
  apart b state not_target not_sealed st e = ⊎_elim
      (λ target. not_target (sym target.0 ∙ (ap (λ n. (block_at t n).state) (sym e) ∙ st)))
      (λ sealed. not_sealed (sym sealed ∙ (ap (λ n. (block_at t n).state) (sym e) ∙ st)))
      here

  named : IsNamed new
  named = named_on s new tied.named refl same.numbers
      (λ p h held old. ⊎_elim
      (λ e. (tied.named.standing p old).copy_behind (subst (IsNextCopy (seen s)) (sym e.0) next))
      (λ e. tied.named.own p h e.1 old)
      (set_held s.held.items page x within p h held))
      (λ pair has.
      let live = tied.named.to_live pair has in
      (live.0, get_or-set_other s.held.items page pair.to x None (λ e. tied.behind page live.0 (ap (held_at (seen s)) (sym e) ∙ live.1) next) ∙ live.1))
      (λ n old w. record {
        in_use = ap (λ (u : Use). u.is_free) (same.uses (n / t.size)) ∙ (ap (λ k. (use_at s.blocks.first (seen s).uses (n / k)).is_free) size ∙ w.in_use);
        behind = λ k. w.behind (nexts n k);
        copy_behind = λ k. w.copy_behind (fewer n k).0;
      })
      (λ b k has st. sym (others b has (apart b (Retired k) (λ e. cc e) (λ e. cc e) st)) ∙ st)

  phases : HasPhases new
  phases =
      let ph = tied.phases in
      let st = ph.filling room in
      let old = λ (b : ℕ) (has : HasBlock t b). has_same b (back same.numbers) has in
      record {
        target_in = has_same s.target same.numbers ph.target_in;
        filled_fits = let e = size in omega (arith, e, room);
        filling = λ lt. more (let e = size in omega (arith, lt, e));
        one_active = λ b has now.
            let w = ph.one_active b (old b has) (sym (others b (old b has) (apart b Active (λ e. cc e) (λ e. cc e) now)) ∙ now) in
            (w.0, let e = size in let l = w.1 in omega (arith, e, l));
        one_target = λ b has now. ⊎_elim
            (λ a. ⊎_elim
            (λ target. (a, let e = size in let l = target.1 in omega (arith, e, l)))
            (λ sealed. absurd (cc (sym sealed ∙ (ap (λ n. (block_at t n).state) (sym a) ∙ now))))
            here)
            (λ ne. absurd (ne (ph.one_target b (old b has) (sym (others b (old b has) ne) ∙ now)).0))
            (cases_eq b s.target);
        one_victim = λ b has now. ph.one_victim b (old b has) (sym (others b (old b has) (apart b Victim (λ e. cc e) (λ e. cc e) now)) ∙ now);
        victim_in = λ b named.
            let w = ph.victim_in b named in
            (has_same b same.numbers w.0, others b w.0 (λ a. cc (sym w.1 ∙ (ap (λ n. (block_at s.blocks n).state) a ∙ st))) ∙ w.1);
      }

  pub copied_tied : IsTied (record s { held = with_item s.held page x; blocks = t; filled = s.filled + 1 })
  copied_tied = record {
    named = named;
    phases = phases;
    behind = λ p h held copy. ⊎_elim
        (λ e. (fewer p copy).1 e.0)
        (λ e. tied.behind p h e.1 (fewer p copy).0)
        (set_held s.held.items page x within p h held);
  }

  places : IfSome x (λ h. IsTrue (is_stamp h.stamp)) → AreLivePlaces (seen new)
  places spelled = record {
    each = λ p h held. ⊎_elim
        (λ e. record {
          within = subst (λ q. (t.first * t.size ≤ q) × (q < (t.first + length t.blocks) * t.size)) (sym (e.0 ∙ at)) inside;
          in_use = ap (λ q. is_kept (seen new) (q / t.size)) (e.0 ∙ at) ∙ (ap (λ k. is_kept (seen new) ((s.target * s.blocks.size + s.filled) / k)) size ∙ (ap (is_kept (seen new)) (copy_block s is tied room) ∙ (ap (λ (u : Use). u.is_kept) (same.uses s.target) ∙ copy_in_use s is tied room)));
          behind = λ n. copy_behind s is tied room (subst (IsNextToProgram (seen s)) (e.0 ∙ at) (nexts p n));
          spelled = subst (λ (y : Option Held). IfSome y (λ k. IsTrue (is_stamp k.stamp))) e.1 spelled;
        })
        (λ e.
        let was = is.places.each p h e.1 in
        place_same p h (record { range_first = same.numbers.same_first; range_blocks = λ i. same.numbers.same_first i + same.numbers.same_count i; range_size = size })
        (ap (λ (u : Use). u.is_kept) (same.uses (p / s.blocks.size)) ∙ was.in_use) (λ n. was.behind (nexts p n)) was)
        (set_held s.held.items page x within p h held);
  }
    where
      inside : (t.first * t.size ≤ s.target * s.blocks.size + s.filled) × (s.target * s.blocks.size + s.filled < (t.first + length t.blocks) * t.size)
      inside =
          let w = copy_segment s is tied room in
          (subst (λ k. k ≤ s.target * s.blocks.size + s.filled) (λ i. sym same.numbers.same_first i * sym size i) w.0, subst (λ k. s.target * s.blocks.size + s.filled < k) (λ i. (sym same.numbers.same_first i + sym same.numbers.same_count i) * sym size i) w.1)

  pub copied_formed : IfSome x (λ h. IsTrue (is_stamp h.stamp)) → AreMarked t (set s.held.items page x) → (s.used < s.blocks.size → (block_at s.blocks s.active).state ≡ Active) → IsPhysicalFormed (record s { held = with_item s.held page x; blocks = t; filled = s.filled + 1 })
  copied_formed spelled marked taken =
      let n = same.numbers in
      let bound : (t.first + length t.blocks) * t.size ≡ (s.blocks.first + length s.blocks.blocks) * s.blocks.size = (λ i. (n.same_first i + n.same_count i) * n.same_size i) in
      record {
        some = subst (λ k. 0 < k) (sym n.same_size) is.some;
        numbers = subst (λ k. k < 2 ^ 32) (sym bound) is.numbers;
        pages = length-set s.held.items page x ∙ (is.pages ∙ sym bound);
        marks = is.marks ∙ (λ i. sym n.same_first i + sym n.same_count i);
        active_in = has_same s.active n is.active_in;
        used_fits = subst (λ k. s.used ≤ k) (sym n.same_size) is.used_fits;
        taken = λ lt.
            let was = taken (subst (λ k. s.used < k) n.same_size lt) in
            others s.active is.active_in (λ a. cc (sym was ∙ (ap (λ b. (block_at s.blocks b).state) a ∙ tied.phases.filling room))) ∙ was;
        places = places spelled;
        marked = marked;
      }

  pub copied : IsBlockTable s.blocks → IsBlockTable t → ((p : ℕ) → HasPage s.blocks p → (p ≡ page → ⊥) → (page_in t p).state ≡ (page_in s.blocks p).state) → IsCopyUsed x (seen s) (seen (record s { held = with_item s.held page x; blocks = t; filled = s.filled + 1 }))
  copied is_a is_b marks =
      let n = same.numbers in
      let over = left_over (seen s) (seen new) refl n.same_size (λ b named. dead_kept s tied t is_a is_b n b named (λ p has in_block. marks p has (λ e.
      copy_apart s is tied room (named ∙ ap (λ k. Some k) (sym in_block ∙ (ap (λ q. q / s.blocks.size) (e ∙ at) ∙ copy_block s is tied room)))))) in
      record {
        pages = record { same_first = n.same_first; same_blocks = λ i. n.same_first i + n.same_count i; same_size = n.same_size; same_wear = λ b. ap (λ (u : Use). wear_with u (soiled (seen s) b)) (same.uses b) };
        held = ap (λ k. set s.held.items k x) at;
        next = (λ i. s.active * n.same_size i + s.used, λ i. n.same_size i - s.used);
        copy_next = ap (λ k. s.target * k + (s.filled + 1)) n.same_size ∙ omega arith;
        copy_left = let e = n.same_size in omega (arith, e, room);
        free = same.total;
        uses = same.uses;
        soiled = refl;
        pairs = refl;
        pair_room = refl;
        victim = refl;
        waits = waiting_used s.blocks t same;
        left = over.0;
        gain = over.1;
      }
