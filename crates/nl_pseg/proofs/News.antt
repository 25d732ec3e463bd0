-- A segment of which no page was used.
use Rattle.std.proofs.Common.{◌≡◌, inl, inr, ℕ, zero, suc, ◌+◌, ◌-◌, ◌*◌, ◌/◌, ◌^◌, ◌<◌, ◌≤◌, nat_le, true, false, cond, Option, None, List, length, map, get_or, replicate, refl, sym, ◌∙◌, ap, subst, arith, count_by, [], ◌∷◌, is_some, ◌%◌, Bool}
use Rattle.std.proofs.lemmas.Bool.{cases_Bool, cases_lt, leb-true, true≢false}
use Rattle.std.proofs.lemmas.List.{get_or-replicate, length-replicate}
use Rattle.std.proofs.lemmas.List.Sums.{sum_by-cons}
use Rattle.std.proofs.lemmas.Nat.{div_below}
use Rattle.std.proofs.lemmas.Option.{none-some}
use Rattle.nl_field.specs.declared.shape.Shape.{Shape}
use Rattle.nl_blocks.specs.declared.states.Page.{Page}
use Rattle.nl_blocks.specs.declared.states.BlockState.{BlockState}
use Rattle.nl_blocks.specs.declared.states.BlockState.TheVariants as the
use Rattle.nl_blocks.specs.Table.{BlockRow, HasBlock, Table, block_at, free_count, is_dead, is_free, new_row, new_table, new_page, no_row, page_at}
use Rattle.nl_remap.specs.Links.{HasLink}
use Rattle.nl_remap.specs.Table.{IsOld, IsRemap, told}
use Rattle.nl_pseg_names.specs.OldNames.{NameTable}
use Rattle.nl_pseg.specs.Segment.{InSegment, KeepsBlock, TakenAsErased, room}
use Rattle.nl_pseg.specs.Seen.{IsPhysicalFormed, IsTied, new_segment, row_of, seen, state_for}
use Rattle.nl_pseg_blocks.specs.Uses.{Use, no_use, use_at, use_of, use_with}
use Rattle.nl_pseg.specs.declared.held.Held.{Held}
use Rattle.nl_pseg.specs.Kept.{Kept}
use Rattle.nl_pseg.proofs.Numbers.{in_block, block_below}
use Rattle.nl_field.specs.Numbers.{ShapeBounds}
use Rattle.nl_pseg.proofs.Shapes.{few_pages, some_pages, two_blocks}
use Rattle.nl_blocks.specs.Used.{is_active_state, is_target_state, used_in}
use Rattle.nl_blocks.proofs.UsedLaws.{used-full}
use Rattle.nl_pseg_blocks.proofs.Tables.{use_before, use_from}

all_free : (count size : ℕ) → count_by is_free (replicate count (new_row size)) ≡ count
all_free zero size = refl
all_free (suc count) size =
    let rest : count_by is_free (replicate count (new_row size)) ≡ count = all_free count size in
    let e : count_by is_free (replicate (suc count) (new_row size)) ≡ 1 + count_by is_free (replicate count (new_row size)) = sum_by-cons (λ x. cond (is_free x) 1 0) (new_row size) (replicate count (new_row size)) in
    omega (arith, e, rest)

all_uses : (count size : ℕ) → map use_of (replicate count (new_row size)) ≡ replicate count (use_with true 0)
all_uses zero size = refl
all_uses (suc count) size = ap (λ (us : List Use). use_with true 0 ∷ us) (all_uses count size)

pub all_none : (n v : ℕ) → get_or {A = Option Held} (replicate n None) v None ≡ None
all_none zero v = refl
all_none (suc n) zero = refl
all_none (suc n) (suc v) = all_none n v

rest_pages : (size k : ℕ) → get_or (replicate size new_page) k new_page ≡ new_page
rest_pages zero k = refl
rest_pages (suc size) zero = refl
rest_pages (suc size) (suc k) = rest_pages size k

-- no page of a new table is live
new_pages : (count size i k : ℕ) → get_or (get_or (replicate count (new_row size)) i no_row).pages k new_page ≡ new_page
new_pages zero size i k = refl
new_pages (suc count) size zero k = rest_pages size k
new_pages (suc count) size (suc i) k = new_pages count size i k

all_rows : (count size : ℕ) → map row_of (replicate count (new_row size)) ≡ replicate count (record { state = the.Free; dead = size })
all_rows zero size = refl
all_rows (suc count) size = (λ i. record { state = the.Free; dead = all_dead size i } ∷ all_rows count size i)
  where
    all_dead : (n : ℕ) → count_by is_dead (replicate n new_page) ≡ n
    all_dead zero = refl
    all_dead (suc n) =
        let rest : count_by is_dead (replicate n new_page) ≡ n = all_dead n in
        let e : count_by is_dead (replicate (suc n) new_page) ≡ 1 + count_by is_dead (replicate n new_page) = sum_by-cons (λ x. cond (is_dead x) 1 0) new_page (replicate n new_page) in
        omega (arith, e, rest)

-- in a new table each block counts as full
pub new_used : (kind : BlockState → Bool) → kind the.Free ≡ false → (shape : Shape) → ShapeBounds shape → (t : Table) → t ≡ new_table shape.vblocks shape.pblocks shape.pages → used_in kind t shape.vblocks ≡ shape.pages
new_used kind other shape roomy t table =
    let many = two_blocks roomy in
    let made = new_table shape.vblocks shape.pblocks shape.pages in
    let row : block_at made shape.vblocks ≡ new_row shape.pages = get_or-replicate shape.pblocks (shape.vblocks - shape.vblocks) (new_row shape.pages) no_row (omega (arith, many)) in
    ap (λ (n : Table). used_in kind n shape.vblocks) table ∙ used-full kind made shape.vblocks (ap (λ (r : BlockRow). kind r.state) row ∙ other)

-- the pairs of a new segment
abbrev pub new_names : Shape → NameTable
new_names shape = record { pairs = []; room = 4 * shape.pages; size = shape.pages; blocks = shape.blocks }

-- a state with these is that segment
module _ (shape : Shape) (roomy : ShapeBounds shape) (s : Kept) (table : s.blocks ≡ new_table shape.vblocks shape.pblocks shape.pages) (held : s.held.items ≡ replicate (shape.blocks * shape.pages) None)
    (soiled : s.soiled.items ≡ replicate shape.blocks None) (active : s.active ≡ shape.vblocks) (used : s.used ≡ shape.pages) (target : s.target ≡ shape.vblocks) (filled : s.filled ≡ shape.pages)
    (victim : s.victim ≡ None) (names : s.names ≡ new_names shape) where
  last : s.blocks.first + length s.blocks.blocks ≡ shape.blocks
  last = ap (λ (t : Table). t.first + length t.blocks) table ∙ (ap (λ n. shape.vblocks + n) (length-replicate shape.pblocks (new_row shape.pages)) ∙ roomy.segments)

  size : s.blocks.size ≡ shape.pages
  size = ap (λ (t : Table). t.size) table

  pub new_seen : seen s ≡ new_segment shape
  new_seen i = record {
    first = first i;
    blocks = last i;
    size = size i;
    held = held i;
    pairs = told (names i).pairs;
    pair_room = (names i).room;
    next = active i * size i + used i;
    left = left i;
    free = free i;
    uses = uses i;
    soiled = soiled i;
    copy_next = target i * size i + filled i;
    copy_left = copies i;
    victim = victim i;
    rows = rows i;
  }
    where
      first : s.blocks.first ≡ shape.vblocks
      first = ap (λ (t : Table). t.first) table

      left : s.blocks.size - s.used ≡ 0
      left = omega (arith, size, used)

      copies : s.blocks.size - s.filled ≡ 0
      copies = omega (arith, size, filled)

      free : free_count s.blocks ≡ shape.pblocks
      free = ap free_count table ∙ all_free shape.pblocks shape.pages

      uses : map use_of s.blocks.blocks ≡ replicate shape.pblocks (use_with true 0)
      uses = ap (λ (t : Table). map use_of t.blocks) table ∙ all_uses shape.pblocks shape.pages

      rows : map row_of s.blocks.blocks ≡ replicate shape.pblocks (record { state = the.Free; dead = shape.pages })
      rows = ap (λ (t : Table). map row_of t.blocks) table ∙ all_rows shape.pblocks shape.pages

  none_held : (p : ℕ) → get_or s.held.items p None ≡ None
  none_held p = ap (λ (l : List (Option Held)). get_or l p None) held ∙ all_none (shape.blocks * shape.pages) p

  has_first : HasBlock s.blocks shape.vblocks
  has_first =
      let many = two_blocks roomy in
      let all = roomy.segments in
      let end = last in
      let first : s.blocks.first ≡ shape.vblocks = ap (λ (t : Table). t.first) table in
      record { from = omega (arith, first); below = omega (arith, end, many, all) }

  -- each block is Free
  state_free : (b : ℕ) (state : BlockState) → HasBlock s.blocks b → (block_at s.blocks b).state ≡ state → the.Free ≡ state
  state_free b state has is =
      let count : length (new_table shape.vblocks shape.pblocks shape.pages).blocks ≡ shape.pblocks = length-replicate shape.pblocks (new_row shape.pages) in
      let now : HasBlock (new_table shape.vblocks shape.pblocks shape.pages) b = subst (λ (t : Table). HasBlock t b) table has in
      let e : get_or (replicate shape.pblocks (new_row shape.pages)) (b - shape.vblocks) no_row ≡ new_row shape.pages = get_or-replicate shape.pblocks (b - shape.vblocks) (new_row shape.pages) no_row (let f = now.from in let w = now.below in omega (arith, f, w, count)) in
      sym (ap (λ (t : Table). (block_at t b).state) table ∙ ap (λ (r : BlockRow). r.state) e) ∙ is

  pub new_formed : IsPhysicalFormed s
  new_formed =
      let some = some_pages roomy in
      record {
        some = omega (arith, size, some);
        numbers = subst (λ k. k < 2 ^ 32) (λ i. sym last i * sym size i) (few_pages roomy);
        pages = ap length held ∙ (length-replicate {A = Option Held} (shape.blocks * shape.pages) None ∙ (λ i. sym last i * sym size i));
        marks = ap length soiled ∙ (length-replicate {A = Option ℕ} shape.blocks None ∙ sym last);
        active_in = subst (HasBlock s.blocks) (sym active) has_first;
        used_fits = omega (arith, size, used);
        taken = λ lt. absurd (omega (arith, lt, size, used));
        marked = record {
          rising = record {
            active = record { each = λ b has is. absurd (true≢false (sym is ∙ ap is_active_state (sym (state_free b _ has refl)))) };
            target = record { each = λ b has is. absurd (true≢false (sym is ∙ ap is_target_state (sym (state_free b _ has refl)))) };
          };
          each = λ p has. ap (λ (t : Table). (page_at t p).state) table ∙ (ap (λ (q : Page). q.state) (new_pages shape.pblocks shape.pages (p / shape.pages - shape.vblocks) (p % shape.pages))
              ∙ sym (ap state_for (none_held p)));
        };
        places = record { each = λ p h named. absurd (none-some h (sym (none_held p) ∙ named)) };
      }

  no_old : (n : ℕ) → IsOld s.names.pairs n → ⊥
  no_old n old = let w = subst (λ (t : NameTable). IsOld t.pairs n) names old in omega (arith, w.1)

  pub new_tied : IsTied s
  new_tied = record {
    named = record {
      size = ap (λ (t : NameTable). t.size) names ∙ sym size;
      blocks = ap (λ (t : NameTable). t.blocks) names ∙ sym last;
      room = let r = ap (λ (t : NameTable). length t.pairs + t.room) names in let z = size in omega (arith, r, z);
      remap = subst (λ (t : NameTable). IsRemap t.pairs) (sym names) (record { rising = λ i j less within. absurd (omega (arith, within)); fits = λ i within. absurd (omega (arith, within)); one_step = λ l has. absurd (omega (arith, has.1)) });
      standing = λ n old. absurd (no_old n old);
      own = λ p h live old. no_old p old;
      to_live = λ l has. absurd (let w = subst (λ (t : NameTable). HasLink t.pairs l) names has in omega (arith, w.1));
      waits = λ b k has is. absurd (cc (state_free b (the.Retired k) has is));
    };
    phases = record {
      target_in = subst (HasBlock s.blocks) (sym target) has_first;
      filled_fits = omega (arith, size, filled);
      filling = λ lt. absurd (omega (arith, lt, size, filled));
      one_active = λ b has is. absurd (cc (state_free b the.Active has is));
      one_target = λ b has is. absurd (cc (state_free b the.Target has is));
      one_victim = λ b has is. absurd (cc (state_free b the.Victim has is));
      victim_in = λ b named. absurd (none-some b (sym victim ∙ named));
    };
    behind = λ p h live next. absurd (none-some h (sym (none_held p) ∙ live));
  }

-- what a new segment has
module _ (shape : Shape) (roomy : ShapeBounds shape) where
  pub new_use : (block : ℕ) → shape.vblocks ≤ block → block < shape.blocks → use_at shape.vblocks (replicate shape.pblocks (use_with true 0)) block ≡ use_with true 0
  new_use block from below =
      let all = roomy.segments in
      use_from shape.vblocks (replicate shape.pblocks (use_with true 0)) block from ∙ get_or-replicate shape.pblocks (block - shape.vblocks) (use_with true 0) no_use (omega (arith, from, below, all))

  pub new_kept : KeepsBlock (new_segment shape)
  new_kept =
      let all = roomy.segments in
      let many = two_blocks roomy in
      record { block = shape.vblocks; from = omega arith; below = omega (arith, all, many); kept = inl (ap (λ (u : Use). u.is_kept) (new_use shape.vblocks (omega arith) (omega (arith, all, many)))) }

  pub new_room : room (new_segment shape) + shape.pages ≡ shape.pblocks * shape.pages
  new_room =
      let many = two_blocks roomy in
      let e : (shape.pblocks - 1) + 1 ≡ shape.pblocks = omega (arith, many) in
      subst (λ k. 0 + (shape.pblocks - 1) * shape.pages + shape.pages ≡ k * shape.pages) e (omega arith)

  none_soiled : (n b : ℕ) → get_or {A = Option ℕ} (replicate n None) b None ≡ None
  none_soiled zero b = refl
  none_soiled (suc n) zero = refl
  none_soiled (suc n) (suc b) = none_soiled n b

  pub new_clean : (block : ℕ) → is_some (get_or {A = Option ℕ} (replicate shape.blocks None) block None) ≡ false
  new_clean block = ap is_some (none_soiled shape.blocks block)

  pub new_taken : (p : ℕ) → InSegment (new_segment shape) p → TakenAsErased (new_segment shape) p
  new_taken p within =
      let below = div_below p shape.pages shape.blocks (some_pages roomy) within.1 in
      inr (ap (λ (u : Use). u.is_kept) (new_use (p / shape.pages) from below), new_clean (p / shape.pages))
    where
      from : shape.vblocks ≤ p / shape.pages
      from = elim (cases_lt (p / shape.pages) shape.vblocks) [
        | inl lt ↦
            let here = in_block p shape.pages (p / shape.pages) (some_pages roomy) refl in
            let low = block_below (p / shape.pages) shape.vblocks shape.pages lt in
            absurd (omega (arith, here.1, low, within.0))
        | inr ge ↦ ge
      ]

  pub new_wear : (block : ℕ) → (use_at shape.vblocks (replicate shape.pblocks (use_with true 0)) block).wear ≡ 0
  new_wear block = elim (cases_Bool (nat_le shape.vblocks block)) [
    | inl from_is ↦ ap (λ (u : Use). u.wear) (use_from shape.vblocks (replicate shape.pblocks (use_with true 0)) block (leb-true shape.vblocks block from_is)) ∙ wears shape.pblocks (block - shape.vblocks)
    | inr before ↦ ap (λ (u : Use). u.wear) (use_before shape.vblocks (replicate shape.pblocks (use_with true 0)) block before)
  ]
    where
      wears : (n i : ℕ) → (get_or (replicate n (use_with true 0)) i no_use).wear ≡ 0
      wears zero i = refl
      wears (suc n) zero = refl
      wears (suc n) (suc i) = wears n i
