-- How states go on.
use Rattle.std.proofs.Common.{◌≡◌, ⊎_elim, ℕ, ◌+◌, ◌*◌, ◌/◌, ◌<◌, ◌≤◌, ◌-◌, ◌^◌, Bool, true, false, Option, Some, length, set, refl, sym, ◌∙◌, ap, subst, arith, length-set, get_or, None}
use Rattle.std.specs.Vec.{with_item}
use Rattle.std.proofs.lemmas.Bool.{cases_eq}
use Rattle.nl_blocks.specs.declared.states.BlockState.TheVariants.{Active}
use Rattle.std.proofs.lemmas.List.{get_or-set_same, get_or-set_other}
use Rattle.nl_blocks.specs.Table.{Table, block_at, page_at}
use Rattle.nl_pseg.specs.Segment.{IsNextToProgram, IsUnspent, SameBlocksAndPages, held_at, soiled, wear_with}
use Rattle.nl_pseg.specs.Seen.{AreLivePlaces, IsPhysicalFormed, seen, AreMarked, state_for}
use Rattle.nl_pseg.specs.Steps.{SameRange}
use Rattle.nl_pseg_blocks.specs.Uses.{Use, use_in, SameNumbers, SameUse, SetsUse, MarksPage, SameMarks}
use Rattle.nl_pseg.specs.declared.held.Held.{Held}
use Rattle.nl_pseg.specs.Kept.{Kept}
use Rattle.nl_pseg.proofs.Segments.{place_same}
use Rattle.nl_pseg_blocks.proofs.Tables.{has_same, page_back}

-- the table has the same numbers
module _ (s : Kept) (is : IsPhysicalFormed s) (t : Table) (n : SameNumbers s.blocks t) where
  bound : (t.first + length t.blocks) * t.size ≡ (s.blocks.first + length s.blocks.blocks) * s.blocks.size
  bound i = (n.same_first i + n.same_count i) * n.same_size i

  pub range_is : SameRange (seen s) (seen (record s { blocks = t }))
  range_is = record { range_first = n.same_first; range_blocks = λ i. n.same_first i + n.same_count i; range_size = n.same_size }

  pub next_is : s.active * t.size + s.used ≡ s.active * s.blocks.size + s.used
  next_is i = s.active * n.same_size i + s.used

  pub left_is : t.size - s.used ≡ s.blocks.size - s.used
  left_is i = n.same_size i - s.used

  next_back : (p : ℕ) → IsNextToProgram (seen (record s { blocks = t })) p → IsNextToProgram (seen s) p
  next_back p next = let a = next_is in let b = left_is in (omega (arith, a, next.0), omega (arith, a, b, next.1))

  pub formed_table : (s.used < s.blocks.size → (block_at t s.active).state ≡ Active) → ((p : ℕ) (h : Held) → held_at (seen s) p ≡ Some h → (use_in t (p / s.blocks.size)).is_kept ≡ false) → SameMarks s.blocks t → IsPhysicalFormed (record s { blocks = t })
  formed_table active in_use marks = record {
    marked = record { each = λ p has. let back = page_back p n has in marks.same p back ∙ is.marked.each p back; rising = marks.rises is.marked.rising };
    some = subst (λ k. 0 < k) (sym n.same_size) is.some;
    numbers = subst (λ k. k < 2 ^ 32) (sym bound) is.numbers;
    pages = is.pages ∙ sym bound;
    marks = is.marks ∙ (λ i. sym n.same_first i + sym n.same_count i);
    active_in = has_same s.active n is.active_in;
    used_fits = subst (λ k. s.used ≤ k) (sym n.same_size) is.used_fits;
    taken = λ lt. active (subst (λ k. s.used < k) n.same_size lt);
    places = record {
      each = λ p h named.
          let was = is.places.each p h named in
          place_same p h range_is (in_use p h named) (λ next. was.behind (next_back p next)) was;
    };
  }

-- each block has the same use
pub formed_same : (s : Kept) (t : Table) → IsPhysicalFormed s → SameUse s.blocks t → SameMarks s.blocks t → (s.used < s.blocks.size → (block_at t s.active).state ≡ Active) → IsPhysicalFormed (record s { blocks = t })
formed_same s t is same marks active = formed_table s is t same.numbers active
    (λ p h named. ap (λ (u : Use). u.is_kept) (same.uses (p / s.blocks.size)) ∙ (is.places.each p h named).in_use) marks

pub use_places : (s : Kept) (t : Table) → IsPhysicalFormed s → SameUse s.blocks t → AreLivePlaces (seen (record s { blocks = t }))
use_places s t is same = record {
  each = λ p h named.
      let was = is.places.each p h named in
      place_same p h (range_is s is t same.numbers) (ap (λ (u : Use). u.is_kept) (same.uses (p / s.blocks.size)) ∙ was.in_use) (λ next. was.behind (next_back s is t same.numbers p next)) was;
}

-- One block is Free now, or in use. Where it is Free, no page of it is live.
pub formed_restated : (s : Kept) (t : Table) (block wear : ℕ) (free : Bool) → IsPhysicalFormed s → SetsUse block free wear s.blocks t → (s.used < s.blocks.size → block ≡ s.active → ⊥)
    → (free ≡ true → (p : ℕ) (h : Held) → held_at (seen s) p ≡ Some h → p / s.blocks.size ≡ block → ⊥) → IsPhysicalFormed (record s { blocks = t })
formed_restated s t block wear free is r idle dead = formed_table s is t r.numbers
    (λ room. r.states s.active is.active_in (λ same. idle room (sym same)) ∙ is.taken room)
    (λ p h named. ⊎_elim
    (λ here. ap (λ n. (use_in t n).is_kept) here ∙ (ap (λ (u : Use). u.is_kept) r.here ∙ not_free free (λ yes. dead yes p h named here)))
    (λ ne. ap (λ (u : Use). u.is_kept) (r.others (p / s.blocks.size) ne) ∙ (is.places.each p h named).in_use)
    (cases_eq (p / s.blocks.size) block)) r.marks
  where
    not_free : (b : Bool) → (b ≡ true → ⊥) → b ≡ false
    not_free true never = absurd (never refl)
    not_free false never = refl

-- other blocks are told to be soiled
pub formed_marks : (s : Kept) (block : ℕ) (told : Option ℕ) → IsPhysicalFormed s → IsPhysicalFormed (record s { soiled = with_item s.soiled block told })
formed_marks s block told is = record {
  marked = is.marked;
  some = is.some;
  numbers = is.numbers;
  pages = is.pages;
  marks = length-set s.soiled.items block told ∙ is.marks;
  active_in = is.active_in;
  used_fits = is.used_fits;
  taken = is.taken;
  places = record { each = λ p h named. let was = is.places.each p h named in record { within = was.within; in_use = was.in_use; behind = was.behind; spelled = was.spelled } };
}

-- a page was marked as it is now
module _ (s : Kept) (is : IsPhysicalFormed s) (t : Table) (same : SameUse s.blocks t) (page : ℕ) (x : Option Held) (marked : MarksPage page (state_for x) s.blocks t) (within : page < length s.held.items) where
  pub marked_are : AreMarked t (set s.held.items page x)
  marked_are = record {
    rising = marked.rising;
    each = λ p has. ⊎_elim
        (λ here. ap (λ q. (page_at t q).state) here ∙ (marked.here ∙ sym (ap state_for (ap (λ q. get_or (set s.held.items page x) q None) here ∙ get_or-set_same s.held.items page x None within))))
        (λ ne. let back = page_back p same.numbers has in marked.others p back ne ∙ (is.marked.each p back ∙ sym (ap state_for (get_or-set_other s.held.items page p x None ne))))
        (cases_eq p page);
  }

  pub formed_page : (s.used < s.blocks.size → (block_at t s.active).state ≡ Active) → AreLivePlaces (record (seen (record s { blocks = t })) { held = set s.held.items page x }) → IsPhysicalFormed (record s { held = with_item s.held page x; blocks = t })
  formed_page active places =
      let n = same.numbers in
      record {
        some = subst (λ k. 0 < k) (sym n.same_size) is.some;
        numbers = subst (λ k. k < 2 ^ 32) (sym (bound s is t n)) is.numbers;
        pages = length-set s.held.items page x ∙ (is.pages ∙ sym (bound s is t n));
        marks = is.marks ∙ (λ i. sym n.same_first i + sym n.same_count i);
        active_in = has_same s.active n is.active_in;
        used_fits = subst (λ k. s.used ≤ k) (sym n.same_size) is.used_fits;
        taken = λ lt. active (subst (λ k. s.used < k) n.same_size lt);
        places = places;
        marked = marked_are;
      }

-- the segment keeps its pages, and no page is given out
module _ (s : Kept) (t : Table) (same : SameUse s.blocks t) where
  pub same_pages : SameBlocksAndPages (seen s) (seen (record s { blocks = t }))
  same_pages = record {
    same_first = same.numbers.same_first;
    same_blocks = λ i. same.numbers.same_first i + same.numbers.same_count i;
    same_size = same.numbers.same_size;
    same_wear = λ b. ap (λ (u : Use). wear_with u (soiled (seen s) b)) (same.uses b);
  }

  pub same_unspent : IsUnspent (seen s) (seen (record s { blocks = t }))
  same_unspent = record {
    next = λ i. s.active * same.numbers.same_size i + s.used;
    left = λ i. same.numbers.same_size i - s.used;
    free = same.total;
    same_free = λ b. ap (λ (u : Use). u.is_free) (same.uses b);
    same_erasures = λ b. ap (λ (u : Use). u.wear) (same.uses b);
    same_kept = λ b. ap (λ (u : Use). u.is_kept) (same.uses b);
    same_soiled = λ b. refl;
    copies = (λ i. s.target * same.numbers.same_size i + s.filled, λ i. same.numbers.same_size i - s.filled);
  }
