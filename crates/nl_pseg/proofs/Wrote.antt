-- What is seen of two states, where a page was written.
use Rattle.std.proofs.Common.{◌≡◌, ⊎_elim, ℕ, ◌+◌, ◌*◌, ◌/◌, ◌<◌, ◌≤◌, true, Option, Some, None, List, length, get_or, set, cond, is_some, refl, sym, ◌∙◌, ap, subst, arith}
use Rattle.std.proofs.lemmas.Bool.{cases_eq, true≢false}
use Rattle.std.proofs.lemmas.List.{get_or-set_other}
use Rattle.std.proofs.lemmas.Option.{none-some}
use Rattle.nl_field.specs.Page.{Image, page_at}
use Rattle.nl_field.specs.declared.answers.Named.{Named}
use Rattle.nl_field.specs.declared.answers.Named.TheVariants as the
use Rattle.nl_field.specs.declared.pointer.Tag.{Tag}
use Rattle.nl_blocks.specs.Table.{IsBlockTable}
use Rattle.nl_pseg.specs.Answers.{IfPlaced}
use Rattle.nl_pseg.specs.Effects.{Crashes}
use Rattle.nl_pseg_pages.specs.Pages.{shown_by}
use Rattle.nl_pseg.specs.Segment.{CanSpareBlock, IsDead, IsNextToProgram, Physical, held_at, is_kept}
use Rattle.nl_pseg_blocks.specs.Uses.{Use}
use Rattle.nl_pseg.specs.Seen.{IsPhysicalFormed, IsTied, seen}
use Rattle.nl_pseg.specs.Space.{HasFewPairs, HasRoomForVictim, IsWhole, SameCleaning, left_in_victim, victims, waiting}
use Rattle.nl_pseg.specs.Steps.{Placing}
use Rattle.nl_pseg.specs.Writes.{AddsPage, WritesSegment}
use Rattle.nl_pseg.specs.declared.held.Held.{Held}
use Rattle.nl_pseg.specs.Kept.{Kept}
use Rattle.nl_pseg.proofs.Ended.{few_on}
use Rattle.nl_pseg.proofs.Holds.{holds_whole, kept_some}
use Rattle.nl_pseg.proofs.Lefts.{gain_by, left_same}
use Rattle.nl_pseg.proofs.Numbers.{block_from, block_of}
use Rattle.nl_pseg.proofs.States.{next_in_use}
use Rattle.nl_pseg_blocks.proofs.Tables.{use_from}
use Rattle.nl_pseg.proofs.Waits.{waiting_same}

-- pages of the victim are as live as they were
pub placed_same : (answer : Named) (stamp : ℕ) (x : Option Held) (old new : Physical) → Placing stamp (λ at. set old.held at.name x) answer old new
    → (b p : ℕ) → old.victim ≡ Some b → b * old.size ≤ p → p < b * old.size + old.size → get_or new.held p None ≡ get_or old.held p None
placed_same (the.Placed at) stamp x old new is b p named from below =
    ap (λ (l : List (Option Held)). get_or l p None) is.held
    ∙ get_or-set_other old.held at.name p x None (λ e. is.placed.0.apart (named ∙ ap (λ n. Some n) (sym (block_of at.name old.size b (omega (arith, from, e)) (omega (arith, below, e))))))
placed_same the.NotLive stamp x old new is b p named from below = ap (λ (l : List (Option Held)). get_or l p None) (is.same (λ n. n))
placed_same the.NoPage stamp x old new is b p named from below = ap (λ (l : List (Option Held)). get_or l p None) (is.same (λ n. n))
placed_same the.Fault stamp x old new is b p named from below = ap (λ (l : List (Option Held)). get_or l p None) (is.same (λ n. n))

-- the live pages of a victim fit in a block
pub left_fits : (seg : Physical) → IsWhole seg → left_in_victim seg ≤ seg.size
left_fits seg whole = of seg.victim refl
  where
    of : (v : Option ℕ) → seg.victim ≡ v → left_in_victim seg ≤ seg.size
    of None e =
        let none : victims seg ≡ 0 = ap (λ (w : Option ℕ). cond (is_some w) 1 0) e in
        let m : victims seg * seg.size ≡ 0 * seg.size = ap (λ k. k * seg.size) none in
        let sum = whole.numbers.victim in
        omega (arith, m, sum)
    of (Some b) e =
        let one : victims seg ≡ 1 = ap (λ (w : Option ℕ). cond (is_some w) 1 0) e in
        let m : victims seg * seg.size ≡ 1 * seg.size = ap (λ k. k * seg.size) one in
        let sum = whole.numbers.victim in
        omega (arith, m, sum)

-- with a Free block there is room for a victim
pub some_lands : (seg : Physical) → IsWhole seg → 1 ≤ seg.free → HasRoomForVictim seg
some_lands seg whole some =
    let fits = left_fits seg whole in
    let one = block_from 1 seg.free seg.size some in
    omega (arith, fits, one)

-- where a block is Free, some block can be done without
pub free_spare : (s : Kept) → IsPhysicalFormed s → 1 ≤ (seen s).free + waiting (seen s) → (image : Image) → CanSpareBlock image (seen s)
free_spare s is some image =
    let k = kept_some s is some in
    let kept : is_kept (seen s) k.0 ≡ true = ap (λ (u : Use). u.is_kept) (use_from s.blocks.first (seen s).uses k.0 k.1.from) ∙ k.2 in
    record {
      block = k.0;
      from = k.1.from;
      below = k.1.below;
      idle = λ p next at.
          let room : s.used < s.blocks.size = omega (arith, next.0, next.1) in
          true≢false (sym kept ∙ (ap (is_kept (seen s)) (sym at) ∙ next_in_use s is room p next));
      copied = λ p h held at. absurd (true≢false (sym kept ∙ (ap (is_kept (seen s)) (sym at) ∙ (is.places.each p h held).in_use)));
    }

-- a page that is not dead stays
pub still_page : {M : Type 0} {clock : M → ℕ} {contents : M → Image} {left : M → ℕ → Image → Type 0} {seg : Physical} {tag : Tag} {stamp : ℕ} {main : List ℕ} {a b : M} {answer : Named} → Crashes clock contents left seg tag stamp main a b answer
    → (p : ℕ) → (IsDead seg p → ⊥) → page_at (contents b) p ≡ page_at (contents a) p
still_page {contents = contents} {a = a} {b = b} k p live = ⊎_elim
    (λ keeps. ⊎_elim (λ same. same) (λ w. absurd (live w.0)) (keeps.each p))
    (λ places. ⊎_elim
    (λ at. absurd (live (subst (IsDead _) (sym at) places.takes.dead)))
    (λ ne. ⊎_elim (λ same. same) (λ w. absurd (live w.0)) (places.takes.others p ne))
    (cases_eq p k.page))
    k.either

-- what a page that is live now was
placed_was : (answer : Named) (stamp : ℕ) (x : Option Held) (old new : Physical) → Placing stamp (λ at. set old.held at.name x) answer old new → IfPlaced answer (λ at. IsNextToProgram old at.name) → (p : ℕ) → (IsNextToProgram old p → ⊥) → get_or new.held p None ≡ get_or old.held p None
placed_was (the.Placed at) stamp x old new is next p apart = ap (λ (l : List (Option Held)). get_or l p None) is.held ∙ get_or-set_other old.held at.name p x None (λ e. apart (subst (IsNextToProgram old) (sym e) next))
placed_was the.NotLive stamp x old new is next p apart = ap (λ (l : List (Option Held)). get_or l p None) (is.same (λ n. n))
placed_was the.NoPage stamp x old new is next p apart = ap (λ (l : List (Option Held)). get_or l p None) (is.same (λ n. n))
placed_was the.Fault stamp x old new is next p apart = ap (λ (l : List (Option Held)). get_or l p None) (is.same (λ n. n))

-- some block can still be done without, where no Free block was taken
pub placed_spares : (answer : Named) (stamp : ℕ) (x : Option Held) (old new : Physical) → Placing stamp (λ at. set old.held at.name x) answer old new → ((p : ℕ) → IsNextToProgram new p → IsNextToProgram old p) → IfPlaced answer (λ at. IsNextToProgram old at.name)
    → (i j : Image) → ((p : ℕ) → (IsDead old p → ⊥) → page_at j p ≡ page_at i p) → CanSpareBlock i old → CanSpareBlock j new
placed_spares answer stamp x old new p nexts next i j still spare =
    let size = p.pages.same_size in
    record {
      block = spare.block;
      from = subst (λ m. m ≤ spare.block) (sym p.pages.same_first) spare.from;
      below = subst (λ m. spare.block < m) (sym p.pages.same_blocks) spare.below;
      idle = λ q is at. spare.idle q (nexts q is) (ap (λ m. q / m) (sym size) ∙ at);
      copied = λ q h held at.
          let here : q / old.size ≡ spare.block = ap (λ m. q / m) (sym size) ∙ at in
          let was : held_at old q ≡ Some h = sym (placed_was answer stamp x old new p next q (λ is. spare.idle q is here)) ∙ held in
          let w = spare.copied q h was here in
          let first = still q (λ dead. none-some h (sym dead.dead ∙ was)) in
          let second = still w.0 (λ dead. dead.apart w.1) in
          (w.0, p.names.same_victim ∙ (w.1 ∙ ap (λ m. Some (w.0 / m)) (sym size)), (λ e. w.2 (ap (λ m. w.0 / m) (sym size) ∙ e)), ap shown_by second ∙ (w.3 ∙ ap shown_by (sym first)));
    }

module _ (answer : Named) (stamp : ℕ) (x : Option Held) (s n : Kept) (is : IsPhysicalFormed s) (tied : IsTied s) (table : IsBlockTable s.blocks) (few : HasFewPairs (seen s)) (now : IsPhysicalFormed n) (tied_now : IsTied n) (table_now : IsBlockTable n.blocks)
    (p : Placing stamp (λ at. set s.held.items at.name x) answer (seen s) (seen n)) where
  same_left : left_in_victim (seen n) ≡ left_in_victim (seen s)
  same_left = left_same s n is tied table now tied_now table_now p.pages.same_size p.names.same_victim (placed_same answer stamp x (seen s) (seen n) p)

  pub placed_few : HasFewPairs (seen n)
  placed_few = let e = same_left in let l = ap (λ (ps : List (ℕ × ℕ)). length ps) p.names.same_pairs in few_on (seen s) (seen n) p.names.same_victim p.pages.same_size (omega (arith, l)) (omega (arith, e)) few

  pub placed_waits : waiting (seen n) ≡ waiting (seen s)
  placed_waits = waiting_same (seen s) (seen n) p.pages.same_first p.waits

  pub placed_cleaning : SameCleaning (seen s) (seen n)
  placed_cleaning = record {
    victim = p.names.same_victim;
    copies = p.names.copies;
    waits = p.waits;
    same_waiting = placed_waits;
    left = same_left;
    gain =
        let e = same_left in
        let sum = gain_by s n is tied table now tied_now table_now p.pages.same_size p.names.same_victim (holds_whole s is tied table few) (holds_whole n now tied_now table_now placed_few) in
        omega (arith, e, sum);
  }

  pub placed_lands : HasRoomForVictim (seen s) → HasRoomForVictim (seen n)
  placed_lands lands = ⊎_elim
      (λ same.
      let e = same_left in
      let pages : (seen n).free * (seen n).size ≡ (seen s).free * (seen s).size = (λ i. same.0 i * p.pages.same_size i) in
      let d = p.names.copies.1 in
      omega (arith, e, pages, d, lands))
      (λ some. some_lands (seen n) (holds_whole n now tied_now table_now placed_few) some)
      p.frees

  pub placed_spare : {M : Type 0} {clock : M → ℕ} {contents : M → Image} {left : M → ℕ → Image → Type 0} {tag : Tag} {number : ℕ} {main : List ℕ} {a b : M} → Crashes clock contents left (seen s) tag number main a b answer
      → CanSpareBlock (contents a) (seen s) → CanSpareBlock (contents b) (seen n)
  placed_spare {contents = contents} {a = a} {b = b} k spare = ⊎_elim
      (λ same. placed_spares answer stamp x (seen s) (seen n) p same.1 same.2 (contents a) (contents b) (still_page k) spare)
      (λ some. free_spare n now (omega (arith, some)) (contents b))
      p.frees

  placed_writes : WritesSegment stamp answer (seen s) (seen n)
  placed_writes = record {
    pages = p.pages;
    placed = p.placed;
    same = p.same;
    same_pairs = λ not. p.names.same_pairs;
    same_cleaning = λ not. placed_cleaning;
    failed = p.failed;
    tried = p.tried;
    clean = p.clean;
    kept = p.kept;
    wears = p.wears;
  }

-- what a write does, where the page that it placed holds this owner and this number
pub placed_adds : (answer : Named) (tag : Tag) (stamp : ℕ) (s n : Kept) → IsPhysicalFormed s → IsTied s → IsBlockTable s.blocks → HasFewPairs (seen s) → IsPhysicalFormed n → IsTied n → IsBlockTable n.blocks
    → Placing stamp (λ at. set s.held.items at.name (Some (record { tag = tag; stamp = stamp }))) answer (seen s) (seen n) → AddsPage tag stamp answer (seen s) (seen n)
placed_adds answer tag stamp s n is tied table few now tied_now table_now p =
    let x : Option Held = Some (record { tag = tag; stamp = stamp }) in
    record {
      writes = placed_writes answer stamp x s n is tied table few now tied_now table_now p;
      held = p.held;
      pairs = p.names.same_pairs;
      spent = p.spent;
      cleaning = placed_cleaning answer stamp x s n is tied table few now tied_now table_now p;
      lands = placed_lands answer stamp x s n is tied table few now tied_now table_now p;
    }
