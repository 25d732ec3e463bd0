-- What is seen of two states, where a page was written over another one.
use Rattle.std.proofs.Common.{◌≡◌, ◌⊎◌, inl, inr, ⊎_elim, ℕ, ◌+◌, ◌-◌, ◌*◌, ◌<◌, ◌≤◌, Bool, cond, is_some, Option, None, List, length, set, Some, length-set, refl, sym, ◌∙◌, ap, subst, arith}
use Rattle.nl_field.specs.Page.{Image}
use Rattle.nl_field.specs.declared.answers.Named.{Named}
use Rattle.nl_field.specs.declared.answers.Named.TheVariants as the
use Rattle.nl_field.specs.declared.pointer.Pointer.{Pointer}
use Rattle.nl_field.specs.declared.pointer.Tag.{Tag}
use Rattle.nl_blocks.specs.Table.{IsBlockTable}
use Rattle.nl_pseg.specs.Answers.{IfPlaced, IsWriteFault, IsPlaced, is_placed}
use Rattle.nl_pseg.specs.Effects.{Crashes}
use Rattle.nl_pseg.specs.Segment.{CanSpareBlock, IsClean, NeedsNoErase, IsSpent, IsUnspent, KeepsBlock, Physical, SameBlocksAndPages, room, without_target, CountsErases}
use Rattle.nl_pseg.specs.Seen.{IsPhysicalFormed, IsTied, seen}
use Rattle.nl_pseg.specs.Space.{HasFewPairs, Lessens, SameCleaning, left_in_victim, waiting}
use Rattle.nl_pseg.specs.Steps.{EndsPage, Placing, WritesOver}
use Rattle.nl_pseg.specs.Writes.{ReplacesPage, WritesSegment}
use Rattle.nl_pseg.specs.declared.held.Held.{Held}
use Rattle.nl_pseg.specs.Kept.{Kept}
use Rattle.nl_pseg.proofs.Ended.{ended_was, few_on, gone_kept, gone_pages, gone_room, gone_spare, gone_unspent, more_landing}
use Rattle.nl_pseg.proofs.Holds.{holds_whole}
use Rattle.nl_pseg.proofs.Lefts.{left_is, live_ended, live_of, live_same}
use Rattle.nl_pseg.proofs.Segments.{pages_then}
use Rattle.nl_pseg.proofs.Tries.{ended_spends}
use Rattle.nl_pseg.proofs.Waits.{waiting_same}
use Rattle.nl_pseg.proofs.Wrote.{free_spare, placed_cleaning, placed_few, placed_lands, placed_same, placed_spare, placed_spares, some_lands, still_page}
use Rattle.nl_pseg.proofs.Wearing.{counts_after}

pub placed_or_not : (answer : Named) → IsPlaced answer ⊎ (IsPlaced answer → ⊥)
placed_or_not (the.Placed at) = inl tt
placed_or_not the.NotLive = inr (λ n. n)
placed_or_not the.NoPage = inr (λ n. n)
placed_or_not the.Fault = inr (λ n. n)

abbrev num : Bool → ℕ
num b = cond b 1 0

one_placed : (answer : Named) → IsPlaced answer → num (is_placed answer) ≡ 1
one_placed (the.Placed at) is = refl
one_placed the.NotLive is = absurd is
one_placed the.NoPage is = absurd is
one_placed the.Fault is = absurd is

failed_not : (answer : Named) → IsPlaced answer → IsWriteFault answer → ⊥
failed_not (the.Placed at) placed fault = cc fault
failed_not the.NotLive placed fault = placed
failed_not the.NoPage placed fault = placed
failed_not the.Fault placed fault = placed

if_placed_is : (answer : Named) (now : Pointer → List (Option Held)) (mid new : List (Option Held)) (place : ℕ) → IfPlaced answer (λ at. mid ≡ now at) → (IsPlaced answer → new ≡ set mid place None) → IfPlaced answer (λ at. new ≡ set (now at) place None)
if_placed_is (the.Placed at) now mid new place is end = end tt ∙ ap (λ (l : List (Option Held)). set l place None) is
if_placed_is the.NotLive now mid new place is end = tt
if_placed_is the.NoPage now mid new place is end = tt
if_placed_is the.Fault now mid new place is end = tt

-- the list of live pages is as long
same_length : (answer : Named) (stamp : ℕ) (x : Option Held) (old new : Physical) → Placing stamp (λ at. set old.held at.name x) answer old new → length new.held ≡ length old.held
same_length (the.Placed at) stamp x old new is = ap length is.held ∙ length-set old.held at.name x
same_length the.NotLive stamp x old new is = ap length (is.same (λ n. n))
same_length the.NoPage stamp x old new is = ap length (is.same (λ n. n))
same_length the.Fault stamp x old new is = ap length (is.same (λ n. n))

module _ (answer : Named) (place stamp : ℕ) (x : Option Held) (s n : Kept) (is : IsPhysicalFormed s) (tied : IsTied s) (table : IsBlockTable s.blocks) (few : HasFewPairs (seen s)) (now : IsPhysicalFormed n) (tied_now : IsTied n) (table_now : IsBlockTable n.blocks)
    (o : WritesOver place stamp (λ at. set s.held.items at.name x) answer (seen s) (seen n)) where
  -- no page was placed
  module _ (not : IsPlaced answer → ⊥) where
    only : Placing stamp (λ at. set s.held.items at.name x) answer (seen s) (seen n)
    only = subst (Placing stamp (λ at. set s.held.items at.name x) answer (seen s)) (sym (o.none not)) o.placing

    refused_cleaning : SameCleaning (seen s) (seen n)
    refused_cleaning = placed_cleaning answer stamp x s n is tied table few now tied_now table_now only

  -- one was
  module _ (yes : IsPlaced answer) where
    d : EndsPage place o.mid (seen n)
    d = o.ended yes

    size : n.blocks.size ≡ s.blocks.size
    size = d.gone.range.range_size ∙ o.placing.pages.same_size

    victim : n.victim ≡ s.victim
    victim = d.gone.victim ∙ o.placing.names.same_victim

    place_within : place < length o.mid.held
    place_within =
        let count = same_length answer stamp x (seen s) o.mid o.placing in
        let pages = is.pages in
        let bound : o.mid.blocks * o.mid.size ≡ (s.blocks.first + length s.blocks.blocks) * s.blocks.size = (λ i. o.placing.pages.same_blocks i * o.placing.pages.same_size i) in
        let w = d.within.1 in
        omega (arith, count, pages, bound, w)

    less_left : (left_in_victim (seen n) ≤ left_in_victim (seen s)) × (left_in_victim (seen s) ≤ left_in_victim (seen n) + 1)
    less_left =
        let a : left_in_victim (seen n) ≡ live_of (set o.mid.held place None) s.blocks.size s.victim = left_is n now tied_now table_now ∙ (λ i. live_of (d.held i) (size i) (victim i)) in
        let b = live_ended o.mid.held place s.blocks.size s.victim place_within in
        let c : live_of o.mid.held s.blocks.size s.victim ≡ live_of s.held.items s.blocks.size s.victim = live_same o.mid.held s.held.items s.blocks.size s.victim (placed_same answer stamp x (seen s) o.mid o.placing) in
        let e = left_is s is tied table in
        (omega (arith, a, b.0, c, e), omega (arith, a, b.1, c, e))

    over_few_placed : HasFewPairs (seen n)
    over_few_placed =
        let l = ap (λ (ps : List (ℕ × ℕ)). length ps) o.placing.names.same_pairs in
        let f = d.gone.fewer in
        few_on (seen s) (seen n) victim size (omega (arith, l, f)) less_left.0 few

    waits_mid : waiting o.mid ≡ waiting (seen s)
    waits_mid = waiting_same (seen s) o.mid o.placing.pages.same_first o.placing.waits

    over_space_placed : Lessens 1 (seen s) (seen n)
    over_space_placed = record {
      victim = victim;
      copies = (d.gone.copies.0 ∙ o.placing.names.copies.0, d.gone.copies.1 ∙ o.placing.names.copies.1);
      fewer_wait = let a = d.gone.more in let b = d.gone.blocks in let w = waits_mid in omega (arith, a, b, w);
      left = less_left.0;
      left_most = less_left.1;
      lands = λ lands. ⊎_elim
          (λ same.
          let more = more_landing d.gone in
          let pages : o.mid.free * o.mid.size ≡ (seen s).free * (seen s).size = (λ i. same.0 i * o.placing.pages.same_size i) in
          let c = o.placing.names.copies.1 in
          let l = less_left.0 in
          omega (arith, more, pages, c, l, lands))
          (λ some. some_lands (seen n) (holds_whole n now tied_now table_now over_few_placed) (let m = d.gone.more in omega (arith, m, some)))
          o.placing.frees;
    }

    over_room : room (seen s) ≤ room (seen n) + 1
    over_room = let a = (o.placing.spent yes).room in let b = gone_room d.gone in omega (arith, a, b)

    over_blocks : (seen n).free + waiting (seen n) ≤ (seen s).free + waiting (seen s)
    over_blocks = let a = (o.placing.spent yes).taken in let b = d.gone.blocks in let w = waits_mid in omega (arith, a, b, w)

    over_spent : waiting (seen s) ≡ 0 → IsSpent (seen s) (seen n)
    over_spent none =
        let w = waits_mid in
        let u = gone_unspent d.gone (omega (arith, none, w)) in
        let was = o.placing.spent yes in
        let blocks : (room (seen n)) ≡ room o.mid = (λ i. u.left i + (u.free i - 1) * d.gone.range.range_size i) in
        let r = was.room in
        record {
          room = omega (arith, blocks, r);
          taken = let t = was.taken in let f = u.free in omega (arith, t, f);
          soiled = λ b. ⊎_elim (λ same. inl (u.same_soiled b ∙ same)) (λ gone. inr (gone.0, u.same_soiled b ∙ gone.1)) (was.soiled b);
        }

    over_pairs : (seen n).pairs ≡ without_target place (seen s).pairs
    over_pairs = d.pairs ∙ ap (λ (ps : List (ℕ × ℕ)). without_target place ps) o.placing.names.same_pairs

  over_same : (IsPlaced answer → ⊥) → n.held.items ≡ s.held.items
  over_same not = (only not).same not

  over_failed : IsWriteFault answer → IsSpent (seen s) (seen n) ⊎ (IsUnspent (seen s) (seen n) × (NeedsNoErase (seen s) → ⊥))
  over_failed fault = (only (λ yes. failed_not answer yes fault)).failed fault

  over_held : IfPlaced answer (λ at. n.held.items ≡ set (set s.held.items at.name x) place None)
  over_held = if_placed_is answer (λ at. set s.held.items at.name x) o.mid.held n.held.items place o.placing.held (λ yes. (o.ended yes).held)

  pub over_few : HasFewPairs (seen n)
  over_few = ⊎_elim over_few_placed (λ not. placed_few answer stamp x s n is tied table few now tied_now table_now (only not)) (placed_or_not answer)

  over_space : Lessens (cond (is_placed answer) 1 0) (seen s) (seen n)
  over_space = ⊎_elim
      (λ yes. subst (λ k. Lessens k (seen s) (seen n)) (sym (one_placed answer yes)) (over_space_placed yes))
      (λ not.
      let c = refused_cleaning not in
      record {
        victim = c.victim;
        copies = c.copies;
        fewer_wait = let w = c.same_waiting in omega (arith, w);
        left = let l = c.left in omega (arith, l);
        left_most = let l = c.left in omega (arith, l);
        lands = placed_lands answer stamp x s n is tied table few now tied_now table_now (only not);
      })
      (placed_or_not answer)

  over_pages : SameBlocksAndPages (seen s) (seen n)
  over_pages = ⊎_elim (λ yes. pages_then o.placing.pages (gone_pages (o.ended yes).gone)) (λ not. (only not).pages) (placed_or_not answer)

  over_wears : CountsErases (seen s) (seen n)
  over_wears = ⊎_elim (λ yes. counts_after o.placing.wears (o.ended yes).gone.wears (o.ended yes).gone.same_soiled) (λ not. (only not).wears) (placed_or_not answer)

  over_clean : IsClean (seen s) → IsClean (seen n)
  over_clean clean = ⊎_elim
      (λ yes b kept. let e = (o.ended yes).gone in ap is_some (e.same_soiled b) ∙ o.placing.clean clean b (sym (e.kept b) ∙ kept))
      (λ not. (only not).clean clean)
      (placed_or_not answer)

  over_kept : KeepsBlock (seen s) → KeepsBlock (seen n)
  over_kept k = ⊎_elim (λ yes. gone_kept (o.ended yes).gone (o.placing.kept k)) (λ not. (only not).kept k) (placed_or_not answer)

  pub over_spare : {M : Type 0} {clock : M → ℕ} {contents : M → Image} {left : M → ℕ → Image → Type 0} {tag : Tag} {number : ℕ} {main : List ℕ} {a b : M} → Crashes clock contents left (seen s) tag number main a b answer
      → CanSpareBlock (contents a) (seen s) → CanSpareBlock (contents b) (seen n)
  over_spare {contents = contents} {a = a} {b = b} k spare = ⊎_elim
      (λ yes. ⊎_elim
      (λ same. gone_spare (o.ended yes).gone (ended_was (o.ended yes) (place_within yes)) (contents b)
      (placed_spares answer stamp x (seen s) o.mid o.placing same.1 same.2 (contents a) (contents b) (still_page k) spare))
      (λ some. free_spare n now (let m = (o.ended yes).gone.more in omega (arith, m, some)) (contents b))
      o.placing.frees)
      (λ not. placed_spare answer stamp x s n is tied table few now tied_now table_now (only not) k spare)
      (placed_or_not answer)

  over_writes : WritesSegment stamp answer (seen s) (seen n)
  over_writes = record {
    pages = over_pages;
    placed = o.placing.placed;
    same = over_same;
    same_pairs = λ not. (only not).names.same_pairs;
    same_cleaning = λ not. refused_cleaning not;
    failed = over_failed;
    tried = ended_spends answer o.ended o.none o.placing.tried;
    clean = over_clean;
    kept = over_kept;
    wears = over_wears;
  }

-- what an overwrite does, where the page that it placed holds this owner and this number
pub over_replaces : (answer : Named) (place : ℕ) (tag : Tag) (stamp : ℕ) (s n : Kept) → IsPhysicalFormed s → IsTied s → IsBlockTable s.blocks → HasFewPairs (seen s) → IsPhysicalFormed n → IsTied n → IsBlockTable n.blocks
    → WritesOver place stamp (λ at. set s.held.items at.name (Some (record { tag = tag; stamp = stamp }))) answer (seen s) (seen n) → ReplacesPage place tag stamp answer (seen s) (seen n)
over_replaces answer place tag stamp s n is tied table few now tied_now table_now o =
    let x : Option Held = Some (record { tag = tag; stamp = stamp }) in
    record {
      writes = over_writes answer place stamp x s n is tied table few now tied_now table_now o;
      held = over_held answer place stamp x s n is tied table few now tied_now table_now o;
      pairs = over_pairs answer place stamp x s n is tied table few now tied_now table_now o;
      spent = over_spent answer place stamp x s n is tied table few now tied_now table_now o;
      space = over_space answer place stamp x s n is tied table few now tied_now table_now o;
      blocks = over_blocks answer place stamp x s n is tied table few now tied_now table_now o;
      room = over_room answer place stamp x s n is tied table few now tied_now table_now o;
    }
