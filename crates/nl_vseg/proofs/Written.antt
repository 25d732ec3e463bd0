-- The program of a page and what comes before and after it, one after the other.
use Rattle.std.proofs.Common.{◌≡◌, ◌⊎◌, inl, inr, ⊎_elim, ℕ, ◌+◌, ◌≤◌, ◌==◌, if◌then◌else◌, List, Some, refl, sym, ◌∙◌, ap, subst, arith}
use Rattle.std.proofs.lemmas.Bool.{cases_lt}
use Rattle.nl_field.specs.CrashStates.{Earlier, LeavesOnly, Rose, Turns, top}
use Rattle.nl_field.specs.Page.{page_at, written}
use Rattle.nl_blocks.specs.Table.{Table, block_at}
use Rattle.nl_nand.specs.declared.answers.WriteAnswer.{WriteAnswer}
use Rattle.nl_nand.specs.declared.nand.Nand.{Ghosts}
use Rattle.nl_vseg.specs.Cleaning.{KeepsValues, IsStateOfMedium}
use Rattle.nl_vseg.specs.Copying.{SameFreeBlocks, StaysOrErased}
use Rattle.nl_vseg.specs.Effects.{ImageKeepsMap, BlockIsProgrammed, GainsValue}
use Rattle.nl_vseg.specs.Layout.{LayoutHasUnmapped, SameLayoutShape, bound, wears_of}
use Rattle.nl_vseg.specs.Pages.{page_with}
use Rattle.nl_vseg.specs.Places.{map_of}
use Rattle.nl_vseg.specs.Putting.{PutsAtAddress}
use Rattle.nl_vseg.specs.Seen.{seen, segment_of}
use Rattle.nl_vseg.specs.Segment.{Segment, wear_of}
use Rattle.nl_vseg.specs.Used.{KeepsUsed, used_of}
use Rattle.nl_vseg.specs.Writes.{StillServes, WritesValueAt}
use Rattle.nl_vseg.specs.declared.state.State.{State}
use Rattle.nl_vseg.proofs.Blocks.{same_then}
use Rattle.nl_vseg.proofs.Cleaning.{stands_numbered, with_table}
use Rattle.nl_vseg.proofs.Copies.{resized}
use Rattle.nl_vseg.proofs.Counts.{counted_as, counted_then, keeps_from, keeps_no_turn, keeps_turns, takes_from, turns_as}
use Rattle.nl_vseg.proofs.Operating.{operates_as, operates_both, operates_still}
use Rattle.nl_vseg.proofs.Small.{shape_of, shape_then}
use Rattle.nl_vseg.proofs.Tries.{sealed_spends}
use Rattle.nl_vseg.proofs.Using.{numbered_room, spare_used}
use Rattle.nl_vseg.proofs.Views.{blank_taken, segment_from, size_from, spare_from, wear_at}

-- a count that rose since a later moment rose
rose_before : (a b d : ℕ) → Rose b d → a ≤ b → Rose a d
rose_before a b d rose more = omega (arith, rose, more)

-- a moment before a later one
earlier_before : (a b d : ℕ) → a ≤ b → b ≤ d → Earlier b d → Earlier a d
earlier_before a b d first second strict below = elim (cases_lt b top) [
  | inl lt ↦ let less = strict lt in omega (arith, first, less)
  | inr past ↦ omega (arith, below, past, second)
]

module _ {M : Type 0} (g : Ghosts M) where
  -- the table is changed, and neither which blocks are Free nor how often each was erased
  pub puts_sealed : {v stamp : ℕ} {main : List ℕ} {answer : WriteAnswer} {s t : State} {a b : M} (table : Table) → SameFreeBlocks t.blocks table → KeepsUsed t.blocks table
      → ((block : ℕ) → (block_at table block).wear ≡ (block_at t.blocks block).wear) → wears_of table ≡ wears_of t.blocks
      → PutsAtAddress g v stamp main answer s t a b → PutsAtAddress g v stamp main answer s (with_table t table) a b
  puts_sealed {v} {stamp} {main} {answer} {s} {t} {a} {b} table same used wear wears p =
      let used_is : used_of table t.active ≡ used_of t.blocks t.active = used.each t.active p.stands.formed.segment.active_is in
      record {
        stands = stands_numbered g table same used_is (used.rising p.stands.formed.rising) p.stands;
        spare = spare_used (seen t) table (used_of table t.active) same p.spare;
        rest = record {
          shape = shape_then p.rest.shape (shape_of (seen t) (seen (with_table t table)) refl same.numbers);
          states = same_then p.rest.states same;
          same_active = p.rest.same_active;
          wear = wear s.active ∙ p.rest.wear;
        };
        less = ap (λ n. n + 1) (numbered_room (seen t) table same used_is) ∙ p.less;
        tried = sealed_spends (seen s) (seen t) (seen (with_table t table)) p.tried same refl used_is refl;
        writes = record {
          stamps = record { taken = p.writes.stamps.taken; same = p.writes.stamps.same };
          value = λ told. let x = p.writes.value told in record { map = x.map; same = x.same; takes = x.takes; either = x.either; unused = x.unused; crash = x.crash };
          operates = operates_both p.writes.operates (operates_still _ _ _ _ _ _ wears refl refl);
          geometry = p.writes.geometry;
          ticks = p.writes.ticks;
          counts = p.writes.counts;
        };
        programmed = λ told done. subst (λ w. BlockIsProgrammed s.blocks.size (bound (seen s)) s.active v stamp w main (g.contents a) (g.contents b)) (sym (wear s.active)) (p.programmed told done);
        failed = p.failed;
        write_fault = p.write_fault;
      }

  -- by other names of what is done and of the failure
  pub writes_as : {v stamp : ℕ} {main : List ℕ} {D E F G : Type 0} {seg now : Segment} {a b : M} → (D → E) → (E → D) → (F → G) → (G → F)
      → WritesValueAt g v stamp main D F seg now a b → WritesValueAt g v stamp main E G seg now a b
  writes_as {v} {stamp} {main} {D} {E} {F} {G} {seg} {now} {a} {b} to from failed_to failed_from w = record {
    stamps = record { taken = λ e. w.stamps.taken (from e); same = λ not. w.stamps.same (λ d. not (to d)) };
    value = λ told.
        let x = w.value told in
        record {
          map = λ e. x.map (from e);
          same = λ not. x.same (λ d. not (to d));
          takes = λ e. x.takes (from e);
          either = x.either;
          unused = λ not. x.unused (λ d. not (to d));
          crash = turns_as D E from x.crash;
        };
    operates = w.operates;
    geometry = w.geometry;
    ticks = λ e. w.ticks (from e);
    counts = counted_as failed_to failed_from w.counts;
  }

  -- a call that keeps the values, and then a write
  pub writes_then : {v stamp : ℕ} {main : List ℕ} {D F G : Type 0} {s t : State} (u : State) {a b d : M} → (F → ⊥) → KeepsValues g F s t a b → WritesValueAt g v stamp main D G (segment_of t) (segment_of u) b d
      → WritesValueAt g v stamp main D G (segment_of s) (segment_of u) a d
  writes_then {v} {stamp} {main} {D} {F} {G} {s} {t} u {a} {b} {d} not k w = record {
    stamps = record {
      taken = λ done n. w.stamps.taken done n ∙ ap (λ x. if n == v then Some stamp else x) (k.stamps n);
      same = λ undone n. w.stamps.same undone n ∙ k.stamps n;
    };
    value = λ told.
        let m = k.map told in
        let x = w.value told in
        let mid = seen t in
        let was = g.contents b in
        let new = g.contents d in
        record {
          map = λ done n. x.map done n ∙ ap (λ y. if n == v then Some (stamp, main) else y) (m.same n);
          same = λ undone n. x.same undone n ∙ m.same n;
          takes = λ done. takes_from m.same m.keeps (resized (λ size end. GainsValue size end (map_of mid.places was) v stamp main was new) (seen s) mid k.shape (x.takes done));
          either = ⊎_elim (λ y. inl (keeps_from m.same m.keeps y)) (λ y. inr (takes_from m.same m.keeps y))
              (resized (λ size end. ImageKeepsMap size end (map_of mid.places was) was new ⊎ GainsValue size end (map_of mid.places was) v stamp main was new) (seen s) mid k.shape x.either);
          unused = λ undone unrisen. keeps_from m.same m.keeps (resized (λ size end. ImageKeepsMap size end (map_of mid.places was) was new) (seen s) mid k.shape
              (x.unused undone (λ rose. unrisen (rose_before (g.write_faults a) (g.write_faults b) (g.write_faults d) rose k.counts.more_writes))));
          crash = keeps_turns D m
              (resized (λ size end. LeavesOnly g.clock g.left b d (Turns D (g.clock d) (λ img. ImageKeepsMap size end (map_of mid.places was) was img) (λ img. GainsValue size end (map_of mid.places was) v stamp main was img)))
              (seen s) mid k.shape x.crash) w.ticks;
        };
    operates = operates_both k.operates (operates_as k.shape.pages w.operates);
    geometry = w.geometry ∙ k.geometry;
    ticks = λ done. earlier_before (g.clock a) (g.clock b) (g.clock d) k.counts.later w.counts.later (w.ticks done);
    counts = counted_then not k.counts w.counts;
  }

  -- a call that keeps the values, where no write came to pass
  pub writes_none : {v stamp : ℕ} {main : List ℕ} {D F : Type 0} {s t : State} {a b : M} → (D → ⊥) → KeepsValues g F s t a b → WritesValueAt g v stamp main D F (segment_of s) (segment_of t) a b
  writes_none {v} {stamp} {main} {D} {F} {s} {t} {a} {b} not k = record {
    stamps = record { taken = λ done. absurd (not done); same = λ undone. k.stamps };
    value = λ told.
        let m = k.map told in
        record {
          map = λ done. absurd (not done);
          same = λ undone. m.same;
          takes = λ done. absurd (not done);
          either = inl m.keeps;
          unused = λ undone unrisen. m.keeps;
          crash = keeps_no_turn D not m;
        };
    operates = k.operates;
    geometry = k.geometry;
    ticks = λ done. absurd (not done);
    counts = k.counts;
  }

  -- what users see of a state that stands on the medium
  pub still_serves : (s : State) {t : State} {m : M} → IsStateOfMedium g t m → LayoutHasUnmapped (seen t) → SameLayoutShape (seen s) (seen t) → StillServes g (segment_of s) (segment_of t) m
  still_serves s {t} {m} stands spare shape = record {
    spare = spare_from spare;
    numbers = size_from shape;
    below = λ v place named. (stands.formed.segment.places_are.each v place named).within;
    within = λ p is. (blank_taken (seen t) p is).0;
    segment = λ told. segment_from (stands.segment told);
  }

  -- the one page that was programmed, where pages of its block were erased before or none changed
  pub programmed_then : {v stamp : ℕ} {main : List ℕ} (s t u : State) {a b d : M} → SameLayoutShape (seen s) (seen t) → u.blocks.first ≡ 0
      → StaysOrErased s.blocks.size t.active (g.contents a) (g.contents b)
      → BlockIsProgrammed t.blocks.size (bound (seen t)) t.active v stamp (block_at u.blocks t.active).wear main (g.contents b) (g.contents d)
      → (block : ℕ) × BlockIsProgrammed s.blocks.size (bound (seen s)) block v stamp (wear_of (segment_of u) block) main (g.contents a) (g.contents d)
  programmed_then {v} {stamp} {main} s t u {a} {b} {d} shape first stays programmed =
      let wear = (block_at u.blocks t.active).wear in
      let p = resized (λ size end. BlockIsProgrammed size end t.active v stamp wear main (g.contents b) (g.contents d)) (seen s) (seen t) shape programmed in (
        t.active,
        record {
          page = p.page;
          below = p.below;
          in_block = p.in_block;
          has = subst (λ n. page_at (g.contents d) p.page ≡ written (page_with main v stamp n)) (sym (wear_at u.blocks t.active first)) p.has;
          others = λ q ne. ⊎_elim
              (λ same. ⊎_elim (λ still. inl (same ∙ still)) (λ blank. inr (blank.0, same ∙ blank.1)) (stays q))
              (λ blank. inr blank)
              (p.others q ne);
        },
      )
