-- How a state goes on as a name is gone.
use Rattle.std.proofs.Common.{◌≡◌, ◌⊎◌, inl, inr, ⊎_elim, ℕ, zero, suc, ◌+◌, ◌-◌, ◌*◌, ◌/◌, ◌<◌, ◌==◌, cond, eq-eqb, ne_eqb, Bool, true, false, Some, List, length, remove, refl, sym, ◌∙◌, ap, subst, arith}
use Rattle.std.proofs.lemmas.Bool.{cases_eq, true≢false}
use Rattle.std.proofs.lemmas.List.Edits.{length-remove}
use Rattle.nl_blocks.specs.declared.states.BlockState.{BlockState}
use Rattle.nl_blocks.specs.declared.states.BlockState.TheVariants as the
use Rattle.nl_blocks.specs.Table.{Table, HasBlock, after_erase, block_at, is_free_state, is_retired_state, names_of}
use Rattle.nl_remap.specs.Links.{HasLink}
use Rattle.nl_remap.specs.Table.{IsOld, IsRemap, place_of}
use Rattle.nl_remap.specs.declared.links.Link.{Link}
use Rattle.nl_remap.proofs.LinksProofs.{HasLink-remove_back}
use Rattle.nl_remap.proofs.TableProofs.{IsOld-remove_back}
use Rattle.nl_pseg_names.specs.OldNames.{NameTable, names_among}
use Rattle.nl_pseg.specs.Segment.{IsNextToProgram, IsNextCopy, held_at}
use Rattle.nl_pseg.specs.Seen.{IsPhysicalFormed, IsTied, seen}
use Rattle.nl_pseg_blocks.specs.Uses.{Use, use_in, SameMarks, SameNumbers}
use Rattle.nl_pseg.specs.declared.held.Held.{Held}
use Rattle.nl_pseg.specs.Kept.{Kept}
use Rattle.nl_pseg.proofs.Forms.{formed_table}
use Rattle.nl_pseg_names.proofs.Named.{names_some, names_taken, old_within}
use Rattle.nl_pseg_blocks.proofs.Tables.{has_same, use_here}
use Rattle.nl_pseg.proofs.Tied.{back}

-- a block that waits is not Free
pub not_free_state : (state : BlockState) → is_retired_state state ≡ true → is_free_state state ≡ false
not_free_state the.Free is = absurd (true≢false (sym is))
not_free_state the.Active is = refl
not_free_state the.Target is = refl
not_free_state the.Sealed is = refl
not_free_state the.Victim is = refl
not_free_state (the.Retired names) is = refl

-- the state of a block with so many names fewer is not Free where one is left
waits_still : (n : ℕ) → 0 < n → is_free_state (after_erase n) ≡ false
waits_still zero some = absurd (omega (arith, some))
waits_still (suc n) some = refl

names_after : (n k : ℕ) → after_erase n ≡ the.Retired k → n ≡ k
names_after zero k is = absurd (cc is)
names_after (suc n) k is = ap names_of is

not_in_use : (n : ℕ) (state : BlockState) → is_free_state state ≡ false → is_retired_state state ≡ false → after_erase n ≡ state → ⊥
not_in_use zero state free retired is = true≢false (ap is_free_state is ∙ free)
not_in_use (suc n) state free retired is = true≢false (ap is_retired_state is ∙ retired)

pub retired_is : (state : BlockState) → is_retired_state state ≡ true → state ≡ the.Retired (names_of state)
retired_is the.Free is = absurd (true≢false (sym is))
retired_is the.Active is = absurd (true≢false (sym is))
retired_is the.Target is = absurd (true≢false (sym is))
retired_is the.Sealed is = absurd (true≢false (sym is))
retired_is the.Victim is = absurd (true≢false (sym is))
retired_is (the.Retired names) is = refl

module _ (s x : Kept) (tied : IsTied s) (name : ℕ) (old : IsOld s.names.pairs name) (some : 0 < s.blocks.size)
    (taken : x.names ≡ record s.names { pairs = remove s.names.pairs (place_of s.names.pairs name); room = s.names.room + 1 }) (table : IsRemap x.names.pairs) (held : x.held ≡ s.held)
    (n : SameNumbers s.blocks x.blocks) (next : (x.active ≡ s.active) × (x.used ≡ s.used)) (copy : (x.target ≡ s.target) × (x.filled ≡ s.filled) × (x.victim ≡ s.victim))
    (uses : (b : ℕ) → (b ≡ name / s.blocks.size → ⊥) → use_in x.blocks b ≡ use_in s.blocks b)
    (states : (b : ℕ) → HasBlock s.blocks b → ((block_at x.blocks b).state ≡ (block_at s.blocks b).state) × ((b ≡ name / s.blocks.size) → is_retired_state (block_at s.blocks b).state ≡ false)
    ⊎ ((b ≡ name / s.blocks.size) × (is_retired_state (block_at s.blocks b).state ≡ true) × ((block_at x.blocks b).state ≡ after_erase (names_of (block_at s.blocks b).state - 1))))
    (same_use : ((b : ℕ) → use_in x.blocks b ≡ use_in s.blocks b) ⊎ (HasBlock s.blocks (name / s.blocks.size) × (is_retired_state (block_at s.blocks (name / s.blocks.size)).state ≡ true))) where
  pairs_are : x.names.pairs ≡ remove s.names.pairs (place_of s.names.pairs name)
  pairs_are = ap (λ (t : NameTable). t.pairs) taken

  within : place_of s.names.pairs name < length s.names.pairs
  within = old_within s.names.pairs name tied.named.remap old

  was_old : (m : ℕ) → IsOld x.names.pairs m → IsOld s.names.pairs m
  was_old m is = IsOld-remove_back s.names.pairs (place_of s.names.pairs name) m within (subst (λ (l : List Link). IsOld l m) pairs_are is)

  was_link : (l : Link) → HasLink x.names.pairs l → HasLink s.names.pairs l
  was_link l is = let w = HasLink-remove_back s.names.pairs (place_of s.names.pairs name) l within (subst (λ (k : List Link). HasLink k l) pairs_are is) in (w.0, w.1, w.3)

  size : x.blocks.size ≡ s.blocks.size
  size = n.same_size

  fewer : (b : ℕ) → names_among s.blocks.size b x.names.pairs + cond (name / s.blocks.size == b) 1 0 ≡ names_among s.blocks.size b s.names.pairs
  fewer b = ap (λ (l : List Link). names_among s.blocks.size b l + cond (name / s.blocks.size == b) 1 0) pairs_are ∙ names_taken s.blocks.size b name s.names.pairs tied.named.remap old

  nexts : (p : ℕ) → IsNextToProgram (seen x) p → IsNextToProgram (seen s) p
  nexts p is =
      let a : x.active * x.blocks.size ≡ s.active * s.blocks.size = (λ i. next.0 i * size i) in
      let u = next.1 in
      let e = size in
      (omega (arith, a, u, is.0), omega (arith, a, u, e, is.0, is.1))

  copies : (p : ℕ) → IsNextCopy (seen x) p → IsNextCopy (seen s) p
  copies p is =
      let a : x.target * x.blocks.size ≡ s.target * s.blocks.size = (λ i. copy.0 i * size i) in
      let u = copy.1 in
      let e = size in
      (omega (arith, a, u, is.0), omega (arith, a, u, e, is.0, is.1))

  held_same : (p : ℕ) (h : Held) → held_at (seen x) p ≡ Some h → held_at (seen s) p ≡ Some h
  held_same p h is = sym (λ i. held_at (record (seen s) { held = (held i).items }) p) ∙ is

  in_use : (m : ℕ) → IsOld x.names.pairs m → (use_in x.blocks (m / x.blocks.size)).is_free ≡ false
  in_use m is = ap (λ k. (use_in x.blocks (m / k)).is_free) size ∙ ⊎_elim
      (λ same. ap (λ (u : Use). u.is_free) (same (m / s.blocks.size)) ∙ (tied.named.standing m (was_old m is)).in_use)
      (λ w. ⊎_elim
      (λ e. ap (λ b. (use_in x.blocks b).is_free) e ∙ still w.0 w.1 e)
      (λ ne. ap (λ (u : Use). u.is_free) (uses (m / s.blocks.size) ne) ∙ (tied.named.standing m (was_old m is)).in_use)
      (cases_eq (m / s.blocks.size) (name / s.blocks.size)))
      same_use
    where
      still : HasBlock s.blocks (name / s.blocks.size) → is_retired_state (block_at s.blocks (name / s.blocks.size)).state ≡ true → m / s.blocks.size ≡ name / s.blocks.size → (use_in x.blocks (name / s.blocks.size)).is_free ≡ false
      still has retired e =
          let b = name / s.blocks.size in
          let k = names_of (block_at s.blocks b).state in
          let count = tied.named.waits b k has (retired_is (block_at s.blocks b).state retired) in
          let one = names_some s.blocks.size m x.names.pairs table is in
          let left : 0 < names_among s.blocks.size b x.names.pairs = subst (λ q. 0 < names_among s.blocks.size q x.names.pairs) e one in
          let sum = fewer b in
          let yes : cond (b == b) 1 0 ≡ one_is = ap (λ (q : Bool). cond q 1 0) (eq-eqb b b refl) in
          let more : 0 < k - 1 = omega (arith, count, left, sum, yes) in
          ap (λ (u : Use). u.is_free) (use_here x.blocks b (has_same b n has)) ∙ ⊎_elim
          (λ same. absurd (true≢false (sym retired ∙ same.1 refl)))
          (λ here. ap (λ (q : BlockState). is_free_state q) here.2 ∙ waits_still (k - 1) more)
          (states b has)
        where
          one_is : ℕ
          one_is = 1

  waits : (b k : ℕ) → HasBlock x.blocks b → (block_at x.blocks b).state ≡ the.Retired k → k ≡ names_among x.blocks.size b x.names.pairs
  waits b k has st = by (states b was)
    where
      was : HasBlock s.blocks b
      was = has_same b (back n) has

      sized : names_among x.blocks.size b x.names.pairs ≡ names_among s.blocks.size b x.names.pairs
      sized = ap (λ q. names_among q b x.names.pairs) size

      by : ((block_at x.blocks b).state ≡ (block_at s.blocks b).state) × ((b ≡ name / s.blocks.size) → is_retired_state (block_at s.blocks b).state ≡ false)
          ⊎ ((b ≡ name / s.blocks.size) × (is_retired_state (block_at s.blocks b).state ≡ true) × ((block_at x.blocks b).state ≡ after_erase (names_of (block_at s.blocks b).state - 1)))
          → k ≡ names_among x.blocks.size b x.names.pairs
      by (inl same) =
          let count = tied.named.waits b k was (sym same.0 ∙ st) in
          let ne : name / s.blocks.size ≡ b → ⊥ = (λ e. true≢false (ap is_retired_state (sym (sym same.0 ∙ st)) ∙ same.1 (sym e))) in
          let none : cond (name / s.blocks.size == b) 1 0 ≡ zero = ap (λ (q : Bool). cond q 1 0) (ne_eqb (name / s.blocks.size) b ne) in
          let sum = fewer b in
          let z = sized in
          omega (arith, count, none, sum, z)
      by (inr here) =
          let j = names_of (block_at s.blocks b).state in
          let count = tied.named.waits b j was (retired_is (block_at s.blocks b).state here.1) in
          let less = names_after (j - 1) k (sym here.2 ∙ st) in
          let yes : cond (name / s.blocks.size == b) 1 0 ≡ suc zero = ap (λ (q : Bool). cond q 1 0) (eq-eqb (name / s.blocks.size) b (sym here.0)) in
          let sum = fewer b in
          let z = sized in
          omega (arith, count, less, yes, sum, z)

  -- a block in use was in the same one
  used_state : (b : ℕ) (state : BlockState) → is_free_state state ≡ false → is_retired_state state ≡ false → HasBlock s.blocks b → (block_at x.blocks b).state ≡ state → (block_at s.blocks b).state ≡ state
  used_state b state free retired has st = ⊎_elim
      (λ same. sym same.0 ∙ st)
      (λ here. absurd (not_in_use (names_of (block_at s.blocks b).state - 1) state free retired (sym here.2 ∙ st)))
      (states b has)

  still_state : (b : ℕ) (state : BlockState) → is_retired_state state ≡ false → HasBlock s.blocks b → (block_at s.blocks b).state ≡ state → (block_at x.blocks b).state ≡ state
  still_state b state retired has st = ⊎_elim
      (λ same. same.0 ∙ st)
      (λ here. absurd (true≢false (sym here.1 ∙ (ap is_retired_state st ∙ retired))))
      (states b has)

  pub dropped_tied : IsTied x
  dropped_tied =
      let ph = tied.phases in
      let e = size in
      record {
        named = record {
          size = ap (λ (t : NameTable). t.size) taken ∙ (tied.named.size ∙ sym size);
          blocks = ap (λ (t : NameTable). t.blocks) taken ∙ (tied.named.blocks ∙ (λ i. sym n.same_first i + sym n.same_count i));
          room =
              let r = ap (λ (t : NameTable). t.room) taken in
              let l = ap (λ (q : List Link). length q) pairs_are in
              let m = length-remove s.names.pairs (place_of s.names.pairs name) within in
              let w = tied.named.room in
              omega (arith, r, l, m, w, e);
          remap = table;
          standing = λ m is. let w = tied.named.standing m (was_old m is) in record { in_use = in_use m is; behind = λ k. w.behind (nexts m k); copy_behind = λ k. w.copy_behind (copies m k) };
          own = λ p h live is. tied.named.own p h (held_same p h live) (was_old p is);
          to_live = λ l is. let w = tied.named.to_live l (was_link l is) in (w.0, (λ i. held_at (record (seen s) { held = (held i).items }) l.to) ∙ w.1);
          waits = waits;
        };
        phases = record {
          target_in = subst (HasBlock x.blocks) (sym copy.0) (has_same s.target n ph.target_in);
          filled_fits = let f = ph.filled_fits in let g = copy.1 in omega (arith, e, f, g);
          filling = λ lt. ap (λ b. (block_at x.blocks b).state) copy.0 ∙ still_state s.target the.Target refl ph.target_in (ph.filling (let g = copy.1 in omega (arith, lt, e, g)));
          one_active = λ b has now. let w = ph.one_active b (has_same b (back n) has) (used_state b the.Active refl refl (has_same b (back n) has) now) in (w.0 ∙ sym next.0, let l = w.1 in let u = next.1 in omega (arith, e, l, u));
          one_target = λ b has now. let w = ph.one_target b (has_same b (back n) has) (used_state b the.Target refl refl (has_same b (back n) has) now) in (w.0 ∙ sym copy.0, let l = w.1 in let u = copy.1 in omega (arith, e, l, u));
          one_victim = λ b has now. copy.2 ∙ ph.one_victim b (has_same b (back n) has) (used_state b the.Victim refl refl (has_same b (back n) has) now);
          victim_in = λ b named. let w = ph.victim_in b (sym copy.2 ∙ named) in (has_same b n w.0, still_state b the.Victim refl w.0 w.1);
        };
        behind = λ p h live k. tied.behind p h (held_same p h live) (copies p k);
      }

-- the table of blocks keeps what it keeps for the cleaner, and the pairs are others
pub formed_names : (s : Kept) → IsPhysicalFormed s → (t : Table) (names : NameTable) → SameNumbers s.blocks t → ((b : ℕ) → (use_in t b).is_kept ≡ (use_in s.blocks b).is_kept) → SameMarks s.blocks t
    → (s.used < s.blocks.size → (block_at t s.active).state ≡ the.Active) → IsPhysicalFormed (record s { blocks = t; names = names })
formed_names s is t names n kept marks active =
    let f = formed_table s is t n active (λ p h named. kept (p / s.blocks.size) ∙ (is.places.each p h named).in_use) marks in
    record {
      some = f.some;
      numbers = f.numbers;
      pages = f.pages;
      marks = f.marks;
      active_in = f.active_in;
      used_fits = f.used_fits;
      taken = f.taken;
      places = record { each = λ p h named. let w = f.places.each p h named in record { within = w.within; in_use = w.in_use; behind = w.behind; spelled = w.spelled } };
      marked = f.marked;
    }
