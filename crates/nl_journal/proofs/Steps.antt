-- What each write of a transaction makes of how it stands.
use Rattle.std.proofs.Common.{◌≡◌, inl, inr, ⊎_elim, ℕ, ◌+◌, ◌<◌, ◌≤◌, ◌==◌, nat_lt, cond, Option, Some, None, is_some, List, length, get_or, refl, sym, ◌∙◌, ap, subst, arith, eq-eqb}
use Rattle.std.specs.List.{position_or_len}
use Rattle.std.proofs.lemmas.Bool.{cases_eq, eqb-true, ne_eqb, cond-true, lt-ltb}
use Rattle.std.proofs.lemmas.Option.{same_Some, none-some}
use Rattle.std.proofs.lemmas.List.Sums.{position_or_len_is}
use Rattle.nl_field.specs.declared.commit.CommitRec.{CommitRec}
use Rattle.std.proofs.lemmas.List.Quantifiers.{position-Some}
use Rattle.nl_field.specs.declared.shape.Shape.{Shape}
use Rattle.nl_meta.specs.Committed.{VirtualMap, home_or_image, committed}
use Rattle.nl_meta.specs.Pages.{Frozen}
use Rattle.nl_journal.specs.Outcomes.{Tried, Written, Within, NoMore, IsHome, Agrees}
use Rattle.nl_journal.specs.Transaction.{head, mark, Older, header, main_at, place, with_pages, IsFrozen, IsTransaction}
use Rattle.nl_journal.specs.Standing.{AtRest, Staged, Undecided, Deciding, TransactionCounts}
use Rattle.nl_journal.proofs.Counted.{uncounted, counted, committed_alone, committed_over, page_there, page_beside}

-- no address of the journal is a home
apart_from : {count v : ℕ} (k : ℕ) → IsHome count v → 1 ≤ k → k < 67 → v ≡ k → ⊥
apart_from k home from below is = ⊎_elim (λ first. omega (arith, first, from, is)) (λ later. omega (arith, later, below, is)) home.outside

-- where an address has a place, that place is within, and the address stands there
place_at : (frozen : Frozen) (v i : ℕ) → place frozen v ≡ Some i → (i < length frozen.addresses) × (get_or frozen.addresses i 0 ≡ v)
place_at frozen v i is = let p = position-Some (λ a. a == v) frozen.addresses i 0 is in (p.0, eqb-true (get_or frozen.addresses i 0) v p.1)

-- each address of the transaction has its own place
pub place_own : {frozen : Frozen} → IsFrozen frozen → (v j : ℕ) → j < length frozen.addresses → v ≡ get_or frozen.addresses j 0 → place frozen v ≡ Some j
place_own {frozen} t v j below is =
    let first : position_or_len (λ a. a == v) frozen.addresses ≡ j =
    position_or_len_is (λ a. a == v) frozen.addresses j 0 (omega (arith, below)) (λ k lt. ne_eqb (get_or frozen.addresses k 0) v (λ e. t.apart k j lt below (e ∙ is))) (λ lt. eq-eqb (get_or frozen.addresses j 0) v (sym is)) in
    ap (λ n. cond (nat_lt n (length frozen.addresses)) (Some n) None) first ∙ cond-true (nat_lt j (length frozen.addresses)) (Some j) None (lt-ltb j (length frozen.addresses) below)

place_is : {frozen : Frozen} → IsFrozen frozen → (v i j : ℕ) → j < length frozen.addresses → v ≡ get_or frozen.addresses j 0 → place frozen v ≡ Some i → i ≡ j
place_is t v i j below at is = same_Some i j (sym is ∙ place_own t v j below at)

-- from the commit page on the committed pages are those of the transaction, and those at home elsewhere
counted_commits : (shape : Shape) (base : VirtualMap) (number : ℕ) (frozen : Frozen) (f : VirtualMap) → IsTransaction shape.vaddrs frozen → head shape (f 1) ≡ Some (header number frozen) → mark (f 66) ≡ Some (record { number = number })
    → ((i : ℕ) → i < length frozen.addresses → f (2 + i) ≡ Some (main_at frozen.images i)) → (v : ℕ)
    → ((i : ℕ) → place frozen v ≡ Some i → base v ≡ Some (main_at frozen.images i)) → (place frozen v ≡ None → f v ≡ base v) → committed shape f v ≡ base v
counted_commits shape base number frozen f t begins ends images v listed others =
    committed_over shape f v number frozen (counted shape f (header number frozen) (record { number = number }) begins ends refl (λ i lt. ap is_some (images i lt)))
    ∙ at (place frozen v) refl
  where
    at : (o : Option ℕ) → place frozen v ≡ o → home_or_image f v o ≡ base v
    at None is = others is
    at (Some i) is = images i (place_at frozen v i is).0 ∙ sym (listed i is)

module _ {may : ℕ → Option (List ℕ) → Type 0} {number : ℕ} where
  pub undecided_tried : (v : ℕ) (main : List ℕ) → v < 66 → Undecided may number → Undecided (Tried may v main) number
  undecided_tried v main below u = record { older = λ b at. ⊎_elim (λ new. let no : ⊥ = omega (arith, new.0, below) in absurd no) (λ old. u.older b old) at }

  pub undecided_written : (v : ℕ) (main : List ℕ) → v < 66 → Undecided may number → Undecided (Written may v main) number
  undecided_written v main below u = record { older = λ b at. ⊎_elim (λ new. let no : ⊥ = omega (arith, new.0, below) in absurd no) (λ old. u.older b old.1) at }

  pub undecided_less : {new : ℕ → Option (List ℕ) → Type 0} → NoMore may new → Undecided may number → Undecided new number
  undecided_less less u = record { older = λ b at. u.older b (less 66 b at) }

  pub deciding_less : {new : ℕ → Option (List ℕ) → Type 0} {now : Option (List ℕ)} → NoMore may new → Deciding may now number → Deciding new now number
  deciding_less less d = record { before = d.before; either = λ b at. d.either b (less 66 b at) }

module _ {shape : Shape} {may : ℕ → Option (List ℕ) → Type 0} {base : VirtualMap} {number : ℕ} where
  -- before the commit page the committed pages are those at home
  pub staged_commits : {frozen : Frozen} {done : ℕ} → Staged shape may base number frozen done → 67 ≤ shape.vaddrs → (f : VirtualMap) → Within shape.vaddrs may f → Older number (f 66)
      → Agrees shape.vaddrs (committed shape f) base
  staged_commits {frozen} s wide f within older v home =
      committed_alone shape f v (uncounted shape f (header number frozen) (s.begins (f 1) (within 1 (omega (arith, wide)))) older) ∙ s.home v (f v) home (within v home.below)

  -- from the commit page on they are those of the transaction
  pub counts_commits : {frozen : Frozen} {copied : ℕ} → TransactionCounts shape may base number frozen copied → IsTransaction shape.vaddrs frozen → 67 ≤ shape.vaddrs → (f : VirtualMap) → Within shape.vaddrs may f
      → Agrees shape.vaddrs (committed shape f) base
  counts_commits {frozen} s t wide f within v home =
      let few = t.pages.few in
      counted_commits shape base number frozen f t (s.begins (f 1) (within 1 (omega (arith, wide)))) (s.ends (f 66) (within 66 (omega (arith, wide))))
      (λ i lt. s.images i (f (2 + i)) lt (within (2 + i) (omega (arith, wide, lt, few)))) v (λ i is. s.listed v i home is) (λ is. s.others v (f v) home is (within v home.below))

  -- where the commit page is shown whose write failed
  pub doubt_commits : {frozen : Frozen} → Staged shape may base number frozen (length frozen.addresses) → IsTransaction shape.vaddrs frozen → 67 ≤ shape.vaddrs → (f : VirtualMap) → Within shape.vaddrs may f
      → mark (f 66) ≡ Some (record { number = number }) → Agrees shape.vaddrs (committed shape f) (with_pages frozen base)
  doubt_commits {frozen} s t wide f within marked v home =
      let few = t.pages.few in
      counted_commits shape (with_pages frozen base) number frozen f t (s.begins (f 1) (within 1 (omega (arith, wide)))) marked
      (λ i lt. s.images i (f (2 + i)) lt (within (2 + i) (omega (arith, wide, lt, few)))) v (λ i is. page_there frozen base v i is)
      (λ is. s.home v (f v) home (within v home.below) ∙ sym (page_beside frozen base v is))

  -- ---- the header

  pub header_tried : (frozen : Frozen) (main : List ℕ) → 67 ≤ shape.vaddrs → head shape (Some main) ≡ Some (header number frozen) → AtRest shape may base number → AtRest shape (Tried may 1 main) base number
  header_tried frozen main wide spells r = record {
    home = λ v b home at. ⊎_elim (λ new. absurd (apart_from 1 home (omega arith) (omega arith) new.0)) (λ old. r.home v b home old) at;
    older = λ b at. ⊎_elim (λ new. let no : ⊥ = omega (arith, new.0) in absurd no) (λ old. r.older b old) at;
    agrees = λ f within v home. by f within v home (within 1 (omega (arith, wide)));
  }
    where
      beside : (f : VirtualMap) → Within shape.vaddrs (Tried may 1 main) f → (v : ℕ) → v < shape.vaddrs → (v ≡ 1 → ⊥) → may v (f v)
      beside f within v below ne = ⊎_elim (λ new. absurd (ne new.0)) (λ old. old) (within v below)

      by : (f : VirtualMap) → Within shape.vaddrs (Tried may 1 main) f → (v : ℕ) → IsHome shape.vaddrs v → Tried may 1 main 1 (f 1) → committed shape f v ≡ base v
      by f within v home (inl new) =
          committed_alone shape f v (uncounted shape f (header number frozen) (ap (head shape) new.1 ∙ spells) (r.older (f 66) (beside f within 66 (omega (arith, wide)) (λ e. omega (arith, e)))))
          ∙ r.home v (f v) home (beside f within v home.below (apart_from 1 home (omega arith) (omega arith)))
      by f within v home (inr old) =
          r.agrees f (λ u below. ⊎_elim (λ new. subst (λ w. may w (f w)) (sym new.0) old) (λ was. was) (within u below)) v home

  pub header_written : (frozen : Frozen) (main : List ℕ) → head shape (Some main) ≡ Some (header number frozen) → AtRest shape may base number
      → Staged shape (Written may 1 main) base number frozen 0 × Undecided (Written may 1 main) number
  header_written frozen main spells r = (
    record {
      begins = λ b at. ⊎_elim (λ new. ap (head shape) new.1 ∙ spells) (λ old. absurd (old.0 refl)) at;
      images = λ i b lt at. let no : ⊥ = omega (arith, lt) in absurd no;
      home = λ v b home at. ⊎_elim (λ new. absurd (apart_from 1 home (omega arith) (omega arith) new.0)) (λ old. r.home v b home old.1) at;
    },
    record { older = λ b at. ⊎_elim (λ new. let no : ⊥ = omega (arith, new.0) in absurd no) (λ old. r.older b old.1) at },
  )

  -- ---- an image

  pub image_tried : {frozen : Frozen} {i : ℕ} (main : List ℕ) → i < 64 → Staged shape may base number frozen i → Staged shape (Tried may (2 + i) main) base number frozen i
  image_tried {frozen} {i} main few s = record {
    begins = λ b at. ⊎_elim (λ new. let no : ⊥ = omega (arith, new.0) in absurd no) (λ old. s.begins b old) at;
    images = λ j b lt at. ⊎_elim (λ new. let no : ⊥ = omega (arith, new.0, lt) in absurd no) (λ old. s.images j b lt old) at;
    home = λ v b home at. ⊎_elim (λ new. absurd (apart_from (2 + i) home (omega arith) (omega (arith, few)) new.0)) (λ old. s.home v b home old) at;
  }

  pub image_written : {frozen : Frozen} {i : ℕ} (main : List ℕ) → i < 64 → main ≡ main_at frozen.images i → Staged shape may base number frozen i → Staged shape (Written may (2 + i) main) base number frozen (i + 1)
  image_written {frozen} {i} main few is s = record {
    begins = λ b at. ⊎_elim (λ new. let no : ⊥ = omega (arith, new.0) in absurd no) (λ old. s.begins b old.1) at;
    images = λ j b lt at. ⊎_elim
        (λ new. let same : j ≡ i = omega (arith, new.0) in new.1 ∙ ap Some (is ∙ ap (main_at frozen.images) (sym same)))
        (λ old. let less : j < i = omega (arith, old.0, lt) in s.images j b less old.1) at;
    home = λ v b home at. ⊎_elim (λ new. absurd (apart_from (2 + i) home (omega arith) (omega (arith, few)) new.0)) (λ old. s.home v b home old.1) at;
  }

  -- ---- the commit page

  pub mark_tried : {frozen : Frozen} {done : ℕ} (main : List ℕ) → done ≤ 64 → mark (Some main) ≡ Some (record { number = number }) → Staged shape may base number frozen done → {now : Option (List ℕ)} → Deciding may now number
      → Staged shape (Tried may 66 main) base number frozen done × Deciding (Tried may 66 main) now number
  mark_tried {frozen} {done} main few spells s d = (
    record {
      begins = λ b at. ⊎_elim (λ new. let no : ⊥ = omega (arith, new.0) in absurd no) (λ old. s.begins b old) at;
      images = λ j b lt at. ⊎_elim (λ new. let no : ⊥ = omega (arith, new.0, lt, few) in absurd no) (λ old. s.images j b lt old) at;
      home = λ v b home at. ⊎_elim (λ new. absurd (apart_from 66 home (omega arith) (omega arith) new.0)) (λ old. s.home v b home old) at;
    },
    record { before = d.before; either = λ b at. ⊎_elim (λ new. inr (ap mark new.1 ∙ spells)) (λ old. d.either b old) at },
  )

  pub mark_written : {frozen : Frozen} (main : List ℕ) → IsTransaction shape.vaddrs frozen → mark (Some main) ≡ Some (record { number = number }) → Staged shape may base number frozen (length frozen.addresses)
      → TransactionCounts shape (Written may 66 main) (with_pages frozen base) number frozen 0
  mark_written {frozen} main t spells s =
      let few = t.pages.few in
      record {
        begins = λ b at. ⊎_elim (λ new. let no : ⊥ = omega (arith, new.0) in absurd no) (λ old. s.begins b old.1) at;
        ends = λ b at. ⊎_elim (λ new. ap mark new.1 ∙ spells) (λ old. absurd (old.0 refl)) at;
        images = λ j b lt at. ⊎_elim (λ new. let no : ⊥ = omega (arith, new.0, lt, few) in absurd no) (λ old. s.images j b lt old.1) at;
        listed = λ v i home is. page_there frozen base v i is;
        home = λ v i b home is lt at. let no : ⊥ = omega (arith, lt) in absurd no;
        others = λ v b home is at. ⊎_elim (λ new. absurd (apart_from 66 home (omega arith) (omega arith) new.0)) (λ old. s.home v b home old.1 ∙ sym (page_beside frozen base v is)) at;
      }

  -- ---- a page copied home

  pub home_tried : {frozen : Frozen} {j v : ℕ} (main : List ℕ) → IsTransaction shape.vaddrs frozen → j < length frozen.addresses → v ≡ get_or frozen.addresses j 0 → main ≡ main_at frozen.images j
      → TransactionCounts shape may base number frozen j → TransactionCounts shape (Tried may v main) base number frozen j
  home_tried {frozen} {j} {v} main t below is bytes s =
      let own : IsHome shape.vaddrs v = subst (IsHome shape.vaddrs) (sym is) (t.home j below) in
      let few = t.pages.few in
      record {
        begins = λ b at. ⊎_elim (λ new. absurd (apart_from 1 own (omega arith) (omega arith) (sym new.0))) (λ old. s.begins b old) at;
        ends = λ b at. ⊎_elim (λ new. absurd (apart_from 66 own (omega arith) (omega arith) (sym new.0))) (λ old. s.ends b old) at;
        images = λ i b lt at. ⊎_elim (λ new. absurd (apart_from (2 + i) own (omega arith) (omega (arith, lt, few)) (sym new.0))) (λ old. s.images i b lt old) at;
        listed = s.listed;
        home = λ u i b home has lt at. ⊎_elim (λ new. let same : i ≡ j = place_is t.pages u i j below (new.0 ∙ is) has in let no : ⊥ = omega (arith, same, lt) in absurd no) (λ old. s.home u i b home has lt old) at;
        others = λ u b home none at. ⊎_elim (λ new. absurd (unplaced u new.0 none)) (λ old. s.others u b home none old) at;
      }
    where
      unplaced : (u : ℕ) → u ≡ v → place frozen u ≡ None → ⊥
      unplaced u at none = none-some j (sym none ∙ place_own t.pages u j below (at ∙ is))

  pub home_written : {frozen : Frozen} {j v : ℕ} (main : List ℕ) → IsTransaction shape.vaddrs frozen → j < length frozen.addresses → v ≡ get_or frozen.addresses j 0 → main ≡ main_at frozen.images j
      → TransactionCounts shape may base number frozen j → TransactionCounts shape (Written may v main) base number frozen (j + 1)
  home_written {frozen} {j} {v} main t below is bytes s =
      let own : IsHome shape.vaddrs v = subst (IsHome shape.vaddrs) (sym is) (t.home j below) in
      let few = t.pages.few in
      record {
        begins = λ b at. ⊎_elim (λ new. absurd (apart_from 1 own (omega arith) (omega arith) (sym new.0))) (λ old. s.begins b old.1) at;
        ends = λ b at. ⊎_elim (λ new. absurd (apart_from 66 own (omega arith) (omega arith) (sym new.0))) (λ old. s.ends b old.1) at;
        images = λ i b lt at. ⊎_elim (λ new. absurd (apart_from (2 + i) own (omega arith) (omega (arith, lt, few)) (sym new.0))) (λ old. s.images i b lt old.1) at;
        listed = s.listed;
        home = λ u i b home has lt at. ⊎_elim
            (λ new. let same : i ≡ j = place_is t.pages u i j below (new.0 ∙ is) has in new.1 ∙ ap Some (bytes ∙ ap (main_at frozen.images) (sym same)))
            (λ old. earlier u i b home has lt old) at;
        others = λ u b home none at. ⊎_elim (λ new. absurd (unplaced u new.0 none)) (λ old. s.others u b home none old.1) at;
      }
    where
      unplaced : (u : ℕ) → u ≡ v → place frozen u ≡ None → ⊥
      unplaced u at none = none-some j (sym none ∙ place_own t.pages u j below (at ∙ is))

      earlier : (u i : ℕ) (b : Option (List ℕ)) → IsHome shape.vaddrs u → place frozen u ≡ Some i → i < j + 1 → (u ≡ v → ⊥) × may u b → b ≡ Some (main_at frozen.images i)
      earlier u i b home has lt old = elim (cases_eq i j) [
        | inl same ↦ absurd (old.0 (sym (place_at frozen u i has).1 ∙ ap (λ k. get_or frozen.addresses k 0) same ∙ sym is))
        | inr differ ↦ let less : i < j = omega (arith, lt, differ) in s.home u i b home has less old.1
      ]

  -- all of it is home
  pub counts_end : {frozen : Frozen} → IsTransaction shape.vaddrs frozen → 67 ≤ shape.vaddrs → TransactionCounts shape may base number frozen (length frozen.addresses) → AtRest shape may base (number + 1)
  counts_end {frozen} t wide s = record {
    home = λ v b home at. by v b home at (place frozen v) refl;
    older = λ b at rec is. later rec (same_Some rec (record { number = number }) (sym is ∙ s.ends b at));
    agrees = λ f within. counts_commits s t wide f within;
  }
    where
      later : (rec : CommitRec) → rec ≡ record { number = number } → rec.number < number + 1
      later rec is = let e : rec.number ≡ number = ap (λ (r : CommitRec). r.number) is in omega (arith, e)

      by : (v : ℕ) (b : Option (List ℕ)) → IsHome shape.vaddrs v → may v b → (o : Option ℕ) → place frozen v ≡ o → b ≡ base v
      by v b home at None is = s.others v b home is at
      by v b home at (Some i) is = s.home v i b home is (place_at frozen v i is).0 at ∙ sym (s.listed v i home is)

  -- ---- less may be shown

  pub rest_less : {new : ℕ → Option (List ℕ) → Type 0} → NoMore may new → AtRest shape may base number → AtRest shape new base number
  rest_less less r = record {
    home = λ v b home at. r.home v b home (less v b at);
    older = λ b at. r.older b (less 66 b at);
    agrees = λ f within. r.agrees f (λ v below. less v (f v) (within v below));
  }

  pub staged_less : {new : ℕ → Option (List ℕ) → Type 0} {frozen : Frozen} {done : ℕ} → NoMore may new → Staged shape may base number frozen done → Staged shape new base number frozen done
  staged_less less s = record {
    begins = λ b at. s.begins b (less 1 b at);
    images = λ i b lt at. s.images i b lt (less (2 + i) b at);
    home = λ v b home at. s.home v b home (less v b at);
  }

  pub counts_less : {new : ℕ → Option (List ℕ) → Type 0} {frozen : Frozen} {copied : ℕ} → NoMore may new → TransactionCounts shape may base number frozen copied → TransactionCounts shape new base number frozen copied
  counts_less less s = record {
    begins = λ b at. s.begins b (less 1 b at);
    ends = λ b at. s.ends b (less 66 b at);
    images = λ i b lt at. s.images i b lt (less (2 + i) b at);
    listed = s.listed;
    home = λ v i b home is lt at. s.home v i b home is lt (less v b at);
    others = λ v b home is at. s.others v b home is (less v b at);
  }

  -- ---- other words for the committed pages

  pub rest_named : {named : VirtualMap} → Agrees shape.vaddrs base named → AtRest shape may base number → AtRest shape may named number
  rest_named same r = record {
    home = λ v b home at. r.home v b home at ∙ same v home;
    older = r.older;
    agrees = λ f within v home. r.agrees f within v home ∙ same v home;
  }

  pub staged_named : {named : VirtualMap} {frozen : Frozen} {done : ℕ} → Agrees shape.vaddrs base named → Staged shape may base number frozen done → Staged shape may named number frozen done
  staged_named same s = record { begins = s.begins; images = s.images; home = λ v b home at. s.home v b home at ∙ same v home }

  pub counts_named : {named : VirtualMap} {frozen : Frozen} {copied : ℕ} → Agrees shape.vaddrs base named → TransactionCounts shape may base number frozen copied → TransactionCounts shape may named number frozen copied
  counts_named same s = record {
    begins = s.begins;
    ends = s.ends;
    images = s.images;
    listed = λ v i home is. sym (same v home) ∙ s.listed v i home is;
    home = s.home;
    others = λ v b home is at. s.others v b home is at ∙ same v home;
  }
