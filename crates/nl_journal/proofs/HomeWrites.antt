-- What a write of a transaction brings home, and what it leaves.
use Rattle.std.proofs.Common.{◌≡◌, ◌⊎◌, inl, inr, ⊎_elim, ℕ, ◌+◌, ◌<◌, ◌≤◌, ◌==◌, nat_lt, Bool, true, false, cond, List, length, get_or, Some, None, refl, sym, ◌∙◌, ap, subst, arith, eq-eqb}
use Rattle.std.proofs.lemmas.Bool.{cases_eq, cond-true, cond-false, ltb-false, ne_eqb}
use Rattle.std.proofs.lemmas.Option.{none-some}
use Rattle.nl_meta.specs.Committed.{VirtualMap}
use Rattle.nl_meta.specs.Pages.{Frozen, none_frozen}
use Rattle.nl_journal.specs.Homes.{AreHome, BringsHome, WritesHome, copied, copied_next, with_bytes}
use Rattle.nl_journal.specs.Outcomes.{IsHome}
use Rattle.nl_journal.specs.Progress.{IsPhase, Progress, next, next_number_in, next_phase}
use Rattle.nl_journal.specs.Transaction.{IsFrozen, IsTransaction, main_at, place}
use Rattle.nl_journal.specs.Units.{IsDue, frozen_after}
use Rattle.nl_journal.specs.declared.answers.Phase.{Phase}
use Rattle.nl_journal.specs.declared.answers.Phase.TheVariants.{Header, Image, Commit, Home}
use Rattle.nl_journal.proofs.Steps.{place_own}

bytes_there : (map : VirtualMap) (v : ℕ) (main : List ℕ) (u : ℕ) → u ≡ v → with_bytes map v main u ≡ Some main
bytes_there map v main u is = cond-true (u == v) (Some main) (map u) (eq-eqb u v is)

bytes_beside : (map : VirtualMap) (v : ℕ) (main : List ℕ) (u : ℕ) → (u ≡ v → ⊥) → with_bytes map v main u ≡ map u
bytes_beside map v main u far = cond-false (u == v) (Some main) (map u) (ne_eqb u v far)

-- no page of the volume but one of the transaction is due
due_apart : (phase : Phase) (number : ℕ) (frozen : Frozen) (v : ℕ) (main : List ℕ) (count : ℕ) → IsTransaction count frozen → IsPhase phase (length frozen.addresses) → IsDue phase number frozen v main
    → (u : ℕ) → IsHome count u → place frozen u ≡ None → u ≡ v → ⊥
due_apart Header number frozen v main count t at due u home none is = ⊎_elim (λ low. let e = due.0 in omega (arith, low, e, is)) (λ high. let e = due.0 in omega (arith, high, e, is)) home.outside
due_apart (Image i) number frozen v main count t at due u home none is =
    let few = t.pages.few in
    ⊎_elim (λ low. let e = due.0 in omega (arith, low, e, is)) (λ high. let e = due.0 in omega (arith, high, e, is, at, few)) home.outside
due_apart Commit number frozen v main count t at due u home none is = ⊎_elim (λ low. let e = due.0 in omega (arith, low, e, is)) (λ high. let e = due.0 in omega (arith, high, e, is)) home.outside
due_apart (Home i) number frozen v main count t at due u home none is = none-some i (sym none ∙ place_own t.pages u i at (is ∙ due.0))

brings_home : (phase : Phase) (number : ℕ) (frozen : Frozen) (v : ℕ) (main : List ℕ) → IsFrozen frozen → IsPhase phase (length frozen.addresses) → IsDue phase number frozen v main
    → (old new : VirtualMap) → ((u : ℕ) → new u ≡ with_bytes old v main u) → AreHome frozen (copied phase) old → AreHome frozen (copied_next phase) new
brings_home Header number frozen v main t at due old new raw before j lt = absurd (let no : ⊥ = omega (arith, lt) in no)
brings_home (Image i) number frozen v main t at due old new raw before j lt = absurd (let no : ⊥ = omega (arith, lt) in no)
brings_home Commit number frozen v main t at due old new raw before j lt = absurd (let no : ⊥ = omega (arith, lt) in no)
brings_home (Home i) number frozen v main t at due old new raw before j lt = by (cases_eq j i)
  where
    here : ℕ
    here = get_or frozen.addresses j 0

    by : (j ≡ i) ⊎ (j ≡ i → ⊥) → new here ≡ Some (main_at frozen.images j)
    by (inl same) =
        raw here ∙ bytes_there old v main here (ap (λ k. get_or frozen.addresses k 0) same ∙ sym due.0)
        ∙ ap (λ (m : List ℕ). Some m) (due.1 ∙ ap (main_at frozen.images) (sym same))
    by (inr far) =
        let less : j < i = omega (arith, lt, far) in
        raw here ∙ bytes_beside old v main here (λ e. t.apart j i less at (e ∙ due.0)) ∙ before j less

pub done_home : (phase : Phase) (number : ℕ) (frozen : Frozen) (v : ℕ) (main : List ℕ) (count : ℕ) → IsTransaction count frozen → IsPhase phase (length frozen.addresses) → IsDue phase number frozen v main
    → (done : Type 0) → done → (old new : VirtualMap) → ((u : ℕ) → new u ≡ with_bytes old v main u) → WritesHome phase frozen done count old new
done_home phase number frozen v main count t at due done is_done old new raw = record {
  beside = λ u home none. raw u ∙ bytes_beside old v main u (due_apart phase number frozen v main count t at due u home none);
  waits = λ off. absurd (off is_done);
  brings = λ d. brings_home phase number frozen v main t.pages at due old new raw;
}

pub undone_home : (phase : Phase) (frozen : Frozen) (count : ℕ) (done : Type 0) → (done → ⊥) → (old new : VirtualMap) → ((u : ℕ) → new u ≡ old u) → WritesHome phase frozen done count old new
undone_home phase frozen count done off old new same = record { beside = λ u home none. same u; waits = λ o. same; brings = λ d. absurd (off d) }

-- ---- several writes

pub home_start : (count : ℕ) (p : Progress) (frozen : Frozen) (map : VirtualMap) → BringsHome count p p frozen frozen map map
home_start count p frozen map = record { beside = λ v home none. refl; brings = λ before. inl (refl, before) }

-- a write that was not done
pub home_failed : (count : ℕ) (p q : Progress) (frozen now : Frozen) (old new : VirtualMap) → q ≡ p → now ≡ frozen → ((v : ℕ) → new v ≡ old v) → BringsHome count p q frozen now old new
home_failed count p q frozen now old new is stays same = record {
  beside = λ v home none. same v;
  brings = λ before. inl (stays, λ j lt. same (get_or frozen.addresses j 0) ∙ before j (subst (λ (x : Progress). j < copied x.phase) is lt));
}

copied_image : (b : Bool) (i : ℕ) → copied (cond b (Image (i + 1)) Commit) ≡ 0
copied_image true i = refl
copied_image false i = refl

-- A write that was done, and the others.
module _ (count : ℕ) (frozen now : Frozen) (r : Progress) (old mid new : VirtualMap) (done : Type 0) (is_done : done) (t : IsTransaction count frozen) where
  same_then : (phase : Phase) (k : ℕ) (q : Progress) → copied q.phase ≡ copied_next phase → WritesHome phase frozen done count old mid → BringsHome count q r frozen now mid new
      → BringsHome count (record { number = k; phase = phase }) r frozen now old new
  same_then phase k q same w rest = record {
    beside = λ v home none. rest.beside v home none ∙ w.beside v home none;
    brings = λ before. rest.brings (λ j lt. w.brings is_done before j (subst (λ (n : ℕ). j < n) same lt));
  }

  -- the last page is home
  last_then : (i k : ℕ) (q : Progress) → length frozen.addresses ≤ i + 1 → q.phase ≡ Header → WritesHome (Home i) frozen done count old mid → BringsHome count q r none_frozen now mid new
      → BringsHome count (record { number = k; phase = Home i }) r frozen now old new
  last_then i k q last header w rest = record {
    beside = λ v home none. rest.beside v home refl ∙ w.beside v home none;
    brings = λ before. inr (
      ⊎_elim (λ is. is.0) (λ is. is.0) (rest.brings (λ j lt. absurd (none j (subst (λ (x : Phase). j < copied x) header lt)))),
      λ j lt. rest.beside (get_or frozen.addresses j 0) (t.home j lt) refl ∙ w.brings is_done before j (omega (arith, lt, last)),
    );
  }
    where
      none : (j : ℕ) → j < 0 → ⊥
      none j lt = omega (arith, lt)

  pub home_then : (phase : Phase) (k m : ℕ) → WritesHome phase frozen done count old mid → BringsHome count (record { number = m; phase = next_phase phase (length frozen.addresses) }) r (frozen_after phase frozen) now mid new
      → BringsHome count (record { number = k; phase = phase }) r frozen now old new
  home_then Header k m w rest = same_then Header k (record { number = m; phase = Image 0 }) refl w rest
  home_then (Image i) k m w rest = same_then (Image i) k (record { number = m; phase = next_phase (Image i) (length frozen.addresses) }) (copied_image (nat_lt (i + 1) (length frozen.addresses)) i) w rest
  home_then Commit k m w rest = same_then Commit k (record { number = m; phase = Home 0 }) refl w rest
  home_then (Home i) k m w rest = by (nat_lt (i + 1) (length frozen.addresses)) refl rest
    where
      by : (b : Bool) → nat_lt (i + 1) (length frozen.addresses) ≡ b
          → BringsHome count (record { number = m; phase = cond b (Home (i + 1)) Header }) r (cond b frozen none_frozen) now mid new → BringsHome count (record { number = k; phase = Home i }) r frozen now old new
      by true e x = same_then (Home i) k (record { number = m; phase = Home (i + 1) }) refl w x
      by false e x = last_then i k (record { number = m; phase = Header }) (ltb-false (i + 1) (length frozen.addresses) e) refl w x

  -- by the answer of the write
  pub home_step : (p q : Progress) (after : Frozen) → q ≡ next p (length frozen.addresses) → after ≡ frozen_after p.phase frozen → WritesHome p.phase frozen done count old mid → BringsHome count q r after now mid new
      → BringsHome count p r frozen now old new
  home_step p q after is_next is_after w rest =
      home_then p.phase p.number (next_number_in p.phase p.number) w
      (subst (λ (x : Frozen). BringsHome count (next p (length frozen.addresses)) r x now mid new) is_after (subst (λ (x : Progress). BringsHome count x r after now mid new) is_next rest))
