-- The names of a page are dropped, one by one.
use Rattle.std.proofs.Common.{◌≡◌, ℕ, ◌==◌, not, Bool, true, false, List, [], ◌∷◌, length, remove, refl, sym, ◌∙◌, ap, arith, ◌<◌, cond, zero, suc, eq-eqb, ne_eqb}
use Rattle.std.proofs.lemmas.List.Edits.{length-remove}
use Rattle.nl_remap.specs.Links.{link_at}
use Rattle.nl_remap.specs.Table.{IsOld, IsRemap, beside, place_of, told}
use Rattle.nl_remap.specs.declared.links.Link.{Link}
use Rattle.nl_remap.proofs.Ways.{place_is}
use Rattle.nl_pseg.specs.Cleaning.{without_name}
use Rattle.nl_pseg.specs.Segment.{without_target}
use Rattle.nl_pseg.specs.Seen.{IsPhysicalFormed, IsTied, seen}
use Rattle.nl_pseg.specs.Steps.{NamesGoneFromSegment}
use Rattle.nl_pseg.specs.Kept.{Kept}
use Rattle.nl_pseg_names.proofs.Named.{old_within}

pub record Dropping (target : ℕ) (first now : Kept) : Type 0 where
  pub formed : IsPhysicalFormed now
  pub tied : IsTied now
  pub beside : beside now.names.pairs target ≡ beside first.names.pairs target
  pub held : now.held ≡ first.held
  pub gone : NamesGoneFromSegment (seen first) (seen now)

told_cond : (b : Bool) (x : Link) (l : List Link) → told (cond b (x ∷ l) l) ≡ cond b ((x.from, x.to) ∷ told l) (told l)
told_cond true x l = refl
told_cond false x l = refl

-- the pairs without those of a page
pub told_beside : (target : ℕ) (ps : List Link) → told (beside ps target) ≡ without_target target (told ps)
told_beside target [] = refl
told_beside target (x ∷ xs) = told_cond (not (x.to == target)) x (beside xs target) ∙ ap (λ (l : List (ℕ × ℕ)). cond (not (x.to == target)) ((x.from, x.to) ∷ l) l) (told_beside target xs)

-- the pairs without that of a name
without_all : (name : ℕ) (ps : List Link) → ((j : ℕ) → j < length ps → (link_at ps j).from ≡ name → ⊥) → told ps ≡ without_name name (told ps)
without_all name [] none = refl
without_all name (x ∷ xs) none =
    let other : not (x.from == name) ≡ true = ap not (ne_eqb x.from name (none 0 (omega arith))) in
    ap (λ (l : List (ℕ × ℕ)). (x.from, x.to) ∷ l) (without_all name xs (λ j less. none (suc j) (omega (arith, less))))
    ∙ sym (ap (λ (b : Bool). cond b ((x.from, x.to) ∷ without_name name (told xs)) (without_name name (told xs))) other)

told_without : (ps : List Link) (i name : ℕ) → i < length ps → (link_at ps i).from ≡ name → ((j : ℕ) → j < length ps → (j ≡ i → ⊥) → (link_at ps j).from ≡ name → ⊥) → told (remove ps i) ≡ without_name name (told ps)
told_without [] i name within here others = absurd (omega (arith, within))
told_without (x ∷ xs) zero name within here others =
    let same : not (x.from == name) ≡ false = ap not (eq-eqb x.from name here) in
    without_all name xs (λ j less. others (suc j) (omega (arith, less)) (λ e. omega (arith, e)))
    ∙ sym (ap (λ (b : Bool). cond b ((x.from, x.to) ∷ without_name name (told xs)) (without_name name (told xs))) same)
told_without (x ∷ xs) (suc i) name within here others =
    let other : not (x.from == name) ≡ true = ap not (ne_eqb x.from name (others 0 (omega arith) (λ e. omega (arith, e)))) in
    ap (λ (l : List (ℕ × ℕ)). (x.from, x.to) ∷ l) (told_without xs i name (omega (arith, within)) here (λ j less ne. others (suc j) (omega (arith, less)) (λ e. ne (omega (arith, e)))))
    ∙ sym (ap (λ (b : Bool). cond b ((x.from, x.to) ∷ without_name name (told xs)) (without_name name (told xs))) other)

pub dropped_told : (ps : List Link) (name : ℕ) → IsRemap ps → IsOld ps name → told (remove ps (place_of ps name)) ≡ without_name name (told ps)
dropped_told ps name is old =
    let at : place_of ps name ≡ old.0 = ap (place_of ps) (sym old.2) ∙ place_is ps old.0 is old.1 in
    ap (λ k. told (remove ps k)) at ∙ told_without ps old.0 name old.1 old.2 (λ j less ne same.
    ne (sym (place_is ps j is less) ∙ (ap (place_of ps) (same ∙ sym old.2) ∙ place_is ps old.0 is old.1)))

pub one_fewer : (ps qs : List Link) (name : ℕ) → IsRemap ps → IsOld ps name → qs ≡ remove ps (place_of ps name) → length qs < length ps
one_fewer ps qs name is old taken =
    let within = old_within ps name is old in
    let n = length-remove ps (place_of ps name) within in
    let e = ap (λ (l : List Link). length l) taken in
    omega (arith, n, e, within)
