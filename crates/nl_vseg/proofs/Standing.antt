-- Images that stand for a map.
use Rattle.std.proofs.Common.{◌≡◌, ◌⊎◌, inl, inr, ⊎_elim, ℕ, ◌<◌, ◌==◌, Option, Some, List, sym, ◌∙◌, subst, eq-eqb, ne_eqb}
use Rattle.std.proofs.lemmas.Bool.{cases_eq, cond-true, cond-false}
use Rattle.std.proofs.lemmas.Option.{same_Some}
use Rattle.nl_field.specs.Page.{Image}
use Rattle.nl_vseg.specs.Effects.{ImageKeepsMap, GainsValue}
use Rattle.nl_vseg.specs.Maps.{RepresentsMap, Dominated, IsAbove, with_at}
use Rattle.nl_vseg.specs.Pages.{PageShows}

pub with_here : (map : ℕ → Option (ℕ × List ℕ)) (v : ℕ) (x : ℕ × List ℕ) (u : ℕ) → u ≡ v → with_at map v x u ≡ Some x
with_here map v x u is = cond-true (u == v) (Some x) (map u) (eq-eqb u v is)

pub with_other : (map : ℕ → Option (ℕ × List ℕ)) (v : ℕ) (x : ℕ × List ℕ) (u : ℕ) → (u ≡ v → ⊥) → with_at map v x u ≡ map u
with_other map v x u ne = cond-false (u == v) (Some x) (map u) (ne_eqb u v ne)

pub keeps_stands : {pages bound count : ℕ} {map : ℕ → Option (ℕ × List ℕ)} {old c : Image} → RepresentsMap bound count old map → ImageKeepsMap pages bound map old c → RepresentsMap bound count c map
keeps_stands stands k = record {
  there = λ v s main is. let e = k.there v s main is in (e.0, e.1, e.3);
  each = λ v t n below shows. stands.each v t n below (k.no_more v t n shows);
}

pub takes_stands : {pages bound count v s : ℕ} {main : List ℕ} {map : ℕ → Option (ℕ × List ℕ)} {old c : Image} → RepresentsMap bound count old map → IsAbove bound old v s
    → GainsValue pages bound map v s main old c → RepresentsMap bound count c (with_at map v (s, main))
takes_stands {pages} {bound} {count} {v} {s} {main} {map} {old} {c} stands above k = record {
  there = λ u t n is. there u t n is (cases_eq u v);
  each = λ u t n below shows. each u t n below (k.no_more u t n shows) (cases_eq u v);
}
  where
    there : (u t : ℕ) (n : List ℕ) → with_at map v (s, main) u ≡ Some (t, n) → (u ≡ v) ⊎ (u ≡ v → ⊥) → PageShows bound c u t n
    there u t n is (inl same) =
        let e = same_Some (s, main) (t, n) (sym (with_here map v (s, main) u same) ∙ is) in
        let P : ℕ × List ℕ → Type 0 = λ x. PageShows bound c u x.0 x.1 in
        subst P e (subst (λ w. PageShows bound c w s main) (sym same) (k.new.0, k.new.1, k.new.3))
    there u t n is (inr ne) = let e = k.there u t n (sym (with_other map v (s, main) u ne) ∙ is) in (e.0, e.1, e.3)

    each : (u t : ℕ) (n : List ℕ) → u < count → PageShows bound old u t n ⊎ ((u ≡ v) × (t ≡ s) × (n ≡ main)) → (u ≡ v) ⊎ (u ≡ v → ⊥) → Dominated (with_at map v (s, main) u) t n
    each u t n below was (inl same) = subst (λ x. Dominated x t n) (sym (with_here map v (s, main) u same)) (⊎_elim
        (λ before. inl (above.older t n (subst (λ w. PageShows bound old w t n) same before)))
        (λ new. inr (new.1, new.2))
        was)
    each u t n below was (inr ne) = subst (λ x. Dominated x t n) (sym (with_other map v (s, main) u ne)) (⊎_elim
        (λ before. stands.each u t n below before)
        (λ new. absurd (ne new.0))
        was)
