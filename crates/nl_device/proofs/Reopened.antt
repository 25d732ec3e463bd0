-- The pointers of an opening hold each live page once, and lead to it.
use Rattle.std.proofs.Common.{◌≡◌, ◌≢◌, inl, inr, ⊎_elim, ℕ, zero, suc, ◌<◌, ◌≤◌, cond, List, [], ◌∷◌, length, map, get_or, refl, sym, ◌∙◌, ap, arith, eq-eqb, ne_eqb}
use Rattle.std.specs.Prelude.{AllPairs}
use Rattle.std.proofs.lemmas.Bool.{cases_eq}
use Rattle.std.proofs.lemmas.List.{length-map}
use Rattle.std.proofs.lemmas.Option.{none-some}
use Rattle.nl_field.specs.declared.pointer.Pointer.{Pointer}
use Rattle.nl_field.specs.declared.pointer.Tag.{Tag}
use Rattle.nl_iface.specs.Holders.{IsCounted, IsHeld, one, tagged, times}
use Rattle.nl_iface.specs.Moves.{Retains}
use Rattle.nl_iface.specs.Names.{Has, LivePage, Names}
use Rattle.nl_device.specs.Reopened.{AreTagged, only_running}

pub listed : (xs : List (Tag × Pointer)) (h : Tag × Pointer) → Has xs h → Has (map tagged xs) (tagged h)
listed [] h has = absurd has
listed (x ∷ xs) h (inl same) = inl (ap tagged same)
listed (x ∷ xs) h (inr has) = inr (listed xs h has)

pub same_one : (s t : ℕ) → s ≡ t → one s t ≡ 1
same_one s t same = ap (λ b. cond b 1 0) (eq-eqb s t same)

pub other_one : (s t : ℕ) → s ≢ t → one s t ≡ 0
other_one s t apart = ap (λ b. cond b 1 0) (ne_eqb s t apart)

pub some_time : (xs : List (Tag × Pointer)) (p : Pointer) → Has (map tagged xs) p → 1 ≤ times tagged p.stamp xs
some_time [] p has = absurd has
some_time (x ∷ xs) p (inl same) = let here = same_one (tagged x).stamp p.stamp (ap (λ (q : Pointer). q.stamp) same) in omega (arith, here)
some_time (x ∷ xs) p (inr has) = let rest = some_time xs p has in omega (arith, rest)

pub no_time : (xs : List (Tag × Pointer)) (s : ℕ) → ((i : ℕ) (d : Pointer) → i < length (map tagged xs) → (get_or (map tagged xs) i d).stamp ≢ s) → times tagged s xs ≡ 0
no_time [] s off = refl
no_time (x ∷ xs) s off =
    let here = other_one (tagged x).stamp s (off zero (tagged x) (omega arith)) in
    let rest = no_time xs s (λ i d within. off (suc i) d (omega (arith, within))) in
    omega (arith, here, rest)

pub once : (xs : List (Tag × Pointer)) (s : ℕ) → AllPairs (λ (p q : Pointer). p.stamp ≢ q.stamp) (map tagged xs) → times tagged s xs ≤ 1
once [] s differ = omega arith
once (x ∷ xs) s differ = ⊎_elim
    (λ (same : (tagged x).stamp ≡ s).
    let here = same_one (tagged x).stamp s same in
    let rest = no_time xs s (λ i d within e. differ zero (suc i) d (omega arith) (omega (arith, within)) (same ∙ sym e)) in
    omega (arith, here, rest))
    (λ (apart : (tagged x).stamp ≢ s).
    let here = other_one (tagged x).stamp s apart in
    let rest = once xs s (λ i j d less within. differ (suc i) (suc j) d (omega (arith, less)) (omega (arith, within))) in
    omega (arith, here, rest))
    (cases_eq (tagged x).stamp s)

module _ (running : List (Tag × Pointer)) (place : Pointer → ℕ) (found : List (ℕ × LivePage)) (names : Names) (r : Retains (map tagged running) place found names) where
  pub are_held : AllPairs (λ (p q : Pointer). p.stamp ≢ q.stamp) (map tagged running) → AreTagged place found running → IsHeld names (only_running running)
  are_held differ are_tagged = record {
    running = λ h has.
        let lives = r.lives h.1 (listed running h has) in
        record {
          leads = (lives.0, ap names.live (r.ways h.1 (listed running h has)) ∙ lives.1, (are_tagged h lives.0 has lives.3 lives.2, lives.2));
          safe = λ c n pending handled due. absurd (none-some n (sym (r.unhandled c pending) ∙ handled));
        };
    flight = λ x has. absurd has;
    freeing = λ p has. absurd has;
    once = λ s. let most = once running s differ in omega (arith, most);
    each = λ q page live.
        let p = r.only q page live in
        let some = some_time running p.0 p.1 in
        let same : times tagged p.0.stamp running ≡ times tagged page.stamp running = ap (λ s. times tagged s running) (sym p.3) in
        omega (arith, some, same);
  }

  pub are_counted : IsCounted names (only_running running)
  are_counted = let count = r.count in let same = length-map running tagged in omega (arith, count, same)
