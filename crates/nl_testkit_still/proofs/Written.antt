-- An address got a value.
use Rattle.std.proofs.Common.{◌≡◌, inl, inr, ⊎_elim, ℕ, ◌+◌, ◌<◌, ◌≤◌, ◌==◌, true, List, Option, Some, None, option_map, length, get_or, set, refl, sym, ◌∙◌, ap, subst, arith, eq-eqb, ne_eqb}
use Rattle.std.proofs.lemmas.Bool.{cases_eq, cond-false, cond-true}
use Rattle.std.proofs.lemmas.List.{get_or-set_same, get_or-set_other}
use Rattle.std.proofs.lemmas.Option.{same_Some}
use Rattle.nl_field.specs.Page.{PageBytes}
use Rattle.nl_iface.specs.Left.{LeavesMap}
use Rattle.nl_iface.specs.Stored.{Stored, Value, failed_beside, with_value}
use Rattle.nl_testkit_still.specs.Laws.{none_lost}
use Rattle.nl_testkit_still.specs.Stands.{IsStill}
use Rattle.nl_testkit_still.specs.Still.{bytes_at, map_at, named_at, no_page, stamp_at, stored_in, value_with}
use Rattle.nl_testkit_still.specs.declared.still.Still.{Still}

module _ (s : Still) (f : IsStill s) (v : ℕ) (within : v < s.shape.vaddrs) (page : PageBytes) where
  within_stamps : v < length s.stamps.items
  within_stamps = subst (λ n. v < n) (sym f.stamps) within

  within_values : v < length s.values.items
  within_values = subst (λ n. v < n) (sym f.values) within

  -- each stamp is below the one after the next
  pub stamps_below : (u t : ℕ) → stamp_at (set s.stamps.items v (Some s.next)) u ≡ Some t → t < s.next + 1
  stamps_below u t is = ⊎_elim
      (λ here. let same = same_Some s.next t (sym (get_or-set_same s.stamps.items v (Some s.next) None within_stamps) ∙ (ap (λ n. stamp_at (set s.stamps.items v (Some s.next)) n) (sym here) ∙ is)) in omega (arith, same))
      (λ off. let low = f.addresses u t (sym (get_or-set_other s.stamps.items v u (Some s.next) None off) ∙ is) in omega (arith, low))
      (cases_eq u v)

  pub value_written : (u : ℕ) → map_at (set s.stamps.items v (Some s.next)) (set s.values.items v page) u ≡ with_value (λ w. map_at s.stamps.items s.values.items w) v (s.next, page.main) u
  value_written u = ⊎_elim
      (λ here. ap (λ n. map_at (set s.stamps.items v (Some s.next)) (set s.values.items v page) n) here
      ∙ (ap (λ (o : Option ℕ). option_map (value_with (bytes_at (set s.values.items v page) v)) o) (get_or-set_same s.stamps.items v (Some s.next) None within_stamps)
      ∙ (ap (λ (x : PageBytes). Some (s.next, x.main)) (get_or-set_same s.values.items v page no_page within_values)
      ∙ sym (cond-true (u == v) (Some (s.next, page.main)) (map_at s.stamps.items s.values.items u) (eq-eqb u v here)))))
      (λ off. ap (λ (o : Option ℕ). option_map (value_with (bytes_at (set s.values.items v page) u)) o) (get_or-set_other s.stamps.items v u (Some s.next) None off)
      ∙ (ap (λ (x : PageBytes). option_map (value_with x.main) (stamp_at s.stamps.items u)) (get_or-set_other s.values.items v u page no_page off)
      ∙ sym (cond-false (u == v) (Some (s.next, page.main)) (map_at s.stamps.items s.values.items u) (ne_eqb u v off))))
      (cases_eq u v)

  -- what a stop leaves then
  pub left_written : (main : List ℕ) → page.main ≡ main → (c : Stored)
      → c ≡ record { virtual = λ u. map_at (set s.stamps.items v (Some s.next)) (set s.values.items v page) u; named = λ p. named_at s.labels.items s.pages.items p; firm = true }
      → LeavesMap s.shape.vaddrs (with_value (λ w. map_at s.stamps.items s.values.items w) v (s.next, main)) (failed_beside v (λ w x. ⊥)) (λ w x. ⊥) (stored_in s) c
  left_written main same c is = subst
      (λ (k : Stored). LeavesMap s.shape.vaddrs (with_value (λ w. map_at s.stamps.items s.values.items w) v (s.next, main)) (failed_beside v (λ w x. ⊥)) (λ w x. ⊥) (stored_in s) k)
      (sym is)
      (subst
      (λ (bytes : List ℕ). LeavesMap s.shape.vaddrs (with_value (λ w. map_at s.stamps.items s.values.items w) v (s.next, bytes)) (failed_beside v (λ w x. ⊥)) (λ w x. ⊥) (stored_in s)
      (record { virtual = λ u. map_at (set s.stamps.items v (Some s.next)) (set s.values.items v page) u; named = λ p. named_at s.labels.items s.pages.items p; firm = true }))
      same
      (record {
        shows = λ u below. inl (value_written u);
        beyond = λ u past. value_written u ∙ (cond-false (u == v) (Some (s.next, page.main)) (map_at s.stamps.items s.values.items u) (ne_eqb u v (λ e. omega (arith, e, past, within))) ∙ none_lost s f u past);
        firm = λ was none. refl;
        named = λ p. refl;
      }))
