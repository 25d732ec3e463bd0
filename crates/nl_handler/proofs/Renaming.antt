-- The pointers of a list under another name, one after the other.
use Rattle.std.proofs.Common.{◌≡◌, ◌≢◌, ℕ, ◌+◌, ◌<◌, ◌==◌, ◌++◌, ◌||◌, length, Bool, true, cond, List, map, take, drop, get_or, Some, sym, ap, ◌∙◌}
use Rattle.std.proofs.Math.ListN.{set}
use Rattle.std.proofs.lemmas.Bool.{eq-eqb, ne_eqb}
use Rattle.std.proofs.Math.Bool.{or-false}
use Rattle.std.proofs.Math.Bool.{or-true}
use Rattle.std.proofs.lemmas.List.Folds.{list_any_more}
use Rattle.std.proofs.lemmas.Option.{get_or_from_slice_get}
use Rattle.std.specs.List.{list_any}
use Rattle.std.specs.Prelude.{slice_get}
use Rattle.nl_field.specs.declared.pointer.Pointer.{Pointer}
use Rattle.nl_flight.specs.Flight.{renamed_pointer}
use Rattle.nl_handler.proofs.Lists.{read-next, same-next, set-next}

module _ (stamp to : ℕ) (xs items : List Pointer) (i : ℕ) (p : Pointer) (below : i < length xs)
    (is : items ≡ map (renamed_pointer stamp to) (take i xs) ++ drop i xs) (read : slice_get items i ≡ Some p) where
  had : get_or xs i p ≡ p
  had = sym (read-next (renamed_pointer stamp to) xs i p below) ∙ ap (λ ys. get_or ys i p) (sym is) ∙ get_or_from_slice_get items i p p read

  abbrev test : Pointer → Bool
  test q = q.stamp == stamp

  found-next : list_any test (take (i + 1) xs) ≡ (list_any test (take i xs) || test p)
  found-next = list_any_more test xs i p below ∙ ap (λ (q : Pointer). list_any test (take i xs) || test q) had

  pub renamed-hit : p.stamp ≡ stamp → set items i (record { name = to; stamp = stamp }) ≡ map (renamed_pointer stamp to) (take (i + 1) xs) ++ drop (i + 1) xs
  renamed-hit e =
      ap (λ ys. set ys i (record { name = to; stamp = stamp })) is
      ∙ ap (λ (q : Pointer). set (map (renamed_pointer stamp to) (take i xs) ++ drop i xs) i q) (sym new)
      ∙ set-next (renamed_pointer stamp to) xs i p below
    where
      named : Bool → Pointer
      named b = record { name = cond b to p.name; stamp = p.stamp }

      new : renamed_pointer stamp to (get_or xs i p) ≡ record { name = to; stamp = stamp }
      new = ap (renamed_pointer stamp to) had ∙ ap named (eq-eqb p.stamp stamp e) ∙ ap at e
        where
          at : ℕ → Pointer
          at s = record { name = to; stamp = s }

  pub renamed-miss : p.stamp ≢ stamp → items ≡ map (renamed_pointer stamp to) (take (i + 1) xs) ++ drop (i + 1) xs
  renamed-miss far = is ∙ same-next (renamed_pointer stamp to) xs i p below (ap (renamed_pointer stamp to) had ∙ ap named (ne_eqb p.stamp stamp far) ∙ sym had)
    where
      named : Bool → Pointer
      named b = record { name = cond b to p.name; stamp = p.stamp }

  pub found-hit : p.stamp ≡ stamp → true ≡ list_any test (take (i + 1) xs)
  found-hit e = sym (found-next ∙ ap (λ (b : Bool). list_any test (take i xs) || b) (eq-eqb p.stamp stamp e) ∙ or-true (list_any test (take i xs)))

  pub found-miss : p.stamp ≢ stamp → list_any test (take i xs) ≡ list_any test (take (i + 1) xs)
  found-miss far = sym (found-next ∙ ap (λ (b : Bool). list_any test (take i xs) || b) (ne_eqb p.stamp stamp far) ∙ or-false (list_any test (take i xs)))
