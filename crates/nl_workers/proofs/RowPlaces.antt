-- One answer more has its spot.
use Rattle.std.proofs.Common.{◌≡◌, ◌⊎◌, inl, inr, ℕ, zero, suc, ◌+◌, ◌-◌, ◌<◌, ◌≤◌, List, [], ◌∷◌, length, Some, refl, sym, ap, ◌∙◌, subst, arith}
use Rattle.std.proofs.Math.ListN.{set}
use Rattle.std.specs.Prelude.{slice_get, IfSome}
use Rattle.nl_tree.specs.declared.turn.Answered.{Answered}
use Rattle.nl_workers.specs.Table.{Row}
use Rattle.nl_workers.specs.Spots.{row_at, row_in, OrdinalsFit, IsSpotted, AreSpotted}
use Rattle.nl_workers.specs.declared.station.Station.{Station}
use Rattle.nl_workers.specs.declared.placing.Spot.{Spot}
use Rattle.nl_workers.proofs.Working.{lt_split}

same_set : (xs : List Spot) (i : ℕ) (y : Spot) → i < length xs → slice_get (set xs i y) i ≡ Some y
same_set [] i y h = absurd (omega arith)
same_set (z ∷ xs) zero y h = refl
same_set (z ∷ xs) (suc i) y h = same_set xs i y (omega arith)

other_set : (xs : List Spot) (i j : ℕ) (x y : Spot) → slice_get xs j ≡ Some x → (j ≡ i → ⊥) → slice_get (set xs i y) j ≡ Some x
other_set [] i j x y e other = absurd (cc e)
other_set (z ∷ xs) zero zero x y e other = absurd (other refl)
other_set (z ∷ xs) zero (suc j) x y e other = e
other_set (z ∷ xs) (suc i) zero x y e other = e
other_set (z ∷ xs) (suc i) (suc j) x y e other = other_set xs i j x y e (λ same. other (ap suc same))

which : (n m : ℕ) → (n ≡ m) ⊎ (n ≡ m → ⊥)
which zero zero = inl refl
which zero (suc m) = inr (λ e. omega arith)
which (suc n) zero = inr (λ e. omega arith)
which (suc n) (suc m) = go (which n m)
  where
    go : (n ≡ m) ⊎ (n ≡ m → ⊥) → (suc n ≡ suc m) ⊎ (suc n ≡ suc m → ⊥)
    go (inl e) = inl (ap suc e)
    go (inr f) = inr (λ e. f (omega arith))

some_same : {A : Type 0} (a b : A) → Some a ≡ Some b → a ≡ b
some_same a b e = cc e

-- a spot with this ordinal is put at its place
keeps_spotted : (stations : List Station) (spots : List Spot) (spot : Spot) (row : Row) (o p : ℕ) → row_at stations spot ≡ Some row → row.answered.ordinal ≡ o → 0 < o → o ≤ length spots → 0 < p
    → IsSpotted stations spots p → IsSpotted stations (set spots (o - 1) spot) p
keeps_spotted stations spots spot row o p is ordinal some fits some_p h = go (which p o)
  where
    go : (p ≡ o) ⊎ (p ≡ o → ⊥) → IsSpotted stations (set spots (o - 1) spot) p
    go (inl same) = record {
      spot = spot;
      spot_is = ap (λ k. slice_get (set spots (o - 1) spot) (k - 1)) same ∙ same_set spots (o - 1) spot (omega arith);
      row = row;
      row_is = is;
      ordinal_is = ordinal ∙ sym same;
    }
    go (inr other) = record {
      spot = h.spot;
      spot_is = other_set spots (o - 1) (p - 1) h.spot spot h.spot_is (λ e. other (omega arith));
      row = h.row;
      row_is = h.row_is;
      ordinal_is = h.ordinal_is;
    }

module _ (stations : List Station) (spots : List Spot) (worker at : ℕ) (station : Station) (row : Row) (spot : Spot)
    (fit : OrdinalsFit stations (length spots)) (h : AreSpotted stations worker at spots)
    (station_is : slice_get stations worker ≡ Some station) (row_is : slice_get station.desk.rows at ≡ Some row) (spot_worker : spot.worker ≡ worker) (spot_at : spot.at ≡ at) where
  pub ordinal_fits : (0 < row.answered.ordinal) × (row.answered.ordinal ≤ length spots)
  ordinal_fits = fit worker station at row station_is row_is

  spot_row : row_at stations spot ≡ Some row
  spot_row = (λ i. row_in (slice_get stations (spot_worker i)) (spot_at i)) ∙ (ap (λ o. row_in o at) station_is ∙ row_is)

  old : (p : ℕ) → 0 < p → IsSpotted stations spots p → IsSpotted stations (set spots (row.answered.ordinal - 1) spot) p
  old p some g = keeps_spotted stations spots spot row row.answered.ordinal p spot_row refl ordinal_fits.0 ordinal_fits.1 some g

  pub places_more : AreSpotted stations worker (at + 1) (set spots (row.answered.ordinal - 1) spot)
  places_more = record {
    whole = λ w s j r lt e f. old r.answered.ordinal (fit w s j r e f).0 (h.whole w s j r lt e f);
    begun = λ s j r lt e f. go s j r e f (lt_split j at lt);
  }
    where
      go : (s : Station) (j : ℕ) (r : Row) → slice_get stations worker ≡ Some s → slice_get s.desk.rows j ≡ Some r → (j ≡ at) ⊎ (j < at) → IsSpotted stations (set spots (row.answered.ordinal - 1) spot) r.answered.ordinal
      go s j r e f (inr below) = old r.answered.ordinal (fit worker s j r e f).0 (h.begun s j r below e f)
      go s j r e f (inl here) =
          let same_station : s ≡ station = some_same s station (sym e ∙ station_is) in
          let same_row : row ≡ r = some_same row r (sym row_is ∙ (ap (λ (z : Station). slice_get z.desk.rows at) (sym same_station) ∙ (ap (slice_get s.desk.rows) (sym here) ∙ f))) in
          record {
            spot = spot;
            spot_is = ap (λ (z : Row). slice_get (set spots (row.answered.ordinal - 1) spot) (z.answered.ordinal - 1)) (sym same_row) ∙ same_set spots (row.answered.ordinal - 1) spot (let a = ordinal_fits.0 in let b = ordinal_fits.1 in omega arith);
            row = row;
            row_is = spot_row;
            ordinal_is = ap (λ (z : Row). z.answered.ordinal) same_row;
          }

-- all rows of a desk have their spots
pub desk_placed : (stations : List Station) (spots : List Spot) (worker at : ℕ) (station : Station) → slice_get stations worker ≡ Some station → length station.desk.rows ≤ at
    → AreSpotted stations worker at spots → AreSpotted stations (worker + 1) 0 spots
desk_placed stations spots worker at station station_is all h = record {
  whole = λ w s j r lt e f. go w s j r e f (lt_split w worker lt);
  begun = λ s j r lt e f. absurd (omega arith);
}
  where
    below : (xs : List Row) (j : ℕ) (r : Row) → slice_get xs j ≡ Some r → j < length xs
    below [] j r e = absurd (cc e)
    below (x ∷ xs) zero r e = omega arith
    below (x ∷ xs) (suc j) r e = let h = below xs j r e in omega arith

    go : (w : ℕ) (s : Station) (j : ℕ) (r : Row) → slice_get stations w ≡ Some s → slice_get s.desk.rows j ≡ Some r → (w ≡ worker) ⊎ (w < worker) → IsSpotted stations spots r.answered.ordinal
    go w s j r e f (inr lt) = h.whole w s j r lt e f
    go w s j r e f (inl here) =
        let e' : slice_get stations worker ≡ Some s = ap (slice_get stations) (sym here) ∙ e in
        let same : s ≡ station = some_same s station (sym e' ∙ station_is) in
        let low = below s.desk.rows j r f in
        let long : length s.desk.rows ≡ length station.desk.rows = ap (λ (z : Station). length z.desk.rows) same in
        h.begun s j r (omega arith) e' f

pub none_placed : (stations : List Station) (spots : List Spot) → AreSpotted stations 0 0 spots
none_placed stations spots = record { whole = λ w s j r lt. absurd (omega arith); begun = λ s j r lt. absurd (omega arith) }

pub set_length : (xs : List Spot) (i : ℕ) (y : Spot) → length (set xs i y) ≡ length xs
set_length [] i y = refl
set_length (z ∷ xs) zero y = refl
set_length (z ∷ xs) (suc i) y = ap suc (set_length xs i y)

row_there : (xs : List Row) (i : ℕ) → i < length xs → (x : Row) × (slice_get xs i ≡ Some x)
row_there [] i h = absurd (omega arith)
row_there (x ∷ xs) zero h = (x, refl)
row_there (x ∷ xs) (suc i) h = row_there xs i (omega arith)

-- the same, of the answer that was read there
pub places_read : (stations : List Station) (spots : List Spot) (worker at line : ℕ) (answered : Answered) (station : Station) (spot : Spot)
    → OrdinalsFit stations (length spots) → AreSpotted stations worker at spots → slice_get stations worker ≡ Some station → at < length station.desk.rows → spot.worker ≡ worker → spot.at ≡ at
    → IfSome (slice_get station.desk.rows at) (λ row. (line ≡ row.line) × (answered ≡ row.answered)) → AreSpotted stations worker (at + 1) (set spots (answered.ordinal - 1) spot)
places_read stations spots worker at line answered station spot fit h station_is below spot_worker spot_at read =
    let there = row_there station.desk.rows at below in
    let same = subst (λ o. IfSome o (λ row. (line ≡ row.line) × (answered ≡ row.answered))) there.1 read in
    subst (λ (a : Answered). AreSpotted stations worker (at + 1) (set spots (a.ordinal - 1) spot)) (sym same.1)
    (places_more stations spots worker at station there.0 spot fit h station_is there.1 spot_worker spot_at)
