-- Few pages are dirty besides address 0.
use Rattle.std.proofs.Common.{ℕ, ◌≤◌, Bool, true, false, ◌==◌, not, cond, suc, List, [], ◌∷◌, length, arith}
use Rattle.nl_dir.specs.Directory.{HasRoomForDirty}
use Rattle.nl_meta.specs.Pages.{Pages, besides_0}

pub few-besides : (xs : List ℕ) → length (besides_0 xs) ≤ length xs
few-besides [] = omega arith
few-besides (x ∷ xs) = by (not (x == 0)) (few-besides xs)
  where
    by : (t : Bool) → length (besides_0 xs) ≤ length xs → length (cond t (x ∷ besides_0 xs) (besides_0 xs)) ≤ suc (length xs)
    by true h = omega (arith, h)
    by false h = omega (arith, h)

-- there is room to change names
pub room-for-names : (p : Pages) → length p.dirty ≤ 50 → HasRoomForDirty 8 p
room-for-names p few = let f = few-besides p.dirty in omega (arith, f, few)
