-- Small facts that many answers cite: answers of a write are different values, and what equal numbers keep.
use Rattle.std.proofs.Common.{◌≡◌, ℕ, ◌+◌, ◌*◌, ◌^◌, ◌<◌, ◌≤◌, Bool, true, false, cond, List, Option, length, sym, ◌∙◌, ap, subst, arith}
use Rattle.nl_field.specs.declared.answers.VirtualWrite.TheVariants as write
use Rattle.nl_nand.specs.declared.answers.WriteAnswer.TheVariants as page
use Rattle.nl_nand.specs.declared.geometry.Geometry.{Geometry}
use Rattle.nl_blocks.specs.Table.{Table, free_count}
use Rattle.nl_vseg.specs.Copying.{HasHole, SetsFree, SameBlockNumbers}
use Rattle.nl_vseg.specs.Layout.{Layout, SameLayoutShape, block_is_free}
use Rattle.nl_vseg.specs.Seen.{FitsLayout}
use Rattle.nl_vseg.specs.declared.place.Place.{Place}

pub done_fault : write.Done ≡ write.Fault → ⊥
done_fault e = cc

pub fault_done : write.Fault ≡ write.Done → ⊥
fault_done e = cc

pub done_lost : (w f : ℕ) → write.Done ≡ write.Lost w f → ⊥
done_lost w f e = cc

pub lost_done : (w f : ℕ) → write.Lost w f ≡ write.Done → ⊥
lost_done w f e = cc

pub fault_lost : (w f : ℕ) → write.Fault ≡ write.Lost w f → ⊥
fault_lost w f e = cc

pub lost_fault : (w f : ℕ) → write.Lost w f ≡ write.Fault → ⊥
lost_fault w f e = cc

pub page_done_failed : page.Done ≡ page.Failed → ⊥
page_done_failed e = cc

pub page_failed_done : page.Failed ≡ page.Done → ⊥
page_failed_done e = cc

pub le_same : (n : ℕ) → n ≤ n
le_same n = omega arith

pub le_one : (n : ℕ) → n ≡ 1 → 1 ≤ n
le_one n is = omega (arith, is)

-- a medium of the same geometry fits a layout with the same numbers
pub fits_then : (geometry geometry' : Geometry) (old new : Layout) → geometry' ≡ geometry → SameBlockNumbers old.table new.table → FitsLayout geometry old → FitsLayout geometry' new
fits_then geometry geometry' old new same n fits = subst (λ (x : Geometry). FitsLayout x new) (sym same) (record {
  pages = fits.pages ∙ sym n.same_size;
  blocks = subst (λ k. k ≤ geometry.blocks) (sym n.same_count) fits.blocks;
})

-- as many blocks of as many pages
pub shape_of : (old new : Layout) → length new.places ≡ length old.places → SameBlockNumbers old.table new.table → SameLayoutShape old new
shape_of old new count n = record { addresses = count; blocks = n.same_count; pages = n.same_size }

pub numbers_then : {a b c : Table} → SameBlockNumbers a b → SameBlockNumbers b c → SameBlockNumbers a c
numbers_then first second = record {
  same_first = second.same_first ∙ first.same_first;
  same_size = second.same_size ∙ first.same_size;
  same_count = second.same_count ∙ first.same_count;
}

-- a block was given back
pub given_free : {block : ℕ} {a b : Table} → block_is_free a block ≡ false → SetsFree block true a b → 1 ≤ free_count b
given_free {block} {a} {b} here r =
    let t : free_count b + cond false 1 0 ≡ free_count a + cond true 1 0 = ap (λ (x : Bool). free_count b + cond x 1 0) (sym here) ∙ r.total in
    omega (arith, t)

-- a hole of a block with as many pages, and of the same places
pub hole_then : (size size' block : ℕ) (places places' : List (Option Place)) → size' ≡ size → places' ≡ places → HasHole size block places → HasHole size' block places'
hole_then size size' block places places' same is hole = subst (λ n. HasHole n block places') (sym same) (subst (λ (l : List (Option Place)). HasHole size block l) (sym is) hole)

pub le_is : (n : ℕ) → n ≡ 1 → n ≤ 1
le_is n is = omega (arith, is)

pub lt_le : {a b c : ℕ} → a < b → b ≤ c → a < c
lt_le less le = omega (arith, less, le)

pub few_places : (n size bound : ℕ) → n + 4 * size ≤ bound → bound < 2 ^ 32 → n < 2 ^ 32
few_places n size bound few numbers = omega (arith, few, numbers)

pub le_least : {n : ℕ} → 0 < n → 1 ≤ n
le_least some = omega (arith, some)

pub one_left : {n r : ℕ} → r ≡ n → r < 2 → 1 ≤ n → n ≡ 1
one_left is few some = omega (arith, is, few, some)

pub shape_then : {a b c : Layout} → SameLayoutShape a b → SameLayoutShape b c → SameLayoutShape a c
shape_then first second = record { addresses = second.addresses ∙ first.addresses; blocks = second.blocks ∙ first.blocks; pages = second.pages ∙ first.pages }

pub shape_after : {a b c : Layout} → length b.places ≡ length a.places → SameBlockNumbers a.table b.table → SameLayoutShape b c → SameLayoutShape a c
shape_after count n second = record { addresses = second.addresses ∙ count; blocks = second.blocks ∙ n.same_count; pages = second.pages ∙ n.same_size }
