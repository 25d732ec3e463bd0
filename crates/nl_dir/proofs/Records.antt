-- The record of a directory, and its addresses as it grows and shrinks.
use Rattle.std.proofs.Common.{◌≡◌, ◌≢◌, ℕ, zero, suc, ◌+◌, ◌-◌, ◌/◌, ◌%◌, ◌≤◌, ◌<◌, Bool, true, false, not, ◌==◌, List, [], ◌∷◌, length, get_or, refl, sym, ap, ◌∙◌, Option, Some, None, arith}
use Rattle.std.proofs.Math.ListN.{set}
use Rattle.std.proofs.lemmas.Bool.{and_parts, and_from, cond-true, cond-false, eqb-true, eqb-false, eq-eqb, ne_eqb, not_from_false, leb-true, le-leb}
use Rattle.std.proofs.lemmas.List.{get_or-set_same, get_or-set_other, length-set}
use Rattle.std.specs.Int.{div_ceil}
use Rattle.std.specs.List.{list_all}
use Rattle.std.specs.Prelude.{IsTrue}
use Rattle.nl_field.specs.Inode.{are_filled, is_inode, is_inode_of_kind}
use Rattle.nl_field.specs.Pointers.{is_none_pointer}
use Rattle.nl_field.specs.declared.inode.InodeRec.{InodeRec}
use Rattle.nl_field.specs.declared.inode.Kind.{Kind}
use Rattle.nl_field.specs.declared.inode.Kind.TheVariants.{Dir}
use Rattle.nl_meta.specs.Nodes.{address_of_place}
use Rattle.nl_meta.specs.Pages.{Pages}
use Rattle.nl_dir.specs.Directory.{FitsFresh, last_alone, longer, shorter}

pub true_false : true ≡ false → ⊥
true_false e = cc

-- ---- what is spelled

pub record SpelledDir (rec : InodeRec) : Type 0 where
  pub eight : length rec.direct ≡ 8
  pub sixteen : length rec.addresses ≡ 16
  pub few : rec.size ≤ 1024
  pub none : list_all is_none_pointer rec.direct ≡ true
  pub filled : are_filled (div_ceil rec.size 64) rec.addresses ≡ true

pub spelled-dir : (rec : InodeRec) → rec.kind ≡ Dir → IsTrue (is_inode rec) → SpelledDir rec
unfolding is_inode_of_kind
spelled-dir rec dir e =
    let p = and_parts _ _ e in
    let q = and_parts _ _ p.0 in
    let r = and_parts _ _ (sym (ap (λ (k : Kind). is_inode_of_kind k rec) dir) ∙ p.1) in
    let s = and_parts _ _ r.0 in
    record { eight = eqb-true _ _ q.0; sixteen = eqb-true _ _ q.1; few = leb-true _ _ s.0; none = s.1; filled = r.1 }

pub dir-spelled : (rec : InodeRec) → rec.kind ≡ Dir → SpelledDir rec → IsTrue (is_inode rec)
unfolding is_inode_of_kind
dir-spelled rec dir s =
    and_from _ _ (and_from _ _ (eq-eqb _ _ s.eight) (eq-eqb _ _ s.sixteen))
    (ap (λ (k : Kind). is_inode_of_kind k rec) dir ∙ and_from _ _ (and_from _ _ (le-leb rec.size 1024 s.few) s.none) s.filled)

-- ---- addresses that are filled from the front

filled-more : (n : ℕ) (xs : List ℕ) (a : ℕ) → are_filled n xs ≡ true → n < length xs → a ≢ 0 → are_filled (suc n) (set xs n a) ≡ true
unfolding are_filled
filled-more n [] a e h far = absurd (none h)
  where
    none : n < 0 → ⊥
    none h = omega arith
filled-more zero (x ∷ xs) a e h far = and_from _ _ (not_from_false _ (ne_eqb a 0 far)) (and_parts (x == 0) _ e).1
filled-more (suc n) (x ∷ xs) a e h far = let p = and_parts (not (x == 0)) _ e in and_from (not (x == 0)) _ p.0 (filled-more n xs a p.1 (omega (arith, h)) far)

filled-less : (n : ℕ) (xs : List ℕ) → are_filled (suc n) xs ≡ true → are_filled n (set xs n 0) ≡ true
unfolding are_filled
filled-less n [] e = absurd (true_false (sym e))
filled-less zero (x ∷ xs) e = (and_parts (not (x == 0)) _ e).1
filled-less (suc n) (x ∷ xs) e = let p = and_parts (not (x == 0)) _ e in and_from (not (x == 0)) _ p.0 (filled-less n xs p.1)

-- ---- one entry more

pub none-fits : (p : Pages) (rec : InodeRec) → FitsFresh p rec None → rec.size % 64 ≢ 0
none-fits p rec fits = eqb-false (rec.size % 64) 0 (sym fits.exactly)

pub some-fits : (p : Pages) (rec : InodeRec) (a : ℕ) → FitsFresh p rec (Some a) → rec.size % 64 ≡ 0
some-fits p rec a fits = eqb-true (rec.size % 64) 0 (sym fits.exactly)

pub longer-spelled : (p : Pages) (rec : InodeRec) (fresh : Option ℕ) → rec.kind ≡ Dir → SpelledDir rec → rec.size < 1024 → FitsFresh p rec fresh → SpelledDir (longer rec fresh)
longer-spelled p rec None dir s few fits =
    let n = none-fits p rec fits in
    let rows : div_ceil rec.size 64 ≡ div_ceil (rec.size + 1) 64 = omega (arith, n) in
    record { eight = s.eight; sixteen = s.sixteen; few = omega (arith, few); none = s.none; filled = ap (λ (k : ℕ). are_filled k rec.addresses) (sym rows) ∙ s.filled }
longer-spelled p rec (Some a) dir s few fits =
    let n = some-fits p rec a fits in
    let old : div_ceil rec.size 64 ≡ rec.size / 64 = omega (arith, n) in
    let rows : suc (rec.size / 64) ≡ div_ceil (rec.size + 1) 64 = omega (arith, n) in
    let sixteen = s.sixteen in
    record {
      eight = s.eight;
      sixteen = length-set rec.addresses (rec.size / 64) a ∙ s.sixteen;
      few = omega (arith, few);
      none = s.none;
      filled = ap (λ (k : ℕ). are_filled k (set rec.addresses (rec.size / 64) a)) (sym rows)
          ∙ filled-more (rec.size / 64) rec.addresses a (ap (λ (k : ℕ). are_filled k rec.addresses) (sym old) ∙ s.filled) (omega (arith, few, sixteen)) (fits.not_zero a refl);
    }

pub longer-address : (p : Pages) (rec : InodeRec) (fresh : Option ℕ) → FitsFresh p rec fresh → (k : ℕ) → k < rec.size → address_of_place (longer rec fresh) k ≡ address_of_place rec k
longer-address p rec None fits k h = refl
longer-address p rec (Some a) fits k h =
    let n = some-fits p rec a fits in
    let apart : k / 64 ≡ rec.size / 64 → ⊥ = (λ e. none n e) in
    get_or-set_other rec.addresses (rec.size / 64) (k / 64) a 0 apart
  where
    none : rec.size % 64 ≡ 0 → k / 64 ≡ rec.size / 64 → ⊥
    none n e = omega (arith, h, n, e)

pub new-address : (rec : InodeRec) (a k : ℕ) → SpelledDir rec → rec.size < 1024 → k / 64 ≡ rec.size / 64 → address_of_place (longer rec (Some a)) k ≡ a
new-address rec a k s few e =
    let sixteen = s.sixteen in
    ap (λ (i : ℕ). get_or (set rec.addresses (rec.size / 64) a) i 0) e ∙ get_or-set_same rec.addresses (rec.size / 64) a 0 (omega (arith, few, sixteen))

-- ---- one entry less

pub alone-rows : (rec : InodeRec) → last_alone rec ≡ true → (rec.size - 1) % 64 ≡ 0
alone-rows rec e = eqb-true ((rec.size - 1) % 64) 0 e

pub beside-rows : (rec : InodeRec) → last_alone rec ≡ false → (rec.size - 1) % 64 ≢ 0
beside-rows rec e = eqb-false ((rec.size - 1) % 64) 0 e

pub alone-addresses : (rec : InodeRec) → last_alone rec ≡ true → (shorter rec).addresses ≡ set rec.addresses ((rec.size - 1) / 64) 0
alone-addresses rec e = cond-true (last_alone rec) _ _ e

pub beside-addresses : (rec : InodeRec) → last_alone rec ≡ false → (shorter rec).addresses ≡ rec.addresses
beside-addresses rec e = cond-false (last_alone rec) _ _ e

pub shorter-spelled : (rec : InodeRec) → SpelledDir rec → 0 < rec.size → SpelledDir (shorter rec)
shorter-spelled rec s some = by (last_alone rec) refl
  where
    few : rec.size ≤ 1024
    few = s.few

    by : (b : Bool) → last_alone rec ≡ b → SpelledDir (shorter rec)
    by true e =
        let n = alone-rows rec e in
        let rows : div_ceil rec.size 64 ≡ suc ((rec.size - 1) / 64) = omega (arith, n, some) in
        let new : (rec.size - 1) / 64 ≡ div_ceil (rec.size - 1) 64 = omega (arith, n) in
        let is = alone-addresses rec e in
        record {
          eight = s.eight;
          sixteen = ap (λ (l : List ℕ). length l) is ∙ length-set rec.addresses ((rec.size - 1) / 64) 0 ∙ s.sixteen;
          few = omega (arith, few);
          none = s.none;
          filled = (λ i. are_filled (sym new i) (is i)) ∙ filled-less ((rec.size - 1) / 64) rec.addresses (ap (λ (k : ℕ). are_filled k rec.addresses) (sym rows) ∙ s.filled);
        }
    by false e =
        let n = beside-rows rec e in
        let rows : div_ceil rec.size 64 ≡ div_ceil (rec.size - 1) 64 = omega (arith, n, some) in
        let is = beside-addresses rec e in
        record {
          eight = s.eight;
          sixteen = ap (λ (l : List ℕ). length l) is ∙ s.sixteen;
          few = omega (arith, few);
          none = s.none;
          filled = (λ i. are_filled (sym rows i) (is i)) ∙ s.filled;
        }

pub shorter-address : (rec : InodeRec) (k : ℕ) → k < rec.size - 1 → address_of_place (shorter rec) k ≡ address_of_place rec k
shorter-address rec k h = by (last_alone rec) refl
  where
    by : (b : Bool) → last_alone rec ≡ b → address_of_place (shorter rec) k ≡ address_of_place rec k
    by true e = ap (λ (l : List ℕ). get_or l (k / 64) 0) (alone-addresses rec e) ∙ get_or-set_other rec.addresses ((rec.size - 1) / 64) (k / 64) 0 0 (apart (alone-rows rec e))
      where
        apart : (rec.size - 1) % 64 ≡ 0 → k / 64 ≡ (rec.size - 1) / 64 → ⊥
        apart n e = omega (arith, h, n, e)
    by false e = ap (λ (l : List ℕ). get_or l (k / 64) 0) (beside-addresses rec e)
