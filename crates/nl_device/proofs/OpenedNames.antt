-- After an opening no page of the physical segment is live, and what it takes as erased is erased.
use Rattle.std.proofs.Common.{◌≡◌, inl, inr, ℕ, ◌*◌, ◌/◌, ◌<◌, ◌∙◌, List, get_or, replicate, Option, None, refl, sym, ap, subst, arith}
use Rattle.std.proofs.lemmas.Bool.{cases_lt}
use Rattle.std.proofs.lemmas.List.{get_or-replicate, get_or_past, length-replicate}
use Rattle.std.proofs.lemmas.Nat.{div_below}
use Rattle.std.proofs.lemmas.Option.{none-some}
use Rattle.nl_field.specs.Numbers.{shape_for}
use Rattle.nl_field.specs.Page.{Image}
use Rattle.nl_field.specs.Medium.{shape_of_image}
use Rattle.nl_field.specs.declared.shape.Shape.{Shape}
use Rattle.nl_scan.specs.Tables.{IsTableOf, ScanTable}
use Rattle.nl_pseg.specs.Segment.{IsPhysicalOf, Physical, held_at}
use Rattle.nl_pseg.specs.declared.held.Held.{Held}
use Rattle.nl_device.specs.Device.{HasLive}
use Rattle.nl_device.specs.Opening.{IsOpenedPhysical}
use Rattle.nl_device.proofs.OpenedMedium.{erased_in}

none_in : (n p : ℕ) (o : Option Held) → get_or (replicate n o) p o ≡ o
none_in n p o = elim (cases_lt p n) [
  | inl lt ↦ get_or-replicate n p o o lt
  | inr past ↦ get_or_past (replicate n o) p o (let e = length-replicate n o in omega (arith, e, past))
]

pub none_held : (shape : Shape) (t : ScanTable) (pseg : Physical) → IsOpenedPhysical shape t pseg → (p : ℕ) → held_at pseg p ≡ None
none_held shape t pseg opened p = ap (λ (l : List (Option Held)). get_or l p None) opened.none_held ∙ none_in (shape.blocks * shape.pages) p None

blocks_is : (image : Image) → (shape_of_image image).blocks ≡ image.blocks
unfolding shape_for
blocks_is image = refl

pub opened_live : (shape : Shape) (t : ScanTable) (pseg : Physical) → IsOpenedPhysical shape t pseg → HasLive pseg
opened_live shape t pseg opened = record {
  in_segment = λ p h has. absurd (none-some h (sym (none_held shape t pseg opened p) ∙ has));
  blank_in = opened.within;
  differ = λ p q g h p_has q_has same. absurd (none-some g (sym (none_held shape t pseg opened p) ∙ p_has));
}

pub opened_names : (image : Image) (t : ScanTable) (pseg : Physical) → IsTableOf image t → IsOpenedPhysical (shape_of_image image) t pseg → 0 < (shape_of_image image).pages → IsPhysicalOf image pseg
opened_names image t pseg is opened some =
    let shape = shape_of_image image in
    record {
      holds = λ p h has. absurd (none-some h (sym (none_held shape t pseg opened p) ∙ has));
      blank = λ p taken.
          let below : p < shape.blocks * shape.pages = subst (λ n. p < n) (λ i. opened.blocks_is i * opened.size_is i) (opened.within p taken).1 in
          erased_in image t is some p (subst (λ n. p / shape.pages < n) (blocks_is image) (div_below p shape.pages shape.blocks some below)) (opened.erased p taken);
      blank_copy = λ p taken. absurd (opened.none_copies p taken);
    }
