-- An image whose metadata is right stands for exactly one tree, and is sound exactly where the walk finds no fault.
use Rattle.std.proofs.Common.{◌≡◌, ℕ, ◌≤◌, refl, sym, ap, subst, ◌∙◌, None}
use Rattle.nl_field.specs.Medium.{shape_of_image}
use Rattle.nl_field.specs.Page.{Image}
use Rattle.nl_field.specs.declared.shape.Shape.{Shape}
use Rattle.nl_field.specs.declared.super_page.SuperRec.{SuperRec}
use Rattle.nl_tree.specs.Tree.{Tree}
use Rattle.nl_tree.proofs.TreeProofs.{tree_laws}
use Rattle.nl_meta.specs.Committed.{VirtualMap, committed_of}
use Rattle.nl_meta.specs.Consistent.{NumbersRight, Consistent, page_on}
use Rattle.nl_meta.specs.Walk.{walk}
use Rattle.nl_meta.proofs.ImageProofs.{image_is_right}
use Rattle.nl_meta.proofs.Lists.{some_in}
use Rattle.nl_meta.proofs.WalkProofs.{walk_is_consistency}
use Rattle.nl_spec_image.specs.RightFor.{PagesRepresent, RightRepresents, RepresentedIsOne, RightCharges}
use Rattle.nl_spec_image.specs.Stands.{bytes_found, ImageRepresents, IsConsistentImage}
use Rattle.nl_spec_image.specs.StandsLaws.{MetadataRepresentsTree, RepresentsOneTree, WalkDecidesConsistency, RepresentedHasCharges}
use Rattle.nl_spec_image.proofs.ChargeOfPages.{charges}
use Rattle.nl_spec_image.proofs.TreeOfPages.{the_tree, tree_represents, is_tree}

pub right_represents : RightRepresents
right_represents shape pages page_of_stamp has = (
  the_tree shape pages page_of_stamp has,
  record { is_tree = is_tree shape pages page_of_stamp has; depicts = tree_represents shape pages page_of_stamp has },
)

pub represented_is_one : RepresentedIsOne
represented_is_one shape pages page_of_stamp tree tree' s t = tree_laws.same_tree tree tree' s.is_tree.in_order t.is_tree.in_order (λ q. s.depicts q ∙ sym (t.depicts q))

pub right_charges : RightCharges
right_charges shape pages page_of_stamp tree has s = charges shape pages page_of_stamp has tree s.is_tree.in_order s.depicts

-- ---- an image

-- an image's pages represent the tree for which it stands
represented : (image : Image) (count : ℕ) (tree : Tree) → ImageRepresents image count tree → PagesRepresent (shape_of_image image) (committed_of image) (page_on image) tree
unfolding bytes_found
represented image count tree s = record { is_tree = s.is_tree; depicts = s.depicts }

pub metadata_represents : MetadataRepresentsTree
unfolding bytes_found
metadata_represents image ok meta =
    let t = right_represents (shape_of_image image) (committed_of image) (page_on image) (image_is_right image ok meta) in
    (t.0, record { pages_whole = ok; metadata = meta; count_of_calls = refl; is_tree = t.1.is_tree; depicts = t.1.depicts })

same_super : (shape : Shape) (pages : VirtualMap) (s t : SuperRec) → NumbersRight shape pages s → NumbersRight shape pages t → s ≡ t
same_super shape pages s t p q = some_in s t (sym p.spelled ∙ q.spelled)

pub represents_one : RepresentsOneTree
represents_one image count count' tree tree' s t = (
  sym s.count_of_calls
      ∙ ap (λ (r : SuperRec). r.count) (same_super (shape_of_image image) (committed_of image) s.metadata.super_rec t.metadata.super_rec s.metadata.numbers t.metadata.numbers)
      ∙ t.count_of_calls,
  represented_is_one (shape_of_image image) (committed_of image) (page_on image) tree tree' (represented image count tree s) (represented image count' tree' t),
)

pub charges_of_image : RepresentedHasCharges
charges_of_image image count tree s = right_charges (shape_of_image image) (committed_of image) (page_on image) tree (image_is_right image s.pages_whole s.metadata) (represented image count tree s)

pub walk_finds_consistency : WalkDecidesConsistency
walk_finds_consistency image ok = (there, back)
  where
    there : walk image ≡ None → IsConsistentImage image
    there e = by ((walk_is_consistency image).0 e)
      where
        by : Consistent image → IsConsistentImage image
        by c =
            let s = metadata_represents image ok c.metadata in
            (c.metadata.super_rec.count, s.0, record { stands = s.1; own_names = c.own_names; data_fits = subst (λ (n : ℕ). n ≤ (shape_of_image image).cap) (sym (charges_of_image image c.metadata.super_rec.count s.0 s.1).data_pages) c.data_fits; room = c.room })

    back : IsConsistentImage image → walk image ≡ None
    back s =
        let a = s.2 in
        (walk_is_consistency image).1 (record {
          metadata = a.stands.metadata;
          own_names = a.own_names;
          data_fits = subst (λ (n : ℕ). n ≤ (shape_of_image image).cap) (charges_of_image image s.0 s.1 a.stands).data_pages a.data_fits;
          room = a.room;
        })
