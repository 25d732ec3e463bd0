-- An image as a format leaves it has the pages of a fresh volume, and a spare block.
use Rattle.std.proofs.Common.{◌≡◌, ℕ, zero, suc, ◌+◌, ◌≤◌, ◌<◌, true, false, ◌&&◌, List, [], ◌∷◌, refl, sym, ap, subst, ◌∙◌, Some, option_map, ◌⊎◌, inl, inr, arith, ◌≢◌, IsTrue, IsSome, mul-le-mul, slice_index_or, ◌*◌, ◌/◌, nat_lt}
use Rattle.std.proofs.lemmas.Bool.{and_parts, and_from, lt-ltb}
use Rattle.std.proofs.Math.Nat.{div-eq_of_lt}
use Rattle.std.specs.List.{enumerate_from}
use Rattle.nl_field.proofs.SpareRecord.{spare-spelled}
use Rattle.nl_field.specs.Medium.{Readable, readable, readable_pages, virtual_pages, physical_pages, shape_of_image, first_physical, is_virtual_rec, is_physical_rec, address_on, stamp_on}
use Rattle.nl_field.specs.Numbers.{is_legal, shape_for}
use Rattle.nl_field.specs.Page.{PageBytes, Page, erased, uncorrectable, written, Image, page_at, is_image}
use Rattle.nl_field.specs.Space.{virtual_spare}
use Rattle.nl_field.specs.SpareRecord.{spare_bytes, spare_rec_of, fits_spare}
use Rattle.nl_field.specs.declared.shape.Shape.{Shape}
use Rattle.nl_field.specs.declared.spare.SpareRec.{SpareRec}
use Rattle.nl_field.specs.declared.spare.SpareRec.TheVariants.{Virtual}
use Rattle.nl_field.specs.Members.{Has}
use Rattle.nl_meta.proofs.Lists.{some_in, true_false, none_some, member-some, some-member, member-filter, filter-member}
use Rattle.nl_meta.proofs.WalkProofs.{nodes_some, nodes_fit}
use Rattle.nl_spec_image.specs.Fresh.{IsFreshPage, HasFreshPages, root_page, fresh_super}
use Rattle.nl_spec_image.specs.Formatted.{formatted_root, formatted_super, IsFormatted, FormattedIsConsistent}
use Rattle.nl_spec_image.proofs.FreshProofs.{limits, fresh_is_consistent}
use Rattle.nl_spec_image.proofs.SpareProofs.{spare_by_copies}

-- ---- lists with their numbers

-- a numbered element stands at its number
stands : {X : Type 0} (a : ℕ) (xs : List X) (p : ℕ × X) (d : X) → Has (enumerate_from a xs) p → (i : ℕ) × (p.0 ≡ a + i) × (slice_index_or xs i d ≡ p.1)
stands a [] p d m = absurd m
stands a (x ∷ xs) p d (inl e) = (0, first a p.0 (ap (λ q. q.0) e), ap (λ q. q.1) e)
  where
    first : (a k : ℕ) → a ≡ k → k ≡ a + 0
    first a k e = omega arith
stands a (x ∷ xs) p d (inr m) = let s = stands (a + 1) xs p d m in (suc s.0, next a s.0 p.0 s.1, s.2)
  where
    next : (a i k : ℕ) → k ≡ a + 1 + i → k ≡ a + suc i
    next a i k e = omega arith

-- what stands in a list and is not its default is numbered
numbered : {X : Type 0} (a : ℕ) (xs : List X) (i : ℕ) (x d : X) → slice_index_or xs i d ≡ x → x ≢ d → Has (enumerate_from a xs) (a + i, x)
numbered a [] i x d e far = absurd (far (sym e))
numbered a (y ∷ ys) zero x d e far = inl (λ j. (same a j, e j))
  where
    same : (a : ℕ) → a ≡ a + 0
    same a = omega arith
numbered a (y ∷ ys) (suc i) x d e far = inr (subst (λ (k : ℕ). Has (enumerate_from (a + 1) ys) (k, x)) (shift a i) (numbered (a + 1) ys i x d e far))
  where
    shift : (a i : ℕ) → a + 1 + i ≡ a + suc i
    shift a i = omega arith

not_erased : (bytes : PageBytes) → written bytes ≢ erased
not_erased bytes e = true_false (ap (λ (page : Page). elim page [ erased ↦ false | uncorrectable ↦ false | written b ↦ true ]) e)

-- ---- the two records, and the numbers of a volume

root_spare : spare_rec_of (spare_bytes (Virtual 67 1 0)) ≡ Some (Virtual 67 1 0)
unfolding fits_spare
root_spare = spare-spelled (Virtual 67 1 0) refl refl

super_spare : spare_rec_of (spare_bytes (Virtual 0 2 0)) ≡ Some (Virtual 0 2 0)
unfolding fits_spare
super_spare = spare-spelled (Virtual 0 2 0) refl refl

past_root : (blocks pages : ℕ) → is_legal blocks pages ≡ true → 67 < (shape_for blocks pages).vaddrs
unfolding shape_for
past_root blocks pages legal = past (shape_for blocks pages).inode_pages (shape_for blocks pages).meta (shape_for blocks pages).nodes (nodes_some blocks pages legal) (nodes_fit blocks pages legal)
  where
    past : (i m n : ℕ) → 0 < n → n ≤ 16 * i → 67 < 67 + i + m
    past i m n some fit = omega arith

two_blocks : (blocks pages : ℕ) → 2 ≤ (shape_for blocks pages).vblocks
unfolding shape_for
two_blocks blocks pages = omega arith

-- ---- the image

module _ (image : Image) (whole : IsTrue (is_image image)) (legal : IsTrue (is_legal image.blocks image.pages)) (formatted : IsFormatted image.blocks image.pages image) where
  abbrev shape : Shape
  shape = shape_of_image image

  abbrev the_root : Readable
  the_root = record { page = 0; rec = Virtual 67 1 0; main = root_page }

  abbrev the_super : Readable
  the_super = record { page = 1; rec = Virtual 0 2 0; main = fresh_super image.blocks image.pages }

  root_reads : readable (0, written formatted_root) ≡ Some the_root
  unfolding formatted_root
  root_reads = ap (option_map (λ (rec : SpareRec). record { page = 0; rec = rec; main = root_page })) root_spare

  super_reads : readable (1, written (formatted_super image.blocks image.pages)) ≡ Some the_super
  unfolding formatted_super
  super_reads = ap (option_map (λ (rec : SpareRec). record { page = 1; rec = rec; main = fresh_super image.blocks image.pages })) super_spare

  -- no page but these two is readable
  only : (r : Readable) → Has (readable_pages image) r → (the_root ≡ r) ⊎ (the_super ≡ r)
  unfolding readable_pages
  only r m = by (member-some readable (enumerate_from 0 image.contents) r m)
    where
      at : (n : ℕ) (page : Page) → page_at image n ≡ page → readable (n, page) ≡ Some r → (the_root ≡ r) ⊎ (the_super ≡ r)
      at zero page e f = inl (some_in the_root r (sym root_reads ∙ ap (λ (p : Page). readable (0, p)) (sym formatted.root ∙ e) ∙ f))
      at (suc zero) page e f = inr (some_in the_super r (sym super_reads ∙ ap (λ (p : Page). readable (1, p)) (sym formatted.numbers ∙ e) ∙ f))
      at (suc (suc n)) page e f = absurd (none_some r (ap (λ (p : Page). readable (suc (suc n), p)) (sym (formatted.others (suc (suc n)) (omega arith)) ∙ e) ∙ f))

      from_0 : (k i : ℕ) → k ≡ 0 + i → i ≡ k
      from_0 k i e = omega arith

      by : (x : ℕ × Page) × Has (enumerate_from 0 image.contents) x × (readable x ≡ Some r) → (the_root ≡ r) ⊎ (the_super ≡ r)
      by q =
          let s = stands 0 image.contents q.0 erased q.1 in
          at q.0.0 q.0.1 (subst (λ (k : ℕ). page_at image k ≡ q.0.1) (from_0 q.0.0 s.0 s.1) s.2) q.2

  has_root : Has (readable_pages image) the_root
  unfolding readable_pages
  has_root = some-member readable (enumerate_from 0 image.contents) (0, written formatted_root) the_root (numbered 0 image.contents 0 (written formatted_root) erased formatted.root (not_erased formatted_root)) root_reads

  has_super : Has (readable_pages image) the_super
  unfolding readable_pages
  has_super =
      some-member readable (enumerate_from 0 image.contents) (1, written (formatted_super image.blocks image.pages)) the_super
      (numbered 0 image.contents 1 (written (formatted_super image.blocks image.pages)) erased formatted.numbers (not_erased (formatted_super image.blocks image.pages))) super_reads

  many_pages : 64 ≤ first_physical shape
  unfolding shape_for
  many_pages = mul-le-mul (two_blocks image.blocks image.pages) (limits image.blocks image.pages legal).2

  virtual_root : Has (virtual_pages image) the_root
  unfolding virtual_pages
  virtual_root =
      filter-member (λ r. nat_lt r.page (first_physical shape) && is_virtual_rec shape r.rec) (readable_pages image) the_root has_root
      (and_from _ _ (lt-ltb 0 (first_physical shape) (omega (arith, many_pages))) (lt-ltb 67 shape.vaddrs (past_root image.blocks image.pages legal)))

  virtual_super : Has (virtual_pages image) the_super
  unfolding virtual_pages
  virtual_super =
      filter-member (λ r. nat_lt r.page (first_physical shape) && is_virtual_rec shape r.rec) (readable_pages image) the_super has_super
      (and_from _ _ (lt-ltb 1 (first_physical shape) (omega (arith, many_pages))) (lt-ltb 0 shape.vaddrs (omega (arith, past_root image.blocks image.pages legal))))

  only_virtual : (r : Readable) → Has (virtual_pages image) r → (the_root ≡ r) ⊎ (the_super ≡ r)
  unfolding virtual_pages
  only_virtual r m = only r (member-filter (λ r. nat_lt r.page (first_physical shape) && is_virtual_rec shape r.rec) (readable_pages image) r m).0

  is_fresh : (r : Readable) → (the_root ≡ r) ⊎ (the_super ≡ r) → IsFreshPage image r
  is_fresh r (inl e) = inl (ap (λ (q : Readable). address_on q) (sym e), ap (λ (q : Readable). stamp_on q) (sym e), ap (λ (q : Readable). q.main) (sym e))
  is_fresh r (inr e) = inr (ap (λ (q : Readable). address_on q) (sym e), ap (λ (q : Readable). stamp_on q) (sym e), ap (λ (q : Readable). q.main) (sym e))

  not_physical : (r : Readable) → (the_root ≡ r) ⊎ (the_super ≡ r) → is_physical_rec r.rec ≡ true → ⊥
  not_physical r (inl e) is = true_false (sym is ∙ ap (λ (q : Readable). is_physical_rec q.rec) (sym e))
  not_physical r (inr e) is = true_false (sym is ∙ ap (λ (q : Readable). is_physical_rec q.rec) (sym e))

  no_data : (r : Readable) → Has (physical_pages image) r → ⊥
  unfolding physical_pages
  no_data r m = let q = member-filter _ (readable_pages image) r m in not_physical r (only r q.0) (and_parts _ _ q.1).1

  has_fresh_pages : HasFreshPages image
  has_fresh_pages = record {
    whole = whole;
    legal = legal;
    root = (the_root, virtual_root, refl);
    super_page = (the_super, virtual_super, refl);
    no_other = λ r m. is_fresh r (only_virtual r m);
    no_data = no_data;
  }

  -- both pages are in block 0
  in_block_0 : (r : Readable) → (the_root ≡ r) ⊎ (the_super ≡ r) → r.page / image.pages ≡ 0
  in_block_0 r (inl e) = ap (λ (q : Readable). q.page / image.pages) (sym e) ∙ div-eq_of_lt (omega (arith, (limits image.blocks image.pages legal).2))
  in_block_0 r (inr e) = ap (λ (q : Readable). q.page / image.pages) (sym e) ∙ div-eq_of_lt (omega (arith, (limits image.blocks image.pages legal).2))

  block_1_is_spare : IsSome (virtual_spare image)
  block_1_is_spare = spare_by_copies image 1 (two_blocks image.blocks image.pages) (λ r m in_1. absurd (apart (r.page / image.pages) (in_block_0 r (only_virtual r m)) in_1))
    where
      apart : (n : ℕ) → n ≡ 0 → n ≡ 1 → ⊥
      apart n a b = omega arith

pub formatted_is_consistent : FormattedIsConsistent
formatted_is_consistent blocks pages image whole same_blocks same_pages legal formatted =
    let of = subst (λ (n : ℕ). IsFormatted image.blocks n image) (sym same_pages) (subst (λ (n : ℕ). IsFormatted n pages image) (sym same_blocks) formatted) in
    let is = subst (λ (n : ℕ). IsTrue (is_legal image.blocks n)) (sym same_pages) (subst (λ (n : ℕ). IsTrue (is_legal n pages)) (sym same_blocks) legal) in
    fresh_is_consistent image (has_fresh_pages image whole is of) (block_1_is_spare image whole is of)
