-- What a file holds once a page of it was installed.
use Rattle.std.proofs.Common.{◌≡◌, ◌≢◌, ◌⊎◌, inl, inr, ℕ, ◌==◌, cond, List, Some, sym, ap, ◌∙◌}
use Rattle.std.proofs.lemmas.Bool.{cases_eq, cond-false, cond-true, eq-eqb, ne_eqb}
use Rattle.std.specs.Bool.{passes}
use Rattle.std.specs.Cmp.{nat_cmp_total, unsigned_tied}
use Rattle.std.specs.FinMap.{find, nat_cmp-IsAntisymmetric, put}
use Rattle.std.specs.FinMap.Entries.{find-put, is_sorted-put, same_entries}
use Rattle.std.specs.Ordering.{nat_cmp}
use Rattle.std.specs.Prelude.{IsTrue}
use Rattle.nl_field.specs.Spelling.{is_stamp}
use Rattle.nl_field.specs.declared.inode.InodeRec.{InodeRec}
use Rattle.nl_field.specs.declared.pointer.Pointer.{Pointer}
use Rattle.nl_field.specs.declared.shape.Shape.{Shape}
use Rattle.nl_inode.specs.Nodes.{Spaces}
use Rattle.nl_indirect.specs.Ranges.{IsFileRecord}
use Rattle.nl_meta.specs.Committed.{VirtualMap}
use Rattle.nl_spec_image.proofs.PagesOfFiles.{sorted_in}
use Rattle.nl_files.specs.Contents.{content_of}
use Rattle.nl_files.specs.InstallLaws.{FileIsInstalled}
use Rattle.nl_files.proofs.ContentFacts.{installing_writes}

module _ (bytes_of : ℕ → List ℕ) (shape : Shape) (n index : ℕ) (to : Pointer) (was is : InodeRec) (before after : VirtualMap) (s t : Spaces) (file : IsFileRecord was) (file_after : IsFileRecord is) (spelled : IsTrue (is_stamp to.stamp))
    (c : FileIsInstalled shape n index to was is before after s t) where
  abbrev old : List (ℕ × List ℕ)
  old = (content_of bytes_of before was).pages

  abbrev new : List (ℕ × List ℕ)
  new = (content_of bytes_of after is).pages

  found : (q : ℕ) → (q ≡ index) ⊎ (q ≢ index) → find nat_cmp q new ≡ cond (q == index) (Some (bytes_of to.stamp)) (find nat_cmp q old)
  found q (inl e) =
      ap (λ (i : ℕ). find nat_cmp i new) e ∙ (installing_writes bytes_of shape n index to was is before after s t file file_after spelled c).at
      ∙ sym (cond-true (q == index) (Some (bytes_of to.stamp)) (find nat_cmp q old) (eq-eqb q index e))
  found q (inr far) =
      (installing_writes bytes_of shape n index to was is before after s t file file_after spelled c).others q far
      ∙ sym (cond-false (q == index) (Some (bytes_of to.stamp)) (find nat_cmp q old) (ne_eqb q index far))

  -- the page stands among the others
  pub page_put : new ≡ put nat_cmp index (bytes_of to.stamp) old
  page_put = same_entries nat_cmp nat_cmp_total nat_cmp-IsAntisymmetric new (put nat_cmp index (bytes_of to.stamp) old) (passes _ (sorted_in bytes_of after is))
      (is_sorted-put nat_cmp nat_cmp_total index (bytes_of to.stamp) old (passes _ (sorted_in bytes_of before was)))
      (λ q. found q (cases_eq q index) ∙ ap (λ b. cond b (Some (bytes_of to.stamp)) (find nat_cmp q old)) (sym (unsigned_tied q index)) ∙ sym (find-put nat_cmp nat_cmp_total q index (bytes_of to.stamp) old))
