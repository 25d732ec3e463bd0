-- A sound image has a readable page.
use Rattle.std.proofs.Common.{◌≡◌, ℕ, ◌==◌, ◌&&◌, nat_lt, cond, false, List, [], Option, Some, None, filter, find, option_and_then, option_map, refl, sym, ap, ◌∙◌}
use Rattle.std.proofs.lemmas.Bool.{cond-false}
use Rattle.nl_field.specs.Journal.{header_of}
use Rattle.nl_field.specs.Medium.{Readable, address_on, first_physical, is_virtual_rec, readable_pages, shape_of_image, virtual_pages}
use Rattle.nl_field.specs.Page.{Image}
use Rattle.nl_field.specs.Space.{has_greatest_stamp, is_outside, virtual_spare}
use Rattle.nl_field.specs.SuperPage.{super_of}
use Rattle.nl_field.specs.Virtual.{is_inode_address, newest, or_first_in, virtual_bytes}
use Rattle.nl_field.specs.declared.header.HeaderRec.{HeaderRec}
use Rattle.nl_field.specs.declared.shape.Shape.{Shape}
use Rattle.nl_meta.specs.Committed.{commit_at, committed, committed_of, counting, counts, header_at, home_or_image, place_in, within_volume}
use Rattle.nl_meta.specs.Nodes.{super_of_pages}
use Rattle.nl_meta.proofs.Lists.{none_some}
use Rattle.nl_core_open.specs.Laws.{ConsistentIsReadable}

module _ (image : Image) (blank : readable_pages image ≡ []) where
  abbrev shape : Shape
  shape = shape_of_image image

  no_virtual : virtual_pages image ≡ []
  unfolding virtual_pages
  no_virtual = ap (filter (λ r. nat_lt r.page (first_physical shape) && is_virtual_rec shape r.rec)) blank

  newest_none : (v : ℕ) → newest image v ≡ None
  unfolding newest
  newest_none v = ap (λ (pages : List Readable). let greatest = filter (λ r. address_on r == v && has_greatest_stamp pages r) pages in or_first_in greatest (find (λ r. is_outside image.pages (virtual_spare image) r.page) greatest)) no_virtual

  bytes_none : (v : ℕ) → is_inode_address shape v ≡ false → virtual_bytes image v ≡ None
  unfolding virtual_bytes
  bytes_none v e = cond-false (is_inode_address shape v) _ _ e ∙ ap (option_map (λ (r : Readable). r.main)) (newest_none v)

  no_transaction : counting shape (virtual_bytes image) ≡ None
  unfolding counting header_at
  no_transaction = ap (λ (o : Option (List ℕ)). option_and_then (λ header. option_and_then (λ commit. cond (counts (virtual_bytes image) header commit) (Some header) None) (commit_at (virtual_bytes image))) (option_and_then (within_volume shape) (option_and_then header_of o))) (bytes_none 1 refl)

  none_at_0 : committed_of image 0 ≡ None
  unfolding committed
  none_at_0 = ap (λ (o : Option HeaderRec). home_or_image (virtual_bytes image) 0 (place_in o 0)) no_transaction ∙ bytes_none 0 refl

  pub no_super : super_of_pages (committed_of image) ≡ None
  unfolding super_of_pages
  no_super = ap (option_and_then super_of) none_at_0

pub sound_is_readable : ConsistentIsReadable
sound_is_readable image count tree sound blank = none_some sound.stands.metadata.super_rec (sym (no_super image blank) ∙ sound.stands.metadata.numbers.spelled)
