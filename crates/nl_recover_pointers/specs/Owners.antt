-- From where the pages with a write sequence number and an owner are zero.
use Rattle.std.specs.Prelude.{◌≡◌, ℕ, nat_le, ◌==◌, ◌&&◌, max, Bool, false, if◌then◌else◌, List, fold, length, slice_index_or, Option, Some, None}
use Rattle.std.specs.Ordering.{nat_cmp, ordering_then}
use Rattle.std.specs.declared.cmp.Ordering.{Ordering}
use Rattle.std.specs.BTreeMap.{get}
use Rattle.nl_field.specs.Medium.{first_physical}
use Rattle.nl_field.specs.SpareRecord.{stamp_of}
use Rattle.nl_field.specs.declared.pointer.Tag.{Tag}
use Rattle.nl_field.specs.declared.seen.Seen.{Seen}
use Rattle.nl_field.specs.declared.shape.Shape.{Shape}
use Rattle.nl_field.specs.declared.spare.SpareRec.{SpareRec}
use Rattle.nl_field.specs.declared.spare.SpareRec.TheVariants.{Virtual, Physical}
use Rattle.nl_meta.specs.Walk.{has_tag, tag_eq}
use Rattle.nl_recover_pointers.specs.Numbers.{place_in}
use Rattle.nl_recover_pointers.specs.declared.owners.Owned.{Owned}
use Rattle.nl_recover_pointers.specs.declared.owners.Zeros.{Zeros}

-- a write sequence number and an owner, in one order
abbrev pub PageKey : Type 0
PageKey = ℕ × ℕ × ℕ × ℕ

abbrev pub key_cmp : PageKey → PageKey → Ordering
key_cmp x y = ordering_then (ordering_then (ordering_then (nat_cmp x.0 y.0) (nat_cmp x.1 y.1)) (nat_cmp x.2 y.2)) (nat_cmp x.3 y.3)

abbrev pub key_of : ℕ → Tag → PageKey
key_of stamp tag = (stamp, tag.ino, tag.generation, tag.index)

-- the greater offset, with one page more that is zero from there on
abbrev pub more_zeros : Option ℕ → ℕ → ℕ
more_zeros None from = from
more_zeros (Some other) from = max from other

-- the offset with one page more, where it has that number and that owner
abbrev pub with_page : ℕ → Tag → Option ℕ → Seen → Option ℕ
with_page stamp tag zeros s = if stamp_of s.rec == stamp && has_tag tag s.rec then Some (more_zeros zeros s.zeros) else zeros

-- the greatest offset from which a page with that number and that owner is zero, None where there is no such page
unfoldable pub greatest_zeros : List Seen → ℕ → Tag → Option ℕ
greatest_zeros pages stamp tag = fold (with_page stamp tag) None pages

-- ---- pages that are kept at places by their numbers, and others in one order

-- the offset of a page, where it has that number and that owner
abbrev pub zeros_of : ℕ → Tag → Option Owned → Option ℕ
zeros_of stamp tag None = None
zeros_of stamp tag (Some owned) = if owned.stamp == stamp && tag_eq tag owned.tag then Some owned.zeros else None

-- the greater of two offsets
abbrev pub zeros_and : Option ℕ → Option ℕ → Option ℕ
zeros_and None others = others
zeros_and (Some zeros) others = Some (more_zeros others zeros)

-- the offset of the page that is kept for a number, where it has that owner
abbrev pub zeros_kept : List (Option Owned) → ℕ → Tag → Option ℕ
zeros_kept kept stamp tag = zeros_of stamp tag (slice_index_or kept (place_in (length kept) stamp) None)

-- the greatest offset that is known of a number and an owner
abbrev pub zeros_at : Zeros → ℕ → Tag → Option ℕ
zeros_at zeros stamp tag = zeros_and (zeros_kept zeros.kept.items stamp tag) (get key_cmp zeros.more (key_of stamp tag))

abbrev pub HasNoOwner : Zeros → Type 0
HasNoOwner zeros = (stamp : ℕ) (tag : Tag) → zeros_at zeros stamp tag ≡ None

-- the offset with one page more, where it has that number and that owner
abbrev pub and_page : ℕ → Tag → ℕ → Option ℕ → ℕ → Tag → Option ℕ
and_page stamp tag from zeros s t = if stamp == s && tag_eq t tag then Some (more_zeros zeros from) else zeros

-- a page more is kept, beside whatever others there are
abbrev pub KeepsOwned : List (Option Owned) → List (Option Owned) → Owned → Type 0
KeepsOwned old new owned = (s : ℕ) (t : Tag) (others : Option ℕ)
    → zeros_and (zeros_kept new s t) others ≡ and_page owned.stamp owned.tag owned.zeros (zeros_and (zeros_kept old s t) others) s t

-- a page more
abbrev pub AddsOwned : Zeros → Zeros → Owned → Type 0
AddsOwned old new owned = (s : ℕ) (t : Tag) → zeros_at new s t ≡ and_page owned.stamp owned.tag owned.zeros (zeros_at old s t) s t

-- ---- the pages that a scan saw

abbrev pub owned_by : ℕ → SpareRec → Option Owned
owned_by from (Virtual vaddr stamp wear) = None
owned_by from (Physical tag stamp wear) = Some (record { stamp = stamp; tag = tag; zeros = from })

-- the number, the owner and the offset of a page of the physical segment
abbrev pub owned_in : Shape → Seen → Option Owned
owned_in shape s = if nat_le (first_physical shape) s.page then owned_by s.zeros s.rec else None

-- the offset with one page more, where there is one
abbrev pub and_owned : Option Owned → Option ℕ → ℕ → Tag → Option ℕ
and_owned None zeros s t = zeros
and_owned (Some owned) zeros s t = and_page owned.stamp owned.tag owned.zeros zeros s t

-- a page more, where there is one
abbrev pub SeesOwned : Zeros → Zeros → Option Owned → Type 0
SeesOwned old new owned = (s : ℕ) (t : Tag) → zeros_at new s t ≡ and_owned owned (zeros_at old s t) s t

abbrev pub AreOwned : List Seen → Zeros → Type 0
AreOwned pages zeros = (stamp : ℕ) (tag : Tag) → zeros_at zeros stamp tag ≡ greatest_zeros pages stamp tag

-- whether there is a page of the key, and each is zero from an offset on
abbrev pub is_zero_from : ℕ → Option ℕ → Bool
is_zero_from end None = false
is_zero_from end (Some zeros) = nat_le zeros end
