-- The walk of an opening: the first place at fault, in the order of its phases, over the numbers of a volume, its committed pages, and
-- the list of readable pages that a scan gives. The walk of an image is that over its own pages. An image is consistent where there is no
-- fault.
use Rattle.std.specs.Prelude.{◌≡◌, ℕ, zero, suc, ◌+◌, ◌-◌, ◌*◌, ◌==◌, nat_le, nat_lt, Bool, true, false, not, ◌&&◌, ◌||◌, if◌then◌else◌, List, [], ◌∷◌, length, map, filter, filter_map, flat_map, find, count_by, bytes_eq, Option, Some, None, option_map, is_none, is_some, IsTrue, AllPairs}
use Rattle.std.specs.List.{list_all, list_any, range_with_len}
use Rattle.std.specs.Int.{div_ceil}
use Rattle.nl_field.specs.Numbers.{is_legal}
use Rattle.nl_field.specs.Page.{Image}
use Rattle.nl_field.specs.Bytes.{all_zero}
use Rattle.nl_field.specs.EntryRecord.{entry_of}
use Rattle.nl_field.specs.Pointers.{indirect_of}
use Rattle.nl_field.specs.Medium.{shape_of_image, readable_pages}
use Rattle.nl_field.specs.ScanList.{seen_in, virtual_seen, physical_seen, is_lost_seen, owns_seen, virtual_spare_seen, physical_spare_seen, place_seen}
use Rattle.nl_field.specs.SpareRecord.{stamp_of}
use Rattle.nl_field.specs.declared.shape.Shape.{Shape}
use Rattle.nl_field.specs.declared.pointer.Pointer.{Pointer}
use Rattle.nl_field.specs.declared.pointer.Tag.{Tag}
use Rattle.nl_field.specs.declared.seen.Seen.{Seen}
use Rattle.nl_field.specs.declared.spare.SpareRec.{SpareRec}
use Rattle.nl_field.specs.declared.spare.SpareRec.TheVariants.{Virtual, Physical}
use Rattle.nl_field.specs.declared.super_page.SuperRec.{SuperRec}
use Rattle.nl_field.specs.declared.inode.Kind.{Kind}
use Rattle.nl_field.specs.declared.inode.Kind.TheVariants.{Unused, File, Dir}
use Rattle.nl_field.specs.declared.inode.InodeRec.{InodeRec}
use Rattle.nl_field.specs.declared.entry.EntryRec.{EntryRec}
use Rattle.nl_field.specs.declared.place.Place.{Place}
use Rattle.nl_field.specs.declared.place.What.{What}
use Rattle.nl_field.specs.declared.place.What.TheVariants.{Super, Stamp, Inode, Pages as PagesPhase, Entry, Pointer as PointerPhase, Names, Charges, Crowded}
use Rattle.nl_meta.specs.Committed.{VirtualMap, committed_of}
use Rattle.nl_meta.specs.Nodes.{bytes_at, super_of_pages, bytes_of_node, inode_at, slots_of, address_of_place, bytes_of_place, is_physical_name, Held, held_in}

-- ---- finding the first fault

-- the first item at which the test passes, given the items before it
abbrev pub first_after : {X : Type 0} → (List X → X → Bool) → List X → List X → Option X
first_after test earlier [] = None
first_after test earlier (x ∷ xs) = let later = first_after test (x ∷ earlier) xs in if test earlier x then Some x else later

-- place 0 where the test passes
abbrev pub zero_where : Bool → Option ℕ
zero_where b = if b then Some 0 else None

-- ---- super: the record of address 0, with the medium's legal numbers

abbrev pub is_super_of : Shape → Option SuperRec → Bool
is_super_of shape None = false
is_super_of shape (Some rec) = rec.blocks == shape.blocks && rec.pages == shape.pages && is_legal shape.blocks shape.pages

-- ---- stamp: pages of one stamp agree, apart from wear

unfoldable pub stamp_fault : List Seen → Option ℕ
stamp_fault seen = option_map (λ s. s.page) (find (λ s. not s.agrees) seen)

-- ---- inode: records are spelled, their direct pointers lie in the physical segment, what follows the last node is zero, and node 0 is
-- a directory

abbrev pub is_dir_kind : Kind → Bool
is_dir_kind Dir = true
is_dir_kind File = false
is_dir_kind Unused = false

abbrev pub is_file_kind : Kind → Bool
is_file_kind File = true
is_file_kind Dir = false
is_file_kind Unused = false

abbrev pub is_used_kind : Kind → Bool
is_used_kind kind = is_dir_kind kind || is_file_kind kind

abbrev pub is_good_inode : Shape → ℕ → Option InodeRec → Bool
is_good_inode shape n None = false
is_good_inode shape n (Some rec) = list_all (is_physical_name shape) rec.direct && (not (n == 0) || is_dir_kind rec.kind)

unfoldable pub inode_fault : Shape → VirtualMap → Option ℕ
inode_fault shape pages =
    find (λ n. not (if nat_lt n shape.nodes then is_good_inode shape n (inode_at pages n) else all_zero (bytes_of_node pages n)))
    (range_with_len 0 (16 * shape.inode_pages))

-- ---- pages: the addresses of nodes

-- the used nodes, with their numbers
unfoldable pub used_nodes : Shape → VirtualMap → List (ℕ × InodeRec)
used_nodes shape pages =
    filter (λ x. is_used_kind x.1.kind) (filter_map (λ n. option_map (λ rec. (n, rec)) (inode_at pages n)) (range_with_len 0 shape.nodes))

-- the addresses of a used node, each with whether the node is a file
abbrev pub addresses_of : ℕ × InodeRec → List (Bool × ℕ)
addresses_of (n, rec) = map (λ a. (is_file_kind rec.kind, a)) (filter (λ a. not (a == 0)) (slots_of rec))

abbrev pub is_good_indirect : Shape → Option (List Pointer) → Bool
is_good_indirect shape None = false
is_good_indirect shape (Some ps) = list_all (is_physical_name shape) ps

abbrev pub is_bad_address : Shape → VirtualMap → List (Bool × ℕ) → Bool × ℕ → Bool
is_bad_address shape pages earlier (of_file, a) =
    not (nat_le (67 + shape.inode_pages) a && nat_lt a shape.vaddrs) || list_any (λ e. e.1 == a) earlier || is_none (pages a)
    || (of_file && not (is_good_indirect shape (indirect_of (bytes_at pages a))))

unfoldable pub pages_fault : Shape → VirtualMap → Option ℕ
pages_fault shape pages =
    option_map (λ e. e.1) (first_after (is_bad_address shape pages) [] (flat_map addresses_of (used_nodes shape pages)))

-- ---- entry: the entries of directories, and that each node is reached

-- a place of a directory that is there: the directory, whether it is before the size, and its bytes
pub record EntryPlace : Type 0 where
  pub dir : ℕ
  pub is_entry : Bool
  pub bytes : List ℕ

-- the places whose page is there
abbrev pub places_of : VirtualMap → ℕ × InodeRec → List EntryPlace
places_of pages (n, rec) =
    if is_dir_kind rec.kind
    then map (λ i. record { dir = n; is_entry = nat_lt i rec.size; bytes = bytes_of_place pages rec i })
    (filter (λ i. is_some (pages (address_of_place rec i))) (range_with_len 0 (64 * div_ceil rec.size 64)))
    else []

-- a directory and an entry of it
abbrev pub Naming : Type 0
Naming = ℕ × EntryRec

abbrev pub naming_of : EntryPlace → Option Naming
naming_of p = if p.is_entry then option_map (λ e. (p.dir, e)) (entry_of p.bytes) else None

abbrev pub has_generation : ℕ → Option InodeRec → Bool
has_generation generation None = false
has_generation generation (Some rec) = is_used_kind rec.kind && rec.generation == generation

abbrev pub is_bad_naming : Shape → VirtualMap → List Naming → ℕ → Option EntryRec → Bool
is_bad_naming shape pages earlier dir None = true
is_bad_naming shape pages earlier dir (Some e) =
    e.ino == 0 || not (nat_lt e.ino shape.nodes) || not (has_generation e.generation (inode_at pages e.ino))
    || list_any (λ x. x.1.ino == e.ino || (x.0 == dir && bytes_eq x.1.name e.name)) earlier

abbrev pub is_bad_place : Shape → VirtualMap → List EntryPlace → EntryPlace → Bool
is_bad_place shape pages earlier p =
    if p.is_entry then is_bad_naming shape pages (filter_map naming_of earlier) p.dir (entry_of p.bytes) else not (all_zero p.bytes)

-- a chain of at most so many entries leads to the node from node 0
abbrev pub is_reached : List Naming → ℕ → ℕ → Bool
is_reached namings zero n = n == 0
is_reached namings (suc fuel) n = n == 0 || list_any (λ x. x.1.ino == n && is_reached namings fuel x.0) namings

unfoldable pub all_places : Shape → VirtualMap → List EntryPlace
all_places shape pages = flat_map (places_of pages) (used_nodes shape pages)

unfoldable pub entry_fault : Shape → VirtualMap → Option ℕ
entry_fault shape pages = option_map (λ p. p.dir) (first_after (is_bad_place shape pages) [] (all_places shape pages))

unfoldable pub reach_fault : Shape → VirtualMap → Option ℕ
reach_fault shape pages =
    let namings = filter_map naming_of (all_places shape pages) in
    find (λ n. not (is_reached namings shape.nodes n)) (map (λ x. x.0) (used_nodes shape pages))

-- ---- pointer: the pointers of files

abbrev pub tag_eq : Tag → Tag → Bool
tag_eq s t = s.ino == t.ino && s.generation == t.generation && s.index == t.index

abbrev pub has_tag : Tag → SpareRec → Bool
has_tag tag (Virtual vaddr stamp wear) = false
has_tag tag (Physical t stamp wear) = tag_eq tag t

-- the page has the stamp and the tag of the pointer
abbrev pub is_page_of : Held → Seen → Bool
is_page_of h s = stamp_of s.rec == h.pointer.stamp && has_tag h.tag s.rec

-- A physical page has the pointer's stamp and tag, and each one that has is zero from the file's size on.
abbrev pub has_page : List Seen → Held → Bool
has_page physicals h =
    list_any (is_page_of h) physicals && list_all (λ s. not (is_page_of h s) || nat_le s.zeros (h.size - 4096 * h.tag.index)) physicals

abbrev pub is_bad_pointer : List Seen → List Held → Held → Bool
is_bad_pointer physicals earlier h =
    not (nat_lt h.tag.index (div_ceil h.size 4096))
    || list_any (λ e. e.pointer.stamp == h.pointer.stamp || e.pointer.name == h.pointer.name) earlier
    || not (has_page physicals h)

unfoldable pub pointer_fault : List Seen → List Held → Option ℕ
pointer_fault physicals held = option_map (λ h. h.tag.ino) (first_after (is_bad_pointer physicals) [] held)

-- ---- names, charges, crowded

unfoldable pub name_fault : Shape → List Seen → List Held → Option ℕ
name_fault shape seen held = option_map (λ h. h.pointer.name) (find (λ h. not (owns_seen shape seen h.pointer)) held)

-- the spare block of the physical segment, beside these pointers
abbrev pub spare_beside : Shape → List Seen → List Held → Option ℕ
spare_beside shape seen held = physical_spare_seen shape seen (map (λ h. h.pointer.stamp) held)

unfoldable pub crowded_fault : Shape → List Seen → List Held → Option ℕ
crowded_fault shape seen held =
    if is_none (virtual_spare_seen shape seen) then Some 0
    else (if is_none (spare_beside shape seen held) then Some 1
    else (if nat_lt (3 * shape.pages) (count_by (λ h. is_lost_seen shape seen h.pointer) held) then Some 2 else None))

-- ---- the walk

abbrev pub or_then : Option ℕ → Option ℕ → Option ℕ
or_then None later = later
or_then (Some place) later = Some place

-- the first place at fault in a phase
unfoldable pub fault_in : Shape → VirtualMap → List Seen → What → Option ℕ
fault_in shape pages seen Super = zero_where (not (is_super_of shape (super_of_pages pages)))
fault_in shape pages seen Stamp = or_then (stamp_fault (virtual_seen shape seen)) (stamp_fault (physical_seen shape seen))
fault_in shape pages seen Inode = inode_fault shape pages
fault_in shape pages seen PagesPhase = pages_fault shape pages
fault_in shape pages seen Entry = or_then (entry_fault shape pages) (reach_fault shape pages)
fault_in shape pages seen PointerPhase = pointer_fault (physical_seen shape seen) (held_in shape pages)
fault_in shape pages seen Names = name_fault shape seen (held_in shape pages)
fault_in shape pages seen Charges = zero_where (nat_lt shape.cap (length (held_in shape pages)))
fault_in shape pages seen Crowded = crowded_fault shape seen (held_in shape pages)

abbrev pub all_phases : List What
all_phases = Super ∷ Stamp ∷ Inode ∷ PagesPhase ∷ Entry ∷ PointerPhase ∷ Names ∷ Charges ∷ Crowded ∷ []

abbrev pub first_fault : (What → Option ℕ) → List What → Option Place
first_fault fault [] = None
first_fault fault (phase ∷ phases) =
    let later = first_fault fault phases in
    elim (fault phase) [ None ↦ later | Some place ↦ Some (record { place = place; what = phase }) ]

-- the first place at fault
unfoldable pub walk_over : Shape → VirtualMap → List Seen → Option Place
walk_over shape pages seen = first_fault (fault_in shape pages seen) all_phases

-- ---- an image

-- the first place at fault in a phase, of an image
unfoldable pub phase_fault : Image → What → Option ℕ
phase_fault image what = fault_in (shape_of_image image) (committed_of image) (seen_in image) what

-- the first place at fault of an image; one with a readable page is consistent where there is none
unfoldable pub walk : Image → Option Place
walk image = walk_over (shape_of_image image) (committed_of image) (seen_in image)

unfoldable pub is_blank_image : Image → Bool
is_blank_image image = length (readable_pages image) == 0

-- what an opening answers
pub data OpeningAnswer : Type 0 where
  answers_blank : OpeningAnswer
  answers_damaged : Place → OpeningAnswer
  opens : OpeningAnswer

abbrev pub answer_of_walk : Option Place → OpeningAnswer
answer_of_walk None = opens
answer_of_walk (Some place) = answers_damaged place

-- An image without a readable page is blank, before any walk.
unfoldable pub opening_answer : Image → OpeningAnswer
opening_answer image = if is_blank_image image then answers_blank else answer_of_walk (walk image)

-- Where an opening finds the page of a pointer: under its own name where that page holds the stamp and is outside the
-- spare block, and else in the least readable page of that stamp outside it.
unfoldable pub place_over : Shape → VirtualMap → List Seen → Pointer → Option ℕ
place_over shape pages seen p = place_seen shape seen (spare_beside shape seen (held_in shape pages)) p

unfoldable pub place_of_pointer : Image → Pointer → Option ℕ
place_of_pointer image p = place_over (shape_of_image image) (committed_of image) (seen_in image) p

-- ---- what a checker may find

abbrev pub ends_findings : What → Bool
ends_findings Super = true
ends_findings Inode = true
ends_findings _ = false

-- A bit is set only where its phase has a fault. That of the first fault is set. After `super` and after `inode` no later one is.
pub record AreFindings (image : Image) (is_set : What → Bool) : Type 0 where
  pub only_faults : (what : What) → IsTrue (is_set what) → IsTrue (is_some (phase_fault image what))
  pub first_set : (place : Place) → walk image ≡ Some place → IsTrue (is_set place.what)
  pub none_after : AllPairs (λ what later. IsTrue (ends_findings what && is_set what) → is_set later ≡ false) all_phases
