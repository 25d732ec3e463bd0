-- The bytes of a file over a device are those of its content.
use Rattle.std.proofs.Common.{◌≡◌, ◌⊎◌, inl, inr, ℕ, ◌+◌, ◌-◌, ◌/◌, ◌%◌, ◌<◌, ◌≤◌, Bool, true, false, cond, List, [], ◌++◌, length, unwrap_or, get_or, refl, sym, ap, ◌∙◌, Option, Some, None, option_map, arith}
use Rattle.std.proofs.lemmas.Bool.{cases_lt}
use Rattle.std.proofs.lemmas.List.{get_or-append_right, get_or_append_left, length-append}
use Rattle.std.specs.Prelude.{slice_index}
use Rattle.nl_field.specs.Bytes.{zeros}
use Rattle.nl_field.specs.FileContent.{byte_of}
use Rattle.nl_field.specs.Pointers.{is_none_pointer}
use Rattle.nl_field.specs.declared.inode.InodeRec.{InodeRec}
use Rattle.nl_tree_content.proofs.ContentBytes.{zeros-at}
use Rattle.nl_iface.specs.Names.{place_of}
use Rattle.nl_iface.specs.declared.counts.Counts.{Ghosts}
use Rattle.nl_indirect.specs.Ranges.{IsFileRecord}
use Rattle.nl_meta.specs.Committed.{VirtualMap}
use Rattle.nl_meta.specs.Consistent.{PageOfStamp}
use Rattle.nl_meta.specs.Nodes.{pointer_at}
use Rattle.nl_spec_image.specs.Stands.{bytes_for}
use Rattle.nl_files.specs.Reading.{AreBytesFrom, byte_at, file_page}
use Rattle.nl_files.specs.Standing.{PointersLead}
use Rattle.nl_files.proofs.ContentFacts.{pages_by_pointers}
use Rattle.nl_files.proofs.Filling.{file-size}
use Rattle.nl_spec_commits.specs.Standing.{ShowsPages}
use Rattle.nl_calls_files.specs.FileTrees.{held_content}
use Rattle.nl_calls_read.specs.Pieces.{AddsBytes}

module _ {D : Type 0} (g : Ghosts D) (s : D) (page_of_stamp : ℕ → Option PageOfStamp) (pages : VirtualMap) (n : ℕ) (rec : InodeRec) (file : IsFileRecord rec)
    (lead : PointersLead (g.names s) n rec pages) (shows : ShowsPages (g.names s) (g.bytes s) page_of_stamp) where
  -- the page of a pointer's write sequence number is the page to which it leads
  page-of : (i : ℕ) → i < 4104 → is_none_pointer (pointer_at pages rec i) ≡ false → bytes_for page_of_stamp (pointer_at pages rec i).stamp ≡ g.bytes s (place_of (g.names s) (pointer_at pages rec i))
  page-of i low some =
      let r = (lead i low some).leads in
      ap (λ (k : ℕ). bytes_for page_of_stamp k) (sym r.2.1) ∙ ap (λ (o : Option PageOfStamp). unwrap_or (option_map (λ page. page.bytes) o) []) (shows _ r.0 r.1)

  -- a byte of the page of an index, zero where it has none
  in-page : (i j : ℕ) → i < 4104 → (b : Bool) → is_none_pointer (pointer_at pages rec i) ≡ b
      → slice_index (cond b (zeros 4096) (g.bytes s (place_of (g.names s) (pointer_at pages rec i)))) j ≡ slice_index (unwrap_or (cond b None (Some (bytes_for page_of_stamp (pointer_at pages rec i).stamp))) []) j
  in-page i j low true e = zeros-at 4096 j
  in-page i j low false e = ap (λ (bytes : List ℕ). slice_index bytes j) (sym (page-of i low e))

  pub byte-same : (i : ℕ) → i < rec.size → byte_at (file_page g s pages rec) i ≡ byte_of (held_content page_of_stamp pages rec) i
  unfolding byte_of
  byte-same i below =
      let size = file-size rec file in
      let low : i / 4096 < 4104 = omega (arith, size, below) in
      in-page (i / 4096) (i % 4096) low (is_none_pointer (pointer_at pages rec (i / 4096))) refl
      ∙ ap (λ (o : Option (List ℕ)). slice_index (unwrap_or o []) (i % 4096)) (sym (pages_by_pointers (bytes_for page_of_stamp) pages rec file (i / 4096)))

-- ---- piece by piece

pub bytes-more : (page : ℕ → List ℕ) (from : ℕ) (out new : List ℕ) → AreBytesFrom page from out → AddsBytes page (from + length out) out new → AreBytesFrom page from new
bytes-more page from out new before adds k below = by (cases_lt k (length out))
  where
    joined : slice_index new k ≡ get_or (out ++ adds.more) k 0
    joined = ap (λ (bytes : List ℕ). get_or bytes k 0) adds.added

    by : (k < length out) ⊎ (length out ≤ k) → slice_index new k ≡ byte_at page (from + k)
    by (inl low) = joined ∙ get_or_append_left out adds.more 0 k low ∙ before k low
    by (inr high) =
        let whole = length-append out adds.more in
        let same = ap (λ (bytes : List ℕ). length bytes) adds.added in
        let at : k - length out < length adds.more = omega (arith, below, whole, same, high) in
        let place : from + length out + (k - length out) ≡ from + k = omega (arith, high) in
        joined ∙ get_or-append_right out adds.more (length out) k 0 refl high ∙ adds.are (k - length out) at ∙ ap (byte_at page) place

pub none-read : (page : ℕ → List ℕ) (from : ℕ) (out : List ℕ) → out ≡ [] → AreBytesFrom page from out
none-read page from out e k below = absurd (let n = ap (λ (bytes : List ℕ). length bytes) e in let off : ⊥ = omega (arith, n, below) in off)
