-- The pages of a write, and the content with them.
use Rattle.std.proofs.Common.{◌≡◌, ◌⊎◌, inl, inr, ℕ, suc, ◌+◌, ◌-◌, ◌*◌, ◌<◌, ◌≤◌, ◌==◌, max, List, [], ◌∷◌, drop, get_or, length, map, Option, option_map, unwrap_or, refl, sym, ap, subst, ◌∙◌, arith}
use Rattle.std.proofs.lemmas.Bool.{cases_lt, cond-false, ne_eqb}
use Rattle.std.proofs.lemmas.List.{get_or_past}
use Rattle.std.proofs.lemmas.List.Folds.{fold-map}
use Rattle.std.specs.FinMap.{put}
use Rattle.std.specs.Ordering.{nat_cmp}
use Rattle.std.specs.Prelude.{IsTrue}
use Rattle.nl_field.specs.Bytes.{all_zero}
use Rattle.nl_field.specs.FileContent.{FileContent, is_content, overlaid, page_bytes, touched, written_over}
use Rattle.nl_tree_content.proofs.ContentBytes.{length-overlaid, overlaid-behind, zero_from}
use Rattle.nl_tree_content.proofs.ContentProofs.{byte_laws}
use Rattle.nl_flight.specs.declared.page.FlightPage.{FlightPage}
use Rattle.nl_meta.specs.Consistent.{PageOfStamp}
use Rattle.nl_spec_image.specs.Stands.{bytes_for}
use Rattle.nl_calls_files.specs.LineNeeds.{with_pages}
use Rattle.nl_calls_files.specs.LinePages.{AreOfWrite, AreThere, LinesWriteOver, indexes_of, shown_pages}

abbrev put_page : List (ℕ × List ℕ) → ℕ × List ℕ → List (ℕ × List ℕ)
put_page entries page = put nat_cmp page.0 page.1 entries

module _ (content : FileContent) (from : ℕ) (bytes : List ℕ) where
  -- the page at an index after the write
  abbrev laid : ℕ → List ℕ
  laid i = overlaid (page_bytes content i) i from bytes

  abbrev with_index : ℕ → ℕ × List ℕ
  with_index i = (i, laid i)

  abbrev size : ℕ
  size = max content.size (from + length bytes)

  module _ (is : IsTrue (is_content content)) (i : ℕ) where
    whole : length (laid i) ≡ 4096
    whole = length-overlaid (page_bytes content i) i from bytes (byte_laws.whole_page content i is)

    zero_behind : (r : ℕ) → size - 4096 * i ≤ r → (r < 4096) ⊎ (4096 ≤ r) → get_or (laid i) r 0 ≡ 0
    zero_behind r past (inl low) =
        overlaid-behind (page_bytes content i) i from bytes (byte_laws.whole_page content i is) r low (omega (arith, past))
        ∙ byte_laws.in_page content i r low ∙ byte_laws.past_size content (4096 * i + r) is (omega (arith, past))
    zero_behind r past (inr high) = get_or_past (laid i) r 0 (let all = whole in omega (arith, all, high))

    behind : IsTrue (all_zero (drop (size - 4096 * i) (laid i)))
    behind = zero_from (laid i) (size - 4096 * i) (λ r past. zero_behind r past (cases_lt r 4096))

  written_is : 0 < length bytes → with_pages (map with_index (touched from (length bytes))) size content ≡ written_over content from bytes
  unfolding written_over
  written_is some =
      (λ j. record { size = size; pages = fold-map put_page with_index content.pages (touched from (length bytes)) j })
      ∙ sym (cond-false (length bytes == 0) content _ (ne_eqb (length bytes) 0 (λ z. omega (arith, some, z))))

  module _ (page_of_stamp : ℕ → Option PageOfStamp) where
    shown : (pages : List FlightPage) → AreOfWrite page_of_stamp content from bytes pages → shown_pages page_of_stamp pages ≡ map with_index (indexes_of pages)
    shown [] of = refl
    shown (page ∷ pages) of =
        let here : bytes_for page_of_stamp page.at.stamp ≡ laid page.index = ap (λ (o : Option PageOfStamp). unwrap_or (option_map (λ p. p.bytes) o) []) (of 0 page refl).1 in
        let rest = shown pages (λ k p at. of (suc k) p at) in
        λ j. (page.index, here j) ∷ rest j

    there : (pages : List FlightPage) → IsTrue (is_content content) → AreOfWrite page_of_stamp content from bytes pages → AreThere page_of_stamp size pages
    there pages is of k page at = record {
      bytes = laid page.index;
      holds = (of k page at).1;
      whole = whole is page.index;
      behind = subst (λ (i : ℕ). IsTrue (all_zero (drop (size - 4096 * i) (laid page.index)))) (sym (of k page at).0) (behind is page.index);
    }

pub lines_write_over : LinesWriteOver
lines_write_over page_of_stamp content from bytes pages is some indexes of = (
  there content from bytes page_of_stamp pages is of,
  ap (λ (shown : List (ℕ × List ℕ)). with_pages shown (size content from bytes) content)
      (shown content from bytes page_of_stamp pages of ∙ ap (map (with_index content from bytes)) indexes)
      ∙ written_is content from bytes some,
)
