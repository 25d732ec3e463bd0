-- The first bytes of a page, and zeros behind them.
use Rattle.std.proofs.Common.{◌≡◌, ℕ, ◌+◌, ◌-◌, ◌*◌, ◌<◌, ◌≤◌, min, List, ◌++◌, length, drop, get_or, sym, ap, ◌∙◌, IsTrue, arith, ◌⊎◌, inl, inr, length-append, length-drop}
use Rattle.std.proofs.lemmas.Bool.{cases_lt}
use Rattle.std.proofs.lemmas.Grind.{same_number_lists}
use Rattle.std.proofs.lemmas.List.{get_or-append_right, get_or-drop, get_or_append_left}
use Rattle.nl_field.specs.Bytes.{zeros}
use Rattle.nl_field.specs.FileContent.{FileContent, is_content, page_bytes}
use Rattle.nl_tree_content.proofs.ContentBytes.{length-zeros, zeros-at}
use Rattle.nl_tree_content.proofs.ContentProofs.{byte_laws}

module _ (content : FileContent) (index held : ℕ) (sub rest : List ℕ) (right : IsTrue (is_content content)) (is : held ≡ min (content.size - 4096 * index) 4096) (len : length sub ≡ held)
    (first : (k : ℕ) → k < held → get_or sub k 0 ≡ get_or (page_bytes content index) k 0) (zero_rest : rest ≡ zeros 4096) where
  long : length (drop held rest) ≡ 4096 - held
  long = length-drop held rest ∙ ap (λ (xs : List ℕ). length xs - held) zero_rest ∙ ap (λ (n : ℕ). n - held) (length-zeros 4096)

  behind : (k : ℕ) → held ≤ k → k < 4096 → get_or (page_bytes content index) k 0 ≡ 0
  behind k high low = byte_laws.in_page content index k low ∙ byte_laws.past_size content (4096 * index + k) right (omega (arith, is, high, low))

  at : (k : ℕ) → k < 4096 → (k < held) ⊎ (held ≤ k) → get_or (sub ++ drop held rest) k 0 ≡ get_or (page_bytes content index) k 0
  at k low (inl below) = get_or_append_left sub (drop held rest) 0 k (omega (arith, below, len)) ∙ first k below
  at k low (inr high) =
      get_or-append_right sub (drop held rest) held k 0 len high ∙ get_or-drop held rest (k - held) 0
      ∙ ap (λ (xs : List ℕ). get_or xs (held + (k - held)) 0) zero_rest ∙ zeros-at 4096 (held + (k - held)) ∙ sym (behind k high low)

  pub joined : sub ++ drop held rest ≡ page_bytes content index
  joined =
      let n = length-append sub (drop held rest) in
      let m = long in
      let p = byte_laws.whole_page content index right in
      same_number_lists (sub ++ drop held rest) (page_bytes content index) (omega (arith, n, m, len, is, p)) (λ k low. at k (omega (arith, low, n, m, len, is)) (cases_lt k held))
