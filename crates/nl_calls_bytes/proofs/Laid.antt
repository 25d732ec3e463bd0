-- Bytes laid over a page.
use Rattle.std.proofs.Common.{◌≡◌, ℕ, ◌+◌, ◌-◌, ◌*◌, ◌<◌, ◌≤◌, min, List, ◌++◌, length, take, drop, replicate, slice_range, sym, ap, ◌∙◌, arith, ◌⊎◌, inl, inr, true, length-drop}
use Rattle.std.proofs.lemmas.Bool.{cases_lt, and_parts, ltb-true}
use Rattle.std.proofs.lemmas.List.{append_assoc, drop-drop, drop-replicate, length-replicate, take-replicate, take_all}
use borrow.Rule.Slice.PartMut.{put_mid}
use Rattle.nl_tree_content.specs.ContentLaws.{is_touched}
use Rattle.nl_field.specs.FileContent.{overlaid}

-- the first so many elements, or all of a list
pub cut : {X : Type 0} (n k : ℕ) (xs : List X) → k ≡ min n (length xs) → take k xs ≡ take n xs
cut n k xs e = by (cases_lt n (length xs))
  where
    by : (n < length xs) ⊎ (length xs ≤ n) → take k xs ≡ take n xs
    by (inl low) = ap (λ (m : ℕ). take m xs) (let s : k ≡ n = omega (arith, e, low) in s)
    by (inr high) = take_all k xs (omega (arith, e, high)) ∙ sym (take_all n xs high)

-- the part of the bytes that lies in the page
abbrev pub piece : ℕ → ℕ → List ℕ → List ℕ
piece index from bytes = take (4096 - (from - 4096 * index)) (drop (4096 * index - from) bytes)

pub laid : (page new bytes : List ℕ) (index from b e : ℕ) → b ≡ from - 4096 * index → new ≡ piece index from bytes → e ≡ length new → put_mid b e page new ≡ overlaid page index from bytes
unfolding overlaid
laid page new bytes index from b e at is len =
    (λ i. put_mid (at i) (len i) page new) ∙ ap (λ (xs : List ℕ). put_mid (from - 4096 * index) (length xs) page xs) is
    ∙ ap (λ (xs : List ℕ). take (from - 4096 * index) page ++ (piece index from bytes ++ xs)) (drop-drop (length (piece index from bytes)) (from - 4096 * index) page)
    ∙ sym (append_assoc (take (from - 4096 * index) page) (piece index from bytes) (drop (from - 4096 * index + length (piece index from bytes)) page))

-- where some of them do
pub in-page : (index from len : ℕ) → is_touched from len index ≡ true → (4096 * index < from + len) × (from < 4096 * index + 4096) × (0 < len)
in-page index from len h =
    let p = and_parts _ _ h in
    let q = and_parts _ _ p.0 in
    (ltb-true (4096 * index) (from + len) q.1, ltb-true from (4096 * index + 4096) p.1, ltb-true 0 len q.0)

pub piece-write : (index from b s k : ℕ) (bytes new : List ℕ) → b ≡ from - 4096 * index → s ≡ 4096 * index - from → k ≡ min (length bytes - s) (4096 - b) → new ≡ slice_range bytes s (s + k) → new ≡ piece index from bytes
piece-write index from b s k bytes new at skip count is =
    is ∙ ap (λ (m : ℕ). take m (drop s bytes)) (let e : s + k - s ≡ k = omega arith in e)
    ∙ cut (4096 - b) k (drop s bytes) (let d = length-drop s bytes in omega (arith, d, count))
    ∙ (λ i. take (4096 - at i) (drop (skip i) bytes))

pub piece-fill : (index from b s k len byte : ℕ) (new : List ℕ) → b ≡ from - 4096 * index → s ≡ 4096 * index - from → k ≡ min (len - s) (4096 - b) → new ≡ replicate k byte → new ≡ piece index from (replicate len byte)
piece-fill index from b s k len byte new at skip count is =
    is ∙ sym (take-replicate k (len - s) byte (omega (arith, count)))
    ∙ cut (4096 - b) k (replicate (len - s) byte) (let d = length-replicate (len - s) byte in omega (arith, d, count))
    ∙ ap (λ (xs : List ℕ). take (4096 - b) xs) (sym (drop-replicate s len byte))
    ∙ (λ i. take (4096 - at i) (drop (skip i) (replicate len byte)))
