-- How pieces make the text of a file.
use Rattle.std.proofs.Common.{◌≡◌, ◌<◌, ◌≤◌, ℕ, zero, suc, ◌+◌, ◌-◌, min, List, [], ◌∷◌, ◌++◌, length, map, inl, inr, refl, sym, ap, subst, ◌∙◌, Option, Some, None, arith}
use Rattle.std.specs.List.{range_with_len}
use Rattle.std.specs.Prelude.{◌≢◌, ◌⊎◌}
use Rattle.std.proofs.lemmas.List.FromFn.{length-map-range_with_len}
use Rattle.nl_field.specs.FileContent.{FileContent, byte_of, bytes_read}
use Rattle.nl_field.specs.Numbers.{max_file_size}
use Rattle.nl_tree.specs.Tree.{Node, Tree, file, node_at}
use Rattle.nl_cmd_view.specs.Getting.{IsTextOfFile, refusal_of_read}
use Rattle.nl_cmd_view.specs.Pieces.{BeginsTextOfFile, IsPieceOfFile, piece_length}

-- ---- bytes of a content

pub ranges : (f : ℕ → ℕ) (a m k : ℕ) → map f (range_with_len a (m + k)) ≡ map f (range_with_len a m) ++ map f (range_with_len (a + m) k)
ranges f a zero k = λ i. map f (range_with_len (let e : a ≡ a + 0 = omega arith in e i) (let e : 0 + k ≡ k = omega arith in e i))
ranges f a (suc m) k =
    ap (λ (n : ℕ). map f (range_with_len a n)) (let e : suc m + k ≡ suc (m + k) = omega arith in e)
    ∙ λ i. f a ∷ (ranges f (a + 1) m k ∙ ap (λ (x : ℕ). map f (range_with_len (a + 1) m) ++ map f (range_with_len x k)) (let e : a + 1 + m ≡ a + suc m = omega arith in e)) i

module _ (content : FileContent) where
  -- so many bytes from an offset on
  abbrev pub bytes_at : ℕ → ℕ → List ℕ
  bytes_at at n = map (byte_of content) (range_with_len at n)

  pub read_is : (at n : ℕ) → bytes_read content at n ≡ bytes_at at (min n (content.size - at))
  unfolding bytes_read
  read_is at n = refl

  pub whole_is : bytes_read content 0 content.size ≡ bytes_at 0 content.size
  whole_is = read_is 0 content.size ∙ ap (bytes_at 0) (let e : min content.size (content.size - 0) ≡ content.size = omega arith in e)

  -- bytes, and those behind them
  pub joined : (at n : ℕ) → bytes_at 0 at ++ bytes_at at n ≡ bytes_at 0 (at + n)
  joined at n = sym (ranges (byte_of content) 0 at n ∙ ap (λ (x : ℕ). bytes_at 0 at ++ bytes_at x n) (let e : 0 + at ≡ at = omega arith in e))

-- ---- what was printed so far

-- the text is the first bytes of the file
pub record IsFront (tree : Tree) (path : List (List ℕ)) (at : ℕ) (text : List ℕ) : Type 0 where
  pub may_read : refusal_of_read tree path ≡ None
  pub content : FileContent
  pub is_file : node_at tree path ≡ Some (file content)
  pub within : at ≤ content.size
  pub text_is : text ≡ bytes_at content 0 at

-- before the first piece nothing is known of the path
pub record SoFar (tree : Tree) (path : List (List ℕ)) (at : ℕ) (text : List ℕ) : Type 0 where
  pub none : at ≡ 0 → text ≡ []
  pub some : 0 < at → IsFront tree path at text

pub at_first : (tree : Tree) (path : List (List ℕ)) → SoFar tree path 0 []
at_first tree path = record { none = λ e. refl; some = λ low. absurd (omega (arith, low)) }

same_content : (c d : FileContent) → (let x : Option Node = Some (file c) in x) ≡ Some (file d) → c ≡ d
same_content c d e = cc e

module _ (tree : Tree) (path : List (List ℕ)) (at : ℕ) (text piece : List ℕ) (so_far : SoFar tree path at text) where
  -- the text before a piece of a file
  pub before : IsPieceOfFile tree path at piece → IsFront tree path at text
  before p = by at refl
    where
      by : (n : ℕ) → at ≡ n → IsFront tree path at text
      by zero is = record {
        may_read = p.may_read;
        content = p.content;
        is_file = p.is_file;
        within = omega (arith, is);
        text_is = so_far.none is ∙ ap (bytes_at p.content 0) (sym is);
      }
      by (suc n) is = so_far.some (omega (arith, is))

  -- the file of the text and that of the piece are one
  piece_of : (p : IsPieceOfFile tree path at piece) → piece ≡ bytes_at (before p).content at (min piece_length ((before p).content.size - at))
  piece_of p =
      let same = same_content p.content (before p).content (sym p.is_file ∙ (before p).is_file) in
      p.piece_is ∙ ap (λ (c : FileContent). bytes_read c at piece_length) same ∙ read_is (before p).content at piece_length

  length_of : (p : IsPieceOfFile tree path at piece) → length piece ≡ min piece_length ((before p).content.size - at)
  length_of p = ap (λ (bytes : List ℕ). length bytes) (piece_of p) ∙ length-map-range_with_len (byte_of (before p).content) at (min piece_length ((before p).content.size - at))

  together : (p : IsPieceOfFile tree path at piece) → text ++ piece ≡ bytes_at (before p).content 0 (at + length piece)
  together p =
      let c = (before p).content in
      (λ i. (before p).text_is i ++ (piece_of p ∙ ap (bytes_at c at) (sym (length_of p))) i) ∙ joined c at (length piece)

  -- behind a piece
  pub behind : (p : IsPieceOfFile tree path at piece) → IsFront tree path (at + length piece) (text ++ piece)
  behind p =
      let f = before p in
      let fits = length_of p in
      let low = f.within in
      record {
        may_read = f.may_read;
        content = f.content;
        is_file = f.is_file;
        within = omega (arith, fits, low);
        text_is = together p;
      }

  pub so_on : IsPieceOfFile tree path at piece → length piece ≡ piece_length → SoFar tree path (at + piece_length) (text ++ piece)
  so_on p full = record {
    none = λ e. absurd (omega (arith, e));
    some = λ low. subst (λ (n : ℕ). IsFront tree path (at + n) (text ++ piece)) full (behind p);
  }

  -- a piece that is no full one is the last
  pub last : IsPieceOfFile tree path at piece → length piece < piece_length → IsTextOfFile tree path (text ++ piece)
  last p short =
      let f = before p in
      let fits = length_of p in
      let low = f.within in
      let all : at + length piece ≡ f.content.size = omega (arith, fits, low, short) in
      record {
        may_read = f.may_read;
        content = f.content;
        is_file = f.is_file;
        text_is = together p ∙ ap (bytes_at f.content 0) all ∙ sym (whole_is f.content);
      }

-- the front of a file is a beginning of its text
pub begins : (tree : Tree) (path : List (List ℕ)) (at : ℕ) (text : List ℕ) → IsFront tree path at text → BeginsTextOfFile tree path text
begins tree path at text f =
    let c = f.content in
    let low = f.within in (
      bytes_at c at (c.size - at),
      record {
        may_read = f.may_read;
        content = c;
        is_file = f.is_file;
        text_is = ap (λ (t : List ℕ). t ++ bytes_at c at (c.size - at)) f.text_is ∙ joined c at (c.size - at) ∙ ap (bytes_at c 0) (let e : at + (c.size - at) ≡ c.size = omega (arith, low) in e) ∙ sym (whole_is c);
      },
    )

module _ (tree : Tree) (path : List (List ℕ)) (at : ℕ) (text : List ℕ) (so_far : SoFar tree path at text) where
  pub none_or_begins : (text ≡ []) ⊎ BeginsTextOfFile tree path text
  none_or_begins = by at refl
    where
      by : (n : ℕ) → at ≡ n → (text ≡ []) ⊎ BeginsTextOfFile tree path text
      by zero is = inl (so_far.none is)
      by (suc n) is = inr (begins tree path at text (so_far.some (omega (arith, is))))

  -- what was read before is not refused later
  pub not_later : 0 < at → refusal_of_read tree path ≢ None → ⊥
  not_later low refused = refused (so_far.some low).may_read

  -- no file has as many bytes
  pub not_beyond : ((content : FileContent) → node_at tree path ≡ Some (file content) → content.size ≤ max_file_size) → max_file_size < at → ⊥
  not_beyond fits beyond =
      let f = so_far.some (omega (arith, beyond)) in
      let few = fits f.content f.is_file in
      let low = f.within in
      omega (arith, few, low, beyond)
