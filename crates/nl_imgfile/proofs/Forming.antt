-- What a forming does to the bytes of a store.
use Rattle.std.proofs.Common.{◌≡◌, ◌⊎◌, inl, inr, ℕ, zero, suc, ◌+◌, ◌*◌, ◌-◌, ◌/◌, ◌%◌, ◌<◌, ◌≤◌, nat_le, Bool, true, false, ◌&&◌, List, length, max, slice_index, drop, replicate, refl, sym, ◌∙◌, ap, subst, IsTrue, arith, length-append}
use Rattle.std.proofs.Math.Nat.{max-eq_left}
use Rattle.std.proofs.lemmas.Bool.{cases_lt, lt-ltb, le-ltb}
use Rattle.std.proofs.lemmas.List.{get_or_past, get_or-drop, get_or-append_right, get_or-replicate, length-replicate}
use Rattle.std.specs.Int.{byte_at}
use Rattle.byteorder.specs.Endian.{little_from}
use Rattle.nl_field.specs.Bytes.{zeros}
use Rattle.nl_field.specs.Numbers.{is_legal}
use Rattle.nl_field.specs.Spelling.{u32_bytes, u32_at}
use Rattle.nl_nand.specs.declared.geometry.Geometry.{Geometry}
use Rattle.nl_store.specs.Store.{window, BytesPut, FrontPut, PutLeaves, Resized}
use Rattle.nl_store.specs.declared.answers.StoreAnswer.{StoreAnswer}
use Rattle.nl_store.specs.declared.answers.StoreAnswer.TheVariants as store
use Rattle.nl_imgfile.specs.Layout.{position, file_length}
use Rattle.nl_imgfile.specs.Header.{header_head, header_bytes, header_numbers, geometry_of, unformed}
use Rattle.nl_imgfile.specs.DiskImage.{geometry_in_store, AllErased, FormCut, StoreIsFormed}
use Rattle.nl_field.proofs.Bounds.{legal_parts}
use Rattle.nl_imgfile.proofs.HeaderBytes.{length-header_head}
use Rattle.nl_imgfile.proofs.DiskPages.{window_byte, window_is, erased_here}

-- nothing is there
pub emptied : (old b : List ℕ) → Resized 0 old b → geometry_in_store b ≡ unformed
unfolding geometry_in_store
emptied old b to = let short : length b < 4096 = omega (arith, to.length_is) in rw (lt-ltb (length b) 4096 short) refl

short_store : (b : List ℕ) → length b < 4096 → geometry_in_store b ≡ unformed
unfolding geometry_in_store
short_store b short = rw (lt-ltb (length b) 4096 short) refl

-- each byte is 0
abbrev pub AllZero : List ℕ → Type 0
AllZero b = (i : ℕ) → slice_index b i ≡ 0

pub zeroed : (size : ℕ) (old b : List ℕ) → length old ≡ 0 → Resized size old b → AllZero b
zeroed size old b empty to i = elim (cases_lt i size) [
  | inl within ↦ to.front i within ∙ get_or_past old i 0 (omega (arith, empty))
  | inr past ↦ get_or_past b i 0 (omega (arith, past, to.length_is))
]

pub zero_pages : (b : List ℕ) → ((i : ℕ) → 4096 ≤ i → slice_index b i ≡ 0) → AllErased b
zero_pages b each p = erased_here b p (λ k less. each (position p + k) (omega arith))

-- a number is 0 where its bytes are
number_zero : (i n : ℕ) (w : List ℕ) → ((k : ℕ) → k < n → slice_index w (i + k) ≡ 0) → little_from i n w ≡ 0
number_zero i zero w each = refl
number_zero i (suc n) w each =
    let here : i + 0 ≡ i = omega arith in
    let first : slice_index w i ≡ 0 = ap (slice_index w) (sym here) ∙ each 0 (omega arith) in
    let rest : little_from (suc i) n w ≡ 0 = number_zero (suc i) n w (λ k less. let same : suc i + k ≡ i + suc k = omega arith in ap (slice_index w) same ∙ each (suc k) (omega arith)) in
    omega (arith, first, rest)

u32_zero : (w : List ℕ) (at : ℕ) → ((k : ℕ) → k < 4 → slice_index w (at + k) ≡ 0) → u32_at w at ≡ 0
unfolding u32_at
u32_zero w at each = number_zero 0 4 (drop at w) (λ k less. let plain_place : at + (0 + k) ≡ at + k = omega arith in get_or-drop at w (0 + k) 0 ∙ ap (slice_index w) plain_place ∙ each k less)

no_third : (x y z : Bool) → x && y && false && true && z ≡ false
no_third true true z = refl
no_third true false z = refl
no_third false true z = refl
no_third false false z = refl

no_pages : (blocks : ℕ) → is_legal blocks 0 ≡ false
no_pages blocks = no_third (nat_le 32 blocks) (nat_le blocks 4096) (nat_le (blocks * 0) 262144)

-- no pages of a block are no header
unformed_header : (w : List ℕ) → ((k : ℕ) → k < 4 → slice_index w (16 + k) ≡ 0) → geometry_of w ≡ unformed
unfolding geometry_of header_numbers
unformed_header w each = rw (u32_zero w 16 each, no_pages (u32_at w 12)) refl

pub unformed_here : (b : List ℕ) → ((k : ℕ) → k < 4 → slice_index b (16 + k) ≡ 0) → geometry_in_store b ≡ unformed
unfolding geometry_in_store
unformed_here b each = elim (cases_lt (length b) 4096) [
  | inl short ↦ rw (lt-ltb (length b) 4096 short) refl
  | inr long ↦ rw (le-ltb (length b) 4096 long) (unformed_header (window 0 4096 b) (λ k less. let plain : 0 + (16 + k) ≡ 16 + k = omega arith in window_byte 0 4096 b (16 + k) (omega arith) ∙ ap (slice_index b) plain ∙ each k less))
]

pub zero_unformed : (b : List ℕ) → AllZero b → geometry_in_store b ≡ unformed
zero_unformed b each = unformed_here b (λ k less. each (16 + k))

-- a kill within the two changes of the length
pub emptied_cut : (g : Geometry) (old b : List ℕ) → Resized 0 old b → FormCut g b
emptied_cut g old b to = (zero_pages b (λ i past. get_or_past b i 0 (omega (arith, to.length_is))), inl (emptied old b to))

pub zeroed_cut : (g : Geometry) (size : ℕ) (old b : List ℕ) → length old ≡ 0 → Resized size old b → FormCut g b
zeroed_cut g size old b empty to = (zero_pages b (λ i past. zeroed size old b empty to i), inl (zero_unformed b (zeroed size old b empty to)))

formed_here : (h b : List ℕ) (g : Geometry) → length h ≡ 4096 → 4096 ≤ length b → geometry_of h ≡ g → ((k : ℕ) → k < 4096 → slice_index b (0 + k) ≡ slice_index h k) → geometry_in_store b ≡ g
unfolding geometry_in_store
formed_here h b g size long back each = rw (le-ltb (length b) 4096 long) (ap geometry_of (window_is 0 4096 h b size each) ∙ back)

length-header : (g : Geometry) → length (header_bytes g) ≡ 4096
unfolding header_bytes zeros
length-header g = omega (arith, length-append (header_head g) (replicate 4076 0), length-header_head g, length-replicate {A = ℕ} 4076 0)

-- the bytes of a header from its pages on
low_pages : (g : Geometry) → slice_index (header_bytes g) 16 ≡ byte_at 0 g.pages
unfolding header_bytes header_head u32_bytes
low_pages g = refl

byte_17 : (g : Geometry) → slice_index (header_bytes g) 17 ≡ byte_at 1 g.pages
unfolding header_bytes header_head u32_bytes
byte_17 g = refl

byte_18 : (g : Geometry) → slice_index (header_bytes g) 18 ≡ byte_at 2 g.pages
unfolding header_bytes header_head u32_bytes
byte_18 g = refl

byte_19 : (g : Geometry) → slice_index (header_bytes g) 19 ≡ byte_at 3 g.pages
unfolding header_bytes header_head u32_bytes
byte_19 g = refl

behind_head : (g : Geometry) (k : ℕ) → 20 ≤ k → k < 4096 → slice_index (header_bytes g) k ≡ 0
unfolding header_bytes zeros
behind_head g k from below = get_or-append_right (header_head g) (replicate 4076 0) 20 k 0 (length-header_head g) from ∙ get_or-replicate 4076 (k - 20) 0 0 (omega (arith, from, below))

-- the high bytes of the pages are 0
high_18 : (n : ℕ) → n ≤ 256 → n / 65536 % 256 ≡ 0
high_18 n few = omega arith

high_19 : (n : ℕ) → n ≤ 256 → n / 16777216 % 256 ≡ 0
high_19 n few = omega arith

high_17 : (n : ℕ) → n < 256 → n / 256 % 256 ≡ 0
high_17 n few = omega arith

low_16 : (n : ℕ) → n ≤ 256 → 256 ≤ n → n % 256 ≡ 0
low_16 n few many = omega arith

zero_from_18 : (g : Geometry) → g.pages ≤ 256 → (k : ℕ) → 18 ≤ k → k < 4096 → slice_index (header_bytes g) k ≡ 0
zero_from_18 g few k from below = elim (cases_lt k 20) [
  | inr behind ↦ behind_head g k behind below
  | inl near ↦ elim (cases_lt k 19) [
    | inl first ↦ let is : k ≡ 18 = omega (arith, from, first) in ap (slice_index (header_bytes g)) is ∙ byte_18 g ∙ high_18 g.pages few
    | inr second ↦ let is : k ≡ 19 = omega (arith, near, second) in ap (slice_index (header_bytes g)) is ∙ byte_19 g ∙ high_19 g.pages few
  ]
]

zero_from_17 : (g : Geometry) → g.pages < 256 → (k : ℕ) → 17 ≤ k → k < 4096 → slice_index (header_bytes g) k ≡ 0
zero_from_17 g few k from below = elim (cases_lt k 18) [
  | inl first ↦ let is : k ≡ 17 = omega (arith, from, first) in ap (slice_index (header_bytes g)) is ∙ byte_17 g ∙ high_17 g.pages few
  | inr behind ↦ zero_from_18 g (omega (arith, few)) k behind below
]

-- a front of the header over zeros
module _ (g : Geometry) (n : ℕ) (zero_bytes b : List ℕ) (few : g.pages ≤ 256) (back : geometry_of (header_bytes g) ≡ g) (nothing : AllZero zero_bytes) (put : BytesPut 0 n (header_bytes g) zero_bytes b) where
  behind : (i : ℕ) → n ≤ i → slice_index b i ≡ 0
  behind i past = put.outside i (inr (omega (arith, past))) ∙ nothing i

  pub still_blank : n ≤ 4096 → AllErased b
  still_blank within = zero_pages b (λ i past. behind i (omega (arith, past, within)))

  written_whole : 4096 ≤ length b → ((k : ℕ) → n ≤ k → k < 4096 → slice_index (header_bytes g) k ≡ 0) → geometry_in_store b ≡ g
  written_whole long rest = formed_here (header_bytes g) b g (length-header g) long back each
    where
      each : (k : ℕ) → k < 4096 → slice_index b (0 + k) ≡ slice_index (header_bytes g) k
      each k less = elim (cases_lt k n) [
        | inl first ↦ put.inside k first
        | inr past ↦ let plain : 0 + k ≡ k = omega arith in ap (slice_index b) plain ∙ behind k past ∙ sym (rest k past less)
      ]

  short_header : n ≤ 16 → geometry_in_store b ≡ unformed
  short_header few_bytes = unformed_here b (λ k less. behind (16 + k) (omega (arith, few_bytes)))

  one_byte_of_pages : n ≡ 17 → 256 ≤ g.pages → geometry_in_store b ≡ unformed
  one_byte_of_pages is many = unformed_here b each
    where
      each : (k : ℕ) → k < 4 → slice_index b (16 + k) ≡ 0
      each zero less = let plain : 16 + 0 ≡ 0 + 16 = omega arith in ap (slice_index b) plain ∙ put.inside 16 (omega (arith, is)) ∙ low_pages g ∙ low_16 g.pages few many
      each (suc k) less = behind (16 + suc k) (omega (arith, is))

  header_said : n ≤ 4096 → (geometry_in_store b ≡ unformed) ⊎ (geometry_in_store b ≡ g)
  header_said within = elim (cases_lt (length b) 4096) [
    | inl short ↦ inl (short_store b short)
    | inr long ↦ elim (cases_lt n 17) [
      | inl few_bytes ↦ inl (short_header (omega (arith, few_bytes)))
      | inr more ↦ elim (cases_lt n 18) [
        | inr enough ↦ inr (written_whole long (λ k past less. zero_from_18 g few k (omega (arith, enough, past)) less))
        | inl one ↦ elim (cases_lt g.pages 256) [
          | inl small ↦ inr (written_whole long (λ k past less. zero_from_17 g small k (omega (arith, more, past)) less))
          | inr many ↦ inl (one_byte_of_pages (omega (arith, more, one)) many)
        ]
      ]
    ]
  ]

  pub header_cut : n ≤ 4096 → FormCut g b
  header_cut within = (still_blank within, header_said within)

  pub header_done : n ≡ 4096 → length zero_bytes ≡ file_length g.blocks g.pages → StoreIsFormed g b
  header_done is whole =
      let long : 4096 ≤ length zero_bytes = omega (arith, whole) in
      let size : length b ≡ max (length zero_bytes) (0 + n) = put.length_is (omega (arith, is)) in
      record {
        header = written_whole (omega (arith, long, put.no_shorter)) (λ k past less. absurd (omega (arith, is, past, less)));
        blank = still_blank (omega (arith, is));
        zeros = λ i past. behind i (omega (arith, is, past));
        length_is = size ∙ max-eq_left {n = length zero_bytes} {m = 0 + n} (omega (arith, long, is)) ∙ whole;
      }

-- the same of the calls
module _ (g : Geometry) (h zero_bytes b : List ℕ) (few : g.pages ≤ 256) (back : geometry_of (header_bytes g) ≡ g) (is : h ≡ header_bytes g) (nothing : AllZero zero_bytes) where
  count : length h ≡ 4096
  count = ap length is ∙ length-header g

  pub put_cut : FrontPut 0 h zero_bytes b → FormCut g b
  put_cut cut = header_cut g cut.0 zero_bytes b few back nothing (subst (λ (f : List ℕ). BytesPut 0 cut.0 f zero_bytes b) is cut.2) (omega (arith, cut.1, count))

  pub put_done : length zero_bytes ≡ file_length g.blocks g.pages → BytesPut 0 (length h) h zero_bytes b → StoreIsFormed g b
  put_done whole put = header_done g (length h) zero_bytes b few back nothing (subst (λ (f : List ℕ). BytesPut 0 (length h) f zero_bytes b) is put) count whole

pub put_formed : (g : Geometry) (h zero_bytes b : List ℕ) (answer : StoreAnswer) → g.pages ≤ 256 → geometry_of (header_bytes g) ≡ g → h ≡ header_bytes g → AllZero zero_bytes → length zero_bytes ≡ file_length g.blocks g.pages → answer ≡ store.Done → PutLeaves 0 h zero_bytes answer b → StoreIsFormed g b
put_formed g h zero_bytes b store.Done few back is nothing whole done put = put_done g h zero_bytes b few back is nothing whole put
put_formed g h zero_bytes b store.Failed few back is nothing whole done put = absurd (cc done)

pub few_pages : (g : Geometry) → IsTrue (is_legal g.blocks g.pages) → g.pages ≤ 256
few_pages g legal = (legal_parts g.blocks g.pages legal).most_pages
