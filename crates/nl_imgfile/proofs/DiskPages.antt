-- What the writes of a store do to the pages.
use Rattle.std.proofs.Common.{◌≡◌, ◌⊎◌, inl, inr, ⊎_elim, ℕ, zero, suc, ◌+◌, ◌*◌, ◌-◌, ◌<◌, ◌≤◌, List, [], ◌∷◌, length, take, drop, slice_index, refl, sym, ◌∙◌, ap, subst, arith, length-drop}
use Rattle.std.proofs.lemmas.Bool.{cases_lt, le-ltb}
use Rattle.std.proofs.lemmas.List.{get_or-take, get_or-drop, get_or-replicate, length-take-le, length-replicate}
use Rattle.byteorder.specs.Endian.{little_from}
use Rattle.nl_field.specs.Bytes.{zeros}
use Rattle.nl_field.specs.Page.{Page, PageBytes, erased, uncorrectable, written}
use Rattle.nl_field.specs.Spelling.{u64_bytes, u64_at}
use Rattle.nl_store.specs.Store.{window, BytesPut, FrontPut, PutLeaves, KillLeaves}
use Rattle.nl_store.specs.declared.answers.StoreAnswer.{StoreAnswer}
use Rattle.nl_store.specs.declared.answers.StoreAnswer.TheVariants as store
use Rattle.nl_imgfile.specs.Layout.{position}
use Rattle.nl_imgfile.specs.Header.{geometry_of}
use Rattle.nl_imgfile.specs.PageRecord.{erased_record, written_record, page_in, page_of}
use Rattle.nl_imgfile.specs.DiskImage.{record_at, page_here, geometry_in_store, SameHeader, PagesFilled, PagesCut, PagesLeave, RecordsFilled}

-- windows, byte by byte
pub window_byte : (at n : ℕ) (b : List ℕ) (k : ℕ) → k < n → slice_index (window at n b) k ≡ slice_index b (at + k)
unfolding window
window_byte at zero b k less = absurd (omega arith)
window_byte at (suc n) b zero less = let same : at ≡ at + 0 = omega arith in ap (slice_index b) same
window_byte at (suc n) b (suc k) less = let same : at + 1 + k ≡ at + suc k = omega arith in window_byte (at + 1) n b k (omega arith) ∙ ap (slice_index b) same

pub window_same : (at n : ℕ) (b c : List ℕ) → ((k : ℕ) → k < n → slice_index c (at + k) ≡ slice_index b (at + k)) → window at n c ≡ window at n b
unfolding window
window_same at zero b c same = refl
window_same at (suc n) b c same =
    let here : at + 0 ≡ at = omega arith in
    let first : slice_index c at ≡ slice_index b at = ap (slice_index c) (sym here) ∙ same 0 (omega arith) ∙ ap (slice_index b) here in
    let rest : window (at + 1) n c ≡ window (at + 1) n b =
    window_same (at + 1) n b c (λ k less. let next : at + 1 + k ≡ at + suc k = omega arith in ap (slice_index c) next ∙ same (suc k) (omega arith) ∙ ap (slice_index b) (sym next)) in
    λ i. first i ∷ rest i

pub window_is : (at n : ℕ) (r c : List ℕ) → length r ≡ n → ((k : ℕ) → k < n → slice_index c (at + k) ≡ slice_index r k) → window at n c ≡ r
unfolding window
window_is at zero [] c size same = refl
window_is at zero (x ∷ r) c size same = absurd (omega (arith, size))
window_is at (suc n) [] c size same = absurd (omega (arith, size))
window_is at (suc n) (x ∷ r) c size same =
    let here : at + 0 ≡ at = omega arith in
    let first : slice_index c at ≡ x = ap (slice_index c) (sym here) ∙ same 0 (omega arith) in
    let rest : window (at + 1) n c ≡ r =
    window_is (at + 1) n r c (omega (arith, size)) (λ k less. let next : at + 1 + k ≡ at + suc k = omega arith in ap (slice_index c) next ∙ same (suc k) (omega arith)) in
    λ i. first i ∷ rest i

-- a number is 0 where its bytes are
bytes_zero : (i n : ℕ) (w : List ℕ) → little_from i n w ≡ 0 → (k : ℕ) → k < n → slice_index w (i + k) ≡ 0
bytes_zero i zero w is k less = absurd (omega arith)
bytes_zero i (suc n) w is zero less = let same : i + 0 ≡ i = omega arith in ap (slice_index w) same ∙ omega (arith, is)
bytes_zero i (suc n) w is (suc k) less = let same : i + suc k ≡ suc i + k = omega arith in ap (slice_index w) same ∙ bytes_zero (suc i) n w (omega (arith, is)) k (omega arith)

number_zero : (i n : ℕ) (w : List ℕ) → ((k : ℕ) → k < n → slice_index w (i + k) ≡ 0) → little_from i n w ≡ 0
number_zero i zero w each = refl
number_zero i (suc n) w each =
    let here : i + 0 ≡ i = omega arith in
    let first : slice_index w i ≡ 0 = ap (slice_index w) (sym here) ∙ each 0 (omega arith) in
    let rest : little_from (suc i) n w ≡ 0 = number_zero (suc i) n w (λ k less. let same : suc i + k ≡ i + suc k = omega arith in ap (slice_index w) same ∙ each (suc k) (omega arith)) in
    omega (arith, first, rest)

state_zero : (w : List ℕ) → u64_at w 0 ≡ 0 → (k : ℕ) → k < 8 → slice_index w k ≡ 0
unfolding u64_at
state_zero w is k less = let same : k ≡ 0 + k = omega arith in ap (slice_index w) same ∙ bytes_zero 0 8 w is k less

zero_state : (w : List ℕ) → ((k : ℕ) → k < 8 → slice_index w k ≡ 0) → u64_at w 0 ≡ 0
unfolding u64_at
zero_state w each = number_zero 0 8 w (λ k less. let same : 0 + k ≡ k = omega arith in ap (slice_index w) same ∙ each k less)

first_state : (w : List ℕ) → slice_index w 0 ≡ 0 → u64_at w 0 ≡ 256 * little_from 1 7 w
unfolding u64_at
first_state w first = omega (arith, first)

-- pages by their states
erased_in : (n : ℕ) (bytes : PageBytes) → page_in n bytes ≡ erased → n ≡ 0
erased_in zero bytes is = refl
erased_in (suc zero) bytes is = absurd (cc is)
erased_in (suc (suc n)) bytes is = absurd (cc is)

lost_in : (n q : ℕ) (bytes : PageBytes) → n ≡ 256 * q → (page_in n bytes ≡ erased) ⊎ (page_in n bytes ≡ uncorrectable)
lost_in zero q bytes is = inl refl
lost_in (suc zero) q bytes is = absurd (omega (arith, is))
lost_in (suc (suc n)) q bytes is = inr refl

of_erased : (w : List ℕ) → page_of w ≡ erased → u64_at w 0 ≡ 0
unfolding page_of
of_erased w is = erased_in (u64_at w 0) _ is

erased_of : (w : List ℕ) → u64_at w 0 ≡ 0 → page_of w ≡ erased
unfolding page_of
erased_of w is = ap (λ n. page_in n (record { main = take 4096 (drop 8 w); spare = take 64 (drop 4104 w) })) is

lost_of : (w : List ℕ) → slice_index w 0 ≡ 0 → (page_of w ≡ erased) ⊎ (page_of w ≡ uncorrectable)
unfolding page_of
lost_of w first = lost_in (u64_at w 0) (little_from 1 7 w) _ (first_state w first)

pub here_erased : (b : List ℕ) (p : ℕ) → page_here b p ≡ erased → (k : ℕ) → k < 8 → slice_index b (position p + k) ≡ 0
unfolding page_here
here_erased b p is k less = sym (window_byte (position p) 4168 b k (omega arith)) ∙ state_zero (window (position p) 4168 b) (of_erased (window (position p) 4168 b) is) k less

pub erased_here : (b : List ℕ) (p : ℕ) → ((k : ℕ) → k < 8 → slice_index b (position p + k) ≡ 0) → page_here b p ≡ erased
unfolding page_here
erased_here b p each = erased_of (window (position p) 4168 b) (zero_state (window (position p) 4168 b) (λ k less. window_byte (position p) 4168 b k (omega arith) ∙ each k less))

lost_here : (b : List ℕ) (p : ℕ) → slice_index b (position p) ≡ 0 → (page_here b p ≡ erased) ⊎ (page_here b p ≡ uncorrectable)
unfolding page_here
lost_here b p first =
    let same : position p + 0 ≡ position p = omega arith in
    lost_of (window (position p) 4168 b) (window_byte (position p) 4168 b 0 (omega arith) ∙ ap (slice_index b) same ∙ first)

record_here : (b r : List ℕ) (p : ℕ) → length r ≡ 4168 → ((k : ℕ) → k < 4168 → slice_index b (position p + k) ≡ slice_index r k) → page_here b p ≡ page_of r
unfolding page_here
record_here b r p size each = ap page_of (window_is (position p) 4168 r b size each)

same_here : (b c : List ℕ) (p : ℕ) → ((k : ℕ) → k < 4168 → slice_index c (position p + k) ≡ slice_index b (position p + k)) → page_here c p ≡ page_here b p
unfolding page_here
same_here b c p each = ap page_of (window_same (position p) 4168 b c each)

-- a write within the record of one page leaves the others
other_here : (at n : ℕ) (from old new : List ℕ) (p q : ℕ) → BytesPut at n from old new → position p ≤ at → at + n ≤ position p + 4168 → (q < p) ⊎ (p + 1 ≤ q) → page_here new q ≡ page_here old q
other_here at n from old new p q put low high (inl below) = same_here old new q (λ k less. put.outside (position q + k) (inl (omega arith)))
other_here at n from old new p q put low high (inr above) = same_here old new q (λ k less. put.outside (position q + k) (inr (omega arith)))

nothing_here : (at : ℕ) (from old new : List ℕ) (p : ℕ) → BytesPut at 0 from old new → page_here new p ≡ page_here old p
nothing_here at from old new p put = same_here old new p (λ k less. put.outside (position p + k) (⊎_elim (λ below. inl below) (λ above. inr (omega (arith, above))) (cases_lt (position p + k) at)))

-- a write behind the header leaves it
header_kept : (at n : ℕ) (from old new : List ℕ) → 4096 ≤ at → BytesPut at n from old new → SameHeader old new
unfolding geometry_in_store
header_kept at n from old new behind put = record {
  longer = put.no_shorter;
  same = λ long.
      let longer : 4096 ≤ length new = omega (arith, long, put.no_shorter) in
      let read : window 0 4096 new ≡ window 0 4096 old = window_same 0 4096 old new (λ k less. put.outside (0 + k) (inl (omega (arith, less, behind)))) in
      rw (le-ltb (length new) 4096 longer, le-ltb (length old) 4096 long) (ap geometry_of read);
}

headers : {a b c : List ℕ} → SameHeader a b → SameHeader b c → SameHeader a c
headers {a} {b} {c} first second = record {
  longer = omega (arith, first.longer, second.longer);
  same = λ long. let long_b : 4096 ≤ length b = omega (arith, long, first.longer) in second.same long_b ∙ first.same long;
}

three : (q p : ℕ) → (q ≡ p) ⊎ ((q < p) ⊎ (p + 1 ≤ q))
three q p = ⊎_elim (λ below. inr (inl below)) (λ from. ⊎_elim (λ same. inl (omega (arith, from, same))) (λ above. inr (inr above)) (cases_lt q (p + 1))) (cases_lt q p)

-- all pages are as they were, but for one
one_cut : (p : ℕ) (value : Page) (old new : List ℕ) → ((q : ℕ) → (q < p) ⊎ (p + 1 ≤ q) → page_here new q ≡ page_here old q)
    → (page_here new p ≡ page_here old p) ⊎ ((page_here new p ≡ value) ⊎ (page_here new p ≡ uncorrectable)) → SameHeader old new → PagesCut p (p + 1) value old new
one_cut p value old new others this header = record { header = header; each = λ q. ⊎_elim (λ same. here q same this) (λ apart. inl (others q apart)) (three q p) }
  where
    here : (q : ℕ) → q ≡ p → (page_here new p ≡ page_here old p) ⊎ ((page_here new p ≡ value) ⊎ (page_here new p ≡ uncorrectable))
        → (page_here new q ≡ page_here old q) ⊎ ((p ≤ q) × (q < p + 1) × ((page_here new q ≡ value) ⊎ (page_here new q ≡ uncorrectable)))
    here q same (inl stays) = inl (subst (λ (x : ℕ). page_here new x ≡ page_here old x) (sym same) stays)
    here q same (inr turns) = inr (omega (arith, same), omega (arith, same), subst (λ (x : ℕ). (page_here new x ≡ value) ⊎ (page_here new x ≡ uncorrectable)) (sym same) turns)

one_filled : (p : ℕ) (value : Page) (old new : List ℕ) → ((q : ℕ) → (q < p) ⊎ (p + 1 ≤ q) → page_here new q ≡ page_here old q) → page_here new p ≡ value → SameHeader old new → PagesFilled p (p + 1) value old new
one_filled p value old new others this header = record { header = header; inside = λ q low high. let same : q ≡ p = omega (arith, low, high) in ap (page_here new) same ∙ this; outside = others }

-- an erase of one page
erased_byte : (k : ℕ) → k < 4168 → slice_index erased_record k ≡ 0
unfolding erased_record zeros
erased_byte k less = get_or-replicate 4168 k 0 0 less

pub erase_cut : (p n : ℕ) (old new : List ℕ) → n ≤ 4168 → BytesPut (position p) n erased_record old new → PagesCut p (p + 1) erased old new
erase_cut p zero old new within put = one_cut p erased old new (λ q apart. nothing_here (position p) erased_record old new q put) (inl (nothing_here (position p) erased_record old new p put)) (header_kept (position p) 0 erased_record old new (omega arith) put)
erase_cut p (suc n) old new within put =
    let same : position p ≡ position p + 0 = omega arith in
    let first : slice_index new (position p) ≡ 0 = ap (slice_index new) same ∙ put.inside 0 (omega arith) ∙ erased_byte 0 (omega arith) in
    one_cut p erased old new (λ q apart. other_here (position p) (suc n) erased_record old new p q put (omega arith) (omega arith) apart) (inr (lost_here new p first)) (header_kept (position p) (suc n) erased_record old new (omega arith) put)

pub erase_filled : (p : ℕ) (old new : List ℕ) → BytesPut (position p) 4168 erased_record old new → PagesFilled p (p + 1) erased old new
erase_filled p old new put =
    one_filled p erased old new (λ q apart. other_here (position p) 4168 erased_record old new p q put (omega arith) (omega arith) apart)
    (erased_here new p (λ k less. put.inside k (omega arith) ∙ erased_byte k (omega arith))) (header_kept (position p) 4168 erased_record old new (omega arith) put)

written_state : (page : PageBytes) (k : ℕ) → 0 < k → k < 8 → slice_index (written_record page) k ≡ 0
unfolding written_record u64_bytes
written_state page zero some less = absurd (omega arith)
written_state page (suc zero) some less = refl
written_state page (suc (suc zero)) some less = refl
written_state page (suc (suc (suc zero))) some less = refl
written_state page (suc (suc (suc (suc zero)))) some less = refl
written_state page (suc (suc (suc (suc (suc zero))))) some less = refl
written_state page (suc (suc (suc (suc (suc (suc zero)))))) some less = refl
written_state page (suc (suc (suc (suc (suc (suc (suc zero))))))) some less = refl
written_state page (suc (suc (suc (suc (suc (suc (suc (suc k)))))))) some less = absurd (omega arith)

-- a program of one page: the main and spare bytes first
module _ (p : ℕ) (page : PageBytes) (r old : List ℕ) (size : length r ≡ 4168) (is : r ≡ written_record page) (back : page_of r ≡ written page) (blank : page_here old p ≡ erased) where
  rest_same : (n : ℕ) (new : List ℕ) → n ≤ 4160 → BytesPut (position p + 8) n (drop 8 r) old new → page_here new p ≡ erased
  rest_same n new within put = erased_here new p (λ k less. put.outside (position p + k) (inl (omega arith)) ∙ here_erased old p blank k less)

  rest_others : (n : ℕ) (new : List ℕ) → n ≤ 4160 → BytesPut (position p + 8) n (drop 8 r) old new → (q : ℕ) → (q < p) ⊎ (p + 1 ≤ q) → page_here new q ≡ page_here old q
  rest_others n new within put q apart = other_here (position p + 8) n (drop 8 r) old new p q put (omega arith) (omega arith) apart

  pub rest_cut : (n : ℕ) (new : List ℕ) → n ≤ 4160 → BytesPut (position p + 8) n (drop 8 r) old new → PagesCut p (p + 1) (written page) old new
  rest_cut n new within put = one_cut p (written page) old new (rest_others n new within put) (inl (rest_same n new within put ∙ sym blank)) (header_kept (position p + 8) n (drop 8 r) old new (omega arith) put)

  -- and then the state
  module _ (mid : List ℕ) (rest : BytesPut (position p + 8) 4160 (drop 8 r) old mid) where
    both_headers : (n : ℕ) (new : List ℕ) → BytesPut (position p) n (take 8 r) mid new → SameHeader old new
    both_headers n new put = headers (header_kept (position p + 8) 4160 (drop 8 r) old mid (omega arith) rest) (header_kept (position p) n (take 8 r) mid new (omega arith) put)

    state_others : (n : ℕ) (new : List ℕ) → n ≤ 8 → BytesPut (position p) n (take 8 r) mid new → (q : ℕ) → (q < p) ⊎ (p + 1 ≤ q) → page_here new q ≡ page_here old q
    state_others n new within put q apart =
        other_here (position p) n (take 8 r) mid new p q put (omega arith) (omega arith) apart ∙ rest_others 4160 mid (omega arith) rest q apart

    whole : (n : ℕ) (new : List ℕ) → 0 < n → n ≤ 8 → BytesPut (position p) n (take 8 r) mid new → page_here new p ≡ written page
    whole n new some within put = record_here new r p size each ∙ back
      where
        each : (k : ℕ) → k < 4168 → slice_index new (position p + k) ≡ slice_index r k
        each k less = elim (cases_lt k n) [
          | inl first ↦ put.inside k first ∙ get_or-take 8 r k 0 (omega (arith, first, within))
          | inr past ↦ elim (cases_lt k 8) [
            | inl state ↦ put.outside (position p + k) (inr (omega (arith, past))) ∙ rest.outside (position p + k) (inl (omega (arith, state))) ∙ here_erased old p blank k state
                ∙ sym (ap (λ (l : List ℕ). slice_index l k) is ∙ written_state page k (omega (arith, some, past)) state)
            | inr behind ↦
                let place : position p + 8 + (k - 8) ≡ position p + k = omega (arith, behind) in
                let index : 8 + (k - 8) ≡ k = omega (arith, behind) in
                put.outside (position p + k) (inr (omega (arith, past))) ∙ ap (slice_index mid) (sym place) ∙ rest.inside (k - 8) (omega (arith, behind, less)) ∙ get_or-drop 8 r (k - 8) 0 ∙ ap (slice_index r) index
          ]
        ]

    pub state_cut : (n : ℕ) (new : List ℕ) → n ≤ 8 → BytesPut (position p) n (take 8 r) mid new → PagesCut p (p + 1) (written page) old new
    state_cut zero new within put =
        one_cut p (written page) old new (state_others 0 new (omega arith) put) (inl (nothing_here (position p) (take 8 r) mid new p put ∙ rest_same 4160 mid (omega arith) rest ∙ sym blank)) (both_headers 0 new put)
    state_cut (suc n) new within put = one_cut p (written page) old new (state_others (suc n) new within put) (inr (inl (whole (suc n) new (omega arith) within put))) (both_headers (suc n) new put)

    pub state_filled : (new : List ℕ) → BytesPut (position p) 8 (take 8 r) mid new → PagesFilled p (p + 1) (written page) old new
    state_filled new put = one_filled p (written page) old new (state_others 8 new (omega arith) put) (whole 8 new (omega arith) (omega arith) put) (both_headers 8 new put)

  -- the same of the writes as they are called
  pub rest_front : (at : ℕ) (from new : List ℕ) → at ≡ position p → from ≡ drop 8 r → FrontPut (at + 8) from old new → PagesCut p (p + 1) (written page) old new
  rest_front at from new place split cut =
      let placed = subst (λ (a : ℕ). FrontPut (a + 8) from old new) place cut in
      let front = subst (λ (f : List ℕ). FrontPut (position p + 8) f old new) split placed in
      rest_cut front.0 new (omega (arith, front.1, length-drop 8 r, size)) front.2

  rest_whole : (at : ℕ) (from new : List ℕ) → at ≡ position p → from ≡ drop 8 r → BytesPut (at + 8) (length from) from old new → BytesPut (position p + 8) 4160 (drop 8 r) old new
  rest_whole at from new place split put =
      let count : length from ≡ 4160 = ap length split ∙ length-drop 8 r ∙ omega (arith, size) in
      subst (λ (a : ℕ). BytesPut (a + 8) 4160 (drop 8 r) old new) place
      (subst (λ (f : List ℕ). BytesPut (at + 8) 4160 f old new) split (subst (λ (n : ℕ). BytesPut (at + 8) n from old new) count put))

  pub state_front : (at : ℕ) (rest state mid new : List ℕ) → at ≡ position p → rest ≡ drop 8 r → state ≡ take 8 r → BytesPut (at + 8) (length rest) rest old mid → FrontPut at state mid new
      → PagesCut p (p + 1) (written page) old new
  state_front at rest state mid new place split split_state put cut =
      let placed = subst (λ (a : ℕ). FrontPut a state mid new) place cut in
      let front = subst (λ (f : List ℕ). FrontPut (position p) f mid new) split_state placed in
      let count : length (take 8 r) ≡ 8 = length-take-le 8 r (omega (arith, size)) in
      state_cut mid (rest_whole at rest mid place split put) front.0 new (omega (arith, front.1, count)) front.2

  pub state_done : (at : ℕ) (rest state mid new : List ℕ) → at ≡ position p → rest ≡ drop 8 r → state ≡ take 8 r → BytesPut (at + 8) (length rest) rest old mid → BytesPut at (length state) state mid new
      → PagesFilled p (p + 1) (written page) old new
  state_done at rest state mid new place split split_state put done =
      let count : length state ≡ 8 = ap length split_state ∙ length-take-le 8 r (omega (arith, size)) in
      state_filled mid (rest_whole at rest mid place split put) new
      (subst (λ (a : ℕ). BytesPut a 8 (take 8 r) mid new) place
      (subst (λ (f : List ℕ). BytesPut at 8 f mid new) split_state (subst (λ (n : ℕ). BytesPut at n state mid new) count done)))

  pub state_leaves : (at : ℕ) (rest state mid new : List ℕ) (answer : StoreAnswer) → at ≡ position p → rest ≡ drop 8 r → state ≡ take 8 r → BytesPut (at + 8) (length rest) rest old mid → PutLeaves at state mid answer new
      → PagesLeave p (p + 1) (written page) old answer new
  state_leaves at rest state mid new store.Done place split split_state put done = state_done at rest state mid new place split split_state put done
  state_leaves at rest state mid new store.Failed place split split_state put cut = state_front at rest state mid new place split split_state put cut

-- an erase of one page, as it is called
length-erased : length erased_record ≡ 4168
unfolding erased_record zeros
length-erased = length-replicate {A = ℕ} 4168 0

pub erase_front : (p at : ℕ) (from old new : List ℕ) → at ≡ position p → from ≡ erased_record → FrontPut at from old new → PagesCut p (p + 1) erased old new
erase_front p at from old new place is cut =
    let placed = subst (λ (a : ℕ). FrontPut a from old new) place cut in
    let front = subst (λ (f : List ℕ). FrontPut (position p) f old new) is placed in
    erase_cut p front.0 old new (omega (arith, front.1, length-erased)) front.2

pub erase_leaves : (p at : ℕ) (from old new : List ℕ) (answer : StoreAnswer) → at ≡ position p → from ≡ erased_record → PutLeaves at from old answer new → PagesLeave p (p + 1) erased old answer new
erase_leaves p at from old new store.Failed place is cut = erase_front p at from old new place is cut
erase_leaves p at from old new store.Done place is done =
    let count : length from ≡ 4168 = ap length is ∙ length-erased in
    erase_filled p old new
    (subst (λ (a : ℕ). BytesPut a 4168 erased_record old new) place
    (subst (λ (f : List ℕ). BytesPut at 4168 f old new) is (subst (λ (n : ℕ). BytesPut at n from old new) count done)))

-- The records of an erase of one page.
other_record : (at n : ℕ) (from old new : List ℕ) (p q : ℕ) → BytesPut at n from old new → position p ≤ at → at + n ≤ position p + 4168 → (q < p) ⊎ (p + 1 ≤ q) → record_at new q ≡ record_at old q
other_record at n from old new p q put low high (inl below) = window_same (position q) 4168 old new (λ k less. put.outside (position q + k) (inl (omega arith)))
other_record at n from old new p q put low high (inr above) = window_same (position q) 4168 old new (λ k less. put.outside (position q + k) (inr (omega arith)))

record_filled : (p : ℕ) (old new : List ℕ) → BytesPut (position p) 4168 erased_record old new → RecordsFilled p (p + 1) erased_record old new
record_filled p old new put = record {
  inside = λ q low high. let same : q ≡ p = omega (arith, low, high) in ap (record_at new) same ∙ window_is (position p) 4168 erased_record new length-erased (λ k less. put.inside k less);
  outside = λ q apart. other_record (position p) 4168 erased_record old new p q put (omega arith) (omega arith) apart;
}

pub erase_record : (p at : ℕ) (from old new : List ℕ) (answer : StoreAnswer) → at ≡ position p → from ≡ erased_record → answer ≡ store.Done → PutLeaves at from old answer new
    → RecordsFilled p (p + 1) erased_record old new
erase_record p at from old new store.Failed place is done cut = absurd (cc done)
erase_record p at from old new store.Done place is done put =
    let count : length from ≡ 4168 = ap length is ∙ length-erased in
    record_filled p old new
    (subst (λ (a : ℕ). BytesPut a 4168 erased_record old new) place
    (subst (λ (f : List ℕ). BytesPut at 4168 f old new) is (subst (λ (n : ℕ). BytesPut at n from old new) count put)))

-- One call more, in the same moment.
module _ {S : Type 0} {moment : S → ℕ} {left : S → ℕ → List ℕ → Type 0} where
  pub weaker : {P : List ℕ → Type 0} (Q : List ℕ → Type 0) {old new : S} → ((b : List ℕ) → P b → Q b) → KillLeaves moment left P old new → KillLeaves moment left Q old new
  weaker Q by goes = record { same_moment = goes.same_moment; each = λ m b l. ⊎_elim (λ before. inl before) (λ now. inr (now.0, by b now.1)) (goes.each m b l); keeps = goes.keeps }

  pub then : (Q : List ℕ → Type 0) {old mid new : S} → KillLeaves moment left Q old mid → KillLeaves moment left Q mid new → KillLeaves moment left Q old new
  then Q first second = record {
    same_moment = second.same_moment ∙ first.same_moment;
    each = λ m b l. ⊎_elim (λ before. first.each m b before) (λ now. inr (now.0 ∙ first.same_moment, now.1)) (second.each m b l);
    keeps = λ m b l. second.keeps m b (first.keeps m b l);
  }
