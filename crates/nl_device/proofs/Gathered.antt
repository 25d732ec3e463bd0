-- The pages of the physical segment among those that a scan saw.
use Rattle.std.proofs.Common.{◌≡◌, ℕ, ◌+◌, ◌*◌, ◌/◌, ◌<◌, ◌≤◌, Bool, true, false, cond, nat_le, suc, zero, List, [], ◌∷◌, ◌++◌, length, take, Option, Some, None, refl, sym, ◌∙◌, ap, subst, arith}
use Rattle.std.specs.Prelude.{All, IsTrue, filter_map, slice_get, option_to_list}
use Rattle.std.specs.List.{AllPairs, cons_option}
use Rattle.std.proofs.lemmas.Bool.Decides.{nat_tests}
use Rattle.std.proofs.lemmas.List.{append-nil, take_all, take_more}
use Rattle.std.proofs.lemmas.Nat.{div_below, le-div}
use Rattle.std.proofs.lemmas.Option.{get_or_from_slice_get, none-some, same_Some, slice_get_within}
use Rattle.std.proofs.lemmas.List.Elements.{All-cons, All-head, All-nil, All-tail, filter_map-append}
use Rattle.std.proofs.lemmas.List.Kept.{AllPairs-cons}
use Rattle.nl_field.specs.SpareRecord.{stamp_of}
use Rattle.nl_field.specs.Spelling.{is_stamp}
use Rattle.nl_field.specs.declared.spare.SpareRec.{SpareRec}
use Rattle.nl_field.specs.declared.spare.SpareRec.TheVariants.{Virtual, Physical}
use Rattle.nl_scan.specs.Tables.{IsSeen}
use Rattle.nl_field.specs.declared.seen.Seen.{Seen}
use Rattle.nl_device.specs.Kept.{IsOfSegment, kept_from, kept_pages, with_record}
use Rattle.nl_device.specs.declared.kept.page.KeptPage.{KeptPage}

take_with : {X : Type 0} (at : ℕ) (xs : List X) (x : X) → slice_get xs at ≡ Some x → take (at + 1) xs ≡ take at xs ++ x ∷ []
take_with at xs x is = take_more xs at x (slice_get_within xs at x is) ∙ ap (λ y. take at xs ++ y ∷ []) (get_or_from_slice_get xs at x x is)

-- the same page, from that number on
pub record IsKeptFrom (low : ℕ) (s : Seen) (k : KeptPage) : Type 0 where
  pub page : k.page ≡ s.page
  pub from_low : low ≤ s.page
  pub stamp : k.stamp ≡ stamp_of s.rec

kept_by : (low : ℕ) (s : Seen) (rec : SpareRec) (k : KeptPage) (b : Bool) → s.rec ≡ rec → nat_le low s.page ≡ b → cond b (with_record s.page rec) None ≡ Some k → IsKeptFrom low s k
kept_by low s (Virtual vaddr stamp wear) k true of is e = absurd (none-some k e)
kept_by low s (Physical tag stamp wear) k true of is e =
    let same = same_Some (record { page = s.page; stamp = stamp; tag = tag }) k e in
    record {
      page = sym (ap (λ (q : KeptPage). q.page) same);
      from_low = grind (arith, nat_tests, is);
      stamp = sym (ap (λ (q : KeptPage). q.stamp) same) ∙ ap stamp_of (sym of);
    }
kept_by low s rec k false of is e = absurd (none-some k e)

pub is_kept_from : (low : ℕ) (s : Seen) (k : KeptPage) → kept_from low s ≡ Some k → IsKeptFrom low s k
is_kept_from low s k e = kept_by low s s.rec k (nat_le low s.page) refl refl e

all_more : (low : ℕ) (Q : KeptPage → Type 0) (s : Seen) (rest : List KeptPage) (o : Option KeptPage) → ((k : KeptPage) → o ≡ Some k → Q k) → All Q rest → All Q (cons_option o rest)
all_more low Q s rest None is all = all
all_more low Q s rest (Some k) is all = All-cons Q k rest (is k refl) all

-- what holds of each page that is seen holds of each one that is kept
pub all_kept : (low : ℕ) (P : Seen → Type 0) (Q : KeptPage → Type 0) → ((s : Seen) (k : KeptPage) → IsKeptFrom low s k → P s → Q k) → (seen : List Seen) → All P seen → All Q (filter_map (kept_from low) seen)
all_kept low P Q each [] all = All-nil Q
all_kept low P Q each (s ∷ seen) all =
    all_more low Q s (filter_map (kept_from low) seen) (kept_from low s) (λ k is. each s k (is_kept_from low s k is) (All-head P s seen all))
    (all_kept low P Q each seen (All-tail P s seen all))

pairs_more : (rest : List KeptPage) (o : Option KeptPage) → ((k : KeptPage) → o ≡ Some k → All (λ q. k.page < q.page) rest) → AllPairs (λ a b. a.page < b.page) rest
    → AllPairs (λ a b. a.page < b.page) (cons_option o rest)
pairs_more rest None is all = all
pairs_more rest (Some k) is all = AllPairs-cons (λ (a b : KeptPage). a.page < b.page) k rest (is k refl) all

rising : (low : ℕ) (seen : List Seen) → AllPairs (λ a b. a.page < b.page) seen → AllPairs (λ a b. a.page < b.page) (filter_map (kept_from low) seen)
rising low [] all = λ i j d lt within. absurd (omega arith)
rising low (s ∷ seen) all =
    pairs_more (filter_map (kept_from low) seen) (kept_from low s)
    (λ k is. all_kept low (λ t. s.page < t.page) (λ q. k.page < q.page)
    (λ t q of above. omega (arith, (is_kept_from low s k is).page, of.page, above)) seen
    (λ i d within. all zero (suc i) d (omega arith) (omega arith)))
    (rising low seen (λ i j d lt within. all (suc i) (suc j) d (omega arith) (omega arith)))

pub kept_rising : (low : ℕ) (seen : List Seen) → AllPairs (λ a b. a.page < b.page) seen → AllPairs (λ a b. a.page < b.page) (kept_pages low seen)
unfolding kept_pages
kept_rising low seen all = rising low seen all

block_of : (first count size page : ℕ) → 0 < size → first * size ≤ page → page < (first + count) * size → (first ≤ page / size) × (page / size < first + count)
block_of first count size page some from to = (le-div first page size some from, div_below page size (first + count) some to)

pub kept_within : (first count size : ℕ) (seen : List Seen) → 0 < size → All (IsSeen ((first + count) * size)) seen → All (IsOfSegment first count size) (kept_pages (first * size) seen)
unfolding kept_pages
kept_within first count size seen some all =
    all_kept (first * size) (IsSeen ((first + count) * size)) (IsOfSegment first count size)
    (λ s k of is. let b = block_of first count size k.page some (omega (arith, of.page, of.from_low)) (omega (arith, of.page, is.within)) in
    record { from_first = b.0; to_last = b.1; spelled = subst (λ n. IsTrue (is_stamp n)) (sym of.stamp) is.spelled }) seen all

pub kept_more : (low at : ℕ) (seen : List Seen) (s : Seen) → slice_get seen at ≡ Some s → kept_pages low (take (at + 1) seen) ≡ kept_pages low (take at seen) ++ option_to_list (kept_from low s)
unfolding kept_pages
kept_more low at seen s is =
    ap (filter_map (kept_from low)) (take_with at seen s is)
    ∙ filter_map-append (kept_from low) (take at seen) (s ∷ [])
    ∙ ap (λ l. filter_map (kept_from low) (take at seen) ++ l) (one (kept_from low s))
  where
    one : (o : Option KeptPage) → cons_option o [] ≡ option_to_list o
    one None = refl
    one (Some k) = refl

pub kept_none : (low : ℕ) (seen : List Seen) → kept_pages low (take 0 seen) ≡ []
unfolding kept_pages
kept_none low seen = refl

-- a page that is not kept, and one that is
pub kept_skip : (low at : ℕ) (seen : List Seen) (s : Seen) (pages : List KeptPage) → slice_get seen at ≡ Some s → kept_from low s ≡ None → pages ≡ kept_pages low (take at seen) → pages ≡ kept_pages low (take (at + 1) seen)
kept_skip low at seen s pages is none so = so ∙ sym (kept_more low at seen s is ∙ ap (λ o. kept_pages low (take at seen) ++ option_to_list o) none ∙ append-nil (kept_pages low (take at seen)))

pub kept_push : (low at : ℕ) (seen : List Seen) (s : Seen) (k : KeptPage) (pages : List KeptPage) → slice_get seen at ≡ Some s → kept_from low s ≡ Some k → pages ≡ kept_pages low (take at seen)
    → pages ++ k ∷ [] ≡ kept_pages low (take (at + 1) seen)
kept_push low at seen s k pages is some so = ap (λ l. l ++ k ∷ []) so ∙ sym (kept_more low at seen s is ∙ ap (λ o. kept_pages low (take at seen) ++ option_to_list o) some)

pub kept_all : (low at : ℕ) (seen : List Seen) (pages : List KeptPage) → length seen ≤ at → pages ≡ kept_pages low (take at seen) → pages ≡ kept_pages low seen
kept_all low at seen pages past so = so ∙ ap (kept_pages low) (take_all at seen past)
