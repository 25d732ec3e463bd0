-- How a volume stands that was opened.
use Rattle.std.proofs.Common.{◌≡◌, ◌⊎◌, inl, inr, ⊎_elim, ℕ, zero, suc, ◌+◌, ◌-◌, ◌<◌, ◌≤◌, ◌^◌, max, nat_lt, nat_le, ◌==◌, if◌then◌else◌, Bool, true, false, cond, ◌&&◌, Option, Some, None, option_and_then, option_map, unwrap_or, is_some, List, length, bytes_eq, refl, sym, ◌∙◌, ap, subst, arith}
use Rattle.std.specs.Prelude.{IfSome}
use Rattle.std.specs.List.{list_all, range_with_len}
use Rattle.std.proofs.lemmas.Bool.{and_parts, cases_Bool, cond-true, cond-false, eqb-true, leb-true, ltb-true}
use Rattle.std.proofs.lemmas.Option.{same_Some, none-some}
use Rattle.std.proofs.lemmas.List.Quantifiers.{position-Some}
use Rattle.nl_field.specs.Journal.{commit_of, commit_fields, commit_bytes, is_commit, header_of, header_fields, header_bytes, is_header, are_home_addresses}
use Rattle.nl_field.specs.Spelling.{is_transaction_number}
use Rattle.nl_field.specs.declared.shape.Shape.{Shape}
use Rattle.nl_field.specs.declared.header.HeaderRec.{HeaderRec}
use Rattle.nl_field.specs.declared.commit.CommitRec.{CommitRec}
use Rattle.nl_iface.specs.Stored.{NoneFailed, Value}
use Rattle.nl_iface.specs.declared.counts.Counts.{Ghosts}
use Rattle.nl_meta.specs.Committed.{VirtualMap, commit_at, counts, counting, header_at, home_or_image, next_number, within_volume}
use Rattle.nl_meta.specs.Pages.{Frozen}
use Rattle.nl_journal.specs.Outcomes.{bytes_of, May}
use Rattle.nl_journal.specs.Laws.{OpenedInOrder}
use Rattle.nl_journal.specs.Opening.{HasImages, Opened, are_there, commit_number, counted_in, deciding, header_number}
use Rattle.nl_journal.specs.Restoring.{IsVolumeHeader}
use Rattle.nl_journal.specs.Standing.{JournalMatchesMap}
use Rattle.nl_journal.specs.Transaction.{head, mark, header, place}
use Rattle.nl_journal.specs.declared.answers.Phase.{Phase}
use Rattle.nl_journal.specs.declared.answers.Phase.TheVariants.{Header, Image, Commit, Home}
use Rattle.nl_journal.proofs.Counted.{committed_alone, committed_over, counting_as}
use Rattle.nl_journal.proofs.Addresses.{addresses_of}

-- a header that is spelled has a number below 2^63 and at most 64 addresses
abbrev pub IsShort : HeaderRec → Type 0
IsShort rec = (rec.number < 2 ^ 63) × (length rec.addresses ≤ 64)

number_below : (n : ℕ) → is_transaction_number n ≡ true → n < 2 ^ 63
number_below n is = ltb-true n (2 ^ 63) (and_parts (nat_le 1 n) (nat_lt n (2 ^ 63)) is).1

short_of : (rec : HeaderRec) → is_header rec ≡ true → IsShort rec
short_of rec is =
    let p = and_parts (is_transaction_number rec.number && nat_le 1 (length rec.addresses) && nat_le (length rec.addresses) 64) (are_home_addresses rec.addresses) is in
    let q = and_parts (is_transaction_number rec.number && nat_le 1 (length rec.addresses)) (nat_le (length rec.addresses) 64) p.0 in
    let n = and_parts (is_transaction_number rec.number) (nat_le 1 (length rec.addresses)) q.0 in
    (number_below rec.number n.0, leb-true (length rec.addresses) 64 q.1)

-- what holds of each record with a spelling, of the one that is read
spelled_has : {R : Type 0} (P : R → Type 0) (rec x : R) (has b : Bool) → (has ≡ true → P rec) → (if has && b then Some rec else None) ≡ Some x → P x
spelled_has P rec x has b each is = by (cases_Bool (has && b))
  where
    by : ((has && b) ≡ true) ⊎ ((has && b) ≡ false) → P x
    by (inl counts_so) = subst P (same_Some rec x (sym (cond-true (has && b) (Some rec) None counts_so) ∙ is)) (each (and_parts has b counts_so).0)
    by (inr not_so) = absurd (none-some x (sym (cond-false (has && b) (Some rec) None not_so) ∙ is))

header_short : (main : List ℕ) (h : HeaderRec) → header_of main ≡ Some h → IsShort h
unfolding header_of
header_short main h is = spelled_has IsShort (header_fields main) h (is_header (header_fields main)) (bytes_eq (header_bytes (header_fields main)) main) (short_of (header_fields main)) is

commit_short : (main : List ℕ) (k : CommitRec) → commit_of main ≡ Some k → k.number < 2 ^ 63
unfolding commit_of
commit_short main k is = spelled_has (λ (c : CommitRec). c.number < 2 ^ 63) (commit_fields main) k (is_commit (commit_fields main)) (bytes_eq (commit_bytes (commit_fields main)) main)
    (λ one. number_below (commit_fields main).number one) is

within_short : (shape : Shape) (o : Option HeaderRec) (h : HeaderRec) → ((x : HeaderRec) → o ≡ Some x → IsShort x) → option_and_then (within_volume shape) o ≡ Some h → IsShort h
within_short shape None h short is = absurd (none-some h is)
within_short shape (Some x) h short is = by (cases_Bool (list_all (λ a. nat_lt a shape.vaddrs) x.addresses))
  where
    by : (list_all (λ a. nat_lt a shape.vaddrs) x.addresses ≡ true) ⊎ (list_all (λ a. nat_lt a shape.vaddrs) x.addresses ≡ false) → IsShort h
    by (inl below) = subst IsShort (same_Some x h (sym (cond-true (list_all (λ a. nat_lt a shape.vaddrs) x.addresses) (Some x) None below) ∙ is)) (short x refl)
    by (inr far) = absurd (none-some h (sym (cond-false (list_all (λ a. nat_lt a shape.vaddrs) x.addresses) (Some x) None far) ∙ is))

spelled_at : (b : Option (List ℕ)) (x : HeaderRec) → option_and_then header_of b ≡ Some x → IsShort x
spelled_at None x is = absurd (none-some x is)
spelled_at (Some main) x is = header_short main x is

head_short : (shape : Shape) (b : Option (List ℕ)) (h : HeaderRec) → head shape b ≡ Some h → IsShort h
head_short shape b h is = within_short shape (option_and_then header_of b) h (λ x at. spelled_at b x at) is

-- a header that is spelled on a volume lists addresses of it
spelled_at_all : (main : List ℕ) (h : HeaderRec) → header_of main ≡ Some h → is_header h ≡ true
unfolding header_of
spelled_at_all main h is = spelled_has (λ (x : HeaderRec). is_header x ≡ true) (header_fields main) h (is_header (header_fields main)) (bytes_eq (header_bytes (header_fields main)) main) (λ e. e) is

listing_of : (shape : Shape) (main : List ℕ) (o : Option HeaderRec) (h : HeaderRec) → o ≡ header_of main → option_and_then (within_volume shape) o ≡ Some h → IsVolumeHeader shape h
listing_of shape main None h at is = absurd (none-some h is)
listing_of shape main (Some x) h at is = by (cases_Bool (list_all (λ a. nat_lt a shape.vaddrs) x.addresses))
  where
    by : (list_all (λ a. nat_lt a shape.vaddrs) x.addresses ≡ true) ⊎ (list_all (λ a. nat_lt a shape.vaddrs) x.addresses ≡ false) → IsVolumeHeader shape h
    by (inl below) = subst (IsVolumeHeader shape) (same_Some x h (sym (cond-true (list_all (λ a. nat_lt a shape.vaddrs) x.addresses) (Some x) None below) ∙ is))
        (record { spelled = spelled_at_all main x (sym at); within = below })
    by (inr far) = absurd (none-some h (sym (cond-false (list_all (λ a. nat_lt a shape.vaddrs) x.addresses) (Some x) None far) ∙ is))

pub header_if : (shape : Shape) (main : List ℕ) (spelled o : Option HeaderRec) → o ≡ option_and_then (within_volume shape) spelled → spelled ≡ header_of main → IfSome o (λ h. (h.number < 2 ^ 63) × IsVolumeHeader shape h)
header_if shape main spelled None is same = tt
header_if shape main spelled (Some h) is same =
    ((head_short shape (Some main) h (sym (is ∙ ap (option_and_then (within_volume shape)) same))).0, listing_of shape main spelled h same (sym is))

pub commit_if : (main : List ℕ) (o : Option CommitRec) → o ≡ commit_of main → IfSome o (λ k. k.number < 2 ^ 63)
commit_if main None is = tt
commit_if main (Some k) is = commit_short main k (sym is)

same_range : (p q : ℕ → Bool) (a n : ℕ) → ((i : ℕ) → i < n → p (a + i) ≡ q (a + i)) → list_all p (range_with_len a n) ≡ list_all q (range_with_len a n)
same_range p q a zero each = refl
same_range p q a (suc n) each =
    let here : p a ≡ q a = subst (λ k. p k ≡ q k) (let e : a + 0 ≡ a = omega arith in e) (each 0 (omega arith)) in
    ap (λ b. b && list_all p (range_with_len (a + 1) n)) here
    ∙ ap (λ b. q a && b) (same_range p q (a + 1) n (λ i lt. subst (λ k. p k ≡ q k) (let e : a + suc i ≡ a + 1 + i = omega arith in e) (each (suc i) (omega (arith, lt)))))

counts_same : (f g : VirtualMap) (h : HeaderRec) (m : Option CommitRec) → length h.addresses ≤ 64 → ((i : ℕ) → i < 64 → f (2 + i) ≡ g (2 + i))
    → option_and_then (λ (commit : CommitRec). if counts f h commit then Some h else None) m ≡ option_and_then (λ (commit : CommitRec). if counts g h commit then Some h else None) m
counts_same f g h None few same = refl
counts_same f g h (Some k) few same =
    ap (λ b. cond (h.number == k.number && b) (Some h) None)
    (same_range (λ i. is_some (f (2 + i))) (λ i. is_some (g (2 + i))) 0 (length h.addresses)
    (λ i lt. ap is_some (same (0 + i) (omega (arith, lt, few)))))

counting_by : (f g : VirtualMap) (o : Option HeaderRec) (m : Option CommitRec) → ((h : HeaderRec) → o ≡ Some h → length h.addresses ≤ 64) → ((i : ℕ) → i < 64 → f (2 + i) ≡ g (2 + i))
    → option_and_then (λ (h : HeaderRec). option_and_then (λ (commit : CommitRec). if counts f h commit then Some h else None) m) o
    ≡ option_and_then (λ (h : HeaderRec). option_and_then (λ (commit : CommitRec). if counts g h commit then Some h else None) m) o
counting_by f g None m few same = refl
counting_by f g (Some h) m few same = counts_same f g h m (few h refl) same

-- which transaction counts is told by the journal's addresses
pub counting_same : (shape : Shape) (f g : VirtualMap) → ((v : ℕ) → v < 67 → f v ≡ g v) → counting shape f ≡ counting shape g
counting_same shape f g same =
    counting_as shape f
    ∙ counting_by f g (head shape (f 1)) (mark (f 66)) (λ h is. (head_short shape (f 1) h is).1) (λ i lt. same (2 + i) (omega (arith, lt)))
    ∙ ap (λ b. option_and_then (λ (h : HeaderRec). option_and_then (λ (commit : CommitRec). if counts g h commit then Some h else None) (mark b)) (head shape (f 1))) (same 66 (omega arith))
    ∙ ap (λ b. option_and_then (λ (h : HeaderRec). option_and_then (λ (commit : CommitRec). if counts g h commit then Some h else None) (mark (g 66))) (head shape b)) (same 1 (omega arith))
    ∙ sym (counting_as shape g)

-- where no write failed what may be shown is the map
may_is : (count : ℕ) (map : ℕ → Option Value) (failed : ℕ → Value → Type 0) → NoneFailed count failed → (v : ℕ) (b : Option (List ℕ)) → v < count → May map failed v b → b ≡ bytes_of map v
may_is count map failed none v b below at = ⊎_elim (λ is. is) (λ one. absurd (none v one.0 below one.1)) at

last_above : (h : Option HeaderRec) (m : Option CommitRec) (rec : CommitRec) → m ≡ Some rec → rec.number < 1 + max (header_number h) (commit_number m)
last_above h None rec is = absurd (none-some rec is)
last_above h (Some k) rec is = let e : k.number ≡ rec.number = ap (λ (r : CommitRec). r.number) (same_Some k rec is) in let le : k.number ≤ max (header_number h) k.number = omega arith in omega (arith, e, le)

numbers_of : (h : Option HeaderRec) → unwrap_or (option_map (λ (header : HeaderRec). header.number) h) 0 ≡ header_number h
numbers_of None = refl
numbers_of (Some h) = refl

numbers_in : (k : Option CommitRec) → unwrap_or (option_map (λ (commit : CommitRec). commit.number) k) 0 ≡ commit_number k
numbers_in None = refl
numbers_in (Some k) = refl

-- the number of the next transaction, by what the two pages spell
pub next_is : (shape : Shape) (f : VirtualMap) → next_number shape f ≡ 1 + max (header_number (head shape (f 1))) (commit_number (mark (f 66)))
unfolding next_number header_at commit_at
next_is shape f =
    ap (λ n. 1 + max n (unwrap_or (option_map (λ (commit : CommitRec). commit.number) (mark (f 66))) 0)) (numbers_of (head shape (f 1)))
    ∙ ap (λ n. 1 + max (header_number (head shape (f 1))) n) (numbers_in (mark (f 66)))

-- a volume on which no transaction counts
pub opened_idle : (shape : Shape) (map : ℕ → Option Value) (failed : ℕ → Value → Type 0) (number : ℕ) (frozen : Frozen) → 67 ≤ shape.vaddrs → NoneFailed shape.vaddrs failed → counting shape (bytes_of map) ≡ None
    → number + 1 ≡ next_number shape (bytes_of map) → JournalMatchesMap shape map failed (record { number = number; phase = Header }) frozen
opened_idle shape map failed number frozen wide none nothing is = record {
  home = λ v b home at. may_is shape.vaddrs map failed none v b home.below at ∙ sym (committed_alone shape (bytes_of map) v nothing);
  older = λ b at rec spelled.
      let same : b ≡ bytes_of map 66 = may_is shape.vaddrs map failed none 66 b (omega (arith, wide)) at in
      subst (λ n. rec.number < n) (sym (is ∙ next_is shape (bytes_of map))) (last_above (head shape (bytes_of map 1)) (mark (bytes_of map 66)) rec (ap mark (sym same) ∙ spelled));
  agrees = λ f within v home.
      committed_alone shape f v (counting_same shape f (bytes_of map) (λ u lt. may_is shape.vaddrs map failed none u (f u) (omega (arith, wide, lt)) (within u (omega (arith, wide, lt)))) ∙ nothing)
      ∙ may_is shape.vaddrs map failed none v (f v) home.below (within v home.below) ∙ sym (committed_alone shape (bytes_of map) v nothing);
}

-- what the transaction is that counts
counted_by : (f : VirtualMap) (o : Option HeaderRec) (m : Option CommitRec) (h : HeaderRec)
    → option_and_then (λ (x : HeaderRec). option_and_then (λ (commit : CommitRec). if counts f x commit then Some x else None) m) o ≡ Some h → (o ≡ Some h) × (m ≡ Some (record { number = h.number }))
counted_by f None m h is = absurd (none-some h is)
counted_by f (Some x) None h is = absurd (none-some h is)
counted_by f (Some x) (Some k) h is = by (cases_Bool (counts f x k))
  where
    by : (counts f x k ≡ true) ⊎ (counts f x k ≡ false) → (Some x ≡ Some h) × (Some k ≡ Some (record { number = h.number }))
    by (inl counts_so) =
        let same : x ≡ h = same_Some x h (sym (cond-true (counts f x k) (Some x) None counts_so) ∙ is) in
        let q = and_parts (x.number == k.number) (list_all (λ i. is_some (f (2 + i))) (range_with_len 0 (length x.addresses))) counts_so in
        (ap Some same, ap (λ n. Some (record { number = n })) (sym (eqb-true x.number k.number q.0) ∙ ap (λ (r : HeaderRec). r.number) same))
    by (inr not_so) = absurd (none-some h (sym (cond-false (counts f x k) (Some x) None not_so) ∙ is))

pub counting_is : (shape : Shape) (f : VirtualMap) (h : HeaderRec) → counting shape f ≡ Some h → (head shape (f 1) ≡ Some h) × (mark (f 66) ≡ Some (record { number = h.number }))
counting_is shape f h is = counted_by f (head shape (f 1)) (mark (f 66)) h (sym (counting_as shape f) ∙ is)

-- a volume on which one counts: its pages are to be copied home
pub opened_home : (shape : Shape) (map : ℕ → Option Value) (failed : ℕ → Value → Type 0) (number : ℕ) (frozen : Frozen) → 67 ≤ shape.vaddrs → NoneFailed shape.vaddrs failed → length frozen.addresses ≤ 64
    → HasImages (bytes_of map) number frozen shape → JournalMatchesMap shape map failed (record { number = number; phase = Home 0 }) frozen
opened_home shape map failed number frozen wide none few has =
    let spelled = counting_is shape (bytes_of map) (header number frozen) has.counts in
    record {
      begins = λ b at. ap (head shape) (may_is shape.vaddrs map failed none 1 b (omega (arith, wide)) at) ∙ spelled.0;
      ends = λ b at. ap mark (may_is shape.vaddrs map failed none 66 b (omega (arith, wide)) at) ∙ spelled.1;
      images = λ i b lt at. may_is shape.vaddrs map failed none (2 + i) b (omega (arith, wide, few, lt)) at ∙ has.images i lt;
      listed = λ v i home is. committed_over shape (bytes_of map) v number frozen has.counts ∙ ap (home_or_image (bytes_of map) v) is ∙ has.images i (within v i is);
      home = λ v i b home is lt at. let no : ⊥ = omega (arith, lt) in absurd no;
      others = λ v b home is at. may_is shape.vaddrs map failed none v b home.below at ∙ sym (committed_over shape (bytes_of map) v number frozen has.counts ∙ ap (home_or_image (bytes_of map) v) is);
    }
  where
    within : (v i : ℕ) → place frozen v ≡ Some i → i < length frozen.addresses
    within v i is = (position-Some (λ a. a == v) frozen.addresses i 0 is).0

pub some_is : (r : Option Bool) (x y : Bool) → x ≡ y → IfSome r (λ b. b ≡ x) → IfSome r (λ b. b ≡ y)
some_is None x y is h = h
some_is (Some b) x y is h = h ∙ is

-- one image more from a place on is there
pub there_on : (f g : VirtualMap) (from count : ℕ) → (count ≡ 0 → ⊥) → ((v : ℕ) → g v ≡ f v) → is_some (f (2 + from)) ≡ true → are_there g (from + 1) (count - 1) ≡ are_there f from count
there_on f g from zero some same is = absurd (some refl)
there_on f g from (suc n) some same is =
    let e : suc n - 1 ≡ n = omega arith in
    ap (λ k. are_there g (from + 1) k) e
    ∙ same_range (λ i. is_some (g (2 + i))) (λ i. is_some (f (2 + i))) (from + 1) n (λ i lt. ap is_some (same (2 + (from + 1 + i))))
    ∙ sym (ap (λ b. b && are_there f (from + 1) n) is)

-- one that is not there
pub there_not : (f : VirtualMap) (from count : ℕ) → 1 ≤ count → f (2 + from) ≡ None → false ≡ are_there f from count
there_not f from zero some is = absurd (omega (arith, some))
there_not f from (suc n) some is = sym (ap (λ b. b && are_there f (from + 1) n) (ap is_some is))

pub there_none : (f : VirtualMap) (from count : ℕ) → count ≡ 0 → true ≡ are_there f from count
there_none f from count e = sym (ap (are_there f from) e)

-- which transaction counts, by the header whose images decide
pub counting_decides : (shape : Shape) (f : VirtualMap) → counting shape f ≡ counted_in f (deciding (head shape (f 1)) (mark (f 66)))
counting_decides shape f = counting_as shape f ∙ by (head shape (f 1)) (mark (f 66))
  where
    both : (h : HeaderRec) (a : Bool) → cond (a && are_there f 0 (length h.addresses)) (Some h) None ≡ counted_in f (cond a (Some h) None)
    both h true = refl
    both h false = refl

    by : (o : Option HeaderRec) (m : Option CommitRec) → option_and_then (λ (h : HeaderRec). option_and_then (λ (commit : CommitRec). if counts f h commit then Some h else None) m) o ≡ counted_in f (deciding o m)
    by None m = refl
    by (Some h) None = refl
    by (Some h) (Some k) = both h (h.number == k.number)

pub deciding_has : (P : HeaderRec → Type 0) (o : Option HeaderRec) (m : Option CommitRec) → IfSome o P → IfSome (deciding o m) P
deciding_has P None m has = tt
deciding_has P (Some h) None has = tt
deciding_has P (Some h) (Some k) has = by (h.number == k.number)
  where
    by : (a : Bool) → IfSome (cond a (Some h) None) P
    by true = has
    by false = tt

pub some_of : (o : Option HeaderRec) → IfSome o (λ h. o ≡ Some h)
some_of None = tt
some_of (Some h) = refl

-- all images of the header are there, or not
pub counted_all : (f : VirtualMap) (h : HeaderRec) → are_there f 0 (length h.addresses) ≡ true → counted_in f (Some h) ≡ Some h
counted_all f h is = cond-true (are_there f 0 (length h.addresses)) (Some h) None is

pub counted_none : (f : VirtualMap) (h : HeaderRec) → are_there f 0 (length h.addresses) ≡ false → counted_in f (Some h) ≡ None
counted_none f h is = cond-false (are_there f 0 (length h.addresses)) (Some h) None is

opened_as : (phase : Phase) (number : ℕ) (shape : Shape) (map : ℕ → Option Value) (failed : ℕ → Value → Type 0) (frozen : Frozen) → 67 ≤ shape.vaddrs → NoneFailed shape.vaddrs failed
    → Opened phase shape (bytes_of map) number frozen → JournalMatchesMap shape map failed (record { number = number; phase = phase }) frozen
opened_as Header number shape map failed frozen wide none o = opened_idle shape map failed number frozen wide none o.0 o.1
opened_as (Image i) number shape map failed frozen wide none o = absurd o
opened_as Commit number shape map failed frozen wide none o = absurd o
opened_as (Home i) number shape map failed frozen wide none o = subst (λ n. JournalMatchesMap shape map failed (record { number = number; phase = Home n }) frozen) (sym o.0) (opened_home shape map failed number frozen wide none o.1 o.2)

-- the number of the next transaction, by the records that were read
pub number_is : (shape : Shape) (f : VirtualMap) (n : ℕ) (h : Option HeaderRec) (k : Option CommitRec) → n ≡ max (header_number h) (commit_number k) → h ≡ head shape (f 1) → k ≡ mark (f 66) → n + 1 ≡ next_number shape f
number_is shape f n h k is begins ends =
    let same : n ≡ max (header_number (head shape (f 1))) (commit_number (mark (f 66))) = is ∙ ap (λ o. max (header_number o) (commit_number k)) begins ∙ ap (λ o. max (header_number (head shape (f 1))) (commit_number o)) ends in
    let next = next_is shape f in
    omega (arith, same, next)

module _ {D : Type 0} (g : Ghosts D) where
  pub opens_in_order : OpenedInOrder g
  opens_in_order s p frozen volume phase pages o = record {
    phase = phase;
    pages = pages;
    keeps = λ t numbers. opened_as p.phase p.number (g.shape s) (g.map s) (g.failed s) frozen (addresses_of (g.shape s) volume) (o t).0 (o t).1;
  }
