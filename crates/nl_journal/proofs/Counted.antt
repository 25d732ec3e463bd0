-- When a transaction counts, and what the committed pages then are.
use Rattle.std.proofs.Common.{◌≡◌, ℕ, zero, suc, ◌+◌, ◌<◌, ◌≤◌, ◌==◌, if◌then◌else◌, Bool, true, ◌&&◌, Option, Some, None, option_and_then, is_some, length, refl, ◌∙◌, ap, arith, eq-eqb}
use Rattle.std.specs.List.{list_all, range_with_len}
use Rattle.std.proofs.lemmas.Bool.{cond-true, cond-false, ne_eqb, and_from}
use Rattle.nl_field.specs.declared.shape.Shape.{Shape}
use Rattle.nl_field.specs.declared.header.HeaderRec.{HeaderRec}
use Rattle.nl_field.specs.declared.commit.CommitRec.{CommitRec}
use Rattle.nl_meta.specs.Committed.{VirtualMap, commit_at, counts, counting, header_at, place_in, home_or_image, committed}
use Rattle.nl_meta.specs.Pages.{Frozen}
use Rattle.nl_journal.specs.Transaction.{head, mark, Older, header, place, main_at, at_place, with_pages}

-- which transaction counts, by what the two pages spell
pub counting_as : (shape : Shape) (f : VirtualMap) → counting shape f ≡ option_and_then (λ (h : HeaderRec). option_and_then (λ (commit : CommitRec). if counts f h commit then Some h else None) (mark (f 66))) (head shape (f 1))
unfolding counting header_at commit_at
counting_as shape f = refl

all_in_range : (p : ℕ → Bool) (a n : ℕ) → ((i : ℕ) → a ≤ i → i < a + n → p i ≡ true) → list_all p (range_with_len a n) ≡ true
all_in_range p a zero each = refl
all_in_range p a (suc n) each =
    and_from (p a) (list_all p (range_with_len (a + 1) n)) (each a (omega arith) (omega arith))
    (all_in_range p (a + 1) n (λ i from to. each i (omega (arith, from)) (omega (arith, to))))

uncounted_by : (f : VirtualMap) (h : HeaderRec) (m : Option CommitRec) → ((rec : CommitRec) → m ≡ Some rec → rec.number < h.number)
    → option_and_then (λ (commit : CommitRec). if counts f h commit then Some h else None) m ≡ None
uncounted_by f h None older = refl
uncounted_by f h (Some k) older =
    let less : k.number < h.number = older k refl in
    cond-false (counts f h k) (Some h) None
    (ap (λ b. b && list_all (λ i. is_some (f (2 + i))) (range_with_len 0 (length h.addresses)))
    (ne_eqb h.number k.number (λ e. omega (arith, e, less))))

-- A transaction does not count whose commit page is older than its header.
pub uncounted : (shape : Shape) (f : VirtualMap) (h : HeaderRec) → head shape (f 1) ≡ Some h → Older h.number (f 66) → counting shape f ≡ None
uncounted shape f h begins older =
    counting_as shape f
    ∙ ap (λ o. option_and_then (λ (header : HeaderRec). option_and_then (λ (commit : CommitRec). if counts f header commit then Some header else None) (mark (f 66))) o) begins
    ∙ uncounted_by f h (mark (f 66)) older

pub counted : (shape : Shape) (f : VirtualMap) (h : HeaderRec) (k : CommitRec) → head shape (f 1) ≡ Some h → mark (f 66) ≡ Some k → h.number ≡ k.number
    → ((i : ℕ) → i < length h.addresses → is_some (f (2 + i)) ≡ true) → counting shape f ≡ Some h
counted shape f h k begins ends same there =
    counting_as shape f
    ∙ ap (λ o. option_and_then (λ (header : HeaderRec). option_and_then (λ (commit : CommitRec). if counts f header commit then Some header else None) (mark (f 66))) o) begins
    ∙ ap (λ m. option_and_then (λ (commit : CommitRec). if counts f h commit then Some h else None) m) ends
    ∙ cond-true (counts f h k) (Some h) None
    (and_from (h.number == k.number) (list_all (λ i. is_some (f (2 + i))) (range_with_len 0 (length h.addresses))) (eq-eqb h.number k.number same)
    (all_in_range (λ i. is_some (f (2 + i))) 0 (length h.addresses) (λ i from to. there i (omega (arith, to)))))

pub committed_alone : (shape : Shape) (f : VirtualMap) (v : ℕ) → counting shape f ≡ None → committed shape f v ≡ f v
unfolding committed
committed_alone shape f v none = ap (λ o. home_or_image f v (place_in o v)) none

pub committed_over : (shape : Shape) (f : VirtualMap) (v number : ℕ) (frozen : Frozen) → counting shape f ≡ Some (header number frozen)
    → committed shape f v ≡ home_or_image f v (place frozen v)
unfolding committed
committed_over shape f v number frozen is = ap (λ o. home_or_image f v (place_in o v)) is

-- a map with the pages of a transaction, at an address of one of them and at another
pub page_there : (frozen : Frozen) (base : VirtualMap) (v i : ℕ) → place frozen v ≡ Some i → with_pages frozen base v ≡ Some (main_at frozen.images i)
unfolding with_pages
page_there frozen base v i is = ap (at_place frozen base v) is

pub page_beside : (frozen : Frozen) (base : VirtualMap) (v : ℕ) → place frozen v ≡ None → with_pages frozen base v ≡ base v
unfolding with_pages
page_beside frozen base v is = ap (at_place frozen base v) is
