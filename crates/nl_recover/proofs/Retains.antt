-- The pointers of a consistent volume can be retained.
use Rattle.std.proofs.Common.{◌≡◌, ◌≢◌, ℕ, zero, suc, ◌*◌, ◌≤◌, ◌==◌, Bool, true, false, cond, List, [], ◌∷◌, length, map, refl, sym, ap, subst, ◌∙◌, IsSome, inl, inr, arith, eq-eqb}
use Rattle.std.specs.Prelude.{All, filter}
use Rattle.std.specs.List.{AllPairs, list_any}
use Rattle.std.proofs.lemmas.List.Kept.{AllPairs-cons}
use Rattle.std.proofs.lemmas.List.Sums.{length-filter}
use Rattle.nl_field.specs.Members.{Has}
use Rattle.nl_field.specs.ScanList.{is_lost_seen, owns_seen, physical_seen, physical_spare_seen}
use Rattle.nl_field.specs.SpareRecord.{stamp_of}
use Rattle.nl_field.specs.declared.pointer.Pointer.{Pointer}
use Rattle.nl_field.specs.declared.seen.Seen.{Seen}
use Rattle.nl_field.specs.declared.spare.SpareRec.{SpareRec}
use Rattle.nl_meta.specs.Consistent.{IsListed}
use Rattle.nl_meta.specs.Nodes.{Held, held_in}
use Rattle.nl_meta.proofs.Facts.{EachTwo}
use Rattle.nl_meta.proofs.Lists.{member_any}
use Rattle.nl_meta.proofs.PointerProofs.{keys_back}
use Rattle.nl_recover.specs.Retaining.{OfConsistent}

-- ---- lists that are mapped

map-twice : {X Y Z : Type 0} (f : X → Y) (k : Y → Z) (xs : List X) → map k (map f xs) ≡ map (λ x. k (f x)) xs
map-twice f k [] = refl
map-twice f k (x ∷ xs) = ap (λ zs. k (f x) ∷ zs) (map-twice f k xs)

all-mapped : {X Y : Type 0} (f : X → Y) (P : Y → Type 0) (xs : List X) → ((x : X) → Has xs x → P (f x)) → All P (map f xs)
all-mapped f P [] each k d lt = absurd (omega (arith, lt))
all-mapped f P (x ∷ xs) each zero d lt = each x (inl refl)
all-mapped f P (x ∷ xs) each (suc k) d lt = all-mapped f P xs (λ y m. each y (inr m)) k d (omega (arith, lt))

pairs-mapped : {X Y : Type 0} (f : X → Y) (R : Y → Y → Type 0) (xs : List X) → EachTwo (λ x y. R (f x) (f y)) xs → AllPairs R (map f xs)
pairs-mapped f R [] two = λ i j d lt below. absurd (omega (arith, below))
pairs-mapped f R (x ∷ xs) two = AllPairs-cons R (f x) (map f xs) (all-mapped f (R (f x)) xs two.0) (pairs-mapped f R xs two.1)

counts-mapped : {X Y : Type 0} (f : X → Y) (t : Y → Bool) (xs : List X) → length (filter t (map f xs)) ≡ length (filter (λ x. t (f x)) xs)
counts-mapped f t [] = refl
counts-mapped {X} {Y} f t (x ∷ xs) = by (t (f x)) (counts-mapped f t xs)
  where
    by : (b : Bool) → length (filter t (map f xs)) ≡ length (filter (λ x. t (f x)) xs) → length (cond b (f x ∷ filter t (map f xs)) (filter t (map f xs))) ≡ length (cond b (x ∷ filter (λ x. t (f x)) xs) (filter (λ x. t (f x)) xs))
    by true e = ap suc e
    by false e = e

-- ---- the pointers

abbrev pointer-of : Held → Pointer
pointer-of h = h.pointer

listed-any : (physicals : List Seen) (h : Held) → IsListed physicals h → list_any (λ s. stamp_of s.rec == h.pointer.stamp) physicals ≡ true
listed-any physicals h is =
    member_any (λ s. stamp_of s.rec == h.pointer.stamp) physicals is.page is.listed
    (ap (λ (r : SpareRec). stamp_of r == h.pointer.stamp) is.is_page.record_on ∙ eq-eqb h.pointer.stamp h.pointer.stamp refl)

pub retained-spare : OfConsistent (λ shape seen pointers. IsSome (physical_spare_seen shape seen (map (λ p. p.stamp) pointers)))
retained-spare shape pages seen c = subst (λ (l : List ℕ). IsSome (physical_spare_seen shape seen l)) (sym (map-twice pointer-of (λ (p : Pointer). p.stamp) (held_in shape pages))) c.room.physical_room

pub retained-found : OfConsistent (λ shape seen pointers. All (λ p. list_any (λ s. stamp_of s.rec == p.stamp) (physical_seen shape seen) ≡ true) pointers)
retained-found shape pages seen c =
    all-mapped pointer-of (λ (p : Pointer). list_any (λ s. stamp_of s.rec == p.stamp) (physical_seen shape seen) ≡ true) (held_in shape pages)
    (λ h m. listed-any (physical_seen shape seen) h (c.metadata.tree.pointers.there h m))

pub retained-differ : OfConsistent (λ shape seen pointers. AllPairs (λ p q. p.stamp ≢ q.stamp) pointers)
retained-differ shape pages seen c =
    pairs-mapped pointer-of (λ (p q : Pointer). p.stamp ≢ q.stamp) (held_in shape pages) (keys_back shape pages (λ h. h.pointer.stamp) c.metadata.tree.pointers.stamps_differ)

pub retained-names-differ : OfConsistent (λ shape seen pointers. AllPairs (λ p q. p.name ≢ q.name) pointers)
retained-names-differ shape pages seen c =
    pairs-mapped pointer-of (λ (p q : Pointer). p.name ≢ q.name) (held_in shape pages) (keys_back shape pages (λ h. h.pointer.name) c.metadata.tree.pointers.names_differ)

pub retained-own : OfConsistent (λ shape seen pointers. All (λ p. owns_seen shape seen p ≡ true) pointers)
retained-own shape pages seen c = all-mapped pointer-of (λ (p : Pointer). owns_seen shape seen p ≡ true) (held_in shape pages) (λ h m. c.own_names h m)

pub retained-few-lost : OfConsistent (λ shape seen pointers. length (filter (is_lost_seen shape seen) pointers) ≤ 3 * shape.pages)
retained-few-lost shape pages seen c =
    subst (λ (n : ℕ). n ≤ 3 * shape.pages)
    (sym (counts-mapped pointer-of (is_lost_seen shape seen) (held_in shape pages) ∙ length-filter (λ (h : Held). is_lost_seen shape seen h.pointer) (held_in shape pages))) c.room.few_lost
