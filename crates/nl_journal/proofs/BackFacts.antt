-- The journal read back: the frozen pages are the images of the transaction that counts, and the running map is the committed one.
use Rattle.std.proofs.Common.{◌≡◌, ◌⊎◌, inl, inr, ℕ, suc, ◌+◌, ◌<◌, ◌≤◌, ◌==◌, nat_lt, nat_le, ◌&&◌, Bool, true, false, max, List, [], ◌∷◌, length, get_or, refl, sym, ap, subst, ◌∙◌, cond, Option, Some, None, option_map, arith}
use Rattle.std.specs.Prelude.{slice_get}
use Rattle.std.specs.List.{list_all}
use Rattle.std.proofs.lemmas.Bool.{and_from, and_parts, cases_Bool, cond-false, cond-true, eqb-true, lt-ltb, leb-true, ne_eqb}
use Rattle.std.proofs.lemmas.List.{take_all}
use Rattle.std.proofs.lemmas.List.Quantifiers.{position-Some}
use Rattle.std.proofs.lemmas.Option.{same_Some, slice_get-get_or}
use Rattle.nl_field.specs.Journal.{are_home_addresses, is_header}
use Rattle.nl_field.specs.Members.{Has}
use Rattle.nl_field.specs.Spelling.{is_transaction_number}
use Rattle.nl_field.specs.Virtual.{is_inode_address, map_bytes, or_zeros}
use Rattle.nl_field.specs.declared.header.HeaderRec.{HeaderRec}
use Rattle.nl_field.specs.declared.shape.Shape.{Shape}
use Rattle.nl_iface.specs.Stored.{Value}
use Rattle.nl_meta.specs.Committed.{VirtualMap, committed, counting, home_or_image, next_number}
use Rattle.nl_meta.specs.Pages.{IsPages, Pages, no_pages, page_of}
use Rattle.nl_meta.specs.Running.{or_stored, running_over}
use Rattle.nl_meta.proofs.Kept.{position-has}
use Rattle.nl_meta.proofs.Lists.{none-any}
use Rattle.nl_journal.specs.Opening.{HasImages, commit_number, header_number}
use Rattle.nl_journal.specs.Outcomes.{bytes_of}
use Rattle.nl_journal.specs.Transaction.{IsTransaction, head, header, place}
use Rattle.nl_journal.proofs.Counted.{committed_alone, committed_over}
use Rattle.nl_journal.proofs.DirtyPages.{rise_home, transaction_of}
use Rattle.nl_journal.proofs.Openings.{counting_is, counting_same, next_is}
use Rattle.nl_journal.specs.Restoring.{AreListed, AreRestored}
use Rattle.nl_journal.proofs.Restores.{none-at, restored-as}

-- ---- what a device has

pub same-bytes : (shape shape' : Shape) (map map' : ℕ → Option Value) (v : ℕ) → shape' ≡ shape → map' v ≡ map v → map_bytes shape' map' v ≡ map_bytes shape map v
unfolding map_bytes
same-bytes shape shape' map map' v e f =
    ap (λ (s : Shape). cond (nat_lt v s.vaddrs) (or_zeros s v (option_map (λ x. x.1) (map' v))) None) e
    ∙ ap (λ (o : Option Value). cond (nat_lt v shape.vaddrs) (or_zeros shape v (option_map (λ x. x.1) o)) None) f

-- ---- the journal's addresses read as they are

pub journal-bytes : (shape : Shape) (map : ℕ → Option Value) → 67 ≤ shape.vaddrs → (v : ℕ) → v < 67 → map_bytes shape map v ≡ bytes_of map v
unfolding map_bytes
journal-bytes shape map wide v lt =
    cond-true (nat_lt v shape.vaddrs) (or_zeros shape v (option_map (λ (x : Value). x.1) (map v))) None (lt-ltb v shape.vaddrs (omega (arith, wide, lt)))
    ∙ cond-false (is_inode_address shape v) _ (option_map (λ (x : Value). x.1) (map v)) (by (cases_Bool (nat_le 67 v)))
  where
    by : (nat_le 67 v ≡ true) ⊎ (nat_le 67 v ≡ false) → (nat_le 67 v && nat_lt v (67 + shape.inode_pages)) ≡ false
    by (inl h) = absurd (let l = leb-true 67 v h in omega (arith, l, lt))
    by (inr h) = ap (λ b. b && nat_lt v (67 + shape.inode_pages)) h

-- ---- one that is restored

all-at : (p : ℕ → Bool) (xs : List ℕ) → ((i : ℕ) → i < length xs → p (get_or xs i 0) ≡ true) → list_all p xs ≡ true
all-at p [] each = refl
all-at p (x ∷ xs) each = and_from (p x) (list_all p xs) (each 0 (omega arith)) (all-at p xs (λ i lt. each (suc i) (omega (arith, lt))))

below-all : (tells : Type 0) (shape : Shape) (stored : VirtualMap) (p : Pages) (xs : List ℕ) → length p.running ≡ shape.vaddrs → AreRestored tells stored xs (length xs) p → list_all (λ a. nat_lt a shape.vaddrs) xs ≡ true
below-all tells shape stored p xs count r = all-at (λ a. nat_lt a shape.vaddrs) xs (λ i lt. lt-ltb (get_or xs i 0) shape.vaddrs (subst (λ (n : ℕ). get_or xs i 0 < n) count (r.below i lt)))

pub header-parts : (h : HeaderRec) → is_header h ≡ true → (1 ≤ length h.addresses) × (length h.addresses ≤ 64) × (are_home_addresses h.addresses ≡ true)
header-parts h spelled =
    let a = and_parts (is_transaction_number h.number && nat_le 1 (length h.addresses) && nat_le (length h.addresses) 64) (are_home_addresses h.addresses) spelled in
    let b = and_parts (is_transaction_number h.number && nat_le 1 (length h.addresses)) (nat_le (length h.addresses) 64) a.0 in
    let c = and_parts (is_transaction_number h.number) (nat_le 1 (length h.addresses)) b.0 in
    (leb-true 1 (length h.addresses) c.1, leb-true (length h.addresses) 64 b.1, a.1)

-- beside another device
pub listed-as : (tells : Type 0) (shape : Shape) (stored stored' : VirtualMap) (p : Pages) → (tells → (v : ℕ) → v < 67 → stored' v ≡ stored v) → AreListed tells shape stored' p → AreListed tells shape stored p
listed-as tells shape stored stored' p same l = record {
  header = l.header;
  spelled = l.spelled;
  stands = λ t. ap (head shape) (sym (same t 1 (omega arith))) ∙ l.stands t;
  restored = restored-as tells stored stored' l.header.addresses (length l.header.addresses) p (header-parts l.header l.spelled).1 same l.restored;
}

pub header-rises : (h : HeaderRec) → is_header h ≡ true → are_home_addresses h.addresses ≡ true
header-rises h spelled = (header-parts h spelled).2

module _ (tells : Type 0) (shape : Shape) (stored : VirtualMap) (p : Pages) (l : AreListed tells shape stored p) where
  addresses-are : p.frozen.addresses ≡ l.header.addresses
  addresses-are = l.restored.listed ∙ take_all (length l.header.addresses) l.header.addresses (omega arith)

  spelled-parts : (1 ≤ length l.header.addresses) × (length l.header.addresses ≤ 64) × (are_home_addresses l.header.addresses ≡ true)
  spelled-parts = header-parts l.header l.spelled

  pub some-listed : 0 < length p.frozen.addresses
  some-listed = let e = ap length addresses-are in let s = spelled-parts.0 in omega (arith, e, s)

  pub few-listed : length p.frozen.addresses ≤ 64
  few-listed = let e = ap length addresses-are in let s = spelled-parts.1 in omega (arith, e, s)

  pub listed-transaction : IsPages p → length p.running ≡ shape.vaddrs → IsTransaction shape.vaddrs p.frozen
  listed-transaction stands count =
      let s = some-listed in
      transaction_of shape.vaddrs p.frozen (omega (arith, s)) few-listed stands.frozen_images
      (ap are_home_addresses addresses-are ∙ spelled-parts.2)
      (ap (list_all (λ a. nat_lt a shape.vaddrs)) addresses-are ∙ below-all tells shape stored p l.header.addresses count l.restored)

  unlisted : (v : ℕ) → place p.frozen v ≡ None → page_of p v ≡ None
  unlisted v is = l.restored.others v (none-any (λ a. a == v) p.frozen.addresses (λ x m. ne_eqb x v (λ e. position-has p.frozen.addresses v (subst (Has p.frozen.addresses) e m) is)))

  -- each runs with its image
  pub runs-listed : IsPages p → (i : ℕ) → i < length p.frozen.addresses → page_of p (get_or p.frozen.addresses i 0) ≡ Some (get_or p.frozen.images i [])
  runs-listed stands i lt =
      ap (λ (xs : List ℕ). page_of p (get_or xs i 0)) addresses-are
      ∙ l.restored.each i (let e = ap length addresses-are in omega (arith, e, lt))
      ∙ slice_get-get_or p.frozen.images i [] (let e = stands.frozen_images in omega (arith, e, lt))

  pub apart-listed : (v : ℕ) → 1 ≤ v → v < 67 → page_of p v ≡ None
  apart-listed v low high = by (place p.frozen v) refl
    where
      at : (i : ℕ) → get_or p.frozen.addresses i 0 ≡ v → (get_or p.frozen.addresses i 0 ≡ 0) ⊎ (67 ≤ get_or p.frozen.addresses i 0) → ⊥
      at i e (inl zero) = omega (arith, low, e, zero)
      at i e (inr far) = omega (arith, high, e, far)

      by : (o : Option ℕ) → place p.frozen v ≡ o → page_of p v ≡ None
      by None is = unlisted v is
      by (Some i) is =
          let q = position-Some (λ a. a == v) p.frozen.addresses i 0 is in
          absurd (at i (eqb-true (get_or p.frozen.addresses i 0) v q.1) (rise_home p.frozen.addresses i (ap are_home_addresses addresses-are ∙ spelled-parts.2) q.0))

  -- where it is told what is stored, they are those of the transaction that counts
  module _ (t : tells) (f : VirtualMap) (same : (v : ℕ) → v < 67 → stored v ≡ f v) (h : HeaderRec) (counts : counting shape f ≡ Some h) (number : ℕ) (next : number + 1 ≡ next_number shape f) where
    begins : head shape (f 1) ≡ Some h
    begins = (counting_is shape f h counts).0

    header-is : l.header ≡ h
    header-is = same_Some l.header h (sym (l.stands t) ∙ ap (head shape) (same 1 (omega arith)) ∙ begins)

    number-is : h.number ≡ number
    number-is =
        let ends = (counting_is shape f h counts).1 in
        let e : next_number shape f ≡ 1 + max h.number h.number = next_is shape f ∙ (λ i. 1 + max (header_number (begins i)) (commit_number (ends i))) in
        omega (arith, e, next)

    counted-as : counting shape f ≡ Some (header number p.frozen)
    counted-as = counts ∙ (λ i. Some (record { number = number-is i; addresses = (ap (λ (r : HeaderRec). r.addresses) (sym header-is) ∙ sym addresses-are) i }))

    image-at : (i : ℕ) → i < length p.frozen.addresses → slice_get p.frozen.images i ≡ stored (2 + i)
    image-at i lt = l.restored.images t i (let e = ap length addresses-are in omega (arith, e, lt))

    pub has-images : IsPages p → HasImages f number p.frozen shape
    has-images stands = record {
      counts = counted-as;
      images = λ i lt.
          let few = few-listed in
          sym (same (2 + i) (omega (arith, lt, few))) ∙ sym (image-at i lt) ∙ slice_get-get_or p.frozen.images i [] (let e = stands.frozen_images in omega (arith, e, lt));
    }

    pub committed-is : IsPages p → (v : ℕ) → running_over stored p v ≡ committed shape stored v
    unfolding running_over
    committed-is stands v = by (place p.frozen v) refl ∙ sym (committed_over shape stored v number p.frozen (counting_same shape stored f same ∙ counted-as))
      where
        some : (o s : Option (List ℕ)) (x : List ℕ) → o ≡ Some x → or_stored o s ≡ o
        some o s x is = ap (λ (q : Option (List ℕ)). or_stored q s) is ∙ sym is

        by : (o : Option ℕ) → place p.frozen v ≡ o → or_stored (page_of p v) (stored v) ≡ home_or_image stored v (place p.frozen v)
        by None is =
            ap (λ (o : Option (List ℕ)). or_stored o (stored v)) (unlisted v is)
            ∙ ap (home_or_image stored v) (sym is)
        by (Some i) is =
            let q = position-Some (λ a. a == v) p.frozen.addresses i 0 is in
            let at : page_of p v ≡ Some (get_or p.frozen.images i []) = ap (page_of p) (sym (eqb-true (get_or p.frozen.addresses i 0) v q.1)) ∙ runs-listed stands i q.0 in
            some (page_of p v) (stored v) (get_or p.frozen.images i []) at
            ∙ at ∙ sym (slice_get-get_or p.frozen.images i [] (let e = stands.frozen_images in let lt = q.0 in omega (arith, e, lt))) ∙ image-at i q.0 ∙ ap (home_or_image stored v) (sym is)

-- ---- where none counts

pub none-running : (count : ℕ) (v : ℕ) → page_of (no_pages count) v ≡ None
unfolding no_pages
none-running count v = none-at count v

pub none-committed : (shape : Shape) (stored : VirtualMap) (p : Pages) → ((v : ℕ) → page_of p v ≡ None) → counting shape stored ≡ None → (v : ℕ) → running_over stored p v ≡ committed shape stored v
unfolding running_over
none-committed shape stored p none counts v = ap (λ (o : Option (List ℕ)). or_stored o (stored v)) (none v) ∙ sym (committed_alone shape stored v counts)
