-- The list that a scan of an image with a long file gives is the one that is written out.
use Rattle.std.proofs.Common.{◌≡◌, ℕ, zero, suc, ◌+◌, ◌-◌, ◌*◌, ◌^◌, ◌≤◌, ◌<◌, true, cond, nat_lt, List, [], ◌∷◌, ◌++◌, length, map, filter_map, replicate, refl, sym, ap, subst, ◌∙◌, Some, option_map, ◌⊎◌, inl, inr, arith, append-nil, codes}
use Rattle.std.proofs.lemmas.Bool.{and_from, lt-ltb, le-leb, le-ltb, cond-false}
use Rattle.std.proofs.lemmas.List.{map-append}
use Rattle.std.proofs.lemmas.List.Elements.{filter_map-append}
use Rattle.std.specs.List.{range_with_len, cons_option, enumerate_from}
use Rattle.nl_field.specs.Bytes.{zeros}
use Rattle.nl_field.specs.Inode.{inode_bytes}
use Rattle.nl_field.specs.Members.{Has}
use Rattle.nl_field.specs.Medium.{Readable, stamp_on, readable, readable_pages}
use Rattle.nl_field.specs.Page.{Page, erased}
use Rattle.nl_field.specs.Scan.{agrees_below, zeros_from}
use Rattle.nl_field.specs.ScanList.{seen_in, seen_of}
use Rattle.nl_field.specs.SpareRecord.{spare_rec_of, spare_bytes, fits_spare}
use Rattle.nl_field.specs.declared.pointer.Pointer.{Pointer}
use Rattle.nl_field.specs.declared.seen.Seen.{Seen}
use Rattle.nl_field.specs.declared.spare.SpareRec.{SpareRec}
use Rattle.nl_field.specs.declared.spare.SpareRec.TheVariants.{Virtual, Physical}
use Rattle.nl_field.proofs.ScanLists.{each}
use Rattle.nl_field.proofs.SpareRecord.{spare-spelled}
use Rattle.nl_test_volume_format.specs.Phases.{at_address, data_page, super_with, dir_of, entry_for, ptr}
use Rattle.nl_test_volume_format.specs.LargeFiles.{file_of_pages, indirect_page, filled, listed_data, list_of_filled}
use Rattle.nl_meta.proofs.Lists.{member-append, member-map}
use Rattle.nl_meta.proofs.OnLiterals.{meta_on_literals}
use Rattle.nl_meta.proofs.StampProofs.{one_stamp_agrees}

-- ---- readable pages from a number on

abbrev read_from : ℕ → List Page → List Readable
read_from k pages = filter_map readable (enumerate_from k pages)

enumerate-append : (k : ℕ) (xs ys : List Page) → enumerate_from k (xs ++ ys) ≡ enumerate_from k xs ++ enumerate_from (k + length xs) ys
enumerate-append k [] ys = ap (λ (j : ℕ). enumerate_from j ys) (none k)
  where
    none : (k : ℕ) → k ≡ k + 0
    none k = omega arith
enumerate-append k (x ∷ xs) ys =
    ap (λ (zs : List (ℕ × Page)). (k, x) ∷ zs) (enumerate-append (k + 1) xs ys ∙ ap (λ (j : ℕ). enumerate_from (k + 1) xs ++ enumerate_from j ys) (shift k (length xs)))
  where
    shift : (k n : ℕ) → (k + 1) + n ≡ k + suc n
    shift k n = omega arith

read-append : (k : ℕ) (xs ys : List Page) → read_from k (xs ++ ys) ≡ read_from k xs ++ read_from (k + length xs) ys
read-append k xs ys = ap (filter_map readable) (enumerate-append k xs ys) ∙ filter_map-append readable (enumerate_from k xs) (enumerate_from (k + length xs) ys)

read-erased : (k m : ℕ) → read_from k (replicate m erased) ≡ []
read-erased k zero = refl
read-erased k (suc m) = read-erased (k + 1) m

-- ---- the data pages

abbrev record_of_data : ℕ → SpareRec
record_of_data i = Physical (record { ino = 1; generation = 1; index = i }) (10 + i) 0

abbrev read_data : ℕ → Readable
read_data i = record { page = 256 + i; rec = record_of_data i; main = zeros 4096 }

record-spelled : (i : ℕ) → i < 1000 → spare_rec_of (spare_bytes (record_of_data i)) ≡ Some (record_of_data i)
unfolding fits_spare
record-spelled i few = spare-spelled (record_of_data i) (and_from _ _ (and_from _ _ refl (lt-ltb i (2 ^ 32) (omega (arith, few)))) refl) (and_from _ _ (le-leb 1 (10 + i) (omega arith)) (lt-ltb (10 + i) (2 ^ 63) (omega (arith, few))))

read-data : (k i n : ℕ) → k ≡ 256 + i → i + n ≤ 1000 → read_from k (map (λ i. data_page i (10 + i) []) (range_with_len i n)) ≡ map read_data (range_with_len i n)
read-data k i zero e few = refl
read-data k i (suc n) e few = λ j. cons_option (one j) (read-data (k + 1) (i + 1) n (omega (arith, e)) (omega (arith, few)) j)
  where
    one : readable (k, data_page i (10 + i) []) ≡ Some (read_data i)
    one =
        ap (option_map (λ rec. record { page = k; rec = rec; main = zeros 4096 })) (record-spelled i (omega (arith, few)))
        ∙ ap (λ (p : ℕ). Some (record { page = p; rec = record_of_data i; main = zeros 4096 })) e

-- ---- the image

abbrev pointer_of : ℕ → Pointer
pointer_of i = ptr (256 + i) (10 + i)

abbrev nodes_of : ℕ → List ℕ
nodes_of n = dir_of 1 (71 ∷ []) ++ inode_bytes (file_of_pages n pointer_of)

abbrev front_pages : ℕ → List Page
front_pages n =
    at_address 67 5 (nodes_of n) ∷ at_address 0 6 (super_with 2) ∷ at_address 71 7 (entry_for 1 1 (codes "a"))
    ∷ at_address 72 8 (indirect_page n pointer_of 0) ∷ at_address 73 9 (indirect_page n pointer_of 1) ∷ []

abbrev read_at : ℕ → ℕ → ℕ → List ℕ → Readable
read_at page v stamp main = record { page = page; rec = Virtual v stamp 0; main = main ++ zeros (4096 - length main) }

abbrev read_front : ℕ → List Readable
read_front n =
    read_at 0 67 5 (nodes_of n) ∷ read_at 1 0 6 (super_with 2) ∷ read_at 2 71 7 (entry_for 1 1 (codes "a"))
    ∷ read_at 3 72 8 (indirect_page n pointer_of 0) ∷ read_at 4 73 9 (indirect_page n pointer_of 1) ∷ []

address-spelled : (v stamp : ℕ) → v < 1000 → 1 ≤ stamp → stamp < 1000 → spare_rec_of (spare_bytes (Virtual v stamp 0)) ≡ Some (Virtual v stamp 0)
unfolding fits_spare
address-spelled v stamp few above below = spare-spelled (Virtual v stamp 0) (and_from _ _ (lt-ltb v (2 ^ 32) (omega (arith, few))) refl) (and_from _ _ (le-leb 1 stamp above) (lt-ltb stamp (2 ^ 63) (omega (arith, below))))

read-front : (n : ℕ) → read_from 0 (front_pages n) ≡ read_front n
read-front n = λ j. cons_option (at 0 67 5 (nodes_of n) (omega arith) (omega arith) (omega arith) j) (cons_option (at 1 0 6 (super_with 2) (omega arith) (omega arith) (omega arith) j)
    (cons_option (at 2 71 7 (entry_for 1 1 (codes "a")) (omega arith) (omega arith) (omega arith) j)
    (cons_option (at 3 72 8 (indirect_page n pointer_of 0) (omega arith) (omega arith) (omega arith) j) (cons_option (at 4 73 9 (indirect_page n pointer_of 1) (omega arith) (omega arith) (omega arith) j) []))))
  where
    at : (page v stamp : ℕ) (main : List ℕ) → v < 1000 → 1 ≤ stamp → stamp < 1000 → readable (page, at_address v stamp main) ≡ Some (read_at page v stamp main)
    at page v stamp main few above below = ap (option_map (λ rec. record { page = page; rec = rec; main = main ++ zeros (4096 - length main) })) (address-spelled v stamp few above below)

read-filled : (n : ℕ) → n ≤ 768 → readable_pages (filled n) ≡ read_front n ++ map read_data (range_with_len 0 n)
unfolding readable_pages
read-filled n few =
    read-append 0 ((front_pages n ++ replicate 251 erased) ++ rows) (replicate (768 - length rows) erased)
    ∙ (λ j. read-append 0 (front_pages n ++ replicate 251 erased) rows j ++ read-erased (0 + length ((front_pages n ++ replicate 251 erased) ++ rows)) (768 - length rows) j)
    ∙ append-nil (read_from 0 (front_pages n ++ replicate 251 erased) ++ read_from 256 rows)
    ∙ (λ j. read-append 0 (front_pages n) (replicate 251 erased) j ++ read-data 256 0 n refl (omega (arith, few)) j)
    ∙ (λ j. (read-front n j ++ read-erased 5 251 j) ++ map read_data (range_with_len 0 n))
  where
    rows : List Page
    rows = map (λ i. data_page i (10 + i) []) (range_with_len 0 n)

-- ---- each page agrees

-- the page of a stamp
abbrev page_by : ℕ → ℕ
page_by stamp = cond (nat_lt stamp 10) (stamp - 5) (stamp + 246)

by-stamp : (n : ℕ) → n ≤ 768 → (r : Readable) → Has (readable_pages (filled n)) r → page_by (stamp_on r) ≡ r.page
by-stamp n few r m = by (member-append (read_front n) (map read_data (range_with_len 0 n)) r (subst (λ (rs : List Readable). Has rs r) (read-filled n few) m))
  where
    rows : (i : ℕ) → page_by (10 + i) ≡ 256 + i
    rows i = cond-false (nat_lt (10 + i) 10) _ _ (le-ltb (10 + i) 10 (omega arith)) ∙ omega arith

    front : Has (read_front n) r → page_by (stamp_on r) ≡ r.page
    front (inl e) = ap (λ (z : Readable). page_by (stamp_on z)) (sym e) ∙ ap (λ (z : Readable). z.page) e
    front (inr (inl e)) = ap (λ (z : Readable). page_by (stamp_on z)) (sym e) ∙ ap (λ (z : Readable). z.page) e
    front (inr (inr (inl e))) = ap (λ (z : Readable). page_by (stamp_on z)) (sym e) ∙ ap (λ (z : Readable). z.page) e
    front (inr (inr (inr (inl e)))) = ap (λ (z : Readable). page_by (stamp_on z)) (sym e) ∙ ap (λ (z : Readable). z.page) e
    front (inr (inr (inr (inr (inl e))))) = ap (λ (z : Readable). page_by (stamp_on z)) (sym e) ∙ ap (λ (z : Readable). z.page) e
    front (inr (inr (inr (inr (inr h))))) = absurd h

    by : Has (read_front n) r ⊎ Has (map read_data (range_with_len 0 n)) r → page_by (stamp_on r) ≡ r.page
    by (inl h) = front h
    by (inr h) =
        let q = member-map read_data (range_with_len 0 n) r h in
        ap (λ (z : Readable). page_by (stamp_on z)) (sym q.2) ∙ rows q.0 ∙ ap (λ (z : Readable). z.page) q.2

agrees : (n : ℕ) → n ≤ 768 → (r : Readable) → agrees_below (filled n) r ≡ true
agrees n few = one_stamp_agrees (filled n) (λ r q m k s. sym (by-stamp n few r m) ∙ ap page_by s ∙ by-stamp n few q k)

-- ---- the list

listed : ℕ → Readable → Seen
listed n r = record { page = r.page; rec = r.rec; zeros = zeros_from r.main; agrees = true }

zeros-at-0 : zeros_from (zeros 4096) ≡ 0
unfolding meta_on_literals
zeros-at-0 = refl

data-listed : (n i k : ℕ) → n ≤ 768 → map (seen_of (filled n)) (map read_data (range_with_len i k)) ≡ map listed_data (range_with_len i k)
data-listed n i zero few = refl
data-listed n i (suc k) few = λ j. record { page = 256 + i; rec = record_of_data i; zeros = zeros-at-0 j; agrees = agrees n few (read_data i) j } ∷ data-listed n (i + 1) k few j

-- where the zeros of the five metadata pages begin
pub record ZerosOf (n a b c d e : ℕ) : Type 0 where
  pub nodes : zeros_from (nodes_of n ++ zeros (4096 - length (nodes_of n))) ≡ a
  pub super_page : zeros_from (super_with 2 ++ zeros (4096 - length (super_with 2))) ≡ b
  pub entries : zeros_from (entry_for 1 1 (codes "a") ++ zeros (4096 - length (entry_for 1 1 (codes "a")))) ≡ c
  pub first : zeros_from (indirect_page n pointer_of 0 ++ zeros (4096 - length (indirect_page n pointer_of 0))) ≡ d
  pub second : zeros_from (indirect_page n pointer_of 1 ++ zeros (4096 - length (indirect_page n pointer_of 1))) ≡ e

list-is : (n : ℕ) → n ≤ 768 → ZerosOf n 453 25 10 4090 (16 * (n - 264) - 6) → seen_in (filled n) ≡ list_of_filled n
list-is n few z =
    each (filled n) ∙ ap (map (seen_of (filled n))) (read-filled n few) ∙ map-append (seen_of (filled n)) (read_front n) (map read_data (range_with_len 0 n))
    ∙ (λ j. record { page = 0; rec = Virtual 67 5 0; zeros = z.nodes j; agrees = agrees n few (read_at 0 67 5 (nodes_of n)) j }
    ∷ record { page = 1; rec = Virtual 0 6 0; zeros = z.super_page j; agrees = agrees n few (read_at 1 0 6 (super_with 2)) j }
    ∷ record { page = 2; rec = Virtual 71 7 0; zeros = z.entries j; agrees = agrees n few (read_at 2 71 7 (entry_for 1 1 (codes "a"))) j }
    ∷ record { page = 3; rec = Virtual 72 8 0; zeros = z.first j; agrees = agrees n few (read_at 3 72 8 (indirect_page n pointer_of 0)) j }
    ∷ record { page = 4; rec = Virtual 73 9 0; zeros = z.second j; agrees = agrees n few (read_at 4 73 9 (indirect_page n pointer_of 1)) j }
    ∷ [] ++ data-listed n 0 n few j)

zeros_480 : ZerosOf 480 453 25 10 4090 3450
unfolding meta_on_literals
zeros_480 = record { nodes = refl; super_page = refl; entries = refl; first = refl; second = refl }

zeros_481 : ZerosOf 481 453 25 10 4090 3466
unfolding meta_on_literals
zeros_481 = record { nodes = refl; super_page = refl; entries = refl; first = refl; second = refl }

pub full_list : seen_in (filled 480) ≡ list_of_filled 480
full_list = list-is 480 (omega arith) zeros_480

pub over_list : seen_in (filled 481) ≡ list_of_filled 481
over_list = list-is 481 (omega arith) zeros_481
