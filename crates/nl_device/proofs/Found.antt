-- What is kept of a scan: the physical pages that it saw, with their spare block and their places.
use Rattle.std.proofs.Common.{◌≡◌, ℕ, ◌+◌, ◌/◌, ◌<◌, ◌≤◌, Bool, true, false, nat_le, not, ◌&&◌, ◌||◌, cond, List, [], ◌∷◌, map, max, Option, Some, None, option_map, refl, ◌∙◌, ap, arith}
use Rattle.std.specs.Prelude.{◌==◌, All, filter, filter_map, find, fold}
use Rattle.std.specs.List.{cons_option, list_all, list_any, range_with_len}
use Rattle.std.proofs.lemmas.List.Elements.{All-cons, All-nil}
use Rattle.nl_field.specs.Medium.{Readable, first_physical, is_physical_rec, readable_pages, shape_of_image}
use Rattle.nl_field.specs.Page.{Image}
use Rattle.nl_field.specs.ScanList.{holds_seen, is_lost_seen, owns_seen, physical_seen, physical_spare_seen, place_seen, seen_of}
use Rattle.nl_field.specs.Space.{is_outside}
use Rattle.nl_field.specs.SpareRecord.{stamp_of}
use Rattle.nl_field.specs.declared.pointer.Pointer.{Pointer}
use Rattle.nl_field.specs.declared.pointer.Tag.{Tag}
use Rattle.nl_field.specs.declared.seen.Seen.{Seen}
use Rattle.nl_field.specs.declared.shape.Shape.{Shape}
use Rattle.nl_field.specs.declared.spare.SpareRec.{SpareRec}
use Rattle.nl_field.specs.declared.spare.SpareRec.TheVariants.{Virtual, Physical}
use Rattle.nl_scan.specs.Tables.{IsTableOf, ScanTable, greatest_stamp}
use Rattle.nl_field.proofs.ScanLists.{each as listed}
use Rattle.nl_device.specs.Kept.{KeptPages, has_stamp, kept_from, kept_of_scan, kept_pages, place_among, spare_among, with_record}
use Rattle.nl_device.specs.Retain.{is_stale, owns_name}
use Rattle.nl_device.specs.declared.kept.page.KeptPage.{KeptPage}
use Rattle.nl_device.proofs.Gathered.{all_kept}

-- each stamp is at most the greatest
start_below : (seen : List Seen) (best : ℕ) → best ≤ fold (λ b s. max b (stamp_of s.rec)) best seen
start_below [] best = omega arith
start_below (s ∷ seen) best = let more = start_below seen (max best (stamp_of s.rec)) in omega (arith, more)

each_below : (seen : List Seen) (best : ℕ) → All (λ s. stamp_of s.rec ≤ fold (λ b s. max b (stamp_of s.rec)) best seen) seen
each_below [] best = All-nil (λ s. stamp_of s.rec ≤ best)
each_below (s ∷ seen) best =
    All-cons (λ x. stamp_of x.rec ≤ fold (λ b y. max b (stamp_of y.rec)) (max best (stamp_of s.rec)) seen) s seen
    (let more = start_below seen (max best (stamp_of s.rec)) in omega (arith, more))
    (each_below seen (max best (stamp_of s.rec)))

-- the stamps that are kept are below the next one of the scan
pub kept_below : (low : ℕ) (seen : List Seen) → All (λ k. k.stamp < 1 + greatest_stamp seen) (kept_pages low seen)
unfolding kept_pages greatest_stamp
kept_below low seen = all_kept low (λ s. stamp_of s.rec ≤ fold (λ b y. max b (stamp_of y.rec)) 0 seen) (λ k. k.stamp < 1 + fold (λ b y. max b (stamp_of y.rec)) 0 seen)
    (λ s k of le. omega (arith, of.stamp, le)) seen (each_below seen 0)

-- a page of the physical segment
abbrev pub own : ℕ → Readable → Bool
own low r = nat_le low r.page && is_physical_rec r.rec

abbrev seen_from : ℕ → Seen → Bool
seen_from low s = nat_le low s.page && is_physical_rec s.rec

any_one : (P : ℕ → ℕ → Bool) (page zeros : ℕ) (rec : SpareRec) (agrees low : Bool) (rest : List KeptPage) (others : List Seen) → list_any (λ k. P k.page k.stamp) rest ≡ list_any (λ s. P s.page (stamp_of s.rec)) others
    → list_any (λ k. P k.page k.stamp) (cons_option (cond low (with_record page rec) None) rest)
    ≡ list_any (λ s. P s.page (stamp_of s.rec)) (cond (low && is_physical_rec rec) (record { page = page; rec = rec; zeros = zeros; agrees = agrees } ∷ others) others)
any_one P page zeros (Virtual vaddr stamp wear) agrees true rest others same = same
any_one P page zeros (Virtual vaddr stamp wear) agrees false rest others same = same
any_one P page zeros (Physical tag stamp wear) agrees true rest others same = ap (λ b. P page stamp || b) same
any_one P page zeros (Physical tag stamp wear) agrees false rest others same = same

any_same : (low : ℕ) (P : ℕ → ℕ → Bool) (ss : List Seen) → list_any (λ k. P k.page k.stamp) (filter_map (kept_from low) ss) ≡ list_any (λ s. P s.page (stamp_of s.rec)) (filter (seen_from low) ss)
any_same low P [] = refl
any_same low P (s ∷ ss) = any_one P s.page s.zeros s.rec s.agrees (nat_le low s.page) (filter_map (kept_from low) ss) (filter (seen_from low) ss) (any_same low P ss)

all_one : (P : ℕ → ℕ → Bool) (page zeros : ℕ) (rec : SpareRec) (agrees low : Bool) (rest : List KeptPage) (others : List Seen) → list_all (λ k. P k.page k.stamp) rest ≡ list_all (λ s. P s.page (stamp_of s.rec)) others
    → list_all (λ k. P k.page k.stamp) (cons_option (cond low (with_record page rec) None) rest)
    ≡ list_all (λ s. P s.page (stamp_of s.rec)) (cond (low && is_physical_rec rec) (record { page = page; rec = rec; zeros = zeros; agrees = agrees } ∷ others) others)
all_one P page zeros (Virtual vaddr stamp wear) agrees true rest others same = same
all_one P page zeros (Virtual vaddr stamp wear) agrees false rest others same = same
all_one P page zeros (Physical tag stamp wear) agrees true rest others same = ap (λ b. P page stamp && b) same
all_one P page zeros (Physical tag stamp wear) agrees false rest others same = same

all_same : (low : ℕ) (P : ℕ → ℕ → Bool) (ss : List Seen) → list_all (λ k. P k.page k.stamp) (filter_map (kept_from low) ss) ≡ list_all (λ s. P s.page (stamp_of s.rec)) (filter (seen_from low) ss)
all_same low P [] = refl
all_same low P (s ∷ ss) = all_one P s.page s.zeros s.rec s.agrees (nat_le low s.page) (filter_map (kept_from low) ss) (filter (seen_from low) ss) (all_same low P ss)

find_step : (page stamp zeros : ℕ) (tag : Tag) (rec : SpareRec) (agrees b : Bool) (x : Option KeptPage) (y : Option Seen) → option_map (λ k. k.page) x ≡ option_map (λ s. s.page) y
    → option_map (λ k. k.page) (cond b (Some (record { page = page; stamp = stamp; tag = tag })) x) ≡ option_map (λ s. s.page) (cond b (Some (record { page = page; rec = rec; zeros = zeros; agrees = agrees })) y)
find_step page stamp zeros tag rec agrees true x y same = refl
find_step page stamp zeros tag rec agrees false x y same = same

find_one : (P : ℕ → ℕ → Bool) (page zeros : ℕ) (rec : SpareRec) (agrees low : Bool) (rest : List KeptPage) (others : List Seen)
    → option_map (λ k. k.page) (find (λ k. P k.page k.stamp) rest) ≡ option_map (λ s. s.page) (find (λ s. P s.page (stamp_of s.rec)) others)
    → option_map (λ k. k.page) (find (λ k. P k.page k.stamp) (cons_option (cond low (with_record page rec) None) rest))
    ≡ option_map (λ s. s.page) (find (λ s. P s.page (stamp_of s.rec)) (cond (low && is_physical_rec rec) (record { page = page; rec = rec; zeros = zeros; agrees = agrees } ∷ others) others))
find_one P page zeros (Virtual vaddr stamp wear) agrees true rest others same = same
find_one P page zeros (Virtual vaddr stamp wear) agrees false rest others same = same
find_one P page zeros (Physical tag stamp wear) agrees true rest others same =
    find_step page stamp zeros tag (Physical tag stamp wear) agrees (P page stamp) (find (λ k. P k.page k.stamp) rest) (find (λ s. P s.page (stamp_of s.rec)) others) same
find_one P page zeros (Physical tag stamp wear) agrees false rest others same = same

find_same : (low : ℕ) (P : ℕ → ℕ → Bool) (ss : List Seen) → option_map (λ k. k.page) (find (λ k. P k.page k.stamp) (filter_map (kept_from low) ss)) ≡ option_map (λ s. s.page) (find (λ s. P s.page (stamp_of s.rec)) (filter (seen_from low) ss))
find_same low P [] = refl
find_same low P (s ∷ ss) = find_one P s.page s.zeros s.rec s.agrees (nat_le low s.page) (filter_map (kept_from low) ss) (filter (seen_from low) ss) (find_same low P ss)

find_cong : (p q : ℕ → Bool) (xs : List ℕ) → ((x : ℕ) → p x ≡ q x) → find p xs ≡ find q xs
find_cong p q [] same = refl
find_cong p q (x ∷ xs) same = λ i. cond (same x i) (Some x) (find_cong p q xs same i)

all_cong : (p q : Seen → Bool) (ss : List Seen) → ((s : Seen) → p s ≡ q s) → list_all p ss ≡ list_all q ss
all_cong p q [] same = refl
all_cong p q (s ∷ ss) same = λ i. same s i && all_cong p q ss same i

-- the spare block is that of the list
pub spare_is : (shape : Shape) (seen : List Seen) (stamps : List ℕ) → spare_among (kept_of_scan shape seen) stamps ≡ physical_spare_seen shape seen stamps
unfolding spare_among physical_spare_seen kept_pages physical_seen
spare_is shape seen stamps =
    let low = first_physical shape in
    find_cong _ _ (range_with_len shape.vblocks shape.pblocks) (λ block.
    all_same low (λ page stamp. not (page / shape.pages == block && list_any (λ s. s == stamp) stamps) || list_any (λ q. not (q.page / shape.pages == block) && q.stamp == stamp) (filter_map (kept_from low) seen)) seen
    ∙ all_cong _ _ (filter (seen_from low) seen) (λ r.
    ap (λ b. not (r.page / shape.pages == block && list_any (λ s. s == stamp_of r.rec) stamps) || b) (any_same low (λ page stamp. not (page / shape.pages == block) && stamp == stamp_of r.rec) seen)))

-- the place of a pointer is that of the list
pub place_is : (shape : Shape) (seen : List Seen) (spare : Option ℕ) (p : Pointer) → place_among (kept_of_scan shape seen) spare p ≡ place_seen shape seen spare p
unfolding place_among place_seen has_stamp holds_seen kept_pages physical_seen
place_is shape seen spare p =
    let low = first_physical shape in
    λ i. cond (any_same low (λ page stamp. page == p.name && stamp == p.stamp) seen i && is_outside shape.pages spare p.name) (Some p.name)
    (find_same low (λ page stamp. stamp == p.stamp && is_outside shape.pages spare page) seen i)

-- a pointer is lost, and owns its name, as the list tells
pub lost_is : (shape : Shape) (seen : List Seen) (p : Pointer) → is_stale (kept_of_scan shape seen) p ≡ is_lost_seen shape seen p
unfolding has_stamp holds_seen kept_pages physical_seen
lost_is shape seen p = ap not (any_same (first_physical shape) (λ page stamp. page == p.name && stamp == p.stamp) seen)

pub owns_is : (shape : Shape) (seen : List Seen) (p : Pointer) → owns_name (kept_of_scan shape seen) p ≡ owns_seen shape seen p
unfolding has_stamp holds_seen owns_seen kept_pages physical_seen
owns_is shape seen p =
    λ i. any_same (first_physical shape) (λ page stamp. page == p.name && stamp == p.stamp) seen i || not (any_same (first_physical shape) (λ page stamp. page == p.name) seen i)

-- a stamp has a page in what is kept of a scan as the list tells
pub stamp_is : (shape : Shape) (seen : List Seen) (stamp : ℕ) → list_any (λ k. k.stamp == stamp) (kept_of_scan shape seen).pages ≡ list_any (λ s. stamp_of s.rec == stamp) (physical_seen shape seen)
unfolding kept_pages physical_seen
stamp_is shape seen stamp = any_same (first_physical shape) (λ page other. other == stamp) seen

-- what is kept of a scan of this image
pub record IsOf (image : Image) (kept : KeptPages) : Type 0 where
  pub first : kept.first ≡ (shape_of_image image).vblocks
  pub count : kept.count ≡ (shape_of_image image).pblocks
  pub size : kept.size ≡ image.pages
  pub pages : kept.pages ≡ filter_map (kept_from (first_physical (shape_of_image image))) (map (seen_of image) (readable_pages image))

pub is_of : (image : Image) (t : ScanTable) → IsTableOf image t → kept_pages (first_physical (shape_of_image image)) t.seen ≡ filter_map (kept_from (first_physical (shape_of_image image))) (map (seen_of image) (readable_pages image))
unfolding kept_pages
is_of image t is = ap (filter_map (kept_from (first_physical (shape_of_image image)))) (is.each_page ∙ listed image)
