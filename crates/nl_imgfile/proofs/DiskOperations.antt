-- What an operation on a medium in a store leaves.
use Rattle.std.proofs.Common.{◌≡◌, ◌⊎◌, inl, inr, ⊎_elim, ℕ, zero, suc, ◌+◌, ◌*◌, ◌<◌, ◌≤◌, Bool, true, false, List, length, refl, sym, ◌∙◌, ap, subst, IsTrue, arith}
use Rattle.std.proofs.Math.Nat.{eq-or-lt_of_le, mul-le-mul_right}
use Rattle.std.proofs.lemmas.Bool.{cases_eq, cases_lt, false≢true, lt-ltb, le-ltb}
use Rattle.nl_field.specs.Page.{Page, PageBytes, erased, uncorrectable, Image, page_at}
use Rattle.nl_nand.specs.Nand.{Filled, Cut, OperationLeaves, ticked, SameImageShape, IsBlank, CanProgram, ReadsMediumPage, CrashLeaves}
use Rattle.nl_nand.specs.declared.geometry.Geometry.{Geometry}
use Rattle.nl_nand.specs.declared.answers.ReadAnswer.{ReadAnswer}
use Rattle.nl_nand.specs.declared.answers.WriteAnswer.{WriteAnswer}
use Rattle.nl_nand.specs.declared.answers.WriteAnswer.TheVariants as write
use Rattle.nl_store.specs.Store.{window, KillLeaves}
use Rattle.nl_store.specs.declared.answers.StoreAnswer.{StoreAnswer}
use Rattle.nl_store.specs.declared.answers.StoreAnswer.TheVariants as store
use Rattle.nl_imgfile.specs.Header.{geometry_of as geometry_of_header, unformed}
use Rattle.nl_imgfile.specs.Layout.{position}
use Rattle.nl_imgfile.specs.PageRecord.{page_of}
use Rattle.nl_imgfile.specs.DiskImage.{page_here, image_in, image_of_store, geometry_in_store, SameHeader, SameOrBlank, AllErased, PagesFilled, PagesCut, PagesLeave}
use Rattle.nl_imgfile.specs.DiskMedium.{clock_of, contents_of, left_of, CountedAs, IsHeaded, IsHeadedOrErased}
use Rattle.nl_imgfile.specs.DiskLaws.{length-pages, page_of_image, page_past_image}
use Rattle.nl_imgfile.specs.declared.disk_nand.DiskNand.{DiskNand}

-- the geometry in a header
pub geometry_whole : (b out : List ℕ) → length out ≡ 4096 → 0 + length out ≤ length b → out ≡ window 0 (length out) b → geometry_of_header out ≡ geometry_in_store b
unfolding geometry_in_store
geometry_whole b out size within is =
    let long : 4096 ≤ length b = omega (arith, size, within) in
    let read : out ≡ window 0 4096 b = is ∙ ap (λ (n : ℕ). window 0 n b) size in
    rw (le-ltb (length b) 4096 long) (ap geometry_of_header read)

pub geometry_short : (b : List ℕ) (n : ℕ) → n ≡ 4096 → length b < 0 + n → unformed ≡ geometry_in_store b
unfolding geometry_in_store
geometry_short b n size short = let less : length b < 4096 = omega (arith, size, short) in rw (lt-ltb (length b) 4096 less) refl

-- a medium that has a page has a header
short_store : (b : List ℕ) → length b < 4096 → geometry_in_store b ≡ unformed
unfolding geometry_in_store
short_store b short = rw (lt-ltb (length b) 4096 short) refl

pub long_with_pages : (b : List ℕ) (g : Geometry) → geometry_in_store b ≡ g → 0 < g.blocks → 4096 ≤ length b
long_with_pages b g is some = elim (cases_lt (length b) 4096) [
  | inl short ↦ let none : g.blocks ≡ 0 = ap (λ (n : Geometry). n.blocks) (sym is ∙ short_store b short) in absurd (omega (arith, some, none))
  | inr long ↦ long
]

pub some_blocks : (blocks pages page : ℕ) → page < blocks * pages → 0 < blocks
some_blocks zero pages page within = absurd (omega (arith, within))
some_blocks (suc n) pages page within = omega arith

-- two geometries are the same, or not
same_or_other : (g h : Geometry) → (g ≡ h) ⊎ (g ≡ h → ⊥)
same_or_other g h = elim (cases_eq g.blocks h.blocks) [
  | inr other ↦ inr (λ is. other (ap (λ (n : Geometry). n.blocks) is))
  | inl blocks ↦ elim (cases_eq g.pages h.pages) [
    | inr other ↦ inr (λ is. other (ap (λ (n : Geometry). n.pages) is))
    | inl pages ↦ inl (λ i. record { blocks = blocks i; pages = pages i })
  ]
]

-- images
pub blank_image : (g : Geometry) (b : List ℕ) → AllErased b → IsBlank (image_in g b)
blank_image g b blank p = elim (cases_lt p (g.blocks * g.pages)) [
  | inl within ↦ page_of_image g b p within ∙ blank p
  | inr past ↦ page_past_image g b p past
]

shape : (g : Geometry) (a b : List ℕ) → SameImageShape (image_in g a) (image_in g b)
shape g a b = record { same_blocks = refl; same_pages = refl; same_length = length-pages 0 (g.blocks * g.pages) b ∙ sym (length-pages 0 (g.blocks * g.pages) a) }

same_page : (g : Geometry) (a b : List ℕ) (p : ℕ) → page_here b p ≡ page_here a p → page_at (image_in g b) p ≡ page_at (image_in g a) p
same_page g a b p same = elim (cases_lt p (g.blocks * g.pages)) [
  | inl within ↦ page_of_image g b p within ∙ same ∙ sym (page_of_image g a p within)
  | inr past ↦ page_past_image g b p past ∙ sym (page_past_image g a p past)
]

pub filled_image : (g : Geometry) (low high : ℕ) (value : Page) (a b : List ℕ) → high ≤ g.blocks * g.pages → PagesFilled low high value a b → Filled low high value (image_in g a) (image_in g b)
filled_image g low high value a b within filled = record {
  shape = shape g a b;
  inside = λ p from below. page_of_image g b p (omega (arith, below, within)) ∙ filled.inside p from below;
  outside = λ p apart. same_page g a b p (filled.outside p apart);
}

pub cut_image : (g : Geometry) (low high : ℕ) (value : Page) (a b : List ℕ) → high ≤ g.blocks * g.pages → PagesCut low high value a b → Cut low high value (image_in g a) (image_in g b)
cut_image g low high value a b within cut = record { shape = shape g a b; each = λ p. ⊎_elim (λ same. inl (same_page g a b p same)) (λ here. inr (here.0, here.1, turns p here.1 here.2)) (cut.each p) }
  where
    turns : (p : ℕ) → p < high → (page_here b p ≡ value) ⊎ (page_here b p ≡ uncorrectable) → (page_at (image_in g b) p ≡ value) ⊎ (page_at (image_in g b) p ≡ uncorrectable)
    turns p below (inl new) = inl (page_of_image g b p (omega (arith, below, within)) ∙ new)
    turns p below (inr lost) = inr (page_of_image g b p (omega (arith, below, within)) ∙ lost)

-- what was counted as done was done, and the bytes stay
pub done_only : {S : Type 0} (bytes : S → List ℕ) (moment : S → ℕ) (left : S → ℕ → List ℕ → Type 0) (w : StoreAnswer) (a : WriteAnswer) (old new : S) → CountedAs bytes moment left w a old new → a ≡ write.Done → w ≡ store.Done
done_only bytes moment left store.Done write.Done old new c is = refl
done_only bytes moment left store.Done write.Failed old new c is = absurd c
done_only bytes moment left store.Failed write.Done old new c is = absurd c
done_only bytes moment left store.Failed write.Failed old new c is = absurd (cc is)

pub bytes_counted : {S : Type 0} (bytes : S → List ℕ) (moment : S → ℕ) (left : S → ℕ → List ℕ → Type 0) (w : StoreAnswer) (a : WriteAnswer) (old new : S) → CountedAs bytes moment left w a old new → bytes new ≡ bytes old
bytes_counted bytes moment left store.Done write.Done old new c = c.same_bytes
bytes_counted bytes moment left store.Done write.Failed old new c = absurd c
bytes_counted bytes moment left store.Failed write.Done old new c = absurd c
bytes_counted bytes moment left store.Failed write.Failed old new c = ap bytes c

pub block_fits : (block blocks pages : ℕ) → block < blocks → block * pages + pages ≤ blocks * pages
block_fits block blocks pages less = let le : (block + 1) * pages ≤ blocks * pages = mul-le-mul_right pages (omega arith) in omega (arith, le)

module _ {S : Type 0} (tells : Bool) (bytes : S → List ℕ) (moment : S → ℕ) (left : S → ℕ → List ℕ → Type 0) where
  -- the page that is to be programmed is erased
  pub blank_here : (d : DiskNand S) (page : ℕ) → IsTrue tells → page < d.geometry.blocks * d.geometry.pages → (IsTrue tells → CanProgram (contents_of tells bytes d) page) → page_here (bytes d.store) page ≡ erased
  blank_here d page t within can = told tells t (can t)
    where
      told : (b : Bool) → IsTrue b → CanProgram (contents_of b bytes d) page → page_here (bytes d.store) page ≡ erased
      told true t c = sym (page_of_image d.geometry (bytes d.store) page within) ∙ c.rest_erased page (omega arith) c.below
      told false t c = absurd (false≢true t)

  -- a read
  pub reads : (d : DiskNand S) (page : ℕ) (r : List ℕ) (buf : PageBytes) (answer : ReadAnswer) → IsTrue tells → page < d.geometry.blocks * d.geometry.pages → r ≡ window (position page) 4168 (bytes d.store) → ReadsMediumPage (page_of r) buf answer
      → ReadsMediumPage (page_at (contents_of tells bytes d) page) buf answer
  unfolding page_here
  reads d page r buf answer t within is told = subst (λ (p : Page). ReadsMediumPage p buf answer) (ap page_of is ∙ here tells t) told
    where
      here : (b : Bool) → IsTrue b → page_here (bytes d.store) page ≡ page_at (contents_of b bytes d) page
      here true t = sym (page_of_image d.geometry (bytes d.store) page within)
      here false t = absurd (false≢true t)

  -- a forming that failed
  pub blank_left : (old new : DiskNand S) → new.geometry ≡ old.geometry → IsTrue tells → KillLeaves moment left AllErased old.store new.store → (m : ℕ) (c : Image) → left_of tells moment left new m c
      → left_of tells moment left old m c ⊎ IsBlank c
  blank_left old new geometry t goes m c = by tells t
    where
      by : (x : Bool) → IsTrue x → left_of x moment left new m c → left_of x moment left old m c ⊎ IsBlank c
      by true t l = ⊎_elim
          (λ before. inl (l.0, before, l.2 ∙ ap (λ (g : Geometry). image_in g l.0) geometry))
          (λ cut. inr (λ p. ap (λ (i : Image). page_at i p) l.2 ∙ blank_image new.geometry l.0 cut.1 p))
          (goes.each m l.0 l.1)
      by false t l = absurd (false≢true t)

  -- a forming
  pub blank_medium : (d : DiskNand S) → IsTrue tells → AllErased (bytes d.store) → IsBlank (contents_of tells bytes d)
  blank_medium d t blank p = by tells t
    where
      by : (b : Bool) → IsTrue b → page_at (contents_of b bytes d) p ≡ erased
      by true t = blank_image d.geometry (bytes d.store) blank p
      by false t = absurd (false≢true t)

  -- a program or an erase
  module _ (low high : ℕ) (value : Page) (old new : DiskNand S) (mid : S) (written : StoreAnswer) (answer : WriteAnswer) (geometry : new.geometry ≡ old.geometry)
      (within : high ≤ old.geometry.blocks * old.geometry.pages) (counts : CountedAs bytes moment left written answer mid new.store) where
    bytes_kept : (w : StoreAnswer) (a : WriteAnswer) → CountedAs bytes moment left w a mid new.store → bytes new.store ≡ bytes mid
    bytes_kept store.Done write.Done c = c.same_bytes
    bytes_kept store.Done write.Failed c = absurd c
    bytes_kept store.Failed write.Done c = absurd c
    bytes_kept store.Failed write.Failed c = ap bytes c

    leaves : (w : StoreAnswer) (a : WriteAnswer) (b : List ℕ) → CountedAs bytes moment left w a mid new.store → PagesLeave low high value (bytes old.store) w b → OperationLeaves low high value (image_in old.geometry (bytes old.store)) a (image_in old.geometry b)
    leaves store.Done write.Done b c l = filled_image old.geometry low high value (bytes old.store) b within l
    leaves store.Done write.Failed b c l = absurd c
    leaves store.Failed write.Done b c l = absurd c
    leaves store.Failed write.Failed b c l = cut_image old.geometry low high value (bytes old.store) b within l

    pub effect : IsTrue tells → PagesLeave low high value (bytes old.store) written (bytes mid) → OperationLeaves low high value (contents_of tells bytes old) answer (contents_of tells bytes new)
    effect t told = by tells t
      where
        new_image : image_in old.geometry (bytes mid) ≡ image_in new.geometry (bytes new.store)
        new_image i = image_in (sym geometry i) (sym (bytes_kept written answer counts) i)

        by : (b : Bool) → IsTrue b → OperationLeaves low high value (contents_of b bytes old) answer (contents_of b bytes new)
        by true t = subst (λ (c : Image). OperationLeaves low high value (image_in old.geometry (bytes old.store)) answer c) new_image (leaves written answer (bytes mid) counts told)
        by false t = absurd (false≢true t)

    one_more : (m clock now : ℕ) → clock ≤ now → now ≤ clock + 1 → m ≤ now → (m ≤ clock) ⊎ (m ≡ now)
    one_more m clock now later near under = ⊎_elim (λ same. inr same) (λ below. inl (omega (arith, below, near))) (eq-or-lt_of_le {n = m} {m = now} under)

    ticked_near : (clock : ℕ) (a : WriteAnswer) → ticked clock a ≤ clock + 1
    ticked_near clock write.Done = omega arith
    ticked_near clock write.Failed = omega arith

    left_since : (w : StoreAnswer) (a : WriteAnswer) → CountedAs bytes moment left w a mid new.store → (m : ℕ) (b : List ℕ) → left new.store m b → left mid m b ⊎ ((m ≡ moment new.store) × (b ≡ bytes new.store))
    left_since store.Done write.Done c m b l = c.each m b l
    left_since store.Done write.Failed c m b l = absurd c
    left_since store.Failed write.Done c m b l = absurd c
    left_since store.Failed write.Failed c m b l = inl (subst (λ (s : S). left s m b) c l)

    left_kept : (w : StoreAnswer) (a : WriteAnswer) → CountedAs bytes moment left w a mid new.store → (m : ℕ) (b : List ℕ) → left mid m b → left new.store m b
    left_kept store.Done write.Done c m b l = c.keeps m b l
    left_kept store.Done write.Failed c m b l = absurd c
    left_kept store.Failed write.Done c m b l = absurd c
    left_kept store.Failed write.Failed c m b l = subst (λ (s : S). left s m b) (sym c) l

    pub crash : moment old.store ≤ moment new.store → moment new.store ≡ ticked (moment old.store) answer → (IsTrue tells → KillLeaves moment left (PagesCut low high value (bytes old.store)) old.store mid)
        → CrashLeaves (clock_of moment) (contents_of tells bytes) (left_of tells moment left) low high value old new
    crash later ticks goes = by tells (λ t. t)
      where
        image_now : (b : List ℕ) → image_in new.geometry b ≡ image_in old.geometry b
        image_now b = ap (λ (g : Geometry). image_in g b) geometry

        by : (b : Bool) → (IsTrue b → IsTrue tells) → CrashLeaves (clock_of moment) (contents_of b bytes) (left_of b moment left) low high value old new
        by true is = record {
          later = later;
          each = λ m c l. ⊎_elim
              (λ before. ⊎_elim (λ first. inl (l.0, first, l.2 ∙ image_now l.0))
              (λ within_it. inr (inl (within_it.0, subst (Cut low high value (image_in old.geometry (bytes old.store))) (sym (l.2 ∙ image_now l.0)) (cut_image old.geometry low high value (bytes old.store) l.0 within within_it.1))))
              ((goes (is refl)).each m l.0 before))
              (λ now. inr (inr (now.0, l.2 ∙ ap (image_in new.geometry) now.1)))
              (left_since written answer counts m l.0 l.1);
          keeps = λ m c l. (l.0, left_kept written answer counts m l.0 ((goes (is refl)).keeps m l.0 l.1), l.2 ∙ sym (image_now l.0));
        }
        by false is =
            let near : moment new.store ≤ moment old.store + 1 = rw ticks (ticked_near (moment old.store) answer) in
            record {
              later = later;
              each = λ m c l. ⊎_elim (λ before. inl (before, l.1)) (λ now. inr (inr (now, l.1))) (one_more m (moment old.store) (moment new.store) later near l.0);
              keeps = λ m c l. (omega (arith, l.0, later), l.1);
            }

    -- the header stays, also in what a kill may have left
    header_of : (w : StoreAnswer) (b : List ℕ) → PagesLeave low high value (bytes old.store) w b → SameHeader (bytes old.store) b
    header_of store.Done b l = l.header
    header_of store.Failed b l = l.header

    pub headed : left old.store (moment old.store) (bytes old.store) → 0 < old.geometry.blocks → PagesLeave low high value (bytes old.store) written (bytes mid)
        → KillLeaves moment left (PagesCut low high value (bytes old.store)) old.store mid → IsHeaded left old → IsHeaded left new
    headed here some told goes had =
        let now : geometry_in_store (bytes old.store) ≡ old.geometry = had.each (moment old.store) (bytes old.store) here in
        let long : 4096 ≤ length (bytes old.store) = long_with_pages (bytes old.store) old.geometry now some in
        let kept = bytes_kept written answer counts in
        let same = header_of written (bytes mid) told in
        let mid_header : geometry_in_store (bytes mid) ≡ new.geometry = same.same long ∙ now ∙ sym geometry in
        record {
          each = λ m b l. ⊎_elim
              (λ before. ⊎_elim (λ first. had.each m b first ∙ sym geometry) (λ cut. cut.1.header.same long ∙ now ∙ sym geometry) (goes.each m b before))
              (λ at. ap geometry_in_store (at.1 ∙ kept) ∙ mid_header)
              (left_since written answer counts m b l);
        }

    -- a kill within it may have left what there was and what there is
    pub reached_before : left old.store (moment old.store) (bytes old.store) → KillLeaves moment left (PagesCut low high value (bytes old.store)) old.store mid → IsTrue tells
        → left_of tells moment left new (clock_of moment old) (contents_of tells bytes old)
    reached_before had goes t = by tells t
      where
        by : (b : Bool) → IsTrue b → left_of b moment left new (clock_of moment old) (contents_of b bytes old)
        by true t = (bytes old.store, left_kept written answer counts (moment old.store) (bytes old.store) (goes.keeps (moment old.store) (bytes old.store) had), ap (λ (g : Geometry). image_in g (bytes old.store)) (sym geometry))
        by false t = absurd (false≢true t)

    pub reached_after : left mid (moment mid) (bytes mid) → moment mid ≡ moment old.store → IsTrue tells → left_of tells moment left new (clock_of moment old) (contents_of tells bytes new)
    reached_after has same t = by tells t
      where
        kept : left new.store (moment old.store) (bytes mid)
        kept = left_kept written answer counts (moment old.store) (bytes mid) (subst (λ (m : ℕ). left mid m (bytes mid)) same has)

        by : (b : Bool) → IsTrue b → left_of b moment left new (clock_of moment old) (contents_of b bytes new)
        by true t = (bytes mid, kept, ap (image_in new.geometry) (bytes_kept written answer counts))
        by false t = absurd (false≢true t)

module _ {S : Type 0} (tells : Bool) (bytes : S → List ℕ) (moment : S → ℕ) (left : S → ℕ → List ℕ → Type 0) where
  -- a medium that is attached to what a kill left
  pub attached : (killed d : DiskNand S) (m : ℕ) (b : List ℕ) → IsTrue tells → IsHeaded left killed → left killed.store m b → d.geometry ≡ geometry_in_store b → bytes d.store ≡ b
      → (d.geometry ≡ killed.geometry) × left_of tells moment left killed m (contents_of tells bytes d)
  attached killed d m b t headed l is same = (geometry, by tells t)
    where
      geometry : d.geometry ≡ killed.geometry
      geometry = is ∙ headed.each m b l

      by : (x : Bool) → IsTrue x → left_of x moment left killed m (contents_of x bytes d)
      by true t = (b, l, λ i. image_in (geometry i) (same i))
      by false t = absurd (false≢true t)

  -- the image that the bytes are is the medium's, where they tell its geometry
  pub image_told : (d : DiskNand S) → IsTrue tells → geometry_in_store (bytes d.store) ≡ d.geometry → contents_of tells bytes d ≡ image_of_store (bytes d.store)
  image_told d t is = by tells t
    where
      by : (x : Bool) → IsTrue x → contents_of x bytes d ≡ image_of_store (bytes d.store)
      by true t = ap (λ (g : Geometry). image_in g (bytes d.store)) (sym is)
      by false t = absurd (false≢true t)

  pub left_told : (d : DiskNand S) (m : ℕ) (b : List ℕ) → IsTrue tells → geometry_in_store b ≡ d.geometry → left d.store m b → left_of tells moment left d m (image_of_store b)
  left_told d m b t is l = by tells t
    where
      by : (x : Bool) → IsTrue x → left_of x moment left d m (image_of_store b)
      by true t = (b, l, ap (λ (g : Geometry). image_in g b) is)
      by false t = absurd (false≢true t)

  -- and it is blank, where they have no page but erased ones
  pub image_or_blank : (d : DiskNand S) → IsTrue tells → (geometry_in_store (bytes d.store) ≡ d.geometry) ⊎ AllErased (bytes d.store) → SameOrBlank (image_of_store (bytes d.store)) (contents_of tells bytes d)
  image_or_blank d t (inl is) = inl (image_told d t is)
  image_or_blank d t (inr blank) = inr (blank_medium tells bytes moment left d t blank, blank_image (geometry_in_store (bytes d.store)) (bytes d.store) blank)

  pub left_or_blank : (d : DiskNand S) (m : ℕ) (b : List ℕ) → IsTrue tells → (geometry_in_store b ≡ d.geometry) ⊎ AllErased b → left d.store m b
      → left_of tells moment left d m (image_of_store b) ⊎ IsBlank (image_of_store b)
  left_or_blank d m b t (inl is) l = inl (left_told d m b t is l)
  left_or_blank d m b t (inr blank) l = inr (blank_image (geometry_in_store b) b blank)

  -- a history that begins with these bytes
  pub headed_begun : (d : DiskNand S) (now : ℕ) (old : List ℕ) → ((m : ℕ) (b : List ℕ) → left d.store m b → (m ≡ now) × (b ≡ old)) → d.geometry ≡ geometry_in_store old → IsHeaded left d
  headed_begun d now old begins is = record { each = λ m b l. ap geometry_in_store (begins m b l).1 ∙ sym is }

  -- where whatever may be left tells the geometry or is erased, these bytes do
  pub told_or_erased : (d : DiskNand S) (m : ℕ) (b : List ℕ) → IsHeadedOrErased left d → left d.store m b → (geometry_in_store b ≡ d.geometry) ⊎ AllErased b
  told_or_erased d m b had l = ⊎_elim (λ is. inl is) (λ other. inr (had.each m b l other)) (same_or_other (geometry_in_store b) d.geometry)
