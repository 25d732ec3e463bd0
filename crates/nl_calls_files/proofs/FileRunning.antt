-- The pages of a volume stand for a tree in which one file was changed.
use Rattle.std.proofs.Common.{◌≡◌, ◌≢◌, ◌⊎◌, inl, inr, ⊎_elim, ℕ, zero, suc, ◌-◌, ◌*◌, ◌/◌, ◌%◌, ◌<◌, ◌≤◌, true, false, ◌==◌, List, [], ◌∷◌, ◌++◌, flat_map, drop, length, Option, Some, None, is_some, refl, sym, ap, subst, ◌∙◌, arith}
use Rattle.std.proofs.lemmas.Bool.{and_parts, both_ways, cases_eq, cases_lt}
use Rattle.std.proofs.lemmas.List.{get_or_past, length-map}
use Rattle.std.specs.Int.{div_ceil}
use Rattle.std.specs.Prelude.{IfSome, IsTrue}
use Rattle.nl_field.specs.Bytes.{all_zero}
use Rattle.nl_field.specs.Members as members
use Rattle.nl_field.specs.Pointers.{is_none_pointer, no_pointer}
use Rattle.nl_field.specs.declared.inode.InodeRec.{InodeRec}
use Rattle.nl_field.specs.declared.pointer.Pointer.{Pointer}
use Rattle.nl_field.specs.declared.pointer.Tag.{Tag}
use Rattle.nl_field.specs.declared.shape.Shape.{Shape}
use Rattle.nl_tree.specs.Tree.{Tree, with_content}
use Rattle.nl_iface.specs.Holders.{IsRef, always, tagged, times, wants_tagged}
use Rattle.nl_iface.specs.Names.{Has, Names}
use Rattle.nl_iface.specs.declared.counts.Counts.{Ghosts}
use Rattle.nl_inode.specs.Nodes.{Spaces}
use Rattle.nl_meta.specs.Committed.{VirtualMap}
use Rattle.nl_meta.specs.Consistent.{PointerIsThere, PageOfStamp, RightFor}
use Rattle.nl_meta.specs.Nodes.{Held, held_in, pointer_at, pointers_at}
use Rattle.nl_meta.specs.PointerLists.{IsFile, with_tag}
use Rattle.nl_meta.proofs.SlotProofs.{at_index}
use Rattle.nl_spec_image.specs.RightFor.{PagesRepresent}
use Rattle.nl_spec_image.proofs.SoundProofs.{right_charges}
use Rattle.nl_files.specs.CutRuns.{CutIsWritten}
use Rattle.nl_files.specs.InstallLaws.{FileIsInstalled}
use Rattle.nl_spec_commits.specs.Trees.{RepresentsTree}
use Rattle.nl_calls_files.specs.FileRuns.{CutHasPages, EndsWith, FileBecomes, FileRunsOn, HeldLeadOnce, InstalledHasPages, IsPageAt}
use Rattle.nl_calls_files.specs.FileTrees.{FileHasPages, held_pointer, held_content}
use Rattle.nl_calls_files.proofs.FileTrees.{file_changes_tree}
use Rattle.nl_calls_files.proofs.FilesRight.{stays_right}
use Rattle.nl_calls_files.proofs.Fits.{all_length, in_all}

-- ---- a file changes

module _ (shape : Shape) (old new : VirtualMap) (page_of_stamp : ℕ → Option PageOfStamp) (names : Names) (n : ℕ) (was is : InodeRec) (path : List (List ℕ)) (tree : Tree) (r : RepresentsTree shape old page_of_stamp tree)
    (b : FileBecomes shape old new page_of_stamp names n was is path) where
  right : RightFor shape new page_of_stamp
  right = stays_right shape old new page_of_stamp names n is (record {
    right_before = r.right;
    nodes = b.right.nodes;
    addresses = b.right.addresses;
    entries = b.right.entries;
    file = b.file_after;
    others = b.others;
    lead = b.lead;
    pages = b.pages;
  })

  abbrev changed_tree : Tree
  changed_tree = with_content tree path (held_content page_of_stamp new is)

  represents : PagesRepresent shape new page_of_stamp changed_tree
  represents = file_changes_tree shape old new page_of_stamp n was is path tree (record {
    right_before = r.right;
    right_after = right;
    file_before = b.file_before;
    file_after = b.file_after;
    others = b.others;
    leads = b.leads;
  }) r.represents

  pub runs_on : RepresentsTree shape new page_of_stamp changed_tree
  runs_on = record {
    right = right;
    represents = represents;
    data_fits =
        let charge = (right_charges shape new page_of_stamp changed_tree right represents).data_pages in
        let size = length-map (held_in shape new) with_tag in
        let few = b.few in
        omega (arith, charge, size, few);
  }

pub file_runs_on : FileRunsOn
file_runs_on shape old new page_of_stamp names n was is path tree r b = runs_on shape old new page_of_stamp names n was is path tree r b

-- ---- zeros behind a place are zeros behind a later one

zeros_later : (xs : List ℕ) (j k : ℕ) → IsTrue (all_zero (drop j xs)) → j ≤ k → IsTrue (all_zero (drop k xs))
zeros_later [] zero zero h le = h
zeros_later [] zero (suc k) h le = refl
zeros_later [] (suc j) zero h le = refl
zeros_later [] (suc j) (suc k) h le = refl
zeros_later (x ∷ xs) zero zero h le = h
zeros_later (x ∷ xs) zero (suc k) h le = zeros_later xs zero k (and_parts (x == 0) (all_zero xs) h).1 (omega arith)
zeros_later (x ∷ xs) (suc j) zero h le = absurd (omega (arith, le))
zeros_later (x ∷ xs) (suc j) (suc k) h le = zeros_later xs j k h (omega (arith, le))

zeros_past : (xs : List ℕ) (k : ℕ) → length xs ≤ k → IsTrue (all_zero (drop k xs))
zeros_past [] zero le = refl
zeros_past [] (suc k) le = refl
zeros_past (x ∷ xs) zero le = absurd (omega (arith, le))
zeros_past (x ∷ xs) (suc k) le = zeros_past xs k (omega (arith, le))

-- a page that is there is so for a size that holds what is behind it
there_again : (page_of_stamp : ℕ → Option PageOfStamp) (h k : Held) → PointerIsThere page_of_stamp h → k.tag ≡ h.tag → k.pointer ≡ h.pointer → (h.size - 4096 * h.tag.index ≤ k.size - 4096 * h.tag.index) ⊎ (4096 ≤ k.size - 4096 * h.tag.index)
    → PointerIsThere page_of_stamp k
there_again page_of_stamp h k t tag pointer holds = record {
  bytes = t.bytes;
  holds = ap (λ (p : Pointer). page_of_stamp p.stamp) pointer ∙ t.holds ∙ ap (λ (x : Tag). Some (record { tag = x; bytes = t.bytes })) (sym tag);
  whole = t.whole;
  behind = subst (λ (x : Tag). IsTrue (all_zero (drop (k.size - 4096 * x.index) t.bytes))) (sym tag)
      (⊎_elim (λ le. zeros_later t.bytes (h.size - 4096 * h.tag.index) (k.size - 4096 * h.tag.index) t.behind le)
      (λ past. let whole = t.whole in zeros_past t.bytes (k.size - 4096 * h.tag.index) (omega (arith, whole, past))) holds);
}

-- ---- a pointer that the file has had

-- an index from the last on has no pointer
none_past : (shape : Shape) (pages : VirtualMap) (n : ℕ) (rec : InodeRec) → IsFile shape pages n rec → (i : ℕ) → 4104 ≤ i → pointer_at pages rec i ≡ no_pointer
none_past shape pages n rec file i far =
    sym (at_index pages rec i file.direct)
    ∙ get_or_past (rec.direct ++ flat_map (pointers_at pages) rec.addresses) i no_pointer (let all = all_length shape pages n rec file in omega (arith, all, far))

inside : (shape : Shape) (pages : VirtualMap) (n : ℕ) (rec : InodeRec) → IsFile shape pages n rec → (i : ℕ) → is_none_pointer (pointer_at pages rec i) ≡ false → i < 4104
inside shape pages n rec file i some = ⊎_elim (λ low. low) (λ far. absurd (both_ways true (sym (ap is_none_pointer (none_past shape pages n rec file i far)) ∙ some) refl)) (cases_lt i 4104)

module _ (shape : Shape) (page_of_stamp : ℕ → Option PageOfStamp) (n : ℕ) (was is : InodeRec) (before after : VirtualMap) (r : RightFor shape before page_of_stamp) (file : IsFile shape before n was) (generation : is.generation ≡ was.generation)
    (i : ℕ) (same : pointer_at after is i ≡ pointer_at before was i) (some : is_none_pointer (pointer_at after is i) ≡ false) where
  was_some : is_none_pointer (pointer_at before was i) ≡ false
  was_some = ap is_none_pointer (sym same) ∙ some

  listed : members.Has (held_in shape before) (held_pointer n before was i)
  listed = in_all shape before n was file i (inside shape before n was file i was_some) was_some

  had_below : i < div_ceil was.size 4096
  had_below = r.tree.pointers.below (held_pointer n before was i) listed

  has : (was.size - 4096 * i ≤ is.size - 4096 * i) ⊎ (4096 ≤ is.size - 4096 * i) → PointerIsThere page_of_stamp (held_pointer n after is i)
  has holds = there_again page_of_stamp (held_pointer n before was i) (held_pointer n after is i) (r.tree.pointers.there (held_pointer n before was i) listed)
      (ap (λ (k : ℕ). record { ino = n; generation = k; index = i }) generation) same holds

-- a file of metadata that is right has its pages
pub file_has_pages : (shape : Shape) (page_of_stamp : ℕ → Option PageOfStamp) (n : ℕ) (rec : InodeRec) (pages : VirtualMap) → RightFor shape pages page_of_stamp → IsFile shape pages n rec → FileHasPages pages page_of_stamp n rec
file_has_pages shape page_of_stamp n rec pages r file = record {
  below = λ i some. r.tree.pointers.below (held_pointer n pages rec i) (in_all shape pages n rec file i (inside shape pages n rec file i some) some);
  there = λ i some. r.tree.pointers.there (held_pointer n pages rec i) (in_all shape pages n rec file i (inside shape pages n rec file i some) some);
}

-- ---- a pointer is installed

module _ (shape : Shape) (page_of_stamp : ℕ → Option PageOfStamp) (n index : ℕ) (to : Pointer) (was is : InodeRec) (before after : VirtualMap) (s t : Spaces) (r : RightFor shape before page_of_stamp)
    (file : IsFile shape before n was) (c : FileIsInstalled shape n index to was is before after s t) (longer : was.size ≤ is.size) (below : index < div_ceil is.size 4096) (page : IsPageAt page_of_stamp n is index to) where
  below_at : (i : ℕ) → is_none_pointer (pointer_at after is i) ≡ false → (i ≡ index) ⊎ (i ≢ index) → i < div_ceil is.size 4096
  below_at i some (inl here) = omega (arith, here, below)
  below_at i some (inr far) = let low = had_below shape page_of_stamp n was is before after r file c.pointer.generation i (c.pointer.others i far) some in omega (arith, low, longer)

  there_at : (i : ℕ) → is_none_pointer (pointer_at after is i) ≡ false → (i ≡ index) ⊎ (i ≢ index) → PointerIsThere page_of_stamp (held_pointer n after is i)
  there_at i some (inl here) =
      subst (λ (j : ℕ). PointerIsThere page_of_stamp (held_pointer n after is j)) (sym here)
      (subst (λ (p : Pointer). PointerIsThere page_of_stamp (record { size = is.size; tag = record { ino = n; generation = is.generation; index = index }; pointer = p })) (sym c.now) page)
  there_at i some (inr far) = has shape page_of_stamp n was is before after r file c.pointer.generation i (c.pointer.others i far) some (inl (omega (arith, longer)))

  pub installed_pages : FileHasPages after page_of_stamp n is
  installed_pages = record { below = λ i some. below_at i some (cases_eq i index); there = λ i some. there_at i some (cases_eq i index) }

pub installed_has_pages : InstalledHasPages
installed_has_pages shape page_of_stamp n index to was is before after s t r file c longer below page = installed_pages shape page_of_stamp n index to was is before after s t r file c longer below page

-- ---- a file is cut

module _ (shape : Shape) (page_of_stamp : ℕ → Option PageOfStamp) (n size : ℕ) (partial : Option Pointer) (was is : InodeRec) (before after : VirtualMap) (s t : Spaces) (r : RightFor shape before page_of_stamp)
    (file : IsFile shape before n was) (c : CutIsWritten shape n size partial was is before after s t) (sized : is.size ≡ size) (ends : EndsWith page_of_stamp n size before was is partial) where
  -- a pointer is below the size
  cut_below : (i : ℕ) → is_none_pointer (pointer_at after is i) ≡ false → i < div_ceil size 4096
  cut_below i some = ⊎_elim (λ low. low) (λ far. absurd (both_ways true (sym (ap is_none_pointer (c.gone i far)) ∙ some) refl)) (cases_lt i (div_ceil size 4096))

  stayed : (i : ℕ) → is_none_pointer (pointer_at after is i) ≡ false → pointer_at after is i ≡ pointer_at before was i → (was.size - 4096 * i ≤ is.size - 4096 * i) ⊎ (4096 ≤ is.size - 4096 * i) → PointerIsThere page_of_stamp (held_pointer n after is i)
  stayed i some same holds = has shape page_of_stamp n was is before after r file c.changes.generation i same some holds

  cut_there : (i : ℕ) → is_none_pointer (pointer_at after is i) ≡ false → (o : Option Pointer) → partial ≡ o → EndsWith page_of_stamp n size before was is o → IfSome o (λ p. pointer_at after is (size / 4096) ≡ p)
      → (i ≡ size / 4096) ⊎ (i ≢ size / 4096) → PointerIsThere page_of_stamp (held_pointer n after is i)
  cut_there i some None e clean now (inr far) =
      let low = cut_below i some in
      stayed i some (c.kept i low (λ there. absurd (both_ways (is_some partial) (ap is_some e) there))) (inr (omega (arith, low, far, sized)))
  cut_there i some None e clean now (inl here) =
      let low = cut_below i some in
      let same = c.kept i low (λ there. absurd (both_ways (is_some partial) (ap is_some e) there)) in
      stayed i some same (by same low clean)
    where
      by : pointer_at after is i ≡ pointer_at before was i → i < div_ceil size 4096 → (was.size ≤ size) ⊎ (size % 4096 ≡ 0) ⊎ (is_none_pointer (pointer_at before was (size / 4096)) ≡ true)
          → (was.size - 4096 * i ≤ is.size - 4096 * i) ⊎ (4096 ≤ is.size - 4096 * i)
      by same low (inl longer) = inl (omega (arith, longer, sized))
      by same low (inr (inl whole)) = absurd (let off : ⊥ = omega (arith, whole, low, here) in off)
      by same low (inr (inr none)) = absurd (both_ways (is_none_pointer (pointer_at after is i)) some (ap is_none_pointer (same ∙ ap (pointer_at before was) here) ∙ none))
  cut_there i some (Some q) e given now (inl here) =
      subst (λ (j : ℕ). PointerIsThere page_of_stamp (held_pointer n after is j)) (sym here)
      (subst (λ (p : Pointer). PointerIsThere page_of_stamp (record { size = is.size; tag = record { ino = n; generation = is.generation; index = size / 4096 }; pointer = p })) (sym now) given.1)
  cut_there i some (Some q) e given now (inr far) =
      let low = cut_below i some in
      stayed i some (c.kept i low (λ there. far)) (inr (omega (arith, low, far, sized)))

  pub cut_pages : FileHasPages after page_of_stamp n is
  cut_pages = record {
    below = λ i some. let low = cut_below i some in omega (arith, low, sized);
    there = λ i some. cut_there i some partial refl ends c.replaced (cases_eq i (size / 4096));
  }

pub cut_has_pages : CutHasPages
cut_has_pages shape page_of_stamp n size partial was is before after s t r file c sized ends = cut_pages shape page_of_stamp n size partial was is before after s t r file c sized ends

-- ---- the pointers of files lead

pub held_lead_once : {D : Type 0} (g : Ghosts D) → HeldLeadOnce g
held_lead_once g s p pages flight freeing leaving h = record {
  leads = λ x has. subst (λ (m : Names). IsRef m always (wants_tagged x) x.1.name) h.is_of.runs.names
      (h.holds.held.running x (subst (λ (xs : List (Tag × Pointer)). Has xs x) (sym h.is_of.runs.running) has));
  once = λ stamp.
      let all = h.holds.held.once stamp in
      let same = ap (λ (xs : List (Tag × Pointer)). times tagged stamp xs) h.is_of.runs.running in
      omega (arith, all, same);
}
