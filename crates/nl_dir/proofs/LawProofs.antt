-- Where directories are right, and whose pages say what they have.
use Rattle.std.proofs.Common.{◌≡◌, ◌≢◌, ℕ, zero, suc, ◌+◌, ◌*◌, ◌/◌, ◌≤◌, ◌<◌, true, false, not, ◌==◌, List, [], ◌∷◌, length, get_or, refl, sym, ap, subst, ◌∙◌, Option, Some, None, is_some, IsSome, ◌⊎◌, inl, inr, arith}
use Rattle.std.proofs.lemmas.Bool.{and_parts, both_ways, eqb-false, not-true}
use Rattle.std.specs.Int.{div_ceil}
use Rattle.std.specs.Prelude.{slice_get}
use Rattle.nl_field.specs.Bytes.{all_zero}
use Rattle.nl_field.specs.EntryRecord.{entry_of}
use Rattle.nl_field.specs.Inode.{are_filled}
use Rattle.nl_field.specs.declared.entry.EntryRec.{EntryRec}
use Rattle.nl_field.specs.declared.inode.InodeRec.{InodeRec}
use Rattle.nl_field.specs.declared.inode.Kind.TheVariants.{Dir}
use Rattle.nl_field.specs.declared.shape.Shape.{Shape}
use Rattle.nl_meta.specs.Committed.{VirtualMap}
use Rattle.nl_meta.specs.Consistent.{AddressAt, AddressesRight, EntriesRight, EntryAt, IsNode}
use Rattle.nl_meta.specs.Nodes.{address_of_place, bytes_of_place, entries_of_inode, entry_named}
use Rattle.nl_meta.specs.Pages.{Frozen, besides_0, page_of, with_address}
use Rattle.nl_meta.specs.Running.{or_stored, running_over}
use Rattle.nl_field.specs.Members.{Has}
use Rattle.std.specs.List.{list_any}
use Rattle.nl_meta.proofs.RunningProofs.{not-with}
use Rattle.nl_dir.specs.Changes.{with_addresses}
use Rattle.nl_meta.proofs.AddressProofs.{inode_spelled}
use Rattle.nl_meta.proofs.NodeProofs.{same_rec}
use Rattle.nl_dir.specs.Directory.{IsDirectory, entry_at}
use Rattle.nl_dir.specs.DirectoryLaws.{ChangeTakesRoom, ChangedPagesRun, EmptyIsDirectory, EntriesInOrder, OnlyOwnPages, OwnPages, ResidentIsRunning, RightIsDirectory, SameDirectoryPages}
use Rattle.nl_dir.proofs.EntryLists.{has-listed, listed-at, listed-has, listed-length, listed-same, named-at, one-named}
use Rattle.nl_dir.proofs.PlaceFacts.{head, head-below, one-dirtier, same-place, spelled-there}
use Rattle.nl_dir.proofs.Records.{spelled-dir, true_false}

-- ---- a directory of metadata that is right

slot-filled : (n : ℕ) (xs : List ℕ) (k : ℕ) → are_filled n xs ≡ true → k < n → (slice_get xs k ≡ Some (get_or xs k 0)) × (get_or xs k 0 ≢ 0)
unfolding are_filled
slot-filled zero xs k e h = absurd (none h)
  where
    none : k < 0 → ⊥
    none h = omega arith
slot-filled (suc n) [] k e h = absurd (true_false (sym e))
slot-filled (suc n) (x ∷ xs) zero e h = (refl, eqb-false x 0 (not-true _ (and_parts (not (x == 0)) _ e).0))
slot-filled (suc n) (x ∷ xs) (suc k) e h = slot-filled n xs k (and_parts (not (x == 0)) _ e).1 (omega (arith, h))

module _ (shape : Shape) (pages : VirtualMap) (n : ℕ) (rec : InodeRec) (addresses : AddressesRight shape pages) (entries : EntriesRight shape pages) (is : IsNode shape pages n rec) (dir : rec.kind ≡ Dir) where
  filled : are_filled (div_ceil rec.size 64) rec.addresses ≡ true
  filled = (spelled-dir rec dir (inode_spelled shape pages n rec is)).filled

  address-at : (i : ℕ) → i < rec.size → AddressAt shape pages n (i / 64) (address_of_place rec i)
  address-at i h =
      let s = slot-filled (div_ceil rec.size 64) rec.addresses (i / 64) filled (omega (arith, h)) in
      record { rec = rec; is_node = is; in_slot = s.0; not_zero = s.1 }

  entry-at : (i : ℕ) (e : EntryRec) → i < rec.size → entry_at pages rec i ≡ Some e → EntryAt shape pages n i e
  entry-at i e h at = record { rec = rec; is_node = is; is_dir = dir; below = h; spelled = at }

  entries-there : (i : ℕ) → i < rec.size → IsSome (entry_at pages rec i)
  entries-there i h =
      let r = entries.spelled n rec i is dir h in
      ap is_some (subst (λ (z : InodeRec). entry_of (bytes_of_place pages z i) ≡ Some r.0) (same_rec shape pages n r.1.rec rec r.1.is_node is) r.1.spelled)

  pub right-directory : IsDirectory pages rec
  right-directory = record {
    places = record {
      is_dir = dir;
      spelled = inode_spelled shape pages n rec is;
      there = λ i h. spelled-there pages rec i (entries-there i h);
      one_use = λ i j h l e. (addresses.one_use n (i / 64) n (j / 64) (address_of_place rec j) (subst (λ (a : ℕ). AddressAt shape pages n (i / 64) a) e (address-at i h)) (address-at j l)).1;
      rest = λ i h l. entries.rest n rec i is dir h l;
    };
    entries = entries-there;
    names_differ = λ i j e d h l is at names. entries.names_differ n i j e d (entry-at i e h is) (entry-at j d l at) names;
  }

pub right_is_directory : RightIsDirectory
right_is_directory shape pages n rec addresses entries is dir = right-directory shape pages n rec addresses entries is dir

-- ---- a directory without entries

pub empty_is_directory : EmptyIsDirectory
empty_is_directory pages rec dir spelled zero-size = record {
  places = record {
    is_dir = dir;
    spelled = spelled;
    there = λ i h. absurd (none i h);
    one_use = λ i j h l e. absurd (none i h);
    rest = λ i h l. absurd (none-behind i l);
  };
  entries = λ i h. absurd (none i h);
  names_differ = λ i j e d h l at at' names. absurd (none i h);
}
  where
    none : (i : ℕ) → i < rec.size → ⊥
    none i h = omega (arith, h, zero-size)

    none-behind : (i : ℕ) → i < 64 * div_ceil rec.size 64 → ⊥
    none-behind i h = omega (arith, h, zero-size)

-- ---- the same pages

module _ (rec : InodeRec) (old new : VirtualMap) (same : SameDirectoryPages rec old new) where
  -- a place of the last page, below the size or not
  row-same : (i : ℕ) → i < 64 * div_ceil rec.size 64 → new (address_of_place rec i) ≡ old (address_of_place rec i)
  row-same i h = subst (λ (v : ℕ). new v ≡ old v) (head rec i) (same (64 * (i / 64)) (head-below rec i h))

  bytes-same : (i : ℕ) → i < 64 * div_ceil rec.size 64 → bytes_of_place new rec i ≡ bytes_of_place old rec i
  bytes-same i h = same-place old new rec rec i refl (row-same i h)

  entry-same : (i : ℕ) → i < rec.size → entry_at new rec i ≡ entry_at old rec i
  entry-same i h = ap entry_of (bytes-same i (omega (arith, h)))

  pub own-pages : OwnPages rec old new
  unfolding entries_of_inode
  own-pages = record {
    directory = λ is. record {
      places = record {
        is_dir = is.places.is_dir;
        spelled = is.places.spelled;
        there = λ i h. ap is_some (same i h) ∙ is.places.there i h;
        one_use = is.places.one_use;
        rest = λ i h l. ap all_zero (bytes-same i l) ∙ is.places.rest i h l;
      };
      entries = λ i h. ap is_some (entry-same i h) ∙ is.entries i h;
      names_differ = λ i j e d h l at at' names. is.names_differ i j e d h l (sym (entry-same i h) ∙ at) (sym (entry-same j l) ∙ at') names;
    };
    entries = listed-same (entry_at old rec) (entry_at new rec) rec.size entry-same;
  }

pub only_own_pages : OnlyOwnPages
only_own_pages rec old new same = own-pages rec old new same

-- ---- the list of entries

pub entries_in_order : EntriesInOrder
unfolding entries_of_inode entry_named
entries_in_order pages rec is = record {
  count = listed-length f rec.size is.entries;
  each = listed-at f rec.size is.entries;
  by_name = λ e. (
    (λ h. let r = has-listed f rec.size e h in one-named f rec.size r.0 e.name e is.names_differ r.1 r.2 refl),
    (λ at. let r = named-at f rec.size e.name e at in listed-has f rec.size r.0 e r.1 r.2),
  );
}
  where
    f : ℕ → Option EntryRec
    f = entry_at pages rec

-- ---- resident pages

resident-same : (o stored : Option (List ℕ)) → IsSome o → or_stored o stored ≡ o
resident-same (Some bytes) stored h = refl
resident-same None stored h = absurd (both_ways _ refl h)

pub resident_is_running : ResidentIsRunning
unfolding running_over
resident_is_running device p rec there = record {
  directory = ((own-pages rec (running_over device p) (page_of p) (λ i h. sym (same i h))).directory, (own-pages rec (page_of p) (running_over device p) same).directory);
  entries = (own-pages rec (page_of p) (running_over device p) same).entries;
}
  where
    same : (i : ℕ) → i < rec.size → running_over device p (address_of_place rec i) ≡ page_of p (address_of_place rec i)
    same i h = resident-same (page_of p (address_of_place rec i)) (device (address_of_place rec i)) (there i h)

-- ---- pages that change

not-among : (vs dirty : List ℕ) (u : ℕ) → list_any (λ a. a == u) (with_addresses vs dirty) ≡ false → (Has vs u → ⊥) × (list_any (λ a. a == u) dirty ≡ false)
unfolding with_addresses
not-among [] dirty u e = ((λ h. h), e)
not-among (v ∷ vs) dirty u e =
    let r = not-among vs (with_address v dirty) u e in
    let q = not-with v dirty u r.1 in
    ((λ h. neither r.0 q.0 h), q.1)
  where
    neither : (Has vs u → ⊥) → u ≢ v → (v ≡ u) ⊎ Has vs u → ⊥
    neither none far (inl s) = far (sym s)
    neither none far (inr h) = none h

pub changed_pages_run : ChangedPagesRun
unfolding running_over
changed_pages_run changed device old new clean changes = record {
  others = λ u none. ap (λ (o : Option (List ℕ)). or_stored o (device u)) (changes.others u none);
  at = λ u h. resident-same (page_of new u) (device u) (changes.there u h);
  clean = record {
    each = λ u bytes at d f.
        let r = not-among changed old.dirty u (ap (λ (xs : List ℕ). list_any (λ a. a == u) xs) (sym changes.dirty) ∙ d) in
        clean.each u bytes (sym (changes.others u r.0) ∙ at) r.1 (ap (λ (x : Frozen). list_any (λ a. a == u) x.addresses) (sym changes.frozen) ∙ f);
  };
}

more-dirty : (vs dirty : List ℕ) → length (besides_0 (with_addresses vs dirty)) ≤ length (besides_0 dirty) + length vs
unfolding with_addresses
more-dirty [] dirty = omega arith
more-dirty (v ∷ vs) dirty =
    let r = more-dirty vs (with_address v dirty) in
    let m = one-dirtier v dirty in
    omega (arith, r, m)

pub change_takes_room : ChangeTakesRoom
change_takes_room changed old new n changes h =
    let e = ap (λ (xs : List ℕ). length (besides_0 xs)) changes.dirty in
    let m = more-dirty changed old.dirty in
    omega (arith, e, m, h)
