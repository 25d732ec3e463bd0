-- A file is cut, or loses all its pages.
use Rattle.std.proofs.Common.{◌≡◌, ℕ, zero, suc, ◌+◌, ◌<◌, List, [], ◌∷◌, ◌++◌, map, take, drop, length, refl, sym, ap, subst, ◌∙◌, arith, get_or}
use Rattle.std.proofs.lemmas.List.{append-nil, append_assoc, get_or-drop, map-append}
use Rattle.nl_field.specs.Pointers.{no_pointer}
use Rattle.nl_field.specs.declared.inode.InodeRec.{InodeRec}
use Rattle.nl_field.specs.declared.pointer.Pointer.{Pointer}
use Rattle.nl_field.specs.declared.pointer.Tag.{Tag}
use Rattle.nl_field.specs.declared.shape.Shape.{Shape}
use Rattle.nl_iface.specs.Calls.{OnlyReads}
use Rattle.nl_iface.specs.Holders.{tagged}
use Rattle.nl_iface.specs.declared.counts.Counts.{Ghosts}
use Rattle.nl_meta.specs.Committed.{VirtualMap}
use Rattle.nl_meta.specs.Nodes.{graph_of, pointer_at}
use Rattle.nl_meta.specs.PointerLists.{shown, tagged_by, tagged_in}
use Rattle.nl_meta_running.specs.Running.{running_on}
use Rattle.nl_spec_commits.specs.Changes.{GainsEach, LosesEach, ReplacesSome, given_up}
use Rattle.nl_spec_commits.specs.FileCuts.{CutsFilePointers, EmptyingKeepsHeld, PartingKeepsHeld, TruncatingKeepsHeld, pointers_behind}
use Rattle.nl_spec_commits.specs.Held.{IsHeldVolume}
use Rattle.nl_spec_commits.proofs.FileLists.{Around, all_length, all_of, at_place, behind_is, file_there, node_changes, none_there, one_more, plain_there, split, there}
use Rattle.nl_spec_commits.proofs.Losing.{runs_of_lists}
use Rattle.nl_spec_commits.proofs.Replacing.{cutting_keeps_held, replacing_keeps_held, shown_plain, shown_some}

-- the list of all holders is that of the map on its own shape
holders_at : {D : Type 0} (g : Ghosts D) (s t : D) (pages : VirtualMap) → OnlyReads g s t → tagged_in (g.shape t) pages ≡ tagged_in (g.shape s) pages
holders_at g s t pages reads = ap (λ (h : Shape). tagged_in h pages) reads.medium.virtual.same_shape

-- lists whose elements are the same below a place
take_same : (k : ℕ) (xs ys : List Pointer) → length ys ≡ length xs → ((i : ℕ) → i < k → get_or ys i no_pointer ≡ get_or xs i no_pointer) → take k ys ≡ take k xs
take_same k [] [] len same = refl
take_same k [] (y ∷ ys) len same = absurd (omega (arith, len))
take_same k (x ∷ xs) [] len same = absurd (omega (arith, len))
take_same zero (x ∷ xs) (y ∷ ys) len same = refl
take_same (suc k) (x ∷ xs) (y ∷ ys) len same = λ j. same 0 (omega arith) j ∷ take_same k xs ys (omega (arith, len)) (λ i below. same (suc i) (omega (arith, below))) j

-- two parts between two others
parted : {X : Type 0} (f a b e : List X) → f ++ (a ++ b) ++ e ≡ f ++ a ++ b ++ e
parted f a b e = ap (λ l. l ++ e) (sym (append_assoc f a b))

module _ (shape : Shape) (old new : VirtualMap) (n index : ℕ) (was is : InodeRec) (c : CutsFilePointers shape old new n index was is) where
  abbrev xs : List Pointer
  xs = all_of old was

  abbrev ys : List Pointer
  ys = all_of new is

  -- what stays in front of the index
  abbrev pub kept_in : List (Tag × Pointer)
  kept_in = there n was.generation 0 (take index xs)

  front_same : there n was.generation 0 (take index ys) ≡ kept_in
  front_same = ap (there n was.generation 0) (take_same index xs ys (all_length shape new n is c.file_after ∙ sym (all_length shape old n was c.file_before))
      (λ i below. at_place shape new n is c.file_after i ∙ c.kept i below ∙ sym (at_place shape old n was c.file_before i)))

  after_place : (i : ℕ) → index < i → get_or ys i no_pointer ≡ no_pointer
  after_place i far = at_place shape new n is c.file_after i ∙ c.gone i far

  -- the node's own part before, and after
  pub node_before : tagged_by n (graph_of shape old n) ≡ kept_in ++ there n was.generation index (drop index xs)
  node_before = file_there shape old n was c.file_before ∙ split n was.generation 0 index xs ∙ ap (λ (i : ℕ). kept_in ++ there n was.generation i (drop index xs)) (omega arith)

  pub node_after : tagged_by n (graph_of shape new n) ≡ kept_in ++ shown (record { ino = n; generation = was.generation; index = index }) (pointer_at new is index)
  node_after =
      file_there shape new n is c.file_after ∙ ap (λ (m : ℕ). there n m 0 ys) c.generation
      ∙ split n was.generation 0 index ys
      ∙ (λ j. front_same j ++ there n was.generation (index_is j) (drop index ys))
      ∙ ap (λ (l : List (Tag × Pointer)). kept_in ++ l) (one_more n was.generation index index ys ∙ last)
    where
      index_is : 0 + index ≡ index
      index_is = omega arith

      last : shown (record { ino = n; generation = was.generation; index = index }) (get_or ys index no_pointer) ++ there n was.generation (index + 1) (drop (suc index) ys)
          ≡ shown (record { ino = n; generation = was.generation; index = index }) (pointer_at new is index)
      last =
          (λ j. shown (record { ino = n; generation = was.generation; index = index }) (at_place shape new n is c.file_after index j)
          ++ none_there n was.generation (index + 1) (drop (suc index) ys) (λ i. get_or-drop (suc index) ys i no_pointer ∙ after_place (suc index + i) (omega arith)) j)
          ∙ append-nil (shown (record { ino = n; generation = was.generation; index = index }) (pointer_at new is index))

  -- those from the index on, without tags
  pub plain_behind : (from : ℕ) → map tagged (there n was.generation from (drop from xs)) ≡ pointers_behind old was from
  plain_behind from = plain_there n was.generation from (drop from xs) ∙ behind_is shape old n was c.file_before from

  -- those of all files around the node
  abbrev around : Around (tagged_by n (graph_of shape old n)) (tagged_by n (graph_of shape new n)) (tagged_in shape old) (tagged_in shape new)
  around = node_changes shape old new n c.file_before.below c.others

  abbrev tag : Tag
  tag = record { ino = n; generation = was.generation; index = index }

  abbrev tail : List (Tag × Pointer)
  tail = there n was.generation index (drop index xs)

  -- none is left at the index
  pub truncates : pointer_at new is index ≡ no_pointer → ReplacesSome tail [] (tagged_in shape old) (tagged_in shape new)
  truncates none = record {
    front = around.front ++ kept_in;
    behind = around.back;
    was = around.before ∙ ap (λ (l : List (Tag × Pointer)). around.front ++ l ++ around.back) node_before ∙ parted around.front kept_in tail around.back;
    is = around.after ∙ ap (λ (l : List (Tag × Pointer)). around.front ++ l ++ around.back) (node_after ∙ ap (λ (q : Pointer). kept_in ++ shown tag q) none) ∙ parted around.front kept_in [] around.back;
  }

  -- another one is there
  abbrev pub rest : List (Tag × Pointer)
  rest = there n was.generation (index + 1) (drop (suc index) xs)

  abbrev pub at : List (Tag × Pointer)
  at = shown tag (pointer_at old was index)

  abbrev pub to : List (Tag × Pointer)
  to = shown tag (pointer_at new is index)

  abbrev pub between : List (Tag × Pointer)
  between = around.front ++ kept_in ++ around.back

  own : tagged_by n (graph_of shape old n) ≡ kept_in ++ at ++ rest
  own =
      node_before
      ∙ ap (λ (l : List (Tag × Pointer)). kept_in ++ l) (one_more n was.generation index index xs ∙ ap (λ (q : Pointer). shown tag q ++ rest) (at_place shape old n was c.file_before index))
      ∙ sym (append_assoc kept_in at rest)

  all_before : tagged_in shape old ≡ around.front ++ kept_in ++ at ++ rest ++ around.back
  all_before =
      around.before ∙ ap (λ (l : List (Tag × Pointer)). around.front ++ l ++ around.back) own ∙ parted around.front (kept_in ++ at) rest around.back
      ∙ ap (λ (l : List (Tag × Pointer)). l ++ rest ++ around.back) (sym (append_assoc around.front kept_in at))

  pub loses : LosesEach (rest ++ at) (tagged_in shape old) between
  loses = runs_of_lists.lost_then rest at (tagged_in shape old) (around.front ++ kept_in ++ at ++ around.back) between
      (subst (λ (l : List (Tag × Pointer)). LosesEach rest l (around.front ++ kept_in ++ at ++ around.back)) (sym all_before) (runs_of_lists.lost (around.front ++ kept_in ++ at) rest around.back))
      (runs_of_lists.lost (around.front ++ kept_in) at around.back)

  pub gains : GainsEach to between (tagged_in shape new)
  gains = subst (λ (l : List (Tag × Pointer)). GainsEach to between l)
      (sym (around.after ∙ ap (λ (l : List (Tag × Pointer)). around.front ++ l ++ around.back) node_after ∙ parted around.front kept_in to around.back)) (runs_of_lists.gained (around.front ++ kept_in) to around.back)

  pub plain_gone : (freeing : List Pointer) → freeing ++ map tagged (rest ++ at) ≡ freeing ++ pointers_behind old was (index + 1) ++ given_up (pointer_at old was index)
  plain_gone freeing =
      ap (λ (l : List Pointer). freeing ++ l) (map-append tagged rest at ∙ (λ k. plain_rest k ++ shown_plain tag (pointer_at old was index) k))
      ∙ sym (append_assoc freeing (pointers_behind old was (index + 1)) (given_up (pointer_at old was index)))
    where
      next : suc index ≡ index + 1
      next = omega arith

      plain_rest : map tagged rest ≡ pointers_behind old was (index + 1)
      plain_rest = ap (λ (m : ℕ). map tagged (there n was.generation (index + 1) (drop m xs))) next ∙ plain_behind (index + 1)

-- ---- a volume

pub truncating_keeps_held : {D : Type 0} (g : Ghosts D) → TruncatingKeepsHeld g
truncating_keeps_held g s t p pages now flight freeing n index was is leaving volume j h reads same c none =
    let old = running_on g s pages in
    let new = running_on g t now in
    let r = truncates (g.shape s) old new n index was is c none in
    subst (λ (f : List Pointer). IsHeldVolume g t p now flight (freeing ++ f) leaving) (plain_behind (g.shape s) old new n index was is c index)
    (cutting_keeps_held g s t p pages now flight flight (there n was.generation index (drop index (all_of old was))) [] freeing _ volume j h reads same
    (record { front = r.front; behind = r.behind; was = r.was; is = holders_at g s t new reads ∙ r.is }) refl)

pub parting_keeps_held : {D : Type 0} (g : Ghosts D) → PartingKeepsHeld g
parting_keeps_held g s t p pages now flight later freeing n index was is leaving volume j h reads same c some flown =
    let old = running_on g s pages in
    let new = running_on g t now in
    let shape = g.shape s in
    let come = to shape old new n index was is c in
    subst (λ (f : List Pointer). IsHeldVolume g t p now later f leaving) (plain_gone shape old new n index was is c freeing)
    (replacing_keeps_held g s t p pages now flight later (rest shape old new n index was is c ++ at shape old new n index was is c) come (between shape old new n index was is c) freeing _ volume j h reads same
    (loses shape old new n index was is c)
    (subst (λ (l : List (Tag × Pointer)). GainsEach come (between shape old new n index was is c) l) (sym (holders_at g s t new reads)) (gains shape old new n index was is c))
    (subst (λ (l : List (Tag × Pointer)). LosesEach l flight later) (sym (shown_some (record { ino = n; generation = was.generation; index = index }) (pointer_at new is index) some)) (later, flown, refl)))

pub emptying_keeps_held : {D : Type 0} (g : Ghosts D) → EmptyingKeepsHeld g
emptying_keeps_held g s t p pages now flight freeing n was leaving volume j h reads same file none others =
    let old = running_on g s pages in
    let new = running_on g t now in
    let shape = g.shape s in
    let around = node_changes shape old new n file.below others in
    subst (λ (f : List Pointer). IsHeldVolume g t p now flight (freeing ++ f) leaving) (plain_there n was.generation 0 (all_of old was) ∙ behind_is shape old n was file 0)
    (cutting_keeps_held g s t p pages now flight flight (there n was.generation 0 (all_of old was)) [] freeing _ volume j h reads same
    (record {
      front = around.front;
      behind = around.back;
      was = around.before ∙ ap (λ (l : List (Tag × Pointer)). around.front ++ l ++ around.back) (file_there shape old n was file);
      is = holders_at g s t new reads ∙ around.after ∙ ap (λ (l : List (Tag × Pointer)). around.front ++ l ++ around.back) none;
    }) refl)
