-- What a call of the handler leaves of the metadata.
use Rattle.std.proofs.Common.{◌≡◌, ◌≢◌, ◌⊎◌, inl, inr, ℕ, suc, ◌+◌, ◌/◌, ◌≤◌, ◌<◌, ◌==◌, ◌||◌, nat_lt, Bool, true, false, cond, List, [], ◌∷◌, ◌++◌, length, refl, sym, ap, subst, ◌∙◌, arith}
use Rattle.std.proofs.Math.Bool.{or-true}
use Rattle.std.proofs.lemmas.Bool.{both_ways, cases_eq, cases_lt, cond-false, cond-true, eq-eqb, ltb-true, ne_eqb}
use Rattle.std.specs.List.{list_any}
use Rattle.std.specs.Prelude.{slice_index, slice_index_or}
use Rattle.nl_field.specs.Graph.{Graph}
use Rattle.nl_field.specs.Members.{Has}
use Rattle.nl_field.specs.Numbers.{ShapeBounds}
use Rattle.nl_field.specs.Pointers.{no_pointer}
use Rattle.nl_field.specs.declared.inode.InodeRec.{InodeRec}
use Rattle.nl_field.specs.declared.pointer.Pointer.{Pointer}
use Rattle.nl_field.specs.declared.pointer.Tag.{Tag}
use Rattle.nl_field.specs.declared.shape.Shape.{Shape}
use Rattle.nl_iface.specs.Calls.{OnlyReads}
use Rattle.nl_iface.specs.declared.counts.Counts.{Ghosts}
use Rattle.nl_indirect.specs.Ranges.{address_of, range_of}
use Rattle.nl_indirect.proofs.LawProofs.{at-slot, file_of_node}
use Rattle.nl_indirect.proofs.Pointing.{address-node, address-range}
use Rattle.nl_indirect.proofs.Records.{file-parts}
use Rattle.nl_meta.specs.Committed.{VirtualMap}
use Rattle.nl_meta.specs.Consistent.{AddressAt, IsNode}
use Rattle.nl_meta.specs.Nodes.{graph_of, pointer_at, slots_of}
use Rattle.nl_meta.specs.Pages.{Pages, above, below, besides_0, has_room, is_dirty, most, with_address}
use Rattle.nl_meta.proofs.Lists.{some_in}
use Rattle.nl_meta.proofs.Rising.{whole_length, with-member}
use Rattle.nl_meta.proofs.SlotProofs.{at_index}
use Rattle.nl_meta_running.specs.Running.{RunningIsRight, PreservesRunning, running_on}
use Rattle.nl_meta_running.proofs.GraphStays.{all-pointers, graph-same}
use Rattle.nl_meta_running.proofs.Holds.{reads-none}
use Rattle.nl_meta_running.proofs.Kept.{used-on}
use Rattle.nl_handler.specs.Handling.{CannotBeDirty, HandlesStored, RenamesOn, TagsFile, is_of, page_holding}
use Rattle.nl_handler.specs.declared.answer.Handled.{Handled}
use Rattle.nl_handler.specs.declared.answer.Handled.TheVariants as handled
use Rattle.nl_core_callbacks.specs.Handled.{SameButNames, nameless_body}
use Rattle.nl_core_callbacks.proofs.Free.{UsesSame, uses-needed, uses-renamed}
use Rattle.nl_core_callbacks.proofs.Renamed.{names-alone}

-- What is known once the handler is done, of its device and of its metadata.
pub record Alters {D : Type 0} (g : Ghosts D) (s : D) (p : Pages) (t : D) (q : Pages) : Type 0 where
  pub reads : OnlyReads g s t
  pub nodes : SameButNames (graph_of (g.shape s) (running_on g s p)) (graph_of (g.shape t) (running_on g t q))
  pub uses : UsesSame (g.shape s) (running_on g s p) (running_on g t q)
  pub dirty : (v : ℕ) → is_dirty q v ≡ true → (is_dirty p v ≡ true) ⊎ (67 ≤ v)
  pub few : length q.dirty ≤ length p.dirty + 1

-- nodes that are the same
pub same-nodes : (n m : Shape) (old new : VirtualMap) → graph_of m new ≡ graph_of n old → SameButNames (graph_of n old) (graph_of m new)
same-nodes n m old new same = record { generation = λ k. ap (λ (graph : Graph). (graph k).generation) same; body = λ k. ap (λ (graph : Graph). nameless_body (graph k).body) same }

still-dirty : (p q : Pages) → q.dirty ≡ p.dirty → (v : ℕ) → is_dirty q v ≡ true → (is_dirty p v ≡ true) ⊎ (67 ≤ v)
still-dirty p q same v is = inl (ap (λ (xs : List ℕ). list_any (λ a. a == v) xs) (sym same) ∙ is)

still-few : (p q : Pages) → q.dirty ≡ p.dirty → length q.dirty ≤ length p.dirty + 1
still-few p q same = let e = ap (λ (xs : List ℕ). length xs) same in omega (arith, e)

-- an address of the list is found
has-any : (xs : List ℕ) (a : ℕ) → list_any (λ b. b == a) xs ≡ true → Has xs a
has-any [] a e = absurd (both_ways false refl e)
has-any (x ∷ xs) a e = by (cases_eq x a) (has-any xs a)
  where
    by : (x ≡ a) ⊎ (x ≢ a) → (list_any (λ b. b == a) xs ≡ true → Has xs a) → Has (x ∷ xs) a
    by (inl same) rest = inl same
    by (inr off) rest = inr (rest (ap (λ (b : Bool). b || list_any (λ b. b == a) xs) (sym (ne_eqb x a off)) ∙ e))

any-of : (xs : List ℕ) (a : ℕ) → Has xs a → list_any (λ b. b == a) xs ≡ true
any-of [] a has = absurd has
any-of (x ∷ xs) a (inl same) = ap (λ (b : Bool). b || list_any (λ b. b == a) xs) (eq-eqb x a same)
any-of (x ∷ xs) a (inr has) = ap (λ (b : Bool). (x == a) || b) (any-of xs a has) ∙ or-true (x == a)

-- ---- one more is dirty

parts : (v : ℕ) (xs : List ℕ) → length (below v xs) + length (above v xs) ≤ length xs
parts v [] = omega arith
parts v (x ∷ xs) = sides (nat_lt x v) (nat_lt v x) refl refl (parts v xs)
  where
    sides : (b c : Bool) → nat_lt x v ≡ b → nat_lt v x ≡ c → length (below v xs) + length (above v xs) ≤ length xs
        → length (cond b (x ∷ below v xs) (below v xs)) + length (cond c (x ∷ above v xs) (above v xs)) ≤ suc (length xs)
    sides true true e f rest = absurd (let l = ltb-true x v e in let r = ltb-true v x f in let off : ⊥ = omega (arith, l, r) in off)
    sides true false e f rest = omega (arith, rest)
    sides false true e f rest = omega (arith, rest)
    sides false false e f rest = omega (arith, rest)

one-more : (v : ℕ) (xs : List ℕ) → length (with_address v xs) ≤ length xs + 1
one-more v xs = let w = whole_length v xs in let p = parts v xs in omega (arith, w, p)

module _ {D : Type 0} (g : Ghosts D) (s : D) (p : Pages) (t : D) (q : Pages) (bounds : ShapeBounds (g.shape s)) (runs : RunningIsRight g s p) where
  -- ---- only read

  pub read-graph : PreservesRunning g s p t q → graph_of (g.shape t) (running_on g t q) ≡ graph_of (g.shape s) (running_on g s p)
  read-graph on = ap (λ (n : Shape). graph_of n (running_on g t q)) on.reads.medium.virtual.same_shape ∙ graph-same (g.shape s) bounds (running_on g s p) (running_on g t q) on.needed

  alters-read : PreservesRunning g s p t q → Alters g s p t q
  alters-read on = record {
    reads = on.reads;
    nodes = same-nodes (g.shape s) (g.shape t) (running_on g s p) (running_on g t q) (read-graph on);
    uses = uses-needed (g.shape s) bounds (running_on g s p) (running_on g t q) on.needed;
    dirty = still-dirty p q on.dirty;
    few = still-few p q on.dirty;
  }

  pub alters-none : q ≡ p → t ≡ s → Alters g s p t q
  alters-none pages device = subst (λ (u : D). Alters g s p u q) (sym device) (subst (λ (r : Pages). Alters g s p s r) (sym pages) (record {
    reads = reads-none g s;
    nodes = same-nodes (g.shape s) (g.shape s) (running_on g s p) (running_on g s p) refl;
    uses = uses-needed (g.shape s) bounds (running_on g s p) (running_on g s p) (λ v need. refl);
    dirty = still-dirty p p refl;
    few = still-few p p refl;
  }))

  -- ---- a pointer was renamed

  slot-high : (n : ℕ) (rec : InodeRec) → IsNode (g.shape s) (running_on g s p) n rec → (r : ℕ) → slice_index (slots_of rec) r ≢ 0 → 67 ≤ slice_index (slots_of rec) r
  slot-high n rec is r far =
      let at : AddressAt (g.shape s) (running_on g s p) n r (slice_index (slots_of rec) r) = record { rec = rec; is_node = is; in_slot = at-slot (slots_of rec) r far; not_zero = far } in
      let low = (runs.addresses.good n r (slice_index (slots_of rec) r) at).from_pool in
      omega (arith, low)

  holding-high : (tag : Tag) (rec : InodeRec) → IsNode (g.shape s) (running_on g s p) tag.ino rec → 67 ≤ page_holding tag rec
  holding-high tag rec is = by (cases_eq (address_of rec tag.index) 0) (cases_lt tag.index 8)
    where
      by : (address_of rec tag.index ≡ 0) ⊎ (address_of rec tag.index ≢ 0) → (tag.index < 8) ⊎ (8 ≤ tag.index) → 67 ≤ page_holding tag rec
      by (inl none) any = let e = cond-true (address_of rec tag.index == 0) (67 + tag.ino / 16) (address_of rec tag.index) (eq-eqb (address_of rec tag.index) 0 none) in omega (arith, e)
      by (inr far) (inl low) = absurd (far (address-node rec tag.index low))
      by (inr far) (inr high) =
          let e = cond-false (address_of rec tag.index == 0) (67 + tag.ino / 16) (address_of rec tag.index) (ne_eqb (address_of rec tag.index) 0 far) in
          let a = address-range rec tag.index high in
          let h = slot-high tag.ino rec is (range_of tag.index) (λ z. far (a ∙ z)) in
          omega (arith, e, a, h)

  -- the page that is dirty has the pointer
  one-dirty : (v : ℕ) → 67 ≤ v → q.dirty ≡ with_address v p.dirty → (u : ℕ) → is_dirty q u ≡ true → (is_dirty p u ≡ true) ⊎ (67 ≤ u)
  one-dirty v high dirty u is = by (with-member v p.dirty u (any-has q.dirty u is dirty))
    where
      any-has : (xs : List ℕ) (a : ℕ) → list_any (λ b. b == a) xs ≡ true → xs ≡ with_address v p.dirty → Has (with_address v p.dirty) a
      any-has xs a e same = subst (λ (ys : List ℕ). Has ys a) same (has-any xs a e)

      by : (v ≡ u) ⊎ Has p.dirty u → (is_dirty p u ≡ true) ⊎ (67 ≤ u)
      by (inl e) = inr (omega (arith, e, high))
      by (inr has) = inl (any-of p.dirty u has)

  alters-renamed : (tag : Tag) (stamp name : ℕ) → RenamesOn g s p t q tag stamp name → Alters g s p t q
  alters-renamed tag stamp name r = record {
    reads = r.reads;
    nodes = subst (λ (n : Shape). SameButNames (graph_of (g.shape s) (running_on g s p)) (graph_of n (running_on g t q))) (sym r.reads.medium.virtual.same_shape)
        (names-alone (g.shape s) bounds (running_on g s p) (running_on g t q) tag stamp name (record { nodes = runs.nodes; addresses = runs.addresses; entries = runs.entries }) r.renames);
    uses = uses-renamed (g.shape s) bounds (running_on g s p) (running_on g t q) tag stamp name r.renames;
    dirty = one-dirty (page_holding tag r.renames.was) (holding-high tag r.renames.was r.renames.had.file.is_node) r.dirty;
    few = let e = ap (λ (xs : List ℕ). length xs) r.dirty in let m = one-more (page_holding tag r.renames.was) p.dirty in omega (arith, e, m);
  }

  -- ---- any answer

  pub alters : (tag : Tag) (stamp name : ℕ) (answer : Handled) → HandlesStored g s p t q tag stamp name answer → Alters g s p t q
  alters tag stamp name handled.Renamed r = alters-renamed tag stamp name r
  alters tag stamp name handled.Gone x = alters-read x.1
  alters tag stamp name handled.NoRoom x = alters-read x.1
  alters tag stamp name handled.Fault on = alters-read on
  alters tag stamp name (handled.Lost w f) on = alters-read on

  -- ---- a page that cannot be made dirty

  same-room : q.dirty ≡ p.dirty → (v : ℕ) → has_room q v ≡ has_room p v
  same-room dirty v = ap (λ (addresses : List ℕ). v == 0 || list_any (λ a. a == v) addresses || nat_lt (length (besides_0 addresses)) most) dirty

  same-pointer : PreservesRunning g s p t q → (tag : Tag) (rec : InodeRec) → TagsFile (g.shape s) (running_on g s p) tag rec → pointer_at (running_on g t q) rec tag.index ≡ pointer_at (running_on g s p) rec tag.index
  same-pointer on tag rec file =
      sym (at_index (running_on g t q) rec tag.index eight)
      ∙ ap (λ (ps : List Pointer). slice_index_or (rec.direct ++ ps) tag.index no_pointer)
      (all-pointers (running_on g s p) (running_on g t q) (slots_of rec) (λ k a is far. on.needed a (inr (tag.ino, k, record { rec = rec; is_node = file.is_node; in_slot = is; not_zero = far }))))
      ∙ at_index (running_on g s p) rec tag.index eight
    where
      eight : length rec.direct ≡ 8
      eight = (file-parts rec (file_of_node (g.shape s) (running_on g s p) tag.ino rec runs.addresses file.is_node file.tagged.is_file).file).direct

  pub still-full : PreservesRunning g s p t q → (tag : Tag) (stamp : ℕ) → CannotBeDirty (g.shape s) (running_on g s p) p tag stamp → CannotBeDirty (g.shape t) (running_on g t q) q tag stamp
  still-full on tag stamp (rec, has, full) = (
    rec,
    record {
      file = record { is_node = used-on g s p t q bounds on tag.ino rec has.file.is_node; tagged = has.file.tagged };
      pointer = ap (is_of stamp) (same-pointer on tag rec has.file) ∙ has.pointer;
    },
    same-room on.dirty (page_holding tag rec) ∙ full,
  )

  -- a callback whose page cannot be made dirty is not handled
  pub full-not : (tag : Tag) (stamp name : ℕ) (answer : Handled) → (answer ≡ handled.Renamed) ⊎ (answer ≡ handled.Gone) → HandlesStored g s p t q tag stamp name answer
      → CannotBeDirty (g.shape s) (running_on g s p) p tag stamp → ⊥
  full-not tag stamp name answer (inl e) does (rec, has, full) = clash (subst (λ (a : Handled). HandlesStored g s p t q tag stamp name a) e does)
    where
      clash : RenamesOn g s p t q tag stamp name → ⊥
      clash r = both_ways (has_room p (page_holding tag rec)) full
          (ap (λ (k : InodeRec). has_room p (page_holding tag k)) (some_in rec r.renames.was (sym has.file.is_node.spelled ∙ r.renames.had.file.is_node.spelled)) ∙ r.room)
  full-not tag stamp name answer (inr e) does (rec, has, full) = (subst (λ (a : Handled). HandlesStored g s p t q tag stamp name a) e does).0 (rec, has)
