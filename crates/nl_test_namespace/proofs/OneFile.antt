-- One file whose pages of pointers are in memory, through each call.
use Rattle.std.proofs.Common.{◌≡◌, ◌≢◌, ◌⊎◌, inl, inr, ℕ, ◌-◌, ◌/◌, ◌≤◌, ◌<◌, Bool, true, false, ◌==◌, ◌&&◌, ◌||◌, nat_le, List, [], length, is_some, Option, Some, None, IsSome, refl, sym, ap, ◌∙◌, subst, arith}
use Rattle.std.specs.Prelude.{IfSome, MatchOption, unwrap_or}
use Rattle.std.specs.Int.{div_ceil}
use Rattle.std.proofs.lemmas.Bool.{and_parts, cases_eq, cases_lt, cond-false, cond-true, eq-eqb, leb-true, lt-ltb, ne_eqb}
use Rattle.nl_field.specs.Pointers.{is_none_pointer}
use Rattle.nl_field.specs.declared.inode.InodeRec.{InodeRec}
use Rattle.nl_field.specs.declared.pointer.Pointer.{Pointer}
use Rattle.nl_field.specs.declared.pointer.Tag.{Tag}
use Rattle.nl_field.specs.declared.shape.Shape.{Shape}
use Rattle.nl_iface.specs.Calls.{OnlyReads, PlacesNewPage, next_page}
use Rattle.nl_iface.specs.Holders.{IsRef, always, wants_tagged}
use Rattle.nl_iface.specs.Names.{Has, LivePage, Names, SameTables, led, with_page}
use Rattle.nl_iface.specs.declared.Callback.{Callback}
use Rattle.nl_iface.specs.declared.counts.Counts.{Ghosts}
use Rattle.nl_meta.specs.Committed.{VirtualMap}
use Rattle.nl_meta.specs.Nodes.{pointer_at, slots_of}
use Rattle.nl_meta.specs.Pages.{Pages, besides_0, has_room, is_dirty, is_frozen, page_of}
use Rattle.nl_meta.specs.Running.{CleanIsStored, running_over}
use Rattle.nl_meta.proofs.Lists.{none_some, true_false}
use Rattle.nl_inode.specs.Free.{NoneFree, is_free}
use Rattle.nl_inode.specs.Nodes.{AddressBecomes, IsLeastAddress, Spaces, is_free_address}
use Rattle.nl_inode.proofs.MarkTree.{set-below}
use Rattle.nl_indirect.specs.Ranges.{HasPointers, HasRange, address_of, range_of, slot_of}
use Rattle.nl_indirect.specs.Storing.{StoresPointer}
use Rattle.nl_indirect.proofs.Pointing.{address-node, address-range, at-node, in-range, no-page, runs, same-page}
use Rattle.nl_files.specs.Cutting.{AreOfPool, Cuts, CutsPointers, LosesAddress}
use Rattle.nl_files.specs.Installing.{FreeAreNewToFile, Installs, TakesLeastAddress}
use Rattle.nl_files.specs.Standing.{FileIsAtHand, KeepsRunning, LoadsOwn, PointersLead, device_map, running_map, tag_of}
use Rattle.nl_files.proofs.Keeping.{resident-pointers}
use Rattle.nl_files.proofs.StandingOn.{Goes, goes-cut, goes-stored, slot}
use Rattle.nl_test_namespace.proofs.Dirty.{few-besides}
use Rattle.nl_test_namespace.specs.Files.{HasFile, IsTaken, in_memory, nothing}

and-false : (b : Bool) → (b && false) ≡ false
and-false true = refl
and-false false = refl

-- ---- names of live pages

module _ {D : Type 0} (g : Ghosts D) (s t : D) (idle : (g.names s).pending ≡ []) where
  none-pending : (names : Names) → names.pending ≡ [] → (c : Callback) → Has names.pending c → ⊥
  none-pending names e c h = subst (λ (cs : List Callback). Has cs c) e h

  -- a page that was placed
  module _ (tag : Tag) (main : List ℕ) (at : Pointer) (places : PlacesNewPage g tag main 0 (g.names s) s t at) where
    pub placed-idle : (g.names t).pending ≡ []
    placed-idle = places.names.pending ∙ idle

    same-led : (name : ℕ) → led (g.names t) name ≡ led (g.names s) name
    same-led name = ap (λ pairs. led (record (g.names s) { pairs = pairs }) name) places.names.pairs

    pub placed-leads : IsRef (g.names t) always (wants_tagged (tag, at)) at.name
    placed-leads = record {
      leads = (next_page g tag s, ap (λ (q : ℕ). (g.names t).live q) (same-led at.name ∙ places.is_new.own) ∙ places.names.live at.name ∙ here, (refl, sym places.stamp));
      safe = λ c n h handled due same. none-pending (g.names t) placed-idle c h;
    }
      where
        here : with_page (g.names s).live at.name (next_page g tag s) at.name ≡ Some (next_page g tag s)
        here = cond-true (at.name == at.name) _ _ (eq-eqb at.name at.name refl)

    pub placed-keeps : (want : LivePage → Type 0) (name : ℕ) → IsRef (g.names s) always want name → IsRef (g.names t) always want name
    placed-keeps want name r = record {
      leads = (r.leads.0, ap (λ (q : ℕ). (g.names t).live q) (same-led name) ∙ places.names.live (led (g.names s) name) ∙ other ∙ r.leads.1, r.leads.2);
      safe = λ c n h handled due same. none-pending (g.names t) placed-idle c h;
    }
      where
        apart : led (g.names s) name ≢ at.name
        apart e = none_some r.leads.0 (sym places.is_new.dead ∙ ap (g.names s).live (sym e) ∙ r.leads.1)

        other : with_page (g.names s).live at.name (next_page g tag s) (led (g.names s) name) ≡ (g.names s).live (led (g.names s) name)
        other = cond-false (led (g.names s) name == at.name) _ _ (ne_eqb (led (g.names s) name) at.name apart)

  -- no page was placed
  module _ (same : SameTables (g.names s) (g.names t)) where
    pub same-idle : (g.names t).pending ≡ []
    same-idle = same.pending ∙ idle

    pub same-keeps : (want : LivePage → Type 0) (name : ℕ) → IsRef (g.names s) always want name → IsRef (g.names t) always want name
    same-keeps want name r = record {
      leads = (r.leads.0, ap (λ (q : ℕ). (g.names t).live q) (ap (λ pairs. led (record (g.names s) { pairs = pairs }) name) same.pairs) ∙ same.live (led (g.names s) name) ∙ r.leads.1, r.leads.2);
      safe = λ c n h handled due e. none-pending (g.names t) same-idle c h;
    }

-- ---- pages in memory

clean-any : (device : VirtualMap) (p : Pages) → CleanIsStored nothing p → CleanIsStored device p
clean-any device p c = record { each = λ u bytes there d f. absurd (none_some bytes (c.each u bytes there d f)) }

clean-self : (p : Pages) → CleanIsStored (page_of p) p
clean-self p = record { each = λ u bytes there d f. there }

over-pages : (device : VirtualMap) (p : Pages) (v : ℕ) → HasPointers (page_of p) v → HasPointers (running_over device p) v
over-pages device p v has = record { bytes = has.bytes; there = runs device p v has.bytes has.there; spelled = has.spelled }

-- the pointers of a file are those of its pages
pointer-alike : (a b : VirtualMap) (rec : InodeRec) → ((r : ℕ) → slot rec r ≢ 0 → a (slot rec r) ≡ b (slot rec r)) → (i : ℕ) → pointer_at a rec i ≡ pointer_at b rec i
pointer-alike a b rec same i = by (cases_lt i 8)
  where
    in-page : 8 ≤ i → (slot rec (range_of i) ≡ 0) ⊎ (slot rec (range_of i) ≢ 0) → pointer_at a rec i ≡ pointer_at b rec i
    in-page high (inl none) = in-range a rec i high ∙ no-page a _ (slot_of i) none ∙ sym (in-range b rec i high ∙ no-page b _ (slot_of i) none)
    in-page high (inr far) = in-range a rec i high ∙ same-page b a (slot rec (range_of i)) (slot_of i) (same (range_of i) far) ∙ sym (in-range b rec i high)

    by : (i < 8) ⊎ (8 ≤ i) → pointer_at a rec i ≡ pointer_at b rec i
    by (inl low) = at-node a rec i low ∙ sym (at-node b rec i low)
    by (inr high) = in-page high (cases_eq (slot rec (range_of i)) 0)

leads-alike : (names : Names) (a b : VirtualMap) (rec : InodeRec) → ((i : ℕ) → pointer_at b rec i ≡ pointer_at a rec i) → PointersLead names 1 rec a → PointersLead names 1 rec b
leads-alike names a b rec same leads i below some =
    subst (λ (at : Pointer). IsRef names always (wants_tagged (tag_of 1 rec i, at)) at.name) (sym (same i)) (leads i below (ap is_none_pointer (sym (same i)) ∙ some))

-- room for a page, where few are dirty
pub room-for : (p : Pages) (v : ℕ) → length p.dirty ≤ 60 → has_room p v ≡ true
room-for p v few = last (v == 0) (is_dirty p v) (lt-ltb (length (besides_0 p.dirty)) 63 (let f = few-besides p.dirty in omega (arith, f, few)))
  where
    last : (a b : Bool) {c : Bool} → c ≡ true → ((a || b) || c) ≡ true
    last true b e = refl
    last false true e = refl
    last false false e = e

module _ {D : Type 0} (g : Ghosts D) (s : D) (p : Pages) (free : Spaces) (rec : InodeRec) (h : HasFile g s p free rec) where
  pub file-stands : FileIsAtHand g s rec p
  file-stands = record {
    count = h.count ∙ sym h.addresses;
    clean = λ t. clean-any (device_map g s) p h.unwritten;
    file = h.file;
    pages = λ r far. over-pages (device_map g s) p (slot rec r) (h.resident r far);
    at_hand = λ r far. inr (ap is_some (h.resident r far).there);
  }

  pub file-leads : PointersLead (g.names s) 1 rec (running_map g s p)
  file-leads =
      leads-alike (g.names s) (in_memory p) (running_map g s p) rec
      (pointer-alike (running_map g s p) (in_memory p) rec (λ r far. let has = h.resident r far in runs (device_map g s) p (slot rec r) has.bytes has.there ∙ sym (runs nothing p (slot rec r) has.bytes has.there))) h.leads

  pub range-here : (i : ℕ) → HasRange (page_of p) rec i
  range-here i far = by (cases_lt i 8)
    where
      by : (i < 8) ⊎ (8 ≤ i) → HasPointers (page_of p) (address_of rec i)
      by (inl low) = absurd (far (address-node rec i low))
      by (inr high) = subst (λ (v : ℕ). HasPointers (page_of p) v) (sym (address-range rec i high)) (h.resident (range_of i) (λ e. far (address-range rec i high ∙ e)))

  -- after calls that only read
  pub file-read : (t : D) (q : Pages) → OnlyReads g s t → KeepsRunning g s p q → LoadsOwn rec p q → HasFile g t q free rec
  file-read t q reads keeps own = record {
    addresses = ap (λ (shape : Shape). shape.vaddrs) reads.medium.virtual.same_shape ∙ h.addresses;
    idle = ap (λ (names : Names). names.pending) reads.names ∙ h.idle;
    count = keeps.count ∙ h.count;
    unwritten = record { each = λ u bytes there d f. h.unwritten.each u bytes (sym (stays u (was u bytes there (own.each u (ap is_some there)))) ∙ there) (is-dirty u d) (is-frozen u f) };
    file = h.file;
    resident = λ r far. let has = h.resident r far in record { bytes = has.bytes; there = stays (slot rec r) (ap is_some has.there) ∙ has.there; spelled = has.spelled };
    taken = h.taken;
    leads = subst (λ (names : Names). PointersLead names 1 rec (in_memory q)) (sym reads.names) (leads-alike (g.names s) (in_memory p) (in_memory q) rec
        (pointer-alike (in_memory q) (in_memory p) rec (λ r far. let has = h.resident r far in runs nothing q (slot rec r) has.bytes (stays (slot rec r) (ap is_some has.there) ∙ has.there) ∙ sym (runs nothing p (slot rec r) has.bytes has.there))) h.leads);
    first = h.first;
    pool = h.pool;
  }
    where
      stays : (u : ℕ) → IsSome (page_of p u) → page_of q u ≡ page_of p u
      stays = keeps.stays

      was : (u : ℕ) (bytes : List ℕ) → page_of q u ≡ Some bytes → IsSome (page_of p u) ⊎ ((u ≢ 0) × ((r : ℕ) × (slot rec r ≡ u))) → IsSome (page_of p u)
      was u bytes there (inl some) = some
      was u bytes there (inr (far, r)) = subst (λ (v : ℕ). IsSome (page_of p v)) r.1 (ap is_some (h.resident r.0 (λ e. far (sym r.1 ∙ e))).there)

      is-dirty : (u : ℕ) → is_dirty q u ≡ false → is_dirty p u ≡ false
      is-dirty u d = ap (λ (ds : List ℕ). is_dirty (record p { dirty = ds }) u) (sym keeps.dirty) ∙ d

      is-frozen : (u : ℕ) → is_frozen q u ≡ false → is_frozen p u ≡ false
      is-frozen u f = ap (λ z. is_frozen (record p { frozen = z }) u) (sym keeps.frozen) ∙ f

  -- after a program
  pub file-programmed : (t : D) → g.shape t ≡ g.shape s → (g.names t).pending ≡ [] → ((want : LivePage → Type 0) (name : ℕ) → IsRef (g.names s) always want name → IsRef (g.names t) always want name) → HasFile g t p free rec
  file-programmed t shape idle keeps = record {
    addresses = ap (λ (z : Shape). z.vaddrs) shape ∙ h.addresses;
    idle = idle;
    count = h.count;
    unwritten = h.unwritten;
    file = h.file;
    resident = h.resident;
    taken = h.taken;
    leads = λ i below some. keeps (wants_tagged (tag_of 1 rec i, pointer_at (in_memory p) rec i)) (pointer_at (in_memory p) rec i).name (h.leads i below some);
    first = h.first;
    pool = h.pool;
  }

  -- ---- what calls need

  free-low : (a : ℕ) → is_free_address free a ≡ true → (71 ≤ a) × (a < 103)
  free-low a f = (low, high)
    where
      parts : (nat_le free.first a ≡ true) × (is_free free.pool (a - free.first) ≡ true)
      parts = and_parts _ _ f

      low : 71 ≤ a
      low = let l = leb-true free.first a parts.0 in let e = h.first in omega (arith, l, e)

      high : a < 103
      high = let b = set-below free.pool (a - free.first) parts.1 in let e = h.first in let c = h.pool in let l = low in omega (arith, b, e, c, l)

  pub free-new : length p.dirty ≤ 60 → FreeAreNewToFile free p rec
  free-new few a f =
      let b = free-low a f in
      record {
        not_zero = λ e. let l = b.0 in omega (arith, l, e);
        inside = let u = b.1 in let c = h.count in omega (arith, u, c);
        unused = λ r e. unused r e (cases_eq (slot rec r) 0);
        room = room-for p a few;
      }
    where
      unused : (r : ℕ) → slot rec r ≡ a → (slot rec r ≡ 0) ⊎ (slot rec r ≢ 0) → ⊥
      unused r e (inl none) = let l = (free-low a f).0 in omega (arith, l, e, none)
      unused r e (inr far) = true_false (sym f ∙ ap (is_free_address free) (sym e) ∙ (h.taken r far).taken)

  pub of-pool : AreOfPool free (slots_of rec)
  of-pool r far = let t = h.taken r far in let l = t.low in let u = t.high in let e = h.first in let c = h.pool in (omega (arith, l, e), omega (arith, u, e, c))

-- ---- after an install

taken-still : (f t : Spaces) (fresh : Option ℕ) (x : ℕ) → TakesLeastAddress fresh f t → IsTaken f x → IsTaken t x
taken-still f t None x takes k = subst (λ (z : Spaces). IsTaken z x) (sym takes) k
taken-still f t (Some a) x takes k = record { low = k.low; high = k.high; taken = by (nat_le f.first x) refl (cases_eq (x - f.first) (a - f.first)) }
  where
    at : x - f.first ≡ a - f.first → is_free t.pool (x - f.first) ≡ false
    at e = ap (is_free t.pool) e ∙ takes.1.pool.at

    first-same : is_free_address t x ≡ (nat_le f.first x && is_free t.pool (x - f.first))
    first-same = ap (λ (b : ℕ). nat_le b x && is_free t.pool (x - b)) takes.1.first

    by : (b : Bool) → nat_le f.first x ≡ b → (x - f.first ≡ a - f.first) ⊎ (x - f.first ≢ a - f.first) → is_free_address t x ≡ false
    by b l (inl e) = first-same ∙ (λ i. nat_le f.first x && at e i) ∙ and-false (nat_le f.first x)
    by b l (inr far) = first-same ∙ ap (λ c. nat_le f.first x && c) (takes.1.pool.others (x - f.first) far) ∙ k.taken

-- another one takes an address of the pool, where one is free
pub file-taken : {D : Type 0} (g : Ghosts D) (s : D) (p : Pages) (f t : Spaces) (rec : InodeRec) (o : Option ℕ) → MatchOption o (NoneFree f.pool) (λ a. IsLeastAddress a f) → MatchOption o (t ≡ f) (λ a. AddressBecomes a false f t) → HasFile g s p f rec
    → HasFile g s p t rec
file-taken g s p f t rec None least same h = subst (λ (z : Spaces). HasFile g s p z rec) (sym same) h
file-taken g s p f t rec (Some a) least becomes h = record {
  addresses = h.addresses;
  idle = h.idle;
  count = h.count;
  unwritten = h.unwritten;
  file = h.file;
  resident = h.resident;
  taken = λ r far. taken-still f t (Some a) (slot rec r) (least, becomes) (h.taken r far);
  leads = h.leads;
  first = becomes.first ∙ h.first;
  pool = becomes.pool.count ∙ h.pool;
}

-- the address that is taken is one of the pool, and not free any more
fresh-taken : (f t : Spaces) (a : ℕ) → f.first ≡ 71 → length f.pool ≡ 32 → TakesLeastAddress (Some a) f t → IsTaken t a
fresh-taken f t a first pool takes = record { low = low; high = high; taken = ap (λ (b : ℕ). nat_le b a && is_free t.pool (a - b)) takes.1.first ∙ ap (λ c. nat_le f.first a && c) takes.1.pool.at ∙ and-false (nat_le f.first a) }
  where
    parts : (nat_le f.first a ≡ true) × (is_free f.pool (a - f.first) ≡ true)
    parts = and_parts _ _ takes.0.free_itself

    low : 71 ≤ a
    low = let l = leb-true f.first a parts.0 in omega (arith, l, first)

    high : a < 103
    high = let b = set-below f.pool (a - f.first) parts.1 in let l = low in omega (arith, b, first, pool, l)

module _ {D : Type 0} (g : Ghosts D) (s : D) (was is : InodeRec) (p q : Pages) (f t : Spaces) (h : HasFile g s p f was) (goes : Goes was is p q) where
  resident-then : (r : ℕ) → slot is r ≢ 0 → HasPointers (page_of q) (slot is r)
  resident-then r far =
      resident-pointers (page_of p) q (slot is r) (goes.spelled (page_of p) (clean-self p) r far (λ some. over-pages (page_of p) p (slot was r) (h.resident r some)))
      (goes.there r far (λ some. ap is_some (h.resident r some).there))

  gone-file : ((r : ℕ) → slot is r ≢ 0 → IsTaken t (slot is r)) → PointersLead (g.names s) 1 is (in_memory q) → t.first ≡ f.first → length t.pool ≡ length f.pool → HasFile g s q t is
  gone-file taken leads first pool = record {
    addresses = h.addresses;
    idle = h.idle;
    count = goes.count ∙ h.count;
    unwritten = goes.clean nothing h.unwritten;
    file = goes.file;
    resident = resident-then;
    taken = taken;
    leads = leads;
    first = first ∙ h.first;
    pool = pool ∙ h.pool;
  }

module _ {D : Type 0} (g : Ghosts D) (s : D) (was is : InodeRec) (p q : Pages) (f t : Spaces) (h : HasFile g s p f was) where
  -- a pointer that leads
  abbrev Leads : ℕ → Pointer → Type 0
  Leads index to = IsRef (g.names s) always (wants_tagged (tag_of 1 was index, to)) to.name

  same-tag : is.generation ≡ was.generation → (i : ℕ) (at : Pointer) → Leads i at → IsRef (g.names s) always (wants_tagged (tag_of 1 is i, at)) at.name
  same-tag e i at r = subst (λ (n : ℕ). IsRef (g.names s) always (wants_tagged (record { ino = 1; generation = n; index = i }, at)) at.name) (sym e) r

  module _ (index : ℕ) (to : Pointer) (leads : Leads index to) (installs : Installs index to was is p q f t) where
    first-installed : (fresh : Option ℕ) → TakesLeastAddress fresh f t → (t.first ≡ f.first) × (length t.pool ≡ length f.pool)
    first-installed None e = (ap (λ (z : Spaces). z.first) e, ap (λ (z : Spaces). length z.pool) e)
    first-installed (Some a) e = (e.1.first, e.1.pool.count)

    taken-installed : (r : ℕ) → slot is r ≢ 0 → IsTaken t (slot is r)
    taken-installed r far = by (cases_lt index 8) (cases_eq r (range_of index))
      where
        old : slot is r ≡ slot was r → IsTaken t (slot is r)
        old e = subst (IsTaken t) (sym e) (taken-still f t installs.fresh (slot was r) installs.taken (h.taken r (λ none. far (e ∙ none))))

        at : (fresh : Option ℕ) → TakesLeastAddress fresh f t → slot is r ≡ unwrap_or fresh (slot was r) → IsTaken t (slot is r)
        at None takes e = old e
        at (Some a) takes e = subst (IsTaken t) (sym e) (fresh-taken f t a h.first h.pool takes)

        by : (index < 8) ⊎ (8 ≤ index) → (r ≡ range_of index) ⊎ (r ≢ range_of index) → IsTaken t (slot is r)
        by (inl low) either = old (installs.stores.record_kept.addresses r (λ high. absurd (less low high)))
          where
            less : index < 8 → 8 ≤ index → ⊥
            less low high = omega arith
        by (inr high) (inr off) = old (installs.stores.record_kept.addresses r (λ x. off))
        by (inr high) (inl e) =
            at installs.fresh installs.taken
            (ap (slot is) e ∙ sym (address-range is index high) ∙ installs.stores.answered ∙ ap (unwrap_or installs.fresh) (address-range was index high ∙ ap (slot was) (sym e)))

    leads-installed : PointersLead (g.names s) 1 is (in_memory q)
    leads-installed i below some = by (cases_eq i index)
      where
        pointers : StoresPointer index to was is (in_memory p) (in_memory q)
        pointers = installs.stores.pointers nothing h.unwritten

        by : (i ≡ index) ⊎ (i ≢ index) → IsRef (g.names s) always (wants_tagged (tag_of 1 is i, pointer_at (in_memory q) is i)) (pointer_at (in_memory q) is i).name
        by (inl e) =
            subst (λ (at : Pointer). IsRef (g.names s) always (wants_tagged (tag_of 1 is i, at)) at.name) (sym (ap (pointer_at (in_memory q) is) e ∙ pointers.at))
            (same-tag installs.stores.record_kept.generation i to (subst (λ (j : ℕ). Leads j to) (sym e) leads))
        by (inr far) =
            subst (λ (at : Pointer). IsRef (g.names s) always (wants_tagged (tag_of 1 is i, at)) at.name) (sym (pointers.others i far))
            (same-tag installs.stores.record_kept.generation i (pointer_at (in_memory p) was i) (h.leads i below (ap is_none_pointer (sym (pointers.others i far)) ∙ some)))

    pub file-installed : HasFile g s q t is
    file-installed =
        let e = first-installed installs.fresh installs.taken in
        gone-file g s was is p q f t h (goes-stored index to installs.fresh was is p q installs.stores) taken-installed leads-installed e.0 e.1

  module _ (size : ℕ) (partial : Option Pointer) (leads : IfSome partial (Leads (size / 4096))) (cuts : Cuts size partial was is p q f t) where
    taken-cut : (r : ℕ) → slot is r ≢ 0 → IsTaken t (slot is r)
    taken-cut r far = by (cuts.addresses.either r)
      where
        by : (slot is r ≡ slot was r) ⊎ (slot is r ≡ 0) → IsTaken t (slot is r)
        by (inr none) = absurd (far none)
        by (inl e) =
            let k = h.taken r (λ none. far (e ∙ none)) in
            subst (IsTaken t) (sym e) (record { low = k.low; high = k.high; taken = cuts.given.others (slot was r) kept ∙ k.taken })
          where
            kept : LosesAddress (slots_of was) (slots_of is) (slot was r) → ⊥
            kept l = far (ap (slot is) (sym (h.file.differ r l.at (λ none. far (e ∙ none)) l.had)) ∙ l.gone)

    leads-cut : PointersLead (g.names s) 1 is (in_memory q)
    leads-cut i below some = by (cases_lt i (div_ceil size 4096))
      where
        pointers : CutsPointers size partial was is (in_memory p) (in_memory q)
        pointers = cuts.pointers nothing h.unwritten

        There : Pointer → Type 0
        There at = IsRef (g.names s) always (wants_tagged (tag_of 1 is i, at)) at.name

        kept : i < div_ceil size 4096 → (IsSome partial → i ≢ size / 4096) → There (pointer_at (in_memory q) is i)
        kept low off =
            subst There (sym (pointers.kept i low off))
            (same-tag cuts.generation i (pointer_at (in_memory p) was i) (h.leads i below (ap is_none_pointer (sym (pointers.kept i low off)) ∙ some)))

        at : (o : Option Pointer) → partial ≡ o → IfSome o (Leads (size / 4096)) → IfSome o (λ x. pointer_at (in_memory q) is (size / 4096) ≡ x) → i < div_ceil size 4096 → (i ≡ size / 4096) ⊎ (i ≢ size / 4096) → There (pointer_at (in_memory q) is i)
        at None e l r low either = kept low (λ some. absurd (true_false (sym some ∙ ap is_some e)))
        at (Some to) e l r low (inr off) = kept low (λ some. off)
        at (Some to) e l r low (inl same) =
            subst There (sym (ap (pointer_at (in_memory q) is) same ∙ r)) (same-tag cuts.generation i to (subst (λ (j : ℕ). Leads j to) (sym same) l))

        by : (i < div_ceil size 4096) ⊎ (div_ceil size 4096 ≤ i) → There (pointer_at (in_memory q) is i)
        by (inl low) = at partial refl leads pointers.replaced low (cases_eq i (size / 4096))
        by (inr high) = absurd (true_false (sym (ap is_none_pointer (pointers.gone i high)) ∙ some))

    pub file-cut : HasFile g s q t is
    file-cut = gone-file g s was is p q f t h (goes-cut size partial was is p q f t cuts) taken-cut leads-cut cuts.given.first cuts.given.count
