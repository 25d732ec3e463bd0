-- What a volume is begun with, once a walk over the resident pages found no fault.
use Rattle.std.proofs.Common.{◌≡◌, ◌⊎◌, inl, inr, ℕ, ◌+◌, ◌-◌, ◌*◌, ◌/◌, ◌<◌, ◌≤◌, ◌==◌, false, List, [], length, get_or, map, refl, sym, ap, subst, ◌∙◌, Option, Some, None, IsSome, is_some, option_and_then, nat_le, nat_lt, arith}
use Rattle.std.specs.Prelude.{⊤}
use Rattle.std.specs.List.{list_any}
use Rattle.std.proofs.lemmas.Bool.{and_parts, both_ways, leb-true, ltb-true}
use Rattle.nl_field.specs.Numbers.{ShapeBounds}
use Rattle.nl_field.specs.SuperPage.{super_of}
use Rattle.nl_field.specs.declared.seen.Seen.{Seen}
use Rattle.nl_field.specs.declared.shape.Shape.{Shape}
use Rattle.nl_iface.specs.Calls.{KeepsVirtual}
use Rattle.nl_iface.specs.Counting.{FailuresCounted}
use Rattle.nl_iface.specs.Device.{IsVolumeShape}
use Rattle.nl_iface.specs.declared.counts.Counts.{Ghosts}
use Rattle.nl_inode.specs.Nodes.{AreFree, Spaces}
use Rattle.nl_journal.specs.Progress.{Progress}
use Rattle.nl_journal.specs.Standing.{JournalInOrder}
use Rattle.nl_journal.specs.declared.answers.Phase.TheVariants.{Header, Home}
use Rattle.nl_journal.proofs.Openings.{opens_in_order}
use Rattle.nl_meta.specs.Committed.{VirtualMap, committed}
use Rattle.nl_meta.specs.Consistent.{AddressAt, ConsistentOver}
use Rattle.nl_meta.specs.Nodes.{Held, inode_at, super_of_pages}
use Rattle.nl_meta.specs.PageLaws.{IsApart}
use Rattle.nl_meta.specs.Pages.{Frozen, Pages, none_frozen, page_of}
use Rattle.nl_meta.specs.Running.{CleanIsStored, or_stored, running_over}
use Rattle.nl_meta.specs.Walk.{walk_over}
use Rattle.nl_meta.proofs.Lists.{none_some}
use Rattle.nl_meta.proofs.WalkProofs.{walk_over_is_consistency}
use Rattle.nl_meta_running.specs.Running.{IsNeeded, running_on, stored_on}
use Rattle.nl_meta_running.proofs.Holds.{bounds-of}
use Rattle.nl_recover.specs.Loading.{LoadsMetadata}
use Rattle.nl_recover.specs.Looking.{LooksAlike}
use Rattle.nl_recover.specs.Recovering.{BeginsFromWalk, FindsFault, IfDamaged, IfRecovered, IsRecoverFault, IsFirstFault, IsWalked, Walks, count_in}
use Rattle.nl_journal.specs.Restoring.{BringsBack, HasRestored}
use Rattle.nl_recover.specs.Reading.{MetadataIsRead}
use Rattle.nl_recover.specs.declared.metadata.Metadata.{Metadata}
use Rattle.nl_recover.specs.declared.opening.Recovered.{Recovered}
use Rattle.nl_recover.specs.declared.opening.Recovered.TheVariants.{Ready, Damaged, Fault, Memory}
use Rattle.nl_recover.specs.declared.opening.Walked.{Walked}
use Rattle.nl_recover.proofs.Alike.{held-same, super-same, walks_alike}
use Rattle.nl_journal.proofs.BackStands.{stored-same}
use Rattle.nl_recover.proofs.LoadFacts.{runs}
use Rattle.nl_recover.proofs.NodesLoaded.{in-memory, same-node, there}

-- ---- a walk that finds nothing

consistent-of : (shape : Shape) (pages : VirtualMap) (seen : List Seen) → IsVolumeShape shape → walk_over shape pages seen ≡ None → ConsistentOver shape pages seen
consistent-of shape pages seen is e =
    subst (λ (s : Shape). ConsistentOver s pages seen) (sym is.numbers)
    ((walk_over_is_consistency shape.blocks shape.pages pages seen).0 (ap (λ (s : Shape). walk_over s pages seen) (sym is.numbers) ∙ e))

-- ---- each page that is needed is there

module _ (shape : Shape) (bounds : ShapeBounds shape) (seen : List Seen) (p : Pages) (c : ConsistentOver shape (page_of p) seen) where
  some-page : (o : Option (List ℕ)) (rec : _) → option_and_then super_of o ≡ Some rec → IsSome o
  some-page None rec e = absurd (none_some rec e)
  some-page (Some b) rec e = refl

  super-there : IsSome (page_of p 0)
  unfolding super_of_pages
  super-there = some-page (page_of p 0) c.metadata.super_rec c.metadata.numbers.spelled

  table-there : (v : ℕ) → 67 ≤ v → v < 67 + shape.inode_pages → IsSome (page_of p v)
  table-there v low high =
      let n = 16 * (v - 67) in
      let below : n < shape.nodes = let few = bounds.few_places in omega (arith, low, high, few) in
      let r = c.metadata.tree.nodes.spelled n below in
      let e : 67 + n / 16 ≡ v = omega (arith, low) in
      subst (λ (u : ℕ). IsSome (page_of p u)) e (there (page_of p) n r.0 r.1)

  slot-there : (n slot a : ℕ) → AddressAt shape (page_of p) n slot a → IsSome (page_of p a)
  slot-there n slot a at = ap is_some (c.metadata.tree.addresses.good n slot a at).committed

  module _ (stored : VirtualMap) where
    resident-runs : (v : ℕ) → IsSome (page_of p v) → running_over stored p v ≡ page_of p v
    unfolding running_over
    resident-runs v h = by (page_of p v) h
      where
        by : (o : Option (List ℕ)) → IsSome o → or_stored o (stored v) ≡ o
        by None h = absurd (both_ways false refl h)
        by (Some b) h = refl

    alike-running : LooksAlike shape (page_of p) (running_over stored p)
    alike-running = record {
      tables = λ u at. resident-runs u (table u at);
      slots = λ n slot a at low high. resident-runs a (slot-there n slot a at);
    }
      where
        table : (u : ℕ) → (u ≡ 0) ⊎ ((67 ≤ u) × (u < 67 + shape.inode_pages)) → IsSome (page_of p u)
        table u (inl e) = subst (λ (w : ℕ). IsSome (page_of p w)) (sym e) super-there
        table u (inr h) = table-there u h.0 h.1

    node-page : (n : ℕ) → n < shape.nodes → page_of p (67 + n / 16) ≡ running_over stored p (67 + n / 16)
    node-page n h = sym (resident-runs (67 + n / 16) (table-there (67 + n / 16) (omega arith) (let places = bounds.places in omega (arith, h, places))))

    needed-there : (v : ℕ) → IsNeeded shape (running_over stored p) v → IsSome (page_of p v)
    needed-there v (inl e) = let q = and_parts (nat_le 67 v) (nat_lt v (67 + shape.inode_pages)) e in table-there v (leb-true _ _ q.0) (ltb-true _ _ q.1)
    needed-there v (inr (n, slot, at)) = slot-there n slot v (in-memory shape (running_over stored p) p n slot v (node-page n at.is_node.below) at)

    node-is : (n : ℕ) → n < shape.nodes → inode_at (running_over stored p) n ≡ inode_at (page_of p) n
    node-is n h = same-node (page_of p) (running_over stored p) n (sym (node-page n h))

    free-running : (s : Spaces) → AreFree shape (page_of p) s → AreFree shape (running_over stored p) s
    free-running s f = record {
      nodes = λ n h. (
        (λ e rec is. (f.nodes n h).0 e rec (record { below = is.below; spelled = sym (node-is n h) ∙ is.spelled; used = is.used })),
        (λ none. (f.nodes n h).1 (λ rec is. none rec (record { below = is.below; spelled = node-is n h ∙ is.spelled; used = is.used }))),
      );
      pool = λ a low high. (
        (λ e n slot at. (f.pool a low high).0 e n slot (in-memory shape (running_over stored p) p n slot a (node-page n at.is_node.below) at)),
        (λ none. (f.pool a low high).1 (λ n slot at. none n slot (onto n slot a at))),
      );
    }
      where
        onto : (n slot a : ℕ) → AddressAt shape (page_of p) n slot a → AddressAt shape (running_over stored p) n slot a
        onto n slot a at = record {
          rec = at.rec;
          is_node = record { below = at.is_node.below; spelled = node-is n at.is_node.below ∙ at.is_node.spelled; used = at.is_node.used };
          in_slot = at.in_slot;
          not_zero = at.not_zero;
        }

-- ---- over a device

pub begins-own : (shape : Shape) (seen : List Seen) (journal : Progress) (p : Pages) (w : Walked) → BeginsFromWalk shape seen journal p w → BeginsFromWalk shape seen journal w.meta w
begins-own shape seen journal p w b = subst (λ (q : Pages). BeginsFromWalk shape seen journal q w) (sym b.same_pages) b

module _ {D : Type 0} (g : Ghosts D) where
  module _ (s : D) (seen : List Seen) (journal : Progress) (p : Pages) (volume : IsVolumeShape (g.shape s)) (back : BringsBack g s journal p) where
    -- a page that was loaded, neither dirty nor frozen, is the device's
    clean-loaded : (q : Pages) → LoadsMetadata g.tells (stored_on g s) p q → g.tells → CleanIsStored (stored_on g s) q
    unfolding running_over
    clean-loaded q l tells = record { each = λ u bytes at d f. by u bytes at (back.frozen u (ap (λ (fs : Frozen). list_any (λ a. a == u) fs.addresses) (sym l.frozen) ∙ f)) (l.each u) }
      where
        by : (u : ℕ) (bytes : List ℕ) → page_of q u ≡ Some bytes → page_of p u ≡ None → (page_of q u ≡ page_of p u) ⊎ (g.tells → page_of q u ≡ or_stored (page_of p u) (stored_on g s u)) → stored_on g s u ≡ Some bytes
        by u bytes at gone (inl e) = absurd (none_some bytes (sym gone ∙ sym e ∙ at))
        by u bytes at gone (inr e) = sym (ap (λ (o : Option (List ℕ)). or_stored o (stored_on g s u)) gone) ∙ sym (e tells) ∙ at

    pub same-loaded : (q : Pages) → LoadsMetadata g.tells (stored_on g s) p q → g.tells → (v : ℕ) → running_on g s q v ≡ committed (g.shape s) (stored_on g s) v
    same-loaded q l tells v = runs g.tells (stored_on g s) (stored_on g s) (λ _ _. refl) p q v (l.each v) tells ∙ back.same tells v

    -- no page of the journal was loaded
    apart-loaded : (q : Pages) → LoadsMetadata g.tells (stored_on g s) p q → (v : ℕ) → 1 ≤ v → v < 67 → page_of q v ≡ None
    apart-loaded q l v low high = by (page_of q v) refl
      where
        none : (b : List ℕ) → page_of q v ≡ Some b → IsSome (page_of p v) ⊎ IsApart v → ⊥
        none b e (inl there) = both_ways (is_some (page_of p v)) (ap is_some (back.apart v low high)) there
        none b e (inr (inl zero)) = omega (arith, low, zero)
        none b e (inr (inr far)) = omega (arith, high, far)

        by : (o : Option (List ℕ)) → page_of q v ≡ o → page_of q v ≡ None
        by None e = e
        by (Some b) e = absurd (none b e (l.apart v (ap is_some e)))

    -- each page that was restored stays
    restored-loaded : (q : Pages) → LoadsMetadata g.tells (stored_on g s) p q → HasRestored journal q
    restored-loaded q l = record {
      due = subst (λ (f : Frozen). ((journal.phase ≡ Header) × (f ≡ none_frozen)) ⊎ ((journal.phase ≡ Home 0) × (1 ≤ length f.addresses))) (sym l.frozen) back.restored.due;
      runs = subst (λ (f : Frozen). (i : ℕ) → i < length f.addresses → page_of q (get_or f.addresses i 0) ≡ Some (get_or f.images i [])) (sym l.frozen)
          (λ i lt. let is = back.restored.runs i lt in l.kept (get_or p.frozen.addresses i 0) (ap is_some is) ∙ is);
    }

    -- the walk over the pages in memory is that over the committed ones
    pub told-walk : (q : Pages) → (g.tells → LooksAlike (g.shape s) (running_over (stored_on g s) p) (page_of q)) → g.tells
        → walk_over (g.shape s) (committed (g.shape s) (stored_on g s)) seen ≡ walk_over (g.shape s) (page_of q) seen
    told-walk q alike tells =
        ap (λ (f : VirtualMap). walk_over (g.shape s) f seen) (λ i v. sym (back.same tells v) i)
        ∙ sym (walks_alike (g.shape s) (running_over (stored_on g s) p) (page_of q) seen (bounds-of (g.shape s) volume) (alike tells))

    pub is-walked : (w : Walked) → LoadsMetadata g.tells (stored_on g s) p w.meta → BeginsFromWalk (g.shape s) seen journal w.meta w → IsWalked g s seen w
    is-walked w l b = record {
      consistent = sound;
      same = same-loaded w.meta l;
      clean = l.dirty ∙ back.clean;
      resident = needed-there shape bounds seen w.meta paged stored;
      super_resident = super-there shape bounds seen w.meta paged;
      apart = apart-loaded w.meta l;
      runs = record {
        count = l.count ∙ back.count;
        nodes = sound.metadata.tree.nodes;
        addresses = sound.metadata.tree.addresses;
        entries = sound.metadata.tree.entries;
        absent = λ v need gone. absurd (none-there v need gone);
        clean = clean-loaded w.meta l;
      };
      free = free-running shape bounds seen w.meta paged stored w.nodes b.free;
      spaces = b.spaces;
      count = (sound.metadata.super_rec, sound.metadata.numbers.spelled, sym (b.count ∙ ap count_in (sym (super-same shape (page_of w.meta) (running_on g s w.meta) bounds alike) ∙ sound.metadata.numbers.spelled)));
      kept = b.kept ∙ ap (map (λ (h : Held). h.pointer)) (sym (held-same shape (page_of w.meta) (running_on g s w.meta) bounds alike paged.metadata.tree.addresses));
      restored = subst (λ (j : Progress). HasRestored j w.meta) (sym b.same_journal) (restored-loaded w.meta l);
      number = λ tells. ap (λ (j : Progress). j.number + 1) b.same_journal ∙ back.number tells;
      order = λ none.
          subst (λ (j : Progress). JournalInOrder g s j w.meta.frozen) (sym b.same_journal)
          (subst (λ (f : Frozen). JournalInOrder g s journal f) (sym l.frozen)
          (opens_in_order g s journal p.frozen volume back.phase back.pages (λ tells. (none tells, back.opened tells))));
    }
      where
        shape : Shape
        shape = g.shape s

        stored : VirtualMap
        stored = stored_on g s

        bounds : ShapeBounds (g.shape s)
        bounds = bounds-of (g.shape s) volume

        paged : ConsistentOver (g.shape s) (page_of w.meta) seen
        paged = consistent-of (g.shape s) (page_of w.meta) seen volume b.sound

        alike : LooksAlike (g.shape s) (page_of w.meta) (running_on g s w.meta)
        alike = alike-running (g.shape s) bounds seen w.meta paged (stored_on g s)

        sound : ConsistentOver (g.shape s) (running_on g s w.meta) seen
        sound = consistent-of (g.shape s) (running_on g s w.meta) seen volume (walks_alike (g.shape s) (page_of w.meta) (running_on g s w.meta) seen bounds alike ∙ b.sound)

        none-there : (v : ℕ) → IsNeeded (g.shape s) (running_on g s w.meta) v → page_of w.meta v ≡ None → ⊥
        none-there v need gone = both_ways (is_some (page_of w.meta v)) (ap is_some gone) (needed-there (g.shape s) bounds seen w.meta paged (stored_on g s) v need)

  -- ---- what the answer tells

  module _ (t : D) (seen : List Seen) (m : Metadata) (shape : Shape) (e : shape ≡ g.shape t) (volume : IsVolumeShape (g.shape t)) (read : MetadataIsRead g t m) where
    pub walked-of : (r : Recovered) → Walks shape seen m.journal m.meta r → IfRecovered r (IsWalked g t seen)
    walked-of (Ready w) b =
        is-walked t seen m.journal read.restored volume read.back w (subst (λ (p : Pages). LoadsMetadata g.tells (stored_on g t) read.restored p) (sym b.same_pages) read.loads)
        (begins-own (g.shape t) seen m.journal m.meta w (subst (λ (s : Shape). BeginsFromWalk s seen m.journal m.meta w) e b))
    walked-of (Damaged place) b = tt
    walked-of Fault b = tt
    walked-of Memory b = tt

    pub finds-of : (s : D) → KeepsVirtual g s t → g.tells → (r : Recovered) → Walks shape seen m.journal m.meta r → FindsFault (walk_over shape (committed shape (stored_on g s)) seen) r
    finds-of s k tells r b = by r b
      where
        same : walk_over shape (committed shape (stored_on g s)) seen ≡ walk_over shape (page_of m.meta) seen
        same =
            ap (λ (f : VirtualMap). walk_over shape (committed shape f) seen) (sym (λ i v. stored-same g s t k tells v i))
            ∙ ap (λ (h : Shape). walk_over h (committed h (stored_on g t)) seen) e
            ∙ told-walk t seen m.journal read.restored volume read.back m.meta read.alike tells
            ∙ ap (λ (h : Shape). walk_over h (page_of m.meta) seen) (sym e)

        by : (r : Recovered) → Walks shape seen m.journal m.meta r → FindsFault (walk_over shape (committed shape (stored_on g s)) seen) r
        by (Ready w) b = same ∙ b.sound
        by (Damaged place) b = same ∙ b
        by Fault b = tt
        by Memory b = tt

pub damaged-of : {D : Type 0} (g : Ghosts D) (s : D) (shape : Shape) (seen : List Seen) (m : Metadata) (r : Recovered) → MetadataIsRead g s m → Walks shape seen m.journal m.meta r → IfDamaged r (IsFirstFault g s shape seen)
damaged-of g s shape seen m (Ready w) is b = tt
damaged-of g s shape seen m (Damaged place) is b = (m, is, b)
damaged-of g s shape seen m Fault is b = tt
damaged-of g s shape seen m Memory is b = tt

no-fault : (shape : Shape) (seen : List Seen) (journal : Progress) (p : Pages) (r : Recovered) → Walks shape seen journal p r → IsRecoverFault r → ⊥
no-fault shape seen journal p (Ready w) b f = f
no-fault shape seen journal p (Damaged place) b f = f
no-fault shape seen journal p Fault b f = b
no-fault shape seen journal p Memory b f = f

pub counted-of : (shape : Shape) (seen : List Seen) (journal : Progress) (p : Pages) (r : Recovered) (before now : ℕ) → Walks shape seen journal p r → FailuresCounted ⊤ before now ⊥ → FailuresCounted ⊤ before now (IsRecoverFault r)
counted-of shape seen journal p r before now b f = record {
  never_falls = f.never_falls;
  cause = λ is. absurd (no-fault shape seen journal p r b is);
  once = λ _ is. absurd (no-fault shape seen journal p r b is);
  stays = λ one _. f.stays one (λ no. no);
}
