-- Room for the pages that a change makes dirty.
use Rattle.std.proofs.Common.{◌≡◌, ℕ, ◌+◌, ◌-◌, ◌≤◌, ◌<◌, Bool, true, false, ◌==◌, cond, List, [], ◌∷◌, ◌++◌, length, sym, ap, ◌∙◌, subst, Some, None, IsSome, arith}
use Rattle.nl_field.specs.declared.inode.InodeRec.{InodeRec}
use Rattle.nl_meta.specs.Committed.{VirtualMap}
use Rattle.nl_meta.specs.Nodes.{address_of_place, entries_of_inode, entry_named, inode_at}
use Rattle.nl_meta.specs.Pages.{Pages, page_of}
use Rattle.nl_meta.proofs.Lists.{none_some, some_in}
use Rattle.nl_dir.specs.Changes.{ChangesPages, changed_by_removal}
use Rattle.nl_dir.specs.Directory.{HasRoomForDirty, entry_at, given_up, last_alone}
use Rattle.nl_dir.proofs.EntryLists.{named-at, some-of}
use Rattle.nl_dir.proofs.LawProofs.{change_takes_room}
use Rattle.nl_inode.specs.Nodes.{Spaces}
use Rattle.nl_namespace.specs.Entering.{HasNamed}

two : (a b : Bool) (x y : ℕ) → length (cond a [] (x ∷ []) ++ cond b [] (y ∷ [])) ≤ 2
two true true x y = omega arith
two true false x y = omega arith
two false true x y = omega arith
two false false x y = omega arith

pub few-changed : (rec : InodeRec) (at : ℕ) → length (changed_by_removal rec at) ≤ 2
few-changed rec at = two (at == rec.size - 1) (last_alone rec) (address_of_place rec at) (address_of_place rec (rec.size - 1))

pub room-left : (changed : List ℕ) (old new : Pages) (n m : ℕ) → ChangesPages changed old new → length changed ≤ m → HasRoomForDirty (n + m) old → HasRoomForDirty n new
room-left changed old new n m changes few room = change_takes_room changed old new n changes (omega (arith, few, room))

-- a directory with an entry of some name has places
pub some-places : (pages : VirtualMap) (rec : InodeRec) (name : List ℕ) → IsSome (entry_named pages rec name) → 0 < rec.size
unfolding entry_named entries_of_inode
some-places pages rec name there =
    let e = some-of (entry_named pages rec name) there in
    let at = named-at (entry_at pages rec) rec.size name e.0 e.1 in
    let h = at.1 in
    omega (arith, h)

-- the address that is given up is of the pool
pub given-of-pool : (rec : InodeRec) (first count a : ℕ) → ((i : ℕ) → i < rec.size → (first ≤ address_of_place rec i) × (address_of_place rec i < first + count)) → 0 < rec.size
    → given_up rec ≡ Some a → (first ≤ a) × (a < first + count)
given-of-pool rec first count a of_pool some e = by (last_alone rec) e
  where
    by : (b : Bool) → cond b (Some (address_of_place rec (rec.size - 1))) None ≡ Some a → (first ≤ a) × (a < first + count)
    by true e = subst (λ (x : ℕ). (first ≤ x) × (x < first + count)) (some_in _ _ e) (of_pool (rec.size - 1) (omega (arith, some)))
    by false e = absurd (none_some a e)

-- the same of the record as it was read
pub removed-of-pool : (p : Pages) (n : ℕ) (name : List ℕ) (free : Spaces) (has : HasNamed n name p free) (rec : InodeRec) → inode_at (page_of p) n ≡ Some rec → (a : ℕ)
    → given_up rec ≡ Some a → (free.first ≤ a) × (a < free.first + length free.pool)
removed-of-pool p n name free has rec is a e =
    let same = some_in has.rec rec (sym has.has.spelled ∙ is) in
    given-of-pool has.rec free.first (length free.pool) a has.of_pool (some-places (page_of p) has.rec name has.there) (ap given_up same ∙ e)
