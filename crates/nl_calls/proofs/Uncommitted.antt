-- Calls that commit nothing, and those that leave the medium.
use Rattle.std.proofs.Common.{◌≡◌, ℕ, ◌+◌, ◌≤◌, true, false, List, length, refl, sym, ap, ◌∙◌}
use Rattle.std.proofs.lemmas.Bool.{false≢true}
use Rattle.nl_tree.specs.Causes.{is_changing}
use Rattle.nl_tree.specs.declared.call.Call.{Call}
use Rattle.nl_tree.specs.declared.call.Call.TheVariants.{Mkdir, Rmdir, Create, Unlink, Rename, Write, Fill, Read, Truncate, Stat, List as ListCall, Sync, Clean}
use Rattle.nl_iface.specs.declared.counts.Counts.{Ghosts}
use Rattle.nl_meta.specs.Pages.{most}
use Rattle.nl_namespace.specs.Calls.{IsOfNames}
use Rattle.nl_core.specs.LastCommit.{KeepsCommit, KeepsRoom}
use Rattle.nl_core.specs.declared.state.Core.{Core}
use Rattle.nl_core.proofs.LastCommits.{commit_then, room_on}
use Rattle.nl_calls_bytes.specs.Ranges.{IsWriting}
use Rattle.nl_calls_write.specs.Calls.{HasRoomToWrite}
use Rattle.nl_calls.specs.Commits.{NeedsNoCommit, is_to_commit, most_dirtied, most_programmed}

-- ---- behind a part that keeps the room

module _ {D : Type 0} (g : Ghosts D) (call : Call) (u v w : Core D) (kept : KeepsRoom g 0 u v) where
  pub needs_on : NeedsNoCommit g call u → NeedsNoCommit g call v
  needs_on needs = record { plain = needs.plain; room = room_on g (most_dirtied call) (most_programmed call) u v kept needs.room }

  pub needs_then : (NeedsNoCommit g call v → KeepsCommit v w) → NeedsNoCommit g call u → KeepsCommit u w
  needs_then rest needs = commit_then u v w kept.commit (rest (needs_on needs))

-- ---- by the kind of call

pub commits_not : (a b : Call) → is_to_commit a ≡ false → a ≡ b → is_to_commit b ≡ true → ⊥
commits_not a b plain same to_commit = false≢true (sym plain ∙ (ap is_to_commit same ∙ to_commit))

pub looks_not : (a b : Call) → is_changing a ≡ false → a ≡ b → is_changing b ≡ true → ⊥
looks_not a b looks same changes = false≢true (sym looks ∙ (ap is_changing same ∙ changes))

-- a call that changes names
pub names_dirty : {D : Type 0} (g : Ghosts D) (v : Core D) (call : Call) → IsOfNames call → NeedsNoCommit g call v → length v.meta.dirty + 9 ≤ most
names_dirty g v (Mkdir path) is needs = needs.room.dirty_room
names_dirty g v (Rmdir path) is needs = needs.room.dirty_room
names_dirty g v (Create path) is needs = needs.room.dirty_room
names_dirty g v (Unlink path) is needs = needs.room.dirty_room
names_dirty g v (Rename from to) is needs = needs.room.dirty_room
names_dirty g v (Write path from bytes) is needs = absurd is
names_dirty g v (Fill path from len byte) is needs = absurd is
names_dirty g v (Read path from len) is needs = absurd is
names_dirty g v (Truncate path size) is needs = absurd is
names_dirty g v (Stat path) is needs = absurd is
names_dirty g v (ListCall path) is needs = absurd is
names_dirty g v Sync is needs = absurd is
names_dirty g v Clean is needs = absurd is

-- a call that writes
pub writes_room : {D : Type 0} (g : Ghosts D) (v : Core D) (call : Call) → IsWriting call → NeedsNoCommit g call v → HasRoomToWrite g call v
writes_room g v (Mkdir path) is needs = absurd is
writes_room g v (Rmdir path) is needs = absurd is
writes_room g v (Create path) is needs = absurd is
writes_room g v (Unlink path) is needs = absurd is
writes_room g v (Rename from to) is needs = absurd is
writes_room g v (Write path from bytes) is needs = needs.room
writes_room g v (Fill path from len byte) is needs = needs.room
writes_room g v (Read path from len) is needs = absurd is
writes_room g v (Truncate path size) is needs = absurd is
writes_room g v (Stat path) is needs = absurd is
writes_room g v (ListCall path) is needs = absurd is
writes_room g v Sync is needs = absurd is
writes_room g v Clean is needs = absurd is

-- a call that is none of those that only look
pub not_looking : (call : Call) → ((path : List (List ℕ)) (from len : ℕ) → call ≡ Read path from len → ⊥) → ((path : List (List ℕ)) → call ≡ Stat path → ⊥) → ((path : List (List ℕ)) → call ≡ ListCall path → ⊥) → is_changing call ≡ false → ⊥
not_looking (Mkdir path) r s l is = cc is
not_looking (Rmdir path) r s l is = cc is
not_looking (Create path) r s l is = cc is
not_looking (Unlink path) r s l is = cc is
not_looking (Rename from to) r s l is = cc is
not_looking (Write path from bytes) r s l is = cc is
not_looking (Fill path from len byte) r s l is = cc is
not_looking (Read path from len) r s l is = r path from len refl
not_looking (Truncate path size) r s l is = cc is
not_looking (Stat path) r s l is = s path refl
not_looking (ListCall path) r s l is = l path refl
not_looking Sync r s l is = cc is
not_looking Clean r s l is = cc is
