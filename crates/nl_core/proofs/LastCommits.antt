-- The last commit stays, and the room of a core, through one call after the other.
use Rattle.std.proofs.Common.{◌≡◌, inl, inr, ℕ, ◌+◌, ◌≤◌, List, [], ◌∷◌, length, refl, sym, ap, subst, ◌∙◌, arith}
use Rattle.nl_field.specs.declared.answers.Named.{Named}
use Rattle.nl_field.specs.declared.answers.Named.TheVariants as named
use Rattle.nl_field.specs.declared.pointer.Pointer.{Pointer}
use Rattle.nl_field.specs.declared.pointer.Tag.{Tag}
use Rattle.nl_flight.specs.Flight.{InFlight, of_worker}
use Rattle.nl_iface.specs.Answers.{IfPlaced, IfRefused, IsPlaced}
use Rattle.nl_iface.specs.Calls.{KeepsMedium, OnlyReads, PlacesNewPage, PlacesNone}
use Rattle.nl_iface.specs.Names.{Names}
use Rattle.nl_iface.specs.Space.{NoneRetired}
use Rattle.nl_iface.specs.declared.counts.Counts.{Ghosts}
use Rattle.nl_iface.proofs.Stops.{keeps_medium_then}
use Rattle.nl_journal_commit.specs.Freeing.{FreesEach, FreesOne}
use Rattle.nl_meta.specs.Pages.{most}
use Rattle.nl_core.specs.Core.{begun_of, names_of}
use Rattle.nl_core.specs.Dropping.{DropsLine, pointers_of}
use Rattle.nl_core.specs.LastCommit.{HasRoomAtOnce, KeepsCommit, KeepsRoom, LeavesMedium}
use Rattle.nl_core.specs.Programming.{ProgramsNewName}
use Rattle.nl_core.specs.Writing.{stopped_on}
use Rattle.nl_core.specs.declared.state.Core.{Core}

-- ---- the last commit

pub commit_none : {D : Type 0} (u : Core D) → KeepsCommit u u
commit_none u = record { begun = refl; moment = refl; committed = refl }

pub commit_then : {D : Type 0} (u v w : Core D) → KeepsCommit u v → KeepsCommit v w → KeepsCommit u w
commit_then u v w a b = record { begun = b.begun ∙ a.begun; moment = b.moment ∙ a.moment; committed = b.committed ∙ a.committed }

-- ---- the room

module _ {D : Type 0} (g : Ghosts D) where
  pub room_none : (n : ℕ) (u : Core D) → KeepsRoom g n u u
  room_none n u = record { commit = commit_none u; dirty = refl; room = omega arith }

  pub room_then : (m n k : ℕ) (u v w : Core D) → m + n ≤ k → KeepsRoom g m u v → KeepsRoom g n v w → KeepsRoom g k u w
  room_then m n k u v w low a b = record {
    commit = commit_then u v w a.commit b.commit;
    dirty = b.dirty ∙ a.dirty;
    room = let one = a.room in let two = b.room in omega (arith, low, one, two);
  }

  pub room_more : (m n : ℕ) (u v : Core D) → m ≤ n → KeepsRoom g m u v → KeepsRoom g n u v
  room_more m n u v low a = record { commit = a.commit; dirty = a.dirty; room = let one = a.room in omega (arith, low, one) }

  pub room_on : (dirty pages : ℕ) (u v : Core D) → KeepsRoom g 0 u v → HasRoomAtOnce g dirty pages u → HasRoomAtOnce g dirty pages v
  room_on dirty pages u v a has = record {
    dirty_room = subst (λ (xs : List ℕ). length xs + dirty ≤ most) (sym a.dirty) has.dirty_room;
    page_room = let one = a.room in let low = has.page_room in omega (arith, one, low);
  }

  -- a part that commits nothing where there is room, behind one that keeps the room
  pub commit_through : (dirty pages : ℕ) (u v w : Core D) → KeepsRoom g 0 u v → (HasRoomAtOnce g dirty pages v → KeepsCommit v w) → HasRoomAtOnce g dirty pages u → KeepsCommit u w
  commit_through dirty pages u v w a after has = commit_then u v w a.commit (after (room_on dirty pages u v a has))

  -- ---- the medium

  pub medium_none : (s : D) → KeepsMedium g s s
  medium_none s = record {
    virtual = record { same_shape = refl; same_stamps = λ v. refl; same_map = λ tells v. refl; no_failed = λ tells v x failed. failed; spare = λ spare. spare };
    contents = λ tells. refl;
    left = λ tells m c left. left;
    bytes = λ tells p. refl;
    found = refl;
    next_stamp = refl;
    clean = λ clean. clean;
    clock = refl;
    write_faults = refl;
  }

  pub leaves_none : (u : Core D) → LeavesMedium g u u
  leaves_none u = record { medium = medium_none u.device; commit = commit_none u }

  pub leaves_then : (u v w : Core D) → LeavesMedium g u v → LeavesMedium g v w → LeavesMedium g u w
  leaves_then u v w a b = record { medium = keeps_medium_then g u.device v.device w.device a.medium b.medium; commit = commit_then u v w a.commit b.commit }

-- ---- a line that is dropped

one_room : (p : Pointer) (s t : Names) → FreesOne p s t → s.space.room ≤ t.space.room
one_room p s t (inl f) = f.space.room
one_room p s t (inr same) = let is = ap (λ (n : Names). n.space.room) same.1 in omega (arith, is)

frees_room : (ps : List Pointer) (s t : Names) → FreesEach ps s t → s.space.room ≤ t.space.room
frees_room [] s t same = let is = ap (λ (n : Names). n.space.room) same in omega (arith, is)
frees_room (p ∷ ps) s t f = let one = one_room p s f.0 f.1 in let more = frees_room ps f.0 t f.2 in omega (arith, one, more)

module _ {D : Type 0} (g : Ghosts D) (worker : ℕ) (u v : Core D) (d : DropsLine g worker u v) where
  drops_commit : KeepsCommit u v
  drops_commit = record { begun = ap (λ (x : Core D). begun_of x) d.others; moment = ap (λ (x : Core D). x.moment) d.others; committed = ap (λ (x : Core D). x.committed) d.others }

  pub drops_room : KeepsRoom g 0 u v
  drops_room = record {
    commit = drops_commit;
    dirty = ap (λ (x : Core D). x.meta.dirty) d.others;
    room = let more = frees_room (pointers_of (of_worker u.flight worker)) (names_of g u) (names_of g v) d.frees.freed in omega (arith, more);
  }

  pub drops_leaves : LeavesMedium g u v
  drops_leaves = record { medium = d.frees.kept; commit = drops_commit }

-- ---- a page that is programmed, or not

tried_room : {D : Type 0} (g : Ghosts D) (tag : Tag) (main : List ℕ) (answer : Named) (old new : D) → IfPlaced answer (PlacesNewPage g tag main 0 (g.names old) old new) → ((IsPlaced answer → ⊥) → PlacesNone g answer old new)
    → IfRefused answer (OnlyReads g old new) → NoneRetired (g.names old).space (g.names new).space → (g.names old).space.room ≤ (g.names new).space.room + 1
tried_room g tag main (named.Placed at) old new placed none refused retired = placed.space.room retired
tried_room g tag main named.NotLive old new placed none refused retired = let is = ap (λ (n : Names). n.space.room) refused.names in omega (arith, is)
tried_room g tag main named.NoPage old new placed none refused retired = let is = ap (λ (n : Names). n.space.room) refused.names in omega (arith, is)
tried_room g tag main named.Fault old new placed none refused retired = (none (λ placed. placed)).fault.room_most retired

module _ {D : Type 0} (g : Ghosts D) (v w : Core D) (tag : Tag) (main : List ℕ) (answer : Named) (p : ProgramsNewName g tag main answer v.device w.device)
    (others : w ≡ record v { device = w.device; stopped = stopped_on g (g.write_faults v.device) v w }) where
  place_commit : KeepsCommit v w
  place_commit = record { begun = ap (λ (x : Core D). begun_of x) others; moment = ap (λ (x : Core D). x.moment) others; committed = ap (λ (x : Core D). x.committed) others }

  place_dirty : w.meta.dirty ≡ v.meta.dirty
  place_dirty = ap (λ (x : Core D). x.meta.dirty) others

  place_room : (names_of g v).space.room ≤ (names_of g w).space.room + 1
  place_room = tried_room g tag main answer v.device w.device p.placed p.none p.refused p.retired

  -- with whatever is in flight then
  pub put_room : (flight : List InFlight) → KeepsRoom g 1 v (record w { flight = flight })
  put_room flight = record { commit = record { begun = place_commit.begun; moment = place_commit.moment; committed = place_commit.committed }; dirty = place_dirty; room = place_room }

  pub none_room : KeepsRoom g 1 v w
  none_room = record { commit = place_commit; dirty = place_dirty; room = place_room }
