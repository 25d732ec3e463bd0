-- A file is put on a volume by one call after the other: how far it has come, and how it ends.
use Rattle.std.specs.Prelude.{◌≡◌, ◌≢◌, ⊤, Bool, true, false, ◌&&◌, if◌then◌else◌, ℕ, ◌+◌, ◌<◌, ◌≤◌, ◌^◌, List, [], ◌∷◌, ◌++◌, length, take, Option, None, Some}
use Rattle.std.specs.List.{flat_map}
use Rattle.nl_tree.specs.Calls.{AreNames}
use Rattle.nl_tree.specs.Replay.{replay}
use Rattle.nl_tree.specs.Step.{space_refusal}
use Rattle.nl_tree.specs.Tree.{Tree}
use Rattle.nl_tree.specs.declared.call.Call.TheVariants.{Sync}
use Rattle.nl_tree.specs.declared.reply.Refusal.{Refusal}
use Rattle.nl_tree.specs.declared.reply.Refusal.TheVariants.{Eexist}
use Rattle.nl_tree.specs.declared.reply.Reply.{Reply}
use Rattle.nl_tree.specs.declared.reply.Reply.TheVariants.{Count, Done, No, Synced}
use Rattle.nl_turns.specs.History.{Opening}
use Rattle.nl_turns.specs.declared.entry.Entry.{Entry}
use Rattle.nl_put_tree.specs.Putting.{FitsVolume, IsBeside, IsPut, IsUnderWay, IsWriting, Path, Refuses}
use Rattle.nl_cmd_put.specs.Asking.{MetFault}
use Rattle.nl_cmd_course.specs.Asking.{Asked, HasAsked, marked, tree_after}
use Rattle.nl_cmd_put.specs.declared.creating.Created.{Created}
use Rattle.nl_cmd_put.specs.declared.creating.Created.TheVariants as created
use Rattle.nl_cmd_put.specs.declared.creating.Tried.{Tried}
use Rattle.nl_cmd_put.specs.declared.creating.Tried.TheVariants as tried
use Rattle.nl_cmd_put.specs.declared.ending.End.{End}
use Rattle.nl_cmd_put.specs.declared.ending.End.TheVariants as ends

-- the bytes of all pieces
abbrev pub joined : List (List ℕ) → List ℕ
joined pieces = flat_map (λ piece. piece) pieces

-- ---- the end

-- The last call was a sync, which was answered ok.
pub record EndsSynced (asked : Asked) : Type 0 where
  pub before : Asked
  pub upto : ℕ
  pub moment : ℕ
  pub is : asked ≡ before ++ (Sync, Synced upto moment) ∷ []

-- What is said of each end. Over a medium that does not tell its contents, a fault need not have been one.
abbrev pub IsEnd : Type 0 → Opening → Path → Path → List ℕ → Asked → End → Type 0
IsEnd tells opening own path bytes asked (ends.Put count) =
    (count ≡ length bytes) × EndsSynced asked × (tells → IsPut opening.tree path bytes (tree_after opening asked))
IsEnd tells opening own path bytes asked (ends.Refused refusal) =
    tells → (tree_after opening asked ≡ opening.tree) × Refuses opening.shape opening.tree own path bytes refusal
IsEnd tells opening own path bytes asked ends.Memory = tells → tree_after opening asked ≡ opening.tree
IsEnd tells opening own path bytes asked ends.Fault = tells → MetFault asked

-- So a put ends that is left with no name to try: the last one was taken, or there was none.
abbrev pub EndsTried : Type 0 → Opening → Path → List ℕ → End → Type 0
EndsTried tells opening path bytes (ends.Refused refusal) =
    (own : Path) × IsBeside path own × (tells → Refuses opening.shape opening.tree own path bytes refusal)
EndsTried tells opening path bytes ends.Memory = ⊤
EndsTried tells opening path bytes (ends.Put count) = ⊥
EndsTried tells opening path bytes ends.Fault = ⊥

-- Why a call of a put was not done that had this reply: the tree refuses it, or it met a fault.
pub record StopsAt (tells : Type 0) (opening : Opening) (own path : Path) (bytes : List ℕ) (asked : Asked) (reply : Reply) : Type 0 where
  pub refused : tells → (refusal : Refusal) → reply ≡ No refusal → Refuses opening.shape opening.tree own path bytes refusal
  pub fault : tells → ((refusal : Refusal) → reply ≢ No refusal) → MetFault asked

-- ---- what the code makes of replies

abbrev pub is_done : Reply → Bool
is_done Done = true
is_done _ = false

abbrev pub is_count : Reply → Bool
is_count (Count n) = true
is_count _ = false

abbrev pub is_synced : Reply → Bool
is_synced (Synced upto moment) = true
is_synced _ = false

-- of the file of its own
abbrev pub tried_by : Path → Reply → Tried
tried_by own Done = tried.Own own
tried_by own (No Eexist) = tried.Taken
tried_by own (No refusal) = tried.Ended (ends.Refused refusal)
tried_by own _ = tried.Ended ends.Fault

abbrev pub end_of_refusal : Reply → End
end_of_refusal (No refusal) = ends.Refused refusal
end_of_refusal _ = ends.Fault

-- of the call that was not done, of the one that takes the file back, and of the sync
abbrev pub end_of_back : Reply → Reply → Reply → End
end_of_back why gone synced = if is_done gone && is_synced synced then end_of_refusal why else ends.Fault

abbrev pub end_of_sync : ℕ → Reply → End
end_of_sync count synced = if is_synced synced then ends.Put count else ends.Fault

-- ---- of one value, since an opening

module _ {V : Type 0} (stands : V → Opening → List Entry → V → Type 0) (tells : Type 0) (origin : V) (opening : Opening) where
  -- A value has answered these calls of a put. At each of its moments the put was under way; and this holds of its tree now.
  pub record IsPutting (own path : Path) (bytes : List ℕ) (asked : Asked) (v : V) (P : Tree → Type 0) : Type 0 where
    pub so_far : HasAsked stands tells origin opening asked v
    pub under_way : tells → (n : ℕ)
        → IsUnderWay opening.tree own path bytes (replay opening.shape opening.tree (take n (marked asked)))
    pub now_is : tells → P (tree_after opening asked)

  -- So it is after some calls, and the next has this number.
  pub record StandsAt (own path : Path) (bytes : List ℕ) (number : ℕ) (v : V) (P : Tree → Type 0) : Type 0 where
    pub asked : Asked
    pub putting : IsPutting own path bytes asked v P
    pub next : length asked + 1 ≡ number

  -- The last call was not done, and its reply was this one; the file of its own is there, with some of the bytes.
  pub record HasStopped (own path : Path) (bytes : List ℕ) (number : ℕ) (v : V) (reply : Reply) : Type 0 where
    pub asked : Asked
    pub written : List ℕ
    pub putting : IsPutting own path bytes asked v (IsWriting opening.tree own written)
    pub next : length asked + 1 ≡ number
    pub why : StopsAt tells opening own path bytes asked reply

  -- The put has ended so.
  pub record HasPut (path : Path) (bytes : List ℕ) (end : End) (v : V) : Type 0 where
    pub own : Path
    pub beside : IsBeside path own
    pub asked : Asked
    pub few : length asked < 2 ^ 32
    pub putting : IsPutting own path bytes asked v (λ tree. ⊤)
    pub is_end : IsEnd tells opening own path bytes asked end

  -- Calls were tried that the tree refuses: it is as it was at each moment.
  pub record HasTried (number : ℕ) (v : V) : Type 0 where
    pub asked : Asked
    pub so_far : HasAsked stands tells origin opening asked v
    pub same : tells → (n : ℕ) → replay opening.shape opening.tree (take n (marked asked)) ≡ opening.tree
    pub next : length asked + 1 ≡ number

  -- what became of one name
  abbrev pub TriesOwn : Path → List ℕ → Path → ℕ → V → Tried → Type 0
  TriesOwn path bytes own number v (tried.Own own') =
      (own' ≡ own) × StandsAt own path bytes (number + 1) v (IsWriting opening.tree own [])
  TriesOwn path bytes own number v tried.Taken =
      HasTried (number + 1) v × (tells → Refuses opening.shape opening.tree own path bytes Eexist)
  TriesOwn path bytes own number v (tried.Ended end) = HasPut path bytes end v

  -- what became of all
  abbrev pub CreatesOwn : Path → List ℕ → V → Created → Type 0
  CreatesOwn path bytes v (created.Own own number) =
      IsBeside path own × StandsAt own path bytes number v (IsWriting opening.tree own [])
  CreatesOwn path bytes v (created.Ended end) = HasPut path bytes end v

  -- what became of the renaming
  abbrev pub RenamesOwn : Path → Path → List ℕ → ℕ → V → Reply → Bool → Type 0
  RenamesOwn own path bytes number v reply true =
      StandsAt own path bytes number v (λ tree. IsPut opening.tree path bytes tree × (space_refusal opening.shape tree ≡ None))
  RenamesOwn own path bytes number v reply false = HasStopped own path bytes number v reply

  -- what became of one piece behind those that are written
  abbrev pub WritesPiece : Path → Path → List ℕ → List ℕ → ℕ → V → Reply → Type 0
  WritesPiece own path bytes written number v (Count n) = StandsAt own path bytes number v (IsWriting opening.tree own written)
  WritesPiece own path bytes written number v reply = HasStopped own path bytes number v reply

  -- what became of all pieces
  abbrev pub WritesAll : Path → Path → List ℕ → ℕ → V → Option Reply → Type 0
  WritesAll own path bytes number v None = StandsAt own path bytes number v (IsWriting opening.tree own bytes)
  WritesAll own path bytes number v (Some reply) = HasStopped own path bytes number v reply

-- ---- of each opening

module _ {V : Type 0} (stands : V → Opening → List Entry → V → Type 0) (tells : Type 0) (v : V) where
  -- P holds of each opening with a tree that fits, since which nothing was asked
  abbrev pub FromEachFresh : (V → Opening → Type 0) → Type 0
  FromEachFresh P =
      (origin : V) (opening : Opening) → HasAsked stands tells origin opening [] v → (tells → FitsVolume opening.shape opening.tree)
      → P origin opening

  abbrev pub FromEachTried : ℕ → (V → Opening → Type 0) → Type 0
  FromEachTried number P =
      (origin : V) (opening : Opening) → HasTried stands tells origin opening number v
      → (tells → FitsVolume opening.shape opening.tree) → P origin opening

-- the number of the next call is small
abbrev pub HasFewAsked : Created → Type 0
HasFewAsked (created.Own own number) = (number ≤ 1027) × AreNames own
HasFewAsked (created.Ended end) = ⊤

abbrev pub IfCreated : Created → (ℕ → Type 0) → Type 0
IfCreated (created.Own own number) P = P number
IfCreated (created.Ended end) P = ⊤

abbrev pub IfOwn : Tried → (Path → Type 0) → Type 0
IfOwn (tried.Own own) P = P own
IfOwn tried.Taken P = ⊤
IfOwn (tried.Ended end) P = ⊤

module _ {V : Type 0} (stands : V → Opening → List Entry → V → Type 0) (tells : Type 0) (v : V) where
  -- P holds of each opening since which so many of the bytes were written
  abbrev pub FromEachWriting : Path → Path → List ℕ → List ℕ → ℕ → (V → Opening → Type 0) → Type 0
  FromEachWriting own path bytes written number P =
      (origin : V) (opening : Opening) → StandsAt stands tells origin opening own path bytes number v (IsWriting opening.tree own written)
      → P origin opening

  -- P holds of each opening since which a call was not done
  abbrev pub FromEachStopped : Path → Path → List ℕ → ℕ → Reply → (V → Opening → Type 0) → Type 0
  FromEachStopped own path bytes number reply P =
      (origin : V) (opening : Opening) → HasStopped stands tells origin opening own path bytes number v reply
      → (tells → FitsVolume opening.shape opening.tree) → P origin opening

  -- P holds of each opening since which the file was put, but for the sync
  abbrev pub FromEachPut : Path → Path → List ℕ → ℕ → (V → Opening → Type 0) → Type 0
  FromEachPut own path bytes number P =
      (origin : V) (opening : Opening)
      → StandsAt stands tells origin opening own path bytes number v
      (λ tree. IsPut opening.tree path bytes tree × (space_refusal opening.shape tree ≡ None)) → P origin opening
