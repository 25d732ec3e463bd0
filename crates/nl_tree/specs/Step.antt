-- What each call answers on a tree of files, and the tree after it.
use Rattle.std.specs.Prelude.{ℕ, ◌+◌, nat_lt, Bool, ◌&&◌, ◌||◌, if◌then◌else◌, List, [], ◌∷◌, ◌++◌, length, replicate, sum_by, flat_map, is_none, is_some, Option, Some, None}
use Rattle.std.specs.List.{list_any}
use Rattle.nl_field.specs.Numbers.{max_file_size, max_entries, max_name, max_path}
use Rattle.nl_field.specs.FileContent.{FileContent, empty_file, bytes_read, written_over, cut_to}
use Rattle.nl_field.specs.declared.shape.Shape.{Shape}
use Rattle.nl_tree.specs.Tree.{Node, directory, file, Tree, node_at, all_paths, with_new, with_content, without, with_renamed, entries_of, last_name, paths_eq, is_at_or_under, is_root, is_directory, is_file, content_of}
use Rattle.nl_tree.specs.Charges.{data_charge, node_charge, meta_charge}
use Rattle.nl_tree.specs.declared.call.Call.{Call}
use Rattle.nl_tree.specs.declared.call.Call.TheVariants.{Mkdir, Rmdir, Create, Unlink, Rename, Write, Fill, Read, Truncate, Stat, List as ListCall, Sync, Clean}
use Rattle.nl_tree.specs.declared.reply.Space.TheVariants.{Dir as DirSpace, Nodes, Meta, Pages}
use Rattle.nl_tree.specs.declared.reply.Refusal.{Refusal}
use Rattle.nl_tree.specs.declared.reply.Refusal.TheVariants.{Enoent, Eexist, Enotdir, Eisdir, Enotempty, Einval, Enametoolong, Efbig, Enospc}
use Rattle.nl_tree.specs.declared.reply.Reply.{Reply}
use Rattle.nl_tree.specs.declared.reply.Reply.TheVariants.{Done, Count, Content, Names, File as FileReply, Dir as DirReply, Synced, No}

-- what a call answers, the bytes that come with `Content` and `Names`, and the tree after it
pub record Outcome : Type 0 where
  pub reply : Reply
  pub bytes : List ℕ
  pub tree : Tree

-- ---- refusals, in order

abbrev pub when : Bool → Refusal → Option Refusal
when holds refusal = if holds then Some refusal else None

abbrev pub first_of : List (Option Refusal) → Option Refusal
first_of [] = None
first_of (None ∷ rest) = first_of rest
first_of (Some refusal ∷ rest) = Some refusal

-- The path prefix, from a directory through all names but the last: the first that is missing, or that is a file, refuses.
unfoldable pub prefix_refusal_from : Tree → List (List ℕ) → List (List ℕ) → Option Refusal
prefix_refusal_from tree at [] = None
prefix_refusal_from tree at (name ∷ []) = None
prefix_refusal_from tree at (name ∷ next ∷ names) =
    let here = node_at tree (at ++ name ∷ []) in
    let onward = prefix_refusal_from tree (at ++ name ∷ []) (next ∷ names) in
    first_of (when (is_none here) Enoent ∷ when (is_file here) Enotdir ∷ onward ∷ [])

abbrev pub prefix_refusal : Tree → List (List ℕ) → Option Refusal
prefix_refusal tree path = prefix_refusal_from tree [] path

abbrev pub missing : Tree → List (List ℕ) → Option Refusal
missing tree path = when (is_none (node_at tree path)) Enoent

-- for a call on a new path
unfoldable pub refusal_of_new : Tree → List (List ℕ) → Option Refusal
refusal_of_new tree path = first_of (when (is_root path) Eexist ∷ prefix_refusal tree path ∷ when (is_some (node_at tree path)) Eexist ∷ [])

-- for a call on a file
unfoldable pub refusal_of_file : Tree → List (List ℕ) → Option Refusal
refusal_of_file tree path =
    first_of (when (is_root path) Eisdir ∷ prefix_refusal tree path ∷ missing tree path
    ∷ when (is_directory (node_at tree path)) Eisdir ∷ [])

unfoldable pub refusal_of_rmdir : Tree → List (List ℕ) → Option Refusal
refusal_of_rmdir tree path =
    first_of (when (is_root path) Einval ∷ prefix_refusal tree path ∷ missing tree path ∷ when (is_file (node_at tree path)) Enotdir
    ∷ when (nat_lt 0 (length (entries_of tree path))) Enotempty ∷ [])

-- for a rename to another path
unfoldable pub refusal_of_move : Tree → List (List ℕ) → List (List ℕ) → Option Refusal
refusal_of_move tree from to =
    let old = node_at tree from in
    let new = node_at tree to in
    first_of (when (is_directory old && is_at_or_under from to) Einval ∷ prefix_refusal tree to
    ∷ when (is_file old && is_directory new) Eisdir ∷ when (is_directory old && is_file new) Enotdir
    ∷ when (is_directory old && is_directory new && nat_lt 0 (length (entries_of tree to))) Enotempty ∷ [])

unfoldable pub refusal_of_rename : Tree → List (List ℕ) → List (List ℕ) → Option Refusal
refusal_of_rename tree from to =
    first_of (when (is_root from || is_root to) Einval ∷ prefix_refusal tree from ∷ missing tree from
    ∷ (if paths_eq from to then None else refusal_of_move tree from to) ∷ [])

abbrev pub refusal_of_write : Tree → List (List ℕ) → ℕ → ℕ → Option Refusal
refusal_of_write tree path from len =
    first_of (refusal_of_file tree path ∷ when (nat_lt 0 len && nat_lt max_file_size (from + len)) Efbig ∷ [])

-- the call's own refusals
unfoldable pub own_refusal : Tree → Call → Option Refusal
own_refusal tree (Mkdir path) = refusal_of_new tree path
own_refusal tree (Create path) = refusal_of_new tree path
own_refusal tree (Rmdir path) = refusal_of_rmdir tree path
own_refusal tree (Unlink path) = refusal_of_file tree path
own_refusal tree (Rename from to) = refusal_of_rename tree from to
own_refusal tree (Write path from bytes) = refusal_of_write tree path from (length bytes)
own_refusal tree (Fill path from len byte) = refusal_of_write tree path from len
own_refusal tree (Read path from len) = refusal_of_file tree path
own_refusal tree (Truncate path size) = first_of (refusal_of_file tree path ∷ when (nat_lt max_file_size size) Efbig ∷ [])
own_refusal tree (Stat path) = first_of (prefix_refusal tree path ∷ missing tree path ∷ [])
own_refusal tree (ListCall path) = first_of (prefix_refusal tree path ∷ missing tree path ∷ when (is_file (node_at tree path)) Enotdir ∷ [])
own_refusal tree Sync = None
own_refusal tree Clean = None

-- a path of more than 1023 bytes with the `/` before each name, or a name of more than 55
unfoldable pub is_too_long : List (List ℕ) → Bool
is_too_long path = nat_lt max_path (sum_by (λ name. 1 + length name) path) || list_any (λ name. nat_lt max_name (length name)) path

abbrev pub paths_of : Call → List (List (List ℕ))
paths_of (Mkdir path) = path ∷ []
paths_of (Create path) = path ∷ []
paths_of (Rmdir path) = path ∷ []
paths_of (Unlink path) = path ∷ []
paths_of (Rename from to) = from ∷ to ∷ []
paths_of (Write path from bytes) = path ∷ []
paths_of (Fill path from len byte) = path ∷ []
paths_of (Read path from len) = path ∷ []
paths_of (Truncate path size) = path ∷ []
paths_of (Stat path) = path ∷ []
paths_of (ListCall path) = path ∷ []
paths_of Sync = []
paths_of Clean = []

-- a tree that the volume has no room for
unfoldable pub space_refusal : Shape → Tree → Option Refusal
space_refusal shape tree =
    first_of (when (list_any (λ e. nat_lt max_entries (length (entries_of tree e.0))) (all_paths tree)) (Enospc DirSpace)
    ∷ when (nat_lt shape.nodes (node_charge tree)) (Enospc Nodes) ∷ when (nat_lt shape.meta (meta_charge tree)) (Enospc Meta)
    ∷ when (nat_lt shape.cap (data_charge tree)) (Enospc Pages) ∷ [])

-- what refuses a call whatever the tree after it
abbrev pub refusal_before : Tree → Call → Option Refusal
refusal_before tree call = first_of (when (list_any is_too_long (paths_of call)) Enametoolong ∷ own_refusal tree call ∷ [])

-- ---- what a call does that is not refused

abbrev pub done_with : Tree → Outcome
done_with tree = record { reply = Done; bytes = []; tree = tree }

-- the file at the path is this one, with the count as the reply
abbrev pub write_outcome : Tree → List (List ℕ) → ℕ → FileContent → Outcome
write_outcome tree path count content = record { reply = Count count; bytes = []; tree = with_content tree path content }

-- a space and the name for each entry, with `/` after the name of a directory
unfoldable pub listing : List (List (List ℕ) × Node) → List ℕ
listing entries = flat_map (λ e. 32 ∷ last_name e.0 ++ (if is_directory (Some e.1) then 47 ∷ [] else [])) entries

abbrev pub status_of : ℕ → Option Node → Reply
status_of entries (Some (file content)) = FileReply content.size (length content.pages)
status_of entries (Some directory) = DirReply entries
status_of entries None = No Enoent

unfoldable pub effect_of : Tree → Call → Outcome
effect_of tree (Mkdir path) = done_with (with_new tree path directory)
effect_of tree (Create path) = done_with (with_new tree path (file empty_file))
effect_of tree (Rmdir path) = done_with (without tree path)
effect_of tree (Unlink path) = done_with (without tree path)
effect_of tree (Rename from to) = done_with (if paths_eq from to then tree else with_renamed tree from to)
effect_of tree (Write path from bytes) = write_outcome tree path (length bytes) (written_over (content_of (node_at tree path)) from bytes)
effect_of tree (Fill path from len byte) =
    write_outcome tree path len (written_over (content_of (node_at tree path)) from (replicate len byte))
effect_of tree (Read path from len) = record { reply = Content; bytes = bytes_read (content_of (node_at tree path)) from len; tree = tree }
effect_of tree (Truncate path size) = done_with (with_content tree path (cut_to (content_of (node_at tree path)) size))
effect_of tree (Stat path) = record { reply = status_of (length (entries_of tree path)) (node_at tree path); bytes = []; tree = tree }
effect_of tree (ListCall path) =
    let entries = entries_of tree path in record { reply = Names (length entries); bytes = listing entries; tree = tree }
-- both numbers of a sync are open: see `ReplyFits`
effect_of tree Sync = record { reply = Synced 0 0; bytes = []; tree = tree }
effect_of tree Clean = done_with tree

-- ---- the step

abbrev pub outcome_unless : Tree → Outcome → Option Refusal → Outcome
outcome_unless tree outcome None = outcome
outcome_unless tree outcome (Some refusal) = record { reply = No refusal; bytes = []; tree = tree }

unfoldable pub step : Shape → Tree → Call → Outcome
step shape tree call =
    let outcome = effect_of tree call in
    outcome_unless tree outcome
    (first_of (when (list_any is_too_long (paths_of call)) Enametoolong ∷ own_refusal tree call ∷ space_refusal shape outcome.tree ∷ []))
