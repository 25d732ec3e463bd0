-- Examples on which the definitions are evaluated, on a volume of 32 by 32.
use Rattle.std.specs.Prelude.{Option, ℕ, ◌+◌, ◌*◌, ◌/◌, ◌%◌, List, [], ◌∷◌, ◌++◌, map, replicate, codes, None}
use Rattle.std.specs.List.{range_with_len}
use Rattle.nl_field.specs.Numbers.{shape_for}
use Rattle.nl_field.specs.FileContent.{empty_file}
use Rattle.nl_field.specs.declared.shape.Shape.{Shape}
use Rattle.nl_tree.specs.Tree.{Tree, directory, file, empty_tree, all_paths}
use Rattle.nl_tree.specs.Replay.{replay, step_marked}
use Rattle.nl_tree.specs.Step.{Outcome}
use Rattle.nl_tree.specs.declared.reply.FaultReply.{FaultReply}
use Rattle.nl_tree.specs.declared.reply.Reply.{Reply}
use Rattle.nl_tree.specs.declared.call.Call.{Call}
use Rattle.nl_tree.specs.declared.call.Line.{Line}
use Rattle.nl_tree.specs.declared.call.Call.TheVariants.{Mkdir, Rmdir, Create, Unlink, Rename, Write, Fill, Read, Truncate, Stat, List as ListCall, Sync, Clean}

abbrev pub small : Shape
small = shape_for 32 32

abbrev pub large : Shape
large = shape_for 512 64

-- what calls answer, in order
unfoldable pub answers_due : Shape → Tree → List (Call × Option FaultReply) → List Outcome
answers_due shape tree [] = []
answers_due shape tree (one ∷ rest) = step_marked shape tree one ∷ answers_due shape (step_marked shape tree one).tree rest

-- replies and bytes, from the tree with only the root
abbrev pub answers_to : Shape → List Call → List (Reply × List ℕ)
answers_to shape calls = map (λ o. (o.reply, o.bytes)) (answers_due shape empty_tree (map (λ c. (c, None)) calls))

-- the paths of the tree after the calls, in its order
abbrev pub paths_after : Shape → List Call → List (List (List ℕ))
paths_after shape calls = map (λ e. e.0) (all_paths (replay shape empty_tree (map (λ c. (c, None)) calls)))

abbrev pub root : List (List ℕ)
root = []

abbrev pub at : List ℕ → List (List ℕ)
at name = name ∷ []

abbrev pub a : List (List ℕ)
a = codes "a" ∷ []

abbrev pub b : List (List ℕ)
b = codes "b" ∷ []

abbrev pub d : List (List ℕ)
d = codes "d" ∷ []

abbrev pub dx : List (List ℕ)
dx = codes "d" ∷ codes "x" ∷ []

abbrev pub e : List (List ℕ)
e = codes "e" ∷ []

abbrev pub ax : List (List ℕ)
ax = codes "a" ∷ codes "x" ∷ []

abbrev pub bx : List (List ℕ)
bx = codes "b" ∷ codes "x" ∷ []

abbrev pub write_and_read : List Call
write_and_read = Create a ∷ Write a 0 (codes "hello") ∷ Read a 0 5 ∷ Sync ∷ []

abbrev pub over_a_page : List Call
over_a_page = Create a ∷ Write a 4090 (range_with_len 0 10) ∷ Read a 4088 14 ∷ Stat a ∷ []

abbrev pub far_write : List Call
far_write = Create a ∷ Write a 20000 (1 ∷ []) ∷ Read a 0 4 ∷ Stat a ∷ []

abbrev pub cut_and_lengthen : List Call
cut_and_lengthen = Create a ∷ Write a 0 (codes "hello") ∷ Truncate a 3 ∷ Truncate a 10 ∷ Read a 0 10 ∷ []

abbrev pub largest_file : List Call
largest_file = Create a ∷ Fill a 16744448 65536 97 ∷ Write a 16809984 (98 ∷ []) ∷ Stat a ∷ Read a 16809980 8 ∷ []

abbrev pub names_and_moves : List Call
names_and_moves =
    Mkdir d ∷ Create a ∷ Create b ∷ Write a 0 (97 ∷ []) ∷ Rename a a ∷ Rename d dx ∷ Rename a b ∷ Rename b d ∷ Rename d b
    ∷ Read b 0 1 ∷ ListCall root ∷ Read a 0 1 ∷ []

abbrev pub of_no_length : List Call
of_no_length = Create a ∷ Write a 0 [] ∷ Write b 0 [] ∷ Fill a 7 0 97 ∷ Stat a ∷ Read a 0 4 ∷ []

-- 30 fills of 16 pages reach the data pages of the volume.
abbrev pub full : List Call
full = Create a ∷ map (λ i. Fill a (65536 * i) 65536 97) (range_with_len 0 30) ++ Write a 1966080 (98 ∷ []) ∷ Stat a ∷ []

-- a volume with 4 data pages, which one fill of 16,384 bytes reaches
abbrev pub tiny : Shape
tiny = record small { cap = 4 }

abbrev pub full_tiny : List Call
full_tiny = Create a ∷ Fill a 0 16384 97 ∷ Write a 16384 (98 ∷ []) ∷ Stat a ∷ []

-- `mkdir /d` of worker 1 in round 0, and then a sync of worker 0 in round 1
abbrev pub before_a_sync : Line
before_a_sync = record { line = 1; round = 0; worker = 1; call = Mkdir d }

abbrev pub the_sync : Line
the_sync = record { line = 3; round = 1; worker = 0; call = Sync }

abbrev pub sync_lines : List Line
sync_lines = before_a_sync ∷ the_sync ∷ []

-- each refusal of a call's own table, and those of a path prefix
abbrev pub refused_calls : List Call
refused_calls =
    Mkdir root ∷ Create root ∷ Rmdir root ∷ Unlink root ∷ Rename root b ∷ Rename a root ∷ Write root 0 [] ∷ Read root 0 1 ∷ Truncate root 0
    ∷ Mkdir a ∷ Create d ∷ Create bx ∷ Mkdir ax ∷ Rmdir ax ∷ Rmdir b ∷ Rmdir a ∷ Rmdir d ∷ Unlink b ∷ Unlink d
    ∷ Rename b b ∷ Rename a bx ∷ Rename a ax ∷ Rename d a ∷ Rename a d ∷ Rename e d ∷ Rename dx dx
    ∷ Fill b 0 1 97 ∷ Write d 0 [] ∷ Read d 0 1 ∷ Truncate b 0 ∷ Truncate a 16809985 ∷ Stat b ∷ Stat ax ∷ ListCall b ∷ ListCall a ∷ Clean
    ∷ []

abbrev pub calls_and_refusals : List Call
calls_and_refusals = Mkdir d ∷ Create a ∷ Create dx ∷ Mkdir e ∷ refused_calls

-- a directory with what is under it moves, also over an empty one
abbrev pub subtree_moves : List Call
subtree_moves =
    Mkdir d ∷ Mkdir dx ∷ Create (dx ++ a) ∷ Write (dx ++ a) 0 (97 ∷ []) ∷ Rename dx b ∷ Stat d ∷ Rename b d ∷ ListCall root
    ∷ Read (d ++ a) 0 1 ∷ Stat (dx ++ a) ∷ []

-- `/a/x` stands before `/a!`, and `/a` before both
abbrev pub order_of_names : List Call
order_of_names = Create (codes "a!" ∷ []) ∷ Mkdir a ∷ Create ax ∷ []

-- Pages behind the size go, and the bytes behind it in the last page are zero.
abbrev pub pages_cut : List Call
pages_cut =
    Create a ∷ Write a 0 (codes "hello") ∷ Write a 8192 (98 ∷ []) ∷ Truncate a 4096 ∷ Stat a ∷ Truncate a 3 ∷ Stat a ∷ Truncate a 5000
    ∷ Stat a
    ∷ Read a 0 5 ∷ Truncate a 0 ∷ Stat a ∷ []

abbrev pub note : List (List ℕ)
note = codes "home" ∷ codes "ann" ∷ codes "note" ∷ []

abbrev pub note_anew : List (List ℕ)
note_anew = codes "home" ∷ codes "ann" ∷ codes ".note.tmp" ∷ []

-- a note is saved by a new file and a rename
abbrev pub save_a_note : List Call
save_a_note =
    Mkdir (codes "home" ∷ []) ∷ Mkdir (codes "home" ∷ codes "ann" ∷ []) ∷ Create note ∷ Write note 0 (codes "old") ∷ Sync
    ∷ Create note_anew ∷ Write note_anew 0 (codes "new") ∷ Sync ∷ Rename note_anew note ∷ Sync
    ∷ Read note 0 100 ∷ ListCall (codes "home" ∷ codes "ann" ∷ []) ∷ Stat (codes "home" ∷ []) ∷ []

abbrev pub name_of : ℕ → List ℕ
name_of len = replicate len 110

-- a path of 18 names of 55 bytes, and one more name, with their slashes: 1009 bytes and that name
abbrev pub long_path : ℕ → List (List ℕ)
long_path len = replicate 18 (name_of 55) ++ name_of len ∷ []

abbrev pub long_names : List Call
long_names =
    Create (at (name_of 55)) ∷ Create (at (name_of 56)) ∷ Create (long_path 14) ∷ Create (long_path 15) ∷ Rename root (at (name_of 56)) ∷ []

-- 3 nodes
abbrev pub few_nodes : Shape
few_nodes = record small { nodes = 3 }

abbrev pub nodes_run_out : List Call
nodes_run_out = Mkdir d ∷ Create a ∷ Create b ∷ Mkdir dx ∷ Unlink a ∷ Create b ∷ []

-- 2 metadata pages: one of entries, and one of pointers
abbrev pub few_meta : Shape
few_meta = record small { meta = 2 }

-- the second range of pages, and then a second directory with entries
abbrev pub meta_runs_out : List Call
meta_runs_out =
    Create a ∷ Mkdir d ∷ Write a 32768 (97 ∷ []) ∷ Write a 1081344 (97 ∷ []) ∷ Write a 0 (97 ∷ []) ∷ Rename a (d ++ a) ∷ Create dx
    ∷ Truncate a 32768 ∷ Create dx ∷ []

-- 1024 names of two letters
abbrev pub many_names : List (List ℕ)
many_names = map (λ i. (65 + i / 32) ∷ (65 + i % 32) ∷ []) (range_with_len 0 1024)

abbrev pub full_directory : Tree
full_directory = ([], directory) ∷ map (λ name. (name ∷ [], file empty_file)) many_names
