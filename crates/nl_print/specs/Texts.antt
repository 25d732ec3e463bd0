-- The printed texts.
use Rattle.std.specs.Prelude.{ℕ, ◌+◌, ◌-◌, List, [], ◌∷◌, ◌++◌, length, flat_map, codes, decimal, if◌then◌else◌}
use Rattle.hex.specs.Hex.{encode_lower}
use Rattle.nl_field.specs.FindingBits.{has_finding}
use Rattle.nl_field.specs.declared.findings.Findings.{Findings}
use Rattle.nl_field.specs.declared.shape.Shape.{Shape}
use Rattle.nl_field.specs.declared.place.Place.{Place}
use Rattle.nl_field.specs.declared.place.What.{What}
use Rattle.nl_field.specs.declared.place.What.TheVariants.{Super, Stamp, Inode, Pages as PagesPhase, Entry, Pointer, Names as NamesPhase, Charges, Crowded}
use Rattle.nl_tree.specs.Tree.{Node, directory, file, Tree, all_paths, entries_of}
use Rattle.nl_tree.specs.declared.reply.Space.{Space}
use Rattle.nl_tree.specs.declared.reply.Space.TheVariants.{Dir as DirSpace, Nodes, Meta, Pages}
use Rattle.nl_tree.specs.declared.reply.Refusal.{Refusal}
use Rattle.nl_tree.specs.declared.reply.Refusal.TheVariants.{Enoent, Eexist, Enotdir, Eisdir, Enotempty, Einval, Enametoolong, Efbig, Enospc}
use Rattle.nl_tree.specs.declared.reply.FaultReply.{FaultReply}
use Rattle.nl_tree.specs.declared.reply.FaultReply.TheVariants.{Eio, Erofs, Eworn, Edamaged}
use Rattle.nl_tree.specs.declared.reply.Reply.{Reply}
use Rattle.nl_tree.specs.declared.reply.Reply.TheVariants.{Done, Count, Content, Names, File as FileReply, Dir as DirReply, Synced, No, Fault}

-- a space and a number
abbrev pub then_number : ℕ → List ℕ
then_number n = 32 ∷ decimal n

-- a word, a space and a number
abbrev pub field : List ℕ → ℕ → List ℕ
field word n = word ++ then_number n

-- how much of the most there may be
abbrev pub share : List ℕ → ℕ → ℕ → List ℕ
share word n most = field word n ++ field (codes " of") most

-- the bytes in lower case hexadecimal, and a dash for none
abbrev pub content_text : List ℕ → List ℕ
content_text [] = codes "-"
content_text (b ∷ bytes) = encode_lower (b ∷ bytes)

abbrev pub space_text : Space → List ℕ
space_text DirSpace = codes "dir"
space_text Nodes = codes "nodes"
space_text Meta = codes "meta"
space_text Pages = codes "data"

abbrev pub refusal_text : Refusal → List ℕ
refusal_text Enoent = codes "ENOENT"
refusal_text Eexist = codes "EEXIST"
refusal_text Enotdir = codes "ENOTDIR"
refusal_text Eisdir = codes "EISDIR"
refusal_text Enotempty = codes "ENOTEMPTY"
refusal_text Einval = codes "EINVAL"
refusal_text Enametoolong = codes "ENAMETOOLONG"
refusal_text Efbig = codes "EFBIG"
refusal_text (Enospc space) = codes "ENOSPC " ++ space_text space

abbrev pub fault_text : FaultReply → List ℕ
fault_text (Eio sum) = codes "EIO" ++ then_number sum
fault_text (Erofs sum) = codes "EROFS" ++ then_number sum
fault_text Eworn = codes "EWORN"
fault_text (Edamaged wanted found) = codes "EDAMAGED" ++ then_number wanted ++ then_number found

-- a reply, with the bytes that came with it
abbrev pub reply_text : Reply → List ℕ → List ℕ
reply_text Done bytes = codes "ok"
reply_text (Count n) bytes = codes "ok" ++ then_number n
reply_text Content bytes = codes "ok " ++ content_text bytes
reply_text (Names n) bytes = codes "ok" ++ then_number n ++ bytes
reply_text (FileReply size pages) bytes = codes "ok file" ++ then_number size ++ then_number pages
reply_text (DirReply entries) bytes = codes "ok dir" ++ then_number entries
reply_text (Synced upto moment) bytes = codes "ok" ++ then_number upto
reply_text (No refusal) bytes = refusal_text refusal
reply_text (Fault fault) bytes = fault_text fault

-- a line of the script with its answer
abbrev pub Answered : Type 0
Answered = ℕ × Reply × List ℕ

abbrev pub answer_line : ℕ → Answered → List ℕ
answer_line place (line, reply, bytes) = decimal line ++ codes " @" ++ decimal place ++ 32 ∷ reply_text reply bytes ++ 10 ∷ []

-- answered lines at the places behind this count
abbrev pub answer_lines : ℕ → List Answered → List ℕ
answer_lines count [] = []
answer_lines count (one ∷ rest) = answer_line (count + 1) one ++ answer_lines (count + 1) rest

-- a line of a word and a number
abbrev pub number_text : List ℕ → ℕ → List ℕ
number_text word n = field word n ++ 10 ∷ []

abbrev pub opened_line : ℕ → List ℕ
opened_line count = number_text (codes "opened") count

-- the text of `run`, where the volume opened with this count of calls
abbrev pub run_text : ℕ → List Answered → List ℕ
run_text count answered = opened_line count ++ answer_lines count answered

-- a slash before each name
abbrev pub slashed : List (List ℕ) → List ℕ
slashed names = flat_map (λ name. 47 ∷ name) names

-- the root is `/`
abbrev pub path_text : List (List ℕ) → List ℕ
path_text [] = codes "/"
path_text (name ∷ names) = slashed (name ∷ names)

abbrev pub dir_text : List (List ℕ) → ℕ → List ℕ
dir_text path entries = codes "d " ++ path_text path ++ then_number entries ++ 10 ∷ []

abbrev pub file_text : List (List ℕ) → ℕ → ℕ → List ℕ
file_text path size pages = codes "f " ++ path_text path ++ then_number size ++ then_number pages ++ 10 ∷ []

abbrev pub node_line : ℕ → List (List ℕ) → Node → List ℕ
node_line entries path directory = dir_text path entries
node_line entries path (file content) = file_text path content.size (length content.pages)

-- the text of `tree`
abbrev pub tree_text : ℕ → Tree → List ℕ
tree_text count tree = opened_line count ++ flat_map (λ e. node_line (length (entries_of tree e.0)) e.0 e.1) (all_paths tree)

abbrev pub formatted_text : Shape → List ℕ
formatted_text shape =
    field (codes "formatted blocks") shape.blocks ++ field (codes " pages") shape.pages ++ field (codes " data") shape.cap
    ++ field (codes " nodes") shape.nodes ++ field (codes " meta") shape.meta ++ 10 ∷ []

-- the text of a script that is refused
abbrev pub refused_text : ℕ → ℕ → List ℕ → List ℕ
refused_text line column why = codes "script" ++ then_number line ++ then_number column ++ 32 ∷ why ++ 10 ∷ []

abbrev pub what_text : What → List ℕ
what_text Super = codes "super"
what_text Stamp = codes "stamp"
what_text Inode = codes "inode"
what_text PagesPhase = codes "pages"
what_text Entry = codes "entry"
what_text Pointer = codes "pointer"
what_text NamesPhase = codes "names"
what_text Charges = codes "charges"
what_text Crowded = codes "crowded"

abbrev pub damaged_text : Place → List ℕ
damaged_text at = codes "damaged" ++ then_number at.place ++ 32 ∷ what_text at.what ++ 10 ∷ []

-- the phases in their order
abbrev pub phases : List What
phases = Super ∷ Stamp ∷ Inode ∷ PagesPhase ∷ Entry ∷ Pointer ∷ NamesPhase ∷ Charges ∷ Crowded ∷ []

-- the line of a phase, where a checker found a fault in it
abbrev pub finding_text : Findings → What → List ℕ
finding_text found what = if has_finding found what then what_text what ++ 10 ∷ [] else []

abbrev pub findings_text : Findings → List ℕ
findings_text found = flat_map (finding_text found) phases

abbrev pub sound_text : ℕ → List ℕ
sound_text count = number_text (codes "sound") count

abbrev pub blocks_text : ℕ → ℕ → List ℕ
blocks_text vblocks pblocks = field (codes "blocks virtual") vblocks ++ field (codes " physical") pblocks ++ 10 ∷ []

abbrev pub pages_text : Shape → ℕ → ℕ → ℕ → List ℕ
pages_text shape pages nodes meta =
    share (codes "pages data") pages shape.cap ++ share (codes " nodes") nodes shape.nodes
    ++ share (codes " meta") meta shape.meta ++ 10 ∷ []

abbrev pub wear_text : ℕ → ℕ → List ℕ
wear_text least greatest = field (codes "wear least") least ++ field (codes " greatest") greatest ++ 10 ∷ []

-- the text of `report`: the charges of the tree, the pairs after opening, the wear of readable pages and the next stamp
abbrev pub report_text : Shape → ℕ → ℕ → ℕ → ℕ → ℕ → ℕ → ℕ → ℕ → List ℕ
report_text shape count pages nodes meta pairs least greatest stamp =
    number_text (codes "opened") count ++ blocks_text shape.vblocks shape.pblocks ++ pages_text shape pages nodes meta
    ++ number_text (codes "remap") pairs
    ++ wear_text least greatest ++ number_text (codes "stamp") stamp

abbrev pub calls_text : ℕ → ℕ → List ℕ
calls_text calls ok = field (codes "soak calls") calls ++ field (codes " ok") ok ++ field (codes " refused") (calls - ok) ++ 10 ∷ []

abbrev pub bytes_text : ℕ → ℕ → List ℕ
bytes_text written read = field (codes "bytes written") written ++ field (codes " read") read ++ 10 ∷ []

abbrev pub charges_text : ℕ → ℕ → ℕ → List ℕ
charges_text pages nodes meta = field (codes "data") pages ++ field (codes " nodes") nodes ++ field (codes " meta") meta ++ 10 ∷ []

-- the text of `soak`: counts of calls, of those answered ok, of bytes, and the charges of the last tree
abbrev pub soak_text : ℕ → ℕ → ℕ → ℕ → ℕ → ℕ → ℕ → List ℕ
soak_text calls ok written read pages nodes meta = calls_text calls ok ++ bytes_text written read ++ charges_text pages nodes meta
