-- What a sink takes of a file of a core, piece by piece.
use Rattle.std.specs.Prelude.{◌≡◌, ◌≢◌, ◌⊎◌, ⊤, ℕ, ◌<◌, Bool, if◌then◌else◌, List, [], ◌++◌, length, Option, Some, None}
use Rattle.nl_field.specs.CrashStates.{Rose}
use Rattle.nl_field.specs.FileContent.{FileContent, bytes_read}
use Rattle.nl_io.specs.Streams.{WritesStream}
use Rattle.nl_io.specs.declared.sink.SinkAnswer.{SinkAnswer}
use Rattle.nl_io.specs.declared.sink.SinkAnswer.TheVariants as sink
use Rattle.nl_iface.specs.declared.counts.Counts.{Ghosts}
use Rattle.nl_meta.specs.Consistent.{PageOfStamp}
use Rattle.nl_core.specs.Trees.{CoreRepresentsTree}
use Rattle.nl_core.specs.declared.state.Core.{Core}
use Rattle.nl_tree.specs.Tree.{Tree, file, node_at}
use Rattle.nl_tree.specs.declared.call.Call.{Call}
use Rattle.nl_tree.specs.declared.call.Call.TheVariants.{Read}
use Rattle.nl_tree.specs.declared.reply.Refusal.{Refusal}
use Rattle.nl_tree.specs.declared.reply.Reply.TheVariants.{Content, No}
use Rattle.nl_calls_read.specs.declared.answer.Looked.{Looked}
use Rattle.nl_calls_read.specs.declared.answer.Looked.TheVariants as looked
use Rattle.nl_cmd_words.specs.Ends.{IsStatusOf}
use Rattle.nl_cmd_view.specs.Getting.{IsTextOfFile, refusal_of_read}
use Rattle.nl_cmd_view.specs.declared.printing.Got.{Got}
use Rattle.nl_cmd_view.specs.declared.printing.Got.TheVariants as got

-- the bytes of a piece
abbrev pub piece_length : ℕ
piece_length = 65536

-- the path of a call that reads
abbrev pub read_path : Call → List (List ℕ)
read_path (Read path from len) = path
read_path call = []

-- the offset of a call that reads
abbrev pub read_from : Call → ℕ
read_from (Read path from len) = from
read_from call = 0

-- The call reads a piece.
abbrev pub ReadsPiece : Call → Type 0
ReadsPiece call = call ≡ Read (read_path call) (read_from call) piece_length

-- ---- the whole

-- how the text was taken that was printed
abbrev pub taken_so : Got → SinkAnswer
taken_so got.All = sink.Took
taken_so got.NotTaken = sink.Failed
taken_so (got.Refused refusal) = sink.Took
taken_so got.Fault = sink.Took
taken_so got.Lost = sink.Took

-- the text is a beginning of that of the file
abbrev pub BeginsTextOfFile : Tree → List (List ℕ) → List ℕ → Type 0
BeginsTextOfFile tree path text = (rest : List ℕ) × IsTextOfFile tree path (text ++ rest)

-- The text is that of the file, or a beginning of it where the printing ended early, or none where there is no file or it was not found. No
-- page is lost.
abbrev pub IsGot : Got → Tree → List (List ℕ) → List ℕ → Type 0
IsGot got.All tree path text = IsTextOfFile tree path text
IsGot got.NotTaken tree path text = BeginsTextOfFile tree path text
IsGot (got.Refused refusal) tree path text = (refusal_of_read tree path ≡ Some refusal) × (text ≡ [])
IsGot got.Fault tree path text = (text ≡ []) ⊎ BeginsTextOfFile tree path text
IsGot got.Lost tree path text = ⊥

-- Some text was printed. Where the medium tells its contents, it is that of the file in each tree as which the core runs.
pub record PrintsFile {D : Type 0} (g : Ghosts D) (v : Core D) (path : List (List ℕ)) (old new : Option (List ℕ)) (answer : Got) : Type 0 where
  pub text : List ℕ
  pub taken : WritesStream old new (taken_so answer) text
  pub of_tree : g.tells → (page_of_stamp : ℕ → Option PageOfStamp) (tree : Tree) → CoreRepresentsTree g v page_of_stamp tree
      → IsGot answer tree path text

-- The count of failed reads rose only where a fault ended the printing, and then it did.
abbrev pub ReadsCountedFor : Got → ℕ → ℕ → Type 0
ReadsCountedFor got.All before now = now ≡ before
ReadsCountedFor got.NotTaken before now = now ≡ before
ReadsCountedFor (got.Refused refusal) before now = now ≡ before
ReadsCountedFor got.Fault before now = Rose before now
ReadsCountedFor got.Lost before now = now ≡ before

abbrev pub ReadsFor : {D : Type 0} → Ghosts D → D → D → Got → Type 0
ReadsFor g old new answer = ReadsCountedFor answer (g.read_faults old) (g.read_faults new)

abbrev pub IfRefused : Got → Type 0 → Type 0
IfRefused got.All P = ⊤
IfRefused got.NotTaken P = ⊤
IfRefused (got.Refused refusal) P = P
IfRefused got.Fault P = ⊤
IfRefused got.Lost P = ⊤

-- ---- a piece

-- how a piece was taken; none ends the printing
abbrev pub piece_taken : Option Got → SinkAnswer
piece_taken None = sink.Took
piece_taken (Some answer) = taken_so answer

abbrev pub ReadsUntil : {D : Type 0} → Ghosts D → D → D → Option Got → Type 0
ReadsUntil g old new None = g.read_faults new ≡ g.read_faults old
ReadsUntil g old new (Some answer) = ReadsFor g old new answer

abbrev pub IfPieceRefused : Option Got → Type 0 → Type 0
IfPieceRefused None P = ⊤
IfPieceRefused (Some answer) P = IfRefused answer P

-- Bytes of so many were taken: a full piece where the printing goes on.
abbrev pub IsTaken : Option Got → ℕ → Type 0
IsTaken None count = count ≡ piece_length
IsTaken (Some got.All) count = count < piece_length
IsTaken (Some got.NotTaken) count = ⊤
IsTaken (Some (got.Refused refusal)) count = ⊥
IsTaken (Some got.Fault) count = ⊥
IsTaken (Some got.Lost) count = ⊥

-- What ends the printing at an answer; none where there are bytes. Only before the first piece a refusal is told as such.
abbrev pub ends_at : Looked → Bool → Option Got
ends_at (looked.Replied Content) first = None
ends_at (looked.Replied (No refusal)) first = if first then Some (got.Refused refusal) else Some got.Lost
ends_at (looked.Replied reply) first = Some got.Lost
ends_at (looked.Lost wanted found) first = Some got.Lost
ends_at looked.Fault first = Some got.Fault

-- The piece is what the file has from an offset on, at most so many bytes.
pub record IsPieceOfFile (tree : Tree) (path : List (List ℕ)) (at : ℕ) (piece : List ℕ) : Type 0 where
  pub may_read : refusal_of_read tree path ≡ None
  pub content : FileContent
  pub is_file : node_at tree path ≡ Some (file content)
  pub piece_is : piece ≡ bytes_read content at piece_length

-- The piece is that of the file: a full one where the printing goes on, and else the last. A refusal ends it as such only before the first.
abbrev pub IsPiece : Option Got → Tree → List (List ℕ) → ℕ → List ℕ → Type 0
IsPiece None tree path at piece = IsPieceOfFile tree path at piece × (length piece ≡ piece_length)
IsPiece (Some got.All) tree path at piece = IsPieceOfFile tree path at piece × (length piece < piece_length)
IsPiece (Some got.NotTaken) tree path at piece = IsPieceOfFile tree path at piece
IsPiece (Some (got.Refused refusal)) tree path at piece = (refusal_of_read tree path ≡ Some refusal) × (piece ≡ [])
IsPiece (Some got.Fault) tree path at piece = piece ≡ []
IsPiece (Some got.Lost) tree path at piece = (0 < at) × (refusal_of_read tree path ≢ None)

-- Some piece was printed, which is that of the file in each tree as which the core runs.
pub record PrintsPiece {D : Type 0} (g : Ghosts D) (v : Core D) (path : List (List ℕ)) (at : ℕ) (old new : Option (List ℕ)) (answer : Option Got) : Type 0 where
  pub piece : List ℕ
  pub taken : WritesStream old new (piece_taken answer) piece
  pub of_tree : g.tells → (page_of_stamp : ℕ → Option PageOfStamp) (tree : Tree) → CoreRepresentsTree g v page_of_stamp tree
      → IsPiece answer tree path at piece

-- ---- the ending

-- With which refusal and status the command ends after the printing, by whether the medium failed.
abbrev pub EndsAs : Got → Type 0 → Option Refusal → ℕ → Type 0
EndsAs got.All failed refused status = (refused ≡ None) × IsStatusOf status failed sink.Took
EndsAs got.NotTaken failed refused status = (refused ≡ None) × IsStatusOf status failed sink.Failed
EndsAs (got.Refused refusal) failed refused status = (refused ≡ Some refusal) × (status ≡ 2)
EndsAs got.Fault failed refused status = (refused ≡ None) × (status ≡ 5)
EndsAs got.Lost failed refused status = (refused ≡ None) × (status ≡ 5)
