-- How the command ends, by how the printing of the file did.
use Rattle.std.proofs.Common.{◌≡◌, ◌∙◌, ℕ, List, [], ◌++◌, length, drop, inl, inr, refl, sym, ap, subst, Option}
use Rattle.std.proofs.Math.Seq.{drop-append_seam}
use Rattle.std.specs.Prelude.{◌⊎◌}
use Rattle.nl_cmd_words.specs.Ends.{EndsBefore}
use Rattle.nl_field.specs.CrashStates.{Rose}
use Rattle.nl_field.specs.FileContent.{bytes_read}
use Rattle.nl_io.specs.Streams.{WritesStream}
use Rattle.nl_io.specs.declared.sink.SinkAnswer.TheVariants as answers
use Rattle.nl_io.proofs.StreamsLaws.{stopped}
use Rattle.nl_spec_headline.specs.Streams.{Medium, MediumRose, Stream}
use Rattle.nl_spec_headline.specs.declared.lists.Ordered.{Ordered}
use Rattle.nl_spec_headline.specs.declared.lists.Synced.{Synced}
use Rattle.nl_spec_image.specs.Stands.{ConsistentAs}
use Rattle.nl_tree.specs.Tree.{Node, Tree, content_of, node_at}
use Rattle.nl_tree.specs.declared.reply.Refusal.{Refusal}
use Rattle.nl_cmd_view.proofs.Seen.{Looked, was_seen}
use Rattle.nl_cmd_view.specs.Getting.{BeginsFile, GetEnds, IsTextOfFile, ShowsFile, cut_short, not_cut, refuses}
use Rattle.nl_cmd_view.specs.Pieces.{BeginsTextOfFile, EndsAs, IfRefused, IsGot, ReadsCountedFor, taken_so}
use Rattle.nl_cmd_view.specs.declared.printing.Got.{Got}
use Rattle.nl_cmd_view.specs.declared.printing.Got.TheVariants as got
use Rattle.nl_cmd_view.proofs.Printed.{took_nothing}

-- the bytes of the file that is there
abbrev whole_of : Tree → List (List ℕ) → List ℕ
whole_of tree path = let content = content_of (node_at tree path) in bytes_read content 0 content.size

is_whole : (tree : Tree) (path : List (List ℕ)) (text : List ℕ) → IsTextOfFile tree path text → text ≡ whole_of tree path
is_whole tree path text f = f.text_is ∙ ap (λ (o : Option Node). let content = content_of o in bytes_read content 0 content.size) (sym f.is_file)

-- a beginning and the rest
with_rest : (tree : Tree) (path : List (List ℕ)) (text : List ℕ) → BeginsTextOfFile tree path text → IsTextOfFile tree path (text ++ drop (length text) (whole_of tree path))
with_rest tree path text (rest, f) =
    let back : rest ≡ drop (length text) (whole_of tree path) = sym (drop-append_seam text rest) ∙ ap (drop (length text)) (is_whole tree path (text ++ rest) f) in
    subst (λ (r : List ℕ). IsTextOfFile tree path (text ++ r)) back f

differ : answers.Took ≡ answers.Failed → ⊥
differ e = cc

module _ (tells : Type 0) (path : List (List ℕ)) (sink sink' : Stream) (start middle : Medium) (order : List Ordered) (syncs : List Synced) (refused : Option Refusal) (status : ℕ) (looks : Looked tells sink sink' start middle order syncs) where
  ends_before : (text : List ℕ) → WritesStream sink.bytes sink'.bytes answers.Took text → EndsBefore tells text sink sink' start middle order syncs
  ends_before text taken =
      record {
        prints = record { answer = answers.Took; taken = taken; never_falls = looks.later; cause = λ f. absurd (differ f) };
        untouched = looks.untouched;
        no_lines = looks.no_lines;
        no_syncs = looks.no_syncs;
      }

  -- the sink is as it was
  nothing_printed : sink' ≡ sink → WritesStream sink.bytes sink'.bytes answers.Took []
  nothing_printed same = subst (λ (s : Stream). WritesStream sink.bytes s.bytes answers.Took []) (sym same) (took_nothing sink.bytes)

  module _ (text : List ℕ) (count : ℕ) (tree : Tree) (sound : tells → ConsistentAs start.contents count tree) where
    shows : (t : tells) (whole : List ℕ) → IsTextOfFile tree path whole → ShowsFile path start.contents whole
    shows t whole f = record { count = count; tree = tree; sound = sound t; of_file = f }

    begun : (t : tells) → (text ≡ []) ⊎ BeginsTextOfFile tree path text → BeginsFile path start.contents text
    begun t (inl none) = inl none
    begun t (inr (rest, f)) = inr (rest, shows t (text ++ rest) f)

    pub was_got : (answer : Got) → (tells → IsGot answer tree path text) → WritesStream sink.bytes sink'.bytes (taken_so answer) text → (answer ≡ got.NotTaken → Rose sink.faults sink'.faults)
        → ReadsCountedFor answer start.counts.read_faults middle.counts.read_faults → IfRefused answer (sink' ≡ sink) → EndsAs answer (MediumRose start middle) refused status
        → GetEnds tells path sink sink' start middle order syncs refused status
    was_got got.All is taken cause reads same e =
        not_cut e.0 (was_seen tells sink sink' start middle order syncs status looks (ShowsFile path) answers.Took text (λ t. shows t text (is t)) reads taken (λ f. absurd (differ f)) e.1)
    was_got got.NotTaken is taken cause reads same e =
        let rest = drop (length text) (whole_of tree path) in
        not_cut e.0
        (was_seen tells sink sink' start middle order syncs status looks (ShowsFile path) answers.Failed (text ++ rest) (λ t. shows t (text ++ rest) (with_rest tree path text (is t))) reads
        (stopped sink.bytes sink'.bytes text rest taken) (λ f. cause refl) e.1)
    was_got (got.Refused refusal) is taken cause reads same e =
        refuses refusal e.0 e.1 (λ t. record { count = count; tree = tree; sound = sound t; refused = (is t).0 }) reads same (ends_before [] (nothing_printed same))
    was_got got.Fault is taken cause reads same e = cut_short text e.0 e.1 (inl reads) (λ t. begun t (is t)) (ends_before text taken) taken
    was_got got.Lost is taken cause reads same e = cut_short text e.0 e.1 (inr is) (λ t. absurd (is t)) (ends_before text taken) taken
