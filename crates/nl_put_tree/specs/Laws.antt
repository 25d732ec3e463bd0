-- What the calls of a put do to the tree, and what they answer.
use Rattle.std.specs.Prelude.{◌≡◌, ◌⊎◌, ℕ, true, List, [], ◌++◌, length, None}
use Rattle.nl_field.specs.FileContent.{FileContent, bytes_read}
use Rattle.nl_field.specs.declared.shape.Shape.{Shape}
use Rattle.nl_tree.specs.Step.{space_refusal, step}
use Rattle.nl_tree.specs.Tree.{IsTree, Tree}
use Rattle.nl_tree.specs.declared.call.Call.{Call}
use Rattle.nl_tree.specs.declared.call.Call.TheVariants.{Create, Rename, Sync, Unlink, Write}
use Rattle.nl_tree.specs.declared.reply.Refusal.{Refusal}
use Rattle.nl_tree.specs.declared.reply.Reply.{Reply}
use Rattle.nl_tree.specs.declared.reply.Reply.TheVariants.{Count, Done, No, Synced}
use Rattle.nl_put_tree.specs.Putting.{FitsVolume, IsBeside, IsContentOf, IsDue, IsPut, IsUnderWay, IsWriting, Path, after, is_fault}

-- the reply is done, a refusal or a fault reply
abbrev pub IsDoneOrNot : Reply → Type 0
IsDoneOrNot reply = (reply ≡ Done) ⊎ (((refusal : Refusal) × (reply ≡ No refusal)) ⊎ (is_fault reply ≡ true))

pub record PutLaws : Type 0 where
  -- a refusal leaves the tree, and is the tree's own
  pub refused : (shape : Shape) (now : Tree) (call : Call) (refusal : Refusal) → IsDue shape now call (No refusal)
      → (after shape now call (No refusal) ≡ now) × ((step shape now call).reply ≡ No refusal)
  pub create_answers : (shape : Shape) (now : Tree) (own : Path) (reply : Reply) → IsDue shape now (Create own) reply → IsDoneOrNot reply
  pub created : (shape : Shape) (tree : Tree) (own : Path) → FitsVolume shape tree → IsDue shape tree (Create own) Done
      → IsWriting tree own [] (after shape tree (Create own) Done)
  pub write_answers : (shape : Shape) (now : Tree) (own : Path) (from : ℕ) (bytes : List ℕ) (reply : Reply)
      → IsDue shape now (Write own from bytes) reply
      → ((n : ℕ) × (reply ≡ Count n)) ⊎ (((refusal : Refusal) × (reply ≡ No refusal)) ⊎ (is_fault reply ≡ true))
  pub written : (shape : Shape) (tree now : Tree) (own : Path) (written bytes : List ℕ) (n : ℕ) → IsWriting tree own written now
      → IsDue shape now (Write own (length written) bytes) (Count n)
      → IsWriting tree own (written ++ bytes) (after shape now (Write own (length written) bytes) (Count n))
  pub rename_answers : (shape : Shape) (now : Tree) (own path : Path) (reply : Reply) → IsDue shape now (Rename own path) reply
      → IsDoneOrNot reply
  pub renamed : (shape : Shape) (tree now : Tree) (own path : Path) (bytes : List ℕ) → IsTree tree → IsBeside path own
      → IsWriting tree own bytes now → IsDue shape now (Rename own path) Done
      → IsPut tree path bytes (after shape now (Rename own path) Done)
      × (space_refusal shape (after shape now (Rename own path) Done) ≡ None)
  -- the file of its own can always be taken back
  pub unlinked : (shape : Shape) (tree now : Tree) (own : Path) (bytes : List ℕ) (reply : Reply) → FitsVolume shape tree
      → IsWriting tree own bytes now → IsDue shape now (Unlink own) reply
      → ((reply ≡ Done) × (after shape now (Unlink own) reply ≡ tree)) ⊎ ((is_fault reply ≡ true) × (after shape now (Unlink own) reply ≡ now))
  pub synced : (shape : Shape) (now : Tree) (reply : Reply) → IsDue shape now Sync reply
      → (after shape now Sync reply ≡ now)
      × (space_refusal shape now ≡ None → ((upto : ℕ) × (moment : ℕ) × (reply ≡ Synced upto moment)) ⊎ (is_fault reply ≡ true))
  -- each of these trees is one of a put
  pub begins : (tree : Tree) (own path : Path) (bytes : List ℕ) → IsUnderWay tree own path bytes tree
  pub writes : (tree now : Tree) (own path : Path) (written bytes : List ℕ) → IsBeside path own → IsWriting tree own written now
      → IsUnderWay tree own path bytes now
  pub puts : (tree now : Tree) (own path : Path) (bytes : List ℕ) → IsPut tree path bytes now → IsUnderWay tree own path bytes now
  -- what is put is what is read
  pub read_back : (content : FileContent) (bytes : List ℕ) → IsContentOf content bytes
      → bytes_read content 0 (length bytes) ≡ bytes
