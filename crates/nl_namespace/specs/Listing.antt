-- The names of a directory as they are printed, in order.
use Rattle.std.specs.Prelude.{◌≡◌, ◌↔◌, ℕ, ⊤, Bool, true, List, [], ◌∷◌, ◌++◌, length, slice_get, Some}
use Rattle.std.specs.List.{flat_map}
use Rattle.std.specs.Ordering.{is_lt, nat_cmp}
use Rattle.std.specs.Cmp.Lexicographic.{slice_cmp}
use Rattle.nl_field.specs.Graph.{NodeBody, unused, directory_node, file_node, Graph}
use Rattle.nl_field.specs.Members.{Has}
use Rattle.nl_field.specs.declared.entry.EntryRec.{EntryRec}
use Rattle.nl_field.specs.declared.inode.InodeRec.{InodeRec}
use Rattle.nl_field.specs.declared.inode.Kind.{Kind}
use Rattle.nl_field.specs.declared.inode.Kind.TheVariants.{Dir, File, Unused}
use Rattle.nl_iface.specs.declared.counts.Counts.{Ghosts}
use Rattle.nl_meta.specs.Nodes.{entries_of_inode, graph_of}
use Rattle.nl_meta.specs.Pages.{Pages}
use Rattle.nl_meta_running.specs.Running.{IsNodeOf, running_on}
use Rattle.nl_namespace.specs.declared.answer.Listing.{Listing}
use Rattle.nl_namespace.specs.declared.answer.Listing.TheVariants as listing

-- an entry comes before another by the bytes of their names
abbrev pub is_before : EntryRec → EntryRec → Bool
is_before a b = is_lt (slice_cmp nat_cmp a.name b.name)

-- behind the name of a directory
abbrev pub mark_of : NodeBody → List ℕ
mark_of unused = []
mark_of (file_node size pointers) = []
mark_of (directory_node entries) = 47 ∷ []

-- a space and the name for each entry, with `/` after the name of a directory
unfoldable pub text_of : Graph → List EntryRec → List ℕ
text_of graph entries = flat_map (λ e. 32 ∷ e.name ++ mark_of (graph e.ino).body) entries

-- each comes before those behind it
unfoldable pub Rising : List EntryRec → Type 0
Rising [] = ⊤
Rising (e ∷ es) = ((f : EntryRec) → Has es f → is_before e f ≡ true) × Rising es

-- The text has the entries, each once, in the order of the bytes of their names; they are so many.
pub record IsListing (graph : Graph) (entries : List EntryRec) (count : ℕ) (text : List ℕ) : Type 0 where
  pub listed : List EntryRec
  pub each : (e : EntryRec) → Has listed e ↔ Has entries e
  pub rising : Rising listed
  pub counted : count ≡ length listed
  pub printed : text ≡ text_of graph listed

abbrev pub IfListed : Listing → (ℕ → Type 0) → Type 0
IfListed (listing.Listed n) P = P n
IfListed listing.Fault P = ⊤
IfListed (listing.Lost w f) P = ⊤

-- behind the name of a node of that kind
abbrev pub kind_mark : Kind → List ℕ
kind_mark Unused = []
kind_mark File = []
kind_mark Dir = 47 ∷ []

-- The text lists the entries of a directory.
pub record ListsNames {D : Type 0} (g : Ghosts D) (s : D) (p : Pages) (n count : ℕ) (text : List ℕ) : Type 0 where
  pub rec : InodeRec
  pub is_node : IsNodeOf g s p n rec
  pub is_dir : rec.kind ≡ Dir
  pub lists : IsListing (graph_of (g.shape s) (running_on g s p)) (entries_of_inode (running_on g s p) rec) count text

-- The text has one entry more, the one at the place.
pub record PrintsPlace (graph : Graph) (entries : List EntryRec) (place : ℕ) (old new : List ℕ) : Type 0 where
  pub entry : EntryRec
  pub at : slice_get entries place ≡ Some entry
  pub printed : new ≡ old ++ text_of graph (entry ∷ [])
