-- The transaction that counts at an opening: its images run, and are frozen, so that they are copied home from then on.
use Rattle.std.specs.Prelude.{◌≡◌, ◌⊎◌, ⊤, ℕ, ◌+◌, ◌<◌, ◌≤◌, true, false, List, [], length, nat_lt, slice_get, slice_index, take, Some, None}
use Rattle.std.specs.List.{list_all}
use Rattle.nl_field.specs.Journal.{is_header}
use Rattle.nl_field.specs.Virtual.{map_bytes}
use Rattle.nl_field.specs.declared.header.HeaderRec.{HeaderRec}
use Rattle.nl_field.specs.declared.shape.Shape.{Shape}
use Rattle.nl_iface.specs.declared.counts.Counts.{Ghosts}
use Rattle.nl_meta.specs.Committed.{VirtualMap, committed, next_number}
use Rattle.nl_meta.specs.Pages.{Pages, is_frozen, no_pages, none_frozen, page_of}
use Rattle.nl_meta.specs.Running.{running_over}
use Rattle.nl_journal.specs.Opening.{Opened}
use Rattle.nl_journal.specs.Outcomes.{bytes_of}
use Rattle.nl_journal.specs.Progress.{IsPhase, Progress}
use Rattle.nl_journal.specs.Transaction.{IsTransaction, head, main_at}
use Rattle.nl_journal.specs.declared.answers.Phase.TheVariants.{Header, Home}
use Rattle.nl_journal.specs.declared.answers.ReadBack.{ReadBack}
use Rattle.nl_journal.specs.declared.answers.ReadBack.TheVariants as back

-- a header that is spelled, each address of which is one of the volume
pub record IsVolumeHeader (shape : Shape) (header : HeaderRec) : Type 0 where
  pub spelled : is_header header ≡ true
  pub within : list_all (λ a. nat_lt a shape.vaddrs) header.addresses ≡ true

-- The frozen pages are those of the first so many addresses. They run, and no other page is resident. Where it is told what is stored,
-- they are the first pages behind the header.
pub record AreRestored (tells : Type 0) (stored : VirtualMap) (addresses : List ℕ) (n : ℕ) (p : Pages) : Type 0 where
  pub listed : p.frozen.addresses ≡ take n addresses
  pub below : (i : ℕ) → i < n → slice_index addresses i < length p.running
  pub each : (i : ℕ) → i < n → page_of p (slice_index addresses i) ≡ slice_get p.frozen.images i
  pub images : tells → (i : ℕ) → i < n → slice_get p.frozen.images i ≡ stored (2 + i)
  pub others : (v : ℕ) → is_frozen p v ≡ false → page_of p v ≡ None
  pub clean : p.dirty ≡ []

-- A transaction is all pages that the header lists, which stands behind address 1 where the device tells what it has.
pub record AreListed (tells : Type 0) (shape : Shape) (stored : VirtualMap) (p : Pages) : Type 0 where
  pub header : HeaderRec
  pub spelled : is_header header ≡ true
  pub stands : tells → head shape (stored 1) ≡ Some header
  pub restored : AreRestored tells stored header.addresses (length header.addresses) p

-- What the pages are that were none before: the images of the transaction that counts, or none.
abbrev pub Restores : Type 0 → Shape → VirtualMap → ReadBack → Pages → Type 0
Restores tells shape stored (back.Agreed n) p = AreListed tells shape stored p
Restores tells shape stored back.Nothing p = p ≡ no_pages shape.vaddrs
Restores tells shape stored back.Fault p = ⊤

-- The transaction that counts, once it is restored: each of its pages is frozen, and runs with the image that it has. All of them are to be
-- copied home. Where none counts, none is frozen.
pub record HasRestored (journal : Progress) (p : Pages) : Type 0 where
  pub due : ((journal.phase ≡ Header) × (p.frozen ≡ none_frozen)) ⊎ ((journal.phase ≡ Home 0) × (1 ≤ length p.frozen.addresses))
  pub runs : (i : ℕ) → i < length p.frozen.addresses → page_of p (slice_index p.frozen.addresses i) ≡ Some (main_at p.frozen.images i)

-- The journal was read back. Only frozen pages are resident, and they are the images of the transaction that counts, if one does: so the
-- running map is the committed one.
pub record BringsBack {D : Type 0} (g : Ghosts D) (s : D) (journal : Progress) (p : Pages) : Type 0 where
  pub count : length p.running ≡ (g.shape s).vaddrs
  pub frozen : (v : ℕ) → is_frozen p v ≡ false → page_of p v ≡ None
  pub clean : p.dirty ≡ []
  pub apart : (v : ℕ) → 1 ≤ v → v < 67 → page_of p v ≡ None
  pub restored : HasRestored journal p
  pub same : g.tells → (v : ℕ)
      → running_over (map_bytes (g.shape s) (g.map s)) p v ≡ committed (g.shape s) (map_bytes (g.shape s) (g.map s)) v
  pub phase : IsPhase journal.phase (length p.frozen.addresses)
  pub pages : 1 ≤ length p.frozen.addresses → IsTransaction (g.shape s).vaddrs p.frozen
  pub number : g.tells → journal.number + 1 ≡ next_number (g.shape s) (bytes_of (g.map s))
  pub opened : g.tells → Opened journal.phase (g.shape s) (bytes_of (g.map s)) journal.number p.frozen
