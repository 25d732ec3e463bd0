-- The trees of a volume go on while its device changes.
use Rattle.std.proofs.Common.{◌≡◌, ⊎_elim, ℕ, ◌+◌, ◌<◌, ◌≤◌, List, [], length, Option, Some, None, refl, sym, ap, subst, ◌∙◌, ◌==◌, arith}
use Rattle.std.specs.Prelude.{option_map, unwrap_or}
use Rattle.std.proofs.lemmas.List.Quantifiers.{position-Some}
use Rattle.nl_field.specs.Members as members
use Rattle.nl_field.specs.Virtual.{or_zeros}
use Rattle.nl_field.specs.declared.header.HeaderRec.{HeaderRec}
use Rattle.nl_field.specs.declared.shape.Shape.{Shape}
use Rattle.nl_tree.specs.Tree.{Tree}
use Rattle.nl_spec_holders.specs.Holding.{KeepsCommitted}
use Rattle.nl_spec_holders.specs.Laws.{PreservesHolding}
use Rattle.nl_iface.specs.Calls.{KeepsVirtual, StoresMap, stored}
use Rattle.nl_iface.specs.Device.{IsVolumeShape}
use Rattle.nl_iface.specs.Stored.{SameVirtual, Stored, Value}
use Rattle.nl_iface.specs.declared.counts.Counts.{Ghosts}
use Rattle.nl_journal.specs.Committing.{committed_on, finished_on}
use Rattle.nl_journal.specs.Outcomes.{Agrees, bytes_of}
use Rattle.nl_journal.specs.Progress.{HasNumber, Progress}
use Rattle.nl_journal.proofs.Finishing.{finished_same}
use Rattle.nl_journal.proofs.InOrders.{stays}
use Rattle.nl_journal.proofs.Openings.{counting_is, counting_same}
use Rattle.nl_meta.specs.Committed.{VirtualMap, committed, counting, home_or_image, place_in}
use Rattle.nl_meta.specs.Consistent.{PointerIsThere, PageOfStamp, RightFor}
use Rattle.nl_meta.specs.Nodes.{Held, held_in}
use Rattle.nl_meta.specs.Pages.{Pages}
use Rattle.nl_meta.proofs.Lists.{none_some}
use Rattle.nl_meta_running.specs.Running.{running_on}
use Rattle.nl_meta_running.proofs.Holds.{bounds-of}
use Rattle.nl_spec_image.specs.CrashConsistency.{MapRepresents, committed_in}
use Rattle.nl_spec_image.specs.RightFor.{PagesRepresent}
use Rattle.nl_spec_image.specs.Stands.{bytes_for}
use Rattle.nl_spec_image.proofs.Represented.{represents_same}
use Rattle.nl_journal_commit.specs.Standing.{IsJournaled}
use Rattle.nl_journal_commit.proofs.Standing.{addresses_stand}
use Rattle.nl_spec_commits.specs.Committed.{read_as}
use Rattle.nl_spec_commits.specs.DeviceLaws.{AddressesGo, Extends, HoldingOpens, NowHolds, PagesGo}
use Rattle.nl_spec_commits.specs.Standing.{IsFirm}
use Rattle.nl_spec_commits.specs.Trees.{Prefix, RepresentsTree, RepresentsPrefix, RepresentsTrees, Trees}
use Rattle.nl_spec_commits.proofs.Reading.{committed_reads, few_addresses}
use Rattle.nl_spec_commits.proofs.Stopping.{held_alike, kept_lead, stands_alike}
use Rattle.nl_spec_commits.proofs.Trees.{runs_alike, stands_as}

-- ---- the addresses stay

module _ {D : Type 0} (g : Ghosts D) (s t : D) (p : Progress) (pages : Pages) (count : ℕ) (page_of_stamp : ℕ → Option PageOfStamp) (x : Trees) (volume : IsVolumeShape (g.shape s)) (tells : g.tells)
    (numbers : HasNumber p (length pages.frozen.addresses)) (j : IsJournaled g s p pages) (k : KeepsVirtual g s t) (at : RepresentsTrees g s p pages count page_of_stamp x) where
  same_committed : Agrees (g.shape s).vaddrs (committed_on g t) (committed_on g s)
  same_committed = (stays g s t p pages.frozen volume j.order k).1 tells numbers

  on_t : (a b : VirtualMap) (y : Prefix) → Agrees (g.shape s).vaddrs b a → RepresentsPrefix (g.shape s) a page_of_stamp y → RepresentsPrefix (g.shape t) b page_of_stamp y
  on_t a b y alike m = subst (λ (h : Shape). RepresentsPrefix h b page_of_stamp y) (sym k.same_shape) (stands_as (g.shape s) a b page_of_stamp y alike m)

  pub addresses_on : RepresentsTrees g t p pages count page_of_stamp x
  addresses_on = record {
    running = subst (λ (h : Shape). RepresentsTree h (running_on g t pages) page_of_stamp x.running) (sym k.same_shape)
        (runs_alike (g.shape s) (running_on g s pages) (running_on g t pages) page_of_stamp x.running (addresses_stand g s t p pages volume j k).needed at.running);
    committed = on_t (committed_on g s) (committed_on g t) x.committed same_committed at.committed;
    frozen = λ more. on_t (finished_on g s p pages) (finished_on g t p pages) x.frozen
        (finished_same p.phase pages.frozen (g.shape s).vaddrs (committed_on g t) (committed_on g s) same_committed) (at.frozen more);
    thawed = at.thawed;
    later = at.later;
    latest = at.latest;
  }

pub addresses_go : {D : Type 0} (g : Ghosts D) → AddressesGo g
addresses_go g s t p pages count page_of_stamp x volume tells numbers j k at = addresses_on g s t p pages count page_of_stamp x volume tells numbers j k at

-- ---- further pages

module _ (shape : Shape) (pages : VirtualMap) (old new : ℕ → Option PageOfStamp) (extends : Extends old new) where
  there_still : (h : Held) → PointerIsThere old h → PointerIsThere new h
  there_still h t = record { bytes = t.bytes; holds = extends h.pointer.stamp (record { tag = h.tag; bytes = t.bytes }) t.holds; whole = t.whole; behind = t.behind }

  right_still : RightFor shape pages old → RightFor shape pages new
  right_still m = record {
    legal = m.legal;
    numbers = m.numbers;
    tree = record {
      nodes = m.tree.nodes;
      addresses = m.tree.addresses;
      entries = m.tree.entries;
      pointers = record {
        below = m.tree.pointers.below;
        there = λ h has. there_still h (m.tree.pointers.there h has);
        stamps_differ = m.tree.pointers.stamps_differ;
        names_differ = m.tree.pointers.names_differ;
      };
    };
  }

  same_bytes : RightFor shape pages old → (h : Held) → members.Has (held_in shape pages) h → bytes_for old h.pointer.stamp ≡ bytes_for new h.pointer.stamp
  same_bytes m h has =
      let t = m.tree.pointers.there h has in
      ap (λ (o : Option PageOfStamp). unwrap_or (option_map (λ page. page.bytes) o) []) (t.holds ∙ sym (extends h.pointer.stamp (record { tag = h.tag; bytes = t.bytes }) t.holds))

  represents_still : (tree : Tree) → RightFor shape pages old → PagesRepresent shape pages old tree → PagesRepresent shape pages new tree
  represents_still tree m r = record { is_tree = r.is_tree; depicts = represents_same (bytes_for old) (bytes_for new) shape pages (same_bytes m) tree r.depicts }

  pub runs_still : (tree : Tree) → RepresentsTree shape pages old tree → RepresentsTree shape pages new tree
  runs_still tree m = record { right = right_still m.right; represents = represents_still tree m.right m.represents; data_fits = m.data_fits }

  pub stands_still : (count : ℕ) (tree : Tree) → MapRepresents shape pages old count tree → MapRepresents shape pages new count tree
  stands_still count tree m = record {
    super_rec = m.super_rec;
    numbers = m.numbers;
    count_of_calls = m.count_of_calls;
    right = right_still m.right;
    represents = represents_still tree m.right m.represents;
    data_fits = m.data_fits;
  }

pub pages_go : {D : Type 0} (g : Ghosts D) → PagesGo g
pages_go g s p pages count old new x extends at = record {
  running = runs_still (g.shape s) (running_on g s pages) old new extends x.running at.running;
  committed = stands_still (g.shape s) (read_as (g.shape s) (committed_on g s)) old new extends x.committed.0 x.committed.1 at.committed;
  frozen = λ more. stands_still (g.shape s) (read_as (g.shape s) (finished_on g s p pages)) old new extends x.frozen.0 x.frozen.1 (at.frozen more);
  thawed = at.thawed;
  later = at.later;
  latest = at.latest;
}

-- ---- the committed pages of what is stored

module _ (shape : Shape) (f h : VirtualMap) (wide : 67 ≤ shape.vaddrs) (same : (u : ℕ) → u < shape.vaddrs → f u ≡ h u) where
  image_same : (v : ℕ) → v < shape.vaddrs → (o : Option HeaderRec) → counting shape h ≡ o → (i : Option ℕ) → place_in o v ≡ i → home_or_image f v i ≡ home_or_image h v i
  image_same v below o is None at = same v below
  image_same v below None is (Some i) at = absurd (none_some i at)
  image_same v below (Some header) is (Some i) at =
      let lt = (position-Some (λ a. a == v) header.addresses i 0 at).0 in
      let most = few_addresses shape (h 1) header (counting_is shape h header is).0 in
      same (2 + i) (omega (arith, lt, most, wide))

  pub committed_same : (v : ℕ) → v < shape.vaddrs → committed shape f v ≡ committed shape h v
  unfolding committed
  committed_same v below =
      ap (λ (o : Option HeaderRec). home_or_image f v (place_in o v)) (counting_same shape f h (λ u lt. same u (omega (arith, lt, wide))))
      ∙ image_same v below (counting shape h) refl (place_in (counting shape h) v) refl

module _ {D : Type 0} (g : Ghosts D) (s : D) (volume : IsVolumeShape (g.shape s)) (firm : IsFirm g s) (map : StoresMap g s) (c : Stored) (same : SameVirtual (stored g s) c) where
  value_same : (u : ℕ) → u < (g.shape s).vaddrs → bytes_of c.virtual u ≡ bytes_of (g.map s) u
  value_same u below = ap (λ (o : Option Value). option_map (λ (x : Value). x.1) o)
      (same.values u ∙ ⊎_elim (λ is. is) (λ failed. absurd (firm.none_failed u failed.0 below failed.2)) (map.shows u below))

  pub committed_left : Agrees (g.shape s).vaddrs (committed_in (g.shape s) c) (read_as (g.shape s) (committed_on g s))
  committed_left v home =
      let all = (bounds-of (g.shape s) volume).addresses in
      committed_reads (g.shape s) c.virtual v volume home.below
      ∙ ap (λ (o : Option (List ℕ)). or_zeros (g.shape s) v o) (committed_same (g.shape s) (bytes_of c.virtual) (bytes_of (g.map s)) (omega (arith, all)) value_same v home.below)

-- ---- what a stop leaves

pub holding_opens : {D : Type 0} (g : Ghosts D) → HoldingOpens g
holding_opens g s p pages count page_of_stamp x flight freeing c leaving volume tells numbers held firm map at left =
    let v = held.holding in
    let shape = g.shape s in
    let keeps = left.keeps v held.is_of.runs.names in
    let kept : KeepsCommitted (record v { names = left.moved }) = keeps.committed held.holds (held.committed (tells, numbers)) in
    let alike = committed_left g s volume firm map c left.same_virtual in
    let stands = stands_alike shape (read_as shape (committed_on g s)) (committed_in shape c) page_of_stamp x.committed.0 x.committed.1 alike at.committed in
    let hs = held_alike shape (read_as shape (committed_on g s)) (committed_in shape c) page_of_stamp x.committed.0 x.committed.1 alike at.committed in (
      left.moved,
      left.contents,
      page_of_stamp,
      record {
        firm = left.same_virtual.firm ∙ firm.firm;
        agree = left.agree;
        pages = left.pages;
        stands = stands;
        lead = λ h has. kept_lead left.moved left.contents page_of_stamp left.shows (λ n. n ≤ v.decided) shape (committed_on g s) v.committed x.committed.0 x.committed.1
            (held.is_of.told tells numbers).committed kept.committed at.committed h (subst (λ (l : List Held). members.Has l h) hs has);
      },
    )

pub now_holds : {D : Type 0} (g : Ghosts D) → NowHolds g
now_holds g s page_of_stamp firm shows = record {
  same_virtual = record { values = λ v. refl; firm = refl };
  agree = firm.agree;
  moved = g.names s;
  contents = g.bytes s;
  keeps = λ v is. subst (λ n. PreservesHolding v (record v { names = n })) is (record { holds = λ h. h; committed = λ h k. k });
  shows = shows;
  pages = firm.pages.pages;
}
