-- The trees of a volume go on through the parts of a commit.
use Rattle.std.proofs.Common.{◌≡◌, ◌⊎◌, inl, inr, ⊎_elim, ℕ, zero, suc, ◌+◌, ◌<◌, ◌^◌, List, length, Option, Some, None, option_and_then, refl, sym, ap, subst, ◌∙◌, arith}
use Rattle.std.specs.Prelude.{IsTrue}
use Rattle.std.proofs.lemmas.Bool.{and_from, cases_lt, lt-ltb}
use Rattle.nl_field.specs.Graph.{Graph}
use Rattle.nl_field.specs.Numbers.{ShapeBounds, is_legal}
use Rattle.nl_field.specs.SuperPage.{fits_super, super_bytes, super_of}
use Rattle.nl_field.proofs.SuperPage.{super-spelled}
use Rattle.nl_field.specs.Virtual.{or_zeros}
use Rattle.nl_field.specs.declared.answers.VirtualWrite.TheVariants as write
use Rattle.nl_field.specs.declared.shape.Shape.{Shape}
use Rattle.nl_tree.specs.Represents.{Represents}
use Rattle.nl_tree.specs.Tree.{Tree}
use Rattle.nl_iface.specs.Device.{IsVolumeShape}
use Rattle.nl_iface.specs.declared.counts.Counts.{Ghosts}
use Rattle.nl_journal.specs.Committing.{ahead_on, committed_on, finished, finished_on}
use Rattle.nl_journal.specs.Outcomes.{Agrees}
use Rattle.nl_journal.specs.Progress.{HasNumber, Progress, begun, raised, units_left}
use Rattle.nl_journal.specs.declared.answers.Phase.{Phase}
use Rattle.nl_journal.specs.declared.answers.Phase.TheVariants.{Header, Image, Commit, Home}
use Rattle.nl_journal.specs.Transaction.{with_pages}
use Rattle.nl_journal.proofs.CommitSteps.{begun_header}
use Rattle.nl_journal.proofs.Finishing.{with_none, with_same}
use Rattle.nl_meta.specs.Committed.{VirtualMap}
use Rattle.nl_meta.specs.Consistent.{PointerIsThere, PageOfStamp, PointersRight}
use Rattle.nl_meta.specs.Nodes.{Held, graph_of, pointers_of, super_of_pages}
use Rattle.nl_meta.specs.Pages.{Frozen, IsPages, Pages, dirty_pages, page_of}
use Rattle.nl_meta_running.specs.FileLaws.{IsRight}
use Rattle.nl_meta_running.specs.Running.{IsNeeded, running_on}
use Rattle.nl_meta_running.proofs.GraphStays.{graph-same}
use Rattle.nl_meta_running.proofs.Holds.{bounds-of}
use Rattle.nl_spec_image.specs.CrashConsistency.{MapRepresents}
use Rattle.nl_spec_image.proofs.FreshProofs.{limits}
use Rattle.nl_spec_image.specs.Stands.{bytes_for}
use Rattle.nl_journal_commit.specs.Completing.{IsDecided, AwaitsCommitPage}
use Rattle.nl_journal_commit.specs.Counting.{record_of, with_count, with_frozen}
use Rattle.nl_journal_commit.specs.Standing.{CanFreeze, IsJournaled}
use Rattle.nl_journal_commit.proofs.CompletingSteps.{closed_by, closed_pages}
use Rattle.nl_journal_commit.proofs.PartSteps.{frozen_runs}
use Rattle.nl_journal_commit.proofs.Standing.{super_page_stands}
use Rattle.nl_spec_commits.specs.Committed.{read_as}
use Rattle.nl_spec_commits.proofs.Completing.{MovesOn, completes_moves}
use Rattle.nl_spec_commits.specs.TreeLaws.{CompletingPreservesTrees, FreezingPreservesTrees, SuperPagePreservesTrees, completed, frozen_now}
use Rattle.nl_spec_commits.specs.Trees.{Prefix, RepresentsTree, RepresentsPrefix, RepresentsTrees, Trees}
use Rattle.nl_spec_commits.proofs.Ahead.{ahead_is_running, runs_some}
use Rattle.nl_spec_commits.proofs.Freezing.{freeze_opens}
use Rattle.nl_spec_commits.proofs.Kept.{right_same}
use Rattle.nl_spec_commits.proofs.Stopping.{stands_alike}

-- ---- pages that are the same where nodes need them

module _ (shape : Shape) (old new : VirtualMap) (page_of_stamp : ℕ → Option PageOfStamp) (tree : Tree) (same : (v : ℕ) → IsNeeded shape old v → new v ≡ old v) (m : RepresentsTree shape old page_of_stamp tree) where
  bounds : ShapeBounds shape
  bounds = bounds-of shape (record { legal = m.right.legal; numbers = m.right.numbers })

  is_right : IsRight shape old
  is_right = record { nodes = m.right.tree.nodes; addresses = m.right.tree.addresses; entries = m.right.tree.entries }

  graph_alike : graph_of shape new ≡ graph_of shape old
  graph_alike = graph-same shape bounds old new same

  pub runs_alike : RepresentsTree shape new page_of_stamp tree
  runs_alike =
      let right = right_same shape bounds old new same is_right in
      record {
        right = record {
          legal = m.right.legal;
          numbers = m.right.numbers;
          tree = record {
            nodes = right.nodes;
            addresses = right.addresses;
            entries = right.entries;
            pointers = subst (λ (hs : List Held). PointersRight hs (PointerIsThere page_of_stamp)) (sym (ap (λ (x : Graph). pointers_of shape x) graph_alike)) m.right.tree.pointers;
          };
        };
        represents = record { is_tree = m.represents.is_tree; depicts = subst (λ (x : Graph). Represents (bytes_for page_of_stamp) x tree) (sym graph_alike) m.represents.depicts };
        data_fits = m.data_fits;
      }

-- committed pages that agree
pub stands_as : (shape : Shape) (old new : VirtualMap) (page_of_stamp : ℕ → Option PageOfStamp) (x : Prefix) → Agrees shape.vaddrs new old → RepresentsPrefix shape old page_of_stamp x → RepresentsPrefix shape new page_of_stamp x
stands_as shape old new page_of_stamp x alike m =
    stands_alike shape (read_as shape old) (read_as shape new) page_of_stamp x.0 x.1 (λ v home. ap (λ (o : Option (List ℕ)). or_zeros shape v o) (alike v home)) m

-- ---- numbers

raised_is : (number : ℕ) → raised number < 2 ^ 63 → raised number ≡ number + 1
raised_is number small = omega (arith, small)

open_in : (phase : Phase) (number pages : ℕ) → pages < units_left phase pages → begun (record { number = number; phase = phase }) pages < 2 ^ 63 → begun (record { number = number; phase = phase }) pages ≡ number + 1
open_in Header number zero more small = absurd (let no : ⊥ = omega (arith, more) in no)
open_in Header number (suc n) more small =
    let is = begun_header Header number (suc n) refl (omega arith) in
    is ∙ raised_is number (subst (λ n. n < 9223372036854775808) is small)
open_in (Image i) number pages more small = raised_is number small
open_in Commit number pages more small = raised_is number small
open_in (Home i) number pages more small = absurd (let no : ⊥ = omega (arith, more) in no)

-- a transaction whose commit page is to be written has the number behind the last one
pub open_number : (p : Progress) (frozen : Frozen) → AwaitsCommitPage p frozen → HasNumber p (length frozen.addresses) → begun p (length frozen.addresses) ≡ p.number + 1
open_number p frozen more small = open_in p.phase p.number (length frozen.addresses) more small

pub is_open : (p : Progress) (frozen : Frozen) → AwaitsCommitPage p frozen ⊎ (AwaitsCommitPage p frozen → ⊥)
is_open p frozen = ⊎_elim (λ more. inl more) (λ few. inr (λ more. omega (arith, few, more))) (cases_lt (length frozen.addresses) (units_left p.phase (length frozen.addresses)))

-- ---- what is finished

module _ {D : Type 0} (g : Ghosts D) (s : D) (p : Progress) (pages : Pages) (count : ℕ) (page_of_stamp : ℕ → Option PageOfStamp) (x : Trees) (j : IsJournaled g s p pages) (at : RepresentsTrees g s p pages count page_of_stamp x) where
  pub finished_stands : RepresentsPrefix (g.shape s) (finished_on g s p pages) page_of_stamp x.frozen
  finished_stands = ⊎_elim at.frozen
      (λ shut. subst (λ (y : Prefix). RepresentsPrefix (g.shape s) (finished_on g s p pages) page_of_stamp y) (sym (at.thawed shut))
      (stands_as (g.shape s) (committed_on g s) (finished_on g s p pages) page_of_stamp x.committed
      (λ v home. sym (closed_pages p.phase pages.frozen (committed_on g s) (g.shape s).vaddrs
      (closed_by p.phase pages.frozen j.order.phase (⊎_elim (λ more. absurd (shut more)) (λ few. few) (cases_lt (length pages.frozen.addresses) (units_left p.phase (length pages.frozen.addresses))))) v home))
      at.committed))
      (is_open p pages.frozen)

-- ---- a part of a commit

module _ {D : Type 0} (g : Ghosts D) (s t : D) (p q : Progress) (pages now : Pages) (count : ℕ) (page_of_stamp : ℕ → Option PageOfStamp) (x : Trees) (volume : IsVolumeShape (g.shape s)) (tells : g.tells)
    (numbers : HasNumber p (length pages.frozen.addresses)) (j : IsJournaled g s p pages) (c : MovesOn g s p pages t q now) (at : RepresentsTrees g s p pages count page_of_stamp x) where
  -- said of the device before
  on_t : (a : VirtualMap) (y : Prefix) → RepresentsPrefix (g.shape s) a page_of_stamp y → RepresentsPrefix (g.shape t) a page_of_stamp y
  on_t a y m = subst (λ (h : Shape). RepresentsPrefix h a page_of_stamp y) (sym c.same_shape) m

  runs_then : RepresentsTree (g.shape t) (running_on g t now) page_of_stamp x.running
  runs_then = subst (λ (h : Shape). RepresentsTree h (running_on g t now) page_of_stamp x.running) (sym c.same_shape)
      (runs_alike (g.shape s) (running_on g s pages) (running_on g t now) page_of_stamp x.running c.stands.needed at.running)

  fin : RepresentsPrefix (g.shape s) (finished_on g s p pages) page_of_stamp x.frozen
  fin = finished_stands g s p pages count page_of_stamp x j at

  fin_then : RepresentsPrefix (g.shape t) (finished_on g t q now) page_of_stamp x.frozen
  fin_then = on_t (finished_on g t q now) x.frozen (stands_as (g.shape s) (finished_on g s p pages) (finished_on g t q now) page_of_stamp x.frozen (c.same_finished tells numbers) fin)

  by_finished : Agrees (g.shape s).vaddrs (committed_on g t) (finished_on g s p pages) → RepresentsPrefix (g.shape t) (committed_on g t) page_of_stamp x.frozen
  by_finished alike = on_t (committed_on g t) x.frozen (stands_as (g.shape s) (finished_on g s p pages) (committed_on g t) page_of_stamp x.frozen alike fin)

  by_committed : Agrees (g.shape s).vaddrs (committed_on g t) (committed_on g s) → RepresentsPrefix (g.shape t) (committed_on g t) page_of_stamp x.committed
  by_committed alike = on_t (committed_on g t) x.committed (stands_as (g.shape s) (committed_on g s) (committed_on g t) page_of_stamp x.committed alike at.committed)

  -- where it stays open, its number is not the last one
  undecided : (AwaitsCommitPage p pages.frozen → AwaitsCommitPage q now.frozen) → q.number ≡ begun p (length pages.frozen.addresses) → x.frozen ≡ x.committed
  undecided stays number = ⊎_elim
      (λ more.
      let later = open_number q now.frozen (stays more) (subst (λ n. n < 9223372036854775808) (sym c.begun_stays) numbers) in
      let same = c.begun_stays in
      absurd (let no : ⊥ = omega (arith, later, same, number) in no))
      at.thawed (is_open p pages.frozen)

  pub goes_on : (decided : Option ℕ) → IsDecided decided p q pages.frozen now.frozen → RepresentsTrees g t q now count page_of_stamp (completed decided x)
  goes_on None stays = record {
    running = runs_then;
    committed = ⊎_elim (λ one. by_committed one.1) (λ two. subst (λ (y : Prefix). RepresentsPrefix (g.shape t) (committed_on g t) page_of_stamp y) (undecided stays two.0) (by_finished two.1)) (c.decided tells numbers);
    frozen = λ more. fin_then;
    thawed = λ shut. at.thawed (λ more. shut (stays more));
    later = at.later;
    latest = at.latest;
  }
  goes_on (Some moment) is = record {
    running = runs_then;
    committed = ⊎_elim
        (λ one.
        let later = open_number p pages.frozen is.0 numbers in
        let number = is.2 in
        let same = one.0 in
        absurd (let no : ⊥ = omega (arith, later, number, same) in no))
        (λ two. by_finished two.1) (c.decided tells numbers);
    frozen = λ more. fin_then;
    thawed = λ shut. refl;
    later = omega arith;
    latest = at.latest;
  }

pub completing_goes : {D : Type 0} (g : Ghosts D) → CompletingPreservesTrees g
completing_goes g answer s t p q pages now count page_of_stamp x decided volume tells numbers j c is at = goes_on g s t p q pages now count page_of_stamp x volume tells numbers j (completes_moves g (answer ≡ write.Done) s t p q pages now c) at decided is

-- ---- the super page

pub super_page_goes : {D : Type 0} (g : Ghosts D) → SuperPagePreservesTrees g
super_page_goes g s p pages shape stored count page_of_stamp x volume j at = record {
  running = runs_alike (g.shape s) (running_on g s pages) (running_on g s (with_count shape stored pages)) page_of_stamp x.running (super_page_stands g s p pages (super_bytes (record_of shape stored)) volume j).needed at.running;
  committed = at.committed;
  frozen = at.frozen;
  thawed = at.thawed;
  later = at.later;
  latest = at.latest;
}

super_spelled_of : (shape : Shape) (count : ℕ) → IsTrue (is_legal shape.blocks shape.pages) → count < 2 ^ 63 → super_of (super_bytes (record_of shape count)) ≡ Some (record_of shape count)
unfolding fits_super
super_spelled_of shape count legal small = super-spelled (record_of shape count) fits (lt-ltb count (2 ^ 63) small)
  where
    fits : IsTrue (fits_super (record_of shape count))
    fits = let r = limits shape.blocks shape.pages legal in and_from _ _ (lt-ltb shape.blocks (2 ^ 32) (omega (arith, r.1))) (lt-ltb shape.pages (2 ^ 32) (omega (arith, r.3)))

-- pages that run, with this count in the super page
pub with_super : (shape : Shape) (pages : VirtualMap) (page_of_stamp : ℕ → Option PageOfStamp) (count : ℕ) (tree : Tree) → count < 2 ^ 63 → pages 0 ≡ Some (super_bytes (record_of shape count))
    → RepresentsTree shape pages page_of_stamp tree → MapRepresents shape pages page_of_stamp count tree
unfolding super_of_pages
with_super shape pages page_of_stamp count tree small there m = record {
  super_rec = record_of shape count;
  numbers = record { spelled = spells; same_blocks = refl; same_pages = refl; legal = m.right.legal };
  count_of_calls = refl;
  right = m.right;
  represents = m.represents;
  data_fits = m.data_fits;
}
  where
    spells : super_of_pages pages ≡ Some (record_of shape count)
    spells = ap (λ (o : Option (List ℕ)). option_and_then super_of o) there ∙ super_spelled_of shape count m.right.legal small

-- ---- the dirty pages are frozen

module _ {D : Type 0} (g : Ghosts D) (s : D) (p : Progress) (pages : Pages) (count : ℕ) (page_of_stamp : ℕ → Option PageOfStamp) (x : Trees) (volume : IsVolumeShape (g.shape s)) (tells : g.tells)
    (numbers : HasNumber p (length pages.frozen.addresses)) (j : IsJournaled g s p pages) (held : IsPages pages) (can : CanFreeze (g.shape s).vaddrs p pages)
    (super_page : page_of pages 0 ≡ Some (super_bytes (record_of (g.shape s) count))) (small : count < 2 ^ 63) (at : RepresentsTrees g s p pages count page_of_stamp x) where
  ahead_stands : RepresentsPrefix (g.shape s) (ahead_on g s p pages) page_of_stamp (count, x.running)
  ahead_stands = stands_alike (g.shape s) (running_on g s pages) (read_as (g.shape s) (ahead_on g s p pages)) page_of_stamp count x.running
      (λ v home. ahead_is_running g s p pages j held can.dirty tells numbers v home)
      (with_super (g.shape s) (running_on g s pages) page_of_stamp count x.running small (runs_some g s pages 0 (super_bytes (record_of (g.shape s) count)) super_page) at.running)

  -- the transaction of the dirty pages
  ahead_alike : Agrees (g.shape s).vaddrs (finished_on g s p (with_frozen pages)) (ahead_on g s p pages)
  ahead_alike v home = alike p.phase can.header
    where
      alike : (phase : Phase) → phase ≡ Header → finished phase (dirty_pages pages) (committed_on g s) v ≡ with_pages (dirty_pages pages) (finished phase pages.frozen (committed_on g s)) v
      alike Header is = with_same (dirty_pages pages) (g.shape s).vaddrs (committed_on g s) (finished Header pages.frozen (committed_on g s))
          (λ u h. sym (with_none pages.frozen (committed_on g s) u (ap (λ (f : Frozen). f.addresses) can.none))) v home
      alike (Image i) is = absurd (let no : ⊥ = cc in no)
      alike Commit is = absurd (let no : ⊥ = cc in no)
      alike (Home i) is = absurd (let no : ⊥ = cc in no)

  pub freezes_on : RepresentsTrees g s p (with_frozen pages) count page_of_stamp (frozen_now count x)
  freezes_on = record {
    running = runs_alike (g.shape s) (running_on g s pages) (running_on g s (with_frozen pages)) page_of_stamp x.running (λ v need. ap (λ (m : VirtualMap). m v) (frozen_runs g s pages)) at.running;
    committed = at.committed;
    frozen = λ more. stands_as (g.shape s) (ahead_on g s p pages) (finished_on g s p (with_frozen pages)) page_of_stamp (count, x.running) ahead_alike ahead_stands;
    thawed = λ shut. absurd (shut (freeze_opens (g.shape s).vaddrs p pages can));
    later = let a = at.later in let b = at.latest in omega (arith, a, b);
    latest = omega arith;
  }

pub freezing_goes : {D : Type 0} (g : Ghosts D) → FreezingPreservesTrees g
freezing_goes g s p pages count page_of_stamp x volume tells numbers j held can super_page small at = freezes_on g s p pages count page_of_stamp x volume tells numbers j held can super_page small at
