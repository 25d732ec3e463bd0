-- What committed pages stand for, and what a stop leaves of it.
use Rattle.std.proofs.Common.{◌≡◌, inl, inr, ⊎_elim, ℕ, ◌≤◌, List, [], ◌∷◌, map, Option, Some, option_and_then, refl, sym, ap, subst, ◌∙◌, arith}
use Rattle.nl_field.specs.Graph.{Graph}
use Rattle.nl_field.specs.Members as members
use Rattle.nl_field.specs.Numbers.{ShapeBounds}
use Rattle.nl_field.specs.SuperPage.{super_of}
use Rattle.nl_field.specs.Virtual.{or_zeros}
use Rattle.nl_field.specs.declared.pointer.Pointer.{Pointer}
use Rattle.nl_field.specs.declared.pointer.Tag.{Tag}
use Rattle.nl_field.specs.declared.shape.Shape.{Shape}
use Rattle.nl_tree.specs.Represents.{Represents}
use Rattle.nl_tree.specs.Tree.{Tree}
use Rattle.nl_iface.specs.Calls.{stored}
use Rattle.nl_iface.specs.Device.{IsVolumeShape}
use Rattle.nl_iface.specs.Holders.{IsRef, always, wants, wants_tagged}
use Rattle.nl_iface.specs.Left.{HoldsStamp, LeavesPages}
use Rattle.nl_iface.specs.Names.{Has, LivePage, Names, led}
use Rattle.nl_iface.specs.Stored.{NamedAgree, SameNamed, Stored}
use Rattle.nl_iface.specs.declared.counts.Counts.{Ghosts}
use Rattle.nl_journal.specs.Committing.{ahead_on, committed_on, finished_on}
use Rattle.nl_journal.specs.Left.{StoresCommitted, LeavesRest}
use Rattle.nl_journal.specs.Outcomes.{Agrees, IsHome}
use Rattle.nl_meta.specs.Committed.{VirtualMap}
use Rattle.nl_meta.specs.Consistent.{PointerIsThere, PageOfStamp, PointersRight}
use Rattle.nl_meta.specs.Nodes.{Held, graph_of, held_in, pointers_of, super_of_pages}
use Rattle.nl_meta.specs.PointerLists.{with_tag}
use Rattle.nl_meta.proofs.Lists.{some_in}
use Rattle.nl_meta_running.proofs.GraphStays.{graph-same}
use Rattle.nl_meta_running.proofs.Holds.{bounds-of}
use Rattle.nl_meta_running.specs.FileLaws.{IsRight}
use Rattle.nl_meta_running.specs.Running.{running_on}
use Rattle.nl_spec_image.specs.CrashConsistency.{IsLiveFor, LeavesTree, MapRepresents, committed_in}
use Rattle.nl_spec_image.specs.Stands.{bytes_for}
use Rattle.nl_journal_commit.proofs.Places.{needed_home}
use Rattle.nl_spec_commits.specs.Committed.{AreKept, read_as}
use Rattle.nl_spec_commits.specs.Standing.{HeldLead, IsFirm, LeavesRepresented, RunningLead, ShowsPages, RepresentsAndLeads, AgreeingRepresentSame, CrashStatesRepresent}
use Rattle.nl_spec_commits.proofs.Ahead.{ahead_is_running}
use Rattle.nl_spec_commits.proofs.Kept.{from_plain, plain_of, right_same, running_kept}
use Rattle.nl_spec_commits.proofs.Reading.{committed_reads}

-- ---- pages that agree stand for the same

volume_of : {shape : Shape} {pages : VirtualMap} {page_of_stamp : ℕ → Option PageOfStamp} {count : ℕ} {tree : Tree} → MapRepresents shape pages page_of_stamp count tree → IsVolumeShape shape
volume_of m = record { legal = m.right.legal; numbers = m.right.numbers }

module _ (shape : Shape) (old new : VirtualMap) (page_of_stamp : ℕ → Option PageOfStamp) (count : ℕ) (tree : Tree) (alike : Agrees shape.vaddrs new old) (m : MapRepresents shape old page_of_stamp count tree) where
  bounds : ShapeBounds shape
  bounds = bounds-of shape (volume_of m)

  is_right : IsRight shape old
  is_right = record { nodes = m.right.tree.nodes; addresses = m.right.tree.addresses; entries = m.right.tree.entries }

  right_new : IsRight shape new
  right_new = right_same shape bounds old new (λ v need. alike v (needed_home shape bounds old v m.right.tree.addresses need)) is_right

  pub graph_alike : graph_of shape new ≡ graph_of shape old
  graph_alike = graph-same shape bounds old new (λ v need. alike v (needed_home shape bounds old v m.right.tree.addresses need))

  pub held_alike : held_in shape new ≡ held_in shape old
  held_alike = ap (λ (x : Graph). pointers_of shape x) graph_alike

  super_alike : super_of_pages new ≡ super_of_pages old
  unfolding super_of_pages
  super_alike = let all = bounds.addresses in ap (λ (o : Option (List ℕ)). option_and_then super_of o) (alike 0 (record { below = omega (arith, all); outside = inl refl }))

  pub stands_new : MapRepresents shape new page_of_stamp count tree
  stands_new = record {
    super_rec = m.super_rec;
    numbers = record { spelled = super_alike ∙ m.numbers.spelled; same_blocks = m.numbers.same_blocks; same_pages = m.numbers.same_pages; legal = m.numbers.legal };
    count_of_calls = m.count_of_calls;
    right = record {
      legal = m.right.legal;
      numbers = m.right.numbers;
      tree = record {
        nodes = right_new.nodes;
        addresses = right_new.addresses;
        entries = right_new.entries;
        pointers = subst (λ (hs : List Held). PointersRight hs (PointerIsThere page_of_stamp)) (sym held_alike) m.right.tree.pointers;
      };
    };
    represents = record { is_tree = m.represents.is_tree; depicts = subst (λ (x : Graph). Represents (bytes_for page_of_stamp) x tree) (sym graph_alike) m.represents.depicts };
    data_fits = m.data_fits;
  }

pub stands_alike : AgreeingRepresentSame
stands_alike shape old new page_of_stamp count tree alike m = stands_new shape old new page_of_stamp count tree alike m

-- ---- the pointers of pages that are kept lead

tagged_has : (hs : List Held) (h : Held) → members.Has hs h → Has (map with_tag hs) (h.tag, h.pointer)
tagged_has [] h has = absurd has
tagged_has (x ∷ hs) h (inl e) = inl (ap with_tag e)
tagged_has (x ∷ hs) h (inr has) = inr (tagged_has hs h has)

abbrev pub page_with : Tag → List ℕ → PageOfStamp
page_with tag bytes = record { tag = tag; bytes = bytes }

abbrev pub live_with : Tag → ℕ → LivePage
live_with tag stamp = record { tag = tag; stamp = stamp }

module _ (names : Names) (bytes : ℕ → List ℕ) (page_of_stamp : ℕ → Option PageOfStamp) (shows : ShowsPages names bytes page_of_stamp) (due : ℕ → Type 0) where
  -- a pointer that leads to a page of its stamp, where the page of that stamp has its tag
  live_for : (h : Held) → IsRef names due (wants h.pointer) h.pointer.name → PointerIsThere page_of_stamp h → IsLiveFor names bytes page_of_stamp h
  live_for h ref there =
      let page = ref.leads.0 in
      let stamp = ref.leads.2 in
      let at = bytes (led names h.pointer.name) in
      let shown = shows (led names h.pointer.name) page ref.leads.1 in
      let same = some_in (page_with page.tag at) (page_with h.tag there.bytes) (sym shown ∙ ap page_of_stamp stamp ∙ there.holds) in
      let tag : page.tag ≡ h.tag = ap (λ (x : PageOfStamp). x.tag) same in
      record {
        leads = ref.leads.1 ∙ ap (λ (t : Tag). Some (live_with t page.stamp)) tag ∙ ap (λ n. Some (live_with h.tag n)) stamp;
        has = sym (ap page_of_stamp stamp) ∙ shown ∙ ap (λ (t : Tag). Some (page_with t at)) tag;
      }

  pub kept_lead : (shape : Shape) (pages : VirtualMap) (kept : List Pointer) (count : ℕ) (tree : Tree) → AreKept shape pages kept → ((p : Pointer) → Has kept p → IsRef names due (wants p) p.name)
      → MapRepresents shape (read_as shape pages) page_of_stamp count tree → (h : Held) → members.Has (held_in shape (read_as shape pages)) h → IsLiveFor names bytes page_of_stamp h
  kept_lead shape pages kept count tree are refs m h has =
      live_for h (refs h.pointer (are.listed (h.tag, h.pointer) (tagged_has (held_in shape (read_as shape pages)) h has))) (m.right.tree.pointers.there h has)

-- a holder that wants a page of its tag wants one of its stamp
plain_ref : (names : Names) (xs : List (Tag × Pointer)) → ((x : Tag × Pointer) → Has xs x → IsRef names always (wants_tagged x) x.1.name) → (r : Pointer) → (h : Tag × Pointer) × Has xs h × (h.1 ≡ r)
    → IsRef names always (wants r) r.name
plain_ref names xs refs r k =
    let ref = refs k.0 k.1 in
    subst (λ (q : Pointer). IsRef names always (wants q) q.name) k.2 (record { leads = (ref.leads.0, ref.leads.1, ref.leads.2.1); safe = ref.safe })

pub held_lead : {D : Type 0} (g : Ghosts D) → HeldLead g
held_lead g s p pages v page_of_stamp tells numbers is keeps shows =
    let k = is.told tells numbers in
    record {
      committed = λ count tree m. record {
        map = m;
        lead = kept_lead (g.names s) (g.bytes s) page_of_stamp shows (λ x. x ≤ v.decided) (g.shape s) (committed_on g s) v.committed count tree k.committed
            (λ r has. subst (λ (n : Names). IsRef n (λ x. x ≤ v.decided) (wants r) r.name) is.runs.names (keeps.committed r has)) m;
      };
      frozen = λ more count tree m. record {
        map = m;
        lead = kept_lead (g.names s) (g.bytes s) page_of_stamp shows (λ x. x ≤ v.number) (g.shape s) (finished_on g s p pages) v.frozen count tree (k.frozen more)
            (λ r has. subst (λ (n : Names). IsRef n (λ x. x ≤ v.number) (wants r) r.name) is.runs.names (keeps.frozen r has)) m;
      };
    }

-- what runs, as a commit puts it in place
pub running_lead : {D : Type 0} (g : Ghosts D) → RunningLead g
running_lead g s p pages v page_of_stamp count tree tells numbers volume j held dirty is holds shows m = record {
  map = standing;
  lead = kept_lead (g.names s) (g.bytes s) page_of_stamp shows always (g.shape s) (ahead_on g s p pages) (plain_of v.running) count tree (running_kept g s pages v volume j.runs is (ahead_on g s p pages) reads)
      (λ r has. subst (λ (n : Names). IsRef n always (wants r) r.name) is.names (plain_ref v.names v.running holds.held.running r (from_plain v.running r has)))
      standing;
}
  where
    reads : (u : ℕ) → IsHome (g.shape s).vaddrs u → read_as (g.shape s) (ahead_on g s p pages) u ≡ running_on g s pages u
    reads u home = ahead_is_running g s p pages j held dirty tells numbers u home

    standing : MapRepresents (g.shape s) (read_as (g.shape s) (ahead_on g s p pages)) page_of_stamp count tree
    standing = stands_new (g.shape s) (running_on g s pages) (read_as (g.shape s) (ahead_on g s p pages)) page_of_stamp count tree reads m

-- ---- what a stop leaves

module _ (old c : Stored) (same : SameNamed old c) where
  stamp_on : (p stamp : ℕ) → HoldsStamp old p stamp → HoldsStamp c p stamp
  stamp_on p stamp h = (h.0, same p ∙ h.1, h.2)

  pub pages_on : {shape : Shape} {names : Names} {bytes : ℕ → List ℕ} → LeavesPages shape names bytes old → LeavesPages shape names bytes c
  pages_on x = record {
    spare = x.spare;
    from = x.from;
    below = x.below;
    held = λ p page live. let h = x.held p page live in (h.0, h.1, same h.0 ∙ h.2);
    own = λ name page live. ⊎_elim (λ none. inl (same name ∙ none)) (λ h. inr (stamp_on name page.stamp h)) (x.own name page live);
    stale = x.stale;
    few = x.few;
    at_names = λ name page live. ⊎_elim (λ h. inl (stamp_on name page.stamp h)) (λ h. inr h) (x.at_names name page live);
  }

  agree_on : NamedAgree old → NamedAgree c
  agree_on agree p q a b at_p at_q e = agree p q a b (sym (same p) ∙ at_p) (sym (same q) ∙ at_q) e

module _ {D : Type 0} (g : Ghosts D) (s : D) (volume : IsVolumeShape (g.shape s)) (f : IsFirm g s) where
  -- what is stored has these committed pages
  commits_alike : (a : VirtualMap) (c : Stored) → StoresCommitted (g.shape s) a c → Agrees (g.shape s).vaddrs (committed_in (g.shape s) c) (read_as (g.shape s) a)
  commits_alike a c commits v home = committed_reads (g.shape s) c.virtual v volume home.below ∙ ap (λ (o : Option (List ℕ)). or_zeros (g.shape s) v o) (commits v home)

  leaves_one : (a : VirtualMap) (page_of_stamp : ℕ → Option PageOfStamp) (c : Stored) (count : ℕ) (tree : Tree) → StoresCommitted (g.shape s) a c → LeavesRest (g.shape s).vaddrs (g.failed s) (stored g s) c
      → RepresentsAndLeads g s a page_of_stamp count tree → LeavesTree (g.shape s) (g.names s) (g.bytes s) page_of_stamp c count tree
  leaves_one a page_of_stamp c count tree commits rest stand =
      let alike = commits_alike a c commits in
      record {
        firm = rest.firm f.firm f.none_failed;
        agree = agree_on (stored g s) c rest.named f.agree;
        pages = pages_on (stored g s) c rest.named f.pages.pages;
        stands = stands_new (g.shape s) (read_as (g.shape s) a) (committed_in (g.shape s) c) page_of_stamp count tree alike stand.map;
        lead = λ h has. stand.lead h (subst (λ (hs : List Held). members.Has hs h) (held_alike (g.shape s) (read_as (g.shape s) a) (committed_in (g.shape s) c) page_of_stamp count tree alike stand.map) has);
      }

  pub leaves_standing : LeavesRepresented g s
  leaves_standing = record {
    one = λ a page_of_stamp c count tree left stand. leaves_one a page_of_stamp c count tree left.0 left.1 stand;
    either = λ a b page_of_stamp c count after tree later left one other. ⊎_elim
        (λ commits. inl (leaves_one a page_of_stamp c count tree commits left.1 one))
        (λ commits. inr (leaves_one b page_of_stamp c after later commits left.1 other)) left.0;
    one_of = λ a b d page_of_stamp c count after last tree later newest left one other third. ⊎_elim
        (λ commits. inl (leaves_one a page_of_stamp c count tree commits left.1 one))
        (λ more. inr (⊎_elim (λ commits. inl (leaves_one b page_of_stamp c after later commits left.1 other)) (λ commits. inr (leaves_one d page_of_stamp c last newest commits left.1 third)) more)) left.0;
  }

pub stops_stand : {D : Type 0} (g : Ghosts D) → CrashStatesRepresent g
stops_stand g s volume f = leaves_standing g s volume f
