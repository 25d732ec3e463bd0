-- A directory after a free node was given a record.
use Rattle.std.proofs.Common.{◌≡◌, ℕ, ◌-◌, ◌%◌, ◌<◌, false, ◌&&◌, nat_le, List, sym, ap, subst, ◌∙◌, None, arith, bytes_eq}
use Rattle.std.specs.Prelude.{find}
use Rattle.nl_field.specs.Inode.{inode_of}
use Rattle.nl_field.specs.declared.entry.EntryRec.{EntryRec}
use Rattle.nl_field.specs.declared.inode.InodeRec.{InodeRec}
use Rattle.nl_meta.specs.Committed.{VirtualMap}
use Rattle.nl_meta.specs.Nodes.{entry_named, inode_at}
use Rattle.nl_meta.specs.Pages.{Pages, page_of}
use Rattle.nl_meta.proofs.SlotProofs.{one_slot}
use Rattle.nl_inode.specs.Free.{is_free}
use Rattle.nl_inode.specs.Nodes.{NodeBecomes, PutsNode, Spaces, is_free_address, page_of_node}
use Rattle.nl_dir.specs.DirectoryLaws.{OwnPages}
use Rattle.nl_dir.proofs.LawProofs.{only_own_pages}
use Rattle.nl_namespace.specs.Entering.{FitsBehind}
use Rattle.nl_namespace.specs.Making.{FitsNew}
use Rattle.nl_namespace.proofs.DirectoryChanges.{one-node}
use Rattle.nl_namespace.proofs.PutSteps.{follows-node}
use Rattle.nl_namespace.proofs.States.{Follows}

module _ (n m : ℕ) (name : List ℕ) (r : InodeRec) (p q : Pages) (s t : Spaces) (fits : FitsNew n m name p s) (puts : PutsNode m r p q) (becomes : NodeBecomes m false s t) where
  nothing : VirtualMap
  nothing v = None

  follows : Follows nothing p q 1
  follows = follows-node nothing m r p q fits.node_there puts

  owned : OwnPages fits.rec (page_of p) (page_of q)
  owned = only_own_pages fits.rec (page_of p) (page_of q) (λ i h. puts.others.others _ (fits.apart i h))

  other-node : inode_at (page_of q) n ≡ inode_at (page_of p) n
  unfolding inode_at
  other-node = ap inode_of (one_slot.node (page_of_node m) (m % 16) (page_of p) (page_of q) puts.others n (λ x y. fits.other (one-node n m x y)))

  equal : (a : ℕ) → is_free_address t a ≡ is_free_address s a
  equal a = λ i. nat_le (becomes.first i) a && is_free (becomes.pool i) (a - becomes.first i)

  pub fits-behind : (entry : EntryRec) → entry.name ≡ name → FitsBehind n entry q t
  unfolding entry_named
  fits-behind entry same = record {
    rec = fits.rec;
    has = record {
      node_there = follows.there (page_of_node n) fits.has.node_there;
      spelled = other-node ∙ fits.has.spelled;
      directory = owned.directory fits.has.directory;
      has_room = let f = follows.few in let h = fits.has.has_room in omega (arith, f, h);
    };
    few = fits.few;
    absent = ap (entry_named (page_of q) fits.rec) same ∙ ap (λ (es : List EntryRec). find (λ e. bytes_eq e.name name) es) owned.entries ∙ fits.absent;
    address = λ e. let a = fits.address e in (a.0, equal a.0 ∙ a.1);
    new = record {
      each = λ a f. let h = fits.new.each a (sym (equal a) ∙ f) in (h.0, subst (λ (k : ℕ). a < k) (sym follows.count) h.1);
      unused = λ a i f h. fits.new.unused a i (sym (equal a) ∙ f) h;
    };
  }
