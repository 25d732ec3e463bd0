-- What a node is stands in the first of its bytes.
use Rattle.std.proofs.Common.{◌≡◌, ℕ, ◌+◌, ◌/◌, ◌%◌, Bool, true, false, ◌&&◌, cond, List, [], sym, ap, ◌∙◌, Option, Some, None, unwrap_or, bytes_eq}
use Rattle.std.specs.Prelude.{slice_index}
use Rattle.nl_field.specs.Inode.{inode_bytes, inode_fields, inode_of, is_inode, kind_of}
use Rattle.nl_field.specs.declared.inode.InodeRec.{InodeRec}
use Rattle.nl_meta.specs.Committed.{VirtualMap}
use Rattle.nl_meta.specs.Nodes.{bytes_of_node, inode_at, slot_in}
use Rattle.nl_meta.proofs.Lists.{none_some, some_in}

spelled-kind : (bytes : List ℕ) (rec : InodeRec) → inode_of bytes ≡ Some rec → rec.kind ≡ kind_of (slice_index bytes 0)
unfolding inode_of inode_fields
spelled-kind bytes rec e = by (is_inode (inode_fields bytes) && bytes_eq (inode_bytes (inode_fields bytes)) bytes) e
  where
    by : (b : Bool) → cond b (Some (inode_fields bytes)) None ≡ Some rec → rec.kind ≡ kind_of (slice_index bytes 0)
    by true e = ap (λ (r : InodeRec). r.kind) (sym (some_in (inode_fields bytes) rec e))
    by false e = absurd (none_some rec e)

-- of a node whose page is there
pub kind-there : (pages : VirtualMap) (n : ℕ) (main : List ℕ) (rec : InodeRec) → pages (67 + n / 16) ≡ Some main → inode_at pages n ≡ Some rec → rec.kind ≡ kind_of (slice_index (slot_in 256 (n % 16) main) 0)
unfolding inode_at bytes_of_node
kind-there pages n main rec at is = spelled-kind (slot_in 256 (n % 16) main) rec (ap (λ (o : Option (List ℕ)). inode_of (slot_in 256 (n % 16) (unwrap_or o []))) (sym at) ∙ is)
