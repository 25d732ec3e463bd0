-- What the resident pages have, and what is not there where a page is not.
use Rattle.std.proofs.Common.{◌≡◌, ℕ, zero, suc, ◌+◌, ◌*◌, ◌/◌, ◌%◌, ◌&&◌, Bool, true, false, cond, List, [], take, refl, sym, ap, ◌∙◌, Option, Some, None, unwrap_or}
use Rattle.std.proofs.Math.Seq.{drop-nil}
use Rattle.nl_field.specs.Bytes.{all_zero}
use Rattle.nl_field.specs.Inode.{inode_bytes, inode_fields, inode_of, is_inode}
use Rattle.nl_meta.specs.Committed.{VirtualMap}
use Rattle.std.specs.Prelude.{bytes_eq}
use Rattle.nl_field.specs.declared.inode.InodeRec.{InodeRec}
use Rattle.nl_meta.proofs.Lists.{none_some, some_in}
use Rattle.nl_meta.specs.Nodes.{bytes_of_node, inode_at, slot_in}

abbrev no_bytes : List ℕ
no_bytes = []

take-nil : (n : ℕ) → take n no_bytes ≡ no_bytes
take-nil zero = refl
take-nil (suc n) = refl

pub slot-nil : (width i : ℕ) → slot_in width i [] ≡ []
slot-nil width i = ap (take width) (drop-nil {A = ℕ} (width * i)) ∙ take-nil width

-- no bytes spell no record
inode-nil : inode_of [] ≡ None
unfolding inode_of inode_bytes
inode-nil = by (is_inode (inode_fields []))
  where
    by : (b : Bool) → cond (b && false) (Some (inode_fields [])) None ≡ None
    by true = refl
    by false = refl

pub inode-none : (pages : VirtualMap) (n : ℕ) → pages (67 + n / 16) ≡ None → inode_at pages n ≡ None
unfolding inode_at bytes_of_node
inode-none pages n gone = ap (λ (o : Option (List ℕ)). inode_of (slot_in 256 (n % 16) (unwrap_or o []))) gone ∙ ap inode_of (slot-nil 256 (n % 16)) ∙ inode-nil

pub zero-none : (pages : VirtualMap) (n : ℕ) → pages (67 + n / 16) ≡ None → all_zero (bytes_of_node pages n) ≡ true
unfolding bytes_of_node
zero-none pages n gone = ap (λ (o : Option (List ℕ)). all_zero (slot_in 256 (n % 16) (unwrap_or o []))) gone ∙ ap all_zero (slot-nil 256 (n % 16))

pub bytes-at : (pages : VirtualMap) (n : ℕ) (main : List ℕ) → pages (67 + n / 16) ≡ Some main → bytes_of_node pages n ≡ slot_in 256 (n % 16) main
unfolding bytes_of_node
bytes-at pages n main is = ap (λ (o : Option (List ℕ)). slot_in 256 (n % 16) (unwrap_or o [])) is

has-spelling : (bytes : List ℕ) (rec : InodeRec) → inode_of bytes ≡ Some rec → is_inode rec ≡ true
unfolding inode_of
has-spelling bytes rec e =
    elim (is_inode (inode_fields bytes)) as (λ b. is_inode (inode_fields bytes) ≡ b → cond (b && bytes_eq (inode_bytes (inode_fields bytes)) bytes) (Some (inode_fields bytes)) None ≡ Some rec → is_inode rec ≡ true) [
      | true ↦ λ is e. cases (bytes_eq (inode_bytes (inode_fields bytes)) bytes) is e
      | false ↦ λ is e. absurd (none_some rec e)
    ] refl e
  where
    cases : (b : Bool) → is_inode (inode_fields bytes) ≡ true → cond b (Some (inode_fields bytes)) None ≡ Some rec → is_inode rec ≡ true
    cases true is e = ap is_inode (sym (some_in _ _ e)) ∙ is
    cases false is e = absurd (none_some rec e)

-- a record that is there has a spelling
pub spelled : (pages : VirtualMap) (n : ℕ) (rec : InodeRec) → Some rec ≡ inode_at pages n → is_inode rec ≡ true
unfolding inode_at
spelled pages n rec e = has-spelling (bytes_of_node pages n) rec (sym e)
