-- The file of a tag, and the page that has its pointer.
use Rattle.std.proofs.Common.{◌≡◌, ◌≢◌, ◌⊎◌, inl, inr, ℕ, ◌+◌, ◌/◌, ◌≤◌, ◌<◌, Option, Some, IsSome, is_some, Result, Ok, Err, IfOk, sym, ap, subst, ◌∙◌, arith}
use Rattle.std.proofs.lemmas.Bool.{cases_lt}
use Rattle.std.specs.Prelude.{MatchOption}
use Rattle.nl_field.specs.Numbers.{ShapeBounds}
use Rattle.nl_field.specs.declared.inode.InodeRec.{InodeRec}
use Rattle.nl_field.specs.declared.inode.Kind.TheVariants.{File, Unused}
use Rattle.nl_field.specs.declared.pointer.Tag.{Tag}
use Rattle.nl_iface.specs.declared.counts.Counts.{Ghosts}
use Rattle.nl_inode.specs.Nodes.{page_of_node}
use Rattle.nl_indirect.specs.Ranges.{HasRange, address_of, range_of}
use Rattle.nl_indirect.proofs.LawProofs.{at-slot}
use Rattle.nl_indirect.proofs.Pointing.{address-node, address-range}
use Rattle.nl_meta.specs.Consistent.{AddressAt, GoodAddress}
use Rattle.nl_meta.specs.Nodes.{inode_at, slots_of}
use Rattle.nl_meta.specs.Pages.{Pages, page_of}
use Rattle.nl_meta.proofs.Lists.{some_in}
use Rattle.nl_meta_running.specs.Running.{IsNeeded, RunningIsRight, PreservesRunning, running_on}
use Rattle.nl_meta_running.proofs.Kept.{inode-resident, resident-is}
use Rattle.nl_meta_running.proofs.SameNeeded.{inode-address}
use Rattle.nl_handler.specs.Handling.{IsTagged, TagsFile}

pub if-ok : {T E : Type 0} {P Q : T → Type 0} (r : Result T E) → ((x : T) → P x → Q x) → IfOk r P → IfOk r Q
if-ok (Ok x) f h = f x h
if-ok (Err e) f h = h

-- what is said of an option that is there
pub if-some : {X : Type 0} (P : Type 0) (Q : X → Type 0) (o : Option X) (x : X) → o ≡ Some x → MatchOption o P Q → Q x
if-some P Q o x e h = subst (λ k. MatchOption k P Q) e h

pub file-unused : File ≡ Unused → ⊥
file-unused e = cc

module _ {D : Type 0} (g : Ghosts D) (s : D) (p : Pages) (bounds : ShapeBounds (g.shape s)) (runs : RunningIsRight g s p) (tag : Tag) where
  pub node-needed : tag.ino < (g.shape s).nodes → IsNeeded (g.shape s) (running_on g s p) (67 + tag.ino / 16)
  node-needed h = let f = bounds.places in inl (inode-address (g.shape s) tag.ino (omega (arith, h, f)))

  -- the record that the running map has
  spelled : tag.ino < (g.shape s).nodes → (rec : InodeRec) × (inode_at (running_on g s p) tag.ino ≡ Some rec)
  spelled h = let r = runs.nodes.spelled tag.ino h in (r.0, r.1)

  module _ (t : D) (q : Pages) (on : PreservesRunning g s p t q) (h : tag.ino < (g.shape s).nodes) (there : IsSome (page_of q (page_of_node tag.ino))) where
    same : inode_at (page_of q) tag.ino ≡ inode_at (running_on g s p) tag.ino
    same = inode-resident g s p t q bounds on tag.ino h there

    pub get-spelled : IsSome (inode_at (page_of q) tag.ino)
    get-spelled = ap is_some (same ∙ (spelled h).1)

    pub is-file : (rec : InodeRec) → inode_at (page_of q) tag.ino ≡ Some rec → IsTagged tag rec → TagsFile (g.shape s) (running_on g s p) tag rec
    is-file rec got tagged = record {
      is_node = record { below = h; spelled = sym same ∙ got; used = λ u. file-unused (sym tagged.is_file ∙ u) };
      tagged = tagged;
    }

    pub is-no-file : (rec : InodeRec) → inode_at (page_of q) tag.ino ≡ Some rec → (IsTagged tag rec → ⊥) → (r : InodeRec) → TagsFile (g.shape s) (running_on g s p) tag r → ⊥
    is-no-file rec got off r f = off (subst (IsTagged tag) (some_in r rec (sym f.is_node.spelled ∙ sym same ∙ got)) f.tagged)

  module _ (rec : InodeRec) (file : TagsFile (g.shape s) (running_on g s p) tag rec) (far : address_of rec tag.index ≢ 0) where
    pub high : 8 ≤ tag.index
    high = by (cases_lt tag.index 8)
      where
        by : (tag.index < 8) ⊎ (8 ≤ tag.index) → 8 ≤ tag.index
        by (inl low) = absurd (far (address-node rec tag.index low))
        by (inr h) = h

    pub at : AddressAt (g.shape s) (running_on g s p) tag.ino (range_of tag.index) (address_of rec tag.index)
    at = record {
      rec = rec;
      is_node = file.is_node;
      in_slot = at-slot (slots_of rec) (range_of tag.index) (λ z. far (address-range rec tag.index high ∙ z)) ∙ ap (λ (v : ℕ). Some v) (sym (address-range rec tag.index high));
      not_zero = far;
    }

    pub range-needed : IsNeeded (g.shape s) (running_on g s p) (address_of rec tag.index)
    range-needed = inr (tag.ino, range_of tag.index, at)

  pub range-there : (rec : InodeRec) → TagsFile (g.shape s) (running_on g s p) tag rec → (t : D) (q : Pages) → PreservesRunning g s p t q
      → (address_of rec tag.index ≢ 0 → IsSome (page_of q (address_of rec tag.index))) → HasRange (page_of q) rec tag.index
  unfolding at
  range-there rec file t q on there far = record {
    bytes = good.bytes;
    there = sym (resident-is g t q (address_of rec tag.index) (there far)) ∙ on.needed (address_of rec tag.index) (range-needed rec file far) ∙ good.committed;
    spelled = ap is_some (good.spelled file.tagged.is_file).1;
  }
    where
      good : GoodAddress (g.shape s) (running_on g s p) rec.kind (address_of rec tag.index)
      good = runs.addresses.good tag.ino (range_of tag.index) (address_of rec tag.index) (at rec file far)
