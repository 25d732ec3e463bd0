-- A directory whose pages were made resident.
use Rattle.std.proofs.Common.{◌≡◌, ℕ, ◌*◌, ◌/◌, ◌<◌, List, get_or, is_some, sym, ap, subst, ◌∙◌, IsSome, Option, arith, bytes_eq}
use Rattle.std.specs.Prelude.{find}
use Rattle.std.specs.Int.{div_ceil}
use Rattle.nl_field.specs.Numbers.{ShapeBounds}
use Rattle.nl_field.specs.declared.entry.EntryRec.{EntryRec}
use Rattle.nl_field.specs.declared.inode.InodeRec.{InodeRec}
use Rattle.nl_field.specs.declared.inode.Kind.TheVariants.{Dir}
use Rattle.nl_iface.specs.declared.counts.Counts.{Ghosts}
use Rattle.nl_meta.specs.Nodes.{entry_named}
use Rattle.nl_meta.specs.Pages.{Pages, page_of}
use Rattle.nl_dir.proofs.LawProofs.{resident_is_running, right_is_directory}
use Rattle.nl_namespace.specs.Holding.{HasEntries}
use Rattle.nl_meta_running.specs.Running.{IsNodeOf, RunningIsRight, PreservesRunning, running_on, stored_on}
use Rattle.nl_namespace.specs.Stepping.{InDirectory}
use Rattle.nl_meta_running.proofs.Kept.{used-back}
use Rattle.nl_meta_running.proofs.SameNeeded.{own}

module _ {D : Type 0} (g : Ghosts D) (s : D) (p : Pages) (t : D) (q : Pages) (bounds : ShapeBounds (g.shape s)) (on : PreservesRunning g s p t q) (n : ℕ) (rec : InodeRec) (is : IsNodeOf g s p n rec) (dir : rec.kind ≡ Dir) where
  pub entries-held : RunningIsRight g s p → ((k : ℕ) → k < div_ceil rec.size 64 → IsSome (page_of q (get_or rec.addresses k 0))) → HasEntries g s p q rec
  entries-held runs there =
      let owned = own (g.shape s) bounds (running_on g s p) (running_on g t q) on.needed n rec is dir in
      let right = right_is_directory (g.shape s) (running_on g s p) n rec runs.addresses runs.entries is dir in
      let held = resident_is_running (stored_on g t) q rec (λ i h. there (i / 64) (omega (arith, h))) in
      record { directory = held.directory.0 (owned.directory right); entries = sym held.entries ∙ owned.entries }

  -- what a name has there, in memory too
  pub named-held : (r : Pages) (name : List ℕ) → HasEntries g t q r rec → entry_named (page_of r) rec name ≡ entry_named (running_on g s p) rec name
  unfolding entry_named
  named-held r name has =
      ap (λ (es : List EntryRec). find (λ e. bytes_eq e.name name) es) (has.entries ∙ (own (g.shape s) bounds (running_on g s p) (running_on g t q) on.needed n rec is dir).entries)

  -- a directory that is in memory stays there
  pub held-on : RunningIsRight g s p → HasEntries g s p p rec → HasEntries g t q q rec
  held-on runs has = record { directory = then.directory; entries = then.entries ∙ sym (own (g.shape s) bounds (running_on g s p) (running_on g t q) on.needed n rec is dir).entries }
    where
      there : (k : ℕ) → k < div_ceil rec.size 64 → IsSome (page_of q (get_or rec.addresses k 0))
      there k h =
          let e : 64 * k / 64 ≡ k = omega arith in
          let was = subst (λ (r : ℕ). IsSome (page_of p (get_or rec.addresses r 0))) e (has.directory.places.there (64 * k) (omega (arith, h))) in
          ap is_some (on.stays (get_or rec.addresses k 0) was) ∙ was

      then : HasEntries g s p q rec
      then = entries-held runs there

  -- they are those that it had before
  pub has-before : (r : Pages) → HasEntries g t q r rec → HasEntries g s p r rec
  has-before r has = record { directory = has.directory; entries = has.entries ∙ (own (g.shape s) bounds (running_on g s p) (running_on g t q) on.needed n rec is dir).entries }

-- what a name has in a directory, before a call that leaves it
pub directory-back : {D : Type 0} (g : Ghosts D) (s : D) (p : Pages) (t : D) (q : Pages) → ShapeBounds (g.shape s) → PreservesRunning g s p t q → (n : ℕ) (name : List ℕ) (o : Option EntryRec)
    → InDirectory g t q n name o → InDirectory g s p n name o
unfolding entry_named
directory-back g s p t q bounds on n name o d =
    let is = used-back g s p t q bounds on n d.rec d.is_node in
    record {
      rec = d.rec;
      is_node = is;
      is_dir = d.is_dir;
      named = ap (λ (es : List EntryRec). find (λ e. bytes_eq e.name name) es) (sym (own (g.shape s) bounds (running_on g s p) (running_on g t q) on.needed n d.rec is d.is_dir).entries) ∙ d.named;
    }
