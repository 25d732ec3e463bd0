-- What the steps of a move need, from what stands in memory before them.
use Rattle.std.proofs.Common.{◌≡◌, ◌≢◌, ℕ, ◌%◌, ◌<◌, List, sym, subst, ◌∙◌, Some, None, ◌⊎◌, inl, inr, arith, bytes_eq}
use Rattle.std.proofs.lemmas.Bool.{cases_eq}
use Rattle.nl_field.specs.Numbers.{ShapeBounds}
use Rattle.nl_field.specs.declared.entry.EntryRec.{EntryRec}
use Rattle.nl_field.specs.declared.inode.InodeRec.{InodeRec}
use Rattle.nl_field.specs.declared.shape.Shape.{Shape}
use Rattle.nl_meta.specs.Committed.{VirtualMap}
use Rattle.nl_meta.specs.Consistent.{GoodEntry}
use Rattle.nl_meta.specs.Nodes.{entries_of_inode, entry_named, graph_of}
use Rattle.nl_meta.specs.Pages.{Pages}
use Rattle.nl_meta.specs.Running.{running_over}
use Rattle.nl_meta.proofs.Lists.{member-find, some_in}
use Rattle.nl_inode.specs.Nodes.{Spaces}
use Rattle.nl_dir.specs.Directory.{HasRoomForDirty}
use Rattle.nl_tree.specs.GraphLaws.{entry_at}
use Rattle.nl_namespace.specs.Entering.{HasFreeAddress, HasNamed}
use Rattle.nl_namespace.specs.Finding.{FitsAfter, renamed}
use Rattle.nl_namespace.proofs.EntrySteps.{EntryStep, taken-step}
use Rattle.nl_namespace.proofs.HeldDirectories.{Held, Ready, behind-fits, has-held, named-fits, ready-here, ready-then}
use Rattle.nl_namespace.proofs.States.{Follows, State}
use Rattle.nl_namespace.proofs.TakeSteps.{take-follows, take-state}

-- Both names stand in one directory, or the other has room, once this one is without its entry.
abbrev pub HasPlaceIn : Shape → VirtualMap → Pages → Spaces → ℕ → InodeRec → ℕ → Type 0
HasPlaceIn shape device p s n rec l =
    (n ≡ l) ⊎ ((other : InodeRec) × Held shape device p l other × (other.size < 1024) × (other.size % 64 ≡ 0 → HasFreeAddress s ⊎ (rec.size % 64 ≡ 1)))

module _ (shape : Shape) (bounds : ShapeBounds shape) (device : VirtualMap) (n l : ℕ) (entry : EntryRec) (name_to : List ℕ) (differ : n ≡ l → entry.name ≢ name_to) (p : Pages) (s : Spaces) (state : State shape device p s) (rec : InodeRec) (held : Held shape device p n rec)
    (below : l < shape.nodes) where
  -- the entry can be taken out
  pub origin-named : entry_at (graph_of shape (running_over device p)) n entry.name ≡ Some entry.ino → HasRoomForDirty 5 p → HasNamed n entry.name p s
  origin-named e room = named-fits shape bounds device p s state n rec held entry.name entry.ino e (omega (arith, room))

  -- the entry can be put in once it is taken out
  pub fits-after : HasRoomForDirty 5 p → entry_at (graph_of shape (running_over device p)) l name_to ≡ None → HasPlaceIn shape device p s n rec l → FitsAfter n entry l name_to p s
  fits-after room none place q after takes =
      behind-fits shape bounds device q after state2 l ready.rec ready.held (renamed entry name_to) ready.few ready.address
      (step.elsewhere l name_to (λ e same. differ (sym e) (sym same)) ∙ none)
      (let f = follows.few in omega (arith, f, room))
    where
      follows : Follows device p q 3
      follows = take-follows shape bounds device n entry.name p q s after state held.is_node.below takes

      state2 : State shape device q after
      state2 = take-state shape bounds device n entry.name p q s after state held.is_node.below takes

      step : EntryStep shape device n entry.name None 3 p q
      step = taken-step shape bounds device n p q s after state held.is_node.below entry.name takes

      ready : Ready shape device q after l
      ready = of place
        where
          same : takes.rec ≡ rec
          same = some_in takes.rec rec (sym takes.has.spelled ∙ (has-held shape bounds device p s state n rec held 5 room).spelled)

          of : HasPlaceIn shape device p s n rec l → Ready shape device q after l
          of (inl e) = subst (Ready shape device q after) e (ready-here shape bounds device n entry.name p q s after state held.is_node.below takes)
          of (inr x) = by (cases_eq l n)
            where
              by : (l ≡ n) ⊎ (l ≡ n → ⊥) → Ready shape device q after l
              by (inl e) = subst (Ready shape device q after) (sym e) (ready-here shape bounds device n entry.name p q s after state held.is_node.below takes)
              by (inr far) =
                  ready-then shape bounds device n entry.name p q s after state held.is_node.below takes l x.0 far x.1 x.2
                  (subst (λ (r : InodeRec). x.0.size % 64 ≡ 0 → HasFreeAddress s ⊎ (r.size % 64 ≡ 1)) (sym same) x.3)

-- an entry that is listed names a node under its generation
pub listed-good : (shape : Shape) (device : VirtualMap) (p : Pages) (s : Spaces) (state : State shape device p s) (n : ℕ) (rec : InodeRec) (held : Held shape device p n rec) (x : List ℕ) (entry : EntryRec) → entry_named (running_over device p) rec x ≡ Some entry
    → GoodEntry shape (running_over device p) entry
unfolding entry_named
listed-good shape device p s state n rec held x entry e =
    state.good n entry (record { rec = rec; is_node = held.is_node; is_dir = held.is_dir; has = (member-find (λ (e : EntryRec). bytes_eq e.name x) (entries_of_inode (running_over device p) rec) entry e).0 })
