-- Room for the pages of a call, as it is counted.
use Rattle.std.proofs.Common.{◌≡◌, ℕ, ◌+◌, ◌<◌, ◌≤◌, nat_le, nat_lt, Bool, true, false, [], ◌∷◌, Some, None, sym, ap, subst, ◌∙◌}
use Rattle.std.proofs.lemmas.Bool.{le-ltb, leb-false, leb-true, lt-ltb}
use Rattle.nl_field.specs.declared.inode.InodeRec.{InodeRec}
use Rattle.nl_tree.specs.Step.{first_of, when}
use Rattle.nl_tree.specs.declared.reply.Refusal.TheVariants.{Enospc}
use Rattle.nl_tree.specs.declared.reply.Space.TheVariants as space
use Rattle.nl_iface.specs.declared.counts.Counts.{Ghosts}
use Rattle.nl_inode.specs.Nodes.{Spaces}
use Rattle.nl_core.specs.Core.{IsCore, running_of}
use Rattle.nl_core.specs.declared.state.Core.{Core}
use Rattle.nl_calls_files.specs.LineNeeds.{free_addresses, new_pointers, new_ranges}
use Rattle.nl_calls_bytes.specs.Contents.{indexes_written}
use Rattle.nl_calls_bytes.specs.Room.{room_refusal}
use Rattle.nl_calls_steps.specs.Steps.{ReadsOn}
use Rattle.nl_calls_write.specs.Fitting.{refusal_for}

module _ {D : Type 0} (g : Ghosts D) (v : Core D) (nodes : Spaces) (rec : InodeRec) (from len files ranges pages : ℕ) (same : nodes ≡ v.nodes) (ranges_are : ranges ≡ new_ranges rec (indexes_written from len))
    (pages_are : pages ≡ new_pointers (running_of g v) rec (indexes_written from len)) where
  abbrev now : Core D
  now = record v { nodes = nodes }

  counted : refusal_for g now rec from len files ≡ room_refusal (free_addresses v.nodes) ranges (g.shape v.device).cap files pages
  counted = λ i. room_refusal (free_addresses (same i)) (sym ranges_are i) (g.shape v.device).cap files (sym pages_are i)

  pub no-address : nat_le ranges (free_addresses v.nodes) ≡ false → refusal_for g now rec from len files ≡ Some (Enospc space.Meta)
  no-address low =
      counted
      ∙ ap (λ (b : Bool). first_of (when b (Enospc space.Meta) ∷ when (nat_lt (g.shape v.device).cap (files + pages)) (Enospc space.Pages) ∷ []))
      (lt-ltb (free_addresses v.nodes) ranges (leb-false ranges (free_addresses v.nodes) low))

  module _ (enough : nat_le ranges (free_addresses v.nodes) ≡ true) where
    addresses : room_refusal (free_addresses v.nodes) ranges (g.shape v.device).cap files pages ≡ first_of (when (nat_lt (g.shape v.device).cap (files + pages)) (Enospc space.Pages) ∷ [])
    addresses =
        ap (λ (b : Bool). first_of (when b (Enospc space.Meta) ∷ when (nat_lt (g.shape v.device).cap (files + pages)) (Enospc space.Pages) ∷ []))
        (le-ltb (free_addresses v.nodes) ranges (leb-true ranges (free_addresses v.nodes) enough))

    pub no-page-left : (g.shape v.device).cap < files + pages → refusal_for g now rec from len files ≡ Some (Enospc space.Pages)
    no-page-left low = counted ∙ addresses ∙ ap (λ (b : Bool). first_of (when b (Enospc space.Pages) ∷ [])) (lt-ltb (g.shape v.device).cap (files + pages) low)

    pub is-room : files + pages ≤ (g.shape v.device).cap → refusal_for g now rec from len files ≡ None
    is-room high = counted ∙ addresses ∙ ap (λ (b : Bool). first_of (when b (Enospc space.Pages) ∷ [])) (le-ltb (g.shape v.device).cap (files + pages) high)

-- ---- the free addresses were only looked at

module _ {D : Type 0} (g : Ghosts D) (v : Core D) (nodes : Spaces) (same : nodes ≡ v.nodes) where
  pub looked-core : IsCore g v → IsCore g (record v { nodes = nodes })
  looked-core core = subst (λ (s : Spaces). IsCore g (record v { nodes = s })) (sym same) core

  pub looked-on : (u : Core D) → ReadsOn g u v → ReadsOn g u (record v { nodes = nodes })
  looked-on u on = subst (λ (s : Spaces). ReadsOn g u (record v { nodes = s })) (sym same) on
