-- The tree of a core after a call.
use Rattle.std.proofs.Common.{◌≡◌, ℕ, Bool, true, false, ◌&&◌, is_none, Option, None, Some, refl, sym, ap, subst, ◌∙◌}
use Rattle.nl_field.specs.declared.shape.Shape.{Shape}
use Rattle.nl_tree.specs.Causes.{fault_in}
use Rattle.nl_tree.specs.Replay.{step_marked}
use Rattle.nl_tree.specs.Step.{Outcome, effect_of, outcome_unless, step}
use Rattle.nl_tree.specs.Tree.{Tree}
use Rattle.nl_tree.specs.declared.call.Call.{Call}
use Rattle.nl_tree.specs.declared.call.Call.TheVariants.{Mkdir, Rmdir, Create, Unlink, Rename, Write, Fill, Read, Truncate, Stat, List as ListCall, Sync, Clean}
use Rattle.nl_tree.specs.declared.reply.FaultReply.{FaultReply}
use Rattle.nl_tree.specs.declared.reply.Refusal.{Refusal}
use Rattle.nl_tree.specs.declared.reply.Reply.{Reply}
use Rattle.nl_tree.specs.declared.reply.Reply.TheVariants.{Done, Count, Content, Names, File, Dir, Synced, No, Fault}
use Rattle.nl_iface.specs.declared.counts.Counts.{Ghosts}
use Rattle.nl_meta.specs.Consistent.{PageOfStamp}
use Rattle.nl_core.specs.Goes.{PreservesTree}
use Rattle.nl_core.specs.Trees.{CoreRepresentsTree}
use Rattle.nl_core.specs.declared.state.Core.{Core}
use Rattle.nl_calls_steps.proofs.Stepping.{steps_run}
use Rattle.nl_calls.specs.Answering.{MakesEffect, HasEffectOf, Syncs, is_sync_call, is_synced}
use Rattle.nl_pagemap_volume.specs.Serving.{TakesStep}

-- ---- a sync leaves the tree

is_sync_of : (call : Call) → is_sync_call call ≡ true → call ≡ Sync
is_sync_of (Mkdir path) e = absurd (cc e)
is_sync_of (Rmdir path) e = absurd (cc e)
is_sync_of (Create path) e = absurd (cc e)
is_sync_of (Unlink path) e = absurd (cc e)
is_sync_of (Rename from to) e = absurd (cc e)
is_sync_of (Write path from bytes) e = absurd (cc e)
is_sync_of (Fill path from len byte) e = absurd (cc e)
is_sync_of (Read path from len) e = absurd (cc e)
is_sync_of (Truncate path size) e = absurd (cc e)
is_sync_of (Stat path) e = absurd (cc e)
is_sync_of (ListCall path) e = absurd (cc e)
is_sync_of Sync e = refl
is_sync_of Clean e = absurd (cc e)

and_left : (a b : Bool) → true ≡ (a && b) → a ≡ true
and_left true b e = refl
and_left false b e = absurd (cc e)

unless_leaves : (tree : Tree) (outcome : Outcome) (r : Option Refusal) → outcome.tree ≡ tree → (outcome_unless tree outcome r).tree ≡ tree
unless_leaves tree outcome None same = same
unless_leaves tree outcome (Some refusal) same = refl

sync_leaves : (shape : Shape) (tree : Tree) → (step_marked shape tree (Sync, None)).tree ≡ tree
unfolding step effect_of
sync_leaves shape tree = unless_leaves tree (effect_of tree Sync) _ refl

-- ---- the tree after a call

module _ {D : Type 0} (g : Ghosts D) (call : Call) where
  -- the core runs as the tree after the call's step, with this fault if it met one
  abbrev Stepped : Option FaultReply → Core D → Core D → Type 0
  Stepped fault u v =
      g.tells → (page_of_stamp : ℕ → Option PageOfStamp) (tree : Tree) → CoreRepresentsTree g u page_of_stamp tree
      → PreservesTree g v page_of_stamp (step_marked (g.shape u.device) tree (call, fault)).tree

  effect_steps : (fault : Option FaultReply) (u v : Core D) → MakesEffect g call fault u v → Stepped fault u v
  effect_steps fault u v x tells page_of_stamp tree at =
      let k = x.goes.runs tells page_of_stamp tree at in
      let next : Tree = (step_marked (g.shape x.between.device) tree (call, fault)).tree in
      let on : CoreRepresentsTree g v k.pages next = steps_run g x.between v k.pages tree next tells x.steps k.runs (x.makes tells k.pages tree k.runs) in
      record {
        pages = k.pages;
        extends = k.extends;
        runs = subst (λ (h : Shape). CoreRepresentsTree g v k.pages (step_marked h tree (call, fault)).tree) x.goes.same_shape on;
      }

  sync_steps : (goal upto moment : ℕ) (u v : Core D) → call ≡ Sync → Syncs g goal upto moment u v → Stepped None u v
  sync_steps goal upto moment u v is x tells page_of_stamp tree at =
      let k = x.goes.runs tells page_of_stamp tree at in
      let same : (step_marked (g.shape u.device) tree (call, None)).tree ≡ tree = ap (λ (c : Call). (step_marked (g.shape u.device) tree (c, None)).tree) is ∙ sync_leaves (g.shape u.device) tree in
      record { pages = k.pages; extends = k.extends; runs = subst (λ (t : Tree). CoreRepresentsTree g v k.pages t) (sym same) k.runs }

  pub steps_of : (goal : ℕ) (u v : Core D) (reply : Reply) → HasEffectOf g goal call u v reply → is_synced reply ≡ (is_sync_call call && is_none (fault_in reply)) → TakesStep g call u v reply
  steps_of goal u v Done x synced = effect_steps None u v x
  steps_of goal u v (Count n) x synced = effect_steps None u v x
  steps_of goal u v Content x synced = effect_steps None u v x
  steps_of goal u v (Names n) x synced = effect_steps None u v x
  steps_of goal u v (File size pages) x synced = effect_steps None u v x
  steps_of goal u v (Dir entries) x synced = effect_steps None u v x
  steps_of goal u v (Synced upto moment) x synced = sync_steps goal upto moment u v (is_sync_of call (and_left (is_sync_call call) true synced)) x
  steps_of goal u v (No refusal) x synced = effect_steps None u v x
  steps_of goal u v (Fault fault) x synced = effect_steps (Some fault) u v x
