-- Where a walk goes on that has begun.
use Rattle.std.proofs.Common.{◌≡◌, ◌≢◌, ℕ, zero, suc, ◌+◌, ◌<◌, ◌≤◌, IfOk, Result, List, [], ◌∷◌, ◌++◌, length, take, drop, get_or, refl, sym, ap, subst, ◌∙◌, Option, Some, arith}
use Rattle.std.proofs.lemmas.List.{take_more, take_all, take-append-drop, drop_more}
use Rattle.std.specs.Prelude.{slice_get}
use Rattle.nl_field.specs.Graph.{Graph}
use Rattle.nl_field.specs.declared.entry.EntryRec.{EntryRec}
use Rattle.nl_tree.specs.GraphLaws.{entry_at}
use Rattle.nl_tree.specs.Represents.{node_reached}
use Rattle.nl_tree.proofs.ChangeProofs.{at_end}
use Rattle.nl_volume_list.specs.Entries.{HasLeastBehind, HasNoneBehind}
use Rattle.nl_meta_running.specs.declared.answer.Stop.{Stop}
use Rattle.nl_volume_list.specs.Onward.{StepsOnward, IsLast, LeadsOn, NoneUnder}
use Rattle.nl_volume_list.specs.Walks.{OnWay, WalkState}
use Rattle.nl_volume_list.specs.declared.walk.Onward.{Onward}
use Rattle.nl_volume_list.proofs.Climbing.{Path, bare, beside-next, climbed, first-next}

pub at-position : (xs : List ℕ) (i : ℕ) → i < length xs → slice_get xs i ≡ Some (get_or xs i 0)
at-position [] i h = absurd (let n : ⊥ = omega (arith, h) in n)
at-position (x ∷ xs) zero h = refl
at-position (x ∷ xs) (suc i) h = at-position xs i (omega (arith, h))

record At (xs : Path) (i : ℕ) (x : List ℕ) : Type 0 where
  below : i < length xs
  is : get_or xs i x ≡ x

at-place : (xs : Path) (i : ℕ) (x : List ℕ) → slice_get xs i ≡ Some x → At xs i x
at-place [] i x e = absurd (none-at e)
  where
    none-at : slice_get [] i ≡ Some x → ⊥
    none-at e = cc
at-place (y ∷ xs) zero x e = record { below = omega arith; is = some-at e }
  where
    some-at : Some y ≡ Some x → y ≡ x
    some-at e = cc
at-place (y ∷ xs) (suc i) x e = let r = at-place xs i x e in record { below = omega (arith, r.below); is = r.is }

drop-all : (xs : Path) (i : ℕ) → length xs ≤ i → drop i xs ≡ []
drop-all [] zero h = refl
drop-all [] (suc i) h = refl
drop-all (x ∷ xs) zero h = absurd (let n : ⊥ = omega (arith, h) in n)
drop-all (x ∷ xs) (suc i) h = drop-all xs i (omega (arith, h))

module _ (path : Path) (j : ℕ) (h : List ℕ) (at : slice_get path j ≡ Some h) where
  take-step : take (j + 1) path ≡ take j path ++ h ∷ []
  take-step = let p = at-place path j h at in take_more path j h p.below ∙ ap (λ (x : List ℕ). take j path ++ x ∷ []) p.is

  drop-step : drop j path ≡ h ∷ drop (j + 1) path
  drop-step = let p = at-place path j h at in drop_more path j h p.below ∙ ap (λ (x : List ℕ). x ∷ drop (j + 1) path) p.is

module _ (graph : Graph) (walk : WalkState) (way : OnWay graph walk) (begun : walk.nodes ≢ []) where
  -- there is a node for each beginning of the path
  pub node-below : (i : ℕ) → i ≤ length walk.path → i < length walk.nodes
  node-below i h = let c = way.one_each begun in omega (arith, c, h)

  pub node-at : (i : ℕ) → i ≤ length walk.path → node_reached graph 0 (take i walk.path) ≡ Some (get_or walk.nodes i 0)
  node-at i h = way.reached i (get_or walk.nodes i 0) (at-position walk.nodes i (node-below i h))

  module _ (named : (n : ℕ) (x : List ℕ) (m : ℕ) → entry_at graph n x ≡ Some m → x ≢ []) where
    parts : (i : ℕ) → walk.path ≡ take i walk.path ++ drop i walk.path
    parts i = sym (take-append-drop i walk.path)

    reached-by : (i : ℕ) (entry : EntryRec) → i ≤ length walk.path → entry_at graph (get_or walk.nodes i 0) entry.name ≡ Some entry.ino → node_reached graph 0 (take i walk.path ++ entry.name ∷ []) ≡ Some entry.ino
    reached-by i entry h e = at_end graph (take i walk.path) entry.name (get_or walk.nodes i 0) (node-at i h) ∙ e

    module _ (i : ℕ) (whole : i ≡ length walk.path) where
      low : i ≤ length walk.path
      low = omega (arith, whole)

      end : drop i walk.path ≡ []
      end = drop-all walk.path i (omega (arith, whole))

      -- the walk goes on at the least entry of its node
      pub leads-first : (entry : EntryRec) → HasLeastBehind graph (get_or walk.nodes i 0) [] entry → LeadsOn graph walk (record { kept = i; entry = entry })
      leads-first entry least = record {
        kept = low;
        reached = reached-by i entry low least.at;
        next = first-next graph walk.path (take i walk.path) (drop i walk.path) (get_or walk.nodes i 0) (node-at i low) (parts i) entry end (named (get_or walk.nodes i 0)) least;
      }

      -- where the node has no entry, there is nothing under the path of the walk
      pub under-first : HasNoneBehind graph (get_or walk.nodes i 0) [] → NoneUnder graph walk.path walk.path
      under-first none =
          subst (NoneUnder graph walk.path) (take_all i walk.path (omega (arith, whole)))
          (bare graph walk.path (take i walk.path) (drop i walk.path) (get_or walk.nodes i 0) (node-at i low) (parts i) end (named (get_or walk.nodes i 0)) none)

    module _ (j : ℕ) (h : List ℕ) (at : slice_get walk.path j ≡ Some h) (deeper : NoneUnder graph walk.path (take (j + 1) walk.path)) where
      within : j ≤ length walk.path
      within = let b = (at-place walk.path j h at).below in omega (arith, b)

      under-name : NoneUnder graph walk.path (take j walk.path ++ h ∷ [])
      under-name = subst (NoneUnder graph walk.path) (take-step walk.path j h at) deeper

      -- the walk goes on at the least entry behind a name of its path
      pub leads-beside : (entry : EntryRec) → HasLeastBehind graph (get_or walk.nodes j 0) h entry → LeadsOn graph walk (record { kept = j; entry = entry })
      leads-beside entry least = record {
        kept = within;
        reached = reached-by j entry within least.at;
        next = beside-next graph walk.path (take j walk.path) (drop j walk.path) (get_or walk.nodes j 0) (node-at j within) (parts j) entry h (drop (j + 1) walk.path) (drop-step walk.path j h at) least under-name;
      }

      -- where there is no entry behind that name, nothing is left under what is before it
      pub under-beside : HasNoneBehind graph (get_or walk.nodes j 0) h → NoneUnder graph walk.path (take j walk.path)
      under-beside none =
          climbed graph walk.path (take j walk.path) (drop j walk.path) (get_or walk.nodes j 0) (node-at j within) (parts j) h (drop (j + 1) walk.path) (drop-step walk.path j h at) none under-name

  -- where nothing is left under the root, it is the last
  pub under-root : (i : ℕ) → i ≡ 0 → NoneUnder graph walk.path (take i walk.path) → IsLast graph walk.path
  under-root i e none = subst (λ (k : ℕ). NoneUnder graph walk.path (take k walk.path)) e none

-- over the same nodes
pub goes-as : (g h : Graph) (walk : WalkState) (r : Result (Option Onward) Stop) → g ≡ h → IfOk r (StepsOnward g walk) → IfOk r (StepsOnward h walk)
goes-as g h walk r same goes = subst (λ (n : Graph). IfOk r (StepsOnward n walk)) same goes
