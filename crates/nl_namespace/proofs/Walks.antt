-- One name of a path after the other.
use Rattle.std.proofs.Common.{◌≡◌, ℕ, zero, suc, ◌+◌, ◌<◌, ◌≤◌, List, [], ◌∷◌, drop, length, refl, ap, ◌∙◌, Option, Some, None, option_map, option_and_then, arith}
use Rattle.std.specs.Prelude.{slice_get}
use Rattle.nl_field.specs.declared.entry.EntryRec.{EntryRec}
use Rattle.nl_field.specs.declared.inode.InodeRec.{InodeRec}
use Rattle.nl_field.specs.declared.inode.Kind.TheVariants.{File}
use Rattle.nl_iface.specs.declared.counts.Counts.{Ghosts}
use Rattle.nl_meta.specs.Pages.{Pages}
use Rattle.nl_tree.specs.Represents.{node_reached}
use Rattle.nl_tree.specs.declared.reply.Refusal.TheVariants.{Enoent, Enotdir}
use Rattle.nl_namespace.specs.Paths.{onward, walk_refusal}
use Rattle.nl_meta_running.specs.Running.{IsNodeOf}
use Rattle.nl_namespace.specs.Stepping.{InDirectory}
use Rattle.nl_namespace.proofs.Graphs.{drop-all, drop-step, graph, reached-by, refused-by, refused-file}

drop-some : (path : List (List ℕ)) (i : ℕ) → i < length path → (x : List ℕ) × (xs : List (List ℕ)) × (drop i path ≡ x ∷ xs)
drop-some [] i h = absurd (none h)
  where
    none : i < 0 → ⊥
    none h = omega (arith, h)
drop-some (x ∷ xs) zero h = (x, xs, refl)
drop-some (x ∷ xs) (suc i) h = drop-some xs i (omega (arith, h))

one-more : (i : ℕ) → suc i ≡ i + 1
one-more i = omega arith

module _ {D : Type 0} (g : Ghosts D) (s : D) (p : Pages) (path : List (List ℕ)) (i at : ℕ) (name : List ℕ) (named : slice_get path i ≡ Some name)
    (reached : node_reached (graph g s p) 0 path ≡ node_reached (graph g s p) at (drop i path)) (refused : walk_refusal (graph g s p) 0 path ≡ walk_refusal (graph g s p) at (drop i path)) where
  rest : drop i path ≡ name ∷ drop (i + 1) path
  rest = drop-step path i name named ∙ ap (λ (n : ℕ). name ∷ drop n path) (one-more i)

  reached-here : (o : Option EntryRec) → InDirectory g s p at name o → node_reached (graph g s p) 0 path ≡ option_and_then (λ m. node_reached (graph g s p) m (drop (i + 1) path)) (option_map (λ (e : EntryRec). e.ino) o)
  reached-here o d = reached ∙ ap (node_reached (graph g s p) at) rest ∙ reached-by g s p at name o d (drop (i + 1) path)

  refused-here : (o : Option EntryRec) → InDirectory g s p at name o → walk_refusal (graph g s p) 0 path ≡ onward (option_map (λ (e : EntryRec). e.ino) o) (drop (i + 1) path) (λ m. walk_refusal (graph g s p) m (drop (i + 1) path))
  refused-here o d = refused ∙ ap (walk_refusal (graph g s p) at) rest ∙ refused-by g s p at name o d (drop (i + 1) path)

  pub missing-last : InDirectory g s p at name None → length path ≤ i + 1 → (node_reached (graph g s p) 0 path ≡ None) × (walk_refusal (graph g s p) 0 path ≡ None)
  missing-last d h = (reached-here None d, refused-here None d ∙ ap (λ (ns : List (List ℕ)). onward None ns (λ m. walk_refusal (graph g s p) m (drop (i + 1) path))) (drop-all path (i + 1) h))

  pub missing-before : InDirectory g s p at name None → i + 1 < length path → walk_refusal (graph g s p) 0 path ≡ Some Enoent
  missing-before d h =
      let r = drop-some path (i + 1) h in
      refused-here None d ∙ ap (λ (ns : List (List ℕ)). onward None ns (λ m. walk_refusal (graph g s p) m (drop (i + 1) path))) r.2

  pub file-before : (rec : InodeRec) → IsNodeOf g s p at rec → rec.kind ≡ File → walk_refusal (graph g s p) 0 path ≡ Some Enotdir
  file-before rec is file = refused ∙ ap (walk_refusal (graph g s p) at) rest ∙ refused-file g s p at name rec is file (drop (i + 1) path)

  pub onwards : (e : EntryRec) → InDirectory g s p at name (Some e)
      → (node_reached (graph g s p) 0 path ≡ node_reached (graph g s p) e.ino (drop (i + 1) path)) × (walk_refusal (graph g s p) 0 path ≡ walk_refusal (graph g s p) e.ino (drop (i + 1) path))
  onwards e d = (reached-here (Some e) d, refused-here (Some e) d)
