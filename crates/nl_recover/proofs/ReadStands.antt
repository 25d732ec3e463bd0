-- What was read stays while the device is only read.
use Rattle.std.proofs.Common.{◌≡◌, ◌⊎◌, inl, inr, ℕ, sym, subst, ◌∙◌}
use Rattle.nl_field.specs.Virtual.{map_bytes}
use Rattle.nl_field.specs.declared.shape.Shape.{Shape}
use Rattle.nl_iface.specs.Calls.{KeepsVirtual}
use Rattle.nl_iface.specs.declared.counts.Counts.{Ghosts}
use Rattle.nl_journal.proofs.BackStands.{stored-same}
use Rattle.nl_meta.specs.Committed.{VirtualMap}
use Rattle.nl_meta.specs.Pages.{Pages, page_of}
use Rattle.nl_meta.specs.Running.{running_over}
use Rattle.nl_recover.specs.Loading.{LoadsMetadata}
use Rattle.nl_recover.specs.Looking.{LooksAlike}

module _ {D : Type 0} (g : Ghosts D) where
  pub loads-on : (s t : D) (p q : Pages) → KeepsVirtual g s t → LoadsMetadata g.tells (map_bytes (g.shape s) (g.map s)) p q → LoadsMetadata g.tells (map_bytes (g.shape t) (g.map t)) p q
  loads-on s t p q k l = record {
    count = l.count;
    dirty = l.dirty;
    frozen = l.frozen;
    kept = l.kept;
    each = λ u. by u (l.each u);
    apart = l.apart;
  }
    where
      by : (u : ℕ) → (page_of q u ≡ page_of p u) ⊎ (g.tells → page_of q u ≡ running_over (map_bytes (g.shape s) (g.map s)) p u) → (page_of q u ≡ page_of p u) ⊎ (g.tells → page_of q u ≡ running_over (map_bytes (g.shape t) (g.map t)) p u)
      by u (inl e) = inl e
      by u (inr e) = inr (λ tells. e tells ∙ sym (λ i. running_over (λ (v : ℕ). stored-same g s t k tells v i) p u))

  pub alike-on : (shape : Shape) (s t : D) (p q : Pages) → shape ≡ g.shape t → KeepsVirtual g s t → g.tells → LooksAlike shape (running_over (map_bytes (g.shape s) (g.map s)) p) (page_of q) → LooksAlike (g.shape t) (running_over (map_bytes (g.shape t) (g.map t)) p) (page_of q)
  alike-on shape s t p q e k tells a =
      subst (λ (f : VirtualMap). LooksAlike (g.shape t) (running_over f p) (page_of q)) (sym (λ i v. stored-same g s t k tells v i))
      (subst (λ (h : Shape). LooksAlike h (running_over (map_bytes (g.shape s) (g.map s)) p) (page_of q)) e a)
