-- What a stop leaves of a medium in a store, in words of the bytes.
use Rattle.std.proofs.Common.{◌≡◌, ◌⊎◌, inl, inr, ⊎_elim, ℕ, ◌≤◌, List, IsTrue, sym, subst}
use Rattle.nl_field.specs.Page.{Image}
use Rattle.nl_imgfile.specs.DiskImage.{image_of_store}
use Rattle.nl_nand.specs.Nand.{IsBlank}
use Rattle.nl_nand.specs.declared.nand.Nand.{Ghosts as NandGhosts}
use Rattle.nl_spec_image.specs.Crash.{CrashesSafely, OpensAsPrefix, Run}
use Rattle.nl_spec_image.specs.Stands.{ConsistentAs}
use Rattle.nl_store.specs.declared.store.Store.{Ghosts}
use Rattle.nl_top.specs.Leaving.{Leaving, leaves_within, new_volume, nothing_new, prefixes_of}
use Rattle.nl_volume_format.proofs.ReadableOnes.{none_on_blank}
use Rattle.nl_volume_format.specs.Making.{OpensAsNew}
use Rattle.nl_app_file.specs.OnStore.{images_left, leaves_in_store}

module _ {M B : Type 0} (n : NandGhosts M) (b : Ghosts B) (media media' : M) (old new : B)
    (told : IsTrue b.tells → n.tells)
    (here : b.left old (b.moment old) (b.bytes old))
    (begun : IsTrue b.tells → (m : ℕ) (c : Image) → n.left media m c → (m ≡ b.moment old) × (c ≡ image_of_store (b.bytes old))) where
  -- what there was as the medium was attached may have been left of the store
  was_left : IsTrue b.tells → (m : ℕ) (c : Image) → n.left media m c → images_left b old m c
  was_left t m c l = let at = begun t m c l in (b.bytes old, subst (λ k. b.left old k (b.bytes old)) (sym at.0) here, at.1)

  -- while the header stays
  module _ (first : n.clock media ≡ b.moment old) (last : n.clock media' ≡ b.moment new)
      (back : IsTrue b.tells → (m : ℕ) (x : List ℕ) → b.left new m x → n.left media' m (image_of_store x)) where
    is_left : IsTrue b.tells → (m : ℕ) (c : Image) → images_left b new m c → n.left media' m c
    is_left t m c l = subst (λ (i : Image). n.left media' m i) (sym l.2) (back t m l.0 l.1)

    prefixes : (run : Run) → leaves_within n media media' (prefixes_of run) → leaves_in_store b old new (prefixes_of run)
    prefixes run safe t = record {
      each = λ m c l. ⊎_elim
          (λ before. inl (was_left t m c before))
          (λ within. inr (subst (λ k. k ≤ m) first within.0, subst (λ k. m ≤ k) last within.1, within.2))
          (safe.each m c (is_left t m c l));
    }

    pub stops_in_store : (l : Leaving) → leaves_within n media media' l → leaves_in_store b old new l
    stops_in_store nothing_new kept = λ t m c l. was_left t m c (kept (told t) m c (is_left t m c l))
    stops_in_store new_volume kept = λ t m c l. ⊎_elim (λ before. inl (was_left t m c before)) (λ opens. inr opens) (kept (told t) m c (is_left t m c l))
    stops_in_store (prefixes_of run) kept = prefixes run kept

  -- while the medium is formed
  module _ (back : IsTrue b.tells → (m : ℕ) (x : List ℕ) → b.left new m x → n.left media' m (image_of_store x) ⊎ IsBlank (image_of_store x)) where
    pub new_in_store : leaves_within n media media' new_volume → leaves_in_store b old new new_volume
    new_in_store kept = λ t m c l. subst (λ (i : Image). images_left b old m i ⊎ OpensAsNew i) (sym l.2) (⊎_elim
        (λ is. ⊎_elim (λ before. inl (was_left t m (image_of_store l.0) before)) (λ opens. inr opens) (kept (told t) m (image_of_store l.0) is))
        (λ blank. inr (inl (none_on_blank (image_of_store l.0) blank)))
        (back t m l.0 l.1))
