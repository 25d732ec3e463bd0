-- A volume opens on a medium.
use Rattle.std.proofs.Common.{◌≡◌, ◌+◌, Some, sym, subst, ◌∙◌, Result, Ok, Err}
use Rattle.std.specs.Prelude.{IfOk}
use Rattle.nl_field.specs.Medium.{shape_of_image}
use Rattle.nl_field.specs.Page.{Image}
use Rattle.nl_field.specs.Virtual.{virtual_bytes}
use Rattle.nl_field.specs.declared.place.Place.{Place}
use Rattle.nl_iface.specs.declared.counts.Counts.{Ghosts}
use Rattle.nl_meta.specs.Committed.{next_number}
use Rattle.nl_meta.specs.Walk.{walk}
use Rattle.nl_core.specs.Core.{begun_of}
use Rattle.nl_core.specs.declared.state.Core.{Core}
use Rattle.nl_spec_image.specs.Stands.{IsConsistentImage}
use Rattle.nl_spec_image.proofs.SoundProofs.{walk_finds_consistency}
use Rattle.nl_volume.specs.Opened.{VolumeOpensAs, OpensOn}

-- a volume that opened on a medium opened on each medium that has the same contents
pub opens_on_same : {D : Type 0} (g : Ghosts D) (image image' : Image) (v : Core D) → (g.tells → image' ≡ image) → OpensOn g image v → OpensOn g image' v
opens_on_same g image image' v same o = record {
  tree = o.tree;
  opens = λ t. subst (λ (i : Image). VolumeOpensAs g i v o.tree) (sym (same t)) (o.opens t);
  number = λ t. subst (λ (i : Image). begun_of v + 1 ≡ next_number (shape_of_image i) (virtual_bytes i)) (sym (same t)) (o.number t);
  few = o.few;
  spelled = o.spelled;
}

-- a walk that finds a fault finds an image that is not sound
pub not_sound : (image : Image) (place : Place) → walk image ≡ Some place → IsConsistentImage image → ⊥
not_sound image place fault s = cc (sym ((walk_finds_consistency image s.2.stands.pages_whole).1 s) ∙ fault)

pub both_ok : {T E : Type 0} (r : Result T E) (P Q R : T → Type 0) → ((x : T) → P x → Q x → R x) → IfOk r P → IfOk r Q → IfOk r R
both_ok (Ok x) P Q R to p q = to x p q
both_ok (Err e) P Q R to p q = tt
