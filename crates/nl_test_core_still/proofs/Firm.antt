-- What a memory stores can be opened, and the numbers of the least volume.
use Rattle.std.proofs.Common.{◌≡◌, refl, sym, ap, subst, ◌∙◌}
use Rattle.std.proofs.lemmas.Option.{same_Some}
use Rattle.nl_field.specs.Numbers.{shape_for}
use Rattle.nl_field.specs.declared.shape.Shape.{Shape}
use Rattle.nl_iface.specs.Device.{IsVolumeShape}
use Rattle.nl_iface.specs.Stored.{NamedAgree, NamedPage}
use Rattle.nl_testkit_still.specs.Laws.{holds_live, leaves_pages, named_below, was_some}
use Rattle.nl_testkit_still.specs.Stands.{IsStill}
use Rattle.nl_testkit_still.specs.Still.{bytes_at, holding, label_at, named_at, stored_in}
use Rattle.nl_testkit_still.specs.contracts.counts.StillCounts.TheImpl.{ghosts}
use Rattle.nl_testkit_still.specs.declared.still.Still.{Still}
use Rattle.nl_core_new.specs.Idle.{IsAlwaysFirm}

-- pages of one stamp are one page
agree : (s : Still) → IsStill s → NamedAgree (stored_in s)
agree s f p q a b is_a is_b same =
    let x = was_some (holding (bytes_at s.pages.items p)) (label_at s.labels.items p) a is_a in
    let y = was_some (holding (bytes_at s.pages.items q)) (label_at s.labels.items q) b is_b in
    let one : p ≡ q = f.differ p q x.0 y.0 x.1 y.1 (ap (λ (n : NamedPage). n.stamp) x.2 ∙ (same ∙ sym (ap (λ (n : NamedPage). n.stamp) y.2))) in
    same_Some a b (sym is_a ∙ (ap (λ n. named_at s.labels.items s.pages.items n) one ∙ is_b))

pub always_firm : IsAlwaysFirm ghosts
always_firm s tells formed = record {
  firm = refl;
  none_failed = λ v x below no. no;
  pages = record { holds = holds_live s formed; pages = leaves_pages s formed; named_below = named_below s formed };
  agree = agree s formed;
}

-- the numbers of the least volume
pub least : (h : Shape) → h ≡ shape_for 32 32 → IsVolumeShape h
unfolding shape_for
least h is = subst IsVolumeShape (sym is) (record { legal = refl; numbers = refl })
