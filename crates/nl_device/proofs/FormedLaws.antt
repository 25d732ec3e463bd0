-- What is seen of a formed device tells of its callbacks and of what it keeps.
use Rattle.std.proofs.Common.{◌≡◌, ℕ, zero, List, [], ◌∷◌, map, refl, sym, ap, ◌∙◌, arith}
use Rattle.std.specs.Prelude.{Contains}
use Rattle.nl_field.specs.declared.shape.Shape.{Shape}
use Rattle.nl_iface.specs.Names.{Has, LivePage}
use Rattle.nl_iface.specs.declared.Callback.{Callback}
use Rattle.nl_device.specs.Callbacks.{AreCalled, callbacks_of}
use Rattle.nl_device.specs.Device.{HasFound}
use Rattle.nl_device.specs.Kept.{KeptPages}
use Rattle.nl_device.specs.Shown.{found_by_number, found_on}
use Rattle.nl_device.specs.declared.kept.page.KeptPage.{KeptPage}
use Rattle.nl_callbacks.specs.Pending.{PendingTable}
use Rattle.nl_pseg.specs.Segment.{Physical}

none_contained : (pairs : List (ℕ × ℕ)) → ((name target : ℕ) → Contains pairs (name, target) → ⊥) → pairs ≡ []
none_contained [] none = refl
none_contained (x ∷ xs) none = absurd (none x.0 x.1 (zero, omega arith, refl))

-- each old name has a callback
pub no_pairs : (pseg : Physical) (t : PendingTable) → AreCalled pseg t → ((c : Callback) → Has (callbacks_of t.callbacks) c → ⊥) → pseg.pairs ≡ []
no_pairs pseg t called none = none_contained pseg.pairs (λ name target has. let k = called.each name (target, has) in none k.0 k.1)

-- a page by its number and what was found on it
abbrev page_back : ℕ × LivePage → KeptPage
page_back x = record { page = x.0; stamp = x.1.stamp; tag = x.1.tag }

pages_back : (ks : List KeptPage) → map page_back (map (λ (k : KeptPage). (k.page, found_on k)) ks) ≡ ks
pages_back [] = refl
pages_back (k ∷ ks) = ap (λ (xs : List KeptPage). k ∷ xs) (pages_back ks)

pub same_kept : (shape : Shape) (old new : KeptPages) (next later : ℕ) → HasFound shape old next → HasFound shape new later → found_by_number new ≡ found_by_number old → new ≡ old
same_kept shape old new next later a b same =
    let pages : new.pages ≡ old.pages = sym (pages_back new.pages) ∙ ap (λ (xs : List (ℕ × LivePage)). map page_back xs) same ∙ pages_back old.pages in
    λ i. record { first = (b.first ∙ sym a.first) i; count = (b.count ∙ sym a.count) i; size = (b.size ∙ sym a.size) i; pages = pages i }
