-- What an opening over a device tells of the image of its medium.
use Rattle.std.proofs.Common.{◌≡◌, ℕ, ◌<◌, ◌∙◌, List, Option, Some, option_map, sym, subst}
use Rattle.nl_field.specs.Live.{resolve}
use Rattle.nl_field.specs.Medium.{shape_of_image}
use Rattle.nl_field.specs.Page.{Image}
use Rattle.nl_field.specs.ScanList.{seen_in, virtual_seen, virtual_spare_seen}
use Rattle.nl_field.specs.Virtual.{newest}
use Rattle.nl_field.specs.declared.place.Place.{Place}
use Rattle.nl_field.specs.declared.pointer.Pointer.{Pointer}
use Rattle.nl_field.specs.declared.shape.Shape.{Shape}
use Rattle.nl_field.specs.declared.super_page.SuperRec.{SuperRec}
use Rattle.nl_field.proofs.ScanLists.{lists_tell}
use Rattle.nl_device.specs.Kept.{kept_of_scan}
use Rattle.nl_device.specs.Retain.{kept_of, retained_at}
use Rattle.nl_device.specs.declared.device.Device.{Device}
use Rattle.nl_iface.specs.Calls.{OnlyReads}
use Rattle.nl_iface.specs.Moves.{Retains}
use Rattle.nl_iface.specs.Names.{Has, LivePage, Names}
use Rattle.nl_iface.specs.Stored.{value_on}
use Rattle.nl_iface.specs.declared.counts.Counts.{Ghosts}
use Rattle.nl_meta.specs.Committed.{committed, committed_of}
use Rattle.nl_meta.specs.Nodes.{super_of_pages}
use Rattle.nl_meta.specs.Walk.{walk, walk_over}
use Rattle.nl_meta_running.specs.Running.{stored_on}
use Rattle.nl_scan.specs.Tables.{ScanTable}
use Rattle.nl_recover.specs.Recovering.{IsWalked}
use Rattle.nl_recover.specs.declared.opening.Walked.{Walked}
use Rattle.nl_core_open.proofs.Imaged.{counted, kept_are, walk_is}
use Rattle.nl_map_pages.specs.Judging.{IsLiveBy, IsLiveOf}
use Rattle.nl_map_pages.specs.Marks.{place_on}
use Rattle.nl_map_pages.specs.declared.judge.Live.{Live}
use Rattle.nl_map.proofs.Places.{kept_on, placed_is, places_are, pointers_on, stamps_are}

module _ {M : Type 0} (g : Ghosts (Device M)) (s d : Device M) (image : Image) (shape : Shape) (t : ScanTable) (tells : g.tells) (shape_is : shape ≡ g.shape s) (on_image : shape ≡ shape_of_image image)
    (map : (v : ℕ) → v < shape.vaddrs → g.map s v ≡ option_map value_on (newest image v)) (listed : t.seen ≡ seen_in image) where
  same : g.shape s ≡ shape_of_image image
  same = sym shape_is ∙ on_image

  map_is : (v : ℕ) → v < (g.shape s).vaddrs → g.map s v ≡ option_map value_on (newest image v)
  map_is v below = map v (subst (λ (h : Shape). v < h.vaddrs) (sym shape_is) below)

  -- the walk over the device is the walk over the image
  pub first_is : (o : Option Place) → walk_over shape (committed shape (stored_on g s)) t.seen ≡ o → walk image ≡ o
  first_is o is = sym (walk_is g s d image t tells same map_is listed) ∙ subst (λ (h : Shape). walk_over h (committed h (stored_on g s)) t.seen ≡ o) shape_is is

  module _ (w : Walked) (reads : OnlyReads g s d) (walked : IsWalked g d t.seen w) where
    pub count_is : (rec : SuperRec) × (super_of_pages (committed_of image) ≡ Some rec) × (rec.count ≡ w.count)
    count_is = counted g s d image t tells same map_is listed w reads walked

    pointers_are : w.kept.items ≡ pointers_on image
    pointers_are = kept_are g s d image t tells same map_is listed w reads walked

    module _ (live : Live) (found : List (ℕ × LivePage)) (names : Names) (kept : kept_of d ≡ kept_of_scan shape t.seen) (retains : Retains w.kept.items (retained_at (kept_of d) w.kept.items) found names)
        (by : IsLiveBy shape t.seen (λ p. resolve names.pairs p.name) w.kept.items live) where
      kept_is : kept_of d ≡ kept_on image
      kept_is = kept ∙ (λ i. kept_of_scan (on_image i) (listed i))

      leads : (p : Pointer) → Has w.kept.items p → resolve names.pairs p.name ≡ place_on image p
      leads p has = retains.ways p has ∙ (λ i. retained_at (kept_is i) (pointers_are i) p) ∙ placed_is image p

      spare_seen : live.spare ≡ virtual_spare_seen shape t.seen
      unfolding virtual_spare_seen
      spare_seen = by.spare

      pub live_is : IsLiveOf image live
      live_is = record {
        shape_is = by.shape_is ∙ on_image;
        virtuals = by.virtuals ∙ (λ i. virtual_seen (on_image i) (listed i));
        spare = spare_seen ∙ (λ i. virtual_spare_seen (on_image i) (listed i)) ∙ (lists_tell image).virtual_spare;
        places = λ page. by.places page ∙ places_are image (λ p. resolve names.pairs p.name) w.kept.items pointers_are leads page;
        stamps = λ stamp. by.stamps stamp ∙ stamps_are image w.kept.items pointers_are stamp;
      }
