-- The segments after a scan.
use Rattle.std.proofs.Common.{◌≡◌, inl, inr, ℕ, suc, ◌+◌, ◌-◌, ◌*◌, ◌<◌, ◌≤◌, ◌∙◌, List, [], ◌∷◌, Option, Some, None, sym, ap, subst, arith, IsTrue}
use Rattle.std.specs.Prelude.{All, IfSome, filter}
use Rattle.nl_field.specs.Spelling.{is_stamp}
use Rattle.nl_field.specs.declared.shape.Shape.{Shape}
use Rattle.nl_scan.specs.Tables.{IsSeen, ScanTable}
use Rattle.nl_field.specs.declared.seen.Seen.{Seen}
use Rattle.nl_vseg.proofs.Members.{In}
use Rattle.nl_device.specs.Opening.{CanLoadAddress, FitsShape, Tabulates, greatest_of, is_newest, needed_of, newest_of, owns_of, pick_of}
use Rattle.nl_device.specs.declared.opening.own.Own.{Own}
use Rattle.nl_device.proofs.Owns.{needed_in, newest_filter, owns_is}
use Rattle.nl_device.proofs.Picks.{pick_in}

pub all_of : {X : Type 0} (P : X → Type 0) (xs : List X) (x : X) → All P xs → In x xs → P x
all_of P [] x all is = absurd is
all_of P (y ∷ ys) x all (inl same) = subst P same (all 0 y (omega arith))
all_of P (y ∷ ys) x all (inr rest) = all_of P ys x (λ k d below. all (suc k) d (omega (arith, below))) rest

pub needed_is : (shape : Shape) (seen : List Seen) (owns needed : List Own) (greatest : List ℕ) → owns ≡ owns_of shape seen → Tabulates shape.vaddrs 0 (greatest_of owns) greatest → needed ≡ filter (is_newest greatest) owns → needed ≡ needed_of shape seen
needed_is shape seen owns needed greatest e t is =
    is ∙ (newest_filter greatest owns (λ o there. t.each o.vaddr (owns_is shape seen o (subst (In o) e there)).3.below) ∙ ap newest_of e)

-- the page of the address is one that can be loaded
pub can_load : (shape : Shape) (t : ScanTable) → FitsShape shape t → (v : ℕ) (o : Own) → In o (needed_of shape t.seen) → CanLoadAddress (shape.vblocks * shape.pages) v o
can_load shape t fits v o is =
    let s = owns_is shape t.seen o (needed_in (owns_of shape t.seen) o is).0 in
    let spelled = (all_of (IsSeen (shape.blocks * shape.pages)) t.seen s.0 fits.pages s.1).spelled in
    record {
      within = subst (λ n. n < shape.vblocks * shape.pages) (sym s.3.same_page) s.2;
      spelled = subst (λ n. IsTrue (is_stamp n)) (sym s.3.same_stamp) spelled;
    }

pub loads : (shape : Shape) (t : ScanTable) → FitsShape shape t → (size : ℕ) (spare : Option ℕ) (needed : List Own) (v bound : ℕ) → needed ≡ needed_of shape t.seen → bound ≡ shape.vblocks * shape.pages → (o : Option Own) → pick_of size spare needed v ≡ o → IfSome o (CanLoadAddress bound v)
loads shape t fits size spare needed v bound e b None is = tt
loads shape t fits size spare needed v bound e b (Some o) is = subst (λ n. CanLoadAddress n v o) (sym b) (can_load shape t fits v o (subst (In o) e (pick_in size spare needed v o is).0))

-- no page is left where the room is that of all blocks but one
pub none_left : (left free size pblocks pages : ℕ) → free ≡ pblocks → size ≡ pages → 1 ≤ pblocks → left + (free - 1) * size + pages ≡ pblocks * pages → left ≡ 0
none_left left free size pblocks pages f s some room =
    let k = pblocks - 1 in
    let e : pblocks ≡ k + 1 = omega (arith, some) in
    let all : pblocks * pages ≡ (k + 1) * pages = ap (λ n. n * pages) e in
    let spread : (k + 1) * pages ≡ k * pages + pages = omega arith in
    let same : (free - 1) * size ≡ k * pages = (λ i. (f i - 1) * s i) in
    omega (arith, room, all, spread, same)
