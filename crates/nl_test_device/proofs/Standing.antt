-- A volume between two commits.
use Rattle.std.proofs.Common.{◌≡◌, ◌≢◌, ℕ, suc, ◌+◌, ◌≤◌, ◌<◌, Bool, true, false, ◌==◌, ◌&&◌, nat_lt, List, [], ◌∷◌, length, Option, None, refl, sym, ap, ◌∙◌, subst, inl, inr, arith}
use Rattle.std.specs.List.{list_all, list_any}
use Rattle.std.proofs.lemmas.Bool.{le-leb, lt-ltb, ne_eqb}
use Rattle.std.proofs.lemmas.List.{length-replicate}
use Rattle.nl_field.specs.Numbers.{shape_for}
use Rattle.nl_field.specs.Virtual.{is_inode_address}
use Rattle.nl_field.specs.declared.seen.Seen.{Seen}
use Rattle.nl_field.specs.declared.shape.Shape.{Shape}
use Rattle.nl_iface.specs.Calls.{KeepsVirtual}
use Rattle.nl_iface.specs.Device.{IsVolumeShape}
use Rattle.nl_iface.specs.Stored.{NoneFailed}
use Rattle.nl_iface.specs.declared.counts.Counts.{Ghosts}
use Rattle.nl_meta.specs.Committed.{counting, next_number}
use Rattle.nl_meta.specs.Pages.{Frozen, IsPages, Pages, dirty_pages, is_dirty, no_pages, with_address}
use Rattle.nl_journal.specs.Outcomes.{bytes_of}
use Rattle.nl_journal.specs.Opening.{Opened}
use Rattle.nl_journal.specs.Progress.{IsPhase, Progress}
use Rattle.nl_journal.specs.Standing.{JournalInOrder}
use Rattle.nl_journal.specs.Transaction.{IsTransaction}
use Rattle.nl_journal.specs.declared.answers.Phase.{Phase}
use Rattle.nl_journal.specs.declared.answers.Phase.TheVariants.{Header}
use Rattle.nl_journal.proofs.DirtyPages.{dirty_transaction}
use Rattle.nl_journal.proofs.InOrders.{stays}
use Rattle.nl_journal.proofs.Openings.{opens_in_order}

-- no page was seen, so all agree
pub none-agree : (seen : List Seen) → length seen ≡ 0 → list_all (λ s. s.agrees) seen ≡ true
none-agree [] e = refl
none-agree (s ∷ seen) e = absurd (some e)
  where
    some : suc (length seen) ≡ 0 → ⊥
    some e = omega arith

pub least-volume : (shape : Shape) → shape ≡ shape_for 32 32 → IsVolumeShape shape
unfolding shape_for
least-volume shape is = subst IsVolumeShape (sym is) (record { legal = refl; numbers = refl })

pub least-addresses : (shape : Shape) → shape ≡ shape_for 32 32 → shape.vaddrs ≡ 103
unfolding shape_for
least-addresses shape is = ap (λ (s : Shape). s.vaddrs) is

-- ---- the dirty pages

abbrev pub five : List ℕ
five = 0 ∷ 67 ∷ 68 ∷ 71 ∷ 102 ∷ []

pub five-rise : with_address 102 (with_address 71 (with_address 68 (with_address 67 (with_address 0 [])))) ≡ five
unfolding with_address
five-rise = refl

none-between : (v : ℕ) → 1 ≤ v → v < 67 → list_any (λ a. a == v) five ≡ false
none-between v low high =
    λ i. list_any (λ (b : Bool). b) (off 0 (omega (arith, low)) i ∷ off 67 (omega (arith, high)) i ∷ off 68 (omega (arith, high)) i ∷ off 71 (omega (arith, high)) i ∷ off 102 (omega (arith, high)) i ∷ [])
  where
    off : (a : ℕ) → a ≢ v → (a == v) ≡ false
    off a far = ne_eqb a v far

pub five-transaction : (pages : Pages) → IsPages pages → length pages.running ≡ 103 → pages.dirty ≡ five → IsTransaction 103 (dirty_pages pages)
five-transaction pages is count dirty =
    subst (λ (n : ℕ). IsTransaction n (dirty_pages pages)) count
    (dirty_transaction pages is (ap (λ (xs : List ℕ). list_any (λ a. a == 0) xs) dirty) (λ v low high. ap (λ (xs : List ℕ). list_any (λ a. a == v) xs) dirty ∙ none-between v low high))

-- ---- before the first transaction

pub begun-order : {D : Type 0} (g : Ghosts D) (s t : D) (p : Progress) (frozen : Frozen) → g.shape s ≡ shape_for 32 32 → NoneFailed (g.shape s).vaddrs (g.failed s)
    → p.phase ≡ Header → frozen.addresses ≡ []
    → (g.tells → counting (g.shape s) (bytes_of (g.map s)) ≡ None) → (g.tells → p.number + 1 ≡ next_number (g.shape t) (bytes_of (g.map t))) → KeepsVirtual g s t → JournalInOrder g t p frozen
begun-order g s t p frozen numbers none header empty nothing number keeps =
    let volume = least-volume (g.shape s) numbers in
    (stays g s t p frozen volume
    (opens_in_order g s p frozen volume
    (subst (λ (f : Phase). IsPhase f (length frozen.addresses)) (sym header) tt)
    (λ some. absurd (less some))
    (λ tells. (none, subst (λ (f : Phase). Opened f (g.shape s) (bytes_of (g.map s)) p.number frozen) (sym header) (nothing tells, number tells ∙ same tells))))
    keeps).0
  where
    less : 1 ≤ length frozen.addresses → ⊥
    less h = let e = ap length empty in omega (arith, h, e)

    same : g.tells → next_number (g.shape t) (bytes_of (g.map t)) ≡ next_number (g.shape s) (bytes_of (g.map s))
    same tells = λ i. next_number (keeps.same_shape i) (bytes_of (λ (u : ℕ). keeps.same_map tells u i))

pub least-inodes : (shape : Shape) → shape ≡ shape_for 32 32 → (v : ℕ) → 67 ≤ v → v < 71 → is_inode_address shape v ≡ true
unfolding shape_for
least-inodes shape is v low high =
    let e : shape.inode_pages ≡ 4 = ap (λ (s : Shape). s.inode_pages) is in
    ap (λ b. b && nat_lt v (67 + shape.inode_pages)) (le-leb 67 v low) ∙ lt-ltb v (67 + shape.inode_pages) (omega (arith, high, e))

-- ---- no page is resident yet

pub none-frozen : (n : ℕ) → (no_pages n).frozen.addresses ≡ []
unfolding no_pages
none-frozen n = refl

pub none-dirty : (n : ℕ) → (no_pages n).dirty ≡ []
unfolding no_pages
none-dirty n = refl

pub none-count : (n : ℕ) → length (no_pages n).running ≡ n
unfolding no_pages
none-count n = length-replicate {A = Option (List ℕ)} n None
