-- A medium with erased pages and an empty record.
use Rattle.std.proofs.Common.{◌≡◌, ℕ, zero, suc, ◌*◌, List, [], Option, None, length, get_or, replicate, reverse, refl, sym, ◌∙◌, ap, subst, IsTrue}
use Rattle.std.proofs.lemmas.List.{length-map, length-replicate}
use Rattle.nl_field.specs.Page.{erased, Image, is_page, is_image}
use Rattle.nl_nand.specs.declared.geometry.Geometry.{Geometry}
use Rattle.nl_nand.specs.declared.cell.Cell.{Cell}
use Rattle.nl_nand.specs.declared.cell.Cell.TheVariants as cell
use Rattle.nl_nand.specs.declared.record.Entry.{Entry}
use Rattle.nl_nand.specs.Nand.{IsBlank}
use Rattle.nl_nand.specs.Record.{page_of, image_of, logged, is_history, IsCrashState}
use Rattle.nl_nand.specs.declared.interrupted.Interrupted.{Interrupted}
use Rattle.nl_nand.specs.ImageLaws.{image_from}
use Rattle.nl_nand.proofs.Cells.{at_map}

all_erased : (n p : ℕ) → page_of (get_or (replicate n cell.Erased) p cell.Erased) ≡ erased
all_erased zero p = refl
all_erased (suc n) zero = refl
all_erased (suc n) (suc p) = all_erased n p

pub blank : (g : Geometry) (cells : List Cell) (count : ℕ) → cells ≡ replicate count cell.Erased → IsBlank (image_of g cells)
blank g cells count is p = at_map cells p ∙ ap (λ l. page_of (get_or l p cell.Erased)) is ∙ all_erased count p

pub blank_image : (g : Geometry) (cells : List Cell) → cells ≡ replicate (g.blocks * g.pages) cell.Erased → IsTrue (is_image (image_of g cells))
blank_image g cells is = image_from (image_of g cells)
    (length-map cells page_of ∙ ap length is ∙ length-replicate (g.blocks * g.pages) cell.Erased)
    (λ p. ap is_page (blank g cells (g.blocks * g.pages) is p))

pub fresh_history : (entries : List Entry) (now : Image) (clock : ℕ) → entries ≡ [] → IsTrue (is_image now) → IsTrue (is_history (reverse entries) now clock)
unfolding is_history
fresh_history entries now clock none is = subst (λ h. IsTrue (is_history (reverse h) now clock)) (sym none) is

pub fresh_left : (entries : List Entry) (now : Image) (clock m : ℕ) (c : Image) → entries ≡ [] → IsCrashState (reverse entries) now clock m c → (m ≡ clock) × (c ≡ now)
unfolding IsCrashState
fresh_left entries now clock m c none l = subst (λ h. IsCrashState (reverse h) now clock m c) none l

pub begun_history : (stopped : Option Interrupted) (entries : List Entry) (now : Image) (clock : ℕ) → stopped ≡ None → entries ≡ [] → IsTrue (is_image now) → IsTrue (is_history (logged stopped clock entries) now clock)
begun_history stopped entries now clock running none is = subst (λ s. IsTrue (is_history (logged s clock entries) now clock)) (sym running) (fresh_history entries now clock none is)

pub begun_left : (stopped : Option Interrupted) (entries : List Entry) (now : Image) (clock m : ℕ) (c : Image) → stopped ≡ None → entries ≡ [] → IsCrashState (logged stopped clock entries) now clock m c → (m ≡ clock) × (c ≡ now)
begun_left stopped entries now clock m c running none l = fresh_left entries now clock m c none (subst (λ s. IsCrashState (logged s clock entries) now clock m c) running l)
