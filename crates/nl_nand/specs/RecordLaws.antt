-- The laws of the record of a medium: what a crash may have left by it is an image, at no later moment.
use Rattle.std.proofs.Common.{◌≡◌, ◌⊎◌, inl, inr, ⊎_elim, ℕ, ◌≤◌, List, [], ◌∷◌, ◌==◌, Bool, true, false, ◌&&◌, ◌||◌, nat_le, refl, ◌∙◌, ap, IsTrue, le_trans, le_of_eq, rules}
use Rattle.nl_field.specs.Page.{Image, is_page, is_image}
use Rattle.nl_field.specs.Numbers.{is_legal}
use Rattle.nl_nand.specs.Nand.{IsLegal, ImageOf}
use Rattle.nl_nand.specs.Record.{IsCrashState, is_geometry, is_history, moment_of, value_in, undone}
use Rattle.nl_nand.specs.declared.geometry.Geometry.{Geometry}
use Rattle.nl_nand.specs.declared.record.Entry.{Entry}
use Rattle.nl_nand.specs.declared.record.Entry.TheVariants as entry
use Rattle.nl_nand.specs.ImageLaws.{cut_fits}

-- a record that a medium may have, as a fact and not as a test
abbrev pub IsHistory : List Entry → Image → ℕ → Type 0
IsHistory [] now clock = IsTrue (is_image now)
IsHistory (e ∷ older) now clock =
    IsTrue (is_image now) × IsTrue (is_page (value_in e now)) × (moment_of e ≤ clock) × IsHistory older (undone e now) (moment_of e)

both : (a b : Bool) → IsTrue a → IsTrue b → IsTrue (a && b)
both a b h k = search rules

first : (a b : Bool) → IsTrue (a && b) → IsTrue a
first a b h = search rules

second : (a b : Bool) → IsTrue (a && b) → IsTrue b
second a b h = search rules

pub history_from : (h : List Entry) (now : Image) (clock : ℕ) → IsHistory h now clock → IsTrue (is_history h now clock)
unfolding is_history
history_from [] now clock is = is
history_from (e ∷ older) now clock is =
    let order : IsTrue (nat_le (moment_of e) clock) = let le = is.2 in search rules in
    both (is_image now && is_page (value_in e now) && nat_le (moment_of e) clock) (is_history older (undone e now) (moment_of e))
    (both (is_image now && is_page (value_in e now)) (nat_le (moment_of e) clock)
    (both (is_image now) (is_page (value_in e now)) is.0 is.1) order)
    (history_from older (undone e now) (moment_of e) is.3)

order_from : (a b : ℕ) → IsTrue (nat_le a b) → a ≤ b
order_from a b le = search rules

pub history_is : (h : List Entry) (now : Image) (clock : ℕ) → IsTrue (is_history h now clock) → IsHistory h now clock
unfolding is_history
history_is [] now clock is = is
history_is (e ∷ older) now clock is =
    let three = first (is_image now && is_page (value_in e now) && nat_le (moment_of e) clock)
    (is_history older (undone e now) (moment_of e)) is in
    let two = first (is_image now && is_page (value_in e now)) (nat_le (moment_of e) clock) three in (
      first (is_image now) (is_page (value_in e now)) two,
      second (is_image now) (is_page (value_in e now)) two,
      order_from (moment_of e) clock (second (is_image now && is_page (value_in e now)) (nat_le (moment_of e) clock) three),
      history_is older (undone e now) (moment_of e)
          (second (is_image now && is_page (value_in e now) && nat_le (moment_of e) clock)
          (is_history older (undone e now) (moment_of e)) is),
    )

-- what there is now
pub now_left : (h : List Entry) (now : Image) (clock : ℕ) → IsCrashState h now clock clock now
unfolding IsCrashState
now_left [] now clock = (refl, refl)
now_left (e ∷ h) now clock = inl (refl, refl)

pub history_now : (h : List Entry) (now : Image) (clock : ℕ) → IsHistory h now clock → IsTrue (is_image now)
history_now [] now clock history = history
history_now (e ∷ h) now clock history = history.0

pub no_later : (h : List Entry) (now : Image) (clock m : ℕ) (c : Image) → IsHistory h now clock → IsCrashState h now clock m c → m ≤ clock
unfolding IsCrashState
no_later [] now clock m c history l = le_of_eq l.0
no_later (e ∷ older) now clock m c history (inl here) = le_of_eq here.0
no_later (e ∷ older) now clock m c history (inr (inl cut)) = le_trans (le_of_eq cut.0) history.2
no_later (e ∷ older) now clock m c history (inr (inr past)) =
    le_trans (no_later older (undone e now) (moment_of e) m c history.3 past) history.2

undone_blocks : (e : Entry) (now : Image) → (undone e now).blocks ≡ now.blocks
undone_blocks (entry.Programmed page moment) now = refl
undone_blocks (entry.Erased low cells moment) now = refl
undone_blocks (entry.Failed tried moment) now = refl

undone_pages : (e : Entry) (now : Image) → (undone e now).pages ≡ now.pages
undone_pages (entry.Programmed page moment) now = refl
undone_pages (entry.Erased low cells moment) now = refl
undone_pages (entry.Failed tried moment) now = refl

pub left_fits : (g : Geometry) (h : List Entry) (now : Image) (clock m : ℕ) (c : Image) → now.blocks ≡ g.blocks
    → now.pages ≡ g.pages → IsHistory h now clock → IsCrashState h now clock m c
    → ImageOf g c
unfolding IsCrashState
left_fits g [] now clock m c blocks pages history l =
    record {
      blocks = ap (λ (i : Image). i.blocks) l.1 ∙ blocks;
      pages = ap (λ (i : Image). i.pages) l.1 ∙ pages;
      whole = ap is_image l.1 ∙ history;
    }
left_fits g (e ∷ older) now clock m c blocks pages history (inl here) =
    record {
      blocks = ap (λ (i : Image). i.blocks) here.1 ∙ blocks;
      pages = ap (λ (i : Image). i.pages) here.1 ∙ pages;
      whole = ap is_image here.1 ∙ history.0;
    }
left_fits g (e ∷ older) now clock m c blocks pages history (inr (inl cut)) = record {
  blocks = cut.1.shape.same_blocks ∙ undone_blocks e now ∙ blocks;
  pages = cut.1.shape.same_pages ∙ undone_pages e now ∙ pages;
  whole = cut_fits cut.1 history.1 (history_now older (undone e now) (moment_of e) history.3);
}
left_fits g (e ∷ older) now clock m c blocks pages history (inr (inr past)) =
    left_fits g older (undone e now) (moment_of e) m c (undone_blocks e now ∙ blocks) (undone_pages e now ∙ pages) history.3 past

or_cases : (a b : Bool) → IsTrue (a || b) → IsTrue a ⊎ IsTrue b
or_cases true b h = inl refl
or_cases false b h = inr h

both_zero : (g : Geometry) → IsTrue (g.blocks == 0 && g.pages == 0) → g ≡ record { blocks = 0; pages = 0 }
both_zero g h =
    let blocks : g.blocks ≡ 0 = search rules in
    let pages : g.pages ≡ 0 = search rules in
    λ i. record { blocks = blocks i; pages = pages i }

pub legal : (g : Geometry) → IsTrue (is_geometry g) → IsLegal g
legal g is = ⊎_elim (λ h. inl h) (λ h. inr (both_zero g h)) (or_cases (is_legal g.blocks g.pages) (g.blocks == 0 && g.pages == 0) is)

pub not_later : (h : List Entry) (now : Image) (clock m : ℕ) (c : Image) → IsTrue (is_history h now clock) → IsCrashState h now clock m c → m ≤ clock
not_later h now clock m c history l = no_later h now clock m c (history_is h now clock history) l

pub now_fits : (g : Geometry) (h : List Entry) (now : Image) (clock : ℕ) → now.blocks ≡ g.blocks → now.pages ≡ g.pages
    → IsTrue (is_history h now clock) → ImageOf g now
now_fits g h now clock blocks pages history =
    record { blocks = blocks; pages = pages; whole = history_now h now clock (history_is h now clock history) }

pub all_fit : (g : Geometry) (h : List Entry) (now : Image) (clock m : ℕ) (c : Image) → now.blocks ≡ g.blocks → now.pages ≡ g.pages
    → IsTrue (is_history h now clock) → IsCrashState h now clock m c
    → ImageOf g c
all_fit g h now clock m c blocks pages history l = left_fits g h now clock m c blocks pages (history_is h now clock history) l
