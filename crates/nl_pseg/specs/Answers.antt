-- What an answer of a read or a write says was done, and which answers are right.
use Rattle.std.specs.Prelude.{◌≡◌, ℕ, ⊤, Bool, true, false, Option, Some}
use Rattle.nl_field.specs.Page.{PageBytes, written}
use Rattle.nl_field.specs.declared.answers.Named.{Named}
use Rattle.nl_field.specs.declared.answers.Named.TheVariants as write
use Rattle.nl_field.specs.declared.answers.NamedRead.{NamedRead}
use Rattle.nl_field.specs.declared.answers.NamedRead.TheVariants as read
use Rattle.nl_field.specs.declared.pointer.Pointer.{Pointer}
use Rattle.nl_field.specs.declared.pointer.Tag.{Tag}
use Rattle.nl_pseg_pages.specs.Pages.{shown_by}
use Rattle.nl_pseg.specs.declared.held.Held.{Held}

abbrev pub IfPlaced : Named → (Pointer → Type 0) → Type 0
IfPlaced (write.Placed at) P = P at
IfPlaced write.NotLive P = ⊤
IfPlaced write.NoPage P = ⊤
IfPlaced write.Fault P = ⊤

abbrev pub IsPlaced : Named → Type 0
IsPlaced (write.Placed at) = ⊤
IsPlaced write.NotLive = ⊥
IsPlaced write.NoPage = ⊥
IsPlaced write.Fault = ⊥

abbrev pub is_placed : Named → Bool
is_placed (write.Placed at) = true
is_placed write.NotLive = false
is_placed write.NoPage = false
is_placed write.Fault = false

abbrev pub IsWriteFault : Named → Type 0
IsWriteFault answer = answer ≡ write.Fault

-- the write placed a page, or the medium failed
abbrev pub ReachedMedium : Named → Type 0
ReachedMedium (write.Placed at) = ⊤
ReachedMedium write.NotLive = ⊥
ReachedMedium write.NoPage = ⊥
ReachedMedium write.Fault = ⊤

-- where it placed a page, it named this one, under this write sequence number
abbrev pub NamesPage : ℕ → ℕ → Named → Type 0
NamesPage page stamp answer = IfPlaced answer (λ at. at ≡ record { name = page; stamp = stamp })

-- What a read answers of a page that holds this, and what the buffer then has: NotLive exactly where nothing of that number is
-- live. Done where the page read has the owner and the number that were asked for, and the live page has that owner. Lost with
-- the number that is wanted and another one that was found.
abbrev pub ReadsHeld : Option Held → Tag → ℕ → PageBytes → NamedRead → Type 0
ReadsHeld held tag stamp buf read.Done =
    (held ≡ Some (record { tag = tag; stamp = stamp })) × (shown_by (written buf) ≡ Some (tag, stamp, buf.main))
ReadsHeld held tag stamp buf read.NotLive = (h : Held) → held ≡ Some h → h.stamp ≡ stamp → ⊥
ReadsHeld held tag stamp buf (read.Lost w f) = ((h : Held) × (held ≡ Some h) × (h.stamp ≡ stamp)) × (w ≡ stamp) × (f ≡ w → ⊥)
ReadsHeld held tag stamp buf read.Fault = (h : Held) × (held ≡ Some h) × (h.stamp ≡ stamp)
