-- Answers of different kinds differ.
use Rattle.std.proofs.Common.{◌≡◌, ℕ, sym, ◌∙◌}
use Rattle.nl_field.specs.declared.answers.Named.TheVariants as named
use Rattle.nl_field.specs.declared.answers.NamedRead.TheVariants as read
use Rattle.nl_field.specs.declared.pointer.Pointer.{Pointer}
use Rattle.nl_field.specs.declared.pointer.Tag.{Tag}
use Rattle.nl_nand.specs.declared.answers.WriteAnswer.TheVariants as wrote
use Rattle.nl_pseg.specs.declared.cleaned.Copied.TheVariants as copy
use Rattle.nl_pseg.specs.declared.cleaned.Erasure.TheVariants as erase

pub wrote_done_failed : wrote.Done ≡ wrote.Failed → ⊥
wrote_done_failed e = cc e

pub wrote_failed_done : wrote.Failed ≡ wrote.Done → ⊥
wrote_failed_done e = cc e

pub read_done_fault : read.Done ≡ read.Fault → ⊥
read_done_fault e = cc e

pub read_fault_done : read.Fault ≡ read.Done → ⊥
read_fault_done e = cc e

pub read_not_live_done : read.NotLive ≡ read.Done → ⊥
read_not_live_done e = cc e

pub read_not_live_fault : read.NotLive ≡ read.Fault → ⊥
read_not_live_fault e = cc e

pub read_lost_done : {w f : ℕ} → read.Lost w f ≡ read.Done → ⊥
read_lost_done e = cc e

pub read_lost_fault : {w f : ℕ} → read.Lost w f ≡ read.Fault → ⊥
read_lost_fault e = cc e

pub not_live_fault : named.NotLive ≡ named.Fault → ⊥
not_live_fault e = cc e

pub no_page_fault : named.NoPage ≡ named.Fault → ⊥
no_page_fault e = cc e

pub no_page_not_live : named.NoPage ≡ named.NotLive → ⊥
no_page_not_live e = cc e

pub fault_not_live : named.Fault ≡ named.NotLive → ⊥
fault_not_live e = cc e

pub fault_no_page : named.Fault ≡ named.NoPage → ⊥
fault_no_page e = cc e

pub placed_not_live : {at : Pointer} → named.Placed at ≡ named.NotLive → ⊥
placed_not_live e = cc e

pub placed_no_page : {at : Pointer} → named.Placed at ≡ named.NoPage → ⊥
placed_no_page e = cc e

pub lost_nothing : {w f : ℕ} → copy.Lost w f ≡ copy.Nothing → ⊥
lost_nothing e = cc e

pub fault_nothing : copy.Fault ≡ copy.Nothing → ⊥
fault_nothing e = cc e

pub fault_lost : {w f : ℕ} → copy.Fault ≡ copy.Lost w f → ⊥
fault_lost e = cc e

pub nothing_lost : {w f : ℕ} → copy.Nothing ≡ copy.Lost w f → ⊥
nothing_lost e = cc e

pub moved_fault : {before after stamp : ℕ} {tag : Tag} → copy.Moved before after tag stamp ≡ copy.Fault → ⊥
moved_fault e = cc e

-- what a page that was lost says
pub lost_as : {a b w f held : ℕ} → copy.Lost a b ≡ copy.Lost w f → (a ≡ held) × (b ≡ held → ⊥) → (f ≡ w → ⊥) × (held ≡ w)
lost_as {a} {b} {w} {f} {held} e l =
    let wanted : a ≡ w = cc e in
    let found : b ≡ f = cc e in
    (λ same. l.1 (found ∙ (same ∙ (sym wanted ∙ l.0))), sym l.0 ∙ wanted)

pub erase_nothing_done : erase.Nothing ≡ erase.Done → ⊥
erase_nothing_done e = cc e

pub erase_nothing_fault : erase.Nothing ≡ erase.Fault → ⊥
erase_nothing_fault e = cc e

pub erase_fault_done : erase.Fault ≡ erase.Done → ⊥
erase_fault_done e = cc e

pub erase_fault_nothing : erase.Fault ≡ erase.Nothing → ⊥
erase_fault_nothing e = cc e

pub erase_done_nothing : erase.Done ≡ erase.Nothing → ⊥
erase_done_nothing e = cc e

pub erase_done_fault : erase.Done ≡ erase.Fault → ⊥
erase_done_fault e = cc e
