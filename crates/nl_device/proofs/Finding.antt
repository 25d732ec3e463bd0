-- What a read that is lost found.
use Rattle.std.proofs.Common.{◌≡◌, ◌⊎◌, inl, inr, ℕ, ◌∙◌, List, Option, Some, None, refl, sym, ap, subst}
use Rattle.std.proofs.lemmas.Option.{none-some, same_Some}
use Rattle.nl_field.specs.Page.{Page, PageBytes, erased, uncorrectable, written}
use Rattle.nl_field.specs.SpareRecord.{spare_rec_of}
use Rattle.nl_field.specs.declared.answers.NamedRead.{NamedRead}
use Rattle.nl_field.specs.declared.answers.NamedRead.TheVariants as named_read
use Rattle.nl_field.specs.declared.answers.VirtualRead.{VirtualRead}
use Rattle.nl_field.specs.declared.answers.VirtualRead.TheVariants as read
use Rattle.nl_field.specs.declared.pointer.Tag.{Tag}
use Rattle.nl_field.specs.declared.spare.SpareRec.{SpareRec}
use Rattle.nl_field.specs.declared.spare.SpareRec.TheVariants.{Virtual, Physical}
use Rattle.nl_iface.specs.Found.{FindsPage, FindsStamp, FindsUnderTag, stamp_in}
use Rattle.nl_iface.specs.Names.{has_tag}
use Rattle.nl_iface.specs.Stored.{NamedPage}
use Rattle.nl_pseg.specs.Answers.{ReadsHeld}
use Rattle.nl_pseg.specs.Pages.{Shown, TellsFound, shown_by, shown_with, stamp_at, stamp_found, stamp_in as named_stamp}
use Rattle.nl_pseg.specs.declared.held.Held.{Held}
use Rattle.nl_vseg.specs.Answers.{TellsStampFound as TellsStamp}
use Rattle.nl_vseg.specs.Pages.{stamp_in as virtual_stamp}
use Rattle.nl_device.specs.Shown.{live_page}
use Rattle.nl_device.proofs.NamedReads.{reads_told}

virtual_is : (o : Option SpareRec) → virtual_stamp o ≡ stamp_in o
virtual_is None = refl
virtual_is (Some rec) = refl

named_is : (o : Option SpareRec) → named_stamp o ≡ stamp_in o
named_is None = refl
named_is (Some rec) = refl

pub finds_stamp : (buf : PageBytes) (answer : VirtualRead) → TellsStamp buf answer → FindsStamp buf answer
finds_stamp buf read.Done told = tt
finds_stamp buf read.Unmapped told = tt
finds_stamp buf (read.Lost w f) (inl none) = inl none
finds_stamp buf (read.Lost w f) (inr is) = inr (is ∙ virtual_is (spare_rec_of buf.spare))
finds_stamp buf read.Fault told = tt

pub finds_page : (buf : PageBytes) (answer : NamedRead) → TellsFound (stamp_found buf) answer → FindsPage buf answer
finds_page buf named_read.Done told = tt
finds_page buf named_read.NotLive told = tt
finds_page buf (named_read.Lost w f) (inl none) = inl none
finds_page buf (named_read.Lost w f) (inr is) = inr (is ∙ named_is (spare_rec_of buf.spare))
finds_page buf named_read.Fault told = tt

-- a page that shows an owner and a number has that number
pub shown_stamp : (page : Page) (tag : Tag) (s : ℕ) (main : List ℕ) → shown_by page ≡ Some (tag, s, main) → stamp_at page ≡ s
shown_stamp erased tag s main is = absurd (none-some (tag, s, main) is)
shown_stamp uncorrectable tag s main is = absurd (none-some (tag, s, main) is)
shown_stamp (written bytes) tag s main is = by_spare (spare_rec_of bytes.spare) bytes.main is
  where
    by_spare : (o : Option SpareRec) (m : List ℕ) → shown_with o m ≡ Some (tag, s, main) → named_stamp o ≡ s
    by_spare None m shows = absurd (none-some (tag, s, main) shows)
    by_spare (Some (Virtual v t wear)) m shows = absurd (none-some (tag, s, main) shows)
    by_spare (Some (Physical owner t wear)) m shows = ap (λ (x : Shown). x.1) (same_Some (owner, t, m) (tag, s, main) shows)

-- Where the medium holds what is live at the place, a read is lost only under another tag, and it found none under that.
pub finds_under : (stored : Option NamedPage) (stamp : ℕ) (o : Option Held) (tag : Tag) (s : ℕ) (buf : PageBytes) (answer : NamedRead) → ReadsHeld o tag s buf answer
    → TellsFound stamp answer → (o ≡ Some (record { tag = tag; stamp = s }) → (answer ≡ named_read.Done) ⊎ (answer ≡ named_read.Fault))
    → ((h : Held) → o ≡ Some h → (stamp ≡ h.stamp) × ((n : NamedPage) → stored ≡ Some n → n.tag ≡ h.tag)) → FindsUnderTag stored tag answer
finds_under stored stamp o tag s buf named_read.Done reads told kept holds = tt
finds_under stored stamp o tag s buf named_read.NotLive reads told kept holds = tt
finds_under stored stamp o tag s buf (named_read.Lost w f) reads told kept holds = inr (
  λ n is same.
      let owner : reads.0.0.tag ≡ tag = sym ((holds reads.0.0 reads.0.1).1 n is) ∙ same in
      reads_told o tag s buf (named_read.Lost w f) reads kept (subst (λ (x : Option Held). has_tag (live_page x) tag) (sym reads.0.1) owner) tt,
  zero told,
)
  where
    zero : (f ≡ 0) ⊎ (f ≡ stamp) → f ≡ 0
    zero (inl none) = none
    zero (inr is) = absurd (reads.2 (is ∙ ((holds reads.0.0 reads.0.1).0 ∙ (reads.0.2 ∙ sym reads.1))))
finds_under stored stamp o tag s buf named_read.Fault reads told kept holds = tt
