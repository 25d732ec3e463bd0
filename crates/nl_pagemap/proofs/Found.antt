-- What a read of a page tells.
use Rattle.std.proofs.Common.{◌≡◌, ◌⊎◌, inl, inr, ℕ, Option, Some, None, option_map, true, false, refl, sym, ◌∙◌, ap, subst, arith, eq-eqb}
use Rattle.std.specs.Prelude.{◌↔◌, ⊤}
use Rattle.std.proofs.lemmas.Bool.{false≢true}
use Rattle.std.proofs.lemmas.Option.{same_Some}
use Rattle.nl_field.specs.Page.{Image, PageBytes, page_at}
use Rattle.nl_field.specs.SpareRecord.{spare_rec_of}
use Rattle.nl_field.specs.declared.answers.NamedRead.{NamedRead}
use Rattle.nl_field.specs.declared.answers.NamedRead.TheVariants as named_read
use Rattle.nl_field.specs.declared.answers.VirtualRead.{VirtualRead}
use Rattle.nl_field.specs.declared.answers.VirtualRead.TheVariants as read
use Rattle.nl_field.specs.declared.pointer.Tag.{Tag}
use Rattle.nl_field.specs.declared.spare.SpareRec.{SpareRec}
use Rattle.nl_iface.specs.Answers.{IsLostPage, LosesPage}
use Rattle.nl_iface.specs.Counting.{FailuresCounted}
use Rattle.nl_iface.specs.Found.{FindsPage, FindsStamp, FindsUnderTag, IsUnderTag, stamp_in}
use Rattle.nl_iface.specs.Names.{has_stamp}
use Rattle.nl_iface.specs.Stored.{NamedPage}
use Rattle.nl_nand.specs.Nand.{FaultsCounted}
use Rattle.nl_pagemap.specs.Mapped.{named_by, named_on, page_of}
use Rattle.nl_pagemap_names.specs.declared.entry.Entry.{Entry}
use Rattle.nl_pseg_pages.specs.Pages.{TellsFound, main_of, shown_by, stamp_found, stamp_in as named_stamp}
use Rattle.nl_vseg.specs.Answers.{TellsStampFound}
use Rattle.nl_vseg.specs.Pages.{stamp_in as virtual_stamp}

virtual_is : (o : Option SpareRec) → virtual_stamp o ≡ stamp_in o
virtual_is None = refl
virtual_is (Some rec) = refl

named_is : (o : Option SpareRec) → named_stamp o ≡ stamp_in o
named_is None = refl
named_is (Some rec) = refl

pub finds_stamp : (buf : PageBytes) (answer : VirtualRead) → TellsStampFound buf answer → FindsStamp buf answer
finds_stamp buf read.Done told = tt
finds_stamp buf read.Unmapped told = tt
finds_stamp buf (read.Lost w f) (inl none) = inl none
finds_stamp buf (read.Lost w f) (inr is) = inr (is ∙ virtual_is (spare_rec_of buf.spare))
finds_stamp buf read.Fault told = tt

pub finds_page : (buf : PageBytes) (answer : NamedRead) → TellsFound (stamp_found buf) answer → FindsPage buf answer
finds_page buf named_read.Done told = tt
finds_page buf named_read.NotLive told = tt
finds_page buf (named_read.Lost w f) (inl none) = inl none
finds_page buf (named_read.Lost w f) (inr is) = inr (is ∙ named_is (spare_rec_of buf.spare))
finds_page buf named_read.Fault told = tt

-- a lost read tells the wanted stamp, and another one
pub loses : (stamp : ℕ) (answer : NamedRead) → ((w f : ℕ) → answer ≡ named_read.Lost w f → (w ≡ stamp) × (f ≡ stamp → ⊥)) → LosesPage stamp answer
loses stamp named_read.Done lost = tt
loses stamp named_read.NotLive lost = tt
loses stamp (named_read.Lost w f) lost = let h = lost w f refl in (h.0, λ e. h.1 (e ∙ h.0))
loses stamp named_read.Fault lost = tt

-- what is done or failed is not lost
pub not_lost : (answer : NamedRead) → (answer ≡ named_read.Done) ⊎ (answer ≡ named_read.Fault) → IsLostPage answer → ⊥
not_lost answer (inl is) lost = subst IsLostPage is lost
not_lost answer (inr is) lost = subst IsLostPage is lost

pub finds_either : (page : Option NamedPage) (tag : Tag) (answer : NamedRead) → (answer ≡ named_read.Done) ⊎ (answer ≡ named_read.Fault) → FindsUnderTag page tag answer
finds_either page tag answer (inl is) = subst (λ (a : NamedRead). FindsUnderTag page tag a) (sym is) tt
finds_either page tag answer (inr is) = subst (λ (a : NamedRead). FindsUnderTag page tag a) (sym is) tt

-- a pointer leads to an entry of its stamp
pub led_true : (o : Option Entry) (e : Entry) (stamp : ℕ) → o ≡ Some e → e.stamp ≡ stamp → has_stamp (option_map page_of o) stamp ≡ true
led_true o e stamp is same = ap (λ x. has_stamp (option_map page_of x) stamp) is ∙ eq-eqb e.stamp stamp same

pub led_not : (answer : NamedRead) (o : Option Entry) (e : Entry) (stamp : ℕ) → (answer ≡ named_read.NotLive → ⊥) → o ≡ Some e → e.stamp ≡ stamp → (answer ≡ named_read.NotLive) ↔ (has_stamp (option_map page_of o) stamp ≡ false)
led_not answer o e stamp other is same = ((λ dead. absurd (other dead)), (λ off. absurd (false≢true (sym off ∙ led_true o e stamp is same))))

-- another owner's page: none is found under the tag
pub under_other : (image : Image) (e : Entry) (tag : Tag) → shown_by (page_at image e.page) ≡ Some (e.tag, e.stamp, main_of (page_at image e.page)) → (e.tag ≡ tag → ⊥) → IsUnderTag (named_by image (Some e)) tag 0
under_other image e tag holds other = inr (
  λ n is same.
      let first = same_Some (record { tag = e.tag; stamp = e.stamp; bytes = main_of (page_at image e.page) }) n (sym (ap named_on holds) ∙ is) in
      other (ap (λ (x : NamedPage). x.tag) first ∙ same),
  refl,
)

-- the count of failed reads
pub read_counted : (before now : ℕ) (failed : Type 0) → FaultsCounted before now failed → FailuresCounted ⊤ before now failed
read_counted before now failed c = record {
  never_falls = c.never_falls;
  cause = λ is. let rose = c.cause is in omega (arith, rose);
  once = λ exact is. c.cause is;
  stays = λ exact no. c.stays no;
}
