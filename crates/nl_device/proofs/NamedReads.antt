-- What the read of a pointer answers.
use Rattle.std.proofs.Common.{◌≡◌, ◌⊎◌, ⊎_elim, ℕ, ◌∙◌, true, false, Option, Some, None, refl, sym, ap, subst, eq-eqb, ne_eqb}
use Rattle.std.specs.Prelude.{◌↔◌}
use Rattle.std.proofs.lemmas.Bool.{false≢true}
use Rattle.nl_field.specs.Page.{PageBytes}
use Rattle.nl_field.specs.declared.answers.NamedRead.{NamedRead}
use Rattle.nl_field.specs.declared.answers.NamedRead.TheVariants as read
use Rattle.nl_field.specs.declared.pointer.Tag.{Tag}
use Rattle.nl_iface.specs.Answers.{IsLostPage, LosesPage}
use Rattle.nl_iface.specs.Names.{has_stamp, has_tag}
use Rattle.nl_pseg.specs.Answers.{ReadsHeld}
use Rattle.nl_pseg.specs.declared.held.Held.{Held}
use Rattle.nl_device.specs.Shown.{live_page}

-- what is held under a stamp leads, and only that
leads_held : (o : Option Held) (h : Held) (s : ℕ) → o ≡ Some h → h.stamp ≡ s → has_stamp (live_page o) s ≡ true
leads_held o h s is stamp = ap (λ x. has_stamp (live_page x) s) is ∙ eq-eqb h.stamp s stamp

leads_none : (o : Option Held) (s : ℕ) → ((h : Held) → o ≡ Some h → h.stamp ≡ s → ⊥) → has_stamp (live_page o) s ≡ false
leads_none None s none = refl
leads_none (Some h) s none = ne_eqb h.stamp s (none h refl)

not_live_but : (o : Option Held) (h : Held) (s : ℕ) (answer : NamedRead) → (answer ≡ read.NotLive → ⊥) → o ≡ Some h → h.stamp ≡ s → (answer ≡ read.NotLive) ↔ (has_stamp (live_page o) s ≡ false)
not_live_but o h s answer other is stamp = ((λ dead. absurd (other dead)), (λ off. absurd (false≢true (sym off ∙ leads_held o h s is stamp))))

pub reads_not_live : (o : Option Held) (tag : Tag) (s : ℕ) (buf : PageBytes) (answer : NamedRead) → ReadsHeld o tag s buf answer → (answer ≡ read.NotLive) ↔ (has_stamp (live_page o) s ≡ false)
reads_not_live o tag s buf read.Done h = not_live_but o (record { tag = tag; stamp = s }) s read.Done (λ e. cc) h.0 refl
reads_not_live o tag s buf read.NotLive h = ((λ e. leads_none o s h), (λ off. refl))
reads_not_live o tag s buf (read.Lost w f) h = not_live_but o h.0.0 s (read.Lost w f) (λ e. cc) h.0.1 h.0.2
reads_not_live o tag s buf read.Fault h = not_live_but o h.0 s read.Fault (λ e. cc) h.1 h.2

pub reads_lost : (o : Option Held) (tag : Tag) (s : ℕ) (buf : PageBytes) (answer : NamedRead) → ReadsHeld o tag s buf answer → LosesPage s answer
reads_lost o tag s buf read.Done h = tt
reads_lost o tag s buf read.NotLive h = tt
reads_lost o tag s buf (read.Lost w f) h = (h.1, h.2)
reads_lost o tag s buf read.Fault h = tt

pub reads_owner : (o : Option Held) (tag : Tag) (s : ℕ) (buf : PageBytes) (answer : NamedRead) → ReadsHeld o tag s buf answer → answer ≡ read.Done → o ≡ Some (record { tag = tag; stamp = s })
reads_owner o tag s buf read.Done h is = h.0
reads_owner o tag s buf read.NotLive h is = cc
reads_owner o tag s buf (read.Lost w f) h is = cc
reads_owner o tag s buf read.Fault h is = cc

tag_held : (o : Option Held) (h : Held) (tag : Tag) (s : ℕ) → o ≡ Some h → h.stamp ≡ s → has_tag (live_page o) tag → o ≡ Some (record { tag = tag; stamp = s })
tag_held o h tag s is stamp owned =
    let same : h.tag ≡ tag = subst (λ x. has_tag (live_page x) tag) is owned in
    is ∙ (λ i. Some (record { tag = same i; stamp = stamp i }))

-- the page is never lost under its tag, where that read is done or fails
pub reads_told : (o : Option Held) (tag : Tag) (s : ℕ) (buf : PageBytes) (answer : NamedRead) → ReadsHeld o tag s buf answer → (o ≡ Some (record { tag = tag; stamp = s }) → (answer ≡ read.Done) ⊎ (answer ≡ read.Fault)) → has_tag (live_page o) tag → IsLostPage answer → ⊥
reads_told o tag s buf read.Done h kept owned lost = lost
reads_told o tag s buf read.NotLive h kept owned lost = lost
reads_told o tag s buf (read.Lost w f) h kept owned lost = ⊎_elim {C = ⊥} (λ e. cc) (λ e. cc) (kept (tag_held o h.0.0 tag s h.0.1 h.0.2 owned))
reads_told o tag s buf read.Fault h kept owned lost = lost
