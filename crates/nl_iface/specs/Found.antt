-- What a read that is lost tells to have found.
use Rattle.std.specs.Prelude.{◌≡◌, ◌≢◌, ◌⊎◌, ℕ, ⊤, Option, Some, None}
use Rattle.nl_field.specs.Page.{PageBytes}
use Rattle.nl_field.specs.SpareRecord.{spare_rec_of, stamp_of}
use Rattle.nl_field.specs.declared.answers.NamedRead.{NamedRead}
use Rattle.nl_field.specs.declared.answers.NamedRead.TheVariants as named_read
use Rattle.nl_field.specs.declared.answers.VirtualRead.{VirtualRead}
use Rattle.nl_field.specs.declared.answers.VirtualRead.TheVariants as read
use Rattle.nl_field.specs.declared.pointer.Tag.{Tag}
use Rattle.nl_field.specs.declared.spare.SpareRec.{SpareRec}
use Rattle.nl_iface.specs.Stored.{NamedPage}

abbrev pub stamp_in : Option SpareRec → ℕ
stamp_in None = 0
stamp_in (Some rec) = stamp_of rec

-- the stamp that the spare bytes of a page spell, 0 where they spell none
abbrev pub stamp_spelled : PageBytes → ℕ
stamp_spelled bytes = stamp_in (spare_rec_of bytes.spare)

-- 0, or the stamp that is spelled by the bytes which were read
abbrev pub IsSpelled : PageBytes → ℕ → Type 0
IsSpelled bytes found = (found ≡ 0) ⊎ (found ≡ stamp_spelled bytes)

-- what the lost read of an address found
abbrev pub FindsStamp : PageBytes → VirtualRead → Type 0
FindsStamp bytes read.Done = ⊤
FindsStamp bytes read.Unmapped = ⊤
FindsStamp bytes (read.Lost w f) = IsSpelled bytes f
FindsStamp bytes read.Fault = ⊤

-- what the lost read of a pointer found
abbrev pub FindsPage : PageBytes → NamedRead → Type 0
FindsPage bytes named_read.Done = ⊤
FindsPage bytes named_read.NotLive = ⊤
FindsPage bytes (named_read.Lost w f) = IsSpelled bytes f
FindsPage bytes named_read.Fault = ⊤

-- the stamp of a stored page that has this tag, or 0 where it has none such
abbrev pub IsUnderTag : Option NamedPage → Tag → ℕ → Type 0
IsUnderTag page tag found =
    ((n : NamedPage) × (page ≡ Some n) × (n.tag ≡ tag) × (found ≡ n.stamp)) ⊎ (((n : NamedPage) → page ≡ Some n → n.tag ≢ tag) × (found ≡ 0))

-- what it found, where the medium tells what it stores at the place
abbrev pub FindsUnderTag : Option NamedPage → Tag → NamedRead → Type 0
FindsUnderTag page tag named_read.Done = ⊤
FindsUnderTag page tag named_read.NotLive = ⊤
FindsUnderTag page tag (named_read.Lost w f) = IsUnderTag page tag f
FindsUnderTag page tag named_read.Fault = ⊤
