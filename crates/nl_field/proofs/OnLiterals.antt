-- What an answer unfolds to compute this crate's definitions on literals.
use Rattle.std.specs.Prelude.{⊤}
use Rattle.nl_field.specs.Bytes.{zeros}
use Rattle.nl_field.specs.Numbers.{shape_for}
use Rattle.nl_field.specs.FileContent.{page_bytes, byte_of, is_content, bytes_read, touched, overlaid, written_over, cut_to}
use Rattle.nl_field.specs.Page.{is_image}
use Rattle.nl_field.specs.Spelling.{u32_bytes, u64_bytes, u32_at, u64_at, each_of}
use Rattle.nl_field.specs.SpareRecord.{spare_bytes, spare_fields, spare_rec_of, fits_spare}
use Rattle.nl_field.specs.SuperPage.{super_head, super_bytes, super_fields, super_of, fits_super}
use Rattle.nl_field.specs.Journal.{are_home_addresses, header_head, header_bytes, header_fields, header_of, fits_header, commit_head, commit_bytes, commit_fields, commit_of}
use Rattle.nl_field.specs.Pointers.{pointer_bytes, pointer_fields, pointer_of, indirect_bytes, indirect_of}
use Rattle.nl_field.specs.Inode.{inode_bytes, are_filled, is_inode_of_kind, inode_fields, inode_of, fits_inode}
use Rattle.nl_field.specs.Names.{is_name}
use Rattle.nl_field.specs.EntryRecord.{entry_bytes, entry_fields, entry_of, fits_entry}
use Rattle.nl_field.specs.Medium.{readable_pages, virtual_pages, physical_pages, found, physical_page_at}
use Rattle.nl_field.specs.Virtual.{newest, virtual_bytes, map_bytes}
use Rattle.nl_field.specs.Scan.{differs_from_lower, agrees_below, next_stamp_of, least_wear, greatest_wear, super_version, zeros_from}
use Rattle.nl_field.specs.ScanList.{seen_in, virtual_seen, physical_seen, holds_seen, owns_seen, virtual_spare_seen, physical_spare_seen, place_seen}
use Rattle.nl_field.specs.Space.{spare_block, virtual_spare, physical_spare, holds_stamp, place_outside}

unfoldable pub field_on_literals : ⊤
unfolding zeros shape_for page_bytes byte_of is_content bytes_read touched overlaid written_over cut_to is_image u32_bytes u64_bytes u32_at u64_at each_of spare_bytes spare_fields spare_rec_of fits_spare super_head super_bytes super_fields super_of fits_super are_home_addresses header_head header_bytes header_fields header_of fits_header commit_head commit_bytes commit_fields commit_of pointer_bytes pointer_fields pointer_of indirect_bytes indirect_of inode_bytes are_filled is_inode_of_kind inode_fields inode_of fits_inode is_name entry_bytes entry_fields entry_of fits_entry readable_pages virtual_pages physical_pages found physical_page_at newest virtual_bytes differs_from_lower agrees_below next_stamp_of least_wear greatest_wear super_version zeros_from spare_block virtual_spare physical_spare holds_stamp place_outside seen_in virtual_seen physical_seen holds_seen owns_seen virtual_spare_seen physical_spare_seen place_seen map_bytes
field_on_literals = tt
