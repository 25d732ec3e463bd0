-- The numbers of a volume, from its geometry, and the limits that no geometry changes.
use Rattle.std.specs.Prelude.{◌≡◌, ℕ, ◌≤◌, ◌+◌, ◌-◌, ◌*◌, ◌/◌, nat_le, Bool, ◌&&◌}
use Rattle.std.specs.Int.{div_ceil}
use Rattle.nl_field.specs.declared.shape.Shape.{Shape}

-- 32 to 4096 blocks of 32 to 256 pages, together at most 262144 pages
abbrev pub is_legal : ℕ → ℕ → Bool
is_legal blocks pages = nat_le 32 blocks && nat_le blocks 4096 && nat_le 32 pages && nat_le pages 256 && nat_le (blocks * pages) 262144

-- A node for each 16 pages, and a metadata page for each 32. Before the inode pages, of 16 nodes each, stand 67 addresses:
-- the super page, the journal header, 64 images and the commit page. The virtual segment has 4 blocks more than its
-- addresses fill, and the physical segment has the others. What files may fill leaves 4 blocks and 160 pages.
unfoldable pub shape_for : ℕ → ℕ → Shape
shape_for blocks pages =
    let nodes = blocks * pages / 16 in
    let inode_pages = div_ceil nodes 16 in
    let meta = blocks * pages / 32 in
    let vaddrs = 67 + inode_pages + meta in
    let vblocks = div_ceil vaddrs pages + 4 in
    let pblocks = blocks - vblocks in
    record {
      blocks = blocks;
      pages = pages;
      nodes = nodes;
      inode_pages = inode_pages;
      meta = meta;
      vaddrs = vaddrs;
      vblocks = vblocks;
      pblocks = pblocks;
      cap = (pblocks - 4) * pages - 160;
    }

-- The bounds that the numbers of each legal volume keep.
pub record ShapeBounds (shape : Shape) : Type 0 where
  pub least_blocks : 32 ≤ shape.blocks
  pub most_blocks : shape.blocks ≤ 4096
  pub least_pages : 32 ≤ shape.pages
  pub most_pages : shape.pages ≤ 256
  pub all_pages : shape.blocks * shape.pages ≤ 262144
  -- nodes, the pages that hold them, and the pages of the pool
  pub some_nodes : 64 ≤ shape.nodes
  pub places : shape.nodes ≤ 16 * shape.inode_pages
  pub few_places : 16 * shape.inode_pages ≤ shape.nodes + 15
  pub some_meta : 32 ≤ shape.meta
  -- virtual addresses
  pub addresses : shape.vaddrs ≡ 67 + shape.inode_pages + shape.meta
  pub addresses_fit : shape.vaddrs + 4 * shape.pages ≤ shape.vblocks * shape.pages
  -- the two segments make up the medium
  pub some_blocks : 5 ≤ shape.vblocks
  pub segments : shape.vblocks + shape.pblocks ≡ shape.blocks
  -- pages of files
  pub data_pages : shape.cap + 4 * shape.pages + 160 ≡ shape.pblocks * shape.pages
  pub nodes_within_cap : shape.nodes ≤ shape.cap + 1

-- the most bytes of a file: 8 pages with direct pointers, and 16 ranges of 256 pages
abbrev pub max_file_size : ℕ
max_file_size = 16809984

-- the most bytes of one read, write or fill
abbrev pub max_bytes : ℕ
max_bytes = 65536

-- the most entries of a directory: 16 pages of 64
abbrev pub max_entries : ℕ
max_entries = 1024

-- the most bytes of a name, and of a path with a slash before each name
abbrev pub max_name : ℕ
max_name = 55

abbrev pub max_path : ℕ
max_path = 1023
