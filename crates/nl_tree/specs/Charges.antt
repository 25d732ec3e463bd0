-- What a tree takes of the volume.
use Rattle.std.specs.Prelude.{ℕ, ◌+◌, ◌*◌, nat_le, nat_lt, Bool, ◌&&◌, length, sum_by, count_by}
use Rattle.std.specs.List.{list_any, range_with_len}
use Rattle.std.specs.Int.{div_ceil}
use Rattle.nl_field.specs.FileContent.{FileContent}
use Rattle.nl_tree.specs.Tree.{Node, directory, file, Tree, all_paths, all_nodes, entries_of}

-- pages of files
abbrev pub data_of_node : Node → ℕ
data_of_node directory = 0
data_of_node (file content) = length content.pages

unfoldable pub data_charge : Tree → ℕ
data_charge tree = sum_by data_of_node (all_nodes tree)

-- the root among them
unfoldable pub node_charge : Tree → ℕ
node_charge tree = length (all_nodes tree)

-- the file has a page in the range r of 256 indexes from 8 on
abbrev pub has_page_in_range : FileContent → ℕ → Bool
has_page_in_range content r = list_any (λ page. nat_le (8 + 256 * r) page.0 && nat_lt page.0 (264 + 256 * r)) content.pages

abbrev pub ranges_of_node : Node → ℕ
ranges_of_node directory = 0
ranges_of_node (file content) = count_by (has_page_in_range content) (range_with_len 0 16)

-- pages of entries, and a page of pointers for each range in which a file has a page
unfoldable pub meta_charge : Tree → ℕ
meta_charge tree =
    sum_by (λ e. div_ceil (length (entries_of tree e.0)) 64) (all_paths tree) + sum_by ranges_of_node (all_nodes tree)
