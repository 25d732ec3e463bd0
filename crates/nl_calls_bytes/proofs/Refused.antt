-- What refuses a call that writes, for want of room, in the tree for which the pages stand.
use Rattle.std.proofs.Common.{◌≡◌, ℕ, ◌+◌, ◌<◌, ◌==◌, Bool, true, false, not, ◌&&◌, List, [], ◌∷◌, length, map, cond, is_none, nat_le, nat_lt, ◌||◌, ◌*◌, refl, sym, ap, subst, ◌∙◌, Option, Some, None, option_and_then, arith}
use Rattle.std.specs.FinMap.{find as value_at}
use Rattle.std.specs.List.{list_any}
use Rattle.std.specs.Ordering.{nat_cmp}
use Rattle.std.specs.Prelude.{slice_index}
use Rattle.nl_field.specs.FileContent.{FileContent, is_content, written_over}
use Rattle.nl_field.specs.Numbers.{ShapeBounds}
use Rattle.nl_field.specs.Pointers.{is_none_pointer}
use Rattle.nl_field.specs.declared.inode.InodeRec.{InodeRec}
use Rattle.nl_field.specs.declared.inode.Kind.TheVariants.{File}
use Rattle.nl_field.specs.declared.pointer.Pointer.{Pointer}
use Rattle.nl_field.specs.declared.shape.Shape.{Shape}
use Rattle.nl_field.proofs.Bounds.{bounds}
use Rattle.nl_tree.specs.Charges.{has_page_in_range, ranges_of_node}
use Rattle.nl_tree.specs.KeptSums.{IsChangeAt, changed_path}
use Rattle.nl_field.specs.Graph.{GraphNode}
use Rattle.nl_field.specs.declared.inode.Kind.{Kind}
use Rattle.nl_tree.specs.Represents.{node_of, node_reached}
use Rattle.nl_tree.specs.Step.{Outcome, effect_of, space_refusal}
use Rattle.nl_tree.specs.Tree.{Node, Tree, content_of, file, node_at, with_content}
use Rattle.nl_tree.specs.declared.call.Call.{Call}
use Rattle.nl_tree.proofs.KeptProofs.{change_at}
use Rattle.nl_tree.proofs.TreeProofs.{path_eq, tree_laws}
use Rattle.nl_inode.specs.FreeLaws.{PoolIsFree}
use Rattle.nl_inode.specs.Nodes.{Spaces}
use Rattle.nl_indirect.specs.Ranges.{IsFileRecord}
use Rattle.nl_meta.specs.Committed.{VirtualMap}
use Rattle.nl_meta.specs.Consistent.{IsNode, PageOfStamp}
use Rattle.nl_meta.specs.Nodes.{body_of, graph_of, held_in, pointer_at, pointers_of_inode}
use Rattle.nl_spec_image.specs.RightFor.{ChargesOfPages}
use Rattle.nl_spec_image.specs.Stands.{bytes_for}
use Rattle.nl_spec_image.proofs.GraphOfPages.{node_is}
use Rattle.nl_spec_image.proofs.SoundProofs.{right_charges}
use Rattle.nl_files.proofs.ContentFacts.{pages_by_pointers}
use Rattle.nl_spec_commits.specs.Trees.{RepresentsTree}
use Rattle.nl_calls_bytes.specs.Contents.{count_indexes, first_index, indexes_written}
use Rattle.nl_calls_files.specs.LineNeeds.{free_addresses, gets_page, new_pointers, new_ranges}
use Rattle.nl_calls_bytes.specs.Room.{room_refusal}
use Rattle.nl_calls_bytes.proofs.Pool.{pool-counted}
use Rattle.nl_calls_bytes.proofs.Room.{longer, ranges-more, space-is}
use Rattle.nl_calls_bytes.specs.Ranges.{IsWriting, data_of, from_of, len_of, path_of}
use Rattle.nl_calls_bytes.proofs.Spans.{meets, some-in-range}
use Rattle.nl_calls_bytes.proofs.Stepped.{changes, effect-is, length-data}
use Rattle.nl_calls_bytes.proofs.Counted.{count_same}
use Rattle.nl_spec_image.proofs.Ranges.{range_there}

-- the bytes that the call writes to the file at its path
pub record IsWriteAt (tree : Tree) (call : Call) (path : List (List ℕ)) (from : ℕ) (bytes : List ℕ) : Type 0 where
  pub changed : changed_path call ≡ Some path
  pub effect : (effect_of tree call).tree ≡ with_content tree path (written_over (content_of (node_at tree path)) from bytes)
  pub some : 0 < length bytes

module _ (shape : Shape) (pages : VirtualMap) (page_of_stamp : ℕ → Option PageOfStamp) (tree : Tree) (runs : RepresentsTree shape pages page_of_stamp tree) (room : None ≡ space_refusal shape tree) (s : Spaces) (pool : PoolIsFree shape pages s) (count : length s.pool ≡ shape.meta) (n : ℕ) (rec : InodeRec) (is : IsNode shape pages n rec) (is_file : rec.kind ≡ File) (good : IsFileRecord rec)
    (call : Call) (path : List (List ℕ)) (from : ℕ) (bytes : List ℕ) (write : IsWriteAt tree call path from bytes)
    (at : node_at tree path ≡ Some (file (record { size = rec.size; pages = map (λ (p : ℕ × Pointer). (p.0, bytes_for page_of_stamp p.1.stamp)) (pointers_of_inode pages rec) }))) where
  held : FileContent
  held = record { size = rec.size; pages = map (λ (p : ℕ × Pointer). (p.0, bytes_for page_of_stamp p.1.stamp)) (pointers_of_inode pages rec) }

  now : FileContent
  now = written_over held from bytes

  next : Tree
  next = (effect_of tree call).tree

  next-is : next ≡ with_content tree path now
  unfolding next now held
  next-is = write.effect ∙ ap (λ (o : Option Node). with_content tree path (written_over (content_of o) from bytes)) at

  is-now : node_at next path ≡ Some (file now)
  is-now = ap (λ (t : Tree). node_at t path) next-is ∙ tree_laws.at_content tree path path now ∙ ap (λ b. cond b (Some (file now)) (node_at tree path)) (path_eq path path refl)

  change : IsChangeAt path tree next
  unfolding next
  change = change_at tree (effect_of tree call).tree call path write.changed refl runs.represents.is_tree.in_order

  some-path : 0 < length path
  some-path = by path refl
    where
      by : (p : List (List ℕ)) → path ≡ p → 0 < length path
      by [] e = absurd (cc (sym runs.represents.is_tree.root ∙ ap (λ (q : List (List ℕ)). node_at tree q) (sym e) ∙ at))
      by (x ∷ xs) e = let l = ap length e in omega (arith, l)

  charges : ChargesOfPages shape pages tree
  charges = right_charges shape pages page_of_stamp tree runs.right runs.represents

  -- a page of the file has its pointer
  by-pointer : (i : ℕ) → is_none (value_at nat_cmp i held.pages) ≡ is_none_pointer (pointer_at pages rec i)
  unfolding held
  by-pointer i = ap (λ (o : Option (List ℕ)). is_none o) (pages_by_pointers (bytes_for page_of_stamp) pages rec good i) ∙ test (is_none_pointer (pointer_at pages rec i))
    where
      test : (b : Bool) → is_none (cond {A = Option (List ℕ)} b None (Some (bytes_for page_of_stamp (pointer_at pages rec i).stamp))) ≡ b
      test true = refl
      test false = refl

  right : is_content held ≡ true
  unfolding held
  right = runs.represents.is_tree.contents path _ at

  pages-more : length now.pages ≡ length held.pages + new_pointers pages rec (indexes_written from (length bytes))
  unfolding now
  pages-more =
      longer held from bytes right write.some
      ∙ ap (λ (k : ℕ). length held.pages + k) (count_same (λ i. is_none_pointer (pointer_at pages rec i)) (λ i. is_none (value_at nat_cmp i held.pages)) (first_index from) (count_indexes from (length bytes)) (λ i low high. by-pointer i))

  -- a range of it has a page of pointers where it has a page
  range-has : (r : ℕ) → r < 16 → has_page_in_range held r ≡ not (slice_index rec.addresses r == 0)
  unfolding held
  range-has r low = any-mapped (pointers_of_inode pages rec) ∙ range_there shape pages runs.right.tree.addresses n rec is is_file r low
    where
      any-mapped : (ps : List (ℕ × Pointer)) → list_any (λ (page : ℕ × List ℕ). nat_le (8 + 256 * r) page.0 && nat_lt page.0 (264 + 256 * r)) (map (λ (p : ℕ × Pointer). (p.0, bytes_for page_of_stamp p.1.stamp)) ps)
          ≡ list_any (λ (p : ℕ × Pointer). nat_le (8 + 256 * r) p.0 && nat_lt p.0 (264 + 256 * r)) ps
      any-mapped [] = refl
      any-mapped (p ∷ ps) = ap (λ (b : Bool). (nat_le (8 + 256 * r) p.0 && nat_lt p.0 (264 + 256 * r)) || b) (any-mapped ps)

  gets-is : (r : ℕ) → r < 16 → gets_page rec (indexes_written from (length bytes)) r ≡ (not (has_page_in_range held r) && meets (first_index from) (count_indexes from (length bytes)) r)
  gets-is r low =
      ap (λ (b : Bool). (slice_index rec.addresses r == 0) && b) (some-in-range (count_indexes from (length bytes)) (first_index from) r)
      ∙ ap (λ (b : Bool). b && meets (first_index from) (count_indexes from (length bytes)) r) (twice (slice_index rec.addresses r == 0) ∙ ap not (sym (range-has r low)))
    where
      twice : (b : Bool) → b ≡ not (not b)
      twice true = refl
      twice false = refl

  ranges-then : ranges_of_node (file now) ≡ ranges_of_node (file held) + new_ranges rec (indexes_written from (length bytes))
  unfolding now
  ranges-then = ranges-more held from bytes (gets_page rec (indexes_written from (length bytes))) write.some gets-is

  pub refused-for : room_refusal (free_addresses s) (new_ranges rec (indexes_written from (length bytes))) shape.cap (length (held_in shape pages)) (new_pointers pages rec (indexes_written from (length bytes)))
      ≡ space_refusal shape (effect_of tree call).tree
  unfolding next held
  refused-for =
      space-is shape tree next path held now change at is-now some-path room
      (let a = charges.used in let b = charges.few_nodes in omega (arith, a, b))
      (free_addresses s) (new_ranges rec (indexes_written from (length bytes))) (length (held_in shape pages)) (new_pointers pages rec (indexes_written from (length bytes)))
      (let a = pool-counted shape pages (subst ShapeBounds (sym runs.right.numbers) (bounds shape.blocks shape.pages runs.right.legal)) runs.right.tree.addresses s pool count in let b = charges.meta_pages in omega (arith, a, b))
      ranges-then charges.data_pages pages-more

module _ (shape : Shape) (pages : VirtualMap) (page_of_stamp : ℕ → Option PageOfStamp) (tree : Tree) (runs : RepresentsTree shape pages page_of_stamp tree) (room : None ≡ space_refusal shape tree) (s : Spaces) (pool : PoolIsFree shape pages s) (count : length s.pool ≡ shape.meta) (n : ℕ) (rec : InodeRec) (is : IsNode shape pages n rec) (is_file : rec.kind ≡ File) (good : IsFileRecord rec) where
  pub writes-refused : (call : Call) → IsWriting call → 0 < len_of call → node_reached (graph_of shape pages) 0 (path_of call) ≡ Some n
      → room_refusal (free_addresses s) (new_ranges rec (indexes_written (from_of call) (len_of call))) shape.cap (length (held_in shape pages)) (new_pointers pages rec (indexes_written (from_of call) (len_of call)))
      ≡ space_refusal shape (effect_of tree call).tree
  writes-refused call w some reached =
      let len = length-data call w in
      subst (λ (k : ℕ). room_refusal (free_addresses s) (new_ranges rec (indexes_written (from_of call) k)) shape.cap (length (held_in shape pages)) (new_pointers pages rec (indexes_written (from_of call) k)) ≡ space_refusal shape (effect_of tree call).tree) len
      (refused-for shape pages page_of_stamp tree runs room s pool count n rec is is_file good call (path_of call) (from_of call) (data_of call)
      (record { changed = changes call w; effect = ap (λ (o : Outcome). o.tree) (effect-is shape tree call w); some = omega (arith, len, some) })
      (runs.represents.depicts (path_of call) ∙ ap (option_and_then (λ m. node_of (bytes_for page_of_stamp) (graph_of shape pages m).body)) reached
      ∙ ap (λ (x : GraphNode). node_of (bytes_for page_of_stamp) x.body) (node_is shape pages n rec is) ∙ ap (λ (k : Kind). node_of (bytes_for page_of_stamp) (body_of pages rec k)) is_file))
