-- A node that was made from a descriptor and records is read as these.
use Rattle.std.proofs.Common.{◌≡◌, ℕ, Bool, ◌+◌, ◌-◌, ◌*◌, ◌<◌, ◌≤◌, List, [], ◌∷◌, ◌++◌, length, take, drop, get_or, replicate, refl, sym, ◌∙◌, ap, arith}
use Rattle.std.proofs.lemmas.List.{ext_get_or, take_more, drop_more, append-nil, length-append, take-append-drop, drop_at, take_at, length-take-le, append_assoc, take_all}
use Rattle.std.proofs.lemmas.List.Folds.{concat-append}
use Rattle.std.specs.List.{concat, slice_range}
use Rattle.std.specs.Int.{cast_signed, w8}
use Rattle.hx_bytes.specs.Field.{big, big_at}
use Rattle.hx_bytes.specs.declared.fields.Order.TheVariants.{Big}
use Rattle.hx_bytes.proofs.Laws.{length-number_bytes, number_at-number_bytes}
use Rattle.hx_bytes.proofs.Reading.{Behind, behind_number, behind_part, behind_byte, number_here, byte_here, part_here}
use Rattle.flag_rows.specs.Bitmap.{bits_bytes}
use Rattle.flag_rows.proofs.Bitmaps.{length-bits_bytes}
use Rattle.btree_node.specs.Node.{IsNode, items, offset, record_count, kind_of, height_of, next_of, back_of}
use Rattle.btree_node.specs.TreeFile.{tree_head}
use Rattle.btree_node.specs.Codec.{IsPacked, IsHeaderOf, FitsNodeHead, FitsTreeHeader, ReadsBack, HeaderReadsBack, descriptor_bytes, offsets_bytes, tree_header_bytes, header_items, header_head, head_of}
use Rattle.btree_node.specs.declared.codec.NodeHead.{NodeHead}
use Rattle.btree_node.specs.declared.codec.TreeHeader.{TreeHeader}
use Rattle.btree_node.proofs.Items.{length-items, item-is}
use Rattle.btree_node.proofs.Offsets.{offset_at}
use Rattle.btree_node.proofs.Printing.{length-descriptor_bytes, length-offsets_bytes, offsets_split, offsets_last, length-tree_header}

-- the fields of the descriptor
record Described (bytes : List ℕ) (head : NodeHead) (count : ℕ) : Type 0 where
  next : big_at 4 bytes 0 ≡ head.next
  back : big_at 4 bytes 4 ≡ head.previous
  kind : get_or bytes 8 0 ≡ head.kind
  height : get_or bytes 9 0 ≡ head.height
  count_is : big_at 2 bytes 10 ≡ count

described : (bytes : List ℕ) (head : NodeHead) (count : ℕ) (rest : List ℕ) → FitsNodeHead head → count < 65536 → bytes ≡ descriptor_bytes head count ++ rest → Described bytes head count
unfolding descriptor_bytes
described bytes head count rest fits few is =
    let nested : bytes ≡ big 4 head.next ++ (big 4 head.previous ++ (head.kind ∷ (head.height ∷ (big 2 count ++ (big 2 0 ++ rest))))) = is ∙ simp append_assoc in
    let at_next : Behind bytes (big 4 head.next ++ (big 4 head.previous ++ (head.kind ∷ (head.height ∷ (big 2 count ++ (big 2 0 ++ rest)))))) 0 = record { is = nested } in
    let at_back = behind_number 4 head.next at_next in
    let at_kind = behind_number 4 head.previous at_back in
    let at_height = behind_byte head.kind at_kind in
    let at_count = behind_byte head.height at_height in
    record {
      next = number_here _ 4 head.next fits.next at_next;
      back = number_here _ 4 head.previous fits.previous at_back;
      kind = byte_here _ head.kind at_kind;
      height = byte_here _ head.height at_height;
      count_is = number_here _ 2 count few at_count;
    }

module _ (size : ℕ) (bytes : List ℕ) (head : NodeHead) (records : List (List ℕ)) (most : size ≤ 32768) (fits : FitsNodeHead head) (node : IsPacked size bytes head records) where
  front : List ℕ
  front = descriptor_bytes head (length records)

  table : List ℕ
  table = offsets_bytes 14 records

  -- where the record with this number begins
  place : ℕ → ℕ
  place i = 14 + length (concat (take i records))

  lengths : 14 + length (concat records) + length node.free + 2 * (length records + 1) ≡ size
  unfolding front table
  lengths =
      omega (
        arith,
        node.long,
        ap length node.is,
        length-append (front ++ concat records) (node.free ++ table),
        length-append front (concat records),
        length-append node.free table,
        length-descriptor_bytes head (length records),
        length-offsets_bytes 14 records,
      )

  few : length records < 65536
  few = omega (arith, lengths)

  facts : Described bytes head (length records)
  unfolding front table
  facts = described bytes head (length records) (concat records ++ (node.free ++ table)) fits few (node.is ∙ append_assoc front (concat records) (node.free ++ table))

  pub count_is : record_count bytes ≡ length records
  unfolding record_count
  count_is = facts.count_is

  -- the records before one and from it on
  cut : (i : ℕ) → concat records ≡ concat (take i records) ++ concat (drop i records)
  cut i = ap concat (sym (take-append-drop i records)) ∙ concat-append (take i records) (drop i records)

  place_below : (i : ℕ) → place i ≤ 14 + length (concat records)
  unfolding place
  place_below i = omega (arith, ap length (cut i), length-append (concat (take i records)) (concat (drop i records)))

  offset_is : (i : ℕ) → i ≤ length records → offset bytes i ≡ place i
  unfolding front table place
  offset_is i within =
      let at : ℕ = 14 + length (concat (take i records)) in
      let split = offsets_split 14 (take i records) (drop i records) in
      let last = offsets_last at (drop i records) in
      let taken : length (take i records) ≡ i = length-take-le i records within in
      let table_is : table ≡ (last.0 ++ big 2 at) ++ split.0 =
      ap (offsets_bytes 14) (sym (take-append-drop i records)) ∙ split.2 ∙ ap (λ (l : List ℕ). l ++ split.0) last.2 in
      let before : List ℕ = (front ++ concat records) ++ (node.free ++ last.0) in
      let whole : bytes ≡ before ++ (big 2 at ++ split.0) = node.is ∙ ap (λ (l : List ℕ). (front ++ concat records) ++ (node.free ++ l)) table_is ∙ simp append_assoc in
      let spot : length before + 2 * (i + 1) ≡ length bytes =
      omega (arith, ap length whole, length-append before (big 2 at ++ split.0), length-append (big 2 at) split.0, length-number_bytes Big 2 at, split.1, taken) in
      let low = place_below i in
      let all = lengths in
      offset_at bytes i (length before) spot
      ∙ ap (λ (l : List ℕ). big_at 2 l (length before)) whole
      ∙ number_at-number_bytes Big 2 at (length before) before split.0 refl (omega arith)

  -- where a record begins, and where free space does
  pub record_begins : (i : ℕ) → i ≤ length records → offset bytes i ≡ 14 + length (concat (take i records))
  unfolding place
  record_begins i within = offset_is i within

  -- one record more before a place
  next_place : (i : ℕ) → i < length records → place (i + 1) ≡ place i + length (get_or records i [])
  unfolding place
  next_place i inside =
      let more : concat (take (i + 1) records) ≡ concat (take i records) ++ get_or records i [] =
      ap concat (take_more records i [] inside) ∙ concat-append (take i records) (get_or records i [] ∷ []) ∙ ap (λ (l : List ℕ). concat (take i records) ++ l) (append-nil (get_or records i [])) in
      omega (arith, ap length more, length-append (concat (take i records)) (get_or records i []))

  last_place : place (length records) ≡ 14 + length (concat records)
  unfolding place
  last_place = ap (λ (l : List (List ℕ)). 14 + length (concat l)) (take_all (length records) records (omega arith))

  first_place : 14 ≤ place 0
  unfolding place
  first_place = omega arith

  well_formed : IsNode bytes
  well_formed = record {
    first = omega (arith, offset_is 0 (omega arith), first_place);
    rising = λ i low.
        let inside : i < length records = omega (arith, count_is) in
        omega (arith, offset_is i (omega arith), offset_is (i + 1) (omega arith), next_place i inside);
    inside = omega (arith, count_is, ap (offset bytes) count_is, offset_is (length records) (omega arith), last_place, lengths);
  }

  record_is : (i : ℕ) → i < length records → slice_range bytes (place i) (place (i + 1)) ≡ get_or records i []
  unfolding front table place
  record_is i inside =
      let item : List ℕ = get_or records i [] in
      let rest : List ℕ = concat (drop (i + 1) records) in
      let from : concat (drop i records) ≡ item ++ rest = ap concat (drop_more records i [] inside) in
      let whole : bytes ≡ (front ++ concat (take i records)) ++ (item ++ (rest ++ (node.free ++ table))) =
      node.is ∙ ap (λ (l : List ℕ). (front ++ l) ++ (node.free ++ table)) (cut i ∙ ap (λ (l : List ℕ). concat (take i records) ++ l) from) ∙ simp append_assoc in
      let long : length (front ++ concat (take i records)) ≡ place i = length-append front (concat (take i records)) ∙ ap (λ (n : ℕ). n + length (concat (take i records))) (length-descriptor_bytes head (length records)) in
      let wide : place (i + 1) - place i ≡ length item = omega (arith, next_place i inside) in
      ap (λ (l : List ℕ). take (place (i + 1) - place i) (drop (place i) l)) whole
      ∙ ap (λ (l : List ℕ). take (place (i + 1) - place i) l) (drop_at (front ++ concat (take i records)) (item ++ (rest ++ (node.free ++ table))) (place i) long)
      ∙ take_at item (rest ++ (node.free ++ table)) (place (i + 1) - place i) (sym wide)

  items_are : items bytes ≡ records
  items_are =
      let long : length (items bytes) ≡ length records = length-items bytes ∙ count_is in
      ext_get_or [] (items bytes) records long (λ i low.
      let inside : i < length records = omega (arith, long) in
      item-is bytes i (omega (arith, count_is))
      ∙ ap (λ (n : ℕ). slice_range bytes n (offset bytes (i + 1))) (offset_is i (omega arith))
      ∙ ap (λ (n : ℕ). slice_range bytes (place i) n) (offset_is (i + 1) (omega arith))
      ∙ record_is i inside)

  pub reads_back : ReadsBack bytes head records
  unfolding kind_of height_of next_of back_of
  reads_back = record {
    is_node = record {
      well_formed = well_formed;
      has_kind = ap (λ (n : ℕ). cast_signed w8 n) facts.kind;
      has_height = facts.height;
    };
    items = items_are;
    next = facts.next;
    back = facts.back;
  }

-- the bytes of a header node from the header record on
module _ (tree : TreeHeader) (is_used : ℕ → Bool) (bytes : List ℕ) (least : 256 ≤ tree.node_size) (most : tree.node_size ≤ 32768) (fits : FitsTreeHeader tree) (node : IsHeaderOf tree is_used bytes) where
  map_is : List ℕ
  map_is = bits_bytes is_used 0 (tree.node_size - 256)

  tail : List ℕ
  tail = node.free ++ offsets_bytes 14 (header_items tree is_used)

  behind : List ℕ
  behind = replicate 128 0 ++ (map_is ++ tail)

  at_header : Behind bytes (tree_header_bytes tree ++ behind) 14
  unfolding header_items map_is tail behind
  at_header =
      let front : List ℕ = descriptor_bytes header_head 3 in
      let whole : bytes ≡ front ++ (tree_header_bytes tree ++ behind) = node.is ∙ simp (append_assoc, append-nil) in
      record { is = ap (λ (l : List ℕ). drop 14 l) whole ∙ drop_at front (tree_header_bytes tree ++ behind) 14 (length-descriptor_bytes header_head 3) }

  nested : List ℕ
  nested =
      big 2 tree.depth ++ (big 4 tree.root ++ (big 4 tree.leaf_records ++ (big 4 tree.first_leaf ++ (big 4 tree.last_leaf ++ (
      big 2 tree.node_size ++ (big 2 tree.max_key_length ++ (big 4 tree.total_nodes ++ (big 4 tree.free_nodes ++ (big 2 0 ++ (
      big 4 tree.clump_size ++ (tree.tree_type ∷ (tree.key_compare_type ∷ (big 4 tree.attributes ++ (replicate 64 0 ++ behind))))))))))))))

  at_nested : Behind bytes nested 14
  unfolding tree_header_bytes nested
  at_nested = record { is = at_header.is ∙ simp append_assoc }

  head_is : tree_head bytes ≡ head_of tree
  unfolding nested
  head_is =
      let at_depth : Behind bytes nested 14 = at_nested in
      let depth = number_here _ 2 tree.depth fits.depth at_depth in
      let at_root = behind_number 2 tree.depth at_depth in
      let root = number_here _ 4 tree.root fits.root at_root in
      let at_records = behind_number 4 tree.root at_root in
      let records = number_here _ 4 tree.leaf_records fits.leaf_records at_records in
      let at_first = behind_number 4 tree.leaf_records at_records in
      let first = number_here _ 4 tree.first_leaf fits.first_leaf at_first in
      let at_last = behind_number 4 tree.first_leaf at_first in
      let last = number_here _ 4 tree.last_leaf fits.last_leaf at_last in
      let at_size = behind_number 4 tree.last_leaf at_last in
      let size = number_here _ 2 tree.node_size (omega arith) at_size in
      let at_key = behind_number 2 tree.node_size at_size in
      let key = number_here _ 2 tree.max_key_length fits.max_key_length at_key in
      let at_total = behind_number 2 tree.max_key_length at_key in
      let total = number_here _ 4 tree.total_nodes fits.total_nodes at_total in
      let at_free = behind_number 4 tree.total_nodes at_total in
      let free = number_here _ 4 tree.free_nodes fits.free_nodes at_free in
      let at_spare = behind_number 4 tree.free_nodes at_free in
      let at_clump = behind_number 2 0 at_spare in
      let at_type = behind_number 4 tree.clump_size at_clump in
      let at_compare = behind_byte tree.tree_type at_type in
      let compare = byte_here _ tree.key_compare_type at_compare in
      let at_attributes = behind_byte tree.key_compare_type at_compare in
      let attributes = number_here _ 4 tree.attributes fits.attributes at_attributes in
      λ i. record {
        depth = depth i;
        root = root i;
        leaf_records = records i;
        first = first i;
        last = last i;
        node_size = size i;
        max_key = key i;
        total = total i;
        free = free i;
        compare = compare i;
        attributes = attributes i;
      }

  map_read : slice_range bytes 248 (tree.node_size - 8) ≡ bits_bytes is_used 0 (tree.node_size - 256)
  unfolding map_is behind
  map_read =
      let at_data : Behind bytes (replicate 128 0 ++ (map_is ++ tail)) 120 = behind_part (tree_header_bytes tree) 106 (length-tree_header tree) at_header in
      let at_map : Behind bytes (map_is ++ tail) 248 = behind_part (replicate 128 0) 128 refl at_data in
      let wide : tree.node_size - 8 - 248 ≡ tree.node_size - 256 = omega arith in
      ap (λ (n : ℕ). take n (drop 248 bytes)) wide ∙ part_here tail map_is (tree.node_size - 256) (length-bits_bytes is_used 0 (tree.node_size - 256)) at_map

  pub header_reads_back : HeaderReadsBack bytes tree is_used
  unfolding header_items record_count
  header_reads_back =
      let plain : FitsNodeHead header_head = record { next = omega arith; previous = omega arith } in
      let back = reads_back tree.node_size bytes header_head (header_items tree is_used) most plain node in
      record {
        node = (back.is_node, sym (length-items bytes) ∙ ap length back.items);
        next = back.next;
        head = head_is;
        map = map_read;
      }
