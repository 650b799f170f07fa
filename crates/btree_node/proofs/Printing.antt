-- The parts of a node's bytes: their lengths, and the table of offsets entry by entry.
use Rattle.std.proofs.Common.{◌≡◌, ℕ, Bool, ◌+◌, ◌-◌, ◌*◌, ◌≤◌, List, [], ◌∷◌, ◌++◌, length, take, drop, get_or, replicate, refl, sym, ◌∙◌, ap, subst, arith}
use Rattle.std.proofs.lemmas.List.{take_more, drop_more, append-nil, length-append, drop_all, get_or_read, drop_at, take_at, length-take-le, length-drop, append_assoc}
use Rattle.std.proofs.lemmas.List.Folds.{concat-append}
use Rattle.std.specs.List.{concat}
use Rattle.hx_bytes.specs.Field.{big}
use Rattle.hx_bytes.specs.declared.fields.Order.TheVariants.{Big}
use Rattle.hx_bytes.proofs.Laws.{length-number_bytes}
use Rattle.btree_node.specs.Codec.{IsPacked, IsHeaderOf, HasRoomFor, node_over, descriptor_bytes, offsets_bytes, tree_header_bytes, header_items}
use Rattle.btree_node.specs.declared.codec.NodeHead.{NodeHead}
use Rattle.btree_node.specs.declared.codec.TreeHeader.{TreeHeader}
use Rattle.flag_rows.specs.Bitmap.{bits_bytes}
use Rattle.flag_rows.proofs.Bitmaps.{length-bits_bytes}

pub length-descriptor_bytes : (head : NodeHead) (count : ℕ) → length (descriptor_bytes head count) ≡ 14
unfolding descriptor_bytes
length-descriptor_bytes head count =
    simp (length-append, length-number_bytes Big) (omega arith)

pub length-offsets_bytes : (at : ℕ) (items : List (List ℕ)) → length (offsets_bytes at items) ≡ 2 * (length items + 1)
unfolding offsets_bytes
length-offsets_bytes at [] = length-number_bytes Big 2 at
length-offsets_bytes at (item ∷ items) =
    omega (arith, length-append (offsets_bytes (at + length item) items) (big 2 at), length-offsets_bytes (at + length item) items, length-number_bytes Big 2 at)

-- the table with all records behind, and with none
pub offsets_start : (items : List (List ℕ)) (end : ℕ) (out : List ℕ) → out ++ big 2 end ≡ out ++ offsets_bytes end (drop (length items) items)
unfolding offsets_bytes
offsets_start items end out = ap (λ (l : List (List ℕ)). out ++ offsets_bytes end l) (sym (drop_all (length items) items (omega arith)))

-- what is known of an entry of the table, one record before another
pub record OffsetStep (items : List (List ℕ)) (left k at len : ℕ) : Type 0 where
  pub room : len ≤ at
  pub place : at - len ≡ 14 + length (concat (take k items))
  pub table : offsets_bytes (at - len) (drop k items) ≡ offsets_bytes at (drop left items) ++ big 2 (at - len)

pub offset_step : (items : List (List ℕ)) (left k at len : ℕ) (item : List ℕ) → left ≡ k + 1 → left ≤ length items → item ≡ get_or items k item → len ≡ length item
    → at ≡ 14 + length (concat (take left items)) → OffsetStep items left k at len
unfolding offsets_bytes
offset_step items left k at len item more inside is long place =
    let same : item ≡ get_or items k [] = get_or_read items k item (omega arith) is [] in
    let front : concat (take left items) ≡ concat (take k items) ++ item =
    ap (λ (n : ℕ). concat (take n items)) more ∙ ap concat (take_more items k [] (omega arith)) ∙ concat-append (take k items) (get_or items k [] ∷ [])
    ∙ ap (λ (l : List ℕ). concat (take k items) ++ l) (append-nil (get_or items k []) ∙ sym same) in
    let longer : length (concat (take left items)) ≡ length (concat (take k items)) + length item = ap length front ∙ length-append (concat (take k items)) item in
    let rest : drop k items ≡ item ∷ drop left items =
    drop_more items k [] (omega arith) ∙ ap (λ (x : List ℕ). x ∷ drop (k + 1) items) (sym same) ∙ ap (λ (n : ℕ). item ∷ drop n items) (sym more) in
    record {
      room = omega arith;
      place = omega arith;
      table =
          ap (offsets_bytes (at - len)) rest
          ∙ ap (λ (n : ℕ). offsets_bytes n (drop left items) ++ big 2 (at - len)) {x = at - len + length item} {y = at} (omega arith);
    }

-- the table of all records, by the time that none is left
pub offsets_end : (items : List (List ℕ)) (at left : ℕ) → left ≤ 0 → at ≡ 14 + length (concat (take left items)) → offsets_bytes at (drop left items) ≡ offsets_bytes 14 items
offsets_end items at left none place =
    let zero_left : left ≡ 0 = omega arith in
    ap (λ (n : ℕ). offsets_bytes at (drop n items)) zero_left
    ∙ ap (λ (n : ℕ). offsets_bytes n items) (place ∙ ap (λ (n : ℕ). 14 + length (concat (take n items))) zero_left)

-- what is written over a node with the same descriptor and records is that node
pub node_over_same : (size : ℕ) (head : NodeHead) (records : List (List ℕ)) (bytes : List ℕ) → IsPacked size bytes head records → node_over size head records bytes ≡ bytes
unfolding node_over
node_over_same size head records bytes node =
    let front = descriptor_bytes head (length records) ++ concat records in
    let table = offsets_bytes 14 records in
    let used = 14 + length (concat records) in
    let behind = size - 2 * (length records + 1) in
    let front_long : length front ≡ used = length-append (descriptor_bytes head (length records)) (concat records) ∙ ap (λ (n : ℕ). n + length (concat records)) (length-descriptor_bytes head (length records)) in
    let whole : length front + (length node.free + length table) ≡ size =
    sym (length-append front (node.free ++ table) ∙ ap (λ (n : ℕ). length front + n) (length-append node.free table)) ∙ sym (ap length node.is) ∙ node.long in
    let table_long = length-offsets_bytes 14 records in
    let rest : drop used bytes ≡ node.free ++ table = ap (λ (l : List ℕ). drop used l) node.is ∙ drop_at front (node.free ++ table) used front_long in
    let kept : take (behind - used) (drop used bytes) ≡ node.free =
    ap (λ (l : List ℕ). take (behind - used) l) rest ∙ take_at node.free table (behind - used) (omega arith) in
    ap (λ (l : List ℕ). front ++ (l ++ table)) kept ∙ sym node.is

-- what is written over the bytes of a node is a node, where the records have room
pub node_over_is : (size : ℕ) (head : NodeHead) (records : List (List ℕ)) (old : List ℕ) → length old ≡ size → HasRoomFor size records → IsPacked size (node_over size head records old) head records
unfolding node_over
node_over_is size head records old long room =
    let front = descriptor_bytes head (length records) ++ concat records in
    let table = offsets_bytes 14 records in
    let used = 14 + length (concat records) in
    let behind = size - 2 * (length records + 1) in
    let free = take (behind - used) (drop used old) in
    let front_long : length front ≡ used = length-append (descriptor_bytes head (length records)) (concat records) ∙ ap (λ (n : ℕ). n + length (concat records)) (length-descriptor_bytes head (length records)) in
    let free_long : length free ≡ behind - used = length-take-le (behind - used) (drop used old) (omega (arith, length-drop used old)) in
    let whole : length (front ++ (free ++ table)) ≡ length front + (length free + length table) = length-append front (free ++ table) ∙ ap (λ (n : ℕ). length front + n) (length-append free table) in
    let table_long = length-offsets_bytes 14 records in
    record { free = free; is = refl; long = omega arith }

-- the table of records, of which the first ones are apart
pub offsets_split : (at : ℕ) (xs ys : List (List ℕ)) → (tail : List ℕ) × (length tail ≡ 2 * length xs) × (offsets_bytes at (xs ++ ys) ≡ offsets_bytes (at + length (concat xs)) ys ++ tail)
unfolding offsets_bytes
offsets_split at [] ys = ([], refl, ap (λ (n : ℕ). offsets_bytes n ys) {x = at} {y = at + 0} (omega arith) ∙ sym (append-nil (offsets_bytes (at + 0) ys)))
offsets_split at (x ∷ xs) ys =
    let rest = offsets_split (at + length x) xs ys in
    let place : at + length x + length (concat xs) ≡ at + length (x ++ concat xs) = omega (arith, length-append x (concat xs)) in (
      rest.0 ++ big 2 at,
      omega (arith, length-append rest.0 (big 2 at), length-number_bytes Big 2 at, rest.1),
      ap (λ (l : List ℕ). l ++ big 2 at) (rest.2 ∙ ap (λ (n : ℕ). offsets_bytes n ys ++ rest.0) place)
          ∙ append_assoc (offsets_bytes (at + length (x ++ concat xs)) ys) rest.0 (big 2 at),
    )

-- the last entry of a table is where its records begin
pub offsets_last : (at : ℕ) (ys : List (List ℕ)) → (front : List ℕ) × (length front ≡ 2 * length ys) × (offsets_bytes at ys ≡ front ++ big 2 at)
unfolding offsets_bytes
offsets_last at [] = ([], refl, refl)
offsets_last at (y ∷ ys) = (offsets_bytes (at + length y) ys, length-offsets_bytes (at + length y) ys ∙ omega arith, refl)

-- the same bytes and the same records under other names
pub node_renamed : (size : ℕ) (bytes others : List ℕ) (head : NodeHead) (records renamed : List (List ℕ)) → others ≡ bytes → records ≡ renamed → IsPacked size bytes head records → IsPacked size others head renamed
node_renamed size bytes others head records renamed same are node =
    subst (λ (l : List (List ℕ)). IsPacked size others head l) are (subst (λ (b : List ℕ). IsPacked size b head records) (sym same) node)

-- the same for a header node
pub header_renamed : (bytes others : List ℕ) (tree renamed : TreeHeader) (is_used : ℕ → Bool) → others ≡ bytes → tree ≡ renamed → IsHeaderOf tree is_used bytes → IsHeaderOf renamed is_used others
header_renamed bytes others tree renamed is_used same is node =
    subst (λ (t : TreeHeader). IsHeaderOf t is_used others) is (subst (λ (b : List ℕ). IsHeaderOf tree is_used b) (sym same) node)

pub length-tree_header : (tree : TreeHeader) → length (tree_header_bytes tree) ≡ 106
unfolding tree_header_bytes
length-tree_header tree = simp (length-append, length-number_bytes Big) (omega arith)

-- the records of a header node fill it
pub header_items_room : (tree : TreeHeader) (is_used : ℕ → Bool) → 256 ≤ tree.node_size → HasRoomFor tree.node_size (header_items tree is_used)
unfolding header_items
header_items_room tree is_used least =
    let count : ℕ = tree.node_size - 256 in
    let map = bits_bytes is_used 0 count in
    let header : length (tree_header_bytes tree) ≡ 106 = length-tree_header tree in
    omega (arith, header, length-bits_bytes is_used 0 count, length-append map [], length-append (replicate 128 0) (map ++ []), length-append (tree_header_bytes tree) (replicate 128 0 ++ (map ++ [])))
