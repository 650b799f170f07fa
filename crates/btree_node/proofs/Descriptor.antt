-- The descriptor set, and a node made empty.
use Rattle.std.proofs.Common.{◌≡◌, ◌≢◌, ℕ, ℤ, ◌+◌, ◌-◌, ◌^◌, ◌<◌, ◌≤◌, List, [], ◌++◌, map, length, take, drop, get_or, set, replicate, sym, ◌∙◌, ap, subst, arith}
use Rattle.std.proofs.lemmas.Int.{to_z-of_z}
use Rattle.std.proofs.lemmas.List.{ext_get_or, drop_at, drop-drop, length-take, length-append, get_or-drop, get_or-set_other, get_or-set_same, get_or-replicate}
use Rattle.std.proofs.Math.ListN.{length-set, length-replicate}
use Rattle.std.specs.Int.{cast_signed, cast_unsigned, w8}
use Rattle.std.specs.List.{slice_range, range_with_len}
use mir.Val.{SFits}
use Rattle.hx_bytes.specs.Field.{put_at, big_at, big, number_at}
use Rattle.hx_bytes.specs.declared.fields.Order.TheVariants.{Big}
use Rattle.hx_bytes.proofs.Laws.{length-number_bytes, length-put_at}
use Rattle.btree_node.specs.Node.{offset, record_count, items, kind_of, height_of, next_of, back_of, IsNode, SetsLinks, ClearsNode, empty_node}
use Rattle.btree_node.proofs.Places.{two_bytes, same_two, same_four, number-put, put-below, put-above}
use Rattle.btree_node.proofs.Offsets.{offset_at, same_offset}
use Rattle.btree_node.proofs.Items.{length-items, item-is, offsets_rise, same_range}

drop-put : (bytes new : List ℕ) (at : ℕ) → at ≤ length bytes → drop (at + length new) (put_at bytes at new) ≡ drop (at + length new) bytes
drop-put bytes new at within = drop_at (take at bytes ++ new) (drop (at + length new) bytes) (at + length new) (omega (arith, length-append (take at bytes) new, length-take at bytes))

-- nodes whose bytes differ only before the number of records have the same records
module _ (old new : List ℕ) (cut : IsNode old) (size : length new ≡ length old) (same : (k : ℕ) → 10 ≤ k → get_or new k 0 ≡ get_or old k 0) where
  counts : record_count new ≡ record_count old
  unfolding record_count
  counts = same_two old new 10 10 (same 10 (omega arith)) (same 11 (omega arith))

  end_is : offset old 0 ≤ offset old (record_count old)
  end_is = offsets_rise old cut 0 (record_count old) (omega arith) (omega arith)

  offsets : (j : ℕ) → j ≤ record_count old → offset new j ≡ offset old j
  offsets j within =
      let whole = cut.inside in
      let low = end_is in
      let first = cut.first in
      same_offset old new j size (omega arith) (λ k here. same k (omega arith))

  pub same_items : items new ≡ items old
  same_items =
      let count = counts in
      let new_long = length-items new in
      let old_long = length-items old in
      ext_get_or [] (items new) (items old) (omega arith) (λ k low.
      let from = offsets k (omega arith) in
      let to = offsets (k + 1) (omega arith) in
      let first = cut.first in
      let front = offsets_rise old cut 0 k (omega arith) (omega arith) in
      let back = offsets_rise old cut (k + 1) (record_count old) (omega arith) (omega arith) in
      let whole = cut.inside in
      item-is new k (omega arith)
      ∙ same_range old new (offset old k) (offset old (k + 1)) (offset new k) (offset new (k + 1)) (omega arith) (omega arith) (omega arith)
      (λ m within. ap (λ n. get_or new (n + m) 0) from ∙ same (offset old k + m) (omega arith))
      ∙ sym (item-is old k (omega arith)))

  pub same_cut : IsNode new
  same_cut =
      let count = counts in
      let last : offset new (record_count new) ≡ offset old (record_count old) = ap (λ n. offset new n) count ∙ offsets (record_count old) (omega arith) in
      record {
        first = omega (arith, offsets 0 (omega arith), cut.first);
        rising = λ k low. omega (arith, offsets k (omega arith), offsets (k + 1) (omega arith), cut.rising k (omega arith));
        inside = omega (arith, last, cut.inside);
      }

pub sets_links : (old mid new : List ℕ) (next back : ℕ) → 512 ≤ length old → next < 2 ^ 32 → back < 2 ^ 32 → mid ≡ put_at old 0 (big 4 next) → new ≡ put_at mid 4 (big 4 back) → SetsLinks next back old new
unfolding kind_of height_of next_of back_of
sets_links old mid new next back size next_fits back_fits first second =
    let four : length (big 4 next) ≡ 4 = length-number_bytes Big 4 next in
    let four_more : length (big 4 back) ≡ 4 = length-number_bytes Big 4 back in
    let mid_long : length mid ≡ length old = ap length first ∙ length-put_at old (big 4 next) 0 (omega arith) in
    let new_long : length new ≡ length old = ap length second ∙ length-put_at mid (big 4 back) 4 (omega arith) ∙ mid_long in
    let kept : (k : ℕ) → k < 4 → get_or new k 0 ≡ get_or mid k 0 = λ k low. ap (λ l. get_or l k 0) second ∙ put-below mid (big 4 back) 4 k (omega arith) low in
    let rest : (k : ℕ) → 8 ≤ k → get_or new k 0 ≡ get_or old k 0 = λ k high.
    ap (λ l. get_or l k 0) second ∙ put-above mid (big 4 back) 4 k (omega arith) (omega arith)
    ∙ ap (λ l. get_or l k 0) first ∙ put-above old (big 4 next) 0 k (omega arith) (omega arith) in
    let drop_mid : drop 4 mid ≡ drop 4 old = ap (λ l. drop 4 l) first ∙ subst (λ n. drop n (put_at old 0 (big 4 next)) ≡ drop n old) {x = 0 + length (big 4 next)} {y = 4} (omega arith) (drop-put old (big 4 next) 0 (omega arith)) in
    let drop_new : drop 8 new ≡ drop 8 mid = ap (λ l. drop 8 l) second ∙ subst (λ n. drop n (put_at mid 4 (big 4 back)) ≡ drop n mid) {x = 4 + length (big 4 back)} {y = 8} (omega arith) (drop-put mid (big 4 back) 4 (omega arith)) in
    record {
      next = same_four mid new 0 (λ k low. kept (0 + k) (omega arith)) ∙ ap (λ l. big_at 4 l 0) first ∙ number-put 4 next 0 old (omega arith) next_fits;
      back = ap (λ l. big_at 4 l 4) second ∙ number-put 4 back 4 mid (omega arith) back_fits;
      size = new_long;
      rest = drop_new ∙ sym (drop-drop 4 4 mid) ∙ ap (λ l. drop 4 l) drop_mid ∙ drop-drop 4 4 old;
      kind = ap (λ n. cast_signed w8 n) (rest 8 (omega arith));
      height = rest 9 (omega arith);
      items = λ cut. same_items old new cut new_long (λ k high. rest k (omega arith));
      well_formed = λ cut. same_cut old new cut new_long (λ k high. rest k (omega arith));
    }

module _ (size : ℕ) (kind : ℤ) (height : ℕ) (fits : 512 ≤ size) where
  head : List ℕ
  head = set (set (replicate size 0) 8 (cast_unsigned w8 kind)) 9 height

  head_long : length head ≡ size
  unfolding head
  head_long = length-set (set (replicate size 0) 8 (cast_unsigned w8 kind)) 9 height ∙ length-set (replicate size 0) 8 (cast_unsigned w8 kind) ∙ length-replicate {A = ℕ} size 0

  long : length (empty_node size kind height) ≡ size
  unfolding empty_node head
  long = length-put_at head (big 2 14) (size - 2) (omega (arith, head_long, length-number_bytes Big 2 14)) ∙ head_long

  byte : (k : ℕ) → k < size - 2 → get_or (empty_node size kind height) k 0 ≡ get_or head k 0
  unfolding empty_node head
  byte k low = put-below head (big 2 14) (size - 2) k (omega (arith, head_long)) low

  zero_byte : (k : ℕ) → k < size - 2 → k ≢ 8 → k ≢ 9 → get_or (empty_node size kind height) k 0 ≡ 0
  unfolding head
  zero_byte k low first second =
      byte k low
      ∙ get_or-set_other (set (replicate size 0) 8 (cast_unsigned w8 kind)) 9 k height 0 second
      ∙ get_or-set_other (replicate size 0) 8 k (cast_unsigned w8 kind) 0 first
      ∙ get_or-replicate size k 0 0 (omega arith)

  empty_kind : SFits w8 kind → kind_of (empty_node size kind height) ≡ kind
  unfolding kind_of head
  empty_kind small =
      ap (λ n. cast_signed w8 n)
      (byte 8 (omega arith)
      ∙ get_or-set_other (set (replicate size 0) 8 (cast_unsigned w8 kind)) 9 8 height 0 (omega arith)
      ∙ get_or-set_same (replicate size 0) 8 (cast_unsigned w8 kind) 0 (omega (arith, length-replicate {A = ℕ} size 0)))
      ∙ to_z-of_z w8 kind small

  empty_height : height_of (empty_node size kind height) ≡ height
  unfolding height_of head
  empty_height = byte 9 (omega arith) ∙ get_or-set_same (set (replicate size 0) 8 (cast_unsigned w8 kind)) 9 height 0 (omega (arith, length-replicate {A = ℕ} size 0, length-set (replicate size 0) 8 (cast_unsigned w8 kind)))

  empty_count : record_count (empty_node size kind height) ≡ 0
  unfolding record_count
  empty_count = omega (arith, two_bytes (empty_node size kind height) 10, zero_byte 10 (omega arith) (omega arith) (omega arith), zero_byte 11 (omega arith) (omega arith) (omega arith))

  empty_offset : offset (empty_node size kind height) 0 ≡ 14
  unfolding empty_node head
  empty_offset = offset_at (empty_node size kind height) 0 (size - 2) (omega (arith, long)) ∙ number-put 2 14 (size - 2) head (omega (arith, head_long)) (omega arith)

  empty_items : items (empty_node size kind height) ≡ []
  unfolding items
  empty_items = ap (λ n. map (λ i. slice_range (empty_node size kind height) (offset (empty_node size kind height) i) (offset (empty_node size kind height) (i + 1))) (range_with_len 0 n)) empty_count

  four_zeros : (at : ℕ) → at + 3 < 8 → big_at 4 (empty_node size kind height) at ≡ 0
  unfolding number_at
  four_zeros at low =
      let each : (k : ℕ) → k < 4 → get_or (drop at (empty_node size kind height)) k 0 ≡ 0 = λ k in_four. get_or-drop at (empty_node size kind height) k 0 ∙ zero_byte (at + k) (omega arith) (omega arith) (omega arith) in
      omega (arith, each 0 (omega arith), each 1 (omega arith), each 2 (omega arith), each 3 (omega arith))

  pub clears_node : (old new : List ℕ) → length old ≡ size → SFits w8 kind → new ≡ empty_node size kind height → ClearsNode kind height old new
  unfolding next_of back_of
  clears_node old new is small made =
      subst (λ l. ClearsNode kind height old l) (sym made) (record {
        is_node = record {
          well_formed = record {
            first = omega (arith, empty_offset);
            rising = λ i low. absurd (omega (arith, empty_count));
            inside = omega (arith, empty_count, ap (λ n. offset (empty_node size kind height) n) empty_count, empty_offset, long);
          };
          has_kind = empty_kind small;
          has_height = empty_height;
        };
        items = empty_items;
        next = four_zeros 0 (omega arith);
        back = four_zeros 4 (omega arith);
        size = long ∙ sym is;
        bytes = ap (λ n. empty_node n kind height) (sym is);
      })
