use Rattle.std.proofs.Common.{◌≡◌, ◌<◌, ◌+◌, true, false, List, length, sym, ◌∙◌, arith}
use Rattle.fork_map.specs.Blocks.{blocks_of}
use Rattle.btree_node.specs.Levels.{Pair}
use Rattle.hfs_volume.specs.Forks.{is_full}
use Rattle.hfs_volume.specs.Records.{Attribute}
use Rattle.hfs_volume.specs.Values.{is_record_of}
use Rattle.fsck_core.specs.Attributes.{attribute_at, rest_at, is_one_attribute}
use Rattle.fsck_core.proofs.ValueLaws.{follows_first, follows_rest, follows_more, follow_stops, follow_ends, key_long}
use Rattle.fsck_core.proofs.ValueOrder.{one_attribute_is, nothing_left, nothing_behind, rest_more}
use Rattle.fsck_core.proofs.values.follow_value.Goals as goal

pub overflow_add-place : goal.overflow_add-place
overflow_add-place c = omega (arith, c.requires, c.len-end.ensures, c.len-end.type_inv)

pub loop-place-init : goal.loop-place-init
loop-place-init c = record {
  above = omega arith;
  most = omega (arith, c.requires);
  goes = λ keyed. follows_first (length (blocks_of c.args.fork.now.extents.extents)) (is_full c.args.fork.now.extents.extents) (rest_at c.args.attributes.now (c.args.at + 1) (attribute_at c.args.attributes.now c.args.at)) _
      c.count_blocks.ensures.value c.has_no_room.ensures;
}

-- whether the record at the place of the loop is of the attribute
pub returns-then-not-is_one_attribute : goal.returns-then-not-is_one_attribute
returns-then-not-is_one_attribute c keyed =
    let pairs : List Pair = c.args.attributes.now in
    let own : Attribute = attribute_at pairs c.args.at in
    let inside : c.loop-place.place < length pairs = omega (arith, c.loop-place-test.true, c.len-end.ensures) in
    let differ : is_record_of own.id own.name (attribute_at pairs c.loop-place.place) ≡ false =
    sym (one_attribute_is pairs c.loop-place.place c.args.at) ∙ sym (λ i. is_one_attribute (c.key.ensures i) (c.key-in-loop-place.ensures i))
    ∙ sym (c.is_one_attribute.ensures (key_long pairs keyed c.loop-place.place c.key.result.now inside c.key.ensures) (key_long pairs keyed c.args.at c.key-in-loop-place.result.now c.requires c.key-in-loop-place.ensures)) ∙ c.if-not-is_one_attribute.true in
    follow_ends (length (blocks_of c.args.fork.now.extents.extents)) (is_full c.args.fork.now.extents.extents) (rest_at pairs (c.args.at + 1) own) c.loop-place.front (rest_at pairs c.loop-place.place own)
    (nothing_left pairs keyed c.args.at c.loop-place.place c.loop-place.invariant.above inside differ) (c.loop-place.invariant.goes keyed)

pub returns-in_default : goal.returns-in_default
returns-in_default c keyed =
    let pairs : List Pair = c.args.attributes.now in
    let own : Attribute = attribute_at pairs c.args.at in
    let inside : c.loop-place.place < length pairs = omega (arith, c.loop-place-test.true, c.len-end.ensures) in
    let same : is_record_of own.id own.name (attribute_at pairs c.loop-place.place) ≡ true =
    sym (one_attribute_is pairs c.loop-place.place c.args.at) ∙ sym (λ i. is_one_attribute (c.key.ensures i) (c.key-in-loop-place.ensures i))
    ∙ sym (c.is_one_attribute.ensures (key_long pairs keyed c.loop-place.place c.key.result.now inside c.key.ensures) (key_long pairs keyed c.args.at c.key-in-loop-place.result.now c.requires c.key-in-loop-place.ensures)) ∙ c.if-not-is_one_attribute.false in
    follow_stops (length (blocks_of c.args.fork.now.extents.extents)) (is_full c.args.fork.now.extents.extents) (rest_at pairs (c.args.at + 1) own) c.loop-place.front (attribute_at pairs c.loop-place.place) (rest_at pairs (c.loop-place.place + 1) own)
    c.in_ok-next.field-0 (c.in_ok-next.ensures keyed) c.in_default.is
    (follows_rest (length (blocks_of c.args.fork.now.extents.extents)) (is_full c.args.fork.now.extents.extents) (rest_at pairs (c.args.at + 1) own) c.loop-place.front _ _ (rest_more pairs keyed own c.loop-place.place inside same) (c.loop-place.invariant.goes keyed))

pub loop-place-smaller : goal.loop-place-smaller
loop-place-smaller c = omega (arith, c.loop-place-test.true, c.len-end.ensures)

pub loop-place-preserved : goal.loop-place-preserved
loop-place-preserved c = record {
  above = omega (arith, c.loop-place.invariant.above);
  most = omega (arith, c.loop-place-test.true, c.len-end.ensures);
  goes = λ keyed.
      let pairs : List Pair = c.args.attributes.now in
      let own : Attribute = attribute_at pairs c.args.at in
      let inside : c.loop-place.place < length pairs = omega (arith, c.loop-place-test.true, c.len-end.ensures) in
      let same : is_record_of own.id own.name (attribute_at pairs c.loop-place.place) ≡ true =
      sym (one_attribute_is pairs c.loop-place.place c.args.at) ∙ sym (λ i. is_one_attribute (c.key.ensures i) (c.key-in-loop-place.ensures i))
      ∙ sym (c.is_one_attribute.ensures (key_long pairs keyed c.loop-place.place c.key.result.now inside c.key.ensures) (key_long pairs keyed c.args.at c.key-in-loop-place.result.now c.requires c.key-in-loop-place.ensures)) ∙ c.if-not-is_one_attribute.false in
      follows_more (length (blocks_of c.args.fork.now.extents.extents)) (is_full c.args.fork.now.extents.extents) (rest_at pairs (c.args.at + 1) own) c.loop-place.front c.in-Some.next (attribute_at pairs c.loop-place.place) (rest_at pairs (c.loop-place.place + 1) own)
      c.in_ok-next.field-0 (c.in_ok-next.ensures keyed) c.in-Some.is
      (follows_rest (length (blocks_of c.args.fork.now.extents.extents)) (is_full c.args.fork.now.extents.extents) (rest_at pairs (c.args.at + 1) own) c.loop-place.front _ _ (rest_more pairs keyed own c.loop-place.place inside same) (c.loop-place.invariant.goes keyed));
}

pub returns : goal.returns
returns c keyed =
    let pairs : List Pair = c.args.attributes.now in
    let own : Attribute = attribute_at pairs c.args.at in
    follow_ends (length (blocks_of c.args.fork.now.extents.extents)) (is_full c.args.fork.now.extents.extents) (rest_at pairs (c.args.at + 1) own) c.loop-place.front (rest_at pairs c.loop-place.place own)
    (nothing_behind pairs keyed own c.loop-place.place (omega (arith, c.loop-place-test.false, c.len-end.ensures))) (c.loop-place.invariant.goes keyed)
