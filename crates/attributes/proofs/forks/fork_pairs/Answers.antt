use Rattle.std.proofs.Common.{◌≤◌, ◌+◌, ◌∷◌, ◌++◌, List, [], length, map, take, sym, ◌∙◌, ap, subst, arith}
use Rattle.std.proofs.lemmas.List.{get_or_default, take_all}
use Rattle.hx_bytes.specs.declared.extents.Extent.{Extent}
use Rattle.hx_bytes.specs.declared.extents.ForkRecord.{ForkRecord}
use Rattle.fork_map.specs.Blocks.{blocks_of}
use Rattle.cat_records.specs.declared.attribute.AttrRecord.TheVariants.{Fork}
use Rattle.hfs_volume.specs.Forks.{in_use}
use Rattle.overflow.proofs.Cutting.{in_use_used}
use Rattle.overflow.proofs.Stored.{blocks_used}
use Rattle.overflow.specs.Records.{records_for}
use Rattle.attributes.specs.Forks.{SpellParts, SpellsPart, first_part, fork_of, further_part}
use Rattle.attributes.proofs.ForkParts.{spell_next, used_many}
use Rattle.attributes.proofs.forks.fork_pairs.Goals as goal

pub split-requires : goal.split-requires
split-requires c = omega (arith, c.requires.blocks, blocks_used c.args.fork.now, ap (λ l. length (blocks_of l)) (c.as_slice.ensures ∙ c.in_ok-used.ensures))

pub first_record-requires-clause-few : goal.first_record-requires-clause-few
first_record-requires-clause-few c =
    omega (arith, c.requires.blocks, blocks_used c.args.fork.now, used_many (in_use c.args.fork.now) (in_use_used c.args.fork.now), ap (λ (l : List Extent). length l) c.in_ok-used.ensures)

pub first_record-requires-clause-blocks : goal.first_record-requires-clause-blocks
first_record-requires-clause-blocks c = omega (arith, c.requires.blocks, blocks_used c.args.fork.now, ap (λ l. length (blocks_of l)) c.in_ok-used.ensures)

pub loop-more-init : goal.loop-more-init
loop-more-init c =
    let pair = c.in_ok-first_pair.field-0 in
    let first = first_part c.args.size (in_use c.args.fork.now) in
    let spells : SpellsPart c.args.id c.args.name.now first pair =
    subst (λ (f : ForkRecord). SpellsPart c.args.id c.args.name.now (record { start = 0; value = Fork f }) pair) (c.first_record.ensures ∙ ap (fork_of c.args.size) c.in_ok-used.ensures) c.in_ok-first_pair.ensures in
    subst (SpellParts c.args.id c.args.name.now (first ∷ [])) (sym (c.in_ok-push.ensures.items ∙ ap (λ l. l ++ pair ∷ []) c.new-pairs.ensures.items)) (spells, tt)

pub loop-more-preserved : goal.loop-more-preserved
loop-more-preserved c =
    let items = c.as_slice-more-items.result.now in
    let spell = spell_next c.args.id c.args.name.now (first_part c.args.size (in_use c.args.fork.now)) items c.loop-more.more-index c.loop-more.pairs.items _ c.in_ok-pair.pair c.loop-more-test.true c.loop-more.invariant c.in_ok-pair.ensures
    (sym (get_or_default items c.loop-more.more-index _ _ c.loop-more-test.true)) in
    subst (SpellParts c.args.id c.args.name.now (first_part c.args.size (in_use c.args.fork.now) ∷ map further_part (take (c.loop-more.more-index + 1) items))) (sym c.in_ok-push-2.ensures.items) spell

pub returns : goal.returns
returns c =
    let items = c.as_slice-more-items.result.now in
    let past : length items ≤ c.loop-more.more-index = omega (arith, c.loop-more-test.false) in
    subst (λ l. SpellParts c.args.id c.args.name.now (first_part c.args.size (in_use c.args.fork.now) ∷ map further_part l) c.loop-more.pairs.items)
    (take_all c.loop-more.more-index items past ∙ c.as_slice-more-items.ensures.value ∙ c.in_ok-further.ensures ∙ ap records_for (c.as_slice.ensures ∙ c.in_ok-used.ensures)) c.loop-more.invariant
