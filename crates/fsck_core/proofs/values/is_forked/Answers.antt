use Rattle.std.proofs.Common.{◌≡◌, ◌↔◌, ◌<◌, ◌+◌, ◌-◌, ℕ, Bool, true, false, List, length, sym, ◌∙◌, ap, subst, arith, IsTrue}
use Rattle.std.specs.Prelude.{IfOk}
use Rattle.std.proofs.lemmas.Bool.{true≢false}
use Rattle.btree_node.specs.Levels.{Pair}
use Rattle.hfs_volume.specs.Values.{is_record_of}
use Rattle.fsck_core.specs.Attributes.{AreKeyed, HasFirstFork, attribute_at, is_one_attribute}
use Rattle.fsck_core.specs.Names.{pair_at}
use Rattle.fsck_core.proofs.WantLaws.{ok_map}
use Rattle.fsck_core.proofs.ValueLaws.{key_long}
use Rattle.fsck_core.proofs.ValueOrder.{Same, apart_from, first_fork, forked_as, one_attribute_is, same_tested, tested_same}
use Rattle.fsck_core.proofs.values.is_forked.Goals as goal

pub returns-then-at-eq0 : goal.returns-then-at-eq0
returns-then-at-eq0 c keyed before =
    let pairs : List Pair = c.args.attributes.now in
    let tells = first_fork pairs keyed c.args.at c.requires (λ k less same. absurd (omega (arith, less, c.if-at-eq0.true))) in
    ok_map c.begins_fork.result _ (λ forked. IsTrue forked ↔ HasFirstFork pairs (attribute_at pairs c.args.at)) (λ forked is. (λ yes. tells.0 (is.0 yes), λ has. is.1 (tells.1 has))) (c.begins_fork.ensures keyed)

pub returns-then-is_one_attribute : goal.returns-then-is_one_attribute
returns-then-is_one_attribute c keyed before =
    let pairs : List Pair = c.args.attributes.now in
    let earlier : ℕ = c.args.at - 1 in
    let some : 0 < c.args.at = omega (arith, c.if-at-eq0.false) in
    let inside : earlier < length pairs = omega (arith, c.requires) in
    let is : is_record_of (attribute_at pairs c.args.at).id (attribute_at pairs c.args.at).name (attribute_at pairs earlier) ≡ true =
    sym (one_attribute_is pairs earlier c.args.at) ∙ sym (λ i. is_one_attribute (c.key.ensures i) (c.key-2.ensures i))
    ∙ sym (c.is_one_attribute.ensures (key_long pairs keyed earlier c.key.result.now inside c.key.ensures) (key_long pairs keyed c.args.at c.key-2.result.now c.requires c.key-2.ensures)) ∙ c.if-is_one_attribute.true in
    let same : Same (attribute_at pairs c.args.at) (attribute_at pairs earlier) = tested_same (attribute_at pairs c.args.at) (attribute_at pairs earlier) is in
    let tells = before some in
    (λ yes. forked_as pairs (attribute_at pairs earlier) (attribute_at pairs c.args.at) (sym same.0, sym same.1) (tells.0 yes), λ has. tells.1 (forked_as pairs (attribute_at pairs c.args.at) (attribute_at pairs earlier) same has))

pub returns : goal.returns
returns c keyed before =
    let pairs : List Pair = c.args.attributes.now in
    let earlier : ℕ = c.args.at - 1 in
    let next : c.args.at ≡ earlier + 1 = omega (arith, c.if-at-eq0.false) in
    let inside : earlier < length pairs = omega (arith, c.requires) in
    let is : is_record_of (attribute_at pairs c.args.at).id (attribute_at pairs c.args.at).name (attribute_at pairs earlier) ≡ false =
    sym (one_attribute_is pairs earlier c.args.at) ∙ sym (λ i. is_one_attribute (c.key.ensures i) (c.key-2.ensures i))
    ∙ sym (c.is_one_attribute.ensures (key_long pairs keyed earlier c.key.result.now inside c.key.ensures) (key_long pairs keyed c.args.at c.key-2.result.now c.requires c.key-2.ensures)) ∙ c.if-is_one_attribute.false in
    let differ : Same (attribute_at pairs earlier) (attribute_at pairs c.args.at) → ⊥ = λ same. true≢false (sym (same_tested (attribute_at pairs c.args.at) (attribute_at pairs earlier) (sym same.0, sym same.1)) ∙ is) in
    let tells = first_fork pairs keyed c.args.at c.requires (apart_from pairs keyed c.args.at earlier next c.requires differ) in
    ok_map c.begins_fork-2.result _ (λ forked. IsTrue forked ↔ HasFirstFork pairs (attribute_at pairs c.args.at)) (λ forked is. (λ yes. tells.0 (is.0 yes), λ has. is.1 (tells.1 has))) (c.begins_fork-2.ensures keyed)
