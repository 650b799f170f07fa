use Rattle.std.proofs.Common.{◌≡◌, ◌<◌, ℕ, Bool, false, List, [], ◌∷◌, length, get_or, subst, ◌∙◌, ap, arith}
use Rattle.std.proofs.lemmas.List.{get_or_default}
use Rattle.hfs_volume.specs.Broken.{bit_wants, want, bit}
use Rattle.hfs_volume.specs.Broken as broken
use Rattle.fsck_core.specs.Judged.{Judged, AddsUnmet}
use Rattle.fsck_core.specs.Flags.{bit_want}
use Rattle.fsck_core.proofs.JudgedLaws.{judged_none}
use Rattle.fsck_core.proofs.FlagLaws.{bits_upto, bits_more, bits_added, bits_are, bits_full}
use Rattle.fsck_core.proofs.flags.judge_bits.Goals as goal

-- the bit of a block as it was read
bit_here : (flags used : List Bool) (k : ℕ) (set is_used : Bool) → k < length flags → set ≡ get_or flags k set → is_used ≡ get_or used k false → want k (bit set) (bit is_used) ∷ [] ≡ bit_want flags used k ∷ []
bit_here flags used k set is_used inside first second = λ i. want k (bit ((first ∙ get_or_default flags k set false inside) i)) (bit (second i)) ∷ []

pub loop-block-init : goal.loop-block-init
loop-block-init c = record { judged = judged_none 13 c.args.out.now }

pub loop-block-preserved : goal.loop-block-preserved
loop-block-preserved c =
    let flags : List Bool = c.args.flags.now in
    let used : List Bool = c.args.used.now in
    let inside : c.loop-block.block < length flags = omega (arith, c.loop-block-test.true, c.len-block-end.ensures.size) in
    record {
      judged = bits_more flags used c.loop-block.block c.args.out.now c.loop-block.out c.judge_bit.new.out c.loop-block.met c.in_ok-one.one c.both-met.result c.both-met.ensures c.loop-block.invariant.judged
          (subst (λ (l : List broken.Want). Judged 13 l c.loop-block.out c.judge_bit.new.out c.in_ok-one.one) (bit_here flags used c.loop-block.block c.get.result c.has.result inside c.get.ensures c.has.ensures) c.in_ok-one.ensures.judged);
    }

pub returns-in_err-one-clause-each : goal.returns-in_err-one-clause-each
returns-in_err-one-clause-each c volume bits uses =
    let flags : List Bool = c.args.flags.now in
    let used : List Bool = c.args.used.now in
    let inside : c.loop-block.block < length flags = omega (arith, c.loop-block-test.true, c.len-block-end.ensures.size) in
    subst (λ (l : List broken.Want). AddsUnmet 13 l c.args.out.now c.judge_bit.new.out) (bits_are volume flags used bits uses)
    (bits_added flags used (length flags) c.loop-block.block c.args.out.now c.loop-block.out c.judge_bit.new.out inside c.loop-block.invariant.judged.each
    (subst (λ (l : List broken.Want). AddsUnmet 13 l c.loop-block.out c.judge_bit.new.out) (bit_here flags used c.loop-block.block c.get.result c.has.result inside c.get.ensures c.has.ensures) c.judge_bit.ensures.each))

pub returns-clause-judged : goal.returns-clause-judged
returns-clause-judged c volume bits uses =
    let end : c.loop-block.block ≡ length c.args.flags.now = omega (arith, c.loop-block-test.false, c.len-block-end.ensures.size, c.loop-block.auto) in
    subst (λ (l : List broken.Want). Judged 13 l c.args.out.now c.loop-block.out c.loop-block.met) (ap (bits_upto c.args.flags.now c.args.used.now) end ∙ bits_are volume c.args.flags.now c.args.used.now bits uses) c.loop-block.invariant.judged

pub returns-clause-each : goal.returns-clause-each
returns-clause-each c volume bits uses = (returns-clause-judged c volume bits uses).each

pub returns-then-is_full_before-clause-judged : goal.returns-then-is_full_before-clause-judged
returns-then-is_full_before-clause-judged c volume bits uses =
    let flags : List Bool = c.args.flags.now in
    let used : List Bool = c.args.used.now in
    let inside : c.loop-block.block < length flags = omega (arith, c.loop-block-test.true, c.len-block-end.ensures.size) in
    let one : Judged 13 (bit_want flags used c.loop-block.block ∷ []) c.loop-block.out c.judge_bit.new.out c.in_ok-one.one =
    subst (λ (l : List broken.Want). Judged 13 l c.loop-block.out c.judge_bit.new.out c.in_ok-one.one) (bit_here flags used c.loop-block.block c.get.result c.has.result inside c.get.ensures c.has.ensures) c.in_ok-one.ensures.judged in
    subst (λ (l : List broken.Want). Judged 13 l c.args.out.now c.judge_bit.new.out false) (bits_are volume flags used bits uses)
    (bits_full flags used (length flags) c.loop-block.block c.args.out.now c.loop-block.out c.judge_bit.new.out c.loop-block.met inside c.loop-block.invariant.judged
    (subst (λ (b : Bool). Judged 13 (bit_want flags used c.loop-block.block ∷ []) c.loop-block.out c.judge_bit.new.out b) c.if-not-one.true one) (c.is_full_before.ensures c.if-is_full_before.true))

pub returns-then-is_full_before-clause-each : goal.returns-then-is_full_before-clause-each
returns-then-is_full_before-clause-each c volume bits uses = (returns-then-is_full_before-clause-judged c volume bits uses).each
