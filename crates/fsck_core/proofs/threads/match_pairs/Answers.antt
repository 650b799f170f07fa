use Rattle.std.proofs.Common.{◌≡◌, Bool, false, List, length, replicate, ap, ◌∙◌, subst, arith}
use Rattle.std.proofs.lemmas.List.{length-replicate}
use Rattle.fsck_core.specs.Parents.{marked}
use Rattle.fsck_core.specs.Threads.{AreMatched}
use Rattle.fsck_core.proofs.ParentLaws.{none_marked}
use Rattle.fsck_core.proofs.ThreadLaws.{matched_none}
use Rattle.fsck_core.proofs.threads.match_pairs.Goals as goal

pub match_entry-requires-clause-long : goal.match_entry-requires-clause-long
match_entry-requires-clause-long c = c.loop-at.invariant.long

pub loop-at-init : goal.loop-at-init
loop-at-init c =
    let marks_are : c.in_ok-marks.marks.items ≡ replicate c.len.result false = c.in_ok-marks.ensures.items_if_clones_equal (λ y same. same) in
    record {
      long = ap (λ (l : List Bool). length l) marks_are ∙ length-replicate {A = Bool} c.len.result false ∙ c.len.ensures;
      most = omega arith;
      matched = λ catalog. matched_none c.args.pairs.now c.in_ok-marks.marks.items (λ k. ap (λ (l : List Bool). marked l k) marks_are ∙ none_marked c.len.result k);
    }

pub loop-at-preserved : goal.loop-at-preserved
loop-at-preserved c = record {
  long = c.match_entry.ensures.long;
  most = omega (arith, c.loop-at-test.true, c.len-at-end.ensures);
  matched = λ catalog. c.match_entry.ensures.matched catalog (c.loop-at.invariant.matched catalog);
}

pub returns-clause-matched : goal.returns-clause-matched
returns-clause-matched c catalog =
    let same : c.loop-at.at ≡ length c.args.pairs.now = omega (arith, c.loop-at-test.false, c.len-at-end.ensures, c.loop-at.invariant.most) in
    subst (AreMatched c.args.pairs.now c.loop-at.marks.items) same (c.loop-at.invariant.matched catalog)
