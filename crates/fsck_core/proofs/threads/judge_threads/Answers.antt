use Rattle.std.proofs.Common.{Bool, List, length, sym, ap, ◌∙◌, subst}
use Rattle.btree_node.specs.Levels.{Pair}
use Rattle.hfs_volume.specs.Records.{placed_in}
use Rattle.hfs_volume.specs.Entries.{AreThreaded}
use Rattle.hfs_volume.specs.Broken.{IsFailed, FailsThread}
use Rattle.fsck_core.specs.Decided.{Decided, AllPass, IsMissed}
use Rattle.fsck_core.specs.Parents.{marked}
use Rattle.fsck_core.specs.Threads.{placed_at, place_of, AreMatched}
use Rattle.fsck_core.proofs.WantLaws.{ok_map}
use Rattle.fsck_core.proofs.ThreadLaws.{threads_decided, threads_add}
use Rattle.fsck_core.proofs.threads.judge_threads.Goals as goal

pub judge_marks-requires-clause-long : goal.judge_marks-requires-clause-long
judge_marks-requires-clause-long c = ap (λ (l : List Bool). length l) c.deref.ensures.value ∙ c.in_ok-marks.ensures.long

pub returns-clause-decided : goal.returns-clause-decided
returns-clause-decided c catalog =
    let pairs : List Pair = c.args.pairs.now in
    let marks : List Bool = c.deref.result.now in
    ok_map c.judge_marks.result
    (λ met. Decided (IsMissed 9 (marked marks) (λ k. place_of (placed_at pairs k)) (length pairs)) (AllPass (marked marks) (length pairs)) c.args.out.now c.judge_marks.new.out met)
    (λ met. Decided (λ f. IsFailed 9 f (FailsThread (placed_in pairs))) (AreThreaded pairs) c.args.out.now c.judge_marks.new.out met)
    (λ met decided. threads_decided pairs catalog marks (subst (λ (l : List Bool). AreMatched pairs l (length pairs)) (sym c.deref.ensures.value) (c.in_ok-marks.ensures.matched catalog)) c.args.out.now c.judge_marks.new.out met decided)
    (c.judge_marks.ensures.decided catalog)

pub returns-clause-each : goal.returns-clause-each
returns-clause-each c catalog =
    threads_add c.args.pairs.now catalog c.deref.result.now (subst (λ (l : List Bool). AreMatched c.args.pairs.now l (length c.args.pairs.now)) (sym c.deref.ensures.value) (c.in_ok-marks.ensures.matched catalog))
    c.args.out.now c.judge_marks.new.out (c.judge_marks.ensures.each catalog)
