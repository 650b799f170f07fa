use Rattle.std.proofs.Common.{◌++◌, List, subst}
use Rattle.std.specs.List.{flat_map}
use Rattle.std.proofs.lemmas.List.Elements.{Contains-append_left, Contains-append_right}
use Rattle.hfs_volume.specs.Broken.{Want}
use Rattle.fsck_core.specs.Judged.{Judged, AddsUnmet}
use Rattle.fsck_core.specs.Overflows.{overflows_in}
use Rattle.fsck_core.specs.Owners.{owned_in, own_wants, row_wants}
use Rattle.fsck_core.specs.declared.follow.OwnedFork.{OwnedFork}
use Rattle.fsck_core.proofs.JudgedLaws.{judged_both, adds_both, adds_of}
use Rattle.fsck_core.proofs.ForkWants.{forks_are, each_goes_on, forks_tell}
use Rattle.fsck_core.proofs.forks.judge_forks.Goals as goal

pub returns-in_err-one-clause-each : goal.returns-in_err-one-clause-each
returns-in_err-one-clause-each c volume head rows forks on =
    let front : List Want = flat_map (λ (row : OwnedFork). own_wants c.args.head.now (overflows_in c.args.rows.now) (owned_in row)) c.args.forks.now in
    let back : List Want = flat_map (row_wants c.args.head.now.total_blocks) c.args.rows.now in
    subst (λ (l : List Want). AddsUnmet 16 l c.args.out.now c.judge_own_forks.new.out) (forks_are volume c.args.head.now c.args.rows.now c.args.forks.now head rows forks) (adds_of 16 front (front ++ back) c.args.out.now c.judge_own_forks.new.out (λ w stands. Contains-append_left front back w stands) (c.judge_own_forks.ensures.each (each_goes_on volume c.args.rows.now c.args.forks.now rows forks on)))

pub returns-in_err-other-clause-each : goal.returns-in_err-other-clause-each
returns-in_err-other-clause-each c volume head rows forks on =
    let front : List Want = flat_map (λ (row : OwnedFork). own_wants c.args.head.now (overflows_in c.args.rows.now) (owned_in row)) c.args.forks.now in
    let back : List Want = flat_map (row_wants c.args.head.now.total_blocks) c.args.rows.now in
    subst (λ (l : List Want). AddsUnmet 16 l c.args.out.now c.judge_rows.new.out) (forks_are volume c.args.head.now c.args.rows.now c.args.forks.now head rows forks) (adds_both 16 front back (front ++ back) c.args.out.now c.judge_own_forks.new.out c.judge_rows.new.out (λ w stands. Contains-append_left front back w stands) (λ w stands. Contains-append_right front back w stands) (c.judge_own_forks.ensures.each (each_goes_on volume c.args.rows.now c.args.forks.now rows forks on)) c.judge_rows.ensures.each)

pub returns-clause-judged : goal.returns-clause-judged
returns-clause-judged c volume head rows forks on =
    let front : List Want = flat_map (λ (row : OwnedFork). own_wants c.args.head.now (overflows_in c.args.rows.now) (owned_in row)) c.args.forks.now in
    let back : List Want = flat_map (row_wants c.args.head.now.total_blocks) c.args.rows.now in
    subst (λ (l : List Want). Judged 16 l c.args.out.now c.judge_rows.new.out c.both.result) (forks_are volume c.args.head.now c.args.rows.now c.args.forks.now head rows forks) (judged_both 16 front back c.args.out.now c.judge_own_forks.new.out c.judge_rows.new.out c.in_ok-one.one c.in_ok-other.other c.both.result c.both.ensures (c.in_ok-one.ensures.judged (each_goes_on volume c.args.rows.now c.args.forks.now rows forks on)) c.in_ok-other.ensures.judged)

pub returns-clause-each : goal.returns-clause-each
returns-clause-each c volume head rows forks on = (returns-clause-judged c volume head rows forks on).each

pub returns-clause-met : goal.returns-clause-met
returns-clause-met c volume head rows forks on = forks_tell volume c.both.result c.args.out.now c.judge_rows.new.out (returns-clause-judged c volume head rows forks on)
