use Rattle.fsck_core.proofs.OpeningLaws.{headers_passed}
use Rattle.fsck_core.proofs.opening.judge_headers.Goals as goal
use Rattle.fsck_core.proofs.TellingLaws.{headers_tell}

pub returns-clause-passed : goal.returns-clause-passed
returns-clause-passed c = headers_passed c.args.sectors c.args.headers.now.head c.args.headers.now.alternate c.args.out.now c.judge_header.new.out c.judge_alternate.new.out _ _ c.requires
    c.in_ok-judge_header.ensures.met c.in_ok-judge_header.ensures.listed c.in_ok-judge_header.ensures.still c.judge_header.ensures.each
    c.in_ok-judge_alternate.ensures.met c.in_ok-judge_alternate.ensures.listed c.in_ok-judge_alternate.ensures.still c.judge_alternate.ensures.each

pub returns-clause-rules : goal.returns-clause-rules
returns-clause-rules c = headers_tell c.args.sectors c.args.headers.now.head c.args.headers.now.alternate c.judge_header.new.out c.judge_alternate.new.out c.in_ok-judge_header.ensures.listed c.in_ok-judge_alternate.ensures.listed c.in_ok-judge_alternate.ensures.still
