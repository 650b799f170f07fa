use Rattle.std.proofs.Common.{◌≡◌, ◌-◌, true, length, sym, ◌∙◌, ap, subst, arith}
use Rattle.jnl_format.specs.Recovery.{Content, sector, header_of_volume}
use Rattle.volume_header.specs.Header.{header_of}
use Rattle.volume_header.specs.Refusal.{is_volume_size}
use Rattle.hfs_volume.specs.Blocks.{IsGoodHeader}
use Rattle.fsck_core.proofs.ListJoins.{nothing}
use Rattle.fsck_core.proofs.OpeningLaws.{found_early, headers_there, alternate_there, agrees_there}
use Rattle.fsck_core.proofs.opening.read_head.Goals as goal

pub judge_headers-requires : goal.judge_headers-requires
judge_headers-requires g c = subst (λ n. is_volume_size n ≡ true) (sym (c.sectors.ensures ∙ c.in_ok-headers.ensures.reads.same.sectors)) c.requires.size

pub returns-then-len-gt0-clause-told : goal.returns-then-len-gt0-clause-told
returns-then-len-gt0-clause-told g c content shows = omega (arith, c.len.ensures.count, c.if-len-gt0.true)

pub returns-then-len-gt0-clause-each : goal.returns-then-len-gt0-clause-each
returns-then-len-gt0-clause-each g c content shows =
    let headers = c.in_ok-headers.headers in
    found_early content c.sectors.result headers.head headers.alternate c.args.out.now c.judge_headers.new.out (c.sectors.ensures ∙ c.in_ok-headers.ensures.reads.same.sectors ∙ shows.size)
    (c.in_ok-headers.ensures.head shows.tells ∙ ap (λ (ct : Content). header_of_volume ct) shows.is)
    (alternate_there content headers.alternate (c.in_ok-headers.ensures.alternate shows.tells ∙ ap (λ (ct : Content). header_of (sector ct (length ct - 2))) shows.is)) c.requires.none c.in_ok-judge_headers.ensures.passed

pub returns-clause-good : goal.returns-clause-good
returns-clause-good g c =
    let passed = c.in_ok-judge_headers.ensures.passed in
    (subst (λ n. IsGoodHeader n c.in_ok-headers.headers.head) (c.sectors.ensures ∙ c.in_ok-headers.ensures.reads.same.sectors) (passed.holds (omega (arith, c.len.ensures.count, c.if-len-gt0.false))).0, nothing c.judge_headers.new.out (omega (arith, c.len.ensures.count, c.if-len-gt0.false)))

pub returns-clause-told : goal.returns-clause-told
returns-clause-told g c content shows =
    let headers = c.in_ok-headers.headers in
    let passed = c.in_ok-judge_headers.ensures.passed in (
      c.in_ok-headers.ensures.head shows.tells ∙ ap (λ (ct : Content). header_of_volume ct) shows.is,
      agrees_there content headers.head headers.alternate (alternate_there content headers.alternate (c.in_ok-headers.ensures.alternate shows.tells ∙ ap (λ (ct : Content). header_of (sector ct (length ct - 2))) shows.is))
          (passed.holds (omega (arith, c.len.ensures.count, c.if-len-gt0.false))).1,
    )

pub returns-clause-each : goal.returns-clause-each
returns-clause-each g c content shows =
    let headers = c.in_ok-headers.headers in
    found_early content c.sectors.result headers.head headers.alternate c.args.out.now c.judge_headers.new.out (c.sectors.ensures ∙ c.in_ok-headers.ensures.reads.same.sectors ∙ shows.size)
    (c.in_ok-headers.ensures.head shows.tells ∙ ap (λ (ct : Content). header_of_volume ct) shows.is)
    (alternate_there content headers.alternate (c.in_ok-headers.ensures.alternate shows.tells ∙ ap (λ (ct : Content). header_of (sector ct (length ct - 2))) shows.is)) c.requires.none c.in_ok-judge_headers.ensures.passed

pub returns-then-len-gt0-clause-rules : goal.returns-then-len-gt0-clause-rules
returns-then-len-gt0-clause-rules g c content shows =
    let headers = c.in_ok-headers.headers in
    headers_there content c.sectors.result headers.head headers.alternate c.judge_headers.new.out (c.sectors.ensures ∙ c.in_ok-headers.ensures.reads.same.sectors ∙ shows.size)
    (c.in_ok-headers.ensures.head shows.tells ∙ ap (λ (ct : Content). header_of_volume ct) shows.is)
    (alternate_there content headers.alternate (c.in_ok-headers.ensures.alternate shows.tells ∙ ap (λ (ct : Content). header_of (sector ct (length ct - 2))) shows.is)) c.in_ok-judge_headers.ensures.rules

pub returns-clause-rules : goal.returns-clause-rules
returns-clause-rules g c content shows =
    let headers = c.in_ok-headers.headers in
    headers_there content c.sectors.result headers.head headers.alternate c.judge_headers.new.out (c.sectors.ensures ∙ c.in_ok-headers.ensures.reads.same.sectors ∙ shows.size)
    (c.in_ok-headers.ensures.head shows.tells ∙ ap (λ (ct : Content). header_of_volume ct) shows.is)
    (alternate_there content headers.alternate (c.in_ok-headers.ensures.alternate shows.tells ∙ ap (λ (ct : Content). header_of (sector ct (length ct - 2))) shows.is)) c.in_ok-judge_headers.ensures.rules
