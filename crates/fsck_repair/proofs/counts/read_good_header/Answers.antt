use Rattle.std.proofs.Common.{◌≡◌, ◌-◌, true, length, sym, ◌∙◌, ap, subst}
use Rattle.std.proofs.lemmas.Bool.{true≢false}
use Rattle.jnl_format.specs.Recovery.{Content, sector, header_of_volume}
use Rattle.volume_header.specs.Header.{header_of}
use Rattle.volume_header.specs.Refusal.{is_volume_size}
use Rattle.hfs_volume.specs.Blocks.{IsGoodHeader}
use Rattle.fsck_core.proofs.OpeningLaws.{alternate_there}
use Rattle.fsck_repair.proofs.CountTelling.{good_as}
use Rattle.fsck_repair.proofs.counts.read_good_header.Goals as goal

pub judge_header-requires : goal.judge_header-requires
judge_header-requires g c = subst (λ n. is_volume_size n ≡ true) (sym (c.sectors.ensures ∙ c.in_ok-headers.ensures.reads.same.sectors)) c.requires.size

pub returns-then-not-met-clause-found : goal.returns-then-not-met-clause-found
returns-then-not-met-clause-found g c content shows can =
    let sectors = c.sectors.ensures ∙ c.in_ok-headers.ensures.reads.same.sectors ∙ shows.size in
    let head = c.in_ok-headers.ensures.head shows.tells ∙ ap (λ (ct : Content). header_of_volume ct) shows.is in
    true≢false (sym (c.in_ok-met.ensures.met.1 (good_as c.sectors.result (length content) c.in_ok-headers.headers.head (header_of_volume content) sectors head can.header)) ∙ c.if-not-met.true)

pub returns-clause-good : goal.returns-clause-good
returns-clause-good g c = subst (λ n. IsGoodHeader n c.in_ok-headers.headers.head) (c.sectors.ensures ∙ c.in_ok-headers.ensures.reads.same.sectors) (c.in_ok-met.ensures.met.0 c.if-not-met.false)

pub returns-clause-found : goal.returns-clause-found
returns-clause-found g c content shows =
    let sectors = c.sectors.ensures ∙ c.in_ok-headers.ensures.reads.same.sectors ∙ shows.size in
    let head = c.in_ok-headers.ensures.head shows.tells ∙ ap (λ (ct : Content). header_of_volume ct) shows.is in
    record {
      good = good_as (length content) c.sectors.result (header_of_volume content) c.in_ok-headers.headers.head (sym sectors) (sym head) (c.in_ok-met.ensures.met.0 c.if-not-met.false);
      head = head;
      alternate = alternate_there content c.in_ok-headers.headers.alternate (c.in_ok-headers.ensures.alternate shows.tells ∙ ap (λ (ct : Content). header_of (sector ct (length ct - 2))) shows.is);
    }
