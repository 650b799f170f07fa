use Rattle.std.proofs.Common.{◌≡◌, ◌-◌, IsTrue, length, sym, ◌∙◌}
use Rattle.sector_disk.specs.Space.{Space}
use Rattle.jnl_format.specs.Recovery.{sector}
use Rattle.volume_header.specs.Header.{header_of}
use Rattle.fsck_core.proofs.reading.read_headers.Goals as goal

pub returns-clause-alternate : goal.returns-clause-alternate
returns-clause-alternate g c tells =
    let old : Space = g.V.SectorView.space c.args.view.now in
    let mid : Space = g.V.SectorView.space c.read_header_at.new.view in
    let content : mid.content ≡ old.content = (c.in_ok-head.ensures.reads.sectors tells).content in
    let told : IsTrue mid.tells = c.in_ok-head.ensures.reads.same.tells ∙ tells in
    let many : c.sectors-last.result ≡ length old.content = c.sectors-last.ensures ∙ sym (g.met.V.SectorView.well_formed c.args.view.now tells) in
    c.in_ok-alternate.ensures.value told ∙ (λ i. header_of (sector (content i) (many i - 2)))
