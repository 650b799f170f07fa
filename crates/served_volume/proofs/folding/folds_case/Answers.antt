use Rattle.std.proofs.Common.{◌≡◌, ◌↔◌, sym, ◌∙◌, ap, subst}
use Rattle.std.specs.Prelude.{IfOk, IsTrue}
use Rattle.jnl_format.specs.Recovery.{Content, header_of_volume}
use Rattle.volume_header.specs.Refusal.{header_refusal}
use Rattle.hfs_serving.specs.Checking.{catalog_begun}
use Rattle.served_volume.proofs.Folded.{accepted_folds, refused_folds}
use Rattle.served_volume.proofs.folding.folds_case.Goals as goal

pub compares_folded-requires : goal.compares_folded-requires
compares_folded-requires g c = record { accepted = ap (λ n. header_refusal c.in_ok-headers.headers.head n) (sym c.sectors.ensures) ∙ sym c.refusal.ensures ∙ c.in-None.is }

pub returns-in-Some-clause-folds : goal.returns-in-Some-clause-folds
returns-in-Some-clause-folds g c tells =
    let old = g.V.SectorView.space c.args.view.now in
    refused_folds old.content c.in_ok-headers.headers.head c.sectors.result _ (c.in_ok-headers.ensures.head tells) (c.sectors.ensures ∙ c.read_headers.ensures.reads.same.sectors ∙ sym (g.met.V.SectorView.well_formed c.args.view.now tells))
    (sym c.refusal.ensures ∙ c.in-Some.is)

pub returns-in-None-clause-folds : goal.returns-in-None-clause-folds
returns-in-None-clause-folds g c tells =
    let old = g.V.SectorView.space c.args.view.now in
    let reads = c.read_headers.ensures.reads in
    let content = (reads.sectors tells).content in
    let is = c.in_ok-headers.ensures.head tells in
    accepted_folds old.content c.in_ok-headers.headers.head c.sectors.result is (c.sectors.ensures ∙ reads.same.sectors ∙ sym (g.met.V.SectorView.well_formed c.args.view.now tells)) (sym c.refusal.ensures ∙ c.in-None.is) c.compares_folded.result
    (subst (λ (x : Content). IfOk c.compares_folded.result (λ f. IsTrue f ↔ ((catalog_begun x).head.compare ≡ 0xCF))) content
    (c.compares_folded.ensures.folds (reads.same.tells ∙ tells) (is ∙ sym (ap header_of_volume content))))
