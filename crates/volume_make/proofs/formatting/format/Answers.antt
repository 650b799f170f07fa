use Rattle.std.proofs.Common.{◌≡◌, None, ℕ, sym, ◌∙◌, ap, subst}
use Rattle.volume_make.specs.declared.layout.Layout.{Layout}
use Rattle.volume_make.specs.Layout.{IsFitting, layout_of}
use Rattle.volume_make.specs.Refusal.{format_refusal}
use Rattle.volume_make.proofs.Sizes.{fitting, layout_sectors}
use Rattle.volume_make.proofs.Results.{accepted}
use Rattle.volume_make.proofs.formatting.format.Goals as goal

pub write_volume-requires-clause-fitting : goal.write_volume-requires-clause-fitting
write_volume-requires-clause-fitting g c =
    let none : format_refusal c.sectors-sectors.result c.args.block c.args.journal c.args.name.now ≡ None = sym c.format_refusal.ensures ∙ c.in_default.is in
    let can = (accepted c.sectors-sectors.result c.args.block c.args.journal c.args.name.now none).sizes in
    subst IsFitting (sym c.layout_of-layout.ensures) (fitting c.sectors-sectors.result c.args.block c.args.journal can)

pub write_volume-requires-clause-size : goal.write_volume-requires-clause-size
write_volume-requires-clause-size g c =
    sym c.sectors-sectors.ensures ∙ sym (ap (λ (layout : Layout). layout.sectors) c.layout_of-layout.ensures ∙ layout_sectors c.sectors-sectors.result c.args.block c.args.journal)

pub summary-requires : goal.summary-requires
summary-requires g c =
    let none : format_refusal c.sectors-sectors.result c.args.block c.args.journal c.args.name.now ≡ None = sym c.format_refusal.ensures ∙ c.in_default.is in
    let can = (accepted c.sectors-sectors.result c.args.block c.args.journal c.args.name.now none).sizes in
    subst IsFitting (sym c.layout_of-layout.ensures) (fitting c.sectors-sectors.result c.args.block c.args.journal can)

pub returns-clause-fitting : goal.returns-clause-fitting
returns-clause-fitting g c =
    let none : format_refusal c.sectors-sectors.result c.args.block c.args.journal c.args.name.now ≡ None = sym c.format_refusal.ensures ∙ c.in_default.is in
    let can = (accepted c.sectors-sectors.result c.args.block c.args.journal c.args.name.now none).sizes in
    subst (λ (s : ℕ). IsFitting (layout_of s c.args.block c.args.journal)) c.sectors-sectors.ensures (fitting c.sectors-sectors.result c.args.block c.args.journal can)
