use Rattle.std.proofs.Common.{◌≡◌, ◌<◌, ◌∙◌, ◌++◌, ℕ, List, IsTrue, sym, ap, subst, arith}
use Rattle.volume_make.specs.Layout.{free_of}
use Rattle.hfsx_server.specs.Made.{IsNoSize, made_layout}
use Rattle.hfsx_server.specs.Telling.{Tells, refusal_text, size_refusal, formatted_text}
use Rattle.hfsx_server.proofs.Formatted.{made_told}
use Rattle.hfsx_server.proofs.MadeSizes.{no_size}
use Rattle.hfsx_server.proofs.Telling.{too_small, too_large}
use Rattle.hfsx_server.proofs.formatting.format.Goals as goal

pub returns-in-Ok-tell_formatted-clause-refused : goal.returns-in-Ok-tell_formatted-clause-refused
returns-in-Ok-tell_formatted-clause-refused g c = (
  λ is. absurd (cc is),
  λ none. absurd (c.refused_size.ensures.none.0 c.in_default.is (subst IsNoSize (sym c.sectors.ensures) none)),
)

pub returns-in-Err-clause-refused : goal.returns-in-Err-clause-refused
returns-in-Err-clause-refused g c = (
  λ is. absurd (cc is),
  λ none. absurd (c.refused_size.ensures.none.0 c.in_default.is (subst IsNoSize (sym c.sectors.ensures) none)),
)

pub returns-in-Ok-tell_formatted-clause-made : goal.returns-in-Ok-tell_formatted-clause-made
returns-in-Ok-tell_formatted-clause-made g c tells _ =
    made_told (g.R.SectorDisk.state c.args.rig.now) (g.R.SectorDisk.state c.make_volume.new.disk) (g.R.SectorDisk.state c.tell_formatted.new.rig) c.tell_formatted.ensures.candidates (c.in-Ok.ensures.made tells)

pub returns-in-Ok-tell_formatted-clause-told : goal.returns-in-Ok-tell_formatted-clause-told
returns-in-Ok-tell_formatted-clause-told g c tells _ =
    let still = subst IsTrue (sym c.make_volume.ensures.same.tells) tells in
    let old = g.R.SectorDisk.state c.args.rig.now in
    let new = g.R.SectorDisk.state c.tell_formatted.new.rig in
    let blocks = c.in-Ok.ensures.blocks in
    subst (λ (n : ℕ). new.told ≡ old.told ++ formatted_text n (free_of (made_layout old.sectors))) blocks.blocks
    (subst (λ (n : ℕ). new.told ≡ old.told ++ formatted_text c.in-Ok.summary.blocks n) blocks.free
    (c.in-Ok-tell_formatted.ensures.told still ∙ ap (λ (l : List ℕ). l ++ formatted_text c.in-Ok.summary.blocks c.in-Ok.summary.free) c.make_volume.ensures.sink.told))
