use Rattle.std.proofs.Common.{ℕ, Bool, true, false, List, inl, inr, refl, sym, subst}
use Rattle.std.specs.Prelude.{Option, Some, None, if◌then◌else◌}
use Rattle.jnl_format.specs.Recovery.{Content}
use Rattle.open_files.specs.declared.act.SessionReply.{SessionReply}
use Rattle.open_files.specs.declared.act.SessionReply.TheVariants as told
use Rattle.session_lines.specs.Writing.{HasJudged, IsJudged}
use Rattle.hfs_serving.specs.Flags.{IsCompressedAs}
use Rattle.session_lines.proofs.Looked.{looked_once, looked_stops}
use Rattle.session_lines.proofs.writing.judge.Goals as goal

judged_by : (now : Content) (path : List (List ℕ)) (compressed : Bool) → IsCompressedAs now path compressed → IsJudged now (Some path) (if compressed then Some told.Compressed else None)
judged_by now path true said = inr (refl, said)
judged_by now path false said = said

pub returns-in-Ok-clause-goes : goal.returns-in-Ok-clause-goes
returns-in-Ok-clause-goes g c tells capacity committed now shrunk stands =
    let old = g.G.Ground.outside c.args.base.now in
    let space = g.G.SectorView.space c.args.base.now in
    let new = g.G.SectorView.space c.is_compressed.new.base in
    let after = g.G.Ground.outside c.is_compressed.new.base in
    let knows = g.V.Volume.knows c.args.volume.now space capacity in
    let knows_new = g.V.Volume.knows c.is_compressed.new.self new capacity in
    let looked = looked_once capacity shrunk committed now old knows space stands knows_new new after (c.is_compressed.ensures.touches tells capacity committed now shrunk stands) (c.is_compressed.ensures.stays tells capacity committed now shrunk stands) in
    subst (λ (r : Option SessionReply). HasJudged (Some c.args.path.now) capacity knows_new committed now old shrunk new after r) (sym c.refusal_if.ensures)
    (record { looked = looked; judged = judged_by now c.args.path.now c.in-Ok.compressed (c.in-Ok.ensures.found tells capacity committed now shrunk stands) })

pub returns-in-Err-Memory-clause-goes : goal.returns-in-Err-Memory-clause-goes
returns-in-Err-Memory-clause-goes g c tells capacity committed now shrunk stands =
    let old = g.G.Ground.outside c.args.base.now in
    let space = g.G.SectorView.space c.args.base.now in
    let new = g.G.SectorView.space c.is_compressed.new.base in
    let after = g.G.Ground.outside c.is_compressed.new.base in
    let knows = g.V.Volume.knows c.args.volume.now space capacity in
    let knows_new = g.V.Volume.knows c.is_compressed.new.self new capacity in
    let looked = looked_once capacity shrunk committed now old knows space stands knows_new new after (c.is_compressed.ensures.touches tells capacity committed now shrunk stands) (c.is_compressed.ensures.stays tells capacity committed now shrunk stands) in
    record { looked = looked; judged = inl refl }

pub returns-in-Err-Disk-clause-stops : goal.returns-in-Err-Disk-clause-stops
returns-in-Err-Disk-clause-stops g c tells capacity committed now shrunk stands =
    let old = g.G.Ground.outside c.args.base.now in
    let space = g.G.SectorView.space c.args.base.now in
    let new = g.G.SectorView.space c.is_compressed.new.base in
    let after = g.G.Ground.outside c.is_compressed.new.base in
    let knows = g.V.Volume.knows c.args.volume.now space capacity in
    let knows_new = g.V.Volume.knows c.is_compressed.new.self new capacity in
    let looked = looked_once capacity shrunk committed now old knows space stands knows_new new after (c.is_compressed.ensures.touches tells capacity committed now shrunk stands) (c.is_compressed.ensures.stays tells capacity committed now shrunk stands) in
    looked_stops capacity shrunk committed now old knows_new new after looked
