use Rattle.std.proofs.Common.{ℕ, List, true, refl, ◌∙◌, ap, subst}
use Rattle.hfsx_server.specs.Playing.{ServesBytes, tallied}
use Rattle.hfsx_server.proofs.Streams.{part_played}
use Rattle.hfsx_server.proofs.playing.play_part.Goals as goal

pub returns : goal.returns
returns c =
    let old = c.args.stage.now in
    let played = c.requires.played in
    part_played c.args.seed c.args.first c.args.end c.requires.order c.requires.most old played c.in_ok-bytes.bytes.items c.in_ok-told.told.items c.in_ok-bytes.ensures c.serve.new.image.sectors.items
    (subst (λ (b : List ℕ). ServesBytes played.tree b c.in_ok-told.told.items c.serve.new.image.sectors.items) c.as_slice.ensures.value (c.in_ok-told.ensures played.tree played.mounts))
    _ refl c.tally_of-tally.result (c.tally_of-tally.ensures ∙ ap (tallied (record { begins = true; done = old.done; refused = old.refused })) c.as_slice-2.ensures.value) refl refl
