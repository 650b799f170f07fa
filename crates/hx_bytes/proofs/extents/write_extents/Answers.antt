use Rattle.std.proofs.Common.{◌∙◌, ap, arith}
use Rattle.std.proofs.lemmas.List.{take_all}
use Rattle.std.specs.List.{flat_map}
use Rattle.hx_bytes.specs.Field.{put_at}
use Rattle.hx_bytes.specs.Fork.{extent_bytes, extents_bytes}
use Rattle.hx_bytes.proofs.Forks.{length-extents_bytes, put_extent-more}
use Rattle.hx_bytes.proofs.extents.write_extents.Goals as goal

pub loop-place-preserved : goal.loop-place-preserved
loop-place-preserved c =
    c.write_extent.ensures
    ∙ put_extent-more c.args.bytes.now c.loop-place.bytes c.args.at c.loop-place.place c.args.extents.now.extents (record { start = 0; count = 0 })
    (omega arith) (omega arith) c.loop-place.invariant

pub returns-clause-written : goal.returns-clause-written
unfolding extents_bytes
returns-clause-written c = c.loop-place.invariant ∙ ap (λ l. put_at c.args.bytes.now c.args.at (flat_map extent_bytes l)) (take_all c.loop-place.place c.args.extents.now.extents (omega arith))

pub returns-clause-whole : goal.returns-clause-whole
returns-clause-whole c = length-extents_bytes c.args.extents.now (omega arith)
