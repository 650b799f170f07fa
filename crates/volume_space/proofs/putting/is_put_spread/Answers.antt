use Rattle.std.proofs.Common.{◌≡◌, ◌<◌, ◌≤◌, ◌+◌, ◌-◌, ◌*◌, ◌/◌, ℕ, min, length, true, false, refl, sym, ◌∙◌, ap, subst, arith}
use Rattle.std.proofs.lemmas.Bool.{true≢false}
use Rattle.flag_rows.specs.Bits.{count_set, sectors_for}
use Rattle.flag_rows.specs.Runs.{fewest_of}
use Rattle.alloc_bitmap.specs.Map.{free_of}
use Rattle.file_io.specs.Places.{first_block, old_end}
use Rattle.hfs_volume.specs.Content.{volume_of}
use Rattle.hfs_volume.specs.Weight.{free_runs}
use Rattle.volume_base.specs.Changing.{catalog_node}
use Rattle.volume_space.specs.Spreading.{is_met_extents}
use Rattle.volume_space.specs.Writing.{blocks_put, cost_to_put, may_overflow, put_load}
use Rattle.volume_space.proofs.PutMet.{blocks_met, cost_met, load_met}
use Rattle.volume_space.proofs.putting.is_put_spread.Goals as goal

pub returns-then-not-is_at_most-clause-met : goal.returns-then-not-is_at_most-clause-met
returns-then-not-is_at_most-clause-met g c tells spread ok =
    let few = blocks_met c.a_load_says_enough.ensures c.args.volume.now (g.P.SectorView.space c.args.space.now).content (c.requires.serves.settled tells) (g.P.SectorView.space c.args.space.now).spare c.args.records c.args.extents c.args.total c.args.size c.args.from c.args.long ok in
    absurd (true≢false (sym (c.is_at_most.ensures.met (omega (arith, few, c.count_blocks-counts.ensures.fresh, c.count_free.ensures))) ∙ c.if-not-is_at_most.true))

pub returns-then-not-is_at_most-2-clause-met : goal.returns-then-not-is_at_most-2-clause-met
returns-then-not-is_at_most-2-clause-met g c tells spread ok =
    let v = c.args.volume.now in
    let few = load_met c.a_load_says_enough.ensures c.args.volume.now (g.P.SectorView.space c.args.space.now).content (c.requires.serves.settled tells) (g.P.SectorView.space c.args.space.now).spare c.args.records c.args.extents c.args.total c.args.size c.args.from c.args.long ok in
    let same : c.count_data_sectors.result ≡ put_load v c.args.size c.args.from c.args.long =
    c.count_data_sectors.ensures
    ∙ (λ i. 1 + catalog_node v + min (sectors_for (length v.map.used)) (c.count_blocks-counts.ensures.fresh i / 4096 + 2 * fewest_of (c.count_blocks-counts.ensures.fresh i) (free_runs (free_of v.map)) + c.count_blocks-counts.ensures.freed i)) in
    absurd (true≢false (sym (c.is_at_most-2.ensures.met (omega (arith, few, same, c.spare.ensures))) ∙ c.if-not-is_at_most-2.true))

pub returns-clause-met : goal.returns-clause-met
returns-clause-met g c tells spread ok =
    let v = c.args.volume.now in
    let content = (g.P.SectorView.space c.args.space.now).content in
    let cost = cost_met c.a_load_says_enough.ensures c.args.volume.now (g.P.SectorView.space c.args.space.now).content (c.requires.serves.settled tells) (g.P.SectorView.space c.args.space.now).spare c.args.records c.args.extents c.args.total c.args.size c.args.from c.args.long ok in
    let runs : c.fewest-runs.result ≡ fewest_of (blocks_put v c.args.size c.args.from c.args.long) (free_runs (free_of v.map)) = c.fewest-runs.ensures ∙ ap (λ n. fewest_of n (free_runs (free_of v.map))) c.count_blocks-counts.ensures.fresh in
    c.affords_spread.ensures.met tells (ap (may_overflow c.args.extents) runs ∙ spread)
    ((λ i. is_met_extents (cost_to_put v (volume_of content) c.args.records c.args.extents (c.count_blocks-counts.ensures.fresh i) (c.count_blocks-counts.ensures.freed i) (runs i)) (g.P.SectorView.space c.args.space.now).spare) ∙ cost)
