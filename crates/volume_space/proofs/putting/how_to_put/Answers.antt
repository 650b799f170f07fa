use Rattle.std.proofs.Common.{◌≡◌, ◌≤◌, ◌+◌, Bool, true, false, sym, ◌∙◌, ap}
use Rattle.std.proofs.lemmas.Bool.{true≢false}
use Rattle.flag_rows.specs.Runs.{fewest_of}
use Rattle.alloc_bitmap.specs.Map.{free_of}
use Rattle.hfs_volume.specs.Content.{volume_of}
use Rattle.hfs_volume.specs.Weight.{free_runs}
use Rattle.volume_space.specs.Writing.{blocks_put, is_put_met, may_overflow}
use Rattle.volume_space.proofs.PutAllowed.{can_no_more, can_parts}
use Rattle.volume_space.proofs.PutMet.{flat_met, not_met, not_put}
use Rattle.volume_space.proofs.putting.how_to_put.Goals as goal

pub returns-then-is_put_now-clause-cut : goal.returns-then-is_put_now-clause-cut
returns-then-is_put_now-clause-cut g c = can_no_more c.args.volume.now (g.P.SectorView.space c.args.space.now).spare c.args.extents c.args.total c.args.size c.args.from c.args.long (sym c.is_put_now.ensures ∙ c.if-is_put_now.true)

pub returns-then-is_put_now-clause-free : goal.returns-then-is_put_now-clause-free
returns-then-is_put_now-clause-free g c = (can_parts c.args.volume.now (g.P.SectorView.space c.args.space.now).spare c.args.extents c.args.total c.args.size c.args.from c.args.long (sym c.is_put_now.ensures ∙ c.if-is_put_now.true)).0

pub returns-then-is_put_now-clause-room : goal.returns-then-is_put_now-clause-room
returns-then-is_put_now-clause-room g c = (can_parts c.args.volume.now (g.P.SectorView.space c.args.space.now).spare c.args.extents c.args.total c.args.size c.args.from c.args.long (sym c.is_put_now.ensures ∙ c.if-is_put_now.true)).1

pub returns-then-is_put_now-clause-short : goal.returns-then-is_put_now-clause-short
returns-then-is_put_now-clause-short g c plain = (can_parts c.args.volume.now (g.P.SectorView.space c.args.space.now).spare c.args.extents c.args.total c.args.size c.args.from c.args.long (sym c.is_put_now.ensures ∙ c.if-is_put_now.true)).2

pub returns-then-is_put_now-clause-flat : goal.returns-then-is_put_now-clause-flat
returns-then-is_put_now-clause-flat g c flat = (λ i. false, sym c.is_put_now.ensures ∙ c.if-is_put_now.true)

pub returns-then-is_put_spread-clause-short : goal.returns-then-is_put_spread-clause-short
returns-then-is_put_spread-clause-short g c plain = absurd (true≢false plain)

pub returns-then-is_put_spread-clause-flat : goal.returns-then-is_put_spread-clause-flat
returns-then-is_put_spread-clause-flat g c flat = absurd (true≢false (sym (c.is_put_spread.ensures.spread c.if-is_put_spread.true) ∙ flat))

pub returns-clause-exactly : goal.returns-clause-exactly
returns-clause-exactly g c = sym c.is_put_now.ensures ∙ c.if-is_put_now.false

pub returns-clause-met : goal.returns-clause-met
returns-clause-met g c tells =
    let v = c.args.volume.now in
    let a = g.P.SectorView.space c.args.space.now in
    not_met (is_put_met v (volume_of a.content) a.spare c.args.records c.args.extents c.args.total c.args.size c.args.from c.args.long)
    (λ ok. not_put (may_overflow c.args.extents (fewest_of (blocks_put v c.args.size c.args.from c.args.long) (free_runs (free_of v.map))))
    (λ flat. true≢false (sym (c.is_put_now.ensures ∙ flat_met c.a_load_says_enough.ensures v a.content (c.requires.serves.settled tells) a.spare c.args.records c.args.extents c.args.total c.args.size c.args.from c.args.long ok flat) ∙ c.if-is_put_now.false))
    (λ spread. true≢false (sym (c.is_put_spread.ensures.met tells spread ok) ∙ c.if-is_put_spread.false)))
