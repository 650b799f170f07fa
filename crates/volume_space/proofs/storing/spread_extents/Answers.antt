use Rattle.std.proofs.Common.{◌≡◌, ◌+◌, length, List, map, sym, ap, subst, arith}
use Rattle.btree_node.specs.Keys.{IsExtentKey, extent_cmp, is_eight_extents}
use Rattle.btree_node.specs.TreeFile.{extents_form}
use Rattle.btree_file.proofs.StandingLaws.{pairs_held}
use Rattle.hfs_volume.specs.Records.{Overflow, overflow_of}
use Rattle.hfs_model.specs.Sorted.{kept}
use Rattle.hfs_volume.specs.Forks.{is_of}
use Rattle.volume_space.proofs.Spreads.{stored_spreads, full_in_use}
use Rattle.btree_file.specs.State.{state_of}
use Rattle.hfs_volume.specs.Cost.{overflow_records}
use Rattle.volume_space.proofs.EditsTaken.{edits_low}
use Rattle.volume_space.proofs.storing.spread_extents.Goals as goal

pub store_extents-requires-clause-room : goal.store_extents-requires-clause-room
store_extents-requires-clause-room g c names tells =
    c.can_spread.ensures.room c.if-not-can_spread.false names tells
    (subst (λ (o : List Overflow). c.args.records ≡ length (kept (is_of c.args.id c.args.kind) o))
    (sym (ap (map overflow_of) (pairs_held extents_form IsExtentKey is_eight_extents extent_cmp names c.args.volume.now.extents.file (g.P.SectorView.space c.args.space.now) (c.requires.stands.stands tells).trees.extents))) (c.requires.counted tells))

pub returns-clause-spreads : goal.returns-clause-spreads
returns-clause-spreads g c tells =
    stored_spreads c.args.volume.now c.store_extents.new.volume (g.P.SectorView.space c.args.space.now).content (g.P.SectorView.space c.store_extents.new.space).content c.args.id c.args.kind c.args.later.now (c.can_spread.ensures.user c.if-not-can_spread.false) (c.can_spread.ensures.full c.if-not-can_spread.false)
    (c.in_ok-store_extents.ensures.stores tells)

pub returns-clause-spent : goal.returns-clause-spent
returns-clause-spent g c tells =
    c.store_extents.ensures.spent tells (c.args.records + overflow_records c.args.most)
    (λ names. edits_low (state_of names c.args.volume.now.extents.file (g.P.SectorView.space c.args.space.now)) c.args.id c.args.kind c.args.records c.args.later.now c.args.most
    (subst (λ (o : List Overflow). c.args.records ≡ length (kept (is_of c.args.id c.args.kind) o))
    (sym (ap (map overflow_of) (pairs_held extents_form IsExtentKey is_eight_extents extent_cmp names c.args.volume.now.extents.file (g.P.SectorView.space c.args.space.now) (c.requires.stands.stands tells).trees.extents))) (c.requires.counted tells))
    (full_in_use c.args.later.now (c.can_spread.ensures.full c.if-not-can_spread.false)) (c.can_spread.ensures.most c.if-not-can_spread.false))

pub returns-in_err-store_extents-clause-spent : goal.returns-in_err-store_extents-clause-spent
returns-in_err-store_extents-clause-spent g c tells =
    c.store_extents.ensures.spent tells (c.args.records + overflow_records c.args.most)
    (λ names. edits_low (state_of names c.args.volume.now.extents.file (g.P.SectorView.space c.args.space.now)) c.args.id c.args.kind c.args.records c.args.later.now c.args.most
    (subst (λ (o : List Overflow). c.args.records ≡ length (kept (is_of c.args.id c.args.kind) o))
    (sym (ap (map overflow_of) (pairs_held extents_form IsExtentKey is_eight_extents extent_cmp names c.args.volume.now.extents.file (g.P.SectorView.space c.args.space.now) (c.requires.stands.stands tells).trees.extents))) (c.requires.counted tells))
    (full_in_use c.args.later.now (c.can_spread.ensures.full c.if-not-can_spread.false)) (c.can_spread.ensures.most c.if-not-can_spread.false))

pub returns-then-not-can_spread-clause-spent : goal.returns-then-not-can_spread-clause-spent
returns-then-not-can_spread-clause-spent g c tells = omega arith
