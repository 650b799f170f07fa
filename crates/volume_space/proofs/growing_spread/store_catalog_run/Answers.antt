use Rattle.std.proofs.Common.{◌≡◌, List, map, inl, refl, sym, ◌∙◌, subst, arith}
use Rattle.std.specs.Prelude.{IsTrue, Result, Err, OnOk}
use Rattle.hx_bytes.specs.declared.extents.Extent.{Extent}
use Rattle.hx_bytes.specs.declared.faults.Trouble.{Trouble}
use Rattle.btree_file.specs.State.{sectors_of_tree, state_of}
use Rattle.btree_file.specs.Standing.{pairs_in}
use Rattle.btree_node.specs.Keys.{IsExtentKey, extent_cmp, is_eight_extents}
use Rattle.btree_node.specs.TreeFile.{extents_form}
use Rattle.btree_file.proofs.StandingLaws.{pairs_held}
use Rattle.btree_node.specs.Levels.{Pair}
use Rattle.hfs_volume.specs.Forks.{catalog_id, data_kind, in_use}
use Rattle.hfs_volume.specs.Records.{overflow_of}
use Rattle.overflow.proofs.Cutting.{AreUsed}
use Rattle.overflow.specs.Reading.{HasExtents, overflow_in_store}
use Rattle.overflow.specs.Room.{HasStoreRoom}
use Rattle.volume_base.specs.Spreading.{StoresFork}
use Rattle.volume_space.proofs.ExtentsEdited.{own_edited, serves_edited, touches_extents}
use Rattle.volume_space.proofs.SpreadEdited.{open_but, stands_stored, stores_used, used_in_run}
use Rattle.volume_space.proofs.SpreadRoom.{room_for_run}
use Rattle.volume_space.proofs.SpreadSpent.{one_stored}
use Rattle.volume_space.proofs.growing_spread.store_catalog_run.Goals as goal

-- what is said of an answer holds of none
off_ok : {U : Type 0} (P : Type 0) (q : Result U Trouble) (y : Trouble) → q ≡ Err y → OnOk q P
off_ok {U} P q y is = subst (λ (r : Result U Trouble). OnOk r P) (sym is) tt

pub store_records-requires-clause-desk : goal.store_records-requires-clause-desk
store_records-requires-clause-desk g c = c.requires.service.extents.desk

pub store_records-requires-clause-inside : goal.store_records-requires-clause-inside
store_records-requires-clause-inside g c = c.requires.service.extents.inside

pub store_records-requires-clause-open : goal.store_records-requires-clause-open
store_records-requires-clause-open g c = open_but catalog_id c.args.volume.now (g.P.SectorView.space c.args.space.now) c.requires.but

pub store_records-requires-clause-file : goal.store_records-requires-clause-file
store_records-requires-clause-file g c same = omega (arith, same)

pub store_records-requires-clause-kind : goal.store_records-requires-clause-kind
store_records-requires-clause-kind g c = inl refl

pub store_records-requires-clause-holds : goal.store_records-requires-clause-holds
store_records-requires-clause-holds g c tells = (c.requires.but tells).trees.extents

pub store_records-requires-clause-has : goal.store_records-requires-clause-has
store_records-requires-clause-has g c tells = c.requires.records tells

pub store_records-requires-clause-few : goal.store_records-requires-clause-few
store_records-requires-clause-few g c = c.are_few.ensures c.if-not-are_few.false

pub store_records-requires-clause-room : goal.store_records-requires-clause-room
store_records-requires-clause-room g c names tells =
    let goes = c.requires.longer tells in
    let held = (c.requires.but tells).trees.extents in
    let has : HasExtents (overflow_in_store (state_of names c.args.volume.now.extents.file (g.P.SectorView.space c.args.space.now))) catalog_id data_kind c.args.before.now = subst (λ (l : List Pair). HasExtents (map overflow_of l) catalog_id data_kind c.args.before.now)
    (sym (pairs_held extents_form IsExtentKey is_eight_extents extent_cmp names c.args.volume.now.extents.file (g.P.SectorView.space c.args.space.now) held)) (c.requires.records tells) in
    subst (λ (l : List Extent). HasStoreRoom (state_of names c.args.volume.now.extents.file (g.P.SectorView.space c.args.space.now)) catalog_id data_kind l) (sym (c.fork-list.ensures ∙ goes.is))
    (room_for_run (state_of names c.args.volume.now.extents.file (g.P.SectorView.space c.args.space.now)) catalog_id data_kind (λ same. absurd (omega (arith, same))) c.args.before.now has goes.run (λ none. absurd (omega (arith, goes.some, none))) tells (c.requires.one names tells))

pub returns-clause-stands : goal.returns-clause-stands
returns-clause-stands g c =
    let used : IsTrue (g.P.SectorView.space c.args.space.now).tells → AreUsed c.args.volume.now.catalog.file.fork = λ tells. used_in_run (map overflow_of (pairs_in (sectors_of_tree c.args.volume.now.extents.file) (g.P.SectorView.space c.args.space.now).content)) catalog_id c.args.before.now c.args.volume.now.catalog.file.fork (c.requires.records tells) (c.requires.longer tells) in
    stands_stored catalog_id c.args.volume.now (g.P.SectorView.space c.args.space.now) (g.P.SectorView.space c.store_records.new.space) (record { file = c.store_records.new.tree; desk = c.store_records.new.desk }) c.args.volume.now.catalog.file.fork
    (λ same. absurd (omega (arith, same))) (λ same. absurd (omega (arith, same))) c.requires.service c.requires.but c.store_records.ensures.frame c.store_records.ensures.desk used (λ tells. c.in_ok-store_records.ensures.holds tells)
    (λ tells. stores_used catalog_id c.args.volume.now.catalog.file.fork (pairs_in (sectors_of_tree c.args.volume.now.extents.file) (g.P.SectorView.space c.args.space.now).content) (pairs_in (sectors_of_tree c.args.volume.now.extents.file) (g.P.SectorView.space c.store_records.new.space).content) (used tells)
    (subst (λ (l : List Extent). StoresFork catalog_id data_kind (in_use l) (pairs_in (sectors_of_tree c.args.volume.now.extents.file) (g.P.SectorView.space c.args.space.now).content) (pairs_in (sectors_of_tree c.args.volume.now.extents.file) (g.P.SectorView.space c.store_records.new.space).content)) c.fork-list.ensures
    (c.in_ok-store_records.ensures.stores tells)))
    (λ tells same. (refl, c.requires.head tells)) (λ tells same. absurd (omega (arith, same)))

pub returns-clause-service : goal.returns-clause-service
returns-clause-service g c = serves_edited c.args.volume.now (g.P.SectorView.space c.args.space.now) (g.P.SectorView.space c.store_records.new.space) (record { file = c.store_records.new.tree; desk = c.store_records.new.desk }) c.store_records.ensures.frame c.requires.service c.store_records.ensures.desk

pub returns-clause-own : goal.returns-clause-own
returns-clause-own g c = own_edited c.args.volume.now (g.P.SectorView.space c.args.space.now) (g.P.SectorView.space c.store_records.new.space) (record { file = c.store_records.new.tree; desk = c.store_records.new.desk }) c.store_records.ensures.frame

pub returns-clause-touches : goal.returns-clause-touches
returns-clause-touches g c committed = touches_extents c.args.volume.now committed (g.P.SectorView.space c.args.space.now) (g.P.SectorView.space c.store_records.new.space) c.store_records.ensures.frame.space

pub returns-clause-stores : goal.returns-clause-stores
returns-clause-stores g c tells =
    let used = used_in_run (map overflow_of (pairs_in (sectors_of_tree c.args.volume.now.extents.file) (g.P.SectorView.space c.args.space.now).content)) catalog_id c.args.before.now c.args.volume.now.catalog.file.fork (c.requires.records tells) (c.requires.longer tells) in
    stores_used catalog_id c.args.volume.now.catalog.file.fork (pairs_in (sectors_of_tree c.args.volume.now.extents.file) (g.P.SectorView.space c.args.space.now).content) (pairs_in (sectors_of_tree c.args.volume.now.extents.file) (g.P.SectorView.space c.store_records.new.space).content) used
    (subst (λ (l : List Extent). StoresFork catalog_id data_kind (in_use l) (pairs_in (sectors_of_tree c.args.volume.now.extents.file) (g.P.SectorView.space c.args.space.now).content) (pairs_in (sectors_of_tree c.args.volume.now.extents.file) (g.P.SectorView.space c.store_records.new.space).content)) c.fork-list.ensures
    (c.in_ok-store_records.ensures.stores tells))

pub returns-in_err-store_records-clause-touches : goal.returns-in_err-store_records-clause-touches
returns-in_err-store_records-clause-touches g c committed = touches_extents c.args.volume.now committed (g.P.SectorView.space c.args.space.now) (g.P.SectorView.space c.store_records.new.space) c.store_records.ensures.frame.space

pub returns-in_err-store_records-clause-service : goal.returns-in_err-store_records-clause-service
returns-in_err-store_records-clause-service g c = serves_edited c.args.volume.now (g.P.SectorView.space c.args.space.now) (g.P.SectorView.space c.store_records.new.space) (record { file = c.store_records.new.tree; desk = c.store_records.new.desk }) c.store_records.ensures.frame c.requires.service c.store_records.ensures.desk

pub returns-in_err-store_records-clause-own : goal.returns-in_err-store_records-clause-own
returns-in_err-store_records-clause-own g c = own_edited c.args.volume.now (g.P.SectorView.space c.args.space.now) (g.P.SectorView.space c.store_records.new.space) (record { file = c.store_records.new.tree; desk = c.store_records.new.desk }) c.store_records.ensures.frame

pub returns-clause-spent : goal.returns-clause-spent
returns-clause-spent g c tells = c.store_records.ensures.spent tells 1 (one_stored c.args.volume.now (g.P.SectorView.space c.args.space.now) catalog_id (λ same. absurd (omega (arith, same))) c.args.before.now c.args.volume.now.catalog.file.fork (c.requires.but tells).trees.extents (c.requires.records tells) (c.requires.longer tells) c.fork-list.result.now c.fork-list.ensures)

pub returns-in_err-store_records-clause-spent : goal.returns-in_err-store_records-clause-spent
returns-in_err-store_records-clause-spent g c tells = c.store_records.ensures.spent tells 1 (one_stored c.args.volume.now (g.P.SectorView.space c.args.space.now) catalog_id (λ same. absurd (omega (arith, same))) c.args.before.now c.args.volume.now.catalog.file.fork (c.requires.but tells).trees.extents (c.requires.records tells) (c.requires.longer tells) c.fork-list.result.now c.fork-list.ensures)
