use Rattle.volume_base.specs.declared.volume.Tree.{Tree}
use Rattle.std.proofs.Common.{◌<◌, ◌≤◌, length, arith, ◌+◌, sym, ◌∙◌, subst, ⊎_elim}
use Rattle.std.specs.Prelude.{IfOk}
use Rattle.volume_space.specs.Growing.{GoesAhead, GrowthFits, IsOwnOrFree, WantsFirst, file_of, growth_room}
use Rattle.volume_space.specs.SpreadGrowth.{SpreadGrowthFits, growth_room_spread}
use Rattle.volume_space.specs.declared.ahead.Growth.{Growth}
use Rattle.volume_space.specs.declared.ahead.WhichTree.{WhichTree}
use Rattle.volume_space.specs.declared.ahead.WhichTree.TheVariants as which
use Rattle.volume_space.proofs.GrowthFitted.{wanted_fits, wanted_loads}
use Rattle.volume_space.proofs.SpreadSpent.{spent_more}
use Rattle.volume_base.proofs.KeptMarks.{holds_kept, settled_kept, stands_kept, unchanged_kept}
use Rattle.volume_space.proofs.WhenKept.{fits_kept, free_kept, load_kept, load_kept_spread, on_ok, spread_kept, touches_those}
use Rattle.volume_space.proofs.ahead.grow_tree.Goals as goal

pub grow_extents_kept-requires-clause-stands : goal.grow_extents_kept-requires-clause-stands
grow_extents_kept-requires-clause-stands g c = stands_kept c.args.volume.now c.keep.new.self c.keep.ensures (g.P.SectorView.space c.args.space.now) c.requires.stands

pub grow_extents_kept-requires-clause-settled : goal.grow_extents_kept-requires-clause-settled
grow_extents_kept-requires-clause-settled g c tells = settled_kept c.args.volume.now c.keep.new.self c.keep.ensures (g.P.SectorView.space c.args.space.now) (c.requires.settled tells)

pub grow_extents_kept-requires-clause-unchanged : goal.grow_extents_kept-requires-clause-unchanged
grow_extents_kept-requires-clause-unchanged g c = unchanged_kept c.args.volume.now c.keep.new.self c.keep.ensures (g.P.SectorView.space c.args.space.now) c.requires.stands.service

pub returns-in-Extents-clause-ahead : goal.returns-in-Extents-clause-ahead
returns-in-Extents-clause-ahead g c tells = subst (λ (t : WhichTree). IfOk c.grow_extents_kept.result (λ (said : Growth). GoesAhead said t c.args.more (g.P.SectorView.space c.args.space.now).content (g.P.SectorView.space c.grow_extents_kept.new.space).content)) (sym c.in-Extents.is) (c.grow_extents_kept.ensures.ahead tells)

pub returns-in-Extents-clause-sure : goal.returns-in-Extents-clause-sure
returns-in-Extents-clause-sure g c tells fits = c.grow_extents_kept.ensures.sure tells (fits_kept c.args.volume.now c.keep.new.self c.keep.ensures which.Extents c.args.more (g.P.SectorView.space c.args.space.now) (subst (λ (t : WhichTree). GrowthFits t c.args.more c.args.volume.now (g.P.SectorView.space c.args.space.now)) c.in-Extents.is fits))

pub returns-in-Extents-clause-holds : goal.returns-in-Extents-clause-holds
returns-in-Extents-clause-holds g c committed was = c.grow_extents_kept.ensures.holds committed (holds_kept c.args.volume.now c.keep.new.self c.keep.ensures committed was)

pub returns-in-Extents-clause-same : goal.returns-in-Extents-clause-same
returns-in-Extents-clause-same g c = (c.grow_extents_kept.ensures.same.0 ∙ c.keep.ensures.same.private, c.grow_extents_kept.ensures.same.1 ∙ c.keep.ensures.same.shrunk, c.grow_extents_kept.ensures.same.2 ∙ c.keep.ensures.same.capacity)

pub returns-in-Extents-clause-touches : goal.returns-in-Extents-clause-touches
returns-in-Extents-clause-touches g c committed =
    touches_those committed (IsOwnOrFree c.keep.new.self) (IsOwnOrFree c.args.volume.now) (g.P.SectorView.space c.args.space.now) (g.P.SectorView.space c.grow_extents_kept.new.space) (λ tells s is. free_kept c.args.volume.now c.keep.new.self c.keep.ensures s is) (c.grow_extents_kept.ensures.touches committed)

pub returns-in-Extents-clause-gained : goal.returns-in-Extents-clause-gained
returns-in-Extents-clause-gained g c tells = on_ok (λ each s is. free_kept c.args.volume.now c.keep.new.self c.keep.ensures s (each s is)) c.grow_extents_kept.result (c.grow_extents_kept.ensures.gained tells)

pub returns-in-Extents-clause-spent : goal.returns-in-Extents-clause-spent
returns-in-Extents-clause-spent g c few =
    subst (λ (t : WhichTree). (g.P.SectorView.space c.args.space.now).spare ≤ (g.P.SectorView.space c.grow_extents_kept.new.space).spare + growth_room t c.args.more c.args.volume.now) (sym c.in-Extents.is)
    (subst (λ n. (g.P.SectorView.space c.args.space.now).spare ≤ (g.P.SectorView.space c.grow_extents_kept.new.space).spare + n) (load_kept c.args.volume.now c.keep.new.self c.keep.ensures which.Extents c.args.more) c.grow_extents_kept.ensures.spent)

pub grow_catalog_kept-requires-clause-stands : goal.grow_catalog_kept-requires-clause-stands
grow_catalog_kept-requires-clause-stands g c = stands_kept c.args.volume.now c.keep.new.self c.keep.ensures (g.P.SectorView.space c.args.space.now) c.requires.stands

pub grow_catalog_kept-requires-clause-settled : goal.grow_catalog_kept-requires-clause-settled
grow_catalog_kept-requires-clause-settled g c tells = settled_kept c.args.volume.now c.keep.new.self c.keep.ensures (g.P.SectorView.space c.args.space.now) (c.requires.settled tells)

pub grow_catalog_kept-requires-clause-unchanged : goal.grow_catalog_kept-requires-clause-unchanged
grow_catalog_kept-requires-clause-unchanged g c = unchanged_kept c.args.volume.now c.keep.new.self c.keep.ensures (g.P.SectorView.space c.args.space.now) c.requires.stands.service

pub returns-in-Catalog-clause-ahead : goal.returns-in-Catalog-clause-ahead
returns-in-Catalog-clause-ahead g c tells = subst (λ (t : WhichTree). IfOk c.grow_catalog_kept.result (λ (said : Growth). GoesAhead said t c.args.more (g.P.SectorView.space c.args.space.now).content (g.P.SectorView.space c.grow_catalog_kept.new.space).content)) (sym c.in-Catalog.is) (c.grow_catalog_kept.ensures.ahead tells)

pub returns-in-Catalog-clause-sure : goal.returns-in-Catalog-clause-sure
returns-in-Catalog-clause-sure g c tells fits = c.grow_catalog_kept.ensures.sure tells (fits_kept c.args.volume.now c.keep.new.self c.keep.ensures which.Catalog c.args.more (g.P.SectorView.space c.args.space.now) (subst (λ (t : WhichTree). GrowthFits t c.args.more c.args.volume.now (g.P.SectorView.space c.args.space.now)) c.in-Catalog.is fits))

pub returns-in-Catalog-clause-holds : goal.returns-in-Catalog-clause-holds
returns-in-Catalog-clause-holds g c committed was = c.grow_catalog_kept.ensures.holds committed (holds_kept c.args.volume.now c.keep.new.self c.keep.ensures committed was)

pub returns-in-Catalog-clause-same : goal.returns-in-Catalog-clause-same
returns-in-Catalog-clause-same g c = (c.grow_catalog_kept.ensures.same.0 ∙ c.keep.ensures.same.private, c.grow_catalog_kept.ensures.same.1 ∙ c.keep.ensures.same.shrunk, c.grow_catalog_kept.ensures.same.2 ∙ c.keep.ensures.same.capacity)

pub returns-in-Catalog-clause-touches : goal.returns-in-Catalog-clause-touches
returns-in-Catalog-clause-touches g c committed =
    touches_those committed (IsOwnOrFree c.keep.new.self) (IsOwnOrFree c.args.volume.now) (g.P.SectorView.space c.args.space.now) (g.P.SectorView.space c.grow_catalog_kept.new.space) (λ tells s is. free_kept c.args.volume.now c.keep.new.self c.keep.ensures s is) (c.grow_catalog_kept.ensures.touches committed)

pub returns-in-Catalog-clause-gained : goal.returns-in-Catalog-clause-gained
returns-in-Catalog-clause-gained g c tells = on_ok (λ each s is. free_kept c.args.volume.now c.keep.new.self c.keep.ensures s (each s is)) c.grow_catalog_kept.result (c.grow_catalog_kept.ensures.gained tells)

pub returns-in-Catalog-clause-spent : goal.returns-in-Catalog-clause-spent
returns-in-Catalog-clause-spent g c few =
    subst (λ (t : WhichTree). (g.P.SectorView.space c.args.space.now).spare ≤ (g.P.SectorView.space c.grow_catalog_kept.new.space).spare + growth_room t c.args.more c.args.volume.now) (sym c.in-Catalog.is)
    (subst (λ n. (g.P.SectorView.space c.args.space.now).spare ≤ (g.P.SectorView.space c.grow_catalog_kept.new.space).spare + n) (load_kept c.args.volume.now c.keep.new.self c.keep.ensures which.Catalog c.args.more) (c.grow_catalog_kept.ensures.spent (subst (λ (u : Tree). length u.file.fork < 8) (sym c.keep.ensures.same.catalog) (subst (λ (t : WhichTree). length (file_of t c.args.volume.now).fork < 8) c.in-Catalog.is few))))

pub grow_attributes_kept-requires-clause-stands : goal.grow_attributes_kept-requires-clause-stands
grow_attributes_kept-requires-clause-stands g c = stands_kept c.args.volume.now c.keep.new.self c.keep.ensures (g.P.SectorView.space c.args.space.now) c.requires.stands

pub grow_attributes_kept-requires-clause-settled : goal.grow_attributes_kept-requires-clause-settled
grow_attributes_kept-requires-clause-settled g c tells = settled_kept c.args.volume.now c.keep.new.self c.keep.ensures (g.P.SectorView.space c.args.space.now) (c.requires.settled tells)

pub grow_attributes_kept-requires-clause-unchanged : goal.grow_attributes_kept-requires-clause-unchanged
grow_attributes_kept-requires-clause-unchanged g c = unchanged_kept c.args.volume.now c.keep.new.self c.keep.ensures (g.P.SectorView.space c.args.space.now) c.requires.stands.service

pub returns-in-Attributes-clause-ahead : goal.returns-in-Attributes-clause-ahead
returns-in-Attributes-clause-ahead g c tells = subst (λ (t : WhichTree). IfOk c.grow_attributes_kept.result (λ (said : Growth). GoesAhead said t c.args.more (g.P.SectorView.space c.args.space.now).content (g.P.SectorView.space c.grow_attributes_kept.new.space).content)) (sym c.in-Attributes.is) (c.grow_attributes_kept.ensures.ahead tells)

pub returns-in-Attributes-clause-sure : goal.returns-in-Attributes-clause-sure
returns-in-Attributes-clause-sure g c tells fits = c.grow_attributes_kept.ensures.sure tells (fits_kept c.args.volume.now c.keep.new.self c.keep.ensures which.Attributes c.args.more (g.P.SectorView.space c.args.space.now) (subst (λ (t : WhichTree). GrowthFits t c.args.more c.args.volume.now (g.P.SectorView.space c.args.space.now)) c.in-Attributes.is fits))

pub returns-in-Attributes-clause-holds : goal.returns-in-Attributes-clause-holds
returns-in-Attributes-clause-holds g c committed was = c.grow_attributes_kept.ensures.holds committed (holds_kept c.args.volume.now c.keep.new.self c.keep.ensures committed was)

pub returns-in-Attributes-clause-same : goal.returns-in-Attributes-clause-same
returns-in-Attributes-clause-same g c = (c.grow_attributes_kept.ensures.same.0 ∙ c.keep.ensures.same.private, c.grow_attributes_kept.ensures.same.1 ∙ c.keep.ensures.same.shrunk, c.grow_attributes_kept.ensures.same.2 ∙ c.keep.ensures.same.capacity)

pub returns-in-Attributes-clause-touches : goal.returns-in-Attributes-clause-touches
returns-in-Attributes-clause-touches g c committed =
    touches_those committed (IsOwnOrFree c.keep.new.self) (IsOwnOrFree c.args.volume.now) (g.P.SectorView.space c.args.space.now) (g.P.SectorView.space c.grow_attributes_kept.new.space) (λ tells s is. free_kept c.args.volume.now c.keep.new.self c.keep.ensures s is) (c.grow_attributes_kept.ensures.touches committed)

pub returns-in-Attributes-clause-gained : goal.returns-in-Attributes-clause-gained
returns-in-Attributes-clause-gained g c tells = on_ok (λ each s is. free_kept c.args.volume.now c.keep.new.self c.keep.ensures s (each s is)) c.grow_attributes_kept.result (c.grow_attributes_kept.ensures.gained tells)

pub returns-in-Attributes-clause-spent : goal.returns-in-Attributes-clause-spent
returns-in-Attributes-clause-spent g c few =
    subst (λ (t : WhichTree). (g.P.SectorView.space c.args.space.now).spare ≤ (g.P.SectorView.space c.grow_attributes_kept.new.space).spare + growth_room t c.args.more c.args.volume.now) (sym c.in-Attributes.is)
    (subst (λ n. (g.P.SectorView.space c.args.space.now).spare ≤ (g.P.SectorView.space c.grow_attributes_kept.new.space).spare + n) (load_kept c.args.volume.now c.keep.new.self c.keep.ensures which.Attributes c.args.more) (c.grow_attributes_kept.ensures.spent (subst (λ (u : Tree). length u.file.fork < 8) (sym c.keep.ensures.same.attributes) (subst (λ (t : WhichTree). length (file_of t c.args.volume.now).fork < 8) c.in-Attributes.is few))))

pub returns-in-Extents-clause-counted : goal.returns-in-Extents-clause-counted
returns-in-Extents-clause-counted g c tells wants = ⊎_elim
    (λ fits. c.grow_extents_kept.ensures.sure tells (fits_kept c.args.volume.now c.keep.new.self c.keep.ensures which.Extents c.args.more (g.P.SectorView.space c.args.space.now) fits))
    (λ fits. c.grow_extents_kept.ensures.sure tells (spread_kept c.args.volume.now c.keep.new.self c.keep.ensures which.Extents c.args.more (g.P.SectorView.space c.args.space.now) fits))
    (wanted_fits c.args.volume.now (g.P.SectorView.space c.args.space.now) c.requires.stands tells (c.requires.settled tells) c.a_load_says_enough.ensures c.trees_grow_by_enough.ensures which.Extents c.args.more (subst (λ (t : WhichTree). WantsFirst t c.args.more c.args.volume.now (g.P.SectorView.space c.args.space.now)) c.in-Extents.is wants))

pub returns-in-Catalog-clause-counted : goal.returns-in-Catalog-clause-counted
returns-in-Catalog-clause-counted g c tells wants = ⊎_elim
    (λ fits. c.grow_catalog_kept.ensures.sure tells (fits_kept c.args.volume.now c.keep.new.self c.keep.ensures which.Catalog c.args.more (g.P.SectorView.space c.args.space.now) fits))
    (λ fits. c.grow_catalog_kept.ensures.spread tells (spread_kept c.args.volume.now c.keep.new.self c.keep.ensures which.Catalog c.args.more (g.P.SectorView.space c.args.space.now) fits))
    (wanted_fits c.args.volume.now (g.P.SectorView.space c.args.space.now) c.requires.stands tells (c.requires.settled tells) c.a_load_says_enough.ensures c.trees_grow_by_enough.ensures which.Catalog c.args.more (subst (λ (t : WhichTree). WantsFirst t c.args.more c.args.volume.now (g.P.SectorView.space c.args.space.now)) c.in-Catalog.is wants))

pub returns-in-Attributes-clause-counted : goal.returns-in-Attributes-clause-counted
returns-in-Attributes-clause-counted g c tells wants = ⊎_elim
    (λ fits. c.grow_attributes_kept.ensures.sure tells (fits_kept c.args.volume.now c.keep.new.self c.keep.ensures which.Attributes c.args.more (g.P.SectorView.space c.args.space.now) fits))
    (λ fits. c.grow_attributes_kept.ensures.spread tells (spread_kept c.args.volume.now c.keep.new.self c.keep.ensures which.Attributes c.args.more (g.P.SectorView.space c.args.space.now) fits))
    (wanted_fits c.args.volume.now (g.P.SectorView.space c.args.space.now) c.requires.stands tells (c.requires.settled tells) c.a_load_says_enough.ensures c.trees_grow_by_enough.ensures which.Attributes c.args.more (subst (λ (t : WhichTree). WantsFirst t c.args.more c.args.volume.now (g.P.SectorView.space c.args.space.now)) c.in-Attributes.is wants))

pub returns-in-Extents-clause-spread : goal.returns-in-Extents-clause-spread
returns-in-Extents-clause-spread g c tells fits = c.grow_extents_kept.ensures.sure tells (spread_kept c.args.volume.now c.keep.new.self c.keep.ensures which.Extents c.args.more (g.P.SectorView.space c.args.space.now) (subst (λ (t : WhichTree). SpreadGrowthFits t c.args.more c.args.volume.now (g.P.SectorView.space c.args.space.now)) c.in-Extents.is fits))

pub returns-in-Catalog-clause-spread : goal.returns-in-Catalog-clause-spread
returns-in-Catalog-clause-spread g c tells fits = c.grow_catalog_kept.ensures.spread tells (spread_kept c.args.volume.now c.keep.new.self c.keep.ensures which.Catalog c.args.more (g.P.SectorView.space c.args.space.now) (subst (λ (t : WhichTree). SpreadGrowthFits t c.args.more c.args.volume.now (g.P.SectorView.space c.args.space.now)) c.in-Catalog.is fits))

pub returns-in-Attributes-clause-spread : goal.returns-in-Attributes-clause-spread
returns-in-Attributes-clause-spread g c tells fits = c.grow_attributes_kept.ensures.spread tells (spread_kept c.args.volume.now c.keep.new.self c.keep.ensures which.Attributes c.args.more (g.P.SectorView.space c.args.space.now) (subst (λ (t : WhichTree). SpreadGrowthFits t c.args.more c.args.volume.now (g.P.SectorView.space c.args.space.now)) c.in-Attributes.is fits))

pub returns-in-Extents-clause-spent_spread : goal.returns-in-Extents-clause-spent_spread
returns-in-Extents-clause-spent_spread g c tells =
    subst (λ (t : WhichTree). (g.P.SectorView.space c.args.space.now).spare ≤ (g.P.SectorView.space c.grow_extents_kept.new.space).spare + growth_room_spread t c.args.more c.args.volume.now) (sym c.in-Extents.is)
    (subst (λ n. (g.P.SectorView.space c.args.space.now).spare ≤ (g.P.SectorView.space c.grow_extents_kept.new.space).spare + n) (load_kept_spread c.args.volume.now c.keep.new.self c.keep.ensures which.Extents c.args.more) (spent_more which.Extents c.args.more c.keep.new.self (g.P.SectorView.space c.args.space.now) (g.P.SectorView.space c.grow_extents_kept.new.space) c.grow_extents_kept.ensures.spent))

pub returns-in-Catalog-clause-spent_spread : goal.returns-in-Catalog-clause-spent_spread
returns-in-Catalog-clause-spent_spread g c tells =
    subst (λ (t : WhichTree). (g.P.SectorView.space c.args.space.now).spare ≤ (g.P.SectorView.space c.grow_catalog_kept.new.space).spare + growth_room_spread t c.args.more c.args.volume.now) (sym c.in-Catalog.is)
    (subst (λ n. (g.P.SectorView.space c.args.space.now).spare ≤ (g.P.SectorView.space c.grow_catalog_kept.new.space).spare + n) (load_kept_spread c.args.volume.now c.keep.new.self c.keep.ensures which.Catalog c.args.more) (c.grow_catalog_kept.ensures.spent_spread tells))

pub returns-in-Attributes-clause-spent_spread : goal.returns-in-Attributes-clause-spent_spread
returns-in-Attributes-clause-spent_spread g c tells =
    subst (λ (t : WhichTree). (g.P.SectorView.space c.args.space.now).spare ≤ (g.P.SectorView.space c.grow_attributes_kept.new.space).spare + growth_room_spread t c.args.more c.args.volume.now) (sym c.in-Attributes.is)
    (subst (λ n. (g.P.SectorView.space c.args.space.now).spare ≤ (g.P.SectorView.space c.grow_attributes_kept.new.space).spare + n) (load_kept_spread c.args.volume.now c.keep.new.self c.keep.ensures which.Attributes c.args.more) (c.grow_attributes_kept.ensures.spent_spread tells))

pub returns-in-Extents-clause-loads : goal.returns-in-Extents-clause-loads
returns-in-Extents-clause-loads g c tells wants = ⊎_elim
    (λ short. omega (arith, returns-in-Extents-clause-spent g c short.0, short.1))
    (λ spread. omega (arith, returns-in-Extents-clause-spent_spread g c tells, spread))
    (wanted_loads c.args.volume.now (g.P.SectorView.space c.args.space.now) c.requires.stands tells (c.requires.settled tells) c.a_load_says_enough.ensures c.trees_grow_by_enough.ensures c.args.tree c.args.more wants)

pub returns-in-Catalog-clause-loads : goal.returns-in-Catalog-clause-loads
returns-in-Catalog-clause-loads g c tells wants = ⊎_elim
    (λ short. omega (arith, returns-in-Catalog-clause-spent g c short.0, short.1))
    (λ spread. omega (arith, returns-in-Catalog-clause-spent_spread g c tells, spread))
    (wanted_loads c.args.volume.now (g.P.SectorView.space c.args.space.now) c.requires.stands tells (c.requires.settled tells) c.a_load_says_enough.ensures c.trees_grow_by_enough.ensures c.args.tree c.args.more wants)

pub returns-in-Attributes-clause-loads : goal.returns-in-Attributes-clause-loads
returns-in-Attributes-clause-loads g c tells wants = ⊎_elim
    (λ short. omega (arith, returns-in-Attributes-clause-spent g c short.0, short.1))
    (λ spread. omega (arith, returns-in-Attributes-clause-spent_spread g c tells, spread))
    (wanted_loads c.args.volume.now (g.P.SectorView.space c.args.space.now) c.requires.stands tells (c.requires.settled tells) c.a_load_says_enough.ensures c.trees_grow_by_enough.ensures c.args.tree c.args.more wants)
