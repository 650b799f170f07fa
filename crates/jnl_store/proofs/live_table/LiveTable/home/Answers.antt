use Rattle.std.proofs.Common.{◌≡◌, ◌<◌, List, length, get_or, sym, ◌∙◌, ap, arith}
use Rattle.std.specs.Prelude.{Some}
use Rattle.std.proofs.lemmas.Grind.{get_or_default_zero}
use Rattle.jnl_format.specs.declared.blocks.Home.{Home}
use Rattle.jnl_store.specs.Newest.{newest}
use Rattle.jnl_store.specs.Placed.{Placed, beside}
use Rattle.jnl_store.proofs.Places.{beside_at, length-beside, placed}
use Rattle.jnl_store.proofs.live_table.LiveTable.home.Goals as goal

pub sector-requires : goal.sector-requires
sector-requires c =
    let i = c.self.inside in
    let e : beside i.index.sectors i.places.items ≡ c.args.self.now.homes = ap (λ (t : Placed). t.homes) c.self.view_is in
    omega (arith, c.requires, length-beside i.index.sectors i.places.items c.self.invariant.as_many, ap length e)

pub index-requires : goal.index-requires
index-requires c =
    let i = c.self.inside in
    let e : beside i.index.sectors i.places.items ≡ c.args.self.now.homes = ap (λ (t : Placed). t.homes) c.self.view_is in
    omega (arith, c.requires, length-beside i.index.sectors i.places.items c.self.invariant.as_many, c.self.invariant.as_many, ap length e, i.places.ok.0)

pub returns-clause-sector : goal.returns-clause-sector
returns-clause-sector c none =
    let i = c.self.inside in
    let t = c.self.invariant in
    let e : beside i.index.sectors i.places.items ≡ c.args.self.now.homes = ap (λ (t : Placed). t.homes) c.self.view_is in
    let inside : c.args.k < length i.index.sectors = omega (arith, c.requires, length-beside i.index.sectors i.places.items t.as_many, ap length e) in
    ap (λ (hs : List Home). (get_or hs c.args.k none).sector) (sym e)
    ∙ ap (λ (h : Home). h.sector) (beside_at i.index.sectors i.places.items c.args.k none t.as_many inside)
    ∙ sym c.sector.ensures.is

pub returns-clause-newest : goal.returns-clause-newest
returns-clause-newest c =
    let i = c.self.inside in
    let t = c.self.invariant in
    let e : beside i.index.sectors i.places.items ≡ c.args.self.now.homes = ap (λ (t : Placed). t.homes) c.self.view_is in
    let inside : c.args.k < length i.index.sectors = omega (arith, c.requires, length-beside i.index.sectors i.places.items t.as_many, ap length e) in
    ap (λ (hs : List Home). newest hs c.sector.result) (sym e)
    ∙ placed i.index.sectors i.places.items c.args.k c.sector.result t.as_many c.sector.ensures.apart inside (sym c.sector.ensures.is)
    ∙ ap (λ n. Some n) (sym (c.index.ensures ∙ get_or_default_zero i.places.items c.args.k c.index.result.now (omega (arith, inside, t.as_many))))
