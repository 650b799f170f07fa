use Rattle.std.proofs.Common.{◌≡◌, List, sym, ◌∙◌, ap, arith}
use Rattle.std.specs.Prelude.{Some}
use Rattle.std.proofs.lemmas.Grind.{get_or_default_zero}
use Rattle.jnl_format.specs.declared.blocks.Home.{Home}
use Rattle.jnl_store.specs.Newest.{newest}
use Rattle.jnl_store.specs.Placed.{Placed, beside}
use Rattle.jnl_store.proofs.Places.{absent, placed}
use Rattle.jnl_store.proofs.live_table.LiveTable.find.Goals as goal

pub index-requires : goal.index-requires
index-requires c = omega (arith, c.in-Some.ensures.place.inside, c.self.invariant.as_many, c.self.inside.places.ok.0)

pub returns-in-Some : goal.returns-in-Some
returns-in-Some c =
    let i = c.self.inside in
    let t = c.self.invariant in
    let h = c.in-Some.ensures.place in
    let e : beside i.index.sectors i.places.items ≡ c.args.self.now.homes = ap (λ (t : Placed). t.homes) c.self.view_is in
    ap (λ n. Some n) (c.index.ensures ∙ get_or_default_zero i.places.items c.in-Some.k c.index.result.now (omega (arith, h.inside, t.as_many)))
    ∙ sym (placed i.index.sectors i.places.items c.in-Some.k c.args.at t.as_many c.find.ensures.apart h.inside h.here)
    ∙ ap (λ (hs : List Home). newest hs c.args.at) e

pub returns-in-None : goal.returns-in-None
returns-in-None c =
    let i = c.self.inside in
    let e : beside i.index.sectors i.places.items ≡ c.args.self.now.homes = ap (λ (t : Placed). t.homes) c.self.view_is in
    sym (absent i.index.sectors i.places.items c.args.at c.in-None.ensures.place) ∙ ap (λ (hs : List Home). newest hs c.args.at) e
