use Rattle.std.proofs.Common.{◌≡◌, ◌<◌, ◌++◌, [], ◌∷◌, List, ℕ, length, length-append, length-set, set, ◌∙◌, ap, cond, eqb, arith}
use Rattle.std.specs.Prelude.{Some}
use Rattle.jnl_format.specs.declared.blocks.Home.{Home}
use Rattle.jnl_store.specs.Newest.{newest}
use Rattle.jnl_store.specs.Placed.{Placed, beside}
use Rattle.jnl_store.proofs.Places.{length-beside, placed-push, placed-set, table-push}
use Rattle.jnl_store.proofs.Rows.{pushed_on}
use Rattle.jnl_store.proofs.live_table.LiveTable.put.Goals as goal

pub index_mut-requires : goal.index_mut-requires
index_mut-requires c = omega (arith, c.in-Some.ensures.place.inside, c.self.invariant.as_many, c.self.inside.places.ok.0)

pub returns-in-Some-clause-newest : goal.returns-in-Some-clause-newest
returns-in-Some-clause-newest c s =
    let i = c.self.inside in
    let t = c.self.invariant in
    let h = c.in-Some.ensures.place in
    let e : beside i.index.sectors i.places.items ≡ c.args.self.now.homes = ap (λ (t : Placed). t.homes) c.self.view_is in
    placed-set i.index.sectors i.places.items c.in-Some.k c.args.at c.args.place s t.as_many c.find.ensures.apart h.inside h.here
    ∙ ap (λ (hs : List Home). cond (eqb s c.args.at) (Some c.args.place) (newest hs s)) e

pub returns-in-Some-clause-few : goal.returns-in-Some-clause-few
returns-in-Some-clause-few c =
    let i = c.self.inside in
    let t = c.self.invariant in
    let e : beside i.index.sectors i.places.items ≡ c.args.self.now.homes = ap (λ (t : Placed). t.homes) c.self.view_is in
    let new = length-beside i.index.sectors (set i.places.items c.in-Some.k c.args.place) (length-set i.places.items c.in-Some.k c.args.place ∙ t.as_many) in
    omega (arith, new, length-beside i.index.sectors i.places.items t.as_many, ap length e)

pub push-requires-clause-room : goal.push-requires-clause-room
push-requires-clause-room c =
    let i = c.self.inside in
    let t = c.self.invariant in
    let e : beside i.index.sectors i.places.items ≡ c.args.self.now.homes = ap (λ (t : Placed). t.homes) c.self.view_is in
    let memory : i.memory ≡ c.args.self.now.memory = ap (λ (t : Placed). t.memory) c.self.view_is in
    omega (arith, c.requires, memory, ap length e, length-beside i.index.sectors i.places.items t.as_many, t.enough_index)

pub invariant_of-self-in-None : goal.invariant_of-self-in-None
invariant_of-self-in-None c =
    let i = c.self.inside in
    let t = c.self.invariant in
    let e : beside i.index.sectors i.places.items ≡ c.args.self.now.homes = ap (λ (t : Placed). t.homes) c.self.view_is in
    let memory : i.memory ≡ c.args.self.now.memory = ap (λ (t : Placed). t.memory) c.self.view_is in
    let some : length i.index.sectors < i.memory = omega (arith, c.requires, memory, ap length e, length-beside i.index.sectors i.places.items t.as_many) in
    let b = c.push-place.ensures in
    let places_are = pushed_on c.push-place.result _ i.places.items c.args.place (b.succeeds (omega (arith, some, t.as_many, i.places.ok.0, t.enough_places))) b.items in
    table-push i.index.sectors i.places.items i.memory _ _ _ _ c.args.at c.args.place _ _ c.push.ensures.sectors places_are t some c.push.ensures.memory b.capacity

pub returns-in-None-clause-newest : goal.returns-in-None-clause-newest
returns-in-None-clause-newest c s =
    let i = c.self.inside in
    let t = c.self.invariant in
    let at = c.args.at in
    let e : beside i.index.sectors i.places.items ≡ c.args.self.now.homes = ap (λ (t : Placed). t.homes) c.self.view_is in
    let memory : i.memory ≡ c.args.self.now.memory = ap (λ (t : Placed). t.memory) c.self.view_is in
    let some : length i.index.sectors < i.memory = omega (arith, c.requires, memory, ap length e, length-beside i.index.sectors i.places.items t.as_many) in
    let b = c.push-place.ensures in
    let places_are = pushed_on c.push-place.result _ i.places.items c.args.place (b.succeeds (omega (arith, some, t.as_many, i.places.ok.0, t.enough_places))) b.items in
    ap (λ (l : List ℕ). newest (beside l c.push-place.new.self.items) s) c.push.ensures.sectors
    ∙ ap (λ (l : List ℕ). newest (beside (i.index.sectors ++ at ∷ []) l) s) places_are
    ∙ placed-push i.index.sectors i.places.items at c.args.place s t.as_many
    ∙ ap (λ (hs : List Home). cond (eqb s at) (Some c.args.place) (newest hs s)) e

pub returns-in-None-clause-few : goal.returns-in-None-clause-few
returns-in-None-clause-few c =
    let i = c.self.inside in
    let t = c.self.invariant in
    let at = c.args.at in
    let e : beside i.index.sectors i.places.items ≡ c.args.self.now.homes = ap (λ (t : Placed). t.homes) c.self.view_is in
    let memory : i.memory ≡ c.args.self.now.memory = ap (λ (t : Placed). t.memory) c.self.view_is in
    let old = length-beside i.index.sectors i.places.items t.as_many in
    let some : length i.index.sectors < i.memory = omega (arith, c.requires, memory, ap length e, old) in
    let b = c.push-place.ensures in
    let places_are = pushed_on c.push-place.result _ i.places.items c.args.place (b.succeeds (omega (arith, some, t.as_many, i.places.ok.0, t.enough_places))) b.items in
    let long = length-append i.index.sectors (at ∷ []) in
    let beside_long = length-append i.places.items (c.args.place ∷ []) in
    let new = length-beside (i.index.sectors ++ at ∷ []) (i.places.items ++ c.args.place ∷ []) (omega (arith, long, beside_long, t.as_many)) in
    let is = ap (λ (l : List ℕ). length (beside l c.push-place.new.self.items)) c.push.ensures.sectors ∙ ap (λ (l : List ℕ). length (beside (i.index.sectors ++ at ∷ []) l)) places_are in
    omega (arith, is, new, long, old, ap length e)
