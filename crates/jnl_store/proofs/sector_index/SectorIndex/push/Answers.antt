use Rattle.std.proofs.Common.{◌≡◌, ◌<◌, ◌+◌, ◌++◌, [], ◌∷◌, List, ℕ, length, length-append, set, sym, ◌∙◌, ap, subst, arith}
use Rattle.std.specs.Prelude.{vec_capacity}
use Rattle.std.proofs.lemmas.Grind.{get_or_default_zero}
use Rattle.jnl_store.specs.Indexed.{Indexed, IsIndex, IsMissing, row_in}
use Rattle.jnl_store.proofs.Rows.{index-push, pushed_on}
use Rattle.jnl_store.proofs.sector_index.SectorIndex.push.Goals as goal

pub invariant_of-self : goal.invariant_of-self
invariant_of-self c =
    let i = c.self.inside in
    let t = c.self.invariant in
    let at = c.args.at in
    let row = c.row_of-row.result in
    let last = c.index-last.result.now in
    let e : i.sectors.items ≡ c.args.self.now.sectors = ap (λ (x : Indexed). x.sectors) c.self.view_is in
    let memory : i.memory ≡ c.args.self.now.memory = ap (λ (x : Indexed). x.memory) c.self.view_is in
    let m : IsMissing i.sectors.items at = subst (λ (l : List ℕ). IsMissing l at) (sym e) c.requires.missing in
    let some : length i.sectors.items < i.memory = omega (arith, c.requires.room, memory, ap (λ (l : List ℕ). length l) e) in
    let rows : c.len.result ≡ length i.rows.items = omega (arith, c.len.ensures, i.rows.ok.0) in
    let row_is : row ≡ row_in (length i.rows.items) at = c.row_of-row.ensures.row ∙ ap (λ n. row_in n at) rows in
    let below : row < length i.rows.items = omega (arith, c.row_of-row.ensures.below, rows) in
    let a = c.push-sector.ensures in
    let d = c.push-before.ensures in
    let sectors_are = pushed_on c.push-sector.result _ i.sectors.items at (a.succeeds (omega (arith, some, i.sectors.ok.0, t.enough_sectors))) a.items in
    let before_are = pushed_on c.push-before.result _ i.before.items last (d.succeeds (omega (arith, some, t.in_rows.as_many, i.before.ok.0, t.enough_before))) d.items in
    let count : c.len-2.result ≡ length i.sectors.items + 1 = omega (arith, c.len-2.ensures, c.push-sector.new.self.ok.0, ap (λ (l : List ℕ). length l) sectors_are, length-append i.sectors.items (at ∷ [])) in
    let rs = set i.rows.items row c.len-2.result in
    let P : List ℕ → List ℕ → Type 0 = λ x y. IsIndex x y rs i.memory (vec_capacity c.push-sector.new.self) (vec_capacity c.push-before.new.self) in
    subst (λ (l : List ℕ). P l c.push-before.new.self.items) (sym sectors_are)
    (subst (λ (l : List ℕ). P (i.sectors.items ++ at ∷ []) l) (sym before_are)
    (index-push i.sectors.items i.before.items i.rows.items i.memory _ _ _ _ at row last c.len-2.result t m some row_is below (c.index-last.ensures ∙ get_or_default_zero i.rows.items row last below) count a.capacity d.capacity))

pub returns-clause-sectors : goal.returns-clause-sectors
returns-clause-sectors c =
    let i = c.self.inside in
    let t = c.self.invariant in
    let at = c.args.at in
    let e : i.sectors.items ≡ c.args.self.now.sectors = ap (λ (x : Indexed). x.sectors) c.self.view_is in
    let memory : i.memory ≡ c.args.self.now.memory = ap (λ (x : Indexed). x.memory) c.self.view_is in
    let some : length i.sectors.items < i.memory = omega (arith, c.requires.room, memory, ap (λ (l : List ℕ). length l) e) in
    let a = c.push-sector.ensures in
    pushed_on c.push-sector.result _ i.sectors.items at (a.succeeds (omega (arith, some, i.sectors.ok.0, t.enough_sectors))) a.items
    ∙ ap (λ (l : List ℕ). l ++ at ∷ []) e
