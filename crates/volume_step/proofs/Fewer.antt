-- Fewer edits are met where more are.
use Rattle.std.proofs.Common.{◌≡◌, ◌⊎◌, ◌≤◌, ℕ, ◌+◌, ◌*◌, min, true, false, List, [], ◌∷◌, inl, inr, refl, sym, ◌∙◌, ap, subst, arith, le-ltb, mul-le-mul_right}
use Rattle.std.specs.Prelude.{◌==◌, ◌&&◌, nat_lt, nat_le, not, slice_index, Option, None}
use Rattle.std.proofs.lemmas.Bool.{eqb-true, leb-true, le-leb, and_parts, true≢false}
use Rattle.hfs_language.specs.declared.refusal.Refusal.{Refusal}
use Rattle.hfs_language.specs.declared.refusal.Refusal.TheVariants as refusal
use Rattle.hfs_volume.specs.Cost.{Plan, attributes_key, bitmap_load, catalog_key, cost_of, cost_or, deep_refusal, extents_key, first_refusal, growth, growth_blocks, is_too_deep, load_of, load_refusal, node_sectors, plan_of, resource_refusal, takes_extent, tree_at, tree_load, where_}
use Rattle.hfs_volume.specs.Forks.{parts_for}
use Rattle.hfs_volume.specs.Weight.{Edits}
use Rattle.hfs_volume.specs.declared.cost.Cost.{Cost}
use Rattle.hfs_volume.specs.declared.cost.Cost.TheVariants as cost
use Rattle.hfs_volume.specs.declared.cost.Needs.{Needs}
use Rattle.hfs_volume.specs.declared.cost.Room.{Room}
use Rattle.tree_weights.specs.Weights.{GrowsByEnough, HoldsThree, IsAfforded, LoadIsOfParts, LoadSaysEnough, load_at}
use Rattle.volume_base.specs.Fitting.{is_met}
use Rattle.volume_space.proofs.FewerEdits.{growth_low, load_low, no_blocks, none_lacks, not_deep}

-- what edits need, where no data is put
abbrev pub needs_of_edits : Edits → Needs
needs_of_edits many = record { ids = many.ids; edits = 0 ∷ many.catalog ∷ many.attributes ∷ []; updates = many.updates; new_blocks = 0; old_blocks = 0; runs = 0 }

-- ---- a load that is met

pub met_load : (cost_ : Cost) (load spare : ℕ) → cost_ ≡ cost.Load load (0 ∷ 0 ∷ 0 ∷ []) → load ≤ spare → is_met cost_ spare ≡ true
met_load cost_ load spare is fits = ap (λ (c : Cost). is_met c spare) is ∙ le-leb load spare fits

record IsLoad (cost_ : Cost) (spare : ℕ) : Type 0 where
  load : ℕ
  grow : List ℕ
  is : cost_ ≡ cost.Load load grow
  catalog : slice_index grow 1 ≡ 0
  attributes : slice_index grow 2 ≡ 0
  fits : load ≤ spare

loads : (cost_ : Cost) (spare : ℕ) → is_met cost_ spare ≡ true → IsLoad cost_ spare
loads (cost.Refused why) spare is = absurd (true≢false (sym is))
loads (cost.Load load grow) spare is =
    let first = and_parts (slice_index grow 1 == 0) ((slice_index grow 2 == 0) && nat_le load spare) is in
    let second = and_parts (slice_index grow 2 == 0) (nat_le load spare) first.1 in
    record { load = load; grow = grow; is = refl; catalog = eqb-true (slice_index grow 1) 0 first.0; attributes = eqb-true (slice_index grow 2) 0 second.0; fits = leb-true load spare second.1 }

-- ---- all of them

module _ (says : LoadSaysEnough) (of_parts : LoadIsOfParts) (enough : GrowsByEnough) (few : Edits) (wanted : Needs) (room : Room) (spare : ℕ) (three : HoldsThree catalog_key (tree_at room 1)) (ids : few.ids ≤ wanted.ids) (catalog : few.catalog ≤ slice_index wanted.edits 1) (attributes : (few.attributes ≡ slice_index wanted.edits 2) ⊎ (few.attributes ≡ 0)) (updates : few.updates ≤ wanted.updates)
    (met : is_met (cost_of wanted room) spare ≡ true)
  where
    is : IsLoad (cost_of wanted room) spare
    is = loads (cost_of wanted room) spare met

    afforded : IsAfforded wanted room is.load is.grow
    afforded = says wanted room is.load is.grow is.is

    catalog_many : growth room.block catalog_key (tree_at room 1) (slice_index wanted.edits 1) ≡ 0
    catalog_many = sym (ap (λ l. slice_index l 1) afforded.grows) ∙ is.catalog

    attributes_many : growth room.block attributes_key (tree_at room 2) (slice_index wanted.edits 2) ≡ 0
    attributes_many = sym (ap (λ l. slice_index l 2) afforded.grows) ∙ is.attributes

    catalog_none : growth room.block catalog_key (tree_at room 1) few.catalog ≡ 0
    catalog_none = growth_low catalog_key few.catalog (slice_index wanted.edits 1) (tree_at room 1) three catalog room.block enough catalog_many

    attributes_none : growth room.block attributes_key (tree_at room 2) few.attributes ≡ 0
    attributes_none = elim attributes [
      | inl same ↦ ap (growth room.block attributes_key (tree_at room 2)) same ∙ attributes_many
      | inr none ↦ ap (growth room.block attributes_key (tree_at room 2)) none ∙ none_lacks room.block attributes_key (tree_at room 2)
    ]

    deep_attributes : is_too_deep attributes_key (tree_at room 2) few.attributes ≡ false
    deep_attributes = elim attributes [
      | inl same ↦ ap (is_too_deep attributes_key (tree_at room 2)) same ∙ afforded.attributes
      | inr none ↦ ap (is_too_deep attributes_key (tree_at room 2)) none
    ]

    attributes_low : tree_load attributes_key (tree_at room 2) few.attributes 0 ≤ load_at wanted room 2
    attributes_low = elim attributes [
      | inl same ↦ subst (λ (k : ℕ × ℕ). tree_load attributes_key (tree_at room 2) k.0 0 ≤ tree_load attributes_key (tree_at room 2) (slice_index wanted.edits 2) k.1) {x = (slice_index wanted.edits 2, 0)} {y = (few.attributes, slice_index (plan_of wanted room).grow 2)} (λ i. (sym same i, sym attributes_many i)) (omega arith)
      | inr none ↦ subst (λ n. tree_load attributes_key (tree_at room 2) n 0 ≤ load_at wanted room 2) (sym none) (omega arith)
    ]

    catalog_low : tree_load catalog_key (tree_at room 1) few.catalog 0 ≤ load_at wanted room 1
    catalog_low = subst (λ n. tree_load catalog_key (tree_at room 1) few.catalog 0 ≤ tree_load catalog_key (tree_at room 1) (slice_index wanted.edits 1) n) (sym catalog_many) (load_low catalog_key few.catalog (slice_index wanted.edits 1) (tree_at room 1) three catalog)

    updates_low : few.updates * node_sectors (tree_at room 1) ≤ wanted.updates * node_sectors (tree_at room 1)
    updates_low = mul-le-mul_right (node_sectors (tree_at room 1)) updates

    -- the plan
    planned : ℕ → ℕ → Plan
    planned c t = record {
      edits = (0 + takes_extent (tree_at room 1) c + takes_extent (tree_at room 2) t) ∷ few.catalog ∷ few.attributes ∷ [];
      grow = growth room.block extents_key (tree_at room 0) (0 + takes_extent (tree_at room 1) c + takes_extent (tree_at room 2) t) ∷ c ∷ t ∷ [];
    }

    abbrev still : Plan
    still = record { edits = 0 ∷ few.catalog ∷ few.attributes ∷ []; grow = 0 ∷ 0 ∷ 0 ∷ [] }

    plan_is : plan_of (needs_of_edits few) room ≡ still
    unfolding planned
    plan_is = (λ i. planned (catalog_none i) (attributes_none i)) ∙ (λ i. record { edits = 0 ∷ few.catalog ∷ few.attributes ∷ []; grow = none_lacks room.block extents_key (tree_at room 0) i ∷ 0 ∷ 0 ∷ [] })

    blocks_none : growth_blocks still room ≡ 0
    blocks_none = omega (arith, no_blocks room.block (tree_at room 0), no_blocks room.block (tree_at room 1), no_blocks room.block (tree_at room 2))

    bitmap_none : bitmap_load (needs_of_edits few) room (growth_blocks still room) ≡ 0
    bitmap_none = ap (bitmap_load (needs_of_edits few) room) blocks_none ∙ none_least (parts_for room.total 4096)
      where
        none_least : (n : ℕ) → min n 0 ≡ 0
        none_least n = omega arith

    load_then : load_of (needs_of_edits few) room still ≤ is.load
    unfolding load_of
    load_then = let parts = of_parts wanted room is.load is.grow afforded in omega (arith, parts, catalog_low, attributes_low, updates_low, bitmap_none)

    nothing_missing : resource_refusal (needs_of_edits few) room still ≡ None
    nothing_missing =
        (λ i. first_refusal
        (where_ (le-ltb 4294967295 (room.next_id + few.ids) (omega (arith, afforded.ids, ids)) i) (refusal.NoIds room.next_id)
        ∷ deep_refusal extents_key (tree_at room 0) 0
        ∷ where_ (not_deep catalog_key few.catalog (slice_index wanted.edits 1) (tree_at room 1) three catalog afforded.catalog i) (refusal.TooDeep (tree_at room 1).depth)
        ∷ where_ (deep_attributes i) (refusal.TooDeep (tree_at room 2).depth)
        ∷ where_ (not (0 == 0) && ((tree_at room 0).extents == 8)) (refusal.OverflowFull 8)
        ∷ where_ (le-ltb room.free (0 + growth_blocks still room) (omega (arith, blocks_none)) i) (refusal.NoSpace room.free (0 + growth_blocks still room))
        ∷ where_ (not (growth_blocks still room == 0) && nat_lt room.longest (0 + growth_blocks still room)) (refusal.NoRun room.longest (0 + growth_blocks still room))
        ∷ load_refusal (load_of (needs_of_edits few) room still) room.capacity
        ∷ []))
        ∙ (λ i. first_refusal
        (where_ (not (blocks_none i == 0) && nat_lt room.longest (0 + blocks_none i)) (refusal.NoRun room.longest (0 + blocks_none i))
        ∷ where_ (le-ltb room.capacity (load_of (needs_of_edits few) room still) (omega (arith, load_then, afforded.within)) i) (refusal.TooBig (load_of (needs_of_edits few) room still) room.capacity)
        ∷ []))

    cost_is : cost_of (needs_of_edits few) room ≡ cost.Load (load_of (needs_of_edits few) room still) (0 ∷ 0 ∷ 0 ∷ [])
    unfolding cost_of
    cost_is =
        ap (λ (p : Plan). cost_or (resource_refusal (needs_of_edits few) room p) (load_of (needs_of_edits few) room p) p.grow) plan_is
        ∙ ap (λ (r : Option Refusal). cost_or r (load_of (needs_of_edits few) room still) (0 ∷ 0 ∷ 0 ∷ [])) nothing_missing

    pub fewer_met : is_met (cost_of (needs_of_edits few) room) spare ≡ true
    fewer_met = met_load (cost_of (needs_of_edits few) room) (load_of (needs_of_edits few) room still) spare cost_is (omega (arith, load_then, is.fits))
