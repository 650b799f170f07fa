-- An attribute that got a value, in its record or in blocks: the volume is settled again, and its tree is the step's.
use Rattle.std.proofs.Common.{◌≡◌, ◌<◌, ◌≤◌, ℕ, ◌+◌, ◌-◌, ◌*◌, ◌/◌, ◌==◌, Bool, true, false, not, List, length, refl, sym, ◌∙◌, ap, subst, arith}
use Rattle.std.specs.Prelude.{IsTrue, Some, Ok, nat_lt, if◌then◌else◌}
use Rattle.std.proofs.lemmas.Bool.{ltb-false, ltb-true, ne_eqb}
use Rattle.std.proofs.Math.Nat.{le-div_iff_mul-le}
use Rattle.alloc_bitmap.specs.Map.{free_of}
use Rattle.attributes.specs.Values.{extents_at}
use Rattle.catalog.specs.Pairs.{value_at}
use Rattle.flag_rows.specs.Bits.{count_set, sectors_for}
use Rattle.hfs_language.specs.declared.command.Command.TheVariants as command
use Rattle.hfs_model.specs.Step.{step, to_set}
use Rattle.hfs_model.specs.declared.plain.PlainNode.{PlainNode}
use Rattle.hfs_volume.specs.Attributing.{SetAttrDoes, SetForkDoes}
use Rattle.hfs_volume.specs.Content.{VolumeState, has_attributes, volume_of}
use Rattle.hfs_volume.specs.Data.{PutsInValues}
use Rattle.hfs_volume.specs.Forks.{in_use, parts_for}
use Rattle.hfs_volume.specs.Laws.{SoundIsBoth}
use Rattle.hfs_volume.specs.Records.{id_in, is_thread}
use Rattle.hfs_volume.specs.TreeOf.{tree_of}
use Rattle.hfs_volume.specs.Values.{longest_inline}
use Rattle.sector_disk.specs.Lists.{Content}
use Rattle.sector_disk.specs.Space.{Space}
use Rattle.volume_base.specs.Lists.{lists_of}
use Rattle.volume_base.specs.Standing.{IsSettled, IsStanding}
use Rattle.volume_base.specs.declared.entries.Entry.{Entry}
use Rattle.volume_base.specs.declared.volume.Volume.{Volume}
use Rattle.volume_values.specs.Valuing.{GivesAndMarks, PlacesAs, PutsValue, SetsAsLists, blocks_of_new}
use Rattle.volume_values.proofs.ValueSet.{value_set}
use Rattle.volume_values.proofs.ValueSpilled.{value_spilled}

-- bytes have a part
pub some_parts : (long part : ℕ) → 0 < long → 0 < part → 0 < parts_for long part
some_parts long part some whole = (le-div_iff_mul-le {k = part} {x = 1} {y = long + part - 1} whole).1 (omega (arith, some))

-- whether a value takes blocks
pub takes_none : (u : Volume) (value : List ℕ) → nat_lt longest_inline (length value) ≡ false → not (blocks_of_new u (length value) == 0) ≡ false
takes_none u value is = ap (λ b. not ((if b then parts_for (length value) u.header.block_size else 0) == 0)) is

pub takes_blocks : (u : Volume) (value : List ℕ) → 512 ≤ u.header.block_size → nat_lt longest_inline (length value) ≡ true → not (blocks_of_new u (length value) == 0) ≡ true
takes_blocks u value least is =
    let long : longest_inline < length value = ltb-true longest_inline (length value) is in
    ap (λ b. not ((if b then parts_for (length value) u.header.block_size else 0) == 0)) is
    ∙ ap not (ne_eqb (parts_for (length value) u.header.block_size) 0 (λ none. absurd (omega (arith, none, some_parts (length value) u.header.block_size (omega (arith, long)) (omega (arith, least))))))

module _ (short_law : SetAttrDoes) (long_law : SetForkDoes) (halves : (volume : VolumeState) → SoundIsBoth volume) (u x : Volume) (a c : Space) (settled : IsSettled u a.content) (was : IsStanding u a) (stands : IsStanding x c) (has : IsTrue (has_attributes u.header))
    (least : 512 ≤ u.header.block_size) (marks : length u.map.changed ≡ sectors_for (length u.map.used)) (entry : Entry) (there : value_at (lists_of u a.content).catalog_pairs entry.parent entry.name ≡ Some entry.rec) (kind : is_thread entry.rec ≡ false)
    (id : ℕ) (number : id_in entry.rec ≡ id) (name value : List ℕ) (some : 0 < length name) (enough : blocks_of_new u (length value) ≤ count_set (free_of u.map))
    (path : List (List ℕ)) (node : PlainNode) (found : to_set (tree_of a.content) path value ≡ Ok node) (same : node.id ≡ id) (puts : PutsValue id name value entry u x a.content c.content)
  where
    by_long : (b : Bool) → nat_lt longest_inline (length value) ≡ b → PlacesAs b id name value u puts.placed a.content puts.middle
        → GivesAndMarks (not (blocks_of_new u (length value) == 0)) true (extents_at (lists_of u a.content).attribute_pairs id name) entry u.header.modify_date puts.placed x puts.middle c.content
        → IsSettled x c.content × (tree_of c.content ≡ (step (tree_of a.content) (command.SetAttr path name value)).1) × SetsAsLists b id name value (volume_of a.content) (volume_of c.content) × PutsInValues (tree_of a.content) (command.SetAttr path name value) (volume_of a.content) (volume_of c.content)
    by_long false is places behind =
        value_set short_law halves u puts.placed x a c puts.middle settled was stands has entry there kind id number name value some (ltb-false longest_inline (length value) is) path node found same places
        (subst (λ b. GivesAndMarks b true (extents_at (lists_of u a.content).attribute_pairs id name) entry u.header.modify_date puts.placed x puts.middle c.content) (takes_none u value is) behind)
    by_long true is places behind =
        let it = value_spilled long_law halves u puts.placed x a c puts.middle settled was stands has least marks entry there kind id number name value some (ltb-true longest_inline (length value) is) enough path node found same places
        (subst (λ b. GivesAndMarks b true (extents_at (lists_of u a.content).attribute_pairs id name) entry u.header.modify_date puts.placed x puts.middle c.content) (takes_blocks u value least is) behind) in
        (it.0, it.1, (in_use places.fork, it.2), it.3)

    pub value_put : IsSettled x c.content × (tree_of c.content ≡ (step (tree_of a.content) (command.SetAttr path name value)).1) × SetsAsLists (nat_lt longest_inline (length value)) id name value (volume_of a.content) (volume_of c.content) × PutsInValues (tree_of a.content) (command.SetAttr path name value) (volume_of a.content) (volume_of c.content)
    value_put = by_long (nat_lt longest_inline (length value)) refl puts.places puts.behind
