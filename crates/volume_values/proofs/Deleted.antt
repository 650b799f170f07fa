-- An attribute of a volume that was taken away, whose blocks were given back and whose owner was marked: the volume is settled again, and its tree is the step's.
use Rattle.std.proofs.Common.{◌≡◌, ◌≢◌, ◌⊎◌, ℕ, ◌/◌, Bool, false, List, [], length, refl, sym, ◌∙◌, ap, subst, arith, ⊎_elim}
use Rattle.std.specs.Prelude.{Contains, IsTrue, Some, Ok}
use Rattle.hx_bytes.specs.declared.extents.Extent.{Extent}
use Rattle.attributes.specs.Values.{extents_at}
use Rattle.alloc_bitmap.specs.Apart.{AreApart}
use Rattle.btree_file.specs.State.{sectors_of_tree}
use Rattle.catalog.specs.Pairs.{value_at}
use Rattle.file_io.specs.Places.{AreUsed}
use Rattle.fork_map.specs.Blocks.{blocks_of}
use Rattle.hfs_language.specs.declared.command.Command.TheVariants as command
use Rattle.hfs_model.specs.Step.{step, to_attribute}
use Rattle.hfs_model.specs.declared.plain.PlainAttribute.{PlainAttribute}
use Rattle.hfs_model.specs.declared.plain.PlainNode.{PlainNode}
use Rattle.hfs_model.specs.declared.plain.PlainTree.{PlainTree}
use Rattle.hfs_volume.specs.Attributing.{DelAttrDoes, DeletesAttribute}
use Rattle.hfs_volume.specs.Blocks.{used_in}
use Rattle.hfs_volume.specs.Changes.{AreSorted, DropsAttribute, InValues}
use Rattle.hfs_volume.specs.Commands.{ChangesFields, IsMarkedAlone}
use Rattle.hfs_volume.specs.Content.{VolumeState, attributes_of, has_attributes, volume_of}
use Rattle.hfs_volume.specs.Data.{AreFresh, PutsInValues}
use Rattle.hfs_volume.specs.Forks.{per_block_of}
use Rattle.hfs_volume.specs.Laws.{SoundIsBoth}
use Rattle.hfs_volume.specs.Records.{id_in, is_thread}
use Rattle.hfs_volume.specs.Sound.{IsSoundVolume}
use Rattle.hfs_volume.specs.TreeOf.{bytes_in, tree_in, tree_of}
use Rattle.hfs_volume.specs.Values.{value_blocks}
use Rattle.hfs_volume.proofs.Bytes.{file_bytes_are}
use Rattle.sector_disk.specs.Lists.{Content, sector}
use Rattle.sector_disk.specs.Space.{Space}
use Rattle.volume_base.specs.Attributing.{ChangesAttributes, MarksEntry}
use Rattle.volume_base.specs.Giving.{with_free_count}
use Rattle.volume_base.specs.Lists.{lists_of}
use Rattle.volume_base.specs.Standing.{IsSettled, IsStanding, attribute_sectors, map_sectors}
use Rattle.volume_base.specs.declared.entries.Entry.{Entry}
use Rattle.volume_base.specs.declared.volume.Tree.{Tree}
use Rattle.volume_base.specs.declared.volume.Volume.{Volume}
use Rattle.volume_base.proofs.OwnedChange.{lists_now}
use Rattle.volume_base.proofs.Rising.{settled_sorted}
use Rattle.volume_base.proofs.ValueFreed.{freed_is, value_apart, value_used}
use Rattle.volume_base.proofs.ValuesChanged.{in_values, marked, valued_lists, settled_end, sound_before, stays, tree_end, volume_end}
use Rattle.volume_values.specs.Valuing.{TakesValue}
use Rattle.volume_values.proofs.TradesThen.{TradesThen, trade_gone}

-- no block is fresh
pub none_fresh : (volume : VolumeState) → AreFresh volume []
none_fresh volume = record { inside = λ k d low. absurd (omega (arith, low)); free = λ k d low. absurd (omega (arith, low)); once = λ block. omega arith }

module _ (law : DelAttrDoes) (halves : (volume : VolumeState) → SoundIsBoth volume) (u x : Volume) (a c : Space) (settled : IsSettled u a.content) (was : IsStanding u a) (stands : IsStanding x c) (has : IsTrue (has_attributes u.header))
    (entry : Entry) (there : value_at (lists_of u a.content).catalog_pairs entry.parent entry.name ≡ Some entry.rec) (kind : is_thread entry.rec ≡ false) (id : ℕ) (number : id_in entry.rec ≡ id) (name : List ℕ) (others : Bool)
    (path : List (List ℕ)) (node : PlainNode) (attribute : PlainAttribute) (found : to_attribute (tree_of a.content) path name ≡ Ok (node, attribute)) (same : node.id ≡ id) (takes : TakesValue id name others entry u x a.content c.content)
  where
    abbrev old : List Extent
    old = extents_at (lists_of u a.content).attribute_pairs id name

    abbrev t : Tree
    t = takes.dropped.attributes

    used : AreUsed u.map (blocks_of (extents_at (lists_of u a.content).attribute_pairs id name))
    used = subst (λ (l : List ℕ). AreUsed u.map l) (sym (freed_is u a.content settled id name)) (value_used u a.content settled id name)

    apart : AreApart (blocks_of (extents_at (lists_of u a.content).attribute_pairs id name))
    apart = subst AreApart (sym (freed_is u a.content settled id name)) (value_apart u a.content settled id name)

    trades : TradesThen [] (extents_at (lists_of u a.content).attribute_pairs id name) u takes.dropped.attributes takes.behind.between a.content takes.middle takes.behind.middle
    trades = trade_gone (DropsAttribute id name) (extents_at (lists_of u a.content).attribute_pairs id name) u takes.dropped takes.behind.between a takes.middle takes.behind.middle was settled used apart takes.drops takes.behind.gives takes.behind.puts

    drops : ChangesAttributes (DropsAttribute id name) u (record u { attributes = takes.dropped.attributes }) a.content takes.middle
    drops = subst (λ (y : Volume). ChangesAttributes (DropsAttribute id name) u y a.content takes.middle) takes.drops.rest takes.drops

    marks : MarksEntry others u.header.modify_date entry (record u { map = trades.m; header = with_free_count trades.n u.header; attributes = takes.dropped.attributes }) x takes.behind.middle c.content
    marks = subst (λ (y : Volume). MarksEntry others u.header.modify_date entry y x takes.behind.middle c.content) trades.is takes.behind.marks

    outside : (s : ℕ) → s ≢ 2 → (Contains (sectors_of_tree u.catalog.file) s → ⊥) → (Contains (attribute_sectors u) s → ⊥) → (Contains (map_sectors u) s → ⊥) → Contains (used_in (lists_of u a.content)) (s / per_block_of u.header) → sector takes.behind.middle s ≡ sector a.content s
    outside s differs off_catalog off_attributes off_map in_use =
        trades.outside s differs off_map
        ∙ ⊎_elim (λ as_was. as_was) (λ here. absurd (⊎_elim (λ two. differs two) (λ one. ⊎_elim (λ l. off_catalog l) (λ r. off_attributes r) one) here)) (takes.drops.changes.outside.each s)

    freed_are : blocks_of (extents_at (lists_of u a.content).attribute_pairs id name) ≡ value_blocks (attributes_of (lists_of u a.content)) id name
    freed_are = refl

    bares : InValues (DropsAttribute id name) [] (value_blocks (attributes_of (lists_of u a.content)) id name) (lists_of u a.content) (valued_lists (DropsAttribute id name) u u.map trades.m takes.dropped.attributes trades.n a a.content takes.middle takes.behind.middle)
    bares = in_values (DropsAttribute id name) u u.map trades.m takes.dropped.attributes trades.n a a.content takes.middle takes.behind.middle drops refl trades.put [] (blocks_of (extents_at (lists_of u a.content).attribute_pairs id name)) (none_fresh (lists_of u a.content)) trades.flips trades.counts

    marks_it : ChangesFields node.id (IsMarkedAlone u.header.modify_date) (valued_lists (DropsAttribute id name) u u.map trades.m takes.dropped.attributes trades.n a a.content takes.middle takes.behind.middle) (lists_of x c.content)
    marks_it = subst (λ (k : ℕ). ChangesFields k (IsMarkedAlone u.header.modify_date) (valued_lists (DropsAttribute id name) u u.map trades.m takes.dropped.attributes trades.n a a.content takes.middle takes.behind.middle) (lists_of x c.content)) (number ∙ sym same)
        (marked (DropsAttribute id name) u u.map trades.m takes.dropped.attributes trades.n a a.content takes.middle takes.behind.middle drops refl trades.put x c others entry marks there kind)

    now : volume_of a.content ≡ lists_of u a.content
    now = lists_now u a.content settled has

    deletes : DeletesAttribute node.id name (lists_of u a.content) (lists_of x c.content)
    deletes = record {
      sorted = subst (λ (l : VolumeState). AreSorted l.catalog_pairs) now (settled_sorted u a.content was.trees settled);
      bared = valued_lists (DropsAttribute id name) u u.map trades.m takes.dropped.attributes trades.n a a.content takes.middle takes.behind.middle;
      bares = subst (λ (k : ℕ). InValues (DropsAttribute k name) [] (value_blocks (attributes_of (lists_of u a.content)) k name) (lists_of u a.content) (valued_lists (DropsAttribute id name) u u.map trades.m takes.dropped.attributes trades.n a a.content takes.middle takes.behind.middle)) (sym same) bares;
      marks = marks_it;
    }

    before : IsSoundVolume (lists_of u a.content)
    before = sound_before (DropsAttribute id name) u u.map trades.m takes.dropped.attributes trades.n a a.content takes.middle takes.behind.middle drops refl trades.put x c others entry marks there kind halves settled was stands has trades.holds trades.headed outside

    stays_same : tree_in (lists_of u a.content) (bytes_in c.content) ≡ tree_of a.content
    stays_same = stays (DropsAttribute id name) u u.map trades.m takes.dropped.attributes trades.n a a.content takes.middle takes.behind.middle drops refl trades.put x c others entry marks there kind halves settled was stands has trades.holds trades.headed outside

    does : IsSoundVolume (lists_of x c.content) × (tree_in (lists_of x c.content) (bytes_in c.content) ≡ (step (tree_in (lists_of u a.content) (bytes_in c.content)) (command.DelAttr path name)).1)
        × PutsInValues (tree_in (lists_of u a.content) (bytes_in c.content)) (command.DelAttr path name) (lists_of u a.content) (lists_of x c.content)
    does = law path name node attribute (lists_of u a.content) (lists_of x c.content) (bytes_in c.content) (file_bytes_are c.content) before (ap (λ (tree : PlainTree). to_attribute tree path name) stays_same ∙ found) deletes

    volume_now : volume_of c.content ≡ lists_of x c.content
    volume_now = volume_end (DropsAttribute id name) u u.map trades.m takes.dropped.attributes trades.n a a.content takes.middle takes.behind.middle drops refl trades.put x c others entry marks there kind halves settled was stands has trades.holds trades.headed outside does.0

    pub value_deleted : IsSettled x c.content × (tree_of c.content ≡ (step (tree_of a.content) (command.DelAttr path name)).1) × DeletesAttribute id name (volume_of a.content) (volume_of c.content) × PutsInValues (tree_of a.content) (command.DelAttr path name) (volume_of a.content) (volume_of c.content)
    value_deleted = (
      settled_end (DropsAttribute id name) u u.map trades.m takes.dropped.attributes trades.n a a.content takes.middle takes.behind.middle drops refl trades.put x c others entry marks there kind halves settled was stands has trades.holds trades.headed outside does.0,
      tree_end (DropsAttribute id name) u u.map trades.m takes.dropped.attributes trades.n a a.content takes.middle takes.behind.middle drops refl trades.put x c others entry marks there kind halves settled was stands has trades.holds trades.headed outside does.0
          ∙ does.1 ∙ ap (λ (tree : PlainTree). (step tree (command.DelAttr path name)).1) stays_same,
      subst (λ (k : ℕ × (VolumeState × VolumeState)). DeletesAttribute k.0 name k.1.0 k.1.1) {x = (node.id, (lists_of u a.content, lists_of x c.content))} {y = (id, (volume_of a.content, volume_of c.content))} (λ i. (same i, (sym now i, sym volume_now i))) deletes,
      subst (λ (k : PlainTree × (VolumeState × VolumeState)). PutsInValues k.0 (command.DelAttr path name) k.1.0 k.1.1) {x = (tree_in (lists_of u a.content) (bytes_in c.content), (lists_of u a.content, lists_of x c.content))} {y = (tree_of a.content, (volume_of a.content, volume_of c.content))}
          (λ i. (stays_same i, (sym now i, sym volume_now i))) does.2,
    )
