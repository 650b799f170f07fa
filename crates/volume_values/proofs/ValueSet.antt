-- An attribute of a volume that got a value which stands in its record, in place of one whose blocks were given back, and whose owner was marked: the volume is
-- settled again, and its tree is the step's.
use Rattle.std.proofs.Common.{◌≡◌, ◌≢◌, ◌⊎◌, ℕ, ◌<◌, ◌≤◌, ◌/◌, Bool, true, false, List, [], length, refl, sym, ◌∙◌, ap, subst, arith, ⊎_elim}
use Rattle.std.specs.Prelude.{Contains, IsTrue, Some, Ok}
use Rattle.hx_bytes.specs.declared.extents.Extent.{Extent}
use Rattle.attributes.specs.Values.{SetsValue, extents_at}
use Rattle.alloc_bitmap.specs.Apart.{AreApart}
use Rattle.btree_file.specs.State.{sectors_of_tree}
use Rattle.catalog.specs.Pairs.{value_at}
use Rattle.file_io.specs.Places.{AreUsed}
use Rattle.fork_map.specs.Blocks.{blocks_of}
use Rattle.hfs_language.specs.declared.command.Command.TheVariants as command
use Rattle.hfs_model.specs.Step.{step, to_set}
use Rattle.hfs_model.specs.declared.plain.PlainNode.{PlainNode}
use Rattle.hfs_model.specs.declared.plain.PlainTree.{PlainTree}
use Rattle.hfs_volume.specs.Attributing.{SetAttrDoes, SetsAttribute}
use Rattle.hfs_volume.specs.Blocks.{used_in}
use Rattle.hfs_volume.specs.Changes.{AddsAttribute, AreSorted, DropsAttribute, InAttributes, InValues}
use Rattle.hfs_volume.specs.Commands.{ChangesFields, IsMarkedAlone}
use Rattle.hfs_volume.specs.Content.{VolumeState, attributes_of, has_attributes, volume_of}
use Rattle.hfs_volume.specs.Data.{PutsInValues}
use Rattle.hfs_volume.specs.Forks.{per_block_of}
use Rattle.hfs_volume.specs.Laws.{SoundIsBoth}
use Rattle.hfs_volume.specs.Records.{id_in, is_thread}
use Rattle.hfs_volume.specs.Sound.{IsSoundVolume}
use Rattle.hfs_volume.specs.TreeOf.{bytes_in, tree_in, tree_of}
use Rattle.hfs_volume.specs.Values.{longest_inline, value_blocks}
use Rattle.hfs_volume.proofs.Bytes.{file_bytes_are}
use Rattle.sector_disk.specs.Lists.{Content, sector}
use Rattle.sector_disk.specs.Space.{Space}
use Rattle.volume_base.specs.Attributing.{ChangesAttributes, MarksEntry}
use Rattle.volume_base.specs.Giving.{with_free_count}
use Rattle.volume_base.specs.Lists.{lists_of}
use Rattle.volume_base.specs.Standing.{IsSettled, IsStanding, attribute_sectors, map_sectors}
use Rattle.volume_base.specs.declared.entries.Entry.{Entry}
use Rattle.volume_base.specs.declared.volume.Tree.{Tree}
use Rattle.volume_base.specs.declared.volume.Volume.{Volume}
use Rattle.volume_base.proofs.OwnedChange.{lists_now}
use Rattle.volume_base.proofs.Rising.{settled_sorted}
use Rattle.volume_base.proofs.ValueFreed.{freed_is, value_apart, value_used}
use Rattle.volume_base.proofs.ValuesChanged.{in_values, marked, settled_end, sorted_valued, sound_before, stays, tree_end, valued_lists, volume_end}
use Rattle.volume_values.specs.Valuing.{GivesAndMarks}
use Rattle.volume_values.proofs.Deleted.{none_fresh}
use Rattle.volume_values.proofs.TradesThen.{TradesThen, trade_gone}

module _ (law : SetAttrDoes) (halves : (volume : VolumeState) → SoundIsBoth volume) (u placed x : Volume) (a c : Space) (middle : Content) (settled : IsSettled u a.content) (was : IsStanding u a) (stands : IsStanding x c) (has : IsTrue (has_attributes u.header))
    (entry : Entry) (there : value_at (lists_of u a.content).catalog_pairs entry.parent entry.name ≡ Some entry.rec) (kind : is_thread entry.rec ≡ false) (id : ℕ) (number : id_in entry.rec ≡ id) (name value : List ℕ) (some : 0 < length name) (short : length value ≤ longest_inline)
    (path : List (List ℕ)) (node : PlainNode) (found : to_set (tree_of a.content) path value ≡ Ok node) (same : node.id ≡ id)
    (places : ChangesAttributes (SetsValue id name value) u placed a.content middle) (behind : GivesAndMarks false true (extents_at (lists_of u a.content).attribute_pairs id name) entry u.header.modify_date placed x middle c.content)
  where
    used : AreUsed u.map (blocks_of (extents_at (lists_of u a.content).attribute_pairs id name))
    used = subst (λ (l : List ℕ). AreUsed u.map l) (sym (freed_is u a.content settled id name)) (value_used u a.content settled id name)

    apart : AreApart (blocks_of (extents_at (lists_of u a.content).attribute_pairs id name))
    apart = subst AreApart (sym (freed_is u a.content settled id name)) (value_apart u a.content settled id name)

    trades : TradesThen [] (extents_at (lists_of u a.content).attribute_pairs id name) u placed.attributes behind.between a.content middle behind.middle
    trades = trade_gone (SetsValue id name value) (extents_at (lists_of u a.content).attribute_pairs id name) u placed behind.between a middle behind.middle was settled used apart places behind.gives behind.puts

    sets : ChangesAttributes (SetsValue id name value) u (record u { attributes = placed.attributes }) a.content middle
    sets = subst (λ (y : Volume). ChangesAttributes (SetsValue id name value) u y a.content middle) places.rest places

    behind_marks : MarksEntry true u.header.modify_date entry (record u { map = trades.m; header = with_free_count trades.n u.header; attributes = placed.attributes }) x behind.middle c.content
    behind_marks = subst (λ (y : Volume). MarksEntry true u.header.modify_date entry y x behind.middle c.content) trades.is behind.marks

    outside : (s : ℕ) → s ≢ 2 → (Contains (sectors_of_tree u.catalog.file) s → ⊥) → (Contains (attribute_sectors u) s → ⊥) → (Contains (map_sectors u) s → ⊥) → Contains (used_in (lists_of u a.content)) (s / per_block_of u.header) → sector behind.middle s ≡ sector a.content s
    outside s differs off_catalog off_attributes off_map in_use =
        trades.outside s differs off_map
        ∙ ⊎_elim (λ as_was. as_was) (λ here. absurd (⊎_elim (λ two. differs two) (λ one. ⊎_elim (λ l. off_catalog l) (λ r. off_attributes r) one) here)) (places.changes.outside.each s)

    -- behind the change of attributes and blocks
    abbrev set_lists : VolumeState
    set_lists = valued_lists (SetsValue id name value) u u.map trades.m placed.attributes trades.n a a.content middle behind.middle

    whole : InValues (SetsValue id name value) [] (value_blocks (attributes_of (lists_of u a.content)) id name) (lists_of u a.content) set_lists
    whole = in_values (SetsValue id name value) u u.map trades.m placed.attributes trades.n a a.content middle behind.middle sets refl trades.put [] (blocks_of (extents_at (lists_of u a.content).attribute_pairs id name)) (none_fresh (lists_of u a.content)) trades.flips trades.counts

    -- first without the name, and then with its value
    abbrev bared_lists : VolumeState
    bared_lists = record set_lists { attribute_pairs = whole.changes.bared }

    bares : InValues (DropsAttribute id name) [] (value_blocks (attributes_of (lists_of u a.content)) id name) (lists_of u a.content) bared_lists
    bares = record {
      changes = whole.changes.bares;
      are_fresh = whole.are_fresh;
      flips = record { size = whole.flips.size; taken = whole.flips.taken; given = whole.flips.given; others = whole.flips.others };
      nodes = whole.nodes;
      free = whole.free;
      next = whole.next;
      counts = whole.counts;
      rest = ap (λ (l : VolumeState). record l { attribute_pairs = whole.changes.bared }) whole.rest;
    }

    adds : InAttributes (AddsAttribute id name value) bared_lists set_lists
    adds = record { changes = whole.changes.adds; nodes = record { total = refl; size = refl }; rest = refl }

    marks_it : ChangesFields id (IsMarkedAlone u.header.modify_date) set_lists (lists_of x c.content)
    marks_it = subst (λ (k : ℕ). ChangesFields k (IsMarkedAlone u.header.modify_date) set_lists (lists_of x c.content)) number (marked (SetsValue id name value) u u.map trades.m placed.attributes trades.n a a.content middle behind.middle sets refl trades.put x c true entry behind_marks there kind)

    now : volume_of a.content ≡ lists_of u a.content
    now = lists_now u a.content settled has

    sets_it : SetsAttribute id name value (lists_of u a.content) (lists_of x c.content)
    sets_it = record {
      sorted = subst (λ (l : VolumeState). AreSorted l.catalog_pairs) now (settled_sorted u a.content was.trees settled);
      bared = bared_lists;
      bares = bares;
      added = set_lists;
      adds = adds;
      sorted_again = sorted_valued (SetsValue id name value) u u.map trades.m placed.attributes trades.n a a.content middle behind.middle sets refl trades.put;
      marks = marks_it;
    }

    before : IsSoundVolume (lists_of u a.content)
    before = sound_before (SetsValue id name value) u u.map trades.m placed.attributes trades.n a a.content middle behind.middle sets refl trades.put x c true entry behind_marks there kind halves settled was stands has trades.holds trades.headed outside

    stays_same : tree_in (lists_of u a.content) (bytes_in c.content) ≡ tree_of a.content
    stays_same = stays (SetsValue id name value) u u.map trades.m placed.attributes trades.n a a.content middle behind.middle sets refl trades.put x c true entry behind_marks there kind halves settled was stands has trades.holds trades.headed outside

    does : IsSoundVolume (lists_of x c.content) × (tree_in (lists_of x c.content) (bytes_in c.content) ≡ (step (tree_in (lists_of u a.content) (bytes_in c.content)) (command.SetAttr path name value)).1)
        × PutsInValues (tree_in (lists_of u a.content) (bytes_in c.content)) (command.SetAttr path name value) (lists_of u a.content) (lists_of x c.content)
    does = law path name value node (lists_of u a.content) (lists_of x c.content) (bytes_in c.content) (file_bytes_are c.content) before some short (ap (λ (tree : PlainTree). to_set tree path value) stays_same ∙ found)
        (subst (λ (k : ℕ). SetsAttribute k name value (lists_of u a.content) (lists_of x c.content)) (sym same) sets_it)

    volume_now : volume_of c.content ≡ lists_of x c.content
    volume_now = volume_end (SetsValue id name value) u u.map trades.m placed.attributes trades.n a a.content middle behind.middle sets refl trades.put x c true entry behind_marks there kind halves settled was stands has trades.holds trades.headed outside does.0

    pub value_set : IsSettled x c.content × (tree_of c.content ≡ (step (tree_of a.content) (command.SetAttr path name value)).1) × SetsAttribute id name value (volume_of a.content) (volume_of c.content)
        × PutsInValues (tree_of a.content) (command.SetAttr path name value) (volume_of a.content) (volume_of c.content)
    value_set = (
      settled_end (SetsValue id name value) u u.map trades.m placed.attributes trades.n a a.content middle behind.middle sets refl trades.put x c true entry behind_marks there kind halves settled was stands has trades.holds trades.headed outside does.0,
      tree_end (SetsValue id name value) u u.map trades.m placed.attributes trades.n a a.content middle behind.middle sets refl trades.put x c true entry behind_marks there kind halves settled was stands has trades.holds trades.headed outside does.0 ∙ does.1 ∙ ap (λ (tree : PlainTree). (step tree (command.SetAttr path name value)).1) stays_same,
      subst (λ (k : VolumeState × VolumeState). SetsAttribute id name value k.0 k.1) {x = (lists_of u a.content, lists_of x c.content)} {y = (volume_of a.content, volume_of c.content)} (λ i. (sym now i, sym volume_now i)) sets_it,
      subst (λ (k : PlainTree × (VolumeState × VolumeState)). PutsInValues k.0 (command.SetAttr path name value) k.1.0 k.1.1) {x = (tree_in (lists_of u a.content) (bytes_in c.content), (lists_of u a.content, lists_of x c.content))} {y = (tree_of a.content, (volume_of a.content, volume_of c.content))}
          (λ i. (stays_same i, (sym now i, sym volume_now i))) does.2,
    )
