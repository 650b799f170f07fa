-- What commands that put no data keep of a volume: the blocks of each fork, the nodes of each tree, the journal's place, and what the header says of the volume.
use Rattle.std.proofs.Common.{◌≡◌, ℕ, ◌*◌, ◌/◌, Bool, true, false, List, [], ◌∷◌, ◌++◌, length, take, map, inl, inr, refl, sym, ◌∙◌, ap, subst, arith}
use Rattle.std.specs.Prelude.{find, nat_lt}
use Rattle.std.proofs.Math.Nat.{div-le_self}
use Rattle.std.proofs.lemmas.List.{take_all}
use Rattle.jnl_format.specs.Keeping.{IsSame}
use Rattle.volume_header.specs.declared.header.VolumeHeader.{VolumeHeader}
use Rattle.btree_node.specs.Levels.{Pair}
use Rattle.cat_records.specs.declared.record.EntryFields.{EntryFields}
use Rattle.hfs_volume.specs.Attributing.{DeletesAttribute, at_moment}
use Rattle.hfs_volume.specs.Changes.{ChangesValue, HasSameNodes, InAttributes, InValues, with_free}
use Rattle.hfs_volume.specs.Commands.{ChangesFields, ChangesMode, HasNewMode, with_fields}
use Rattle.hfs_volume.specs.Content.{TreeFacts, VolumeState, overflow_in_volume, records_of}
use Rattle.hfs_volume.specs.Forks.{all_forks, data_kind, file_forks, special_forks, extents_id, catalog_id, attributes_id}
use Rattle.hfs_volume.specs.Reclaim.{GrowsBy, GrowsTrees, SameValues, blocks_at, blocks_found, is_fork}
use Rattle.hfs_volume.specs.Records.{attribute_of}
use Rattle.hfs_volume.specs.Values.{longest_inline, value_blocks}
use Rattle.hfs_volume.proofs.Making.{placed_splits}
use Rattle.hfs_volume.proofs.Swapping.{Splits}
use Rattle.volume_space.specs.Cutting.{KeepsTrees}
use Rattle.volume_values.specs.Valuing.{SetsAsLists, SetsOwned}
use Rattle.volume_step.proofs.Forks.{forks_swapped}

-- what stays of a volume's lists, though values of attributes may change
pub record KeepsForks (old new : VolumeState) : Type 0 where
  pub blocks : (id kind : ℕ) → blocks_at new id kind ≡ blocks_at old id kind
  pub extents : new.extents_tree.shape.total ≡ old.extents_tree.shape.total
  pub catalog : new.catalog_tree.shape.total ≡ old.catalog_tree.shape.total
  pub attributes : new.attributes_tree.shape.total ≡ old.attributes_tree.shape.total
  pub journal : new.journal ≡ old.journal
  pub flags : new.head.attributes ≡ old.head.attributes
  pub same : IsSame old.head new.head

-- The same; and no attribute is changed.
pub record Keeps (old new : VolumeState) : Type 0 where
  pub forks : KeepsForks old new
  pub pairs : new.attribute_pairs ≡ old.attribute_pairs

-- so every value has the blocks that it had
pub values_same : (old new : VolumeState) → Keeps old new → SameValues old new
values_same old new keeps id name = ap (λ (l : List Pair). value_blocks (map attribute_of l) id name) keeps.pairs

same_header : (head : VolumeHeader) → IsSame head head
same_header head = record { signature = refl; version = refl; last_mounted = refl; info_block = refl; block_size = refl; total_blocks = refl; bit_12 = refl; bit_13 = refl; bit_15 = refl }

pub keeps_none : (volume : VolumeState) → Keeps volume volume
keeps_none volume = record { forks = record { blocks = λ id kind. refl; extents = refl; catalog = refl; attributes = refl; journal = refl; flags = refl; same = same_header volume.head }; pairs = refl }

pub forks_both : (a b c : VolumeState) → KeepsForks a b → KeepsForks b c → KeepsForks a c
forks_both a b c p q = record {
  blocks = λ id kind. q.blocks id kind ∙ p.blocks id kind;
  extents = q.extents ∙ p.extents;
  catalog = q.catalog ∙ p.catalog;
  attributes = q.attributes ∙ p.attributes;
  journal = q.journal ∙ p.journal;
  flags = q.flags ∙ p.flags;
  same = record {
    signature = q.same.signature ∙ p.same.signature;
    version = q.same.version ∙ p.same.version;
    last_mounted = q.same.last_mounted ∙ p.same.last_mounted;
    info_block = q.same.info_block ∙ p.same.info_block;
    block_size = q.same.block_size ∙ p.same.block_size;
    total_blocks = q.same.total_blocks ∙ p.same.total_blocks;
    bit_12 = q.same.bit_12 ∙ p.same.bit_12;
    bit_13 = q.same.bit_13 ∙ p.same.bit_13;
    bit_15 = q.same.bit_15 ∙ p.same.bit_15;
  };
}

pub keeps_both : (a b c : VolumeState) → Keeps a b → Keeps b c → Keeps a c
keeps_both a b c p q = record { forks = forks_both a b c p.forks q.forks; pairs = q.pairs ∙ p.pairs }

-- ---- the trees don't grow

grows_by : (more : ℕ) (old new : List ℕ) → more ≡ 0 → new ≡ old → GrowsBy more old new
grows_by more old new none same = record {
  front = ap (take (length old)) same ∙ take_all (length old) old (omega arith);
  longer = omega (arith, none, ap (λ (l : List ℕ). length l) same);
}

nothing : (size block : ℕ) → 0 * size / block ≡ 0
nothing size block = omega (arith, div-le_self (0 * size) block)

pub grows_none : (old new : VolumeState) → KeepsForks old new → GrowsTrees (0 ∷ 0 ∷ 0 ∷ []) old new
grows_none old new keeps = record {
  extents = record { nodes = omega (arith, keeps.extents); blocks = grows_by _ _ _ (nothing old.extents_tree.shape.node_size old.head.block_size) (keeps.blocks extents_id data_kind) };
  catalog = record { nodes = omega (arith, keeps.catalog); blocks = grows_by _ _ _ (nothing old.catalog_tree.shape.node_size old.head.block_size) (keeps.blocks catalog_id data_kind) };
  attributes = record { nodes = omega (arith, keeps.attributes); blocks = grows_by _ _ _ (nothing old.attributes_tree.shape.node_size old.head.block_size) (keeps.blocks attributes_id data_kind) };
}

-- what a cut leaves of the trees
pub cut_grows_none : (old new : VolumeState) → KeepsTrees old new → GrowsTrees (0 ∷ 0 ∷ 0 ∷ []) old new
cut_grows_none old new keeps = record {
  extents = record { nodes = omega (arith, keeps.extents); blocks = grows_by _ _ _ (nothing old.extents_tree.shape.node_size old.head.block_size) (keeps.forks extents_id data_kind (inl refl)) };
  catalog = record { nodes = omega (arith, keeps.catalog); blocks = grows_by _ _ _ (nothing old.catalog_tree.shape.node_size old.head.block_size) (keeps.forks catalog_id data_kind (inr (inl refl))) };
  attributes = record { nodes = omega (arith, keeps.attributes); blocks = grows_by _ _ _ (nothing old.attributes_tree.shape.node_size old.head.block_size) (keeps.forks attributes_id data_kind (inr (inr refl))) };
}

-- ---- changes of records

-- the forks are those of another list of records
pub forks_are : (old new : VolumeState) → new ≡ record old { catalog_pairs = new.catalog_pairs; catalog_tree = new.catalog_tree } → file_forks (records_of new) ≡ file_forks (records_of old) → (id kind : ℕ) → blocks_at new id kind ≡ blocks_at old id kind
unfolding all_forks
forks_are old new rest same id kind =
    ap (λ (v : VolumeState). blocks_at v id kind) rest ∙ ap (λ l. blocks_found (overflow_in_volume old) (find (is_fork id kind) (special_forks old.head ++ l))) same

-- a change of the catalog that keeps the forks
pub catalog_keeps : (old new : VolumeState) → new ≡ record old { catalog_pairs = new.catalog_pairs; catalog_tree = new.catalog_tree } → HasSameNodes old.catalog_tree new.catalog_tree → ((id kind : ℕ) → blocks_at new id kind ≡ blocks_at old id kind) → Keeps old new
catalog_keeps old new rest nodes blocks = record {
  forks = record {
    blocks = blocks;
    extents = ap (λ (v : VolumeState). v.extents_tree.shape.total) rest;
    catalog = nodes.total;
    attributes = ap (λ (v : VolumeState). v.attributes_tree.shape.total) rest;
    journal = ap (λ (v : VolumeState). v.journal) rest;
    flags = ap (λ (v : VolumeState). v.head.attributes) rest;
    same = subst (λ (h : VolumeHeader). IsSame old.head h) (sym (ap (λ (v : VolumeState). v.head) rest)) (same_header old.head);
  };
  pairs = ap (λ (v : VolumeState). v.attribute_pairs) rest;
}

module _ (id : ℕ) (Changes : EntryFields → EntryFields → Type 0) (old new : VolumeState) (does : ChangesFields id Changes old new) where
  change : ChangesValue does.entry (with_fields (λ _. does.after) does.entry.value) old.catalog_pairs new.catalog_pairs
  change = does.changes.changes

  parts : Splits does.entry (record does.entry { value = with_fields (λ _. does.after) does.entry.value }) (records_of old) (records_of new)
  parts = placed_splits does.entry (with_fields (λ _. does.after) does.entry.value) old.catalog_pairs new.catalog_pairs change

  pub fields_keep : Keeps old new
  fields_keep = catalog_keeps old new does.changes.rest does.changes.nodes
      (forks_are old new does.changes.rest
      (ap file_forks parts.is ∙ forks_swapped does.entry (with_fields (λ _. does.after) does.entry.value) change.forks parts.front parts.back ∙ sym (ap file_forks parts.was)))

pub mode_keeps : (id mode : ℕ) (old new : VolumeState) → ChangesMode id mode old new → Keeps old new
mode_keeps id mode old new does = fields_keep id (HasNewMode does.folder mode old.head.modify_date) old new does.does

-- another moment
moment_blocks : (moment : ℕ) (old : VolumeState) (id kind : ℕ) → blocks_at (at_moment moment old) id kind ≡ blocks_at old id kind
unfolding all_forks
moment_blocks moment old id kind = refl

pub moment_keeps : (moment : ℕ) (old : VolumeState) → Keeps old (at_moment moment old)
moment_keeps moment old = record {
  forks = record {
    blocks = λ id kind. moment_blocks moment old id kind;
    extents = refl;
    catalog = refl;
    attributes = refl;
    journal = refl;
    flags = refl;
    same = record { signature = refl; version = refl; last_mounted = refl; info_block = refl; block_size = refl; total_blocks = refl; bit_12 = refl; bit_13 = refl; bit_15 = refl };
  };
  pairs = refl;
}

-- ---- changes of attributes

pub attributes_keep : (Changes : List Pair → List Pair → Type 0) (old new : VolumeState) → InAttributes Changes old new → KeepsForks old new
attributes_keep Changes old new does = record {
  blocks = λ id kind. ap (λ (v : VolumeState). blocks_at v id kind) does.rest;
  extents = ap (λ (v : VolumeState). v.extents_tree.shape.total) does.rest;
  catalog = ap (λ (v : VolumeState). v.catalog_tree.shape.total) does.rest;
  attributes = does.nodes.total;
  journal = ap (λ (v : VolumeState). v.journal) does.rest;
  flags = ap (λ (v : VolumeState). v.head.attributes) does.rest;
  same = subst (λ (h : VolumeHeader). IsSame old.head h) (sym (ap (λ (v : VolumeState). v.head) does.rest)) (same_header old.head);
}

-- Values take blocks and give some back: of forks there are those that there were.
valued_blocks : (free next : ℕ) (pairs : List Pair) (nodes : TreeFacts) (bits : List Bool) (old : VolumeState) (id kind : ℕ)
    → blocks_at (record old { head = with_free free next old.head; attribute_pairs = pairs; attributes_tree = nodes; bits = bits }) id kind ≡ blocks_at old id kind
unfolding all_forks
valued_blocks free next pairs nodes bits old id kind = refl

freed_header : (free next : ℕ) (head : VolumeHeader) → IsSame head (with_free free next head)
freed_header free next head = record { signature = refl; version = refl; last_mounted = refl; info_block = refl; block_size = refl; total_blocks = refl; bit_12 = refl; bit_13 = refl; bit_15 = refl }

pub values_keep : (Changes : List Pair → List Pair → Type 0) (fresh freed : List ℕ) (old new : VolumeState) → InValues Changes fresh freed old new → KeepsForks old new
values_keep Changes fresh freed old new does = record {
  blocks = λ id kind. ap (λ (v : VolumeState). blocks_at v id kind) does.rest ∙ valued_blocks does.free does.next new.attribute_pairs new.attributes_tree new.bits old id kind;
  extents = ap (λ (v : VolumeState). v.extents_tree.shape.total) does.rest;
  catalog = ap (λ (v : VolumeState). v.catalog_tree.shape.total) does.rest;
  attributes = does.nodes.total;
  journal = ap (λ (v : VolumeState). v.journal) does.rest;
  flags = ap (λ (v : VolumeState). v.head.attributes) does.rest;
  same = subst (λ (h : VolumeHeader). IsSame old.head h) (sym (ap (λ (v : VolumeState). v.head) does.rest)) (freed_header does.free does.next old.head);
}

pub set_keeps : (id : ℕ) (name value : List ℕ) (old new : VolumeState) → SetsOwned id name value old new → KeepsForks old new
set_keeps id name value old new does = by (nat_lt longest_inline (length value)) does
  where
    by : (long : Bool) → SetsAsLists long id name value old new → KeepsForks old new
    by false it =
        forks_both old it.bared new (values_keep _ _ _ old it.bared it.bares)
        (forks_both it.bared it.added new (attributes_keep _ it.bared it.added it.adds) (fields_keep id _ it.added new it.marks).forks)
    by true pair = let it = pair.1 in forks_both old it.set new (values_keep _ _ _ old it.set it.sets) (fields_keep id _ it.set new it.marks).forks

pub delete_keeps : (id : ℕ) (name : List ℕ) (old new : VolumeState) → DeletesAttribute id name old new → KeepsForks old new
delete_keeps id name old new does = forks_both old does.bared new (values_keep _ _ _ old does.bared does.bares) (fields_keep id _ does.bared new does.marks).forks
