-- The file of a node of the tree that isn't a folder: its entry, its record and its blocks.
use Rattle.std.proofs.Common.{◌≡◌, ◌≢◌, ◌⊎◌, ◌<◌, ◌≤◌, ℕ, Bool, true, false, List, [], ◌∷◌, ◌++◌, length, inl, inr, refl, sym, ◌∙◌, ap, subst, arith}
use Rattle.std.specs.Prelude.{Contains, ◌==◌, ◌&&◌, ◌||◌, not, find, Option, Some, None, if◌then◌else◌}
use Rattle.std.specs.List.{flat_map}
use Rattle.std.specs.Option.{option_map}
use Rattle.std.proofs.lemmas.Bool.{true≢false}
use Rattle.std.proofs.lemmas.Grind.{flat_map-append}
use Rattle.std.proofs.lemmas.List.{append_assoc}
use Rattle.btree_node.specs.Levels.{Pair}
use Rattle.hx_bytes.specs.declared.extents.ForkRecord.{ForkRecord}
use Rattle.volume_header.specs.declared.header.VolumeHeader.{VolumeHeader}
use Rattle.cat_records.specs.declared.record.CatRecord.{CatRecord}
use Rattle.cat_records.specs.declared.record.CatRecord.TheVariants.{Folder, File, Thread}
use Rattle.cat_records.specs.declared.record.FileRecord.{FileRecord}
use Rattle.hfs_model.specs.declared.plain.PlainNode.{PlainNode}
use Rattle.hfs_volume.specs.Changes.{AreSorted}
use Rattle.hfs_volume.specs.Content.{VolumeState, records_of, attributes_of, overflow_in_volume}
use Rattle.hfs_volume.specs.Forks.{Owned, all_forks, blocks_owned, data_kind, extents_of, file_forks, forks_in, resource_kind, special_forks}
use Rattle.hfs_volume.specs.Laws.{IsShaped}
use Rattle.hfs_volume.specs.Records.{Placed, Overflow, entries_of, id_of, is_empty, is_link, is_link_type, is_thread, placed_in, record_at, special_of}
use Rattle.hfs_volume.specs.Reclaim.{blocks_at, blocks_found, is_fork}
use Rattle.hfs_volume.specs.Sound.{IsSoundVolume}
use Rattle.hfs_volume.specs.TreeOf.{is_hidden, is_linked, is_plain_file, is_plain_folder, is_seen, node_in, plain_node, tree_in, BytesOf, valued, empty_forks}
use Rattle.hfs_volume.proofs.Marks.{link_is_seen, shared_hidden}
use Rattle.hfs_volume.proofs.Members.{in_one}
use Rattle.hfs_volume.proofs.NodesOf.{nodes_from}
use Rattle.hfs_volume.proofs.Reaching.{seen_shows}
use Rattle.hfs_volume.proofs.Sharing.{linked_is}
use Rattle.hfs_volume.proofs.Swapping.{Splits, entries_split, found_swap}
use Rattle.hfs_volume.proofs.Telling.{nodes_are}

-- The file of a node.
pub record IsFileOf (volume : VolumeState) (bytes_of : BytesOf) (node : PlainNode) : Type 0 where
  pub entry : Placed
  pub file : FileRecord
  pub stands : Contains (entries_of (records_of volume)) entry
  pub value : entry.value ≡ File file
  pub id : node.id ≡ file.fields.id
  pub bytes : node.bytes ≡ (bytes_of.file file).data_bytes
  pub resource : node.resource ≡ (bytes_of.file file).resource_bytes
  pub no_link : is_link_type file.fields ≡ false
  pub plain : is_plain_file (records_of volume) entry ≡ true

pub shaped_of : (volume : VolumeState) → IsSoundVolume volume → IsShaped volume
shaped_of volume sound = record {
  threads = sound.entries.threads;
  rooted = sound.entries.rooted;
  ids = sound.entries.ids;
  links = sound.links.good;
  attributes = sound.attributes;
  header = sound.blocks.header;
  alternate = sound.blocks.alternate;
  files = sound.blocks.files;
  forks = sound.blocks.forks;
}

module _ (volume : VolumeState) (sound : IsSoundVolume volume) (sorted : AreSorted volume.catalog_pairs) where
  -- a file that users see under its own name, or under links, is no link
  not_link : (e : Placed) → Contains (entries_of (records_of volume)) e → is_plain_file (records_of volume) e ≡ true → is_link e ≡ false
  not_link e stands plain = by_link (is_link e) refl
    where
      by_linked : is_link e ≡ true → (b : Bool) → is_linked (records_of volume) e ≡ b → ⊥
      by_linked link false unlinked = true≢false (sym plain ∙ (λ i. (is_seen (records_of volume) e && not (link i)) || unlinked i) ∙ none (is_seen (records_of volume) e))
        where
          none : (b : Bool) → ((b && false) || false) ≡ false
          none true = refl
          none false = refl
      by_linked link true linked =
          let links = linked_is (records_of volume) e linked in
          true≢false
          (sym (shared_hidden volume (shaped_of volume sound) (special_of links.link) e links.names)
          ∙ (seen_shows (records_of volume) e (link_is_seen volume (shaped_of volume sound) sorted e stands link)).visible)

      by_link : (b : Bool) → is_link e ≡ b → is_link e ≡ false
      by_link false isnt = isnt
      by_link true link = absurd (by_linked link (is_linked (records_of volume) e) refl)

  pub file_of_node : (bytes_of : BytesOf) (node : PlainNode) → Contains (tree_in volume bytes_of).nodes node → node.folder ≡ false → IsFileOf volume bytes_of node
  file_of_node bytes_of node there no_folder =
      let it = nodes_from (valued bytes_of (attributes_of volume)) bytes_of (records_of volume) node (subst (λ l. Contains l node) (nodes_are volume bytes_of) there) in
      of_value it.entry it.stands it.id it.entry.value refl it.has
    where
      of_value : (e : Placed) → Contains (entries_of (records_of volume)) e → node.id ≡ id_of e → (v : CatRecord) → e.value ≡ v → Contains (node_in (valued bytes_of (attributes_of volume)) (records_of volume) bytes_of e v) node → IsFileOf volume bytes_of node
      of_value e stands id (Folder f) is has = by_test (is_plain_folder (records_of volume) e) has
        where
          by_test : (b : Bool) → Contains (if b then plain_node (valued bytes_of (attributes_of volume)) f.fields true empty_forks false ∷ [] else []) node → IsFileOf volume bytes_of node
          by_test true one = absurd (true≢false (sym (ap (λ (n : PlainNode). n.folder) (in_one (plain_node (valued bytes_of (attributes_of volume)) f.fields true empty_forks false) node one)) ∙ no_folder))
          by_test false none = absurd (omega (arith, none.1))
      of_value e stands id (File f) is has = by_test (is_plain_file (records_of volume) e) refl has
        where
          by_test : (b : Bool) → is_plain_file (records_of volume) e ≡ b → Contains (if b then plain_node (valued bytes_of (attributes_of volume)) f.fields false (bytes_of.file f) (is_linked (records_of volume) e) ∷ [] else []) node → IsFileOf volume bytes_of node
          by_test true plain one = record {
            entry = e;
            file = f;
            stands = stands;
            value = is;
            id = id ∙ ap (λ (v : CatRecord). id_of (record e { value = v })) is;
            bytes = ap (λ (n : PlainNode). n.bytes) (in_one (plain_node (valued bytes_of (attributes_of volume)) f.fields false (bytes_of.file f) (is_linked (records_of volume) e)) node one);
            resource = ap (λ (n : PlainNode). n.resource) (in_one (plain_node (valued bytes_of (attributes_of volume)) f.fields false (bytes_of.file f) (is_linked (records_of volume) e)) node one);
            no_link = sym (ap (λ (v : CatRecord). is_link (record e { value = v })) is) ∙ not_link e stands plain;
            plain = plain;
          }
          by_test false plain none = absurd (omega (arith, none.1))
      of_value e stands id (Thread f) is none = absurd (omega (arith, none.1))

-- ---- another value of a file's record, whose forks have the same extents

abbrev pub data_of : FileRecord → Owned
data_of file = record { id = file.fields.id; kind = data_kind; fork = file.data_fork }

abbrev pub resource_of : FileRecord → Owned
resource_of file = record { id = file.fields.id; kind = resource_kind; fork = file.resource_fork }

-- the forks of a volume in which a file's record stands
pub forks_around : (head : VolumeHeader) (front back : List Placed) (entry : Placed) (file : FileRecord) → is_empty entry.name ≡ false → entry.value ≡ File file
    → all_forks head (front ++ entry ∷ back) ≡ (special_forks head ++ flat_map (λ (p : Placed). forks_in p.value) (entries_of front)) ++ (data_of file ∷ (resource_of file ∷ flat_map (λ (p : Placed). forks_in p.value) (entries_of back)))
unfolding all_forks
forks_around head front back entry file named is =
    ap (λ l. special_forks head ++ l)
    (ap (flat_map (λ (p : Placed). forks_in p.value)) split
    ∙ flat_map-append (λ (p : Placed). forks_in p.value) (entries_of front) (entry ∷ entries_of back)
    ∙ ap (λ (v : CatRecord). flat_map (λ (p : Placed). forks_in p.value) (entries_of front) ++ (forks_in v ++ flat_map (λ (p : Placed). forks_in p.value) (entries_of back))) is)
    ∙ sym (append_assoc (special_forks head) (flat_map (λ (p : Placed). forks_in p.value) (entries_of front)) (data_of file ∷ (resource_of file ∷ flat_map (λ (p : Placed). forks_in p.value) (entries_of back))))
  where
    split : entries_of (front ++ entry ∷ back) ≡ entries_of front ++ entry ∷ entries_of back
    split =
        flat_map-append (λ (p : Placed). if not (is_empty p.name) then p ∷ [] else []) front (entry ∷ back)
        ∙ ap (λ l. entries_of front ++ (l ++ entries_of back)) (ap (λ b. if not b then entry ∷ [] else []) named)

same_extents : (overflow : List Overflow) (id kind : ℕ) (one other : ForkRecord) → other.extents ≡ one.extents → blocks_owned overflow (record { id = id; kind = kind; fork = other }) ≡ blocks_owned overflow (record { id = id; kind = kind; fork = one })
unfolding extents_of
same_extents overflow id kind one other same = λ i. blocks_owned overflow (record { id = id; kind = kind; fork = record one { extents = same i } })

pub sized_blocks : (head : VolumeHeader) (overflow : List Overflow) (front back : List Placed) (entry other : Placed) (file next : FileRecord) → is_empty entry.name ≡ false → other.name ≡ entry.name → entry.value ≡ File file → other.value ≡ File next
    → next.fields.id ≡ file.fields.id → next.data_fork.extents ≡ file.data_fork.extents → next.resource_fork ≡ file.resource_fork → (id kind : ℕ)
    → blocks_found overflow (find (is_fork id kind) (all_forks head (front ++ other ∷ back))) ≡ blocks_found overflow (find (is_fork id kind) (all_forks head (front ++ entry ∷ back)))
sized_blocks head overflow front back entry other file next named same_name is other_is same_id same_data same_resource id kind =
    ap (λ l. blocks_found overflow (find (is_fork id kind) l)) (forks_around head front back other next (ap is_empty same_name ∙ named) other_is)
    ∙ ap (λ (r : Owned). blocks_found overflow (find (is_fork id kind) (before ++ (data_of next ∷ (r ∷ after))))) (λ i. record { id = same_id i; kind = resource_kind; fork = same_resource i })
    ∙ found_swap (blocks_found overflow) (is_fork id kind) (data_of file) (data_of next) before (resource_of file ∷ after) (ap (λ n. (n == id) && (data_kind == kind)) same_id)
    ((λ i. blocks_owned overflow (record { id = same_id i; kind = data_kind; fork = next.data_fork })) ∙ same_extents overflow file.fields.id data_kind file.data_fork next.data_fork same_data)
    ∙ sym (ap (λ l. blocks_found overflow (find (is_fork id kind) l)) (forks_around head front back entry file named is))
  where
    before : List Owned
    before = special_forks head ++ flat_map (λ (p : Placed). forks_in p.value) (entries_of front)

    after : List Owned
    after = flat_map (λ (p : Placed). forks_in p.value) (entries_of back)
