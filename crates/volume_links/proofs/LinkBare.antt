-- A link that is made without a block yet: what the law of entries that are made asks of it.
use Rattle.std.proofs.Common.{◌≡◌, ℕ, ◌%◌, Bool, false, List, [], ◌∷◌, refl, ◌∙◌, ap}
use Rattle.std.specs.Prelude.{◌&&◌, ◌||◌, not, if◌then◌else◌}
use Rattle.cat_records.specs.declared.record.CatRecord.{CatRecord}
use Rattle.cat_records.specs.declared.record.CatRecord.TheVariants.{Folder, File, Thread}
use Rattle.cat_records.specs.declared.record.EntryFields.{EntryFields}
use Rattle.cat_records.specs.declared.record.FileRecord.{FileRecord}
use Rattle.hfs_model.specs.Kinds.{new_link}
use Rattle.hfs_model.specs.declared.plain.PlainNode.{PlainNode}
use Rattle.hx_bytes.specs.Field.{number_at}
use Rattle.hx_bytes.specs.declared.extents.ForkRecord.{ForkRecord}
use Rattle.volume_header.specs.declared.header.VolumeHeader.{VolumeHeader}
use Rattle.hfs_volume.specs.Commands.{AreBytesOf, AreNewFields, entry_in}
use Rattle.hfs_volume.specs.Forks.{forks_in, overflow_in}
use Rattle.hfs_volume.specs.Kinds.{IsNewLink, link_finder, link_mode}
use Rattle.hfs_volume.specs.Laws.{AreEmptyForks}
use Rattle.hfs_volume.specs.Records.{Attribute, Overflow, Placed, id_in}
use Rattle.hfs_volume.specs.TreeOf.{BytesOf, ForkBytes, empty_forks, is_linked, plain_attributes, plain_node, type_bits_in}
use Rattle.hfs_volume.proofs.Finishing.{empty_of_file}
use Rattle.hfs_volume.proofs.Making.{NewFacts}
use Rattle.volume_base.specs.Making.{free_place, new_fields, new_link_value, no_fork}

-- the record of a link, whose data fork this is, and its entry
abbrev pub link_file : ℕ → ℕ → ForkRecord → FileRecord
link_file id moment fork = record { fields = record (new_fields id moment 41453 2) { finder = link_finder }; data_fork = fork; resource_fork = no_fork }

abbrev pub link_entry : ℕ → List ℕ → ℕ → ℕ → ForkRecord → Placed
link_entry folder name id moment fork = entry_in (free_place folder name) (new_link_value id moment fork)

-- a link as it is made, before it has its target
abbrev pub bare_link : ℕ → ℕ → PlainNode
bare_link id moment = new_link id moment []

pub bare_is : (id moment : ℕ) → IsNewLink id moment (new_link_value id moment no_fork)
unfolding number_at
bare_is id moment = (
  record { id = refl; count = refl; mode = refl; created = refl; changed = refl; attribute = refl },
  refl,
  refl,
  record { size = refl; blocks = refl; extents = refl },
  record { size = refl; blocks = refl; extents = refl },
)

link_node : (attributes : List Attribute) (given moment : ℕ) (fields : EntryFields) (bytes : ForkBytes) (linked : Bool) → AreNewFields given link_mode moment fields
    → plain_attributes attributes fields.id ≡ [] → bytes ≡ empty_forks → linked ≡ false → plain_node attributes fields false bytes linked ≡ bare_link given moment
link_node attributes given moment fields bytes linked are none no_bytes not_linked = λ i. record {
  id = are.id i;
  folder = false;
  type_bits = ap type_bits_in are.mode i;
  mode = ap (λ m. m % 4096) are.mode i;
  created = are.created i;
  changed = are.changed i;
  attribute = are.attribute i;
  attributes = none i;
  bytes = ap (λ (b : ForkBytes). b.data_bytes) no_bytes i;
  resource = ap (λ (b : ForkBytes). b.resource_bytes) no_bytes i;
  linked = not_linked i;
}

pub link_facts : (given moment : ℕ) (bytes_of : BytesOf) (value : CatRecord) → AreBytesOf bytes_of → IsNewLink given moment value → NewFacts false given (bare_link given moment) bytes_of value
link_facts given moment bytes_of (File f) are is = record {
  kind = refl;
  is_a = refl;
  is_file_ = refl;
  id = is.0.id;
  no_link = λ parent name. is.2;
  valence = refl;
  node = λ attributes records placed none seen not_link not_linked.
      (λ i. if (seen i && not (not_link i)) || not_linked i then plain_node attributes f.fields false (bytes_of.file f) (is_linked records placed) ∷ [] else [])
      ∙ ap (λ n. n ∷ []) (link_node attributes given moment f.fields (bytes_of.file f) (is_linked records placed) is.0 none (are.none f is.3.size is.4.size) not_linked);
}
link_facts given moment bytes_of (Folder f) are is = absurd is
link_facts given moment bytes_of (Thread f) are is = absurd is

pub link_forks : (given moment : ℕ) (head : VolumeHeader) (overflow : List Overflow) (value : CatRecord) → IsNewLink given moment value → ((kind : ℕ) → overflow_in overflow (id_in value) kind ≡ []) → AreEmptyForks head overflow (forks_in value)
link_forks given moment head overflow (File f) is none = empty_of_file head overflow f is.3 is.4 none
link_forks given moment head overflow (Folder f) is none = absurd is
link_forks given moment head overflow (Thread f) is none = absurd is
