-- A file's record that has another fork and other dates, in two steps: first the fork, and then the dates. That is what `write` and `trunc` change of
-- the lists of a volume.
use Rattle.std.proofs.Common.{◌≡◌, ◌<◌, ◌≤◌, ℕ, zero, suc, ◌+◌, ◌-◌, ◌*◌, ◌^◌, Bool, true, false, List, [], ◌∷◌, ◌++◌, length, take, replicate, inl, refl, sym, ◌∙◌, ap, subst, arith}
use Rattle.std.specs.Prelude.{All, Contains, IsTrue, find, Option, Some, None, slice_get, slice_set}
use Rattle.std.specs.Option.{option_map}
use Rattle.std.proofs.lemmas.List.{append-nil, set-set, take-take}
use Rattle.hx_bytes.specs.Fork.{FitsFork}
use Rattle.hx_bytes.specs.declared.extents.ForkRecord.{ForkRecord}
use Rattle.volume_header.specs.declared.header.VolumeHeader.{VolumeHeader}
use Rattle.jnl_format.specs.Recovery.{Content}
use Rattle.btree_node.specs.Levels.{Pair}
use Rattle.cat_records.specs.Fits.{FitsEntry, FitsFile}
use Rattle.cat_records.specs.Records.{catalog_bytes, is_catalog}
use Rattle.cat_records.specs.declared.record.CatRecord.{CatRecord}
use Rattle.cat_records.specs.declared.record.CatRecord.TheVariants.{Folder, File, Thread}
use Rattle.cat_records.specs.declared.record.EntryFields.{EntryFields}
use Rattle.cat_records.specs.declared.record.FileRecord.{FileRecord}
use Rattle.cat_records.proofs.CatalogBack.{file_back, file_spells}
use Rattle.cat_records.proofs.CatalogSpelled.{no_fault}
use Rattle.catalog.specs.Entries.{UpdatesEntry}
use Rattle.catalog.specs.Pairs.{value_at}
use Rattle.hfs_volume.specs.Blocks.{GoesOn, HasSizes, forks_of}
use Rattle.hfs_volume.specs.Changes.{ChangesValue, HasSameNodes, InCatalog, IsStored, PutsBlocks, SameKind, Spells, SwapsFork, Swaps, with_fork}
use Rattle.hfs_volume.specs.Commands.{ChangesFields, IsTouched}
use Rattle.hfs_model.specs.Step.{padded}
use Rattle.hfs_volume.specs.Content.{VolumeState, fork_bytes, is_set, overflow_in_volume, records_of, volume_of}
use Rattle.hfs_volume.specs.Forks.{all_forks, data_kind, extents_of, resource_kind}
use Rattle.hfs_volume.specs.Links.{private_id}
use Rattle.hfs_volume.specs.Records.{Placed, entries_of, id_in, id_of, is_empty, is_file, is_folder, is_link, is_link_type, is_placed_at, is_thread, placed_in, placed_of, record_at, special_of}
use Rattle.hfs_volume.specs.Reclaim.{blocks_at, blocks_found, is_fork}
use Rattle.hfs_volume.specs.Sound.{IsSoundVolume}
use Rattle.hfs_volume.specs.TreeOf.{bytes_in, bytes_in_fork}
use Rattle.hfs_volume.specs.Writing.{IsRewritten, MakesBytes, RewritesFile, resized_bytes}
use Rattle.hfs_volume.proofs.Flat.{found_some}
use Rattle.hfs_volume.proofs.Hiding.{same_entry}
use Rattle.hfs_volume.proofs.Making.{pairs_split}
use Rattle.hfs_volume.proofs.Members.{all_of, each_of}
use Rattle.hfs_volume.proofs.Sides.{is_entry_of}
use Rattle.hfs_volume.proofs.Swapping.{Splits, private_same}
use Rattle.hfs_volume.proofs.Untouched.{data_fork_of, file_fork_stands}
use Rattle.volume_base.proofs.PlainFiles.{sized_blocks}
use Rattle.volume_base.specs.Cutting.{fork_at, kind_of}
use Rattle.volume_base.specs.declared.forks.ForkKind.{ForkKind}
use Rattle.volume_base.specs.declared.forks.ForkKind.TheVariants as kinds
use Rattle.hfs_volume.specs.Changes.{with_fork}
use Rattle.volume_space.specs.Writing.{record_with}

-- fields of a file whose bytes changed at this moment
abbrev pub redated : ℕ → EntryFields → EntryFields
redated moment fields = record fields { changed = moment; attribute = moment }

-- the first of two for a data fork, and the second for a resource fork
abbrev pub pick : {X : Type 0} → ForkKind → X → X → X
pick kinds.Data one other = one
pick kinds.Resource one other = other

-- a file with another fork of this kind
abbrev pub with_data : ForkKind → ForkRecord → FileRecord → FileRecord
with_data k fork file = record { fields = file.fields; data_fork = pick k fork file.data_fork; resource_fork = pick k file.resource_fork fork }

-- the record as it is behind both steps
abbrev pub rewritten : ForkKind → ℕ → ForkRecord → FileRecord → FileRecord
rewritten k moment fork file = record { fields = redated moment file.fields; data_fork = pick k fork file.data_fork; resource_fork = pick k file.resource_fork fork }

pub with_is : (k : ForkKind) (fork : ForkRecord) (file : FileRecord) → with_fork (kind_of k) fork file ≡ with_data k fork file
with_is kinds.Data fork file = refl
with_is kinds.Resource fork file = refl

pub record_is : (k : ForkKind) (moment : ℕ) (fork : ForkRecord) (file : FileRecord) → record_with (kind_of k) moment fork file ≡ rewritten k moment fork file
record_is kinds.Data moment fork file = refl
record_is kinds.Resource moment fork file = refl

pub picked : (k : ForkKind) (fork : ForkRecord) (file : FileRecord) → fork_at (kind_of k) (with_data k fork file) ≡ fork
picked kinds.Data fork file = refl
picked kinds.Resource fork file = refl

-- what holds of a fork and of the two of a file holds of the picked ones
data_fits : (k : ForkKind) (fork : ForkRecord) (file : FileRecord) → FitsFork fork → FitsFile file → FitsFork (pick k fork file.data_fork) × FitsFork (pick k file.resource_fork fork)
data_fits kinds.Data fork file one both = (one, both.resource_fork)
data_fits kinds.Resource fork file one both = (both.data_fork, one)

at_set : {X : Type 0} (x y : X) (xs : List X) (k : ℕ) → slice_get xs k ≡ Some x → slice_get (slice_set xs k y) k ≡ Some y
at_set x y [] k at = absurd (let no : None ≡ Some x = at in cc no)
at_set x y (z ∷ zs) zero at = refl
at_set x y (z ∷ zs) (suc k) at = at_set x y zs k at

-- A record of the catalog that is a file's was updated so.
pub record IsRecordOf (k : ForkKind) (moment parent : ℕ) (name : List ℕ) (fork : ForkRecord) (file : FileRecord) (old new : List Pair) : Type 0 where
  pub updates : UpdatesEntry parent name (File (rewritten k moment fork file)) old new
  pub value : updates.entry.value ≡ File file
  pub no_link : is_link_type file.fields ≡ false
  pub fits : FitsFile file
  pub fits_fork : FitsFork fork

module _ (k : ForkKind) (moment parent : ℕ) (name : List ℕ) (fork : ForkRecord) (file : FileRecord) (old new : List Pair) (it : IsRecordOf k moment parent name fork file old new) where
  abbrev pub entry : Placed
  entry = it.updates.entry

  -- between the two steps
  abbrev pub middle : Placed
  middle = record entry { value = File (with_data k fork file) }

  abbrev pub middle_pair : Pair
  middle_pair = (it.updates.pair.0, catalog_bytes (File (with_data k fork file)))

  abbrev pub between : List Pair
  between = slice_set old it.updates.swapped.place middle_pair

  middle_fits : FitsFile (with_data k fork file)
  middle_fits = record { fields = it.fits.fields; data_fork = (data_fits k fork file it.fits_fork it.fits).0; resource_fork = (data_fits k fork file it.fits_fork it.fits).1 }

  pub middle_spells : Spells middle middle_pair
  unfolding placed_of
  middle_spells = record {
    stands = λ i. record { parent = (it.updates.is_entry.stands i).parent; name = (it.updates.is_entry.stands i).name; value = file_back (with_data k fork file) middle_fits i };
    spelled = no_fault (catalog_bytes (File (with_data k fork file))) (file_spells (with_data k fork file) middle_fits);
  }

  abbrev pub swaps : (id : ℕ) → file.fields.id ≡ id → SwapsFork id (kind_of k) old between
  swaps id number = record {
    entry = entry;
    pair = it.updates.pair;
    is_entry = it.updates.is_entry.stands;
    file = file;
    is_file = (it.value, number, it.no_link);
    fork = fork;
    other = middle_pair;
    is_other = subst (λ (f : FileRecord). Spells (record entry { value = File f }) middle_pair) (sym (with_is k fork file)) middle_spells;
    swapped = record { place = it.updates.swapped.place; at = it.updates.swapped.at; is = refl };
  }

  pub dates : ChangesValue middle (File (rewritten k moment fork file)) between new
  dates = record {
    pair = middle_pair;
    is_entry = middle_spells.stands;
    other = it.updates.other;
    is_other = it.updates.is_other;
    swapped = record {
      place = it.updates.swapped.place;
      at = at_set it.updates.pair middle_pair old it.updates.swapped.place it.updates.swapped.at;
      is = it.updates.swapped.is ∙ sym (set-set old it.updates.swapped.place middle_pair it.updates.other);
    };
    alike = record { place = (refl, refl); kind = (refl, refl); id = refl; link = refl; reference = λ _. refl };
    forks = refl;
  }

  is_rewritten : IsRewritten moment file.fields (redated moment file.fields)
  is_rewritten = record { touched = record { id = refl; count = omega arith; mode = refl; created = refl; changed = refl; attribute = refl }; special = refl }

  -- the second step, on a volume with these pairs in its catalog
  pub dated : (id : ℕ) → file.fields.id ≡ id → (put after : VolumeState) → put.catalog_pairs ≡ between → after.catalog_pairs ≡ new → HasSameNodes put.catalog_tree after.catalog_tree
      → after ≡ record put { catalog_pairs = after.catalog_pairs; catalog_tree = after.catalog_tree } → ChangesFields id (IsRewritten moment) put after
  dated id number put after put_is new_is nodes rest = record {
    entry = middle;
    before = file.fields;
    after = redated moment file.fields;
    has = refl;
    is_entry = number;
    fields = is_rewritten;
    changes = record {
      changes = subst (λ (both : List Pair × List Pair). ChangesValue middle (File (rewritten k moment fork file)) both.0 both.1) {x = (between, new)} {y = (put.catalog_pairs, after.catalog_pairs)} (λ i. (sym put_is i, sym new_is i)) dates;
      nodes = nodes;
      rest = rest;
    };
  }

  -- the record before both steps and behind them
  pub whole : Splits entry (record entry { value = File (rewritten k moment fork file) }) (placed_in old) (placed_in new)
  whole = pairs_split entry (record entry { value = File (rewritten k moment fork file) }) it.updates.pair it.updates.other old new it.updates.swapped it.updates.is_entry.stands it.updates.is_other.stands

  -- and between them
  pub halfway : Splits entry middle (placed_in old) (placed_in between)
  halfway = pairs_split entry middle it.updates.pair middle_pair old between (record { place = it.updates.swapped.place; at = it.updates.swapped.at; is = refl }) it.updates.is_entry.stands middle_spells.stands

  pub alike : SameKind entry (record entry { value = File (rewritten k moment fork file) })
  alike = record {
    place = (refl, refl);
    kind = (sym (ap is_folder it.value), sym (ap is_file it.value));
    id = sym (ap id_in it.value);
    link = sym (ap (λ (v : CatRecord). is_link (record entry { value = v })) it.value);
    reference = λ _. sym (ap (λ (v : CatRecord). special_of (record entry { value = v })) it.value);
  }

-- ---- on a volume whose bits and overflow records stay

module _ (k : ForkKind) (moment parent : ℕ) (name : List ℕ) (fork : ForkRecord) (file : FileRecord) (old new : VolumeState) (it : IsRecordOf k moment parent name fork file old.catalog_pairs new.catalog_pairs) (sound : IsSoundVolume old) where
  -- the record is an entry's
  pub named : is_empty it.updates.entry.name ≡ false
  named =
      let found = found_some (is_placed_at parent name) (records_of old) it.updates.entry it.updates.found in
      sym (each_of (λ (p : Placed). is_thread p.value ≡ is_empty p.name) (records_of old) sound.entries.threads.kinds it.updates.entry found.0) ∙ ap is_thread it.value

  pub stood : Contains (entries_of (records_of old)) it.updates.entry
  stood = is_entry_of (records_of old) it.updates.entry (found_some (is_placed_at parent name) (records_of old) it.updates.entry it.updates.found).0 named

  pub private_again : private_id (records_of new) ≡ private_id (records_of old)
  private_again =
      let parts = whole k moment parent name fork file old.catalog_pairs new.catalog_pairs it in
      ap private_id parts.is
      ∙ private_same it.updates.entry (File (rewritten k moment fork file)) parts.front parts.back named (alike k moment parent name fork file old.catalog_pairs new.catalog_pairs it)
      ∙ sym (ap private_id parts.was)

-- ---- a data fork with the extents that the file has

module _ (moment parent : ℕ) (name : List ℕ) (fork : ForkRecord) (file : FileRecord) (old new : VolumeState) (it : IsRecordOf kinds.Data moment parent name fork file old.catalog_pairs new.catalog_pairs) (sound : IsSoundVolume old) (same_extents : fork.extents ≡ file.data_fork.extents) where
  between_blocks : (put : VolumeState) → put ≡ record old { catalog_pairs = between kinds.Data moment parent name fork file old.catalog_pairs new.catalog_pairs it } → (id kind : ℕ) → blocks_at put id kind ≡ blocks_at old id kind
  between_blocks put is id kind =
      let parts = halfway kinds.Data moment parent name fork file old.catalog_pairs new.catalog_pairs it in
      ap (λ (v : VolumeState). blocks_at v id kind) is
      ∙ ap (λ l. blocks_found (overflow_in_volume old) (find (is_fork id kind) (all_forks old.head l))) parts.is
      ∙ sized_blocks old.head (overflow_in_volume old) parts.front parts.back it.updates.entry (middle kinds.Data moment parent name fork file old.catalog_pairs new.catalog_pairs it) file (with_data kinds.Data fork file) (named kinds.Data moment parent name fork file old new it sound) refl it.value refl refl same_extents refl id kind
      ∙ sym (ap (λ l. blocks_found (overflow_in_volume old) (find (is_fork id kind) (all_forks old.head l))) parts.was)

  pub blocks_again : new ≡ record old { catalog_pairs = new.catalog_pairs; catalog_tree = new.catalog_tree } → (id kind : ℕ) → blocks_at new id kind ≡ blocks_at old id kind
  blocks_again rest id kind =
      let parts = whole kinds.Data moment parent name fork file old.catalog_pairs new.catalog_pairs it in
      ap (λ (v : VolumeState). blocks_at v id kind) rest
      ∙ ap (λ l. blocks_found (overflow_in_volume old) (find (is_fork id kind) (all_forks old.head l))) parts.is
      ∙ sized_blocks old.head (overflow_in_volume old) parts.front parts.back it.updates.entry (record it.updates.entry { value = File (rewritten kinds.Data moment fork file) }) file (rewritten kinds.Data moment fork file) (named kinds.Data moment parent name fork file old new it sound) refl it.value refl refl same_extents refl id kind
      ∙ sym (ap (λ l. blocks_found (overflow_in_volume old) (find (is_fork id kind) (all_forks old.head l))) parts.was)

-- a file's record that has another size, no larger than it was
module _ (id size : ℕ) (moment parent : ℕ) (name : List ℕ) (file : FileRecord) (old new : VolumeState) (number : file.fields.id ≡ id) (short : size ≤ file.data_fork.logical_size)
    (it : IsRecordOf kinds.Data moment parent name (record file.data_fork { logical_size = size }) file old.catalog_pairs new.catalog_pairs) (sound : IsSoundVolume old) (is_moment : moment ≡ old.head.modify_date)
    (nodes : HasSameNodes old.catalog_tree new.catalog_tree) (rest : new ≡ record old { catalog_pairs = new.catalog_pairs; catalog_tree = new.catalog_tree })
  where
    abbrev sized : ForkRecord
    sized = record file.data_fork { logical_size = size }

    abbrev put : VolumeState
    put = record old { catalog_pairs = between kinds.Data moment parent name sized file old.catalog_pairs new.catalog_pairs it }

    owned_there : Contains (forks_of old) (data_fork_of file)
    owned_there = file_fork_stands old it.updates.entry file (stood kinds.Data moment parent name sized file old new it sound) it.value

    stored : IsStored file.fields.id data_kind (record file.data_fork { logical_size = size }) (record old { catalog_pairs = between kinds.Data moment parent name (record file.data_fork { logical_size = size }) file old.catalog_pairs new.catalog_pairs it })
    unfolding extents_of
    stored =
        let sizes = each_of (HasSizes old.head (overflow_in_volume old)) (forks_of old) sound.blocks.forks.sizes (data_fork_of file) owned_there in (
          record { inside = sizes.inside; blocks = sizes.blocks; bytes = omega (arith, short, sizes.bytes) },
          each_of (GoesOn (overflow_in_volume old)) (forks_of old) sound.blocks.forks.goes_on (data_fork_of file) owned_there,
        )

    none_of : (P : ℕ → Type 0) → All P []
    none_of P = all_of P [] (λ x stands. absurd (omega (arith, stands.1)))

    pub shortens : RewritesFile id 0 0 [] old new
    shortens = record {
      put = put;
      puts = record {
        free = old.head.free_blocks;
        next = old.head.next_allocation;
        counts = refl;
        puts = record {
          is_kind = inl refl;
          are_fresh = record { inside = none_of (λ b. b < old.head.total_blocks); free = none_of (λ b. is_set old b ≡ false); once = λ b. omega arith };
          within = omega arith;
          is = between_blocks moment parent name sized file old new it sound refl put refl id data_kind;
          file = swaps kinds.Data moment parent name sized file old.catalog_pairs new.catalog_pairs it id number;
          stored = subst (λ n. IsStored n data_kind sized put) number stored;
          others = refl;
          flips = record { size = refl; taken = none_of (λ b. is_set put b ≡ true); given = none_of (λ b. is_set put b ≡ false); others = λ b out gone. refl };
          catalog_nodes = record { total = refl; size = refl };
          extents_nodes = record { total = refl; size = refl };
          rest = refl;
        };
      };
      dates = subst (λ m. ChangesFields id (IsRewritten m) put new) is_moment (dated kinds.Data moment parent name sized file old.catalog_pairs new.catalog_pairs it id number put new refl refl nodes rest);
    }

    -- and the bytes that are left are those in front
    pub shortens_makes : (content : Content) → overflow_in_volume (volume_of content) ≡ overflow_in_volume old → length (bytes_in_fork content file.fields.id data_kind file.data_fork) ≡ file.data_fork.logical_size → MakesBytes (resized_bytes size) shortens (bytes_in content) (bytes_in content)
    unfolding shortens bytes_in_fork extents_of
    shortens_makes content same long = record {
      made = λ i. record {
        data_bytes = (front size (take file.data_fork.logical_size (fork_bytes content (extents_of (overflow_in_volume (volume_of content)) file.fields.id data_kind file.data_fork))) (fork_bytes content (extents_of (overflow_in_volume (volume_of content)) file.fields.id data_kind file.data_fork)) (omega (arith, short, long))
            (take-take size file.data_fork.logical_size (fork_bytes content (extents_of (overflow_in_volume (volume_of content)) file.fields.id data_kind file.data_fork)) short)) i;
        resource_bytes = bytes_in_fork content file.fields.id resource_kind file.resource_fork;
      };
      others = (λ p other stands is differs. refl, refl);
    }
      where
        none_more : (n m : ℕ) → n ≤ m → n - m ≡ 0
        none_more n m less = omega (arith, less)

        front : (n : ℕ) (bytes all : List ℕ) → n ≤ length bytes → take n bytes ≡ take n all → take n all ≡ take n (padded n bytes)
        front n bytes all enough same = sym same ∙ sym (ap (take n) (ap (λ k. bytes ++ replicate k 0) (none_more n (length bytes) enough) ∙ append-nil bytes))
