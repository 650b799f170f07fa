-- A sound volume counts right already: each number that is counted anew is the one that stands there.
use Rattle.std.proofs.Common.{◌≡◌, ◌≢◌, ◌⊎◌, ℕ, ◌+◌, ◌-◌, ◌<◌, ◌≤◌, Bool, true, false, not, ◌==◌, ◌&&◌, if◌then◌else◌, List, [], ◌∷◌, ◌++◌, length, map, take, drop, inl, inr, refl, sym, ◌∙◌, ap, subst, arith, T, ⊎_elim, ext_get_or}
use Rattle.std.specs.Prelude.{Contains, IsTrue, count_by}
use Rattle.std.proofs.lemmas.Bool.{cases_lt, eq-eqb, and_parts}
use Rattle.std.proofs.lemmas.Bool.Decides.{eqb_tells}
use Rattle.std.proofs.lemmas.List.{append_assoc, drop-drop, take-append-drop}
use Rattle.std.proofs.lemmas.List.FromFn.{get_or-map-range_with_len, length-map-range_with_len}
use Rattle.hx_bytes.specs.Field.{big, big_at, AreBytes}
use Rattle.hx_bytes.specs.declared.fields.Order.TheVariants.{Big}
use Rattle.hx_bytes.proofs.Laws.{length-number_bytes, number_bytes-number_at_4, length-put_at, get_or-put_at}
use Rattle.volume_header.specs.declared.header.VolumeHeader.{VolumeHeader}
use Rattle.btree_node.specs.Levels.{Pair}
use Rattle.cat_records.specs.Records.{is_catalog, catalog_of, entry_of}
use Rattle.cat_records.specs.declared.record.CatRecord.{CatRecord}
use Rattle.cat_records.specs.declared.record.CatRecord.TheVariants.{Folder, File, Thread}
use Rattle.hfs_volume.specs.Records.{Placed, placed_of, entries_of, is_empty, is_folder, is_file, is_thread, id_of, valence_in, special_of}
use Rattle.hfs_volume.specs.Content.{VolumeState, records_of, is_set}
use Rattle.hfs_volume.specs.Entries.{count_in}
use Rattle.hfs_volume.specs.Links.{is_shared_file, reference_of, links_to}
use Rattle.hfs_volume.specs.Blocks.{AgreesWith, is_among, count_used, used_in}
use Rattle.hfs_volume.specs.Sound.{IsSoundVolume}
use Rattle.hfs_volume.proofs.Members.{each_of, kept_stands, map_stands, at_front, behind}
use Rattle.volume_repair.specs.Recount.{with_word, folder_recounted, file_recounted, value_recounted, pair_recounted, header_recounted, agrees, alternate_mended, is_bit_wanted, bits_recounted, recounted}
use Rattle.volume_repair.proofs.Typed.{true_below, not_below, folder_long, file_long, spells_folder, spells_file, spells_thread}
use Rattle.volume_repair.specs.Laws.{HasByteValues, SoundStaysAsItIs, OnceIsEnough, KeysStay, SameButWord, ValuesStay}

-- ---- numbers in bytes

-- the number that stands there, written there
pub word_stays : (bytes : List ℕ) (at number : ℕ) → AreBytes bytes → at + 4 ≤ length bytes → big_at 4 bytes at ≡ number → with_word at number bytes ≡ bytes
word_stays bytes at number are fits is =
    ap (λ (n : ℕ). with_word at n bytes) (sym is)
    ∙ ap (λ (n : ℕ). take at bytes ++ big 4 (big_at 4 bytes at) ++ drop (at + n) bytes) (length-number_bytes Big 4 (big_at 4 bytes at))
    ∙ ap (λ (l : List ℕ). take at bytes ++ l ++ drop (at + 4) bytes) (number_bytes-number_at_4 Big bytes at fits are)
    ∙ append_assoc (take at bytes) (take 4 (drop at bytes)) (drop (at + 4) bytes)
    ∙ ap (λ (l : List ℕ). take at bytes ++ (take 4 (drop at bytes) ++ l)) (sym (drop-drop 4 at bytes))
    ∙ ap (λ (l : List ℕ). take at bytes ++ l) (take-append-drop 4 (drop at bytes))
    ∙ take-append-drop at bytes

map_same : {X : Type 0} (f : X → X) (xs : List X) → ((x : X) → Contains xs x → f x ≡ x) → map f xs ≡ xs
map_same f [] same = refl
map_same f (x ∷ xs) same = ap (λ y. y ∷ map f xs) (same x (at_front x xs)) ∙ ap (λ l. x ∷ l) (map_same f xs (λ y stands. same y (behind x y xs stands)))

-- ---- values

false_is_true : {X : Type 0} → false ≡ true → X
false_is_true same = absurd (subst T (sym same) tt)

-- the type of a value, as a number that is a folder's, a file's or another
by_kind : {X : Type 0} (kind : ℕ) → (kind ≡ 1 → X) → (kind ≡ 2 → X) → (kind ≢ 1 → kind ≢ 2 → X) → X
by_kind kind folder file other = ⊎_elim
    (λ (one : (kind == 1 ≡ true) × (kind ≡ 1)). folder one.1)
    (λ (no : (kind == 1 ≡ false) × (kind ≢ 1)). ⊎_elim
    (λ (two : (kind == 2 ≡ true) × (kind ≡ 2)). file two.1)
    (λ (none : (kind == 2 ≡ false) × (kind ≢ 2)). other no.1 none.1)
    (eqb_tells kind 2))
    (eqb_tells kind 1)

-- a folder's value is long enough, and has its valence at 4
folder_word : (value : List ℕ) → IsTrue (is_catalog value) → is_folder (catalog_of value) ≡ true → (8 ≤ length value) × (big_at 4 value 4 ≡ valence_in (catalog_of value))
unfolding entry_of
folder_word value is folder = by_kind (big_at 2 value 0)
    (λ one. (let long = folder_long value is one in omega (arith, long), sym (ap valence_in (spells_folder value one))))
    (λ two. false_is_true (sym (ap is_folder (spells_file value two)) ∙ folder))
    (λ no_folder no_file. false_is_true (sym (ap is_folder (spells_thread value no_folder no_file)) ∙ folder))

-- the special word in a value
abbrev special_in : CatRecord → ℕ
special_in value = special_of (record { parent = 0; name = []; value = value })

-- a file's value is long enough, and has its special word at 44
file_word : (value : List ℕ) → IsTrue (is_catalog value) → is_file (catalog_of value) ≡ true → (48 ≤ length value) × (big_at 4 value 44 ≡ special_in (catalog_of value))
unfolding entry_of
file_word value is file = by_kind (big_at 2 value 0)
    (λ one. false_is_true (sym (ap is_file (spells_folder value one)) ∙ file))
    (λ two. (let long = file_long value is two in omega (arith, long), sym (ap special_in (spells_file value two))))
    (λ no_folder no_file. false_is_true (sym (ap is_file (spells_thread value no_folder no_file)) ∙ file))

-- the value of a record whose numbers are right
value_stays : (records : List Placed) (placed : Placed) (value : List ℕ) → AreBytes value → IsTrue (is_catalog value) → placed.value ≡ catalog_of value
    → (is_folder placed.value ≡ true → valence_in placed.value ≡ count_in (entries_of records) (id_of placed))
    → (is_shared_file records (reference_of placed) placed ≡ true → special_of placed ≡ length (links_to records (reference_of placed)))
    → (is_shared_file records (reference_of placed) placed ≡ true → is_file placed.value ≡ true)
    → value_recounted records placed value ≡ value
value_stays records placed value are is same valence links file = at (is_folder placed.value) (is_shared_file records (reference_of placed) placed) refl refl
  where
    at : (folder shared : Bool) → is_folder placed.value ≡ folder → is_shared_file records (reference_of placed) placed ≡ shared
        → (if folder then folder_recounted records placed value else if shared then file_recounted records placed value else value) ≡ value
    at true shared folder names =
        let word = folder_word value is (sym (ap is_folder same) ∙ folder) in
        word_stays value 4 (count_in (entries_of records) (id_of placed)) are (omega (arith, word.0)) (word.1 ∙ sym (ap valence_in same) ∙ valence folder)
    at false true other names =
        let word = file_word value is (sym (ap is_file same) ∙ file names) in
        word_stays value 44 (length (links_to records (reference_of placed))) are (omega (arith, word.0)) (word.1 ∙ sym (ap special_in same) ∙ links names)
    at false false other alone = refl

-- a file with several names is a file
shared_is_file : (records : List Placed) (reference : ℕ) (placed : Placed) → is_shared_file records reference placed ≡ true → is_file placed.value ≡ true
shared_is_file records reference placed shared = (and_parts _ _ (and_parts _ _ (and_parts _ _ shared).0).0).1

-- a record with a name is an entry
is_entry : (records : List Placed) (placed : Placed) → Contains records placed → is_empty placed.name ≡ false → Contains (entries_of records) placed
is_entry records placed stands named = kept_stands (λ (p : Placed). not (is_empty p.name)) records placed stands (ap not named)

-- what has a thread's value is neither a folder nor a file
no_thread : (value : CatRecord) → is_folder value ≡ true → is_thread value ≡ false
no_thread (Folder folder) is = refl
no_thread (File file) is = false_is_true is
no_thread (Thread thread) is = false_is_true is

no_thread_of_file : (value : CatRecord) → is_file value ≡ true → is_thread value ≡ false
no_thread_of_file (Folder folder) is = false_is_true is
no_thread_of_file (File file) is = refl
no_thread_of_file (Thread thread) is = false_is_true is

-- the value of a pair of a sound volume's catalog
pub value_is : (volume : VolumeState) → IsSoundVolume volume → (pair : Pair) → AreBytes pair.1 → Contains volume.catalog_pairs pair → value_recounted (records_of volume) (placed_of pair) pair.1 ≡ pair.1
unfolding placed_of
value_is volume sound pair bytes stands = value_stays (records_of volume) (placed_of pair) pair.1 bytes
    (each_of (λ (p : Pair). IsTrue (is_catalog p.1)) volume.catalog_pairs sound.entries.threads.spelled pair stands)
    refl valence links shared
  where
    there : Contains (records_of volume) (placed_of pair)
    there = map_stands placed_of volume.catalog_pairs pair stands

    kind : is_thread (placed_of pair).value ≡ is_empty (placed_of pair).name
    kind = each_of (λ (p : Placed). is_thread p.value ≡ is_empty p.name) (records_of volume) sound.entries.threads.kinds (placed_of pair) there

    valence : is_folder (placed_of pair).value ≡ true → valence_in (placed_of pair).value ≡ count_in (entries_of (records_of volume)) (id_of (placed_of pair))
    valence folder = each_of (λ (p : Placed). is_folder p.value ≡ true → valence_in p.value ≡ count_in (entries_of (records_of volume)) (id_of p)) (entries_of (records_of volume)) sound.entries.counts.valences (placed_of pair)
        (is_entry (records_of volume) (placed_of pair) there (sym kind ∙ no_thread (placed_of pair).value folder)) folder

    shared : is_shared_file (records_of volume) (reference_of (placed_of pair)) (placed_of pair) ≡ true → is_file (placed_of pair).value ≡ true
    shared is = shared_is_file (records_of volume) (reference_of (placed_of pair)) (placed_of pair) is

    links : is_shared_file (records_of volume) (reference_of (placed_of pair)) (placed_of pair) ≡ true → special_of (placed_of pair) ≡ length (links_to (records_of volume) (reference_of (placed_of pair)))
    links is = sound.links.counts (reference_of (placed_of pair)) (placed_of pair)
        (is_entry (records_of volume) (placed_of pair) there (sym kind ∙ no_thread_of_file (placed_of pair).value (shared is))) is

-- the pairs of a sound volume's catalog
pairs_stay : (volume : VolumeState) → HasByteValues volume → IsSoundVolume volume → map (pair_recounted (records_of volume)) volume.catalog_pairs ≡ volume.catalog_pairs
pairs_stay volume bytes sound = map_same (pair_recounted (records_of volume)) volume.catalog_pairs
    (λ pair stands. ap (λ (value : List ℕ). (pair.0, value)) (value_is volume sound pair (each_of (λ (p : Pair). AreBytes p.1) volume.catalog_pairs bytes pair stands) stands))

-- ---- the header and the bits

pub header_stays : (volume : VolumeState) → IsSoundVolume volume → header_recounted volume ≡ volume.head
header_stays volume sound = λ i. record volume.head { file_count = sym files i; folder_count = sym folders i; free_blocks = sym free i }
  where
    files : volume.head.file_count ≡ count_by (λ (placed : Placed). is_file placed.value) (entries_of (records_of volume))
    files = sound.entries.counts.files

    folders : volume.head.folder_count ≡ count_by (λ (placed : Placed). is_folder placed.value) (entries_of (records_of volume)) - 1
    folders = omega (arith, sound.entries.counts.folders)

    free : volume.head.free_blocks ≡ volume.head.total_blocks - count_used volume.head.total_blocks (used_in volume)
    free = omega (arith, sound.blocks.bits.free)

pub agreement : (head alternate : VolumeHeader) → AgreesWith head alternate → agrees head alternate ≡ true
agreement head alternate is = rw (
  eq-eqb alternate.signature head.signature is.signature,
  eq-eqb alternate.version head.version is.version,
  eq-eqb alternate.block_size head.block_size is.block_size,
  eq-eqb alternate.total_blocks head.total_blocks is.total_blocks,
) refl

alternate_stays : (volume : VolumeState) → IsSoundVolume volume → alternate_mended volume ≡ volume.alternate
alternate_stays volume sound = ap (λ b. if b then volume.alternate else header_recounted volume) (agreement volume.head volume.alternate sound.blocks.alternate)

pub bit_stays : (volume : VolumeState) → IsSoundVolume volume → (k : ℕ) → is_bit_wanted volume k ≡ is_set volume k
bit_stays volume sound k = ⊎_elim
    (λ (inside : k < volume.head.total_blocks). ap (λ b. b && is_among (used_in volume) k) (true_below k volume.head.total_blocks inside) ∙ sym (sound.blocks.bits.bits k inside))
    (λ (past : volume.head.total_blocks ≤ k). ap (λ b. b && is_among (used_in volume) k) (not_below k volume.head.total_blocks past) ∙ sym (sound.blocks.files.no_more k past))
    (cases_lt k volume.head.total_blocks)

bits_stay : (volume : VolumeState) → IsSoundVolume volume → bits_recounted volume ≡ volume.bits
bits_stay volume sound = ext_get_or false (bits_recounted volume) volume.bits
    (length-map-range_with_len (is_bit_wanted volume) 0 (length volume.bits))
    (λ k inside. get_or-map-range_with_len (is_bit_wanted volume) 0 (length volume.bits) k k false (omega (arith, inside, length-map-range_with_len (is_bit_wanted volume) 0 (length volume.bits))) (omega arith) ∙ bit_stays volume sound k)

-- ---- the volume

pub sound_stays : SoundStaysAsItIs
unfolding recounted
sound_stays volume bytes sound = λ i. record volume {
  head = header_stays volume sound i;
  alternate = alternate_stays volume sound i;
  catalog_pairs = pairs_stay volume bytes sound i;
  bits = bits_stay volume sound i;
}

pub once : OnceIsEnough
once volume bytes sound = sound_stays (recounted volume) bytes sound

keys_of : (records : List Placed) (pairs : List Pair) → map (λ (pair : Pair). pair.0) (map (pair_recounted records) pairs) ≡ map (λ (pair : Pair). pair.0) pairs
keys_of records [] = refl
keys_of records (pair ∷ pairs) = ap (λ l. pair.0 ∷ l) (keys_of records pairs)

pub keys_law : KeysStay
unfolding recounted
keys_law volume = keys_of (records_of volume) volume.catalog_pairs

-- ---- what stays of a value

word_alone : (value : List ℕ) (at number : ℕ) → at + 4 ≤ length value → SameButWord at value (with_word at number value)
word_alone value at number fits = record {
  size = length-put_at value (big 4 number) at (omega (arith, fits, length-number_bytes Big 4 number));
  each = λ k outside. get_or-put_at value (big 4 number) at k (omega (arith, fits, length-number_bytes Big 4 number)) (aside k outside);
}
  where
    aside : (k : ℕ) → (k < at) ⊎ (at + 4 ≤ k) → (k < at) ⊎ (at + length (big 4 number) ≤ k)
    aside k (inl before) = inl before
    aside k (inr past) = inr (omega (arith, past, length-number_bytes Big 4 number))

pub values_law : ValuesStay
unfolding placed_of
values_law volume spelled pair stands = at (is_folder placed.value) (is_shared_file records (reference_of placed) placed) refl refl
  where
    records : List Placed
    records = records_of volume

    placed : Placed
    placed = placed_of pair

    is : IsTrue (is_catalog pair.1)
    is = each_of (λ (p : Pair). IsTrue (is_catalog p.1)) volume.catalog_pairs spelled pair stands

    at : (folder shared : Bool) → is_folder placed.value ≡ folder → is_shared_file records (reference_of placed) placed ≡ shared
        → let value = (if folder then folder_recounted records placed pair.1 else if shared then file_recounted records placed pair.1 else pair.1) in
        (SameButWord 4 pair.1 value × (is_folder placed.value ≡ true)) ⊎ ((SameButWord 44 pair.1 value × (is_file placed.value ≡ true)) ⊎ (value ≡ pair.1))
    at true shared folder names = inl (word_alone pair.1 4 _ (let long = (folder_word pair.1 is folder).0 in omega (arith, long)), folder)
    at false true other names = let file = shared_is_file records (reference_of placed) placed names in inr (inl (word_alone pair.1 44 _ (let long = (file_word pair.1 is file).0 in omega (arith, long)), file))
    at false false other alone = inr (inr refl)
