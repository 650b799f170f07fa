-- A volume header's sector in which its three counts are written: what header it spells, and when it is as it was.
use Rattle.std.proofs.Common.{◌≡◌, ℕ, ◌+◌, ◌-◌, ◌%◌, ◌≤◌, List, [], ◌∷◌, ◌++◌, length, take, drop, sym, ◌∙◌, ap, arith, append_assoc}
use Rattle.std.proofs.lemmas.List.{length-append, length-take, drop-drop, take-append-drop}
use Rattle.std.proofs.Math.Seq.{drop-append-add}
use Rattle.hx_bytes.specs.Field.{big, big_at, put_at, number_at, AreBytes}
use Rattle.hx_bytes.specs.Fork.{fork_at, extents_at}
use Rattle.hx_bytes.specs.declared.fields.Order.TheVariants.{Big}
use Rattle.hx_bytes.proofs.Laws.{length-number_bytes, length-put_at, number_at-drop, number_at-front, number_at-put_at}
use Rattle.hx_bytes.proofs.Putting.{number_bytes-low_4}
use Rattle.volume_header.specs.Header.{header_of}
use Rattle.volume_header.specs.declared.header.VolumeHeader.{VolumeHeader}
use Rattle.volume_repair.specs.Recount.{with_word}
use Rattle.volume_repair.proofs.Counting.{word_stays}

-- ---- one word

pub long_word : (at x : ℕ) (bytes : List ℕ) → at + 4 ≤ length bytes → length (with_word at x bytes) ≡ length bytes
long_word at x bytes fits = length-put_at bytes (big 4 x) at (omega (arith, fits, length-number_bytes Big 4 x))

-- what stands behind the word
pub behind_word : (at x k : ℕ) (bytes : List ℕ) → at + 4 ≤ length bytes → at + 4 ≤ k → drop k (with_word at x bytes) ≡ drop k bytes
behind_word at x k bytes fits past =
    ap (λ n. drop n (with_word at x bytes)) (let split : k ≡ length (take at bytes ++ big 4 x) + (k - (at + 4)) = omega (arith, past, long) in split)
    ∙ drop-append-add (take at bytes ++ big 4 x) (drop (at + length (big 4 x)) bytes) (k - (at + 4))
    ∙ drop-drop (k - (at + 4)) (at + length (big 4 x)) bytes
    ∙ ap (λ n. drop n bytes) (let is : at + length (big 4 x) + (k - (at + 4)) ≡ k = omega (arith, past, length-number_bytes Big 4 x) in is)
  where
    long : length (take at bytes ++ big 4 x) ≡ at + 4
    long = omega (arith, length-append (take at bytes) (big 4 x), length-take at bytes, length-number_bytes Big 4 x, fits)

pub number_behind : (n at x k : ℕ) (bytes : List ℕ) → at + 4 ≤ length bytes → at + 4 ≤ k → big_at n (with_word at x bytes) k ≡ big_at n bytes k
number_behind n at x k bytes fits past =
    number_at-drop Big n k (with_word at x bytes) ∙ ap (λ l. number_at Big n l 0) (behind_word at x k bytes fits past) ∙ sym (number_at-drop Big n k bytes)

-- a number before the word
pub number_before : (n at x k : ℕ) (bytes : List ℕ) → at + 4 ≤ length bytes → k + n ≤ at → big_at n (with_word at x bytes) k ≡ big_at n bytes k
number_before n at x k bytes fits before =
    ap (λ l. number_at Big n l k) (append_assoc (take at bytes) (big 4 x) (drop (at + length (big 4 x)) bytes))
    ∙ number_at-front Big n k (take at bytes) (big 4 x ++ drop (at + length (big 4 x)) bytes) long
    ∙ sym (number_at-front Big n k (take at bytes) (drop at bytes) long)
    ∙ ap (λ l. number_at Big n l k) (take-append-drop at bytes)
  where
    long : k + n ≤ length (take at bytes)
    long = omega (arith, before, length-take at bytes, fits)

-- a number of 32 bits
abbrev pub low : ℕ → ℕ
low x = x % 4294967296

pub number_there : (at x : ℕ) (bytes : List ℕ) → at + 4 ≤ length bytes → big_at 4 (with_word at x bytes) at ≡ low x
number_there at x bytes fits = ap (λ l. number_at Big 4 (put_at bytes at l) at) (sym (number_bytes-low_4 Big x)) ∙ number_at-put_at Big 4 (low x) at bytes fits (omega arith)

-- ---- the three counts

abbrev pub with_counts : ℕ → ℕ → ℕ → List ℕ → List ℕ
with_counts files folders free bytes = with_word 32 files (with_word 36 folders (with_word 48 free bytes))

module _ (files folders free : ℕ) (bytes : List ℕ) (long : length bytes ≡ 512) where
  abbrev inner : List ℕ
  inner = with_word 48 free bytes

  abbrev middle : List ℕ
  middle = with_word 36 folders inner

  long_inner : length inner ≡ 512
  long_inner = long_word 48 free bytes (omega (arith, long)) ∙ long

  long_middle : length middle ≡ 512
  long_middle = long_word 36 folders inner (omega (arith, long_inner)) ∙ long_inner

  pub long_counts : length (with_counts files folders free bytes) ≡ 512
  long_counts = long_word 32 files middle (omega (arith, long_middle)) ∙ long_middle

  first : (n k : ℕ) → k + n ≤ 32 → big_at n (with_counts files folders free bytes) k ≡ big_at n bytes k
  first n k before =
      number_before n 32 files k middle (omega (arith, long_middle)) before ∙ number_before n 36 folders k inner (omega (arith, long_inner, before)) (omega (arith, before))
      ∙ number_before n 48 free k bytes (omega (arith, long)) (omega (arith, before))

  between : (n k : ℕ) → 40 ≤ k → k + n ≤ 48 → big_at n (with_counts files folders free bytes) k ≡ big_at n bytes k
  between n k past before =
      number_behind n 32 files k middle (omega (arith, long_middle)) (omega (arith, past)) ∙ number_behind n 36 folders k inner (omega (arith, long_inner)) past ∙ number_before n 48 free k bytes (omega (arith, long)) before

  rest : (k : ℕ) → 52 ≤ k → drop k (with_counts files folders free bytes) ≡ drop k bytes
  rest k past =
      behind_word 32 files k middle (omega (arith, long_middle)) (omega (arith, past)) ∙ behind_word 36 folders k inner (omega (arith, long_inner)) (omega (arith, past)) ∙ behind_word 48 free k bytes (omega (arith, long)) past

  last : (n k : ℕ) → 52 ≤ k → big_at n (with_counts files folders free bytes) k ≡ big_at n bytes k
  last n k past = number_at-drop Big n k (with_counts files folders free bytes) ∙ ap (λ l. number_at Big n l 0) (rest k past) ∙ sym (number_at-drop Big n k bytes)

  fork_stays : (at : ℕ) → 52 ≤ at → fork_at (with_counts files folders free bytes) at ≡ fork_at bytes at
  unfolding extents_at
  fork_stays at past = λ i. record {
    logical_size = last 8 at past i;
    clump_size = four 8 i;
    total_blocks = four 12 i;
    extents = record {
      extents =
          record { start = four 16 i; count = more 4 i } ∷ record { start = more 8 i; count = count 8 i } ∷ record { start = more 16 i; count = count 16 i } ∷ record { start = more 24 i; count = count 24 i }
          ∷ record { start = more 32 i; count = count 32 i } ∷ record { start = more 40 i; count = count 40 i } ∷ record { start = more 48 i; count = count 48 i } ∷ record { start = more 56 i; count = count 56 i } ∷ [];
    };
  }
    where
      four : (k : ℕ) → big_at 4 (with_counts files folders free bytes) (at + k) ≡ big_at 4 bytes (at + k)
      four k = last 4 (at + k) (omega (arith, past))

      more : (k : ℕ) → big_at 4 (with_counts files folders free bytes) (at + 16 + k) ≡ big_at 4 bytes (at + 16 + k)
      more k = last 4 (at + 16 + k) (omega (arith, past))

      count : (k : ℕ) → big_at 4 (with_counts files folders free bytes) (at + 16 + k + 4) ≡ big_at 4 bytes (at + 16 + k + 4)
      count k = last 4 (at + 16 + k + 4) (omega (arith, past))

  -- the header that they spell
  pub counts_spell : header_of (with_counts files folders free bytes) ≡ record (header_of bytes) { file_count = low files; folder_count = low folders; free_blocks = low free }
  counts_spell = λ i. record {
    signature = first 2 0 (omega arith) i;
    version = first 2 2 (omega arith) i;
    attributes = first 4 4 (omega arith) i;
    last_mounted_version = first 4 8 (omega arith) i;
    journal_info_block = first 4 12 (omega arith) i;
    create_date = first 4 16 (omega arith) i;
    modify_date = first 4 20 (omega arith) i;
    backup_date = first 4 24 (omega arith) i;
    checked_date = first 4 28 (omega arith) i;
    file_count = number_there 32 files middle (omega (arith, long_middle)) i;
    folder_count = (number_behind 4 32 files 36 middle (omega (arith, long_middle)) (omega arith) ∙ number_there 36 folders inner (omega (arith, long_inner))) i;
    block_size = between 4 40 (omega arith) (omega arith) i;
    total_blocks = between 4 44 (omega arith) (omega arith) i;
    free_blocks = (number_behind 4 32 files 48 middle (omega (arith, long_middle)) (omega arith) ∙ number_behind 4 36 folders 48 inner (omega (arith, long_inner)) (omega arith) ∙ number_there 48 free bytes (omega (arith, long))) i;
    next_allocation = last 4 52 (omega arith) i;
    rsrc_clump_size = last 4 56 (omega arith) i;
    data_clump_size = last 4 60 (omega arith) i;
    next_catalog_id = last 4 64 (omega arith) i;
    write_count = last 4 68 (omega arith) i;
    encodings_bitmap = last 8 72 (omega arith) i;
    finder_info = take 32 (rest 80 (omega arith) i);
    allocation_fork = fork_stays 112 (omega arith) i;
    extents_fork = fork_stays 192 (omega arith) i;
    catalog_fork = fork_stays 272 (omega arith) i;
    attributes_fork = fork_stays 352 (omega arith) i;
    startup_fork = fork_stays 432 (omega arith) i;
  }

  -- numbers that stand there already change nothing
  pub counts_stay : AreBytes bytes → (header_of bytes).file_count ≡ low files → (header_of bytes).folder_count ≡ low folders → (header_of bytes).free_blocks ≡ low free → with_counts files folders free bytes ≡ bytes
  counts_stay are is_files is_folders is_free =
      ap (λ l. with_word 32 files (with_word 36 folders l)) (as_low 48 free (omega arith) is_free) ∙ ap (λ l. with_word 32 files l) (as_low 36 folders (omega arith) is_folders) ∙ as_low 32 files (omega arith) is_files
    where
      as_low : (at x : ℕ) → at + 4 ≤ 512 → big_at 4 bytes at ≡ low x → with_word at x bytes ≡ bytes
      as_low at x fits is = ap (put_at bytes at) (sym (number_bytes-low_4 Big x)) ∙ word_stays bytes at (low x) are (omega (arith, long, fits)) is

  -- and where nothing is changed, they stood there
  pub counts_stood : with_counts files folders free bytes ≡ bytes → ((header_of bytes).file_count ≡ low files) × ((header_of bytes).folder_count ≡ low folders) × ((header_of bytes).free_blocks ≡ low free)
  counts_stood same =
      let spelled : header_of bytes ≡ record (header_of bytes) { file_count = low files; folder_count = low folders; free_blocks = low free } = ap header_of (sym same) ∙ counts_spell in
      (ap (λ (h : VolumeHeader). h.file_count) spelled, ap (λ (h : VolumeHeader). h.folder_count) spelled, ap (λ (h : VolumeHeader). h.free_blocks) spelled)
