-- The bytes of a journal by their offsets.
use Rattle.std.proofs.Common.{◌≡◌, ◌<◌, ◌≤◌, ◌+◌, ◌*◌, ◌/◌, ◌%◌, ℕ, zero, suc, List, [], ◌∷◌, ◌++◌, IsTrue, length, get_or, take, drop, refl, ◌∙◌, ap, arith, length-append, length-take-le, length-drop}
use Rattle.std.proofs.lemmas.List.{length-map, get_or-map, get_or-take, get_or-drop, get_or_append_left, get_or-append_right}
use Rattle.std.specs.List.{concat}
use Rattle.sector_disk.specs.Lists.{Content, sector, last}
use Rattle.sector_disk.specs.Disk.{State, IsDisk, candidates_of, content}
use Rattle.sector_disk.proofs.Candidates.{Contains-last}
use Rattle.jnl_format.specs.Ring.{journal_bytes}
use Rattle.jnl_ring.specs.Whole.{AreWhole}

pub length-concat : (list : Content) → AreWhole list → length (concat list) ≡ 512 * length list
length-concat [] whole = refl
length-concat (x ∷ list) whole =
    omega (arith, length-append x (concat list), whole 0 (omega arith), length-concat list (λ k inside. whole (suc k) (omega (arith, inside))))

pub get_or-concat : (list : Content) (i j : ℕ) → AreWhole list → i < length list → j < 512 → get_or (concat list) (512 * i + j) 0 ≡ get_or (sector list i) j 0
get_or-concat [] i j whole inside below = absurd (omega (arith, inside))
get_or-concat (x ∷ list) zero j whole inside below = ap (λ n. get_or (x ++ concat list) n 0) (omega arith) ∙ get_or_append_left x (concat list) 0 j (omega (arith, below, whole 0 (omega arith)))
get_or-concat (x ∷ list) (suc i) j whole inside below =
    get_or-append_right x (concat list) 512 (512 * suc i + j) 0 (whole 0 (omega arith)) (omega arith) ∙ ap (λ n. get_or (concat list) n 0) (omega arith)
    ∙ get_or-concat list i j (λ k below_end. whole (suc k) (omega (arith, below_end))) (omega (arith, inside)) below

-- the journal's sectors lie in the content, whose sectors are whole
pub record HasJournal (base size : ℕ) (content : Content) : Type 0 where
  pub whole : AreWhole content
  pub fits : base + size / 512 ≤ length content
  pub sectors : size % 512 ≡ 0

-- the journal's sectors
abbrev pub sectors_of : ℕ → ℕ → Content → Content
sectors_of base size content = take (size / 512) (drop base content)

count_of : (base size : ℕ) (content : Content) → HasJournal base size content → length (sectors_of base size content) ≡ size / 512
count_of base size content has = length-take-le (size / 512) (drop base content) (omega (arith, has.fits, length-drop base content))

sector_of : (base size : ℕ) (content : Content) (k : ℕ) → k < size / 512 → sector (sectors_of base size content) k ≡ sector content (base + k)
sector_of base size content k inside = get_or-take (size / 512) (drop base content) k [] inside ∙ get_or-drop base content k []

whole_of : (base size : ℕ) (content : Content) → HasJournal base size content → AreWhole (sectors_of base size content)
whole_of base size content has k inside =
    let below : k < size / 512 = omega (arith, inside, count_of base size content has) in
    ap length (sector_of base size content k below) ∙ has.whole (base + k) (omega (arith, below, has.fits))

pub length-journal : (base size : ℕ) (content : Content) → HasJournal base size content → length (journal_bytes content base size) ≡ size
unfolding journal_bytes
length-journal base size content has =
    omega (arith, length-concat (sectors_of base size content) (whole_of base size content has), count_of base size content has, has.sectors)

pub journal_byte : (base size : ℕ) (content : Content) (offset : ℕ) → HasJournal base size content → offset < size
    → get_or (journal_bytes content base size) offset 0 ≡ get_or (sector content (base + offset / 512)) (offset % 512) 0
unfolding journal_bytes
journal_byte base size content offset has inside =
    let k : offset / 512 < size / 512 = omega (arith, inside, has.sectors) in
    ap (λ n. get_or (concat (sectors_of base size content)) n 0) (omega arith)
    ∙ get_or-concat (sectors_of base size content) (offset / 512) (offset % 512) (whole_of base size content has) (omega (arith, k, count_of base size content has)) (omega arith)
    ∙ ap (λ (v : List ℕ). get_or v (offset % 512) 0) (sector_of base size content (offset / 512) k)

-- a disk that tells its content has whole sectors
pub content_whole : (disk : State) → IsDisk disk → AreWhole (content disk)
content_whole disk is k inside =
    let there : k < length disk.candidates = omega (arith, inside, length-map disk.candidates last) in
    ap length (get_or-map last disk.candidates k [] [] there) ∙ (is.whole k (last (candidates_of disk.candidates k)) (Contains-last (candidates_of disk.candidates k) (is.each k there))).size

pub disk_has : (disk : State) (base size : ℕ) → IsDisk disk → IsTrue disk.tells → base + size / 512 ≤ disk.sectors → size % 512 ≡ 0 → HasJournal base size (content disk)
disk_has disk base size is tells fits whole = record {
  whole = content_whole disk is;
  fits = omega (arith, fits, is.size tells, length-map disk.candidates last);
  sectors = whole;
}
