-- A node that is read sector by sector.
use Rattle.std.proofs.Common.{◌≡◌, ◌<◌, ◌≤◌, ℕ, zero, suc, ◌+◌, ◌-◌, ◌*◌, ◌/◌, IsTrue, List, [], ◌∷◌, ◌++◌, length, take, drop, replicate, slice_get, refl, sym, ◌∙◌, ap, arith, length-append, append_assoc, append-nil}
use Rattle.std.specs.Prelude.{Bool, nat_lt, true, false, if◌then◌else◌}
use Rattle.std.proofs.lemmas.List.{length-take, length-drop, length-replicate, take_all, drop_all, get_or_past}
use Rattle.hx_bytes.specs.Field.{put_at}
use Rattle.hx_bytes.proofs.Laws.{put_at-more}
use Rattle.sector_disk.specs.Space.{Space}
use Rattle.jnl_format.specs.Recovery.{Content, sector}
use Rattle.hfs_model.specs.Step.{padded}
use Rattle.btree_file.specs.Frame.{ReadsSpace}
use Rattle.btree_file.specs.FrameLaws.{reads_none, reads_both}
use Rattle.hfs_volume.specs.Content.{block_sector, block_bytes, node_of_fork}
use Rattle.fsck_scan.specs.Read.{sector_or_zeros}

-- the bytes of the first of these sectors, where there are zeros past their end
pub filled : Content → ℕ → ℕ → List ℕ → List ℕ
filled content limit zero sectors = []
filled content limit (suc more) [] = replicate 512 0 ++ filled content limit more []
filled content limit (suc more) (at ∷ sectors) = block_sector content limit at ++ filled content limit more sectors

-- one sector more, at the end
pub filled_more : (content : Content) (limit k : ℕ) (sectors : List ℕ) → filled content limit (suc k) sectors ≡ filled content limit k sectors ++ sector_or_zeros content limit (slice_get sectors k)
unfolding filled
filled_more content limit zero [] = append-nil (replicate 512 0)
filled_more content limit zero (at ∷ sectors) = append-nil (block_sector content limit at)
filled_more content limit (suc k) [] = ap (λ l. replicate 512 0 ++ l) (filled_more content limit k []) ∙ sym (append_assoc (replicate 512 0) (filled content limit k []) (replicate 512 0))
filled_more content limit (suc k) (at ∷ sectors) =
    ap (λ l. block_sector content limit at ++ l) (filled_more content limit k sectors) ∙ sym (append_assoc (block_sector content limit at) (filled content limit k sectors) (sector_or_zeros content limit (slice_get sectors k)))

long_padded : (n : ℕ) (bytes : List ℕ) → n ≤ length (padded n bytes)
long_padded n bytes = omega (arith, length-append bytes (replicate (n - length bytes) 0), length-replicate {A = ℕ} (n - length bytes) 0)

-- a sector has 512 bytes, whatever the content
pub long_sector : (content : Content) (limit at : ℕ) → length (block_sector content limit at) ≡ 512
unfolding block_sector
long_sector content limit at = cases (nat_lt at limit)
  where
    cases : (b : Bool) → length (if b then take 512 (padded 512 (sector content at)) else replicate 512 0) ≡ 512
    cases true = omega (arith, length-take 512 (padded 512 (sector content at)), long_padded 512 (sector content at))
    cases false = length-replicate {A = ℕ} 512 0

pub long_filled : (content : Content) (limit k : ℕ) (sectors : List ℕ) → length (filled content limit k sectors) ≡ k * 512
unfolding filled
long_filled content limit zero sectors = refl
long_filled content limit (suc k) [] = omega (arith, length-append (replicate 512 0) (filled content limit k []), length-replicate {A = ℕ} 512 0, long_filled content limit k [])
long_filled content limit (suc k) (at ∷ sectors) = omega (arith, length-append (block_sector content limit at) (filled content limit k sectors), long_sector content limit at, long_filled content limit k sectors)

abbrev zeros : ℕ → List ℕ
zeros n = replicate n 0

zeros_more : (m n : ℕ) → zeros (m + n) ≡ zeros m ++ zeros n
zeros_more zero n = ap zeros (let none : zero + n ≡ n = omega arith in none)
zeros_more (suc m) n = ap zeros (let next : suc m + n ≡ suc (m + n) = omega arith in next) ∙ ap (λ (l : List ℕ). 0 ∷ l) (zeros_more m n)

blank_filled : (content : Content) (limit n : ℕ) → zeros (n * 512) ≡ filled content limit n []
unfolding filled
blank_filled content limit zero = refl
blank_filled content limit (suc n) = ap zeros (let is : suc n * 512 ≡ 512 + n * 512 = omega arith in is) ∙ zeros_more 512 (n * 512) ∙ ap (λ (l : List ℕ). zeros 512 ++ l) (blank_filled content limit n)

-- a node is the sectors of its stretch, and zeros past the fork's end
pub padded_filled : (content : Content) (limit per : ℕ) (sectors : List ℕ) → padded (per * 512) (block_bytes content limit (take per sectors)) ≡ filled content limit per sectors
unfolding filled block_bytes
padded_filled content limit zero sectors = refl
padded_filled content limit (suc per) [] =
    ap zeros (let is : suc per * 512 - 0 ≡ 512 + per * 512 = omega arith in is) ∙ zeros_more 512 (per * 512) ∙ ap (λ (l : List ℕ). zeros 512 ++ l) (blank_filled content limit per)
padded_filled content limit (suc per) (at ∷ sectors) =
    let rest : List ℕ = block_bytes content limit (take per sectors) in
    let first : List ℕ = block_sector content limit at in
    append_assoc first rest (replicate (suc per * 512 - length (first ++ rest)) 0)
    ∙ ap (λ n. first ++ (rest ++ replicate n 0)) (let is : suc per * 512 - length (first ++ rest) ≡ per * 512 - length rest = omega (arith, length-append first rest, long_sector content limit at) in is)
    ∙ ap (λ l. first ++ l) (padded_filled content limit per sectors)

-- a sector that a view gives is the one that belongs there
pub given : (content : Content) (limit at : ℕ) (value : List ℕ) → at < limit → value ≡ sector content at → length value ≡ 512 → value ≡ block_sector content limit at
unfolding block_sector
given content limit at value below is long = cases (nat_lt at limit) refl
  where
    cases : (b : Bool) → nat_lt at limit ≡ b → value ≡ (if b then take 512 (padded 512 (sector content at)) else replicate 512 0)
    cases true e = is ∙ sym (whole (sector content at) (ap length (sym is) ∙ long))
      where
        whole : (bytes : List ℕ) → length bytes ≡ 512 → take 512 (padded 512 bytes) ≡ bytes
        whole bytes size = ap (λ n. take 512 (bytes ++ replicate n 0)) (let none : 512 - length bytes ≡ 0 = omega (arith, size) in none) ∙ ap (take 512) (append-nil bytes) ∙ take_all 512 bytes (omega (arith, size))
    cases false e = absurd (not_less e)
      where
        not_less : nat_lt at limit ≡ false → ⊥
        not_less e = grind (arith, e, below)

-- past the content and at the limit there are zeros
pub none_past : (content : Content) (limit at : ℕ) → limit ≤ at → replicate 512 0 ≡ block_sector content limit at
unfolding block_sector
none_past content limit at past = cases (nat_lt at limit) refl
  where
    cases : (b : Bool) → nat_lt at limit ≡ b → replicate 512 0 ≡ (if b then take 512 (padded 512 (sector content at)) else replicate 512 0)
    cases true e = absurd (let h = e in grind (arith, h, past))
    cases false e = refl

pub none_behind : (content : Content) (limit at : ℕ) → length content ≤ at → replicate 512 0 ≡ block_sector content limit at
unfolding block_sector
none_behind content limit at past = cases (nat_lt at limit)
  where
    cases : (b : Bool) → replicate 512 0 ≡ (if b then take 512 (padded 512 (sector content at)) else replicate 512 0)
    cases true = sym (ap (λ l. take 512 (padded 512 l)) (get_or_past content at [] past))
    cases false = refl

-- the sector at a place of what stands behind others
pub dropped_get : (m k : ℕ) (xs : List ℕ) → slice_get (drop m xs) k ≡ slice_get xs (m + k)
dropped_get zero k xs = ap (λ n. slice_get xs n) (let none : k ≡ zero + k = omega arith in none)
dropped_get (suc m) k [] = refl
dropped_get (suc m) k (x ∷ xs) = dropped_get m k xs ∙ ap (λ n. slice_get (x ∷ xs) n) (let next : suc (m + k) ≡ suc m + k = omega arith in next)

-- A node so far: its first k sectors, and behind them what was there.
pub record Reads (old now : Space) (limit : ℕ) (sectors start into : List ℕ) (k : ℕ) : Type 0 where
  pub value : IsTrue old.tells → into ≡ filled old.content limit k sectors ++ drop (k * 512) start
  pub long : length into ≡ length start
  pub reads : ReadsSpace old now

pub reads_start : (old : Space) (limit : ℕ) (sectors start : List ℕ) → Reads old old limit sectors start start 0
unfolding filled
reads_start old limit sectors start = record { value = λ tells. refl; long = refl; reads = reads_none old }

pub reads_more : (old now new : Space) (limit : ℕ) (sectors start into value : List ℕ) (k : ℕ) → Reads old now limit sectors start into k → ReadsSpace now new → length value ≡ 512 → (k + 1) * 512 ≤ length start
    → (IsTrue now.tells → value ≡ sector_or_zeros now.content limit (slice_get sectors k)) → Reads old new limit sectors start (put_at into (k * 512) value) (k + 1)
reads_more old now new limit sectors start into value k so_far step long fits is = record {
  value = λ tells.
      let told : IsTrue now.tells = so_far.reads.same.tells ∙ tells in
      let same : now.content ≡ old.content = (so_far.reads.sectors tells).content in
      put_at-more into start (filled old.content limit k sectors) value (k * 512) (long_filled old.content limit k sectors) (so_far.value tells)
      ∙ ap (λ l. (filled old.content limit k sectors ++ l) ++ drop (k * 512 + length value) start) (is told ∙ ap (λ c. sector_or_zeros c limit (slice_get sectors k)) same)
      ∙ ap (λ l. l ++ drop (k * 512 + length value) start) (sym (filled_more old.content limit k sectors))
      ∙ ap (λ n. filled old.content limit n sectors ++ drop (k * 512 + length value) start) (let next : suc k ≡ k + 1 = omega arith in next)
      ∙ ap (λ n. filled old.content limit (k + 1) sectors ++ drop n start) (let end : k * 512 + length value ≡ (k + 1) * 512 = omega (arith, long) in end);
  long = length_put into value (k * 512) (omega (arith, so_far.long, long, fits)) ∙ so_far.long;
  reads = reads_both old now new so_far.reads step;
}
  where
    length_put : (into value : List ℕ) (at : ℕ) → at + length value ≤ length into → length (put_at into at value) ≡ length into
    length_put into value at fits = omega (arith, length-append (take at into ++ value) (drop (at + length value) into), length-append (take at into) value, length-take at into, length-drop (at + length value) into, fits)

pub reads_all : (old now : Space) (limit : ℕ) (fork start into : List ℕ) (k n : ℕ) → Reads old now limit (drop (n * k) fork) start into k → length start ≡ k * 512 → k ≡ length start / 512 → IsTrue old.tells
    → into ≡ node_of_fork old.content limit fork (length start) n
unfolding node_of_fork
reads_all old now limit fork start into k n so_far whole per tells =
    so_far.value tells
    ∙ ap (λ l. filled old.content limit k (drop (n * k) fork) ++ l) (drop_all (k * 512) start (omega (arith, whole)))
    ∙ append-nil (filled old.content limit k (drop (n * k) fork))
    ∙ sym (padded_filled old.content limit k (drop (n * k) fork))
    ∙ ap (λ size. padded size (block_bytes old.content limit (take k (drop (n * k) fork)))) (sym whole)
    ∙ ap (λ p. padded (length start) (block_bytes old.content limit (take p (drop (n * p) fork)))) per
