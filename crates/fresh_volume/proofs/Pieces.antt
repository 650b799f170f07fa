-- The sectors of a part, which holds a text and zeros behind it, joined to bytes.
use Rattle.std.proofs.Common.{◌≡◌, ℕ, zero, suc, ◌+◌, ◌-◌, ◌*◌, ◌/◌, ◌<◌, ◌≤◌, Bool, true, false, nat_lt, List, ◌++◌, length, take, drop, replicate, if◌then◌else◌, refl, sym, ◌∙◌, ap, arith, ⊎_elim, ◌⊎◌, inl, inr}
use Rattle.std.specs.List.{flat_map, range_with_len}
use Rattle.std.proofs.lemmas.Bool.{lt-ltb, le-ltb, cases_lt}
use Rattle.std.proofs.lemmas.List.{append-nil, take_all, drop-drop, length-take-le, length-drop, replicate-append-replicate}
use Rattle.std.proofs.Math.Seq.{take-add}
use Rattle.std.proofs.Math.ListN.{length-replicate}
use Rattle.hfs_model.specs.Step.{padded}
use Rattle.hfs_volume.specs.Content.{block_sector, block_bytes}
use Rattle.jnl_format.specs.Recovery.{Content, sector}
use Rattle.volume_make.specs.Texts.{piece}

-- a sector of the text, and one behind it
pub piece_inside : (text : List ℕ) (k : ℕ) → k * 512 + 512 ≤ length text → piece text k ≡ take 512 (drop (k * 512) text)
piece_inside text k inside =
    let test : nat_lt k (length text / 512) ≡ true = lt-ltb k (length text / 512) (omega arith) in
    ap (λ (b : Bool). if b then take (512 * k + 512 - 512 * k) (drop (512 * k) text) else replicate 512 0) test
    ∙ ap (λ (n : ℕ). take n (drop (512 * k) text)) {x = 512 * k + 512 - 512 * k} {y = 512} (omega arith)
    ∙ ap (λ (n : ℕ). take 512 (drop n text)) {x = 512 * k} {y = k * 512} (omega arith)

piece_behind : (text : List ℕ) (k : ℕ) → length text ≤ k * 512 → piece text k ≡ replicate 512 0
piece_behind text k behind =
    let test : nat_lt k (length text / 512) ≡ false = le-ltb k (length text / 512) (omega arith) in
    ap (λ (b : Bool). if b then take (512 * k + 512 - 512 * k) (drop (512 * k) text) else replicate 512 0) test

-- so many sectors of the text from one on
pub pieces_inside : (text : List ℕ) (a m : ℕ) → (a + m) * 512 ≤ length text → flat_map (piece text) (range_with_len a m) ≡ take (m * 512) (drop (a * 512) text)
pieces_inside text a zero inside = refl
pieces_inside text a (suc m) inside =
    let here : piece text a ≡ take 512 (drop (a * 512) text) = piece_inside text a (omega arith) in
    let rest : flat_map (piece text) (range_with_len (a + 1) m) ≡ take (m * 512) (drop ((a + 1) * 512) text) = pieces_inside text (a + 1) m (omega arith) in
    let place : drop ((a + 1) * 512) text ≡ drop 512 (drop (a * 512) text) = ap (λ (n : ℕ). drop n text) {x = (a + 1) * 512} {y = a * 512 + 512} (omega arith) ∙ sym (drop-drop 512 (a * 512) text) in
    ap (λ (l : List ℕ). l ++ flat_map (piece text) (range_with_len (a + 1) m)) here
    ∙ ap (λ (l : List ℕ). take 512 (drop (a * 512) text) ++ l) (rest ∙ ap (take (m * 512)) place)
    ∙ sym (take-add 512 (m * 512) (drop (a * 512) text))
    ∙ ap (λ (n : ℕ). take n (drop (a * 512) text)) {x = 512 + m * 512} {y = suc m * 512} (omega arith)

pub pieces_behind : (text : List ℕ) (a m : ℕ) → length text ≤ a * 512 → flat_map (piece text) (range_with_len a m) ≡ replicate (m * 512) 0
pieces_behind text a zero behind = refl
pieces_behind text a (suc m) behind =
    ap (λ (l : List ℕ). l ++ flat_map (piece text) (range_with_len (a + 1) m)) (piece_behind text a behind)
    ∙ ap (λ (l : List ℕ). replicate 512 0 ++ l) (pieces_behind text (a + 1) m (omega arith))
    ∙ replicate-append-replicate 512 (m * 512) 0
    ∙ ap (λ (n : ℕ). replicate n 0) {x = 512 + m * 512} {y = suc m * 512} (omega arith)

-- ---- as a volume's content has them

whole_sector : (value : List ℕ) → length value ≡ 512 → take 512 (padded 512 value) ≡ value
whole_sector value long =
    let none : 512 - length value ≡ 0 = omega arith in
    ap (λ (n : ℕ). take 512 (value ++ replicate n 0)) none ∙ ap (take 512) (append-nil value) ∙ take_all 512 value (omega arith)

length-piece : (text : List ℕ) (k : ℕ) → (k * 512 + 512 ≤ length text) ⊎ (length text ≤ k * 512) → length (piece text k) ≡ 512
length-piece text k (inl inside) = ap length (piece_inside text k inside) ∙ length-take-le 512 (drop (k * 512) text) (omega (arith, length-drop (k * 512) text))
length-piece text k (inr behind) = ap length (piece_behind text k behind) ∙ length-replicate {A = ℕ} 512 0

pub one_sector : (content : Content) (limit at : ℕ) (value : List ℕ) → at < limit → sector content at ≡ value → length value ≡ 512 → block_sector content limit at ≡ value
unfolding block_sector
one_sector content limit at value below is long =
    ap (λ (b : Bool). if b then take 512 (padded 512 (sector content at)) else replicate 512 0) (lt-ltb at limit below)
    ∙ ap (λ (l : List ℕ). take 512 (padded 512 l)) is
    ∙ whole_sector value long

-- so many sectors of a content, which hold a part of this text from its sector `a` on
pub part_bytes : (content : Content) (limit first count : ℕ) (text : List ℕ) (t : ℕ) → length text ≡ t * 512 → first + count ≤ limit → ((k : ℕ) → k < count → sector content (first + k) ≡ piece text k)
    → (a m : ℕ) → a + m ≤ count → block_bytes content limit (range_with_len (first + a) m) ≡ flat_map (piece text) (range_with_len a m)
unfolding block_bytes
part_bytes content limit first count text t whole below holds a zero inside = refl
part_bytes content limit first count text t whole below holds a (suc m) inside =
    let long : length (piece text a) ≡ 512 = length-piece text a (⊎_elim (λ (low : a < t). inl (omega arith)) (λ (high : t ≤ a). inr (omega arith)) (cases_lt a t)) in
    let here : block_sector content limit (first + a) ≡ piece text a = one_sector content limit (first + a) (piece text a) (omega arith) (holds a (omega arith)) long in
    let rest : flat_map (block_sector content limit) (range_with_len (first + (a + 1)) m) ≡ flat_map (piece text) (range_with_len (a + 1) m) = part_bytes content limit first count text t whole below holds (a + 1) m (omega arith) in
    ap (λ (l : List ℕ). l ++ flat_map (block_sector content limit) (range_with_len (first + a + 1) m)) here
    ∙ ap (λ (l : List ℕ). piece text a ++ l) (ap (λ (n : ℕ). flat_map (block_sector content limit) (range_with_len n m)) {x = first + a + 1} {y = first + (a + 1)} (omega arith) ∙ rest)
