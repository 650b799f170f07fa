-- What an image of bytes stands for is bytes.
use Rattle.std.proofs.Common.{ℕ, zero, suc, ◌+◌, ◌-◌, ◌/◌, ◌<◌, ◌≤◌, List, [], ◌∷◌, ◌++◌, length, take, drop, map, refl, sym, subst, arith, ⊎_elim}
use Rattle.std.specs.Prelude.{slice_set}
use Rattle.std.specs.List.{Contains, concat}
use Rattle.std.proofs.lemmas.Bool.{cases_lt}
use Rattle.std.proofs.lemmas.List.{length-take, length-map, get_or-take, get_or-drop, get_or_past, get_or-map}
use Rattle.hx_bytes.specs.Field.{AreBytes}
use Rattle.sector_disk.specs.Disk.{State, IsDisk, Candidates, candidates_of, content}
use Rattle.sector_disk.specs.Lists.{last}
use Rattle.jnl_format.specs.Recovery.{Content, Journal, replayed, with_homes, with_home, homes_of, text_of}
use Rattle.jnl_format.specs.Ring.{journal_bytes, bytes_from, distance}
use Rattle.jnl_format.specs.declared.blocks.Home.{Home}
use Rattle.hfs_volume.specs.Findings.{HasBytes}

-- ---- lists of bytes

none_are : AreBytes []
none_are k = omega arith

are_take : (n : ℕ) (bytes : List ℕ) → AreBytes bytes → AreBytes (take n bytes)
are_take n bytes are k =
    ⊎_elim (λ (inside : k < n). subst (λ b. b < 256) (sym (get_or-take n bytes k 0 inside)) (are k))
    (λ (past : n ≤ k). subst (λ b. b < 256) (sym (get_or_past (take n bytes) k 0 (omega (arith, past, length-take n bytes)))) (omega arith))
    (cases_lt k n)

are_drop : (n : ℕ) (bytes : List ℕ) → AreBytes bytes → AreBytes (drop n bytes)
are_drop n bytes are k = subst (λ b. b < 256) (sym (get_or-drop n bytes k 0)) (are (n + k))

are_append : (front rest : List ℕ) → AreBytes front → AreBytes rest → AreBytes (front ++ rest)
are_append [] rest are_front are_rest k = are_rest k
are_append (byte ∷ front) rest are_front are_rest zero = are_front 0
are_append (byte ∷ front) rest are_front are_rest (suc k) = are_append front rest (λ i. are_front (suc i)) are_rest k

-- ---- contents of bytes

bytes_take : (n : ℕ) (c : Content) → HasBytes c → HasBytes (take n c)
bytes_take n c has at =
    ⊎_elim (λ (inside : at < n). subst AreBytes (sym (get_or-take n c at [] inside)) (has at))
    (λ (past : n ≤ at). subst AreBytes (sym (get_or_past (take n c) at [] (omega (arith, past, length-take n c)))) none_are)
    (cases_lt at n)

bytes_drop : (n : ℕ) (c : Content) → HasBytes c → HasBytes (drop n c)
bytes_drop n c has at = subst AreBytes (sym (get_or-drop n c at [])) (has (n + at))

concat_are : (c : Content) → HasBytes c → AreBytes (concat c)
concat_are [] has = none_are
concat_are (value ∷ rest) has = are_append value (concat rest) (has 0) (concat_are rest (λ at. has (suc at)))

bytes_set : (c : Content) (place : ℕ) (value : List ℕ) → HasBytes c → AreBytes value → HasBytes (slice_set c place value)
bytes_set [] place value has are at = none_are
bytes_set (first ∷ rest) zero value has are zero = are
bytes_set (first ∷ rest) zero value has are (suc at) = has (suc at)
bytes_set (first ∷ rest) (suc place) value has are zero = has 0
bytes_set (first ∷ rest) (suc place) value has are (suc at) = bytes_set rest place value (λ i. has (suc i)) are at

-- ---- what the image stands for

journal_are : (c : Content) (base size : ℕ) → HasBytes c → AreBytes (journal_bytes c base size)
unfolding journal_bytes
journal_are c base size has = concat_are (take (size / 512) (drop base c)) (bytes_take (size / 512) (drop base c) (bytes_drop base c has))

text_are : (journal : Journal) (c : Content) → HasBytes c → AreBytes (text_of journal c)
text_are journal c has =
    let base : ℕ = journal.info.offset / 512 in
    let size : ℕ = journal.info.size in
    let start : ℕ = journal.header.start in
    let whole = journal_are c base size has in
    are_take (distance size start journal.header.end) (bytes_from (journal_bytes c base size) start)
    (are_append (drop start (journal_bytes c base size)) (take (start - 512) (drop 512 (journal_bytes c base size))) (are_drop start (journal_bytes c base size) whole)
    (are_take (start - 512) (drop 512 (journal_bytes c base size)) (are_drop 512 (journal_bytes c base size) whole)))

homes_are : (text : List ℕ) (homes : List Home) (c : Content) → AreBytes text → HasBytes c → HasBytes (with_homes text homes c)
homes_are text [] c are has = has
homes_are text (home ∷ homes) c are has = homes_are text homes (with_home text c home) are (bytes_set c home.sector (take 512 (drop home.place text)) has (are_take 512 (drop home.place text) (are_drop home.place text are)))

pub replayed_bytes : (journal : Journal) (c : Content) → HasBytes c → HasBytes (replayed journal c)
replayed_bytes journal c has = homes_are (text_of journal c) (homes_of journal c) c (text_are journal c has) has

-- ---- what a disk holds

last_held : (values : List (List ℕ)) → 0 < length values → Contains values (last values)
last_held [] some = absurd (omega (arith, some))
last_held (value ∷ []) some = (0, omega arith, refl)
last_held (value ∷ next ∷ rest) some = let there = last_held (next ∷ rest) (omega arith) in (suc there.0, omega (arith, there.1), there.2)

pub content_bytes : (disk : State) → IsDisk disk → HasBytes (content disk)
content_bytes disk is at =
    let all : Candidates = disk.candidates in
    ⊎_elim
    (λ (inside : at < length all). subst AreBytes (sym (get_or-map last all at [] [] inside)) (is.whole at (last (candidates_of all at)) (last_held (candidates_of all at) (is.each at inside))).bytes)
    (λ (past : length all ≤ at). subst AreBytes (sym (get_or_past (map last all) at [] (omega (arith, past, length-map all last)))) none_are)
    (cases_lt at (length all))
