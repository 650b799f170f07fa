-- The bytes of nodes in a content of which one node's sectors were put.
use Rattle.std.proofs.Common.{◌≡◌, ◌≢◌, ℕ, suc, ◌+◌, ◌-◌, ◌*◌, ◌≤◌, ◌<◌, Bool, true, false, ◌==◌, ◌||◌, List, [], ◌∷◌, ◌++◌, length, get_or, slice_range, take, drop, refl, sym, ◌∙◌, ap, arith, ⊎_elim}
use Rattle.std.specs.List.{Contains, list_any}
use Rattle.std.proofs.Math.Nat.{mul-le-mul_right}
use Rattle.std.proofs.lemmas.Bool.{cases_lt, eq-eqb}
use Rattle.std.proofs.lemmas.List.{take-append-drop, length-take, length-drop, get_or-take, get_or-drop, drop-drop}
use Rattle.sector_disk.specs.Lists.{Content, sector}
use Rattle.sector_disk.specs.Space.{Space}
use Rattle.fork_map.specs.Nodes.{bytes_of, node_of}
use Rattle.btree_file.specs.Place.{AreApart, sectors_at}
use Rattle.btree_file.specs.Map.{used_in}
use Rattle.btree_file.specs.Putting.{PutsNode}
use Rattle.btree_file.specs.declared.tree.Stretch.{Stretch}
use Rattle.btree_file.proofs.PlaceLaws.{stands, many}

-- the pieces of some bytes behind the first are those of the rest
later : (k : ℕ) (bytes : List ℕ) → slice_range bytes (suc k * 512) (suc k * 512 + 512) ≡ slice_range (drop 512 bytes) (k * 512) (k * 512 + 512)
later k bytes =
    let first : suc k * 512 + 512 - suc k * 512 ≡ k * 512 + 512 - k * 512 = omega arith in
    let place : suc k * 512 ≡ 512 + k * 512 = omega arith in
    ap (λ m. take m (drop (suc k * 512) bytes)) first ∙ ap (λ (l : List ℕ). take (k * 512 + 512 - k * 512) l) (ap (λ m. drop m bytes) place ∙ sym (drop-drop (k * 512) 512 bytes))

-- sectors that hold the pieces of some bytes hold the bytes
pub pieces : (content : Content) (xs : List ℕ) (bytes : List ℕ) → length bytes ≡ length xs * 512
    → ((k : ℕ) → k < length xs → sector content (get_or xs k 0) ≡ slice_range bytes (k * 512) (k * 512 + 512)) → bytes_of content xs ≡ bytes
pieces content [] [] long each = refl
pieces content [] (b ∷ bytes) long each = absurd (omega arith)
pieces content (x ∷ xs) bytes long each =
    let first : sector content x ≡ take 512 bytes = each 0 (omega arith) in
    let rest = pieces content xs (drop 512 bytes) (omega (arith, long, length-drop 512 bytes)) (λ k low. each (suc k) (omega arith) ∙ later k bytes) in
    let joined : sector content x ++ bytes_of content xs ≡ take 512 bytes ++ drop 512 bytes = rw (first, rest) refl in
    joined ∙ take-append-drop 512 bytes

here : (x : ℕ) (xs : List ℕ) → Contains (x ∷ xs) x
here x xs = (0, omega arith, refl)

there : (x : ℕ) (xs : List ℕ) (s : ℕ) → Contains xs s → Contains (x ∷ xs) s
there x xs s c = (suc c.0, omega (arith, c.1), c.2)

-- the bytes of sectors that are the same in two contents
pub same_bytes : (a b : Content) (xs : List ℕ) → ((s : ℕ) → Contains xs s → sector b s ≡ sector a s) → bytes_of b xs ≡ bytes_of a xs
same_bytes a b [] same = refl
same_bytes a b (x ∷ xs) same = let first = same x (here x xs) in let rest = same_bytes a b xs (λ s c. same s (there x xs s c)) in rw (first, rest) refl

-- two numbers of nodes whose places meet are one
same_node : (per n m i j : ℕ) → i < per → j < per → n * per + i ≡ m * per + j → n ≡ m
same_node per n m i j low below e = ⊎_elim
    (λ (lt : n < m). let more = mul-le-mul_right {m = n + 1} {n = m} per (omega (arith, lt)) in absurd (omega (arith, more, e, low)))
    (λ (ge : m ≤ n). ⊎_elim (λ (lt : m < n). let more = mul-le-mul_right {m = m + 1} {n = n} per (omega (arith, lt)) in absurd (omega (arith, more, e, below))) (λ (le : n ≤ m). omega (arith, ge, le)) (cases_lt m n))
    (cases_lt n m)

-- a place of a node, which has at most so many
pub in_node : (fork : List ℕ) (per n s : ℕ) → Contains (sectors_at fork per n) s → (i : ℕ) × (i < per) × (n * per + i < length fork) × (get_or fork (n * per + i) 0 ≡ s)
in_node fork per n s c =
    let at = stands (sectors_at fork per n) s c in
    let low : at.0 < per = omega (arith, at.1, length-take per (drop (n * per) fork)) in
    (at.0, low, omega (arith, at.1, length-take per (drop (n * per) fork), length-drop (n * per) fork), sym (get_or-take per (drop (n * per) fork) at.0 0 low ∙ get_or-drop (n * per) fork at.0 0) ∙ at.2)

-- no sector is one of two nodes
pub apart_nodes : (fork : List ℕ) (per n m s : ℕ) → AreApart fork → Contains (sectors_at fork per n) s → Contains (sectors_at fork per m) s → n ≡ m
apart_nodes fork per n m s apart first second =
    let a = in_node fork per n s first in
    let b = in_node fork per m s second in
    same_node per n m a.0 b.0 a.1 b.1 (apart (n * per + a.0) (m * per + b.0) a.2 b.2 (a.3 ∙ sym b.3))

-- the node whose sectors were put, and the others
pub node_put : (fork : List ℕ) (per n : ℕ) (bytes : List ℕ) (old new : Space) → PutsNode (sectors_at fork per n) bytes old new → (n + 1) * per ≤ length fork → length bytes ≡ per * 512 → node_of new.content fork per n ≡ bytes
node_put fork per n bytes old new puts whole long = pieces new.content (sectors_at fork per n) bytes (long ∙ ap (λ k. k * 512) (sym (many fork per n whole))) puts.here

pub node_kept : (fork : List ℕ) (per n m : ℕ) (bytes : List ℕ) (old new : Space) → PutsNode (sectors_at fork per n) bytes old new → AreApart fork → m ≢ n → node_of new.content fork per m ≡ node_of old.content fork per m
node_kept fork per n m bytes old new puts apart other =
    same_bytes old.content new.content (sectors_at fork per m) (λ s c. ⊎_elim (λ e. e) (λ also. absurd (other (apart_nodes fork per m n s apart c also))) (puts.these.content.each s))

-- ---- the map
pub used_same : (a b : ℕ → List ℕ) (map : List Stretch) (n : ℕ) → ((m : ℕ) → list_any (λ part. part.node == m) map ≡ true → b m ≡ a m) → used_in b map n ≡ used_in a map n
used_same a b [] n same = refl
used_same a b (part ∷ rest) n same =
    let first : b part.node ≡ a part.node = same part.node (ap (λ t. t || list_any (λ p. p.node == part.node) rest) (eq-eqb part.node part.node refl)) in
    let more = used_same a b rest (n - 8 * part.len) (λ m any. same m (or_right (part.node == m) (list_any (λ p. p.node == m) rest) any)) in
    rw (first, more) refl
  where
    or_right : (x y : Bool) → y ≡ true → (x || y) ≡ true
    or_right true y t = refl
    or_right false y t = t
