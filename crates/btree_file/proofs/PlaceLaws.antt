-- The sectors of a node, one by one.
use Rattle.std.proofs.Common.{◌≡◌, ℕ, ◌+◌, ◌*◌, ◌≤◌, ◌<◌, List, [], ◌∷◌, ◌++◌, length, get_or, take, drop, slice_get, slice_range, Option, Some, None, sym, ◌∙◌, ap, arith, ⊎_elim}
use Rattle.std.specs.List.{Contains}
use Rattle.std.proofs.lemmas.Bool.{cases_lt}
use Rattle.std.proofs.lemmas.List.{get_or-take, get_or-drop, length-take, length-drop, take_more, drop_more, drop_all, get_or_default}
use Rattle.std.proofs.lemmas.List.Elements.{Contains-get_or}
use Rattle.std.proofs.lemmas.Option.{get_or_from_slice_get, slice_get-get_or, slice_get_within}
use Rattle.sector_disk.specs.Lists.{Content, sector}
use Rattle.btree_file.specs.Place.{AreApart, sectors_at}
use Rattle.btree_file.specs.Putting.{IsPiece}

-- a node's sectors are as many as a node has
pub many : (fork : List ℕ) (per n : ℕ) → (n + 1) * per ≤ length fork → length (sectors_at fork per n) ≡ per
many fork per n whole = omega (arith, whole, length-take per (drop (n * per) fork), length-drop (n * per) fork)

-- each of them is one of the fork's
pub at_place : (fork : List ℕ) (per n k : ℕ) → k < per → get_or (sectors_at fork per n) k 0 ≡ get_or fork (n * per + k) 0
at_place fork per n k low = get_or-take per (drop (n * per) fork) k 0 low ∙ get_or-drop (n * per) fork k 0

pub found_at : (fork : List ℕ) (per n k at : ℕ) → k < per → slice_get fork (n * per + k) ≡ Some at → get_or (sectors_at fork per n) k 0 ≡ at
found_at fork per n k at low place = at_place fork per n k low ∙ get_or_from_slice_get fork (n * per + k) at 0 place

pub one_more : (fork : List ℕ) (per n k at : ℕ) → (n + 1) * per ≤ length fork → k < per → slice_get fork (n * per + k) ≡ Some at → take (k + 1) (sectors_at fork per n) ≡ take k (sectors_at fork per n) ++ at ∷ []
one_more fork per n k at whole low place =
    take_more (sectors_at fork per n) k 0 (omega (arith, low, many fork per n whole)) ∙ ap (λ s. take k (sectors_at fork per n) ++ s ∷ []) (found_at fork per n k at low place)

-- an element of a list stands at some place
pub stands : (xs : List ℕ) (s : ℕ) → Contains xs s → (i : ℕ) × (i < length xs) × (get_or xs i 0 ≡ s)
stands xs s c = (c.0, c.1, get_or_default xs c.0 0 s c.1 ∙ c.2)

-- each place of a node has a sector
pub has_place : (fork : List ℕ) (per n k : ℕ) → (n + 1) * per ≤ length fork → k < per → None ≡ slice_get fork (n * per + k) → ⊥
has_place fork per n k whole low none =
    let some = slice_get-get_or fork (n * per + k) 0 (omega (arith, low, whole)) in absurd (let no : ◌≡◌ {A = Option ℕ} None (Some (get_or fork (n * per + k) 0)) = none ∙ some in cc no)

-- ---- a node's sectors from one of them on
long_enough : (fork : List ℕ) (per n k at : ℕ) → k < per → slice_get fork (n * per + k) ≡ Some at → k < length (sectors_at fork per n)
long_enough fork per n k at low place = omega (arith, low, slice_get_within fork (n * per + k) at place, length-take per (drop (n * per) fork), length-drop (n * per) fork)

-- the next one
pub next_sector : (fork : List ℕ) (per n k at : ℕ) → k < per → slice_get fork (n * per + k) ≡ Some at → drop k (sectors_at fork per n) ≡ at ∷ drop (k + 1) (sectors_at fork per n)
next_sector fork per n k at low place =
    drop_more (sectors_at fork per n) k 0 (long_enough fork per n k at low place) ∙ ap (λ s. s ∷ drop (k + 1) (sectors_at fork per n)) (found_at fork per n k at low place)

-- its place among the node's
pub sector_place : (fork : List ℕ) (per n k at : ℕ) → k < per → slice_get fork (n * per + k) ≡ Some at → slice_get (sectors_at fork per n) k ≡ Some at
sector_place fork per n k at low place = slice_get-get_or (sectors_at fork per n) k 0 (long_enough fork per n k at low place) ∙ ap (λ s. Some s) (found_at fork per n k at low place)

-- there is none behind the last
pub end_of_node : (fork : List ℕ) (per n k : ℕ) → per ≤ k → drop k (sectors_at fork per n) ≡ []
end_of_node fork per n k past = drop_all k (sectors_at fork per n) (omega (arith, past, length-take per (drop (n * per) fork)))

pub end_of_fork : (fork : List ℕ) (per n k : ℕ) → None ≡ slice_get fork (n * per + k) → drop k (sectors_at fork per n) ≡ []
end_of_fork fork per n k none =
    let past : length fork ≤ n * per + k = ⊎_elim
    (λ (inside : n * per + k < length fork). absurd (let no : ◌≡◌ {A = Option ℕ} None (Some (get_or fork (n * per + k) 0)) = none ∙ slice_get-get_or fork (n * per + k) 0 inside in cc no))
    (λ (le : length fork ≤ n * per + k). le)
    (cases_lt (n * per + k) (length fork)) in
    drop_all k (sectors_at fork per n) (omega (arith, past, length-take per (drop (n * per) fork), length-drop (n * per) fork))

-- ---- a node's sectors among those of the fork
in_fork : (fork : List ℕ) (per n i : ℕ) → i < length (sectors_at fork per n) → (i < per) × (n * per + i < length fork)
in_fork fork per n i low =
    let below : i < per = omega (arith, low, length-take per (drop (n * per) fork)) in
    (below, omega (arith, low, length-take per (drop (n * per) fork), length-drop (n * per) fork))

pub sector_in_fork : (fork : List ℕ) (per n s : ℕ) → Contains (sectors_at fork per n) s → (i : ℕ) × (i < length fork) × (get_or fork i 0 ≡ s)
sector_in_fork fork per n s c =
    let at = stands (sectors_at fork per n) s c in
    let both = in_fork fork per n at.0 at.1 in
    (n * per + at.0, both.1, sym (at_place fork per n at.0 both.0) ∙ at.2)

-- each sector has its own piece of the bytes, where no sector stands in the fork twice
pub own_piece : (fork : List ℕ) (per n : ℕ) (bytes : List ℕ) (content : Content) → AreApart fork → ((at : ℕ) → Contains (sectors_at fork per n) at → IsPiece (sectors_at fork per n) bytes at (sector content at))
    → (k : ℕ) → k < length (sectors_at fork per n) → sector content (get_or (sectors_at fork per n) k 0) ≡ slice_range bytes (k * 512) (k * 512 + 512)
own_piece fork per n bytes content apart each k low =
    let xs = sectors_at fork per n in
    let at = get_or xs k 0 in
    let piece = each at (Contains-get_or xs k 0 low) in
    let inside = slice_get_within xs piece.place at piece.there in
    let one = in_fork fork per n piece.place inside in
    let two = in_fork fork per n k low in
    let same : get_or fork (n * per + piece.place) 0 ≡ get_or fork (n * per + k) 0 =
    sym (at_place fork per n piece.place one.0) ∙ get_or_from_slice_get xs piece.place at 0 piece.there ∙ at_place fork per n k two.0 in
    let place : n * per + piece.place ≡ n * per + k = apart (n * per + piece.place) (n * per + k) one.1 two.1 same in
    let is : piece.place ≡ k = omega (arith, place) in
    piece.is ∙ ap (λ i. slice_range bytes (i * 512) (i * 512 + 512)) is

-- the place of a sector in a fork, for a node's length under another name
pub same_place : (fork : List ℕ) (n k at long per : ℕ) → long ≡ per → Some at ≡ slice_get fork (n * long + k) → slice_get fork (n * per + k) ≡ Some at
same_place fork n k at long per e place = ap (λ p. slice_get fork (n * p + k)) (sym e) ∙ sym place

pub same_none : (fork : List ℕ) (n k long per : ℕ) → long ≡ per → ◌≡◌ {A = Option ℕ} None (slice_get fork (n * long + k)) → ◌≡◌ {A = Option ℕ} None (slice_get fork (n * per + k))
same_none fork n k long per e place = place ∙ ap (λ p. slice_get fork (n * p + k)) e
