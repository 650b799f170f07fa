-- Calls that read a tree over a space leave its content and its file as they were.
use Rattle.std.proofs.Common.{◌≡◌, ◌⊎◌, ℕ, zero, suc, ◌+◌, ◌*◌, ◌/◌, ◌%◌, ◌≤◌, ◌<◌, IsTrue, List, [], ◌∷◌, ◌++◌, drop, length, get_or, refl, sym, ◌∙◌, ap, subst, arith, inl, ⊎_elim}
use Rattle.std.specs.List.{Contains}
use Rattle.std.proofs.Math.Nat.{mul-le-mul_right}
use Rattle.std.proofs.lemmas.Bool.{cases_lt}
use Rattle.std.proofs.lemmas.List.{ext_get_or}
use Rattle.std.proofs.lemmas.Nat.{div-add-mod'}
use Rattle.fork_map.specs.Nodes.{bytes_of, node_of}
use Rattle.sector_disk.specs.Lists.{Content, sector}
use Rattle.sector_disk.specs.Space.{Space}
use Rattle.btree_node.specs.Store.{SameNodes}
use Rattle.btree_node.specs.Levels.{Nodes}
use Rattle.btree_edit.specs.Reading.{ReadsNodes}
use Rattle.btree_file.specs.Frame.{PutsWithin, FollowsOn}
use Rattle.btree_file.specs.FrameLaws.{same_sectors}
use Rattle.btree_file.specs.Place.{sectors_at}
use Rattle.btree_file.specs.Standing.{Stands, LiesInside}
use Rattle.btree_file.specs.State.{sectors_of_tree, per_node, state_of, Agrees}
use Rattle.btree_file.specs.declared.tree.TreeFile.{TreeFile}
use Rattle.btree_file.proofs.PlaceLaws.{many, at_place, stands}
use Rattle.btree_file.proofs.Rooms.{whole_node}
use Rattle.btree_file.proofs.Sizes.{tree_size}
use Rattle.volume_base.specs.Service.{KeepsFile}
use Rattle.volume_base.specs.Standing.{AreWhole}
use Rattle.volume_base.specs.Touching.{Looks}

-- two texts whose first parts are as long begin with the same part
head_parts : (xs ys r s : List ℕ) → length xs ≡ length ys → xs ++ r ≡ ys ++ s → (xs ≡ ys) × (r ≡ s)
head_parts [] [] r s long e = (refl, e)
head_parts [] (y ∷ ys) r s long e = absurd (omega (arith, long))
head_parts (x ∷ xs) [] r s long e = absurd (omega (arith, long))
head_parts (x ∷ xs) (y ∷ ys) r s long e =
    let first : x ≡ y = ap (λ (l : List ℕ). get_or l 0 0) e in
    let rest = head_parts xs ys r s (omega (arith, long)) (ap (λ (l : List ℕ). drop 1 l) e) in
    (λ i. first i ∷ rest.0 i, rest.1)

-- where the bytes of some whole sectors are the same, each of them is
same_in : (a b : Content) (xs : List ℕ) → ((k : ℕ) → k < length xs → length (sector a (get_or xs k 0)) ≡ 512) → ((k : ℕ) → k < length xs → length (sector b (get_or xs k 0)) ≡ 512) → bytes_of b xs ≡ bytes_of a xs
    → (k : ℕ) → k < length xs → sector b (get_or xs k 0) ≡ sector a (get_or xs k 0)
same_in a b [] one other e k low = absurd (omega (arith, low))
same_in a b (x ∷ xs) one other e zero low = (head_parts (sector b x) (sector a x) (bytes_of b xs) (bytes_of a xs) (other 0 (omega arith) ∙ sym (one 0 (omega arith))) e).0
same_in a b (x ∷ xs) one other e (suc k) low =
    same_in a b xs (λ m l. one (suc m) (omega (arith, l))) (λ m l. other (suc m) (omega (arith, l)))
    (head_parts (sector b x) (sector a x) (bytes_of b xs) (bytes_of a xs) (other 0 (omega arith) ∙ sym (one 0 (omega arith))) e).1 k (omega (arith, low))

-- a place of whole nodes lies in one of them
below_total : (i per total : ℕ) → i < total * per → i / per * per ≤ i → i / per < total
below_total i per total low under = ⊎_elim (λ less. less) (λ more. absurd (omega (arith, low, under, mul-le-mul_right {m = total} {n = i / per} per more))) (cases_lt (i / per) total)

module _ (first later : List ℕ) (before after : TreeFile) (old new : Space) (tells : IsTrue old.tells) (follows : FollowsOn before after old new) (shape : after.shape ≡ before.shape) (same : SameNodes (state_of first before old) (state_of later after new))
    (inside : LiesInside before old) (long : length old.content ≡ old.sectors) (whole : AreWhole old.content) (full : before.shape.total * per_node before.shape ≡ length (sectors_of_tree before))
  where
    node_same : (n : ℕ) → node_of new.content (sectors_of_tree before) (per_node before.shape) n ≡ node_of old.content (sectors_of_tree before) (per_node before.shape) n
    node_same n = sym (λ i. node_of new.content (same_sectors before after follows.file i) (per_node (shape i)) n) ∙ same.nodes n

    long_before : (i : ℕ) → i < length (sectors_of_tree before) → length (sector old.content (get_or (sectors_of_tree before) i 0)) ≡ 512
    long_before i low = whole (get_or (sectors_of_tree before) i 0) (omega (arith, long, inside i low))

    long_after : (i : ℕ) → i < length (sectors_of_tree before) → length (sector new.content (get_or (sectors_of_tree before) i 0)) ≡ 512
    long_after i low = ⊎_elim (λ e. e ∙ long_before i low) (λ e. e) (follows.space.sizes tells (get_or (sectors_of_tree before) i 0))

    at_sector : (i : ℕ) → i < length (sectors_of_tree before) → sector new.content (get_or (sectors_of_tree before) i 0) ≡ sector old.content (get_or (sectors_of_tree before) i 0)
    at_sector i low =
        let per = per_node before.shape in
        let some : 0 < per_node before.shape = (tree_size before).0 in
        let place : i / per_node before.shape * per_node before.shape + i % per_node before.shape ≡ i = div-add-mod' i (per_node before.shape) in
        let rest : i % per_node before.shape < per_node before.shape = omega (arith, some) in
        let node : i / per_node before.shape < before.shape.total = below_total i (per_node before.shape) before.shape.total (omega (arith, low, full)) (omega (arith, place)) in
        let ends : (i / per_node before.shape + 1) * per_node before.shape ≤ length (sectors_of_tree before) = whole_node before.shape.total (per_node before.shape) (i / per_node before.shape) (length (sectors_of_tree before)) (omega (arith, full)) node in
        let has = many (sectors_of_tree before) (per_node before.shape) (i / per_node before.shape) ends in
        let at : (k : ℕ) → k < per_node before.shape → get_or (sectors_at (sectors_of_tree before) (per_node before.shape) (i / per_node before.shape)) k 0 ≡ get_or (sectors_of_tree before) (i / per_node before.shape * per_node before.shape + k) 0 =
        λ k less. at_place (sectors_of_tree before) (per_node before.shape) (i / per_node before.shape) k less in
        let next : (i / per_node before.shape + 1) * per_node before.shape ≡ i / per_node before.shape * per_node before.shape + per_node before.shape = omega arith in
        let one = same_in old.content new.content (sectors_at (sectors_of_tree before) (per_node before.shape) (i / per_node before.shape))
        (λ k less. let l : k < per_node before.shape = omega (arith, less, has) in ap (λ s. length (sector old.content s)) (at k l) ∙ long_before (i / per_node before.shape * per_node before.shape + k) (omega (arith, ends, next, l)))
        (λ k less. let l : k < per_node before.shape = omega (arith, less, has) in ap (λ s. length (sector new.content s)) (at k l) ∙ long_after (i / per_node before.shape * per_node before.shape + k) (omega (arith, ends, next, l)))
        (node_same (i / per_node before.shape)) (i % per_node before.shape) (omega (arith, rest, has)) in
        let there : get_or (sectors_at (sectors_of_tree before) (per_node before.shape) (i / per_node before.shape)) (i % per_node before.shape) 0 ≡ get_or (sectors_of_tree before) i 0 =
        at (i % per_node before.shape) rest ∙ ap (λ p. get_or (sectors_of_tree before) p 0) place in
        subst (λ s. sector new.content s ≡ sector old.content s) there one

    -- the content is as it was
    pub content_read : new.content ≡ old.content
    content_read =
        let agrees = follows.space.content tells in
        ext_get_or [] new.content old.content agrees.size (λ at low. ⊎_elim (λ e. e) (λ here. let is = stands (sectors_of_tree before) at here in
        subst (λ s. sector new.content s ≡ sector old.content s) is.2 (at_sector is.0 is.1)) (agrees.each at))

-- what the volume's calls say of a read
pub keeps_read : (first later : List ℕ) (before after : TreeFile) (old new : Space) → FollowsOn before after old new → after.shape ≡ before.shape → (IsTrue old.tells → SameNodes (state_of first before old) (state_of later after new))
    → (IsTrue old.tells → Agrees before old.content) → (IsTrue old.tells → Agrees after new.content) → KeepsFile old.tells before after
keeps_read first later before after old new follows shape same was is = record {
  file = follows.file;
  shape = shape;
  header = λ tells. sym (is tells).header_is ∙ (same tells).nodes 0 ∙ (was tells).header_is;
}

pub looks_read : (first later : List ℕ) (before after : TreeFile) (old new : Space) → FollowsOn before after old new → after.shape ≡ before.shape → new.spare ≡ old.spare → (IsTrue old.tells → SameNodes (state_of first before old) (state_of later after new))
    → LiesInside before old → (IsTrue old.tells → length old.content ≡ old.sectors) → (IsTrue old.tells → AreWhole old.content) → (IsTrue old.tells → Stands before old.content) → Looks (λ s. Contains (sectors_of_tree before) s) old new
looks_read first later before after old new follows shape spare same inside long whole was = record {
  same = follows.space.same;
  content = λ tells. content_read first later before after old new tells follows shape (same tells) inside (long tells) (whole tells) (was tells).whole;
  durable = follows.space.durable;
  spilled = follows.space.spilled;
  live = follows.space.live;
  still_live = follows.space.still_live;
  closed = follows.space.closed;
  still_put = follows.space.still_put;
  spare = spare;
  faults = follows.space.faults;
  time = follows.space.time;
}
