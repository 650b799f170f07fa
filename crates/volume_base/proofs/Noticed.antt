-- What watchers are told of `mkdir`, `create` and `mv`.
use Rattle.std.proofs.Common.{◌≡◌, ℕ, Bool, true, false, List, refl, sym, ◌∙◌, ap}
use Rattle.std.specs.Prelude.{◌||◌, Result, Ok, Err, if◌then◌else◌}
use Rattle.std.proofs.lemmas.Bool.{true≢false}
use Rattle.sector_disk.specs.Lists.{Content}
use Rattle.hfs_language.specs.Written.{FitsPath}
use Rattle.hfs_language.specs.declared.refusal.Refusal.{Refusal}
use Rattle.hfs_language.specs.declared.refusal.Refusal.TheVariants as refusal
use Rattle.hfs_model.specs.Step.{Place, is_below, is_private_path, is_root, place, reached, stands_in_way, then_, to_mv, unless}
use Rattle.hfs_model.specs.declared.plain.PlainEntry.{PlainEntry}
use Rattle.hfs_model.specs.declared.plain.PlainTree.{PlainTree}
use Rattle.hfs_volume.specs.Books.{SoundHasPlainTree}
use Rattle.hfs_volume.specs.Content.{VolumeState}
use Rattle.hfs_volume.specs.TreeOf.{tree_in, tree_of}
use Rattle.volume_base.specs.Lists.{lists_of}
use Rattle.volume_base.specs.Making.{free_place, path_to}
use Rattle.volume_base.specs.Moving.{route_in}
use Rattle.volume_base.specs.Standing.{HoldsTrees, IsSettled}
use Rattle.volume_base.specs.declared.moving.Route.{Route}
use Rattle.volume_base.specs.declared.volume.Volume.{Volume}
use Rattle.volume_base.proofs.Routed.{goes_inside, may_go, way_told}

-- the value that was told, whatever else might have been
abbrev value_or : {X : Type 0} → X → Result X Refusal → X
value_or other (Ok x) = x
value_or other (Err why) = other

pub same_told : {X : Type 0} (r : Result X Refusal) (x y : X) → r ≡ Ok x → r ≡ Ok y → x ≡ y
same_told r x y one other = ap (value_or x) (sym one ∙ other)

pub not_told : {X : Type 0} (r : Result X Refusal) (why : Refusal) (x : X) → r ≡ Err why → r ≡ Ok x → ⊥
not_told r why x err ok = let never : Err why ≡ Ok x = sym err ∙ ok in cc never

-- the root isn't moved, nor moved to
pub moved_some : (tree : PlainTree) (from to : List (List ℕ)) (pair : PlainEntry × Place) → (is_root from || is_root to) ≡ true → to_mv tree from to ≡ Ok pair → ⊥
moved_some tree from to pair root is =
    not_told (to_mv tree from to) refusal.Root pair
    (ap (λ b. then_ (then_ (if b then Err refusal.Root else Ok from) (λ named. then_ (reached tree named) (λ at. then_ (place tree to) (λ goal. Ok (at, goal))))) (λ (p : PlainEntry × Place). then_ (unless (stands_in_way p.0 p.1.found) refusal.Exists p) (unless (is_below to from) refusal.Inside))) root) is

pub either_root : (x y : Bool) → x ≡ true → (x || y) ≡ true
either_root true y is = refl
either_root false y is = absurd (true≢false (sym is))

-- the CNID that comes next is told by the header of a settled volume
pub next_is : (v : Volume) (content : Content) → IsSettled v content → (tree_of content).next_id ≡ v.header.next_catalog_id
unfolding tree_of tree_in
next_is v content settled = ap (λ (l : VolumeState). l.head.next_catalog_id) settled.lists

module _ (law : SoundHasPlainTree) (v : Volume) (content : Content) (holds : HoldsTrees v content) (settled : IsSettled v content) (from to above under : List (List ℕ)) (old name : List ℕ) (split : from ≡ path_to above old) (goal_split : to ≡ path_to under name)
    (not_own : is_private_path from ≡ false) (goal_not_own : is_private_path to ≡ false) (fits : FitsPath from) (goal_fits : FitsPath to) (said : Result Route Refusal) (found : said ≡ route_in (lists_of v content).catalog_pairs v.private from above under name)
    (way : Route) (ok : said ≡ Ok way) (pair : PlainEntry × Place) (allowed : to_mv (tree_of content) from to ≡ Ok pair)
  where
    -- what is moved, and where to
    pub pair_told : (pair.0.id ≡ way.id) × (pair.1 ≡ free_place way.folder name)
    pair_told = by (is_below to from) refl
      where
        by : (b : Bool) → is_below to from ≡ b → (pair.0.id ≡ way.id) × (pair.1 ≡ free_place way.folder name)
        by true inside =
            absurd (not_told (to_mv (tree_of content) from to) refusal.Inside pair
            (goes_inside law v content holds settled from to above under old name split goal_split not_own goal_not_own fits goal_fits said found way ok inside) allowed)
        by false outside =
            let it = may_go law v content holds settled from to above under old name split goal_split not_own goal_not_own fits goal_fits said found way ok outside in
            let at = (way_told law v content holds settled from to above under old name split goal_split not_own goal_not_own fits goal_fits said found way ok).at in
            let same : pair ≡ (at, free_place way.folder name) = same_told (to_mv (tree_of content) from to) pair (at, free_place way.folder name) allowed it.allowed in
            (ap (λ (p : PlainEntry × Place). p.0.id) same ∙ it.number, ap (λ (p : PlainEntry × Place). p.1) same)
