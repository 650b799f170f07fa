-- A link of which only the first 1,024 bytes are seen leads where the whole link leads.
use Rattle.std.proofs.Common.{◌≡◌, ◌⊎◌, inl, inr, ℕ, zero, suc, Bool, true, false, List, [], ◌∷◌, ◌++◌, length, take, refl, sym, ◌∙◌, ap, arith}
use Rattle.std.specs.Prelude.{◌&&◌, nat_le, Option, None, Some, Result, Err, if◌then◌else◌}
use Rattle.std.specs.Str.{is_utf8}
use Rattle.std.proofs.lemmas.Bool.{leb-true, leb-false}
use Rattle.std.proofs.lemmas.List.{length-take-le, take_all}
use Rattle.link_kinds.specs.declared.kinds.Folder.{Folder}
use Rattle.link_kinds.specs.declared.kinds.KindRefusal.{KindRefusal}
use Rattle.link_kinds.specs.declared.kinds.KindRefusal.TheVariants as refusal
use Rattle.hfs_model.specs.declared.kinds.Sight.{Sight}
use Rattle.hfs_model.specs.declared.kinds.Sight.TheVariants as sight
use Rattle.link_kinds.specs.Lookers.{front_of, front_seen}
use Rattle.link_kinds.specs.Resolves.{Reach, by_sight, ends, file_seen, go_on, goes_up, here, is_unseen, reach, resolve, sight_at, sight_of, stays, without_last}
use Rattle.hfs_model.specs.declared.plain.PlainEntry.{PlainEntry}
use Rattle.hfs_model.specs.declared.plain.PlainNode.{PlainNode}
use Rattle.hfs_model.specs.declared.plain.PlainTree.{PlainTree}
use Rattle.hfs_model.specs.Extras.{entry_sight, file_sight, is_link, sight_in}
use Rattle.hfs_model.specs.Plain.{entry_at, node_at}
use Rattle.hfs_model.specs.Targets.{are_short, components_of, is_from_root, is_target, most_target}

-- ---- targets

none_holds : (one other rest : Bool) → other ≡ false → ((one && other) && rest) ≡ false
none_holds true other rest is = ap (λ b. b && rest) is
none_holds false other rest is = refl

too_long : (bytes : List ℕ) → nat_le (length bytes) most_target ≡ false → is_target bytes ≡ false
unfolding is_target
too_long bytes is = none_holds (nat_le 1 (length bytes)) (nat_le (length bytes) most_target) (is_utf8 bytes && are_short (components_of bytes)) is

-- the first 1,024 bytes are all, or neither they nor all are a target
whole_or_bad : (bytes : List ℕ) → (take 1024 bytes ≡ bytes) ⊎ ((is_target (take 1024 bytes) ≡ false) × (is_target bytes ≡ false))
whole_or_bad bytes = length_cases (nat_le (length bytes) most_target) refl
  where
    length_cases : (b : Bool) → nat_le (length bytes) most_target ≡ b → (take 1024 bytes ≡ bytes) ⊎ ((is_target (take 1024 bytes) ≡ false) × (is_target bytes ≡ false))
    length_cases true is = inl (take_all 1024 bytes (omega (arith, leb-true (length bytes) most_target is)))
    length_cases false is = inr (too_long (take 1024 bytes) (ap (λ n. nat_le n most_target) (length-take-le 1024 bytes (omega (arith, leb-false (length bytes) most_target is)))), too_long bytes is)

-- ---- what is seen of a tree

front_if : (b : Bool) (bytes : List ℕ) → front_of (if b then sight.Link bytes else sight.File) ≡ (if b then sight.Link (take 1024 bytes) else sight.File)
front_if true bytes = refl
front_if false bytes = refl

front_file : (node : Option PlainNode) → front_of (file_seen node) ≡ file_sight node
front_file None = refl
front_file (Some node) = front_if (is_link node) node.bytes

front_entry : (tree : PlainTree) (entry : Option PlainEntry) → front_of (sight_of tree entry) ≡ entry_sight tree entry
front_entry tree None = refl
front_entry tree (Some entry) = folder_cases entry.folder
  where
    folder_cases : (b : Bool) → front_of (if b then sight.Folder entry.id else file_seen (node_at tree entry.id)) ≡ (if b then sight.Folder entry.id else file_sight (node_at tree entry.id))
    folder_cases true = refl
    folder_cases false = front_file (node_at tree entry.id)

-- Of a name that is seen, what a look at the tree tells is the front of what stands under it.
pub front_at : (tree : PlainTree) (parent : ℕ) (name : List ℕ) → is_unseen parent name ≡ false → sight_in tree parent name ≡ front_of (sight_at tree parent name)
front_at tree parent name seen = sym (ap (λ b. front_of (if b then sight.Absent else sight_of tree (entry_at tree parent name))) seen ∙ front_entry tree (entry_at tree parent name))

-- ---- walks

-- the same place, with the front of a link
front_reach : Reach → Reach
front_reach (Reach.result answer) = Reach.result answer
front_reach (Reach.at_link way bytes left) = Reach.at_link way (take 1024 bytes) left

front_ends : (way : List Folder) (name : List ℕ) (left : List (List ℕ)) → ends way name left ≡ front_reach (ends way name left)
unfolding front_reach
front_ends way name [] = refl
front_ends way name (other ∷ left) = refl

front_sight : (found : Sight) (way : List Folder) (name : List ℕ) (left : List (List ℕ)) (behind front : List Folder → Reach) → ((further : List Folder) → front further ≡ front_reach (behind further))
    → by_sight (front_of found) way name left front ≡ front_reach (by_sight found way name left behind)
unfolding front_reach
front_sight sight.Absent way name left behind front same = refl
front_sight (sight.Folder id) way name left behind front same = same (record { name = name; id = id } ∷ way)
front_sight sight.File way name left behind front same = front_ends way name left
front_sight (sight.Link bytes) way name left behind front same = refl

front_reaches : (look : ℕ → List ℕ → Sight) (left : List (List ℕ)) (way : List Folder) → reach (front_seen look) way left ≡ front_reach (reach look way left)
unfolding front_reach
front_reaches look [] way = refl
front_reaches look (name ∷ left) way = name_cases (stays name) (goes_up name) (front_reaches look left)
  where
    name_cases : (a b : Bool) → ((further : List Folder) → reach (front_seen look) further left ≡ front_reach (reach look further left))
        → (if a then reach (front_seen look) way left else if b then reach (front_seen look) (without_last way) left
        else by_sight (front_seen look (here way) name) way name left (λ further. reach (front_seen look) further left))
        ≡ front_reach (if a then reach look way left else if b then reach look (without_last way) left else by_sight (look (here way) name) way name left (λ further. reach look further left))
    name_cases true b same = same way
    name_cases false true same = same (without_last way)
    name_cases false false same = front_sight (look (here way) name) way name left (λ further. reach look further left) (λ further. reach (front_seen look) further left) same

-- how it is gone on along a link's bytes
abbrev along : (List Folder → List (List ℕ) → Result (List (List ℕ)) KindRefusal) → List Folder → List (List ℕ) → List ℕ → Result (List (List ℕ)) KindRefusal
along behind way left bytes = if is_target bytes then behind (if is_from_root bytes then [] else way) (components_of bytes ++ left) else Err refusal.BadTarget

along_front : (front behind : List Folder → List (List ℕ) → Result (List (List ℕ)) KindRefusal) (way : List Folder) (bytes : List ℕ) (left : List (List ℕ)) → ((w : List Folder) (l : List (List ℕ)) → front w l ≡ behind w l)
    → along front way left (take 1024 bytes) ≡ along behind way left bytes
along_front front behind way bytes left same = front_cases (whole_or_bad bytes)
  where
    front_cases : (take 1024 bytes ≡ bytes) ⊎ ((is_target (take 1024 bytes) ≡ false) × (is_target bytes ≡ false)) → along front way left (take 1024 bytes) ≡ along behind way left bytes
    front_cases (inl whole) = ap (along front way left) whole ∙ ap (λ answer. if is_target bytes then answer else Err refusal.BadTarget) (same (if is_from_root bytes then [] else way) (components_of bytes ++ left))
    front_cases (inr bad) =
        ap (λ b. if b then front (if is_from_root (take 1024 bytes) then [] else way) (components_of (take 1024 bytes) ++ left) else Err refusal.BadTarget) bad.0
        ∙ sym (ap (λ b. if b then behind (if is_from_root bytes then [] else way) (components_of bytes ++ left) else Err refusal.BadTarget) bad.1)

front_goes_on : (look : ℕ → List ℕ → Sight) (more : ℕ) (reached : Reach) → go_on (front_seen look) more (front_reach reached) ≡ go_on look more reached
unfolding front_reach
front_goes_on look zero (Reach.result answer) = refl
front_goes_on look zero (Reach.at_link way bytes left) = refl
front_goes_on look (suc more) (Reach.result answer) = refl
front_goes_on look (suc more) (Reach.at_link way bytes left) = along_front (λ w l. go_on (front_seen look) more (reach (front_seen look) w l)) (λ w l. go_on look more (reach look w l)) way bytes left (λ w l.
    ap (go_on (front_seen look) more) (front_reaches look l w) ∙ front_goes_on look more (reach look w l))

-- A path leads where it leads when of each link only the front is seen.
pub front_resolves : (look : ℕ → List ℕ → Sight) (more : ℕ) (way : List Folder) (left : List (List ℕ)) → resolve (front_seen look) more way left ≡ resolve look more way left
front_resolves look more way left = ap (go_on (front_seen look) more) (front_reaches look left way) ∙ front_goes_on look more (reach look way left)
