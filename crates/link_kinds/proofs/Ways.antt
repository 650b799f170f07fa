-- The way of a walk, whose last folder stands first.
use Rattle.std.proofs.Common.{◌≡◌, ◌≢◌, ◌<◌, ◌+◌, ℕ, zero, suc, List, Bool, true, false, [], ◌∷◌, ◌++◌, length, refl, sym, ◌∙◌, ap, arith, add-one, append_assoc}
use Rattle.std.specs.Prelude.{◌↔◌, ◌&&◌, not, map, reverse, option_to_list, Option, Some, None, IsSome, Result, Ok, Err, if◌then◌else◌}
use Rattle.std.proofs.lemmas.Bool.{true≢false}
use Rattle.std.proofs.lemmas.List.{append-nil, reverse-append, reverse-reverse}
use Rattle.link_kinds.specs.declared.kinds.Folder.{Folder}
use Rattle.link_kinds.specs.declared.kinds.KindRefusal.{KindRefusal}
use Rattle.link_kinds.specs.declared.kinds.KindRefusal.TheVariants as refusal
use Rattle.hfs_model.specs.declared.kinds.Sight.{Sight}
use Rattle.link_kinds.specs.declared.walk.Next.{Next}
use Rattle.link_kinds.specs.declared.walk.Next.TheVariants as asked
use Rattle.hfs_model.specs.Targets.{components_of, is_from_root, is_target}
use Rattle.link_kinds.specs.Resolves.{Reach, at_link, by_sight, ends, go_on, goes_up, here, is_looked_at, most_steps, names_to, reach, resolve, stays, turned, without_last}
use Rattle.link_kinds.specs.Walks.{Sees, Walking, leads, leads_to}

abbrev pub name_of : Folder → List ℕ
name_of folder = folder.name

-- ---- lists in the other order

pub reverse_push : {X : Type 0} (items : List X) (x : X) → reverse (items ++ x ∷ []) ≡ x ∷ reverse items
reverse_push items x = reverse-append items (x ∷ [])

-- what is left when the last one is taken
pub reverse_popped : {X : Type 0} (old new : List X) (x : X) → old ≡ new ++ x ∷ [] → reverse old ≡ x ∷ reverse new
reverse_popped old new x is = ap reverse is ∙ reverse_push new x

names_onto : (way : List Folder) (behind : List (List ℕ)) → names_to way behind ≡ map name_of (reverse way) ++ behind
names_onto [] behind = refl
names_onto (last ∷ way) behind =
    names_onto way (last.name ∷ behind) ∙ sym (append_assoc (map name_of (reverse way)) (last.name ∷ []) behind)
    ∙ ap (λ (l : List (List ℕ)). l ++ behind) (sym (map_push (reverse way)) ∙ ap (map name_of) (sym (reverse-append (last ∷ []) way)))
  where
    map_push : (l : List Folder) → map name_of (l ++ last ∷ []) ≡ map name_of l ++ last.name ∷ []
    map_push [] = refl
    map_push (x ∷ l) = ap (λ (m : List (List ℕ)). x.name ∷ m) (map_push l)

-- the names of a way from the root, with others behind
pub way_names : (items : List Folder) (behind : List (List ℕ)) → names_to (reverse items) behind ≡ map name_of items ++ behind
way_names items behind = names_onto (reverse items) behind ∙ ap (λ (l : List Folder). map name_of l ++ behind) (reverse-reverse items)

-- the way without its last folder
pub way_up : (old new : List Folder) (last : Option Folder) (long : ℕ) → old ≡ new ++ option_to_list last → (IsSome last ↔ (0 < long)) → long ≡ length old → reverse new ≡ without_last (reverse old)
way_up old new (Some folder) long is some count = sym (ap without_last (reverse_popped old new folder is))
way_up old new None long is some count = none_left new is (some.1)
  where
    none_left : (rest : List Folder) → old ≡ rest ++ [] → (0 < long → false ≡ true) → reverse rest ≡ without_last (reverse old)
    none_left [] is none = ap (λ (l : List Folder). without_last (reverse l)) (sym is)
    none_left (x ∷ rest) is none = absurd (true≢false (sym (none (omega (arith, count, ap length is)))))

-- ---- components

pub reach_turned : (look : ℕ → List ℕ → Sight) (way : List Folder) (name : List ℕ) (left : List (List ℕ)) → is_looked_at name ≡ false → reach look way (name ∷ left) ≡ reach look (turned name way) left
reach_turned look way name left is = turned_cases (stays name) (goes_up name) is
  where
    turned_cases : (a b : Bool) → (not a && not b) ≡ false
        → (if a then reach look way left else if b then reach look (without_last way) left else by_sight (look (here way) name) way name left (λ further. reach look further left)) ≡ reach look (if a then way else without_last way) left
    turned_cases true b skipped = refl
    turned_cases false true skipped = refl
    turned_cases false false skipped = absurd (true≢false skipped)

pub reach_looks : (look : ℕ → List ℕ → Sight) (way : List Folder) (name : List ℕ) (left : List (List ℕ)) → is_looked_at name ≡ true
    → reach look way (name ∷ left) ≡ by_sight (look (here way) name) way name left (λ further. reach look further left)
reach_looks look way name left is = look_cases (stays name) (goes_up name) is
  where
    look_cases : (a b : Bool) → (not a && not b) ≡ true
        → (if a then reach look way left else if b then reach look (without_last way) left else by_sight (look (here way) name) way name left (λ further. reach look further left)) ≡ by_sight (look (here way) name) way name left (λ further. reach look further left)
    look_cases true b looked = absurd (true≢false (sym looked))
    look_cases false true looked = absurd (true≢false (sym looked))
    look_cases false false looked = refl

-- a result stands, however many links may still be followed
pub go_on_result : (look : ℕ → List ℕ → Sight) (more : ℕ) (answer : Result (List (List ℕ)) KindRefusal) → go_on look more (Reach.result answer) ≡ answer
go_on_result look zero answer = refl
go_on_result look (suc more) answer = refl

-- ---- the steps of a walk

-- where it leads when this is seen under a name that is looked at
abbrev pub goes : (ℕ → List ℕ → Sight) → ℕ → List Folder → List ℕ → List (List ℕ) → Sight → Result (List (List ℕ)) KindRefusal
goes look more way name left found = go_on look more (by_sight found way name left (λ further. reach look further left))

-- what a walk sees under the name that it asks for is looked at
pub told_look : (look : ℕ → List ℕ → Sight) (walking seen : Walking) (found : Sight) (name : List ℕ) → seen ≡ walking → seen.next ≡ asked.Look name → Sees look walking found
    → go_on look seen.more (by_sight found seen.way name seen.left (λ further. reach look further seen.left)) ≡ leads_to look walking
told_look look walking seen found name same is sees =
    let here_is : look (here seen.way) name ≡ found = ap (λ (w : Walking). look (here w.way) name) same ∙ sees name (ap (λ (w : Walking). w.next) (sym same) ∙ is) in
    ap (λ (s : Sight). go_on look seen.more (by_sight s seen.way name seen.left (λ further. reach look further seen.left))) (sym here_is)
    ∙ ap (leads look seen.more seen.way seen.left) (sym is) ∙ ap (leads_to look) same

-- one that has come to its end stays there
pub told_end : (look : ℕ → List ℕ → Sight) (walking seen : Walking) (more : ℕ) (way : List Folder) (left : List (List ℕ)) (next : Next) → seen ≡ walking → seen.more ≡ more → seen.way ≡ way → seen.left ≡ left → seen.next ≡ next
    → leads look more way left next ≡ leads_to look walking
told_end look walking seen more way left next same m w l n =
    sym (ap (λ (k : ℕ). leads look k seen.way seen.left seen.next) m ∙ ap (λ v. leads look more v seen.left seen.next) w ∙ ap (λ v. leads look more way v seen.next) l ∙ ap (leads look more way left) n) ∙ ap (leads_to look) same

is_empty_list : {X : Type 0} (list : List X) → reverse list ≡ [] → list ≡ []
is_empty_list list is = sym (reverse-reverse list) ∙ ap reverse is

-- a file behind which nothing is left, and one behind which something is
pub ends_last : (way : List Folder) (name : List ℕ) (left : List (List ℕ)) → left ≡ [] → ends way name (reverse left) ≡ Reach.result (Ok (names_to way (name ∷ [])))
ends_last way name left none = ap (λ (l : List (List ℕ)). ends way name (reverse l)) none

pub ends_more : (way : List Folder) (name : List ℕ) (left : List (List ℕ)) → left ≢ [] → ends way name (reverse left) ≡ Reach.result (Err refusal.NotFolder)
ends_more way name left some = more_cases (reverse left) refl
  where
    more_cases : (l : List (List ℕ)) → reverse left ≡ l → ends way name l ≡ Reach.result (Err refusal.NotFolder)
    more_cases [] is = absurd (some (is_empty_list left is))
    more_cases (x ∷ l) is = refl

-- the names of a way with one behind them
pub names_with : (items : List Folder) (name : List ℕ) → names_to (reverse items) [] ++ name ∷ [] ≡ names_to (reverse items) (name ∷ [])
names_with items name = ap (λ (l : List (List ℕ)). l ++ name ∷ []) (way_names items [] ∙ append-nil (map name_of items)) ∙ sym (way_names items (name ∷ []))

-- no link may be followed any more; its target is none; or it is gone on along it
pub link_last : (look : ℕ → List ℕ → Sight) (more : ℕ) (way : List Folder) (bytes : List ℕ) (left : List (List ℕ)) → more ≡ 0 → go_on look more (at_link way bytes left) ≡ Err (refusal.TooManySteps most_steps)
link_last look more way bytes left none = ap (λ n. go_on look n (at_link way bytes left)) none

abbrev follow_if : (ℕ → List ℕ → Sight) → ℕ → List Folder → List ℕ → List (List ℕ) → Bool → Result (List (List ℕ)) KindRefusal
follow_if look more way bytes left b = if b then go_on look more (reach look (if is_from_root bytes then [] else way) (components_of bytes ++ left)) else Err refusal.BadTarget

link_step : (look : ℕ → List ℕ → Sight) (more less : ℕ) (way : List Folder) (bytes : List ℕ) (left : List (List ℕ)) → more ≡ suc less → go_on look more (at_link way bytes left) ≡ follow_if look less way bytes left (is_target bytes)
link_step look more less way bytes left is = ap (λ n. go_on look n (at_link way bytes left)) is

pub link_bad : (look : ℕ → List ℕ → Sight) (more : ℕ) (way : List Folder) (bytes : List ℕ) (left : List (List ℕ)) → more ≢ 0 → is_target bytes ≡ false → go_on look more (at_link way bytes left) ≡ Err refusal.BadTarget
link_bad look zero way bytes left some bad = absurd (some refl)
link_bad look (suc less) way bytes left some bad = ap (follow_if look less way bytes left) bad

pub link_good : (look : ℕ → List ℕ → Sight) (more less : ℕ) (way : List Folder) (bytes : List ℕ) (left : List (List ℕ)) → more ≡ less + 1 → is_target bytes ≡ true
    → go_on look more (at_link way bytes left) ≡ resolve look less (if is_from_root bytes then [] else way) (components_of bytes ++ left)
link_good look more less way bytes left is good = link_step look more less way bytes left (is ∙ add-one less) ∙ ap (follow_if look less way bytes left) good
