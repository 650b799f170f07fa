-- A path leads where it does by what stands under names of at most 255 units in folders of the tree alone, and a walk asks for nothing else.
use Rattle.std.proofs.Common.{◌≡◌, ◌⊎◌, ◌≤◌, ℕ, zero, suc, Bool, true, false, List, [], ◌∷◌, ◌++◌, length, inl, inr, refl, sym, ◌∙◌, ap, subst, arith, eq-eqb}
use Rattle.std.specs.Prelude.{◌&&◌, ◌==◌, Option, Some, None, Result, Ok, Err, nat_le, not, if◌then◌else◌}
use Rattle.std.specs.List.{list_all}
use Rattle.std.specs.Str.{bytes_eq, is_utf8}
use Rattle.std.proofs.lemmas.Bool.{and_parts, eqb-true, leb-false, leb-true, true≢false}
use Rattle.std.proofs.lemmas.Slice.Eq.{bytes_eq-Decides}
use Rattle.hfs_language.specs.Written.{FitsPath}
use Rattle.hfs_model.specs.Extras.{is_link}
use Rattle.hfs_model.specs.Plain.{IsPlainTree, entry_at, is_at, node_at}
use Rattle.hfs_model.specs.Targets.{are_short, components_of, is_from_root, is_target, most_target}
use Rattle.hfs_model.specs.declared.kinds.Sight.{Sight}
use Rattle.hfs_model.specs.declared.kinds.Sight.TheVariants as sight
use Rattle.hfs_model.specs.declared.plain.PlainEntry.{PlainEntry}
use Rattle.hfs_model.specs.declared.plain.PlainNode.{PlainNode}
use Rattle.hfs_model.specs.declared.plain.PlainTree.{PlainTree}
use Rattle.hfs_volume.proofs.Flat.{found_some}
use Rattle.link_kinds.specs.declared.kinds.Folder.{Folder}
use Rattle.link_kinds.specs.declared.kinds.KindRefusal.{KindRefusal}
use Rattle.link_kinds.specs.declared.kinds.KindRefusal.TheVariants as refusal
use Rattle.link_kinds.specs.declared.walk.Next.{Next}
use Rattle.link_kinds.specs.declared.walk.Next.TheVariants as asked
use Rattle.link_kinds.specs.Lookers.{front_of, front_seen}
use Rattle.link_kinds.specs.Resolves.{Reach, at_link, by_sight, ends, file_seen, go_on, goes_up, here, is_unseen, most_steps, names_to, reach, resolve, resolves, result, sight_at, sight_of, stays, without_last}
use Rattle.link_kinds.proofs.Fronts.{front_resolves}
use Rattle.link_kinds.specs.Walks.{Sees, Walking, leads, leads_to}
use Rattle.session_lines.specs.Lookings.{IsSeenUnder, IsWithin, LeadsOn, SeesTree}

-- ---- names

-- each has at most 255 units
abbrev pub AreShort : List (List ℕ) → Type 0
AreShort [] = Unit {0}
AreShort (name ∷ left) = (length name ≤ 255) × AreShort left

short_both : (some more : List (List ℕ)) → AreShort some → AreShort more → AreShort (some ++ more)
short_both [] more first second = second
short_both (name ∷ some) more first second = (first.0, short_both some more first.1 second)

short_all : (names : List (List ℕ)) → list_all (λ units. nat_le (length units) 255) names ≡ true → AreShort names
short_all [] is = tt
short_all (name ∷ names) is =
    let both = and_parts (nat_le (length name) 255) (list_all (λ units. nat_le (length units) 255) names) is in
    (leb-true (length name) 255 both.0, short_all names both.1)

target_short : (bytes : List ℕ) → is_target bytes ≡ true → AreShort (components_of bytes)
unfolding is_target
target_short bytes is =
    let whole = and_parts (nat_le 1 (length bytes) && nat_le (length bytes) most_target) (is_utf8 bytes && are_short (components_of bytes)) is in
    short_all (components_of bytes) (and_parts (is_utf8 bytes) (are_short (components_of bytes)) whole.1).1

-- nothing is a target of no bytes
no_target : is_target [] ≡ false
unfolding is_target
no_target = refl

pub path_short : (path : List (List ℕ)) → FitsPath path → AreShort path
path_short [] fits = tt
path_short (name ∷ path) fits = (fits.0.short, path_short path fits.1)

-- ---- what is seen of a tree

abbrev id_or : ℕ → Sight → ℕ
id_or other sight.Absent = other
id_or other (sight.Folder id) = id
id_or other sight.File = other
id_or other (sight.Link bytes) = other

module _ (tree : PlainTree) (plain : IsPlainTree tree) where
  abbrev front : ℕ → List ℕ → Sight
  front = front_seen (sight_at tree)

  abbrev IsFolderOf : ℕ → Type 0
  IsFolderOf id = (folder : PlainNode) × (node_at tree id ≡ Some folder) × (folder.folder ≡ true)

  -- each folder of the way is one of the tree
  abbrev AreFolders : List Folder → Type 0
  AreFolders [] = Unit {0}
  AreFolders (last ∷ way) = IsFolderOf last.id × AreFolders way

  here_folder : (way : List Folder) → AreFolders way → IsFolderOf (here way)
  here_folder [] are = (plain.root.0, plain.root.1, plain.root.2)
  here_folder (last ∷ way) are = are.0

  gone_last : (way : List Folder) → AreFolders way → AreFolders (without_last way)
  gone_last [] are = tt
  gone_last (last ∷ way) are = are.1

  -- a folder that is seen is one of the tree
  seen_folder : (parent : ℕ) (name : List ℕ) (id : ℕ) → front parent name ≡ sight.Folder id → IsFolderOf id
  seen_folder parent name id is = by_unseen (is_unseen parent name) is
    where
      no_file : (node : Option PlainNode) → front_of (file_seen node) ≡ sight.Folder id → ⊥
      no_file None same = cc same
      no_file (Some node) same = by_link (is_link node) same
        where
          by_link : (b : Bool) → front_of (if b then sight.Link node.bytes else sight.File) ≡ sight.Folder id → ⊥
          by_link true it = cc it
          by_link false it = cc it

      by_entry : (o : Option PlainEntry) → entry_at tree parent name ≡ o → front_of (sight_of tree o) ≡ sight.Folder id → IsFolderOf id
      by_entry None found same = absurd (cc same)
      by_entry (Some entry) found same = by_kind entry.folder refl same
        where
          by_kind : (b : Bool) → entry.folder ≡ b → front_of (if b then sight.Folder entry.id else file_seen (node_at tree entry.id)) ≡ sight.Folder id → IsFolderOf id
          by_kind true kind it =
              let its = (plain.named entry (found_some (is_at parent name) tree.entries entry found).0).named in
              subst IsFolderOf (ap (id_or id) it) (its.0, its.1, its.2 ∙ kind)
          by_kind false kind it = absurd (no_file (node_at tree entry.id) it)

      by_unseen : (b : Bool) → front_of (if b then sight.Absent else sight_of tree (entry_at tree parent name)) ≡ sight.Folder id → IsFolderOf id
      by_unseen true same = absurd (cc same)
      by_unseen false same = by_entry (entry_at tree parent name) refl same

  -- it stands at folders of the tree, with such names left
  abbrev Within : Reach → Type 0
  Within (result answer) = Unit {0}
  Within (at_link way bytes left) = AreFolders way × AreShort left

  ends_within : (way : List Folder) (name : List ℕ) (left : List (List ℕ)) → Within (ends way name left)
  ends_within way name [] = tt
  ends_within way name (other ∷ left) = tt

  module _ (one other : ℕ → List ℕ → Sight) (sees : SeesTree tree one) (sees_other : SeesTree tree other) where
    abbrev Later : List (List ℕ) → Type 0
    Later left = (further : List Folder) → AreFolders further → (reach one further left ≡ reach other further left) × Within (reach other further left)

    -- both come to the same place
    reach_same : (left : List (List ℕ)) (way : List Folder) → AreFolders way → AreShort left → (reach one way left ≡ reach other way left) × Within (reach other way left)
    reach_same [] way folders short = (refl, tt)
    reach_same (name ∷ left) way folders short = by_name (stays name) (goes_up name) (λ further are. reach_same left further are short.1)
      where
        within : IsWithin tree (here way) name
        within = (here_folder way folders, short.0)

        by_found : Later left → (found : Sight) → other (here way) name ≡ found
            → (by_sight found way name left (λ further. reach one further left) ≡ by_sight found way name left (λ further. reach other further left)) × Within (by_sight found way name left (λ further. reach other further left))
        by_found later sight.Absent is = (refl, tt)
        by_found later (sight.Folder id) is = later (record { name = name; id = id } ∷ way) (seen_folder (here way) name id (sym (sees_other (here way) name within) ∙ is), folders)
        by_found later sight.File is = (refl, ends_within way name left)
        by_found later (sight.Link bytes) is = (refl, (folders, short.1))

        by_name : (a b : Bool) → Later left
            → ((if a then reach one way left else if b then reach one (without_last way) left else by_sight (one (here way) name) way name left (λ further. reach one further left))
            ≡ (if a then reach other way left else if b then reach other (without_last way) left else by_sight (other (here way) name) way name left (λ further. reach other further left)))
            × Within (if a then reach other way left else if b then reach other (without_last way) left else by_sight (other (here way) name) way name left (λ further. reach other further left))
        by_name true b later = later way folders
        by_name false true later = later (without_last way) (gone_last way folders)
        by_name false false later =
            let both = by_found later (other (here way) name) refl in
            (ap (λ (s : Sight). by_sight s way name left (λ further. reach one further left)) (sees (here way) name within ∙ sym (sees_other (here way) name within)) ∙ both.0, both.1)

    abbrev begun : List ℕ → List Folder → List Folder
    begun bytes way = if is_from_root bytes then [] else way

    on_target : (b : Bool) (first second : Result (List (List ℕ)) KindRefusal) → (b ≡ true → first ≡ second) → (if b then first else Err refusal.BadTarget) ≡ (if b then second else Err refusal.BadTarget)
    on_target true first second same = same refl
    on_target false first second same = refl

    go_on_same : (more : ℕ) (reached : Reach) → Within reached → go_on one more reached ≡ go_on other more reached
    go_on_same zero (result answer) within = refl
    go_on_same zero (at_link way bytes left) within = refl
    go_on_same (suc more) (result answer) within = refl
    go_on_same (suc more) (at_link way bytes left) within = on_target (is_target bytes) (go_on one more (reach one (begun bytes way) (components_of bytes ++ left))) (go_on other more (reach other (begun bytes way) (components_of bytes ++ left)))
        (λ target.
        let same = reach_same (components_of bytes ++ left) (begun bytes way) (begun_folders (is_from_root bytes)) (short_both (components_of bytes) left (target_short bytes target) within.1) in
        ap (go_on one more) same.0 ∙ go_on_same more (reach other (begun bytes way) (components_of bytes ++ left)) same.1)
      where
        begun_folders : (b : Bool) → AreFolders (if b then [] else way)
        begun_folders true = tt
        begun_folders false = within.0

    resolve_same : (more : ℕ) (way : List Folder) (left : List (List ℕ)) → AreFolders way → AreShort left → resolve one more way left ≡ resolve other more way left
    resolve_same more way left folders short =
        let same = reach_same left way folders short in
        ap (go_on one more) same.0 ∙ go_on_same more (reach other way left) same.1

  -- ---- a walk along a path

  module _ (path : List (List ℕ)) (fits : FitsPath path) where
    -- somebody who sees this under one name, and else the tree
    abbrev patched : ℕ → List ℕ → Sight → ℕ → List ℕ → Sight
    patched at named seen parent name = if (parent == at) && bytes_eq name named then seen else front parent name

    patched_there : (at : ℕ) (named : List ℕ) (seen : Sight) → patched at named seen at named ≡ seen
    patched_there at named seen = ap (λ b. if b then seen else front at named) (λ i. eq-eqb at at refl i && (bytes_eq-Decides named named).1 refl i)

    patched_sees : (at : ℕ) (named : List ℕ) (seen : Sight) → (IsWithin tree at named → ⊥) → SeesTree tree (patched at named seen)
    patched_sees at named seen never parent name within = by ((parent == at) && bytes_eq name named) refl
      where
        by : (b : Bool) → ((parent == at) && bytes_eq name named) ≡ b → (if b then seen else front parent name) ≡ front parent name
        by false is = refl
        by true is =
            let both = and_parts (parent == at) (bytes_eq name named) is in
            absurd (never (subst (λ (p : ℕ × List ℕ). IsWithin tree p.0 p.1) {x = (parent, name)} {y = (at, named)} (λ i. (eqb-true parent at both.0 i, (bytes_eq-Decides name named).0 both.1 i)) within))

    result_stays : (look : ℕ → List ℕ → Sight) (more : ℕ) (answer : Result (List (List ℕ)) KindRefusal) → go_on look more (result answer) ≡ answer
    result_stays look zero answer = refl
    result_stays look (suc more) answer = refl

    -- a link without a text leads nowhere, but not for want of a name
    bad_link : (look : ℕ → List ℕ → Sight) (more : ℕ) (way : List Folder) (left : List (List ℕ)) → go_on look more (at_link way [] left) ≡ Err refusal.NotFound → ⊥
    bad_link look zero way left is = cc is
    bad_link look (suc more) way left is = by (is_target []) no_target is
      where
        by : (b : Bool) → b ≡ false → (if b then go_on look more (reach look (if is_from_root [] then [] else way) (components_of [] ++ left)) else Err refusal.BadTarget) ≡ Err refusal.NotFound → ⊥
        by true none same = true≢false none
        by false none same = cc same

    module _ (walk : Walking) (on : LeadsOn tree path walk) (name : List ℕ) (asks : walk.next ≡ asked.Look name) where
      -- what it asks for is a name of a folder of the tree
      never_outside : (IsWithin tree (here walk.way) name → ⊥) → ⊥
      never_outside never =
          let at = here walk.way in
          let gone = patched at name sight.Absent in
          let bad = patched at name (sight.Link []) in
          let sees_gone = patched_sees at name sight.Absent never in
          let sees_bad = patched_sees at name (sight.Link []) never in
          let same : leads_to gone walk ≡ leads_to bad walk = on gone sees_gone ∙ resolve_same gone bad sees_gone sees_bad most_steps [] path tt (path_short path fits) ∙ sym (on bad sees_bad) in
          let first : leads_to gone walk ≡ Err refusal.NotFound =
          ap (leads gone walk.more walk.way walk.left) asks ∙ ap (λ (s : Sight). go_on gone walk.more (by_sight s walk.way name walk.left (λ further. reach gone further walk.left))) (patched_there at name sight.Absent)
          ∙ result_stays gone walk.more (Err refusal.NotFound) in
          let second : leads_to bad walk ≡ go_on bad walk.more (at_link walk.way [] walk.left) =
          ap (leads bad walk.more walk.way walk.left) asks ∙ ap (λ (s : Sight). go_on bad walk.more (by_sight s walk.way name walk.left (λ further. reach bad further walk.left))) (patched_there at name (sight.Link [])) in
          bad_link bad walk.more walk.way walk.left (sym second ∙ sym same ∙ first)

      pub asks_within : IsWithin tree (here walk.way) name
      asks_within = by_folder (node_at tree (here walk.way)) refl (nat_le (length name) 255) refl
        where
          by_folder : (o : Option PlainNode) → node_at tree (here walk.way) ≡ o → (short : Bool) → nat_le (length name) 255 ≡ short → IsWithin tree (here walk.way) name
          by_folder None none short is = absurd (never_outside (λ within. cc (sym none ∙ within.0.1)))
          by_folder (Some node) some false is = absurd (never_outside (λ within. let long = leb-false (length name) 255 is in omega (arith, within.1, long)))
          by_folder (Some node) some true is = by_kind node.folder refl
            where
              node_or : PlainNode → Option PlainNode → PlainNode
              node_or other None = other
              node_or other (Some it) = it

              by_kind : (b : Bool) → node.folder ≡ b → IsWithin tree (here walk.way) name
              by_kind true kind = ((node, some, kind), leb-true (length name) 255 is)
              by_kind false kind = absurd (never_outside (λ within.
                  let same : within.0.0 ≡ node = ap (node_or node) (sym within.0.1 ∙ some) in
                  true≢false (sym within.0.2 ∙ ap (λ (n : PlainNode). n.folder) same ∙ kind)))

    -- Told what is seen there, it leads on.
    pub leads_further : (walk next : Walking) → LeadsOn tree path walk → (parent : ℕ) (name : List ℕ) (found : Sight) → (walk.next ≡ asked.Look name) × (parent ≡ here walk.way) → IsSeenUnder tree parent name found
        → ((look : ℕ → List ℕ → Sight) → Sees look walk found → leads_to look next ≡ leads_to look walk) → LeadsOn tree path next
    leads_further walk next on parent name found asks seen tells look sees =
        let within = asks_within walk on name asks.0 in
        let here_is = asks.1 in
        let found_is : front (here walk.way) name ≡ found = sym (subst (λ (p : ℕ). IsWithin tree p name → found ≡ front p name) here_is seen within) in
        tells look (λ other is. ap (look (here walk.way)) (same_name other is asks.0) ∙ sees (here walk.way) name within ∙ found_is) ∙ on look sees
      where
        name_or : List ℕ → Next → List ℕ
        name_or other (asked.Look it) = it
        name_or other (asked.Done it) = other
        name_or other (asked.No why) = other

        same_name : (other : List ℕ) → walk.next ≡ asked.Look other → walk.next ≡ asked.Look name → other ≡ name
        same_name other is its = ap (name_or name) (sym is ∙ its)

-- At its begin it leads where the path does, and at its end it is there.
pub leads_begun : (tree : PlainTree) (path : List (List ℕ)) (walk : Walking) → ((look : ℕ → List ℕ → Sight) → leads_to look walk ≡ resolve look most_steps [] path) → LeadsOn tree path walk
leads_begun tree path walk leads look sees = leads look

pub leads_ended : (tree : PlainTree) (path : List (List ℕ)) (walk : Walking) → LeadsOn tree path walk → (answer : Result (List (List ℕ)) KindRefusal) → ((look : ℕ → List ℕ → Sight) → leads_to look walk ≡ answer) → answer ≡ resolves tree path
leads_ended tree path walk on answer ended = sym (ended (front_seen (sight_at tree))) ∙ on (front_seen (sight_at tree)) (λ parent name within. refl) ∙ front_resolves (sight_at tree) most_steps [] path
