-- Where a name may be made by the records of a settled volume it may be made on its tree; and what `mkdir` and `create` answer.
use Rattle.std.proofs.Common.{◌≡◌, ◌<◌, ℕ, Bool, true, false, List, [], ◌∷◌, ◌++◌, length, refl, sym, ◌∙◌, ap, subst, arith}
use Rattle.std.specs.Prelude.{◌||◌, Result, Ok, Err, if◌then◌else◌}
use Rattle.sector_disk.specs.Lists.{Content}
use Rattle.btree_node.specs.Levels.{Pair}
use Rattle.hfs_language.specs.Written.{FitsPath, IsName}
use Rattle.hfs_language.specs.declared.command.Command.TheVariants as command
use Rattle.hfs_language.specs.declared.refusal.Refusal.{Refusal}
use Rattle.hfs_language.specs.declared.refusal.Refusal.TheVariants as refusal
use Rattle.hfs_language.specs.declared.reply.Reply.TheVariants as reply
use Rattle.hfs_model.specs.Step.{Place, front, is_private_path, is_root, last_name, made, on, step, step_line, then_, to_make}
use Rattle.hfs_model.specs.declared.plain.PlainTree.{PlainTree}
use Rattle.hfs_model.proofs.Below.{front-last, last_name-last}
use Rattle.hfs_volume.specs.Books.{SoundHasPlainTree}
use Rattle.hfs_volume.specs.Content.{VolumeState, volume_of, overflow_in_volume}
use Rattle.hfs_volume.specs.Records.{is_empty}
use Rattle.hfs_volume.specs.TreeOf.{tree_of}
use Rattle.volume_base.specs.Lists.{lists_of}
use Rattle.catalog.specs.Pairs.{value_at}
use Rattle.volume_base.specs.Making.{IsSite, free_place, making, site_in, site_under, untaken}
use Rattle.volume_base.specs.Reaching.{folder_in, named}
use Rattle.volume_base.specs.declared.reaching.Reached.{Reached}
use Rattle.volume_base.specs.Standing.{HoldsTrees, IsSettled}
use Rattle.volume_base.specs.declared.volume.Volume.{Volume}
use Rattle.volume_base.proofs.Listed.{entries_are}
use Rattle.volume_base.proofs.Rising.{settled_is_plain, settled_sorted}
use Rattle.volume_base.proofs.Siting.{SameSite, site_same}

-- ---- a path and its last name

pub fits_above : (above : List (List ℕ)) (name : List ℕ) → FitsPath (above ++ name ∷ []) → FitsPath above
fits_above [] name fits = tt
fits_above (first ∷ above) name fits = (fits.0, fits_above above name fits.1)

pub fits_name : (above : List (List ℕ)) (name : List ℕ) → FitsPath (above ++ name ∷ []) → IsName 255 name
fits_name [] name fits = fits.0
fits_name (first ∷ above) name fits = fits_name above name fits.1

pub some_name : (name : List ℕ) → 0 < length name → is_empty name ≡ false
some_name [] some = absurd (omega (arith, some))
some_name (unit ∷ units) some = refl

pub not_root : (above : List (List ℕ)) (name : List ℕ) → is_root (above ++ name ∷ []) ≡ false
not_root [] name = refl
not_root (first ∷ above) name = refl

pub site_is : (pairs : List Pair) (above : List (List ℕ)) (name : List ℕ) → site_in pairs (above ++ name ∷ []) ≡ site_under pairs above name
site_is pairs above name =
    ap (λ b. then_ (if b then Err refusal.Root else Ok (above ++ name ∷ [])) (λ some. site_under pairs (front some) (last_name some))) (not_root above name)
    ∙ (λ i. site_under pairs (front-last above name i) (last_name-last above name i))

untaken_is : (n id : ℕ) (there : Result Reached Refusal) → untaken n there ≡ Ok id → n ≡ id
untaken_is n id (Ok at) is = let never : Err refusal.Exists ≡ Ok id = is in cc never
untaken_is n id (Err why) is = let same : Ok n ≡ Ok id = is in cc same

-- where a name may be made under a path, the path reaches its folder
pub folder_under : (pairs : List Pair) (above : List (List ℕ)) (name : List ℕ) (id : ℕ) → site_under pairs above name ≡ Ok id → folder_in pairs above ≡ Ok id
folder_under pairs above name id = by (folder_in pairs above)
  where
    by : (r : Result ℕ Refusal) → then_ r (λ n. untaken n (named (value_at pairs n name))) ≡ Ok id → r ≡ Ok id
    by (Ok n) is = ap Ok (untaken_is n id (named (value_at pairs n name)) is)
    by (Err why) is = let never : Err why ≡ Ok id = is in cc never

-- ---- over a settled volume

site_allowed : (name : List ℕ) (said : Result ℕ Refusal) (at : Place) → SameSite name said (Ok at) → (said ≡ Ok at.folder) × (at ≡ free_place at.folder name)
site_allowed name (Ok id) at same =
    let number : id ≡ at.folder = sym (ap (λ (p : Place). p.folder) same) in
    (ap Ok number, same ∙ ap (λ n. free_place n name) number)
site_allowed name (Err why) at never = absurd never

told_ok : (name : List ℕ) (id : ℕ) (r : Result Place Refusal) → SameSite name (Ok id) r → r ≡ Ok (free_place id name)
told_ok name id (Ok at) same = ap Ok same
told_ok name id (Err why) never = absurd never

told_err : (name : List ℕ) (why : Refusal) (r : Result Place Refusal) → SameSite name (Err why) r → r ≡ Err why
told_err name why (Ok at) never = absurd never
told_err name why (Err other) same = ap Err (sym same)

module _ (law : SoundHasPlainTree) (v : Volume) (content : Content) (holds : HoldsTrees v content) (settled : IsSettled v content) (path above : List (List ℕ)) (name : List ℕ) (split : path ≡ above ++ name ∷ []) (not_own : is_private_path path ≡ false) (fits : FitsPath path)
    (said : Result ℕ Refusal) (found : said ≡ site_under (lists_of v content).catalog_pairs above name)
  where
    last_is : last_name path ≡ name
    last_is = ap last_name split ∙ last_name-last above name

    is : said ≡ site_in (volume_of content).catalog_pairs path
    is = found ∙ sym (site_is (lists_of v content).catalog_pairs above name) ∙ (λ i. site_in (sym (ap (λ (l : VolumeState). l.catalog_pairs) settled.lists) i) (sym split i))

    tells : SameSite name said (to_make (tree_of content) path)
    tells =
        let sound = settled.sound.entries in
        subst (λ (k : List ℕ × Result ℕ Refusal). SameSite k.0 k.1 (to_make (tree_of content) path)) {x = (last_name path, site_in (volume_of content).catalog_pairs path)} {y = (name, said)} (λ i. (last_is i, sym is i))
        (site_same (volume_of content).catalog_pairs (volume_of content).head.next_catalog_id sound.ids sound.rooted sound.threads (overflow_in_volume (volume_of content)) settled.sound.links.good (settled_sorted v content holds settled)
        (tree_of content) (entries_are content) (settled_is_plain law v content holds settled) path not_own fits)

    -- the place that was told
    pub site_told : (id : ℕ) → said ≡ Ok id → to_make (tree_of content) path ≡ Ok (free_place id name)
    site_told id ok = told_ok name id (to_make (tree_of content) path) (subst (λ (r : Result ℕ Refusal). SameSite name r (to_make (tree_of content) path)) ok tells)

    -- where something may be made, the folder that the path above reaches is the one that was told
    pub site_reached : (at : Place) → to_make (tree_of content) path ≡ Ok at → (id : ℕ) → folder_in (lists_of v content).catalog_pairs above ≡ Ok id → said ≡ Ok id
    site_reached at is id reached = found_is ∙ sym (folder_under (lists_of v content).catalog_pairs above name at.folder (sym found ∙ found_is)) ∙ reached
      where
        found_is : said ≡ Ok at.folder
        found_is = (site_allowed name said at (subst (λ (r : Result Place Refusal). SameSite name said r) is tells)).0

    pub is_site : (id : ℕ) → said ≡ Ok id → IsSite (tree_of content) id name
    is_site id ok = record {
      path = path;
      not_own = not_own;
      named = ap is_empty last_is ∙ some_name name (fits_name above name (subst FitsPath split fits)).some;
      allowed = site_told id ok;
    }

    pub site_refused : (why : Refusal) → said ≡ Err why → to_make (tree_of content) path ≡ Err why
    site_refused why err = told_err name why (to_make (tree_of content) path) (subst (λ (r : Result ℕ Refusal). SameSite name r (to_make (tree_of content) path)) err tells)

-- ---- the answers

module _ (tree : PlainTree) (path : List (List ℕ)) where
  step_is : (folder : Bool) → step tree (making folder path) ≡ on tree (to_make tree path) (λ at. (reply.Ok, made folder at tree))
  step_is true = refl
  step_is false = refl

  line : (folder : Bool) → is_private_path path ≡ false → step_line tree (Ok (making folder path)) ≡ on tree (to_make tree path) (λ at. (reply.Ok, made folder at tree))
  line true not_own = ap (λ b. if b || false then (reply.No refusal.Private, tree) else step tree (command.Mkdir path)) not_own
  line false not_own = ap (λ b. if b || false then (reply.No refusal.Private, tree) else step tree (command.Create path)) not_own

  pub made_line : (folder : Bool) (at : Place) → is_private_path path ≡ false → to_make tree path ≡ Ok at
      → (reply.Ok ≡ (step_line tree (Ok (making folder path))).0) × (made folder at tree ≡ (step_line tree (Ok (making folder path))).1)
  made_line folder at not_own is =
      let same = line folder not_own ∙ ap (λ r. on tree r (λ (x : Place). (reply.Ok, made folder x tree))) is in
      (sym (ap (λ s. s.0) same), sym (ap (λ s. s.1) same))

  pub refused_line : (folder : Bool) (why : Refusal) → is_private_path path ≡ false → to_make tree path ≡ Err why
      → (reply.No why ≡ (step_line tree (Ok (making folder path))).0) × (tree ≡ (step_line tree (Ok (making folder path))).1)
  refused_line folder why not_own is =
      let same = line folder not_own ∙ ap (λ r. on tree r (λ (x : Place). (reply.Ok, made folder x tree))) is in
      (sym (ap (λ s. s.0) same), sym (ap (λ s. s.1) same))

  pub private_line : (folder : Bool) → is_private_path path ≡ true → (reply.No refusal.Private ≡ (step_line tree (Ok (making folder path))).0) × (tree ≡ (step_line tree (Ok (making folder path))).1)
  private_line true own =
      let same = ap (λ b. if b || false then (reply.No refusal.Private, tree) else step tree (command.Mkdir path)) own in (sym (ap (λ s. s.0) same), sym (ap (λ s. s.1) same))
  private_line false own =
      let same = ap (λ b. if b || false then (reply.No refusal.Private, tree) else step tree (command.Create path)) own in (sym (ap (λ s. s.0) same), sym (ap (λ s. s.1) same))

-- the root is no new name
pub root_line : (tree : PlainTree) (path : List (List ℕ)) (folder : Bool) → length path ≡ 0 → (reply.No refusal.Root ≡ (step_line tree (Ok (making folder path))).0) × (tree ≡ (step_line tree (Ok (making folder path))).1)
root_line tree [] folder is = refused_line tree [] folder refusal.Root refl refl
root_line tree (name ∷ path) folder is = absurd (omega (arith, is))
