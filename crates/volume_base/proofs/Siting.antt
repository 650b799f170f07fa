-- The place of a new name, by the records of the catalog and on the tree.
use Rattle.std.proofs.Common.{◌≡◌, ℕ, Bool, true, false, List, [], ◌∷◌, refl, sym, subst}
use Rattle.std.specs.Prelude.{Option, Some, None, is_some, Result, Ok, Err, if◌then◌else◌}
use Rattle.std.specs.Option.{ok_or}
use Rattle.std.specs.List.{flat_map}
use Rattle.std.proofs.lemmas.Bool.{true≢false}
use Rattle.btree_node.specs.Levels.{Pair}
use Rattle.catalog.specs.Pairs.{value_at}
use Rattle.hfs_language.specs.Written.{FitsPath}
use Rattle.hfs_language.specs.declared.refusal.Refusal.{Refusal}
use Rattle.hfs_language.specs.declared.refusal.Refusal.TheVariants as refusal
use Rattle.hfs_model.specs.Plain.{IsPlainTree, entry_at}
use Rattle.hfs_model.specs.Step.{is_private_path, then_, unless, root_entry, child, walk, front, last_name, is_root, place_in, Place, to_make}
use Rattle.hfs_model.specs.declared.plain.PlainEntry.{PlainEntry}
use Rattle.hfs_model.specs.declared.plain.PlainTree.{PlainTree}
use Rattle.hfs_volume.specs.Changes.{AreSorted}
use Rattle.hfs_volume.specs.Entries.{AreThreaded, AreRooted, HaveIds}
use Rattle.hfs_volume.specs.Links.{AreGoodLinks}
use Rattle.hfs_volume.specs.Records.{Overflow, placed_in, entries_of}
use Rattle.hfs_volume.specs.TreeOf.{seen_entry}
use Rattle.volume_base.specs.Making.{site_in, untaken}
use Rattle.volume_base.specs.Reaching.{named, folder_reached, child_in, walk_in}
use Rattle.volume_base.specs.declared.reaching.Reached.{Reached}
use Rattle.volume_base.specs.declared.reaching.Reached.TheVariants as reached
use Rattle.volume_base.proofs.Walked.{Agree, IsReached, path_same}

-- the same reason, or the place
abbrev pub SameSite : List ℕ → Result ℕ Refusal → Result Place Refusal → Type 0
SameSite name (Ok id) (Ok at) = at ≡ record { folder = id; name = name; found = None }
SameSite name (Err why) (Err other) = why ≡ other
SameSite name (Ok id) (Err other) = ⊥
SameSite name (Err why) (Ok at) = ⊥

then_ok : {X : Type 0} (r : Result X Refusal) → then_ r (λ x. Ok x) ≡ r
then_ok (Ok x) = refl
then_ok (Err why) = refl

-- a walk is one along the front, and a step
pub front_walk : (pairs : List Pair) (path : List (List ℕ)) → is_root path ≡ false → (at : Reached) → walk_in pairs at path ≡ then_ (walk_in pairs at (front path)) (λ n. child_in pairs n (last_name path))
front_walk pairs [] some at = absurd (true≢false some)
front_walk pairs (name ∷ []) some at = then_ok (child_in pairs at name)
front_walk pairs (name ∷ next ∷ path) some at = by (child_in pairs at name) (λ m. front_walk pairs (next ∷ path) refl m)
  where
    by : (r : Result Reached Refusal) → ((m : Reached) → walk_in pairs m (next ∷ path) ≡ then_ (walk_in pairs m (front (next ∷ path))) (λ n. child_in pairs n (last_name (next ∷ path))))
        → then_ r (λ m. walk_in pairs m (next ∷ path)) ≡ then_ (then_ r (λ m. walk_in pairs m (front (next ∷ path)))) (λ n. child_in pairs n (last_name (next ∷ path)))
    by (Ok m) further = further m
    by (Err why) further = refl

pub front_tree : (tree : PlainTree) (path : List (List ℕ)) → is_root path ≡ false → (at : PlainEntry) → walk tree at path ≡ then_ (walk tree at (front path)) (λ n. child tree n (last_name path))
front_tree tree [] some at = absurd (true≢false some)
front_tree tree (name ∷ []) some at = then_ok (child tree at name)
front_tree tree (name ∷ next ∷ path) some at = by (child tree at name) (λ m. front_tree tree (next ∷ path) refl m)
  where
    by : (r : Result PlainEntry Refusal) → ((m : PlainEntry) → walk tree m (next ∷ path) ≡ then_ (walk tree m (front (next ∷ path))) (λ n. child tree n (last_name (next ∷ path))))
        → then_ r (λ m. walk tree m (next ∷ path)) ≡ then_ (then_ r (λ m. walk tree m (front (next ∷ path)))) (λ n. child tree n (last_name (next ∷ path)))
    by (Ok m) further = further m
    by (Err why) further = refl

pub front_fits : (path : List (List ℕ)) → FitsPath path → FitsPath (front path)
front_fits [] fits = fits
front_fits (name ∷ []) fits = tt
front_fits (name ∷ next ∷ path) fits = (fits.0, front_fits (next ∷ path) fits.1)

pub front_free : (path : List (List ℕ)) → is_private_path path ≡ false → is_private_path (front path) ≡ false
front_free [] free = refl
front_free (name ∷ []) free = refl
front_free (name ∷ next ∷ path) free = free

module _ (pairs : List Pair) (next : ℕ) (ids : HaveIds next (entries_of (placed_in pairs))) (rooted : AreRooted (entries_of (placed_in pairs))) (threads : AreThreaded pairs) (overflow : List Overflow) (links : AreGoodLinks (placed_in pairs) overflow) (order : AreSorted pairs)
    (tree : PlainTree) (same_entries : tree.entries ≡ flat_map (seen_entry (placed_in pairs)) (placed_in pairs)) (plain : IsPlainTree tree)
  where
    abbrev Same : Reached → PlainEntry → Type 0
    Same = IsReached pairs next ids rooted threads overflow links order tree same_entries plain

    pub site_same : (path : List (List ℕ)) → is_private_path path ≡ false → FitsPath path → SameSite (last_name path) (site_in pairs path) (to_make tree path)
    site_same [] free fits = refl
    site_same (name ∷ path) free fits =
        by_walk (walk_in pairs reached.Root (front (name ∷ path))) (walk tree root_entry (front (name ∷ path)))
        (path_same pairs next ids rooted threads overflow links order tree same_entries plain (front (name ∷ path)) (front_free (name ∷ path) free) (front_fits (name ∷ path) fits))
        (subst (λ (k : Result Reached Refusal × Result PlainEntry Refusal). Agree Same k.0 k.1) (λ i. (front_walk pairs (name ∷ path) refl reached.Root i, front_tree tree (name ∷ path) refl root_entry i))
        (path_same pairs next ids rooted threads overflow links order tree same_entries plain (name ∷ path) free fits))
      where
        last : List ℕ
        last = last_name (name ∷ path)

        by_found : (id : ℕ) (r : Result Reached Refusal) (o : Option PlainEntry) → Agree Same r (ok_or o refusal.NotFound)
            → SameSite (last_name (name ∷ path)) (untaken id r) (unless (is_some o) refusal.Exists (record { folder = id; name = last_name (name ∷ path); found = o }))
        by_found id (Ok n) (Some f) there = refl
        by_found id (Err why) None none = refl
        by_found id (Ok n) None never = absurd never
        by_found id (Err why) (Some f) never = absurd never

        by_kind : (e : PlainEntry) (b : Bool) → Agree Same (then_ (if b then Ok e.id else Err refusal.NotFolder) (λ id. named (value_at pairs id (last_name (name ∷ path))))) (if b then ok_or (entry_at tree e.id (last_name (name ∷ path))) refusal.NotFound else Err refusal.NotFolder)
            → SameSite (last_name (name ∷ path)) (then_ (if b then Ok e.id else Err refusal.NotFolder) (λ id. untaken id (named (value_at pairs id (last_name (name ∷ path))))))
            (then_ (if b then Ok (record { folder = e.id; name = last_name (name ∷ path); found = entry_at tree e.id (last_name (name ∷ path)) }) else Err refusal.NotFolder) (λ at. unless (is_some at.found) refusal.Exists at))
        by_kind e true whole = by_found e.id (named (value_at pairs e.id (last_name (name ∷ path)))) (entry_at tree e.id (last_name (name ∷ path))) whole
        by_kind e false whole = refl

        by_walk : (r : Result Reached Refusal) (s : Result PlainEntry Refusal) → Agree Same r s → Agree Same (then_ r (λ n. child_in pairs n (last_name (name ∷ path)))) (then_ s (λ n. child tree n (last_name (name ∷ path))))
            → SameSite (last_name (name ∷ path)) (then_ (then_ r folder_reached) (λ id. untaken id (named (value_at pairs id (last_name (name ∷ path))))))
            (then_ (then_ s (place_in tree (last_name (name ∷ path)))) (λ at. unless (is_some at.found) refusal.Exists at))
        by_walk (Err why) (Err other) same whole = same
        by_walk (Ok at) (Err other) never whole = absurd never
        by_walk (Err why) (Ok e) never whole = absurd never
        by_walk (Ok at) (Ok e) it whole =
            subst (λ (f : Result ℕ Refusal). SameSite (last_name (name ∷ path)) (then_ f (λ id. untaken id (named (value_at pairs id (last_name (name ∷ path))))))
            (then_ (place_in tree (last_name (name ∷ path)) e) (λ at. unless (is_some at.found) refusal.Exists at))) (sym it.folder)
            (by_kind e e.folder (subst (λ (f : Result ℕ Refusal). Agree Same (then_ f (λ id. named (value_at pairs id (last_name (name ∷ path))))) (child tree e (last_name (name ∷ path)))) it.folder whole))
