-- Paths that don't lead to the keeping folder lead where they led, whatever Save puts in it.
use Rattle.std.proofs.Common.{◌≡◌, ◌≢◌, ℕ, Bool, true, false, List, [], ◌∷◌, refl, sym, ◌∙◌, ap}
use Rattle.std.specs.Prelude.{Contains, ◌==◌, ◌&&◌, ◌||◌, find, Option, Some, None, Result, Ok, Err, if◌then◌else◌}
use Rattle.std.specs.List.{list_any}
use Rattle.std.specs.Option.{ok_or}
use Rattle.std.specs.Str.{bytes_eq}
use Rattle.std.proofs.lemmas.Bool.{true≢false}
use Rattle.hfs_language.specs.declared.command.Command.{Command}
use Rattle.hfs_language.specs.declared.command.Command.TheVariants as command
use Rattle.hfs_language.specs.declared.refusal.Refusal.{Refusal}
use Rattle.hfs_language.specs.declared.refusal.Refusal.TheVariants as refusal
use Rattle.hfs_model.specs.Plain.{entry_at, entry_before, is_at}
use Rattle.hfs_model.specs.Sorted.{put_before}
use Rattle.hfs_model.specs.Step.{Place, child, front, is_below, is_root, last_name, place, place_in, reached, root_entry, stands_in_way, then_, to_mv, to_pair, unless, walk}
use Rattle.hfs_model.specs.declared.plain.PlainEntry.{PlainEntry}
use Rattle.hfs_model.specs.declared.plain.PlainTree.{PlainTree}
use Rattle.hfs_volume.proofs.Fitting.{differs}
use Rattle.open_files.specs.Keeping.{is_keeping_path, keeping_name, names_keeping}
use Rattle.open_files.specs.Machine.{Taken, replaced, taken_by, taken_entry}
use Rattle.open_files.proofs.Lists.{find_put}
use Rattle.session_lines.proofs.Places.{step_to}

-- One entry more, at a place to which only the keeping folder's paths lead.
pub record PutsAside (old new : PlainTree) (item : PlainEntry) : Type 0 where
  pub entries : new.entries ≡ put_before entry_before item old.entries
  -- it isn't what another name of the root has
  pub root : (name : List ℕ) → bytes_eq name keeping_name ≡ false → is_at 2 name item ≡ false
  -- nor does it stand in what another name of the root names
  pub first : (next : PlainEntry) → Contains old.entries next → next.parent ≡ 2 → bytes_eq next.name keeping_name ≡ false → next.id ≢ item.parent
  -- or in what stands below that
  pub below : (from next : PlainEntry) → Contains old.entries from → Contains old.entries next → next.parent ≡ from.id → next.id ≢ item.parent

module _ (old new : PlainTree) (item : PlainEntry) (aside : PutsAside old new item) where
  find_same : (parent : ℕ) (name : List ℕ) → is_at parent name item ≡ false → entry_at new parent name ≡ entry_at old parent name
  find_same parent name off = ap (find (is_at parent name)) aside.entries ∙ find_put (is_at parent name) entry_before item old.entries off

  off_parent : (parent : ℕ) (name : List ℕ) → parent ≢ item.parent → is_at parent name item ≡ false
  off_parent parent name other = ap (λ b. b && bytes_eq item.name name) (differs item.parent parent (λ same. other (sym same)))

  child_same : (from : PlainEntry) (name : List ℕ) → is_at from.id name item ≡ false → child new from name ≡ child old from name
  child_same from name off = ap (λ (o : Option PlainEntry). if from.folder then ok_or o refusal.NotFound else Err refusal.NotFolder) (find_same from.id name off)

  place_in_same : (from : PlainEntry) (name : List ℕ) → is_at from.id name item ≡ false → place_in new name from ≡ place_in old name from
  place_in_same from name off = ap (λ (o : Option PlainEntry). if from.folder then Ok (record { folder = from.id; name = name; found = o }) else Err refusal.NotFolder) (find_same from.id name off)

  -- below the root
  walk_same : (path : List (List ℕ)) (from : PlainEntry) → Contains old.entries from → from.id ≢ item.parent → walk new from path ≡ walk old from path
  walk_same [] from there other = refl
  walk_same (name ∷ path) from there other =
      ap (λ (r : Result PlainEntry Refusal). then_ r (λ next. walk new next path)) (child_same from name (off_parent from.id name other)) ∙ by (child old from name) refl (λ next at apart. walk_same path next at apart)
    where
      by : (r : Result PlainEntry Refusal) → child old from name ≡ r → ((next : PlainEntry) → Contains old.entries next → next.id ≢ item.parent → walk new next path ≡ walk old next path) → then_ r (λ next. walk new next path) ≡ then_ r (λ next. walk old next path)
      by (Err why) is later = refl
      by (Ok next) is later = let made = step_to old from next name is in later next made.1 (aside.below from next there made.1 made.2)

  place_below : (path : List (List ℕ)) (from : PlainEntry) (last : List ℕ) → Contains old.entries from → from.id ≢ item.parent → then_ (walk new from path) (place_in new last) ≡ then_ (walk old from path) (place_in old last)
  place_below [] from last there other = place_in_same from last (off_parent from.id last other)
  place_below (name ∷ path) from last there other =
      ap (λ (r : Result PlainEntry Refusal). then_ (then_ r (λ next. walk new next path)) (place_in new last)) (child_same from name (off_parent from.id name other)) ∙ by (child old from name) refl (λ next at apart. place_below path next last at apart)
    where
      by : (r : Result PlainEntry Refusal) → child old from name ≡ r → ((next : PlainEntry) → Contains old.entries next → next.id ≢ item.parent → then_ (walk new next path) (place_in new last) ≡ then_ (walk old next path) (place_in old last))
          → then_ (then_ r (λ next. walk new next path)) (place_in new last) ≡ then_ (then_ r (λ next. walk old next path)) (place_in old last)
      by (Err why) is later = refl
      by (Ok next) is later = let made = step_to old from next name is in later next made.1 (aside.below from next there made.1 made.2)

  pub reached_same : (path : List (List ℕ)) → is_keeping_path path ≡ false → reached new path ≡ reached old path
  reached_same [] other = refl
  reached_same (name ∷ path) other = ap (λ (r : Result PlainEntry Refusal). then_ r (λ next. walk new next path)) (child_same root_entry name (aside.root name other)) ∙ by (child old root_entry name) refl
    where
      by : (r : Result PlainEntry Refusal) → child old root_entry name ≡ r → then_ r (λ next. walk new next path) ≡ then_ r (λ next. walk old next path)
      by (Err why) is = refl
      by (Ok next) is = let made = step_to old root_entry next name is in walk_same path next made.1 (aside.first next made.1 made.2 (ap (λ n. bytes_eq n keeping_name) made.3 ∙ other))

  place_same : (path : List (List ℕ)) → is_root path ≡ false → is_keeping_path path ≡ false → place new path ≡ place old path
  place_same [] named other = absurd (true≢false named)
  place_same (name ∷ []) named other = place_in_same root_entry name (aside.root name other)
  place_same (name ∷ next ∷ path) named other =
      ap (λ (r : Result PlainEntry Refusal). then_ (then_ r (λ later. walk new later (front (next ∷ path)))) (place_in new (last_name (next ∷ path)))) (child_same root_entry name (aside.root name other)) ∙ by (child old root_entry name) refl
    where
      by : (r : Result PlainEntry Refusal) → child old root_entry name ≡ r
          → then_ (then_ r (λ later. walk new later (front (next ∷ path)))) (place_in new (last_name (next ∷ path))) ≡ then_ (then_ r (λ later. walk old later (front (next ∷ path)))) (place_in old (last_name (next ∷ path)))
      by (Err why) is = refl
      by (Ok at) is = let made = step_to old root_entry at name is in place_below (front (next ∷ path)) at (last_name (next ∷ path)) made.1 (aside.first at made.1 made.2 (ap (λ n. bytes_eq n keeping_name) made.3 ∙ other))

  pair_same : (from to : List (List ℕ)) → is_keeping_path from ≡ false → is_keeping_path to ≡ false → to_pair new from to ≡ to_pair old from to
  pair_same from to other_from other_to = by (is_root from) (is_root to) refl
    where
      by : (a b : Bool) → is_root to ≡ b → then_ {Y = PlainEntry × Place} (unless (a || b) refusal.Root from) (λ named. then_ {Y = PlainEntry × Place} (reached new named) (λ at. then_ {Y = PlainEntry × Place} (place new to) (λ goal. Ok (at, goal))))
          ≡ then_ {Y = PlainEntry × Place} (unless (a || b) refusal.Root from) (λ named. then_ {Y = PlainEntry × Place} (reached old named) (λ at. then_ {Y = PlainEntry × Place} (place old to) (λ goal. Ok (at, goal))))
      by true b is = refl
      by false true is = refl
      by false false is =
          (λ i. then_ {Y = PlainEntry × Place} (reached_same from other_from i) (λ at. then_ {Y = PlainEntry × Place} (place_same to is other_to i) (λ goal. Ok (at, goal))))

  mv_same : (from to : List (List ℕ)) → is_keeping_path from ≡ false → is_keeping_path to ≡ false → to_mv new from to ≡ to_mv old from to
  mv_same from to other_from other_to = ap (λ (r : Result (PlainEntry × Place) Refusal). then_ r (λ pair. then_ (unless (stands_in_way pair.0 pair.1.found) refusal.Exists pair) (unless (is_below to from) refusal.Inside))) (pair_same from to other_from other_to)

  neither : (a b : Bool) → (a || b) ≡ false → (a ≡ false) × (b ≡ false)
  neither true b is = absurd (true≢false is)
  neither false b is = (refl, is)

  -- What a command takes a name of is the same.
  pub taken_same : (asked : Command) → names_keeping asked ≡ false → taken_by new asked ≡ taken_by old asked
  taken_same (command.Rm path) other = ap (taken_entry path) (reached_same path (neither (is_keeping_path path) false other).0)
  taken_same (command.Mv from to) other =
      let both = neither (is_keeping_path from) (is_keeping_path to || false) other in
      let second = neither (is_keeping_path to) false both.1 in
      ap (λ (r : Result (PlainEntry × Place) Refusal). taken_entry to (then_ r (λ pair. replaced pair.0.id pair.1.found))) (mv_same from to both.0 second.0)
  taken_same (command.Mkdir path) other = refl
  taken_same (command.Create path) other = refl
  taken_same (command.Rmdir path) other = refl
  taken_same (command.Ln from to) other = refl
  taken_same (command.Write path from value) other = refl
  taken_same (command.Read path from long) other = refl
  taken_same (command.Trunc path size) other = refl
  taken_same (command.Ls path) other = refl
  taken_same (command.Stat path) other = refl
  taken_same (command.Chmod path mode) other = refl
  taken_same (command.SetAttr path name value) other = refl
  taken_same (command.GetAttr path name) other = refl
  taken_same (command.DelAttr path name) other = refl
  taken_same (command.LsAttr path) other = refl
  taken_same (command.At moment) other = refl
  taken_same command.Df other = refl
  taken_same command.Sync other = refl
