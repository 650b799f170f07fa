-- Which changes lie under a folder, and what somebody does who hears of these alone.
use Rattle.std.specs.Prelude.{◌≡◌, ◌⊎◌, ℕ, zero, suc, ◌==◌, ◌&&◌, ◌||◌, nat_le, Bool, true, false, not, List, [], ◌∷◌, ◌++◌, length, map, find, Option, Some, None, if◌then◌else◌}
use Rattle.std.specs.List.{filter, list_any}
use Rattle.hfs_language.specs.declared.reply.Change.{Change}
use Rattle.hfs_language.specs.declared.reply.ChangeKind.{ChangeKind}
use Rattle.hfs_language.specs.declared.reply.ChangeKind.TheVariants as change
use Rattle.watchers.specs.declared.folders.FolderAt.{FolderAt}
use Rattle.watchers.specs.declared.watcher.Keep.{Keep}
use Rattle.watchers.specs.declared.watcher.Keep.TheVariants.{Stay, Leave}

-- ---- where things stand

abbrev pub parent_in : Option FolderAt → Option ℕ
parent_in None = None
parent_in (Some at) = Some at.parent

-- the folder that something stands in, as far as it is known
abbrev pub parent_of : List FolderAt → ℕ → Option ℕ
parent_of known id = parent_in (find (λ at. at.id == id) known)

-- whether it is known where something stands
abbrev pub is_known : List FolderAt → ℕ → Bool
is_known known id = list_any (λ at. at.id == id) known

-- this one, in another folder where it is the one that is moved
abbrev pub moved_one : ℕ → ℕ → FolderAt → FolderAt
moved_one id parent at = record { id = at.id; parent = if at.id == id then parent else at.parent }

-- what was known to stand somewhere stands in another folder
abbrev pub moved : ℕ → ℕ → List FolderAt → List FolderAt
moved id parent known = map (moved_one id parent) known

-- what is made stands in its folder
abbrev pub placed : ℕ → ℕ → List FolderAt → List FolderAt
placed id parent known = if is_known known id then moved id parent known else known ++ record { id = id; parent = parent } ∷ []

-- what is gone stands nowhere
abbrev pub without : ℕ → List FolderAt → List FolderAt
without id known = filter (λ at. not (at.id == id)) known

-- what is known after a change of this kind
abbrev pub knows_after : ChangeKind → ℕ → ℕ → List FolderAt → List FolderAt
knows_after change.Made id parent known = placed id parent known
knows_after change.Moved id parent known = moved id parent known
knows_after change.Removed id parent known = without id known
knows_after _ id parent known = known

-- What is known after a change: what is made stands in its folder, what is moved in its new one, and what is removed in none.
abbrev pub after_change : List FolderAt → Change → List FolderAt
after_change known told = knows_after told.kind told.id told.parent known

-- what is known after changes
unfoldable pub after_changes : List FolderAt → List Change → List FolderAt
after_changes known [] = known
after_changes known (told ∷ rest) = after_changes (after_change known told) rest

abbrev pub up_from : Option ℕ → (ℕ → Bool) → Bool
up_from None above = false
up_from (Some parent) above = above parent

-- the folder is this one, or lies below it by at most so many steps
abbrev pub is_within : ℕ → List FolderAt → ℕ → ℕ → Bool
is_within zero known top id = id == top
is_within (suc more) known top id = (id == top) || up_from (parent_of known id) (is_within more known top)

-- ---- changes

-- A change lies under a folder where, once it is made, it is in that folder or in one below it.
abbrev pub is_under : ℕ → List FolderAt → Change → Bool
is_under top known told = is_within (length (after_change known told)) (after_change known told) top told.parent

-- the change, if it lies under the folder
abbrev pub if_under : ℕ → List FolderAt → Change → List Change
if_under top known told = if is_under top known told then told ∷ [] else []

-- The changes under a folder, in order, where things stand so before the first.
unfoldable pub under : ℕ → List FolderAt → List Change → List Change
under top known [] = []
under top known (told ∷ rest) = if_under top known told ++ under top (after_change known told) rest

-- ---- who hears of them

-- Somebody who watches a folder for another: the folder, for how many ids there is room, where things stand, what was told, whether he has left, and the other.
pub record Watching (W : Type 0) : Type 0 where
  pub top : ℕ
  pub room : ℕ
  pub known : List FolderAt
  pub told : List Change
  pub has_left : Bool
  pub inner : W

abbrev pub is_made : ChangeKind → Bool
is_made change.Made = true
is_made _ = false

-- something is made, and there is no room for its id
abbrev pub is_crowded : ℕ → List FolderAt → Change → Bool
is_crowded room known told = is_made told.kind && nat_le room (length known)

-- he has kept a change, and knows where things stand after it
abbrev pub with_change : {W : Type 0} → Change → Watching W → Watching W
with_change change watching = record watching { known = after_change watching.known change; told = watching.told ++ change ∷ [] }

-- What came of a change, by cases: he had left before; there is no room, and he leaves; the change doesn't lie under the folder, and the other isn't told; the
-- other is told, and stays; or he is told, and both leave.
pub data HearsUnder {W : Type 0} (told : W → List Change) (leaves : W → Bool) (change : Change) (old : Watching W) : Watching W → Keep → Type 0 where
  had_left : old.has_left ≡ true → HearsUnder told leaves change old old Leave
  no_room : old.has_left ≡ false → is_crowded old.room old.known change ≡ true → HearsUnder told leaves change old (record old { has_left = true }) Leave
  elsewhere : old.has_left ≡ false → is_crowded old.room old.known change ≡ false → is_under old.top old.known change ≡ false → HearsUnder told leaves change old (with_change change old) Stay
  both_stay : {inner : W} → old.has_left ≡ false → is_crowded old.room old.known change ≡ false → is_under old.top old.known change ≡ true
      → told inner ≡ told old.inner ++ change ∷ [] → leaves inner ≡ false → HearsUnder told leaves change old (record (with_change change old) { inner = inner }) Stay
  both_leave : {inner : W} → old.has_left ≡ false → is_crowded old.room old.known change ≡ false → is_under old.top old.known change ≡ true
      → (told inner ≡ told old.inner ++ change ∷ []) ⊎ (told inner ≡ told old.inner) → leaves inner ≡ true → HearsUnder told leaves change old (record (with_change change old) { has_left = true; inner = inner }) Leave

-- Who watches a folder for another heard these changes, and told the other those under the folder, in order.
pub record TellsUnder {W : Type 0} (told : W → List Change) (changes : List Change) (old new : Watching W) : Type 0 where
  pub heard : new.told ≡ old.told ++ changes
  pub passed_on : told new.inner ≡ told old.inner ++ under old.top old.known changes
  pub known : new.known ≡ after_changes old.known changes
  pub top : new.top ≡ old.top
  pub room : new.room ≡ old.room
