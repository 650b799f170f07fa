-- Which rows a folder leads to, and how far a walk from it has come.
use Rattle.std.specs.Prelude.{◌≡◌, ◌<◌, ◌≤◌, ◌==◌, ◌&&◌, ◌||◌, ◌+◌, ℕ, Bool, true, false, List, [], ◌∷◌, length, Contains, slice_index, slice_index_or, if◌then◌else◌}
use Rattle.flag_rows.specs.Bits.{count_set}
use Rattle.fsck_core.specs.Rows.{row_at}
use Rattle.fsck_core.specs.declared.rows.Row.{Row}

-- the row of the root: the folder with CNID 2 and parent 1
abbrev pub is_root_row : Row → Bool
is_root_row row = row.folder && ((row.id == 2) && (row.parent == 1))

-- A folder, by its CNID, is this one, or lies below it: its parent does.
pub data IsBelow (top : ℕ) (rows : List Row) : ℕ → Type 0 where
  is_top : IsBelow top rows top
  under : (id : ℕ) (row : Row) → Contains rows row → row.folder ≡ true → row.id ≡ id → IsBelow top rows row.parent → IsBelow top rows id

-- a place is marked; past the last one none is
abbrev pub marked : List Bool → ℕ → Bool
marked marks k = slice_index_or marks k false

-- The rows that are marked are those whose parents lead to a folder.
pub record Leads (top : ℕ) (rows : List Row) (marks : List Bool) : Type 0 where
  pub sound : (k : ℕ) → k < length rows → marked marks k ≡ true → IsBelow top rows (row_at rows k).parent
  pub whole : (k : ℕ) → k < length rows → IsBelow top rows (row_at rows k).parent → marked marks k ≡ true

-- what a row adds to the folders that are still to be entered
abbrev pub folder_of : Bool → Row → List ℕ
folder_of seen row = if seen then [] else if row.folder then row.id ∷ [] else []

-- Rows that are marked, and folders that were reached: each lies below a folder, and each folder that is marked is among them.
pub record IsReaching (top : ℕ) (rows : List Row) (marks : List Bool) (folders : List ℕ) : Type 0 where
  pub sound : (k : ℕ) → k < length rows → marked marks k ≡ true → IsBelow top rows (row_at rows k).parent
  pub below : (id : ℕ) → Contains folders id → IsBelow top rows id
  pub next : (k : ℕ) → k < length rows → marked marks k ≡ true → (row_at rows k).folder ≡ true → Contains folders (row_at rows k).id

-- What is marked stays so, and what was reached stays where it is.
pub record Grows (marks : List Bool) (folders : List ℕ) (more : List Bool) (further : List ℕ) : Type 0 where
  pub still : (k : ℕ) → marked marks k ≡ true → marked more k ≡ true
  pub long : length folders ≤ length further
  pub same : (i : ℕ) → i < length folders → slice_index further i ≡ slice_index folders i

-- The rows from one place up to another are marked.
pub record Enters (top : ℕ) (rows : List Row) (from to : ℕ) (marks : List Bool) (folders : List ℕ) (more : List Bool) (further : List ℕ) : Type 0 where
  pub reaching : IsReaching top rows more further
  pub grows : Grows marks folders more further
  pub all : (k : ℕ) → from ≤ k → k < to → marked more k ≡ true

-- All rows of a parent are marked.
pub record EntersAll (top : ℕ) (rows : List Row) (id : ℕ) (marks : List Bool) (folders : List ℕ) (more : List Bool) (further : List ℕ) : Type 0 where
  pub reaching : IsReaching top rows more further
  pub grows : Grows marks folders more further
  pub all : (k : ℕ) → k < length rows → (row_at rows k).parent ≡ id → marked more k ≡ true

-- A walk down from a folder has entered the first so many of the folders that it reached.
pub record IsWalking (top : ℕ) (rows : List Row) (marks : List Bool) (folders : List ℕ) (at : ℕ) : Type 0 where
  pub reaching : IsReaching top rows marks folders
  pub first : Contains folders top
  pub done : (i : ℕ) → i < at → (k : ℕ) → k < length rows → (row_at rows k).parent ≡ slice_index folders i → marked marks k ≡ true

-- so many folders were reached as rows were marked, or fewer
abbrev pub HasRoom : List Bool → List ℕ → List Bool → List ℕ → Type 0
HasRoom marks folders more further = length further + count_set marks ≤ length folders + count_set more

-- a row is the root's, or is marked
abbrev pub is_reached : Row → Bool → Bool
is_reached row mark = is_root_row row || mark

-- each row is
abbrev pub AreReached : List Row → List Bool → Type 0
AreReached rows marks = (k : ℕ) → k < length rows → is_reached (row_at rows k) (marked marks k) ≡ true

-- a row under this id is neither
abbrev pub FailsReach : List Row → List Bool → ℕ → Type 0
FailsReach rows marks place = (k : ℕ) × (k < length rows) × ((row_at rows k).id ≡ place) × (is_reached (row_at rows k) (marked marks k) ≡ false)
