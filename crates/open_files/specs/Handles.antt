-- Which files sessions have open.
use Rattle.std.specs.Prelude.{◌≡◌, ℕ, zero, suc, ◌+◌, ◌==◌, ◌&&◌, Bool, not, List, map, find, Option, Some, None, if◌then◌else◌}
use Rattle.std.specs.List.{list_any}
use Rattle.hfs_model.specs.Sorted.{kept, put_before}
use Rattle.open_files.specs.declared.act.OpenFile.{OpenFile}
use Rattle.open_files.specs.declared.table.Opened.{Opened}
use Rattle.open_files.specs.declared.table.Opened.TheVariants as opened
use Rattle.open_files.specs.declared.table.Closed.{Closed}
use Rattle.open_files.specs.declared.table.Closed.TheVariants as closed
use Rattle.open_files.specs.Order.{handle_before}

-- how many handles a session has at most
abbrev pub most_open : ℕ
most_open = 256

-- the file is open under this handle of this session
abbrev pub is_handle : ℕ → ℕ → OpenFile → Bool
is_handle session handle opened = (opened.session == session) && (opened.handle == handle)

-- the handle is open in the session
abbrev pub is_open : List OpenFile → ℕ → ℕ → Bool
is_open handles session handle = list_any (is_handle session handle) handles

-- the file of a handle
abbrev pub file_of : List OpenFile → ℕ → ℕ → Option ℕ
file_of handles session handle = the_file (find (is_handle session handle) handles)
  where
    the_file : Option OpenFile → Option ℕ
    the_file None = None
    the_file (Some opened) = Some opened.file

-- some session has the file open
abbrev pub is_held : List OpenFile → ℕ → Bool
is_held handles id = list_any (λ opened. opened.file == id) handles

-- the first of so many numbers, from this one on, that isn't open in the session
unfoldable pub first_free : List OpenFile → ℕ → ℕ → ℕ → Option ℕ
first_free handles session zero number = None
first_free handles session (suc more) number = if is_open handles session number then first_free handles session more (number + 1) else Some number

-- The least number from 1 that isn't open in the session; none where it has as many as it may have.
abbrev pub free_handle : List OpenFile → ℕ → Option ℕ
free_handle handles session = first_free handles session most_open 1

-- one more is open
abbrev pub with_handle : OpenFile → List OpenFile → List OpenFile
with_handle opened handles = put_before handle_before opened handles

-- all but this handle
abbrev pub without_handle : ℕ → ℕ → List OpenFile → List OpenFile
without_handle session handle handles = kept (λ opened. not (is_handle session handle opened)) handles

-- the handles of the other sessions
abbrev pub without_session : ℕ → List OpenFile → List OpenFile
without_session session handles = kept (λ opened. not (opened.session == session)) handles

-- the files that a session has open, in the order of its handles; one that it has open twice comes twice
abbrev pub files_of : ℕ → List OpenFile → List ℕ
files_of session handles = map (λ opened. opened.file) (kept (λ opened. opened.session == session) handles)

abbrev pub handle_in : Option OpenFile → Option ℕ
handle_in None = None
handle_in (Some opened) = Some opened.handle

-- the least handle that a session has, which stands first
abbrev pub first_handle : List OpenFile → ℕ → Option ℕ
first_handle handles session = handle_in (find (λ opened. opened.session == session) handles)

-- ---- what the table is asked for

-- A file was to be opened: it has the session's free handle, or there is none.
abbrev pub Opens : List OpenFile → ℕ → ℕ → Opened → List OpenFile → Type 0
Opens old session id (opened.Handle handle) new = (free_handle old session ≡ Some handle) × (new ≡ with_handle (record { session = session; handle = handle; file = id }) old)
Opens old session id opened.TooManyOpen new = (free_handle old session ≡ None) × (new ≡ old)

-- whether these handles name the file that was another's
abbrev pub closed_from : List OpenFile → Option ℕ → Closed
closed_from left None = closed.NoHandle
closed_from left (Some id) = if is_held left id then closed.Still else closed.Gone id

-- A handle was to be closed: another handle names its file, or none does any more, or it wasn't open.
abbrev pub close_of : List OpenFile → ℕ → ℕ → Closed
close_of handles session handle = closed_from (without_handle session handle handles) (file_of handles session handle)
