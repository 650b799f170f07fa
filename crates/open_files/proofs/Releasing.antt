-- The keeping folder is made, and a file is released: users see the tree as it was.
use Rattle.std.proofs.Common.{◌≡◌, ℕ, Bool, true, false, List, [], ◌∷◌, ◌++◌, refl, sym, ◌∙◌, ap, arith}
use Rattle.std.specs.Prelude.{◌==◌, ◌&&◌, not, find, Some, if◌then◌else◌}
use Rattle.std.specs.List.{AllByRecursion}
use Rattle.std.specs.Str.{bytes_eq}
use Rattle.hfs_model.specs.declared.plain.PlainEntry.{PlainEntry}
use Rattle.hfs_model.specs.declared.plain.PlainTree.{PlainTree}
use Rattle.hfs_model.specs.Plain.{is_at, without_entry}
use Rattle.hfs_model.specs.Sorted.{kept}
use Rattle.open_files.specs.Keeping.{keeping_name, seen, seen_entries}
use Rattle.open_files.proofs.Lists.{kept_twice}
use Rattle.open_files.proofs.Saving.{Keeps, seen_by, seen_of}

pub and_false : (b : Bool) → (b && false) ≡ false
and_false true = refl
and_false false = refl

pub same_eqb : (n : ℕ) → (n == n) ≡ true
same_eqb n = grind arith

-- an item of the folder fails the test of what is seen
inside_hidden : (folder : PlainEntry) (entry : PlainEntry) → (entry.parent == folder.id) ≡ true → seen_by (Some folder) entry ≡ false
inside_hidden folder entry is = ap (λ b. not (is_at 2 keeping_name entry) && not b) is ∙ and_false (not (is_at 2 keeping_name entry))

-- what isn't left out by a test that says `not at a place in the folder` is no matter to what is seen
module _ (tree : PlainTree) (folder : PlainEntry) (parent : ℕ) (name : List ℕ) (keeps : Keeps tree folder) (inside : parent ≡ folder.id) where
  abbrev left : List PlainEntry
  left = kept (λ entry. not (is_at parent name entry)) tree.entries

  gone_hidden : (entry : PlainEntry) → not (is_at parent name entry) ≡ false → seen_by (Some folder) entry ≡ false
  gone_hidden entry gone = inside_hidden folder entry (ap (λ n. entry.parent == n) (sym inside) ∙ at_parent (entry.parent == parent) (bytes_eq entry.name name) gone)
    where
      at_parent : (a b : Bool) → not (a && b) ≡ false → a ≡ true
      at_parent true b is = refl
      at_parent false b is = sym is

  each_hidden : (entries : List PlainEntry) → AllByRecursion (λ entry. not (is_at parent name entry) ≡ false → seen_by (Some folder) entry ≡ false) entries
  each_hidden [] = tt
  each_hidden (entry ∷ rest) = (gone_hidden entry, each_hidden rest)

  -- the folder itself is looked up as before
  root_kept : (entry : PlainEntry) → not (is_at parent name entry) ≡ false → is_at 2 keeping_name entry ≡ false
  root_kept entry gone = elsewhere (entry.parent == 2) (bytes_eq entry.name keeping_name) (not_root (entry.parent == parent) (bytes_eq entry.name name) gone)
    where
      elsewhere : (a b : Bool) → a ≡ false → (a && b) ≡ false
      elsewhere a b is = ap (λ c. c && b) is

      not_root : (a b : Bool) → not (a && b) ≡ false → (entry.parent == 2) ≡ false
      not_root a b is = grind (arith, keeps.below, inside, gone)

  find_left : (entries : List PlainEntry) → find (is_at 2 keeping_name) (kept (λ entry. not (is_at parent name entry)) entries) ≡ find (is_at 2 keeping_name) entries
  find_left [] = refl
  find_left (entry ∷ rest) = left_cases (not (is_at parent name entry)) (root_kept entry) (find_left rest)
    where
      left_cases : (b : Bool) → (b ≡ false → is_at 2 keeping_name entry ≡ false) → find (is_at 2 keeping_name) (kept (λ entry. not (is_at parent name entry)) rest) ≡ find (is_at 2 keeping_name) rest
          → find (is_at 2 keeping_name) ((if b then entry ∷ [] else []) ++ kept (λ entry. not (is_at parent name entry)) rest) ≡ find (is_at 2 keeping_name) (entry ∷ rest)
      left_cases true out later = ap (λ f. if is_at 2 keeping_name entry then Some entry else f) later
      left_cases false out later = later ∙ ap (λ b. if b then Some entry else find (is_at 2 keeping_name) rest) (sym (out refl))

  -- An entry of the keeping folder goes: users see the same names.
  pub names_left : seen_entries (without_entry parent name tree) ≡ seen_entries tree
  names_left =
      ap (λ f. kept (seen_by f) left) (find_left tree.entries ∙ keeps.is) ∙ kept_twice (seen_by (Some folder)) (λ entry. not (is_at parent name entry)) tree.entries (each_hidden tree.entries)
      ∙ ap (λ f. kept (seen_by f) tree.entries) (sym keeps.is)

  pub without_unseen : seen (without_entry parent name tree) ≡ seen tree
  without_unseen = ap (λ names. seen_of names tree.nodes) names_left
