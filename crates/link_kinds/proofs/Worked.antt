-- Where paths lead on the tree of a freshly formatted volume with a folder and a file, computed.
use Rattle.std.specs.Prelude.{◌≡◌, refl, [], ◌∷◌, codes, map, Ok, Err}
use Rattle.hfs_language.specs.declared.command.Command.TheVariants as plain
use Rattle.hfs_model.specs.declared.plain.PlainTree.{PlainTree}
use Rattle.hfs_model.specs.Plain.{fresh_tree}
use Rattle.hfs_model.specs.Step.{step}
use Rattle.open_files.specs.Keeping.{keeping_name}
use Rattle.link_kinds.specs.declared.kinds.KindRefusal.TheVariants as why
use Rattle.hfs_model.specs.declared.kinds.Sight.TheVariants as sight
use Rattle.link_kinds.specs.Resolves.{resolve, resolves}

-- a folder `d` with a file `f`
abbrev a_file : PlainTree
a_file = (step (step fresh_tree (plain.Mkdir (codes "d" ∷ []))).1 (plain.Create (codes "d" ∷ codes "f" ∷ []))).1

-- through a folder and back, above the root, to a file and past it
paths_are_followed : map (resolves a_file) (
    (codes "d" ∷ codes ".." ∷ codes "d" ∷ codes "f" ∷ []) ∷ (codes ".." ∷ codes "." ∷ codes "d" ∷ []) ∷ (codes "d" ∷ codes "f" ∷ codes "x" ∷ []) ∷ (codes "q" ∷ []) ∷ [] ∷ []
    ) ≡ Ok (codes "d" ∷ codes "f" ∷ []) ∷ Ok (codes "d" ∷ []) ∷ Err why.NotFolder ∷ Err why.NotFound ∷ Ok [] ∷ []
paths_are_followed = refl

-- the volume's own files and the keeping folder count as absent
own_names_are_absent : map (resolves (step a_file (plain.Mkdir (keeping_name ∷ []))).1) ((codes ".journal" ∷ []) ∷ (keeping_name ∷ []) ∷ []) ≡ Err why.NotFound ∷ Err why.NotFound ∷ []
own_names_are_absent = refl

-- a link is met, and none may be followed any more
too_many_links : resolve (λ parent name. sight.Link (codes "x")) 0 [] (codes "a" ∷ []) ≡ Err (why.TooManySteps 16)
too_many_links = refl
