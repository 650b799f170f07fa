-- Symbolic links and resource forks, on the tree of a volume as it is formatted, computed.
use Rattle.std.specs.Prelude.{◌≡◌, refl, ℕ, List, [], ◌∷◌, codes, Result, Ok, Err}
use Rattle.std.specs.Char.{encode_utf8}
use Rattle.std.specs.Str.{chars, is_utf8}
use Rattle.unicode_normalization.proofs.Computing.{unicode_normalization}
use Rattle.hfs_language.specs.declared.command.Command.TheVariants as command
use Rattle.hfs_language.specs.declared.refusal.Refusal.TheVariants as refusal
use Rattle.hfs_language.specs.declared.reply.Reply.{Reply}
use Rattle.hfs_language.specs.declared.reply.Reply.TheVariants as reply
use Rattle.hfs_model.specs.declared.kinds.KindEdit.TheVariants as edit
use Rattle.hfs_model.specs.declared.plain.PlainTree.{PlainTree}
use Rattle.hfs_model.specs.Kinds.{kind_told}
use Rattle.hfs_model.specs.Plain.{fresh_tree}
use Rattle.hfs_model.specs.Step.{step_line}
use Rattle.hfs_model.specs.Targets.{is_target}
use Rattle.hfs_volume.specs.declared.asked.Asked.{Asked}
use Rattle.hfs_volume.specs.declared.asked.Asked.TheVariants.{Kind, Plain}
use Rattle.link_kinds.specs.declared.kinds.KindRefusal.TheVariants as kinds
use Rattle.link_kinds.specs.Resolves.{resolves}
use Rattle.worked_rows.proofs.Rows.{file_facts, refused}

-- the replies to commands of both languages, on a tree
abbrev answers : PlainTree → List Asked → List Reply
answers tree [] = []
answers tree (Plain asked ∷ rest) = (step_line tree (Ok asked)).0 ∷ answers (step_line tree (Ok asked)).1 rest
answers tree (Kind asked ∷ rest) = (kind_told tree asked).0 ∷ answers (kind_told tree asked).1 rest

-- the tree after them
abbrev left_by : PlainTree → List Asked → PlainTree
left_by tree [] = tree
left_by tree (Plain asked ∷ rest) = left_by (step_line tree (Ok asked)).1 rest
left_by tree (Kind asked ∷ rest) = left_by (kind_told tree asked).1 rest

abbrev d : List ℕ
d = codes "d"

abbrev f : List ℕ
f = codes "f"

abbrev l : List ℕ
l = codes "l"

abbrev m : List ℕ
m = codes "m"

-- ---- resource forks

-- bytes that are written behind the end of a resource fork stand behind zeros, and no other fact of the file tells of them
abbrev forks : List Asked
forks = Plain (command.Create (f ∷ [])) ∷ Kind (edit.ResourceWrite (f ∷ []) 3 (codes "ab")) ∷ []

a_resource_fork_is_read : answers fresh_tree (Plain (command.Create (f ∷ [])) ∷ Kind (edit.ResourceWrite (f ∷ []) 3 (codes "ab")) ∷ Kind (edit.ResourceRead (f ∷ []) 0 9) ∷ Plain (command.Stat (f ∷ [])) ∷ Kind (edit.ResourceRead (f ∷ []) 0 65537) ∷ [])
    ≡ reply.Ok ∷ reply.Ok ∷ reply.Content (0 ∷ 0 ∷ 0 ∷ codes "ab") ∷ file_facts 18 0 1 420 ∷ refused refusal.TooLarge ∷ []
a_resource_fork_is_read = refl

-- nothing lies below a file, and a name that isn't there leads nowhere
nothing_below_a_file : resolves (left_by fresh_tree forks) (f ∷ codes "x" ∷ []) ≡ Err kinds.NotFolder
nothing_below_a_file = refl

no_such_name : resolves (left_by fresh_tree forks) (codes "q" ∷ []) ≡ Err kinds.NotFound
no_such_name = refl

-- ---- symbolic links

abbrev links : List Asked
links = Plain (command.Mkdir (d ∷ [])) ∷ Plain (command.Create (d ∷ f ∷ [])) ∷ Kind (edit.Symlink (l ∷ []) (codes "d/../d/f")) ∷ Kind (edit.Symlink (m ∷ []) (codes "/m")) ∷ []

-- links are made, whatever they lead to, but with no empty text
links_are_made : answers fresh_tree (Plain (command.Mkdir (d ∷ [])) ∷ Plain (command.Create (d ∷ f ∷ [])) ∷ Kind (edit.Symlink (l ∷ []) (codes "d/../d/f")) ∷ Kind (edit.Symlink (m ∷ []) (codes "/m")) ∷ Kind (edit.Symlink (codes "e" ∷ []) []) ∷ [])
    ≡ reply.Ok ∷ reply.Ok ∷ reply.Ok ∷ reply.Ok ∷ refused refusal.BadTarget ∷ []
unfolding is_target is_utf8 chars encode_utf8 unicode_normalization
links_are_made = refl

-- a link leads where its text does
a_link_leads_on : resolves (left_by fresh_tree links) (l ∷ []) ≡ Ok (d ∷ f ∷ [])
unfolding is_target is_utf8 chars encode_utf8 unicode_normalization
a_link_leads_on = refl

-- and one to itself nowhere, after 16 of them
a_link_to_itself : resolves (left_by fresh_tree links) (m ∷ []) ≡ Err (kinds.TooManySteps 16)
unfolding is_target is_utf8 chars encode_utf8 unicode_normalization
a_link_to_itself = refl
