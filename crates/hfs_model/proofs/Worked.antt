-- The replies to commands on the tree of a freshly formatted volume, computed.
use Rattle.std.specs.Prelude.{◌≡◌, refl, ℕ, List, [], ◌∷◌, ◌++◌, codes, true, false, replicate}
use Rattle.hfs_language.specs.declared.command.Command.{Command}
use Rattle.hfs_language.specs.declared.command.Command.TheVariants as command
use Rattle.hfs_language.specs.declared.refusal.Refusal.TheVariants as refusal
use Rattle.hfs_language.specs.declared.reply.Reply.{Reply}
use Rattle.hfs_language.specs.declared.reply.Reply.TheVariants as reply
use Rattle.hfs_language.specs.declared.reply.ListedName.{ListedName}
use Rattle.hfs_model.specs.declared.plain.PlainTree.{PlainTree}
use Rattle.hfs_model.specs.Plain.{fresh_tree}
use Rattle.hfs_model.specs.Step.{step}

-- the replies to commands, one after the other
abbrev replies : PlainTree → List Command → List Reply
replies tree [] = []
replies tree (asked ∷ rest) = (step tree asked).0 ∷ replies (step tree asked).1 rest

abbrev folder_facts : ℕ → ℕ → ℕ → ℕ → ℕ → ℕ → Reply
folder_facts id size mode created changed attribute =
    reply.Facts (record { folder = true; id = id; size = size; links = 0; mode = mode; created = created; changed = changed; attribute = attribute })

abbrev file_facts : ℕ → ℕ → ℕ → ℕ → ℕ → ℕ → ℕ → Reply
file_facts id size links mode created changed attribute =
    reply.Facts (record { folder = false; id = id; size = size; links = links; mode = mode; created = created; changed = changed; attribute = attribute })

abbrev folder_named : List ℕ → ListedName
folder_named name = record { name = name; folder = true }

abbrev a : List ℕ
a = codes "a"

abbrev b : List ℕ
b = codes "b"

abbrev c : List ℕ
c = codes "c"

abbrev f : List ℕ
f = codes "f"

abbrev z : List ℕ
z = codes "z"

abbrev x : List ℕ
x = codes "x"

-- the journal's files are no entries of the root
a_new_folder_is_listed : replies fresh_tree (command.Mkdir (x ∷ []) ∷ command.Ls [] ∷ []) ≡ reply.Ok ∷ reply.Listing (folder_named x ∷ []) ∷ []
a_new_folder_is_listed = refl

-- one refusal after the other
refusals_in_order : replies fresh_tree (command.Mkdir (a ∷ []) ∷ command.Mv (a ∷ []) (a ∷ b ∷ []) ∷ command.Create (a ∷ f ∷ []) ∷ command.Rmdir (a ∷ []) ∷ command.Rm [] ∷ command.Rm (a ∷ []) ∷ command.Ls (a ∷ f ∷ []) ∷ command.Stat (z ∷ []) ∷ [])
    ≡ reply.Ok ∷ reply.No refusal.Inside ∷ reply.Ok ∷ reply.No refusal.NotEmpty ∷ reply.No refusal.Root ∷ reply.No refusal.IsFolder ∷ reply.No refusal.NotFolder ∷ reply.No refusal.NotFound ∷ []
refusals_in_order = refl

-- The first further name draws three ids, with that of the private folder, and a later one draws one. The file goes with its last name.
names_come_and_go : replies fresh_tree (command.Create (a ∷ []) ∷ command.Write (a ∷ []) 0 (codes "hi") ∷ command.Ln (a ∷ []) (b ∷ []) ∷ command.Stat (b ∷ []) ∷ command.Ln (b ∷ []) (c ∷ []) ∷ command.Rm (a ∷ []) ∷ command.Stat (c ∷ []) ∷ command.Rm (b ∷ [])
    ∷ command.Read (c ∷ []) 0 9 ∷ command.Rm (c ∷ []) ∷ command.Create (z ∷ []) ∷ command.Stat (z ∷ []) ∷ [])
    ≡ reply.Ok ∷ reply.Ok ∷ reply.Ok ∷ file_facts 18 2 2 420 0 0 0 ∷ reply.Ok ∷ reply.Ok ∷ file_facts 18 2 2 420 0 0 0 ∷ reply.Ok ∷ reply.Content (codes "hi") ∷ reply.Ok ∷ reply.Ok ∷ file_facts 23 0 1 420 0 0 0 ∷ []
names_come_and_go = refl

-- three dates, and sizes that are too large
dates_and_sizes : replies fresh_tree (command.At 100 ∷ command.Create (a ∷ []) ∷ command.At 200 ∷ command.Write (a ∷ []) 0 (codes "x") ∷ command.Chmod (a ∷ []) 384 ∷ command.Stat (a ∷ []) ∷ command.Read (a ∷ []) 1 5 ∷ command.Read (a ∷ []) 0 65537 ∷ command.Trunc (a ∷ []) 1048578 ∷ [])
    ≡ reply.Ok ∷ reply.Ok ∷ reply.Ok ∷ reply.Ok ∷ reply.Ok ∷ file_facts 18 1 1 384 100 200 200 ∷ reply.Content [] ∷ reply.No refusal.TooLarge ∷ reply.Ok ∷ []
dates_and_sizes = refl

-- a gap reads as zeros, and `read` ends at the end of the file
gaps_read_as_zeros : replies fresh_tree (command.Create (f ∷ []) ∷ command.Write (f ∷ []) 5 (codes "hello") ∷ command.Write (f ∷ []) 12 (codes "wxyz") ∷ command.Read (f ∷ []) 10 10 ∷ command.Read (f ∷ []) 0 11 ∷ command.Stat (f ∷ []) ∷ [])
    ≡ reply.Ok ∷ reply.Ok ∷ reply.Ok ∷ reply.Content (0 ∷ 0 ∷ codes "wxyz") ∷ reply.Content (0 ∷ 0 ∷ 0 ∷ 0 ∷ 0 ∷ codes "hello" ++ 0 ∷ []) ∷ file_facts 18 16 1 420 0 0 0 ∷ []
gaps_read_as_zeros = refl

-- attributes are those of the file, whichever of its names is used, and stand in the order of their names
attributes_of_a_file : replies fresh_tree (command.Create (a ∷ []) ∷ command.SetAttr (a ∷ []) (codes "k") (codes "v") ∷ command.SetAttr (a ∷ []) (codes "e") [] ∷ command.GetAttr (a ∷ []) (codes "e") ∷ command.Ln (a ∷ []) (b ∷ [])
    ∷ command.LsAttr (b ∷ []) ∷ command.DelAttr (b ∷ []) (codes "k") ∷ command.GetAttr (a ∷ []) (codes "k") ∷ [])
    ≡ reply.Ok ∷ reply.Ok ∷ reply.Ok ∷ reply.Content [] ∷ reply.Ok ∷ reply.Listing (record { name = codes "e"; folder = false } ∷ record { name = codes "k"; folder = false } ∷ []) ∷ reply.Ok ∷ reply.No refusal.NoAttribute ∷ []
attributes_of_a_file = refl

-- a `write` of no byte changes no date and no size, wherever it is
no_byte_is_no_change : replies fresh_tree (command.Create (a ∷ []) ∷ command.At 9 ∷ command.Write (a ∷ []) 2000000 [] ∷ command.Stat (a ∷ []) ∷ command.Trunc (a ∷ []) 0 ∷ command.Stat (a ∷ []) ∷ [])
    ≡ reply.Ok ∷ reply.Ok ∷ reply.Ok ∷ file_facts 18 0 1 420 0 0 0 ∷ reply.Ok ∷ file_facts 18 0 1 420 0 9 9 ∷ []
no_byte_is_no_change = refl

-- a folder that moves takes what is in it along, and both folders above are dated
folders_move_whole : replies fresh_tree (command.Mkdir (a ∷ []) ∷ command.Create (a ∷ f ∷ []) ∷ command.Mkdir (b ∷ []) ∷ command.At 7 ∷ command.Mv (a ∷ []) (b ∷ c ∷ []) ∷ command.Stat (b ∷ c ∷ f ∷ []) ∷ command.Stat (b ∷ []) ∷ command.Stat (b ∷ c ∷ []) ∷ command.Stat (a ∷ []) ∷ [])
    ≡ reply.Ok ∷ reply.Ok ∷ reply.Ok ∷ reply.Ok ∷ reply.Ok ∷ file_facts 19 0 1 420 0 0 0 ∷ folder_facts 20 1 493 0 7 7 ∷ folder_facts 18 1 493 0 0 7 ∷ reply.No refusal.NotFound ∷ []
folders_move_whole = refl
