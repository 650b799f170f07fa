-- Replies on the tree of a volume as it is formatted, computed.
use Rattle.std.specs.Prelude.{◌≡◌, refl, ℕ, ◌%◌, List, [], ◌∷◌, ◌++◌, codes, decimal, true, false, replicate, map, Result, Ok, Err}
use Rattle.std.specs.Fmt.{digits}
use Rattle.std.specs.List.{range_with_len, flat_map}
use Rattle.hfs_language.specs.declared.command.Command.{Command}
use Rattle.hfs_language.specs.declared.command.Command.TheVariants as command
use Rattle.hfs_language.specs.declared.refusal.Refusal.{Refusal}
use Rattle.hfs_language.specs.declared.refusal.Refusal.TheVariants as refusal
use Rattle.hfs_language.specs.declared.reply.Reply.TheVariants as reply
use Rattle.hfs_model.specs.Plain.{fresh_tree}
use Rattle.hfs_model.specs.Step.{journal_name}
use Rattle.worked_rows.proofs.Rows.{replies, oks, refused, folder_facts, file_facts, named, grown_in_turn}

abbrev Line : Type 0
Line = Result Command Refusal

abbrev a : List ℕ
a = codes "a"

abbrev b : List ℕ
b = codes "b"

abbrev c : List ℕ
c = codes "c"

abbrev f : List ℕ
f = codes "f"

abbrev g : List ℕ
g = codes "g"

-- a line that spells no command is refused, and the next one is answered
a_line_without_a_command : replies fresh_tree (Ok (command.Mkdir (a ∷ [])) ∷ Err refusal.BadCommand ∷ Ok (command.Ls []) ∷ [])
    ≡ reply.Ok ∷ refused refusal.BadCommand ∷ reply.Listing (named true a ∷ []) ∷ []
a_line_without_a_command = refl

-- a name of 255 units is one
a_long_name_is_listed : replies fresh_tree (Ok (command.Mkdir (replicate 255 97 ∷ [])) ∷ Ok (command.Ls []) ∷ []) ≡ reply.Ok ∷ reply.Listing (named true (replicate 255 97) ∷ []) ∷ []
a_long_name_is_listed = refl

-- names are told apart by case, and listed unit by unit: `e` with an accent behind it comes last
names_in_order : replies fresh_tree (Ok (command.Create ((101 ∷ 769 ∷ []) ∷ [])) ∷ Ok (command.Create ((101 ∷ 769 ∷ []) ∷ [])) ∷ Ok (command.Create (codes "A" ∷ [])) ∷ Ok (command.Create (a ∷ [])) ∷ Ok (command.Ls []) ∷ [])
    ≡ reply.Ok ∷ refused refusal.Exists ∷ reply.Ok ∷ reply.Ok ∷ reply.Listing (named false (codes "A") ∷ named false a ∷ named false (101 ∷ 769 ∷ []) ∷ []) ∷ []
names_in_order = refl

-- a name has any units, 0 among them
units_of_names : replies fresh_tree (Ok (command.Create ((0 ∷ 97 ∷ 32 ∷ 98 ∷ []) ∷ [])) ∷ Ok (command.Ls []) ∷ Ok (command.Create (codes "50%" ∷ [])) ∷ Ok (command.Stat (codes "50%" ∷ [])) ∷ [])
    ≡ reply.Ok ∷ reply.Listing (named false (0 ∷ 97 ∷ 32 ∷ 98 ∷ []) ∷ []) ∷ reply.Ok ∷ file_facts 19 0 1 420 ∷ []
units_of_names = refl

-- the volume's own names in the root are refused, and no others
own_names_are_private : replies fresh_tree (Ok (command.Mkdir (journal_name ∷ [])) ∷ Ok (command.Mkdir (a ∷ [])) ∷ Ok (command.Mkdir (a ∷ journal_name ∷ [])) ∷ Ok (command.Ls (a ∷ [])) ∷ [])
    ≡ refused refusal.Private ∷ reply.Ok ∷ reply.Ok ∷ reply.Listing (named true journal_name ∷ []) ∷ []
own_names_are_private = refl

-- four bytes over the end of a block of 4,096: what lies before them reads as zeros
a_gap_over_a_block : replies fresh_tree (Ok (command.Create (f ∷ [])) ∷ Ok (command.Write (f ∷ []) 5 (codes "hello")) ∷ Ok (command.Write (f ∷ []) 4094 (codes "wxyz")) ∷ Ok (command.Read (f ∷ []) 4092 10) ∷ Ok (command.Read (f ∷ []) 0 11) ∷ Ok (command.Stat (f ∷ [])) ∷ [])
    ≡ reply.Ok ∷ reply.Ok ∷ reply.Ok ∷ reply.Content (0 ∷ 0 ∷ codes "wxyz") ∷ reply.Content (0 ∷ 0 ∷ 0 ∷ 0 ∷ 0 ∷ codes "hello" ++ 0 ∷ []) ∷ file_facts 18 4098 1 420 ∷ []
a_gap_over_a_block = refl

-- a byte that was cut off is gone, and no byte may lie past 2 ^ 40
bytes_come_and_go : replies fresh_tree (Ok (command.Create (f ∷ [])) ∷ Ok (command.Write (f ∷ []) 0 []) ∷ Ok (command.Stat (f ∷ [])) ∷ Ok (command.Write (f ∷ []) 0 a) ∷ Ok (command.Trunc (f ∷ []) 0) ∷ Ok (command.Trunc (f ∷ []) 3) ∷ Ok (command.Read (f ∷ []) 0 5)
    ∷ Ok (command.Write (f ∷ []) 1099511627776 (codes "x")) ∷ [])
    ≡ reply.Ok ∷ reply.Ok ∷ file_facts 18 0 1 420 ∷ reply.Ok ∷ reply.Ok ∷ reply.Ok ∷ reply.Content (0 ∷ 0 ∷ 0 ∷ []) ∷ refused refusal.TooLarge ∷ []
bytes_come_and_go = refl

-- a folder that moves takes what is in it along
a_folder_moves : replies fresh_tree (Ok (command.Mkdir (a ∷ [])) ∷ Ok (command.Mkdir (a ∷ b ∷ [])) ∷ Ok (command.Create (a ∷ b ∷ f ∷ [])) ∷ Ok (command.Mv (a ∷ b ∷ []) (c ∷ [])) ∷ Ok (command.Ls (c ∷ [])) ∷ Ok (command.Stat (c ∷ [])) ∷ Ok (command.Ls (a ∷ []))
    ∷ Ok (command.Chmod (c ∷ f ∷ []) 7) ∷ Ok (command.Stat (c ∷ f ∷ [])) ∷ [])
    ≡ oks 4 ++ reply.Listing (named false f ∷ []) ∷ folder_facts 19 1 493 ∷ reply.Listing [] ∷ reply.Ok ∷ file_facts 20 0 1 7 ∷ []
a_folder_moves = refl

-- a value may have a byte more than a record holds; an attribute is one of the file under each of its names
attributes_of_a_file : replies fresh_tree (Ok (command.Create (a ∷ [])) ∷ Ok (command.SetAttr (a ∷ []) (codes "k") (replicate 1700 120)) ∷ Ok (command.SetAttr (a ∷ []) (codes "k") (replicate 1701 120)) ∷ Ok (command.SetAttr (a ∷ []) (codes "e") [])
    ∷ Ok (command.GetAttr (a ∷ []) (codes "e")) ∷ Ok (command.Ln (a ∷ []) (b ∷ [])) ∷ Ok (command.LsAttr (b ∷ [])) ∷ Ok (command.DelAttr (b ∷ []) (codes "k")) ∷ Ok (command.GetAttr (a ∷ []) (codes "k")) ∷ [])
    ≡ oks 4 ++ reply.Content [] ∷ reply.Ok ∷ reply.Listing (named false (codes "e") ∷ named false (codes "k") ∷ []) ∷ reply.Ok ∷ refused refusal.NoAttribute ∷ []
attributes_of_a_file = refl

-- the value of an attribute has 131,072 bytes at most; then it has one, and then there is none
longest_value : replies fresh_tree (Ok (command.Create (a ∷ [])) ∷ Ok (command.SetAttr (a ∷ []) (codes "k") (replicate 131072 120)) ∷ Ok (command.SetAttr (a ∷ []) (codes "k") (replicate 131073 120)) ∷ Ok (command.SetAttr (a ∷ []) (codes "k") (codes "y"))
    ∷ Ok (command.GetAttr (a ∷ []) (codes "k")) ∷ Ok (command.DelAttr (a ∷ []) (codes "k")) ∷ Ok (command.LsAttr (a ∷ [])) ∷ [])
    ≡ oks 2 ++ refused refusal.AttributeTooLarge ∷ reply.Ok ∷ reply.Content (codes "y") ∷ reply.Ok ∷ reply.Listing [] ∷ []
longest_value = refl

-- ---- long names come and go

abbrev letters : List ℕ
letters = codes "abcdefghijklmnopqrst"

abbrev long_name : ℕ → List ℕ
long_name letter = replicate 255 letter

long_names_come : replies fresh_tree (map (λ letter. Ok (command.Create (long_name letter ∷ []))) letters ++ Ok (command.Ls []) ∷ []) ≡ oks 20 ++ reply.Listing (map (λ letter. named false (long_name letter)) letters) ∷ []
long_names_come = refl

long_names_go : replies fresh_tree (map (λ letter. Ok (command.Create (long_name letter ∷ []))) letters ++ (map (λ letter. Ok (command.Rm (long_name letter ∷ []))) letters ++ Ok (command.Ls []) ∷ Ok (command.Stat []) ∷ []))
    ≡ oks 40 ++ reply.Listing [] ∷ folder_facts 2 0 493 ∷ []
long_names_go = refl

-- ---- two files grow in turn

abbrev two_files : List Line
two_files = Ok (command.Create (f ∷ [])) ∷ Ok (command.Create (g ∷ [])) ∷ []

files_grow_in_turn : replies fresh_tree (two_files ++ (grown_in_turn f g 0 9 ++ Ok (command.Trunc (f ∷ []) 32768) ∷ Ok (command.Trunc (g ∷ []) 32768) ∷ Ok (command.Stat (g ∷ [])) ∷ [])) ≡ oks 22 ++ file_facts 19 32768 1 420 ∷ []
files_grow_in_turn = refl

-- ---- a volume as an ordinary user fills it

abbrev folder_name : ℕ → List ℕ
folder_name k = codes "d" ++ decimal k

abbrev file_path : ℕ → List (List ℕ)
file_path i = folder_name (i % 6) ∷ (codes "f" ++ decimal i) ∷ []

abbrev link_path : ℕ → List (List ℕ)
link_path i = (codes "l" ++ decimal i) ∷ []

-- a file of 100,000 bytes
abbrev file_made : ℕ → List Line
file_made i = Ok (command.Create (file_path i)) ∷ Ok (command.Trunc (file_path i) 100000) ∷ []

ordinary_volume : replies fresh_tree
    (map (λ k. Ok (command.Mkdir (folder_name k ∷ []))) (range_with_len 0 6) ++ (flat_map file_made (range_with_len 1 3) ++ (map (λ i. Ok (command.Ln (file_path i) (link_path i))) (range_with_len 1 3)
    ++ (flat_map file_made (range_with_len 4 37) ++ map (λ k. Ok (command.SetAttr (folder_name k ∷ []) (codes "color") (codes "red"))) (range_with_len 0 5)))))
    ≡ oks 94
unfolding digits
ordinary_volume = refl

-- ---- a file of a mebibyte comes, goes and comes again

mebibyte_again : replies fresh_tree (Ok (command.Create (f ∷ [])) ∷ Ok (command.Trunc (f ∷ []) 1048576) ∷ Ok (command.Rm (f ∷ [])) ∷ Ok (command.Create (f ∷ [])) ∷ Ok (command.Trunc (f ∷ []) 1048576) ∷ []) ≡ oks 5
mebibyte_again = refl

-- ---- a file takes the place of another

-- `b` loses its name to `a` and keeps `c`; then it loses `c`, its last one, to the same file; a file that is moved onto itself stays; a folder isn't
-- replaced
a_file_is_replaced : replies fresh_tree (Ok (command.Create (a ∷ [])) ∷ Ok (command.Write (a ∷ []) 0 (codes "A")) ∷ Ok (command.Create (b ∷ [])) ∷ Ok (command.Write (b ∷ []) 0 (codes "BB")) ∷ Ok (command.Ln (b ∷ []) (c ∷ [])) ∷ Ok (command.Mv (a ∷ []) (b ∷ []))
    ∷ Ok (command.Read (b ∷ []) 0 9) ∷ Ok (command.Stat (c ∷ [])) ∷ Ok (command.Mv (b ∷ []) (c ∷ [])) ∷ Ok (command.Ls []) ∷ Ok (command.Read (c ∷ []) 0 9) ∷ Ok (command.Mv (c ∷ []) (c ∷ [])) ∷ Ok (command.Create (codes "z" ∷ [])) ∷ Ok (command.Stat (codes "z" ∷ []))
    ∷ Ok (command.Mkdir (codes "d" ∷ [])) ∷ Ok (command.Mv (c ∷ []) (codes "d" ∷ [])) ∷ [])
    ≡ oks 6 ++ reply.Content (codes "A") ∷ file_facts 19 2 1 420 ∷ reply.Ok ∷ reply.Listing (named false c ∷ []) ∷ reply.Content (codes "A") ∷ oks 2 ++ file_facts 23 0 1 420 ∷ reply.Ok ∷ refused refusal.Exists ∷ []
a_file_is_replaced = refl

-- ---- a file grows by any length

-- by six mebibytes in one line, and by one more; what the volume has room for isn't the tree's concern
a_file_grows_at_once : replies fresh_tree (Ok (command.Create (f ∷ [])) ∷ Ok (command.Trunc (f ∷ []) 6291456) ∷ Ok (command.Trunc (f ∷ []) 7340032) ∷ Ok (command.Trunc (f ∷ []) 1099511627776) ∷ Ok (command.Trunc (f ∷ []) 1099511627777) ∷ []) ≡ oks 4 ++ refused refusal.TooLarge ∷ []
a_file_grows_at_once = refl
