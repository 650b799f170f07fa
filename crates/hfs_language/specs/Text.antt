-- How numbers, values and replies are written.
use Rattle.std.specs.Prelude.{ℕ, ◌+◌, ◌/◌, ◌%◌, ◌==◌, ◌&&◌, not, nat_le, Bool, true, List, [], ◌∷◌, ◌++◌, length, codes, decimal, encode_utf8_all, if◌then◌else◌}
use Rattle.std.specs.List.{flat_map}
use Rattle.std.specs.Fmt.{digit_glyph}
use Rattle.name_text.specs.Printing.{component_text}
use Rattle.hfs_language.specs.declared.reply.Reply.{Reply}
use Rattle.hfs_language.specs.declared.reply.Reply.TheVariants as reply
use Rattle.hfs_language.specs.declared.reply.Facts.{Facts}
use Rattle.hfs_language.specs.declared.reply.Gauge.{Gauge}
use Rattle.hfs_language.specs.declared.reply.TreeGauge.{TreeGauge}
use Rattle.hfs_language.specs.declared.reply.ListedName.{ListedName}
use Rattle.hfs_language.specs.declared.refusal.Refusal.{Refusal}
use Rattle.hfs_language.specs.declared.refusal.Refusal.TheVariants as refusal

-- a byte that stands for itself in a value: printable ASCII but the space and the percent sign
abbrev pub is_plain : ℕ → Bool
is_plain b = nat_le 33 b && nat_le b 126 && not (b == 37)

-- a byte in a value: itself, or a percent sign and two upper-case hexadecimal digits
abbrev pub byte_text : ℕ → List ℕ
byte_text b = if is_plain b then b ∷ [] else 37 ∷ digit_glyph true (b / 16 % 16) ∷ digit_glyph true (b % 16) ∷ []

-- the bytes of a value
abbrev pub value_text : List ℕ → List ℕ
value_text value = 61 ∷ flat_map byte_text value

-- a mode, as its low twelve bits in four octal digits
abbrev pub mode_text : ℕ → List ℕ
mode_text mode = (48 + mode / 512 % 8) ∷ (48 + mode / 64 % 8) ∷ (48 + mode / 8 % 8) ∷ (48 + mode % 8) ∷ []

-- a number with a space in front
abbrev pub field : ℕ → List ℕ
field number = 32 ∷ decimal number

-- numbers, each with a space in front
abbrev pub fields : List ℕ → List ℕ
fields numbers = flat_map field numbers

-- a name, in bytes
abbrev pub name_text : List ℕ → List ℕ
name_text name = encode_utf8_all (component_text name)

-- a name of a listing, that of a folder with a slash behind it
abbrev pub listed_text : ListedName → List ℕ
listed_text listed = 32 ∷ name_text listed.name ++ (if listed.folder then 47 ∷ [] else [])

-- how a reply to `stat` names a folder and a file
abbrev pub kind_text : Facts → List ℕ
kind_text facts = if facts.folder then codes " folder" else codes " file"

-- a folder has no links to tell
abbrev pub size_fields : Facts → List ℕ
size_fields facts = if facts.folder then field facts.size else field facts.size ++ field facts.links

-- what a reply to `stat` says behind `ok`
abbrev pub facts_text : Facts → List ℕ
facts_text facts = kind_text facts ++ field facts.id ++ size_fields facts ++ 32 ∷ mode_text facts.mode ++ field facts.created ++ field facts.changed ++ field facts.attribute

-- what a reply to `df` says of a tree: its depth, its nodes, and those that are unused
abbrev pub tree_text : TreeGauge → List ℕ
tree_text tree = field tree.depth ++ field tree.nodes ++ field tree.unused

-- what a reply to `df` says behind `ok`
abbrev pub gauge_text : Gauge → List ℕ
gauge_text gauge = field gauge.block ++ field gauge.total ++ field gauge.free ++ field gauge.longest ++ field gauge.capacity ++ flat_map tree_text gauge.trees

-- the name of a refusal
abbrev pub refusal_name : Refusal → List ℕ
refusal_name refusal.TooLong = codes "TooLong"
refusal_name refusal.BadCommand = codes "BadCommand"
refusal_name refusal.BadName = codes "BadName"
refusal_name refusal.NameTooLong = codes "NameTooLong"
refusal_name refusal.Private = codes "Private"
refusal_name refusal.Root = codes "Root"
refusal_name refusal.NotFound = codes "NotFound"
refusal_name refusal.NotFolder = codes "NotFolder"
refusal_name refusal.IsFolder = codes "IsFolder"
refusal_name refusal.Exists = codes "Exists"
refusal_name refusal.NotEmpty = codes "NotEmpty"
refusal_name refusal.Inside = codes "Inside"
refusal_name refusal.TooManyLinks = codes "TooManyLinks"
refusal_name refusal.TooLarge = codes "TooLarge"
refusal_name refusal.AttributeTooLarge = codes "AttributeTooLarge"
refusal_name refusal.NoAttribute = codes "NoAttribute"
refusal_name refusal.BadTarget = codes "BadTarget"
refusal_name refusal.NoTree = codes "NoTree"
refusal_name (refusal.NoIds a) = codes "NoIds"
refusal_name (refusal.TooDeep a) = codes "TooDeep"
refusal_name (refusal.OverflowFull a) = codes "OverflowFull"
refusal_name (refusal.NoSpace a b) = codes "NoSpace"
refusal_name (refusal.NoRun a b) = codes "NoRun"
refusal_name (refusal.TooBig a b) = codes "TooBig"
refusal_name refusal.OutOfMemory = codes "OutOfMemory"
refusal_name refusal.Unsteady = codes "Unsteady"

-- the numbers of a refusal
abbrev pub refusal_numbers : Refusal → List ℕ
refusal_numbers (refusal.NoIds a) = a ∷ []
refusal_numbers (refusal.TooDeep a) = a ∷ []
refusal_numbers (refusal.OverflowFull a) = a ∷ []
refusal_numbers (refusal.NoSpace a b) = a ∷ b ∷ []
refusal_numbers (refusal.NoRun a b) = a ∷ b ∷ []
refusal_numbers (refusal.TooBig a b) = a ∷ b ∷ []
refusal_numbers _ = []

-- what follows `ok` in a reply
abbrev pub body_text : Reply → List ℕ
body_text reply.Ok = codes "ok"
body_text (reply.Listing names) = codes "ok" ++ field (length names) ++ flat_map listed_text names
body_text (reply.Facts facts) = codes "ok" ++ facts_text facts
body_text (reply.Content value) = codes "ok " ++ value_text value
body_text (reply.Gauge gauge) = codes "ok" ++ gauge_text gauge
body_text (reply.No refusal) = codes "no " ++ refusal_name refusal ++ fields (refusal_numbers refusal)

-- a reply as one line, with its newline
unfoldable pub reply_text : Reply → List ℕ
reply_text reply = body_text reply ++ 10 ∷ []
