-- What the text of a reply shows of it.
use Rattle.std.specs.Prelude.{◌≡◌, ◌<◌, ◌≤◌, ◌%◌, ◌^◌, ℕ, false, List, [], ◌∷◌, ◌++◌, length, All}
use Rattle.hfs_language.specs.declared.refusal.Refusal.{Refusal}
use Rattle.hfs_language.specs.declared.reply.Reply.{Reply}
use Rattle.hfs_language.specs.declared.reply.Reply.TheVariants as reply
use Rattle.std.specs.List.{flat_map, AllZip}
use Rattle.hfs_language.specs.declared.reply.Facts.{Facts}
use Rattle.hfs_language.specs.declared.reply.Gauge.{Gauge}
use Rattle.hfs_language.specs.declared.reply.TreeGauge.{TreeGauge}
use Rattle.hfs_language.specs.declared.reply.ListedName.{ListedName}
use Rattle.name_text.specs.Laws.{AreUnits}
use Rattle.hx_bytes.specs.Field.{AreBytes}
use Rattle.hfs_language.specs.Lines.{lines}
use Rattle.hfs_language.specs.Text.{refusal_numbers, body_text, reply_text}

-- each is below 2 ^ 64
abbrev pub AreNumbers : List ℕ → Type 0
AreNumbers [] = Unit {0}
AreNumbers (n ∷ numbers) = (n < 2 ^ 64) × AreNumbers numbers

-- two refusals with one text are one refusal
abbrev pub ShowsRefusal : Refusal → Refusal → Type 0
ShowsRefusal one other = AreNumbers (refusal_numbers one) → AreNumbers (refusal_numbers other) → reply_text (reply.No one) ≡ reply_text (reply.No other) → one ≡ other

-- two contents with one text are the same bytes
abbrev pub ShowsContent : List ℕ → List ℕ → Type 0
ShowsContent one other = reply_text (reply.Content one) ≡ reply_text (reply.Content other) → one ≡ other

-- the numbers that the text of facts has besides the mode
abbrev pub facts_numbers : Facts → List ℕ
facts_numbers facts = facts.id ∷ facts.size ∷ facts.links ∷ facts.created ∷ facts.changed ∷ facts.attribute ∷ []

-- The same facts, as far as their text shows them: of a mode the low twelve bits, and no links of a folder.
pub record SameFacts (one other : Facts) : Type 0 where
  pub folder : one.folder ≡ other.folder
  pub id : one.id ≡ other.id
  pub size : one.size ≡ other.size
  pub links : one.folder ≡ false → one.links ≡ other.links
  pub mode : one.mode % 4096 ≡ other.mode % 4096
  pub created : one.created ≡ other.created
  pub changed : one.changed ≡ other.changed
  pub attribute : one.attribute ≡ other.attribute

-- two facts with one text are the same, as far as it shows them
abbrev pub ShowsFacts : Facts → Facts → Type 0
ShowsFacts one other = AreNumbers (facts_numbers one) → AreNumbers (facts_numbers other) → reply_text (reply.Facts one) ≡ reply_text (reply.Facts other) → SameFacts one other

abbrev pub tree_numbers : TreeGauge → List ℕ
tree_numbers tree = tree.depth ∷ tree.nodes ∷ tree.unused ∷ []

-- the numbers of a gauge, in the order of its text
abbrev pub gauge_numbers : Gauge → List ℕ
gauge_numbers gauge = gauge.block ∷ gauge.total ∷ gauge.free ∷ gauge.longest ∷ gauge.capacity ∷ flat_map tree_numbers gauge.trees

-- two gauges with one text have the same numbers
abbrev pub ShowsGauge : Gauge → Gauge → Type 0
ShowsGauge one other = AreNumbers (gauge_numbers one) → AreNumbers (gauge_numbers other) → reply_text (reply.Gauge one) ≡ reply_text (reply.Gauge other) → gauge_numbers one ≡ gauge_numbers other

-- names of code units
abbrev pub AreNames : List ListedName → Type 0
AreNames [] = Unit {0}
AreNames (listed ∷ names) = AreUnits listed.name × AreNames names

-- two listings with one text are one listing
abbrev pub ShowsListing : List ListedName → List ListedName → Type 0
ShowsListing one other = AreNames one → AreNames other → reply_text (reply.Listing one) ≡ reply_text (reply.Listing other) → one ≡ other

-- the names of a listing are code units
abbrev pub HasNames : Reply → Type 0
HasNames (reply.Listing names) = AreNames names
HasNames _ = Unit {0}

-- the text of a reply is one line, whatever follows it
abbrev pub IsOneLine : Reply → Type 0
IsOneLine reply = HasNames reply → (rest : List ℕ) → lines (reply_text reply ++ rest) ≡ body_text reply ∷ lines rest

-- Each field of a reply fits its type. A block has at least 512 bytes, as on each volume.
abbrev pub FitsReply : Reply → Type 0
FitsReply reply.Ok = Unit {0}
FitsReply (reply.Listing names) = AreNames names
FitsReply (reply.Facts facts) = AreNumbers (facts_numbers facts)
FitsReply (reply.Content value) = AreBytes value
FitsReply (reply.Gauge gauge) = AreNumbers (gauge_numbers gauge) × (length gauge.trees ≡ 3) × (512 ≤ gauge.block)
FitsReply (reply.No refusal) = AreNumbers (refusal_numbers refusal)

-- the same reply, as far as its text shows it
abbrev pub SameReply : Reply → Reply → Type 0
SameReply reply.Ok reply.Ok = Unit {0}
SameReply (reply.Listing one) (reply.Listing other) = one ≡ other
SameReply (reply.Facts one) (reply.Facts other) = SameFacts one other
SameReply (reply.Content one) (reply.Content other) = one ≡ other
SameReply (reply.Gauge one) (reply.Gauge other) = gauge_numbers one ≡ gauge_numbers other
SameReply (reply.No one) (reply.No other) = one ≡ other
SameReply _ _ = ⊥

-- two replies with one text are the same reply, as far as it shows them
abbrev pub ShowsReply : Reply → Reply → Type 0
ShowsReply one other = FitsReply one → FitsReply other → reply_text one ≡ reply_text other → SameReply one other

-- two lists of replies whose texts in a row are the same are as long and have the same replies, as far as the texts show
abbrev pub ShowReplies : List Reply → List Reply → Type 0
ShowReplies these others = All FitsReply these → All FitsReply others → flat_map reply_text these ≡ flat_map reply_text others → AllZip SameReply these others
