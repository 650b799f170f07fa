-- The text of a reply has one newline, at its end.
use Rattle.std.proofs.Common.{◌≡◌, ℕ, ◌+◌, ◌/◌, ◌%◌, Bool, true, false, nat_le, List, [], ◌∷◌, ◌++◌, length, flat_map, codes, decimal, refl, ap, ◌∙◌, arith, append_assoc, if◌then◌else◌}
use Rattle.std.specs.List.{list_all}
use Rattle.std.specs.Fmt.{digit_glyph}
use Rattle.std.proofs.lemmas.Bool.{cond_both, and_parts}
use Rattle.std.proofs.lemmas.Bool.Decides.{nat_tests}
use Rattle.std.proofs.lemmas.List.Elements.{All-nil, All-cons}
use Rattle.std.proofs.lemmas.List.Folds.{list_all-append}
use Rattle.name_text.specs.Printing.{is_clear}
use Rattle.name_text.proofs.Clear.{all_clear, clear_name}
use Rattle.hfs_language.specs.declared.reply.Reply.{Reply}
use Rattle.hfs_language.specs.declared.reply.Reply.TheVariants as reply
use Rattle.hfs_language.specs.declared.reply.Facts.{Facts}
use Rattle.hfs_language.specs.declared.reply.TreeGauge.{TreeGauge}
use Rattle.hfs_language.specs.declared.reply.ListedName.{ListedName}
use Rattle.hfs_language.specs.declared.refusal.Refusal.{Refusal}
use Rattle.hfs_language.specs.declared.refusal.Refusal.TheVariants as refusal
use Rattle.hfs_language.specs.Lines.{lines, HasNoNewline}
use Rattle.hfs_language.specs.Text.{is_plain, byte_text, value_text, mode_text, field, fields, name_text, listed_text, kind_text, size_fields, facts_text, tree_text, gauge_text, refusal_name, refusal_numbers, body_text, reply_text}
use Rattle.hfs_language.specs.Shown.{AreNames, HasNames, IsOneLine}
use Rattle.hfs_language.proofs.Lines.{lines_ended}
use Rattle.hfs_language.proofs.Words.{clear_decimal}

-- no byte is a control
abbrev pub in_line : List ℕ → Bool
in_line = list_all (nat_le 32)

both_in : (xs ys : List ℕ) → in_line xs ≡ true → in_line ys ≡ true → in_line (xs ++ ys) ≡ true
both_in xs ys hx hy = list_all-append (nat_le 32) xs ys ∙ rw (hx, hy) refl

clear_in : (text : List ℕ) → all_clear text ≡ true → in_line text ≡ true
clear_in [] clear = refl
clear_in (b ∷ text) clear =
    let parts : (is_clear b ≡ true) × (all_clear text ≡ true) = and_parts _ _ clear in
    let high : nat_le 32 b ≡ true = grind (arith, nat_tests) in
    rw (high, clear_in text parts.1) refl

none_in : (text : List ℕ) → in_line text ≡ true → HasNoNewline text
none_in [] are = All-nil (λ b. b ≡ 10 → ⊥)
none_in (b ∷ text) are =
    let parts : (nat_le 32 b ≡ true) × (in_line text ≡ true) = and_parts _ _ are in
    All-cons (λ b. b ≡ 10 → ⊥) b text (λ newline. grind (arith, nat_tests)) (none_in text parts.1)

field_in : (n : ℕ) → in_line (field n) ≡ true
field_in n = clear_in (decimal n) (clear_decimal n)

fields_in : (numbers : List ℕ) → in_line (fields numbers) ≡ true
fields_in [] = refl
fields_in (n ∷ numbers) = both_in (field n) (fields numbers) (field_in n) (fields_in numbers)

slash_in : (folder : Bool) → in_line (if folder then 47 ∷ [] else []) ≡ true
slash_in true = refl
slash_in false = refl

names_in : (names : List ListedName) → AreNames names → in_line (flat_map listed_text names) ≡ true
names_in [] are = refl
names_in (l ∷ names) are =
    both_in (listed_text l) (flat_map listed_text names)
    (both_in (name_text l.name) (if l.folder then 47 ∷ [] else []) (clear_in (name_text l.name) (clear_name l.name are.0)) (slash_in l.folder))
    (names_in names are.1)

high_in : (n : ℕ) → nat_le 32 (48 + n) ≡ true
high_in n = grind (arith, nat_tests)

mode_in : (mode : ℕ) → in_line (mode_text mode) ≡ true
mode_in mode = rw (high_in (mode / 512 % 8), high_in (mode / 64 % 8), high_in (mode / 8 % 8), high_in (mode % 8)) refl

kind_in : (folder : Bool) → in_line (if folder then codes " folder" else codes " file") ≡ true
kind_in true = refl
kind_in false = refl

size_in : (facts : Facts) → in_line (size_fields facts) ≡ true
size_in facts =
    cond_both facts.folder (field facts.size) (field facts.size ++ field facts.links) (λ x. in_line x ≡ true)
    (λ _. field_in facts.size)
    (λ _. both_in (field facts.size) (field facts.links) (field_in facts.size) (field_in facts.links))

six_in : (a b c d e f : List ℕ) → in_line a ≡ true → in_line b ≡ true → in_line c ≡ true → in_line d ≡ true → in_line e ≡ true → in_line f ≡ true → in_line (a ++ b ++ c ++ d ++ e ++ f) ≡ true
six_in a b c d e f ha hb hc hd he hf =
    both_in (a ++ b ++ c ++ d ++ e) f (both_in (a ++ b ++ c ++ d) e (both_in (a ++ b ++ c) d (both_in (a ++ b) c (both_in a b ha hb) hc) hd) he) hf

facts_in : (facts : Facts) → in_line (facts_text facts) ≡ true
facts_in facts =
    both_in (kind_text facts ++ field facts.id ++ size_fields facts ++ 32 ∷ mode_text facts.mode ++ field facts.created ++ field facts.changed) (field facts.attribute)
    (six_in (kind_text facts) (field facts.id) (size_fields facts) (32 ∷ mode_text facts.mode) (field facts.created) (field facts.changed)
    (kind_in facts.folder) (field_in facts.id) (size_in facts) (mode_in facts.mode) (field_in facts.created) (field_in facts.changed))
    (field_in facts.attribute)

glyph_in : (d : ℕ) → nat_le 32 (digit_glyph true d) ≡ true
glyph_in d = grind (arith, nat_tests)

byte_in : (b : ℕ) → in_line (byte_text b) ≡ true
byte_in b =
    cond_both (is_plain b) (b ∷ []) (37 ∷ digit_glyph true (b / 16 % 16) ∷ digit_glyph true (b % 16) ∷ []) (λ x. in_line x ≡ true)
    (λ plain. let high : nat_le 32 b ≡ true = grind (arith, nat_tests) in rw high refl)
    (λ _. rw (glyph_in (b / 16 % 16), glyph_in (b % 16)) refl)

bytes_in : (value : List ℕ) → in_line (flat_map byte_text value) ≡ true
bytes_in [] = refl
bytes_in (b ∷ value) = both_in (byte_text b) (flat_map byte_text value) (byte_in b) (bytes_in value)

tree_in : (tree : TreeGauge) → in_line (tree_text tree) ≡ true
tree_in tree = both_in (field tree.depth ++ field tree.nodes) (field tree.unused) (both_in (field tree.depth) (field tree.nodes) (field_in tree.depth) (field_in tree.nodes)) (field_in tree.unused)

trees_in : (trees : List TreeGauge) → in_line (flat_map tree_text trees) ≡ true
trees_in [] = refl
trees_in (tree ∷ trees) = both_in (tree_text tree) (flat_map tree_text trees) (tree_in tree) (trees_in trees)

refusal_in : (r : Refusal) → in_line (refusal_name r) ≡ true
refusal_in refusal.TooLong = refl
refusal_in refusal.BadCommand = refl
refusal_in refusal.BadName = refl
refusal_in refusal.NameTooLong = refl
refusal_in refusal.Private = refl
refusal_in refusal.Root = refl
refusal_in refusal.NotFound = refl
refusal_in refusal.NotFolder = refl
refusal_in refusal.IsFolder = refl
refusal_in refusal.Exists = refl
refusal_in refusal.NotEmpty = refl
refusal_in refusal.Inside = refl
refusal_in refusal.TooManyLinks = refl
refusal_in refusal.TooLarge = refl
refusal_in refusal.AttributeTooLarge = refl
refusal_in refusal.NoAttribute = refl
refusal_in refusal.BadTarget = refl
refusal_in refusal.NoTree = refl
refusal_in (refusal.NoIds a) = refl
refusal_in (refusal.TooDeep a) = refl
refusal_in (refusal.OverflowFull a) = refl
refusal_in (refusal.NoSpace a b) = refl
refusal_in (refusal.NoRun a b) = refl
refusal_in (refusal.TooBig a b) = refl
refusal_in refusal.OutOfMemory = refl
refusal_in refusal.Unsteady = refl

pub body_in : (r : Reply) → HasNames r → in_line (body_text r) ≡ true
body_in reply.Ok are = refl
body_in (reply.Listing names) are =
    both_in (codes "ok" ++ field (length names)) (flat_map listed_text names) (both_in (codes "ok") (field (length names)) refl (field_in (length names))) (names_in names are)
body_in (reply.Facts facts) are = both_in (codes "ok") (facts_text facts) refl (facts_in facts)
body_in (reply.Content value) are = both_in (codes "ok ") (value_text value) refl (bytes_in value)
body_in (reply.Gauge gauge) are =
    both_in (codes "ok") (gauge_text gauge) refl
    (six_in (field gauge.block) (field gauge.total) (field gauge.free) (field gauge.longest) (field gauge.capacity) (flat_map tree_text gauge.trees)
    (field_in gauge.block) (field_in gauge.total) (field_in gauge.free) (field_in gauge.longest) (field_in gauge.capacity) (trees_in gauge.trees))
body_in (reply.No refusal) are =
    both_in (codes "no " ++ refusal_name refusal) (fields (refusal_numbers refusal)) (both_in (codes "no ") (refusal_name refusal) refl (refusal_in refusal)) (fields_in (refusal_numbers refusal))

pub one_line : (r : Reply) → IsOneLine r
unfolding reply_text
one_line r are rest = ap lines (append_assoc (body_text r) (10 ∷ []) rest) ∙ lines_ended (body_text r) rest (none_in (body_text r) (body_in r are))
