-- The text of a listing shows it.
use Rattle.std.proofs.Common.{◌≡◌, ℕ, ◌<◌, Bool, true, false, List, [], ◌∷◌, ◌++◌, length, drop, flat_map, codes, decimal, refl, sym, ap, ◌∙◌, arith, append_assoc, if◌then◌else◌}
use Rattle.name_text.specs.Laws.{AreUnits}
use Rattle.name_text.specs.Printing.{is_clear}
use Rattle.name_text.proofs.Clear.{clear_name}
use Rattle.name_text.proofs.RoundTrip.{name_same}
use Rattle.hfs_language.specs.declared.reply.ListedName.{ListedName}
use Rattle.hfs_language.specs.declared.reply.Reply.TheVariants as reply
use Rattle.hfs_language.specs.Text.{name_text, listed_text, reply_text}
use Rattle.hfs_language.specs.Shown.{AreNames, ShowsListing}
use Rattle.hfs_language.proofs.Shown.{both_tails}
use Rattle.hfs_language.proofs.Words.{word_ends, clear_decimal}

-- ---- names

-- the line from its names on
abbrev pub names_line : List ListedName → List ℕ
names_line [] = 10 ∷ []
names_line (listed ∷ names) = 32 ∷ (name_text listed.name ++ ((if listed.folder then 47 ∷ [] else []) ++ names_line names))

-- the line behind the text of a name
abbrev pub behind : Bool → List ListedName → List ℕ
behind folder names = (if folder then 47 ∷ [] else []) ++ names_line names

pub names_line_is : (names : List ListedName) → flat_map listed_text names ++ 10 ∷ [] ≡ names_line names
names_line_is [] = refl
names_line_is (listed ∷ names) =
    ap (λ x. 32 ∷ x)
    (append_assoc (name_text listed.name ++ (if listed.folder then 47 ∷ [] else [])) (flat_map listed_text names) (10 ∷ [])
    ∙ ap (λ x. (name_text listed.name ++ (if listed.folder then 47 ∷ [] else [])) ++ x) (names_line_is names)
    ∙ append_assoc (name_text listed.name) (if listed.folder then 47 ∷ [] else []) (names_line names))

-- it begins with a byte that no name has
pub line_first : (names : List ListedName) → (x : ℕ) × (xs : List ℕ) × (x < 33) × (is_clear x ≡ false) × (names_line names ≡ x ∷ xs)
line_first [] = (10, [], omega arith, refl, refl)
line_first (listed ∷ names) = (32, name_text listed.name ++ behind listed.folder names, omega arith, refl, refl)

pub behind_first : (folder : Bool) (names : List ListedName) → (x : ℕ) × (xs : List ℕ) × (is_clear x ≡ false) × (behind folder names ≡ x ∷ xs)
behind_first true names = (47, names_line names, refl, refl)
behind_first false names = let first = line_first names in (first.0, first.1, first.3, first.4)

-- a folder has a slash behind its name, and nothing else has
behind_shown : (f g : Bool) (names others : List ListedName) → behind f names ≡ behind g others → (f ≡ g) × (names_line names ≡ names_line others)
behind_shown true true names others is = (refl, ap (drop 1) is)
behind_shown false false names others is = (refl, is)
behind_shown true false names others is =
    let first = line_first others in
    let same = (both_tails 47 first.0 (names_line names) first.1 (is ∙ first.4)).0 in
    absurd (omega arith)
behind_shown false true names others is =
    let first = line_first names in
    let same = (both_tails first.0 47 first.1 (names_line others) (sym first.4 ∙ is)).0 in
    absurd (omega arith)

abbrev named : List ℕ → Bool → ListedName
named name folder = record { name = name; folder = folder }

-- the first name, and the line behind it
name_shown : (l m : ListedName) (ls ms : List ListedName) → AreUnits l.name → AreUnits m.name → names_line (l ∷ ls) ≡ names_line (m ∷ ms) → (l ≡ m) × (names_line ls ≡ names_line ms)
name_shown l m ls ms hl hm is =
    let bl = behind_first l.folder ls in
    let bm = behind_first m.folder ms in
    let words : name_text l.name ++ bl.0 ∷ bl.1 ≡ name_text m.name ++ bm.0 ∷ bm.1 = ap (λ x. name_text l.name ++ x) (sym bl.3) ∙ ap (drop 1) is ∙ ap (λ x. name_text m.name ++ x) bm.3 in
    let parts = word_ends (name_text l.name) (name_text m.name) bl.0 bm.0 bl.1 bm.1 (clear_name l.name hl) (clear_name m.name hm) bl.2 bm.2 words in
    let name : l.name ≡ m.name = name_same l.name m.name hl hm parts.0 in
    let rest = behind_shown l.folder m.folder ls ms (bl.3 ∙ parts.1 ∙ sym bm.3) in
    (ap (λ x. named x l.folder) name ∙ ap (λ x. named m.name x) rest.0, rest.1)

names_shown : (ls ms : List ListedName) → AreNames ls → AreNames ms → names_line ls ≡ names_line ms → ls ≡ ms
names_shown [] [] ha hb is = refl
names_shown [] (m ∷ ms) ha hb is = let first = (both_tails 10 32 [] (name_text m.name ++ behind m.folder ms) is).0 in absurd (omega arith)
names_shown (l ∷ ls) [] ha hb is = let first = (both_tails 32 10 (name_text l.name ++ behind l.folder ls) [] is).0 in absurd (omega arith)
names_shown (l ∷ ls) (m ∷ ms) ha hb is =
    let parts = name_shown l m ls ms ha.0 hb.0 is in
    let rest = names_shown ls ms ha.1 hb.1 parts.1 in
    cc (parts.0, rest)

-- ---- listings

pub listing_is : (names : List ListedName) → reply_text (reply.Listing names) ≡ codes "ok " ++ (decimal (length names) ++ names_line names)
unfolding reply_text
listing_is names =
    ap (λ x. codes "ok " ++ x)
    (append_assoc (decimal (length names)) (flat_map listed_text names) (10 ∷ []) ∙ ap (λ x. decimal (length names) ++ x) (names_line_is names))

pub listing_shown : (one other : List ListedName) → ShowsListing one other
listing_shown one other ha hb is =
    let fa = line_first one in
    let fb = line_first other in
    let same : decimal (length one) ++ names_line one ≡ decimal (length other) ++ names_line other = ap (drop 3) (sym (listing_is one) ∙ is ∙ listing_is other) in
    let words : decimal (length one) ++ fa.0 ∷ fa.1 ≡ decimal (length other) ++ fb.0 ∷ fb.1 = ap (λ x. decimal (length one) ++ x) (sym fa.4) ∙ same ∙ ap (λ x. decimal (length other) ++ x) fb.4 in
    let parts = word_ends (decimal (length one)) (decimal (length other)) fa.0 fb.0 fa.1 fb.1 (clear_decimal (length one)) (clear_decimal (length other)) fa.3 fb.3 words in
    names_shown one other ha hb (fa.4 ∙ parts.1 ∙ sym fb.4)
