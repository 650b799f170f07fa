-- The text of a refusal shows its name and its numbers.
use Rattle.std.proofs.Common.{◌≡◌, ℕ, ◌+◌, ◌<◌, ◌^◌, Bool, true, false, nat_lt, List, [], ◌∷◌, ◌++◌, drop, get_or, bytes_eq, codes, decimal, refl, sym, ap, ◌∙◌, arith, append_assoc, ◌/◌, ◌%◌, ⊎_elim, lit<, if◌then◌else◌}
use Rattle.std.specs.List.{flat_map}
use Rattle.std.specs.Str.Parse.{AllDigits, digits_value}
use Rattle.std.proofs.lemmas.Fmt.{decimal_is_IsNumeral}
use Rattle.std.proofs.lemmas.Str.Parse.{digit_from_value}
use Rattle.hfs_language.specs.declared.refusal.Refusal.{Refusal}
use Rattle.hfs_language.specs.declared.refusal.Refusal.TheVariants.{TooLong, BadCommand, BadName, NameTooLong, Private, Root, NotFound, NotFolder, IsFolder, Exists, NotEmpty, Inside, TooManyLinks, TooLarge, AttributeTooLarge, NoAttribute, BadTarget, NoTree, NoIds, TooDeep, OverflowFull, NoSpace, NoRun, TooBig, OutOfMemory, Unsteady}
use Rattle.hfs_language.specs.declared.reply.Reply.TheVariants as reply
use Rattle.hfs_language.specs.Text.{field, fields, tree_text, kind_text, size_fields, mode_text, value_text, refusal_name, refusal_numbers, reply_text}
use Rattle.hfs_language.specs.Shown.{AreNumbers, ShowsContent, ShowsFacts, SameFacts, ShowsGauge, facts_numbers, tree_numbers, gauge_numbers}
use Rattle.hfs_language.specs.declared.reply.Gauge.{Gauge}
use Rattle.hfs_language.specs.declared.reply.TreeGauge.{TreeGauge}
use Rattle.hfs_language.specs.declared.reply.Facts.{Facts}
use Rattle.hfs_language.specs.Language.{value_of}
use Rattle.hfs_language.proofs.Values.{value_back}
use Rattle.std.proofs.lemmas.Bool.{cases_Bool}
use Rattle.hfs_language.proofs.Results.{ok_same}

-- ---- numbers

pub both_tails : (x y : ℕ) (xs ys : List ℕ) → x ∷ xs ≡ y ∷ ys → (x ≡ y) × (xs ≡ ys)
both_tails x y xs ys is = (cc, cc)

-- digits end at the first byte below them
digits_end : (ns bs : List ℕ) (x y : ℕ) (xs ys : List ℕ) → AllDigits 10 ns → AllDigits 10 bs → x < 48 → y < 48 → ns ++ x ∷ xs ≡ bs ++ y ∷ ys → (ns ≡ bs) × (x ∷ xs ≡ y ∷ ys)
digits_end [] [] x y xs ys da db hx hy is = (refl, is)
digits_end [] (b ∷ bs) x y xs ys da db hx hy is =
    let first = (both_tails x b xs (bs ++ y ∷ ys) is).0 in
    let digit = digit_from_value b db.0 in
    absurd (omega arith)
digits_end (a ∷ ns) [] x y xs ys da db hx hy is =
    let first = (both_tails a y (ns ++ x ∷ xs) ys is).0 in
    let digit = digit_from_value a da.0 in
    absurd (omega arith)
digits_end (a ∷ ns) (b ∷ bs) x y xs ys da db hx hy is =
    let parts = both_tails a b (ns ++ x ∷ xs) (bs ++ y ∷ ys) is in
    let rest = digits_end ns bs x y xs ys da.1 db.1 hx hy parts.1 in
    let whole : a ∷ ns ≡ b ∷ bs = cc (parts.0, rest.0) in
    (whole, rest.1)

pub number_first : (n m x y : ℕ) (xs ys : List ℕ) → n < 2 ^ 64 → m < 2 ^ 64 → x < 48 → y < 48 → decimal n ++ x ∷ xs ≡ decimal m ++ y ∷ ys → (n ≡ m) × (x ∷ xs ≡ y ∷ ys)
number_first n m x y xs ys hn hm hx hy is =
    let kn = decimal_is_IsNumeral n hn in
    let km = decimal_is_IsNumeral m hm in
    let parts = digits_end (decimal n) (decimal m) x y xs ys kn.0.1 km.0.1 hx hy is in
    (sym kn.1 ∙ ap (digits_value 10) parts.0 ∙ km.1, parts.1)

-- the text of numbers begins with a space, or ends with the line
abbrev pub after_numbers : List ℕ → List ℕ
after_numbers numbers = fields numbers ++ 10 ∷ []

-- its first byte is a space or the newline
pub first_low : (numbers : List ℕ) → (x : ℕ) × (xs : List ℕ) × (x < 33) × (after_numbers numbers ≡ x ∷ xs)
first_low [] = (10, [], omega arith, refl)
first_low (n ∷ numbers) = (32, (decimal n ++ fields numbers) ++ 10 ∷ [], omega arith, refl)

numbers_shown : (ns bs : List ℕ) → AreNumbers ns → AreNumbers bs → after_numbers ns ≡ after_numbers bs → ns ≡ bs
numbers_shown [] [] ha hb is = refl
numbers_shown [] (b ∷ bs) ha hb is = let first = (both_tails 10 32 [] ((decimal b ++ fields bs) ++ 10 ∷ []) is).0 in absurd (omega arith)
numbers_shown (a ∷ ns) [] ha hb is = let first = (both_tails 32 10 ((decimal a ++ fields ns) ++ 10 ∷ []) [] is).0 in absurd (omega arith)
numbers_shown (a ∷ ns) (b ∷ bs) ha hb is =
    let rest = (both_tails 32 32 ((decimal a ++ fields ns) ++ 10 ∷ []) ((decimal b ++ fields bs) ++ 10 ∷ []) is).1 in
    let la = first_low ns in
    let lb = first_low bs in
    let joined : decimal a ++ la.0 ∷ la.1 ≡ decimal b ++ lb.0 ∷ lb.1 =
    ap (λ x. decimal a ++ x) (sym la.3) ∙ sym (append_assoc (decimal a) (fields ns) (10 ∷ [])) ∙ rest ∙ append_assoc (decimal b) (fields bs) (10 ∷ []) ∙ ap (λ x. decimal b ++ x) lb.3 in
    let parts = number_first a b la.0 lb.0 la.1 lb.1 ha.0 hb.0 (omega (arith, la.2)) (omega (arith, lb.2)) joined in
    let more = numbers_shown ns bs ha.1 hb.1 (la.3 ∙ parts.1 ∙ sym lb.3) in
    cc (parts.0, more)

-- ---- names

-- the bytes before the first space or newline
abbrev before_space : List ℕ → List ℕ
before_space [] = []
before_space (x ∷ xs) = if nat_lt 32 x then x ∷ before_space xs else []

abbrev from_space : List ℕ → List ℕ
from_space [] = []
from_space (x ∷ xs) = if nat_lt 32 x then from_space xs else x ∷ xs

-- the refusal of a name with numbers
abbrev refusal_named : List ℕ → List ℕ → Refusal
refusal_named name numbers =
    if bytes_eq name (codes "TooLong") then TooLong
    else (if bytes_eq name (codes "BadCommand") then BadCommand
    else (if bytes_eq name (codes "BadName") then BadName
    else (if bytes_eq name (codes "NameTooLong") then NameTooLong
    else (if bytes_eq name (codes "Private") then Private
    else (if bytes_eq name (codes "Root") then Root
    else (if bytes_eq name (codes "NotFound") then NotFound
    else (if bytes_eq name (codes "NotFolder") then NotFolder
    else (if bytes_eq name (codes "IsFolder") then IsFolder
    else (if bytes_eq name (codes "Exists") then Exists
    else (if bytes_eq name (codes "NotEmpty") then NotEmpty
    else (if bytes_eq name (codes "Inside") then Inside
    else (if bytes_eq name (codes "TooManyLinks") then TooManyLinks
    else (if bytes_eq name (codes "TooLarge") then TooLarge
    else (if bytes_eq name (codes "AttributeTooLarge") then AttributeTooLarge
    else (if bytes_eq name (codes "NoAttribute") then NoAttribute
    else (if bytes_eq name (codes "BadTarget") then BadTarget
    else (if bytes_eq name (codes "NoTree") then NoTree
    else (if bytes_eq name (codes "NoIds") then NoIds (get_or numbers 0 0)
    else (if bytes_eq name (codes "TooDeep") then TooDeep (get_or numbers 0 0)
    else (if bytes_eq name (codes "OverflowFull") then OverflowFull (get_or numbers 0 0)
    else (if bytes_eq name (codes "NoSpace") then NoSpace (get_or numbers 0 0) (get_or numbers 1 0)
    else (if bytes_eq name (codes "NoRun") then NoRun (get_or numbers 0 0) (get_or numbers 1 0)
    else (if bytes_eq name (codes "TooBig") then TooBig (get_or numbers 0 0) (get_or numbers 1 0)
    else (if bytes_eq name (codes "OutOfMemory") then OutOfMemory
    else (if bytes_eq name (codes "Unsteady") then Unsteady
    else (TooLong))))))))))))))))))))))))))

named_back : (r : Refusal) → refusal_named (refusal_name r) (refusal_numbers r) ≡ r
named_back TooLong = refl
named_back BadCommand = refl
named_back BadName = refl
named_back NameTooLong = refl
named_back Private = refl
named_back Root = refl
named_back NotFound = refl
named_back NotFolder = refl
named_back IsFolder = refl
named_back Exists = refl
named_back NotEmpty = refl
named_back Inside = refl
named_back TooManyLinks = refl
named_back TooLarge = refl
named_back AttributeTooLarge = refl
named_back NoAttribute = refl
named_back BadTarget = refl
named_back NoTree = refl
named_back (NoIds a) = refl
named_back (TooDeep a) = refl
named_back (OverflowFull a) = refl
named_back (NoSpace a b) = refl
named_back (NoRun a b) = refl
named_back (TooBig a b) = refl
named_back OutOfMemory = refl
named_back Unsteady = refl

abbrev refusal_line : Refusal → List ℕ
refusal_line r = reply_text (reply.No r)

name_shown : (r : Refusal) → before_space (drop 3 (refusal_line r)) ≡ refusal_name r
unfolding reply_text
name_shown TooLong = refl
name_shown BadCommand = refl
name_shown BadName = refl
name_shown NameTooLong = refl
name_shown Private = refl
name_shown Root = refl
name_shown NotFound = refl
name_shown NotFolder = refl
name_shown IsFolder = refl
name_shown Exists = refl
name_shown NotEmpty = refl
name_shown Inside = refl
name_shown TooManyLinks = refl
name_shown TooLarge = refl
name_shown AttributeTooLarge = refl
name_shown NoAttribute = refl
name_shown BadTarget = refl
name_shown NoTree = refl
name_shown (NoIds a) = refl
name_shown (TooDeep a) = refl
name_shown (OverflowFull a) = refl
name_shown (NoSpace a b) = refl
name_shown (NoRun a b) = refl
name_shown (TooBig a b) = refl
name_shown OutOfMemory = refl
name_shown Unsteady = refl

numbers_behind : (r : Refusal) → from_space (drop 3 (refusal_line r)) ≡ after_numbers (refusal_numbers r)
unfolding reply_text
numbers_behind TooLong = refl
numbers_behind BadCommand = refl
numbers_behind BadName = refl
numbers_behind NameTooLong = refl
numbers_behind Private = refl
numbers_behind Root = refl
numbers_behind NotFound = refl
numbers_behind NotFolder = refl
numbers_behind IsFolder = refl
numbers_behind Exists = refl
numbers_behind NotEmpty = refl
numbers_behind Inside = refl
numbers_behind TooManyLinks = refl
numbers_behind TooLarge = refl
numbers_behind AttributeTooLarge = refl
numbers_behind NoAttribute = refl
numbers_behind BadTarget = refl
numbers_behind NoTree = refl
numbers_behind (NoIds a) = refl
numbers_behind (TooDeep a) = refl
numbers_behind (OverflowFull a) = refl
numbers_behind (NoSpace a b) = refl
numbers_behind (NoRun a b) = refl
numbers_behind (TooBig a b) = refl
numbers_behind OutOfMemory = refl
numbers_behind Unsteady = refl

pub refusal_shown : (one other : Refusal) → AreNumbers (refusal_numbers one) → AreNumbers (refusal_numbers other) → refusal_line one ≡ refusal_line other → one ≡ other
refusal_shown one other ha hb is =
    let name : refusal_name one ≡ refusal_name other = sym (name_shown one) ∙ ap (λ x. before_space (drop 3 x)) is ∙ name_shown other in
    let behind : after_numbers (refusal_numbers one) ≡ after_numbers (refusal_numbers other) = sym (numbers_behind one) ∙ ap (λ x. from_space (drop 3 x)) is ∙ numbers_behind other in
    let numbers = numbers_shown (refusal_numbers one) (refusal_numbers other) ha hb behind in
    sym (named_back one) ∙ ap (λ x. refusal_named x (refusal_numbers one)) name ∙ ap (λ x. refusal_named (refusal_name other) x) numbers ∙ named_back other

-- ---- contents

nil_never : (ms : List ℕ) → [] ≡ ms ++ 10 ∷ [] → ⊥
nil_never [] is = cc
nil_never (m ∷ ms) is = cc

cut_last : (ns ms : List ℕ) → ns ++ 10 ∷ [] ≡ ms ++ 10 ∷ [] → ns ≡ ms
cut_last [] [] is = refl
cut_last [] (m ∷ ms) is = absurd (nil_never ms (both_tails 10 m [] (ms ++ 10 ∷ []) is).1)
cut_last (n ∷ ns) [] is = absurd (nil_never ns (sym (both_tails n 10 (ns ++ 10 ∷ []) [] is).1))
cut_last (n ∷ ns) (m ∷ ms) is =
    let parts = both_tails n m (ns ++ 10 ∷ []) (ms ++ 10 ∷ []) is in
    let rest = cut_last ns ms parts.1 in
    cc (parts.0, rest)

pub content_shown : (one other : List ℕ) → ((k : ℕ) → get_or one k 0 < 256) → ((k : ℕ) → get_or other k 0 < 256) → ShowsContent one other
unfolding reply_text
content_shown one other ha hb is =
    let texts : value_text one ≡ value_text other = cut_last (value_text one) (value_text other) (ap (drop 3) is) in
    ok_same one other (value_of (value_text one)) (value_back one ha) (ap value_of texts ∙ value_back other hb)

-- ---- facts

-- the end of the line: three dates
abbrev pub dates_line : ℕ → ℕ → ℕ → List ℕ
dates_line c d e = 32 ∷ (decimal c ++ 32 ∷ (decimal d ++ 32 ∷ (decimal e ++ 10 ∷ [])))

-- the line from its mode on
abbrev pub mode_line : Facts → List ℕ
mode_line f = 32 ∷ (48 + f.mode / 512 % 8) ∷ (48 + f.mode / 64 % 8) ∷ (48 + f.mode / 8 % 8) ∷ (48 + f.mode % 8) ∷ dates_line f.created f.changed f.attribute

joined : (k i s m c d e z : List ℕ) → k ++ i ++ s ++ m ++ c ++ d ++ e ++ z ≡ k ++ (i ++ (s ++ (m ++ (c ++ (d ++ (e ++ z))))))
joined k i s m c d e z = simp append_assoc

pub line_is : (f : Facts) → reply_text (reply.Facts f) ≡ codes "ok" ++ (kind_text f ++ (field f.id ++ (size_fields f ++ mode_line f)))
unfolding reply_text
line_is f = ap (λ x. codes "ok" ++ x) (joined (kind_text f) (field f.id) (size_fields f) (32 ∷ mode_text f.mode) (field f.created) (field f.changed) (field f.attribute) (10 ∷ []))

behind_kind : (f g : Facts) → reply_text (reply.Facts f) ≡ reply_text (reply.Facts g) → kind_text f ++ (field f.id ++ (size_fields f ++ mode_line f)) ≡ kind_text g ++ (field g.id ++ (size_fields g ++ mode_line g))
behind_kind f g is = ap (drop 2) (sym (line_is f) ∙ is ∙ line_is g)

dates_shown : (c d e c2 d2 e2 : ℕ) → AreNumbers (c ∷ d ∷ e ∷ []) → AreNumbers (c2 ∷ d2 ∷ e2 ∷ []) → dates_line c d e ≡ dates_line c2 d2 e2 → (c ≡ c2) × (d ≡ d2) × (e ≡ e2)
dates_shown c d e c2 d2 e2 h k is =
    let r1 = decimal d ++ 32 ∷ (decimal e ++ 10 ∷ []) in
    let s1 = decimal d2 ++ 32 ∷ (decimal e2 ++ 10 ∷ []) in
    let t1 = (both_tails 32 32 (decimal c ++ 32 ∷ r1) (decimal c2 ++ 32 ∷ s1) is).1 in
    let p1 = number_first c c2 32 32 r1 s1 h.0 k.0 (lit< tt) (lit< tt) t1 in
    let t2 = (both_tails 32 32 r1 s1 p1.1).1 in
    let p2 = number_first d d2 32 32 (decimal e ++ 10 ∷ []) (decimal e2 ++ 10 ∷ []) h.1.0 k.1.0 (lit< tt) (lit< tt) t2 in
    let t3 = (both_tails 32 32 (decimal e ++ 10 ∷ []) (decimal e2 ++ 10 ∷ []) p2.1).1 in
    let p3 = number_first e e2 10 10 [] [] h.1.1.0 k.1.1.0 (lit< tt) (lit< tt) t3 in
    (p1.0, p2.0, p3.0)

-- of equal lines the first bytes are equal, and the rest is
four_shown : (a b c d a2 b2 c2 d2 : ℕ) (xs ys : List ℕ) → 32 ∷ a ∷ b ∷ c ∷ d ∷ xs ≡ 32 ∷ a2 ∷ b2 ∷ c2 ∷ d2 ∷ ys → (a ≡ a2) × (b ≡ b2) × (c ≡ c2) × (d ≡ d2) × (xs ≡ ys)
four_shown a b c d a2 b2 c2 d2 xs ys is = (cc, cc, cc, cc, cc)

mode_same : (m n : ℕ) → 48 + m / 512 % 8 ≡ 48 + n / 512 % 8 → 48 + m / 64 % 8 ≡ 48 + n / 64 % 8 → 48 + m / 8 % 8 ≡ 48 + n / 8 % 8 → 48 + m % 8 ≡ 48 + n % 8 → m % 4096 ≡ n % 4096
mode_same m n h1 h2 h3 h4 = omega arith

-- the folder's flag, the id and the size are told before the mode, and a file's links
record Head (f g : Facts) : Type 0 where
  folder : f.folder ≡ g.folder
  id : f.id ≡ g.id
  size : f.size ≡ g.size
  links : f.folder ≡ false → f.links ≡ g.links
  rest : mode_line f ≡ mode_line g

facts_from : (f g : Facts) → AreNumbers (facts_numbers f) → AreNumbers (facts_numbers g) → Head f g → SameFacts f g
facts_from f g h k head =
    let four = four_shown (48 + f.mode / 512 % 8) (48 + f.mode / 64 % 8) (48 + f.mode / 8 % 8) (48 + f.mode % 8) (48 + g.mode / 512 % 8) (48 + g.mode / 64 % 8) (48 + g.mode / 8 % 8) (48 + g.mode % 8) (dates_line f.created f.changed f.attribute) (dates_line g.created g.changed g.attribute) head.rest in
    let dates = dates_shown f.created f.changed f.attribute g.created g.changed g.attribute h.1.1.1 k.1.1.1 four.4 in
    record { folder = head.folder; id = head.id; size = head.size; links = head.links; mode = mode_same f.mode g.mode four.0 four.1 four.2 four.3; created = dates.0; changed = dates.1; attribute = dates.2 }

head_folder : (f g : Facts) → AreNumbers (facts_numbers f) → AreNumbers (facts_numbers g) → f.folder ≡ true → g.folder ≡ true → kind_text f ++ (field f.id ++ (size_fields f ++ mode_line f)) ≡ kind_text g ++ (field g.id ++ (size_fields g ++ mode_line g)) → Head f g
head_folder f g h k ef eg is =
    let plain : codes " folder" ++ (field f.id ++ (field f.size ++ mode_line f)) ≡ codes " folder" ++ (field g.id ++ (field g.size ++ mode_line g)) = rw (ef, eg) at is in
    let t1 : decimal f.id ++ 32 ∷ (decimal f.size ++ mode_line f) ≡ decimal g.id ++ 32 ∷ (decimal g.size ++ mode_line g) = ap (drop 8) plain in
    let p1 = number_first f.id g.id 32 32 (decimal f.size ++ mode_line f) (decimal g.size ++ mode_line g) h.0 k.0 (lit< tt) (lit< tt) t1 in
    let t2 : decimal f.size ++ mode_line f ≡ decimal g.size ++ mode_line g = ap (drop 1) p1.1 in
    let p2 = number_first f.size g.size 32 32 (drop 1 (mode_line f)) (drop 1 (mode_line g)) h.1.0 k.1.0 (lit< tt) (lit< tt) t2 in
    record { folder = ef ∙ sym eg; id = p1.0; size = p2.0; links = (λ e. let never : true ≡ false = sym ef ∙ e in absurd (cc)); rest = p2.1 }

head_file : (f g : Facts) → AreNumbers (facts_numbers f) → AreNumbers (facts_numbers g) → f.folder ≡ false → g.folder ≡ false → kind_text f ++ (field f.id ++ (size_fields f ++ mode_line f)) ≡ kind_text g ++ (field g.id ++ (size_fields g ++ mode_line g)) → Head f g
head_file f g h k ef eg is =
    let plain : codes " file" ++ (field f.id ++ ((field f.size ++ field f.links) ++ mode_line f)) ≡ codes " file" ++ (field g.id ++ ((field g.size ++ field g.links) ++ mode_line g)) = rw (ef, eg) at is in
    let apart : codes " file" ++ (field f.id ++ (field f.size ++ (field f.links ++ mode_line f))) ≡ codes " file" ++ (field g.id ++ (field g.size ++ (field g.links ++ mode_line g))) =
    ap (λ x. codes " file" ++ (field f.id ++ x)) (sym (append_assoc (field f.size) (field f.links) (mode_line f))) ∙ plain ∙ ap (λ x. codes " file" ++ (field g.id ++ x)) (append_assoc (field g.size) (field g.links) (mode_line g)) in
    let t1 : decimal f.id ++ 32 ∷ (decimal f.size ++ 32 ∷ (decimal f.links ++ mode_line f)) ≡ decimal g.id ++ 32 ∷ (decimal g.size ++ 32 ∷ (decimal g.links ++ mode_line g)) = ap (drop 6) apart in
    let p1 = number_first f.id g.id 32 32 (decimal f.size ++ 32 ∷ (decimal f.links ++ mode_line f)) (decimal g.size ++ 32 ∷ (decimal g.links ++ mode_line g)) h.0 k.0 (lit< tt) (lit< tt) t1 in
    let t2 : decimal f.size ++ 32 ∷ (decimal f.links ++ mode_line f) ≡ decimal g.size ++ 32 ∷ (decimal g.links ++ mode_line g) = ap (drop 1) p1.1 in
    let p2 = number_first f.size g.size 32 32 (decimal f.links ++ mode_line f) (decimal g.links ++ mode_line g) h.1.0 k.1.0 (lit< tt) (lit< tt) t2 in
    let t3 : decimal f.links ++ mode_line f ≡ decimal g.links ++ mode_line g = ap (drop 1) p2.1 in
    let p3 = number_first f.links g.links 32 32 (drop 1 (mode_line f)) (drop 1 (mode_line g)) h.1.1.0 k.1.1.0 (lit< tt) (lit< tt) t3 in
    record { folder = ef ∙ sym eg; id = p1.0; size = p2.0; links = (λ _. p3.0); rest = p3.1 }

abbrev kind_of : Bool → List ℕ
kind_of folder = if folder then codes " folder" else codes " file"

kinds : (f g : Facts) (b c : Bool) → f.folder ≡ b → g.folder ≡ c → kind_text f ++ (field f.id ++ (size_fields f ++ mode_line f)) ≡ kind_text g ++ (field g.id ++ (size_fields g ++ mode_line g)) → kind_of b ++ (field f.id ++ (size_fields f ++ mode_line f)) ≡ kind_of c ++ (field g.id ++ (size_fields g ++ mode_line g))
kinds f g b c ef eg is = ap (λ x. kind_of x ++ (field f.id ++ (size_fields f ++ mode_line f))) (sym ef) ∙ is ∙ ap (λ x. kind_of x ++ (field g.id ++ (size_fields g ++ mode_line g))) eg

pub facts_shown : (one other : Facts) → ShowsFacts one other
facts_shown f g h k is =
    let same = behind_kind f g is in
    ⊎_elim
    (λ (ef : f.folder ≡ true). ⊎_elim
    (λ (eg : g.folder ≡ true). facts_from f g h k (head_folder f g h k ef eg same))
    (λ (eg : g.folder ≡ false). let mixed : codes " folder" ++ (field f.id ++ (size_fields f ++ mode_line f)) ≡ codes " file" ++ (field g.id ++ (size_fields g ++ mode_line g)) = kinds f g true false ef eg same in let never : 111 ≡ 105 = ap (λ x. get_or x 2 0) mixed in absurd (omega (arith, never)))
    (cases_Bool g.folder))
    (λ (ef : f.folder ≡ false). ⊎_elim
    (λ (eg : g.folder ≡ true). let mixed : codes " file" ++ (field f.id ++ (size_fields f ++ mode_line f)) ≡ codes " folder" ++ (field g.id ++ (size_fields g ++ mode_line g)) = kinds f g false true ef eg same in let never : 105 ≡ 111 = ap (λ x. get_or x 2 0) mixed in absurd (omega (arith, never)))
    (λ (eg : g.folder ≡ false). facts_from f g h k (head_file f g h k ef eg same))
    (cases_Bool g.folder))
    (cases_Bool f.folder)

-- ---- gauges

three_fields : (a b c rest : List ℕ) → a ++ b ++ c ++ rest ≡ a ++ (b ++ (c ++ rest))
three_fields a b c rest = simp append_assoc

trees_text : (trees : List TreeGauge) → flat_map tree_text trees ≡ fields (flat_map tree_numbers trees)
trees_text [] = refl
trees_text (tree ∷ trees) = three_fields (field tree.depth) (field tree.nodes) (field tree.unused) (flat_map tree_text trees) ∙ ap (λ x. field tree.depth ++ (field tree.nodes ++ (field tree.unused ++ x))) (trees_text trees)

five_fields : (a b c d e t z : List ℕ) → a ++ b ++ c ++ d ++ e ++ t ++ z ≡ (a ++ (b ++ (c ++ (d ++ (e ++ t))))) ++ z
five_fields a b c d e t z = simp append_assoc

pub gauge_is : (g : Gauge) → reply_text (reply.Gauge g) ≡ codes "ok" ++ after_numbers (gauge_numbers g)
unfolding reply_text
gauge_is g =
    ap (λ x. codes "ok" ++ x)
    (five_fields (field g.block) (field g.total) (field g.free) (field g.longest) (field g.capacity) (flat_map tree_text g.trees) (10 ∷ [])
    ∙ ap (λ x. (field g.block ++ (field g.total ++ (field g.free ++ (field g.longest ++ (field g.capacity ++ x))))) ++ 10 ∷ []) (trees_text g.trees))

pub gauge_shown : (one other : Gauge) → ShowsGauge one other
gauge_shown one other h k is =
    let texts : after_numbers (gauge_numbers one) ≡ after_numbers (gauge_numbers other) = ap (drop 2) (sym (gauge_is one) ∙ is ∙ gauge_is other) in
    numbers_shown (gauge_numbers one) (gauge_numbers other) h k texts
