-- The text of a reply shows its kind.
use Rattle.std.proofs.Common.{◌≡◌, ℕ, suc, ◌*◌, ◌<◌, ◌^◌, Bool, true, false, ◌==◌, List, [], ◌∷◌, ◌++◌, length, drop, get_or, flat_map, codes, decimal, refl, sym, ap, ◌∙◌, arith, append_assoc, if◌then◌else◌}
use Rattle.std.specs.Str.Parse.{digits_value}
use Rattle.std.proofs.lemmas.Fmt.{decimal_is_IsNumeral}
use Rattle.std.proofs.lemmas.Bool.Decides.{nat_tests}
use Rattle.name_text.specs.Printing.{is_clear}
use Rattle.name_text.proofs.Clear.{clear_name}
use Rattle.hx_bytes.specs.Field.{AreBytes}
use Rattle.hfs_language.specs.declared.reply.Reply.{Reply}
use Rattle.hfs_language.specs.declared.reply.Reply.TheVariants as reply
use Rattle.hfs_language.specs.declared.reply.Gauge.{Gauge}
use Rattle.hfs_language.specs.declared.reply.TreeGauge.{TreeGauge}
use Rattle.hfs_language.specs.declared.reply.ListedName.{ListedName}
use Rattle.std.proofs.lemmas.List.{append_cancel_left}
use Rattle.std.proofs.lemmas.List.Elements.{All-head, All-tail}
use Rattle.hfs_language.specs.Lines.{lines}
use Rattle.hfs_language.proofs.Lines.{lines-nil}
use Rattle.hfs_language.proofs.OneLine.{one_line}
use Rattle.hfs_language.specs.Text.{body_text, field, fields, name_text, size_fields, reply_text}
use Rattle.hfs_language.specs.Shown.{AreNames, FitsReply, ShowsReply, ShowReplies, HasNames, tree_numbers, gauge_numbers}
use Rattle.hfs_language.proofs.Shown.{both_tails, after_numbers, first_low, mode_line, line_is, gauge_is, facts_shown, content_shown, gauge_shown, refusal_shown}
use Rattle.hfs_language.proofs.Words.{word_ends, first_digit, clear_decimal}
use Rattle.hfs_language.proofs.Listings.{names_line, listing_is, line_first, behind, behind_first, listing_shown}

-- ---- kinds

-- the kind of a reply as its first bytes tell it; one of numbers may be a listing or a gauge
abbrev kind_of : List ℕ → ℕ
kind_of text =
    if get_or text 0 0 == 110 then 5
    else (if get_or text 2 0 == 10 then 0
    else (if get_or text 3 0 == 61 then 3
    else (if get_or text 3 0 == 102 then 2 else 1)))

abbrev kind : Reply → ℕ
kind reply.Ok = 0
kind (reply.Listing names) = 1
kind (reply.Facts facts) = 2
kind (reply.Content value) = 3
kind (reply.Gauge gauge) = 1
kind (reply.No refusal) = 5

-- a number behind `ok`
kind_number : (n : ℕ) (rest : List ℕ) → kind_of (codes "ok " ++ (decimal n ++ rest)) ≡ 1
kind_number n rest =
    let first = first_digit n in
    let value : (first.0 == 61) ≡ false = grind (arith, nat_tests, first.2, first.3) in
    let folder : (first.0 == 102) ≡ false = grind (arith, nat_tests, first.2, first.3) in
    ap (λ x. kind_of (codes "ok " ++ (x ++ rest))) first.4 ∙ rw (value, folder) refl

kind_facts : (folder : Bool) (rest : List ℕ) → kind_of (codes "ok" ++ ((if folder then codes " folder" else codes " file") ++ rest)) ≡ 2
kind_facts true rest = refl
kind_facts false rest = refl

gauge_numbered : (g : Gauge) → reply_text (reply.Gauge g) ≡ codes "ok " ++ (decimal g.block ++ after_numbers (drop 1 (gauge_numbers g)))
gauge_numbered g = gauge_is g ∙ ap (λ x. codes "ok " ++ x) (append_assoc (decimal g.block) (fields (drop 1 (gauge_numbers g))) (10 ∷ []))

kind_shown : (r : Reply) → kind_of (reply_text r) ≡ kind r
unfolding reply_text
kind_shown reply.Ok = refl
kind_shown (reply.Listing names) = ap kind_of (listing_is names) ∙ kind_number (length names) (names_line names)
kind_shown (reply.Facts facts) = ap kind_of (line_is facts) ∙ kind_facts facts.folder (field facts.id ++ (size_fields facts ++ mode_line facts))
kind_shown (reply.Content value) = refl
kind_shown (reply.Gauge gauge) = ap kind_of (gauge_numbered gauge) ∙ kind_number gauge.block (after_numbers (drop 1 (gauge_numbers gauge)))
kind_shown (reply.No refusal) = refl

kinds : (one other : Reply) → reply_text one ≡ reply_text other → kind one ≡ kind other
kinds one other is = sym (kind_shown one) ∙ ap kind_of is ∙ kind_shown other

apart : {m n : ℕ} → m ≡ n → (m == n) ≡ false → ⊥
apart is other = grind (arith, nat_tests)

-- ---- a listing and a gauge

-- no number has a slash behind it
plain_behind : (folder : Bool) (names : List ListedName) (numbers : List ℕ) → behind folder names ≡ after_numbers numbers → names_line names ≡ after_numbers numbers
plain_behind false names numbers is = is
plain_behind true names numbers is =
    let first = first_low numbers in
    let same = (both_tails 47 first.0 (names_line names) first.1 (is ∙ first.3)).0 in
    absurd (omega (arith, first.2, same))

-- names and numbers of one text are as many
as_many : (names : List ListedName) (numbers : List ℕ) → AreNames names → names_line names ≡ after_numbers numbers → length names ≡ length numbers
as_many [] [] are is = refl
as_many [] (n ∷ numbers) are is = let first = (both_tails 10 32 [] (decimal n ++ fields numbers ++ 10 ∷ []) is).0 in absurd (omega arith)
as_many (l ∷ names) [] are is = let first = (both_tails 32 10 (name_text l.name ++ behind l.folder names) [] is).0 in absurd (omega arith)
as_many (l ∷ names) (n ∷ numbers) are is =
    let bl = behind_first l.folder names in
    let bn = first_low numbers in
    let low : is_clear bn.0 ≡ false = grind (arith, nat_tests, bn.2) in
    let words : name_text l.name ++ bl.0 ∷ bl.1 ≡ decimal n ++ bn.0 ∷ bn.1 =
    ap (λ x. name_text l.name ++ x) (sym bl.3) ∙ ap (drop 1) is ∙ append_assoc (decimal n) (fields numbers) (10 ∷ []) ∙ ap (λ x. decimal n ++ x) bn.3 in
    let parts = word_ends (name_text l.name) (decimal n) bl.0 bn.0 bl.1 bn.1 (clear_name l.name are.0) (clear_decimal n) bl.2 low words in
    let rest = plain_behind l.folder names numbers (bl.3 ∙ parts.1 ∙ sym bn.3) in
    ap suc (as_many names numbers are.1 rest)

three_each : (trees : List TreeGauge) → length (flat_map tree_numbers trees) ≡ 3 * length trees
three_each [] = refl
three_each (tree ∷ trees) = let rest = three_each trees in omega arith

decimal_same : (n m : ℕ) → n < 2 ^ 64 → m < 2 ^ 64 → decimal n ≡ decimal m → n ≡ m
decimal_same n m hn hm is = sym (decimal_is_IsNumeral n hn).1 ∙ ap (digits_value 10) is ∙ (decimal_is_IsNumeral m hm).1

listing_is_no_gauge : (names : List ListedName) (g : Gauge) → AreNames names → FitsReply (reply.Gauge g) → reply_text (reply.Listing names) ≡ reply_text (reply.Gauge g) → ⊥
listing_is_no_gauge names g are fits is =
    let numbers = drop 1 (gauge_numbers g) in
    let fa = line_first names in
    let fb = first_low numbers in
    let low : is_clear fb.0 ≡ false = grind (arith, nat_tests, fb.2) in
    let same : decimal (length names) ++ names_line names ≡ decimal g.block ++ after_numbers numbers = ap (drop 3) (sym (listing_is names) ∙ is ∙ gauge_numbered g) in
    let words : decimal (length names) ++ fa.0 ∷ fa.1 ≡ decimal g.block ++ fb.0 ∷ fb.1 = ap (λ x. decimal (length names) ++ x) (sym fa.4) ∙ same ∙ ap (λ x. decimal g.block ++ x) fb.3 in
    let parts = word_ends (decimal (length names)) (decimal g.block) fa.0 fb.0 fa.1 fb.1 (clear_decimal (length names)) (clear_decimal g.block) fa.3 low words in
    let many : length names ≡ length numbers = as_many names numbers are (fa.4 ∙ parts.1 ∙ sym fb.3) in
    let trees = three_each g.trees in
    let count : length names ≡ 13 = omega (arith, many, trees, fits.1) in
    let block : length names ≡ g.block = decimal_same (length names) g.block (omega arith) fits.0.0 parts.0 in
    omega (arith, count, block, fits.2)

-- ---- replies

bytes_at : (value : List ℕ) (k : ℕ) → AreBytes value → get_or value k 0 < 256
bytes_at value k are = are k

pub reply_shown : (one other : Reply) → ShowsReply one other
reply_shown reply.Ok reply.Ok ha hb is = tt
reply_shown reply.Ok (reply.Listing b) ha hb is = apart (kinds reply.Ok (reply.Listing b) is) refl
reply_shown reply.Ok (reply.Facts b) ha hb is = apart (kinds reply.Ok (reply.Facts b) is) refl
reply_shown reply.Ok (reply.Content b) ha hb is = apart (kinds reply.Ok (reply.Content b) is) refl
reply_shown reply.Ok (reply.Gauge b) ha hb is = apart (kinds reply.Ok (reply.Gauge b) is) refl
reply_shown reply.Ok (reply.No b) ha hb is = apart (kinds reply.Ok (reply.No b) is) refl
reply_shown (reply.Listing a) reply.Ok ha hb is = apart (kinds (reply.Listing a) reply.Ok is) refl
reply_shown (reply.Listing a) (reply.Listing b) ha hb is = listing_shown a b ha hb is
reply_shown (reply.Listing a) (reply.Facts b) ha hb is = apart (kinds (reply.Listing a) (reply.Facts b) is) refl
reply_shown (reply.Listing a) (reply.Content b) ha hb is = apart (kinds (reply.Listing a) (reply.Content b) is) refl
reply_shown (reply.Listing a) (reply.Gauge b) ha hb is = listing_is_no_gauge a b ha hb is
reply_shown (reply.Listing a) (reply.No b) ha hb is = apart (kinds (reply.Listing a) (reply.No b) is) refl
reply_shown (reply.Facts a) reply.Ok ha hb is = apart (kinds (reply.Facts a) reply.Ok is) refl
reply_shown (reply.Facts a) (reply.Listing b) ha hb is = apart (kinds (reply.Facts a) (reply.Listing b) is) refl
reply_shown (reply.Facts a) (reply.Facts b) ha hb is = facts_shown a b ha hb is
reply_shown (reply.Facts a) (reply.Content b) ha hb is = apart (kinds (reply.Facts a) (reply.Content b) is) refl
reply_shown (reply.Facts a) (reply.Gauge b) ha hb is = apart (kinds (reply.Facts a) (reply.Gauge b) is) refl
reply_shown (reply.Facts a) (reply.No b) ha hb is = apart (kinds (reply.Facts a) (reply.No b) is) refl
reply_shown (reply.Content a) reply.Ok ha hb is = apart (kinds (reply.Content a) reply.Ok is) refl
reply_shown (reply.Content a) (reply.Listing b) ha hb is = apart (kinds (reply.Content a) (reply.Listing b) is) refl
reply_shown (reply.Content a) (reply.Facts b) ha hb is = apart (kinds (reply.Content a) (reply.Facts b) is) refl
reply_shown (reply.Content a) (reply.Content b) ha hb is = content_shown a b (λ k. bytes_at a k ha) (λ k. bytes_at b k hb) is
reply_shown (reply.Content a) (reply.Gauge b) ha hb is = apart (kinds (reply.Content a) (reply.Gauge b) is) refl
reply_shown (reply.Content a) (reply.No b) ha hb is = apart (kinds (reply.Content a) (reply.No b) is) refl
reply_shown (reply.Gauge a) reply.Ok ha hb is = apart (kinds (reply.Gauge a) reply.Ok is) refl
reply_shown (reply.Gauge a) (reply.Listing b) ha hb is = listing_is_no_gauge b a hb ha (sym is)
reply_shown (reply.Gauge a) (reply.Facts b) ha hb is = apart (kinds (reply.Gauge a) (reply.Facts b) is) refl
reply_shown (reply.Gauge a) (reply.Content b) ha hb is = apart (kinds (reply.Gauge a) (reply.Content b) is) refl
reply_shown (reply.Gauge a) (reply.Gauge b) ha hb is = gauge_shown a b ha.0 hb.0 is
reply_shown (reply.Gauge a) (reply.No b) ha hb is = apart (kinds (reply.Gauge a) (reply.No b) is) refl
reply_shown (reply.No a) reply.Ok ha hb is = apart (kinds (reply.No a) reply.Ok is) refl
reply_shown (reply.No a) (reply.Listing b) ha hb is = apart (kinds (reply.No a) (reply.Listing b) is) refl
reply_shown (reply.No a) (reply.Facts b) ha hb is = apart (kinds (reply.No a) (reply.Facts b) is) refl
reply_shown (reply.No a) (reply.Content b) ha hb is = apart (kinds (reply.No a) (reply.Content b) is) refl
reply_shown (reply.No a) (reply.Gauge b) ha hb is = apart (kinds (reply.No a) (reply.Gauge b) is) refl
reply_shown (reply.No a) (reply.No b) ha hb is = refusal_shown a b ha hb is

-- ---- many replies

fits_names : (r : Reply) → FitsReply r → HasNames r
fits_names reply.Ok fits = tt
fits_names (reply.Listing names) fits = fits
fits_names (reply.Facts facts) fits = tt
fits_names (reply.Content value) fits = tt
fits_names (reply.Gauge gauge) fits = tt
fits_names (reply.No refusal) fits = tt

line_same : (line other : List ℕ) (ls ms : List (List ℕ)) → line ∷ ls ≡ other ∷ ms → line ≡ other
line_same line other ls ms is = cc

line_never : (line : List ℕ) (ls : List (List ℕ)) → [] ≡ line ∷ ls → ⊥
line_never line ls is = cc

-- the text of the first reply, and the texts behind it
first_text : (one other : Reply) (xs ys : List ℕ) → FitsReply one → FitsReply other → reply_text one ++ xs ≡ reply_text other ++ ys → (reply_text one ≡ reply_text other) × (xs ≡ ys)
unfolding reply_text
first_text one other xs ys ha hb is =
    let body : body_text one ≡ body_text other = line_same (body_text one) (body_text other) (lines xs) (lines ys)
    (sym (one_line one (fits_names one ha) xs) ∙ ap lines is ∙ one_line other (fits_names other hb) ys) in
    let text : reply_text one ≡ reply_text other = ap (λ x. x ++ 10 ∷ []) body in
    (text, append_cancel_left (reply_text other) xs ys (ap (λ x. x ++ xs) (sym text) ∙ is))

some_text : (r : Reply) (xs : List ℕ) → FitsReply r → [] ≡ reply_text r ++ xs → ⊥
some_text r xs fits is = line_never (body_text r) (lines xs) (sym lines-nil ∙ ap lines is ∙ one_line r (fits_names r fits) xs)

pub replies_shown : (these others : List Reply) → ShowReplies these others
replies_shown [] [] ha hb is = tt
replies_shown [] (s ∷ ss) ha hb is = absurd (some_text s (flat_map reply_text ss) (All-head FitsReply s ss hb) is)
replies_shown (r ∷ rs) [] ha hb is = absurd (some_text r (flat_map reply_text rs) (All-head FitsReply r rs ha) (sym is))
replies_shown (r ∷ rs) (s ∷ ss) ha hb is =
    let fr = All-head FitsReply r rs ha in
    let fs = All-head FitsReply s ss hb in
    let parts = first_text r s (flat_map reply_text rs) (flat_map reply_text ss) fr fs is in
    (reply_shown r s fr fs parts.0, replies_shown rs ss (All-tail FitsReply r rs ha) (All-tail FitsReply s ss hb) parts.1)
