-- A path is read exactly where it is spelled.
use Rattle.std.proofs.Common.{◌≡◌, ℕ, ◌<◌, false, ◌==◌, List, [], ◌∷◌, length, Ok, Err, bytes_eq, chars, refl, sym, ap, ◌∙◌, subst, arith, length-append}
use Rattle.std.specs.List.{slice_split, join_with_byte}
use Rattle.std.specs.Cmp.Lexicographic.{bytes_decides}
use Rattle.std.proofs.lemmas.Bool.{cond_both, cond-false, eqb-true, false_from_ne_true}
use Rattle.std.proofs.lemmas.List.Splits.{join_with_byte-slice_split}
use Rattle.std.specs.Str.{chars}
use Rattle.name_text.specs.Reading.{is_reserved, component}
use Rattle.hfs_language.specs.declared.refusal.Refusal.TheVariants.{BadCommand, BadName}
use Rattle.hfs_language.specs.Language.{both, in_front, name_of, names_of, components, path_of}
use Rattle.hfs_language.specs.Spelling.{SpellNames, SpellsPath, IsReadAsPath}
use Rattle.hfs_language.proofs.Splitting.{HaveNo, parts_have_none, split_joined}
use Rattle.hfs_language.proofs.Results.{after_ok, both_ok}

nothing_named : name_of [] ≡ Err BadName
unfolding name_of component is_reserved chars
nothing_named = refl

component_some : (text name : List ℕ) → name_of text ≡ Ok name → 0 < length text
component_some [] name is = let never : Err BadName ≡ Ok name = sym nothing_named ∙ is in absurd (cc)
component_some (c ∷ text) name is = omega arith

names_spelled : (texts path : List (List ℕ)) → HaveNo 47 texts → names_of texts ≡ Ok path → SpellNames texts path
names_spelled [] [] none is = tt
names_spelled [] (name ∷ path) none is = absurd (cc)
names_spelled (text ∷ texts) path none is =
    let made = after_ok in_front (both (name_of text) (names_of texts)) path is in
    let parts = both_ok (name_of text) (names_of texts) made.0 made.1 in
    subst (λ x. SpellNames (text ∷ texts) x) made.2
    (record { some = component_some text made.0.0 parts.0; no_slash = none.0; reads = parts.0 }, names_spelled texts made.0.1 none.1 parts.1)

names_read : (texts path : List (List ℕ)) → SpellNames texts path → names_of texts ≡ Ok path
names_read [] [] h = refl
names_read [] (name ∷ path) h = absurd h
names_read (text ∷ texts) [] h = absurd h
names_read (text ∷ texts) (name ∷ path) h = rw (h.0.reads, names_read texts path h.1) refl

have_no_slash : (texts path : List (List ℕ)) → SpellNames texts path → HaveNo 47 texts
have_no_slash [] path h = tt
have_no_slash (text ∷ texts) [] h = absurd h
have_no_slash (text ∷ texts) (name ∷ path) h = (h.0.no_slash, have_no_slash texts path h.1)

first_some : (text : List ℕ) (texts : List (List ℕ)) → 0 < length text → 0 < length (join_with_byte 47 (text ∷ texts))
first_some text [] some = some
first_some text (next ∷ texts) some = omega (arith, length-append text (47 ∷ join_with_byte 47 (next ∷ texts)))

path_spelled : (word : List ℕ) (path : List (List ℕ)) → path_of word ≡ Ok path → SpellsPath word path
unfolding path_of
path_spelled [] path = λ (is : path_of [] ≡ Ok path). let never : Err BadCommand ≡ Ok path = is in absurd {0} (cc)
path_spelled (c ∷ rest) path =
    cond_both (c == 47) (names_of (components rest)) (Err BadCommand) (λ r. r ≡ Ok path → SpellsPath (c ∷ rest) path)
    (λ slash. cond_both (bytes_eq rest []) [] (slice_split (λ b. b == 47) rest) (λ texts. names_of texts ≡ Ok path → SpellsPath (c ∷ rest) path)
    (λ empty is. ([], names_spelled [] path tt is, rw (eqb-true c 47 slash, (bytes_decides rest []).0 empty) refl))
    (λ _ is. (slice_split (λ b. b == 47) rest, names_spelled (slice_split (λ b. b == 47) rest) path (parts_have_none 47 rest) is, rw (eqb-true c 47 slash, join_with_byte-slice_split 47 rest) refl)))
    (λ _ never. absurd (cc))

path_read : (texts path : List (List ℕ)) → SpellNames texts path → path_of (47 ∷ join_with_byte 47 texts) ≡ Ok path
unfolding path_of
path_read [] path h = names_read [] path h
path_read (text ∷ texts) [] h = absurd h
path_read (text ∷ texts) (name ∷ path) h =
    let joined = join_with_byte 47 (text ∷ texts) in
    let some : 0 < length joined = first_some text texts h.0.some in
    let other : bytes_eq joined [] ≡ false = false_from_ne_true _ (λ e. let none : length joined ≡ 0 = ap length ((bytes_decides joined []).0 e) in omega arith) in
    ap names_of (cond-false _ _ _ other ∙ split_joined 47 text texts (have_no_slash (text ∷ texts) (name ∷ path) h)) ∙ names_read (text ∷ texts) (name ∷ path) h

pub path_as_spelled : (word : List ℕ) (path : List (List ℕ)) → IsReadAsPath word path
path_as_spelled word path = (path_spelled word path, λ h. rw h.2 (path_read h.0 path h.1))
