-- The refusals of words, in their order.
use Rattle.std.proofs.Common.{◌≡◌, ◌≢◌, ◌⊎◌, ℕ, ◌<◌, ◌^◌, Bool, true, false, ◌==◌, ◌&&◌, nat_lt, nat_le, List, [], ◌∷◌, length, Result, Ok, Err, bytes_eq, inl, inr, refl, sym, ◌∙◌, ap, subst, arith, decimal, drop, if◌then◌else◌}
use Rattle.std.specs.List.{list_all, slice_split}
use Rattle.std.specs.Str.{is_utf8}
use Rattle.std.specs.Str.Parse.{digits_value}
use Rattle.std.proofs.lemmas.Bool.{cond_both}
use Rattle.std.proofs.lemmas.Bool.Decides.{nat_tests}
use Rattle.name_text.specs.Reading.{component}
use Rattle.name_text.specs.declared.piece.NameFault.{NameFault}
use Rattle.name_text.specs.declared.piece.NameFault.TheVariants as fault
use Rattle.percent_encoding.specs.Percent.{percent_decode}
use Rattle.hfs_language.specs.declared.refusal.Refusal.{Refusal}
use Rattle.hfs_language.specs.declared.refusal.Refusal.TheVariants.{TooLong, BadCommand, BadName, NameTooLong}
use Rattle.hfs_language.specs.Language.{after, attribute_of, both, command_of, components, earlier, in_front, is_octal, limited, mode_of, most_bytes, name_of, named, names_of, number_of, path_of, rank, value_of, words_command}
use Rattle.hfs_language.specs.Order.{AreRefusedInOrder}
use Rattle.hfs_language.specs.Text.{value_text}

-- a refusal that words may have
abbrev pub Kind : Refusal → Type 0
Kind why = (why ≡ BadCommand) ⊎ (why ≡ BadName) ⊎ (why ≡ NameTooLong)

of_grammar : Kind BadCommand
of_grammar = inl refl

of_name : Kind BadName
of_name = inr (inl refl)

of_length : Kind NameTooLong
of_length = inr (inr refl)

by_kind : (P : Refusal → Type 0) (why : Refusal) → Kind why → P BadCommand → P BadName → P NameTooLong → P why
by_kind P why (inl is) a b c = subst P (sym is) a
by_kind P why (inr (inl is)) a b c = subst P (sym is) b
by_kind P why (inr (inr is)) a b c = subst P (sym is) c

-- a reading that is refused has such a refusal
abbrev pub Reads : {X : Type 0} → Result X Refusal → Type 0
Reads {X} r = (why : Refusal) → r ≡ Err why → Kind why

-- a reading refused for this reason
abbrev pub err : (X : Type 0) → Refusal → Result X Refusal
err X why = Err why

same_why : {X : Type 0} (a b : Refusal) → err X a ≡ err X b → a ≡ b
same_why a b is = cc

reads_ok : {X : Type 0} (x : X) → Reads (Ok x)
reads_ok x why is = absurd (cc is)

reads_err : {X : Type 0} (why : Refusal) → Kind why → Reads (err X why)
reads_err why kind other is = subst Kind (same_why why other is) kind

kind_of_err : {X : Type 0} (why : Refusal) → Reads (err X why) → Kind why
kind_of_err why reads = reads why refl

err_why : {X Y : Type 0} (a b : Refusal) → err X a ≡ Err b → err Y a ≡ Err b
err_why a b is = ap Err (same_why a b is)

no_err : {X : Type 0} (x : X) (why : Refusal) → Ok x ≢ Err why
no_err x why is = cc is

-- two refusals that differ
differ : {X : Type 0} (a b : Refusal) → a ≢ b → err X a ≢ Err b
differ a b other is = other (same_why a b is)

length_no_grammar : NameTooLong ≢ BadCommand
length_no_grammar is = cc is

length_no_name : NameTooLong ≢ BadName
length_no_name is = cc is

name_no_grammar : BadName ≢ BadCommand
name_no_grammar is = cc is

not_by : {X : Type 0} (why a b : Refusal) → err X why ≡ Err a → a ≢ b → err X why ≢ Err b
not_by why a b is other same = other (sym (same_why why a is) ∙ same_why why b same)

second : {X Y : Type 0} (x : X) (why : Refusal) → AreRefusedInOrder (Ok x) (err Y why)
second x why = record {
  grammar = (λ is. inr (err_why why BadCommand is), λ is. elim is [ inl a ↦ absurd (no_err x BadCommand a) | inr b ↦ err_why why BadCommand b ]);
  name = (
    λ is. let e = err_why why BadName is in (no_err x BadCommand, not_by why BadName BadCommand e name_no_grammar, inr e),
    λ is. elim is.2 [ inl a ↦ absurd (no_err x BadName a) | inr b ↦ err_why why BadName b ],
  );
  long = (
    λ is. let e = err_why why NameTooLong is in (no_err x BadCommand, not_by why NameTooLong BadCommand e length_no_grammar, no_err x BadName, not_by why NameTooLong BadName e length_no_name, inr e),
    λ is. elim is.4 [ inl a ↦ absurd (no_err x NameTooLong a) | inr b ↦ err_why why NameTooLong b ],
  );
}

first : {X Y : Type 0} (why : Refusal) (y : Y) → AreRefusedInOrder (err X why) (Ok y)
first why y = record {
  grammar = (λ is. inl (err_why why BadCommand is), λ is. elim is [ inl a ↦ err_why why BadCommand a | inr b ↦ absurd (no_err y BadCommand b) ]);
  name = (
    λ is. let e = err_why why BadName is in (not_by why BadName BadCommand e name_no_grammar, no_err y BadCommand, inl e),
    λ is. elim is.2 [ inl a ↦ err_why why BadName a | inr b ↦ absurd (no_err y BadName b) ],
  );
  long = (
    λ is. let e = err_why why NameTooLong is in (not_by why NameTooLong BadCommand e length_no_grammar, no_err y BadCommand, not_by why NameTooLong BadName e length_no_name, no_err y BadName, inl e),
    λ is. elim is.4 [ inl a ↦ err_why why NameTooLong a | inr b ↦ absurd (no_err y NameTooLong b) ],
  );
}

neither : {X Y : Type 0} (one other why : Refusal) → one ≢ why → other ≢ why → (err X one ≡ Err why) ⊎ (err Y other ≡ Err why) → ⊥
neither {X} {Y} one other why a b (inl is) = a (same_why {X = X} one why is)
neither {X} {Y} one other why a b (inr is) = b (same_why {X = Y} other why is)

-- the refusal of two that are refused, where it is one of these
breaks : {X Y : Type 0} (one other : Refusal) → earlier one other ≡ BadCommand → (one ≡ BadCommand) ⊎ (other ≡ BadCommand) → AreRefusedInOrder (err X one) (err Y other)
breaks {X} {Y} one other is from = record {
  grammar = (λ _. elim from [ inl a ↦ inl (ap (err X) a) | inr b ↦ inr (ap (err Y) b) ], λ _. ap (err (X × Y)) is);
  name = (λ e. absurd (name_no_grammar (sym (same_why {X = X × Y} (earlier one other) BadName e) ∙ is)), λ s. absurd (elim from [ inl a ↦ s.0 (ap (err X) a) | inr b ↦ s.1 (ap (err Y) b) ]));
  long = (λ e. absurd (length_no_grammar (sym (same_why {X = X × Y} (earlier one other) NameTooLong e) ∙ is)), λ s. absurd (elim from [ inl a ↦ s.0 (ap (err X) a) | inr b ↦ s.1 (ap (err Y) b) ]));
}

misnames : {X Y : Type 0} (one other : Refusal) → earlier one other ≡ BadName → one ≢ BadCommand → other ≢ BadCommand → (one ≡ BadName) ⊎ (other ≡ BadName) → AreRefusedInOrder (err X one) (err Y other)
misnames {X} {Y} one other is a b from = record {
  grammar = (λ e. absurd (name_no_grammar (sym is ∙ same_why {X = X × Y} (earlier one other) BadCommand e)), λ s. absurd (neither one other BadCommand a b s));
  name = (λ _. (differ one BadCommand a, differ other BadCommand b, elim from [ inl p ↦ inl (ap (err X) p) | inr q ↦ inr (ap (err Y) q) ]), λ _. ap (err (X × Y)) is);
  long = (λ e. absurd (length_no_name (sym (same_why {X = X × Y} (earlier one other) NameTooLong e) ∙ is)), λ s. absurd (elim from [ inl p ↦ s.2 (ap (err X) p) | inr q ↦ s.3 (ap (err Y) q) ]));
}

too_long_names : {X Y : Type 0} → AreRefusedInOrder (err X NameTooLong) (err Y NameTooLong)
too_long_names {X} {Y} = record {
  grammar = (λ e. absurd (length_no_grammar (same_why {X = X × Y} NameTooLong BadCommand e)), λ s. absurd (neither NameTooLong NameTooLong BadCommand length_no_grammar length_no_grammar s));
  name = (λ e. absurd (length_no_name (same_why {X = X × Y} NameTooLong BadName e)), λ s. absurd (neither NameTooLong NameTooLong BadName length_no_name length_no_name s.2));
  long = (λ _. (differ NameTooLong BadCommand length_no_grammar, differ NameTooLong BadCommand length_no_grammar, differ NameTooLong BadName length_no_name, differ NameTooLong BadName length_no_name, inl refl), λ _. refl);
}

two : {X Y : Type 0} (one other : Refusal) → Kind one → Kind other → AreRefusedInOrder (err X one) (err Y other)
two {X} {Y} one other j k =
    by_kind (λ a. AreRefusedInOrder (err X a) (err Y other)) one j
    (by_kind (λ b. AreRefusedInOrder (err X BadCommand) (err Y b)) other k (breaks BadCommand BadCommand refl (inl refl)) (breaks BadCommand BadName refl (inl refl)) (breaks BadCommand NameTooLong refl (inl refl)))
    (by_kind (λ b. AreRefusedInOrder (err X BadName) (err Y b)) other k (breaks BadName BadCommand refl (inr refl)) (misnames BadName BadName refl name_no_grammar name_no_grammar (inl refl))
    (misnames BadName NameTooLong refl name_no_grammar length_no_grammar (inl refl)))
    (by_kind (λ b. AreRefusedInOrder (err X NameTooLong) (err Y b)) other k (breaks NameTooLong BadCommand refl (inr refl)) (misnames NameTooLong BadName refl length_no_grammar name_no_grammar (inr refl)) too_long_names)

pub in_order : {X Y : Type 0} (one : Result X Refusal) (other : Result Y Refusal) → Reads one → Reads other → AreRefusedInOrder one other
in_order (Ok x) (Ok y) r s = record {
  grammar = (λ is. absurd (cc is), λ is. elim is [ inl a ↦ absurd (cc a) | inr b ↦ absurd (cc b) ]);
  name = (λ is. absurd (cc is), λ is. elim is.2 [ inl a ↦ absurd (cc a) | inr b ↦ absurd (cc b) ]);
  long = (λ is. absurd (cc is), λ is. elim is.4 [ inl a ↦ absurd (cc a) | inr b ↦ absurd (cc b) ]);
}
in_order (Ok x) (Err why) r s = second x why
in_order (Err why) (Ok y) r s = first why y
in_order (Err one) (Err other) r s = two one other (kind_of_err one r) (kind_of_err other s)

-- ---- each reading of a word

reads_if : {X : Type 0} (test : Bool) (x : X) → Reads (if test then Ok x else Err BadCommand)
reads_if true x = reads_ok x
reads_if false x = reads_err BadCommand of_grammar

kind_earlier : (one other : Refusal) → Kind one → Kind other → Kind (earlier one other)
kind_earlier one other j k = cond_both (nat_le (rank one) (rank other)) one other Kind (λ _. j) (λ _. k)

pub reads_both : {X Y : Type 0} (one : Result X Refusal) (other : Result Y Refusal) → Reads one → Reads other → Reads (both one other)
reads_both (Ok x) (Ok y) r s = reads_ok (x, y)
reads_both (Ok x) (Err why) r s = reads_err why (kind_of_err why s)
reads_both (Err why) (Ok y) r s = reads_err why (kind_of_err why r)
reads_both {X} {Y} (Err one) (Err other) r s = reads_err (earlier one other) (kind_earlier one other (kind_of_err one r) (kind_of_err other s))

reads_after : {X Y : Type 0} (make : X → Y) (r : Result X Refusal) → Reads r → Reads (after make r)
reads_after make (Ok x) r = reads_ok (make x)
reads_after make (Err why) r = reads_err why (kind_of_err why r)

reads_named : (r : Result (List ℕ) NameFault) → Reads (named r)
reads_named (Ok name) = reads_ok name
reads_named (Err fault.BadName) = reads_err BadName of_name
reads_named (Err fault.NameTooLong) = reads_err NameTooLong of_length
reads_named (Err fault.Memory) = reads_err BadName of_name

reads_name : (text : List ℕ) → Reads (name_of text)
unfolding name_of
reads_name text = reads_named (component (Rattle.std.specs.Str.chars text))

reads_names : (texts : List (List ℕ)) → Reads (names_of texts)
reads_names [] = reads_ok []
reads_names (text ∷ rest) = reads_after in_front (both (name_of text) (names_of rest)) (reads_both (name_of text) (names_of rest) (reads_name text) (reads_names rest))

pub reads_path : (word : List ℕ) → Reads (path_of word)
unfolding path_of
reads_path [] = reads_err BadCommand of_grammar
reads_path (c ∷ text) = cond_both (c == 47) (names_of (components text)) (Err BadCommand) Reads (λ _. reads_names (components text)) (λ _. reads_err BadCommand of_grammar)

pub reads_mode : (word : List ℕ) → Reads (mode_of word)
unfolding mode_of
reads_mode word = reads_if (nat_le 1 (length word) && nat_le (length word) 4 && list_all is_octal word) (digits_value 8 word)

pub reads_number : (word : List ℕ) → Reads (number_of word)
unfolding number_of
reads_number word = reads_if (bytes_eq word (decimal (digits_value 10 word)) && nat_lt (digits_value 10 word) (2 ^ 64)) (digits_value 10 word)

pub reads_value : (word : List ℕ) → Reads (value_of word)
unfolding value_of
reads_value word = reads_if (bytes_eq word (value_text (percent_decode (drop 1 word)))) (percent_decode (drop 1 word))

reads_limited : (r : Result (List ℕ) Refusal) → Reads r → Reads (limited r)
reads_limited (Ok name) r = cond_both (nat_lt 127 (length name)) (Err NameTooLong) (Ok name) Reads (λ _. reads_err NameTooLong of_length) (λ _. reads_ok name)
reads_limited (Err why) r = r

pub reads_attribute : (word : List ℕ) → Reads (attribute_of word)
unfolding attribute_of
reads_attribute word = cond_both (bytes_eq word []) (Err BadCommand) (limited (name_of word)) Reads (λ _. reads_err BadCommand of_grammar) (λ _. reads_limited (name_of word) (reads_name word))

over : (line : List ℕ) → most_bytes < length line → nat_lt most_bytes (length line) ≡ true
over line long = grind (arith, nat_tests)

-- a line that is too long
pub too_long : (line : List ℕ) → most_bytes < length line → command_of line ≡ Err TooLong
unfolding command_of
too_long line long = ap (λ b. if b then Err TooLong else (if is_utf8 line then words_command (slice_split (λ b. b == 32) line) else Err BadCommand)) (over line long)
