-- The files of entries, each of which is one as sessions make it.
use Rattle.std.proofs.Common.{◌≡◌, ◌≤◌, ◌<◌, ◌+◌, ◌++◌, ◌∷◌, [], ℕ, List, drop, length, take, get_or, refl, sym, ◌∙◌, ap, append_assoc}
use Rattle.std.specs.Prelude.{reverse, Option, None, Some}
use Rattle.std.proofs.lemmas.List.{reverse-reverse, take_all, take_more, take-append-drop}
use Rattle.session_lines.specs.Keepers.{all_own, own_file, with_file}
use Rattle.session_lines.specs.declared.taken.Told.{Told}

-- one more behind these
abbrev and_file : Option (List ℕ) → Option ℕ → Option (List ℕ)
and_file None file = None
and_file (Some files) None = None
and_file (Some files) (Some file) = Some (files ++ file ∷ [])

own_one : (file : Option ℕ) → with_file file (Some []) ≡ and_file (Some []) file
own_one None = refl
own_one (Some file) = refl

move : (first : Option ℕ) (files : Option (List ℕ)) (last : Option ℕ) → with_file first (and_file files last) ≡ and_file (with_file first files) last
move None files last = refl
move (Some first) None last = refl
move (Some first) (Some files) None = refl
move (Some first) (Some files) (Some last) = refl

own_append : (each : List Told) (told : Told) → all_own (each ++ told ∷ []) ≡ and_file (all_own each) (own_file told)
own_append [] told = own_one (own_file told)
own_append (first ∷ each) told = ap (with_file (own_file first)) (own_append each told) ∙ move (own_file first) (all_own each) (own_file told)

pub own_more : (each : List Told) (k : ℕ) (none told : Told) (files : List ℕ) (file : ℕ) → k < length each → told ≡ get_or each k none → all_own (take k each) ≡ Some files → own_file told ≡ Some file → all_own (take (k + 1) each) ≡ Some (files ++ file ∷ [])
own_more each k none told files file low is past own =
    ap all_own (take_more each k none low) ∙ own_append (take k each) (get_or each k none) ∙ ap (λ (o : Option ℕ). and_file (all_own (take k each)) o) (ap own_file (sym is) ∙ own) ∙ ap (λ (o : Option (List ℕ)). and_file o (Some file)) past

none_with : (file : Option ℕ) → with_file file None ≡ None
none_with None = refl
none_with (Some file) = refl

none_in : (each : List Told) (told : Told) (more : List Told) → own_file told ≡ None → all_own (each ++ told ∷ more) ≡ None
none_in [] told more none = ap (λ (o : Option ℕ). with_file o (all_own more)) none
none_in (first ∷ each) told more none = ap (with_file (own_file first)) (none_in each told more none) ∙ none_with (own_file first)

-- one of them isn't
pub own_never : (each : List Told) (k : ℕ) (none told : Told) → k < length each → told ≡ get_or each k none → own_file told ≡ None → all_own each ≡ None
own_never each k none told low is not_own =
    ap all_own (sym (take-append-drop (k + 1) each) ∙ ap (λ (l : List Told). l ++ drop (k + 1) each) (take_more each k none low) ∙ append_assoc (take k each) (get_or each k none ∷ []) (drop (k + 1) each))
    ∙ none_in (take k each) (get_or each k none) (drop (k + 1) each) (ap own_file (sym is) ∙ not_own)

-- all of them are
pub own_all : (each : List Told) (k : ℕ) (files turned : List ℕ) → length each ≤ k → all_own (take k each) ≡ Some files → turned ≡ reverse files → all_own each ≡ Some (reverse turned)
own_all each k files turned past all is = ap all_own (sym (take_all k each past)) ∙ all ∙ ap Some (sym (reverse-reverse files) ∙ ap reverse (sym is))
