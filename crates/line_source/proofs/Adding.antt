-- Lines that come behind those in memory.
use Rattle.std.proofs.Common.{◌≡◌, ◌==◌, ◌≤◌, ◌<◌, ◌+◌, ◌++◌, ◌∷◌, ◌⊎◌, ◌||◌, inl, inr, [], ℕ, Bool, true, false, List, IsTrue, OnOk, Result, Ok, Err, length, take, refl, sym, ◌∙◌, ap, subst, arith, append_assoc, length-append}
use Rattle.std.proofs.lemmas.Bool.Decides.{nat_tests}
use Rattle.std.proofs.lemmas.List.{append-nil, map-append}
use Rattle.std.proofs.lemmas.List.Elements.{All-head, All-tail}
use Rattle.sector_disk.specs.Source.{Stream}
use Rattle.hfs_language.specs.Lines.{HasNoNewline}
use Rattle.line_source.specs.Batch.{AddsLines, has_newline, held}
use Rattle.line_source.specs.Input.{ahead, weight, IsLine, SameSource, TakesLines}
use Rattle.line_source.proofs.Cuts.{takes_both, takes_none}

pub adds_none : (limit : ℕ) (lines : List (List ℕ)) (taken : List ℕ) (source : Stream) → AddsLines limit lines taken source lines taken source
adds_none limit lines taken source = record {
  texts = [];
  held_are = sym (append-nil lines);
  takes = λ tells. takes_none taken source;
  nearer = omega arith;
  same = record { tells = refl; names = refl };
  later = omega arith;
}

pub adds_both : (limit : ℕ) (lines mid new : List (List ℕ)) (taken taken_mid taken_new : List ℕ) (source source_mid source_new : Stream) → AddsLines limit lines taken source mid taken_mid source_mid
    → AddsLines limit mid taken_mid source_mid new taken_new source_new → AddsLines limit lines taken source new taken_new source_new
adds_both limit lines mid new taken taken_mid taken_new source source_mid source_new first second = record {
  texts = first.texts ++ second.texts;
  held_are = second.held_are ∙ ap (λ (l : List (List ℕ)). l ++ held limit second.texts) first.held_are ∙ append_assoc lines (held limit first.texts) (held limit second.texts)
      ∙ ap (λ (l : List (List ℕ)). lines ++ l) (sym (map-append (take (limit + 1)) first.texts second.texts));
  takes = λ tells. takes_both taken taken_mid taken_new source source_mid source_new first.texts second.texts (first.takes tells) (second.takes (subst IsTrue (sym first.same.tells) tells));
  nearer = omega (arith, first.nearer, second.nearer, length-append first.texts second.texts);
  same = record { tells = second.same.tells ∙ first.same.tells; names = second.same.names ∙ first.same.names };
  later = omega (arith, first.later, second.later);
}

-- one line more
pub adds_one : (limit : ℕ) (lines new : List (List ℕ)) (taken taken_new : List ℕ) (source source_new : Stream) (text line : List ℕ) → new ≡ lines ++ line ∷ [] → IsLine limit text line
    → (IsTrue source.tells → TakesLines taken source (text ∷ []) taken_new source_new) → weight taken_new source_new < weight taken source → SameSource source source_new → source.faults ≤ source_new.faults
    → AddsLines limit lines taken source new taken_new source_new
adds_one limit lines new taken taken_new source source_new text line is held_is takes nearer same later = record {
  texts = text ∷ [];
  held_are = is ∙ ap (λ (l : List ℕ). lines ++ l ∷ []) held_is;
  takes = takes;
  nearer = omega (arith, nearer);
  same = same;
  later = later;
}

-- how many there are then
pub adds_length : (limit : ℕ) (lines new : List (List ℕ)) (taken taken_new : List ℕ) (source source_new : Stream) → AddsLines limit lines taken source new taken_new source_new → length lines ≤ length new
adds_length limit lines new taken taken_new source source_new adds = omega (arith, ap (λ (l : List (List ℕ)). length l) adds.held_are, length-append lines (held limit adds.texts))

not_newline : (byte : ℕ) → (byte ≡ 10 → ⊥) → (byte == 10) ≡ false
not_newline byte other = grind (arith, nat_tests, other)

-- where a newline stands, it isn't so that none does
pub newline_there : (bytes : List ℕ) → has_newline bytes ≡ true → HasNoNewline bytes → ⊥
newline_there [] there none = absurd (cc there)
newline_there (byte ∷ bytes) there none =
    newline_there bytes (subst (λ (b : Bool). (b || has_newline bytes) ≡ true) (not_newline byte (All-head (λ b. b ≡ 10 → ⊥) byte bytes none)) there) (All-tail (λ b. b ≡ 10 → ⊥) byte bytes none)

-- at the end no line is added
pub adds_end : (limit : ℕ) (lines : List (List ℕ)) (taken taken_new : List ℕ) (source source_new : Stream) → (IsTrue source.tells → (ahead taken source ≡ []) × (ahead taken_new source_new ≡ []))
    → weight taken_new source_new ≤ weight taken source → SameSource source source_new → source.faults ≤ source_new.faults → AddsLines limit lines taken source lines taken_new source_new
adds_end limit lines taken taken_new source source_new at_end heavy same later = record {
  texts = [];
  held_are = sym (append-nil lines);
  takes = λ tells. record { used = []; bytes = (at_end tells).0 ∙ sym (at_end tells).1; cut = inl (λ more. refl) };
  nearer = omega (arith, heavy);
  same = same;
  later = later;
}

-- the bytes that were taken stood first
pub adds_gone : (limit : ℕ) (lines mid : List (List ℕ)) (taken taken_mid : List ℕ) (source source_mid : Stream) → AddsLines limit lines taken source mid taken_mid source_mid
    → IsTrue source.tells → (gone : List ℕ) × (ahead taken source ≡ gone ++ source_mid.left)
adds_gone limit lines mid taken taken_mid source source_mid adds tells =
    let takes = adds.takes tells in
    (takes.used ++ taken_mid, takes.bytes ∙ sym (append_assoc takes.used taken_mid source_mid.left))

pub adds_gone_more : (limit : ℕ) (lines mid : List (List ℕ)) (taken taken_mid : List ℕ) (source source_mid source_new : Stream) → AddsLines limit lines taken source mid taken_mid source_mid
    → (IsTrue source_mid.tells → (gone : List ℕ) × (ahead taken_mid source_mid ≡ gone ++ source_new.left)) → IsTrue source.tells → (gone : List ℕ) × (ahead taken source ≡ gone ++ source_new.left)
adds_gone_more limit lines mid taken taken_mid source source_mid source_new adds more tells =
    let takes = adds.takes tells in
    let gone = more (subst IsTrue (sym adds.same.tells) tells) in
    (takes.used ++ gone.0, takes.bytes ∙ ap (λ (l : List ℕ). takes.used ++ l) gone.1 ∙ sym (append_assoc takes.used gone.0 source_new.left))

-- the source wasn't asked
pub still_source : (bytes : List ℕ) (old new : Stream) → has_newline bytes ≡ true → (new ≡ old) ⊎ HasNoNewline bytes → new ≡ old
still_source bytes old new there (inl same) = same
still_source bytes old new there (inr none) = absurd (newline_there bytes there none)

-- a call that adds lines behind another that did
pub adds_then : {E : Type 0} (r : Result (Unit {0}) E) (limit : ℕ) (lines mid new : List (List ℕ)) (taken taken_mid taken_new : List ℕ) (source source_mid source_new : Stream) → AddsLines limit lines taken source mid taken_mid source_mid
    → OnOk r (AddsLines limit mid taken_mid source_mid new taken_new source_new) → OnOk r (AddsLines limit lines taken source new taken_new source_new)
adds_then (Ok x) limit lines mid new taken taken_mid taken_new source source_mid source_new first second = adds_both limit lines mid new taken taken_mid taken_new source source_mid source_new first second
adds_then (Err e) limit lines mid new taken taken_mid taken_new source source_mid source_new first second = tt
