-- Lines that are taken out of bytes, one after the other.
use Rattle.std.proofs.Common.{◌≡◌, ◌++◌, ◌∷◌, [], ℕ, List, inl, inr, refl, sym, ◌∙◌, ap, append_assoc}
use Rattle.std.proofs.lemmas.List.{append-nil}
use Rattle.sector_disk.specs.Source.{Stream}
use Rattle.hfs_language.specs.Lines.{lines}
use Rattle.hfs_language.proofs.Lines.{lines-nil}
use Rattle.line_source.specs.Input.{ahead, SplitsIntoLines, TakesLines}

pub none_left : (a b : List ℕ) → a ++ b ≡ [] → (a ≡ []) × (b ≡ [])
none_left [] b none = (refl, none)
none_left (x ∷ a) b none = absurd (cc none)

-- no byte is cut into no line
pub none_cut : (used : List ℕ) (some : List (List ℕ)) (rest : List ℕ) → SplitsIntoLines used some rest → used ≡ [] → some ≡ []
none_cut used some rest (inl cut) none = sym (append-nil some) ∙ ap (λ (l : List (List ℕ)). some ++ l) (sym lines-nil) ∙ sym (cut []) ∙ ap lines (append-nil used ∙ none) ∙ lines-nil
none_cut used some rest (inr cut) none = sym cut.1 ∙ ap lines none ∙ lines-nil

pub cut_both : (used more : List ℕ) (some others : List (List ℕ)) (mid rest : List ℕ) → mid ≡ more ++ rest → SplitsIntoLines used some mid → SplitsIntoLines more others rest → SplitsIntoLines (used ++ more) (some ++ others) rest
cut_both used more some others mid rest is (inl first) (inl second) = inl (λ tail. ap lines (append_assoc used more tail) ∙ first (more ++ tail) ∙ ap (λ (l : List (List ℕ)). some ++ l) (second tail) ∙ sym (append_assoc some others (lines tail)))
cut_both used more some others mid rest is (inl first) (inr second) = inr (second.0, first more ∙ ap (λ (l : List (List ℕ)). some ++ l) second.1)
cut_both used more some others mid rest is (inr first) second =
    let none = none_left more rest (sym is ∙ first.0) in
    let other : others ≡ [] = none_cut more others rest second none.0 in
    inr (none.1, ap lines (ap (λ (l : List ℕ). used ++ l) none.0 ∙ append-nil used) ∙ first.1 ∙ sym (append-nil some) ∙ ap (λ (l : List (List ℕ)). some ++ l) (sym other))

pub takes_none : (taken : List ℕ) (source : Stream) → TakesLines taken source [] taken source
takes_none taken source = record { used = []; bytes = refl; cut = inl (λ more. refl) }

pub takes_both : (taken mid new : List ℕ) (source source_mid source_new : Stream) (some others : List (List ℕ)) → TakesLines taken source some mid source_mid → TakesLines mid source_mid others new source_new
    → TakesLines taken source (some ++ others) new source_new
takes_both taken mid new source source_mid source_new some others first second = record {
  used = first.used ++ second.used;
  bytes = first.bytes ∙ ap (λ (l : List ℕ). first.used ++ l) second.bytes ∙ sym (append_assoc first.used second.used (ahead new source_new));
  cut = cut_both first.used second.used some others (ahead mid source_mid) (ahead new source_new) second.bytes first.cut second.cut;
}

-- what was taken begins with these lines
pub front_cut : (used taken left : List ℕ) (some : List (List ℕ)) → SplitsIntoLines used some (taken ++ left) → (rest : List (List ℕ)) × (lines (used ++ taken) ≡ some ++ rest)
front_cut used taken left some (inl cut) = (lines taken, cut taken)
front_cut used taken left some (inr cut) = ([], ap lines (ap (λ (l : List ℕ). used ++ l) (none_left taken left cut.0).0 ∙ append-nil used) ∙ cut.1 ∙ sym (append-nil some))

all_cut : (used some_left : List ℕ) (some : List (List ℕ)) → SplitsIntoLines used some some_left → some_left ≡ [] → lines (used ++ some_left) ≡ some
all_cut used some_left some (inl cut) none = cut some_left ∙ ap (λ (l : List (List ℕ)). some ++ l) (ap lines none ∙ lines-nil) ∙ append-nil some
all_cut used some_left some (inr cut) none = ap lines (ap (λ (l : List ℕ). used ++ l) none ∙ append-nil used) ∙ cut.1

-- at the end of the source, all of its lines were taken
pub all_taken : (source : Stream) (some : List (List ℕ)) (taken : List ℕ) (source_new : Stream) → TakesLines [] source some taken source_new → ahead taken source_new ≡ [] → some ≡ lines source.left
all_taken source some taken source_new takes none = sym (ap lines takes.bytes ∙ all_cut takes.used (ahead taken source_new) some takes.cut none)
