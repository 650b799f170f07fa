-- Lines of a source that are read and served.
use Rattle.std.proofs.Common.{◌≡◌, ◌≤◌, ◌+◌, ◌++◌, ◌∷◌, ◌==◌, [], Bool, true, ℕ, List, IsTrue, length, length-append, length-drop, take, drop, refl, sym, ◌∙◌, ap, subst, arith}
use Rattle.std.specs.Prelude.{Option}
use Rattle.std.proofs.lemmas.Bool.Decides.{nat_tests}
use Rattle.std.proofs.lemmas.List.{drop-append-le, drop-drop, drop-map, length-map, map-append, take-append-le, take-map, take_all}
use Rattle.sector_disk.specs.Source.{Stream}
use Rattle.sector_disk.specs.Space.{Space}
use Rattle.jnl_format.specs.Recovery.{Content}
use Rattle.hfs_language.specs.Language.{most_bytes}
use Rattle.hfs_language.specs.declared.reply.Change.{Change}
use Rattle.hfs_serving.specs.Going.{Knowing}
use Rattle.hfs_serving.specs.Outside.{Outside}
use Rattle.hfs_serving.specs.Speaking.{Said, Speaks, Spoken}
use Rattle.hfs_serving.specs.Spoken.{CrashesSpoken, ServesSpoken}
use Rattle.hfs_serving.specs.Taking.{HasTaken}
use Rattle.line_source.specs.Batch.{AddsLines, held}
use Rattle.line_source.specs.Input.{ahead, SplitsIntoLines, TakesLines}
use Rattle.line_source.proofs.Cuts.{takes_both, takes_none}

-- ---- more lines were read

pub held_drop : (count : ℕ) (texts : List (List ℕ)) → held most_bytes (drop count texts) ≡ drop count (held most_bytes texts)
held_drop count texts = sym (drop-map (take (most_bytes + 1)) count texts)

pub held_take : (count : ℕ) (texts : List (List ℕ)) → take count (held most_bytes texts) ≡ held most_bytes (take count texts)
held_take count texts = take-map (take (most_bytes + 1)) count texts

pub held_length : (texts : List (List ℕ)) → length (held most_bytes texts) ≡ length texts
held_length texts = length-map texts (take (most_bytes + 1))

-- all of them
pub held_all : (texts : List (List ℕ)) → take (length texts) (held most_bytes texts) ≡ held most_bytes texts
held_all texts = take_all (length texts) (held most_bytes texts) (omega (arith, held_length texts))

pub step_more : (said : Said) (heard : List Change) (capacity : ℕ) (start : Content) (shrunk : Option ℕ) (old : Outside) (texts more : List (List ℕ)) (count : ℕ) (knows : Knowing) (space : Space) (new : Outside) → count ≤ length texts
    → ServesSpoken said heard count capacity knows start shrunk old (held most_bytes texts) space new → ServesSpoken said heard count capacity knows start shrunk old (held most_bytes (texts ++ more)) space new
step_more said heard capacity start shrunk old texts more count knows space new inside step = record {
  speech = step.speech;
  now = step.now;
  serves = step.serves;
  stands = step.stands;
  asked = step.asked ∙ sym (take-append-le count (held most_bytes texts) (held most_bytes more) (omega (arith, inside, held_length texts))) ∙ ap (λ (l : List (List ℕ)). take count l) (sym (map-append (take (most_bytes + 1)) texts more));
  rests = step.rests;
  is = step.is;
  changes = step.changes;
}

-- a batch of the lines that are in memory
module _ (from to : Spoken) (heard : List Change) (number count : ℕ) (capacity : ℕ) (start : Content) (shrunk : Option ℕ) (old : Outside) (lines texts : List (List ℕ)) (at : number ≡ count) (are : lines ≡ held most_bytes (drop count texts)) where
  pub step_held : (many : ℕ) (knows : Knowing) (space : Space) (new : Outside) → ServesSpoken (Speaks number start from to) heard many capacity knows start shrunk old lines space new
      → ServesSpoken (Speaks count start from to) heard many capacity knows start shrunk old (drop count (held most_bytes texts)) space new
  step_held many knows space new step =
      subst (λ (n : ℕ). ServesSpoken (Speaks n start from to) heard many capacity knows start shrunk old (drop count (held most_bytes texts)) space new) at
      (subst (λ (l : List (List ℕ)). ServesSpoken (Speaks number start from to) heard many capacity knows start shrunk old l space new) (are ∙ held_drop count texts) step)

  pub crash_held : (new : Outside) → CrashesSpoken (Speaks number start from to) heard capacity start shrunk old lines new → CrashesSpoken (Speaks count start from to) heard capacity start shrunk old (drop count (held most_bytes texts)) new
  crash_held new step =
      subst (λ (n : ℕ). CrashesSpoken (Speaks n start from to) heard capacity start shrunk old (drop count (held most_bytes texts)) new) at
      (subst (λ (l : List (List ℕ)). CrashesSpoken (Speaks number start from to) heard capacity start shrunk old l new) (are ∙ held_drop count texts) step)

-- ---- lines that were read, of which some are still in memory

-- So many of the lines that were read are served, and the others are in memory.
pub record TakesOn (taken : List ℕ) (source : Stream) (pending : List (List ℕ)) (taken_now : List ℕ) (now : Stream) : Type 0 where
  pub texts : List (List ℕ)
  pub count : ℕ
  pub inside : count ≤ length texts
  pub pending_are : pending ≡ held most_bytes (drop count texts)
  pub takes : IsTrue source.tells → TakesLines taken source texts taken_now now

-- the same, and what holds of those that were served
abbrev pub On : List ℕ → Stream → List (List ℕ) → List ℕ → Stream → (ℕ → List (List ℕ) → Type 0) → Type 0
On taken source pending taken_now now Q = (reading : TakesOn taken source pending taken_now now) × Q reading.count reading.texts

pub on_none : (taken : List ℕ) (source : Stream) (pending : List (List ℕ)) (Q : ℕ → List (List ℕ) → Type 0) → pending ≡ [] → Q 0 [] → On taken source pending taken source Q
on_none taken source pending Q none q = (record { texts = []; count = 0; inside = omega arith; pending_are = none; takes = λ tells. takes_none taken source }, q)

module _ (taken : List ℕ) (source : Stream) (pending : List (List ℕ)) (taken_now : List ℕ) (now : Stream) (Q : ℕ → List (List ℕ) → Type 0) (on : On taken source pending taken_now now Q) where
  pub on_add : (pending_new : List (List ℕ)) (taken_new : List ℕ) (new : Stream) → now.tells ≡ source.tells → AddsLines most_bytes pending taken_now now pending_new taken_new new
      → ((count : ℕ) (texts more : List (List ℕ)) → count ≤ length texts → Q count texts → Q count (texts ++ more)) → On taken source pending_new taken_new new Q
  on_add pending_new taken_new new same adds more = (
    record {
      texts = on.0.texts ++ adds.texts;
      count = on.0.count;
      inside = omega (arith, on.0.inside, length-append on.0.texts adds.texts);
      pending_are =
          adds.held_are ∙ ap (λ (l : List (List ℕ)). l ++ held most_bytes adds.texts) on.0.pending_are
          ∙ sym (map-append (take (most_bytes + 1)) (drop on.0.count on.0.texts) adds.texts)
          ∙ ap (held most_bytes) (sym (drop-append-le on.0.count on.0.texts adds.texts on.0.inside));
      takes = λ tells. takes_both taken taken_now taken_new source now new on.0.texts adds.texts (on.0.takes tells) (adds.takes (subst IsTrue (sym same) tells));
    },
    more on.0.count on.0.texts adds.texts on.0.inside on.1,
  )

  pub on_serve : (P : ℕ → List (List ℕ) → Type 0) (k : ℕ) (pending_new : List (List ℕ)) → k ≤ length pending → pending_new ≡ drop k pending
      → ((count : ℕ) (texts : List (List ℕ)) → count ≤ length texts → pending ≡ held most_bytes (drop count texts) → Q count texts → P (count + k) texts) → On taken source pending_new taken_now now P
  on_serve P k pending_new few is goes = (
    record {
      texts = on.0.texts;
      count = on.0.count + k;
      inside =
          let long = ap (λ (l : List (List ℕ)). length l) on.0.pending_are in
          omega (arith, on.0.inside, few, long, length-map (drop on.0.count on.0.texts) (take (most_bytes + 1)), length-drop on.0.count on.0.texts);
      pending_are = is ∙ ap (λ (l : List (List ℕ)). drop k l) on.0.pending_are ∙ drop-map (take (most_bytes + 1)) k (drop on.0.count on.0.texts) ∙ ap (held most_bytes) (drop-drop k on.0.count on.0.texts);
      takes = on.0.takes;
    },
    goes on.0.count on.0.texts on.0.inside on.0.pending_are on.1,
  )

  -- at the end of the source all of them are served
  pub on_ends : pending ≡ [] → (IsTrue source.tells → ahead taken_now now ≡ [])
      → (texts : List (List ℕ)) × (IsTrue source.tells → TakesLines taken source texts taken_now now × (ahead taken_now now ≡ [])) × Q (length texts) texts
  on_ends none at_end =
      let long = ap (λ (l : List (List ℕ)). length l) (sym on.0.pending_are ∙ none) in
      let all : on.0.count ≡ length on.0.texts = omega (arith, on.0.inside, long, length-map (drop on.0.count on.0.texts) (take (most_bytes + 1)), length-drop on.0.count on.0.texts) in
      (on.0.texts, λ tells. (on.0.takes tells, at_end tells), subst (λ (n : ℕ). Q n on.0.texts) all on.1)

  -- something ended it, and these bytes are gone
  pub on_stops : (R : List (List ℕ) → Type 0) (new : Stream) → (IsTrue source.tells → (gone : List ℕ) × (ahead taken_now now ≡ gone ++ new.left))
      → ((count : ℕ) (texts : List (List ℕ)) → count ≤ length texts → pending ≡ held most_bytes (drop count texts) → Q count texts → R texts)
      → (texts : List (List ℕ)) × (IsTrue source.tells → HasTaken taken source texts new) × R texts
  on_stops R new gone stops = (
    on.0.texts,
    λ tells.
        let takes = on.0.takes tells in
        let away = gone tells in
        record {
          used = takes.used;
          rest = away.0;
          bytes = takes.bytes ∙ ap (λ (l : List ℕ). takes.used ++ l) away.1;
          cut = subst (λ (l : List ℕ). SplitsIntoLines takes.used on.0.texts l) away.1 takes.cut;
        },
    stops on.0.count on.0.texts on.0.inside on.0.pending_are on.1,
  )

pub no_items : (l : List (List ℕ)) (n : ℕ) (empty : Bool) → n ≡ length l → empty ≡ (n == 0) → empty ≡ true → l ≡ []
no_items [] n empty long is so = refl
no_items (x ∷ l) n empty long is so =
    let zero_is : n ≡ 0 = grind (arith, nat_tests, sym is ∙ so) in
    absurd (omega (arith, long, zero_is))
