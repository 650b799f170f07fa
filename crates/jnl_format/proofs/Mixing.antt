-- Contents in which some sectors of a journal's blocks were written home already.
use Rattle.std.proofs.Common.{◌≡◌, ◌≢◌, ℕ, ◌+◌, ◌/◌, ◌<◌, ◌≤◌, ◌⊎◌, List, [], ◌∷◌, length, take, drop, set, refl, sym, ◌∙◌, ap, subst, inl, inr, arith, length-drop}
use Rattle.std.specs.List.{concat}
use Rattle.std.proofs.lemmas.Bool.{cases_lt, cases_eq}
use Rattle.std.proofs.lemmas.List.{ext_get_or, get_or-set_same, get_or-set_other, get_or_past, length-take, get_or-take, get_or-drop}
use Rattle.std.proofs.Math.ListN.{length-set}
use Rattle.jnl_format.specs.Ring.{journal_bytes}
use Rattle.jnl_format.specs.Text.{bytes_at}
use Rattle.jnl_format.specs.declared.blocks.Home.{Home}
use Rattle.jnl_format.specs.Recovery.{Content, sector, with_homes}
use Rattle.jnl_format.specs.Named.{Each}
use Rattle.jnl_format.specs.Named.{IsHomeOf, IsNamed, MixesHomes}

pub named_home : (text : List ℕ) (homes : List Home) (at : ℕ) (value : List ℕ) → IsHomeOf text homes at value → IsNamed homes at
named_home text [] at value h = h
named_home text (g ∷ gs) at value (inl h) = inl h.0
named_home text (g ∷ gs) at value (inr h) = inr (named_home text gs at value h)

-- what holds of each home holds of one
pub home_has : (P : Home → Type 0) (Q : List ℕ → Type 0) (text : List ℕ) (homes : List Home) (at : ℕ) (value : List ℕ) → Each P homes → ((h : Home) → P h → h.sector ≡ at → Q (bytes_at text h.place 512)) → IsHomeOf text homes at value → Q value
home_has P Q text [] at value all goes h = absurd h
home_has P Q text (g ∷ gs) at value all goes (inl h) = subst Q (sym h.1) (goes g all.0 h.0)
home_has P Q text (g ∷ gs) at value all goes (inr h) = home_has P Q text gs at value all.1 goes h

pub not_named : (P : Home → Type 0) (homes : List Home) (at : ℕ) → Each P homes → ((h : Home) → P h → h.sector ≢ at) → IsNamed homes at → ⊥
not_named P [] at all never h = h
not_named P (g ∷ gs) at all never (inl h) = never g all.0 h
not_named P (g ∷ gs) at all never (inr h) = not_named P gs at all.1 never h

-- the same but in sectors that are named
pub record AgreesBut (homes : List Home) (old new : Content) : Type 0 where
  pub size : length new ≡ length old
  pub each : (at : ℕ) → (sector new at ≡ sector old at) ⊎ IsNamed homes at

mixed_agree : (text : List ℕ) (homes : List Home) (old new : Content) (at : ℕ) → (sector new at ≡ sector old at) ⊎ IsHomeOf text homes at (sector new at) → (sector new at ≡ sector old at) ⊎ IsNamed homes at
mixed_agree text homes old new at (inl h) = inl h
mixed_agree text homes old new at (inr h) = inr (named_home text homes at (sector new at) h)

pub mixes_agree : (text : List ℕ) (homes : List Home) (old new : Content) → MixesHomes text homes old new → AgreesBut homes old new
mixes_agree text homes old new m = record { size = m.size; each = λ at. mixed_agree text homes old new at (m.each at) }

both_set : (old new : Content) (at : ℕ) (value : List ℕ) → length new ≡ length old → sector (set new at value) at ≡ sector (set old at value) at
both_set old new at value size = elim (cases_lt at (length old)) [
  | inl below ↦ get_or-set_same new at value [] (omega arith) ∙ sym (get_or-set_same old at value [] below)
  | inr past ↦ get_or_past (set new at value) at [] (omega (arith, length-set new at value)) ∙ sym (get_or_past (set old at value) at [] (omega (arith, length-set old at value)))
]

agree_step : (h : Home) (hs : List Home) (old new : Content) (at : ℕ) (value : List ℕ) → length new ≡ length old → (sector new at ≡ sector old at) ⊎ IsNamed (h ∷ hs) at → (sector (set new h.sector value) at ≡ sector (set old h.sector value) at) ⊎ IsNamed hs at
agree_step h hs old new at value size given = elim (cases_eq at h.sector) [
  | inl same ↦ inl (subst (λ k. sector (set new h.sector value) k ≡ sector (set old h.sector value) k) (sym same) (both_set old new h.sector value size))
  | inr other ↦ elim given [
    | inl e ↦ inl (get_or-set_other new h.sector at value [] other ∙ e ∙ sym (get_or-set_other old h.sector at value [] other))
    | inr (inl e) ↦ absurd (other (sym e))
    | inr (inr e) ↦ inr e
  ]
]

-- contents that agree but in named sectors are the same once the homes are written
pub same_homes : (text : List ℕ) (homes : List Home) (old new : Content) → AgreesBut homes old new → with_homes text homes new ≡ with_homes text homes old
same_homes text [] old new a = ext_get_or [] new old a.size (λ i below. elim (a.each i) [ inl e ↦ e | inr none ↦ absurd none ])
same_homes text (h ∷ hs) old new a =
    let value = bytes_at text h.place 512 in
    same_homes text hs (set old h.sector value) (set new h.sector value) (record {
      size = length-set new h.sector value ∙ a.size ∙ sym (length-set old h.sector value);
      each = λ at. agree_step h hs old new at value a.size (a.each at);
    })

pub length-with_homes : (text : List ℕ) (homes : List Home) (content : Content) → length (with_homes text homes content) ≡ length content
length-with_homes text [] content = refl
length-with_homes text (h ∷ hs) content = length-with_homes text hs (set content h.sector (bytes_at text h.place 512)) ∙ length-set content h.sector (bytes_at text h.place 512)

set_cases : (content : Content) (at i : ℕ) (value : List ℕ) → (sector (set content i value) at ≡ sector content at) ⊎ ((i ≡ at) × (sector (set content i value) at ≡ value))
set_cases content at i value = elim (cases_eq at i) [
  | inl same ↦ elim (cases_lt at (length content)) [
    | inl below ↦ inr (sym same, subst (λ k. sector (set content i value) k ≡ value) (sym same) (get_or-set_same content i value [] (omega arith)))
    | inr past ↦ inl (get_or_past (set content i value) at [] (omega (arith, length-set content i value)) ∙ sym (get_or_past content at [] past))
  ]
  | inr other ↦ inl (get_or-set_other content i at value [] other)
]

with_cases : (text : List ℕ) (h : Home) (hs : List Home) (content new : Content) (at : ℕ)
    → (sector new at ≡ sector (set content h.sector (bytes_at text h.place 512)) at) ⊎ IsHomeOf text hs at (sector new at)
    → (sector (set content h.sector (bytes_at text h.place 512)) at ≡ sector content at) ⊎ ((h.sector ≡ at) × (sector (set content h.sector (bytes_at text h.place 512)) at ≡ bytes_at text h.place 512))
    → (sector new at ≡ sector content at) ⊎ IsHomeOf text (h ∷ hs) at (sector new at)
with_cases text h hs content new at (inr g) s = inr (inr g)
with_cases text h hs content new at (inl e) (inl f) = inl (e ∙ f)
with_cases text h hs content new at (inl e) (inr f) = inr (inl (f.0, e ∙ f.1))

-- with all homes written, each sector is the old one, or has the bytes of one of its homes
pub mixes_with_homes : (text : List ℕ) (homes : List Home) (content : Content) → MixesHomes text homes content (with_homes text homes content)
mixes_with_homes text [] content = record { size = refl; each = λ at. inl refl }
mixes_with_homes text (h ∷ hs) content =
    let value = bytes_at text h.place 512 in
    let m = mixes_with_homes text hs (set content h.sector value) in
    record {
      size = length-with_homes text (h ∷ hs) content;
      each = λ at. with_cases text h hs content (with_homes text (h ∷ hs) content) at (m.each at) (set_cases content at h.sector value);
    }

-- the journal's bytes are those of its sectors
pub same_journal : (base size : ℕ) (old new : Content) → length new ≡ length old → ((at : ℕ) → base ≤ at → at < base + size / 512 → sector new at ≡ sector old at) → journal_bytes new base size ≡ journal_bytes old base size
unfolding journal_bytes
same_journal base size old new long same =
    ap concat (ext_get_or [] (take (size / 512) (drop base new)) (take (size / 512) (drop base old))
    (omega (arith, length-take (size / 512) (drop base new), length-take (size / 512) (drop base old), length-drop base new, length-drop base old))
    (λ i below.
    let inside : i < size / 512 = omega (arith, length-take (size / 512) (drop base new)) in
    get_or-take (size / 512) (drop base new) i [] inside ∙ get_or-drop base new i []
    ∙ same (base + i) (omega arith) (omega arith)
    ∙ sym (get_or-take (size / 512) (drop base old) i [] inside ∙ get_or-drop base old i [])))
